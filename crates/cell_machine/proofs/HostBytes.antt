-- The host's step: which bytes it changes, and that it looks at none.
use Rattle.std.proofs.Common.{◌≡◌, ℕ, ◌/◌, refl, sym, ◌∙◌, ap, ap₂, subst, List, [], ◌∷◌, ◌++◌, length, map, take}
use Rattle.std.specs.Prelude.{Option, Some, None, slice_get, option_map, option_and_then, Bool, true, false, cond, nat_lt}
use Rattle.std.specs.Option.{option_map_or}
use Rattle.cell_base.specs.declared.steps.Step.{Step}
use Rattle.cell_base.specs.declared.steps.Step.TheVariants.{Host}
use Rattle.cell_host.specs.declared.HostAction.{HostAction}
use Rattle.cell_host.specs.declared.HostAction.TheVariants.{Send, Take as TakeOut, TakeIntr, Store, Await, Signal as SignalTo}
use Rattle.cell_host.specs.Script.{Progress, advanced}
use Rattle.lock_lines.specs.Versions.{raised}
use Rattle.cell_machine.specs.declared.effect.Place.{Place}
use Rattle.cell_machine.specs.declared.effect.Place.TheVariants.{Memory, Local}
use Rattle.cell_machine.specs.declared.effect.Effect.{Effect}
use Rattle.cell_machine.specs.Spe.{Spe, is_running}
use Rattle.cell_machine.specs.Memory.{stored}
use Rattle.cell_machine.specs.State.{State, with_spe}
use Rattle.cell_machine.specs.Hosts.{Given as HostGiven, given, taken_of, taken_interrupt_of, Acted, acted, at_spe, after_action, host}
use Rattle.cell_machine.specs.Next.{next, ended_by, with_events}
use Rattle.cell_machine.specs.Effects.{effect_of, host_effect, host_writes}
use Rattle.cell_machine.specs.EffectLaws.{bytes_of, new_bytes, put_in, at_store, bare, SameBut, DoesTheSame}
use Rattle.cell_machine.specs.Written.{host_bytes, written_by}
use Rattle.cell_machine.proofs.Same.{some_same}
use Rattle.cell_machine.proofs.BytesLaws.{length-put-same}
use Rattle.cell_machine.proofs.StepBytes.{none_is}
use Rattle.cell_machine.proofs.Alike.{alike-store, events-alike}
use Rattle.cell_machine.proofs.StateBytes.{store_of, store-settled, store-set, same-at, bare-set, same-ended}

-- what an action takes of a processor has nothing to do with its store
abbrev moved_to : List ℕ → HostGiven → HostGiven
moved_to s g = record { spe = at_store g.spe s; took = g.took }

taken_moved : (P : Spe) (s xs : List ℕ) → taken_of (at_store P s) xs ≡ option_map (moved_to s) (taken_of P xs)
taken_moved P s [] = refl
taken_moved P s (x ∷ xs) = refl

interrupt_moved : (P : Spe) (s xs : List ℕ) → taken_interrupt_of (at_store P s) xs ≡ option_map (moved_to s) (taken_interrupt_of P xs)
interrupt_moved P s [] = refl
interrupt_moved P s (x ∷ xs) = refl

if_moved : (s : List ℕ) (b : Bool) (g : HostGiven) (u : HostGiven) → u ≡ moved_to s g → cond b (Some u) None ≡ option_map (moved_to s) (cond b (Some g) None)
if_moved s true g u h = ap Some h
if_moved s false g u h = refl

unless_moved : (s : List ℕ) (b : Bool) (g : HostGiven) (u : HostGiven) → u ≡ moved_to s g → cond b None (Some u) ≡ option_map (moved_to s) (cond b None (Some g))
unless_moved s true g u h = refl
unless_moved s false g u h = ap Some h

given_moved : (a : HostAction) (P : Spe) (s : List ℕ) → given a (at_store P s) ≡ option_map (moved_to s) (given a P)
given_moved (Send p value) P s = if_moved s (nat_lt (length P.inbound) 4) (record { spe = record P { inbound = P.inbound ++ value ∷ [] }; took = None }) _ refl
given_moved (TakeOut p) P s = taken_moved P s P.outbound
given_moved (TakeIntr p) P s = interrupt_moved P s P.interrupt
given_moved (Store ea len bytes) P s = refl
given_moved (Await p) P s = unless_moved s (is_running P.status) (record { spe = P; took = None }) _ refl
given_moved (SignalTo p r value) P s = refl

given_store : (P : Spe) (o : Option HostGiven) (g : HostGiven) → o ≡ option_map (moved_to P.store) o → o ≡ Some g → g.spe.store ≡ P.store
given_store P None g h is = none_is _ g is
given_store P (Some k) g h is = ap (λ (x : HostGiven). x.spe.store) (sym (some_same k g is)) ∙ ap (λ (x : HostGiven). x.spe.store) (some_same k _ h)

-- ---- the bytes after it

some_act : (M : State) (p : ℕ) (o : Option Spe) (f : Spe → Option HostGiven) (d : Acted) (Q : Type 0)
    → option_and_then (λ P. option_map (λ g. record { state = with_spe M p g.spe; took = g.took }) (f P)) o ≡ Some d
    → ((P : Spe) (g : HostGiven) → o ≡ Some P → f P ≡ Some g → record { state = with_spe M p g.spe; took = g.took } ≡ d → Q) → Q
some_act M p None f d Q h k = none_is Q d h
some_act M p (Some P) f d Q h k = on (f P) refl h
  where
    on : (o : Option HostGiven) → f P ≡ o → option_map (λ g. record { state = with_spe M p g.spe; took = g.took }) o ≡ Some d → Q
    on None e h = none_is Q d h
    on (Some g) e h = k P g refl e (some_same _ d h)

at_frame : (M : State) (p : ℕ) (a : HostAction) (d : Acted) (place : Place) → at_spe M p (given a) ≡ Some d → bytes_of d.state place ≡ bytes_of M place
at_frame M p a d place h =
    some_act M p (slice_get M.spes p) (given a) d _ h (λ P g at gives is. subst (λ (k : Acted). bytes_of k.state place ≡ bytes_of M place) is (on place P g at gives))
  where
    on : (place : Place) (P : Spe) (g : HostGiven) → slice_get M.spes p ≡ Some P → given a P ≡ Some g → bytes_of (with_spe M p g.spe) place ≡ bytes_of M place
    on Memory P g at gives = refl
    on (Local q) P g at gives = store-set M.spes p q P g.spe (λ u v. u ≡ v) at (λ e. given_store P (given a P) g (given_moved a P P.store) gives) (λ s ne. refl)

put_nowhere : (place : Place) (bytes : List ℕ) → put_in (host_writes (Send 0 0)) [] place bytes ≡ bytes
put_nowhere Memory bytes = refl
put_nowhere (Local q) bytes = refl

acted_frame : (M : State) (a : HostAction) (d : Acted) (place : Place) → acted M a ≡ Some d → bytes_of d.state place ≡ put_in (host_writes a) (host_bytes a) place (bytes_of M place)
unfolding acted stored
acted_frame M (Send p value) d place h = at_frame M p (Send p value) d place h ∙ sym (put_nowhere place _)
acted_frame M (TakeOut p) d place h = at_frame M p (TakeOut p) d place h ∙ sym (put_nowhere place _)
acted_frame M (TakeIntr p) d place h = at_frame M p (TakeIntr p) d place h ∙ sym (put_nowhere place _)
acted_frame M (Await p) d place h = at_frame M p (Await p) d place h ∙ sym (put_nowhere place _)
acted_frame M (SignalTo p r value) d place h = at_frame M p (SignalTo p r value) d place h ∙ sym (put_nowhere place _)
acted_frame M (Store ea len bytes) d Memory h = ap (λ (k : Acted). k.state.memory.bytes) (sym (some_same _ d h))
acted_frame M (Store ea len bytes) d (Local q) h = ap (λ (k : Acted). store_of k.state.spes q) (sym (some_same _ d h))

bytes_ended : (M : State) (s : Step) (d : Acted) (place : Place) → bytes_of (ended_by M s (after_action d)) place ≡ bytes_of d.state place
bytes_ended M s d Memory = refl
bytes_ended M s d (Local q) = store-settled (with_events M s (after_action d)).spes q ∙ sym (alike-store d.state.spes (with_events M s (after_action d)).spes q (events-alike M s (after_action d)))

-- what the host's step did
abbrev pub HostDid : State → State → Effect → Type 0
HostDid M N e = (a : HostAction) × (d : Acted) × (slice_get M.host.script M.host.done ≡ Some a) × (acted M a ≡ Some d) × (ended_by M Host (after_action d) ≡ N) × (host_effect a ≡ e)

host_did : (M N : State) (e : Effect) → next M Host ≡ Some N → effect_of M Host ≡ Some e → HostDid M N e
unfolding host effect_of
host_did M N e is effect = on (slice_get M.host.script M.host.done) refl is effect
  where
    made : (a : HostAction) (o : Option Acted) → slice_get M.host.script M.host.done ≡ Some a → acted M a ≡ o
        → option_map (ended_by M Host) (option_map after_action o) ≡ Some N → option_map (λ d. host_effect a) o ≡ Some e → HostDid M N e
    made a None at does is effect = none_is _ N is
    made a (Some d) at does is effect = (a, d, at, does, some_same _ N is, some_same _ e effect)

    on : (o : Option HostAction) → slice_get M.host.script M.host.done ≡ o → option_map (ended_by M Host) (option_and_then (λ a. option_map after_action (acted M a)) o) ≡ Some N
        → option_and_then (λ a. option_map (λ d. host_effect a) (acted M a)) o ≡ Some e → HostDid M N e
    on None at is effect = none_is _ N is
    on (Some a) at is effect = made a (acted M a) at refl is effect

pub frame-host : (M N : State) (e : Effect) → next M Host ≡ Some N → effect_of M Host ≡ Some e → (place : Place) → bytes_of N place ≡ put_in e.writes (new_bytes M Host e) place (bytes_of M place)
unfolding written_by
frame-host M N e is effect place =
    let did = host_did M N e is effect in
    let a = did.0 in
    let new : host_bytes a ≡ new_bytes M Host e = ap (λ o. option_map_or host_bytes o []) (sym did.2) in
    ap (λ K. bytes_of K place) (sym did.4) ∙ bytes_ended M Host did.1 place ∙ acted_frame M a did.1 place did.3
    ∙ ap₂ (λ w b. put_in w b place (bytes_of M place)) (ap (λ (f : Effect). f.writes) did.5) new

-- ---- and in a state that differs in bytes alone

-- the action does the same there
pub record ActsSame (N : State) (a : HostAction) (d : Acted) : Type 0 where
  pub other : Acted
  pub does : acted N a ≡ Some other
  pub took : other.took ≡ d.took
  pub spes : map bare d.state.spes ≡ map bare other.state.spes
  pub long : length d.state.memory.bytes ≡ length other.state.memory.bytes
  pub versions : d.state.memory.versions ≡ other.state.memory.versions
  pub host : d.state.host ≡ other.state.host

abbrev AtSame : State → ℕ → HostAction → Acted → Type 0
AtSame N p a d = (k : Acted) × (at_spe N p (given a) ≡ Some k) × (k.took ≡ d.took) × (map bare d.state.spes ≡ map bare k.state.spes) × (length d.state.memory.bytes ≡ length k.state.memory.bytes) × (d.state.memory.versions ≡ k.state.memory.versions) × (d.state.host ≡ k.state.host)

at_same : (M N : State) (p : ℕ) (a : HostAction) (d : Acted) → SameBut M N → at_spe M p (given a) ≡ Some d → AtSame N p a d
at_same M N p a d same h =
    some_act M p (slice_get M.spes p) (given a) d (AtSame N p a d) h (λ P g at gives is.
    let found = same-at M N p P same at in
    let s = found.0 in
    let there : given a (at_store P s) ≡ Some (moved_to s g) = given_moved a P s ∙ ap (option_map (moved_to s)) gives in
    let k : Acted = record { state = with_spe N p (at_store g.spe s); took = g.took } in
    let does : at_spe N p (given a) ≡ Some k = ap (option_and_then (λ P. option_map (λ g. record { state = with_spe N p g.spe; took = g.took }) (given a P))) found.1 ∙ ap (option_map (λ g. record { state = with_spe N p g.spe; took = g.took })) there in
    subst (AtSame N p a) is (k, does, refl, bare-set M.spes N.spes p g.spe (at_store g.spe s) same.spes refl, same.long, same.versions, same.host))

acts_same : (M N : State) (a : HostAction) (d : Acted) → SameBut M N → acted M a ≡ Some d → ActsSame N a d
unfolding acted stored
acts_same M N (Send p value) d same h = let r = at_same M N p (Send p value) d same h in record { other = r.0; does = r.1; took = r.2; spes = r.3; long = r.4; versions = r.5; host = r.6 }
acts_same M N (TakeOut p) d same h = let r = at_same M N p (TakeOut p) d same h in record { other = r.0; does = r.1; took = r.2; spes = r.3; long = r.4; versions = r.5; host = r.6 }
acts_same M N (TakeIntr p) d same h = let r = at_same M N p (TakeIntr p) d same h in record { other = r.0; does = r.1; took = r.2; spes = r.3; long = r.4; versions = r.5; host = r.6 }
acts_same M N (Await p) d same h = let r = at_same M N p (Await p) d same h in record { other = r.0; does = r.1; took = r.2; spes = r.3; long = r.4; versions = r.5; host = r.6 }
acts_same M N (SignalTo p r0 value) d same h = let r = at_same M N p (SignalTo p r0 value) d same h in record { other = r.0; does = r.1; took = r.2; spes = r.3; long = r.4; versions = r.5; host = r.6 }
acts_same M N (Store ea len bytes) d same h = subst (ActsSame N (Store ea len bytes)) (some_same _ d h) (record {
  other = record { state = record N { memory = stored N.memory ea (take len bytes) }; took = None };
  does = refl;
  took = refl;
  spes = same.spes;
  long = length-put-same M.memory.bytes N.memory.bytes (take len bytes) ea same.long;
  versions = ap (λ v. raised v (ea / 128)) same.versions;
  host = same.host;
})

pub same-host : (M N M2 : State) (e : Effect) → SameBut M N → effect_of M Host ≡ Some e → next M Host ≡ Some M2 → DoesTheSame M N Host e M2
unfolding host written_by effect_of
same-host M N M2 e same effect is =
    let did = host_did M M2 e is effect in
    let a = did.0 in
    let d = did.1 in
    let acts = acts_same M N a d same did.3 in
    let at : slice_get N.host.script N.host.done ≡ Some a = ap (λ (h : Progress). slice_get h.script h.done) (sym same.host) ∙ did.2 in
    let bytes : new_bytes N Host e ≡ new_bytes M Host e = ap (λ o. option_map_or host_bytes o []) (at ∙ sym did.2) in
    record {
      effect = ap (option_and_then (λ a. option_map (λ d. host_effect a) (acted N a))) at ∙ ap (option_map (λ d. host_effect a)) acts.does ∙ ap Some did.5;
      new = bytes;
      after = ended_by N Host (after_action acts.other);
      next_is = ap (option_map (ended_by N Host)) (ap (option_and_then (λ a. option_map after_action (acted N a))) at ∙ ap (option_map after_action) acts.does);
      same = subst (λ A. SameBut A (ended_by N Host (after_action acts.other))) did.4
          (same-ended M N Host (after_action d) (after_action acts.other) same acts.spes acts.long acts.versions (ap₂ advanced acts.host (sym acts.took)));
    }
