-- What the host's step looks at and changes, and a step in the whole state.
use Rattle.std.proofs.Common.{◌≡◌, ℕ, refl, sym, ◌∙◌, ap, List, [], ◌∷◌, length, map, slice_set}
use Rattle.std.specs.Prelude.{Option, Some, None, is_some, slice_get, option_map, option_and_then, Bool, true, false, cond, not}
use Rattle.std.proofs.lemmas.List.{length-map}
use Rattle.std.proofs.lemmas.Option.{slice_get-map, slice_get_within}
use Rattle.cell_base.specs.declared.steps.Step.{Step}
use Rattle.cell_base.specs.declared.steps.Step.TheVariants.{Exec, Piece, Elem, Retire, Atomic, Host}
use Rattle.cell_host.specs.declared.HostAction.{HostAction}
use Rattle.cell_host.specs.declared.HostAction.TheVariants.{Send, Take, TakeIntr, Store, Await, Signal}
use Rattle.cell_machine.specs.Spe.{Spe, is_running}
use Rattle.cell_machine.specs.State.{State, with_spe}
use Rattle.cell_machine.specs.Hosts.{Given, given, at_spe, acted, after_action, host, taken_of, taken_interrupt_of}
use Rattle.cell_machine.specs.Tags.{settled}
use Rattle.cell_machine.specs.Next.{act, act_in, own, with_left, with_events, closed_in, ended_by}
use Rattle.cell_machine.specs.EffectLaws.{maker}
use Rattle.cell_machine.specs.Raised.{with_raised, raised_at}
use Rattle.cell_machine.proofs.Alike.{AreAlike, left-alike, closed-alike, alike-length}
use Rattle.cell_machine.proofs.Ending.{numbered-at}
use Rattle.cell_machine.proofs.Same.{some_same}
use Rattle.cell_machine.proofs.CommandsShown.{set-here, set-other}
use Rattle.cell_machine.proofs.StepBytes.{none_is}
use Rattle.cell_machine.proofs.StateBytes.{act-own}
use Rattle.reorder_laws.specs.Boxes.{first_of, later_of}
use Rattle.reorder_laws.specs.Silent.{silent, silent_at}
use Rattle.reorder_laws.specs.Hosting.{host_may, host_leaves, host_took, IsGiven, IsActed, IsHost, HostLeaves, HostMade, ClosedThere, NextLeaves, NextMade, HostNext}

-- ---- the host

abbrev may_give : HostAction → Spe → Option Given
may_give a P = cond {A = Option Given} (host_may a P) (Some (record { spe = host_leaves a P; took = host_took a P })) None

taken_is : (P : Spe) (xs : List ℕ) → taken_of P xs ≡ cond {A = Option Given} (is_some (first_of xs)) (Some (record { spe = record P { outbound = later_of xs }; took = first_of xs })) None
taken_is P [] = refl
taken_is P (x ∷ xs) = refl

interrupt_is : (P : Spe) (xs : List ℕ) → taken_interrupt_of P xs ≡ cond {A = Option Given} (is_some (first_of xs)) (Some (record { spe = record P { interrupt = later_of xs }; took = first_of xs })) None
interrupt_is P [] = refl
interrupt_is P (x ∷ xs) = refl

awaited_is : (P : Spe) (b : Bool) → cond {A = Option Given} b None (Some (record { spe = P; took = None })) ≡ cond {A = Option Given} (not b) (Some (record { spe = P; took = None })) None
awaited_is P true = refl
awaited_is P false = refl

pub given-is : (a : HostAction) (P : Spe) → given a P ≡ may_give a P
given-is (Send p value) P = refl
given-is (Take p) P = taken_is P P.outbound
given-is (TakeIntr p) P = interrupt_is P P.interrupt
given-is (Store ea len bytes) P = refl
given-is (Await p) P = awaited_is P (is_running P.status)
given-is (Signal p r value) P = refl

abbrev on_spe : State → ℕ → HostAction → Option State
on_spe M p a = option_map after_action (at_spe M p (given a))

given_found : (M N : State) (p : ℕ) (a : HostAction) (P : Spe) (b : Bool) → slice_get M.spes p ≡ Some P → host_may a P ≡ b
    → option_map after_action (option_map (λ (g : Given). record { state = with_spe M p g.spe; took = g.took }) (cond b (Some (record { spe = host_leaves a P; took = host_took a P })) None)) ≡ Some N
    → IsGiven M N p a
given_found M N p a P true at may h = record { spe = P; at = at; may = may; is = sym (some_same _ N h) }
given_found M N p a P false at may h = none_is _ N h

given_leaves : (M N : State) (p : ℕ) (a : HostAction) → on_spe M p a ≡ Some N → IsGiven M N p a
given_leaves M N p a h = on (slice_get M.spes p) refl h
  where
    on : (o : Option Spe) → slice_get M.spes p ≡ o
        → option_map after_action (option_and_then (λ P. option_map (λ (g : Given). record { state = with_spe M p g.spe; took = g.took }) (given a P)) o) ≡ Some N → IsGiven M N p a
    on None at h = none_is _ N h
    on (Some P) at h =
        given_found M N p a P (host_may a P) at refl
        (sym (ap (λ o. option_map after_action (option_map (λ (g : Given). record { state = with_spe M p g.spe; took = g.took }) o)) (given-is a P)) ∙ h)

given_made : (M N : State) (p : ℕ) (a : HostAction) → IsGiven M N p a → on_spe M p a ≡ Some N
given_made M N p a g =
    let at = g.at in
    let is = given-is a g.spe in
    let may = g.may in
    rw (at, is, may) (ap Some (sym g.is))

pub host-leaves : HostLeaves
unfolding host acted
host-leaves M N h = on (slice_get M.host.script M.host.done) refl h
  where
    on : (o : Option HostAction) → slice_get M.host.script M.host.done ≡ o → option_and_then (λ a. option_map after_action (acted M a)) o ≡ Some N → IsHost M N
    on None at h = none_is _ N h
    on (Some (Send p value)) at h = record { action = Send p value; at = at; acted = given_leaves M N p (Send p value) h }
    on (Some (Take p)) at h = record { action = Take p; at = at; acted = given_leaves M N p (Take p) h }
    on (Some (TakeIntr p)) at h = record { action = TakeIntr p; at = at; acted = given_leaves M N p (TakeIntr p) h }
    on (Some (Store ea len bytes)) at h = record { action = Store ea len bytes; at = at; acted = sym (some_same _ N h) }
    on (Some (Await p)) at h = record { action = Await p; at = at; acted = given_leaves M N p (Await p) h }
    on (Some (Signal p r value)) at h = record { action = Signal p r value; at = at; acted = given_leaves M N p (Signal p r value) h }

acted_made : (M N : State) (a : HostAction) → IsActed M N a → option_map after_action (acted M a) ≡ Some N
unfolding acted
acted_made M N (Send p value) g = given_made M N p (Send p value) g
acted_made M N (Take p) g = given_made M N p (Take p) g
acted_made M N (TakeIntr p) g = given_made M N p (TakeIntr p) g
acted_made M N (Store ea len bytes) g = ap Some (sym g)
acted_made M N (Await p) g = given_made M N p (Await p) g
acted_made M N (Signal p r value) g = given_made M N p (Signal p r value) g

pub host-made : HostMade
unfolding host
host-made M N is = ap (option_and_then (λ a. option_map after_action (acted M a))) is.at ∙ acted_made M N is.action is.acted

-- ---- a step in the whole state

pub then_some : {X Y : Type 0} (f : X → Option Y) (o : Option X) (y : Y) → option_and_then f o ≡ Some y → (x : X) × (o ≡ Some x) × (f x ≡ Some y)
then_some f None y h = none_is _ y h
then_some f (Some x) y h = (x, refl, h)

pub map_some : {X Y : Type 0} (f : X → Y) (o : Option X) (y : Y) → option_map f o ≡ Some y → (x : X) × (o ≡ Some x) × (f x ≡ y)
map_some f None y h = none_is _ y h
map_some f (Some x) y h = (x, refl, some_same (f x) y h)

pub act-in : (M : State) (s : Step) (p : ℕ) → maker s ≡ Some p → act M s ≡ act_in M p s
act-in M (Exec q) p h = let e : q ≡ p = some_same q p h in ap (λ k. act_in M k (Exec q)) e
act-in M (Piece q c e0 k) p h = let e : q ≡ p = some_same q p h in ap (λ j. act_in M j (Piece q c e0 k)) e
act-in M (Elem q c) p h = let e : q ≡ p = some_same q p h in ap (λ k. act_in M k (Elem q c)) e
act-in M (Retire q c) p h = let e : q ≡ p = some_same q p h in ap (λ k. act_in M k (Retire q c)) e
act-in M (Atomic q) p h = let e : q ≡ p = some_same q p h in ap (λ k. act_in M k (Atomic q)) e
act-in M Host p h = none_is _ p h

-- a processor after the step, where the processors were these but for signals and events
pub closed-at : (M K : State) (s : Step) (base : List Spe) (q : ℕ) → AreAlike base K.spes → silent_at (ended_by M s K) q ≡ option_map (λ Q. silent (settled Q)) (slice_get base q)
closed-at M K s base q alike =
    sym (slice_get-map silent (closed_in M s K).spes q) ∙ ap (λ xs. slice_get xs q) (sym (closed-alike M s K base alike))
    ∙ slice_get-map silent (map settled base) q ∙ ap (option_map silent) (slice_get-map settled base q) ∙ twice (slice_get base q)
  where
    twice : (o : Option Spe) → option_map silent (option_map settled o) ≡ option_map (λ Q. silent (settled Q)) o
    twice None = refl
    twice (Some Q) = refl

pub closed-there : ClosedThere
closed-there M K s q P at =
    slice_get-map settled (with_events M s K).spes q
    ∙ ap (option_map settled) (numbered-at (λ x. with_raised x.1 (raised_at M s K x.0)) K.spes q ∙ ap (option_map (λ X. with_raised X (raised_at M s K q))) at)

pub closed-long : (M K : State) (s : Step) → length (ended_by M s K).spes ≡ length K.spes
closed-long M K s = sym (alike-length (map settled K.spes) (closed_in M s K).spes (closed-alike M s K K.spes refl)) ∙ length-map K.spes settled

pub next-leaves : NextLeaves
next-leaves M N s p by is =
    let r = map_some (ended_by M s) (act M s) N is in
    let t = then_some (λ P. option_map (with_left M p) (own M.memory s P)) (slice_get M.spes p) r.0 (sym (act-in M s p by) ∙ r.1) in
    let u = map_some (with_left M p) (own M.memory s t.0) r.0 t.2 in
    let x = u.0 in
    let base = slice_set M.spes p x.spe in
    let n : N ≡ ended_by M s (with_left M p x) = sym r.2 ∙ ap (ended_by M s) (sym u.2) in
    record {
      spe = t.0;
      at = t.1;
      left = x;
      owns = u.1;
      is = n;
      here = ap (λ (K : State). silent_at K p) n ∙ closed-at M (with_left M p x) s base p (left-alike M p x)
          ∙ ap (option_map (λ Q. silent (settled Q))) (set-here M.spes p x.spe (slice_get_within M.spes p t.0 t.1));
      elsewhere = λ q ne. ap (λ (K : State). silent_at K q) n ∙ closed-at M (with_left M p x) s base q (left-alike M p x)
          ∙ ap (option_map (λ Q. silent (settled Q))) (set-other M.spes p q x.spe (λ e. ne (sym e)));
    }

pub next-made : NextMade
next-made M s p P x by at is = ap (option_map (ended_by M s)) (act-own M s p P by at ∙ ap (option_map (with_left M p)) is)

pub host-next : HostNext
host-next M N is = let r = map_some (ended_by M Host) (host M) N is in (r.0, r.1, sym r.2)
