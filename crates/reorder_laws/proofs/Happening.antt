-- What a step does to one processor, and what it tells.
use Rattle.std.proofs.Common.{◌≡◌, ◌≢◌, ℕ, refl, sym, ◌∙◌, ap, subst, List, length, ◌⊎◌, inl, inr, map, slice_set}
use Rattle.std.specs.Prelude.{Option, Some, None, slice_get, option_map, option_and_then, Bool, true, false, cond, nat_lt, Result, Ok, Err}
use Rattle.std.specs.Option.{option_map_or}
use Rattle.std.proofs.lemmas.Option.{slice_get_within}
use Rattle.std.proofs.lemmas.Bool.{cases_eq}
use Rattle.cell_base.specs.declared.steps.Step.{Step}
use Rattle.cell_base.specs.declared.steps.Step.TheVariants.{Exec, Piece, Elem, Retire, Atomic, Host}
use Rattle.cell_host.specs.declared.HostAction.{HostAction}
use Rattle.cell_host.specs.declared.HostAction.TheVariants.{Send, Take, TakeIntr, Store, Await, Signal as SignalTo}
use Rattle.mfc_command.specs.declared.command.Command.{Command}
use Rattle.mfc_command.specs.declared.command.AtomicOp.{AtomicOp}
use Rattle.mfc_command.specs.declared.command.DmaFault.{DmaFault as Fault}
use Rattle.mfc_command.specs.declared.range.Part.{Part}
use Rattle.mfc_lists.specs.declared.Element.{Element}
use Rattle.cell_machine.specs.declared.effect.Effect.{Effect}
use Rattle.cell_machine.specs.declared.effect.Note.{Note}
use Rattle.cell_machine.specs.declared.effect.Note.TheVariants.{Nothing, Ended, Signal}
use Rattle.cell_machine.specs.Spe.{Spe}
use Rattle.cell_machine.specs.State.{State}
use Rattle.cell_machine.specs.Signals.{with_signal}
use Rattle.cell_machine.specs.Memory.{MainMemory, lines_of}
use Rattle.cell_machine.specs.Tags.{settled}
use Rattle.cell_machine.specs.Exec.{asks}
use Rattle.cell_machine.specs.Next.{next, own, ended_by}
use Rattle.cell_machine.specs.Transfers.{Left, may_piece, may_elem, may_retire, has_part, has_element, is_left, next_element, after_element, piece_of, is_put, is_signal, part_in, with_done}
use Rattle.cell_machine.specs.Atomic.{Fate, Got, Stored, Lost, answered, after_atomic, fate}
use Rattle.cell_machine.specs.Effects.{effect_of, host_tells, host_effect, told, told_element, told_delivery, ends, part_effect, signal_effect, copy_effect, line_effect}
use Rattle.cell_machine.specs.EffectLaws.{maker}
use Rattle.cell_machine.specs.Hosts.{acted, Acted}
use Rattle.cell_machine.proofs.Alike.{AreAlike, sent-alike}
use Rattle.cell_machine.proofs.Same.{some_same}
use Rattle.cell_machine.proofs.Bounds.{passes, may-is}
use Rattle.cell_machine.proofs.CommandsShown.{set-here, set-other}
use Rattle.cell_machine.proofs.StepBytes.{own_effect, none_is, exec-is, piece-is, elem-is, retire-is, atomic-is}
use Rattle.cell_machine.proofs.StateBytes.{effect-own}
use Rattle.reorder_laws.specs.Deeds.{Did, did, note_of, exec_deed}
use Rattle.reorder_laws.specs.Controllers.{moved_on, store_after, line_left}
use Rattle.reorder_laws.specs.Hosting.{host_may, host_leaves, IsGiven, IsActed}
use Rattle.reorder_laws.specs.Silent.{silent, IsLike}
use Rattle.reorder_laws.specs.Happens.{concerns, TellsSignal, Happens, Passes, Executes, Copies, Reads, Faults, Retires, Answers, Hosts, HostPasses, HappensTo, StepsHappen}
use Rattle.reorder_laws.proofs.Doing.{Agrees, exec-agrees}
use Rattle.reorder_laws.proofs.Controlling.{piece_is, element_is, line_is, piece_number}
use Rattle.reorder_laws.proofs.Hosting.{map_some, next-leaves, closed-at, host-next, host-leaves}

-- ---- a step of the processor

-- it leaves x and has the effect e
abbrev Leaves : MainMemory → Step → ℕ → Spe → Left → Effect → Type 0
Leaves m s p P x e = (Q : Spe) → IsLike Q (settled x.spe) → Happens m s e.note p P Q

agreed : (p : ℕ) (P Q : Spe) (f : Spe → Note) (o : Option Did) → Agrees p P f (Some Q) o → (d : Did) × (o ≡ Some d) × (Q ≡ did d P) × (f Q ≡ note_of p d)
agreed p P Q f None h = absurd h
agreed p P Q f (Some d) h = (d, refl, h.0, h.1)

exec_happens : (spes : ℕ) (p : ℕ) (m : MainMemory) (P : Spe) (x : Left) (e : Effect) → own m (Exec p) P ≡ Some x → own_effect spes p m (Exec p) P ≡ Some e → Leaves m (Exec p) p P x e
exec_happens spes p m P x e is effect =
    exec-is spes p p m P x e (Leaves m (Exec p) p P) is effect (λ Q made K like.
    let a = agreed p P Q (λ K. told p P K (asks P)) (exec_deed (lines_of m) P)
    (subst (λ o. Agrees p P (λ K. told p P K (asks P)) o (exec_deed (lines_of m) P)) made (exec-agrees p (lines_of m) P)) in
    Executes a.0 refl a.1 a.3 (like ∙ ap (λ S. silent (settled S)) a.2))

store_only : (m : MainMemory) (P : Spe) (c k : ℕ) (d : Command) (x : Element) (e : ℕ) → x.number ≡ e
    → settled (piece_of m P c k d x).spe ≡ settled (record (moved_on P (with_done P.moves c e k) c d) { store = store_after m P d.kind (part_in x k) })
store_only m P c k d x e number =
    ap (λ (y : Left). settled y.spe) (piece_is m P c k d x)
    ∙ ap (λ n. settled (record (moved_on P (with_done P.moves c n k) c d) { store = store_after m P d.kind (part_in x k) })) number

-- a part that is copied tells nothing, and one that is sent its register
part_tells : (spes p : ℕ) (d : Command) (x : Part) (y : Left) → TellsSignal (part_effect spes p d x y).note
part_tells spes p d x y = on (is_signal d.kind)
  where
    sent_tells : (o : Option _) → TellsSignal (told_delivery spes o)
    sent_tells None = inl refl
    sent_tells (Some z) = by (nat_lt z.spe spes)
      where
        by : (b : Bool) → TellsSignal (cond b (Signal z.spe z.register) Nothing)
        by true = inr (z.spe, z.register, refl)
        by false = inl refl

    on : (b : Bool) → TellsSignal (cond {A = Effect} b (signal_effect spes p x y) (copy_effect p (is_put d.kind) x y.spe)).note
    on true = sent_tells y.sent
    on false = inl refl

piece_happens : (spes : ℕ) (p c e0 k : ℕ) (m : MainMemory) (P : Spe) (x : Left) (e : Effect) → own m (Piece p c e0 k) P ≡ Some x → own_effect spes p m (Piece p c e0 k) P ≡ Some e → Leaves m (Piece p c e0 k) p P x e
unfolding may_piece
piece_happens spes p c e0 k m P x e is effect =
    piece-is spes p p c e0 k m P x e (Leaves m (Piece p c e0 k) p P) is effect (λ d z may at there K like.
    let number = piece_number P c e0 k d z may at there in
    Copies c e0 k d z (store_after m P d.kind (part_in z k)) refl at (passes P c (has_part P.moves c e0 k) d may at) there number (part_tells spes p d (part_in z k) (piece_of m P c k d z)) (like ∙ ap silent (store_only m P c k d z e0 number)))

element_happens : (p c : ℕ) (m : MainMemory) (P : Spe) (d : Command) (r : Result Element Fault) → slice_get P.moves.issued c ≡ Some d → has_element P.moves c d ≡ true
    → next_element (lines_of m) P c d ≡ r → (Q : Spe) → IsLike Q (settled (after_element P c d r)) → Happens m (Elem p c) (told_element P (after_element P c d r) r) p P Q
element_happens p c m P d (Ok x) at has is Q like = Reads c d x refl at has is refl (like ∙ ap (λ S. silent (settled S)) (element_is P c d (Ok x)))
element_happens p c m P d (Err kind) at has is Q like = Faults c d kind refl at has (on (ends P (after_element P c d (Err kind)))) like
  where
    on : (b : Bool) → (cond b Ended Nothing ≡ Nothing) ⊎ (cond b Ended Nothing ≡ Ended)
    on true = inr refl
    on false = inl refl

elem_happens : (spes : ℕ) (p c : ℕ) (m : MainMemory) (P : Spe) (x : Left) (e : Effect) → own m (Elem p c) P ≡ Some x → own_effect spes p m (Elem p c) P ≡ Some e → Leaves m (Elem p c) p P x e
unfolding may_elem
elem_happens spes p c m P x e is effect =
    elem-is spes p p c m P x e (Leaves m (Elem p c) p P) is effect (λ d may at.
    element_happens p c m P d (next_element (lines_of m) P c d) at (passes P c (has_element P.moves c) d may at) refl)

retire_happens : (spes : ℕ) (p c : ℕ) (m : MainMemory) (P : Spe) (x : Left) (e : Effect) → own m (Retire p c) P ≡ Some x → own_effect spes p m (Retire p c) P ≡ Some e → Leaves m (Retire p c) p P x e
unfolding may_retire
retire_happens spes p c m P x e is effect =
    retire-is spes p p c m P x e (Leaves m (Retire p c) p P) is effect (λ may K like.
    let d = may-is P c (is_left P.moves c) may in
    Retires c d.0 refl d.1 d.2 refl like)

line_note : (p : ℕ) (a : AtomicOp) (Q : Spe) (f : Fate) → (line_effect p a Q f).note ≡ Nothing
line_note p a Q Got = refl
line_note p a Q Stored = refl
line_note p a Q Lost = refl

line_store : (m : MainMemory) (P : Spe) (a : AtomicOp) (f : Fate) → (store : List ℕ) × ((line_left m P a f).spe ≡ record (answered m P a) { store = store })
line_store m P a Got = ((line_left m P a Got).spe.store, refl)
line_store m P a Stored = (P.store, refl)
line_store m P a Lost = (P.store, refl)

atomic_happens : (spes : ℕ) (p : ℕ) (m : MainMemory) (P : Spe) (x : Left) (e : Effect) → own m (Atomic p) P ≡ Some x → own_effect spes p m (Atomic p) P ≡ Some e → Leaves m (Atomic p) p P x e
atomic_happens spes p m P x e is effect =
    atomic-is spes p p m P x e (Leaves m (Atomic p) p P) is effect (λ a may slot K like.
    let s = line_store m P a (fate m P a) in
    Answers a s.0 refl slot (line_note p a (after_atomic m P a).spe (fate m P a))
    (like ∙ ap (λ (y : Left). silent (settled y.spe)) (line_is m P a (fate m P a)) ∙ ap (λ S. silent (settled S)) s.1))

own_happens : (spes : ℕ) (s : Step) (p : ℕ) (m : MainMemory) (P : Spe) (x : Left) (e : Effect) → maker s ≡ Some p → own m s P ≡ Some x → own_effect spes p m s P ≡ Some e → Leaves m s p P x e
own_happens spes (Exec q) p m P x e by is effect = let same : q ≡ p = some_same q p by in subst (λ j. Leaves m (Exec j) p P x e) (sym same) (exec_happens spes p m P x e is effect)
own_happens spes (Piece q c e0 k) p m P x e by is effect = let same : q ≡ p = some_same q p by in subst (λ j. Leaves m (Piece j c e0 k) p P x e) (sym same) (piece_happens spes p c e0 k m P x e is effect)
own_happens spes (Elem q c) p m P x e by is effect = let same : q ≡ p = some_same q p by in subst (λ j. Leaves m (Elem j c) p P x e) (sym same) (elem_happens spes p c m P x e is effect)
own_happens spes (Retire q c) p m P x e by is effect = let same : q ≡ p = some_same q p by in subst (λ j. Leaves m (Retire j c) p P x e) (sym same) (retire_happens spes p c m P x e is effect)
own_happens spes (Atomic q) p m P x e by is effect = let same : q ≡ p = some_same q p by in subst (λ j. Leaves m (Atomic j) p P x e) (sym same) (atomic_happens spes p m P x e is effect)
own_happens spes Host p m P x e by is effect = none_is _ p by

-- ---- the host's

host_note : (M : State) (a : HostAction) (e : Effect) → slice_get M.host.script M.host.done ≡ Some a → effect_of M Host ≡ Some e → e.note ≡ host_tells a
unfolding effect_of
host_note M a e at effect =
    let f : option_map (λ (d : Acted). host_effect a) (acted M a) ≡ Some e = sym (ap (option_and_then (λ a. option_map (λ (d : Acted). host_effect a) (acted M a))) at) ∙ effect in
    let g = map_some (λ (d : Acted). host_effect a) (acted M a) e f in
    ap (λ (e : Effect). e.note) (sym g.2)

-- processor p after a step behind which the processors are these, but for signals and events
happens_by : (M K : State) (s : Step) (e : Effect) (p : ℕ) (P R : Spe) (base : List Spe) → AreAlike base K.spes → slice_get base p ≡ Some R → ((Q : Spe) → IsLike Q (settled R) → Happens M.memory s e.note p P Q) → HappensTo M (ended_by M s K) s e p P
happens_by M K s e p P R base alike at each =
    let q = map_some silent (slice_get (ended_by M s K).spes p) (silent (settled R)) (closed-at M K s base p alike ∙ ap (option_map (λ Q. silent (settled Q))) at) in
    record { spe = q.0; at = q.1; happens = each q.0 q.2 }

given_happens : (M K : State) (r : ℕ) (a : HostAction) (e : Effect) (p : ℕ) (P : Spe) → concerns a ≡ Some r → IsGiven M K r a → e.note ≡ host_tells a → slice_get M.spes p ≡ Some P → HappensTo M (ended_by M Host K) Host e p P
given_happens M K r a e p P of g note at = on (cases_eq p r)
  where
    spes : K.spes ≡ slice_set M.spes r (host_leaves a g.spe)
    spes = ap (λ (S : State). S.spes) g.is

    on : (p ≡ r) ⊎ (p ≢ r) → HappensTo M (ended_by M Host K) Host e p P
    on (inl same) =
        let one : g.spe ≡ P = some_same g.spe P (sym g.at ∙ ap (slice_get M.spes) (sym same) ∙ at) in
        happens_by M K Host e p P (host_leaves a P) K.spes refl
        (ap (λ xs. slice_get xs p) spes ∙ ap (slice_get (slice_set M.spes r (host_leaves a g.spe))) same ∙ set-here M.spes r (host_leaves a g.spe) (slice_get_within M.spes r g.spe g.at) ∙ ap (λ S. Some (host_leaves a S)) one)
        (λ Q like. Hosts a refl (of ∙ ap Some (sym same)) (ap (host_may a) (sym one) ∙ g.may) note like)
    on (inr differs) =
        happens_by M K Host e p P P K.spes refl (ap (λ xs. slice_get xs p) spes ∙ set-other M.spes r p (host_leaves a g.spe) (λ e. differs (sym e)) ∙ at)
        (λ Q like. HostPasses a refl (λ h. differs (sym (some_same r p (sym of ∙ h)))) note like)

-- a value that the host delivers changes nothing but its register
delivered_alike : (M K : State) (r register value : ℕ) → IsGiven M K r (SignalTo r register value) → AreAlike M.spes K.spes
delivered_alike M K r register value g =
    sent-alike M.spes (Some (record { spe = r; register = register; value = value }))
    ∙ ap (λ o. map silent (option_map_or (λ S. slice_set M.spes r (with_signal S register value)) o M.spes)) g.at
    ∙ sym (ap (λ (S : State). map silent S.spes) g.is)

acted_happens : (M K : State) (a : HostAction) (e : Effect) (p : ℕ) (P : Spe) → IsActed M K a → e.note ≡ host_tells a → slice_get M.spes p ≡ Some P → HappensTo M (ended_by M Host K) Host e p P
acted_happens M K (Send r value) e p P g note at = given_happens M K r (Send r value) e p P refl g note at
acted_happens M K (Take r) e p P g note at = given_happens M K r (Take r) e p P refl g note at
acted_happens M K (TakeIntr r) e p P g note at = given_happens M K r (TakeIntr r) e p P refl g note at
acted_happens M K (Await r) e p P g note at = given_happens M K r (Await r) e p P refl g note at
acted_happens M K (SignalTo r register value) e p P g note at =
    happens_by M K Host e p P P M.spes (delivered_alike M K r register value g) at (λ Q like. HostPasses (SignalTo r register value) refl (λ h. none_is _ p h) note like)
acted_happens M K (Store ea len bytes) e p P g note at =
    happens_by M K Host e p P P K.spes refl (ap (λ (S : State). slice_get S.spes p) g ∙ at) (λ Q like. HostPasses (Store ea len bytes) refl (λ h. none_is _ p h) note like)

host_happens : (M N : State) (e : Effect) (p : ℕ) (P : Spe) → next M Host ≡ Some N → effect_of M Host ≡ Some e → slice_get M.spes p ≡ Some P → HappensTo M N Host e p P
host_happens M N e p P is effect at =
    let n = host-next M N is in
    let h = host-leaves M n.0 n.1 in
    subst (λ S. HappensTo M S Host e p P) (sym n.2) (acted_happens M n.0 h.action e p P h.acted (host_note M h.action e h.at effect) at)

-- ---- all of them

made_happens : (M N : State) (s : Step) (e : Effect) (p : ℕ) (P : Spe) (q : ℕ) → maker s ≡ Some q → next M s ≡ Some N → effect_of M s ≡ Some e → slice_get M.spes p ≡ Some P → HappensTo M N s e p P
made_happens M N s e p P q by is effect at = on (cases_eq p q)
  where
    on : (p ≡ q) ⊎ (p ≢ q) → HappensTo M N s e p P
    on (inl same) =
        let mine : maker s ≡ Some p = by ∙ ap Some (sym same) in
        let n = next-leaves M N s p mine is in
        let one : n.spe ≡ P = some_same n.spe P (sym n.at ∙ at) in
        let owns : own M.memory s P ≡ Some n.left = ap (own M.memory s) (sym one) ∙ n.owns in
        let f : own_effect (length M.spes) p M.memory s P ≡ Some e = sym (effect-own M s p P mine at) ∙ effect in
        let k = map_some silent (slice_get N.spes p) (silent (settled n.left.spe)) n.here in
        record { spe = k.0; at = k.1; happens = own_happens (length M.spes) s p M.memory P n.left e mine owns f k.0 k.2 }
    on (inr differs) =
        let n = next-leaves M N s q by is in
        let k = map_some silent (slice_get N.spes p) (silent (settled P)) (n.elsewhere p differs ∙ ap (option_map (λ Q. silent (settled Q))) at) in
        record { spe = k.0; at = k.1; happens = Passes q by (λ e. differs (sym e)) k.2 }

pub steps-happen : StepsHappen
steps-happen M N (Exec q) e p P is effect at = made_happens M N (Exec q) e p P q refl is effect at
steps-happen M N (Piece q c e0 k) e p P is effect at = made_happens M N (Piece q c e0 k) e p P q refl is effect at
steps-happen M N (Elem q c) e p P is effect at = made_happens M N (Elem q c) e p P q refl is effect at
steps-happen M N (Retire q c) e p P is effect at = made_happens M N (Retire q c) e p P q refl is effect at
steps-happen M N (Atomic q) e p P is effect at = made_happens M N (Atomic q) e p P q refl is effect at
steps-happen M N Host e p P is effect at = host_happens M N e p P is effect at
