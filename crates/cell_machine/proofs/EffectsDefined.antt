-- A step has an effect exactly where it is allowed.
use Rattle.std.proofs.Common.{◌≡◌, ℕ, refl, sym, ◌∙◌}
use Rattle.std.specs.Prelude.{Option, Some, None, is_some, slice_get, Bool, true, false, cond}
use Rattle.std.specs.Option.{option_map, option_and_then}
use Rattle.cell_base.specs.declared.steps.Step.{Step}
use Rattle.cell_base.specs.declared.steps.Step.TheVariants.{Exec, Piece, Elem, Retire, Atomic, Host}
use Rattle.cell_machine.specs.State.{State}
use Rattle.cell_machine.specs.Spe.{Spe}
use Rattle.cell_machine.specs.Moves.{present}
use Rattle.cell_machine.specs.Memory.{lines_of}
use Rattle.cell_machine.specs.Exec.{exec}
use Rattle.cell_machine.specs.Transfers.{piece, may_piece, elem, may_elem, retire}
use Rattle.cell_machine.specs.Atomic.{atomic, may_atomic}
use Rattle.cell_machine.specs.Next.{act, own, with_left, ended_by}
use Rattle.cell_machine.specs.Hosts.{host}
use Rattle.cell_machine.specs.Effects.{effect_of}
use Rattle.cell_machine.specs.EffectLaws.{HasEffects}

same_map : {X Y Z : Type 0} (f : X → Y) (g : X → Z) (o : Option X) → is_some (option_map f o) ≡ is_some (option_map g o)
same_map f g None = refl
same_map f g (Some x) = refl

some_map : {X Y : Type 0} (f : X → Y) (o : Option X) → is_some (option_map f o) ≡ is_some o
some_map f None = refl
some_map f (Some x) = refl

same_then : {X Y Z : Type 0} (f : X → Option Y) (g : X → Option Z) (o : Option X) → ((x : X) → is_some (f x) ≡ is_some (g x)) → is_some (option_and_then f o) ≡ is_some (option_and_then g o)
same_then f g None h = refl
same_then f g (Some x) h = h x

-- what looks a thing up again that a step found finds it
found : {X Y Z : Type 0} (b : Bool) (o : Option X) (g : X → Y) (f : Y → X → Z) → is_some (option_and_then (λ y. option_map (f y) o) (cond b (option_map g o) None)) ≡ is_some (cond b (option_map g o) None)
found true None g f = refl
found true (Some x) g f = refl
found false o g f = refl

found_as : {X Y Z : Type 0} (b : Bool) (o : Option X) (g : X → Y) (f : Y → X → Z) → is_some (option_and_then (λ y. option_and_then (λ x. Some (f y x)) o) (cond b (option_map g o) None)) ≡ is_some (cond b (option_map g o) None)
found_as true None g f = refl
found_as true (Some x) g f = refl
found_as false o g f = refl

found_two : {X E Y Z : Type 0} (b : Bool) (o : Option X) (at : X → Option E) (g : X → E → Y) (f : Y → X → E → Z)
    → is_some (option_and_then (λ y. option_and_then (λ x. option_map (f y x) (at x)) o) (cond b (option_and_then (λ x. option_map (g x) (at x)) o) None)) ≡ is_some (cond b (option_and_then (λ x. option_map (g x) (at x)) o) None)
found_two true None at g f = refl
found_two {X} {E} {Y} {Z} true (Some x) at g f = on (at x)
  where
    on : (e : Option E) → is_some (option_and_then (λ y. option_map (f y x) e) (option_map (g x) e)) ≡ is_some (option_map (g x) e)
    on None = refl
    on (Some z) = refl
found_two false o at g f = refl

-- so it is of the steps of a processor
of_own : {Y : Type 0} (M : State) (p : ℕ) (s : Step) (f : Spe → Option Y) → ((P : Spe) → is_some (f P) ≡ is_some (own M.memory s P))
    → is_some (option_and_then f (slice_get M.spes p)) ≡ is_some (option_and_then (λ P. option_map (with_left M p) (own M.memory s P)) (slice_get M.spes p))
of_own M p s f h = same_then f _ (slice_get M.spes p) (λ P. h P ∙ sym (some_map (with_left M p) (own M.memory s P)))

piece_defined : (M : State) (p c e k : ℕ) → is_some (effect_of M (Piece p c e k)) ≡ is_some (act M (Piece p c e k))
unfolding piece effect_of
piece_defined M p c e k = of_own M p (Piece p c e k) _ (λ P. found_two (may_piece P c e k) (slice_get P.moves.issued c) (present P.moves.read c) _ _)

elem_defined : (M : State) (p c : ℕ) → is_some (effect_of M (Elem p c)) ≡ is_some (act M (Elem p c))
unfolding elem effect_of
elem_defined M p c = of_own M p (Elem p c) _ (λ P. found_as (may_elem P c) (slice_get P.moves.issued c) _ _ ∙ sym (some_map _ (elem (lines_of M.memory) P c)))

atomic_defined : (M : State) (p : ℕ) → is_some (effect_of M (Atomic p)) ≡ is_some (act M (Atomic p))
unfolding atomic effect_of
atomic_defined M p = of_own M p (Atomic p) _ (λ P. found (may_atomic P) P.channels.slot _ _)

defined : (M : State) (s : Step) → is_some (effect_of M s) ≡ is_some (act M s)
unfolding host effect_of
defined M (Exec p) = of_own M p (Exec p) _ (λ P. same_map _ _ (exec (lines_of M.memory) P))
defined M (Piece p c e k) = piece_defined M p c e k
defined M (Elem p c) = elem_defined M p c
defined M (Retire p c) = of_own M p (Retire p c) _ (λ P. same_map _ _ (retire P c))
defined M (Atomic p) = atomic_defined M p
defined M Host = same_then _ _ (slice_get M.host.script M.host.done) (λ a. same_map _ _ _)

pub has-effects : HasEffects
has-effects M s = defined M s ∙ sym (some_map (ended_by M s) (act M s))
