-- The effect of one more step of a run.
use Rattle.std.proofs.Common.{◌≡◌, ◌<◌, ◌≤◌, length, arith, refl, sym, ◌∙◌, ap, Bool, true, false}
use Rattle.std.specs.Prelude.{Option, Some, None, is_some, IsSome, ◌↔◌, nat_lt, cond}
use Rattle.std.specs.Option.{option_and_then}
use Rattle.std.proofs.lemmas.Bool.Decides.{nat_tests}
use Rattle.cell_base.specs.declared.steps.Step.{Step}
use Rattle.cell_machine.specs.declared.effect.Effect.{Effect}
use Rattle.cell_machine.specs.State.{State}
use Rattle.cell_machine.specs.Next.{next}
use Rattle.cell_machine.specs.Run.{Ran, state_of, next_of}
use Rattle.cell_machine.specs.Effects.{effect_of, effect_in}
use Rattle.cell_machine.proofs.EffectsDefined.{has-effects}

pub effect-spent : (m : Ran) (s : Step) → m.setup.budget ≤ length m.steps → None ≡ effect_in m s
effect-spent m s spent =
    let e : nat_lt (length m.steps) m.setup.budget ≡ false = grind (arith, nat_tests) in rw e refl

pub effect-within : (m : Ran) (M : State) (s : Step) (r : Option Effect) → state_of m ≡ Some M → length m.steps < m.setup.budget → r ≡ effect_of M s → r ≡ effect_in m s
effect-within m M s r stands within is =
    let e : nat_lt (length m.steps) m.setup.budget ≡ true = grind (arith, nat_tests) in rw (e, stands) is

allowed : (b : Bool) (o : Option State) (s : Step)
    → is_some (cond b (option_and_then (λ M. effect_of M s) o) None) ≡ is_some (cond b (option_and_then (λ M. next M s) o) None)
allowed true None s = refl
allowed true (Some M) s = has-effects M s
allowed false o s = refl

-- there is one exactly where the step is allowed
pub effect-allowed : (m : Ran) (s : Step) (r : Option Effect) → r ≡ effect_in m s → IsSome r ↔ IsSome (next_of m s)
effect-allowed m s r is =
    let same = ap is_some is ∙ allowed (nat_lt (length m.steps) m.setup.budget) (state_of m) s in
    ((λ h. sym same ∙ h), (λ h. same ∙ h))

some-next : (b : Bool) (o : Option State) (M : State) (s : Step) → o ≡ Some M → is_some (cond b (option_and_then (λ M. next M s) o) None) ≡ true → (b ≡ true) × (is_some (effect_of M s) ≡ true)
some-next true o M s is some = (refl, has-effects M s ∙ sym (ap (λ o. is_some (option_and_then (λ M. next M s) o)) is) ∙ some)
some-next false o M s is some = absurd (cc)

-- that of a step that is allowed
pub effect-told : (m : Ran) (M : State) (s : Step) (r : Option Effect) → state_of m ≡ Some M → IsSome (next_of m s) → (IsSome (effect_of M s) → r ≡ effect_of M s) → r ≡ effect_in m s
effect-told m M s r stands some is =
    let both = some-next (nat_lt (length m.steps) m.setup.budget) (state_of m) M s stands some in
    let e : nat_lt (length m.steps) m.setup.budget ≡ true = both.0 in rw (e, stands) (is both.1)

pub effect-some : (m : Ran) (M : State) (s : Step) → state_of m ≡ Some M → IsSome (next_of m s) → IsSome (effect_of M s)
effect-some m M s stands some = (some-next (nat_lt (length m.steps) m.setup.budget) (state_of m) M s stands some).1

some-within : (b : Bool) (o : Option State) → is_some (cond b o None) ≡ true → b ≡ true
some-within true o some = refl
some-within false o some = absurd (cc)

pub allowed-within : (m : Ran) (s : Step) → IsSome (next_of m s) → length m.steps < m.setup.budget
allowed-within m s some =
    let e : nat_lt (length m.steps) m.setup.budget ≡ true = some-within (nat_lt (length m.steps) m.setup.budget) (option_and_then (λ M. next M s) (state_of m)) some in grind (arith, nat_tests)
