-- One turn more, or none.
use Rattle.std.proofs.Common.{◌≡◌, ℕ, zero, suc, ◌+◌, ◌-◌, ◌*◌, ◌%◌, ◌<◌, ◌≤◌, length, Bool, true, false, cond, List, [], ◌∷◌, ◌++◌, Option, Some, None, refl, sym, ap, ◌∙◌, arith}
use Rattle.std.specs.Bool.{OnFalse}
use Rattle.std.specs.Option.{option_map, option_map_or}
use Rattle.cell_base.specs.declared.steps.Actor.{Actor}
use Rattle.cell_base.specs.declared.steps.Step.{Step}
use Rattle.cell_machine.specs.Run.{Ran}
use Rattle.cell_debug.specs.Turns.{chosen, made, turn, turns, actor_of, round_turn, runs_at, turn_until, turns_until}

pub turns_on : (most i : ℕ) (actor : Actor) (choice : ℕ) (m next start : Ran) → i < most → turn m actor choice ≡ Some next
    → turns (most - i) actor choice m ≡ turns most actor choice start → turns (most - (i + 1)) actor choice next ≡ turns most actor choice start
unfolding turns
turns_on most i actor choice m next start left is so_far =
    let more : most - i ≡ suc (most - (i + 1)) = omega arith in
    sym (ap (λ k. turns k actor choice m) more ∙ ap (λ o. option_map_or (turns (most - (i + 1)) actor choice) o m) is) ∙ so_far

pub turns_over : (most i : ℕ) (actor : Actor) (choice : ℕ) (m start : Ran) → i < most → turn m actor choice ≡ None
    → turns (most - i) actor choice m ≡ turns most actor choice start → m ≡ turns most actor choice start
unfolding turns
turns_over most i actor choice m start left is so_far =
    let more : most - i ≡ suc (most - (i + 1)) = omega arith in
    sym (ap (λ k. turns k actor choice m) more ∙ ap (λ o. option_map_or (turns (most - (i + 1)) actor choice) o m) is) ∙ so_far

pub turns_done : (most i : ℕ) (actor : Actor) (choice : ℕ) (m start : Ran) → most ≤ i
    → turns (most - i) actor choice m ≡ turns most actor choice start → m ≡ turns most actor choice start
unfolding turns
turns_done most i actor choice m start none so_far =
    let over : most - i ≡ 0 = omega arith in
    sym (ap (λ k. turns k actor choice m) over) ∙ so_far

-- ---- the same, where all actors take turns

pub until_on : (most t p at : ℕ) (m next start : Ran) → t < most → turn_until t p at m ≡ Some next
    → turns_until (most - t) t p at m ≡ turns_until most 0 p at start → turns_until (most - (t + 1)) (t + 1) p at next ≡ turns_until most 0 p at start
unfolding turns_until
until_on most t p at m next start left is so_far =
    let more : most - t ≡ suc (most - (t + 1)) = omega arith in
    sym (ap (λ k. turns_until k t p at m) more ∙ ap (λ o. option_map_or (turns_until (most - (t + 1)) (t + 1) p at) o m) is) ∙ so_far

pub until_over : (most t p at : ℕ) (m start : Ran) → t < most → turn_until t p at m ≡ None
    → turns_until (most - t) t p at m ≡ turns_until most 0 p at start → m ≡ turns_until most 0 p at start
unfolding turns_until
until_over most t p at m start left is so_far =
    let more : most - t ≡ suc (most - (t + 1)) = omega arith in
    sym (ap (λ k. turns_until k t p at m) more ∙ ap (λ o. option_map_or (turns_until (most - (t + 1)) (t + 1) p at) o m) is) ∙ so_far

pub until_done : (most t p at : ℕ) (m start : Ran) → most ≤ t
    → turns_until (most - t) t p at m ≡ turns_until most 0 p at start → m ≡ turns_until most 0 p at start
unfolding turns_until
until_done most t p at m start none so_far =
    let over : most - t ≡ 0 = omega arith in
    sym (ap (λ k. turns_until k t p at m) over) ∙ so_far

-- a turn leaves the setup
round_turn-setup : (t : ℕ) (m next : Ran) → round_turn t m ≡ Some next → next.setup ≡ m.setup
round_turn-setup t m next is = of (chosen m (actor_of (length m.setup.entries) (t % (2 * length m.setup.entries + 1))) t) is
  where
    of : (o : Option Step) → option_map (made m) o ≡ Some next → next.setup ≡ m.setup
    of None e = absurd cc
    of (Some s) e = let same : made m s ≡ next = cc in sym (ap (λ (n : Ran). n.setup) same)

pub turn_until-setup : (t p at : ℕ) (m next : Ran) → turn_until t p at m ≡ Some next → next.setup ≡ m.setup
turn_until-setup t p at m next is = of (runs_at p at m) is
  where
    of : (b : Bool) → cond b None (round_turn t m) ≡ Some next → next.setup ≡ m.setup
    of true e = absurd cc
    of false e = round_turn-setup t m next e

-- a turn was made, or none
pub was_made : (b : Bool) (o : Option Ran) (n : Ran) → o ≡ cond b (Some n) None → b ≡ true → o ≡ Some n
was_made true o n is holds = is
was_made false o n is holds = absurd cc

pub was_none : (b : Bool) (o : Option Ran) (n : Ran) → o ≡ cond b (Some n) None → b ≡ false → o ≡ None
was_none true o n is not_made = absurd cc
was_none false o n is not_made = is

pub stayed : (b : Bool) (m n : Ran) → OnFalse b (n ≡ m) → b ≡ false → n ≡ m
stayed true m n on not_made = absurd cc
stayed false m n on not_made = on
