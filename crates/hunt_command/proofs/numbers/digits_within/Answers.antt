use Rattle.std.proofs.Common.{arith}
use Rattle.std.proofs.lemmas.Grind.{common_steps}
use Rattle.cell_base.proofs.Digits.{over_limit, within_limit, digits_step, IsEnded}
use Rattle.hunt_command.proofs.numbers.digits_within.Goals as goal
use Rattle.hunt_command.proofs.numbers.digits_within.Goals.{in-Some+then-not-is_ascii_digit, then-not-is_ascii_digit-via-then-not-is_ascii_digit, then-not-is_ascii_digit-via-else-not-is_ascii_digit+then-n-from, in_default}

pub loop-b-preserved : goal.loop-b-preserved
loop-b-preserved c = record {
  below = omega arith;
  whole = grind (arith, common_steps, digits_step, c.loop-b.invariant.whole);
}

pub returns-then-n-from-2-clause-value : goal.returns-then-n-from-2-clause-value
returns-then-n-from-2-clause-value c = rw (← c.loop-b.invariant.whole) (over_limit _ _ _ (omega arith))

pub returns-clause-value : goal.returns-clause-value
returns-clause-value c =
    let ended : IsEnded c.loop-b.rest.now =
    elim c.match-split_first.branch [
      | in-Some+then-not-is_ascii_digit w ↦ elim w.then-not-is_ascii_digit.branch [
        | then-not-is_ascii_digit-via-then-not-is_ascii_digit v ↦ grind (arith, common_steps)
        | then-not-is_ascii_digit-via-else-not-is_ascii_digit+then-n-from v ↦ absurd (omega arith)
      ]
      | in_default w ↦ grind (arith, common_steps)
    ] in
    rw (← c.loop-b.invariant.whole) (within_limit _ _ _ ended (omega arith))
