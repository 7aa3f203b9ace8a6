use Rattle.std.proofs.Common.{◌≡◌, ℕ, List, length, map, None, Some, rules, Result, Ok, refl, arith, ap, subst, ◌∙◌, ◌∷◌, Vec, Global}
use Rattle.cell_load.specs.declared.line.Line.{Line}
use Rattle.cell_load.specs.declared.line.Refusal.{Refusal}
use Rattle.cell_load.specs.declared.line.Refusal.TheVariants as refusal
use Rattle.std.proofs.lemmas.List.{append-nil}
use Rattle.cell_base.specs.Words.{lines_of}
use Rattle.cell_base.proofs.WordLaws.{no_lines}
use Rattle.cell_base.proofs.WalkLaws.{walk_on, walk_end}
use Rattle.cell_load.specs.Entries.{Entry, entry_of, seen}
use Rattle.cell_load.specs.Order.{line_step, lacks}
use Rattle.cell_load.specs.Plans.{IsBare}
use Rattle.cell_load.specs.declared.line.Stage.TheVariants.{Start}
use Rattle.cell_load.proofs.MachineLemmas.{skipped, stops}
use Rattle.cell_load.proofs.plan.lines_in.Goals as goal

pub returns-in-Err-clause-gives : goal.returns-in-Err-clause-gives
returns-in-Err-clause-gives c =
    rw c.fault.ensures (stops {Y = Vec Line Global} seen (λ v. map entry_of v.items) (map entry_of c.loop-rest.lines.items) c.loop-rest.number c.loop-rest.stage (lines_of c.loop-rest.rest.now) c.first_line.result.0.now (lines_of c.first_line.result.1.now) c.in-Err.refusal _ c.first_line.ensures.line c.in-Err.ensures.says c.loop-rest.invariant.so_far)

pub loop-rest-preserved : goal.loop-rest-preserved
loop-rest-preserved c = record {
  few = omega arith;
  so_far = rw (c.in_ok-stage.ensures.lines, c.in_ok-stage.ensures.stage) (walk_on line_step lacks (map entry_of c.loop-rest.lines.items) c.loop-rest.number c.loop-rest.stage (lines_of c.loop-rest.rest.now) c.first_line.result.0.now (lines_of c.first_line.result.1.now) (seen c.in-Ok.done) _ c.first_line.ensures.line c.in-Ok.ensures.says c.loop-rest.invariant.so_far);
  bare = λ is.
      let so_far : IsBare (lines_of c.loop-rest.rest.now) × (c.loop-rest.stage ≡ Start) = c.loop-rest.invariant.bare is in
      let cut : IsBare (c.first_line.result.0.now ∷ lines_of c.first_line.result.1.now) = subst IsBare c.first_line.ensures.line so_far.0 in
      (cut.1, skipped c.loop-rest.stage _ c.in-Ok.done c.in_ok-stage.ensures.stage (c.in-Ok.ensures.bare cut.0) ∙ so_far.1);
}

pub returns-then-not-may_end-clause-gives : goal.returns-then-not-may_end-clause-gives
returns-then-not-may_end-clause-gives c =
    let empty : length c.loop-rest.rest.now ≡ 0 = grind arith in
    let missing : lacks c.loop-rest.stage ≡ Some refusal.Form = search rules in
    walk_end line_step lacks (map entry_of c.loop-rest.lines.items) c.loop-rest.number c.loop-rest.stage (lines_of c.loop-rest.rest.now) _ (no_lines c.loop-rest.rest.now empty) c.loop-rest.invariant.so_far ∙ rw missing refl

pub returns-clause-gives : goal.returns-clause-gives
returns-clause-gives c =
    let empty : length c.loop-rest.rest.now ≡ 0 = grind arith in
    let whole : lacks c.loop-rest.stage ≡ None = search rules in
    let done : List Entry → Result (List Entry) (ℕ × Refusal) = λ v. Ok v in
    walk_end line_step lacks (map entry_of c.loop-rest.lines.items) c.loop-rest.number c.loop-rest.stage (lines_of c.loop-rest.rest.now) _ (no_lines c.loop-rest.rest.now empty) c.loop-rest.invariant.so_far ∙ rw whole (ap done (append-nil (map entry_of c.loop-rest.lines.items)))
