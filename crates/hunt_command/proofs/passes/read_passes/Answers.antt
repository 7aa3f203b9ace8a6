use Rattle.std.proofs.Common.{◌≡◌, ℕ, List, length, sym, ap, ◌∙◌, arith, Result, Ok}
use Rattle.std.proofs.lemmas.List.{append-nil}
use Rattle.cell_base.specs.Words.{lines_of}
use Rattle.cell_base.proofs.WordLaws.{no_lines}
use Rattle.cell_base.proofs.WalkLaws.{walk_on, walk_fault, walk_end}
use Rattle.cell_hunt.specs.declared.site.Sites.{Sites}
use Rattle.hunt_command.specs.Passes.{line_step, lacks}
use Rattle.hunt_command.proofs.passes.read_passes.Goals as goal

pub loop-rest-preserved : goal.loop-rest-preserved
loop-rest-preserved c = record {
  so_far = rw c.in-Ok-keep.ensures (walk_on (line_step c.args.setup.now c.args.places.now) lacks c.loop-rest.races.items c.loop-rest.number tt (lines_of c.loop-rest.rest.now) c.first_line.result.0.now (lines_of c.first_line.result.1.now) c.in-Ok.done _ c.first_line.ensures.line (sym c.in-Ok.ensures) c.loop-rest.invariant.so_far);
  numbered = omega arith;
}

pub returns-in-Err : goal.returns-in-Err
returns-in-Err c =
    walk_fault (line_step c.args.setup.now c.args.places.now) lacks c.loop-rest.races.items c.loop-rest.number tt (lines_of c.loop-rest.rest.now) c.first_line.result.0.now (lines_of c.first_line.result.1.now) tt _
    c.first_line.ensures.line (sym c.in-Err.ensures) c.loop-rest.invariant.so_far

pub returns : goal.returns
returns c =
    let empty : length c.loop-rest.rest.now ≡ 0 = grind arith in
    let done : List Sites → Result (List Sites) (ℕ × Unit {0}) = λ v. Ok v in
    walk_end (line_step c.args.setup.now c.args.places.now) lacks c.loop-rest.races.items c.loop-rest.number tt (lines_of c.loop-rest.rest.now) _ (no_lines c.loop-rest.rest.now empty) c.loop-rest.invariant.so_far
    ∙ ap done (append-nil c.loop-rest.races.items)
