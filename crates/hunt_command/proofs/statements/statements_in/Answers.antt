use Rattle.std.proofs.Common.{◌≡◌, length, arith}
use Rattle.hunt_command.proofs.StatementLaws.{statements_more, statements_past}
use Rattle.hunt_command.proofs.statements.statements_in.Goals as goal

pub loop-rest-preserved : goal.loop-rest-preserved
loop-rest-preserved c = statements_more _ _ c.loop-rest.rest.now _ _ _ c.first_line.ensures.line c.in_ok-add_statement.ensures c.loop-rest.invariant

pub returns : goal.returns
returns c =
    let empty : length c.loop-rest.rest.now ≡ 0 = grind arith in
    statements_past _ c.loop-rest.rest.now _ empty c.loop-rest.invariant
