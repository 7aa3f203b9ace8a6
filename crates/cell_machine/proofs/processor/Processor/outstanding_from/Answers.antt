use Rattle.std.proofs.Common.{◌∙◌}
use Rattle.cell_machine.proofs.SpeShown.{issued-is}
use Rattle.cell_machine.proofs.Places.{found-is, found-outstanding}
use Rattle.cell_machine.proofs.Showing.{shown-there}
use Rattle.cell_machine.proofs.processor.Processor.outstanding_from.Goals as goal

pub shown-requires : goal.shown-requires
shown-requires c =
    let s = c.requires in
    record { calls = s.calls; stands = s.stands; outstanding = (found-outstanding s.calls c.args.number c.in-Some.cmd _ (c.outstanding_from.ensures s.calls s.stands) c.in-Some.is).0 }

pub returns-in-Some : goal.returns-in-Some
returns-in-Some c = λ P shows.
    let q = shows.queue in
    let found = found-outstanding q.calls c.args.number c.in-Some.cmd _ (c.outstanding_from.ensures q.calls q.stands) c.in-Some.is in
    let there = issued-is q.calls P.moves c.in-Some.cmd q.moves found.0 in
    shown-there P c.in-Some.cmd there.0 _ _ (found-is q.calls P c.args.number _ q.moves (c.outstanding_from.ensures q.calls q.stands) ∙ c.in-Some.is) there.1 (c.shown.ensures P.moves there.0 q there.1)
