use Rattle.std.proofs.Common.{sym, ◌∙◌, ap}
use Rattle.std.specs.Prelude.{is_some}
use Rattle.cell_machine.proofs.SpeShown.{on_of, not_of, below, begins-closed, begins-open, part-is, complete-no_part}
use Rattle.cell_machine.proofs.Staying.{both}
use Rattle.cell_machine.proofs.commands.Commands.part_left.Goals as goal

pub returns-in_default-clause-may : goal.returns-in_default-clause-may
returns-in_default-clause-may c = λ m shows.
    sym (begins-closed shows.calls m c.args.cmd _ shows.moves (sym (c.look_part.ensures.outstanding shows.calls shows.stands) ∙ ap is_some c.in_default.is) (λ d at h. complete-no_part m c.args.cmd c.args.elem c.args.k d at h))

pub returns-clause-may : goal.returns-clause-may
returns-clause-may c = λ m shows.
    let is = sym (c.look_part.ensures.outstanding shows.calls shows.stands) ∙ ap is_some c.in-Some.is in
    let w = c.in-Some.ensures.seen.waits shows.calls shows.stands in
    let left = both _ _ (sym (c.in-Some.ensures.left shows.calls shows.stands) ∙ c.if-not-is_left.false) in
    sym (on_of _ c.if-not-w.false) ∙ w.may_start ∙ begins-open shows.calls m c.args.cmd _ shows.moves is (λ d at.
    part-is shows.calls m c.args.cmd c.args.elem c.args.k d c.in_ok-x.x shows.moves at (c.in_ok-x.ensures.some m d shows at) c.if-x-elem.false (below _ _ left.0) (not_of _ left.1))
