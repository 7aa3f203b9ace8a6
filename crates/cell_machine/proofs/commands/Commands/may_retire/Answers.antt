use Rattle.std.proofs.Common.{sym, ◌∙◌, ap}
use Rattle.std.specs.Prelude.{is_some}
use Rattle.cell_machine.specs.Moves.{is_moved}
use Rattle.cell_machine.proofs.SpeShown.{begins-closed, begins-open, left-open, complete-not_left, command-is, open-of}
use Rattle.cell_machine.proofs.commands.Commands.may_retire.Goals as goal

pub returns-in_default-clause-may : goal.returns-in_default-clause-may
returns-in_default-clause-may c = λ m shows.
    sym (begins-closed shows.calls m c.args.cmd _ shows.moves (sym (c.look.ensures.outstanding shows.calls shows.stands) ∙ ap is_some c.in_default.is) (λ d at h. complete-not_left m c.args.cmd d at h))

pub returns-clause-may : goal.returns-clause-may
returns-clause-may c = λ m shows.
    let is = sym (c.look.ensures.outstanding shows.calls shows.stands) ∙ ap is_some c.in-Some.is in
    let w = c.in-Some.ensures.seen.waits shows.calls shows.stands in
    w.may_start ∙ begins-open shows.calls m c.args.cmd _ shows.moves is (λ d at.
    let same = command-is shows.calls m c.args.cmd c.in-Some.w.command d shows.moves w.command at in
    left-open m c.args.cmd d at (sym (ap is_moved same) ∙ sym c.is_moved.ensures ∙ c.if-is_moved.false) (open-of shows.calls m c.args.cmd shows.moves is))
