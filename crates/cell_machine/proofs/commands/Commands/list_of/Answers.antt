use Rattle.std.proofs.Common.{sym, ◌∙◌, ap, true≢false}
use Rattle.std.specs.Prelude.{is_some}
use Rattle.cell_machine.proofs.commands.Commands.list_of.Goals as goal

pub unreachable-requires : goal.unreachable-requires
unreachable-requires c = let s = c.requires in true≢false (sym s.outstanding ∙ sym (c.look.ensures.outstanding s.calls s.stands) ∙ ap is_some c.in-None.is)

pub list-requires : goal.list-requires
list-requires c = c.in-Some.ensures.seen
