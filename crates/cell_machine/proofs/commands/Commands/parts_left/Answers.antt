use Rattle.std.proofs.Common.{◌≡◌, ◌-◌, ◌∙◌, arith}
use Rattle.cell_machine.proofs.Showing.{left-none_behind, left-count}
use Rattle.cell_machine.proofs.commands.Commands.parts_left.Goals as goal

pub unreachable-requires : goal.unreachable-requires
unreachable-requires c =
    let s = c.requires in
    left-none_behind s.calls c.args.cmd c.from.result c.in-Ok.field-0 (c.from.ensures ∙ c.parts-parts.ensures s.calls s.stands) (c.in-Ok.ensures.left s.calls s.stands)

pub returns : goal.returns
returns c = λ m d shows at.
    let rest : c.saturating_sub.result ≡ c.from.result - c.in-Err.behind = omega arith in
    left-count shows.calls m c.args.cmd c.from.result c.in-Err.behind _ d shows.moves at (c.in-Err.ensures.left shows.calls shows.stands) rest
