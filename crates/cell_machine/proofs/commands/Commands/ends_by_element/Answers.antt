use Rattle.std.proofs.Common.{◌≡◌, ◌≢◌, sym, ◌∙◌, ap, arith}
use Rattle.mfc_lists.specs.Readings.{with_element, is_complete as is_complete_reading}
use Rattle.cell_machine.specs.Moves.{parts_in}
use Rattle.cell_machine.specs.Transfers.{with_read}
use Rattle.cell_machine.specs.MovesShown.{reading}
use Rattle.cell_machine.proofs.MovesShown.{complete-reading, eq_off}
use Rattle.cell_machine.proofs.CommandsShown.{element-current, element-reads}
use Rattle.cell_machine.proofs.Busy.{element-incomplete}
use Rattle.cell_machine.proofs.commands.Commands.ends_by_element.Goals as goal

pub returns-then-parts-ne0 : goal.returns-then-parts-ne0
returns-then-parts-ne0 c = λ m d shows at has number stands.
    let reads = element-reads m c.args.cmd d c.args.x (shows.moves.done.elements c.args.cmd d at) has number in
    let some : parts_in c.args.x ≢ 0 = (let n = c.parts.ensures.count in let e = c.if-parts-ne0.true in omega arith) in
    sym (complete-reading (with_read m c.args.cmd c.args.x) c.args.cmd d at reads.list (eq_off d.size 0 reads.size) ∙ ap is_complete_reading (reads.moved some).0 ∙ element-incomplete (reading m c.args.cmd d) c.args.x)

pub returns : goal.returns
returns c = λ m d shows at has number stands.
    let reads = element-reads m c.args.cmd d c.args.x (shows.moves.done.elements c.args.cmd d at) has number in
    let none : parts_in c.args.x ≡ 0 = (let n = c.parts.ensures.count in let e = c.if-parts-ne0.false in omega arith) in
    c.ends.ensures (with_element (reading m c.args.cmd d) c.args.x) c.args.x stands (element-current (reading m c.args.cmd d) c.args.x)
    ∙ sym (complete-reading (with_read m c.args.cmd c.args.x) c.args.cmd d at reads.list (eq_off d.size 0 reads.size) ∙ ap is_complete_reading (reads.empty none))
