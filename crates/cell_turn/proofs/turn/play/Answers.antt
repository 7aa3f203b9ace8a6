use Rattle.std.proofs.Common.{rules, ◌∷◌, ap, ◌∙◌, sym}
use Rattle.atomic_table.specs.Table.{rest}
use Rattle.cell_turn.specs.Choice.{ran}
use Rattle.cell_turn.proofs.turn.play.Goals as goal

pub slot_mut-machine-requires : goal.slot_mut-machine-requires
slot_mut-machine-requires c =
    let t = c.requires.turn.slot in
    let m = ran c.args.seat.now.me.0.setup c.args.seat.now.me.0.seen in
    (search rules, (m, t ∙ ap (λ l. (0, m) ∷ rest l) (sym t)))
