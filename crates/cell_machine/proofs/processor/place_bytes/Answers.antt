use Rattle.std.proofs.Common.{◌+◌, drop, arith, ap, sym, ◌∙◌}
use Rattle.cell_base.specs.Bytes.{put}
use Rattle.cell_machine.specs.Opening.{placed_in}
use Rattle.cell_machine.specs.Limits.{shown}
use Rattle.cell_machine.proofs.Openings.{shown_one, drop-shown, placed-own, placed-other}
use Rattle.cell_machine.proofs.processor.place_bytes.Goals as goal

pub loop-piece-preserved-then-piece-spe : goal.loop-piece-preserved-then-piece-spe
loop-piece-preserved-then-piece-spe c =
    c.loop-piece.invariant
    ∙ ap (placed_in c.loop-piece.store c.args.spe) (drop-shown c.args.placed.now c.loop-piece.piece-index c.piece-item.result (omega arith) c.piece-item.is)
    ∙ placed-other c.loop-piece.store c.args.spe (shown_one c.piece-item.result) _ c.if-piece-spe.true

pub loop-piece-preserved : goal.loop-piece-preserved
loop-piece-preserved c =
    c.loop-piece.invariant
    ∙ ap (placed_in c.loop-piece.store c.args.spe) (drop-shown c.args.placed.now c.loop-piece.piece-index c.piece-item.result (omega arith) c.piece-item.is)
    ∙ placed-own c.loop-piece.store c.args.spe (shown_one c.piece-item.result) _ c.if-piece-spe.false
    ∙ ap (λ store. placed_in store c.args.spe (drop (c.loop-piece.piece-index + 1) (shown c.args.placed.now))) (ap (put c.loop-piece.store c.piece-item.result.at) (sym c.deref.ensures.value) ∙ sym c.copy_in.ensures)
