use Rattle.std.proofs.Common.{◌+◌, ◌*◌, drop, length, arith, ap, sym, ◌∙◌}
use Rattle.cell_base.specs.Bytes.{put}
use Rattle.cell_machine.specs.Opening.{filled}
use Rattle.cell_machine.specs.Limits.{shown_memory}
use Rattle.cell_machine.proofs.Openings.{filled-next, length-zeros}
use Rattle.cell_machine.proofs.memory.opening_bytes.Goals as goal

pub loop-piece-init : goal.loop-piece-init
loop-piece-init c = record {
  so_far = ap (λ bytes. filled bytes (shown_memory c.args.pieces.now)) (sym c.in_ok-bytes.ensures);
  long = ap length c.in_ok-bytes.ensures ∙ length-zeros (128 * c.args.lines);
}

pub loop-piece-preserved : goal.loop-piece-preserved
loop-piece-preserved c = record {
  so_far = c.loop-piece.invariant.so_far
      ∙ filled-next c.loop-piece.bytes c.args.pieces.now c.loop-piece.piece-index c.piece-item.result (omega arith) c.piece-item.is
      ∙ ap (λ bytes. filled bytes (drop (c.loop-piece.piece-index + 1) (shown_memory c.args.pieces.now))) (ap (put c.loop-piece.bytes c.piece-item.result.at) (sym c.deref.ensures.value) ∙ sym c.copy_in.ensures.bytes);
  long = c.copy_in.ensures.count ∙ c.loop-piece.invariant.long;
}
