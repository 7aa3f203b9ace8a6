use Rattle.std.proofs.Common.{rules, ◌≡◌, ◌<◌, ◌&&◌, Some, length, sym, ap, ◌∙◌}
use Rattle.std.specs.List.{list_any}
use Rattle.race_order.specs.Lines.{is_queued_line}
use Rattle.race_order.specs.Lives.{moves_line_by, near}
use Rattle.race_order.specs.Ordering.{spe_in}
use Rattle.race_order.specs.Status.{is_by}
use Rattle.race_order.proofs.LivesOf.{lives_at}
use Rattle.race_order.proofs.lives.moves_line.Goals as goal

pub index-requires : goal.index-requires
index-requires c =
    let low : c.from.result < length c.args.lives.now.items = c.requires c.from.result (ap spe_in c.in-Piece.is ∙ ap Some (sym c.from.ensures)) in
    search rules

pub returns-in-Piece : goal.returns-in-Piece
returns-in-Piece c =
    let lists = c.args.lives.now.items in
    let who : spe_in c.args.step ≡ Some c.from.result = ap spe_in c.in-Piece.is ∙ ap Some (sym c.from.ensures) in
    c.has_line.ensures
    ∙ (ap (list_any (λ l. is_by l.spe l.cmd c.in-Piece.spe c.in-Piece.cmd && is_queued_line l.progress.command.kind)) (c.as_slice.ensures.value ∙ sym (ap (near lists) who ∙ lives_at lists c.from.result c.index.result.now (c.requires c.from.result who) c.index.ensures))
    ∙ sym (ap (moves_line_by (near c.args.lives.now.items (spe_in c.args.step))) c.in-Piece.is))
