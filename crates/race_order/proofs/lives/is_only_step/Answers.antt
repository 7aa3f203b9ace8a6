use Rattle.std.proofs.Common.{rules, ◌≡◌, ◌<◌, Some, length, sym, ap, ◌∙◌}
use Rattle.std.specs.List.{list_any}
use Rattle.race_order.specs.Lives.{is_only_piece, is_only_step, near}
use Rattle.race_order.specs.Ordering.{spe_in}
use Rattle.race_order.proofs.LivesOf.{lives_at}
use Rattle.race_order.proofs.lives.is_only_step.Goals as goal

pub index-requires : goal.index-requires
index-requires c =
    let low : c.from.result < length c.args.lives.now.items = c.requires c.from.result (ap spe_in c.in-Piece.is ∙ ap Some (sym c.from.ensures)) in
    search rules

pub returns-in-Piece : goal.returns-in-Piece
returns-in-Piece c =
    let lists = c.args.lives.now.items in
    let who : spe_in c.args.step ≡ Some c.from.result = ap spe_in c.in-Piece.is ∙ ap Some (sym c.from.ensures) in
    c.has_only_piece.ensures
    ∙ (ap (list_any (is_only_piece c.in-Piece.spe c.in-Piece.cmd)) (c.as_slice.ensures.value ∙ sym (ap (near lists) who ∙ lives_at lists c.from.result c.index.result.now (c.requires c.from.result who) c.index.ensures))
    ∙ sym (ap (is_only_step (near c.args.lives.now.items (spe_in c.args.step))) c.in-Piece.is))
