use Rattle.std.proofs.Common.{◌∷◌, [], ◌++◌, false, ◌∙◌, ap}
use Rattle.std.specs.Option.{option_map_or}
use Rattle.tag_groups.specs.Settle.{is_met}
use Rattle.mfc_queue.specs.Calls.{Mark}
use Rattle.mfc_queue.proofs.CallLaws.{issued-marked, retired-marked}
use Rattle.cell_machine.specs.Transfers.{with_done}
use Rattle.cell_machine.proofs.Fixed.{not-pending}
use Rattle.cell_machine.proofs.MovesShown.{others-marked}
use Rattle.cell_machine.proofs.Busy.{busy-of}
use Rattle.cell_machine.proofs.processor.Processor.fixes_by_piece.Goals as goal

pub returns-then-not-pending : goal.returns-then-not-pending
returns-then-not-pending c = λ m d e shows at has. not-pending c.args.self.now.tags _ c.pending.result c.pending.ensures c.if-not-pending.true

pub returns : goal.returns
returns c = λ m d e shows at has.
    c.would_settle.ensures
    ∙ ap (λ busy. option_map_or (is_met busy) c.args.self.now.tags.request false)
    (c.busy_if.ensures shows.calls shows.stands
    ∙ busy-of shows.calls (shows.calls ++ Mark c.args.cmd c.args.k ∷ []) (with_done m c.args.cmd e c.args.k) c.args.cmd c.ends_by_part-ends.result
    (issued-marked shows.calls c.args.cmd c.args.k) (retired-marked shows.calls c.args.cmd c.args.k) (others-marked shows.calls m c.args.cmd e c.args.k d shows.moves at has)
    (c.ends_by_part-ends.ensures m d e shows at has))
