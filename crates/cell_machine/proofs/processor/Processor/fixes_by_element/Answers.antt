use Rattle.std.proofs.Common.{◌∷◌, [], ◌++◌, false, ◌∙◌, ap}
use Rattle.std.specs.Option.{option_map_or}
use Rattle.tag_groups.specs.Settle.{is_met}
use Rattle.mfc_queue.specs.Calls.{SetParts}
use Rattle.mfc_queue.proofs.CallLaws.{issued-same, retired-same}
use Rattle.cell_machine.specs.Moves.{parts_in}
use Rattle.cell_machine.specs.Transfers.{with_read}
use Rattle.cell_machine.proofs.Fixed.{not-pending}
use Rattle.cell_machine.proofs.MovesShown.{others-read}
use Rattle.cell_machine.proofs.Busy.{busy-of}
use Rattle.cell_machine.proofs.processor.Processor.fixes_by_element.Goals as goal

pub returns-then-not-pending : goal.returns-then-not-pending
returns-then-not-pending c = λ m d shows at has number stands. not-pending c.args.self.now.tags _ c.pending.result c.pending.ensures c.if-not-pending.true

pub returns : goal.returns
returns c = λ m d shows at has number stands.
    c.would_settle.ensures
    ∙ ap (λ busy. option_map_or (is_met busy) c.args.self.now.tags.request false)
    (c.busy_if.ensures shows.calls shows.stands
    ∙ busy-of shows.calls (shows.calls ++ SetParts c.args.cmd (parts_in c.args.x) ∷ []) (with_read m c.args.cmd c.args.x) c.args.cmd c.ends_by_element-ends.result
    (issued-same shows.calls c.args.cmd (parts_in c.args.x)) (retired-same shows.calls c.args.cmd (parts_in c.args.x)) (others-read shows.calls m c.args.cmd d c.args.x shows.moves at has number)
    (c.ends_by_element-ends.ensures m d shows at has number stands))
