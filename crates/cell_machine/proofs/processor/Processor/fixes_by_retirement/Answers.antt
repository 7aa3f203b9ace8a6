use Rattle.std.proofs.Common.{◌∷◌, [], ◌++◌, false, ◌∙◌, ap}
use Rattle.std.specs.Option.{option_map_or}
use Rattle.tag_groups.specs.Settle.{is_met}
use Rattle.mfc_queue.specs.Calls.{Retire}
use Rattle.cell_machine.specs.Transfers.{with_retired}
use Rattle.cell_machine.proofs.Fixed.{not-pending}
use Rattle.cell_machine.proofs.MovesShown.{moves-retire}
use Rattle.cell_machine.proofs.SpeShown.{busy-same}
use Rattle.cell_machine.proofs.processor.Processor.fixes_by_retirement.Goals as goal

pub returns-then-not-pending : goal.returns-then-not-pending
returns-then-not-pending c = λ m d shows at is. not-pending c.args.self.now.tags _ c.pending.result c.pending.ensures c.if-not-pending.true

pub returns : goal.returns
returns c = λ m d shows at is.
    c.would_settle.ensures
    ∙ ap (λ busy. option_map_or (is_met busy) c.args.self.now.tags.request false)
    (c.busy_without.ensures shows.calls shows.stands ∙ busy-same (shows.calls ++ Retire c.args.cmd ∷ []) (with_retired m c.args.cmd) (moves-retire shows.calls m c.args.cmd d shows.moves at is))
