use Rattle.std.proofs.Common.{◌∙◌}
use Rattle.mfc_queue.specs.Sets.{has_part}
use Rattle.mfc_queue.proofs.Holding.{held-none, one_of, marked-all}
use Rattle.mfc_queue.proofs.Counting.{none-missing}
use Rattle.mfc_queue.proofs.Queue.completes.Goals as goal

pub unreachable-requires : goal.unreachable-requires
unreachable-requires c = held-none _ c.args.cmd (one_of _ _ _ c.requires) c.in-None.ensures.none

pub returns : goal.returns
returns c = λ calls stands.
    let h = c.mark.new.self in
    c.mark.ensures.all
    ∙ none-missing (has_part h.done.words) h.parts h.left h.counted
    ∙ marked-all _ calls c.args.cmd c.args.part c.in-Some.i c.held_at.result.now h stands c.in-Some.ensures.found.0 c.held_at.ensures c.in-Some.ensures.found.1 c.mark.ensures.parts c.mark.ensures.done h.few
