use Rattle.mfc_queue.proofs.PlaceLemmas.{place-small}
use Rattle.std.proofs.Common.{arith}
use Rattle.mfc_queue.proofs.Queue.places_before.Goals as goal

pub insert-requires : goal.insert-requires
insert-requires c = place-small _ _ c.loop-i.i c.held_at-h.result.now c.args.self.now.places (omega arith) c.held_at-h.ensures
