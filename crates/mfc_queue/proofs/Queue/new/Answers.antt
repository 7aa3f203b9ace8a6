use Rattle.std.proofs.Common.{List, map, refl, sym, ap}
use Rattle.mfc_queue.specs.declared.Held.{Held}
use Rattle.mfc_queue.specs.Sets.{set_of}
use Rattle.mfc_queue.proofs.Holding.{stands-new}
use Rattle.mfc_queue.proofs.PlaceLemmas.{places-new}
use Rattle.mfc_queue.proofs.Queue.new.Goals as goal

pub returns : goal.returns
returns c = stands-new _ refl c.new.ensures

pub invariant_of-result : goal.invariant_of-result
invariant_of-result c = record { places = places-new _ _ c.new.ensures c.from_array_in.ensures.items; sets = refl; groups = sym (ap (λ (xs : List Held). set_of (map (λ (x : Held). x.command.tag) xs)) c.new.ensures) }
