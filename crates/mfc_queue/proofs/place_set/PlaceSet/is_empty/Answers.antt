use Rattle.std.proofs.Common.{◌<◌, rules}
use Rattle.mfc_queue.proofs.SetLemmas.{is-empty}
use Rattle.mfc_queue.proofs.place_set.PlaceSet.is_empty.Goals as goal

pub returns : goal.returns
returns c = let fits : c.args.self.now.bits < 65536 = search rules in is-empty c.args.self.now.bits fits
