use Rattle.local_store.proofs.Kept.{none_kept}
use Rattle.local_store.proofs.LocalStore.new.Goals as goal

pub returns : goal.returns
returns c = none_kept _ c.in_ok-bytes.ensures.items
