use Rattle.lost_values.proofs.FailedStores.{fails-told}
use Rattle.lost_values.proofs.touches.is_failed_store.Goals as goal

pub returns-clause-failed : goal.returns-clause-failed
returns-clause-failed c = λ m p is. fails-told m p c.args.effect.now is
