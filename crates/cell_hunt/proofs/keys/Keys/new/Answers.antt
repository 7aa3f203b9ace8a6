use Rattle.std.proofs.Common.{◌<◌, lit<}
use Rattle.std.proofs.lemmas.List.Elements.{All-replicate}
use Rattle.cell_hunt.specs.declared.keys.TheConstants.{ABOVE_KEYS}
use Rattle.cell_hunt.proofs.keys.Keys.new.Goals as goal

pub invariant_of-result : goal.invariant_of-result
invariant_of-result c = All-replicate (λ key. key < ABOVE_KEYS) 289 0 (lit< tt)
