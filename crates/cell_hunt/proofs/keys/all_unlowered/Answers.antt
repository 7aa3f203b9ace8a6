use Rattle.std.proofs.Common.{◌<◌, arith, lit<, refl, rules}
use Rattle.std.proofs.lemmas.List.Elements.{All-replicate}
use Rattle.std.proofs.lemmas.List.FromFn.{fill_by_all}
use Rattle.cell_hunt.specs.declared.keys.TheConstants.{ABOVE_KEYS}
use Rattle.cell_hunt.specs.Keys.{unlowered_at}
use Rattle.cell_hunt.proofs.keys.all_unlowered.Goals as goal

pub loop-place-init : goal.loop-place-init
loop-place-init c = record { long = refl; so_far = λ k low. absurd (omega (arith, low)); small = All-replicate (λ key. key < ABOVE_KEYS) 289 0 (lit< tt) }

pub returns-clause-keys : goal.returns-clause-keys
returns-clause-keys c = fill_by_all (unlowered_at c.args.strategy c.args.base) c.loop-place.keys 289 0 c.loop-place.invariant.long (search rules)
