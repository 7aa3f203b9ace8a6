use Rattle.std.proofs.Common.{◌≡◌, ℕ, ◌<◌, length, get_or}
use Rattle.std.specs.Prelude.{All}
use Rattle.cell_hunt.specs.declared.keys.TheConstants.{ABOVE_KEYS}
use Rattle.cell_hunt.specs.Keys.{unlowered_at}
use Rattle.cell_hunt.proofs.keys.all_unlowered.Given as goal

abbrev pub invariant-loop-place : goal.invariant-loop-place
invariant-loop-place l =
    record {
      long : length l.keys ≡ 289;
      so_far : (k : ℕ) → k < l.place → get_or l.keys k 0 ≡ unlowered_at l.strategy l.base k;
      small : All (λ key. key < ABOVE_KEYS) l.keys;
    }
