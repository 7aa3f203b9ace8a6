use Rattle.std.proofs.Common.{◌≡◌, ◌<◌, ◌-◌, ◌*◌, ℕ, Bool, false, slice_index_or}
use Rattle.cell_load.specs.Loaded.{first_without_row, places, places_from}
use Rattle.cell_load.proofs.rows.check_words.Given as goal

-- what is left is all
abbrev pub invariant-loop-k : goal.invariant-loop-k
invariant-loop-k l = (t : ℕ → Bool) → ((k : ℕ) → k < 65536 → slice_index_or l.marks k false ≡ t (4 * k)) → first_without_row t l.spe l.store places ≡ first_without_row t l.spe l.store (places_from l.k (65536 - l.k))
