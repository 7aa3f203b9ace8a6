use Rattle.std.proofs.Common.{◌≡◌, ℕ, ◌<◌, ◌≤◌, ◌==◌, ◌&&◌, not, length, slice_index_or}
use Rattle.mfc_queue.specs.declared.place_set.PlaceSet.{PlaceSet}
use Rattle.cell_base.specs.Bits.{has_bit}
use Rattle.mfc_queue.proofs.remove_from_all.Given as goal

abbrev pub invariant-loop-k : goal.invariant-loop-k
invariant-loop-k l = record {
  many : length l.sets ≡ 16;
  taken : (j p : ℕ) (d : PlaceSet) → j < l.k → p < 16 → has_bit (slice_index_or l.sets j d).bits p ≡ (has_bit (slice_index_or l.fn.sets j d).bits p && not (l.place == p));
  rest : (j : ℕ) (d : PlaceSet) → l.k ≤ j → slice_index_or l.sets j d ≡ slice_index_or l.fn.sets j d;
}
