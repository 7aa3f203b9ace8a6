use Rattle.std.proofs.Common.{ℕ, not}
use Rattle.std.specs.Prelude.{Result, filter}
use Rattle.std.specs.List.{range_with_len}
use Rattle.mfc_queue.specs.At.{IsAt}
use Rattle.mfc_queue.specs.Sets.{has_part}
use Rattle.mfc_queue.proofs.AtLemmas.{passing}
use Rattle.mfc_queue.proofs.part_set.PartSet.missing_at.Given as goal

-- the place that is left among the missing parts from k on is the place among all
abbrev pub invariant-loop-k : goal.invariant-loop-k
invariant-loop-k l = (r : Result ℕ ℕ) → IsAt r l.rest (passing (λ j. not (has_part l.self.words j)) l.k l.below) → IsAt r l.n (filter (λ j. not (has_part l.self.words j)) (range_with_len 0 l.below))
