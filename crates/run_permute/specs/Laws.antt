-- Laws of the reorderings of numbers.
use Rattle.std.specs.Prelude.{◌≡◌, ℕ, List, length}
use Rattle.std.specs.List.{range_with_len}
use Rattle.cell_machine.specs.Run.{Ran}
use Rattle.race_check.specs.Reorderings.{KeepsOrder}
use Rattle.reorder_laws.specs.OrderedLaws.{IsOrdered}
use Rattle.run_permute.specs.Nth.{IsNth}

-- there is no more than one of each number
abbrev pub NumbersNameOne : Type 0
NumbersNameOne = (m : Ran) (number : ℕ) (a b : List ℕ) → IsNth m number a → IsNth m number b → a ≡ b

-- it has each place once, and keeps the ordered pairs
abbrev pub NumbersNameReorderings : Type 0
NumbersNameReorderings = (m : Ran) (number : ℕ) (order : List ℕ) → IsNth m number order → KeepsOrder (IsOrdered m) (length m.steps) order

-- that of 0 is the recorded order
abbrev pub ZeroNamesTheRun : Type 0
ZeroNamesTheRun = (m : Ran) (order : List ℕ) → IsNth m 0 order → order ≡ range_with_len 0 (length m.steps)
