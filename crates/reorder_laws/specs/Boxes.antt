-- The first value of a mailbox, and those behind it.
use Rattle.std.specs.Prelude.{ℕ, List, [], ◌∷◌, Option, Some, None}

abbrev pub later_of : List ℕ → List ℕ
later_of [] = []
later_of (x ∷ later) = later

abbrev pub first_of : List ℕ → Option ℕ
first_of [] = None
first_of (x ∷ later) = Some x
