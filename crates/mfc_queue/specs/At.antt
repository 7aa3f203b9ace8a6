-- Places in a list.
use Rattle.std.specs.Prelude.{◌≡◌, ℕ, ◌+◌, List, length, Some, Result, Ok, Err, slice_get}

-- what stands at place n, or how far n is behind the last place
abbrev pub IsAt : {X : Type 0} → Result X ℕ → ℕ → List X → Type 0
IsAt (Ok x) n xs = slice_get xs n ≡ Some x
IsAt (Err rest) n xs = n ≡ length xs + rest
