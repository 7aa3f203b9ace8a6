-- Sets of instructions, each by its number.
use Rattle.std.specs.Prelude.{ℕ, ◌^◌, ◌==◌, Bool, false, List, filter, slice_index_or}
use Rattle.std.specs.List.{list_any, range_with_len}

-- The instruction at address a of processor p has the number 4 * a + p: sixteen processors have this many.
unfoldable pub most : ℕ
most = 2 ^ 20

abbrev pub is_among : ℕ → List ℕ → Bool
is_among n numbers = list_any (λ k. n == k) numbers

-- each of these numbers once, in ascending order
unfoldable pub set_of : List ℕ → List ℕ
set_of numbers = filter (λ n. is_among n numbers) (range_with_len 0 most)

-- the numbers that have a mark
abbrev pub is_marked : List Bool → ℕ → Bool
is_marked marks n = slice_index_or marks n false

unfoldable pub marked : List Bool → List ℕ
marked marks = filter (is_marked marks) (range_with_len 0 most)
