-- The counts of what went through the mailboxes.
use Rattle.std.specs.Prelude.{◌≡◌, ℕ, ◌+◌, ◌*◌, ◌<◌, ◌^◌, List, length, slice_index, slice_set, ⊤}
use Rattle.cell_machine.specs.declared.effect.Note.{Note}
use Rattle.cell_machine.specs.declared.effect.Note.TheVariants.{Put, Take}
use Rattle.race_order.specs.Trace.{Trace, puts, takes}
use Rattle.race_order.specs.declared.boxes.Boxes.{Boxes}

-- the counts have room for what the note says
abbrev pub Fits : Boxes → Note → Type 0
Fits boxes (Put q m) = (3 * q + m < length boxes.puts.items) × (slice_index boxes.puts.items (3 * q + m) + 1 < 2 ^ 32)
Fits boxes (Take q m) = (3 * q + m < length boxes.takes.items) × (slice_index boxes.takes.items (3 * q + m) + 1 < 2 ^ 32)
Fits boxes _ = ⊤

abbrev pub one_more : List ℕ → ℕ → List ℕ
one_more counts k = slice_set counts k (slice_index counts k + 1)

abbrev pub counts_after_put : List ℕ → Note → List ℕ
counts_after_put counts (Put q m) = one_more counts (3 * q + m)
counts_after_put counts _ = counts

abbrev pub counts_after_take : List ℕ → Note → List ℕ
counts_after_take counts (Take q m) = one_more counts (3 * q + m)
counts_after_take counts _ = counts

-- the counts are those of the steps so far
pub record Shows (n : ℕ) (boxes : Boxes) (trace : Trace) : Type 0 where
  pub puts_size : length boxes.puts.items ≡ 3 * n
  pub takes_size : length boxes.takes.items ≡ 3 * n
  pub put : (q m : ℕ) → q < n → m < 3 → slice_index boxes.puts.items (3 * q + m) ≡ puts q m trace
  pub taken : (q m : ℕ) → q < n → m < 3 → slice_index boxes.takes.items (3 * q + m) ≡ takes q m trace
