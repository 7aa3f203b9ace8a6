-- Bytes of the local stores, numbered through all stores in their order.
use Rattle.std.specs.Prelude.{◌≡◌, ℕ, ◌+◌, ◌*◌, ◌<◌, ◌≤◌, Bool, true, ◌&&◌, nat_le, nat_lt}
use Rattle.cell_machine.specs.declared.effect.Place.{Place}
use Rattle.cell_machine.specs.declared.effect.Place.TheVariants.{Memory, Local}
use Rattle.cell_machine.specs.declared.effect.Span.{Span}
use Rattle.unwritten_reads.specs.declared.range.ByteRange.{ByteRange}
use Rattle.unwritten_reads.specs.Reads.{is_in}

-- the number of byte x of processor p's local store
abbrev pub number : ℕ → ℕ → ℕ
number p x = 262144 * p + x

abbrev pub in_range : ByteRange → ℕ → Bool
in_range r b = nat_le r.from b && nat_lt b r.end

-- `len` bytes of processor p's local store, from address `at` on
abbrev pub range_in : ℕ → ℕ → ℕ → ByteRange
range_in p at len = record { from = number p at; end = number p at + len }

-- the bytes of a span; empty for a span of main memory
abbrev pub range_at : Place → ℕ → ℕ → ByteRange
range_at Memory at len = record { from = 0; end = 0 }
range_at (Local p) at len = range_in p at len

abbrev pub range_of : Span → ByteRange
range_of span = range_at span.place span.at span.len

-- with 4,096 words for each local store, the words have marks for all local bytes of the span
abbrev pub IsInside : ℕ → Span → Type 0
IsInside words span = (p x : ℕ) → is_in span p x ≡ true → (4096 * p + 4096 ≤ words) × (x < 262144)

-- the words have marks for all bytes of the range
abbrev pub IsWithin : ℕ → ByteRange → Type 0
IsWithin words r = r.from < r.end → r.end ≤ 64 * words
