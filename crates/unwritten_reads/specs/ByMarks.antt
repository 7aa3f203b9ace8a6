-- The unwritten bytes that a step reads, found by the marks of the known bytes.
use Rattle.std.specs.Prelude.{◌≡◌, ℕ, ◌<◌, Bool, true, false, Option, Some, None}
use Rattle.cell_base.specs.declared.steps.Step.{Step}
use Rattle.cell_machine.specs.declared.effect.Span.{Span}
use Rattle.unwritten_reads.specs.declared.known.Known.{Known}
use Rattle.unwritten_reads.specs.declared.unwritten.Unwritten.{Unwritten}
use Rattle.unwritten_reads.specs.Marks.{is_marked}
use Rattle.unwritten_reads.specs.Ranges.{number}
use Rattle.unwritten_reads.specs.Reads.{is_in, is_instruction}

-- whether byte x of processor p's local store is in the set
abbrev pub has : Known → ℕ → ℕ → Bool
has known p x = is_marked known.marks (number p x)

-- a step that reads this span reads unwritten bytes, and this one is the first of them
pub record ReadsUnwritten (known : Known) (s : Step) (span : Span) (p at : ℕ) : Type 0 where
  pub read : is_in span p at ≡ true
  pub unknown : has known p at ≡ false
  pub first : (x : ℕ) → x < at → is_in span p x ≡ true → has known p x ≡ true
  pub none : is_instruction s ≡ true → (x : ℕ) → is_in span p x ≡ true → has known p x ≡ false

-- the unwritten read by a step at this place of the run, if there is one
abbrev pub IsUnwrittenBy : Known → Step → Span → ℕ → Option Unwritten → Type 0
IsUnwrittenBy known s span place None = (p at : ℕ) → ReadsUnwritten known s span p at → ⊥
IsUnwrittenBy known s span place (Some u) = (u.place ≡ place) × ReadsUnwritten known s span u.spe u.at
