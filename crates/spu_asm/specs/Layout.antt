-- All text lines stand in order from address 0, all data lines from the next multiple of 128 at or above the text's end.
use Rattle.std.specs.Prelude.{ℕ, ◌+◌, ◌-◌, ◌*◌, ◌/◌, ◌%◌, ◌^◌, max, Bool, true, false, not, List, [], ◌∷◌, Result, Ok, Err, if◌then◌else◌, nat_lt, ◌==◌, length, slice_index}
use Rattle.spu_asm.specs.declared.error.AsmError.{AsmError}
use Rattle.spu_asm.specs.declared.error.AsmKind.{AsmKind}
use Rattle.spu_asm.specs.declared.error.AsmKind.TheVariants.{NotMultiple, Overlap, OutsideStore}
use Rattle.spu_asm.specs.declared.syntax.Section.{Section}
use Rattle.spu_asm.specs.declared.syntax.Section.TheVariants.{Text, Data}
use Rattle.spu_asm.specs.declared.syntax.Size.{Size}
use Rattle.spu_asm.specs.declared.syntax.Size.TheVariants.{Byte, Half, Word, Double}
use Rattle.spu_asm.specs.declared.syntax.Statement.{Statement}
use Rattle.spu_asm.specs.declared.syntax.Statement.TheVariants.{Nothing, Choose, Align, Org, Skip, Values, Bytes, Instruction}
use Rattle.spu_asm.specs.Outcomes.{◌>>=◌, on_line}
use Rattle.spu_asm.specs.Source.{SourceLine}

-- the least multiple of m at or above n
abbrev pub next_multiple : ℕ → ℕ → ℕ
next_multiple m n = (n + (m - 1)) / m * m

abbrev pub bytes_in : Size → ℕ
bytes_in Byte = 1
bytes_in Half = 2
bytes_in Word = 4
bytes_in Double = 8

-- `.align n` is to a multiple of 2^n, in text at least of 4
abbrev pub alignment : Section → ℕ → ℕ
alignment Text n = 2 ^ max 2 n
alignment Data n = 2 ^ n

-- the address after a statement that stands at an address
unfoldable pub address_after : Section → ℕ → Statement → ℕ
address_after section at Nothing = at
address_after section at (Choose other) = at
address_after section at (Align n) = next_multiple (alignment section n) at
address_after section at (Org n) = n
address_after section at (Skip n) = at + n
address_after section at (Values size count) = at + bytes_in size * count
address_after section at (Bytes n zero_byte) = at + n + (if zero_byte then 1 else 0)
address_after section at (Instruction row given) = at + 4

abbrev pub is_multiple_of_4 : ℕ → Bool
is_multiple_of_4 n = n % 4 == 0

-- in text, numbers of `.org`, `.skip` and `.space`; in data, addresses of instructions
abbrev pub is_not_multiple : Section → ℕ → Statement → Bool
is_not_multiple Text at (Org n) = not (is_multiple_of_4 n)
is_not_multiple Text at (Skip n) = not (is_multiple_of_4 n)
is_not_multiple Data at (Instruction row given) = not (is_multiple_of_4 at)
is_not_multiple _ at _ = false

abbrev pub overlaps : ℕ → Statement → Bool
overlaps at (Org n) = nat_lt n at
overlaps at _ = false

-- the address after a statement, or what is wrong with its place
unfoldable pub placed : Section → ℕ → Statement → Result ℕ AsmKind
placed section at statement =
    if is_not_multiple section at statement then Err NotMultiple
    else (if overlaps at statement then Err Overlap
    else (if nat_lt 262144 (address_after section at statement) then Err OutsideStore
    else Ok (address_after section at statement)))

abbrev pub same_section : Section → Section → Bool
same_section Text Text = true
same_section Data Data = true
same_section _ _ = false

-- the address of a section after a line, which moves its own section alone
abbrev pub stepped : Section → ℕ → SourceLine → Result ℕ AsmError
stepped section at line = if same_section section line.section then on_line line.number (placed section at line.statement) else Ok at

-- the present address of a section at each line, and after all lines
unfoldable pub addresses : Section → ℕ → List SourceLine → Result (List ℕ) AsmError
addresses section at [] = Ok (at ∷ [])
addresses section at (line ∷ lines) = do
  next ← stepped section at line
  rest ← addresses section next lines
  Ok (at ∷ rest)

-- where the data begin
abbrev pub data_start : ℕ → ℕ
data_start text_end = next_multiple 128 text_end

abbrev pub present : Section → ℕ → ℕ → ℕ
present Text text_at data_at = text_at
present Data text_at data_at = data_at

-- the place of each line: the present address of its section
unfoldable pub places : List SourceLine → List ℕ → List ℕ → List ℕ
places (line ∷ lines) (t ∷ text_at) (d ∷ data_at) = present line.section t d ∷ places lines text_at data_at
places _ _ _ = []

-- where a section ends that begins at an address
abbrev pub section_end : Section → ℕ → List SourceLine → Result ℕ AsmError
section_end section at lines = addresses section at lines >>= λ found. Ok (slice_index found (length lines))

-- the addresses of text and of data after a line
abbrev pub both_stepped : ℕ → ℕ → SourceLine → Result (ℕ × ℕ) AsmError
both_stepped text_at data_at line = stepped Text text_at line >>= λ t. stepped Data data_at line >>= λ d. Ok (t, d)

-- the place of each line, by the present addresses of text and of data
unfoldable pub places_from : ℕ → ℕ → List SourceLine → Result (List ℕ) AsmError
places_from text_at data_at [] = Ok []
places_from text_at data_at (line ∷ lines) = do
  next ← both_stepped text_at data_at line
  rest ← places_from next.0 next.1 lines
  Ok (present line.section text_at data_at ∷ rest)
