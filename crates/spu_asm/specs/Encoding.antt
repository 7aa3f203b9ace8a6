-- The bytes of each line.
use Rattle.std.specs.Prelude.{ℕ, ◌-◌, ◌*◌, ◌/◌, ◌^◌, ◌<◌, ◌≤ℤ◌, neg_ℤ, ℤ, pos, negsuc, ◌-ℤ◌, Bool, true, false, ◌&&◌, List, [], ◌∷◌, ◌++◌, Option, None, Some, Result, Ok, Err, if◌then◌else◌, ◌==◌, int_le}
use Rattle.std.specs.List.{repeat}
use Rattle.std.specs.Int.{w8, w16, w32, w64, Width, to_be_bytes}
use Rattle.spu_lex.specs.declared.Token.{Token}
use Rattle.spu_decode.specs.declared.Instr.{Instr}
use Rattle.spu_decode.specs.declared.row.Row.{Row}
use Rattle.spu_decode.specs.declared.row.Row.TheVariants.{Lnop}
use Rattle.spu_decode.specs.declared.shape.Operands.{Operands}
use Rattle.spu_decode.specs.declared.shape.Operands.TheVariants.{RtDisplacementRa, RtSevenRa, RtAbsolute, RtRelative, Absolute, Relative, RtSignedHalf, RtHalf, RtUnsigned, RtRaTen, RtRaByte, RtRaSeven, RaTen, Code, HintRa, HintAddresses}
use Rattle.spu_decode.specs.declared.shape.Shape.{Shape}
use Rattle.spu_decode.specs.Spelling.{shape_of, word_of, named, immediate_bits}
use Rattle.spu_asm.specs.declared.error.AsmKind.{AsmKind}
use Rattle.spu_asm.specs.declared.error.AsmKind.TheVariants.{Undefined, NotMultiple, OutOfRange}
use Rattle.spu_asm.specs.declared.syntax.Section.{Section}
use Rattle.spu_asm.specs.declared.syntax.Section.TheVariants as sections
use Rattle.spu_asm.specs.declared.syntax.Size.{Size}
use Rattle.spu_asm.specs.declared.syntax.Size.TheVariants.{Byte, Half, Word, Double}
use Rattle.spu_asm.specs.declared.syntax.Expression.{Expression}
use Rattle.spu_asm.specs.declared.syntax.Given.{Given}
use Rattle.spu_asm.specs.declared.syntax.Range.{Range}
use Rattle.spu_asm.specs.declared.syntax.Statement.{Statement}
use Rattle.spu_asm.specs.declared.syntax.Statement.TheVariants.{Nothing, Choose, Align, Org, Skip, Values, Bytes, Instruction}
use Rattle.spu_asm.specs.Outcomes.{◌>>=◌, or_else}
use Rattle.spu_asm.specs.Source.{Labels, SourceLine}
use Rattle.spu_asm.specs.Layout.{address_after, bytes_in}
use Rattle.spu_asm.specs.Values.{value_of, modulo, quotient}
use Rattle.spu_asm.specs.Statements.{expressions_among, string_among}

-- from `low` to `high`, and a multiple of `step`
abbrev pub range : ℤ → ℤ → ℕ → Range
range low high step = record { low = low; high = high; step = step }

abbrev pub is_in : Range → ℤ → Bool
is_in r v = int_le r.low v && int_le v r.high

-- a value that a range allows, or what is wrong with it
unfoldable pub allowed : Range → ℤ → Result ℤ AsmKind
allowed r v = if modulo v r.step == 0 then (if is_in r v then Ok v else Err OutOfRange) else Err NotMultiple

-- what the value in operands has to be, by their form
abbrev pub range_of : Operands → Range
range_of RtDisplacementRa = range (negsuc 8191) (pos 8176) 16
range_of RtSevenRa = range (negsuc 63) (pos 127) 1
range_of RtAbsolute = range (pos 0) (pos 262143) 4
range_of RtRelative = range (pos 0) (pos 262143) 4
range_of Absolute = range (pos 0) (pos 262143) 4
range_of Relative = range (pos 0) (pos 262143) 4
range_of RtSignedHalf = range (negsuc 32767) (pos 32767) 1
range_of RtHalf = range (negsuc 32767) (pos 65535) 1
range_of RtUnsigned = range (pos 0) (pos 262143) 1
range_of RtRaTen = range (negsuc 511) (pos 511) 1
range_of RtRaByte = range (negsuc 127) (pos 255) 1
range_of RtRaSeven = range (negsuc 63) (pos 127) 1
range_of RaTen = range (negsuc 511) (pos 511) 1
range_of Code = range (pos 0) (pos 16383) 1
range_of _ = range (pos 0) (pos 0) 1

-- what is kept of it at an address: a sixteenth of a displacement, a quarter of an address or of its distance
abbrev pub scaled : Operands → ℕ → ℤ → ℤ
scaled RtDisplacementRa at v = quotient v 16
scaled RtAbsolute at v = quotient v 4
scaled RtRelative at v = quotient (v -ℤ pos at) 4
scaled Absolute at v = quotient v 4
scaled Relative at v = quotient (v -ℤ pos at) 4
scaled _ at v = v

-- the field of a value at an address: what is kept of it, modulo the field's size
unfoldable pub field : Shape → ℕ → Option ℤ → Result ℕ AsmKind
field shape at None = Ok 0
field shape at (Some v) = allowed (range_of shape.operands) v >>= λ v. Ok (modulo (scaled shape.operands at v) (2 ^ immediate_bits shape.format))

abbrev pub is_hint : Operands → Bool
is_hint HintRa = true
is_hint HintAddresses = true
is_hint _ = false

abbrev pub lnop : Instr
lnop = record { row = Lnop; rt = 0; ra = 0; rb = 0; rc = 0; imm = 0 }

-- the fields of a word; those that the row does not name are 0
abbrev pub instr : Row → Given → ℕ → Instr
instr row g imm = named (shape_of row).operands (record { row = row; rt = g.rt; ra = g.ra; rb = g.rb; rc = g.rc; imm = imm })

-- an instruction at an address, by the value in its operands; a hint is written as lnop
unfoldable pub instr_at : ℕ → Row → Given → Option ℤ → Result Instr AsmKind
instr_at at row g v = if is_hint (shape_of row).operands then Ok lnop else (field (shape_of row) at v >>= λ imm. Ok (instr row g imm))

-- the four bytes of an instruction
unfoldable pub instr_bytes : Instr → List ℕ
instr_bytes i = to_be_bytes w32 (word_of i)

-- the value of an expression, whose label is defined
abbrev pub defined : List ℕ → Labels → List ℕ → Expression → Result ℤ AsmKind
defined text labels places e = or_else Undefined (value_of text labels places e)

-- the value of an expression where there is one
abbrev pub valued : List ℕ → Labels → List ℕ → Option Expression → Result (Option ℤ) AsmKind
valued text labels places None = Ok None
valued text labels places (Some e) = defined text labels places e >>= λ v. Ok (Some v)

-- the bytes of an instruction at an address, whose labels are defined
unfoldable pub encoded : List ℕ → Labels → List ℕ → ℕ → Row → Given → Result (List ℕ) AsmKind
encoded text labels places at row g = do
  value ← valued text labels places g.value
  second ← valued text labels places g.second
  i ← instr_at at row g value
  Ok (instr_bytes i)

-- the values of some expressions
unfoldable pub values_of : List ℕ → Labels → List ℕ → List Expression → Result (List ℤ) AsmKind
values_of text labels places [] = Ok []
values_of text labels places (e ∷ es) = do
  v ← defined text labels places e
  vs ← values_of text labels places es
  Ok (v ∷ vs)

abbrev pub range_of_size : Size → Range
range_of_size Byte = range (negsuc 127) (pos 255) 1
range_of_size Half = range (negsuc 32767) (pos 65535) 1
range_of_size Word = range (negsuc (2 ^ 31 - 1)) (pos (2 ^ 32 - 1)) 1
range_of_size Double = range (negsuc (2 ^ 63 - 1)) (pos (2 ^ 64 - 1)) 1

abbrev pub width_of : Size → Width
width_of Byte = w8
width_of Half = w16
width_of Word = w32
width_of Double = w64

-- the big-endian bytes of a value
abbrev pub number_bytes : Size → ℤ → List ℕ
number_bytes size v = to_be_bytes (width_of size) (modulo v (2 ^ (8 * bytes_in size)))

-- the bytes of some values, each of which its size allows
unfoldable pub spelled : Size → List ℤ → Result (List ℕ) AsmKind
spelled size [] = Ok []
spelled size (v ∷ vs) = do
  v ← allowed (range_of_size size) v
  bytes ← spelled size vs
  Ok (number_bytes size v ++ bytes)

-- the bytes of a list of expressions: all its labels are looked up before any range is
abbrev pub value_bytes : List ℕ → Labels → List ℕ → Size → List Expression → Result (List ℕ) AsmKind
value_bytes text labels places size es = values_of text labels places es >>= spelled size

-- alignment in text is filled with lnop, all other filling is zero bytes
abbrev pub filling : Section → ℕ → List ℕ
filling sections.Text n = repeat (n / 4) (instr_bytes lnop)
filling sections.Data n = repeat n (0 ∷ [])

-- the bytes of a string, and a zero byte where one follows
abbrev pub text_bytes : List ℕ → List Token → Bool → List ℕ
text_bytes text ts zero_byte = string_among text ts ++ (if zero_byte then 0 ∷ [] else [])

-- the bytes of a line at its address
unfoldable pub bytes_of : List ℕ → Labels → List ℕ → ℕ → SourceLine → Result (List ℕ) AsmKind
bytes_of text labels places at line = by line.statement
  where
    zeros : List ℕ
    zeros = repeat (address_after line.section at line.statement - at) (0 ∷ [])

    by : Statement → Result (List ℕ) AsmKind
    by Nothing = Ok []
    by (Choose other) = Ok []
    by (Align n) = Ok (filling line.section (address_after line.section at line.statement - at))
    by (Org n) = Ok zeros
    by (Skip n) = Ok zeros
    by (Values size count) = value_bytes text labels places size (expressions_among text line.arguments)
    by (Bytes n zero_byte) = Ok (text_bytes text line.arguments zero_byte)
    by (Instruction row given) = encoded text labels places at row given

-- the ranges of operands are narrow
abbrev pub IsNarrow : Range → Type 0
IsNarrow r = (neg_ℤ (pos (2 ^ 20)) ≤ℤ r.low) × (r.high ≤ℤ pos (2 ^ 20)) × (0 < r.step)
