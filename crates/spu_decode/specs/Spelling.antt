-- Which words spell which instructions. Bit 0 of a word is the most significant of 32.
use Rattle.std.specs.Prelude.{◌≡◌, ℕ, ◌+◌, ◌-◌, ◌*◌, ◌/◌, ◌%◌, ◌^◌, ◌<◌, ◌==◌, ◌&&◌, Bool, true, List, Option}
use Rattle.std.specs.List.{find}
use Rattle.std.specs.Option.{option_map}
use Rattle.spu_decode.specs.declared.table.TheConstants.{ROWS}
use Rattle.spu_decode.specs.declared.Instr.{Instr}
use Rattle.spu_decode.specs.declared.row.Row.{Row}
use Rattle.spu_decode.specs.declared.shape.Format.{Format}
use Rattle.spu_decode.specs.declared.shape.Format.TheVariants.{Rr, Indirect, Rrr, Ri7, Ri10, Ri16, Ri18, Stop}
use Rattle.spu_decode.specs.declared.shape.Operands.{Operands}
use Rattle.spu_decode.specs.declared.shape.Operands.TheVariants.{RtDisplacementRa, RtSevenRa, RtRaRb, RtRaRbRc, RtRa, RaRb, Ra, RtAbsolute, RtRelative, Absolute, Relative, RtSignedHalf, RtHalf, RtUnsigned, RtRaTen, RtRaByte, RtRaSeven, RaTen, Code, RtChannel, ChannelRt, OptionalRegister, HintRa, HintAddresses, Bare}
use Rattle.spu_decode.specs.declared.shape.Shape.{Shape}
use Rattle.spu_decode.specs.Table.{entry_of}

-- bits `from` to `to` of a word, as a number
abbrev pub bits : ℕ → ℕ → ℕ → ℕ
bits from to w = w / 2 ^ (31 - to) % 2 ^ (to + 1 - from)

-- how many bits the opcode has, from bit 0 on
abbrev pub opcode_bits : Format → ℕ
opcode_bits Rr = 11
opcode_bits Indirect = 11
opcode_bits Rrr = 4
opcode_bits Ri7 = 11
opcode_bits Ri10 = 8
opcode_bits Ri16 = 9
opcode_bits Ri18 = 7
opcode_bits Stop = 11

-- the fields of a format; one that it lacks is 0
abbrev pub fields_in : Format → Row → ℕ → Instr
fields_in Rr row w = record { row = row; rt = bits 25 31 w; ra = bits 18 24 w; rb = bits 11 17 w; rc = 0; imm = 0 }
fields_in Indirect row w = record { row = row; rt = bits 25 31 w; ra = bits 18 24 w; rb = 0; rc = 0; imm = 0 }
fields_in Rrr row w = record { row = row; rt = bits 4 10 w; ra = bits 18 24 w; rb = bits 11 17 w; rc = bits 25 31 w; imm = 0 }
fields_in Ri7 row w = record { row = row; rt = bits 25 31 w; ra = bits 18 24 w; rb = 0; rc = 0; imm = bits 11 17 w }
fields_in Ri10 row w = record { row = row; rt = bits 25 31 w; ra = bits 18 24 w; rb = 0; rc = 0; imm = bits 8 17 w }
fields_in Ri16 row w = record { row = row; rt = bits 25 31 w; ra = 0; rb = 0; rc = 0; imm = bits 9 24 w }
fields_in Ri18 row w = record { row = row; rt = bits 25 31 w; ra = 0; rb = 0; rc = 0; imm = bits 7 24 w }
fields_in Stop row w = record { row = row; rt = 0; ra = 0; rb = 0; rc = 0; imm = bits 18 31 w }

-- bits that must be 0: an indirect branch has neither of the interrupt bits 12 and 13
abbrev pub IsClear : Format → ℕ → Type 0
IsClear Indirect w = bits 12 13 w ≡ 0
IsClear _ w = Unit {0}

-- the fields that the operands name; the others are 0
abbrev pub named : Operands → Instr → Instr
named RtDisplacementRa i = record i { rb = 0; rc = 0 }
named RtSevenRa i = record i { rb = 0; rc = 0 }
named RtRaRb i = record i { rc = 0; imm = 0 }
named RtRaRbRc i = record i { imm = 0 }
named RtRa i = record i { rb = 0; rc = 0; imm = 0 }
named RaRb i = record i { rt = 0; rc = 0; imm = 0 }
named Ra i = record i { rt = 0; rb = 0; rc = 0; imm = 0 }
named RtAbsolute i = record i { ra = 0; rb = 0; rc = 0 }
named RtRelative i = record i { ra = 0; rb = 0; rc = 0 }
named Absolute i = record i { rt = 0; ra = 0; rb = 0; rc = 0 }
named Relative i = record i { rt = 0; ra = 0; rb = 0; rc = 0 }
named RtSignedHalf i = record i { ra = 0; rb = 0; rc = 0 }
named RtHalf i = record i { ra = 0; rb = 0; rc = 0 }
named RtUnsigned i = record i { ra = 0; rb = 0; rc = 0 }
named RtRaTen i = record i { rb = 0; rc = 0 }
named RtRaByte i = record i { rb = 0; rc = 0 }
named RtRaSeven i = record i { rb = 0; rc = 0 }
named RaTen i = record i { rt = 0; rb = 0; rc = 0 }
named Code i = record i { rt = 0; ra = 0; rb = 0; rc = 0 }
named RtChannel i = record i { rb = 0; rc = 0; imm = 0 }
named ChannelRt i = record i { rb = 0; rc = 0; imm = 0 }
named OptionalRegister i = record i { rt = 0; ra = 0; rb = 0; rc = 0; imm = 0 }
named HintRa i = record i { rt = 0; ra = 0; rb = 0; rc = 0; imm = 0 }
named HintAddresses i = record i { rt = 0; ra = 0; rb = 0; rc = 0; imm = 0 }
named Bare i = record i { rt = 0; ra = 0; rb = 0; rc = 0; imm = 0 }

-- the part of a row's entry that decoding needs
abbrev pub shape_of : Row → Shape
shape_of row = (entry_of row).shape

-- what a row is called
abbrev pub mnemonic_of : Row → List ℕ
mnemonic_of row = (entry_of row).mnemonic

-- a word begins with the opcode of a shape
abbrev pub BeginsWith : ℕ → Shape → Type 0
BeginsWith w shape = bits 0 (opcode_bits shape.format - 1) w ≡ shape.opcode

-- a word begins with the opcode of a row
abbrev pub Begins : ℕ → Row → Type 0
Begins w row = BeginsWith w (shape_of row)

-- the fields that a row names, as they stand in a word
abbrev pub fields_of : Row → ℕ → Instr
fields_of row w = named (shape_of row).operands (fields_in (shape_of row).format row w)

-- a word spells an instruction: it begins with the row's opcode, the bits that must be 0 are,
-- and the fields that the row names are as they stand in the word
pub record Spells (w : ℕ) (i : Instr) : Type 0 where
  pub opcode : Begins w i.row
  pub clear : IsClear (shape_of i.row).format w
  pub fields : i ≡ fields_of i.row w

-- how many bits the immediate of a format has
abbrev pub immediate_bits : Format → ℕ
immediate_bits Ri7 = 7
immediate_bits Ri10 = 10
immediate_bits Ri16 = 16
immediate_bits Ri18 = 18
immediate_bits Stop = 14
immediate_bits _ = 0

-- each field fits its place in the format
pub record IsWithin (format : Format) (i : Instr) : Type 0 where
  pub rt : i.rt < 128
  pub ra : i.ra < 128
  pub rb : i.rb < 128
  pub rc : i.rc < 128
  pub imm : i.imm < 2 ^ immediate_bits format

-- each field fits, and one that the row does not name is 0
pub record FieldsFit (i : Instr) : Type 0 where
  pub within : IsWithin (shape_of i.row).format i
  pub others : named (shape_of i.row).operands i ≡ i

-- the fields at their places in a word, with 0 in every other bit
abbrev pub placed : Format → Instr → ℕ
placed Rr i = i.rb * 2 ^ 14 + i.ra * 2 ^ 7 + i.rt
placed Indirect i = i.ra * 2 ^ 7 + i.rt
placed Rrr i = i.rt * 2 ^ 21 + i.rb * 2 ^ 14 + i.ra * 2 ^ 7 + i.rc
placed Ri7 i = i.imm * 2 ^ 14 + i.ra * 2 ^ 7 + i.rt
placed Ri10 i = i.imm * 2 ^ 14 + i.ra * 2 ^ 7 + i.rt
placed Ri16 i = i.imm * 2 ^ 7 + i.rt
placed Ri18 i = i.imm * 2 ^ 7 + i.rt
placed Stop i = i.imm

-- the word of an instruction, with 0 in the bits that its row does not name
abbrev pub word_of : Instr → ℕ
word_of i =
    let shape = shape_of i.row in
    shape.opcode * 2 ^ (32 - opcode_bits shape.format) + placed shape.format i

-- the same as a test: a word begins with the opcode of a row, and the bits that must be 0 are
abbrev pub is_clear : Format → ℕ → Bool
is_clear Indirect w = bits 12 13 w == 0
is_clear _ w = true

abbrev pub is_of : ℕ → Row → Bool
is_of w row = (bits 0 (opcode_bits (shape_of row).format - 1) w == (shape_of row).opcode) && is_clear (shape_of row).format w

-- the instruction of a word: that of the first row, among all, that the word is of
unfoldable pub instr_of : ℕ → Option Instr
instr_of w = option_map (λ row. fields_of row w) (find (is_of w) ROWS)
