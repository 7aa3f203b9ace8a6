-- What a word spells fits the row's fields.
use Rattle.std.proofs.Common.{◌≡◌, ℕ, ◌<◌, ◌^◌, refl, sym, ◌∙◌, ap, subst, arith}
use Rattle.spu_decode.specs.declared.row.Row.{Row}
use Rattle.spu_decode.specs.declared.Instr.{Instr}
use Rattle.spu_decode.specs.declared.shape.Format.{Format}
use Rattle.spu_decode.specs.declared.shape.Format.TheVariants.{Rr}
use Rattle.spu_decode.specs.declared.shape.Operands.{Operands}
use Rattle.spu_decode.specs.declared.shape.Operands.TheVariants.{Bare}
use Rattle.spu_decode.specs.Spelling.{shape_of, immediate_bits, Spells, named, fields_in, IsWithin, FieldsFit}

zero_fits : (format : Format) → 0 < 2 ^ immediate_bits format
zero_fits Rr = omega arith
zero_fits _ = omega arith

within_read : (format : Format) (row : Row) (w : ℕ) → IsWithin format (fields_in format row w)
within_read Rr row w = record { rt = omega arith; ra = omega arith; rb = omega arith; rc = omega arith; imm = omega arith }
within_read _ row w = record { rt = omega arith; ra = omega arith; rb = omega arith; rc = omega arith; imm = omega arith }

within_named : (operands : Operands) (format : Format) (i : Instr) → 0 < 2 ^ immediate_bits format → IsWithin format i → IsWithin format (named operands i)
within_named Bare format i zero fit = record { rt = omega arith; ra = omega arith; rb = omega arith; rc = omega arith; imm = omega arith }
within_named _ format i zero fit = record { rt = omega arith; ra = omega arith; rb = omega arith; rc = omega arith; imm = omega arith }

named_twice : (operands : Operands) (i : Instr) → named operands (named operands i) ≡ named operands i
named_twice Bare i = refl
named_twice _ i = refl

pub Spells-FieldsFit : (w : ℕ) (i : Instr) → Spells w i → FieldsFit i
Spells-FieldsFit w i s =
    let shape = shape_of i.row in
    record {
      within = subst (λ j. IsWithin shape.format j) (sym s.fields) (within_named shape.operands shape.format _ (zero_fits shape.format) (within_read shape.format i.row w));
      others = ap (named shape.operands) s.fields ∙ named_twice shape.operands _ ∙ sym s.fields;
    }
