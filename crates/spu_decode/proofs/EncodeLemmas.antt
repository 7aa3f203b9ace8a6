-- A word of a row has the fields that were put into it.
use Rattle.std.proofs.Common.{◌≡◌, ℕ, ◌+◌, ◌-◌, ◌*◌, ◌^◌, ◌<◌, nat_lt, true, refl, sym, ◌∙◌, ap, subst, arith, ltb-true}
use Rattle.spu_decode.specs.declared.row.Row.{Row}
use Rattle.spu_decode.specs.declared.row.Row.TheVariants.{Lqd}
use Rattle.spu_decode.specs.declared.Instr.{Instr}
use Rattle.spu_decode.specs.declared.shape.Format.{Format}
use Rattle.spu_decode.specs.declared.shape.Format.TheVariants.{Rr, Indirect, Rrr, Ri7, Ri10, Ri16, Ri18, Stop}
use Rattle.spu_decode.specs.Table.{entry_of}
use Rattle.spu_decode.specs.Spelling.{shape_of, bits, opcode_bits, IsClear, Spells, named, fields_in, placed, IsWithin, FieldsFit, word_of}

-- each opcode has as many bits as its format says
opcode_test : (row : Row) → nat_lt (shape_of row).opcode (2 ^ opcode_bits (shape_of row).format) ≡ true
unfolding entry_of
opcode_test Lqd = refl
opcode_test _ = refl

pub opcode_fits : (row : Row) → (shape_of row).opcode < 2 ^ opcode_bits (shape_of row).format
opcode_fits row = ltb-true _ _ (opcode_test row)

-- the fields that a format has; the others are 0
abbrev kept : Format → Instr → Instr
kept Rr i = record i { rc = 0; imm = 0 }
kept Indirect i = record i { rb = 0; rc = 0; imm = 0 }
kept Rrr i = record i { imm = 0 }
kept Ri7 i = record i { rb = 0; rc = 0 }
kept Ri10 i = record i { rb = 0; rc = 0 }
kept Ri16 i = record i { ra = 0; rb = 0; rc = 0 }
kept Ri18 i = record i { ra = 0; rb = 0; rc = 0 }
kept Stop i = record i { rt = 0; ra = 0; rb = 0; rc = 0 }

-- the operands of a row name only fields that its format has
kept_named : (row : Row) (i : Instr) → kept (shape_of row).format (named (shape_of row).operands i) ≡ named (shape_of row).operands i
unfolding entry_of
kept_named Lqd i = refl
kept_named _ i = refl

abbrev joined : Format → ℕ → Instr → ℕ
joined format opcode i = opcode * 2 ^ (32 - opcode_bits format) + placed format i

joined_opcode : (format : Format) (opcode : ℕ) (i : Instr) → opcode < 2 ^ opcode_bits format → IsWithin format i
    → bits 0 (opcode_bits format - 1) (joined format opcode i) ≡ opcode
joined_opcode Rr opcode i h fit = omega arith
joined_opcode Indirect opcode i h fit = omega arith
joined_opcode Rrr opcode i h fit = omega arith
joined_opcode Ri7 opcode i h fit = omega arith
joined_opcode Ri10 opcode i h fit = omega arith
joined_opcode Ri16 opcode i h fit = omega arith
joined_opcode Ri18 opcode i h fit = omega arith
joined_opcode Stop opcode i h fit = omega arith

joined_below : (format : Format) (opcode : ℕ) (i : Instr) → opcode < 2 ^ opcode_bits format → IsWithin format i → joined format opcode i < 2 ^ 32
joined_below Rr opcode i h fit = omega arith
joined_below Indirect opcode i h fit = omega arith
joined_below Rrr opcode i h fit = omega arith
joined_below Ri7 opcode i h fit = omega arith
joined_below Ri10 opcode i h fit = omega arith
joined_below Ri16 opcode i h fit = omega arith
joined_below Ri18 opcode i h fit = omega arith
joined_below Stop opcode i h fit = omega arith

pub word_below : (i : Instr) → FieldsFit i → word_of i < 2 ^ 32
word_below i fit = joined_below (shape_of i.row).format (shape_of i.row).opcode i (opcode_fits i.row) fit.within

joined_clear : (format : Format) (opcode : ℕ) (i : Instr) → IsWithin format i → IsClear format (joined format opcode i)
joined_clear Indirect opcode i fit = omega arith
joined_clear _ opcode i fit = tt

record SameFields (i j : Instr) : Type 0 where
  row : i.row ≡ j.row
  rt : i.rt ≡ j.rt
  ra : i.ra ≡ j.ra
  rb : i.rb ≡ j.rb
  rc : i.rc ≡ j.rc
  imm : i.imm ≡ j.imm

abbrev instr : Row → ℕ → ℕ → ℕ → ℕ → ℕ → Instr
instr row rt ra rb rc imm = record { row = row; rt = rt; ra = ra; rb = rb; rc = rc; imm = imm }

same_parts : (row row' : Row) (rt rt' ra ra' rb rb' rc rc' imm imm' : ℕ) → row ≡ row' → rt ≡ rt' → ra ≡ ra' → rb ≡ rb' → rc ≡ rc' → imm ≡ imm' → instr row rt ra rb rc imm ≡ instr row' rt' ra' rb' rc' imm'
same_parts row row' rt rt' ra ra' rb rb' rc rc' imm imm' e1 e2 e3 e4 e5 e6 = cc

same_fields : (i j : Instr) → SameFields i j → i ≡ j
same_fields i j s = same_parts _ _ _ _ _ _ _ _ _ _ _ _ s.row s.rt s.ra s.rb s.rc s.imm

joined_fields : (format : Format) (opcode : ℕ) (i : Instr) → opcode < 2 ^ opcode_bits format → IsWithin format i → SameFields (fields_in format i.row (joined format opcode i)) (kept format i)
joined_fields Rr opcode i h fit = record { row = refl; rt = omega arith; ra = omega arith; rb = omega arith; rc = refl; imm = refl }
joined_fields Indirect opcode i h fit = record { row = refl; rt = omega arith; ra = omega arith; rb = refl; rc = refl; imm = refl }
joined_fields Rrr opcode i h fit = record { row = refl; rt = omega arith; ra = omega arith; rb = omega arith; rc = omega arith; imm = refl }
joined_fields Ri7 opcode i h fit = record { row = refl; rt = omega arith; ra = omega arith; rb = refl; rc = refl; imm = omega arith }
joined_fields Ri10 opcode i h fit = record { row = refl; rt = omega arith; ra = omega arith; rb = refl; rc = refl; imm = omega arith }
joined_fields Ri16 opcode i h fit = record { row = refl; rt = omega arith; ra = refl; rb = refl; rc = refl; imm = omega arith }
joined_fields Ri18 opcode i h fit = record { row = refl; rt = omega arith; ra = refl; rb = refl; rc = refl; imm = omega arith }
joined_fields Stop opcode i h fit = record { row = refl; rt = refl; ra = refl; rb = refl; rc = refl; imm = omega arith }

pub word_spells : (i : Instr) → FieldsFit i → Spells (word_of i) i
word_spells i fit =
    let shape = shape_of i.row in
    let fits = opcode_fits i.row in
    let only : kept shape.format i ≡ i = subst (λ j. kept shape.format j ≡ j) fit.others (kept_named i.row i) in
    let read : fields_in shape.format i.row (word_of i) ≡ i =
    same_fields _ _ (joined_fields shape.format shape.opcode i fits fit.within) ∙ only in
    record {
      opcode = joined_opcode shape.format shape.opcode i fits fit.within;
      clear = joined_clear shape.format shape.opcode i fit.within;
      fields = sym (ap (named shape.operands) read ∙ fit.others);
    }
