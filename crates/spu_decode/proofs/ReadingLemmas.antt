-- A word is read by what a word of ones is read as.
use Rattle.std.proofs.Common.{◌≡◌, ◌≢◌, ℕ, suc, ◌-◌, ◌/◌, ◌%◌, ◌^◌, ◌<◌, ◌↔◌, List, length, map, slice_get, get_or, Some, None, refl, sym, ◌∙◌, ap, subst, arith}
use Rattle.std.specs.Int.Bits.{bit_and}
use Rattle.std.specs.Option.{option_map}
use Rattle.std.proofs.lemmas.Nat.{and_mask}
use Rattle.std.proofs.lemmas.Nat.Bits.{and_high}
use Rattle.std.proofs.lemmas.Option.{slice_get-map, slice_get-get_or, get_or_from_slice_get}
use Rattle.spu_decode.specs.declared.fields.Reading.{Reading}
use Rattle.spu_decode.specs.declared.readings.TheConstants.{READINGS}
use Rattle.spu_decode.specs.declared.table.TheConstants.{ROWS, ROW_NUMBERS}
use Rattle.spu_decode.specs.declared.row.Row.{Row}
use Rattle.spu_decode.specs.declared.row.Row.TheVariants.{Lqd}
use Rattle.spu_decode.specs.declared.Instr.{Instr}
use Rattle.spu_decode.specs.declared.shape.Format.{Format}
use Rattle.spu_decode.specs.declared.shape.Format.TheVariants.{Rr, Indirect, Rrr, Ri7, Ri10, Ri16, Ri18, Stop}
use Rattle.spu_decode.specs.declared.shape.Operands.{Operands}
use Rattle.spu_decode.specs.declared.shape.Operands.TheVariants.{Bare}
use Rattle.spu_decode.specs.Table.{entry_of}
use Rattle.spu_decode.specs.Spelling.{shape_of, IsClear, Spells, named, fields_in, fields_of, instr_of}
use Rattle.spu_decode.specs.Reading.{clear_bits, rt_shift, imm_shift, reading_of}
use Rattle.spu_decode.proofs.TableLemmas.{row_fields_of, number_of_row, row_of_number, one_row, spells_from}
use Rattle.spu_decode.proofs.DecodeLemmas.{of_mapped, Spells-instr_of, instr_of-Spells, no_spelling-instr_of}

-- the readings of the code are those of specs/Reading.antt
readings : READINGS ≡ map reading_of ROWS
unfolding entry_of
readings = refl

-- the fields of a word, by those of a word of ones
abbrev by_ones : ℕ → ℕ → Instr → ℕ → Instr
by_ones rt imm ones w =
    record {
      row = ones.row;
      rt = bit_and (w / 2 ^ rt) ones.rt;
      ra = bit_and (w / 2 ^ 7) ones.ra;
      rb = bit_and (w / 2 ^ 14) ones.rb;
      rc = bit_and w ones.rc;
      imm = bit_and (w / 2 ^ imm) ones.imm;
    }

and_zero : (n : ℕ) → bit_and n 0 ≡ 0
and_zero n = let e = and_mask n 0 in omega (arith, e)

same_fields : (row : Row) {rt rt' ra ra' rb rb' rc rc' imm imm' : ℕ} → rt ≡ rt' → ra ≡ ra' → rb ≡ rb' → rc ≡ rc' → imm ≡ imm' →
    ◌≡◌ {A = Instr} (record { row = row; rt = rt; ra = ra; rb = rb; rc = rc; imm = imm }) (record { row = row; rt = rt'; ra = ra'; rb = rb'; rc = rc'; imm = imm' })
same_fields row rt ra rb rc imm = cc

rightmost : (w : ℕ) → bit_and w 127 ≡ w / 2 ^ 0 % 2 ^ 7
rightmost w = let e = and_mask w 7 in omega (arith, e)

by_format : (format : Format) (row : Row) (w : ℕ) → by_ones (rt_shift format) (imm_shift format) (fields_in format row (2 ^ 32 - 1)) w ≡ fields_in format row w
by_format Rr row w = same_fields row (and_mask (w / 2 ^ 0) 7) (and_mask (w / 2 ^ 7) 7) (and_mask (w / 2 ^ 14) 7) (and_zero w) (and_zero (w / 2 ^ 0))
by_format Indirect row w = same_fields row (and_mask (w / 2 ^ 0) 7) (and_mask (w / 2 ^ 7) 7) (and_zero (w / 2 ^ 14)) (and_zero w) (and_zero (w / 2 ^ 0))
by_format Rrr row w = same_fields row (and_mask (w / 2 ^ 21) 7) (and_mask (w / 2 ^ 7) 7) (and_mask (w / 2 ^ 14) 7) (rightmost w) (and_zero (w / 2 ^ 0))
by_format Ri7 row w = same_fields row (and_mask (w / 2 ^ 0) 7) (and_mask (w / 2 ^ 7) 7) (and_zero (w / 2 ^ 14)) (and_zero w) (and_mask (w / 2 ^ 14) 7)
by_format Ri10 row w = same_fields row (and_mask (w / 2 ^ 0) 7) (and_mask (w / 2 ^ 7) 7) (and_zero (w / 2 ^ 14)) (and_zero w) (and_mask (w / 2 ^ 14) 10)
by_format Ri16 row w = same_fields row (and_mask (w / 2 ^ 0) 7) (and_zero (w / 2 ^ 7)) (and_zero (w / 2 ^ 14)) (and_zero w) (and_mask (w / 2 ^ 7) 16)
by_format Ri18 row w = same_fields row (and_mask (w / 2 ^ 0) 7) (and_zero (w / 2 ^ 7)) (and_zero (w / 2 ^ 14)) (and_zero w) (and_mask (w / 2 ^ 7) 18)
by_format Stop row w = same_fields row (and_zero (w / 2 ^ 0)) (and_zero (w / 2 ^ 7)) (and_zero (w / 2 ^ 14)) (and_zero w) (and_mask (w / 2 ^ 0) 14)

by_operands : (operands : Operands) (rt imm : ℕ) (i : Instr) (w : ℕ) → by_ones rt imm (named operands i) w ≡ named operands (by_ones rt imm i w)
by_operands Bare rt imm i w =
    let a = and_zero (w / 2 ^ rt) in
    let b = and_zero (w / 2 ^ 7) in
    let c = and_zero (w / 2 ^ 14) in
    let d = and_zero w in
    let e = and_zero (w / 2 ^ imm) in
    cc
by_operands _ rt imm i w =
    let a = and_zero (w / 2 ^ rt) in
    let b = and_zero (w / 2 ^ 7) in
    let c = and_zero (w / 2 ^ 14) in
    let d = and_zero w in
    let e = and_zero (w / 2 ^ imm) in
    cc

read_by_ones : (row : Row) (w : ℕ) → by_ones (rt_shift (shape_of row).format) (imm_shift (shape_of row).format) (fields_of row (2 ^ 32 - 1)) w ≡ fields_of row w
read_by_ones row w = by_operands (shape_of row).operands _ _ _ w ∙ ap (named (shape_of row).operands) (by_format (shape_of row).format row w)

-- the test of the bits that must be 0
clear_test : (format : Format) (w : ℕ) → (bit_and w (clear_bits format) ≡ 0) ↔ IsClear format w
clear_test Indirect w =
    let e = and_high w 2 18 in
    (λ h. omega (arith, e, h), λ h. omega (arith, e, h))
clear_test _ w = (λ h. tt, λ h. and_zero w)

-- what is read by a row's reading is what the row names
by_reading : (r : Reading) (w : ℕ) → r ≡ reading_of r.ones.row → by_ones r.rt_shift r.imm_shift r.ones w ≡ fields_of r.ones.row w
by_reading r w is = ap (λ (s : Reading). by_ones s.rt_shift s.imm_shift s.ones w) is ∙ read_by_ones r.ones.row w

pub read : (r : Reading) (w : ℕ) {rt ra rb rc : ℕ} → r ≡ reading_of r.ones.row → rt ≡ bit_and (w / 2 ^ r.rt_shift) r.ones.rt → ra ≡ bit_and (w / 2 ^ 7) r.ones.ra
    → rb ≡ bit_and (w / 2 ^ 14) r.ones.rb → rc ≡ bit_and w r.ones.rc
    → record { row = r.ones.row; rt = rt; ra = ra; rb = rb; rc = rc; imm = bit_and (w / 2 ^ r.imm_shift) r.ones.imm } ≡ fields_of r.ones.row w
read r w is rt ra rb rc = same_fields r.ones.row rt ra rb rc refl ∙ by_reading r w is

-- the row of a reading
reading_row : (row : Row) → (reading_of row).ones.row ≡ row
reading_row row = row_fields_of row (2 ^ 32 - 1)

beside : (rows : List Row) (rs : List Reading) (k : ℕ) (d : Reading) → rs ≡ map reading_of rows → k < length rows → get_or rs k d ≡ reading_of (get_or rows k Lqd)
beside rows rs k d same h =
    get_or_from_slice_get rs k (reading_of (get_or rows k Lqd)) d
    (ap (λ xs. slice_get xs k) same ∙ slice_get-map reading_of rows k ∙ ap (option_map reading_of) (slice_get-get_or rows k Lqd h))

row_beside : (rows : List Row) (k : ℕ) (r : Reading) → r ≡ reading_of (get_or rows k Lqd) → k < length rows → slice_get rows k ≡ Some r.ones.row
row_beside rows k r is h = slice_get-get_or rows k Lqd h ∙ ap Some (sym (ap (λ (s : Reading). s.ones.row) is ∙ reading_row (get_or rows k Lqd)))

own_reading : (row : Row) (r : Reading) → r ≡ reading_of row → r ≡ reading_of r.ones.row
own_reading row r is = is ∙ ap reading_of (sym (ap (λ (s : Reading). s.ones.row) is ∙ reading_row row))

pub row_at : (k : ℕ) (d : Reading) → k < 161 → slice_get ROWS k ≡ Some (get_or READINGS k d).ones.row
row_at k d h = row_beside ROWS k (get_or READINGS k d) (beside ROWS READINGS k d readings h) h

pub reading_at : (k : ℕ) (d : Reading) → k < 161 → get_or READINGS k d ≡ reading_of (get_or READINGS k d).ones.row
reading_at k d h = own_reading (get_or ROWS k Lqd) (get_or READINGS k d) (beside ROWS READINGS k d readings h)

-- the reading of what a word spells
unspelled : (w : ℕ) → ((i : Instr) → Spells w i → ⊥) → None ≡ option_map (λ (i : Instr). reading_of i.row) (instr_of w)
unspelled w none = sym (ap (option_map (λ (i : Instr). reading_of i.row)) (no_spelling-instr_of w none))

pub no_row-reading : (w : ℕ) → w < 2 ^ 32 → get_or ROW_NUMBERS (w / 2 ^ 21) 0 ≡ 0 → None ≡ option_map (λ (i : Instr). reading_of i.row) (instr_of w)
no_row-reading w h number =
    unspelled w (λ i s. let same = number_of_row w i.row h s.opcode in absurd (omega (arith, same, number)))

pub row-reading : (w k : ℕ) (r : Reading) → w < 2 ^ 32 → get_or ROW_NUMBERS (w / 2 ^ 21) 0 ≡ suc k → slice_get ROWS k ≡ Some r.ones.row → r ≡ reading_of r.ones.row
    → bit_and w r.clear ≡ 0 → Some r ≡ option_map (λ (i : Instr). reading_of i.row) (instr_of w)
row-reading w k r h number at is test =
    let row = r.ones.row in
    let begins = row_of_number w k row h number at in
    let clear = (clear_test (shape_of row).format w).0 (subst (λ (s : Reading). bit_and w s.clear ≡ 0) is test) in
    let spells = spells_from w (fields_of row w) row (row_fields_of row w) begins clear refl in
    ap Some (is ∙ ap reading_of (sym (row_fields_of row w)))
    ∙ sym (ap (option_map (λ (i : Instr). reading_of i.row)) (Spells-instr_of w (fields_of row w) h spells))

pub unclear-reading : (w k : ℕ) (r : Reading) → w < 2 ^ 32 → get_or ROW_NUMBERS (w / 2 ^ 21) 0 ≡ suc k → slice_get ROWS k ≡ Some r.ones.row → r ≡ reading_of r.ones.row
    → bit_and w r.clear ≢ 0 → None ≡ option_map (λ (i : Instr). reading_of i.row) (instr_of w)
unclear-reading w k r h number at is test =
    let row = r.ones.row in
    let begins = row_of_number w k row h number at in
    unspelled w (λ i s.
    let same = one_row w i.row row h s.opcode begins in
    let clear = subst (λ q. IsClear (shape_of q).format w) same s.clear in
    test (subst (λ (x : Reading). bit_and w x.clear ≡ 0) (sym is) ((clear_test (shape_of row).format w).1 clear)))

-- what is known of a reading that was found
pub found-reading : (w : ℕ) (r : Reading) → Some r ≡ option_map (λ (i : Instr). reading_of i.row) (instr_of w) → r ≡ reading_of r.ones.row
found-reading w r e =
    of_mapped (λ (x : Reading). x ≡ reading_of x.ones.row) (λ (i : Instr). reading_of i.row) (instr_of w) r (λ i found. ap reading_of (sym (reading_row i.row))) (sym e)

pub found-fields : (w : ℕ) (r : Reading) → Some r ≡ option_map (λ (i : Instr). reading_of i.row) (instr_of w) → Some (fields_of r.ones.row w) ≡ instr_of w
found-fields w r e =
    of_mapped (λ (x : Reading). Some (fields_of x.ones.row w) ≡ instr_of w) (λ (i : Instr). reading_of i.row) (instr_of w) r
    (λ i found. ap (λ q. Some (fields_of q w)) (reading_row i.row) ∙ ap Some (sym (instr_of-Spells w i found).fields) ∙ sym found) (sym e)

pub found-row : (w : ℕ) (r : Reading) → Some r ≡ option_map (λ (i : Instr). reading_of i.row) (instr_of w) → Some r.ones.row ≡ option_map (λ (i : Instr). i.row) (instr_of w)
found-row w r e =
    of_mapped (λ (x : Reading). Some x.ones.row ≡ option_map (λ (i : Instr). i.row) (instr_of w)) (λ (i : Instr). reading_of i.row) (instr_of w) r
    (λ i found. ap Some (reading_row i.row) ∙ sym (ap (option_map (λ (i : Instr). i.row)) found)) (sym e)
