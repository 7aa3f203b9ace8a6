-- What the checker computes over the whole table, once, and what follows for each entry.
use Rattle.std.proofs.Common.{◌≡◌, ℕ, zero, suc, ◌+◌, ◌-◌, ◌*◌, ◌/◌, ◌%◌, ◌^◌, ◌<◌, ◌==◌, nat_lt, Bool, true, ◌&&◌, List, [], ◌∷◌, map, drop, slice_get, get_or, Some, refl, sym, ◌∙◌, ap, subst, arith, eqb-true, ltb-true, get_or-drop, div-add-mod', zero-add, not-suc-le-zero, inl, inr}
use Rattle.std.specs.Option.{option_map}
use Rattle.std.proofs.lemmas.Bool.{and_parts, cases_lt}
use Rattle.std.proofs.lemmas.Nat.{mod_below}
use Rattle.std.proofs.lemmas.Option.{slice_get-map, get_or_from_slice_get}
use denote.Enum.Declared.{tag_of}
use Rattle.spu_decode.specs.contracts.row.Row.{the_type}
use Rattle.spu_decode.specs.declared.table.TheConstants.{ROWS, SHAPES, ROW_NUMBERS}
use Rattle.spu_decode.specs.declared.row.Row.{Row}
use Rattle.spu_decode.specs.declared.Instr.{Instr}
use Rattle.spu_decode.specs.declared.row.Row.TheVariants.{Lqd}
use Rattle.spu_decode.specs.declared.shape.Format.{Format}
use Rattle.spu_decode.specs.declared.shape.Format.TheVariants.{Rr, Indirect, Rrr, Ri7, Ri10, Ri16, Ri18, Stop}
use Rattle.spu_decode.specs.declared.shape.Operands.{Operands}
use Rattle.spu_decode.specs.declared.shape.Operands.TheVariants.{Bare}
use Rattle.spu_decode.specs.declared.shape.Shape.{Shape}
use Rattle.spu_decode.specs.Table.{entry_of}
use Rattle.spu_decode.specs.Spelling.{shape_of, bits, opcode_bits, Begins, IsClear, Spells, named, fields_in, fields_of}

-- the shapes of the code are those of specs/Table.antt
pub shapes : SHAPES ≡ map shape_of ROWS
unfolding entry_of
shapes = refl

pub shape_at : (k : ℕ) (row : Row) (d : Shape) → slice_get ROWS k ≡ Some row → get_or SHAPES k d ≡ shape_of row
shape_at k row d h =
    get_or_from_slice_get SHAPES k (shape_of row) d
    (ap (λ xs. slice_get xs k) shapes ∙ slice_get-map shape_of ROWS k ∙ ap (option_map shape_of) h)

-- a row's place among the rows
abbrev pub place : Row → ℕ
place row = tag_of the_type row

pub row_at_place : (row : Row) → slice_get ROWS (place row) ≡ Some row
row_at_place Lqd = refl
row_at_place _ = refl

-- how many of the 2,048 eleven-bit beginnings a row with this format has
abbrev pub span : Format → ℕ
span format = 2 ^ (11 - opcode_bits format)

-- each number below n passes
unfoldable all_below : (ℕ → Bool) → ℕ → Bool
all_below p zero = true
all_below p (suc n) = p n && all_below p n

all_below-at : (p : ℕ → Bool) (n k : ℕ) → all_below p n ≡ true → k < n → p k ≡ true
unfolding all_below
all_below-at p zero k h lt = absurd (not-suc-le-zero lt)
all_below-at p (suc n) k h lt =
    let parts = and_parts (p n) (all_below p n) h in
    elim (cases_lt k n) [
      | inl below ↦ all_below-at p n k parts.1 below
      | inr last ↦ let at : n ≡ k = omega arith in subst (λ j. p j ≡ true) at parts.0
    ]

-- each member passes with its place, from t on
unfoldable all_from : (ℕ → ℕ → Bool) → ℕ → List ℕ → Bool
all_from p t [] = true
all_from p t (n ∷ ns) = p t n && all_from p (suc t) ns

all_from-at : (p : ℕ → ℕ → Bool) (t : ℕ) (ns : List ℕ) (k : ℕ) → p (t + k) 0 ≡ true → all_from p t ns ≡ true → p (t + k) (get_or ns k 0) ≡ true
unfolding all_from
all_from-at p t [] k past h = past
all_from-at p t (n ∷ ns) zero past h =
    let same : t ≡ t + 0 = omega arith in
    subst (λ j. p j n ≡ true) same (and_parts (p t n) (all_from p (suc t) ns) h).0
all_from-at p t (n ∷ ns) (suc k) past h =
    let same : suc t + k ≡ t + suc k = omega arith in
    subst (λ j. p j (get_or ns k 0) ≡ true) same
    (all_from-at p (suc t) ns k (subst (λ j. p j 0 ≡ true) (sym same) past) (and_parts (p t n) (all_from p (suc t) ns) h).1)

-- a beginning has the number of a row only where it has that row's opcode
abbrev of_shape : ℕ → Shape → Bool
of_shape t shape = t / span shape.format == shape.opcode

unfoldable is_sound : ℕ → ℕ → Bool
is_sound t zero = true
is_sound t (suc k) = nat_lt k 161 && of_shape t (get_or SHAPES k (record { format = Rr; opcode = 0; operands = Bare }))

numbers_sound : all_from is_sound 0 ROW_NUMBERS ≡ true
unfolding is_sound all_from
numbers_sound = refl

-- each beginning with a row's opcode has that row's number
unfoldable is_block : List ℕ → ℕ → ℕ → Bool
is_block numbers number count = all_below (λ j. get_or numbers j 0 == number) count

numbers_complete : (row : Row) → is_block (drop ((shape_of row).opcode * span (shape_of row).format) ROW_NUMBERS) (suc (place row)) (span (shape_of row).format) ≡ true
unfolding entry_of is_block all_below
numbers_complete Lqd = refl
numbers_complete _ = refl

-- the opcode as the first bits of a word, and as the first bits of its first eleven
head_bits : (format : Format) (w : ℕ) → w < 2 ^ 32 → bits 0 (opcode_bits format - 1) w ≡ w / 2 ^ 21 / span format
head_bits Rr w h = omega arith
head_bits Indirect w h = omega arith
head_bits Rrr w h = omega arith
head_bits Ri7 w h = omega arith
head_bits Ri10 w h = omega arith
head_bits Ri16 w h = omega arith
head_bits Ri18 w h = omega arith
head_bits Stop w h = omega arith

span_pos : (format : Format) → 0 < span format
span_pos Rr = omega arith
span_pos Indirect = omega arith
span_pos Rrr = omega arith
span_pos Ri7 = omega arith
span_pos Ri10 = omega arith
span_pos Ri16 = omega arith
span_pos Ri18 = omega arith
span_pos Stop = omega arith

is_sound_below : (t number : ℕ) → is_sound t number ≡ true → number < 162
unfolding is_sound
is_sound_below t zero h = omega arith
is_sound_below t (suc k) h =
    let below : k < 161 = ltb-true k 161 (and_parts (nat_lt k 161) (of_shape t (get_or SHAPES k (record { format = Rr; opcode = 0; operands = Bare }))) h).0 in
    omega arith

is_sound_opcode : (t k : ℕ) (row : Row) → is_sound t (suc k) ≡ true → slice_get ROWS k ≡ Some row → t / span (shape_of row).format ≡ (shape_of row).opcode
unfolding is_sound
is_sound_opcode t k row h at =
    let default : Shape = record { format = Rr; opcode = 0; operands = Bare } in
    let test = (and_parts (nat_lt k 161) (of_shape t (get_or SHAPES k default)) h).1 in
    eqb-true (t / span (shape_of row).format) (shape_of row).opcode
    (subst (λ shape. of_shape t shape ≡ true) (shape_at k row default at) test)

numbers_sound_at : (t : ℕ) → is_sound t (get_or ROW_NUMBERS t 0) ≡ true
unfolding is_sound
numbers_sound_at t =
    subst (λ j. is_sound j (get_or ROW_NUMBERS t 0) ≡ true) (zero-add t) (all_from-at is_sound 0 ROW_NUMBERS t refl numbers_sound)

in_block : (ns : List ℕ) (t opcode s number : ℕ) → 0 < s → t / s ≡ opcode → is_block (drop (opcode * s) ns) number s ≡ true → get_or ns t 0 ≡ number
unfolding is_block
in_block ns t opcode s number positive at ok =
    let here : opcode * s + t % s ≡ t = subst (λ q. q * s + t % s ≡ t) at (div-add-mod' t s) in
    ap (λ j. get_or ns j 0) (sym here)
    ∙ sym (get_or-drop (opcode * s) ns (t % s) 0)
    ∙ eqb-true _ _ (all_below-at (λ j. get_or (drop (opcode * s) ns) j 0 == number) s (t % s) ok (mod_below t s positive))

pub number_bound : (t : ℕ) → get_or ROW_NUMBERS t 0 < 162
number_bound t = is_sound_below t (get_or ROW_NUMBERS t 0) (numbers_sound_at t)

-- a word that begins with a row's opcode has the number of that row
pub number_of_row : (w : ℕ) (row : Row) → w < 2 ^ 32 → Begins w row → get_or ROW_NUMBERS (w / 2 ^ 21) 0 ≡ suc (place row)
number_of_row w row h begins =
    in_block ROW_NUMBERS (w / 2 ^ 21) (shape_of row).opcode (span (shape_of row).format) (suc (place row)) (span_pos (shape_of row).format)
    (sym (head_bits (shape_of row).format w h) ∙ begins) (numbers_complete row)

-- no opcode is a prefix of another
pub one_row : (w : ℕ) (r s : Row) → w < 2 ^ 32 → Begins w r → Begins w s → r ≡ s
one_row w r s h first second =
    let same : place r ≡ place s = omega (arith, number_of_row w r h first, number_of_row w s h second) in
    let both : Some r ≡ Some s = sym (row_at_place r) ∙ ap (slice_get ROWS) same ∙ row_at_place s in
    cc

-- the number of a row is at words that begin with its opcode
pub row_of_number : (w k : ℕ) (row : Row) → w < 2 ^ 32 → get_or ROW_NUMBERS (w / 2 ^ 21) 0 ≡ suc k → slice_get ROWS k ≡ Some row → Begins w row
row_of_number w k row h number at =
    let sound : is_sound (w / 2 ^ 21) (suc k) ≡ true =
    subst (λ n. is_sound (w / 2 ^ 21) n ≡ true) number (numbers_sound_at (w / 2 ^ 21)) in
    head_bits (shape_of row).format w h ∙ is_sound_opcode (w / 2 ^ 21) k row sound at

named_row : (operands : Operands) (i : Instr) → (named operands i).row ≡ i.row
named_row Bare i = refl
named_row _ i = refl

row_fields_in : (format : Format) (row : Row) (w : ℕ) → (fields_in format row w).row ≡ row
row_fields_in Rr row w = refl
row_fields_in _ row w = refl

pub row_fields_of : (row : Row) (w : ℕ) → (fields_of row w).row ≡ row
row_fields_of row w = named_row _ _ ∙ row_fields_in _ _ _

pub spells_from : (w : ℕ) (i : Instr) (row : Row) → i.row ≡ row → Begins w row → IsClear (shape_of row).format w → i ≡ fields_of row w → Spells w i
spells_from w i row at begins clear fields =
    let back = sym at in
    record {
      opcode = subst (λ r. Begins w r) back begins;
      clear = subst (λ r. IsClear (shape_of r).format w) back clear;
      fields = subst (λ r. i ≡ fields_of r w) back fields;
    }
