-- The instruction of a word, as a function, is the one that the word spells.
use Rattle.std.proofs.Common.{◌≡◌, ℕ, zero, suc, ◌^◌, ◌<◌, ◌==◌, Bool, true, ◌&&◌, cond, ◌↔◌, List, [], ◌∷◌, Option, Some, None, slice_get, refl, sym, ◌∙◌, ap, subst, arith, inl, inr, eqb-true}
use Rattle.std.specs.List.{find}
use Rattle.std.specs.Option.{option_map}
use Rattle.std.proofs.lemmas.Bool.{cases_Bool, and_parts}
use Rattle.spu_decode.specs.declared.Instr.{Instr}
use Rattle.spu_decode.specs.declared.row.Row.{Row}
use Rattle.spu_decode.specs.declared.shape.Format.{Format}
use Rattle.spu_decode.specs.declared.shape.Format.TheVariants.{Indirect}
use Rattle.spu_decode.specs.declared.table.TheConstants.{ROWS}
use Rattle.spu_decode.specs.Spelling.{shape_of, Begins, IsClear, Spells, FieldsFit, fields_of, is_clear, is_of, instr_of}
use Rattle.spu_decode.proofs.TableLemmas.{place, row_at_place, one_row, row_fields_of, spells_from}
use Rattle.spu_decode.proofs.FitLemmas.{Spells-FieldsFit}

-- a search finds the only element that passes
find_only : {X : Type 0} (p : X → Bool) (xs : List X) (k : ℕ) (x : X) → slice_get xs k ≡ Some x → p x ≡ true → ((y : X) → p y ≡ true → y ≡ x) → find p xs ≡ Some x
find_only p [] k x at passes only = absurd (cc)
find_only p (y ∷ ys) zero x at passes only =
    let same : y ≡ x = cc in
    ap (λ b. cond b (Some y) (find p ys)) (subst (λ z. p z ≡ true) (sym same) passes) ∙ at
find_only p (y ∷ ys) (suc k) x at passes only =
    elim (cases_Bool (p y)) [
      | inl passed ↦ ap (λ b. cond b (Some y) (find p ys)) passed ∙ ap Some (only y passed)
      | inr failed ↦ ap (λ b. cond b (Some y) (find p ys)) failed ∙ find_only p ys k x at passes only
    ]

-- and nothing where none passes
find_none : {X : Type 0} (p : X → Bool) (xs : List X) → ((y : X) → p y ≡ true → ⊥) → find p xs ≡ None
find_none p [] none = refl
find_none p (y ∷ ys) none =
    elim (cases_Bool (p y)) [
      | inl passed ↦ absurd (none y passed)
      | inr failed ↦ ap (λ b. cond b (Some y) (find p ys)) failed ∙ find_none p ys none
    ]

-- the test of the clear bits says what the fact says
clear_true : (format : Format) (w : ℕ) → IsClear format w → is_clear format w ≡ true
clear_true Indirect w clear = grind (arith, clear)
clear_true _ w clear = refl

clear_from : (format : Format) (w : ℕ) → is_clear format w ≡ true → IsClear format w
clear_from Indirect w test = eqb-true _ _ test
clear_from _ w test = tt

is_of-true : (w : ℕ) (row : Row) → Begins w row → IsClear (shape_of row).format w → is_of w row ≡ true
is_of-true w row begins clear = joined _ _ _ begins (clear_true (shape_of row).format w clear)
  where
    joined : (a b : ℕ) (c : Bool) → a ≡ b → c ≡ true → ((a == b) && c) ≡ true
    joined a b c e t = grind arith

is_of-begins : (w : ℕ) (row : Row) → is_of w row ≡ true → Begins w row
is_of-begins w row test = eqb-true _ _ (and_parts _ _ test).0

is_of-spells : (w : ℕ) (row : Row) → is_of w row ≡ true → Spells w (fields_of row w)
is_of-spells w row test =
    spells_from w (fields_of row w) row (row_fields_of row w) (is_of-begins w row test) (clear_from _ w (and_parts _ _ test).1) refl

-- what a word spells is its instruction
pub Spells-instr_of : (w : ℕ) (i : Instr) → w < 2 ^ 32 → Spells w i → instr_of w ≡ Some i
unfolding instr_of
Spells-instr_of w i h s =
    ap (option_map (λ row. fields_of row w))
    (find_only (is_of w) ROWS (place i.row) i.row (row_at_place i.row) (is_of-true w i.row s.opcode s.clear)
    (λ row test. one_row w row i.row h (is_of-begins w row test) s.opcode))
    ∙ ap Some (sym s.fields)

-- a word that spells nothing has no instruction
pub no_spelling-instr_of : (w : ℕ) → ((i : Instr) → Spells w i → ⊥) → instr_of w ≡ None
unfolding instr_of
no_spelling-instr_of w none =
    ap (option_map (λ row. fields_of row w)) (find_none (is_of w) ROWS (λ row test. none (fields_of row w) (is_of-spells w row test)))

-- what a search finds passes
found_passes : {X : Type 0} (p : X → Bool) (xs : List X) (x : X) → find p xs ≡ Some x → p x ≡ true
found_passes p [] x e = absurd (cc)
found_passes p (y ∷ ys) x e =
    elim (cases_Bool (p y)) [
      | inl passed ↦
          let found : Some y ≡ Some x = sym (ap (λ b. cond b (Some y) (find p ys)) passed) ∙ e in
          let same : y ≡ x = cc in
          subst (λ z. p z ≡ true) same passed
      | inr failed ↦ found_passes p ys x (sym (ap (λ b. cond b (Some y) (find p ys)) failed) ∙ e)
    ]

-- what holds of each image holds of what is mapped
pub of_mapped : {X : Type 0} (P : X → Type 0) {Y : Type 0} (f : Y → X) (o : Option Y) (x : X) → ((y : Y) → o ≡ Some y → P (f y)) → option_map f o ≡ Some x → P x
of_mapped P f (Some y) x all e =
    let same : f y ≡ x = cc in
    subst P same (all y refl)
of_mapped P f None x all e = absurd (cc)

-- the instruction of a word is what the word spells
pub instr_of-Spells : (w : ℕ) (i : Instr) → instr_of w ≡ Some i → Spells w i
unfolding instr_of
instr_of-Spells w i e =
    of_mapped (Spells w) (λ row. fields_of row w) (find (is_of w) ROWS) i (λ row found. is_of-spells w row (found_passes (is_of w) ROWS row found)) e

-- and its fields fit
pub instr_of-FieldsFit : (w : ℕ) (i : Instr) → instr_of w ≡ Some i → FieldsFit i
instr_of-FieldsFit w i e = Spells-FieldsFit w i (instr_of-Spells w i e)

-- what is the instruction of a word is exactly what the word spells
pub instr_of-exactly : (w : ℕ) (found : Option Instr) → w < 2 ^ 32 → found ≡ instr_of w → (i : Instr) → (found ≡ Some i) ↔ Spells w i
instr_of-exactly w found h means i = (λ e. instr_of-Spells w i (sym means ∙ e), λ s. means ∙ Spells-instr_of w i h s)
