-- Text words, one after another.
use Rattle.std.proofs.Common.{◌≡◌, ◌≢◌, ◌≤◌, ◌<◌, ◌+◌, ◌*◌, ◌==◌, ◌&&◌, ◌||◌, nat_le, nat_lt, ℕ, suc, Bool, true, false, List, [], ◌∷◌, length, slice_index_or, slice_set, Option, Some, None, refl, sym, ap, ◌∙◌, arith}
use Rattle.std.specs.Option.{option_or}
use Rattle.std.proofs.lemmas.Bool.Decides.{nat_tests}
use Rattle.std.proofs.lemmas.List.{get_or-set_same, get_or-set_other}
use Rattle.std.proofs.lemmas.List.{get_or-replicate, length-replicate}
use Rattle.std.proofs.Common.{◌/◌, Ok, Err, is_some, is_none, not}
use Rattle.cell_load.specs.declared.loading.LoadError.{LoadError}
use Rattle.cell_load.specs.declared.loading.LoadError.TheVariants.{NotInTable, Memory}
use Rattle.cell_load.specs.LoadViews.{unmarked}
use Rattle.spu_asm.specs.Images.{Image}
use Rattle.cell_machine.specs.Opening.{Opening}
use Rattle.cell_load.specs.Entries.{Entry}
use Rattle.cell_load.specs.Sources.{spes_in}
use Rattle.cell_load.specs.Loaded.{Finds, Load, LoadGives, loaded, loads_of, setup_of, unless, NoRow, bad_word, bad_word_from, first_of, first_without_row, in_text, is_text, lacks_row, places_from, told}

-- ---- marks

or-true : (b : Bool) → true ≡ (b || true)
or-true true = refl
or-true false = refl

mark_test : (from k j : ℕ) → j ≢ k → (nat_le from j && nat_lt j k) ≡ (nat_le from j && nat_lt j (k + 1))
mark_test from k j differs = ap (λ b. nat_le from j && b) test
  where
    test : nat_lt j k ≡ nat_lt j (k + 1)
    test = grind (arith, nat_tests)

pub next_mark : (marks old : List Bool) (from k j : ℕ) → from ≤ k → k < length marks → slice_index_or marks j false ≡ (slice_index_or old j false || (nat_le from j && nat_lt j k))
    → slice_index_or (slice_set marks k true) j false ≡ (slice_index_or old j false || (nat_le from j && nat_lt j (k + 1)))
next_mark marks old from k j above within so_far = by_test (j == k) refl
  where
    by_test : (b : Bool) → (j == k) ≡ b → slice_index_or (slice_set marks k true) j false ≡ (slice_index_or old j false || (nat_le from j && nat_lt j (k + 1)))
    by_test true e =
        let same : j ≡ k = grind (arith, nat_tests) in
        let low : nat_le from j ≡ true = grind (arith, nat_tests) in
        let high : nat_lt j (k + 1) ≡ true = grind (arith, nat_tests) in
        rw (low, high) (ap (λ i. slice_index_or (slice_set marks k true) i false) same ∙ get_or-set_same marks k true false within ∙ or-true (slice_index_or old j false))
    by_test false e =
        let differs : j ≢ k = grind (arith, nat_tests) in
        get_or-set_other marks k j true false differs ∙ so_far ∙ ap (λ b. slice_index_or old j false || b) (mark_test from k j differs)

-- the word at 4 * k lies behind an address where k is at least a quarter of it, rounded up
pub mark_from : (a k : ℕ) → nat_le ((a + 3) / 4) k ≡ nat_le a (4 * k)
mark_from a k = by_test (nat_le a (4 * k)) refl
  where
    by_test : (b : Bool) → nat_le a (4 * k) ≡ b → nat_le ((a + 3) / 4) k ≡ b
    by_test true e =
        let h : a ≤ 4 * k = grind (arith, nat_tests) in
        let g : (a + 3) / 4 ≤ k = omega arith in
        grind (arith, nat_tests)
    by_test false e =
        let h : 4 * k < a = grind (arith, nat_tests) in
        let g : k < (a + 3) / 4 = omega arith in
        grind (arith, nat_tests)

pub mark_to : (a k : ℕ) → nat_lt k ((a + 3) / 4) ≡ nat_lt (4 * k) a
mark_to a k = by_test (nat_lt (4 * k) a) refl
  where
    by_test : (b : Bool) → nat_lt (4 * k) a ≡ b → nat_lt k ((a + 3) / 4) ≡ b
    by_test true e =
        let h : 4 * k < a = grind (arith, nat_tests) in
        let g : k < (a + 3) / 4 = omega arith in
        grind (arith, nat_tests)
    by_test false e =
        let h : a ≤ 4 * k = grind (arith, nat_tests) in
        let g : (a + 3) / 4 ≤ k = omega arith in
        grind (arith, nat_tests)

pub own_text : (m new : Bool) (spe p at len k : ℕ) → spe ≡ p → new ≡ (m || (nat_le ((at + 3) / 4) k && nat_lt k ((at + len + 3) / 4))) → new ≡ (m || ((spe == p) && (nat_le at (4 * k) && nat_lt (4 * k) (at + len))))
own_text m new spe p at len k same is =
    let own : (spe == p) ≡ true = grind (arith, nat_tests) in
    is ∙ rw (mark_from at k, mark_to (at + len) k, own) refl

or-assoc : (a b c : Bool) → ((a || b) || c) ≡ (a || (b || c))
or-assoc true b c = refl
or-assoc false b c = refl

pub next_text : (m new : Bool) (loads : List Load) (x : Load) (rest : List Load) (p a : ℕ) (total : Bool) → loads ≡ x ∷ rest → new ≡ (m || ((x.spe == p) && in_text a x.part)) → (m || is_text loads p a) ≡ total → (new || is_text rest p a) ≡ total
next_text m new loads x rest p a total cut is so_far =
    ap (λ b. b || is_text rest p a) is ∙ or-assoc m ((x.spe == p) && in_text a x.part) (is_text rest p a) ∙ sym (ap (λ ls. m || is_text ls p a) cut) ∙ so_far

or-false : (b : Bool) → (b || false) ≡ b
or-false true = refl
or-false false = refl

pub no_text : (m : Bool) (loads : List Load) (p a : ℕ) (total : Bool) → loads ≡ [] → (m || is_text loads p a) ≡ total → m ≡ total
no_text m loads p a total none so_far = sym (or-false m) ∙ sym (ap (λ ls. m || is_text ls p a) none) ∙ so_far

pub unmarked-length : (n : ℕ) (marks : List Bool) → marks ≡ unmarked n → length marks ≡ n
unfolding unmarked
unmarked-length n marks is = ap length is ∙ length-replicate n false

pub unmarked-at : (n k : ℕ) (marks : List Bool) (b : Bool) → marks ≡ unmarked n → k < n → (slice_index_or marks k false || b) ≡ b
unfolding unmarked
unmarked-at n k marks b is within = ap (λ m. slice_index_or m k false || b) is ∙ ap (λ m. m || b) (get_or-replicate n k false false within)

-- ---- the first word without a row

pub next_place : (k n m : ℕ) → n ≡ suc m → places_from k n ≡ 4 * k ∷ places_from (k + 1) m
unfolding places_from
next_place k n m e = ap (places_from k) e

pub no_place : (k n : ℕ) → n ≡ 0 → places_from k n ≡ []
unfolding places_from
no_place k n e = ap (places_from k) e

pub row_here : (t : ℕ → Bool) (p : ℕ) (store addresses : List ℕ) (a : ℕ) (rest : List ℕ) → addresses ≡ a ∷ rest → t a ≡ true → lacks_row store a ≡ true → first_without_row t p store addresses ≡ Some (told p store a)
row_here t p store addresses a rest cut text lacks = ap (first_without_row t p store) cut ∙ rw (text, lacks) refl

pub row_later : (t : ℕ → Bool) (p : ℕ) (store addresses : List ℕ) (a : ℕ) (rest : List ℕ) → addresses ≡ a ∷ rest → (t a && lacks_row store a) ≡ false → first_without_row t p store addresses ≡ first_without_row t p store rest
row_later t p store addresses a rest cut other = ap (first_without_row t p store) cut ∙ rw other refl

-- a word has a row exactly where it is decoded
pub decoded_lacks : {I : Type 0} (made : Option I) (none : Bool) (b : Bool) → is_some made ≡ not none → none ≡ b → is_none made ≡ b
decoded_lacks None true b is same = same
decoded_lacks None false b is same = absurd cc
decoded_lacks (Some i) false b is same = same
decoded_lacks (Some i) true b is same = absurd cc

-- ---- the first processor with one

next_processor : (loads : List Load) (p n m : ℕ) → n ≡ suc m → bad_word_from loads p n ≡ option_or (bad_word loads p) (bad_word_from loads (p + 1) m)
unfolding first_of
next_processor loads p n m e = ap (bad_word_from loads p) e

pub processor_bad : (X Y : Type 0) (loads : List Load) (p n m : ℕ) (e : LoadError) (total : Option NoRow) → n ≡ suc m → total ≡ bad_word_from loads p n → Finds {X = X} (Err e) (bad_word loads p) → Finds {X = Y} (Err e) total
processor_bad X Y loads p n m (NotInTable spe address word) total more so_far is = so_far ∙ next_processor loads p n m more ∙ ap (λ o. option_or o (bad_word_from loads (p + 1) m)) is
processor_bad X Y loads p n m Memory total more so_far is = tt

pub processor_good : (loads : List Load) (p n m : ℕ) (total : Option NoRow) → n ≡ suc m → total ≡ bad_word_from loads p n → bad_word loads p ≡ None → total ≡ bad_word_from loads (p + 1) m
processor_good loads p n m total more so_far is = so_far ∙ next_processor loads p n m more ∙ ap (λ o. option_or o (bad_word_from loads (p + 1) m)) is

pub no_processor : (loads : List Load) (p n : ℕ) (total : Option NoRow) → n ≡ 0 → total ≡ bad_word_from loads p n → total ≡ None
unfolding first_of
no_processor loads p n total none so_far = so_far ∙ ap (bad_word_from loads p) none

-- ---- the answer

pub load_bad : (X Y : Type 0) (view : Y → Opening) (entries : List Entry) (images : List Image) (e : LoadError) → Finds {X = X} (Err e) (bad_word_from (loads_of entries images) 0 (spes_in entries)) → LoadGives {X = Y} view (Err e) (loaded entries images)
unfolding loaded
load_bad X Y view entries images (NotInTable spe address word) is = ap (unless (setup_of entries images)) is
load_bad X Y view entries images Memory is = tt

pub load_good : (entries : List Entry) (images : List Image) → bad_word_from (loads_of entries images) 0 (spes_in entries) ≡ None → loaded entries images ≡ Ok (setup_of entries images)
unfolding loaded
load_good entries images is = ap (unless (setup_of entries images)) is
