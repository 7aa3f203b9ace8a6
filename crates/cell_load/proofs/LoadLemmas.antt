-- What lines give, one line after another.
use Rattle.std.proofs.Common.{◌≡◌, ◌≤◌, ◌<◌, ◌+◌, ◌-◌, ℕ, suc, length, slice_index_or, slice_get, List, [], ◌∷◌, ◌++◌, map, Option, Some, None, refl, sym, ap, ◌∙◌, arith}
use Rattle.std.specs.Option.{option_or}
use Rattle.std.proofs.lemmas.List.{append_assoc}
use Rattle.std.proofs.Common.{zero, take}
use Rattle.std.specs.List.{cons_option, filter_map}
use Rattle.std.specs.Option.{option_to_list}
use Rattle.std.proofs.Common.{append-nil}
use Rattle.spu_asm.specs.Images.{Image}
use Rattle.std.proofs.Common.{subst}
use Rattle.cell_load.specs.LoadViews.{AllTakeFit, TakesFit}
use Rattle.cell_load.specs.Entries.{Entry}
use Rattle.cell_load.specs.Sources.{spes_after, spes_in}
use Rattle.cell_load.specs.Loaded.{Load, loads_from, given_to, parts_of, images_after, first_of}
use Rattle.cell_load.proofs.SourceLemmas.{spes_after-add}

pub next_loads : (front : List Load) (spes : ℕ) (entries : List Entry) (e : Entry) (rest : List Entry) (images : List Image) (total : List Load) → entries ≡ e ∷ rest → front ++ loads_from spes entries images ≡ total → (front ++ given_to (spes - 1) (parts_of (slice_get images 0) e)) ++ loads_from (spes_after spes e) rest (images_after images e) ≡ total
unfolding loads_from
next_loads front spes entries e rest images total cut so_far =
    append_assoc front (given_to (spes - 1) (parts_of (slice_get images 0) e)) (loads_from (spes_after spes e) rest (images_after images e)) ∙ sym (ap (λ es. front ++ loads_from spes es images) cut) ∙ so_far

pub no_loads : (front : List Load) (spes : ℕ) (entries : List Entry) (images : List Image) (total : List Load) → entries ≡ [] → front ++ loads_from spes entries images ≡ total → front ≡ total
unfolding loads_from
no_loads front spes entries images total none so_far = sym (append-nil front) ∙ sym (ap (λ es. front ++ loads_from spes es images) none) ∙ so_far

pub next_fits : (entries : List Entry) (e : Entry) (rest : List Entry) (images : List Image) (Total : Type 0) → entries ≡ e ∷ rest → TakesFit images e → (AllTakeFit entries images → Total) → AllTakeFit rest (images_after images e) → Total
unfolding AllTakeFit
next_fits entries e rest images Total cut here total later = total (subst (λ es. AllTakeFit es images) (sym cut) (here, later))

pub no_fits : (entries : List Entry) (images : List Image) → entries ≡ [] → AllTakeFit entries images
unfolding AllTakeFit
no_fits entries images none = subst (λ es. AllTakeFit es images) (sym none) tt

pub next_spes : (spes : ℕ) (entries : List Entry) (e : Entry) (rest : List Entry) (total : ℕ) → entries ≡ e ∷ rest → spes + spes_in entries ≡ total → spes_after spes e + spes_in rest ≡ total
unfolding spes_in
next_spes spes entries e rest total cut so_far =
    let here : spes + spes_in entries ≡ spes + spes_after (spes_in rest) e = ap (λ es. spes + spes_in es) cut in
    omega (arith, here, so_far, spes_after-add spes (spes_in rest) e)

pub no_spes : (spes : ℕ) (entries : List Entry) (total : ℕ) → entries ≡ [] → spes + spes_in entries ≡ total → spes ≡ total
unfolding spes_in
no_spes spes entries total none so_far = let here : spes + spes_in entries ≡ spes + 0 = ap (λ es. spes + spes_in es) none in omega (arith, here, so_far)

-- the first is found here
pub first_here : {X Y : Type 0} (f : X → Option Y) (xs : List X) (x : X) (rest : List X) (y : Y) → xs ≡ x ∷ rest → f x ≡ Some y → first_of f xs ≡ Some y
unfolding first_of
first_here f xs x rest y cut is = ap (first_of f) cut ∙ ap (λ o. option_or o (first_of f rest)) is

-- or it is found later
pub first_later : {X Y : Type 0} (f : X → Option Y) (xs : List X) (x : X) (rest : List X) → xs ≡ x ∷ rest → f x ≡ None → first_of f xs ≡ first_of f rest
unfolding first_of
first_later f xs x rest cut is = ap (first_of f) cut ∙ ap (λ o. option_or o (first_of f rest)) is

pub first_none : {X Y : Type 0} (f : X → Option Y) (xs : List X) → xs ≡ [] → first_of f xs ≡ None
unfolding first_of
first_none f xs none = ap (first_of f) none

-- ---- what h gives of the front of a list

cons-append : {Y : Type 0} (o : Option Y) (a b : List Y) → cons_option o (a ++ b) ≡ cons_option o a ++ b
cons-append None a b = refl
cons-append (Some y) a b = refl

cons-none : {Y : Type 0} (o : Option Y) → cons_option o [] ≡ option_to_list o
cons-none None = refl
cons-none (Some y) = refl

given-suc : {X Y Z : Type 0} (f : X → Y) (h : Y → Option Z) (xs : List X) (i : ℕ) (d : X) → i < length xs
    → filter_map h (map f (take (suc i) xs)) ≡ filter_map h (map f (take i xs)) ++ option_to_list (h (f (slice_index_or xs i d)))
given-suc f h [] i d within = absurd (omega arith)
given-suc f h (x ∷ xs) zero d within = cons-none (h (f x))
given-suc f h (x ∷ xs) (suc i) d within =
    ap (cons_option (h (f x))) (given-suc f h xs i d (omega arith))
    ∙ cons-append (h (f x)) (filter_map h (map f (take i xs))) (option_to_list (h (f (slice_index_or xs i d))))

-- one more is given
pub given_more : {X Y Z : Type 0} (f : X → Y) (h : Y → Option Z) (xs : List X) (i : ℕ) (d : X) → i < length xs
    → filter_map h (map f (take (i + 1) xs)) ≡ filter_map h (map f (take i xs)) ++ option_to_list (h (f (slice_index_or xs i d)))
given_more f h xs i d within =
    let e : i + 1 ≡ suc i = omega arith in
    ap (λ k. filter_map h (map f (take k xs))) e ∙ given-suc f h xs i d within

cons-length : {Y : Type 0} (o : Option Y) (a b : List Y) → length a ≤ length b → length (cons_option o a) ≤ length (cons_option o b)
cons-length None a b few = few
cons-length (Some y) a b few = omega (arith, few)

-- the front gives no more than all
pub given_few : {X Y Z : Type 0} (f : X → Y) (h : Y → Option Z) (xs : List X) (n : ℕ) → length (filter_map h (map f (take n xs))) ≤ length (filter_map h (map f xs))
given_few f h [] n = omega (arith, none n)
  where
    none : (n : ℕ) → length (filter_map h (map f (take n []))) ≡ 0
    none zero = refl
    none (suc n) = refl
given_few f h (x ∷ xs) zero = omega arith
given_few f h (x ∷ xs) (suc n) = cons-length (h (f x)) (filter_map h (map f (take n xs))) (filter_map h (map f xs)) (given_few f h xs n)
