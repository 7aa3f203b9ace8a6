-- The rest of a list from a place on.
use Rattle.std.proofs.Common.{◌≡◌, ◌≤◌, ◌<◌, ◌+◌, ℕ, suc, length, drop, slice_index_or, List, [], ◌∷◌, map, sym, ap, ◌∙◌, arith}
use Rattle.std.proofs.Common.{zero, take, ◌++◌, Option, Some, None}
use Rattle.std.specs.Prelude.{All, IfSome}
use Rattle.std.specs.List.{cons_option, filter_map}
use Rattle.std.proofs.Math.Seq.{drop-cons, take-append_seam}
use Rattle.std.proofs.Math.ListN.{drop_of_length-le}
use Rattle.cell_load.specs.declared.loads.Load.{Load}
use Rattle.cell_load.specs.declared.loads.Part.TheVariants as part

-- what is left from place i on begins with what stands there
pub cut_or : {X Y : Type 0} (f : X → Y) (xs : List X) (i : ℕ) (d : X) → i < length xs → map f (drop i xs) ≡ f (slice_index_or xs i d) ∷ map f (drop (i + 1) xs)
cut_or f xs i d within =
    let e : suc i ≡ i + 1 = omega arith in
    ap (map f) (drop-cons xs i d within)
    ∙ ap (λ k. f (slice_index_or xs i d) ∷ map f (drop k xs)) e

pub cut_at : {X Y : Type 0} (f : X → Y) (xs : List X) (i : ℕ) (x : X) → i < length xs → x ≡ slice_index_or xs i x → map f (drop i xs) ≡ f x ∷ map f (drop (i + 1) xs)
cut_at f xs i x within at = cut_or f xs i x within ∙ ap (λ y. f y ∷ map f (drop (i + 1) xs)) (sym at)

-- nothing is left from the end on
pub cut_end : {X Y : Type 0} (f : X → Y) (xs : List X) (i : ℕ) → length xs ≤ i → map f (drop i xs) ≡ []
cut_end f xs i past = ap (map f) (drop_of_length-le xs past)

-- what a read outside a list of loads would give
abbrev pub no_load : Load
no_load = record { spe = 0; part = part.Text 0 (record { ref_ptr = (0, 0); now = [] }) }

-- what holds of what h gives of all holds of what it gives of one
pub given_at : {X Y Z : Type 0} (f : X → Y) (h : Y → Option Z) (P : Z → Type 0) (xs : List X) (i : ℕ) (d : X) → All P (filter_map h (map f xs)) → i < length xs → IfSome (h (f (slice_index_or xs i d))) P
given_at f h P [] i d all within = absurd (omega arith)
given_at {Z = Z} f h P (x ∷ xs) zero d all within = head (h (f x)) all
  where
    head : (o : Option Z) → All P (cons_option o (filter_map h (map f xs))) → IfSome o P
    head None all = tt
    head (Some z) all = all 0 z (omega arith)
given_at {Z = Z} f h P (x ∷ xs) (suc i) d all within = given_at f h P xs i d (tail (h (f x)) all) (omega arith)
  where
    tail : (o : Option Z) → All P (cons_option o (filter_map h (map f xs))) → All P (filter_map h (map f xs))
    tail None all = all
    tail (Some z) all = λ k e more. all (suc k) e (omega arith)

-- a slice that was lent comes back whole
pub whole : {X : Type 0} (n : ℕ) (new old : List X) → n ≡ length new → take n (new ++ drop (length new) old) ≡ new
whole n new old h = rw h (take-append_seam new (drop (length new) old))
