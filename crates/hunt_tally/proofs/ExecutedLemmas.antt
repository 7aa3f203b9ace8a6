-- Sets of instructions as the ascending lists of their numbers.
use Rattle.std.proofs.Common.{◌≡◌, ℕ, zero, suc, ◌+◌, ◌<◌, ◌≤◌, Bool, true, false, ◌&&◌, ◌||◌, cond, eqb, eqb-true, List, [], ◌∷◌, ◌++◌, refl, sym, ap, ◌∙◌, arith}
use Rattle.std.specs.Prelude.{filter}
use Rattle.std.specs.List.{range_with_len}
use Rattle.std.proofs.lemmas.List.Folds.{list_any-append}
use Rattle.std.proofs.lemmas.Map.Views.{any-filter_same}
use Rattle.hunt_tally.specs.Executed.{is_among, is_marked, marked, most, set_of}

-- a filter of a range goes by what the test says of the numbers in it
pub filter_range : (f g : ℕ → Bool) (a n : ℕ) → ((k : ℕ) → k < a + n → f k ≡ g k) → filter f (range_with_len a n) ≡ filter g (range_with_len a n)
filter_range f g a zero same = refl
filter_range f g a (suc n) same =
    let here = same a (omega arith) in
    let more = filter_range f g (a + 1) n (λ k low. same k (omega (arith, low))) in
    ap (λ b. cond b (a ∷ filter f (range_with_len (a + 1) n)) (filter f (range_with_len (a + 1) n))) here
    ∙ ap (λ xs. cond (g a) (a ∷ xs) xs) more

pub filter_below : (f g : ℕ → Bool) (m : ℕ) → ((k : ℕ) → k < m → f k ≡ g k) → filter f (range_with_len 0 m) ≡ filter g (range_with_len 0 m)
filter_below f g m same = filter_range f g 0 m (λ k low. same k (omega (arith, low)))

in_range : (n a m : ℕ) → a ≤ n → n < a + m → is_among n (range_with_len a m) ≡ true
in_range n a zero from to = absurd (omega (arith, from, to))
in_range n a (suc m) from to = by (eqb n a) refl (λ apart. in_range n (a + 1) m apart (omega (arith, to)))
  where
    by : (b : Bool) → eqb n a ≡ b → (a + 1 ≤ n → is_among n (range_with_len (a + 1) m) ≡ true) → is_among n (range_with_len a (suc m)) ≡ true
    by true e rest = ap (λ b. b || is_among n (range_with_len (a + 1) m)) e
    by false e rest =
        let apart : a + 1 ≤ n = grind (arith, e, from) in
        ap (λ b. b || is_among n (range_with_len (a + 1) m)) e ∙ rest apart

in_below : (n m : ℕ) → n < m → is_among n (range_with_len 0 m) ≡ true
in_below n m low = in_range n 0 m (omega arith) (omega (arith, low))

above_range : (n a m : ℕ) → a + m ≤ n → is_among n (range_with_len a m) ≡ false
above_range n a zero to = refl
above_range n a (suc m) to =
    let apart : eqb n a ≡ false = grind (arith, to) in
    ap (λ b. b || is_among n (range_with_len (a + 1) m)) apart ∙ above_range n (a + 1) m (omega (arith, to))

above : (n m : ℕ) → m ≤ n → is_among n (range_with_len 0 m) ≡ false
above n m high = above_range n 0 m (omega (arith, high))

and_false : (b : Bool) → (b && false) ≡ false
and_false true = refl
and_false false = refl

and_true : (b : Bool) → (b && true) ≡ b
and_true true = refl
and_true false = refl

-- what a filter of the numbers below the most has
pub among_filter : (f : ℕ → Bool) (n : ℕ) → n < most → is_among n (filter f (range_with_len 0 most)) ≡ f n
among_filter f n low =
    any-filter_same (λ k. eqb n k) f (f n) (λ k e. ap f (sym (eqb-true n k e))) (range_with_len 0 most)
    ∙ ap (λ b. f n && b) (in_below n most low) ∙ and_true (f n)

pub among_set : (numbers : List ℕ) (n : ℕ) → n < most → is_among n (set_of numbers) ≡ is_among n numbers
unfolding set_of
among_set numbers n low = among_filter (λ k. is_among k numbers) n low

-- two lists with the same numbers below the most make one set
pub set_same : (xs ys : List ℕ) → ((n : ℕ) → n < most → is_among n xs ≡ is_among n ys) → set_of xs ≡ set_of ys
unfolding set_of
set_same xs ys same = filter_below (λ n. is_among n xs) (λ n. is_among n ys) most same

-- a set with numbers more
pub set_more : (xs ys : List ℕ) → set_of (set_of xs ++ ys) ≡ set_of (xs ++ ys)
set_more xs ys = set_same (set_of xs ++ ys) (xs ++ ys) (λ n low.
    list_any-append (λ k. eqb n k) (set_of xs) ys ∙ ap (λ b. b || is_among n ys) (among_set xs n low) ∙ sym (list_any-append (λ k. eqb n k) xs ys))

-- two sets together
pub set_both : (xs ys : List ℕ) → set_of (set_of xs ++ set_of ys) ≡ set_of (xs ++ ys)
set_both xs ys = set_same (set_of xs ++ set_of ys) (xs ++ ys) (λ n low.
    list_any-append (λ k. eqb n k) (set_of xs) (set_of ys) ∙ (λ i. among_set xs n low i || among_set ys n low i) ∙ sym (list_any-append (λ k. eqb n k) xs ys))

-- what marks stand for
pub among_marks : (marks : List Bool) (n : ℕ) → n < most → is_among n (marked marks) ≡ is_marked marks n
unfolding marked
among_marks marks n low = among_filter (is_marked marks) n low

pub no_marks : (marks : List Bool) (n : ℕ) → most ≤ n → is_among n (marked marks) ≡ false
unfolding marked
no_marks marks n high =
    any-filter_same (λ k. eqb n k) (is_marked marks) (is_marked marks n) (λ k e. ap (is_marked marks) (sym (eqb-true n k e))) (range_with_len 0 most)
    ∙ ap (λ b. is_marked marks n && b) (above n most high) ∙ and_false (is_marked marks n)

pub most_is : most ≡ 1048576
unfolding most
most_is = refl

pub marks_none : (marks : List Bool) → marks ≡ [] → marked marks ≡ set_of []
unfolding marked set_of
marks_none marks none = ap (λ ms. filter (is_marked ms) (range_with_len 0 most)) none ∙ filter_below (is_marked []) (λ n. is_among n []) most (λ n low. refl)

marked_filter : (marks : List Bool) → marked marks ≡ filter (is_marked marks) (range_with_len 0 most)
unfolding marked
marked_filter marks = refl

-- marks that have one more for each of these numbers
pub marks_more : (marks new : List Bool) (more : List ℕ) → ((n : ℕ) → is_marked new n ≡ (is_marked marks n || is_among n more)) → marked new ≡ set_of (marked marks ++ more)
unfolding set_of
marks_more marks new more same = by
  where
    there : (n : ℕ) → n < most → is_marked new n ≡ is_among n (marked marks ++ more)
    there n low = same n ∙ ap (λ b. b || is_among n more) (sym (among_marks marks n low)) ∙ sym (list_any-append (λ k. eqb n k) (marked marks) more)

    by : marked new ≡ filter (λ n. is_among n (marked marks ++ more)) (range_with_len 0 most)
    by = marked_filter new ∙ filter_below (is_marked new) (λ n. is_among n (marked marks ++ more)) most there

-- the same for the numbers that others mark
pub marks_both : (marks others new : List Bool) → ((n : ℕ) → is_marked new n ≡ (is_marked marks n || is_marked others n)) → marked new ≡ set_of (marked marks ++ marked others)
unfolding set_of
marks_both marks others new same = by
  where
    there : (n : ℕ) → n < most → is_marked new n ≡ is_among n (marked marks ++ marked others)
    there n low = same n ∙ (λ i. sym (among_marks marks n low) i || sym (among_marks others n low) i) ∙ sym (list_any-append (λ k. eqb n k) (marked marks) (marked others))

    by : marked new ≡ filter (λ n. is_among n (marked marks ++ marked others)) (range_with_len 0 most)
    by = marked_filter new ∙ filter_below (is_marked new) (λ n. is_among n (marked marks ++ marked others)) most there

-- ---- marks one after the other

or_assoc : (a b c : Bool) → ((a || b) || c) ≡ (a || (b || c))
or_assoc true b c = refl
or_assoc false b c = refl

or_false : (b : Bool) → (b || false) ≡ b
or_false true = refl
or_false false = refl

-- the first of those that are left is marked
pub all_step : (old now next : List Bool) (x : ℕ) (rest all : List ℕ) → ((n : ℕ) → (is_marked now n || is_among n (x ∷ rest)) ≡ (is_marked old n || is_among n all))
    → ((n : ℕ) → is_marked next n ≡ (is_marked now n || eqb n x)) → (n : ℕ) → (is_marked next n || is_among n rest) ≡ (is_marked old n || is_among n all)
all_step old now next x rest all was more n = ap (λ b. b || is_among n rest) (more n) ∙ or_assoc (is_marked now n) (eqb n x) (is_among n rest) ∙ was n

pub all_done : (old now : List Bool) (all : List ℕ) → ((n : ℕ) → (is_marked now n || is_among n []) ≡ (is_marked old n || is_among n all)) → (n : ℕ) → is_marked now n ≡ (is_marked old n || is_among n all)
all_done old now all was n = sym (or_false (is_marked now n)) ∙ was n
