-- What runs tell, and what they and one telling more.
use Rattle.std.proofs.Common.{◌≡◌, ℕ, zero, suc, ◌+◌, ◌≤◌, ◌<◌, Bool, true, false, cond, ◌||◌, eqb, List, [], ◌∷◌, ◌++◌, length, map, take, refl, sym, ap, ◌∙◌, subst, arith, true≢false, append_assoc, append-nil, if◌then◌else◌}
use Rattle.std.specs.List.{list_any, count_by, position_or_len}
use Rattle.std.specs.Str.{bytes_eq}
use Rattle.std.proofs.lemmas.Slice.Eq.{bytes_eq-Decides}
use Rattle.std.proofs.lemmas.List.Folds.{list_any-append, position_or_len_push}
use Rattle.std.proofs.lemmas.List.Sums.{sum_by_push, sum_by-cons, count_by-le-length}
use Rattle.std.specs.Prelude.{slice_get, Some}
use Rattle.std.proofs.lemmas.Option.{none-some, same_Some}
use Rattle.hunt_tally.specs.Tallies.{Tells, has, firsts, distinct, all_of, last_from, Entry, entry_of, entries_of}
use Rattle.hunt_tally.specs.Takes.{fresh, counted, took}

-- ---- keys

pub same_key : (k l : List ℕ) → bytes_eq k l ≡ true → k ≡ l
same_key k l e = (bytes_eq-Decides k l).0 e

pub same_self : (k : List ℕ) → bytes_eq k k ≡ true
same_self k = (bytes_eq-Decides k k).1 refl

same_swap : (k l : List ℕ) → bytes_eq k l ≡ true → bytes_eq l k ≡ true
same_swap k l e = (bytes_eq-Decides l k).1 (sym (same_key k l e))

pub has_push : (k : List ℕ) (ts : List Tells) (t : Tells) → has k (ts ++ t ∷ []) ≡ (has k ts || bytes_eq k t.key)
has_push k [] t = elim (bytes_eq k t.key) as (λ b. (b || false) ≡ b) [ true ↦ refl | false ↦ refl ]
has_push k (u ∷ us) t = by (bytes_eq k u.key) (has_push k us t)
  where
    by : (b : Bool) → has k (us ++ t ∷ []) ≡ (has k us || bytes_eq k t.key) → (b || has k (us ++ t ∷ [])) ≡ ((b || has k us) || bytes_eq k t.key)
    by true e = refl
    by false e = e

pub swap_false : (k l : List ℕ) → bytes_eq k l ≡ false → bytes_eq l k ≡ false
swap_false k l e = by (bytes_eq l k) refl
  where
    by : (b : Bool) → bytes_eq l k ≡ b → bytes_eq l k ≡ false
    by true same = absurd (true≢false (sym (same_swap l k same) ∙ e))
    by false other = other

or_false : (b : Bool) → (b || false) ≡ b
or_false true = refl
or_false false = refl

or_true : (b : Bool) → (b || true) ≡ true
or_true true = refl
or_true false = refl

or_none : (a b : Bool) → (a || b) ≡ false → a ≡ false
or_none true b e = e
or_none false b e = refl

swap : (x y z : Bool) → (y || (x || z)) ≡ ((x || y) || z)
swap true true z = refl
swap true false z = refl
swap false y z = refl

-- ---- the tally of one telling more

module _ (run : ℕ) (t : Tells) (all : List Tells) (old new : Tells → Entry)
    (named : (u : Tells) → (old u).told.key ≡ u.key)
    (other : (u : Tells) → bytes_eq t.key u.key ≡ false → old u ≡ new u)
    (same : (u : Tells) → bytes_eq t.key u.key ≡ true → has t.key all ≡ true → counted run (old u) ≡ new u)
    (first : has t.key all ≡ false → fresh run t ≡ new t) where
  -- what is not there isn't what is
  else_other : (before : List Tells) (u : Tells) → has t.key before ≡ true → has u.key before ≡ false → bytes_eq t.key u.key ≡ false
  else_other before u is isnt = by (bytes_eq t.key u.key) refl
    where
      by : (b : Bool) → bytes_eq t.key u.key ≡ b → bytes_eq t.key u.key ≡ false
      by true e = absurd (true≢false (sym is ∙ ap (λ k. has k before) (same_key t.key u.key e) ∙ isnt))
      by false e = e

  later : (before : List Tells) (u : Tells) → has t.key before ≡ true → has t.key (u ∷ before) ≡ true
  later before u is = elim (bytes_eq t.key u.key) as (λ b. (b || has t.key before) ≡ true) [ true ↦ refl | false ↦ is ]

  -- where the key is among those before, it is counted nowhere from here on
  behind : (before ts : List Tells) → has t.key before ≡ true → map old (firsts before ts) ≡ map new (firsts before (ts ++ t ∷ []))
  unfolding firsts
  behind before [] is = rw is refl
  behind before (u ∷ us) is = by (has u.key before) refl (behind (u ∷ before) us (later before u is))
    where
      by : (b : Bool) → has u.key before ≡ b → map old (firsts (u ∷ before) us) ≡ map new (firsts (u ∷ before) (us ++ t ∷ []))
          → map old (if b then firsts (u ∷ before) us else u ∷ firsts (u ∷ before) us) ≡ map new (if b then firsts (u ∷ before) (us ++ t ∷ []) else u ∷ firsts (u ∷ before) (us ++ t ∷ []))
      by true e rest = rest
      by false e rest = ap (λ x. x ∷ map old (firsts (u ∷ before) us)) (other u (else_other before u is e)) ∙ ap (λ xs. new u ∷ xs) rest

  -- of those that are left, where none before has the key
  pub taken : (before ts : List Tells) → has t.key before ≡ false → (has t.key ts || has t.key before) ≡ has t.key all
      → took run (map old (firsts before ts)) t ≡ map new (firsts before (ts ++ t ∷ []))
  unfolding firsts
  taken before [] isnt whole = rw isnt (ap (λ x. x ∷ []) (first (sym whole ∙ isnt)))
  taken before (u ∷ us) isnt whole = by (bytes_eq t.key u.key) refl (has u.key before) refl (taken (u ∷ before) us)
    where
      moved : (has t.key us || has t.key (u ∷ before)) ≡ has t.key all
      moved = swap (bytes_eq t.key u.key) (has t.key us) (has t.key before) ∙ whole

      by : (s : Bool) → bytes_eq t.key u.key ≡ s → (b : Bool) → has u.key before ≡ b
          → (has t.key (u ∷ before) ≡ false → (has t.key us || has t.key (u ∷ before)) ≡ has t.key all → took run (map old (firsts (u ∷ before) us)) t ≡ map new (firsts (u ∷ before) (us ++ t ∷ [])))
          → took run (map old (if b then firsts (u ∷ before) us else u ∷ firsts (u ∷ before) us)) t ≡ map new (if b then firsts (u ∷ before) (us ++ t ∷ []) else u ∷ firsts (u ∷ before) (us ++ t ∷ []))
      by true e true b rest = absurd (true≢false (sym b ∙ sym (ap (λ k. has k before) (same_key t.key u.key e)) ∙ isnt))
      by true e false b rest = rw (ap (bytes_eq t.key) (named u) ∙ e) (ap (λ x. x ∷ map old (firsts (u ∷ before) us)) (same u e (sym whole ∙ ap (λ s. (s || has t.key us) || has t.key before) e)) ∙ ap (λ xs. new u ∷ xs) (behind (u ∷ before) us (ap (λ s. s || has t.key before) e)))
      by false e true b rest = rest (ap (λ s. s || has t.key before) e ∙ isnt) moved
      by false e false b rest = rw (ap (bytes_eq t.key) (named u) ∙ e) (ap (λ x. x ∷ took run (map old (firsts (u ∷ before) us)) t) (other u e) ∙ ap (λ xs. new u ∷ xs) (rest (ap (λ s. s || has t.key before) e ∙ isnt) moved))

-- ---- one run more, and the same with one telling more

last_push : (test : List Tells → Bool) (n : ℕ) (runs : List (List Tells)) (run : List Tells) (d : ℕ) → last_from test n (runs ++ run ∷ []) d ≡ (if test run then n + length runs else last_from test n runs d)
unfolding last_from
last_push test n [] run d = elim (test run) as (λ b. (if b then n else d) ≡ (if b then n + 0 else d)) [ true ↦ omega arith | false ↦ refl ]
last_push test n (r ∷ rs) run d = let at : suc n + length rs ≡ n + suc (length rs) = omega arith in
    last_push test (suc n) rs run (if test r then n else d) ∙ ap (λ k. if test run then k else last_from test (suc n) rs (if test r then n else d)) at

pub last_within : (test : List Tells → Bool) (n : ℕ) (runs : List (List Tells)) (d : ℕ) → d < n + length runs → last_from test n runs d < n + length runs
unfolding last_from
last_within test n [] d small = small
last_within test n (r ∷ rs) d small = by (test r) (last_within test (suc n) rs)
  where
    by : (b : Bool) → ((e : ℕ) → e < suc n + length rs → last_from test (suc n) rs e < suc n + length rs) → last_from test (suc n) rs (if b then n else d) < n + suc (length rs)
    by true rest = let less = rest n (omega arith) in omega (arith, less)
    by false rest = let less = rest d (omega (arith, small)) in omega (arith, less)

has_all : (key : List ℕ) (runs : List (List Tells)) → has key (all_of runs) ≡ list_any (has key) runs
has_all key [] = refl
has_all key (r ∷ rs) = list_any-append (λ (t : Tells). bytes_eq key t.key) r (all_of rs) ∙ ap (λ b. has key r || b) (has_all key rs)

all_push : (runs : List (List Tells)) (run : List Tells) → all_of (runs ++ run ∷ []) ≡ all_of runs ++ run
all_push [] run = append-nil run
all_push (r ∷ rs) run = ap (λ xs. r ++ xs) (all_push rs run) ∙ sym (append_assoc r (all_of rs) run)

pub none_counted : {X : Type 0} (test : X → Bool) (runs : List X) → list_any test runs ≡ false → (count_by test runs ≡ 0) × (position_or_len test runs ≡ length runs)
none_counted {X} test [] none = (refl, refl)
none_counted {X} test (r ∷ rs) none = by (test r) refl (none_counted test rs)
  where
    by : (b : Bool) → test r ≡ b → (list_any test rs ≡ false → (count_by test rs ≡ 0) × (position_or_len test rs ≡ length rs)) → (count_by test (r ∷ rs) ≡ 0) × (position_or_len test (r ∷ rs) ≡ length (r ∷ rs))
    by true e rest = absurd (true≢false (sym (ap (λ s. s || list_any test rs) e) ∙ none))
    by false e rest = let left = rest (sym (ap (λ s. s || list_any test rs) e) ∙ none) in
        (sum_by-cons (λ (x : X). cond (test x) 1 0) r rs ∙ ap (λ b. cond b 1 0 + count_by test rs) e ∙ omega (arith, left.0), rw e (let more : 1 + position_or_len test rs ≡ suc (length rs) = omega (arith, left.1) in more))

pub first_within : {X : Type 0} (test : X → Bool) (runs : List X) → list_any test runs ≡ true → position_or_len test runs < length runs
first_within test [] some = absurd (true≢false (sym some))
first_within test (r ∷ rs) some = by (test r) refl (first_within test rs)
  where
    by : (b : Bool) → test r ≡ b → (list_any test rs ≡ true → position_or_len test rs < length rs) → position_or_len test (r ∷ rs) < suc (length rs)
    by true e rest = rw e (omega arith)
    by false e rest = let less = rest (sym (ap (λ s. s || list_any test rs) e) ∙ some) in rw e (let more : 1 + position_or_len test rs < suc (length rs) = omega (arith, less) in more)

module _ (runs : List (List Tells)) where
  -- the entry of a telling, by whether the last run has it
  made : Tells → Bool → Entry
  made u b = record {
    told = record {
      key = u.key;
      shown = u.shown;
      runs = count_by (has u.key) runs + cond b 1 0;
      first = cond (eqb (position_or_len (has u.key) runs) (length runs)) (length runs + cond b 0 1) (position_or_len (has u.key) runs);
    };
    last = if b then length runs else last_from (has u.key) 0 runs 0;
  }

  entry_push : (run : List Tells) (u : Tells) → entry_of (runs ++ run ∷ []) u ≡ made u (has u.key run)
  unfolding made
  entry_push run u =
      let n = sum_by_push (λ (r : List Tells). cond (has u.key r) 1 0) runs run in
      let f = position_or_len_push (has u.key) runs run in
      let l : last_from (has u.key) 0 (runs ++ run ∷ []) 0 ≡ (if has u.key run then length runs else last_from (has u.key) 0 runs 0)
      = last_push (has u.key) 0 runs run 0 ∙ ap (λ k. if has u.key run then k else last_from (has u.key) 0 runs 0) (let z : 0 + length runs ≡ length runs = omega arith in z) in
      λ i. record { told = record { key = u.key; shown = u.shown; runs = n i; first = f i }; last = l i }

  -- the last run tells it once more
  once_more : (u : Tells) (b : Bool) → (b ≡ false → list_any (has u.key) runs ≡ true) → counted (length runs) (made u b) ≡ made u true
  unfolding made
  once_more u true some = let same : eqb (length runs) (length runs) ≡ true = grind arith in rw same refl
  once_more u false some =
      let less = first_within (has u.key) runs (some refl) in
      let before = last_within (has u.key) 0 runs 0 (omega (arith, less)) in
      let apart : eqb (last_from (has u.key) 0 runs 0) (length runs) ≡ false = grind (arith, before) in
      let here : eqb (position_or_len (has u.key) runs) (length runs) ≡ false = grind (arith, less) in
      let n : count_by (has u.key) runs + 0 + 1 ≡ count_by (has u.key) runs + 1 = omega arith in
      rw (apart, here) (λ i. record { told = record { key = u.key; shown = u.shown; runs = n i; first = position_or_len (has u.key) runs }; last = length runs })

  -- and it is the first
  first_of_all : (t : Tells) → list_any (has t.key) runs ≡ false → fresh (length runs) t ≡ made t true
  unfolding made
  first_of_all t none =
      let is = none_counted (has t.key) runs none in
      let same : eqb (length runs) (length runs) ≡ true = grind arith in
      let n : 1 ≡ count_by (has t.key) runs + 1 = omega (arith, is.0) in
      let f : length runs ≡ cond (eqb (position_or_len (has t.key) runs) (length runs)) (length runs + 0) (position_or_len (has t.key) runs)
      = rw (is.1, same) (omega arith) in
      λ i. record { told = record { key = t.key; shown = t.shown; runs = n i; first = f i }; last = length runs }

  -- one telling more of the last run
  pub took_more : (run : List Tells) (t : Tells) → entries_of (runs ++ (run ++ t ∷ []) ∷ []) ≡ took (length runs) (entries_of (runs ++ run ∷ [])) t
  unfolding entries_of
  took_more run t =
      let all : List Tells = all_of (runs ++ run ∷ []) in
      let old : Tells → Entry = entry_of (runs ++ run ∷ []) in
      let new : Tells → Entry = entry_of (runs ++ (run ++ t ∷ []) ∷ []) in
      let longer : all_of (runs ++ (run ++ t ∷ []) ∷ []) ≡ all ++ t ∷ []
      = all_push runs (run ++ t ∷ []) ∙ sym (append_assoc (all_of runs) run (t ∷ [])) ∙ ap (λ xs. xs ++ t ∷ []) (sym (all_push runs run)) in
      let has_in : (key : List ℕ) → has key all ≡ (list_any (has key) runs || has key run)
      = λ key. ap (has key) (all_push runs run) ∙ list_any-append (λ (u : Tells). bytes_eq key u.key) (all_of runs) run ∙ ap (λ b. b || has key run) (has_all key runs) in
      let other : (u : Tells) → bytes_eq t.key u.key ≡ false → old u ≡ new u
      = λ u e. entry_push run u ∙ ap (made u) (sym (has_push u.key run t ∙ ap (λ b. has u.key run || b) (swap_false t.key u.key e) ∙ or_false (has u.key run))) ∙ sym (entry_push (run ++ t ∷ []) u) in
      let same : (u : Tells) → bytes_eq t.key u.key ≡ true → has t.key all ≡ true → counted (length runs) (old u) ≡ new u
      = λ u e there. ap (counted (length runs)) (entry_push run u)
      ∙ once_more u (has u.key run) (λ none. sym (or_false (list_any (has u.key) runs)) ∙ ap (λ b. list_any (has u.key) runs || b) (sym none) ∙ sym (has_in u.key) ∙ ap (λ k. has k all) (sym (same_key t.key u.key e)) ∙ there)
      ∙ ap (made u) (sym (has_push u.key run t ∙ ap (λ b. has u.key run || b) (same_swap t.key u.key e) ∙ or_true (has u.key run))) ∙ sym (entry_push (run ++ t ∷ []) u) in
      let first : has t.key all ≡ false → fresh (length runs) t ≡ new t
      = λ none. first_of_all t (or_none (list_any (has t.key) runs) (has t.key run) (sym (has_in t.key) ∙ none))
      ∙ ap (made t) (sym (has_push t.key run t ∙ ap (λ b. has t.key run || b) (same_self t.key) ∙ or_true (has t.key run))) ∙ sym (entry_push (run ++ t ∷ []) t) in
      let step = taken (length runs) t all old new (λ u. refl) other same first [] all refl (or_false (has t.key all)) in
      ap (λ xs. map new (firsts [] xs)) longer ∙ sym step

  -- one run more that tells nothing
  same_on : (f g : Tells → Entry) (all : List Tells) → ((u : Tells) → has u.key all ≡ true → f u ≡ g u) → (before ts : List Tells) → ((key : List ℕ) → has key ts ≡ true → has key all ≡ true)
      → map f (firsts before ts) ≡ map g (firsts before ts)
  unfolding firsts
  same_on f g all same before [] inside = refl
  same_on f g all same before (u ∷ us) inside = by (has u.key before) (same_on f g all same (u ∷ before) us (λ key is. inside key (elim (bytes_eq key u.key) as (λ b. (b || has key us) ≡ true) [ true ↦ refl | false ↦ is ])))
    where
      by : (b : Bool) → map f (firsts (u ∷ before) us) ≡ map g (firsts (u ∷ before) us)
          → map f (if b then firsts (u ∷ before) us else u ∷ firsts (u ∷ before) us) ≡ map g (if b then firsts (u ∷ before) us else u ∷ firsts (u ∷ before) us)
      by true rest = rest
      by false rest = ap (λ x. x ∷ map f (firsts (u ∷ before) us)) (same u (inside u.key (ap (λ b. b || has u.key us) (same_self u.key)))) ∙ ap (λ xs. g u ∷ xs) rest

  pub took_none : entries_of (runs ++ [] ∷ []) ≡ entries_of runs
  unfolding entries_of made
  took_none =
      let same : (u : Tells) → has u.key (all_of runs) ≡ true → entry_of (runs ++ [] ∷ []) u ≡ entry_of runs u
      = λ u is.
      let less = first_within (has u.key) runs (sym (has_all u.key runs) ∙ is) in
      let here : eqb (position_or_len (has u.key) runs) (length runs) ≡ false = grind (arith, less) in
      let n : count_by (has u.key) runs + 0 ≡ count_by (has u.key) runs = omega arith in
      let f : cond (eqb (position_or_len (has u.key) runs) (length runs)) (length runs + 1) (position_or_len (has u.key) runs) ≡ position_or_len (has u.key) runs = rw here refl in
      entry_push [] u ∙ (λ i. record { told = record { key = u.key; shown = u.shown; runs = n i; first = f i }; last = last_from (has u.key) 0 runs 0 }) in
      ap (λ xs. map (entry_of (runs ++ [] ∷ [])) (firsts [] xs)) (all_push runs [] ∙ append-nil (all_of runs))
      ∙ same_on (entry_of (runs ++ [] ∷ [])) (entry_of runs) (all_of runs) same [] (all_of runs) (λ key is. is)

-- no key is told by more runs than there are
pub few : (runs : List (List Tells)) (i : ℕ) (e : Entry) → slice_get (entries_of runs) i ≡ Some e → e.told.runs ≤ length runs
unfolding entries_of
few runs i e at = over (distinct (all_of runs)) i at
  where
    over : (us : List Tells) (i : ℕ) → slice_get (map (entry_of runs) us) i ≡ Some e → e.told.runs ≤ length runs
    over [] i at = absurd (none-some e at)
    over (u ∷ us) zero at = subst (λ (x : Entry). x.told.runs ≤ length runs) (same_Some _ _ at) (count_by-le-length (has u.key) runs)
    over (u ∷ us) (suc i) at = over us i at

pub none_of : [] ≡ entries_of []
unfolding entries_of firsts
none_of = refl

pub take_front : {X : Type 0} (xs ys : List X) → take (length xs) (xs ++ ys) ≡ xs
take_front [] ys = refl
take_front (x ∷ xs) ys = ap (λ zs. x ∷ zs) (take_front xs ys)
