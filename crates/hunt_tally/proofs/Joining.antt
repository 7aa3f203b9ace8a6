-- What runs tell, and what those behind them tell, together.
use Rattle.std.proofs.Common.{◌≡◌, ℕ, zero, suc, ◌+◌, ◌≤◌, ◌<◌, ◌^◌, Bool, true, false, cond, not, ◌||◌, eqb, List, [], ◌∷◌, ◌++◌, length, map, replicate, refl, sym, ap, ◌∙◌, subst, arith, true≢false, append_assoc, append-nil, length-append, if◌then◌else◌}
use Rattle.std.specs.List.{count_by, position_or_len}
use Rattle.std.specs.Str.{bytes_eq}
use Rattle.std.proofs.lemmas.List.{length-replicate}
use Rattle.std.proofs.lemmas.List.Sums.{count_by-le-length}
use Rattle.hunt_tally.specs.Tallies.{Tells, has, firsts, distinct, all_of, last_from, Entry, entry_of, entries_of, Tallied, tallied}
use Rattle.hunt_tally.specs.Takes.{fresh, counted, took}
use Rattle.hunt_tally.specs.Joins.{shifted, merged, with_entry, joined, first_with, runs_telling, is_named, Fits, Joined}
use Rattle.hunt_tally.proofs.Taking.{same_key, same_self, swap_false, last_within, took_more, took_none, none_of}

-- ---- an entry is put among others

-- the first entry with a key is what it was where another one's is put
put_apart : {X : Type 0} (value : Entry → X) (none : X) (before : ℕ) (key : List ℕ) (f : Entry) (es : List Entry) → bytes_eq key f.told.key ≡ false
    → first_with value none key (with_entry before es f) ≡ first_with value none key es
put_apart value none before key f [] other = rw other refl
put_apart {X} value none before key f (e ∷ es) other = by (bytes_eq f.told.key e.told.key) refl (put_apart value none before key f es other)
  where
    by : (b : Bool) → bytes_eq f.told.key e.told.key ≡ b → first_with value none key (with_entry before es f) ≡ first_with value none key es
        → first_with value none key (if b then merged before f e ∷ es else e ∷ with_entry before es f) ≡ first_with value none key (e ∷ es)
    by true same rest = let apart : bytes_eq key e.told.key ≡ false = ap (bytes_eq key) (sym (same_key f.told.key e.told.key same)) ∙ other in rw apart refl
    by false isnt rest = ap (λ x. cond (bytes_eq key e.told.key) (value e) x) rest

-- a key that is there stays there
named_on : (before : ℕ) (key : List ℕ) (f : Entry) (es : List Entry) → is_named key es ≡ true → is_named key (with_entry before es f) ≡ true
named_on before key f [] is = absurd (true≢false (sym is))
named_on before key f (e ∷ es) is = by (bytes_eq f.told.key e.told.key) (bytes_eq key e.told.key) refl (named_on before key f es)
  where
    by : (c b : Bool) → bytes_eq key e.told.key ≡ b → (is_named key es ≡ true → is_named key (with_entry before es f) ≡ true)
        → is_named key (if c then merged before f e ∷ es else e ∷ with_entry before es f) ≡ true
    by true b e rest = is
    by false true there rest = rw there refl
    by false false isnt rest = rw isnt (rest (sym (ap (λ b. b || is_named key es) isnt) ∙ is))

-- and one that is put is there
named_now : (before : ℕ) (f : Entry) (es : List Entry) → is_named f.told.key (with_entry before es f) ≡ true
named_now before f [] = rw (same_self f.told.key) refl
named_now before f (e ∷ es) = by (bytes_eq f.told.key e.told.key) refl (named_now before f es)
  where
    by : (b : Bool) → bytes_eq f.told.key e.told.key ≡ b → is_named f.told.key (with_entry before es f) ≡ true
        → is_named f.told.key (if b then merged before f e ∷ es else e ∷ with_entry before es f) ≡ true
    by true same rest = rw same refl
    by false isnt rest = rw isnt rest

-- ---- a telling more of the runs behind

module _ (before : ℕ) (t : Tells) where
  -- of a key of which nothing is told behind, where the last run before didn't tell it
  new_behind : (run : ℕ) (es : List Entry) → first_with (λ (e : Entry). eqb e.last (before + run)) false t.key es ≡ false
      → with_entry before es (fresh run t) ≡ took (before + run) es t
  new_behind run [] apart = refl
  new_behind run (e ∷ es) apart = by (bytes_eq t.key e.told.key) refl (new_behind run es)
    where
      by : (b : Bool) → bytes_eq t.key e.told.key ≡ b → (first_with (λ (x : Entry). eqb x.last (before + run)) false t.key es ≡ false → with_entry before es (fresh run t) ≡ took (before + run) es t)
          → (if b then merged before (fresh run t) e ∷ es else e ∷ with_entry before es (fresh run t)) ≡ (if b then counted (before + run) e ∷ es else e ∷ took (before + run) es t)
      by true same rest =
          let now : eqb e.last (before + run) ≡ false = sym (ap (λ b. cond b (eqb e.last (before + run)) (first_with (λ (x : Entry). eqb x.last (before + run)) false t.key es)) same) ∙ apart in
          rw now refl
      by false isnt rest = ap (λ xs. e ∷ xs) (rest (sym (ap (λ b. cond b (eqb e.last (before + run)) (first_with (λ (x : Entry). eqb x.last (before + run)) false t.key es)) isnt) ∙ apart))

  -- of the key of an entry behind
  put_then : (r : ℕ) (f g : Entry) → shifted before g ≡ counted r (shifted before f) → ((e : Entry) → merged before g e ≡ counted r (merged before f e)) → g.told.key ≡ f.told.key → t.key ≡ f.told.key
      → (es : List Entry) → with_entry before es g ≡ took r (with_entry before es f) t
  put_then r f g shift merge named same [] = let here : bytes_eq t.key f.told.key ≡ true = ap (λ k. bytes_eq k f.told.key) same ∙ same_self f.told.key in rw here (ap (λ x. x ∷ []) shift)
  put_then r f g shift merge named same (e ∷ es) = by (bytes_eq f.told.key e.told.key) refl (put_then r f g shift merge named same es)
    where
      by : (b : Bool) → bytes_eq f.told.key e.told.key ≡ b → with_entry before es g ≡ took r (with_entry before es f) t
          → with_entry before (e ∷ es) g ≡ took r (if b then merged before f e ∷ es else e ∷ with_entry before es f) t
      by true is rest =
          let one : bytes_eq g.told.key e.told.key ≡ true = ap (λ k. bytes_eq k e.told.key) named ∙ is in
          let two : bytes_eq t.key e.told.key ≡ true = ap (λ k. bytes_eq k e.told.key) same ∙ is in
          rw (one, two) (ap (λ x. x ∷ es) (merge e))
      by false isnt rest =
          let one : bytes_eq g.told.key e.told.key ≡ false = ap (λ k. bytes_eq k e.told.key) named ∙ isnt in
          let two : bytes_eq t.key e.told.key ≡ false = ap (λ k. bytes_eq k e.told.key) same ∙ isnt in
          rw (one, two) (ap (λ xs. e ∷ xs) rest)

  once_more : (run : ℕ) (f : Entry) (es : List Entry) → t.key ≡ f.told.key → with_entry before es (counted run f) ≡ took (before + run) (with_entry before es f) t
  once_more run f es same = by (eqb f.last run) refl
    where
      by : (b : Bool) → eqb f.last run ≡ b → with_entry before es (if b then f else record { told = record f.told { runs = f.told.runs + 1 }; last = run }) ≡ took (before + run) (with_entry before es f) t
      by true is =
          let at : eqb (before + f.last) (before + run) ≡ true = grind (arith, is) in
          put_then (before + run) f f (rw at refl) (λ e. rw at refl) refl same es
      by false isnt =
          let at : eqb (before + f.last) (before + run) ≡ false = grind (arith, isnt) in
          put_then (before + run) f (record { told = record f.told { runs = f.told.runs + 1 }; last = run }) (rw at refl)
          (λ e. let n : e.told.runs + (f.told.runs + 1) ≡ e.told.runs + f.told.runs + 1 = omega arith in rw at (ap (λ m. record { told = record e.told { runs = m }; last = before + run }) n)) refl same es

  -- where its key is there, it can be counted after those of another key
  took_swap : (r : ℕ) (f : Entry) (es : List Entry) → bytes_eq t.key f.told.key ≡ false → is_named t.key es ≡ true → with_entry before (took r es t) f ≡ took r (with_entry before es f) t
  took_swap r f [] other is = absurd (true≢false (sym is))
  took_swap r f (e ∷ es) other is = by (bytes_eq t.key e.told.key) refl (bytes_eq f.told.key e.told.key) refl (took_swap r f es other)
    where
      key_stays : (counted r e).told.key ≡ e.told.key
      key_stays = elim (eqb e.last r) as (λ b. (if b then e else record { told = record e.told { runs = e.told.runs + 1 }; last = r }).told.key ≡ e.told.key) [ true ↦ refl | false ↦ refl ]

      by : (b : Bool) → bytes_eq t.key e.told.key ≡ b → (c : Bool) → bytes_eq f.told.key e.told.key ≡ c → (is_named t.key es ≡ true → with_entry before (took r es t) f ≡ took r (with_entry before es f) t)
          → with_entry before (if b then counted r e ∷ es else e ∷ took r es t) f ≡ took r (if c then merged before f e ∷ es else e ∷ with_entry before es f) t
      by true te true fe rest = absurd (true≢false (sym te ∙ ap (bytes_eq t.key) (sym (same_key f.told.key e.told.key fe)) ∙ other))
      by true te false fe rest =
          ap (λ b. if b then merged before f (counted r e) ∷ es else counted r e ∷ with_entry before es f) (ap (bytes_eq f.told.key) key_stays ∙ fe)
          ∙ sym (ap (λ b. if b then counted r e ∷ with_entry before es f else e ∷ took r (with_entry before es f) t) te)
      by false te true fe rest = rw (fe, te) refl
      by false te false fe rest = rw (fe, te) (ap (λ xs. e ∷ xs) (rest (sym (ap (λ b. b || is_named t.key es) te) ∙ is)))

  took_behind : (r : ℕ) (fs es : List Entry) → is_named t.key fs ≡ false → is_named t.key es ≡ true → joined before (took r es t) fs ≡ took r (joined before es fs) t
  took_behind r [] es none is = refl
  took_behind r (f ∷ fs) es none is = by (bytes_eq t.key f.told.key) refl none (λ left. took_behind r fs (with_entry before es f) left (named_on before t.key f es is))
    where
      by : (b : Bool) → bytes_eq t.key f.told.key ≡ b → (b || is_named t.key fs) ≡ false
          → (is_named t.key fs ≡ false → joined before (took r (with_entry before es f) t) fs ≡ took r (joined before (with_entry before es f) fs) t)
          → joined before (with_entry before (took r es t) f) fs ≡ took r (joined before (with_entry before es f) fs) t
      by true e left rest = absurd (true≢false left)
      by false e left rest = ap (λ xs. joined before xs fs) (took_swap r f es e is) ∙ rest left

-- no key is there twice
abbrev Apart : List Entry → Type 0
Apart [] = Unit {0}
Apart (f ∷ fs) = (is_named f.told.key fs ≡ false) × Apart fs

joined_took : (before run : ℕ) (t : Tells) (fs es : List Entry) → Apart fs → first_with (λ (e : Entry). eqb e.last (before + run)) false t.key es ≡ false
    → joined before es (took run fs t) ≡ took (before + run) (joined before es fs) t
joined_took before run t [] es apart last = new_behind before t run es last
joined_took before run t (f ∷ fs) es apart last = by (bytes_eq t.key f.told.key) refl (joined_took before run t fs (with_entry before es f) apart.1)
  where
    by : (b : Bool) → bytes_eq t.key f.told.key ≡ b
        → (first_with (λ (e : Entry). eqb e.last (before + run)) false t.key (with_entry before es f) ≡ false → joined before (with_entry before es f) (took run fs t) ≡ took (before + run) (joined before (with_entry before es f) fs) t)
        → joined before es (if b then counted run f ∷ fs else f ∷ took run fs t) ≡ took (before + run) (joined before (with_entry before es f) fs) t
    by true e rest =
        let same = same_key t.key f.told.key e in
        ap (λ xs. joined before xs fs) (once_more before t run f es same)
        ∙ took_behind before t (before + run) fs (with_entry before es f) (ap (λ k. is_named k fs) same ∙ apart.0) (ap (λ k. is_named k (with_entry before es f)) same ∙ named_now before f es)
    by false e rest = rest (put_apart (λ (x : Entry). eqb x.last (before + run)) false before t.key f es e ∙ last)

-- ---- the entries of runs

not_first : (k : List ℕ) (before ts : List Tells) → has k before ≡ true → has k (firsts before ts) ≡ false
unfolding firsts
not_first k before [] is = refl
not_first k before (u ∷ us) is = by (has u.key before) refl (not_first k (u ∷ before) us (elim (bytes_eq k u.key) as (λ b. (b || has k before) ≡ true) [ true ↦ refl | false ↦ is ]))
  where
    by : (b : Bool) → has u.key before ≡ b → has k (firsts (u ∷ before) us) ≡ false → has k (if b then firsts (u ∷ before) us else u ∷ firsts (u ∷ before) us) ≡ false
    by true e rest = rest
    by false e rest = other (bytes_eq k u.key) refl
      where
        other : (c : Bool) → bytes_eq k u.key ≡ c → (c || has k (firsts (u ∷ before) us)) ≡ false
        other true same = absurd (true≢false (sym is ∙ ap (λ l. has l before) (same_key k u.key same) ∙ e))
        other false isnt = rest

named_in : (runs : List (List Tells)) (k : List ℕ) (us : List Tells) → is_named k (map (entry_of runs) us) ≡ has k us
named_in runs k [] = refl
named_in runs k (u ∷ us) = ap (λ b. bytes_eq k u.key || b) (named_in runs k us)

apart_in : (runs : List (List Tells)) (before ts : List Tells) → Apart (map (entry_of runs) (firsts before ts))
unfolding firsts
apart_in runs before [] = tt
apart_in runs before (u ∷ us) = by (has u.key before) (apart_in runs (u ∷ before) us)
  where
    by : (b : Bool) → Apart (map (entry_of runs) (firsts (u ∷ before) us)) → Apart (map (entry_of runs) (if b then firsts (u ∷ before) us else u ∷ firsts (u ∷ before) us))
    by true rest = rest
    by false rest = (named_in runs u.key (firsts (u ∷ before) us) ∙ not_first u.key (u ∷ before) us (ap (λ b. b || has u.key before) (same_self u.key)), rest)

apart_of : (runs : List (List Tells)) → Apart (entries_of runs)
unfolding entries_of
apart_of runs = apart_in runs [] (all_of runs)

-- no run behind is the last one that tells a key
not_behind : (runs : List (List Tells)) (more : ℕ) (key : List ℕ) → first_with (λ (e : Entry). eqb e.last (length runs + more)) false key (entries_of runs) ≡ false
unfolding entries_of firsts
not_behind [] more key = refl
not_behind (run ∷ runs) more key = over (distinct (all_of (run ∷ runs)))
  where
    over : (us : List Tells) → first_with (λ (e : Entry). eqb e.last (length (run ∷ runs) + more)) false key (map (entry_of (run ∷ runs)) us) ≡ false
    over [] = refl
    over (u ∷ us) =
        let less = last_within (has u.key) 0 (run ∷ runs) 0 (omega arith) in
        let isnt : eqb (last_from (has u.key) 0 (run ∷ runs) 0) (length (run ∷ runs) + more) ≡ false = grind (arith, less) in
        by (bytes_eq key u.key) isnt (over us)
      where
        by : (b : Bool) → eqb (last_from (has u.key) 0 (run ∷ runs) 0) (length (run ∷ runs) + more) ≡ false
            → first_with (λ (e : Entry). eqb e.last (length (run ∷ runs) + more)) false key (map (entry_of (run ∷ runs)) us) ≡ false
            → (if b then eqb (last_from (has u.key) 0 (run ∷ runs) 0) (length (run ∷ runs) + more) else first_with (λ (e : Entry). eqb e.last (length (run ∷ runs) + more)) false key (map (entry_of (run ∷ runs)) us)) ≡ false
        by true isnt rest = isnt
        by false isnt rest = rest

-- ---- run by run

module _ (runs : List (List Tells)) where
  abbrev Shows : List (List Tells) → Type 0
  Shows behind = joined (length runs) (entries_of runs) (entries_of behind) ≡ entries_of (runs ++ behind)

  one_telling : (done : List (List Tells)) (run : List Tells) (t : Tells) → Shows (done ++ run ∷ []) → Shows (done ++ (run ++ t ∷ []) ∷ [])
  one_telling done run t is =
      let n : length runs + length done ≡ length (runs ++ done) = sym (length-append runs done) in
      ap (joined (length runs) (entries_of runs)) (took_more done run t)
      ∙ joined_took (length runs) (length done) t (entries_of (done ++ run ∷ [])) (entries_of runs) (apart_of (done ++ run ∷ [])) (not_behind runs (length done) t.key)
      ∙ ap (λ es. took (length runs + length done) es t) (is ∙ ap entries_of (sym (append_assoc runs done (run ∷ []))))
      ∙ ap (λ k. took k (entries_of ((runs ++ done) ++ run ∷ [])) t) n
      ∙ sym (took_more (runs ++ done) run t)
      ∙ ap entries_of (append_assoc runs done ((run ++ t ∷ []) ∷ []))

  tellings : (done : List (List Tells)) (run ts : List Tells) → Shows (done ++ run ∷ []) → Shows (done ++ (run ++ ts) ∷ [])
  tellings done run [] is = subst (λ r. Shows (done ++ r ∷ [])) (sym (append-nil run)) is
  tellings done run (t ∷ ts) is = subst (λ r. Shows (done ++ r ∷ [])) (append_assoc run (t ∷ []) ts) (tellings done (run ++ t ∷ []) ts (one_telling done run t is))

  one_run : (done : List (List Tells)) (run : List Tells) → Shows done → Shows (done ++ run ∷ [])
  one_run done run is = tellings done [] run
      (ap (joined (length runs) (entries_of runs)) (took_none done) ∙ is ∙ sym (took_none (runs ++ done)) ∙ ap entries_of (append_assoc runs done ([] ∷ [])))

  all_runs : (done behind : List (List Tells)) → Shows done → Shows (done ++ behind)
  all_runs done [] is = subst Shows (sym (append-nil done)) is
  all_runs done (run ∷ behind) is = subst Shows (append_assoc done (run ∷ []) behind) (all_runs (done ++ run ∷ []) behind (one_run done run is))

  pub entries_joined : (behind : List (List Tells)) → Shows behind
  entries_joined behind = all_runs [] behind (ap (joined (length runs) (entries_of runs)) (sym none_of) ∙ ap entries_of (sym (append-nil runs)))

-- ---- no number grows past those of all runs

place_within : {X : Type 0} (test : X → Bool) (xs : List X) → position_or_len test xs ≤ length xs
place_within test [] = omega arith
place_within test (x ∷ xs) = by (test x) (place_within test xs)
  where
    by : (b : Bool) → position_or_len test xs ≤ length xs → cond (not b) (1 + position_or_len test xs) 0 ≤ suc (length xs)
    by true less = omega arith
    by false less = omega (arith, less)

last_in : (test : List Tells → Bool) (runs : List (List Tells)) → last_from test 0 runs 0 ≤ length runs
unfolding last_from
last_in test [] = omega arith
last_in test (run ∷ runs) = let less = last_within test 0 (run ∷ runs) 0 (omega arith) in omega (arith, less)

few_tell : (runs : List (List Tells)) (key : List ℕ) → runs_telling key (entries_of runs) ≤ length runs
unfolding entries_of
few_tell runs key = over (distinct (all_of runs))
  where
    over : (us : List Tells) → runs_telling key (map (entry_of runs) us) ≤ length runs
    over [] = omega arith
    over (u ∷ us) = by (bytes_eq key u.key) (over us)
      where
        by : (b : Bool) → runs_telling key (map (entry_of runs) us) ≤ length runs → (if b then count_by (has u.key) runs else runs_telling key (map (entry_of runs) us)) ≤ length runs
        by true rest = count_by-le-length (has u.key) runs
        by false rest = rest

fits_over : (runs behind : List (List Tells)) (us : List Tells) → Apart (map (entry_of behind) us) → Fits (length runs) (length behind) (entries_of runs) (map (entry_of behind) us)
unfolding Fits
fits_over runs behind [] apart = tt
fits_over runs behind (u ∷ us) apart = (few_tell runs u.key, count_by-le-length (has u.key) behind, place_within (has u.key) behind, last_in (has u.key) behind, apart.0, fits_over runs behind us apart.1)

entries_are : (runs : List (List Tells)) → entries_of runs ≡ map (entry_of runs) (distinct (all_of runs))
unfolding entries_of
entries_are runs = refl

pub fits : (runs behind : List (List Tells)) → Fits (length runs) (length behind) (entries_of runs) (entries_of behind)
fits runs behind = subst (Fits (length runs) (length behind) (entries_of runs)) (sym (entries_are behind)) (fits_over runs behind (distinct (all_of behind)) (apart_in behind [] (all_of behind)))

-- and so it is of those that are left
fits_on : (before runs : ℕ) (es : List Entry) (f : Entry) (fs : List Entry) → is_named f.told.key fs ≡ false → Fits before runs es fs → Fits before runs (with_entry before es f) fs
unfolding Fits
fits_on before runs es f [] none is = tt
fits_on before runs es f (g ∷ gs) none is = by (bytes_eq f.told.key g.told.key) refl none (λ left. fits_on before runs es f gs left is.5)
  where
    by : (b : Bool) → bytes_eq f.told.key g.told.key ≡ b → (b || is_named f.told.key gs) ≡ false → (is_named f.told.key gs ≡ false → Fits before runs (with_entry before es f) gs) → Fits before runs (with_entry before es f) (g ∷ gs)
    by true e left rest = absurd (true≢false left)
    by false e left rest =
        let same = put_apart (λ (x : Entry). x.told.runs) 0 before g.told.key f es (swap_false f.told.key g.told.key e) in
        (subst (λ n. n ≤ before) (sym same) is.0, is.1, is.2, is.3, is.4, rest left)

pub fits_here : (before runs : ℕ) (es : List Entry) (f : Entry) (fs : List Entry) → before + runs < 2 ^ 32 → Fits before runs es (f ∷ fs)
    → (runs_telling f.told.key es + f.told.runs < 2 ^ 32) × (before + f.told.first < 2 ^ 32) × (before + f.last < 2 ^ 32)
unfolding Fits
fits_here before runs es f fs room is = (omega (arith, room, is.0, is.1), omega (arith, room, is.2), omega (arith, room, is.3))

pub fits_next : (before runs : ℕ) (es : List Entry) (f : Entry) (fs : List Entry) → Fits before runs es (f ∷ fs) → Fits before runs (with_entry before es f) fs
unfolding Fits
fits_next before runs es f fs is = fits_on before runs es f fs is.4 is.5

-- ---- tallies

pub tallies_fit : (a b : Tallied) (runs behind : List (List Tells)) → a ≡ tallied runs → b ≡ tallied behind → Fits a.runs b.runs a.entries b.entries
tallies_fit a b runs behind ea eb = subst (λ (t : Tallied). Fits t.runs b.runs t.entries b.entries) (sym ea) (subst (λ (t : Tallied). Fits (length runs) t.runs (entries_of runs) t.entries) (sym eb) (fits runs behind))

pub tallies_joined : (a b : Tallied) (es : List Entry) → es ≡ joined a.runs a.entries b.entries → Joined a b (record { runs = a.runs + b.runs; entries = es })
tallies_joined a b es is = λ runs behind ea eb.
    let n : a.runs + b.runs ≡ length (runs ++ behind) = (λ i. (ea i).runs + (eb i).runs) ∙ sym (length-append runs behind) in
    let all : es ≡ entries_of (runs ++ behind) = is ∙ (λ i. joined (ea i).runs (ea i).entries (eb i).entries) ∙ entries_joined runs behind in
    λ i. record { runs = n i; entries = all i }

none_told : (n : ℕ) → all_of (replicate n []) ≡ []
none_told zero = refl
none_told (suc n) = none_told n

-- runs that tell nothing
pub tallied_none : (n : ℕ) → record { runs = n; entries = [] } ≡ tallied (replicate n [])
unfolding entries_of firsts
tallied_none n =
    let long : n ≡ length (replicate n []) = sym (length-replicate n []) in
    let none : [] ≡ map (entry_of (replicate n [])) (distinct (all_of (replicate n []))) = ap (λ ts. map (entry_of (replicate n [])) (distinct ts)) (sym (none_told n)) in
    λ i. record { runs = long i; entries = none i }
