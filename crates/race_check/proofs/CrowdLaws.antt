-- Lists of crowds of which one changes, comes or goes.
use Rattle.std.proofs.Common.{◌≡◌, ℕ, zero, suc, ◌+◌, ◌≤◌, ◌<◌, List, [], ◌∷◌, ◌++◌, length, get_or, set, take, drop, ◌⊎◌, inl, inr, refl, sym, ap, ◌∙◌, subst, arith, length-set, get_or-set_other}
use Rattle.std.specs.Prelude.{◌↔◌, Contains, Option, Some, None}
use Rattle.std.specs.List.{swap_remove}
use Rattle.std.proofs.lemmas.Bool.{cases_eq, cases_lt}
use Rattle.std.proofs.lemmas.Grind.{get_or-set_at}
use Rattle.std.proofs.lemmas.List.{get_or_default, take_all, take_more}
use Rattle.std.proofs.lemmas.List.Elements.{Contains-append_left, Contains-get_or, Contains-push, Contains-push_cases}
use Rattle.std.proofs.lemmas.List.Sorted.{Contains-permutation, IsPermutation-swap_remove, IsPermutation-sym}
use Rattle.cell_machine.specs.declared.effect.Place.{Place}
use Rattle.cell_machine.proofs.AllTwo.{whole}
use Rattle.race_check.specs.declared.entry.Entry.{Entry}
use Rattle.race_check.specs.declared.crowd.Crowd.{Crowd}
use Rattle.race_check.specs.Entries.{HasSameBytes, Holds, IsCut}
use Rattle.race_check.specs.Crowds.{Clashes, CrowdClashes, CrowdTells, Has, HasStep, IsCutPut, IsJoined, IsLater, IsPut, IsSafe, IsTaken, IsThinned, IsTrimmed, IsUnsafeOne, StepsTell, Tells, UpTo}
use Rattle.race_check.proofs.Latest.{if_then, of_both, still}

-- ---- a list with another element at i

module _ {X : Type 0} (xs : List X) (i : ℕ) (old new : X) (low : i < length xs) (at : get_or xs i old ≡ old) where
  set_same : Contains (set xs i new) new
  set_same = (i, omega (arith, length-set xs i new), get_or-set_at xs i i new new refl low)

  set_kept : (y : X) → Contains xs y → (y ≡ old) ⊎ Contains (set xs i new) y
  set_kept y has = by (cases_eq has.0 i)
    where
      by : (has.0 ≡ i) ⊎ (has.0 ≡ i → ⊥) → (y ≡ old) ⊎ Contains (set xs i new) y
      by (inl e) = inl (sym has.2 ∙ ap (λ k. get_or xs k y) e ∙ get_or_default xs i y old low ∙ at)
      by (inr ne) = inr (has.0, omega (arith, has.1, length-set xs i new), get_or-set_other xs i has.0 new y ne ∙ has.2)

  set_rest : (y : X) → Contains (set xs i new) y → (y ≡ new) ⊎ Contains xs y
  set_rest y has = by (cases_eq has.0 i)
    where
      by : (has.0 ≡ i) ⊎ (has.0 ≡ i → ⊥) → (y ≡ new) ⊎ Contains xs y
      by (inl e) = inl (sym has.2 ∙ get_or-set_at xs i has.0 new y e low)
      by (inr ne) = inr (has.0, omega (arith, has.1, length-set xs i new), sym (get_or-set_other xs i has.0 new y ne) ∙ has.2)

-- more steps were added to a crowd
pub added_steps : (old new : Crowd) (middle : List ℕ) (step : ℕ) (others : List ℕ) → new.entry ≡ old.entry → ((s : ℕ) → Contains middle s ↔ (Contains old.others.list.items s ⊎ (s ≡ step))) → ((s : ℕ) → Contains new.others.list.items s ↔ (Contains middle s ⊎ Contains others s))
    → (s : ℕ) → HasStep new s ↔ (HasStep old s ⊎ ((s ≡ step) ⊎ Contains others s))
added_steps old new middle step others same first more s = (to, from)
  where
    at_first : Contains old.others.list.items s ⊎ (s ≡ step) → HasStep old s ⊎ ((s ≡ step) ⊎ Contains others s)
    at_first (inl was) = inl (inr was)
    at_first (inr e) = inr (inl e)

    parts : Contains middle s ⊎ Contains others s → HasStep old s ⊎ ((s ≡ step) ⊎ Contains others s)
    parts (inl c) = at_first ((first s).0 c)
    parts (inr c) = inr (inr c)

    to : HasStep new s → HasStep old s ⊎ ((s ≡ step) ⊎ Contains others s)
    to (inl e) = inl (inl (e ∙ ap (λ (f : Entry). f.step) same))
    to (inr c) = parts ((more s).0 c)

    from : HasStep old s ⊎ ((s ≡ step) ⊎ Contains others s) → HasStep new s
    from (inl (inl e)) = inl (e ∙ ap (λ (f : Entry). f.step) (sym same))
    from (inl (inr c)) = inr ((more s).1 (inl ((first s).1 (inl c))))
    from (inr (inl e)) = inr ((more s).1 (inl ((first s).1 (inr e))))
    from (inr (inr c)) = inr ((more s).1 (inr c))

-- the last step took the place of the entry's, or came to what was left of the others
pub taken_first : (Before : ℕ → ℕ → Type 0) (last : ℕ) (old new : Crowd) → new.entry.step ≡ last → IsThinned Before last old.others.list.items new.others.list.items → IsSafe Before old.entry.step last → IsTaken Before last old new
taken_first Before last old new is thin safe = record { left = λ s has. left s has; own = inl (sym is); rest = λ s has. rest s has }
  where
    kept : (s : ℕ) → Contains new.others.list.items s ⊎ IsSafe Before s last → HasStep new s ⊎ IsSafe Before s last
    kept s (inl c) = inl (inr c)
    kept s (inr ordered) = inr ordered

    left : (s : ℕ) → HasStep old s → HasStep new s ⊎ IsSafe Before s last
    left s (inl e) = inr (subst (λ t. IsSafe Before t last) (sym e) safe)
    left s (inr c) = kept s (thin.left s c)

    rest : (s : ℕ) → HasStep new s → HasStep old s ⊎ (s ≡ last)
    rest s (inl e) = inr (e ∙ is)
    rest s (inr c) = inl (inr (thin.rest s c))

pub taken_behind : (Before : ℕ → ℕ → Type 0) (last : ℕ) (old new : Crowd) (others : List ℕ) → new.entry ≡ old.entry → IsThinned Before last old.others.list.items others → ((s : ℕ) → Contains new.others.list.items s ↔ (Contains others s ⊎ (s ≡ last))) → IsTaken Before last old new
taken_behind Before last old new others same thin added = record { left = λ s has. left s has; own = inr ((added last).1 (inr refl)); rest = λ s has. rest s has }
  where
    kept : (s : ℕ) → Contains others s ⊎ IsSafe Before s last → HasStep new s ⊎ IsSafe Before s last
    kept s (inl c) = inl (inr ((added s).1 (inl c)))
    kept s (inr safe) = inr safe

    left : (s : ℕ) → HasStep old s → HasStep new s ⊎ IsSafe Before s last
    left s (inl e) = inl (inl (e ∙ ap (λ (f : Entry). f.step) (sym same)))
    left s (inr c) = kept s (thin.left s c)

    was : (s : ℕ) → Contains others s ⊎ (s ≡ last) → HasStep old s ⊎ (s ≡ last)
    was s (inl c) = inl (inr (thin.rest s c))
    was s (inr e) = inr e

    rest : (s : ℕ) → HasStep new s → HasStep old s ⊎ (s ≡ last)
    rest s (inl e) = inl (inl (e ∙ ap (λ (f : Entry). f.step) same))
    rest s (inr c) = was s ((added s).0 c)

pub same_holds : (e f : Entry) (p : Place) (x : ℕ) → HasSameBytes e f → Holds e p x → Holds f p x
same_holds e f p x same h =
    let from = same.from in
    let to = same.to in
    let above = h.from in
    let below = h.to in
    record { place = sym same.place ∙ h.place; from = omega arith; to = omega arith }

pub same_back : (e f : Entry) → HasSameBytes e f → HasSameBytes f e
same_back e f same = record { place = sym same.place; from = sym same.from; to = sym same.to }

-- ---- a list of crowds with another crowd of the same bytes at i

-- a slice of a vector that is handed on comes back as this
pub handed_back : (n i : ℕ) (xs ys : List Crowd) (new : Crowd) → n ≡ length xs → ys ≡ xs → take n (set ys i new ++ drop (length (set ys i new)) xs) ≡ set xs i new
handed_back n i xs ys new long same = whole n (set ys i new) xs (long ∙ ap length (sym same) ∙ sym (length-set ys i new)) ∙ ap (λ zs. set zs i new) same

module _ (crowds : List Crowd) (i : ℕ) (old new : Crowd) (low : i < length crowds) (at : get_or crowds i old ≡ old) (same : HasSameBytes new.entry old.entry) where
  pub has_new : (s : ℕ) (p : Place) (x : ℕ) → HasStep new s → Holds old.entry p x → Has (set crowds i new) s p x
  has_new s p x step h = record { crowd = new; inside = set_same crowds i old new low at; step = step; there = same_holds old.entry new.entry p x (same_back new.entry old.entry same) h }

  pub has_kept : (s : ℕ) (p : Place) (x : ℕ) → Has crowds s p x → (HasStep old s × Holds old.entry p x) ⊎ Has (set crowds i new) s p x
  has_kept s p x has = by (set_kept crowds i old new low at has.crowd has.inside)
    where
      by : (has.crowd ≡ old) ⊎ Contains (set crowds i new) has.crowd → (HasStep old s × Holds old.entry p x) ⊎ Has (set crowds i new) s p x
      by (inl e) = inl (subst (λ c. HasStep c s) e has.step, subst (λ (c : Crowd). Holds c.entry p x) e has.there)
      by (inr inside) = inr record { crowd = has.crowd; inside = inside; step = has.step; there = has.there }

  pub has_rest : (s : ℕ) (p : Place) (x : ℕ) → Has (set crowds i new) s p x → (HasStep new s × Holds old.entry p x) ⊎ Has crowds s p x
  has_rest s p x has = by (set_rest crowds i old new low at has.crowd has.inside)
    where
      by : (has.crowd ≡ new) ⊎ Contains crowds has.crowd → (HasStep new s × Holds old.entry p x) ⊎ Has crowds s p x
      by (inl e) = inl (subst (λ c. HasStep c s) e has.step, same_holds new.entry old.entry p x same (subst (λ (c : Crowd). Holds c.entry p x) e has.there))
      by (inr inside) = inr record { crowd = has.crowd; inside = inside; step = has.step; there = has.there }

  -- the last step was taken into it
  pub joined_at : (Before : ℕ → ℕ → Type 0) (entry : Entry) → HasSameBytes old.entry entry → IsTaken Before entry.step old new → IsJoined Before entry crowds (set crowds i new)
  joined_at Before entry bytes taken = record {
    left = λ s p x has. left s p x (has_kept s p x has);
    own = λ p x h. has_new entry.step p x taken.own (same_holds entry old.entry p x (same_back old.entry entry bytes) h);
    rest = λ s p x has. rest s p x (has_rest s p x has);
  }
    where
      left : (s : ℕ) (p : Place) (x : ℕ) → (HasStep old s × Holds old.entry p x) ⊎ Has (set crowds i new) s p x → Has (set crowds i new) s p x ⊎ (Holds entry p x × IsSafe Before s entry.step)
      left s p x (inr has) = inl has
      left s p x (inl (step, h)) = by (taken.left s step)
        where
          by : HasStep new s ⊎ IsSafe Before s entry.step → Has (set crowds i new) s p x ⊎ (Holds entry p x × IsSafe Before s entry.step)
          by (inl more) = inl (has_new s p x more h)
          by (inr safe) = inr (same_holds old.entry entry p x bytes h, safe)

      rest : (s : ℕ) (p : Place) (x : ℕ) → (HasStep new s × Holds old.entry p x) ⊎ Has crowds s p x → Has crowds s p x ⊎ (Holds entry p x × (s ≡ entry.step))
      rest s p x (inr has) = inl has
      rest s p x (inl (step, h)) = by (taken.rest s step)
        where
          by : HasStep old s ⊎ (s ≡ entry.step) → Has crowds s p x ⊎ (Holds entry p x × (s ≡ entry.step))
          by (inl before) = inl record { crowd = old; inside = subst (Contains crowds) at (Contains-get_or crowds i old low); step = before; there = h }
          by (inr is) = inr (same_holds old.entry entry p x bytes h, is)

  -- these steps were added to it
  pub put_at : (entry : Entry) (others : List ℕ) → HasSameBytes old.entry entry → ((s : ℕ) → HasStep new s ↔ (HasStep old s ⊎ ((s ≡ entry.step) ⊎ Contains others s))) → IsPut entry others crowds (set crowds i new)
  put_at entry others bytes steps = record {
    left = λ s p x has. left s p x (has_kept s p x has);
    own = λ s p x step h. has_new s p x ((steps s).1 (inr step)) (same_holds entry old.entry p x (same_back old.entry entry bytes) h);
    rest = λ s p x has. rest s p x (has_rest s p x has);
  }
    where
      left : (s : ℕ) (p : Place) (x : ℕ) → (HasStep old s × Holds old.entry p x) ⊎ Has (set crowds i new) s p x → Has (set crowds i new) s p x
      left s p x (inr has) = has
      left s p x (inl (step, h)) = has_new s p x ((steps s).1 (inl step)) h

      rest : (s : ℕ) (p : Place) (x : ℕ) → (HasStep new s × Holds old.entry p x) ⊎ Has crowds s p x → Has crowds s p x ⊎ (Holds entry p x × ((s ≡ entry.step) ⊎ Contains others s))
      rest s p x (inr has) = inl has
      rest s p x (inl (step, h)) = by ((steps s).0 step)
        where
          by : HasStep old s ⊎ ((s ≡ entry.step) ⊎ Contains others s) → Has crowds s p x ⊎ (Holds entry p x × ((s ≡ entry.step) ⊎ Contains others s))
          by (inl before) = inl record { crowd = old; inside = subst (Contains crowds) at (Contains-get_or crowds i old low); step = before; there = h }
          by (inr more) = inr (same_holds old.entry entry p x bytes h, more)

-- ---- a crowd behind the others

pub put_behind : (crowds : List Crowd) (new : Crowd) (entry : Entry) (others : List ℕ) → new.entry ≡ entry → new.others.list.items ≡ others → IsPut entry others crowds (crowds ++ new ∷ [])
put_behind crowds new entry others is same = record {
  left = λ s p x has. record { crowd = has.crowd; inside = Contains-append_left crowds (new ∷ []) has.crowd has.inside; step = has.step; there = has.there };
  own = λ s p x step h. record { crowd = new; inside = Contains-push crowds new; step = own s step; there = subst (λ e. Holds e p x) (sym is) h };
  rest = λ s p x has. rest s p x has (Contains-push_cases crowds new has.crowd has.inside);
}
  where
    own : (s : ℕ) → (s ≡ entry.step) ⊎ Contains others s → HasStep new s
    own s (inl e) = inl (e ∙ ap (λ (f : Entry). f.step) (sym is))
    own s (inr c) = inr (subst (λ xs. Contains xs s) (sym same) c)

    steps : (s : ℕ) → HasStep new s → (s ≡ entry.step) ⊎ Contains others s
    steps s (inl e) = inl (e ∙ ap (λ (f : Entry). f.step) is)
    steps s (inr c) = inr (subst (λ xs. Contains xs s) same c)

    rest : (s : ℕ) (p : Place) (x : ℕ) (has : Has (crowds ++ new ∷ []) s p x) → Contains crowds has.crowd ⊎ (new ≡ has.crowd) → Has crowds s p x ⊎ (Holds entry p x × ((s ≡ entry.step) ⊎ Contains others s))
    rest s p x has (inl inside) = inl record { crowd = has.crowd; inside = inside; step = has.step; there = has.there }
    rest s p x has (inr e) = inr (subst (λ f. Holds f p x) is (subst (λ (c : Crowd). Holds c.entry p x) (sym e) has.there), steps s (subst (λ c. HasStep c s) (sym e) has.step))

no_step : (s : ℕ) → Contains [] s → ⊥
no_step s has = let low : has.0 < 0 = has.1 in omega arith

-- an entry alone that is put is joined
pub joined_behind : (Before : ℕ → ℕ → Type 0) (entry : Entry) (before after : List Crowd) → IsPut entry [] before after → IsJoined Before entry before after
joined_behind Before entry before after put = record {
  left = λ s p x has. inl (put.left s p x has);
  own = λ p x h. put.own entry.step p x (inl refl) h;
  rest = λ s p x has. rest s p x (put.rest s p x has);
}
  where
    rest : (s : ℕ) (p : Place) (x : ℕ) → Has before s p x ⊎ (Holds entry p x × ((s ≡ entry.step) ⊎ Contains [] s)) → Has before s p x ⊎ (Holds entry p x × (s ≡ entry.step))
    rest s p x (inl has) = inl has
    rest s p x (inr (h, inl e)) = inr (h, e)
    rest s p x (inr (h, inr none)) = absurd (no_step s none)

-- ---- a crowd taken out, and what a new entry leaves of it put back

pub trimmed_none : (new : Entry) (crowds : List Crowd) → IsTrimmed new crowds crowds
trimmed_none new crowds = record { left = λ s p x has. inl has; rest = λ s p x has. has }

pub trimmed_twice : (new : Entry) (first second third : List Crowd) → IsTrimmed new first second → IsTrimmed new second third → IsTrimmed new first third
trimmed_twice new first second third a b = record { left = λ s p x has. left s p x (a.left s p x has); rest = λ s p x has. a.rest s p x (b.rest s p x has) }
  where
    left : (s : ℕ) (p : Place) (x : ℕ) → Has second s p x ⊎ Holds new p x → Has third s p x ⊎ Holds new p x
    left s p x (inl has) = b.left s p x has
    left s p x (inr h) = inr h

-- what was put for a cut
cut_left : (cut : Option Entry) (others : List ℕ) (before after : List Crowd) → IsCutPut cut others before after → (s : ℕ) (p : Place) (x : ℕ) → Has before s p x → Has after s p x
cut_left None others before after same s p x has = subst (λ crowds. Has crowds s p x) (sym same) has
cut_left (Some f) others before after put s p x has = put.left s p x has

cut_own : (P : ℕ → Type 0) (e : Entry) (cut : Option Entry) (others : List ℕ) (before after : List Crowd) → IsCut P e cut → IsCutPut cut others before after
    → (s : ℕ) (p : Place) (x : ℕ) → (s ≡ e.step) ⊎ Contains others s → Holds e p x → P x → Has after s p x
cut_own P e None others before after is same s p x step h holds = absurd (is p x h holds)
cut_own P e (Some f) others before after is put s p x step h holds = put.own s p x (own step) ((is.holds p x).1 (h, holds))
  where
    own : (s ≡ e.step) ⊎ Contains others s → (s ≡ f.step) ⊎ Contains others s
    own (inl q) = inl (q ∙ sym is.step)
    own (inr c) = inr c

cut_rest : (P : ℕ → Type 0) (e : Entry) (cut : Option Entry) (others : List ℕ) (before after : List Crowd) → IsCut P e cut → IsCutPut cut others before after
    → (s : ℕ) (p : Place) (x : ℕ) → Has after s p x → Has before s p x ⊎ (Holds e p x × ((s ≡ e.step) ⊎ Contains others s))
cut_rest P e None others before after is same s p x has = inl (subst (λ crowds. Has crowds s p x) same has)
cut_rest P e (Some f) others before after is put s p x has = by (put.rest s p x has)
  where
    by : Has before s p x ⊎ (Holds f p x × ((s ≡ f.step) ⊎ Contains others s)) → Has before s p x ⊎ (Holds e p x × ((s ≡ e.step) ⊎ Contains others s))
    by (inl old) = inl old
    by (inr (h, inl q)) = inr (((is.holds p x).0 h).0, inl (q ∙ is.step))
    by (inr (h, inr c)) = inr (((is.holds p x).0 h).0, inr c)

module _ (new : Entry) (crowds : List Crowd) (i : ℕ) (crowd : Crowd) (low : i < length crowds) (at : crowd ≡ get_or crowds i crowd) (place : crowd.entry.place ≡ new.place) where
  abbrev left_over : List Crowd
  left_over = swap_remove crowds i crowd

  out : (c : Crowd) → Contains crowds c → (c ≡ crowd) ⊎ Contains left_over c
  out c has = first (Contains-permutation crowds (crowd ∷ left_over) c (IsPermutation-swap_remove crowds i crowd low at) has)
    where
      first : Contains (crowd ∷ left_over) c → (c ≡ crowd) ⊎ Contains left_over c
      first (zero, less, e) = inl (sym e)
      first (suc k, less, e) = inr (k, omega (arith, less), e)

  into : (c : Crowd) → Contains left_over c → Contains crowds c
  into c has = Contains-permutation (crowd ∷ left_over) crowds c (IsPermutation-sym crowds (crowd ∷ left_over) (IsPermutation-swap_remove crowds i crowd low at)) (suc has.0, omega (arith, has.1), has.2)

  pub trimmed_at : (fore behind : Option Entry) (others : List ℕ) (second third : List Crowd) → others ≡ crowd.others.list.items
      → IsCut (λ x. x < new.from) crowd.entry fore → IsCutPut fore others left_over second → IsCut (λ x. new.to ≤ x) crowd.entry behind → IsCutPut behind others second third → IsTrimmed new crowds third
  trimmed_at fore behind others second third same front_is front_put back_is back_put = record { left = λ s p x has. left s p x has (out has.crowd has.inside); rest = λ s p x has. rest s p x has }
    where
      steps : (s : ℕ) → HasStep crowd s → (s ≡ crowd.entry.step) ⊎ Contains others s
      steps s (inl e) = inl e
      steps s (inr c) = inr (subst (λ xs. Contains xs s) (sym same) c)

      back_steps : (s : ℕ) → (s ≡ crowd.entry.step) ⊎ Contains others s → HasStep crowd s
      back_steps s (inl e) = inl e
      back_steps s (inr c) = inr (subst (λ xs. Contains xs s) same c)

      inside : Contains crowds crowd
      inside = subst (Contains crowds) (sym at) (Contains-get_or crowds i crowd low)

      of_crowd : (s : ℕ) (p : Place) (x : ℕ) → HasStep crowd s → Holds crowd.entry p x → Has third s p x ⊎ Holds new p x
      of_crowd s p x step h = by (cases_lt x new.from) (cases_lt x new.to)
        where
          by : (x < new.from) ⊎ (new.from ≤ x) → (x < new.to) ⊎ (new.to ≤ x) → Has third s p x ⊎ Holds new p x
          by (inl below) t = inl (cut_left behind others second third back_put s p x (cut_own (λ x. x < new.from) crowd.entry fore others left_over second front_is front_put s p x (steps s step) h below))
          by (inr above) (inr past) = inl (cut_own (λ x. new.to ≤ x) crowd.entry behind others second third back_is back_put s p x (steps s step) h past)
          by (inr above) (inl short) = inr record { place = sym place ∙ h.place; from = above; to = short }

      left : (s : ℕ) (p : Place) (x : ℕ) (has : Has crowds s p x) → (has.crowd ≡ crowd) ⊎ Contains left_over has.crowd → Has third s p x ⊎ Holds new p x
      left s p x has (inl e) = of_crowd s p x (subst (λ c. HasStep c s) e has.step) (subst (λ (c : Crowd). Holds c.entry p x) e has.there)
      left s p x has (inr kept) =
          let old : Has left_over s p x = record { crowd = has.crowd; inside = kept; step = has.step; there = has.there } in
          inl (cut_left behind others second third back_put s p x (cut_left fore others left_over second front_put s p x old))

      old_has : (s : ℕ) (p : Place) (x : ℕ) → Has left_over s p x → Has crowds s p x
      old_has s p x has = record { crowd = has.crowd; inside = into has.crowd has.inside; step = has.step; there = has.there }

      of_both : (s : ℕ) (p : Place) (x : ℕ) → Has left_over s p x ⊎ (Holds crowd.entry p x × ((s ≡ crowd.entry.step) ⊎ Contains others s)) → Has crowds s p x
      of_both s p x (inl has) = old_has s p x has
      of_both s p x (inr (h, step)) = record { crowd = crowd; inside = inside; step = back_steps s step; there = h }

      rest : (s : ℕ) (p : Place) (x : ℕ) → Has third s p x → Has crowds s p x
      rest s p x has = by (cut_rest (λ x. new.to ≤ x) crowd.entry behind others second third back_is back_put s p x has)
        where
          by : Has second s p x ⊎ (Holds crowd.entry p x × ((s ≡ crowd.entry.step) ⊎ Contains others s)) → Has crowds s p x
          by (inl more) = of_both s p x (cut_rest (λ x. x < new.from) crowd.entry fore others left_over second front_is front_put s p x more)
          by (inr own) = of_both s p x (inr own)

-- ---- clashes

-- what the steps of a crowd tell, where it has a byte of the new entry
pub crowd_clash : (Before : ℕ → ℕ → Type 0) (new : Entry) (c : Crowd) (latest : Option ℕ) (p : Place) (x : ℕ) → Holds c.entry p x → Holds new p x → StepsTell Before new.step (HasStep c) latest → CrowdTells Before new c latest
crowd_clash Before new c latest p x there in_new steps = record {
  clash = if_then latest (IsUnsafeOne Before new.step (HasStep c)) (CrowdClashes Before new c) steps.clash (λ s u. record { place = p; at = x; has = u.is; there = there; in_new = in_new; unsafe = u.unsafe });
  rest = λ s q y has h n. steps.rest s has;
}

pub crowd_clear : (Before : ℕ → ℕ → Type 0) (new : Entry) (c : Crowd) → ((p : Place) (x : ℕ) → Holds c.entry p x → Holds new p x → ⊥) → CrowdTells Before new c None
crowd_clear Before new c none = record { clash = tt; rest = λ s p x has h n. absurd (none p x h n) }

pub tells_none : (Before : ℕ → ℕ → Type 0) (new : Entry) → Tells Before new [] None
tells_none Before new = record { clash = tt; rest = λ s p x has h. absurd (let low : has.inside.0 < 0 = has.inside.1 in omega arith) }

-- one more crowd of a list
module _ (Before : ℕ → ℕ → Type 0) (new : Entry) (crowds : List Crowd) (i : ℕ) (d : Crowd) (low : i < length crowds) (at : d ≡ get_or crowds i d) where
  all : take (i + 1) crowds ≡ take i crowds ++ d ∷ []
  all = take_more crowds i d low ∙ ap (λ c. take i crowds ++ c ∷ []) (sym at)

  has_before : (s : ℕ) (p : Place) (x : ℕ) → Has (take i crowds) s p x → Has (take (i + 1) crowds) s p x
  has_before s p x has =
      record { crowd = has.crowd; inside = subst (λ cs. Contains cs has.crowd) (sym all) (Contains-append_left (take i crowds) (d ∷ []) has.crowd has.inside); step = has.step; there = has.there }

  has_here : (s : ℕ) (p : Place) (x : ℕ) → HasStep d s → Holds d.entry p x → Has (take (i + 1) crowds) s p x
  has_here s p x step there = record { crowd = d; inside = subst (λ cs. Contains cs d) (sym all) (Contains-push (take i crowds) d); step = step; there = there }

  pub tells_more : (a b latest : Option ℕ) → IsLater a b latest → Tells Before new (take i crowds) a → CrowdTells Before new d b → Tells Before new (take (i + 1) crowds) latest
  tells_more a b latest is before here = record {
    clash = of_both a b latest (Clashes Before new (take (i + 1) crowds)) is
        (if_then a (Clashes Before new (take i crowds)) (Clashes Before new (take (i + 1) crowds)) before.clash (λ s c. record { place = c.place; at = c.at; has = has_before s c.place c.at c.has; in_new = c.in_new; unsafe = c.unsafe }))
        (if_then b (CrowdClashes Before new d) (Clashes Before new (take (i + 1) crowds)) here.clash (λ s c. record { place = c.place; at = c.at; has = has_here s c.place c.at c.has c.there; in_new = c.in_new; unsafe = c.unsafe }));
    rest = λ s p x has h. rest s p x has h (Contains-push_cases (take i crowds) d has.crowd (subst (λ cs. Contains cs has.crowd) all has.inside));
  }
    where
      rest : (s : ℕ) (p : Place) (x : ℕ) (has : Has (take (i + 1) crowds) s p x) → Holds new p x → Contains (take i crowds) has.crowd ⊎ (d ≡ has.crowd) → IsSafe Before s new.step ⊎ UpTo latest s
      rest s p x has h (inl inside) = still (IsSafe Before s new.step) a latest s is.first (before.rest s p x record { crowd = has.crowd; inside = inside; step = has.step; there = has.there } h)
      rest s p x has h (inr e) =
          still (IsSafe Before s new.step) b latest s is.second (here.rest s p x (subst (λ c. HasStep c s) (sym e) has.step) (subst (λ (c : Crowd). Holds c.entry p x) (sym e) has.there) h)

pub tells_all : (Before : ℕ → ℕ → Type 0) (new : Entry) (crowds : List Crowd) (i : ℕ) (latest : Option ℕ) → length crowds ≤ i → Tells Before new (take i crowds) latest → Tells Before new crowds latest
tells_all Before new crowds i latest far tells = subst (λ cs. Tells Before new cs latest) (take_all i crowds far) tells
