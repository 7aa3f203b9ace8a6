-- The law on reorderings: what doesn't race has the same bytes in every order that keeps the ordered pairs.
use Rattle.std.proofs.Common.{◌≡◌, ℕ, zero, suc, ◌+◌, ◌<◌, List, [], ◌∷◌, ◌++◌, length, get_or, map, refl, sym, ap, ap₂, ◌∙◌, subst, arith, Some, add-zero, false}
use Rattle.std.specs.Prelude.{⊤, All, slice_get}
use Rattle.std.specs.List.{range_with_len, AllByRecursion, cons_option}
use Rattle.std.proofs.lemmas.List.Elements.{recursion_from_All}
use Rattle.std.proofs.lemmas.List.Sorted.{All-permutation}
use Rattle.std.proofs.lemmas.List.FromFn.{length-range_with_len, get_or-range_with_len, get_or-map-range_with_len, length-map-range_with_len, fill_by_all}
use Rattle.std.proofs.lemmas.List.{length-map, get_or-map}
use Rattle.std.proofs.lemmas.Option.{slice_get-get_or}
use Rattle.cell_machine.specs.declared.effect.Place.TheVariants.{Memory}
use Rattle.cell_machine.specs.declared.effect.Span.{Span}
use Rattle.cell_machine.specs.declared.effect.Note.TheVariants.{Nothing}
use Rattle.cell_machine.specs.Written.{Copy}
use Rattle.cell_machine.specs.ByteRuns.{Bytes, Action, Had, had_by, after, byte_run}
use Rattle.race_check.specs.declared.access.Access.{Access}
use Rattle.race_check.specs.Races.{access_of, Conflict, RaceBy}
use Rattle.race_check.specs.Reorderings.{Agrees, KeepsOrder, at_places}
use Rattle.race_check.proofs.Apart.{Spares, had_kept, exchange, spares_first, spares_second}
use Rattle.race_check.proofs.Exchanges.{by_exchanges}

no_span : Span
no_span = record { place = Memory; at = 0; len = 0 }

nothing : Action
nothing = record { effect = record { fetch = no_span; reads = no_span; writes = no_span; note = Nothing; fixed = false }; written = Copy }

-- what each action fetches, reads and writes
abbrev pub accesses_of : List Action → List Access
accesses_of actions = map (λ a. access_of a.effect) actions

at_places_are : {X : Type 0} (xs : List X) (f : ℕ → X) (d : X) (order : List ℕ) → ((k : ℕ) → k < length xs → get_or xs k d ≡ f k) → AllByRecursion (λ k. k < length xs) order → at_places xs order ≡ map f order
at_places_are xs f d [] h within = refl
at_places_are xs f d (k ∷ order) h within =
    let e : slice_get xs k ≡ Some (f k) = slice_get-get_or xs k d within.0 ∙ ap Some (h k within.0) in
    ap₂ cons_option e (at_places_are xs f d order h within.1)

module _ (act : ℕ → Action) where
  -- the bytes after the actions at these places
  abbrev end_of : Bytes → List ℕ → Bytes
  end_of bytes [] = bytes
  end_of bytes (k ∷ ks) = end_of (after bytes (act k)) ks

  -- each has what v says
  abbrev Have : (ℕ → Had) → Bytes → List ℕ → Type 0
  Have v bytes [] = ⊤
  Have v bytes (k ∷ ks) = (had_by bytes (act k) ≡ v k) × Have v (after bytes (act k)) ks

  record Apart (x y : ℕ) : Type 0 where
    left : Spares (access_of (act x).effect) (access_of (act y).effect)
    right : Spares (access_of (act y).effect) (access_of (act x).effect)

  swap_ends : (front rest : List ℕ) (a b : ℕ) (bytes : Bytes) → Apart a b → end_of bytes (front ++ b ∷ a ∷ rest) ≡ end_of bytes (front ++ a ∷ b ∷ rest)
  swap_ends [] rest a b bytes h = ap (λ s. end_of s rest) (exchange bytes (act b) (act a) h.left h.right)
  swap_ends (y ∷ front) rest a b bytes h = swap_ends front rest a b (after bytes (act y)) h

  swap_have : (v : ℕ → Had) (front rest : List ℕ) (a b : ℕ) (bytes : Bytes) → Apart a b → Have v bytes (front ++ a ∷ b ∷ rest) → Have v bytes (front ++ b ∷ a ∷ rest)
  swap_have v [] rest a b bytes h (now, (later, most)) = (
    sym (had_kept bytes (act b) (act a) h.left) ∙ later,
    (had_kept bytes (act a) (act b) h.right ∙ now, subst (λ s. Have v s rest) (exchange bytes (act a) (act b) h.right h.left) most),
  )
  swap_have v (y ∷ front) rest a b bytes h p = (p.0, swap_have v front rest a b (after bytes (act y)) h p.1)

  ends_with : (bytes : Bytes) (ks : List ℕ) → (byte_run bytes (map act ks)).bytes ≡ end_of bytes ks
  ends_with bytes [] = refl
  ends_with bytes (k ∷ ks) = ends_with (after bytes (act k)) ks

  had_are : (v : ℕ → Had) (bytes : Bytes) (ks : List ℕ) → Have v bytes ks → (byte_run bytes (map act ks)).had ≡ map v ks
  had_are v bytes [] h = refl
  had_are v bytes (k ∷ ks) h = ap₂ (λ y ys. y ∷ ys) h.0 (had_are v (after bytes (act k)) ks h.1)

  end_more : (bytes : Bytes) (a m : ℕ) → end_of bytes (range_with_len a (suc m)) ≡ after (end_of bytes (range_with_len a m)) (act (a + m))
  end_more bytes a zero = ap (λ i. after bytes (act i)) (sym (add-zero a))
  end_more bytes a (suc m) =
      let i : a + 1 + m ≡ a + suc m = omega arith in
      end_more (after bytes (act a)) (a + 1) m ∙ ap (λ j. after (end_of (after bytes (act a)) (range_with_len (a + 1) m)) (act j)) i

  -- what the action at k has in the recorded order
  told : Bytes → ℕ → Had
  told bytes k = had_by (end_of bytes (range_with_len 0 k)) (act k)

  have_told : (bytes : Bytes) (a m : ℕ) → Have (told bytes) (end_of bytes (range_with_len 0 a)) (range_with_len a m)
  unfolding told
  have_told bytes a zero = tt
  have_told bytes a (suc m) =
      let e : a + 1 ≡ suc a = omega arith in
      let f : 0 + a ≡ a = omega arith in
      let next : end_of bytes (range_with_len 0 (a + 1)) ≡ after (end_of bytes (range_with_len 0 a)) (act a) =
      ap (λ j. end_of bytes (range_with_len 0 j)) e ∙ (end_more bytes 0 a ∙ ap (λ j. after (end_of bytes (range_with_len 0 a)) (act j)) f) in
      (refl, subst (λ b. Have (told bytes) b (range_with_len (a + 1) m)) next (have_told bytes (a + 1) m))

module _ (Before : ℕ → ℕ → Type 0) (opening : Bytes) (actions : List Action) (free : (i j : ℕ) → RaceBy Before (accesses_of actions) i j → ⊥) (order : List ℕ) (keeps : KeepsOrder Before (length actions) order) where
  abbrev act : ℕ → Action
  act k = get_or actions k nothing

  apart : (i j : ℕ) → i < j → j < length actions → (Before i j → ⊥) → Apart act i j
  apart i j low high none = record { left = spares_first _ _ clear; right = spares_second _ _ clear }
    where
      at : (k : ℕ) → k < length actions → slice_get (accesses_of actions) k ≡ Some (access_of (act k).effect)
      at k h =
          let within : k < length (accesses_of actions) = omega (arith, length-map actions (λ a. access_of a.effect)) in
          slice_get-get_or (accesses_of actions) k (access_of nothing.effect) within ∙ ap Some (get_or-map (λ a. access_of a.effect) actions k nothing (access_of nothing.effect) h)

      clear : Conflict (access_of (act i).effect) (access_of (act j).effect) → ⊥
      clear c = free i j record { below = low; unordered = none; conflict = record { first = access_of (act i).effect; second = access_of (act j).effect; first_at = at i (omega arith); second_at = at j high; conflict = c } }

  record Same (ks : List ℕ) : Type 0 where
    ends : end_of act opening ks ≡ end_of act opening (range_with_len 0 (length actions))
    haves : Have act (told act opening) opening ks

  same_run : Same order
  same_run =
      by_exchanges Before (length actions) Same
      (λ front rest a b f p. let h : Apart act a b = apart a b f.low f.high f.unordered in record { ends = swap_ends act front rest a b opening h ∙ p.ends; haves = swap_have act (told act opening) front rest a b opening h p.haves })
      record { ends = refl; haves = have_told act opening 0 (length actions) } order keeps

  within : AllByRecursion (λ k. k < length actions) order
  within =
      recursion_from_All _ order (All-permutation (λ k. k < length actions) (range_with_len 0 (length actions)) order keeps.each_once inside)
    where
      inside : All (λ k. k < length actions) (range_with_len 0 (length actions))
      inside k d h =
          let low : k < length actions = omega (arith, h, length-range_with_len 0 (length actions)) in
          omega (arith, get_or-range_with_len 0 (length actions) k d low)

  all_of : actions ≡ map act (range_with_len 0 (length actions))
  all_of = fill_by_all act actions (length actions) nothing refl (λ k h. refl)

  taken : at_places actions order ≡ map act order
  taken = at_places_are actions act nothing order (λ k h. refl) within

  ends_agree : (byte_run opening (at_places actions order)).bytes ≡ (byte_run opening actions).bytes
  ends_agree =
      ap (λ l. (byte_run opening l).bytes) taken ∙ (ends_with act opening order ∙ (same_run.ends ∙ (sym (ends_with act opening (range_with_len 0 (length actions))) ∙ ap (λ l. (byte_run opening l).bytes) (sym all_of))))

  had_agree : (byte_run opening (at_places actions order)).had ≡ at_places (byte_run opening actions).had order
  had_agree =
      let v : ℕ → Had = told act opening in
      let n : ℕ = length actions in
      let all : Have act v opening (range_with_len 0 n) = have_told act opening 0 n in
      let recorded : (byte_run opening actions).had ≡ map v (range_with_len 0 n) =
      ap (λ l. (byte_run opening l).had) all_of ∙ had_are act v opening (range_with_len 0 n) all in
      let d : Had = v 0 in
      let long : length (map v (range_with_len 0 n)) ≡ n = length-map-range_with_len v 0 n in
      let placed : at_places (map v (range_with_len 0 n)) order ≡ map v order =
      at_places_are (map v (range_with_len 0 n)) v d order
      (λ k h. get_or-map-range_with_len v 0 n k k d (omega (arith, h, long)) (omega arith))
      (subst (λ m. AllByRecursion (λ k. k < m) order) (sym long) within) in
      ap (λ l. (byte_run opening l).had) taken ∙ (had_are act v opening order same_run.haves ∙ (sym placed ∙ ap (λ l. at_places l order) (sym recorded)))

  pub agrees : Agrees opening actions order
  agrees = record { had = had_agree; bytes = ends_agree }
