-- From one more step to whole orders: each order that keeps the ordered pairs is a run, and its states are described.
use Rattle.std.proofs.Common.{◌≡◌, ℕ, zero, suc, ◌+◌, ◌<◌, ◌≤◌, Bool, true, false, List, [], ◌∷◌, ◌++◌, map, refl, sym, ap, ◌∙◌, subst, arith, Some, inl, inr}
use Rattle.std.specs.Prelude.{option_and_then, ◌⊎◌, ◌==◌, ◌||◌}
use Rattle.std.specs.List.{range_with_len}
use Rattle.std.proofs.lemmas.Bool.{cases_Bool}
use Rattle.std.proofs.lemmas.List.{map-append}
use Rattle.cell_machine.specs.State.{State}
use Rattle.cell_machine.specs.Next.{next}
use Rattle.cell_machine.specs.Run.{replay}
use Rattle.cell_machine.specs.ByteRuns.{had_by}
use Rattle.cell_machine.specs.Sound.{IsSound, byte_of}
use Rattle.cell_machine.proofs.Replays.{replay-snoc}
use Rattle.cell_machine.proofs.Same.{some_same, eq_not}
use Rattle.race_check.specs.Reorderings.{KeepsOrder}
use Rattle.reorder_laws.specs.Cuts.{has, IsFront}
use Rattle.reorder_laws.specs.Recorded.{Recorded, IsRecorded, act_at}
use Rattle.reorder_laws.specs.Described.{Describes}
use Rattle.reorder_laws.specs.Steps.{StepsAlike, Reaches, HasRecorded}
use Rattle.reorder_laws.proofs.ByteSteps.{one-more}
use Rattle.reorder_laws.proofs.Bytes.{IsFree, same_bytes, had_in_order}
use Rattle.reorder_laws.proofs.Commands.{below_range}
use Rattle.race_check.proofs.Times.{range_once}
use Rattle.reorder_laws.proofs.Fronts.{by_fronts, distinct_of}

range_more : (a m : ℕ) → range_with_len a (suc m) ≡ range_with_len a m ++ (a + m) ∷ []
range_more a zero = let e : a ≡ a + 0 = omega arith in ap (λ k. k ∷ []) e
range_more a (suc m) =
    let e : a + 1 + m ≡ a + suc m = omega arith in
    ap (λ ks. a ∷ ks) (range_more (a + 1) m ∙ ap (λ k. range_with_len (a + 1) m ++ k ∷ []) e)

pub range_next : (j : ℕ) → range_with_len 0 (suc j) ≡ range_with_len 0 j ++ j ∷ []
range_next j = let e : 0 + j ≡ j = omega arith in range_more 0 j ∙ ap (λ k. range_with_len 0 j ++ k ∷ []) e

in_range : (a m i : ℕ) → a ≤ i → i < a + m → has (range_with_len a m) i ≡ true
unfolding has
in_range a zero i l h = absurd (omega (arith, l, h))
in_range a (suc m) i l h = go (cases_Bool (a == i)) (in_range (a + 1) m i)
  where
    or_true : (x : Bool) → (x || true) ≡ true
    or_true true = refl
    or_true false = refl

    go : ((a == i) ≡ true) ⊎ ((a == i) ≡ false) → (a + 1 ≤ i → i < a + 1 + m → has (range_with_len (a + 1) m) i ≡ true) → (a == i || has (range_with_len (a + 1) m) i) ≡ true
    go (inl e) rec = ap (λ b. b || has (range_with_len (a + 1) m) i) e
    go (inr e) rec = let ne = eq_not a i e in ap (λ b. (a == i) || b) (rec (above ne) (omega (arith, h))) ∙ or_true (a == i)
      where
        above : (a ≡ i → ⊥) → a + 1 ≤ i
        above ne = omega (arith, ne, l)

pub has_below : (j i : ℕ) → i < j → has (range_with_len 0 j) i ≡ true
has_below j i h = in_range 0 j i (omega arith) (omega (arith, h))

module _ (r : Recorded) (rec : IsRecorded r) (Before : ℕ → ℕ → Type 0) (below : (i j : ℕ) → Before i j → i < j) (alike : StepsAlike Before r)
    (start : Describes r [] (r.state 0)) (sound : (D : List ℕ) (M : State) → replay (r.state 0) (map r.step D) ≡ Some M → (n : ℕ) × IsSound rec.lines n M) where
  -- the recorded order
  front_here : (j : ℕ) → j < r.size → IsFront Before r.size (range_with_len 0 j) j
  front_here j low = record {
    distinct = distinct_of (range_with_len 0 j) (λ k. range_once k 0 j);
    low = low;
    fresh = not_true (has (range_with_len 0 j) j) (λ h. let l = below_range j j h in omega (arith, l));
    past = λ i l b. has_below j i (below i j b);
    future = λ i l h b. let x = below_range j i h in let y = below j i b in omega (arith, x, y);
  }
    where
      not_true : (b : Bool) → (b ≡ true → ⊥) → b ≡ false
      not_true true h = absurd (h refl)
      not_true false h = refl

  reach_start : Reaches r [] (r.state 0)
  reach_start = record { run = refl; describes = start; bytes = refl }

  same_next : (M N K : State) (D : List ℕ) (j : ℕ) → replay (r.state 0) (map r.step D) ≡ Some M → replay (r.state 0) (map r.step (D ++ j ∷ [])) ≡ Some N → next M (r.step j) ≡ Some K → N ≡ K
  same_next M N K D j run more is =
      some_same N K (sym more ∙ ap (replay (r.state 0)) (map-append r.step D (j ∷ [])) ∙ replay-snoc (r.state 0) (map r.step D) (r.step j) ∙ ap (option_and_then (λ N. next N (r.step j))) run ∙ is)

  pub recorded_reached : (j : ℕ) → j ≤ r.size → Reaches r (range_with_len 0 j) (r.state j)
  recorded_reached zero h = reach_start
  recorded_reached (suc j) h =
      let reach = recorded_reached j (omega (arith, h)) in
      let ok = sound (range_with_len 0 j) (r.state j) reach.run in
      let had : HasRecorded r (range_with_len 0 j) j = ap (λ b. had_by b (act_at r j)) (sym reach.bytes) in
      let more = one-more r rec Before alike (range_with_len 0 j) j (r.state j) ok.0 ok.1 (front_here j h) reach reach.describes had in
      let same : more.0 ≡ r.state (suc j) = same_next (r.state j) more.0 (r.state (suc j)) (range_with_len 0 j) j reach.run more.1.run (rec.made j h) in
      subst (λ D. Reaches r D (r.state (suc j))) (sym (range_next j)) (subst (Reaches r (range_with_len 0 j ++ j ∷ [])) same more.1)

  -- any order
  pub order_reached : IsFree r Before → (order : List ℕ) → KeepsOrder Before r.size order → (M : State) × Reaches r order M
  order_reached free order keeps =
      by_fronts Before r.size order keeps (λ D. (M : State) × Reaches r D M) (r.state 0, reach_start) (λ D rest j e front reached.
      let M = reached.0 in
      let ok = sound D M reached.1.run in
      let here = recorded_reached j (let l = front.low in omega (arith, l)) in
      let had : HasRecorded r D j =
      had_in_order r Before free order keeps (byte_of (r.state 0)) D rest j e ∙ ap (λ b. had_by b (act_at r j)) (sym here.bytes) in
      one-more r rec Before alike D j M ok.0 ok.1 front reached.1 here.describes had)

  -- and all bytes at its end are those of the run
  pub order_bytes : (free : IsFree r Before) (order : List ℕ) (keeps : KeepsOrder Before r.size order) → (M : State) → Reaches r order M → byte_of M ≡ byte_of (r.state r.size)
  order_bytes free order keeps M reach =
      reach.bytes ∙ same_bytes r Before free order keeps (byte_of (r.state 0)) ∙ sym (recorded_reached r.size (omega arith)).bytes
