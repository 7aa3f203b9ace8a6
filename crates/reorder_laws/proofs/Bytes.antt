-- Without a race each step has in every order that keeps the ordered pairs what it has in the recorded one.
use Rattle.std.proofs.Common.{◌≡◌, ℕ, zero, suc, ◌+◌, ◌<◌, List, [], ◌∷◌, ◌++◌, refl, sym, ap, ◌∙◌, subst, arith}
use Rattle.std.specs.Prelude.{⊤}
use Rattle.std.specs.List.{range_with_len}
use Rattle.cell_machine.specs.ByteRuns.{Bytes, Had, had_by, after}
use Rattle.race_check.specs.Races.{access_of, Conflict}
use Rattle.race_check.specs.Reorderings.{KeepsOrder}
use Rattle.race_check.proofs.Apart.{Spares, had_kept, exchange, spares_first, spares_second}
use Rattle.race_check.proofs.Exchanges.{by_exchanges}
use Rattle.reorder_laws.specs.Recorded.{Recorded, act_at}
use Rattle.reorder_laws.specs.Steps.{bytes_after}

module _ (r : Recorded) where
  -- each has what v says
  abbrev Have : (ℕ → Had) → Bytes → List ℕ → Type 0
  Have v bytes [] = ⊤
  Have v bytes (k ∷ ks) = (had_by bytes (act_at r k) ≡ v k) × Have v (after bytes (act_at r k)) ks

  record Apart (x y : ℕ) : Type 0 where
    left : Spares (access_of (act_at r x).effect) (access_of (act_at r y).effect)
    right : Spares (access_of (act_at r y).effect) (access_of (act_at r x).effect)

  swap_ends : (front rest : List ℕ) (a b : ℕ) (bytes : Bytes) → Apart a b → bytes_after r bytes (front ++ b ∷ a ∷ rest) ≡ bytes_after r bytes (front ++ a ∷ b ∷ rest)
  swap_ends [] rest a b bytes h = ap (λ s. bytes_after r s rest) (exchange bytes (act_at r b) (act_at r a) h.left h.right)
  swap_ends (y ∷ front) rest a b bytes h = swap_ends front rest a b (after bytes (act_at r y)) h

  swap_have : (v : ℕ → Had) (front rest : List ℕ) (a b : ℕ) (bytes : Bytes) → Apart a b → Have v bytes (front ++ a ∷ b ∷ rest) → Have v bytes (front ++ b ∷ a ∷ rest)
  swap_have v [] rest a b bytes h (now, (later, most)) = (
    sym (had_kept bytes (act_at r b) (act_at r a) h.left) ∙ later,
    (had_kept bytes (act_at r a) (act_at r b) h.right ∙ now, subst (λ s. Have v s rest) (exchange bytes (act_at r a) (act_at r b) h.right h.left) most),
  )
  swap_have v (y ∷ front) rest a b bytes h p = (p.0, swap_have v front rest a b (after bytes (act_at r y)) h p.1)

  end_more : (bytes : Bytes) (a m : ℕ) → bytes_after r bytes (range_with_len a (suc m)) ≡ after (bytes_after r bytes (range_with_len a m)) (act_at r (a + m))
  end_more bytes a zero = let e : a ≡ a + 0 = omega arith in ap (λ i. after bytes (act_at r i)) e
  end_more bytes a (suc m) =
      let i : a + 1 + m ≡ a + suc m = omega arith in
      end_more (after bytes (act_at r a)) (a + 1) m ∙ ap (λ j. after (bytes_after r (after bytes (act_at r a)) (range_with_len (a + 1) m)) (act_at r j)) i

  -- what the action at k has in the recorded order
  told : Bytes → ℕ → Had
  told bytes k = had_by (bytes_after r bytes (range_with_len 0 k)) (act_at r k)

  have_told : (bytes : Bytes) (a m : ℕ) → Have (told bytes) (bytes_after r bytes (range_with_len 0 a)) (range_with_len a m)
  unfolding told
  have_told bytes a zero = tt
  have_told bytes a (suc m) =
      let e : a + 1 ≡ suc a = omega arith in
      let f : 0 + a ≡ a = omega arith in
      let next : bytes_after r bytes (range_with_len 0 (a + 1)) ≡ after (bytes_after r bytes (range_with_len 0 a)) (act_at r a) =
      ap (λ j. bytes_after r bytes (range_with_len 0 j)) e ∙ (end_more bytes 0 a ∙ ap (λ j. after (bytes_after r bytes (range_with_len 0 a)) (act_at r j)) f) in
      (refl, subst (λ b. Have (told bytes) b (range_with_len (a + 1) m)) next (have_told bytes (a + 1) m))

  have_at : (v : ℕ → Had) (bytes : Bytes) (D rest : List ℕ) (j : ℕ) → Have v bytes (D ++ j ∷ rest) → had_by (bytes_after r bytes D) (act_at r j) ≡ v j
  have_at v bytes [] rest j h = h.0
  have_at v bytes (k ∷ D) rest j h = have_at v (after bytes (act_at r k)) D rest j h.1

  -- no two steps conflict that nothing orders
  abbrev pub IsFree : (ℕ → ℕ → Type 0) → Type 0
  IsFree Before = (i j : ℕ) → i < j → j < r.size → (Before i j → ⊥) → Conflict (access_of (r.effect i)) (access_of (r.effect j)) → ⊥

  module _ (Before : ℕ → ℕ → Type 0) (free : IsFree Before) (order : List ℕ) (keeps : KeepsOrder Before r.size order) (opening : Bytes) where
    apart : (i j : ℕ) → i < j → j < r.size → (Before i j → ⊥) → Apart i j
    apart i j low high none = record { left = spares_first _ _ (free i j low high none); right = spares_second _ _ (free i j low high none) }

    record Same (ks : List ℕ) : Type 0 where
      ends : bytes_after r opening ks ≡ bytes_after r opening (range_with_len 0 r.size)
      haves : Have (told opening) opening ks

    same_run : Same order
    same_run =
        by_exchanges Before r.size Same
        (λ front rest a b f p. let h : Apart a b = apart a b f.low f.high f.unordered in record { ends = swap_ends front rest a b opening h ∙ p.ends; haves = swap_have (told opening) front rest a b opening h p.haves })
        record { ends = refl; haves = have_told opening 0 r.size } order keeps

    pub same_bytes : bytes_after r opening order ≡ bytes_after r opening (range_with_len 0 r.size)
    same_bytes = same_run.ends

    pub had_in_order : (D rest : List ℕ) (j : ℕ) → D ++ j ∷ rest ≡ order → had_by (bytes_after r opening D) (act_at r j) ≡ had_by (bytes_after r opening (range_with_len 0 j)) (act_at r j)
    unfolding told
    had_in_order D rest j e = have_at (told opening) opening D rest j (subst (Have (told opening) opening) (sym e) same_run.haves)
