-- What goes through one place of a mailbox comes one after the other.
use Rattle.std.proofs.Common.{◌≡◌, ℕ, zero, suc, ◌+◌, ◌-◌, ◌%◌, ◌==◌, ◌<◌, ◌≤◌, Bool, true, false, take, ◌⊎◌, inl, inr, sym, ◌∙◌, subst, arith}
use Rattle.std.specs.Prelude.{count_by, if◌then◌else◌}
use Rattle.std.proofs.lemmas.Bool.{cases_order}
use Rattle.race_order.specs.Trace.{Event, Trace, is_put, is_take, puts, takes, mailbox_size}
use Rattle.race_order.specs.Rules.{Plain, Passed, PlaceFree, Edge, Ordered, One, Then}
use Rattle.race_order.specs.Orderly.{IsOrderly}
use Rattle.race_order.proofs.Counts.{IsNth, nth_there, nth_before, nth_front, counts_rise, count_here}

size_of : Bool → ℕ
size_of b = if b then 4 else 1

near_by : (b : Bool) (k l : ℕ) → k < l → k % size_of b ≡ l % size_of b → k + size_of b ≤ l
unfolding size_of
near_by true k l low e = omega arith
near_by false k l low e = omega arith

back_by : (b : Bool) (k : ℕ) → size_of b ≤ k → (k - size_of b) % size_of b ≡ k % size_of b
unfolding size_of
back_by true k low = omega arith
back_by false k low = omega arith

near : (m k l : ℕ) → k < l → k % mailbox_size m ≡ l % mailbox_size m → k + mailbox_size m ≤ l
unfolding size_of
near m k l low e = near_by (m == 0) k l low e

back : (m k : ℕ) → mailbox_size m ≤ k → (k - mailbox_size m) % mailbox_size m ≡ k % mailbox_size m
unfolding size_of
back m k low = back_by (m == 0) k low

ahead_by : (b : Bool) (k : ℕ) → (k + size_of b) % size_of b ≡ k % size_of b
unfolding size_of
ahead_by true k = omega arith
ahead_by false k = omega arith

pub ahead : (m k : ℕ) → (k + mailbox_size m) % mailbox_size m ≡ k % mailbox_size m
unfolding size_of
ahead m k = ahead_by (m == 0) k

abbrev pub put_in : ℕ → ℕ → Event → Bool
put_in q m e = is_put q m e.effect.note

abbrev pub taken_out : ℕ → ℕ → Event → Bool
taken_out q m e = is_take q m e.effect.note

-- at place i a value goes into or out of the place r of a mailbox
pub data Through (trace : Trace) (q m r i : ℕ) : Type 0 where
  In : (k : ℕ) → IsNth (put_in q m) trace k i → k % mailbox_size m ≡ r → Through trace q m r i
  Out : (k : ℕ) → IsNth (taken_out q m) trace k i → k % mailbox_size m ≡ r → Through trace q m r i

module _ (Rule : Trace → ℕ → ℕ → Type 0) (plain : (t : Trace) (i j : ℕ) → Plain t i j → Rule t i j) (n : ℕ) (trace : Trace) (orderly : IsOrderly n trace) (q m r : ℕ) where
  full_at : (k i : ℕ) → IsNth (taken_out q m) trace k i → k < puts q m (take i trace)
  full_at k i h =
      let low : takes q m (take i trace) < puts q m (take i trace) = (orderly i h.element h.at).full q m h.passes in
      let e : takes q m (take i trace) ≡ k = h.number in
      omega arith

  free_at : (k i : ℕ) → IsNth (put_in q m) trace k i → k < takes q m (take i trace) + mailbox_size m
  free_at k i h =
      let low : puts q m (take i trace) < takes q m (take i trace) + mailbox_size m = (orderly i h.element h.at).free q m h.passes in
      let e : puts q m (take i trace) ≡ k = h.number in
      omega arith

  passed : (k i j : ℕ) → i < j → IsNth (put_in q m) trace k i → IsNth (taken_out q m) trace k j → Edge Rule trace i j
  passed k i j low a b =
      let a' : IsNth (put_in q m) (take (j + 1) trace) k i = nth_front (put_in q m) trace (j + 1) k i (omega arith) a in
      let b' : IsNth (taken_out q m) (take (j + 1) trace) k j = nth_front (taken_out q m) trace (j + 1) k j (omega arith) b in
      record {
        below = low;
        rule = plain _ _ _ (Passed q m k record { event = a'.element; at = a'.at; is = a'.passes; number = a'.number } record { event = b'.element; at = b'.at; is = b'.passes; number = b'.number });
      }

  freed : (k l i j : ℕ) → l ≡ k + mailbox_size m → i < j → IsNth (taken_out q m) trace k i → IsNth (put_in q m) trace l j → Edge Rule trace i j
  freed k l i j e low a b =
      let a' : IsNth (taken_out q m) (take (j + 1) trace) k i = nth_front (taken_out q m) trace (j + 1) k i (omega arith) a in
      let b' : IsNth (put_in q m) (take (j + 1) trace) l j = nth_front (put_in q m) trace (j + 1) l j (omega arith) b in
      record {
        below = low;
        rule = plain _ _ _ (PlaceFree q m k record { event = a'.element; at = a'.at; is = a'.passes; number = a'.number } record { event = b'.element; at = b'.at; is = b'.passes; number = b'.number ∙ e });
      }

  abbrev Chained : ℕ → Type 0
  Chained j = (i : ℕ) → Through trace q m r i → Through trace q m r j → i < j → Ordered Rule trace i j

  -- behind the one before, or at it
  behind : (i l j : ℕ) → Through trace q m r i → Through trace q m r l → Edge Rule trace l j → Chained l → (l < i → ⊥) → Ordered Rule trace i j
  behind i l j a b e rest none = at (cases_order i l)
    where
      at : (i ≡ l) ⊎ ((i < l) ⊎ (l < i)) → Ordered Rule trace i j
      at (inl same) = One (subst (λ x. Edge Rule trace x j) (sym same) e)
      at (inr (inl low)) = Then (rest i a b low) e
      at (inr (inr high)) = absurd (none high)

  chain_step : (i j : ℕ) → ((l : ℕ) → l < j → Chained l) → Through trace q m r i → Through trace q m r j → i < j → Ordered Rule trace i j
  chain_step i j rest (In k a e) (Out l b f) low =
      let h : (i' : ℕ) × IsNth (put_in q m) (take j trace) l i' = nth_there (put_in q m) (take j trace) l (full_at l j b) in
      let g : (h.0 < j) × IsNth (put_in q m) trace l h.0 = nth_before (put_in q m) trace j l h.0 h.1 in
      behind i h.0 j (In k a e) (In l g.1 f) (passed l h.0 j g.0 g.1 b) (rest h.0 g.0)
      (λ high.
      let c : count_by (put_in q m) (take h.0 trace) < count_by (put_in q m) (take i trace) = count_here (put_in q m) trace h.0 i g.1.element g.1.at g.1.passes high in
      let d : k < takes q m (take i trace) + mailbox_size m = free_at k i a in
      let u : takes q m (take i trace) ≤ takes q m (take j trace) = counts_rise (taken_out q m) trace i j (omega arith) in
      let an : count_by (put_in q m) (take i trace) ≡ k = a.number in
      let bn : takes q m (take j trace) ≡ l = b.number in
      let gn : count_by (put_in q m) (take h.0 trace) ≡ l = g.1.number in
      let lk : l < k = omega arith in
      let w : l + mailbox_size m ≤ k = near m l k lk (f ∙ sym e) in
      omega arith)
  chain_step i j rest (Out k a e) (Out l b f) low =
      let h : (i' : ℕ) × IsNth (put_in q m) (take j trace) l i' = nth_there (put_in q m) (take j trace) l (full_at l j b) in
      let g : (h.0 < j) × IsNth (put_in q m) trace l h.0 = nth_before (put_in q m) trace j l h.0 h.1 in
      behind i h.0 j (Out k a e) (In l g.1 f) (passed l h.0 j g.0 g.1 b) (rest h.0 g.0)
      (λ high.
      let c : count_by (taken_out q m) (take i trace) < count_by (taken_out q m) (take j trace) = count_here (taken_out q m) trace i j a.element a.at a.passes low in
      let d : l < takes q m (take h.0 trace) + mailbox_size m = free_at l h.0 g.1 in
      let u : takes q m (take h.0 trace) ≤ takes q m (take i trace) = counts_rise (taken_out q m) trace h.0 i (omega arith) in
      let an : takes q m (take i trace) ≡ k = a.number in
      let bn : takes q m (take j trace) ≡ l = b.number in
      let kl : k < l = omega arith in
      let w : k + mailbox_size m ≤ l = near m k l kl (e ∙ sym f) in
      omega arith)
  chain_step i j rest (In k a e) (In l b f) low =
      let c : count_by (put_in q m) (take i trace) < count_by (put_in q m) (take j trace) = count_here (put_in q m) trace i j a.element a.at a.passes low in
      let an : count_by (put_in q m) (take i trace) ≡ k = a.number in
      let bn : count_by (put_in q m) (take j trace) ≡ l = b.number in
      let kl : k < l = omega arith in
      let w : k + mailbox_size m ≤ l = near m k l kl (e ∙ sym f) in
      let d : l < takes q m (take j trace) + mailbox_size m = free_at l j b in
      let h : (i' : ℕ) × IsNth (taken_out q m) (take j trace) (l - mailbox_size m) i' = nth_there (taken_out q m) (take j trace) (l - mailbox_size m) (omega arith) in
      let g : (h.0 < j) × IsNth (taken_out q m) trace (l - mailbox_size m) h.0 = nth_before (taken_out q m) trace j (l - mailbox_size m) h.0 h.1 in
      behind i h.0 j (In k a e) (Out (l - mailbox_size m) g.1 (back m l (omega arith) ∙ f)) (freed (l - mailbox_size m) l h.0 j (omega arith) g.0 g.1 b) (rest h.0 g.0)
      (λ high.
      let v : l - mailbox_size m < puts q m (take h.0 trace) = full_at (l - mailbox_size m) h.0 g.1 in
      let u : puts q m (take h.0 trace) ≤ puts q m (take i trace) = counts_rise (put_in q m) trace h.0 i (omega arith) in
      omega arith)
  chain_step i j rest (Out k a e) (In l b f) low =
      let v : k < puts q m (take i trace) = full_at k i a in
      let u : puts q m (take i trace) ≤ puts q m (take j trace) = counts_rise (put_in q m) trace i j (omega arith) in
      let an : takes q m (take i trace) ≡ k = a.number in
      let bn : puts q m (take j trace) ≡ l = b.number in
      let kl : k < l = omega arith in
      let w : k + mailbox_size m ≤ l = near m k l kl (e ∙ sym f) in
      let d : l < takes q m (take j trace) + mailbox_size m = free_at l j b in
      let h : (i' : ℕ) × IsNth (taken_out q m) (take j trace) (l - mailbox_size m) i' = nth_there (taken_out q m) (take j trace) (l - mailbox_size m) (omega arith) in
      let g : (h.0 < j) × IsNth (taken_out q m) trace (l - mailbox_size m) h.0 = nth_before (taken_out q m) trace j (l - mailbox_size m) h.0 h.1 in
      behind i h.0 j (Out k a e) (Out (l - mailbox_size m) g.1 (back m l (omega arith) ∙ f)) (freed (l - mailbox_size m) l h.0 j (omega arith) g.0 g.1 b) (rest h.0 g.0)
      (λ high.
      let c : count_by (taken_out q m) (take h.0 trace) < count_by (taken_out q m) (take i trace) = count_here (taken_out q m) trace h.0 i g.1.element g.1.at g.1.passes high in
      let gn : count_by (taken_out q m) (take h.0 trace) ≡ l - mailbox_size m = g.1.number in
      omega arith)

  chain_below : (b j : ℕ) → j < b → Chained j
  chain_below zero j low i x y up = absurd (omega arith)
  chain_below (suc b) j low i x y up = chain_step i j (λ l less. chain_below b l (omega arith)) x y up

  pub box_chain : (i j : ℕ) → Through trace q m r i → Through trace q m r j → i < j → Ordered Rule trace i j
  box_chain i j x y up = chain_below (j + 1) j (omega arith) i x y up
