-- The steps that wait for each step.
use Rattle.std.proofs.Common.{◌≡◌, ℕ, ◌<◌, ◌≤◌, List, [], ◌∷◌, ◌++◌, length, set, sym, ap, ◌∙◌, subst, arith, ◌⊎◌, inl, inr}
use Rattle.std.specs.Prelude.{◌↔◌, Vec}
use Rattle.std.specs.declared.alloc.Global.{Global}
use Rattle.std.proofs.lemmas.Bool.{cases_eq, cases_lt}
use Rattle.std.proofs.lemmas.List.{length_push}
use Rattle.run_permute.specs.SettledLists.{IsIn}
use Rattle.run_permute.specs.Lists.{IsRising, list_at, steps_in}
use Rattle.run_permute.specs.Choices.{IsTaken, IsReady, IsSeen, IsSound}
use Rattle.run_permute.specs.declared.few.Few.{Few}
use Rattle.run_permute.specs.declared.order.Order.{Order}
use Rattle.run_permute.proofs.Entries.{list-past, list-push, list-front, list-set, list-other}

pub none-more : (vs : List Few) (v : Few) → steps_in v ≡ [] → ((i j : ℕ) → IsIn j (list_at vs i) → ⊥) → (i j : ℕ) → IsIn j (list_at (vs ++ v ∷ []) i) → ⊥
none-more vs v empty none i j h = on (cases_lt i (length vs))
  where
    low : i < length (vs ++ v ∷ [])
    low = list-past (vs ++ v ∷ []) i j h

    on : (i < length vs) ⊎ (length vs ≤ i) → ⊥
    on (inl l) = none i j (subst (IsIn j) (list-front vs v i l) h)
    on (inr l) =
        let long = length_push vs v in
        let e : i ≡ length vs = omega (arith, low, long, l) in
        subst (IsIn j) (ap (list_at (vs ++ v ∷ [])) e ∙ list-push vs v ∙ empty) h

-- where one list was emptied
pub emptied : (vs : List Few) (i : ℕ) (v : Few) (a k : ℕ) → i < length vs → steps_in v ≡ [] → IsIn k (list_at (set vs i v) a) → IsIn k (list_at vs a)
emptied vs i v a k low empty h = on (cases_eq a i)
  where
    on : (a ≡ i) ⊎ (a ≡ i → ⊥) → IsIn k (list_at vs a)
    on (inl e) = absurd (subst (IsIn k) (ap (list_at (set vs i v)) e ∙ list-set vs i v low ∙ empty) h)
    on (inr d) = subst (IsIn k) (list-other vs i a v d) h

-- ---- a step is looked at: it is ready

module _ (needs : List Few) (o : Order) (step : ℕ) (places : Vec ℕ Global) (put : (k : ℕ) → IsIn k places.items ↔ (IsIn k o.free.items ⊎ (k ≡ step))) where
  pub free-sound : IsSound needs o → IsReady needs o.taken.items step → IsRising places.items → IsSound needs (record o { free = places })
  free-sound s ready rising = record { long = s.long; lists = s.lists; taken = s.taken; rising = rising; ready = λ j h. on j ((put j).0 h); there = s.there }
    where
      on : (j : ℕ) → IsIn j o.free.items ⊎ (j ≡ step) → IsReady needs o.taken.items j
      on j (inl h) = s.ready j h
      on j (inr e) = subst (IsReady needs o.taken.items) (sym e) ready

  pub free-seen : (k : ℕ) → IsSeen needs o k ⊎ (k ≡ step) → IsSeen needs (record o { free = places }) k
  free-seen k (inl (inl t)) = inl t
  free-seen k (inl (inr (inl h))) = inr (inl ((put k).1 (inl h)))
  free-seen k (inl (inr (inr w))) = inr (inr (record { at = w.at; needed = w.needed; left = w.left; listed = w.listed }))
  free-seen k (inr e) = inr (inl ((put k).1 (inr e)))

-- ---- it waits for one that it needs

module _ (needs : List Few) (o : Order) (need step : ℕ) (lists : Vec Few Global) (here : (k : ℕ) → IsIn k (list_at lists.items need) ↔ (IsIn k (list_at o.waiting.items need) ⊎ (k ≡ step)))
    (others : (a : ℕ) → (a ≡ need → ⊥) → list_at lists.items a ≡ list_at o.waiting.items a) where
  listed-out : (a k : ℕ) → IsIn k (list_at lists.items a) → IsIn k (list_at o.waiting.items a) ⊎ (k ≡ step)
  listed-out a k h = on (cases_eq a need)
    where
      back : a ≡ need → IsIn k (list_at o.waiting.items need) ⊎ (k ≡ step) → IsIn k (list_at o.waiting.items a) ⊎ (k ≡ step)
      back e (inl l) = inl (subst (λ b. IsIn k (list_at o.waiting.items b)) (sym e) l)
      back e (inr s) = inr s

      on : (a ≡ need) ⊎ (a ≡ need → ⊥) → IsIn k (list_at o.waiting.items a) ⊎ (k ≡ step)
      on (inl e) = back e ((here k).0 (subst (λ b. IsIn k (list_at lists.items b)) e h))
      on (inr d) = inl (subst (IsIn k) (others a d) h)

  listed-in : (a k : ℕ) → IsIn k (list_at o.waiting.items a) → IsIn k (list_at lists.items a)
  listed-in a k h = on (cases_eq a need)
    where
      on : (a ≡ need) ⊎ (a ≡ need → ⊥) → IsIn k (list_at lists.items a)
      on (inl e) = subst (λ b. IsIn k (list_at lists.items b)) (sym e) ((here k).1 (inl (subst (λ b. IsIn k (list_at o.waiting.items b)) e h)))
      on (inr d) = subst (IsIn k) (sym (others a d)) h

  pub wait-sound : IsSound needs o → step < length needs → length lists.items ≡ length o.waiting.items → IsSound needs (record o { waiting = lists })
  wait-sound s low long = record { long = s.long; lists = long ∙ s.lists; taken = s.taken; rising = s.rising; ready = s.ready; there = λ i j h. on i j (listed-out i j h) }
    where
      on : (i j : ℕ) → IsIn j (list_at o.waiting.items i) ⊎ (j ≡ step) → j < length needs
      on i j (inl h) = s.there i j h
      on i j (inr e) = subst (λ k. k < length needs) (sym e) low

  pub wait-seen : IsIn need (list_at needs step) → (IsTaken o.taken.items need → ⊥) → (k : ℕ) → IsSeen needs o k ⊎ (k ≡ step) → IsSeen needs (record o { waiting = lists }) k
  wait-seen needed left k (inl (inl t)) = inl t
  wait-seen needed left k (inl (inr (inl h))) = inr (inl h)
  wait-seen needed left k (inl (inr (inr w))) = inr (inr (record { at = w.at; needed = w.needed; left = w.left; listed = listed-in w.at k w.listed }))
  wait-seen needed left k (inr e) = inr (inr (record { at = need; needed = subst (λ j. IsIn need (list_at needs j)) (sym e) needed; left = left; listed = (here k).1 (inr e) }))

-- ---- or it is taken already

pub taken-still : (needs : List Few) (o : Order) (step : ℕ) → IsTaken o.taken.items step → (k : ℕ) → IsSeen needs o k ⊎ (k ≡ step) → IsSeen needs o k
taken-still needs o step t k (inl h) = h
taken-still needs o step t k (inr e) = inl (subst (IsTaken o.taken.items) (sym e) t)
