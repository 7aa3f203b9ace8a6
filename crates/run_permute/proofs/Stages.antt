-- The steps that are taken, and those that are free then.
use Rattle.std.proofs.Common.{◌≡◌, ℕ, zero, suc, ◌+◌, ◌*◌, ◌%◌, ◌<◌, Bool, true, false, List, [], ◌∷◌, ◌++◌, length, set, replicate, refl, sym, ap, ◌∙◌, subst, arith, ◌⊎◌, inl, inr, Some, true≢false}
use Rattle.std.specs.Prelude.{◌↔◌, slice_get}
use Rattle.std.specs.List.{remove}
use Rattle.std.proofs.lemmas.Bool.{cases_eq}
use Rattle.std.proofs.lemmas.List.{length-set}
use Rattle.std.proofs.lemmas.Option.{none-some, same_Some}
use Rattle.cell_machine.specs.Run.{Ran}
use Rattle.reorder_laws.specs.OrderedLaws.{IsOrdered}
use Rattle.run_permute.specs.SettledLists.{IsIn}
use Rattle.run_permute.specs.Lists.{IsRising, list_at}
use Rattle.run_permute.specs.Nth.{IsFree, AreFree, IsChosen, AreChosen}
use Rattle.run_permute.specs.Needs.{IsCovered, AreNeeds}
use Rattle.run_permute.specs.Choices.{IsTaken, IsReady, IsWaiting, IsSeen, IsSound, AreInside, IsStage}
use Rattle.run_permute.specs.declared.few.Few.{Few}
use Rattle.run_permute.specs.declared.order.Order.{Order}
use Rattle.run_permute.proofs.Entries.{in-at, at-in, in-push, in-remove, in-kept, list-past}
use Rattle.run_permute.proofs.Rising.{removed, rising-remove}
use Rattle.run_permute.proofs.Nths.{closed, some-free}
use Rattle.run_permute.proofs.Ordered.{ordered-up}

-- ---- flags

behind : (bs : List Bool) (s j : ℕ) → IsTaken (set bs s true) j ↔ (IsTaken bs j ⊎ (j ≡ s)) → IsTaken (set bs s true) j ↔ (IsTaken bs j ⊎ (suc j ≡ suc s))
behind bs s j by = ((λ h. more (by.0 h)), λ h. by.1 (less h))
  where
    more : IsTaken bs j ⊎ (j ≡ s) → IsTaken bs j ⊎ (suc j ≡ suc s)
    more (inl h) = inl h
    more (inr e) = inr (ap suc e)

    less : IsTaken bs j ⊎ (suc j ≡ suc s) → IsTaken bs j ⊎ (j ≡ s)
    less (inl h) = inl h
    less (inr e) = inr (omega arith)

pub taken-set : (taken : List Bool) (s j : ℕ) → s < length taken → IsTaken (set taken s true) j ↔ (IsTaken taken j ⊎ (j ≡ s))
taken-set [] s j low = absurd (omega arith)
taken-set (b ∷ bs) zero zero low = ((λ h. inr refl), λ h. refl)
taken-set (b ∷ bs) zero (suc j) low = ((λ h. inl h), into)
  where
    into : IsTaken bs j ⊎ (suc j ≡ 0) → IsTaken bs j
    into (inl h) = h
    into (inr e) = absurd (omega arith)
taken-set (b ∷ bs) (suc s) zero low = ((λ h. inl h), into)
  where
    into : IsTaken (b ∷ bs) 0 ⊎ (0 ≡ suc s) → IsTaken (b ∷ bs) 0
    into (inl h) = h
    into (inr e) = absurd (omega arith)
taken-set (b ∷ bs) (suc s) (suc j) low = behind bs s j (taken-set bs s j (omega arith))

pub none-taken : (n j : ℕ) → IsTaken (replicate n false) j → ⊥
none-taken zero j h = none-some true h
none-taken (suc n) zero h = true≢false (sym (same_Some false true h))
none-taken (suc n) (suc j) h = none-taken n j h

-- ---- one step is taken

module _ (needs : List Few) (o : Order) (at step : ℕ) (stage : IsStage needs o) (is : slice_get o.free.items at ≡ Some step) where
  pub step-ready : IsReady needs o.taken.items step
  step-ready = stage.sound.ready step (in-at o.free.items at step is)

  pub step-low : step < length needs
  step-low = let l : step < length o.taken.items = step-ready.within in let e : length o.taken.items ≡ length needs = stage.sound.long in omega arith

  set-is : (j : ℕ) → IsTaken (set o.taken.items step true) j ↔ (IsTaken o.taken.items j ⊎ (j ≡ step))
  set-is j = taken-set o.taken.items step j step-ready.within

  still : (j : ℕ) → (j ≡ step → ⊥) → IsTaken (set o.taken.items step true) j → IsTaken o.taken.items j
  still j other h = on ((set-is j).0 h)
    where
      on : IsTaken o.taken.items j ⊎ (j ≡ step) → IsTaken o.taken.items j
      on (inl k) = k
      on (inr e) = absurd (other e)

  -- those that were free still are
  kept : (j : ℕ) → IsIn j (remove o.free.items at) → IsReady needs (set o.taken.items step true) j
  kept j h =
      let r = stage.sound.ready j (in-remove o.free.items at j h) in
      record {
        within = (let l : j < length o.taken.items = r.within in let e = length-set o.taken.items step true in omega (arith, l, e));
        left = λ t. r.left (still j (λ e. removed o.free.items at step stage.sound.rising is (subst (λ k. IsIn k (remove o.free.items at)) e h)) t);
        needs_taken = λ i n. (set-is i).1 (inl (r.needs_taken i n));
      }

  taken-more : (j : ℕ) → IsTaken (set o.taken.items step true) j ↔ IsIn j (o.steps.items ++ step ∷ [])
  taken-more j = ((λ t. (in-push o.steps.items step j).1 (out ((set-is j).0 t))), λ k. (set-is j).1 (into ((in-push o.steps.items step j).0 k)))
    where
      out : IsTaken o.taken.items j ⊎ (j ≡ step) → IsIn j o.steps.items ⊎ (j ≡ step)
      out (inl t) = inl ((stage.sound.taken j).0 t)
      out (inr e) = inr e

      into : IsIn j o.steps.items ⊎ (j ≡ step) → IsTaken o.taken.items j ⊎ (j ≡ step)
      into (inl k) = inl ((stage.sound.taken j).1 k)
      into (inr e) = inr e

  pub taken-sound : (n : Order) → n.taken.items ≡ set o.taken.items step true → n.steps.items ≡ o.steps.items ++ step ∷ [] → n.free.items ≡ remove o.free.items at → length n.waiting.items ≡ length o.waiting.items
      → ((a k : ℕ) → IsIn k (list_at n.waiting.items a) → IsIn k (list_at o.waiting.items a)) → IsSound needs n
  taken-sound n taken steps free lists within =
      record {
        long = ap length taken ∙ length-set o.taken.items step true ∙ stage.sound.long;
        lists = lists ∙ stage.sound.lists;
        taken = subst (λ (xs : List ℕ). (j : ℕ) → IsTaken n.taken.items j ↔ IsIn j xs) (sym steps) (subst (λ (bs : List Bool). (j : ℕ) → IsTaken bs j ↔ IsIn j (o.steps.items ++ step ∷ [])) (sym taken) taken-more);
        rising = subst IsRising (sym free) (rising-remove o.free.items at stage.sound.rising);
        ready = subst (λ (bs : List Bool). (j : ℕ) → IsIn j n.free.items → IsReady needs bs j) (sym taken) (subst (λ (xs : List ℕ). (j : ℕ) → IsIn j xs → IsReady needs (set o.taken.items step true) j) (sym free) kept);
        there = λ i j h. stage.sound.there i j (within i j h);
      }

  -- all others are seen still, but for those that waited for the step
  pub taken-seen : (n : Order) (waiters : List ℕ) → n.taken.items ≡ set o.taken.items step true → n.free.items ≡ remove o.free.items at → waiters ≡ list_at o.waiting.items step
      → ((a : ℕ) → (a ≡ step → ⊥) → list_at n.waiting.items a ≡ list_at o.waiting.items a) → (k : ℕ) → k < length needs → IsSeen needs n k ⊎ IsIn k waiters
  taken-seen n waiters taken free are others k low = on (stage.seen k low)
    where
      flag : IsTaken o.taken.items k ⊎ (k ≡ step) → IsTaken n.taken.items k
      flag h = subst (λ (bs : List Bool). IsTaken bs k) (sym taken) ((set-is k).1 h)

      on-free : IsIn k (remove o.free.items at) ⊎ (k ≡ step) → IsSeen needs n k ⊎ IsIn k waiters
      on-free (inl h) = inl (inr (inl (subst (IsIn k) (sym free) h)))
      on-free (inr e) = inl (inl (flag (inr e)))

      on-waiting : (w : IsWaiting needs o k) → (w.at ≡ step) ⊎ (w.at ≡ step → ⊥) → IsSeen needs n k ⊎ IsIn k waiters
      on-waiting w (inl e) = inr (subst (IsIn k) (sym are) (subst (λ a. IsIn k (list_at o.waiting.items a)) e w.listed))
      on-waiting w (inr d) =
          inl (inr (inr (record {
            at = w.at;
            needed = w.needed;
            left = λ t. w.left (still w.at d (subst (λ (bs : List Bool). IsTaken bs w.at) taken t));
            listed = subst (IsIn k) (sym (others w.at d)) w.listed;
          })))

      on : IsSeen needs o k → IsSeen needs n k ⊎ IsIn k waiters
      on (inl t) = inl (inl (flag (inl t)))
      on (inr (inl h)) = on-free (in-kept o.free.items at k step is h)
      on (inr (inr w)) = on-waiting w (cases_eq w.at step)

-- the free steps are all that are ready
pub stage-exactly : (needs : List Few) (o : Order) → IsStage needs o → (j : ℕ) → IsIn j o.free.items ↔ IsReady needs o.taken.items j
stage-exactly needs o stage j = (stage.sound.ready j, λ r. into r (stage.seen j (let l : j < length o.taken.items = r.within in let e : length o.taken.items ≡ length needs = stage.sound.long in omega arith)))
  where
    into : IsReady needs o.taken.items j → IsSeen needs o j → IsIn j o.free.items
    into r (inl t) = absurd (r.left t)
    into r (inr (inl h)) = h
    into r (inr (inr w)) = absurd (w.left (r.needs_taken w.at w.needed))

-- ---- what is ready is free

pub inside-from : (m : Ran) (n : ℕ) (needs : List Few) → AreNeeds (IsOrdered m) n needs → AreInside needs
inside-from m n needs are i j h =
    let low : j < length needs = list-past needs j i h in
    let all : length needs ≡ n = are.all in
    let below : i < j = ordered-up m i j ((are.each j (omega arith)).sound i h) in
    omega arith

module _ (m : Ran) (n number : ℕ) (needs : List Few) (are : AreNeeds (IsOrdered m) n needs) (f : Order) (stage : IsStage needs f) (chosen : AreChosen (IsOrdered m) n number f.steps.items) where
  size : length f.taken.items ≡ n
  size = stage.sound.long ∙ are.all

  exactly : (j : ℕ) → IsIn j f.free.items ↔ IsReady needs f.taken.items j
  exactly = stage-exactly needs f stage

  ready-free : (j : ℕ) → IsReady needs f.taken.items j → IsFree (IsOrdered m) n f.steps.items j
  ready-free j r = record { within = within; left = λ h. r.left ((stage.sound.taken j).1 h); ready = ready }
    where
      within : j < n
      within = let l : j < length f.taken.items = r.within in let e : length f.taken.items ≡ n = size in omega arith

      ready : (i : ℕ) → i < n → IsOrdered m i j → IsIn i f.steps.items
      ready i low before = on ((are.each j within).complete i before)
        where
          by : (k : ℕ) → IsIn k f.steps.items → (i ≡ k) ⊎ IsOrdered m i k → IsIn i f.steps.items
          by k h (inl e) = subst (λ x. IsIn x f.steps.items) (sym e) h
          by k h (inr o) = closed (IsOrdered m) n number f.steps.items chosen i k low o h

          on : IsCovered (IsOrdered m) (list_at needs j) i → IsIn i f.steps.items
          on c = by c.need ((stage.sound.taken c.need).0 (r.needs_taken c.need c.within)) c.covers

  free-ready : (j : ℕ) → IsFree (IsOrdered m) n f.steps.items j → IsReady needs f.taken.items j
  free-ready j free =
      record {
        within = (let l : j < n = free.within in let e : length f.taken.items ≡ n = size in omega arith);
        left = λ t. free.left ((stage.sound.taken j).0 t);
        needs_taken = λ i h. (let o = (are.each j free.within).sound i h in let up : i < j = ordered-up m i j o in let l : j < n = free.within in (stage.sound.taken i).1 (free.ready i (omega arith) o));
      }

  are-free : AreFree (IsOrdered m) n f.steps.items f.free.items
  are-free = record { rising = stage.sound.rising; exactly = λ j. ((λ h. ready-free j ((exactly j).0 h)), λ h. (exactly j).1 (free-ready j h)) }

  pub some-place : length f.steps.items < n → 0 < length f.free.items
  some-place few =
      let s = some-free (IsOrdered m) n number f.steps.items (ordered-up m) few in
      let r = at-in f.free.items s.0 ((exactly s.0).1 (free-ready s.0 s.1)) in
      let l : r.0 < length f.free.items = r.1 in
      omega arith

  pub is-chosen : (at step : ℕ) → length f.steps.items < n → at ≡ (number * (length f.steps.items + 1)) % length f.free.items → slice_get f.free.items at ≡ Some step → IsChosen (IsOrdered m) n number f.steps.items step
  is-chosen at step few e is = record { free = f.free.items; are = are-free; some = some-place few; chosen = ap (slice_get f.free.items) (sym e) ∙ is }
