-- The losses of a run when it makes one more step, and when it ends.
use Rattle.std.proofs.Common.{◌≡◌, ◌≢◌, ℕ, zero, suc, ◌<◌, ap, refl, sym, subst, ◌∙◌, arith, List, [], ◌∷◌, ◌++◌, length, get_or, map, inl, inr, true≢false}
use Rattle.std.specs.Prelude.{◌⊎◌, Bool, true, false, ◌||◌, Option, Some, None, All, Contains}
use Rattle.std.specs.List.{AllPairs}
use Rattle.std.specs.Option.{option_to_list}
use Rattle.std.proofs.lemmas.List.{append-nil}
use Rattle.std.proofs.lemmas.List.Elements.{All-append, All-map, All-push, Contains-append_left, Contains-append_right, Contains-push}
use Rattle.std.proofs.lemmas.List.Kept.{AllPairs-cons}
use Rattle.std.proofs.lemmas.List.Quantifiers.{all_pairs_push}
use Rattle.std.proofs.lemmas.Option.{slice_get_within}
use Rattle.cell_base.specs.declared.steps.Step.{Step}
use Rattle.cell_machine.specs.Run.{Ran}
use Rattle.lost_values.specs.declared.loss.Loss.{Loss}
use Rattle.lost_values.specs.declared.loss.LossKind.{LossKind}
use Rattle.lost_values.specs.declared.loss.LossKind.TheVariants.{Signal, FailedStore, TagStatus}
use Rattle.lost_values.specs.declared.unread.Unread.{Unread}
use Rattle.lost_values.specs.Losses.{AreAllLosses, IsLoss, IsLost, IsNoLater, IsReplaced, is_store, with_step}
use Rattle.lost_values.specs.Touches.{is_signal, is_tag}
use Rattle.lost_values.specs.Keeping.{AreReplaced, AreUnread, IsReplacement, ending_of}
use Rattle.lost_values.proofs.Lists.{contains-map}
use Rattle.lost_values.proofs.Steps.{replaced-back, replaced-inside, replaced-on}
use Rattle.lost_values.proofs.Values.{IsFound}

-- ---- pairs of elements

pairs-tail : {A : Type 0} (R : A → A → Type 0) (x : A) (xs : List A) → AllPairs R (x ∷ xs) → AllPairs R xs
pairs-tail R x xs p = λ i j d less low. p (suc i) (suc j) d (omega (arith, less)) (omega (arith, low))

pairs-head : {A : Type 0} (R : A → A → Type 0) (x : A) (xs : List A) → AllPairs R (x ∷ xs) → All (R x) xs
pairs-head R x xs p = λ k d low. p zero (suc k) d (omega arith) (omega (arith, low))

all-head : {A : Type 0} (P : A → Type 0) (x : A) (xs : List A) → All P (x ∷ xs) → P x
all-head P x xs h = h zero x (omega arith)

all-tail : {A : Type 0} (P : A → Type 0) (x : A) (xs : List A) → All P (x ∷ xs) → All P xs
all-tail P x xs h = λ k d low. h (suc k) d (omega (arith, low))

pairs-append : {A : Type 0} (R : A → A → Type 0) (xs ys : List A) → AllPairs R xs → AllPairs R ys → All (λ x. All (R x) ys) xs → AllPairs R (xs ++ ys)
pairs-append R [] ys p q across = q
pairs-append R (x ∷ xs) ys p q across =
    AllPairs-cons R x (xs ++ ys) (All-append (R x) xs ys (pairs-head R x xs p) (all-head (λ y. All (R y) ys) x xs across))
    (pairs-append R xs ys (pairs-tail R x xs p) q (all-tail (λ y. All (R y) ys) x xs across))

pairs-map : {A B : Type 0} (f : A → B) (R : B → B → Type 0) (xs : List A) → AllPairs (λ v w. R (f v) (f w)) xs → AllPairs R (map f xs)
pairs-map f R [] p = λ i j d less low. absurd (omega (arith, low))
pairs-map f R (x ∷ xs) p =
    AllPairs-cons R (f x) (map f xs) (All-map (R (f x)) f xs (pairs-head (λ v w. R (f v) (f w)) x xs p)) (pairs-map f R xs (pairs-tail (λ v w. R (f v) (f w)) x xs p))

-- ---- one more step

-- the value is replaced by a step before the last one, or by that one and is of a sort that is done
abbrev pub IsDone : ℕ → (LossKind → Bool) → LossKind → Option ℕ → Type 0
IsDone last done x None = ⊥
IsDone last done x (Some j) = (j < last) ⊎ ((j ≡ last) × (done x ≡ true))

-- the losses by earlier steps, and by the last one those of the sorts that are done
pub record AreUpTo (n : Ran) (last : ℕ) (done : LossKind → Bool) (losses : List Loss) : Type 0 where
  pub each : All (λ l. IsReplacement n l l.by × IsDone last done l.kind l.by) losses
  pub all : (x : LossKind) (i j : ℕ) → IsReplaced n x i j → IsDone last done x (Some j) → Contains losses (record { kind = x; lost = i; by = Some j })
  pub once : AllPairs (λ a b. a ≢ b) losses
  pub order : AllPairs (λ a b. IsNoLater a.by b.by) losses

abbrev pub none_done : LossKind → Bool
none_done x = false

abbrev pub with_sort : (LossKind → Bool) → (LossKind → Bool) → LossKind → Bool
with_sort done sort x = done x || sort x

or-left : (a b : Bool) → a ≡ true → (a || b) ≡ true
or-left a b h = ap (λ (c : Bool). c || b) h

or-right : (a b : Bool) → b ≡ true → (a || b) ≡ true
or-right true b h = refl
or-right false b h = h

or-cases : (a b : Bool) → (a || b) ≡ true → (a ≡ true) ⊎ (b ≡ true)
or-cases true b h = inl refl
or-cases false b h = inr h

done-more : (last : ℕ) (done sort : LossKind → Bool) (x : LossKind) (b : Option ℕ) → IsDone last done x b → IsDone last (with_sort done sort) x b
done-more last done sort x None h = h
done-more last done sort x (Some j) (inl low) = inl low
done-more last done sort x (Some j) (inr (end, is)) = inr (end, or-left (done x) (sort x) is)

no-later : (last : ℕ) (done : LossKind → Bool) (x : LossKind) (b : Option ℕ) → IsDone last done x b → IsNoLater b (Some last)
no-later last done x None h = absurd h
no-later last done x (Some j) (inl low) = omega (arith, low)
no-later last done x (Some j) (inr (end, is)) = omega (arith, end)

loss-is : (x y : LossKind) (i j : ℕ) (a b : Option ℕ) → x ≡ y → i ≡ j → a ≡ b → (let v : Loss = record { kind = x; lost = i; by = a } in v) ≡ (let w : Loss = record { kind = y; lost = j; by = b } in w)
loss-is x y i j a b p q r =
    ap (λ (z : LossKind). let v : Loss = record { kind = z; lost = i; by = a } in v) p ∙ ap (λ (k : ℕ). let v : Loss = record { kind = y; lost = k; by = a } in v) q
    ∙ ap (λ (c : Option ℕ). let v : Loss = record { kind = y; lost = j; by = c } in v) r

module _ (m : Ran) (s : Step) where
  abbrev n : Ran
  n = with_step m s

  abbrev last : ℕ
  last = length m.steps

  pub begun : (losses : List Loss) → AreReplaced m losses → AreUpTo n last none_done losses
  begun losses are = record {
    each = λ k d low. (let l = get_or losses k d in on l l.by (are.each k d low));
    all = λ x i j r done. elim done [
      | inl low ↦ are.all x i j (replaced-back m s x i j low r)
      | inr h ↦ absurd (true≢false (sym h.1))
    ];
    once = are.once;
    order = are.order;
  }
    where
      on : (l : Loss) (b : Option ℕ) → IsReplacement m l b → IsReplacement n l b × IsDone last none_done l.kind b
      on l None h = absurd h
      on l (Some j) h = (replaced-on m s l.kind l.lost j h, inl (slice_get_within m.steps j h.by.step h.by.at))

  all-sorts : (x : LossKind) → with_sort (with_sort (with_sort none_done is_signal) is_store) is_tag x ≡ true
  all-sorts (Signal p r) = refl
  all-sorts (FailedStore p) = refl
  all-sorts (TagStatus p) = refl

  pub ended : (losses : List Loss) → AreUpTo n last (with_sort (with_sort (with_sort none_done is_signal) is_store) is_tag) losses → AreReplaced n losses
  ended losses are = record {
    each = λ k d low. (are.each k d low).0;
    all = λ x i j r. elim (replaced-inside m s x i j r) [
      | inl low ↦ are.all x i j r (inl low)
      | inr end ↦ are.all x i j r (inr (end, all-sorts x))
    ];
    once = are.once;
    order = are.order;
  }

module _ (n : Ran) (last : ℕ) (done sort : LossKind → Bool) (losses : List Loss) (apart : (x : LossKind) → sort x ≡ true → done x ≡ false) (are : AreUpTo n last done losses) where
  abbrev more : LossKind → Bool
  more = with_sort done sort

  each-more : All (λ l. IsReplacement n l l.by × IsDone last more l.kind l.by) losses
  each-more k d low = (let l = get_or losses k d in let h = are.each k d low in (h.0, done-more last done sort l.kind l.by h.1))

  none-more : IsFound n last sort None → AreUpTo n last more losses
  none-more none = record {
    each = each-more;
    all = λ x i j r is. elim is [
      | inl low ↦ are.all x i j r (inl low)
      | inr h ↦ elim (or-cases (done x) (sort x) h.1) [
        | inl before ↦ are.all x i j r (inr (h.0, before))
        | inr here ↦ absurd (none x i here (subst (IsReplaced n x i) h.0 r))
      ]
    ];
    once = are.once;
    order = are.order;
  }

  some-more : (l : Loss) → IsFound n last sort (Some l) → AreUpTo n last more (losses ++ l ∷ [])
  some-more l found = record {
    each = All-push (λ a. IsReplacement n a a.by × IsDone last more a.kind a.by) losses l each-more
        (subst (IsReplacement n l) (sym found.1) found.2, subst (IsDone last more l.kind) (sym found.1) (inr (refl, or-right (done l.kind) (sort l.kind) found.0)));
    all = λ x i j r is. elim is [
      | inl low ↦ old x i j (are.all x i j r (inl low))
      | inr h ↦ elim (or-cases (done x) (sort x) h.1) [
        | inl before ↦ old x i j (are.all x i j r (inr (h.0, before)))
        | inr here ↦ (let same = found.3 x i here (subst (IsReplaced n x i) h.0 r) in
            subst (Contains (losses ++ l ∷ [])) (sym (loss-is x l.kind i l.lost (Some j) l.by same.0 same.1 (ap Some h.0 ∙ sym found.1))) (Contains-push losses l))
      ]
    ];
    once = all_pairs_push (λ a b. a ≢ b) losses l are.once (λ k d low same. other (get_or losses k d) (are.each k d low).1 same);
    order = all_pairs_push (λ a b. IsNoLater a.by b.by) losses l are.order
        (λ k d low. (let a = get_or losses k d in subst (IsNoLater a.by) (sym found.1) (no-later last done a.kind a.by (are.each k d low).1)));
  }
    where
      old : (x : LossKind) (i j : ℕ) → Contains losses (record { kind = x; lost = i; by = Some j }) → Contains (losses ++ l ∷ []) (record { kind = x; lost = i; by = Some j })
      old x i j c = Contains-append_left losses (l ∷ []) (record { kind = x; lost = i; by = Some j }) c

      at-last : IsDone last done l.kind (Some last) → ⊥
      at-last (inl low) = omega (arith, low)
      at-last (inr (end, is)) = true≢false (sym is ∙ apart l.kind found.0)

      other : (a : Loss) → IsDone last done a.kind a.by → a ≡ l → ⊥
      other a is same = at-last (subst (IsDone last done l.kind) found.1 (subst (λ (b : Loss). IsDone last done b.kind b.by) same is))

  pub with-loss : (loss : Option Loss) (after : List Loss) → after ≡ losses ++ option_to_list loss → IsFound n last sort loss → AreUpTo n last more after
  with-loss None after is found = subst (AreUpTo n last more) (sym (is ∙ append-nil losses)) (none-more found)
  with-loss (Some l) after is found = subst (AreUpTo n last more) (sym is) (some-more l found)

-- ---- the end of the run

module _ (m : Ran) (losses : List Loss) (are : AreReplaced m losses) (stores : List Unread) (unread : AreUnread m is_store stores) where
  lost : (l : Loss) (b : Option ℕ) → IsReplacement m l b → IsLost m l.kind l.lost b
  lost l None h = absurd h
  lost l (Some j) h = h

  has : (x : LossKind) (i : ℕ) (b : Option ℕ) → IsLost m x i b → Contains (losses ++ map ending_of stores) (record { kind = x; lost = i; by = b })
  has x i (Some j) h = Contains-append_left losses (map ending_of stores) (record { kind = x; lost = i; by = Some j }) (are.all x i j h)
  has x i None h =
      Contains-append_right losses (map ending_of stores) (record { kind = x; lost = i; by = None })
      (contains-map ending_of stores (record { kind = x; place = i }) (unread.all x i h.0 h.1))

  not-ending : (a : Loss) → IsReplacement m a a.by → (v : Unread) → a ≡ ending_of v → ⊥
  not-ending a is v same = subst (λ (b : Loss). IsReplacement m b b.by) same is

  pub all-losses : (after : List Loss) → after ≡ losses ++ map ending_of stores → AreAllLosses m after
  all-losses after is = subst (AreAllLosses m) (sym is)
      (record {
        each = All-append (IsLoss m) losses (map ending_of stores) (λ k d low. (let l = get_or losses k d in lost l l.by (are.each k d low)))
            (All-map (IsLoss m) ending_of stores unread.each);
        all = λ l h. has l.kind l.lost l.by h;
        once = pairs-append (λ a b. a ≢ b) losses (map ending_of stores) are.once
            (pairs-map ending_of (λ a b. a ≢ b) stores (λ i j d less low same. unread.once i j d less low (ap (λ (l : Loss). l.kind) same)))
            (λ k d low. All-map (λ b. get_or losses k d ≢ b) ending_of stores (λ i v in_stores. not-ending (get_or losses k d) (are.each k d low) (get_or stores i v)));
        order = pairs-append (λ a b. IsNoLater a.by b.by) losses (map ending_of stores) are.order
            (pairs-map ending_of (λ a b. IsNoLater a.by b.by) stores (λ i j d less low. tt))
            (λ k d low. All-map (λ b. IsNoLater (get_or losses k d).by b.by) ending_of stores (λ i v in_stores. tt));
      })
