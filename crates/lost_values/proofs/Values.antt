-- The unread values of one sort when the run makes one more step.
use Rattle.std.proofs.Common.{◌≡◌, ◌≢◌, ℕ, ◌<◌, ap, refl, sym, subst, ◌∙◌, List, [], ◌∷◌, length, get_or, filter, inl, inr, true≢false}
use Rattle.std.specs.Prelude.{◌⊎◌, Bool, true, false, not, ◌&&◌, ◌||◌, if◌then◌else◌, Option, Some, None, All, Contains, IfSome, IfNone, option_map}
use Rattle.std.proofs.lemmas.Bool.{cases_Bool}
use Rattle.std.proofs.lemmas.List.Elements.{All-append, All-contains, All-filter, Contains-append_left, Contains-append_right, filter_passes}
use Rattle.std.proofs.lemmas.List.Kept.{AllPairs-filter}
use Rattle.cell_base.specs.declared.steps.Step.{Step}
use Rattle.cell_machine.specs.declared.effect.Effect.{Effect}
use Rattle.cell_machine.specs.Effects.{effect_in}
use Rattle.cell_machine.specs.Run.{Ran}
use Rattle.lost_values.specs.declared.loss.Loss.{Loss}
use Rattle.lost_values.specs.declared.loss.LossKind.{LossKind}
use Rattle.lost_values.specs.declared.touches.Touch.{Touch}
use Rattle.lost_values.specs.declared.unread.Unread.{Unread}
use Rattle.lost_values.specs.Losses.{IsReplaced, IsUnread, counts, reads, sets, sets_counted, with_step}
use Rattle.lost_values.specs.Touches.{IsTouch, Leaves, is_same}
use Rattle.lost_values.specs.Keeping.{AreUnread, IsLostBy, IsReplacedBy, IsTouched, values_after}
use Rattle.lost_values.proofs.Lists.{all-if, contains-filter, contains-if, pairs-if}
use Rattle.lost_values.proofs.Sames.{and-left, and-right, and-both, same-is, same-refl}
use Rattle.lost_values.proofs.Steps.{replaced-here, replaced-reads, replaced-sets, replaced-unread, unread-back, unread-end, unread-here, unread-inside, unread-leaves, unread-on, unread-one}

not-true : (b : Bool) → not b ≡ true → b ≡ false
not-true true h = absurd (true≢false (sym h))
not-true false h = refl

not-false : (b : Bool) → b ≡ false → not b ≡ true
not-false b h = ap not h

or-none : (a b : Bool) → (a || b) ≡ true → a ≡ false → b ≡ false → ⊥
or-none a b h x y = true≢false (sym h ∙ ap (λ (c : Bool). c || b) x ∙ y)

-- ---- a touch, by what the code returns

pub lost-by : (t : Touch) (place : ℕ) (values : List Unread) (was : Option ℕ) (loss : Option Loss) → IfSome was (λ i. Contains values (record { kind = t.kind; place = i })) → IfNone was ((i : ℕ) → Contains values (record { kind = t.kind; place = i }) → ⊥) → IsReplacedBy t place was loss → IsLostBy t place values loss
lost-by t place values was loss some none is = by (t.sets && not t.reads) refl was some none is
  where
    by : (b : Bool) → (t.sets && not t.reads) ≡ b → (w : Option ℕ) → IfSome w (λ i. Contains values (record { kind = t.kind; place = i })) → IfNone w ((i : ℕ) → Contains values (record { kind = t.kind; place = i }) → ⊥)
        → loss ≡ (if b then option_map (λ i. let l : Loss = record { kind = t.kind; lost = i; by = Some place } in l) w else None) → IsLostBy t place values loss
    by true e (Some i) some none is = subst (IsLostBy t place values) (sym is) (e, refl, refl, some)
    by true e None some none is = subst (IsLostBy t place values) (sym is) (λ i h c. none i c)
    by false e w some none is = subst (IsLostBy t place values) (sym is) (λ i h c. true≢false (sym h ∙ e))

-- ---- one more step

module _ (m : Ran) (s : Step) (e : Effect) (told : effect_in m s ≡ Some e) (sort : LossKind → Bool) where
  abbrev n : Ran
  n = with_step m s

  abbrev last : ℕ
  last = length m.steps

  counted-sets : (x : LossKind) → sets_counted m.setup x s e ≡ true → Leaves s e x → ⊥
  counted-sets x is leaves = true≢false (sym (and-left (sets x s e) (counts m.setup x e) is) ∙ leaves.sets)

  pub values-left : (values : List Unread) → ((x : LossKind) → sort x ≡ true → Leaves s e x) → AreUnread m sort values → AreUnread n sort values
  values-left values leaves are = record {
    each = λ k d low. (let h = are.each k d low in let v = get_or values k d in (h.0, unread-on m s e told v.kind v.place (leaves v.kind h.0) h.1));
    all = λ x i is u. elim (unread-inside m s x i u) [
      | inl low ↦ are.all x i is (unread-back m s x i low u)
      | inr end ↦ absurd (counted-sets x (unread-end m s e told x i end u) (leaves x is))
    ];
    once = are.once;
  }

  module _ (t : Touch) (touch : IsTouch m.setup sort s e (Some t)) (values : List Unread) (are : AreUnread m sort values) where
    -- a value that the step leaves is another one
    another : (x : LossKind) → Leaves s e x → is_same t.kind x ≡ false
    another x leaves = by (cases_Bool (is_same t.kind x))
      where
        by : (is_same t.kind x ≡ true) ⊎ (is_same t.kind x ≡ false) → is_same t.kind x ≡ false
        by (inl is) =
            let leaves_it : Leaves s e t.kind = subst (Leaves s e) (sym (same-is t.kind x is)) leaves in
            absurd (or-none t.sets t.reads touch.4 (touch.1 ∙ leaves_it.sets) (touch.2 ∙ leaves_it.reads))
        by (inr isnt) = isnt

    abbrev test : Unread → Bool
    test v = not (is_same t.kind v.kind)

    abbrev others : List Unread
    others = filter test values

    abbrev here : Unread
    here = record { kind = t.kind; place = last }

    other : (k : ℕ) (d : Unread) → k < length others → is_same t.kind (get_or others k d).kind ≡ false
    other k d low = not-true (is_same t.kind (get_or others k d).kind) (filter_passes test values k d low)

    each : All (λ v. (sort v.kind ≡ true) × IsUnread n v.kind v.place) (values_after t last values)
    each = All-append (λ v. (sort v.kind ≡ true) × IsUnread n v.kind v.place) others (if t.counts then here ∷ [] else [])
        (λ k d low. (let v = get_or others k d in let h = All-filter test (λ v. (sort v.kind ≡ true) × IsUnread m v.kind v.place) values are.each k d low in (h.0, unread-on m s e told v.kind v.place (touch.5 v.kind h.0 (other k d low)) h.1)))
        (all-if (λ v. (sort v.kind ≡ true) × IsUnread n v.kind v.place) t.counts here (λ is. (touch.0, unread-here m s e told t.kind (sym touch.3 ∙ is))))

    all : (x : LossKind) (i : ℕ) → sort x ≡ true → IsUnread n x i → Contains (values_after t last values) (record { kind = x; place = i })
    all x i is u = by (unread-inside m s x i u) (cases_Bool (is_same t.kind x))
      where
        by : (i < last) ⊎ (i ≡ last) → (is_same t.kind x ≡ true) ⊎ (is_same t.kind x ≡ false) → Contains (values_after t last values) (record { kind = x; place = i })
        by (inl low) same =
            let v : Unread = record { kind = x; place = i } in
            let left : Leaves s e x = unread-leaves m s e told x i low u in
            Contains-append_left others (if t.counts then here ∷ [] else []) v (contains-filter test values v (not-false (is_same t.kind x) (another x left)) (are.all x i is (unread-back m s x i low u)))
        by (inr end) (inl same) =
            let v : Unread = record { kind = x; place = i } in
            let kind_is : t.kind ≡ x = same-is t.kind x same in
            let is_counted : t.counts ≡ true = touch.3 ∙ ap (λ (y : LossKind). sets_counted m.setup y s e) kind_is ∙ unread-end m s e told x i end u in
            let here_is : here ≡ v = ap (λ (y : LossKind). let w : Unread = record { kind = y; place = last } in w) kind_is ∙ ap (λ (j : ℕ). let w : Unread = record { kind = x; place = j } in w) (sym end) in
            subst (Contains (values_after t last values)) here_is (Contains-append_right others (if t.counts then here ∷ [] else []) here (contains-if t.counts here is_counted))
        by (inr end) (inr isnt) = absurd (counted-sets x (unread-end m s e told x i end u) (touch.5 x is isnt))

    pub values-touched : AreUnread n sort (values_after t last values)
    values-touched = record {
      each = each;
      all = all;
      once = pairs-if (λ v w. v.kind ≢ w.kind) others t.counts here (AllPairs-filter (λ v w. v.kind ≢ w.kind) test values are.once)
          (λ k d low same. true≢false (sym (ap (is_same t.kind) same ∙ same-refl t.kind) ∙ other k d low));
    }

-- ---- the loss of a sort by the last step

-- there is none, or it is this one alone
abbrev pub IsFound : Ran → ℕ → (LossKind → Bool) → Option Loss → Type 0
IsFound n last sort None = (x : LossKind) (i : ℕ) → sort x ≡ true → IsReplaced n x i last → ⊥
IsFound n last sort (Some l) =
    (sort l.kind ≡ true) × (l.by ≡ Some last) × IsReplaced n l.kind l.lost last
    × ((x : LossKind) (i : ℕ) → sort x ≡ true → IsReplaced n x i last → (x ≡ l.kind) × (i ≡ l.lost))

module _ (m : Ran) (s : Step) (e : Effect) (told : effect_in m s ≡ Some e) (sort : LossKind → Bool) where
  none-found : ((x : LossKind) → sort x ≡ true → Leaves s e x) → IsFound (with_step m s) (length m.steps) sort None
  none-found leaves x i is r = true≢false (sym (replaced-sets m s e told x i r) ∙ (leaves x is).sets)

  -- a value that is replaced is the one that is touched
  touched-one : (t : Touch) → IsTouch m.setup sort s e (Some t) → (x : LossKind) (i : ℕ) → sort x ≡ true → IsReplaced (with_step m s) x i (length m.steps) → t.kind ≡ x
  touched-one t touch x i is r = by (cases_Bool (is_same t.kind x))
    where
      by : (is_same t.kind x ≡ true) ⊎ (is_same t.kind x ≡ false) → t.kind ≡ x
      by (inl same) = same-is t.kind x same
      by (inr isnt) = absurd (true≢false (sym (replaced-sets m s e told x i r) ∙ (touch.5 x is isnt).sets))

  some-found : (t : Touch) (values : List Unread) (loss : Option Loss) → IsTouch m.setup sort s e (Some t) → AreUnread m sort values → IsLostBy t (length m.steps) values loss → IsFound (with_step m s) (length m.steps) sort loss
  some-found t values None touch are none = λ x i is r.
      (let kind_is : t.kind ≡ x = touched-one t touch x i is r in
      let sets_it : t.sets ≡ true = touch.1 ∙ ap (λ (y : LossKind). sets y s e) kind_is ∙ replaced-sets m s e told x i r in
      let reads_not : t.reads ≡ false = touch.2 ∙ ap (λ (y : LossKind). reads y s e) kind_is ∙ replaced-reads m s e told x i r in
      let it : Contains values (record { kind = x; place = i }) = are.all x i is (replaced-unread m s x i r) in
      none i (and-both t.sets (not t.reads) sets_it (ap not reads_not)) (subst (λ (y : LossKind). Contains values (record { kind = y; place = i })) (sym kind_is) it))
  some-found t values (Some l) touch are found =
      let sets_it : sets t.kind s e ≡ true = sym touch.1 ∙ and-left t.sets (not t.reads) found.0 in
      let reads_not : reads t.kind s e ≡ false = sym touch.2 ∙ not-true t.reads (and-right t.sets (not t.reads) found.0) in
      let h = All-contains (λ v. (sort v.kind ≡ true) × IsUnread m v.kind v.place) values (record { kind = t.kind; place = l.lost }) are.each found.3 in
      let u : IsUnread m t.kind l.lost = h.1 in
      let r : IsReplaced (with_step m s) t.kind l.lost (length m.steps) = replaced-here m s e told t.kind l.lost sets_it reads_not u in (
        ap sort found.1 ∙ touch.0,
        found.2,
        subst (λ (y : LossKind). IsReplaced (with_step m s) y l.lost (length m.steps)) (sym found.1) r,
        λ x i is q.
            (let kind_is : t.kind ≡ x = touched-one t touch x i is q in
            let v : IsUnread m t.kind i = subst (λ (y : LossKind). IsUnread m y i) (sym kind_is) (replaced-unread m s x i q) in
            (sym kind_is ∙ sym found.1, unread-one m t.kind i l.lost v u)),
      )

  -- the unread values after the step, and the loss by it
  pub values-kept : (touch : Option Touch) (place : ℕ) (old new : List Unread) (loss : Option Loss) → place ≡ length m.steps → IsTouch m.setup sort s e touch → AreUnread m sort old → IsTouched touch place old new loss → AreUnread (with_step m s) sort new
  values-kept None place old new loss at is are touched = subst (AreUnread (with_step m s) sort) (sym touched.0) (values-left m s e told sort old is are)
  values-kept (Some t) place old new loss at is are touched =
      subst (AreUnread (with_step m s) sort) (sym (touched.0 ∙ ap (λ (k : ℕ). values_after t k old) at)) (values-touched m s e told sort t is old are)

  pub loss-found : (touch : Option Touch) (place : ℕ) (old new : List Unread) (loss : Option Loss) → place ≡ length m.steps → IsTouch m.setup sort s e touch → AreUnread m sort old → IsTouched touch place old new loss → IsFound (with_step m s) (length m.steps) sort loss
  loss-found None place old new loss at is are touched = subst (IsFound (with_step m s) (length m.steps) sort) (sym touched.1) (none-found is)
  loss-found (Some t) place old new loss at is are touched = some-found t old loss is are (subst (λ (k : ℕ). IsLostBy t k old loss) at touched.1)
