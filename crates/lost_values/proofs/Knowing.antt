-- One more step of a run whose losses are known.
use Rattle.std.proofs.Common.{◌≡◌, ℕ, refl, sym, subst, List, ◌++◌, length, true≢false}
use Rattle.std.specs.Prelude.{true, false, Option, Some, None, Bool}
use Rattle.std.specs.Option.{option_to_list}
use Rattle.std.proofs.lemmas.List.{append-nil}
use Rattle.cell_base.specs.declared.steps.Step.{Step}
use Rattle.cell_machine.specs.declared.effect.Effect.{Effect}
use Rattle.cell_machine.specs.Effects.{effect_in}
use Rattle.cell_machine.specs.Opening.{Opening}
use Rattle.cell_machine.specs.Run.{Ran}
use Rattle.lost_values.specs.declared.loss.Loss.{Loss}
use Rattle.lost_values.specs.declared.loss.LossKind.{LossKind}
use Rattle.lost_values.specs.declared.loss.LossKind.TheVariants.{Signal, FailedStore, TagStatus}
use Rattle.lost_values.specs.declared.losses.Losses.{Losses}
use Rattle.lost_values.specs.declared.touches.Touch.{Touch}
use Rattle.lost_values.specs.declared.unread.Unread.{Unread}
use Rattle.lost_values.specs.Losses.{is_store, with_step}
use Rattle.lost_values.specs.Touches.{IsTouch, Leaves, is_signal, is_tag}
use Rattle.lost_values.specs.Keeping.{AreReplaced, AreUnread, IsTouched, Knows}
use Rattle.lost_values.proofs.Replaced.{AreUpTo, begun, ended, none_done, with-loss, with_sort}
use Rattle.lost_values.proofs.Values.{loss-found, values-kept}

no-signal : (x : LossKind) → is_signal x ≡ true → none_done x ≡ false
no-signal x h = refl

no-store : (x : LossKind) → is_store x ≡ true → with_sort none_done is_signal x ≡ false
no-store (Signal p r) h = absurd (true≢false (sym h))
no-store (FailedStore p) h = refl
no-store (TagStatus p) h = refl

no-tag : (x : LossKind) → is_tag x ≡ true → with_sort (with_sort none_done is_signal) is_store x ≡ false
no-tag (Signal p r) h = absurd (true≢false (sym h))
no-tag (FailedStore p) h = absurd (true≢false (sym h))
no-tag (TagStatus p) h = refl

-- the values of one sort after the step, and the loss by it
pub record Sort (m : Ran) (s : Step) (e : Effect) (sort : LossKind → Bool) (old new : List Unread) (loss : Option Loss) : Type 0 where
  pub touch : Option Touch
  pub is : IsTouch m.setup sort s e touch
  pub touched : IsTouched touch (length m.steps) old new loss

module _ (m : Ran) (s : Step) (e : Effect) (told : effect_in m s ≡ Some e) (old : Losses) (knows : Knows m old) where
  pub knows-more : (signals stores tags : List Unread) (a b c : Option Loss) → Sort m s e is_signal old.signals.items signals a → Sort m s e is_store old.stores.items stores b → Sort m s e is_tag old.tags.items tags c → (xs ys zs : List Loss) → xs ≡ old.lost.items ++ option_to_list a → ys ≡ xs ++ option_to_list b
      → zs ≡ ys ++ option_to_list c → (after : Losses) → after.signals.items ≡ signals → after.stores.items ≡ stores → after.tags.items ≡ tags → after.lost.items ≡ zs → Knows (with_step m s) after
  knows-more signals stores tags a b c one two three xs ys zs xs_is ys_is zs_is after signals_are stores_are tags_are lost_are =
      let begin : AreUpTo (with_step m s) (length m.steps) none_done old.lost.items = begun m s old.lost.items knows.losses in
      let first : AreUpTo (with_step m s) (length m.steps) (with_sort none_done is_signal) xs =
      with-loss (with_step m s) (length m.steps) none_done is_signal old.lost.items no-signal begin a xs xs_is
      (loss-found m s e told is_signal one.touch (length m.steps) old.signals.items signals a refl one.is knows.signals one.touched) in
      let second : AreUpTo (with_step m s) (length m.steps) (with_sort (with_sort none_done is_signal) is_store) ys =
      with-loss (with_step m s) (length m.steps) (with_sort none_done is_signal) is_store xs no-store first b ys ys_is
      (loss-found m s e told is_store two.touch (length m.steps) old.stores.items stores b refl two.is knows.stores two.touched) in
      let third : AreUpTo (with_step m s) (length m.steps) (with_sort (with_sort (with_sort none_done is_signal) is_store) is_tag) zs =
      with-loss (with_step m s) (length m.steps) (with_sort (with_sort none_done is_signal) is_store) is_tag ys no-tag second c zs zs_is
      (loss-found m s e told is_tag three.touch (length m.steps) old.tags.items tags c refl three.is knows.tags three.touched) in
      record {
        signals = subst (AreUnread (with_step m s) is_signal) (sym signals_are) (values-kept m s e told is_signal one.touch (length m.steps) old.signals.items signals a refl one.is knows.signals one.touched);
        stores = subst (AreUnread (with_step m s) is_store) (sym stores_are) (values-kept m s e told is_store two.touch (length m.steps) old.stores.items stores b refl two.is knows.stores two.touched);
        tags = subst (AreUnread (with_step m s) is_tag) (sym tags_are) (values-kept m s e told is_tag three.touch (length m.steps) old.tags.items tags c refl three.is knows.tags three.touched);
        losses = subst (AreReplaced (with_step m s)) (sym lost_are) (ended m s zs third);
      }

  -- a step that sets and reads no value
  pub knows-left : ((x : LossKind) → Leaves s e x) → Knows (with_step m s) old
  knows-left leaves =
      knows-more old.signals.items old.stores.items old.tags.items None None None
      (record { touch = None; is = λ x h. leaves x; touched = (refl, refl) })
      (record { touch = None; is = λ x h. leaves x; touched = (refl, refl) })
      (record { touch = None; is = λ x h. leaves x; touched = (refl, refl) })
      old.lost.items old.lost.items old.lost.items (sym (append-nil old.lost.items)) (sym (append-nil old.lost.items)) (sym (append-nil old.lost.items)) old refl refl refl refl

-- a touch at the place of the next step, of a setup and of values that are the run's
pub sort-touched : (m : Ran) (s : Step) (e : Effect) (sort : LossKind → Bool) (S : Opening) (old before new : List Unread) (loss : Option Loss) (touch : Option Touch) (place : ℕ) → S ≡ m.setup → length m.steps ≡ place → before ≡ old → IsTouch S sort s e touch → IsTouched touch place before new loss → Sort m s e sort old new loss
sort-touched m s e sort S old before new loss touch place setup at values is touched = record {
  touch = touch;
  is = subst (λ (T : Opening). IsTouch T sort s e touch) setup is;
  touched = subst (λ (k : ℕ). IsTouched touch k old new loss) (sym at) (subst (λ (vs : List Unread). IsTouched touch place vs new loss) values touched);
}
