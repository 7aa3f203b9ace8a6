-- A step that sets or reads a value.
use Rattle.std.specs.Prelude.{◌≡◌, Bool, true, false, ◌&&◌, ◌||◌, ◌==◌, Option, Some, None}
use Rattle.cell_base.specs.declared.steps.Step.{Step}
use Rattle.cell_machine.specs.declared.effect.Effect.{Effect}
use Rattle.cell_machine.specs.Opening.{Opening}
use Rattle.lost_values.specs.declared.loss.LossKind.{LossKind}
use Rattle.lost_values.specs.declared.loss.LossKind.TheVariants.{Signal, FailedStore, TagStatus}
use Rattle.lost_values.specs.declared.touches.Touch.{Touch}
use Rattle.lost_values.specs.Losses.{sets, reads, sets_counted}

abbrev pub is_signal : LossKind → Bool
is_signal (Signal p r) = true
is_signal _ = false

abbrev pub is_tag : LossKind → Bool
is_tag (TagStatus p) = true
is_tag _ = false

abbrev pub is_same : LossKind → LossKind → Bool
is_same (Signal p r) (Signal q s) = p == q && r == s
is_same (FailedStore p) (FailedStore q) = p == q
is_same (TagStatus p) (TagStatus q) = p == q
is_same _ _ = false

-- the step neither sets nor reads the value
pub record Leaves (s : Step) (e : Effect) (x : LossKind) : Type 0 where
  pub sets : sets x s e ≡ false
  pub reads : reads x s e ≡ false

-- the values of one sort that the step sets or reads: none, or this one alone
abbrev pub IsTouch : Opening → (LossKind → Bool) → Step → Effect → Option Touch → Type 0
IsTouch S sort s e None = (x : LossKind) → sort x ≡ true → Leaves s e x
IsTouch S sort s e (Some t) =
    (sort t.kind ≡ true) × (t.sets ≡ sets t.kind s e) × (t.reads ≡ reads t.kind s e) × (t.counts ≡ sets_counted S t.kind s e) × ((t.sets || t.reads) ≡ true)
    × ((x : LossKind) → sort x ≡ true → is_same t.kind x ≡ false → Leaves s e x)
