-- What is kept of the values of a run as it is made.
use Rattle.std.specs.Prelude.{◌≡◌, ◌≢◌, ℕ, Bool, true, not, ◌&&◌, if◌then◌else◌, List, [], ◌∷◌, ◌++◌, filter, Option, Some, None, All, Contains, option_map}
use Rattle.std.specs.List.{AllPairs}
use Rattle.cell_machine.specs.Run.{Ran}
use Rattle.lost_values.specs.declared.loss.Loss.{Loss}
use Rattle.lost_values.specs.declared.loss.LossKind.{LossKind}
use Rattle.lost_values.specs.declared.losses.Losses.{Losses}
use Rattle.lost_values.specs.declared.touches.Touch.{Touch}
use Rattle.lost_values.specs.declared.unread.Unread.{Unread}
use Rattle.lost_values.specs.Losses.{IsReplaced, IsUnread, IsNoLater, is_store}
use Rattle.lost_values.specs.Touches.{is_same, is_signal, is_tag}

-- the unread values of one sort
pub record AreUnread (m : Ran) (sort : LossKind → Bool) (values : List Unread) : Type 0 where
  pub each : All (λ v. (sort v.kind ≡ true) × IsUnread m v.kind v.place) values
  pub all : (x : LossKind) (i : ℕ) → sort x ≡ true → IsUnread m x i → Contains values (record { kind = x; place = i })
  pub once : AllPairs (λ v w. v.kind ≢ w.kind) values

-- step j replaces the value
abbrev pub IsReplacement : Ran → Loss → Option ℕ → Type 0
IsReplacement m l None = ⊥
IsReplacement m l (Some j) = IsReplaced m l.kind l.lost j

-- the values that are replaced
pub record AreReplaced (m : Ran) (losses : List Loss) : Type 0 where
  pub each : All (λ l. IsReplacement m l l.by) losses
  pub all : (x : LossKind) (i j : ℕ) → IsReplaced m x i j → Contains losses (record { kind = x; lost = i; by = Some j })
  pub once : AllPairs (λ a b. a ≢ b) losses
  pub order : AllPairs (λ a b. IsNoLater a.by b.by) losses

-- all losses of the run so far are known, and the values that are unread
pub record Knows (m : Ran) (o : Losses) : Type 0 where
  pub signals : AreUnread m is_signal o.signals.items
  pub stores : AreUnread m is_store o.stores.items
  pub tags : AreUnread m is_tag o.tags.items
  pub losses : AreReplaced m o.lost.items

-- ---- one touch

abbrev pub values_after : Touch → ℕ → List Unread → List Unread
values_after t place values =
    filter (λ v. not (is_same t.kind v.kind)) values ++ (if t.counts then record { kind = t.kind; place = place } ∷ [] else [])

-- the loss of the value that was set at this place, if the touch replaces it
abbrev pub IsReplacedBy : Touch → ℕ → Option ℕ → Option Loss → Type 0
IsReplacedBy t place was loss =
    loss ≡ (if t.sets && not t.reads then option_map (λ i. record { kind = t.kind; lost = i; by = Some place }) was else None)

-- it replaces no unread value, or this one
abbrev pub IsLostBy : Touch → ℕ → List Unread → Option Loss → Type 0
IsLostBy t place values None = (i : ℕ) → (t.sets && not t.reads) ≡ true → Contains values (record { kind = t.kind; place = i }) → ⊥
IsLostBy t place values (Some l) =
    ((t.sets && not t.reads) ≡ true) × (l.kind ≡ t.kind) × (l.by ≡ Some place) × Contains values (record { kind = t.kind; place = l.lost })

-- what a touch, if there is one, leaves of the unread values, and the loss if it replaces one
abbrev pub IsTouched : Option Touch → ℕ → List Unread → List Unread → Option Loss → Type 0
IsTouched None place old new loss = (new ≡ old) × (loss ≡ None)
IsTouched (Some t) place old new loss = (new ≡ values_after t place old) × IsLostBy t place old loss

-- the loss of a value that is unread at the end of the run
abbrev pub ending_of : Unread → Loss
ending_of v = record { kind = v.kind; lost = v.place; by = None }
