use Rattle.std.proofs.Common.{◌≡◌, ℕ, ◌<◌, get_or}
use Rattle.std.specs.Prelude.{false}
use Rattle.lost_values.specs.declared.unread.Unread.{Unread}
use Rattle.lost_values.specs.Touches.{is_same}
use Rattle.lost_values.proofs.unread.place_of.Given as goal

abbrev pub invariant-loop-value : goal.invariant-loop-value
invariant-loop-value l = (k : ℕ) (d : Unread) → k < l.value-index → is_same l.kind (get_or l.values k d).kind ≡ false
