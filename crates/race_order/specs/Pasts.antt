-- What it is that a set of known steps is the past of some places, and which steps have been.
use Rattle.std.specs.Prelude.{◌≡◌, ℕ, ◌+◌, ◌*◌, ◌<◌, Bool, true, length, ◌⊎◌}
use Rattle.order_sets.specs.declared.facts.At.{At}
use Rattle.race_order.specs.Trace.{Trace}
use Rattle.race_order.specs.Rules.{Ordered}
use Rattle.race_order.specs.Stamps.{IsStamp}
use Rattle.race_order.specs.declared.progress.Progress.{Progress}
use Rattle.race_order.specs.Status.{elements_done}
use Rattle.race_order.specs.Queue.{Has}

-- i is one of the sources, or ordered before one
pub record Past (Rule : Trace → ℕ → ℕ → Type 0) (trace : Trace) (S : ℕ → Type 0) (i : ℕ) : Type 0 where
  pub source : ℕ
  pub is : S source
  pub ordered : (i ≡ source) ⊎ Ordered Rule trace i source

-- the set holds exactly the steps that are one of the sources, or ordered before one; what it covers beside them will not come
pub record Holds (Rule : Trace → ℕ → ℕ → Type 0) (n : ℕ) (IsOld : Trace → At → Type 0) (trace : Trace) (s : At → Bool) (S : ℕ → Type 0) : Type 0 where
  pub inside : (k : ℕ) → S k → k < length trace
  pub sound : (i : ℕ) (a : At) → IsStamp n trace i a → s a ≡ true → Past Rule trace S i
  pub full : (i : ℕ) (a : At) → IsStamp n trace i a → Past Rule trace S i → s a ≡ true
  pub old : (a : At) → s a ≡ true → IsOld trace a

-- the step was made, or is of a complete command or of an element that is wholly done, of which none will come
pub data IsPast (n : ℕ) (trace : Trace) (a : At) : Type 0 where
  Made : a.place < length trace → IsPast n trace a
  Over : (p : ℕ) (s : Progress) → p < n → a.chain ≡ 2 * n + p → Has trace p a.cmd s → (s.done ≡ true) ⊎ (a.elem < elements_done s) → IsPast n trace a
