-- What stands in a span, line by line.
use Rattle.std.proofs.Common.{◌≡◌, ℕ, ◌+◌, ◌*◌, ◌/◌, ◌<◌, ◌≤◌, Bool, true, List, Option, None, ◌⊎◌, inl, inr, refl, sym, subst, arith}
use Rattle.std.specs.Prelude.{IfSome}
use Rattle.std.proofs.lemmas.Bool.{and_parts, leb-true, ltb-true, cases_eq}
use Rattle.cell_machine.specs.declared.effect.Place.{Place}
use Rattle.cell_machine.specs.declared.effect.Span.{Span}
use Rattle.cell_machine.specs.Sound.{covers}
use Rattle.race_check.specs.declared.access.Access.{Access}
use Rattle.race_check.specs.declared.entry.Entry.{Entry}
use Rattle.race_check.specs.declared.shadow.Shadow.{Shadow}
use Rattle.race_check.specs.Entries.{Holds}
use Rattle.race_check.specs.Races.{RaceBy}
use Rattle.race_check.specs.Crowds.{IsLater, IsSafe, UpTo}
use Rattle.race_check.proofs.Latest.{if_then, of_both, still}
use Rattle.race_check.specs.Shows.{AreReal, IsAccess, IsReal, IsSpanOf, Kept, KeepsAll, TakesEntry, TakesSpan}

pub below_end : (s : Span) (p : Place) (x : ℕ) → covers s p x ≡ true → x < s.at + s.len
below_end s p x e = let parts = and_parts _ _ e in let inner = and_parts _ _ parts.1 in ltb-true _ _ inner.1

from_start : (s : Span) (p : Place) (x : ℕ) → covers s p x ≡ true → s.at ≤ x
from_start s p x e = let parts = and_parts _ _ e in let inner = and_parts _ _ parts.1 in leb-true _ _ inner.0

-- a span of no byte
none_covered : (s : Span) (p : Place) (x : ℕ) → s.len ≡ 0 → covers s p x ≡ true → ⊥
none_covered s p x empty e =
    let parts = and_parts _ _ e in
    let inner = and_parts _ _ parts.1 in
    let low : s.at ≤ x = leb-true _ _ inner.0 in
    let high : x < s.at + s.len = ltb-true _ _ inner.1 in
    omega arith

-- an access of the span makes a race of step i with the step
abbrev pub Races : (ℕ → ℕ → Type 0) → Shadow → Span → ℕ → Bool → ℕ → Type 0
Races Before before span step writes i = (steps : List Access) → IsSpanOf steps step span writes → AreReal steps before (step + 1) → RaceBy Before steps i step

-- the bytes of a span in the lines below `line` were taken in
pub record TakesBelow (Before : ℕ → ℕ → Type 0) (before after : Shadow) (span : Span) (step : ℕ) (writes : Bool) (line : ℕ) (latest : Option ℕ) : Type 0 where
  pub keeps : KeepsAll Before before after
  pub own : (p : Place) (x : ℕ) → covers span p x ≡ true → x / 128 < line → Kept Before after step p x writes
  pub real : (steps : List Access) → IsSpanOf steps step span writes → AreReal steps before (step + 1) → AreReal steps after (step + 1)
  pub clear : (i : ℕ) (p : Place) (x : ℕ) (w : Bool) → Kept Before before i p x w → covers span p x ≡ true → x / 128 < line → (w ≡ true) ⊎ (writes ≡ true) → IsSafe Before i step ⊎ UpTo latest i
  pub race : IfSome latest (Races Before before span step writes)

pub none_below : (Before : ℕ → ℕ → Type 0) (shadow : Shadow) (span : Span) (step : ℕ) (writes : Bool) (line : ℕ) → ((p : Place) (x : ℕ) → covers span p x ≡ true → x / 128 < line → ⊥) → TakesBelow Before shadow shadow span step writes line None
none_below Before shadow span step writes line none = record {
  keeps = record { keeps = λ i p x w k. k };
  own = λ p x c low. absurd (none p x c low);
  real = λ steps of real. real;
  clear = λ i p x w k c low one. absurd (none p x c low);
  race = tt;
}

pub all_below : (Before : ℕ → ℕ → Type 0) (before after : Shadow) (span : Span) (step : ℕ) (writes : Bool) (line : ℕ) (latest : Option ℕ) → ((p : Place) (x : ℕ) → covers span p x ≡ true → x / 128 < line) → TakesBelow Before before after span step writes line latest → TakesSpan Before before after span step writes latest
all_below Before before after span step writes line latest all takes = record {
  keeps = takes.keeps;
  own = λ p x c. takes.own p x c (all p x c);
  real = takes.real;
  clear = λ i p x w k c one. takes.clear i p x w k c (all p x c) one;
  race = takes.race;
}

pub takes_none : (Before : ℕ → ℕ → Type 0) (shadow : Shadow) (span : Span) (step : ℕ) (writes : Bool) → span.len ≡ 0 → TakesSpan Before shadow shadow span step writes None
takes_none Before shadow span step writes empty =
    all_below Before shadow shadow span step writes 0 None (λ p x c. absurd (none_covered span p x empty c)) (none_below Before shadow span step writes 0 (λ p x c low. none_covered span p x empty c))

-- the entry has the bytes of the span in the line
module _ (Before : ℕ → ℕ → Type 0) (first before after : Shadow) (span : Span) (step : ℕ) (writes : Bool) (line : ℕ) (entry : Entry) (is_step : entry.step ≡ step)
    (holds : (p : Place) (x : ℕ) → covers span p x ≡ true → x / 128 ≡ line → Holds entry p x) (only : (p : Place) (x : ℕ) → Holds entry p x → covers span p x ≡ true) (old : Option ℕ) (below : TakesBelow Before first before span step writes line old) where
  entry_access : (steps : List Access) → IsSpanOf steps step span writes → IsAccess steps entry writes
  entry_access steps of p x w h flags = subst (λ s. IsReal steps s p x w) (sym is_step) (of p x w (only p x h) flags)

  real_before : (steps : List Access) → IsSpanOf steps step span writes → AreReal steps first (step + 1) → AreReal steps before (entry.step + 1)
  real_before steps of real = subst (λ s. AreReal steps before (s + 1)) (sym is_step) (below.real steps of real)

  found : (i : ℕ) → ((steps : List Access) → IsAccess steps entry writes → AreReal steps before (entry.step + 1) → RaceBy Before steps i entry.step) → Races Before first span step writes i
  found i race steps of real = subst (RaceBy Before steps i) is_step (race steps (entry_access steps of) (real_before steps of real))

  pub takes_more : (here latest : Option ℕ) → IsLater old here latest → TakesEntry Before before after entry writes line here → TakesBelow Before first after span step writes (line + 1) latest
  takes_more here latest later taken = record {
    keeps = record { keeps = λ i p x w k. taken.keeps.keeps i p x w (below.keeps.keeps i p x w k) };
    own = λ p x c low. own p x c low (cases_eq (x / 128) line);
    real = λ steps of real. subst (λ s. AreReal steps after (s + 1)) is_step (taken.real steps (entry_access steps of) (real_before steps of real));
    clear = λ i p x w k c low one. clear i p x w k c low one (cases_eq (x / 128) line);
    race = of_both old here latest (Races Before first span step writes) later below.race (if_then here (λ i. (steps : List Access) → IsAccess steps entry writes → AreReal steps before (entry.step + 1) → RaceBy Before steps i entry.step) (Races Before first span step writes) taken.race found);
  }
    where
      own : (p : Place) (x : ℕ) → covers span p x ≡ true → x / 128 < line + 1 → (x / 128 ≡ line) ⊎ (x / 128 ≡ line → ⊥) → Kept Before after step p x writes
      own p x c low (inl e) = subst (λ s. Kept Before after s p x writes) is_step (taken.own p x (holds p x c e) e)
      own p x c low (inr ne) = taken.keeps.keeps step p x writes (below.own p x c (omega arith))

      clear : (i : ℕ) (p : Place) (x : ℕ) (w : Bool) → Kept Before first i p x w → covers span p x ≡ true → x / 128 < line + 1 → (w ≡ true) ⊎ (writes ≡ true) → (x / 128 ≡ line) ⊎ (x / 128 ≡ line → ⊥) → IsSafe Before i step ⊎ UpTo latest i
      clear i p x w k c low one (inl e) =
          still (IsSafe Before i step) here latest i later.second (subst (λ s. IsSafe Before i s ⊎ UpTo here i) is_step (taken.clear i p x w (below.keeps.keeps i p x w k) (holds p x c e) e one))
      clear i p x w k c low one (inr ne) = still (IsSafe Before i step) old latest i later.first (below.clear i p x w k c (omega arith) one)

-- the bytes of the span are all in one line, and the entry has them
pub takes_one : (Before : ℕ → ℕ → Type 0) (before after : Shadow) (span : Span) (step : ℕ) (writes : Bool) (line : ℕ) (entry : Entry) → entry.step ≡ step → ((p : Place) (x : ℕ) → covers span p x ≡ true → Holds entry p x) → ((p : Place) (x : ℕ) → Holds entry p x → covers span p x ≡ true)
    → line ≡ span.at / 128 → span.at + span.len ≤ 128 * line + 128 → (latest : Option ℕ) → TakesEntry Before before after entry writes line latest → TakesSpan Before before after span step writes latest
takes_one Before before after span step writes line entry is_step holds only first end latest taken =
    all_below Before before after span step writes (line + 1) latest (λ p x c. let high : x < span.at + span.len = below_end span p x c in omega (arith, end))
    (takes_more Before before before after span step writes line entry is_step (λ p x c e. holds p x c) only None
    (none_below Before before span step writes line (λ p x c low. let from : span.at ≤ x = from_start span p x c in omega (arith, first)))
    latest latest record { one = inr refl; first = λ s none. absurd none; second = λ s far. far } taken)
