-- Ranges of bytes that steps touched.
use Rattle.std.specs.Prelude.{◌≡◌, ℕ, ◌<◌, ◌≤◌, ◌↔◌, Option, Some, None}
use Rattle.cell_machine.specs.declared.effect.Place.{Place}
use Rattle.race_check.specs.declared.entry.Entry.{Entry}

-- the byte x of the place is in the entry
pub record Holds (e : Entry) (p : Place) (x : ℕ) : Type 0 where
  pub place : e.place ≡ p
  pub from : e.from ≤ x
  pub to : x < e.to

-- the two have the same bytes
pub record HasSameBytes (e f : Entry) : Type 0 where
  pub place : e.place ≡ f.place
  pub from : e.from ≡ f.from
  pub to : e.to ≡ f.to

-- f has the bytes of e that P holds of
pub record IsCutTo (P : ℕ → Type 0) (e f : Entry) : Type 0 where
  pub step : f.step ≡ e.step
  pub holds : (p : Place) (x : ℕ) → Holds f p x ↔ (Holds e p x × P x)

-- the bytes of e that P holds of, None where there are none
abbrev pub IsCut : (ℕ → Type 0) → Entry → Option Entry → Type 0
IsCut P e None = (p : Place) (x : ℕ) → Holds e p x → P x → ⊥
IsCut P e (Some f) = IsCutTo P e f
