-- What becomes of the entries when those of the runs behind them are taken in.
use Rattle.std.specs.Prelude.{◌≡◌, ℕ, ◌+◌, ◌≤◌, false, Bool, List, [], ◌∷◌, ◌++◌, if◌then◌else◌}
use Rattle.std.specs.List.{list_any}
use Rattle.std.specs.Str.{bytes_eq}
use Rattle.hunt_tally.specs.Tallies.{Tells, Entry, Tallied, tallied}
use Rattle.hunt_tally.specs.Takes.{put}

-- the entry of runs before which so many others were made
abbrev pub shifted : ℕ → Entry → Entry
shifted before e = record { told = record e.told { first = before + e.told.first }; last = before + e.last }

-- the same, where those tell its key, too
abbrev pub merged : ℕ → Entry → Entry → Entry
merged before e here = record { told = record here.told { runs = here.told.runs + e.told.runs }; last = before + e.last }

abbrev pub with_entry : ℕ → List Entry → Entry → List Entry
with_entry before es e = put e.told.key (merged before e) (shifted before e) es

abbrev pub joined : ℕ → List Entry → List Entry → List Entry
joined before es [] = es
joined before es (e ∷ behind) = joined before (with_entry before es e) behind

-- what the first entry with the key has
abbrev pub first_with : {X : Type 0} → (Entry → X) → X → List ℕ → List Entry → X
first_with value none key [] = none
first_with value none key (e ∷ es) = if bytes_eq key e.told.key then value e else first_with value none key es

-- how many runs tell the key
abbrev pub runs_telling : List ℕ → List Entry → ℕ
runs_telling key es = first_with (λ (e : Entry). e.told.runs) 0 key es

abbrev pub is_named : List ℕ → List Entry → Bool
is_named key es = list_any (λ (e : Entry). bytes_eq key e.told.key) es

-- no number grows past those of all runs: of the keys behind, each once, no more runs tell one than there are
unfoldable pub Fits : ℕ → ℕ → List Entry → List Entry → Type 0
Fits before runs es [] = Unit {0}
Fits before runs es (e ∷ behind) = (runs_telling e.told.key es ≤ before) × (e.told.runs ≤ runs) × (e.told.first ≤ runs) × (e.last ≤ runs) × (is_named e.told.key behind ≡ false) × Fits before runs es behind

-- what runs tell, and what those behind them tell, is what all of them tell
abbrev pub Joined : Tallied → Tallied → Tallied → Type 0
Joined old other new = (runs behind : List (List Tells)) → old ≡ tallied runs → other ≡ tallied behind → new ≡ tallied (runs ++ behind)
