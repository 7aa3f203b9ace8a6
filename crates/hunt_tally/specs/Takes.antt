-- What becomes of the entries when one more telling of a run is taken in.
use Rattle.std.specs.Prelude.{ℕ, ◌+◌, ◌==◌, List, [], ◌∷◌, if◌then◌else◌}
use Rattle.std.specs.Str.{bytes_eq}
use Rattle.hunt_tally.specs.Tallies.{Tells, Entry}

-- a telling that is the first of its key
abbrev pub fresh : ℕ → Tells → Entry
fresh run t = record { told = record { key = t.key; shown = t.shown; runs = 1; first = run }; last = run }

-- one more run tells it, if this one wasn't counted yet
abbrev pub counted : ℕ → Entry → Entry
counted run e = if e.last == run then e else record { told = record e.told { runs = e.told.runs + 1 }; last = run }

-- the entry of the key is changed, or a new one comes behind the others
abbrev pub put : List ℕ → (Entry → Entry) → Entry → List Entry → List Entry
put key change new [] = new ∷ []
put key change new (e ∷ es) = if bytes_eq key e.told.key then change e ∷ es else e ∷ put key change new es

abbrev pub took : ℕ → List Entry → Tells → List Entry
took run es t = put t.key (counted run) (fresh run t) es
