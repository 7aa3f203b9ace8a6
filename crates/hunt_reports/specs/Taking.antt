-- What becomes of the races or the warnings of a run when one more is taken in.
use Rattle.std.specs.Prelude.{Bool, List, [], ◌∷◌, ◌++◌, if◌then◌else◌}
use Rattle.hunt_tally.specs.Tallies.{Tells, has}

-- it is added unless it is passed or known
abbrev pub with_race : Bool → Bool → Tells → List Tells → List Tells
with_race passed known t ts = if passed then ts else if known then ts else ts ++ t ∷ []

-- it is added unless one with its key is there
abbrev pub with_telling : Tells → List Tells → List Tells
with_telling t ts = if has t.key ts then ts else ts ++ t ∷ []
