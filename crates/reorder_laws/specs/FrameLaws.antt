-- What the steps of a recorded run leave as it was, and what they add.
use Rattle.reorder_laws.specs.Recorded.{Recorded, IsRecorded}
use Rattle.reorder_laws.specs.Frames.{IsFaultless, HasFrames}

-- so it is of every recorded run in which no processor is at fault
abbrev pub RunsHaveFrames : Type 0
RunsHaveFrames = (r : Recorded) → IsRecorded r → IsFaultless r → HasFrames r
