-- What is kept of what the steps of a run touched.
use Rattle.std.specs.Prelude.{◌≡◌, ℕ, ◌+◌, ◌<◌, List, [], ◌∷◌, ◌++◌, length, slice_index}
use Rattle.cell_machine.specs.Run.{Ran}
use Rattle.cell_hunt.specs.declared.touches.Touch.{Touch}
use Rattle.cell_hunt.specs.declared.touched.Touched.{Touched}
use Rattle.cell_hunt.specs.Executed.{executed_in}
use Rattle.cell_hunt.specs.Kinds.{digest, touchable, touched, touchers, touches_in}

-- of what has a number below their count these are the digests of who touched it
abbrev pub AreDigests : List Touch → List ℕ → Type 0
AreDigests all digests = (what : ℕ) → what < length digests → slice_index digests what ≡ digest (touchers what all)

-- what these tell, of which the first has number n
abbrev pub touched_from : ℕ → List ℕ → List ℕ
touched_from n [] = []
touched_from n (who ∷ more) = touched n who ++ touched_from (n + 1) more

-- so many digests are kept, and they are those of the run, as are the executed instructions
pub record HasTouched (m : Ran) (t : Touched) : Type 0 where
  pub long : length t.digests ≡ touchable m.setup.lines
  pub are : AreDigests (touches_in m) t.digests
  pub executed : t.executed.items ≡ executed_in m
