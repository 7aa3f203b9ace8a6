-- What is given to a processor, without where its bytes lie in memory.
use Rattle.std.specs.Prelude.{ℕ, ◌<◌, Bool, false, List, [], ◌∷◌, replicate}
use Rattle.spu_asm.specs.Images.{Image, IsImage}
use Rattle.cell_machine.specs.Limits.{IsRegister}
use Rattle.cell_load.specs.Entries.{Entry, Source}
use Rattle.cell_load.specs.declared.loads.Load.{Load as Given}
use Rattle.cell_load.specs.declared.loads.Part.{Part as GivenPart}
use Rattle.cell_load.specs.declared.loads.Part.TheVariants as given
use Rattle.cell_load.specs.Loaded.{Load, Part, Text, Data, Start, ImageEntry, images_after}

abbrev pub part_of : GivenPart → Part
part_of (given.Text at bytes) = Text at bytes.now
part_of (given.Data at bytes) = Data at bytes.now
part_of (given.Start at) = Start at
part_of (given.ImageEntry at) = ImageEntry at

abbrev pub load_of : Given → Load
load_of load = record { spe = load.spe; part = part_of load.part }

-- a signal register of one of so many processors
abbrev pub FitsRegister : ℕ → ℕ × ℕ → Type 0
FitsRegister spes x = (x.0 < spes) × IsRegister x.1

-- n marks, none of them set
unfoldable pub unmarked : ℕ → List Bool
unmarked n = replicate n false

-- the image that a line takes, if it takes one, fits the store
abbrev pub TakesFit : List Image → Entry → Type 0
TakesFit (image ∷ images) (Source name) = IsImage image
TakesFit images other = Unit {0}

-- each image that these lines take fits the store
unfoldable pub AllTakeFit : List Entry → List Image → Type 0
AllTakeFit [] images = Unit {0}
AllTakeFit (entry ∷ entries) images = TakesFit images entry × AllTakeFit entries (images_after images entry)
