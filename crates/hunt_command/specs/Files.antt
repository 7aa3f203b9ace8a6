-- What the files that the words name stand for, or the first refusal.
use Rattle.std.specs.Prelude.{◌≡◌, ℕ, Bool, List, [], map, Vec, Option, Some, None, Result, Ok, Err}
use Rattle.std.specs.declared.alloc.Global.{Global}
use Rattle.cell_io.specs.Files.{File}
use Rattle.cell_io.specs.Store.{Ledger, FailedAt}
use Rattle.cell_machine.specs.Opening.{Opening}
use Rattle.cell_commands.specs.declared.fault.Fault.{Fault as InputFault}
use Rattle.cell_commands.specs.declared.fault.Fault.TheVariants.{ReadFault as InputReadFault, Memory as InputMemory}
use Rattle.cell_commands.specs.Task.{run_of}
use Rattle.cell_commands.specs.Course.{too_long, whole, given, Settles}
use Rattle.cell_commands.specs.Forms.{text_limit, run_task}
use Rattle.cell_commands.specs.Answer.{RefusesIn, AtMachine}
use Rattle.cell_hunt.specs.declared.site.Sites.{Sites}
use Rattle.hunt_reports.specs.Lists.{bytes_in}
use Rattle.hunt_reports.specs.declared.origins.Places.{Places}
use Rattle.hunt_reports.specs.Places.{key_of}
use Rattle.hunt_command.specs.declared.fault.Fault.{Fault}
use Rattle.hunt_command.specs.declared.fault.FileId.{FileId}
use Rattle.hunt_command.specs.declared.input.Target.{Target}
use Rattle.hunt_command.specs.declared.fault.Fault.TheVariants.{Usage, Machine, ReadFault, TooLong, Pass as BadPass, WriteFault, Memory}
use Rattle.hunt_command.specs.declared.fault.FileId.TheVariants.{Expect, Pass}
use Rattle.hunt_command.specs.Heard.{Word}
use Rattle.hunt_command.specs.Expected.{expected_in}
use Rattle.hunt_command.specs.Passes.{passes_at}
use Rattle.hunt_command.specs.Sources.{HasPlaces}

-- ---- files

-- what a refusal of the machine file or of a source is called
abbrev pub told_as : InputFault → Fault
told_as InputMemory = Memory
told_as fault = Machine fault

-- the machine file and its sources stand for this setup
abbrev pub StandsFor : List File → Word → Opening → Type 0
StandsFor files machine setup = Settles files (run_task machine) (Ok (run_of setup))

-- the expectation file has these lines
abbrev pub ExpectsIn : List File → Word → List (List ℕ) → Type 0
ExpectsIn files name lines = (text : List ℕ) × (given files name text_limit ≡ whole text) × (lines ≡ expected_in text)

-- where there is one
abbrev pub Expects : List File → Option Word → List (List ℕ) → Type 0
Expects files None lines = lines ≡ []
Expects files (Some name) lines = ExpectsIn files name lines

-- the pass file has races with these keys
abbrev pub PassesIn : List File → Word → Opening → Places → List (List ℕ) → Type 0
PassesIn files name setup places keys =
    (text : List ℕ) × (given files name text_limit ≡ whole text) × ((races : List Sites) × (passes_at setup places text ≡ Ok races) × (keys ≡ map (key_of places) races))

-- where there is one
abbrev pub Passes : List File → Option Word → Opening → Places → List (List ℕ) → Type 0
Passes files None setup places keys = keys ≡ []
Passes files (Some name) setup places keys = PassesIn files name setup places keys

-- the files stand for this machine, and ask this of each run
pub record IsTarget (files : List File) (machine : Word) (expect pass : Option Word) (warns : Bool) (q : Target) : Type 0 where
  pub setup : StandsFor files machine q.setup
  pub places : HasPlaces files machine q.asked.places
  pub expected : Expects files expect (bytes_in q.asked.expected.items)
  pub passed : Passes files pass q.setup q.asked.places (bytes_in q.asked.passed.items)
  pub warning : q.asked.warns ≡ warns

-- ---- refusals

-- the option names a file, and this holds of its name
abbrev pub ForSomeName : Option Word → (Word → Type 0) → Type 0
ForSomeName None P = ⊥
ForSomeName (Some name) P = P name

-- the file of this option
abbrev pub name_by : FileId → Option Word → Option Word → Option Word
name_by Expect expect pass = expect
name_by Pass expect pass = pass

-- the reading of this file failed, whatever the store tells
abbrev pub FileFails : FileId → Word → Ledger → Ledger → Fault → Type 0
FileFails file name old new (ReadFault f) = (f ≡ file) × FailedAt name old new
FileFails file name old new (Machine fault) = ⊥
FileFails file name old new other = Unit {0}

-- a reading of the machine file or of a source failed
abbrev pub FailsAt : Word → Ledger → Ledger → Fault → Type 0
FailsAt name old new (Machine (InputReadFault file)) = AtMachine name file old new
FailsAt name old new (ReadFault file) = ⊥
FailsAt name old new other = Unit {0}

-- this file was read whole, or it isn't there or too long
abbrev pub FileComes : List File → FileId → Word → Result (Vec ℕ Global) Fault → Type 0
FileComes files file name (Ok bytes) = given files name text_limit ≡ whole bytes.items
FileComes files file name (Err (ReadFault f)) = Unit {0}
FileComes files file name (Err (TooLong f)) = (f ≡ file) × (given files name text_limit ≡ too_long)
FileComes files file name (Err Memory) = Unit {0}
FileComes files file name (Err other) = ⊥

abbrev pub ExpectComes : List File → Word → Result (Vec (Vec ℕ Global) Global) Fault → Type 0
ExpectComes files name (Ok lines) = ExpectsIn files name (bytes_in lines.items)
ExpectComes files name (Err (ReadFault f)) = Unit {0}
ExpectComes files name (Err (TooLong f)) = (f ≡ Expect) × (given files name text_limit ≡ too_long)
ExpectComes files name (Err Memory) = Unit {0}
ExpectComes files name (Err other) = ⊥

-- this line of the pass file is the first that names no race of two places of the machine
abbrev pub IsBadLine : List File → Word → Opening → Places → ℕ → Type 0
IsBadLine files name setup places line = (text : List ℕ) × (given files name text_limit ≡ whole text) × (passes_at setup places text ≡ Err (line, tt))

abbrev pub PassComes : List File → Word → Opening → Places → Result (Vec (Vec ℕ Global) Global) Fault → Type 0
PassComes files name setup places (Ok keys) = PassesIn files name setup places (bytes_in keys.items)
PassComes files name setup places (Err (ReadFault f)) = Unit {0}
PassComes files name setup places (Err (TooLong f)) = (f ≡ Pass) × (given files name text_limit ≡ too_long)
PassComes files name setup places (Err (BadPass line)) = IsBadLine files name setup places line
PassComes files name setup places (Err Memory) = Unit {0}
PassComes files name setup places (Err other) = ⊥

abbrev pub MachineRefuses : List File → Word → Ledger → Ledger → Fault → Type 0
MachineRefuses files machine old new (Machine fault) = RefusesIn files (run_task machine) old new fault
MachineRefuses files machine old new Memory = Unit {0}
MachineRefuses files machine old new other = ⊥

abbrev pub MachineComes : List File → Word → Ledger → Ledger → Result (Opening × Places) Fault → Type 0
MachineComes files machine old new (Ok m) = StandsFor files machine m.0 × HasPlaces files machine m.1
MachineComes files machine old new (Err fault) = MachineRefuses files machine old new fault

-- the files that are read before the one of this option can be read: the machine file with its sources, and before the pass file the expectation file
abbrev pub ReadsBefore : List File → Word → Option Word → FileId → Type 0
ReadsBefore files machine expect Expect = (setup : Opening) × StandsFor files machine setup
ReadsBefore files machine expect Pass = ((setup : Opening) × StandsFor files machine setup) × ((lines : List (List ℕ)) × Expects files expect lines)

-- why the files that the words name are refused
abbrev pub RefusesFiles : List File → Word → Option Word → Option Word → Ledger → Ledger → Fault → Type 0
RefusesFiles files machine expect pass old new (Machine fault) = RefusesIn files (run_task machine) old new fault
RefusesFiles files machine expect pass old new (ReadFault file) = ReadsBefore files machine expect file × ForSomeName (name_by file expect pass) (λ name. FailedAt name old new)
RefusesFiles files machine expect pass old new (TooLong file) = ReadsBefore files machine expect file × ForSomeName (name_by file expect pass) (λ name. given files name text_limit ≡ too_long)
RefusesFiles files machine expect pass old new (BadPass line) =
    ReadsBefore files machine expect Pass × ForSomeName pass (λ name. (setup : Opening) × (places : Places) × StandsFor files machine setup × HasPlaces files machine places × IsBadLine files name setup places line)
RefusesFiles files machine expect pass old new Memory = Unit {0}
RefusesFiles files machine expect pass old new other = ⊥

-- the files stand for what is hunted, or they are refused
abbrev pub Comes : List File → Word → Option Word → Option Word → Bool → Ledger → Ledger → Result Target Fault → Type 0
Comes files machine expect pass warns old new (Ok q) = IsTarget files machine expect pass warns q
Comes files machine expect pass warns old new (Err fault) = RefusesFiles files machine expect pass old new fault

-- whatever the store tells: a reading is said to fail only where it did, under the name of that file
abbrev pub FailsBy : Word → Option Word → Option Word → Ledger → Ledger → Fault → Type 0
FailsBy machine expect pass old new (Machine (InputReadFault file)) = AtMachine machine file old new
FailsBy machine expect pass old new (ReadFault file) = ForSomeName (name_by file expect pass) (λ name. FailedAt name old new)
FailsBy machine expect pass old new other = Unit {0}

abbrev pub FileFailsBy : FileId → Option Word → Ledger → Ledger → Fault → Type 0
FileFailsBy file None old new fault = ⊥
FileFailsBy file (Some name) old new fault = FileFails file name old new fault

abbrev pub ExpectedComes : List File → Option Word → Result (Vec (Vec ℕ Global) Global) Fault → Type 0
ExpectedComes files None (Ok lines) = bytes_in lines.items ≡ []
ExpectedComes files None (Err fault) = ⊥
ExpectedComes files (Some name) result = ExpectComes files name result

abbrev pub PassedComes : List File → Option Word → Opening → Places → Result (Vec (Vec ℕ Global) Global) Fault → Type 0
PassedComes files None setup places (Ok keys) = bytes_in keys.items ≡ []
PassedComes files None setup places (Err fault) = ⊥
PassedComes files (Some name) setup places result = PassComes files name setup places result

-- it is about files, or out of memory
abbrev pub IsOfFiles : Fault → Type 0
IsOfFiles Usage = ⊥
IsOfFiles WriteFault = ⊥
IsOfFiles fault = Unit {0}
