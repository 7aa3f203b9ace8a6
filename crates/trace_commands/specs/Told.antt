-- What is told of a run.
use Rattle.std.specs.Prelude.{◌≡◌, ℕ, zero, suc, ◌+◌, ◌-◌, ◌<◌, ◌≤◌, ◌↔◌, Bool, IsTrue, List, [], ◌++◌, take, length, Vec, Some, None, Result, Ok, Err, IsSomeAnd, slice_get}
use Rattle.std.specs.declared.alloc.Global.{Global}
use Rattle.std.specs.Fmt.{decimal}
use Rattle.cell_base.specs.declared.steps.Step.{Step}
use Rattle.cell_base.specs.declared.format.Format.TheVariants.{Two}
use Rattle.cell_base.specs.Records.{line_feed, spelling}
use Rattle.cell_machine.specs.Opening.{Opening}
use Rattle.cell_machine.specs.Run.{Ran, IsRun, state_of, next_of}
use Rattle.run_record.specs.Replayed.{IsRefusedAt}
use Rattle.race_order.specs.OrderedRuns.{OnTrace}
use Rattle.race_order.specs.Rules.{Rule, Ordered}
use Rattle.cell_trace.specs.Effects.{lines_in, refused_in}
use Rattle.cell_trace.specs.Logs.{logs_in}
use Rattle.cell_trace.specs.Allowed.{allowed_of}
use Rattle.cell_trace.specs.Flows.{flows_of}
use Rattle.cell_commands.specs.declared.fault.Fault.TheVariants.{NotARun}
use Rattle.cell_commands.specs.Checks.{TellsEnd}
use Rattle.trace_commands.specs.declared.ranges.Layout.{Layout}
use Rattle.trace_commands.specs.declared.ranges.Layout.TheVariants.{Lines, Bars}
use Rattle.trace_commands.specs.declared.words.Ask.{Ask}
use Rattle.trace_commands.specs.declared.words.Ask.TheVariants.{Effects, Log, States, BeforeEach, Flows, Before}
use Rattle.trace_commands.specs.declared.fault.Fault.{Fault}
use Rattle.trace_commands.specs.declared.fault.Fault.TheVariants.{Input, TooShort, Memory}
use Rattle.trace_commands.specs.Choices.{start, with_choices}
use Rattle.trace_commands.specs.Files.{StepsRefuse, count_of}
use Rattle.trace_commands.specs.Ranges.{ranges}

-- the run of the first steps
abbrev pub first_run : Opening → List Step → ℕ → Ran
first_run setup steps count = record { setup = setup; steps = take count steps }

-- ---- the order

-- the steps are a run from the setup, and of the places before its last one those that happen before that one are marked, and no others
pub record MarksBefore (m : Ran) (marks : List Bool) : Type 0 where
  pub run : IsRun m.setup m.steps
  pub count : length marks + 1 ≡ length m.steps
  pub exact : (i : ℕ) (b : Bool) → slice_get marks i ≡ Some b → OnTrace m (λ trace. IsTrue b ↔ Ordered Rule trace i (length m.steps - 1))

-- the ranges of the places that are ordered before the last step of a run
abbrev pub TellsBefore : Layout → Ran → List ℕ → Type 0
TellsBefore layout m text = (marks : List Bool) × MarksBefore m marks × (text ≡ ranges layout marks)

-- the line of the last step of a run: its place, and those ranges
abbrev pub TellsLine : Ran → List ℕ → Type 0
TellsLine m line = (text : List ℕ) × TellsBefore Bars m text × (line ≡ decimal (length m.steps - 1) ++ text ++ line_feed)

-- such a line for each of the first steps of a run
unfoldable pub TellsLines : Opening → List Step → ℕ → List ℕ → Type 0
TellsLines setup steps zero text = text ≡ []
TellsLines setup steps (suc count) text =
    (before : List ℕ) × (line : List ℕ) × TellsLines setup steps count before × TellsLine (first_run setup steps (suc count)) line × (text ≡ before ++ line)

-- ---- states

-- the states that a run ends in, and what its flow controllers hold then
pub record TellsStanding (m : Ran) (text : List ℕ) : Type 0 where
  pub states : List ℕ
  pub tells : TellsEnd m states
  pub told : IsSomeAnd (state_of m) (λ M. text ≡ states ++ flows_of M)

-- the lines of the further steps that numbers choose, then the states and the contents of the MFCs after these, and then what may come next: the instruction
-- at the PC of each processor, and each step that is allowed there
pub record Goes (numbers : List ℕ) (m : Ran) (text : List ℕ) : Type 0 where
  pub steps : List Step
  pub chosen : with_choices m numbers ≡ record m { steps = m.steps ++ steps }
  pub standing : List ℕ
  pub tells : TellsStanding (record m { steps = m.steps ++ steps }) standing
  pub told : IsSomeAnd (state_of (record m { steps = m.steps ++ steps })) (λ M. text ≡ lines_in m steps ++ standing ++ allowed_of M m.setup.budget)

-- the record of a run
abbrev pub TellsRecord : Ran → List ℕ → Type 0
TellsRecord m text = IsRun m.setup m.steps × (text ≡ spelling Two m.steps)

-- ---- what is asked of the run of a record

-- the text tells of the steps what is asked; those that are looked at are all allowed
abbrev pub Tells : Opening → List Step → Ask → List ℕ → Type 0
Tells setup steps Effects text = (refused_in (start setup) steps ≡ None) × (text ≡ lines_in (start setup) steps)
Tells setup steps Log text = (refused_in (start setup) steps ≡ None) × (text ≡ logs_in (start setup) steps)
Tells setup steps States text = TellsEnd (record { setup = setup; steps = steps }) text
Tells setup steps BeforeEach text = TellsLines setup steps (length steps) text
Tells setup steps (Flows count) text = (count ≤ length steps) × TellsStanding (first_run setup steps count) text
Tells setup steps (Before place) text = (place < length steps) × TellsBefore Lines (first_run setup steps (place + 1)) text

-- ---- parts of the program

-- such a text was added
abbrev pub Adds : (List ℕ → Type 0) → List ℕ → List ℕ → Type 0
Adds P old new = (text : List ℕ) × P text × (new ≡ old ++ text)

-- further steps were made, and what each does was added
abbrev pub AddsChosen : Ran → Ran → List ℕ → List ℕ → Type 0
AddsChosen m n old new = (steps : List Step) × (n ≡ record m { steps = m.steps ++ steps }) × (refused_in m steps ≡ None) × (new ≡ old ++ lines_in m steps)

-- a step isn't allowed behind those of a run, or memory is short
abbrev pub RefusesNext : Ran → Step → Fault → Type 0
RefusesNext m s (Input (NotARun at)) = (at ≡ length m.steps) × IsRun m.setup m.steps × (next_of m s ≡ None)
RefusesNext m s Memory = Unit {0}
RefusesNext m s other = ⊥

-- one of these steps isn't allowed behind those of a run, the first that isn't, or memory is short
abbrev pub RefusesRest : Ran → List Step → Fault → Type 0
RefusesRest m steps (Input (NotARun at)) = IsRefusedAt m.setup (m.steps ++ steps) at
RefusesRest m steps Memory = Unit {0}
RefusesRest m steps other = ⊥

-- there are fewer steps
abbrev pub IsShort : List Step → ℕ → Fault → Type 0
IsShort steps count (TooShort n) = (n ≡ count) × (length steps < count)
IsShort steps count other = ⊥

-- this is told of the run of all these steps
abbrev pub ToldBehind : (Ran → List ℕ → Type 0) → Opening → List Step → Result (Vec ℕ Global) Fault → Type 0
ToldBehind P setup steps (Ok text) = P (record { setup = setup; steps = steps }) text.items
ToldBehind P setup steps (Err fault) = RefusesRest (start setup) steps fault

-- this is told of the run of the first so many
abbrev pub Came : (Ran → List ℕ → Type 0) → Opening → List Step → ℕ → Result (Vec ℕ Global) Fault → Type 0
Came P setup steps count (Ok text) = (count ≤ length steps) × P (first_run setup steps count) text.items
Came P setup steps count (Err fault) = StepsRefuse setup steps (Some count) fault

-- what is asked is told
abbrev pub Told : Opening → List Step → Ask → Result (Vec ℕ Global) Fault → Type 0
Told setup steps ask (Ok text) = Tells setup steps ask text.items
Told setup steps ask (Err fault) = StepsRefuse setup steps (count_of ask) fault
