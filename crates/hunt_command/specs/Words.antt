-- The forms of words.
use Rattle.std.specs.Prelude.{ℕ, ◌+◌, ◌-◌, ◌≤◌, ◌<◌, ◌^◌, nat_le, nat_lt, Bool, true, false, ◌&&◌, List, if◌then◌else◌, codes, Option, Some, None, IfSome, unwrap_or, is_none, not}
use Rattle.std.specs.Option.{option_map}
use Rattle.std.specs.List.{list_any}
use Rattle.cell_base.specs.Numbers.{◌>>=◌}
use Rattle.hunt_command.specs.Numbers.{number_within, seconds_within}
use Rattle.hunt_command.specs.Heard.{Word, is_word, texts_of, Said, silent, said_on}
use Rattle.hunt_command.specs.declared.words.Warn.{Warn}
use Rattle.hunt_command.specs.declared.words.Warn.TheVariants.{Off, Print, Error}
use Rattle.hunt_command.specs.declared.words.Form.{Form}
use Rattle.hunt_command.specs.declared.words.Form.TheVariants as form
use Rattle.hunt_command.specs.declared.words.Hunt.{Hunt}

-- a hunt that is asked for
pub record Asked : Type 0 where
  pub machine : Word
  -- the number of the first run, and how many, if given
  pub from : ℕ
  pub runs : Option ℕ
  -- for how many seconds, if given
  pub time : Option ℕ
  pub seed : ℕ
  -- on how many threads, if given
  pub jobs : Option ℕ
  -- the expectation file and the pass file
  pub expect : Option Word
  pub pass : Option Word
  -- what is done with warnings
  pub warn : Warn
  -- the file that ends the hunt once it exists
  pub until : Option Word
  -- the folder of the tools, as commands name it, and whether all findings are printed
  pub tools : Word
  pub all : Bool
  pub json : Bool

-- what the words say
pub data Spoken : Type 0 where
  hunt : Asked → Spoken
  each : Word → ℕ → ℕ → ℕ → Spoken
  record_of : Word → ℕ → ℕ → Spoken
  help : Spoken
  no_form : Spoken

-- ---- limits

abbrev pub most_runs : ℕ
most_runs = 1000000

abbrev pub most_jobs : ℕ
most_jobs = 256

abbrev pub most_time : ℕ
most_time = 1000000

abbrev pub most_run : ℕ
most_run = 2 ^ 32 - 1

abbrev pub most_seed : ℕ
most_seed = 2 ^ 64 - 1

-- ---- the words of options and places

-- given by a place or by an option, and not by both
abbrev pub either : Option Word → Option Word → Option (Option Word)
either None option = Some option
either (Some place) None = Some (Some place)
either (Some place) (Some option) = None

abbrev pub number_or : ℕ → ℕ → Option Word → Option ℕ
number_or default limit None = Some default
number_or default limit (Some word) = number_within limit word

-- a number from 1 to the limit
abbrev pub positive : ℕ → Option ℕ
positive n = if nat_lt 0 n then Some n else None

abbrev pub count_within : ℕ → Word → Option ℕ
count_within limit word = number_within limit word >>= positive

-- how many runs, if given
abbrev pub runs_said : Option Word → Option (Option ℕ)
runs_said None = Some None
runs_said (Some word) = option_map Some (count_within most_runs word)

-- for how many seconds, if given
abbrev pub time_said : Option Word → Option (Option ℕ)
time_said None = Some None
time_said (Some word) = option_map Some (seconds_within most_time word >>= positive)

-- a hunt with a time and no number of runs makes as many as there can be
abbrev pub runs_asked : Option ℕ → Option ℕ → Option ℕ
runs_asked None runs = runs
runs_asked (Some time) None = Some most_runs
runs_asked (Some time) (Some runs) = Some runs

-- how many runs a hunt makes at most, by default 1,000
abbrev pub most_made : Option ℕ → ℕ
most_made runs = unwrap_or runs 1000

-- how many runs `each` prints, by default 200
abbrev pub told_runs : Option ℕ → ℕ
told_runs runs = unwrap_or runs 200

-- the seed, by default 1
abbrev pub seed_said : Option Word → Option ℕ
seed_said word = number_or 1 most_seed word

-- the number of the first of this many runs, by default 0
abbrev pub from_said : Option Word → ℕ → Option ℕ
from_said word runs = number_or 0 most_run word >>= λ from. if nat_le (from + runs) most_run then Some from else None

-- on how many threads, if given
abbrev pub jobs_said : Option Word → Option (Option ℕ)
jobs_said None = Some None
jobs_said (Some word) = option_map Some (count_within most_jobs word)

-- the folder of the tools, by default `tools`
abbrev pub tools_said : Option Word → Word
tools_said None = codes "tools"
tools_said (Some word) = word

-- what is done with warnings: they are not looked for, or printed, or they count as failures
abbrev pub warn_named : Word → Option Warn
warn_named word =
    if is_word word (codes "none") then Some Off
    else if is_word word (codes "print") then Some Print
    else if is_word word (codes "error") then Some Error
    else None

-- by default they are printed
abbrev pub warn_said : Option Word → Option Warn
warn_said None = Some Print
warn_said (Some word) = warn_named word

-- whether they are looked for
abbrev pub is_on : Warn → Bool
is_on Off = false
is_on Print = true
is_on Error = true

-- ---- forms

-- no option of hunts alone names a file or a folder
abbrev pub names_nothing : Said → Bool
names_nothing s = is_none s.expect && is_none s.pass && is_none s.until && is_none s.tools

-- no option of hunts alone is given
abbrev pub is_plain : Said → Bool
is_plain s = names_nothing s && is_none s.time && is_none s.jobs && is_none s.warn && not s.all && not s.json

abbrev pub hunt_said : Said → Word → Option Word → Option Word → Option Spoken
hunt_said s machine runs seed =
    runs_said runs >>= λ said. time_said s.time >>= λ time. seed_said seed >>= λ seed. from_said s.from (most_made (runs_asked time said)) >>= λ from. jobs_said s.jobs >>= λ jobs. warn_said s.warn >>= λ warn.
    Some (hunt (record { machine = machine; from = from; runs = runs_asked time said; time = time; seed = seed; jobs = jobs; expect = s.expect; pass = s.pass; warn = warn; until = s.until; tools = tools_said s.tools; all = s.all; json = s.json }))

abbrev pub each_said : Said → Word → Option Word → Option Word → Option Spoken
each_said s machine runs seed =
    if is_plain s then (runs_said runs >>= λ runs. seed_said seed >>= λ seed. from_said s.from (told_runs runs) >>= λ from. Some (each machine from (told_runs runs) seed))
    else None

abbrev pub record_said : Said → Word → Option Word → Option Word → Option Spoken
record_said s machine run seed =
    if is_plain s && is_none s.runs && is_none s.from then (run >>= λ word. number_within most_run word >>= λ run. seed_said seed >>= λ seed. Some (record_of machine run seed))
    else None

-- `MACHINE`, `MACHINE RUNS [SEED]`, `MACHINE each [RUNS [SEED]]` or `MACHINE record K [SEED]`, in which an option may give a number instead
abbrev pub placed : Said → Word → Option Word → Option Spoken
placed s machine None = hunt_said s machine s.runs s.seed
placed s machine (Some word) =
    if is_word word (codes "record") then (either s.third s.seed >>= λ seed. record_said s machine s.second seed)
    else if is_word word (codes "each") then (either s.second s.runs >>= λ runs. either s.third s.seed >>= λ seed. each_said s machine runs seed)
    else if is_none s.third then (either (Some word) s.runs >>= λ runs. either s.second s.seed >>= λ seed. hunt_said s machine runs seed)
    else None

-- no option awaits a word, and a machine file is named
abbrev pub form_said : Said → Option Spoken
form_said s = if is_none s.awaited then (s.machine >>= λ machine. placed s machine s.first) else None

abbrev pub asks_help : List Word → Bool
asks_help words = list_any (λ word. is_word word (codes "--help")) words

abbrev pub spoken : List Word → Spoken
spoken words = if asks_help words then help else unwrap_or (said_on silent words >>= form_said) no_form

-- ---- what a form that was read says

abbrev pub asked : Hunt → Asked
asked h = record {
  machine = h.machine.now;
  from = h.from;
  runs = h.runs;
  time = h.time;
  seed = h.seed;
  jobs = h.jobs;
  expect = texts_of h.expect;
  pass = texts_of h.pass;
  warn = h.warn;
  until = texts_of h.until;
  tools = h.tools.now;
  all = h.all;
  json = h.json;
}

abbrev pub said : Form → Spoken
said (form.Hunt h) = hunt (asked h)
said (form.Each machine from runs seed) = each machine.now from runs seed
said (form.Record machine run seed) = record_of machine.now run seed
said form.Help = help
said form.NoForm = no_form

-- runs from a number on are numbered within 32 bits, and they are some and not too many
pub record AreRuns (from runs : ℕ) : Type 0 where
  pub some : 0 < runs
  pub few : runs ≤ most_runs
  pub numbered : from + runs ≤ most_run

abbrev pub IsWithin : Form → Type 0
IsWithin (form.Hunt h) = AreRuns h.from (most_made h.runs) × IfSome h.jobs (λ jobs. (0 < jobs) × (jobs ≤ most_jobs))
IsWithin (form.Each machine from runs seed) = AreRuns from runs
IsWithin other = Unit {0}
