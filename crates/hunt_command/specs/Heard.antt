-- The words of the command line, one after the other: options with their values, and words that have a meaning by their place.
use Rattle.std.specs.Prelude.{ℕ, Bool, true, false, ◌==◌, List, [], ◌∷◌, nat_eq, if◌then◌else◌, codes, Option, Some, None}
use Rattle.std.specs.Borrow.{Bor}
use Rattle.std.specs.Option.{option_map}
use Rattle.std.specs.Cmp.Lexicographic.{pointwise}
use Rattle.cell_base.specs.Numbers.{◌>>=◌}
use Rattle.hunt_command.specs.declared.heard.Key.{Key}
use Rattle.hunt_command.specs.declared.heard.Key.TheVariants.{Runs, Time, Seed, From, Jobs, Expect, Pass, Warn, Until, Tools}
use Rattle.hunt_command.specs.declared.heard.Heard.{Heard}

abbrev pub Word : Type 0
Word = List ℕ

abbrev pub is_word : Word → Word → Bool
is_word text word = pointwise nat_eq text word

abbrev pub has_dash : Word → Bool
has_dash [] = false
has_dash (b ∷ bs) = b == 45

-- the words so far
pub record Said : Type 0 where
  -- by places: the machine file, and up to three words after it
  pub machine : Option Word
  pub first : Option Word
  pub second : Option Word
  pub third : Option Word
  -- by options
  pub runs : Option Word
  pub time : Option Word
  pub seed : Option Word
  pub from : Option Word
  pub jobs : Option Word
  pub expect : Option Word
  pub pass : Option Word
  pub warn : Option Word
  pub until : Option Word
  pub tools : Option Word
  pub all : Bool
  pub json : Bool
  -- the option of which the word comes next
  pub awaited : Option Key

abbrev pub silent : Said
silent = record {
  machine = None;
  first = None;
  second = None;
  third = None;
  runs = None;
  time = None;
  seed = None;
  from = None;
  jobs = None;
  expect = None;
  pass = None;
  warn = None;
  until = None;
  tools = None;
  all = false;
  json = false;
  awaited = None;
}

-- each may be given once
abbrev pub once : Option Word → Word → Option (Option Word)
once None word = Some (Some word)
once (Some said) word = None

-- the value of an option
abbrev pub with_value : Said → Key → Word → Option Said
with_value s Runs word = option_map (λ w. record s { runs = w; awaited = None }) (once s.runs word)
with_value s Time word = option_map (λ w. record s { time = w; awaited = None }) (once s.time word)
with_value s Seed word = option_map (λ w. record s { seed = w; awaited = None }) (once s.seed word)
with_value s From word = option_map (λ w. record s { from = w; awaited = None }) (once s.from word)
with_value s Jobs word = option_map (λ w. record s { jobs = w; awaited = None }) (once s.jobs word)
with_value s Expect word = option_map (λ w. record s { expect = w; awaited = None }) (once s.expect word)
with_value s Pass word = option_map (λ w. record s { pass = w; awaited = None }) (once s.pass word)
with_value s Warn word = option_map (λ w. record s { warn = w; awaited = None }) (once s.warn word)
with_value s Until word = option_map (λ w. record s { until = w; awaited = None }) (once s.until word)
with_value s Tools word = option_map (λ w. record s { tools = w; awaited = None }) (once s.tools word)

-- the options that have a word after them
abbrev pub key_of : Word → Option Key
key_of word =
    if is_word word (codes "--runs") then Some Runs
    else if is_word word (codes "--time") then Some Time
    else if is_word word (codes "--seed") then Some Seed
    else if is_word word (codes "--from") then Some From
    else if is_word word (codes "--jobs") then Some Jobs
    else if is_word word (codes "--expect") then Some Expect
    else if is_word word (codes "--pass") then Some Pass
    else if is_word word (codes "--warn") then Some Warn
    else if is_word word (codes "--until") then Some Until
    else if is_word word (codes "--tools") then Some Tools
    else None

-- the next place
abbrev pub with_place : Said → Option Word → Option Word → Option Word → Option Word → Word → Option Said
with_place s None first second third word = Some (record s { machine = Some word })
with_place s (Some m) None second third word = Some (record s { first = Some word })
with_place s (Some m) (Some a) None third word = Some (record s { second = Some word })
with_place s (Some m) (Some a) (Some b) None word = Some (record s { third = Some word })
with_place s (Some m) (Some a) (Some b) (Some c) word = None

abbrev pub with_json : Said → Bool → Option Said
with_json s true = None
with_json s false = Some (record s { json = true })

abbrev pub with_all : Said → Bool → Option Said
with_all s true = None
with_all s false = Some (record s { all = true })

-- an option without a word after it, or a place: no other word has a dash in front
abbrev pub with_plain : Said → Word → Option Said
with_plain s word =
    if is_word word (codes "--json") then with_json s s.json
    else if is_word word (codes "--all") then with_all s s.all
    else if has_dash word then None
    else with_place s s.machine s.first s.second s.third word

abbrev pub with_named : Said → Option Key → Word → Option Said
with_named s None word = with_plain s word
with_named s (Some key) word = Some (record s { awaited = Some key })

-- the next word: the value of an option that awaits one, or another word
abbrev pub with_awaited : Said → Option Key → Word → Option Said
with_awaited s None word = with_named s (key_of word) word
with_awaited s (Some key) word = with_value s key word

abbrev pub with_word : Said → Word → Option Said
with_word s word = with_awaited s s.awaited word

-- the words, one after the other
unfoldable pub said_on : Said → List Word → Option Said
said_on s [] = Some s
said_on s (word ∷ words) = with_word s word >>= λ t. said_on t words

-- the text of a reference
abbrev pub texts_of : Option (Bor Word) → Option Word
texts_of None = None
texts_of (Some r) = Some r.now

-- the words of the code's record
abbrev pub heard : Heard → Said
heard h = record {
  machine = texts_of h.machine;
  first = texts_of h.first;
  second = texts_of h.second;
  third = texts_of h.third;
  runs = texts_of h.runs;
  time = texts_of h.time;
  seed = texts_of h.seed;
  from = texts_of h.from;
  jobs = texts_of h.jobs;
  expect = texts_of h.expect;
  pass = texts_of h.pass;
  warn = texts_of h.warn;
  until = texts_of h.until;
  tools = texts_of h.tools;
  all = h.all;
  json = h.json;
  awaited = h.awaited;
}
