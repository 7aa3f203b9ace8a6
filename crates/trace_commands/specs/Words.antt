-- The forms of words.
use Rattle.std.specs.Prelude.{ℕ, List, [], ◌∷◌, Option, Some, None, if◌then◌else◌, codes}
use Rattle.cell_base.specs.Numbers.{decimal_number}
use Rattle.cell_commands.specs.Words.{is_word}
use Rattle.trace_commands.specs.declared.words.Ask.{Ask}
use Rattle.trace_commands.specs.declared.words.Ask.TheVariants.{Effects, Log, States, BeforeEach, Flows, Before}
use Rattle.trace_commands.specs.declared.words.Form.{Form}
use Rattle.trace_commands.specs.declared.words.Form.TheVariants as form

abbrev pub Word : Type 0
Word = List ℕ

-- what the words say
pub data Spoken : Type 0 where
  alone : Word → Spoken
  choose : Word → Word → Spoken
  asked : Word → Word → Ask → Spoken
  go : Word → Word → ℕ → Word → Spoken
  lined : Word → Spoken
  planned : Word → Spoken
  no_form : Spoken

-- what is asked of the run of a record by a word alone
abbrev pub asked_by : Word → Option Ask
asked_by word =
    if is_word word (codes "effects") then Some Effects
    else if is_word word (codes "log") then Some Log
    else if is_word word (codes "states") then Some States
    else if is_word word (codes "before") then Some BeforeEach
    else None

abbrev pub asked_said : Word → Word → Option Ask → Spoken
asked_said machine record_file None = no_form
asked_said machine record_file (Some ask) = asked machine record_file ask

-- `before`, `states` and `go` with a word that is to be a number
abbrev pub before_said : Word → Word → Option ℕ → Spoken
before_said machine record_file None = no_form
before_said machine record_file (Some place) = asked machine record_file (Before place)

abbrev pub states_said : Word → Word → Option ℕ → Spoken
states_said machine record_file None = no_form
states_said machine record_file (Some steps) = asked machine record_file (Flows steps)

abbrev pub go_said : Word → Word → Option ℕ → Word → Spoken
go_said machine record_file None choices = no_form
go_said machine record_file (Some steps) choices = go machine record_file steps choices

-- a word with one file
abbrev pub one_said : Word → Word → Spoken
one_said word file =
    if is_word word (codes "alone") then alone file
    else if is_word word (codes "lines") then lined file
    else if is_word word (codes "plan") then planned file
    else no_form

-- a word with the machine file and another file
abbrev pub file_said : Word → Word → Word → Spoken
file_said word machine file =
    if is_word word (codes "choose") then choose machine file else asked_said machine file (asked_by word)

abbrev pub spoken : List Word → Spoken
spoken [] = no_form
spoken (word ∷ []) = no_form
spoken (word ∷ a ∷ []) = one_said word a
spoken (word ∷ a ∷ b ∷ []) = file_said word a b
spoken (word ∷ a ∷ b ∷ c ∷ []) =
    if is_word word (codes "before") then before_said a b (decimal_number c)
    else if is_word word (codes "states") then states_said a b (decimal_number c)
    else no_form
spoken (word ∷ a ∷ b ∷ c ∷ d ∷ []) =
    if is_word word (codes "go") then go_said a b (decimal_number c) d
    else no_form
spoken (word ∷ a ∷ b ∷ c ∷ d ∷ e ∷ more) = no_form

-- what a form that was read says
abbrev pub said : Form → Spoken
said (form.Alone machine) = alone machine.now
said (form.Choose machine choices) = choose machine.now choices.now
said (form.Ask machine record_file ask) = asked machine.now record_file.now ask
said (form.Go machine record_file steps choices) = go machine.now record_file.now steps choices.now
said (form.Lines source) = lined source.now
said (form.Plan machine) = planned machine.now
said form.NoForm = no_form
