-- The failures and the warnings, each with the commands that show its first run.
use Rattle.std.specs.Prelude.{ℕ, ◌+◌, ◌-◌, ◌==◌, ◌||◌, nat_le, Bool, List, [], ◌++◌, map, filter, take, length, codes, if◌then◌else◌}
use Rattle.std.specs.List.{flat_map, before_first}
use Rattle.std.specs.Str.{bytes_eq}
use Rattle.cell_base.specs.Records.{line_feed}
use Rattle.hunt_tally.specs.Tallies.{Told, told_in}
use Rattle.hunt_tally.specs.Reports.{Sums}
use Rattle.hunt_texts.specs.declared.finding.Finding.{Finding}
use Rattle.hunt_texts.specs.declared.finding.Finding.TheVariants.{Race, Halt, Fault, Deadlock, Livelock, Missed, Budget, LostSignal, UnreadPutllc, UnreadTags, UnwrittenBytes}
use Rattle.hunt_texts.specs.Numbers.{word_text, units_text, runs_text, first_text}
use Rattle.hunt_texts.specs.About.{Facts}
use Rattle.hunt_texts.specs.Commands.{command_line}

-- the first word of a key
abbrev pub key_word : List ℕ → List ℕ
key_word key = before_first (λ b. b == 32) key

-- the first word of the keys of this kind
abbrev pub kind_word : Finding → List ℕ
kind_word Race = codes "race"
kind_word Halt = codes "halt"
kind_word Fault = codes "fault"
kind_word Deadlock = codes "deadlock"
kind_word Livelock = codes "livelock"
kind_word Missed = codes "missed"
kind_word Budget = codes "budget"
kind_word LostSignal = codes "lost-signal"
kind_word UnreadPutllc = codes "unread-putllc"
kind_word UnreadTags = codes "unread-tags"
kind_word UnwrittenBytes = codes "unwritten-bytes"

abbrev pub is_of_kind : Finding → Told → Bool
is_of_kind kind t = bytes_eq (key_word t.key) (kind_word kind)

-- a finding of a kind
pub record Found : Type 0 where
  pub kind : Finding
  pub told : Told

abbrev pub of_kind : Finding → List Told → List Found
of_kind kind findings = map (λ t. record { kind = kind; told = t }) (filter (is_of_kind kind) findings)

abbrev pub failures_in : List Told → List Found
failures_in findings =
    of_kind Race findings ++ of_kind Halt findings ++ of_kind Fault findings ++ of_kind Deadlock findings ++ of_kind Livelock findings ++ of_kind Missed findings ++ of_kind Budget findings

abbrev pub warnings_in : List Told → List Found
warnings_in warnings = of_kind LostSignal warnings ++ of_kind UnreadPutllc warnings ++ of_kind UnreadTags warnings ++ of_kind UnwrittenBytes warnings

-- by kind, and within a kind in the order of the tally
abbrev pub by_kind : List Told → List Told → List Found
by_kind findings warnings = failures_in findings ++ warnings_in warnings

-- ---- the lines of a finding

abbrev pub kind_words : Finding → List ℕ
kind_words Race = codes "data race"
kind_words Halt = codes "halt"
kind_words Fault = codes "fault"
kind_words Deadlock = codes "deadlock"
kind_words Livelock = codes "livelock"
kind_words Missed = codes "missing line"
kind_words Budget = codes "spent budget"
kind_words LostSignal = codes "warning: lost signal"
kind_words UnreadPutllc = codes "warning: unread status of a PUTLLC"
kind_words UnreadTags = codes "warning: unread tag status"
kind_words UnwrittenBytes = codes "warning: bytes that nothing wrote"

-- how many of all runs have it, and the number of the first one
unfoldable pub share_text : ℕ → ℕ → ℕ → List ℕ
share_text runs all first = codes " in " ++ word_text runs (codes " of ") ++ runs_text all ++ first_text first ++ line_feed

-- the line of a command that explains a run, and of one that debugs it
abbrev pub why_line : List ℕ → Facts → ℕ → List ℕ
why_line purpose a run = command_line purpose a (codes "race") run

abbrev pub debug_line : Facts → ℕ → List ℕ
debug_line a run = command_line (codes "  backwards from its end: ") a (codes "debug") run

-- a run with a warning need not end badly, and then the debugger opens it at its beginning
abbrev pub stepping_line : Facts → ℕ → List ℕ
stepping_line a run = command_line (codes "  step through this run: ") a (codes "debug") run

unfoldable pub ended_lines : Facts → ℕ → List ℕ
ended_lines a run = why_line (codes "  why: ") a run ++ debug_line a run

abbrev pub advice_lines : Facts → Finding → ℕ → List ℕ
advice_lines a Race run = why_line (codes "  why, and how to fix it: ") a run
advice_lines a Halt run = ended_lines a run
advice_lines a Fault run = ended_lines a run
advice_lines a Deadlock run = ended_lines a run
advice_lines a Livelock run = ended_lines a run
advice_lines a Missed run = command_line (codes "  the states of this run: ") a (codes "states") run
advice_lines a Budget run = debug_line a run
advice_lines a LostSignal run = stepping_line a run
advice_lines a UnreadPutllc run = stepping_line a run
advice_lines a UnreadTags run = stepping_line a run
advice_lines a UnwrittenBytes run = stepping_line a run

unfoldable pub finding_lines : Facts → ℕ → Found → List ℕ
finding_lines a all f = line_feed ++ kind_words f.kind ++ share_text f.told.runs all (a.from + f.told.first) ++ f.told.shown ++ advice_lines a f.kind (a.from + f.told.first)

-- ---- all findings

-- how many findings are printed
abbrev pub printed : Bool → ℕ → ℕ
printed all n = if all then n else 4

-- how many are not
unfoldable pub left_text : ℕ → List ℕ
left_text n = codes "\nand " ++ units_text n (codes "1 more finding") (codes " more findings") ++ codes ": --all prints them\n"

abbrev pub more_lines : Bool → ℕ → List ℕ
more_lines all n = if all || nat_le n 4 then [] else left_text (n - 4)

unfoldable pub found_lines : Facts → ℕ → List Found → List ℕ
found_lines a all found = flat_map (finding_lines a all) (take (printed a.all (length found)) found) ++ more_lines a.all (length found)

abbrev pub findings_lines : Facts → Sums → List ℕ
findings_lines a sums = found_lines a sums.runs (by_kind (told_in sums.findings) (told_in sums.warnings))
