-- The same as JSON, one object a line.
use Rattle.std.specs.Prelude.{ℕ, ◌+◌, ◌==◌, ◌||◌, nat_lt, Bool, List, ◌∷◌, [], ◌++◌, codes, if◌then◌else◌}
use Rattle.std.specs.List.{flat_map}
use Rattle.std.specs.Fmt.{decimal}
use Rattle.cell_base.specs.Hex.{hex}
use Rattle.cell_base.specs.Records.{line_feed}
use Rattle.hunt_tally.specs.declared.count.Count.{Count}
use Rattle.hunt_tally.specs.declared.flaws.FlawCounts.{FlawCounts}
use Rattle.hunt_tally.specs.declared.coverage.LineCoverage.{LineCoverage}
use Rattle.hunt_tally.specs.declared.kinds.Kind.{Kind}
use Rattle.hunt_tally.specs.Coverage.{SourceLines}
use Rattle.hunt_tally.specs.Tallies.{Told, told_in}
use Rattle.hunt_tally.specs.Reports.{Sums, result_in}
use Rattle.hunt_texts.specs.Numbers.{word_text}
use Rattle.hunt_texts.specs.Lists.{from_place}
use Rattle.hunt_texts.specs.Findings.{key_word}

-- a byte of a string: as it is, or as a code point of two digits where it is a quotation mark, a backslash, or no printed ASCII
unfoldable pub byte_json : ℕ → List ℕ
byte_json b = if b == 34 || b == 92 || nat_lt b 32 || nat_lt 126 b then codes "\\u00" ++ hex 2 b else b ∷ []

-- a string, one character for each byte
unfoldable pub string_json : List ℕ → List ℕ
string_json bytes = 34 ∷ (flat_map byte_json bytes ++ 34 ∷ [])

abbrev pub bool_json : Bool → List ℕ
bool_json b = if b then codes "true" else codes "false"

-- no run is the first of none
abbrev pub first_json : ℕ → Count → List ℕ
first_json from c = if c.runs == 0 then codes "null" else decimal (from + c.first)

-- a name and a number
unfoldable pub field_json : List ℕ → ℕ → List ℕ
field_json name n = name ++ decimal n

unfoldable pub flaw_json : ℕ → List ℕ → Count → List ℕ
flaw_json from name c = name ++ field_json (codes "{\"runs\":") c.runs ++ codes ",\"first\":" ++ first_json from c ++ codes "}"

unfoldable pub ended_json : ℕ → FlawCounts → List ℕ
ended_json from c =
    flaw_json from (codes ",\"race\":") c.race ++ flaw_json from (codes ",\"stuck\":") c.stuck ++ flaw_json from (codes ",\"livelock\":") c.livelock ++ flaw_json from (codes ",\"budget\":") c.budget

unfoldable pub faulted_json : ℕ → FlawCounts → List ℕ
faulted_json from c = flaw_json from (codes ",\"fault\":") c.fault ++ flaw_json from (codes ",\"halt\":") c.halt ++ flaw_json from (codes ",\"missed\":") c.missed

-- which runs, and whether lines were expected
unfoldable pub runs_of_json : ℕ → ℕ → ℕ → Bool → List ℕ
runs_of_json seed from runs expects =
    field_json (codes "{\"hunt\":1,\"seed\":") seed ++ field_json (codes ",\"from\":") from ++ field_json (codes ",\"runs\":") runs ++ codes ",\"expects\":" ++ bool_json expects

unfoldable pub sums_json : ℕ → ℕ → ℕ → List ℕ
sums_json stopped left steps = field_json (codes ",\"all_stopped\":") stopped ++ field_json (codes ",\"left_out\":") left ++ field_json (codes ",\"steps\":") steps

unfoldable pub head_json : Sums → ℕ → ℕ → Bool → List ℕ
head_json sums seed from expects =
    runs_of_json seed from sums.runs expects ++ sums_json sums.all_stopped sums.left_out sums.steps ++ ended_json from sums.flaws ++ faulted_json from sums.flaws ++ codes "}" ++ line_feed

-- the end of a line
unfoldable pub runs_json : ℕ → ℕ → ℕ → List ℕ
runs_json from runs first = field_json (codes ",\"runs\":") runs ++ field_json (codes ",\"first\":") (from + first) ++ codes "}" ++ line_feed

abbrev pub race_json : ℕ → Told → List ℕ
race_json from t = codes "{\"race\":" ++ string_json t.shown ++ codes ",\"key\":" ++ string_json t.key ++ runs_json from t.runs t.first

abbrev pub ending_json : ℕ → Told → List ℕ
ending_json from t = codes "{\"end\":" ++ string_json t.key ++ runs_json from t.runs t.first

abbrev pub result_json : ℕ → Told → List ℕ
result_json from t = codes "{\"result\":" ++ string_json (result_in t) ++ codes ",\"end\":" ++ string_json t.shown ++ runs_json from t.runs t.first

abbrev pub missed_json : ℕ → Told → List ℕ
missed_json from t = codes "{\"missed\":" ++ string_json t.key ++ runs_json from t.runs t.first

-- a failure or a warning: the first word of its key is its kind
abbrev pub found_json : List ℕ → ℕ → Told → List ℕ
found_json name from t =
    name ++ string_json (key_word t.key) ++ codes ",\"key\":" ++ string_json t.key ++ codes ",\"shown\":" ++ string_json t.shown ++ runs_json from t.runs t.first

abbrev pub finding_json : ℕ → Told → List ℕ
finding_json from t = found_json (codes "{\"finding\":") from t

abbrev pub warning_json : ℕ → Told → List ℕ
warning_json from t = found_json (codes "{\"warning\":") from t

abbrev pub comma_json : ℕ → List ℕ
comma_json i = if i == 0 then [] else codes ","

-- a kind by its digest, with how many runs are of it
unfoldable pub kind_json : Kind → List ℕ
kind_json k = codes "\"" ++ word_text k.digest (codes "\":") ++ decimal k.runs

-- a kind, after a comma unless it is the first
abbrev pub kind_at : ℕ → Kind → List ℕ
kind_at i k = comma_json i ++ kind_json k

unfoldable pub kinds_json : List Kind → List ℕ
kinds_json kinds = codes "{\"kinds\":{" ++ from_place kind_at 0 kinds ++ codes "}}" ++ line_feed

abbrev pub executed_json : Bool → List ℕ
executed_json b = if b then codes ",1]" else codes ",0]"

-- a line of a source by its number, and 1 if a run executed it
unfoldable pub line_json : LineCoverage → List ℕ
line_json l = codes "[" ++ decimal l.number ++ executed_json l.executed

abbrev pub line_at : ℕ → LineCoverage → List ℕ
line_at i l = comma_json i ++ line_json l

-- a source by its name, with its lines that have an instruction
unfoldable pub source_json : SourceLines → List ℕ
source_json s = codes "{\"source\":" ++ string_json s.name ++ codes ",\"lines\":[" ++ from_place line_at 0 s.lines ++ codes "]}" ++ line_feed

abbrev pub hunt_json : Sums → ℕ → ℕ → Bool → List SourceLines → List ℕ
hunt_json sums seed from expects coverage =
    head_json sums seed from expects ++ flat_map (race_json from) (told_in sums.races) ++ flat_map (ending_json from) (told_in sums.endings)
    ++ flat_map (result_json from) (told_in sums.results) ++ flat_map (missed_json from) (told_in sums.missed)
    ++ flat_map (finding_json from) (told_in sums.findings) ++ flat_map (warning_json from) (told_in sums.warnings) ++ flat_map source_json coverage ++ kinds_json sums.kinds
