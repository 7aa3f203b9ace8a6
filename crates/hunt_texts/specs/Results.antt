-- The results of the runs that end alike, if all processors stopped and the results differ.
use Rattle.std.specs.Prelude.{ℕ, ◌+◌, ◌-◌, nat_lt, List, [], ◌∷◌, ◌++◌, take, length, codes, if◌then◌else◌}
use Rattle.std.specs.Str.{bytes_eq}
use Rattle.std.specs.Fmt.{decimal}
use Rattle.cell_base.specs.Records.{line_feed}
use Rattle.cell_base.specs.Words.{lines_of}
use Rattle.hunt_tally.specs.Tallies.{Told}
use Rattle.hunt_tally.specs.Reports.{result_in}
use Rattle.hunt_texts.specs.Numbers.{word_text, counted_text}
use Rattle.hunt_texts.specs.Lists.{from_place, separator}
use Rattle.hunt_texts.specs.About.{Facts}
use Rattle.hunt_texts.specs.Commands.{command}
use Rattle.hunt_texts.specs.Ends.{is_stopped, most}
use Rattle.hunt_texts.specs.Groups.{results_at}
use Rattle.hunt_texts.specs.Watches.{watch_in, watch_text}

-- ---- how many there are

unfoldable pub results_head : ℕ → List ℕ → List ℕ
results_head n ending = codes "results: " ++ word_text n (codes " different ones in the runs that end ") ++ ending ++ line_feed

abbrev pub result_text : ℕ → ℕ → Told → List ℕ
result_text from i t = separator i ++ counted_text from t.runs t.first

unfoldable pub more_results : ℕ → List ℕ
more_results n = if nat_lt most n then codes ", and " ++ word_text (n - most) (codes " more") else []

-- the number of runs of each, and the first of them
unfoldable pub counts_line : ℕ → List Told → List ℕ
counts_line from results = codes "  " ++ from_place (result_text from) 0 (take most results) ++ more_results (length results) ++ line_feed

-- ---- how the first two differ

-- two lists of lines from the first line on in which they differ
unfoldable pub apart : List (List ℕ) → List (List ℕ) → List (List ℕ) × List (List ℕ)
apart [] ys = ([], ys)
apart (x ∷ xs) [] = (x ∷ xs, [])
apart (x ∷ xs) (y ∷ ys) = if bytes_eq x y then apart xs ys else (x ∷ xs, y ∷ ys)

abbrev pub next_line : List (List ℕ) → List ℕ
next_line [] = codes "nothing more"
next_line (line ∷ lines) = line

unfoldable pub run_line : ℕ → List ℕ → List ℕ
run_line run line = codes "  run " ++ decimal run ++ codes ": " ++ line ++ line_feed

-- how to find the step of the first run that wrote the byte in which the lines differ
unfoldable pub writer_line : Facts → ℕ → List ℕ → List ℕ → List ℕ
writer_line a run line other = codes "  who wrote it: " ++ command a (codes "debug") run ++ watch_text (watch_in line other) ++ line_feed

unfoldable pub lines_apart : Facts → ℕ → ℕ → List ℕ → List ℕ → List ℕ
lines_apart a first second line other = run_line first line ++ run_line second other ++ writer_line a first line other

abbrev pub rests_apart : Facts → ℕ → ℕ → List (List ℕ) × List (List ℕ) → List ℕ
rests_apart a first second rests = lines_apart a first second (next_line rests.0) (next_line rests.1)

unfoldable pub pair_lines : Facts → Told → Told → List ℕ
pair_lines a r s = rests_apart a (a.from + r.first) (a.from + s.first) (apart (lines_of (result_in r)) (lines_of (result_in s)))

abbrev pub second_lines : Facts → List Told → List ℕ
second_lines a [] = []
second_lines a (r ∷ []) = []
second_lines a (r ∷ s ∷ more) = pair_lines a r s

-- ---- all endings

unfoldable pub group_lines : Facts → List ℕ → List Told → List ℕ
group_lines a ending results = results_head (length results) ending ++ counts_line a.from results ++ second_lines a results

-- the results of an ending, if there is more than one
abbrev pub results_lines : Facts → List ℕ → List Told → List ℕ
results_lines a ending results = if nat_lt 1 (length results) then group_lines a ending results else []

-- only if all processors stopped: a run that ends early leaves what it came to
abbrev pub stopped_results : Facts → Told → List Told → List ℕ
stopped_results a ending results = if is_stopped ending then results_lines a ending.key results else []

-- those of the ending at a place
abbrev pub ending_lines : Facts → List Told → List Told → ℕ → Told → List ℕ
ending_lines a endings results i e = stopped_results a e (results_at endings results i)

abbrev pub all_results : Facts → List Told → List Told → List ℕ
all_results a endings results = from_place (ending_lines a endings results) 0 endings
