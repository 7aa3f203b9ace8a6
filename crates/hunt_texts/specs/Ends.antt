-- How the runs ended.
use Rattle.std.specs.Prelude.{ℕ, ◌+◌, ◌-◌, ◌==◌, ◌||◌, nat_lt, nat_eq, Bool, false, List, [], ◌∷◌, ◌++◌, filter, take, length, codes, if◌then◌else◌}
use Rattle.std.specs.List.{flat_map, starts_with}
use Rattle.cell_base.specs.Records.{line_feed}
use Rattle.hunt_tally.specs.declared.flaws.FlawCounts.{FlawCounts}
use Rattle.hunt_tally.specs.Tallies.{Told, told_in}
use Rattle.hunt_tally.specs.Reports.{Sums}
use Rattle.hunt_texts.specs.Numbers.{word_text, counted_text}
use Rattle.hunt_texts.specs.Lists.{Item, items_text}

abbrev pub end_item : List ℕ → ℕ → Item
end_item word runs = record { runs = runs; text = word_text runs word }

abbrev pub end_items : ℕ → ℕ → ℕ → List Item
end_items stopped stuck spent = end_item (codes " AllStopped") stopped ∷ end_item (codes " Stuck") stuck ∷ end_item (codes " Budget") spent ∷ []

-- whether all runs ended alike
abbrev pub all_text : ℕ → ℕ → ℕ → ℕ → List ℕ
all_text runs stopped stuck spent = if stopped == runs || stuck == runs || spent == runs then codes "all " else []

unfoldable pub ends_line : ℕ → ℕ → ℕ → ℕ → List ℕ
ends_line runs stopped stuck spent = codes "\nends: " ++ all_text runs stopped stuck spent ++ items_text false (end_items stopped stuck spent) ++ line_feed

-- ---- the endings of runs in which all processors stopped

abbrev pub is_stopped : Told → Bool
is_stopped t = starts_with nat_eq t.key (codes "AllStopped")

unfoldable pub ending_line : ℕ → Told → List ℕ
ending_line from t = codes "  " ++ counted_text from t.runs t.first ++ codes ": " ++ t.key ++ line_feed

-- how many endings, or results of an ending, are printed
abbrev pub most : ℕ
most = 8

unfoldable pub more_endings : ℕ → List ℕ
more_endings n = if nat_lt most n then codes "  and " ++ word_text (n - most) (codes " more\n") else []

-- the endings, if there is more than one
abbrev pub stopped_lines : ℕ → List Told → List ℕ
stopped_lines from endings = if nat_lt 1 (length endings) then flat_map (ending_line from) (take most endings) ++ more_endings (length endings) else []

-- a livelock is a spent budget, too
abbrev pub spent_in : FlawCounts → ℕ
spent_in c = c.livelock.runs + c.budget.runs

unfoldable pub ends_lines : ℕ → Sums → List ℕ
ends_lines from sums =
    ends_line sums.runs sums.all_stopped sums.flaws.stuck.runs (spent_in sums.flaws) ++ stopped_lines from (filter is_stopped (told_in sums.endings))
