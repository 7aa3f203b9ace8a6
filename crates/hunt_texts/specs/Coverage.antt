-- How many classes of equivalent runs there are, and an estimate of how many further runs would be of a new one.
use Rattle.std.specs.Prelude.{ℕ, ◌+◌, ◌*◌, ◌/◌, ◌==◌, nat_lt, List, ◌++◌, length, codes, if◌then◌else◌}
use Rattle.std.specs.Fmt.{decimal}
use Rattle.cell_base.specs.Records.{line_feed}
use Rattle.hunt_tally.specs.declared.kinds.Kind.{Kind}
use Rattle.hunt_tally.specs.Kinds.{seen_once}
use Rattle.hunt_texts.specs.Numbers.{word_text, units_text}

-- The share of classes that one run alone is in estimates how many further runs would be of a new class (Good and Turing): in percent, rounded.
abbrev pub percent : ℕ → ℕ → ℕ
percent once runs = (100 * once + runs / 2) / runs

unfoldable pub share_text : ℕ → ℕ → List ℕ
share_text once runs = if nat_lt (200 * once) runs then codes "fewer than 1%" else codes "about " ++ decimal (percent once runs) ++ codes "%"

unfoldable pub once_text : ℕ → ℕ → List ℕ
once_text once runs = codes ", " ++ word_text once (codes " seen only once; ") ++ share_text once runs ++ codes " of further runs would be new"

abbrev pub seen_text : ℕ → ℕ → List ℕ
seen_text once runs = if once == 0 then codes ", each seen more than once" else once_text once runs

unfoldable pub classes_line : ℕ → ℕ → ℕ → List ℕ
classes_line classes once runs = codes "coverage: " ++ units_text classes (codes "1 class of equivalent runs") (codes " classes of equivalent runs") ++ seen_text once runs ++ line_feed

abbrev pub coverage_line : List Kind → ℕ → List ℕ
coverage_line kinds runs = classes_line (length kinds) (seen_once kinds) runs
