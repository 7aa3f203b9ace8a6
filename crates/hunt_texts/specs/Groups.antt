-- The results of each ending.
use Rattle.std.specs.Prelude.{◌≡◌, ℕ, ◌==◌, Bool, false, List, filter, map, length, Option, Some, None, slice_get, Vec}
use Rattle.std.specs.declared.alloc.Global.{Global}
use Rattle.std.specs.List.{position}
use Rattle.std.specs.Str.{bytes_eq}
use Rattle.hunt_tally.specs.declared.tally.Line.{Line}
use Rattle.hunt_tally.specs.Lines.{told_by}
use Rattle.hunt_tally.specs.Tallies.{Told}

abbrev pub is_place : Option ℕ → ℕ → Bool
is_place None i = false
is_place (Some j) i = j == i

-- whether a result is one of the ending at this place
abbrev pub is_of : List Told → ℕ → Told → Bool
is_of endings i t = is_place (position (λ e. bytes_eq t.shown e.key) endings) i

-- the results of the ending at this place
abbrev pub results_at : List Told → List Told → ℕ → List Told
results_at endings results i = filter (is_of endings i) results

-- these are the groups of results, one for each ending
pub record AreGroups (endings results : List Told) (groups : List (Vec Line Global)) : Type 0 where
  pub long : length groups ≡ length endings
  pub each : (i : ℕ) (g : Vec Line Global) → slice_get groups i ≡ Some g → map told_by g.items ≡ results_at endings results i
