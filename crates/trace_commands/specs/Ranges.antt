-- Places that are marked, as ranges in their order, which don't touch.
use Rattle.std.specs.Prelude.{ℕ, suc, Bool, true, false, List, [], ◌∷◌, ◌++◌, Option, Some, None, is_none, if◌then◌else◌, codes}
use Rattle.std.specs.Fmt.{decimal}
use Rattle.cell_base.specs.Records.{field, line_feed}
use Rattle.trace_commands.specs.declared.ranges.Layout.{Layout}
use Rattle.trace_commands.specs.declared.ranges.Layout.TheVariants.{Lines, Bars}

-- how a range begins with its first place, and ends with its last, if one has begun
abbrev pub begin_of : Layout → ℕ → List ℕ
begin_of Lines first = decimal first
begin_of Bars first = codes " | " ++ decimal first

abbrev pub end_of : Layout → Option ℕ → List ℕ
end_of layout None = []
end_of Lines (Some last) = field last ++ line_feed
end_of Bars (Some last) = field last

-- what is written of a place, where the range that has begun goes on to `last`: the beginning of a range, or the end of one
abbrev pub mark_text : Layout → Option ℕ → ℕ → Bool → List ℕ
mark_text layout last place true = if is_none last then begin_of layout place else []
mark_text layout last place false = end_of layout last

abbrev pub mark_last : ℕ → Bool → Option ℕ
mark_last place is_marked = if is_marked then Some place else None

-- the ranges of the marked places from `place` on
unfoldable pub ranges_from : Layout → ℕ → Option ℕ → List Bool → List ℕ
ranges_from layout place last [] = end_of layout last
ranges_from layout place last (is_marked ∷ marks) = mark_text layout last place is_marked ++ ranges_from layout (suc place) (mark_last place is_marked) marks

abbrev pub ranges : Layout → List Bool → List ℕ
ranges layout marks = ranges_from layout 0 None marks
