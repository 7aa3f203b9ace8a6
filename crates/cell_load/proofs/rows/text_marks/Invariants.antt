use Rattle.std.proofs.Common.{◌≡◌, ◌<◌, ◌*◌, ◌||◌, ℕ, false, length, drop, map, slice_index_or}
use Rattle.cell_load.specs.Loaded.{is_text}
use Rattle.cell_load.specs.LoadViews.{load_of}
use Rattle.cell_load.proofs.rows.text_marks.Given as goal

-- a word is text that is marked, or that is text of what is left
abbrev pub invariant-loop-load : goal.invariant-loop-load
invariant-loop-load l = record {
  all : length l.marks.items ≡ 65536;
  text : (k : ℕ) → k < 65536 → (slice_index_or l.marks.items k false || is_text (map load_of (drop l.load-index l.loads)) l.spe (4 * k)) ≡ is_text (map load_of l.loads) l.spe (4 * k);
}
