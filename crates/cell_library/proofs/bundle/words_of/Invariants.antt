use Rattle.std.proofs.Common.{length, map, string_bytes}
use Rattle.cell_library.proofs.WordsLaws.{LinesLeft}
use Rattle.cell_library.proofs.bundle.words_of.Given as goal

-- the words so far are the first lines
abbrev pub invariant-loop-rest : goal.invariant-loop-rest
invariant-loop-rest l = LinesLeft l.bytes l.rest (map string_bytes l.words.items)

abbrev pub decreases-loop-rest : goal.decreases-loop-rest
decreases-loop-rest l = length l.rest
