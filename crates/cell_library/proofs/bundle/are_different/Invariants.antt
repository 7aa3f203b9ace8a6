use Rattle.std.proofs.Common.{◌≡◌, drop, map}
use Rattle.cell_io.specs.Files.{are_different}
use Rattle.cell_library.proofs.NamesLaws.{are_new}
use Rattle.cell_library.proofs.bundle.are_different.Given as goal

-- the names that were seen, and the files that are left
abbrev pub invariant-loop-file : goal.invariant-loop-file
invariant-loop-file l = are_new (map (λ name. name.now) l.seen.keys) (drop l.file-index l.files) ≡ are_different l.files
