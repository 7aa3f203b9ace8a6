use Rattle.std.proofs.Common.{◌≡◌, ◌++◌}
use Rattle.spu_asm.specs.Listings.{named_lines}
use Rattle.spu_asm.specs.Source.{labels_view}
use Rattle.spu_asm.proofs.listing.listed_labels.Given as goal

-- the labels so far and those that are left are all
abbrev pub invariant-loop-name : goal.invariant-loop-name
invariant-loop-name l = named_lines l.found.items ++ labels_view l.name-iterator ≡ labels_view l.labels.entries
