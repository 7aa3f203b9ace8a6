use Rattle.std.proofs.Common.{◌≡◌, ◌++◌, ◌∷◌, take}
use Rattle.std.specs.List.{flat_map}
use Rattle.hunt_texts.specs.Commands.{quoted_byte}
use Rattle.hunt_texts.proofs.commands.put_quoted.Given as goal

abbrev pub invariant-loop-b : goal.invariant-loop-b
invariant-loop-b l = l.out.items ≡ l.fn.out.items ++ 39 ∷ flat_map quoted_byte (take l.b-index l.word)
