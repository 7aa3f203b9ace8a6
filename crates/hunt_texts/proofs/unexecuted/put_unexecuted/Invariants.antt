use Rattle.std.proofs.Common.{◌≡◌, ◌++◌, take}
use Rattle.std.specs.List.{flat_map}
use Rattle.hunt_texts.specs.Unexecuted.{source_text}
use Rattle.hunt_texts.proofs.unexecuted.put_unexecuted.Given as goal

abbrev pub invariant-loop-source : goal.invariant-loop-source
invariant-loop-source l = l.out.items ≡ l.fn.out.items ++ flat_map source_text (take l.source-index l.coverage)
