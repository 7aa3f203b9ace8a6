use Rattle.std.proofs.Common.{◌≡◌, ◌++◌, take}
use Rattle.std.specs.List.{flat_map}
use Rattle.hunt_texts.specs.Unexecuted.{span_text}
use Rattle.hunt_texts.proofs.unexecuted.put_spans.Given as goal

abbrev pub invariant-loop-span : goal.invariant-loop-span
invariant-loop-span l = l.out.items ≡ l.fn.out.items ++ flat_map (span_text l.name) (take l.span-index l.spans)
