use Rattle.std.proofs.Common.{◌≡◌, ◌++◌, take}
use Rattle.std.specs.List.{flat_map}
use Rattle.trace_commands.specs.Listings.{label_text}
use Rattle.trace_commands.proofs.listing.put_labels.Given as goal

abbrev pub invariant-loop-label : goal.invariant-loop-label
invariant-loop-label l = l.out.items ≡ l.initial.out.items ++ flat_map (λ e. label_text (e.name.now, e.line)) (take l.label-index l.labels)
