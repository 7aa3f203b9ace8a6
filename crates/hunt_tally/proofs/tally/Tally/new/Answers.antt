use Rattle.std.proofs.Common.{[], ap, ◌∙◌}
use Rattle.hunt_tally.specs.Views.{entries_in}
use Rattle.hunt_tally.proofs.Taking.{none_of}
use Rattle.hunt_tally.proofs.tally.Tally.new.Goals as goal

pub invariant_of-result : goal.invariant_of-result
invariant_of-result c = ([], λ i. record { runs = 0; entries = (ap entries_in c.new.ensures.empty ∙ none_of) i })

pub returns : goal.returns
returns c = λ i. record { runs = 0; entries = (ap entries_in c.new.ensures.empty ∙ none_of) i }
