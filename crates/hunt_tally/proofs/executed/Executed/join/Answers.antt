use Rattle.std.proofs.Common.{◌++◌, ap, ◌∙◌}
use Rattle.hunt_tally.specs.Executed.{marked, set_of}
use Rattle.hunt_tally.proofs.ExecutedLemmas.{marks_both}
use Rattle.hunt_tally.proofs.Hunting.{on_ok}
use Rattle.hunt_tally.proofs.executed.Executed.join.Goals as goal

pub returns : goal.returns
returns c =
    on_ok c.mark_marked.result (λ same. marks_both c.self.inside.marks.items c.as_slice.result.now c.mark_marked.new.marks.items same ∙ (λ i. set_of (c.self.view_is i ++ (ap marked c.as_slice.ensures.value ∙ c.other.view_is) i))) c.mark_marked.ensures
