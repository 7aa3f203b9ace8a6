use Rattle.std.proofs.Common.{◌++◌, ap, ◌∙◌}
use Rattle.hunt_tally.specs.Executed.{set_of}
use Rattle.hunt_tally.proofs.ExecutedLemmas.{marks_more}
use Rattle.hunt_tally.proofs.Hunting.{on_ok}
use Rattle.hunt_tally.proofs.executed.Executed.take.Goals as goal

pub returns : goal.returns
returns c =
    on_ok c.mark_all.result (λ same. marks_more c.self.inside.marks.items c.mark_all.new.marks.items c.args.numbers.now same ∙ ap (λ xs. set_of (xs ++ c.args.numbers.now)) c.self.view_is) c.mark_all.ensures
