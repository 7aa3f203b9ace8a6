use Rattle.std.proofs.Common.{sym, ap, ◌∙◌, subst}
use Rattle.race_check.specs.Searches.{run_of}
use Rattle.reorder_laws.specs.Places.{until}
use Rattle.cell_commands.specs.Judging.{LooksAt}
use Rattle.cell_commands.proofs.Fronts.{back}
use Rattle.cell_commands.proofs.looks.Looks.advance.Goals as goal

pub take-requires-clause-looks : goal.take-requires-clause-looks
take-requires-clause-looks c =
    let old = run_of c.args.search.now in
    let was = back old (run_of c.advance.new.self) c.args.step c.args.place c.requires.place c.in-Ok.ensures.run in
    subst (λ r. LooksAt r c.args.self.now) (was ∙ ap (λ r. until r c.args.place) (sym c.walk.ensures.run)) c.requires.looks
