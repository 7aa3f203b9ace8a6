use Rattle.std.proofs.Common.{sym, ap, ◌∙◌}
use Rattle.std.specs.Option.{option_copied}
use Rattle.hunt_tally.specs.Kinds.{runs_with}
use Rattle.hunt_tally.proofs.KindLemmas.{found_runs, runs_at}
use Rattle.hunt_tally.proofs.kinds.Kinds.runs.Goals as goal

pub returns-in-Some : goal.returns-in-Some
returns-in-Some c =
    ap (λ r. runs_at (option_copied r)) (sym c.in-Some.is) ∙ ap runs_at c.get.ensures.value
    ∙ found_runs c.args.digest c.self.inside.counts.entries ∙ ap (λ kinds. runs_with kinds c.args.digest) c.self.view_is

pub returns-in-None : goal.returns-in-None
returns-in-None c =
    ap (λ r. runs_at (option_copied r)) (sym c.in-None.is) ∙ ap runs_at c.get.ensures.value
    ∙ found_runs c.args.digest c.self.inside.counts.entries ∙ ap (λ kinds. runs_with kinds c.args.digest) c.self.view_is
