use Rattle.std.proofs.Common.{subst, true≢false, sym, ◌∙◌}
use Rattle.cell_machine.specs.Run.{Ran, IsRun}
use Rattle.run_walk.specs.Walks.{walked}
use Rattle.cell_commands.proofs.Fronts.{so-far-before}
use Rattle.cell_commands.proofs.looks.Looks.take.Goals as goal

pub follow-requires-2-clause-gathers : goal.follow-requires-2-clause-gathers
follow-requires-2-clause-gathers c =
    let m = walked c.args.walk.now in
    let run = subst (λ (r : Ran). IsRun r.setup r.steps) c.machine.ensures c.steps-steps.ensures.run in
    let so_far = (c.is_settled_so_far.ensures m c.in_ok-follow.ensures.follows).0 c.if-not-is_settled_so_far.false in
    c.requires.looks.gathers (so-far-before m c.args.place run c.requires.last.last so_far)

pub returns-then-not-is_settled_so_far : goal.returns-then-not-is_settled_so_far
returns-then-not-is_settled_so_far c =
    record {
      follows = c.in_ok-follow.ensures.follows;
      gathers = λ s. absurd (true≢false (sym ((c.is_settled_so_far.ensures (walked c.args.walk.now) c.in_ok-follow.ensures.follows).1 s) ∙ c.if-not-is_settled_so_far.true));
    }

pub returns : goal.returns
returns c = record { follows = c.in_ok-follow.ensures.follows; gathers = λ s. c.in_ok-follow-2.ensures.gathers }
