use Rattle.std.proofs.Common.{ap, ◌∙◌, subst}
use Rattle.cell_machine.specs.Run.{Ran}
use Rattle.race_check.specs.Reorderings.{EveryReorderingAgrees}
use Rattle.race_check.specs.Searches.{run_of}
use Rattle.cell_commands.specs.Judging.{MayLookAt}
use Rattle.cell_commands.proofs.Fronts.{all-made, first-made, whole-verdict}
use Rattle.cell_commands.proofs.judging.judge.Goals as goal

pub returns-clause-judged : goal.returns-clause-judged
returns-clause-judged c =
    let s = c.in_ok-verdict.ensures.searched in
    let setup = (run_of c.in-Ok.search).setup in
    let steps = c.args.steps.now in
    let w = run_of c.search_steps.new.search in
    let m = c.make_rest.new.machine in
    let made = c.in_ok-make_rest.ensures.made ∙ ap (λ (r : Ran). let n : Ran = record r { steps = steps } in n) c.into_machine-machine.ensures in
    let all = all-made setup steps w m s.made made in
    record {
      verdict = whole-verdict m w c.in_ok-verdict.verdict c.steps-run.ensures.run (first-made setup steps w m s.made made) (λ a. all (s.whole a)) s.verdict;
      agree = λ a. subst EveryReorderingAgrees (all (s.whole a)) (s.clear a).agree;
      looks = λ a. subst (λ r. MayLookAt r c.search_steps.new.looks) (all (s.whole a)) (c.in_ok-verdict.ensures.looks a);
      some = c.in_ok-verdict.ensures.some ∙ c.in_ok-looks.ensures.some;
    }
