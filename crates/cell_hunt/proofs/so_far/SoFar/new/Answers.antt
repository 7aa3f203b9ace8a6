use Rattle.std.proofs.Common.{ap, length, sym, subst, ◌∙◌, rules}
use Rattle.cell_machine.specs.Run.{Ran}
use Rattle.race_check.specs.Searches.{run_of}
use Rattle.cell_hunt.specs.Executed.{executed_in}
use Rattle.cell_hunt.specs.Kinds.{touchable, touches_in}
use Rattle.cell_hunt.specs.SoFar.{AreEndingsTo}
use Rattle.cell_hunt.specs.Touched.{AreDigests, HasTouched}
use Rattle.cell_hunt.proofs.AllEndings.{endings-begun}
use Rattle.cell_hunt.proofs.Touching.{none_executed, none_touched}
use Rattle.cell_hunt.proofs.so_far.SoFar.new.Goals as goal

pub returns-clause-searched : goal.returns-clause-searched
returns-clause-searched c =
    let made = c.in_ok-search.ensures.run in
    let touched : HasTouched (run_of c.in_ok-search.search) c.new-5.result = record {
      long = c.new-5.ensures.long ∙ ap touchable c.lines.ensures ∙ ap (λ (r : Ran). touchable r.setup.lines) (sym made);
      are = subst (λ all. AreDigests all c.new-5.result.digests) (sym (ap touches_in made ∙ none_touched c.args.setup.now)) c.new-5.ensures.none;
      executed = c.new-5.ensures.executed ∙ sym (ap executed_in made ∙ none_executed c.args.setup.now);
    } in
    let endings = subst (AreEndingsTo (length (run_of c.in_ok-search.search).steps) (run_of c.in_ok-search.search)) (sym c.new-6.ensures.items) (endings-begun (run_of c.in_ok-search.search) (ap (λ (r : Ran). r.steps) made)) in
    let losses = c.new-7.ensures (run_of c.in_ok-search.search) (ap (λ (r : Ran). r.steps) made) in
    let unwritten = c.in_ok-unwritten_reads.ensures (run_of c.in_ok-search.search) (ap (λ (r : Ran). r.setup) made) (ap (λ (r : Ran). r.steps) made) in
    record { keeps = search rules; knows = search rules; least = search rules; all = search rules; touched = touched; endings = endings; losses = losses; unwritten = unwritten }
