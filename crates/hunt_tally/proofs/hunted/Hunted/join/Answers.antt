use Rattle.std.proofs.Common.{◌≡◌, ◌+◌, ◌++◌, refl, ◌∙◌, arith}
use Rattle.std.proofs.lemmas.Result.{err_from_is_err_and}
use Rattle.hunt_tally.specs.Executed.{set_of}
use Rattle.hunt_tally.specs.Reports.{Sums}
use Rattle.hunt_tally.proofs.Together.{AreBoth, hunted_both, within_both}
use Rattle.hunt_tally.proofs.Hunting.{on_ok}
use Rattle.hunt_tally.proofs.hunted.Hunted.join.Goals as goal

pub returns-in_err-join-clause-joined : goal.returns-in_err-join-clause-joined
returns-in_err-join-clause-joined c = let p = err_from_is_err_and c.from_residual.result c.from_residual.ensures.1 in rw p.1 tt

pub returns-in_err-join_endings-clause-joined : goal.returns-in_err-join_endings-clause-joined
returns-in_err-join_endings-clause-joined c = let p = err_from_is_err_and c.from_residual-in_err-join_endings.result c.from_residual-in_err-join_endings.ensures.1 in rw p.1 tt

pub invariant_of-self : goal.invariant_of-self
invariant_of-self c = within_both _ _ _ c.self.invariant c.other.invariant refl refl refl refl (c.join.ensures.within c.other.inside.runs c.other.invariant.flaws) c.join-2.ensures.runs (omega arith) (omega arith) (omega arith) (omega arith) (omega arith) (omega arith)

pub invariant_of-self-in_err-join_endings : goal.invariant_of-self-in_err-join_endings
invariant_of-self-in_err-join_endings c = within_both _ _ _ c.self.invariant c.other.invariant refl refl refl refl (c.join.ensures.within c.other.inside.runs c.other.invariant.flaws) c.join-2.ensures.runs (omega (arith, c.join_endings.ensures.endings)) (omega (arith, c.join_endings.ensures.results)) (omega arith) (omega arith) (omega arith) (omega arith)

pub invariant_of-self-in_err-join_found : goal.invariant_of-self-in_err-join_found
invariant_of-self-in_err-join_found c = within_both _ _ _ c.self.invariant c.other.invariant refl refl refl refl (c.join.ensures.within c.other.inside.runs c.other.invariant.flaws) c.join-2.ensures.runs (omega (arith, c.join_endings.ensures.endings)) (omega (arith, c.join_endings.ensures.results)) (omega (arith, c.join_found.ensures.races)) (omega arith) (omega (arith, c.join_found.ensures.findings)) (omega (arith, c.join_found.ensures.warnings))

pub invariant_of-self-in_err-join-2 : goal.invariant_of-self-in_err-join-2
invariant_of-self-in_err-join-2 c = within_both _ _ _ c.self.invariant c.other.invariant refl refl refl refl (c.join.ensures.within c.other.inside.runs c.other.invariant.flaws) c.join-2.ensures.runs (omega (arith, c.join_endings.ensures.endings)) (omega (arith, c.join_endings.ensures.results)) (omega (arith, c.join_found.ensures.races)) (omega (arith, c.join-3.ensures.runs)) (omega (arith, c.join_found.ensures.findings)) (omega (arith, c.join_found.ensures.warnings))

pub invariant_of-self-2 : goal.invariant_of-self-2
invariant_of-self-2 c = within_both _ _ _ c.self.invariant c.other.invariant refl refl refl refl (c.join.ensures.within c.other.inside.runs c.other.invariant.flaws) c.join-2.ensures.runs (omega (arith, c.join_endings.ensures.endings)) (omega (arith, c.join_endings.ensures.results)) (omega (arith, c.join_found.ensures.races)) (omega (arith, c.join-3.ensures.runs)) (omega (arith, c.join_found.ensures.findings)) (omega (arith, c.join_found.ensures.warnings))

pub returns-clause-joined : goal.returns-clause-joined
returns-clause-joined c =
    let here : Sums = record { runs = c.self.inside.runs; all_stopped = c.self.inside.all_stopped; left_out = c.self.inside.left_out; steps = c.self.inside.steps; flaws = c.self.inside.flaws; kinds = c.self.inside.kinds; endings = c.self.inside.endings; results = c.self.inside.results; races = c.self.inside.races; missed = c.self.inside.missed; findings = c.self.inside.findings; warnings = c.self.inside.warnings; executed = c.self.inside.executed } in
    let behind : Sums = record { runs = c.other.inside.runs; all_stopped = c.other.inside.all_stopped; left_out = c.other.inside.left_out; steps = c.other.inside.steps; flaws = c.other.inside.flaws; kinds = c.other.inside.kinds; endings = c.other.inside.endings; results = c.other.inside.results; races = c.other.inside.races; missed = c.other.inside.missed; findings = c.other.inside.findings; warnings = c.other.inside.warnings; executed = c.other.inside.executed } in
    let new : Sums = record { runs = here.runs + behind.runs; all_stopped = here.all_stopped + behind.all_stopped; left_out = here.left_out + behind.left_out; steps = here.steps + behind.steps; flaws = c.join.new.self; kinds = c.join-2.new.self; endings = c.join_endings.new.endings; results = c.join_endings.new.results; races = c.join_found.new.races; missed = c.join-3.new.self; findings = c.join_found.new.findings; warnings = c.join_found.new.warnings; executed = c.join-4.new.self } in
    on_ok c.join-4.result (λ (executed : new.executed ≡ set_of (here.executed ++ behind.executed)).
    let both : AreBoth here behind new = record {
      runs = refl;
      all_stopped = refl;
      left_out = refl;
      steps = refl;
      race = c.join.ensures.race;
      stuck = c.join.ensures.stuck;
      livelock = c.join.ensures.livelock;
      budget = c.join.ensures.budget;
      fault = c.join.ensures.fault;
      halt = c.join.ensures.halt;
      missed = c.join.ensures.missed;
      kinds = c.in_ok-join.ensures.taken;
      endings = c.in_ok-join_endings.ensures.joined_endings;
      results = c.in_ok-join_endings.ensures.joined_results;
      races = c.in_ok-join_found.ensures.joined_races;
      lines = c.in_ok-join-2.ensures.joined;
      findings = c.in_ok-join_found.ensures.joined_findings;
      warnings = c.in_ok-join_found.ensures.joined_warnings;
      executed = executed;
    } in
    λ xs ys a b. hunted_both here behind new both xs ys (c.self.view_is ∙ a) (c.other.view_is ∙ b)) c.join-4.ensures
