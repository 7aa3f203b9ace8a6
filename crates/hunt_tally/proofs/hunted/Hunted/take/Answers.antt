use Rattle.std.proofs.Common.{◌≡◌, ◌+◌, cond, map, refl, ap, ◌∙◌, List, [], ◌∷◌, ◌++◌, subst, rules}
use Rattle.hunt_tally.specs.Executed.{set_of}
use Rattle.hunt_tally.specs.Reports.{Reported, Sums, hunted}
use Rattle.hunt_tally.proofs.Hunting.{IsMore, took_report, on_ok}
use Rattle.hunt_tally.proofs.hunted.Hunted.take.Goals as goal

pub returns : goal.returns
returns c =
    let old : Sums = c.args.self.now in
    let r : Reported = record { flaws = c.report.inside.flaws; ending = c.report.inside.ending.items; result = c.report.inside.result.items; races = c.report.inside.races.items; missed = map (λ line. line.items) c.report.inside.missed.items; findings = c.report.inside.findings.items; warnings = c.report.inside.warnings.items; leaves_out = c.report.inside.leaves_out; kind = c.report.inside.kind; steps = c.report.inside.steps; executed = c.report.inside.executed.items } in
    let new : Sums = record { runs = c.self.inside.runs + 1; all_stopped = c.counted-self-inside.result; left_out = c.counted-self-inside-2.result; steps = c.self.inside.steps + c.from.result; flaws = c.note.new.self; kinds = c.take.new.self; endings = c.take_ending.new.endings; results = c.take_ending.new.results; races = c.take_found.new.races; missed = c.take_missed.new.tally; findings = c.take_found.new.findings; warnings = c.take_found.new.warnings; executed = c.take-2.new.self } in
    on_ok c.take-2.result (λ (executed : c.take-2.new.self ≡ set_of (c.self.inside.executed ++ c.as_slice.result.now)).
    let is : IsMore r (record { runs = c.self.inside.runs; all_stopped = c.self.inside.all_stopped; left_out = c.self.inside.left_out; steps = c.self.inside.steps; flaws = c.self.inside.flaws; kinds = c.self.inside.kinds; endings = c.self.inside.endings; results = c.self.inside.results; races = c.self.inside.races; missed = c.self.inside.missed; findings = c.self.inside.findings; warnings = c.self.inside.warnings; executed = c.self.inside.executed }) new = record {
      runs = refl;
      all_stopped = c.counted-self-inside.ensures ∙ ap (λ b. c.self.inside.all_stopped + cond b 1 0) c.all_stopped.ensures;
      left_out = c.counted-self-inside-2.ensures;
      steps = ap (λ n. c.self.inside.steps + n) (let same : c.from.result ≡ c.report.inside.steps = search rules in same);
      race = c.note.ensures.race;
      stuck = c.note.ensures.stuck;
      livelock = c.note.ensures.livelock;
      budget = c.note.ensures.budget;
      fault = c.note.ensures.fault;
      halt = c.note.ensures.halt;
      missed = c.note.ensures.missed;
      kinds = c.in_ok-take.ensures.taken;
      endings = c.in_ok-take_ending.ensures.ending;
      results = c.in_ok-take_ending.ensures.left;
      races = c.in_ok-take_found.ensures.took_races;
      lines = c.in_ok-take_missed.ensures.missed;
      findings = c.in_ok-take_found.ensures.took_findings;
      warnings = c.in_ok-take_found.ensures.took_warnings;
      executed = executed ∙ ap (λ xs. set_of (c.self.inside.executed ++ xs)) c.as_slice.ensures.value;
    } in
    let P : Reported → Type 0 = λ x. (reports : List Reported) → old ≡ hunted reports → new ≡ hunted (reports ++ x ∷ []) in
    subst P c.report.view_is (λ reports e. took_report r _ new is reports (c.self.view_is ∙ e))) c.take-2.ensures
