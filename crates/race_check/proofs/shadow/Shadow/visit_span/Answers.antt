use Rattle.std.proofs.Common.{rules, ◌≡◌, ◌≤◌, ◌+◌, ◌*◌, ◌/◌, ap}
use Rattle.race_check.specs.Walks.{IsOrdered}
use Rattle.race_check.proofs.Spans.{takes_none, takes_one}
use Rattle.race_check.proofs.shadow.Shadow.visit_span.Goals as goal

pub returns-then-span-eq0 : goal.returns-then-span-eq0
returns-then-span-eq0 c = takes_none (IsOrdered c.args.walk.now.machine) c.args.self.now c.args.span.now c.args.step c.args.writes (search rules)

pub returns : goal.returns
returns c =
    let span = c.args.span.now in
    let line = c.from-line.result / 128 in
    let first : line ≡ span.at / 128 = ap (λ at. at / 128) c.from-line.ensures in
    let end : span.at + span.len ≤ 128 * line + 128 = search rules in
    takes_one (IsOrdered c.args.walk.now.machine) c.args.self.now c.visit_line.new.self span c.args.step c.args.writes line c.whole-entry.result c.whole-entry.ensures.step c.whole-entry.ensures.holds c.whole-entry.ensures.only first end
    c.in_ok-latest.latest c.in_ok-latest.ensures
