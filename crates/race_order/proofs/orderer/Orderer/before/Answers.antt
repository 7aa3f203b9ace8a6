use Rattle.std.proofs.Common.{◌≡◌, ◌-◌, ap, sym, subst, arith, length}
use Rattle.race_order.specs.Rules.{Rule, Ordered}
use Rattle.race_order.specs.Told.{trace_in}
use Rattle.race_order.proofs.CountedRules.{ordered_to, ordered_from}
use Rattle.race_order.proofs.OrderedRuns.{run-long, run-told, run-stands}
use Rattle.race_order.proofs.orderer.Orderer.before.Goals as goal

pub is_before-requires : goal.is_before-requires
is_before-requires g c =
    let long = run-long c.args.self.now g.m c.requires.0 in
    let below = c.requires.1 in
    (run-stands c.args.self.now g.m c.requires.0, omega arith)

pub returns : goal.returns
returns g c =
    let queued = (run-stands c.args.self.now g.m c.requires.0).queued in
    let last : length (trace_in g.m) - 1 ≡ length g.m.steps - 1 = ap (λ n. n - 1) (run-long c.args.self.now g.m c.requires.0) in
    record {
      ordered = record {
        trace = trace_in g.m;
        is = run-told c.args.self.now g.m c.requires.0;
        so = (
          λ h. subst (Ordered Rule (trace_in g.m) c.args.i) last (ordered_from (trace_in g.m) queued _ _ (c.is_before.ensures.0 h)),
          λ o. c.is_before.ensures.1 (ordered_to (trace_in g.m) queued _ _ (subst (Ordered Rule (trace_in g.m) c.args.i) (sym last) o)),
        );
      };
    }
