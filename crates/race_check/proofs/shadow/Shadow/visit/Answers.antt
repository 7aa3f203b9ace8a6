use Rattle.std.proofs.Common.{ℕ, true, false, Option, None, inl, refl}
use Rattle.race_check.specs.Walks.{IsOrdered}
use Rattle.race_check.specs.Safe.{IsLater}
use Rattle.race_check.proofs.Spans.{takes_none}
use Rattle.race_check.proofs.Steps.{takes_step}
use Rattle.race_check.proofs.shadow.Shadow.visit.Goals as goal

alone : (latest : Option ℕ) → IsLater latest None latest
alone latest = record { one = inl refl; first = λ s up. up; second = λ s none. absurd none }

pub returns-then-is_fetch : goal.returns-then-is_fetch
returns-then-is_fetch c =
    let before = IsOrdered c.args.walk.now.machine in
    let shadow = c.visit_fetch.new.self in
    let access = c.args.access.now in
    let latest = c.in_ok-fetched.fetched in
    takes_step before c.args.self.now shadow shadow shadow access c.args.step latest None None latest latest (alone latest) (alone latest) c.in_ok-fetched.ensures
    (takes_none before shadow access.reads c.args.step false (c.if-is_fetch.ensures.reads refl)) (takes_none before shadow access.writes c.args.step true (c.if-is_fetch.ensures.writes refl))

pub returns : goal.returns
returns c =
    takes_step (IsOrdered c.args.walk.now.machine) c.args.self.now c.visit_fetch.new.self c.visit_span.new.self c.visit_span-2.new.self c.args.access.now c.args.step
    c.in_ok-fetched.fetched c.in_ok-read.read c.in_ok-written.written c.later.result c.later-2.result c.later.ensures c.later-2.ensures c.in_ok-fetched.ensures c.in_ok-read.ensures c.in_ok-written.ensures
