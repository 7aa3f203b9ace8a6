use Rattle.std.proofs.Common.{◌≡◌, ◌||◌, ◌&&◌, Bool, true, sym, ap, ◌∙◌}
use Rattle.std.specs.List.{list_any}
use Rattle.order_sets.specs.Stands.{has_at}
use Rattle.order_sets.specs.declared.facts.At.{At}
use Rattle.race_order.specs.declared.roles.QueueRole.{QueueRole}
use Rattle.race_order.specs.declared.roles.QueueRole.TheVariants.{Waits, Complete}
use Rattle.race_order.specs.Passes.{classes_of, is_ahead, done_any}
use Rattle.race_order.specs.Tables.{same_role, sets_have}
use Rattle.race_order.proofs.SameRole.{or_assoc}
use Rattle.race_order.proofs.Moved.{at_once, up_done}
use Rattle.race_order.proofs.passes.pass_complete.Goals as goal

pub returns-clause-has : goal.returns-clause-has
returns-clause-has c =
    let x = c.args.c.now in
    let done : x.progress.done ≡ true = c.if-not-c.false in
    let into = λ (r : QueueRole) (b : Bool). list_any (λ k. same_role (Complete x.spe k) r && b) (classes_of x.progress.command) || list_any (λ d. is_ahead x d && (same_role (Waits d.spe d.cmd) r && b)) c.args.next.now in
    let known : (a : At) → has_at c.gather.new.known a ≡ sets_have c.args.sets.now (Waits x.spe x.cmd) a = λ a. c.in_ok-gather.ensures.has a ∙ ap (λ b. b || sets_have c.args.sets.now (Waits x.spe x.cmd) a) (c.clear.ensures.empty a) in
    at_once (λ g. done_any g c.args.next.now c.args.c.now) (sets_have c.args.sets.now) (sets_have c.put_waits.new.sets) (up_done c.args.next.now c.args.c.now)
    (λ r a.
    c.in_ok-put_waits.ensures.has r a
    ∙ (ap (λ b. b || list_any (λ d. is_ahead x d && (same_role (Waits d.spe d.cmd) r && has_at c.gather.new.known a)) c.args.next.now) (c.in_ok-put_classes.ensures.has r a)
    ∙ (or_assoc (sets_have c.args.sets.now r a) (list_any (λ k. same_role (Complete x.spe k) r && has_at c.gather.new.known a) (classes_of x.progress.command)) (list_any (λ d. is_ahead x d && (same_role (Waits d.spe d.cmd) r && has_at c.gather.new.known a)) c.args.next.now)
    ∙ (ap (λ b. sets_have c.args.sets.now r a || into r b) (known a)
    ∙ ap (λ b. sets_have c.args.sets.now r a || (b && into r (sets_have c.args.sets.now (Waits x.spe x.cmd) a))) (sym done)))))
