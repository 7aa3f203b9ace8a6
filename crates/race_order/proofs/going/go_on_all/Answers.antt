use Rattle.std.proofs.Common.{rules, ◌<◌, length, subst, sym, ◌∙◌}
use Rattle.race_order.specs.declared.lives.Live.{Live}
use Rattle.race_order.specs.Lives.{moved}
use Rattle.race_order.specs.Passes.{AreMoved, stall_any}
use Rattle.race_order.specs.Tables.{sets_have}
use Rattle.race_order.proofs.InPlace.{as_it_was, one_changed, one_passed}
use Rattle.race_order.proofs.Moved.{one_more, up_stall, still}
use Rattle.std.specs.List.{list_any}
use Rattle.std.proofs.lemmas.List.Folds.{list_any_none}
use Rattle.race_order.proofs.Passed.{none_any}
use Rattle.race_order.proofs.Untouched.{not_moved, not_stalled, all_same}
use Rattle.race_order.proofs.going.go_on_all.Goals as goal

pub loop-i-preserved : goal.loop-i-preserved
loop-i-preserved c =
    let xs = c.args.lives.now in
    let ys = c.loop-i.lives in
    let f = λ (l : Live). moved l c.args.brought.now.step c.args.brought.now.effect.now.note in
    let inside : c.loop-i.i < length c.args.lives.now = search rules in
    record {
      next = one_changed f xs ys c.loop-i.i _ c.go_on.new.live inside c.loop-i.invariant.next c.in_ok-done.ensures.next;
      has =
          one_more (λ g l. stall_any g c.args.brought.now.step c.args.brought.now.effect.now.note l) xs c.loop-i.i _ (sets_have c.args.sets.now) (sets_have c.loop-i.sets) (sets_have c.go_on.new.sets) (up_stall c.args.brought.now.step c.args.brought.now.effect.now.note) inside c.loop-i.invariant.has
          (subst (λ (l : Live). AreMoved (λ g. stall_any g c.args.brought.now.step c.args.brought.now.effect.now.note l) (sets_have c.loop-i.sets) (sets_have c.go_on.new.sets)) (as_it_was f xs ys c.loop-i.i _ c.loop-i.invariant.next) c.in_ok-done.ensures.has);
      chains = search rules;
      spare = search rules;
      done = one_passed f (λ (l : Live). l.progress.done) xs ys c.loop-i.i _ c.go_on.new.live c.loop-i.done c.in_ok-done.field-0 inside c.loop-i.invariant.next c.in_ok-done.ensures.next c.loop-i.invariant.done c.in_ok-done.ensures.done;
    }

pub returns-then-not-may_touch-clause-next : goal.returns-then-not-may_touch-clause-next
returns-then-not-may_touch-clause-next c =
    sym (all_same (λ (l : Live). moved l c.args.brought.now.step c.args.brought.now.effect.now.note) c.args.lives.now (λ l. not_moved l c.args.brought.now.step c.args.brought.now.effect.now.note (sym (c.target_of-target.ensures l) ∙ c.may_touch.ensures c.if-not-may_touch.true l)))

pub returns-then-not-may_touch-clause-has : goal.returns-then-not-may_touch-clause-has
returns-then-not-may_touch-clause-has c =
    still (λ g. list_any (stall_any g c.args.brought.now.step c.args.brought.now.effect.now.note) c.args.lives.now) (sets_have c.args.sets.now)
    (λ g. none_any (stall_any g c.args.brought.now.step c.args.brought.now.effect.now.note) c.args.lives.now (λ l. not_stalled g l c.args.brought.now.step c.args.brought.now.effect.now.note (sym (c.target_of-target.ensures l) ∙ c.may_touch.ensures c.if-not-may_touch.true l)))

pub returns-then-not-may_touch-clause-done : goal.returns-then-not-may_touch-clause-done
returns-then-not-may_touch-clause-done c = sym (list_any_none (λ (l : Live). l.progress.done) c.args.lives.now c.requires.live)
