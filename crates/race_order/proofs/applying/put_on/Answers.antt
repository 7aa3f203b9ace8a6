use Rattle.std.proofs.Common.{◌||◌, set, sym, ap, ◌∙◌}
use Rattle.std.proofs.lemmas.Result.{on_ok_weaker}
use Rattle.std.specs.List.{list_any}
use Rattle.race_order.specs.declared.lives.Live.{Live}
use Rattle.race_order.specs.Bringing.{has_brought}
use Rattle.race_order.specs.Lives.{is_target, is_touched, moved, touch_brings}
use Rattle.race_order.specs.Passes.{stall_any}
use Rattle.race_order.specs.Tables.{sets_have}
use Rattle.race_order.proofs.Entered.{touch_is, stall_is}
use Rattle.race_order.proofs.Moved.{moved_as}
use Rattle.race_order.proofs.Small.{and-off}
use Rattle.race_order.proofs.Sole.{any_sole, map_sole, set_done, sole_as}
use Rattle.race_order.proofs.Untouched.{not_moved, not_stalled}
use Rattle.race_order.proofs.applying.put_on.Goals as goal

pub returns-in_default-clause-put : goal.returns-in_default-clause-put
returns-in_default-clause-put c = on_ok_weaker c.go_on_all.result (λ has. record {
  touched = sets_have c.touch_all.new.sets;
  issued = sets_have c.pass_issue.new.sets;
  is_touched = c.in_ok-touch_all.ensures.has;
  is_issued = c.in_ok-pass_issue.ensures.has;
  is_stalled = has;
}) c.go_on_all.ensures.has

pub returns-clause-put : goal.returns-clause-put
returns-clause-put c =
    let b = c.args.brought.now in
    let step = b.step in
    let note = b.effect.now.note in
    let xs = c.args.lives.now in
    let is = λ (l : Live). is_touched l step note in
    let sole = sole_as (is_target c.target_of.result) is xs c.in-Some.i c.target_of.ensures c.in-Some.ensures in
    record {
      touched = sets_have c.enter.new.sets;
      issued = sets_have c.pass_issue-2.new.sets;
      is_touched = λ r a.
          c.in_ok-enter.ensures.has r a
          ∙ ap (λ x. sets_have c.args.sets.now r a || x)
          (touch_is b.spes step note (has_brought b) r a _ _ c.after_step-next.ensures (sole.here _)
          ∙ sym (any_sole is (touch_brings b.spes step note (has_brought b) r a) xs c.in-Some.i _ (λ l untouched. and-off _ _ untouched) sole));
      is_issued = c.in_ok-pass_issue-2.ensures.has;
      is_stalled = moved_as _ (λ g. list_any (stall_any g step note) xs) (sets_have c.pass_issue-2.new.sets) (sets_have c.pass_stall.new.sets)
          (λ g. stall_is g step note _ _ c.after_step-next.ensures ∙ sym (any_sole is (stall_any g step note) xs c.in-Some.i _ (λ l untouched. not_stalled g l step note untouched) sole))
          c.in_ok-pass_stall.ensures.has;
    }

pub returns-clause-next : goal.returns-clause-next
returns-clause-next c =
    let b = c.args.brought.now in
    let f = λ (l : Live). moved l b.step b.effect.now.note in
    let is = λ (l : Live). is_touched l b.step b.effect.now.note in
    let sole = sole_as (is_target c.target_of.result) is c.args.lives.now c.in-Some.i c.target_of.ensures c.in-Some.ensures in
    ap (set c.args.lives.now c.in-Some.i) c.after_step-next.ensures
    ∙ map_sole is f c.args.lives.now c.in-Some.i _ (λ l untouched. not_moved l b.step b.effect.now.note untouched) sole

pub returns-clause-done : goal.returns-clause-done
returns-clause-done c =
    let b = c.args.brought.now in
    let is = λ (l : Live). is_touched l b.step b.effect.now.note in
    let sole = sole_as (is_target c.target_of.result) is c.args.lives.now c.in-Some.i c.target_of.ensures c.in-Some.ensures in
    set_done (λ (l : Live). l.progress.done) c.args.lives.now c.in-Some.i c.after_step-next.result sole.inside c.requires.live
