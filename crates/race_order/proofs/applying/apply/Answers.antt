use Rattle.std.proofs.Common.{◌≡◌, ◌||◌, List, ap, subst, ◌∙◌}
use Rattle.std.specs.List.{list_any}
use Rattle.race_order.specs.declared.lives.Live.{Live}
use Rattle.race_order.specs.Bringing.{has_brought}
use Rattle.race_order.specs.Lives.{touch_brings}
use Rattle.race_order.specs.Passes.{AreMoved, done_any}
use Rattle.race_order.specs.Tables.{sets_have, AreOf}
use Rattle.race_order.proofs.applying.apply.Goals as goal
use Rattle.race_order.proofs.applying.apply.Goals.{In_ok-pass_fixed}

pub returns-clause-stepped : goal.returns-clause-stepped
returns-clause-stepped c =
    let b = c.args.brought.now in
    let put = c.in_ok-done.ensures.put in
    record {
      touched = put.touched;
      issued = put.issued;
      stalled = sets_have c.put_on.new.sets;
      done = sets_have c.pass_done.new.sets;
      is_touched = λ r a.
          put.is_touched r a
          ∙ ap (λ x. x || list_any (touch_brings b.spes b.step b.effect.now.note (has_brought c.args.brought.now) r a) c.args.lives.now) (c.in_ok-enter_all.ensures.has r a);
      is_issued = put.is_issued;
      is_stalled = put.is_stalled;
      is_done = subst (λ (next : List Live). AreMoved (λ g. list_any (done_any g next) next) (sets_have c.put_on.new.sets) (sets_have c.pass_done.new.sets)) c.in_ok-done.ensures.next c.in_ok-pass_done.ensures.has;
      is_fixed = c.in_ok-pass_fixed.ensures.has;
    }

-- the spare set stays of as many chains
same_chains : (c : In_ok-pass_fixed) → c.pass_done.new.spare.chains ≡ c.args.spare.now.chains
same_chains c = c.pass_done.ensures.spare ∙ c.put_on.ensures.spare

pub returns-clause-next : goal.returns-clause-next
returns-clause-next c = c.in_ok-done.ensures.next

pub returns-clause-done : goal.returns-clause-done
returns-clause-done c = c.in_ok-done.ensures.done

pub returns-clause-chains : goal.returns-clause-chains
returns-clause-chains c = subst (λ n. AreOf n c.pass_fixed.new.sets) (same_chains c ∙ c.requires.spare) c.in_ok-pass_fixed.ensures.chains

pub returns-clause-spare : goal.returns-clause-spare
returns-clause-spare c = c.pass_fixed.ensures.spare ∙ same_chains c
