use Rattle.std.proofs.Common.{rules, ◌≡◌, ◌++◌, length, take, drop, filter, not, sym, ap, ◌∙◌, subst}
use Rattle.std.proofs.lemmas.List.{length-map}
use Rattle.cell_machine.proofs.AllTwo.{whole}
use Rattle.race_order.specs.Bringing.{has_brought, entered, nexts, AreStepped}
use Rattle.race_order.specs.Lives.{moved}
use Rattle.race_order.specs.Ordering.{issued_in}
use Rattle.race_order.specs.Passes.{is_over}
use Rattle.race_order.specs.Standing.{with_issued}
use Rattle.race_order.specs.Tables.{sets_have}
use Rattle.race_order.proofs.applying.take_own.Goals as goal
use Rattle.race_order.proofs.applying.take_own.Goals.{In_ok-add_issued}

-- the commands after the step
next : (c : In_ok-add_issued) → take c.args.lives.now.len (c.apply.new.lives ++ drop (length c.apply.new.lives) c.args.lives.now.items) ≡ nexts c.args.brought.now.step c.args.brought.now.effect.now c.args.lives.now.items
next c =
    let b = c.args.brought.now in
    let are : c.apply.new.lives ≡ nexts b.step b.effect.now c.args.lives.now.items = c.in_ok-done.ensures.next ∙ ap (nexts b.step b.effect.now) c.as_mut_slice.ensures.value in
    let many : length c.apply.new.lives ≡ length c.args.lives.now.items = ap length are ∙ length-map c.args.lives.now.items (λ l. moved l b.step b.effect.now.note) in
    let len : c.args.lives.now.len ≡ length c.args.lives.now.items = search rules in
    whole c.args.lives.now.len c.apply.new.lives c.args.lives.now.items (len ∙ sym many) ∙ are

pub returns-clause-stepped : goal.returns-clause-stepped
returns-clause-stepped c =
    let b = c.args.brought.now in
    record {
      all = sets_have c.apply.new.sets;
      stepped =
          subst (λ lives. AreStepped b.spes b.step b.effect.now (has_brought c.args.brought.now) lives (entered c.args.boxes.now c.args.brought.now) (sets_have c.args.sets.now) (sets_have c.apply.new.sets)) c.as_mut_slice.ensures.value c.in_ok-done.ensures.stepped;
      kept = λ r a none. c.drop_done.ensures.has r a (ap (λ lives. is_over lives r) (next c) ∙ none);
    }

pub returns-clause-lives : goal.returns-clause-lives
returns-clause-lives c =
    c.in_ok-add_issued.ensures ∙ ap (with_issued (issued_in c.args.brought.now.step c.args.brought.now.effect.now.note)) (c.drop_done.ensures.lives ∙ ap (filter (λ l. not l.progress.done)) (next c))

pub returns-clause-chains : goal.returns-clause-chains
returns-clause-chains c = c.drop_done.ensures.chains _ c.in_ok-done.ensures.chains
