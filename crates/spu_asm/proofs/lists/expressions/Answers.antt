use Rattle.std.proofs.Common.{length, sym, ◌∙◌, arith}
use Rattle.std.proofs.lemmas.Bool.{eqb-false, eqb-true}
use Rattle.std.proofs.lemmas.List.Elements.{All-push}
use Rattle.spu_asm.specs.Expressions.{IsOf}
use Rattle.spu_asm.specs.Statements.{expressions_of}
use Rattle.spu_asm.proofs.Counting.{no_item, last_item, no_separator, next_item, no_room}
use Rattle.spu_asm.proofs.lists.expressions.Goals as goal

pub returns-in_default-clause-listed : goal.returns-in_default-clause-listed
returns-in_default-clause-listed c =
    c.new.ensures.items ∙ no_item c.args.text.now c.loop.found.items c.loop.counter (length c.args.tokens.now) c.loop.rest.now (expressions_of c.args.text.now c.args.tokens.now) c.loop-test.true c.loop.invariant.lists c.in_default.ensures.expression

pub returns-then-is_empty-clause-listed : goal.returns-then-is_empty-clause-listed
returns-then-is_empty-clause-listed c =
    c.in_ok-push.ensures.items ∙ last_item c.args.text.now c.loop.found.items c.loop.counter (length c.args.tokens.now) c.loop.rest.now (expressions_of c.args.text.now c.args.tokens.now) c.loop-test.true c.loop.invariant.lists c.in-Some.e c.in-Some.after.now c.in-Some.ensures.expression (eqb-true _ _ (sym c.if-is_empty.ensures))

pub returns-in_default-mark_at-clause-listed : goal.returns-in_default-mark_at-clause-listed
returns-in_default-mark_at-clause-listed c =
    c.new-in_default-mark_at.ensures.items ∙ no_separator c.args.text.now c.loop.found.items c.loop.counter (length c.args.tokens.now) c.loop.rest.now (expressions_of c.args.text.now c.args.tokens.now) c.loop-test.true c.loop.invariant.lists c.in-Some.e c.in-Some.after.now c.in-Some.ensures.expression (omega (arith, eqb-false _ 0 (sym c.if-is_empty.ensures))) c.in_default-mark_at.ensures.rest

pub loop-preserved : goal.loop-preserved
loop-preserved c =
    record {
      lists = rw c.in_ok-push.ensures.items (next_item c.args.text.now c.loop.found.items c.loop.counter (length c.args.tokens.now) c.loop.rest.now (expressions_of c.args.text.now c.args.tokens.now) c.loop-test.true c.loop.invariant.lists c.in-Some.e c.in-Some.after.now c.in-Some-mark_at.next.now c.in-Some.ensures.expression (omega (arith, eqb-false _ 0 (sym c.if-is_empty.ensures))) c.in-Some-mark_at.ensures.rest);
      of = rw c.in_ok-push.ensures.items (All-push (IsOf c.args.text.now) c.loop.found.items c.in-Some.e c.loop.invariant.of c.in-Some.ensures.of);
      within = c.in-Some-mark_at.ensures.within;
    }

pub returns-clause-listed : goal.returns-clause-listed
returns-clause-listed c =
    c.new-2.ensures.items ∙ no_room c.args.text.now c.loop.found.items c.loop.counter (length c.args.tokens.now) c.loop.rest.now (expressions_of c.args.text.now c.args.tokens.now) c.loop-test.false c.loop.invariant.lists
