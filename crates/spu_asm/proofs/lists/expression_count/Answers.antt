use Rattle.std.proofs.Common.{length, sym, ◌∙◌, arith}
use Rattle.std.specs.Option.{option_map}
use Rattle.std.proofs.lemmas.Bool.{eqb-false, eqb-true}
use Rattle.spu_asm.specs.Statements.{expressions_of}
use Rattle.spu_asm.proofs.Counting.{no_expression, last_expression, no_comma, next_expression, too_many}
use Rattle.spu_asm.proofs.lists.expression_count.Goals as goal

pub returns-in_err-after : goal.returns-in_err-after
returns-in_err-after c =
    c.from_residual.ensures ∙ sym (no_expression c.args.text.now c.loop.count c.loop.counter (length c.args.tokens.now) c.loop.rest.now (option_map (λ es. length es) (expressions_of c.args.text.now c.args.tokens.now)) (omega arith) c.loop.invariant.0 c.in_err-after.ensures.expression)

pub returns-then-is_empty : goal.returns-then-is_empty
returns-then-is_empty c =
    sym (last_expression c.args.text.now c.loop.count c.loop.counter (length c.args.tokens.now) c.loop.rest.now (option_map (λ es. length es) (expressions_of c.args.text.now c.args.tokens.now)) (omega arith) c.loop.invariant.0 c.in_ok-after.field-0-0 c.in_ok-after.after.now c.in_ok-after.ensures.expression (eqb-true _ _ (sym c.if-is_empty.ensures)))

pub returns-in_err-rest : goal.returns-in_err-rest
returns-in_err-rest c =
    c.from_residual-in_err-rest.ensures ∙ sym (no_comma c.args.text.now c.loop.count c.loop.counter (length c.args.tokens.now) c.loop.rest.now (option_map (λ es. length es) (expressions_of c.args.text.now c.args.tokens.now)) (omega arith) c.loop.invariant.0 c.in_ok-after.field-0-0 c.in_ok-after.after.now c.in_ok-after.ensures.expression (omega (arith, eqb-false _ 0 (sym c.if-is_empty.ensures))) c.in_err-rest.ensures.rest)

pub loop-preserved : goal.loop-preserved
loop-preserved c =
    (next_expression c.args.text.now c.loop.count c.loop.counter (length c.args.tokens.now) c.loop.rest.now (option_map (λ es. length es) (expressions_of c.args.text.now c.args.tokens.now)) (omega arith) c.loop.invariant.0 c.in_ok-after.field-0-0 c.in_ok-after.after.now c.in_ok-rest.rest.now c.in_ok-after.ensures.expression (omega (arith, eqb-false _ 0 (sym c.if-is_empty.ensures))) c.in_ok-rest.ensures.rest, omega (arith, c.loop.invariant.1), c.in_ok-rest.ensures.within)

pub returns : goal.returns
returns c = sym (too_many c.args.text.now c.loop.count c.loop.counter (length c.args.tokens.now) c.loop.rest.now (option_map (λ es. length es) (expressions_of c.args.text.now c.args.tokens.now)) (omega arith) c.loop.invariant.0)
