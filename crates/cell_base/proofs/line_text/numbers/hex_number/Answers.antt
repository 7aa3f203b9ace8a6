use Rattle.std.proofs.Common.{arith, ◌≡◌, ◌<◌, ◌^◌, [], ◌∙◌, ◌+◌, ◌*◌, length, sym, ap, None, refl}
use Rattle.std.proofs.lemmas.List.{nil_from_length}
use Rattle.cell_base.specs.Numbers.{hex_value}
use Rattle.cell_base.proofs.HexDigits.{hex_below, hex_fits, hex_more, hex_none, hex_end, hex_allowed, positive}
use Rattle.cell_base.proofs.line_text.numbers.hex_number.Goals as goal

pub loop-c-init : goal.loop-c-init
loop-c-init c = record { few = omega arith; below = positive _; whole = refl }

pub returns-in_err-digit : goal.returns-in_err-digit
returns-in_err-digit c =
    let some : 0 < length c.args.digits.now = grind arith in
    let here = c.in-Some.ensures.cases.0 in
    let stop : hex_value c.loop-c.n c.loop-c.rest.now ≡ None = ap (hex_value c.loop-c.n) here ∙ hex_none c.loop-c.n c.in-Some.c.now c.in-Some.after.now (sym c.in_err-digit.ensures.value) in
    c.from_residual.ensures ∙ sym (hex_allowed c.args.digits.now some c.if-digits-gt8.false ∙ sym c.loop-c.invariant.whole ∙ stop)

pub loop-c-preserved : goal.loop-c-preserved
loop-c-preserved c = record {
  few = omega (arith, c.loop-c.invariant.few, c.in-Some.ensures.cases.1);
  below = hex_below c.loop-c.n c.from.result (length c.loop-c.rest.now) (length c.in-Some.after.now) c.loop-c.invariant.few c.in-Some.ensures.cases.1 c.loop-c.invariant.below (omega (arith, c.in_ok-digit.ensures.bound));
  whole = ap (λ d. hex_value (c.loop-c.n * 16 + d) c.in-Some.after.now) c.from.ensures ∙ hex_more c.loop-c.n c.in-Some.c.now c.in_ok-digit.digit c.in-Some.after.now (sym c.in_ok-digit.ensures.value) ∙ ap (hex_value c.loop-c.n) (sym c.in-Some.ensures.cases.0) ∙ c.loop-c.invariant.whole;
}

pub overflow_mul-n : goal.overflow_mul-n
overflow_mul-n c = let small : c.loop-c.n < 2 ^ 32 = hex_fits c.loop-c.n _ (omega arith) c.loop-c.invariant.below in omega arith

pub overflow_add-n : goal.overflow_add-n
overflow_add-n c = let small : c.loop-c.n < 2 ^ 32 = hex_fits c.loop-c.n _ (omega arith) c.loop-c.invariant.below in omega (arith, c.in_ok-digit.ensures.bound)

pub returns : goal.returns
returns c =
    let some : 0 < length c.args.digits.now = grind arith in
    let empty : c.loop-c.rest.now ≡ [] = nil_from_length c.loop-c.rest.now c.in_default.ensures.cases in
    sym (hex_allowed c.args.digits.now some c.if-digits-gt8.false ∙ sym c.loop-c.invariant.whole ∙ ap (hex_value c.loop-c.n) empty ∙ hex_end c.loop-c.n)
