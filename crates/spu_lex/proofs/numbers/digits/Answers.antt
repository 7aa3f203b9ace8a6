use Rattle.std.proofs.Common.{◌≡◌, ℕ, ◌+◌, ◌*◌, length, take, Some, ap, sym, ◌∙◌, arith}
use Rattle.std.specs.Str.Parse.{digits_value, AllDigits}
use Rattle.std.proofs.lemmas.Int.Digits.{digits_value_more, digits_more}
use Rattle.std.proofs.lemmas.Bool.{eqb-false}
use Rattle.std.proofs.lemmas.List.{take_all}
use Rattle.spu_lex.proofs.Digits.{too_large, fits}
use Rattle.spu_lex.proofs.numbers.digits.Goals as goal

pub returns-in_err-checked_mul : goal.returns-in_err-checked_mul
returns-in_err-checked_mul c =
    let ds = c.args.word.now in
    let i = c.loop-b.b-index in
    let more = digits_value_more c.args.radix ds i (omega arith) in
    let scaled = ap (λ (v : ℕ). v * c.args.radix) c.loop-b.invariant.value in
    c.from_residual-in_err-checked_mul.ensures ∙ sym (too_large c.args.radix ds (i + 1) (omega arith) (omega (arith, more, scaled, c.in_err-checked_mul.ensures, c.loop-b.invariant.value)))

pub returns-in_err-value : goal.returns-in_err-value
returns-in_err-value c =
    let ds = c.args.word.now in
    let i = c.loop-b.b-index in
    let more = digits_value_more c.args.radix ds i (omega arith) in
    let scaled = ap (λ (v : ℕ). v * c.args.radix) c.loop-b.invariant.value in
    let digit = c.in_ok-digit.ensures.value in
    let shifted = c.in_ok-checked_mul.ensures in
    c.from_residual-in_err-value.ensures ∙ sym (too_large c.args.radix ds (i + 1) (omega arith) (omega (arith, more, scaled, c.in_err-value.ensures, digit, shifted, c.loop-b.invariant.value)))

pub loop-b-preserved : goal.loop-b-preserved
loop-b-preserved c =
    let ds = c.args.word.now in
    let i = c.loop-b.b-index in
    let more = digits_value_more c.args.radix ds i (omega arith) in
    let scaled = ap (λ (v : ℕ). v * c.args.radix) c.loop-b.invariant.value in
    let digit = c.in_ok-digit.ensures.value in
    let shifted = c.in_ok-checked_mul.ensures in
    let sum = c.in_ok-value.ensures in
    record {
      value = omega (arith, more, scaled, digit, shifted, sum, c.loop-b.invariant.value);
      digits = digits_more c.args.radix ds i (omega arith) c.loop-b.invariant.digits digit.0;
      fits = omega (arith, sum);
    }

pub returns : goal.returns
returns c =
    let ds = c.args.word.now in
    let all : take c.loop-b.b-index ds ≡ ds = take_all c.loop-b.b-index ds (omega arith) in
    let value : c.loop-b.value ≡ digits_value c.args.radix ds = c.loop-b.invariant.value ∙ ap (digits_value c.args.radix) all in
    let digits : AllDigits c.args.radix ds = rw all at c.loop-b.invariant.digits in
    ap Some value ∙ sym (fits c.args.radix ds (omega (arith, eqb-false (length ds) 0 (sym c.if-is_empty.ensures))) digits (omega (arith, value, c.loop-b.invariant.fits)))
