use Rattle.std.proofs.Common.{arith, ◌≡◌, ℕ, ◌-◌, ◌^◌, ◌<◌, ap, sym, subst, ◌∙◌}
use Rattle.std.specs.Prelude.{bit_and, Some}
use Rattle.std.specs.Int.{trailing_zeros, w64}
use Rattle.unwritten_reads.specs.Marks.{IsFirst, has_bit, looked}
use Rattle.unwritten_reads.proofs.Bits.{first-none, first-some}
use Rattle.unwritten_reads.proofs.known.first_bit.Goals as goal

pub returns-then-found-eq0 : goal.returns-then-found-eq0
returns-then-found-eq0 c =
    let r = c.args.range in
    let small : c.args.word < 2 ^ 64 = omega arith in
    let is : bit_and c.looked.result c.mask.result ≡ bit_and (looked c.args.is_in c.args.word) (2 ^ r.end - 2 ^ r.from) =
    ap (λ n. bit_and n c.mask.result) c.looked.ensures ∙ ap (bit_and (looked c.args.is_in c.args.word)) c.mask.ensures in
    first-none c.args.word c.args.is_in r small c.requires.fits (sym is ∙ c.if-found-eq0.true)

pub returns : goal.returns
returns c =
    let r = c.args.range in
    let small : c.args.word < 2 ^ 64 = omega arith in
    let is : bit_and c.looked.result c.mask.result ≡ bit_and (looked c.args.is_in c.args.word) (2 ^ r.end - 2 ^ r.from) =
    ap (λ n. bit_and n c.mask.result) c.looked.ensures ∙ ap (bit_and (looked c.args.is_in c.args.word)) c.mask.ensures in
    subst (λ (n : ℕ). IsFirst (has_bit c.args.word) c.args.is_in r (Some (trailing_zeros w64 n))) (sym is)
    (first-some c.args.word c.args.is_in r small c.requires.fits (λ none. c.if-found-eq0.false (is ∙ none)))
