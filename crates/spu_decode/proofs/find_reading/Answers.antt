use Rattle.std.proofs.Common.{◌≡◌, suc, ◌-◌, sym, ◌∙◌, arith}
use Rattle.spu_decode.proofs.ReadingLemmas.{no_row-reading, row-reading, unclear-reading}
use Rattle.spu_decode.proofs.find_reading.Goals as goal

pub returns-then-number-eq0 : goal.returns-then-number-eq0
returns-then-number-eq0 c = no_row-reading c.args.w c.ranges.w.fits (sym c.row_number-number.ensures.at ∙ c.if-number-eq0.true)

pub returns-then-w-reading-eq0 : goal.returns-then-w-reading-eq0
returns-then-w-reading-eq0 c =
    let number : c.row_number-number.result ≡ suc (c.row_number-number.result - 1) = omega arith in
    row-reading c.args.w (c.row_number-number.result - 1) c.reading_at-reading.result c.ranges.w.fits (sym c.row_number-number.ensures.at ∙ number)
    c.reading_at-reading.ensures.row c.reading_at-reading.ensures.reading c.if-w-reading-eq0.true

pub returns-else-w-reading-eq0 : goal.returns-else-w-reading-eq0
returns-else-w-reading-eq0 c =
    let number : c.row_number-number.result ≡ suc (c.row_number-number.result - 1) = omega arith in
    unclear-reading c.args.w (c.row_number-number.result - 1) c.reading_at-reading.result c.ranges.w.fits (sym c.row_number-number.ensures.at ∙ number)
    c.reading_at-reading.ensures.row c.reading_at-reading.ensures.reading c.if-w-reading-eq0.false
