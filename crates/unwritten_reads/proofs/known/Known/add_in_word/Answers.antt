use Rattle.std.proofs.Common.{◌≡◌, ℕ, ◌/◌, ap, ◌∙◌}
use Rattle.std.specs.Prelude.{◌||◌, bit_or, slice_index, slice_set}
use Rattle.std.proofs.lemmas.Result.{IfOk-weaker}
use Rattle.unwritten_reads.specs.Marks.{is_marked}
use Rattle.unwritten_reads.specs.Ranges.{in_range}
use Rattle.unwritten_reads.proofs.Words.{marked-in}
use Rattle.unwritten_reads.proofs.known.Known.add_in_word.Goals as goal

pub returns-clause-marked : goal.returns-clause-marked
returns-clause-marked c =
    let marks = c.args.self.now.marks in
    let r = c.args.range in
    let index = r.from / 64 in
    let new = c.put.new.self in
    IfOk-weaker c.put.result (λ _. new ≡ slice_set marks index (bit_or c.get.result c.mask.result)) (λ _. (b : ℕ) → is_marked new b ≡ (is_marked marks b || in_range r b))
    (λ _ made b.
    marked-in marks r c.requires.some c.requires.word new
    (made ∙ ap (λ w. slice_set marks index (bit_or w c.mask.result)) c.get.ensures ∙ ap (λ n. slice_set marks index (bit_or (slice_index marks index) n)) c.mask.ensures) c.requires.inside b)
    c.put.ensures.put
