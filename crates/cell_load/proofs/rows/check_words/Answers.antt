use Rattle.std.proofs.Common.{◌≡◌, ◌+◌, ◌-◌, ◌*◌, false, refl, sym, ap, ◌∙◌, arith}
use Rattle.std.proofs.Common.{true, Some, is_none}
use Rattle.spu_decode.specs.Spelling.{instr_of}
use Rattle.cell_load.specs.Loaded.{first_without_row, lacks_row}
use Rattle.cell_load.proofs.RowLemmas.{decoded_lacks, next_place, no_place, row_here, row_later}
use Rattle.cell_load.proofs.rows.check_words.Goals as goal

pub loop-k-preserved-then-not-marks-k : goal.loop-k-preserved-then-not-marks-k
loop-k-preserved-then-not-marks-k c = λ t marked.
    let cut = next_place c.loop-k.k (65536 - c.loop-k.k) (65536 - (c.loop-k.k + 1)) (omega arith) in
    let text : t (4 * c.loop-k.k) ≡ false = sym (marked c.loop-k.k (omega arith)) ∙ c.if-not-marks-k.true in
    c.loop-k.invariant t marked ∙ row_later t c.args.spe c.args.store.now _ (4 * c.loop-k.k) _ cut (rw text refl)

pub returns-then-is_none : goal.returns-then-is_none
returns-then-is_none c = λ t marked.
    let cut = next_place c.loop-k.k (65536 - c.loop-k.k) (65536 - (c.loop-k.k + 1)) (omega arith) in
    let text : t (4 * c.loop-k.k) ≡ true = sym (marked c.loop-k.k (omega arith)) ∙ c.if-not-marks-k.false in
    let lacks : is_none (instr_of c.word-word.result) ≡ true = rw (← c.decode.ensures.means) (decoded_lacks c.decode.result c.is_none.result true c.is_none.ensures c.if-is_none.true) in
    c.loop-k.invariant t marked
    ∙ row_here t c.args.spe c.args.store.now _ (4 * c.loop-k.k) _ cut text (ap (λ w. is_none (instr_of w)) (sym c.word-word.ensures) ∙ lacks)
    ∙ ap (λ w. Some (record { spe = c.args.spe; address = 4 * c.loop-k.k; word = w })) (sym c.word-word.ensures)

pub loop-k-preserved : goal.loop-k-preserved
loop-k-preserved c = λ t marked.
    let cut = next_place c.loop-k.k (65536 - c.loop-k.k) (65536 - (c.loop-k.k + 1)) (omega arith) in
    let text : t (4 * c.loop-k.k) ≡ true = sym (marked c.loop-k.k (omega arith)) ∙ c.if-not-marks-k.false in
    let has : is_none (instr_of c.word-word.result) ≡ false = rw (← c.decode.ensures.means) (decoded_lacks c.decode.result c.is_none.result false c.is_none.ensures c.if-is_none.false) in
    let has_at : lacks_row c.args.store.now (4 * c.loop-k.k) ≡ false = ap (λ w. is_none (instr_of w)) (sym c.word-word.ensures) ∙ has in
    c.loop-k.invariant t marked ∙ row_later t c.args.spe c.args.store.now _ (4 * c.loop-k.k) _ cut (rw (text, has_at) refl)

pub returns : goal.returns
returns c = λ t marked. c.loop-k.invariant t marked ∙ ap (first_without_row t c.args.spe c.args.store.now) (no_place c.loop-k.k (65536 - c.loop-k.k) (omega arith))
