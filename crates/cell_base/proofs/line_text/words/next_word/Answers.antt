use Rattle.std.proofs.Common.{sym}
use Rattle.cell_base.proofs.WordLaws.{no_words, word_then, word_last}
use Rattle.cell_base.proofs.line_text.words.next_word.Goals as goal

pub returns-in_err-word : goal.returns-in_err-word
returns-in_err-word c = rw c.from_residual.ensures (no_words c.args.bytes.now (sym c.in_err-word.ensures))

pub returns-in-Some : goal.returns-in-Some
returns-in-Some c = word_then c.args.bytes.now c.in_ok-word.field-0 c.in-Some.i (sym c.in_ok-word.ensures) (sym c.in-Some.ensures)

pub returns-in-None : goal.returns-in-None
returns-in-None c = word_last c.args.bytes.now c.in_ok-word.field-0 (sym c.in_ok-word.ensures) (sym c.in-None.ensures)
