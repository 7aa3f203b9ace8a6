use Rattle.std.proofs.lemmas.Result.{err_from_is_err_and}
use Rattle.cell_library.proofs.AnswersLaws.{words_fail, files_fail, both_read}
use Rattle.cell_library.proofs.asking.read_both.Goals as goal

pub returns-in_err-words : goal.returns-in_err-words
returns-in_err-words c =
    let p = err_from_is_err_and c.from_residual.result c.from_residual.ensures.1 in
    rw (p.1, p.2) (words_fail c.args.words.now c.args.files.now c.in_err-words.field-0.0 c.in_err-words.ensures)

pub returns-in_err-files : goal.returns-in_err-files
returns-in_err-files c =
    let p = err_from_is_err_and c.from_residual-in_err-files.result c.from_residual-in_err-files.ensures.1 in
    rw (p.1, p.2) (files_fail c.args.words.now c.args.files.now c.in_err-files.field-0.0 c.in_err-files.ensures)

pub returns : goal.returns
returns c = both_read c.args.words.now c.args.files.now c.in_ok-words.words c.in_ok-files.files c.in_ok-words.ensures c.in_ok-files.ensures
