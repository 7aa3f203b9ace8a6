use Rattle.std.proofs.Common.{◌≡◌, ◌+◌, take, drop, length, Ok, Err, sym, arith}
use Rattle.std.proofs.lemmas.Bool.{eqb-false, eqb-true}
use Rattle.std.proofs.lemmas.List.Elements.{All-drop}
use Rattle.std.proofs.lemmas.Result.{err_from_is_err_and}
use Rattle.spu_lex.specs.Order.{LiesIn}
use Rattle.spu_asm.specs.Statements.{statement_of}
use Rattle.spu_asm.specs.Outcomes.{on_line}
use Rattle.spu_asm.specs.ReadLines.{IsRead}
use Rattle.spu_asm.specs.Source.{source_view, after_labels, labels_of, with_labels, labels_view, line_len, source_of}
use Rattle.spu_asm.proofs.SourceLemmas.{goes_on, wrong_statement, wrong_label, is_done, all_read, added_err}
use Rattle.spu_asm.proofs.OutcomeLemmas.{shows_err}
use Rattle.spu_asm.proofs.source.labels_in.Goals as goal

pub returns-in_err-statement-clause-source : goal.returns-in_err-statement-clause-source
returns-in_err-statement-clause-source c =
    let text = c.args.text.now in
    let tokens = c.args.tokens.now in
    let unread = c.loop-unread.unread in
    let rest = unread.tokens.now in
    let e = c.in_err-statement.field-0.0 in
    let p = err_from_is_err_and c.from_residual.result c.from_residual.ensures.1 in
    let stated : on_line unread.number (statement_of text unread.section (after_labels text (take (line_len rest) rest))) ≡ Err e = rw (← c.first_line-line.ensures, ← c.after_labels-stated.ensures.after) (sym c.in_err-statement.ensures.statement) in
    rw (p.1, p.2) (shows_err (source_view text tokens) e (source_of text tokens) (wrong_statement text unread.number unread.section (labels_view c.loop-unread.labels.entries) rest tokens (omega (arith, eqb-false _ 0 (sym c.loop-unread-test.ensures))) c.loop-unread.invariant.reads e stated))

pub returns-in_err-add_labels-clause-source : goal.returns-in_err-add_labels-clause-source
returns-in_err-add_labels-clause-source c =
    let text = c.args.text.now in
    let tokens = c.args.tokens.now in
    let unread = c.loop-unread.unread in
    let rest = unread.tokens.now in
    let e = c.in_err-add_labels.field-0.0 in
    let p = err_from_is_err_and c.from_residual-in_err-add_labels.result c.from_residual-in_err-add_labels.ensures.1 in
    let stated : on_line unread.number (statement_of text unread.section (after_labels text (take (line_len rest) rest))) ≡ Ok c.in_ok-statement.statement = rw (← c.first_line-line.ensures, ← c.after_labels-stated.ensures.after) (sym c.in_ok-statement.ensures.statement) in
    rw (p.1, p.2) (added_err e (λ _. labels_view c.add_labels.new.labels.entries) _ (source_view text tokens) (source_of text tokens) (rw c.first_line-line.ensures at c.in_err-add_labels.ensures) (λ labelled. wrong_label text unread.number unread.section (labels_view c.loop-unread.labels.entries) rest tokens (omega (arith, eqb-false _ 0 (sym c.loop-unread-test.ensures))) c.loop-unread.invariant.reads c.in_ok-statement.statement e stated labelled))

pub loop-unread-preserved : goal.loop-unread-preserved
loop-unread-preserved c =
    let text = c.args.text.now in
    let tokens = c.args.tokens.now in
    let unread = c.loop-unread.unread in
    let rest = unread.tokens.now in
    let next = c.after_line-unread in
    let stated : on_line unread.number (statement_of text unread.section (after_labels text (take (line_len rest) rest))) ≡ Ok c.in_ok-statement.statement = rw (← c.first_line-line.ensures, ← c.after_labels-stated.ensures.after) (sym c.in_ok-statement.ensures.statement) in
    let labelled : on_line unread.number (with_labels (labels_view c.loop-unread.labels.entries) unread.number (labels_of text (take (line_len rest) rest))) ≡ Ok (labels_view c.add_labels.new.labels.entries) = rw (← c.first_line-line.ensures) c.in_ok-add_labels.ensures in
    let read : IsRead text unread.section c.in_ok-statement.statement (drop 1 (after_labels text (take (line_len rest) rest))) = rw (← c.first_line-line.ensures, ← c.after_labels-stated.ensures.after) c.in_ok-statement.ensures.read in
    let more = goes_on text unread.number unread.section (labels_view c.loop-unread.labels.entries) rest tokens (omega (arith, eqb-false _ 0 (sym c.loop-unread-test.ensures))) c.loop-unread.invariant.reads c.in_ok-statement.statement (labels_view c.add_labels.new.labels.entries) stated labelled read in
    record {
      reads = rw (next.ensures.number, next.ensures.section, next.ensures.tokens) more;
      left = (rw next.ensures.tokens (All-drop (LiesIn (length text)) (line_len rest + 1) rest c.loop-unread.invariant.left.0), next.ensures.room);
    }

pub returns-clause-source : goal.returns-clause-source
returns-clause-source c =
    let unread = c.loop-unread.unread in
    is_done c.args.text.now unread.number unread.section (labels_view c.loop-unread.labels.entries) unread.tokens.now c.args.tokens.now (eqb-true _ _ (sym c.loop-unread-test.ensures)) c.loop-unread.invariant.reads

pub returns-clause-read : goal.returns-clause-read
returns-clause-read c =
    let unread = c.loop-unread.unread in
    all_read c.args.text.now unread.number unread.section (labels_view c.loop-unread.labels.entries) unread.tokens.now c.args.tokens.now (eqb-true _ _ (sym c.loop-unread-test.ensures)) c.loop-unread.invariant.reads
