use Rattle.std.proofs.Common.{◌≡◌, take, drop}
use Rattle.std.proofs.lemmas.List.Elements.{All-drop}
use Rattle.spu_lex.specs.Order.{LiesIn}
use Rattle.spu_asm.specs.Source.{after_labels, line_len, stated}
use Rattle.spu_asm.proofs.SourceLemmas.{next_line_is}
use Rattle.spu_asm.proofs.source.read_line.Goals as goal

pub returns-clause-line : goal.returns-clause-line
returns-clause-line c =
    let text = c.args.text.now in
    let unread = c.args.unread in
    let others = c.after_line.result in
    let tokens : c.after_labels-stated.result.now ≡ after_labels text (take (line_len unread.tokens.now) unread.tokens.now) = rw c.first_line.ensures at c.after_labels-stated.ensures.after in
    let statement : c.statement_or_nothing-statement.result ≡ stated text unread.section (take (line_len unread.tokens.now) unread.tokens.now) = rw tokens at c.statement_or_nothing-statement.ensures.statement in
    let arguments : c.after_first.result.now ≡ drop 1 (after_labels text (take (line_len unread.tokens.now) unread.tokens.now)) = rw tokens at c.after_first.ensures in
    next_line_is text unread.number unread.section unread.tokens.now c.requires.some c.statement_or_nothing-statement.result c.after_first.result.now others.number others.section others.tokens.now
    statement arguments c.after_line.ensures.number c.after_line.ensures.section c.after_line.ensures.tokens

pub returns-clause-read : goal.returns-clause-read
returns-clause-read c =
    rw c.after_first.ensures (c.statement_or_nothing-statement.ensures.read, All-drop (LiesIn _) 1 c.after_labels-stated.result.now c.after_labels-stated.ensures.within)
