use Rattle.std.proofs.Common.{sym, ◌∙◌}
use Rattle.cell_machine.specs.Transfers.{part_in}
use Rattle.cell_machine.proofs.Moving.{sent-spe, sent-memory, sent-reaches, copied-spe, copied-memory, copied-reaches}
use Rattle.cell_machine.proofs.transfers.move_part.Goals as goal

pub signal-requires : goal.signal-requires
signal-requires c = c.requires.signal (sym c.is_signal.ensures ∙ c.if-is_signal.true)

pub returns-then-is_signal-clause-store : goal.returns-then-is_signal-clause-store
returns-then-is_signal-clause-store c = λ P m reserved shows was. sent-spe m P c.args.kind (part_in c.args.x c.args.k) _ (sym c.is_signal.ensures ∙ c.if-is_signal.true) was

pub returns-then-is_signal-clause-memory : goal.returns-then-is_signal-clause-memory
returns-then-is_signal-clause-memory c = λ P m reserved shows was. sent-memory _ m reserved P c.args.kind (part_in c.args.x c.args.k) (sym c.is_signal.ensures ∙ c.if-is_signal.true) shows

pub returns-then-is_signal-clause-change : goal.returns-then-is_signal-clause-change
returns-then-is_signal-clause-change c = λ P m reserved shows was.
    sent-reaches m reserved P c.args.kind c.args.x c.args.k c.signal.result (sym c.is_signal.ensures ∙ c.if-is_signal.true) (c.requires.signal (sym c.is_signal.ensures ∙ c.if-is_signal.true)) c.requires.there (c.signal.ensures.sent P was)

pub returns-clause-store : goal.returns-clause-store
returns-clause-store c = λ P m reserved shows was. copied-spe m P c.args.kind (part_in c.args.x c.args.k) _ (sym c.is_signal.ensures ∙ c.if-is_signal.false) (rw c.is_put.ensures at (c.copy.ensures.store P m reserved shows was))

pub returns-clause-memory : goal.returns-clause-memory
returns-clause-memory c = λ P m reserved shows was. copied-memory _ m reserved P c.args.kind (part_in c.args.x c.args.k) (sym c.is_signal.ensures ∙ c.if-is_signal.false) (rw c.is_put.ensures at (c.copy.ensures.memory P m reserved shows was))

pub returns-clause-change : goal.returns-clause-change
returns-clause-change c = λ P m reserved shows was. copied-reaches c.copy.result m reserved P c.args.kind (part_in c.args.x c.args.k) (sym c.is_signal.ensures ∙ c.if-is_signal.false) (rw c.is_put.ensures at (c.copy.ensures.losers P m reserved shows was))
