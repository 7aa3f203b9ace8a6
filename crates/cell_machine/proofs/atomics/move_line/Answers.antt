use Rattle.std.proofs.Common.{refl, ◌∙◌}
use Rattle.cell_machine.proofs.MemoryShown.{got-shows}
use Rattle.cell_machine.proofs.AtomicSteps.{got-store, got-memory, line-store, line-memory, cond-status, cond-store, cond-memory}
use Rattle.cell_machine.specs.Atomic.{holds}
use Rattle.cell_machine.proofs.Losing.{others-lose, got-loses, line-loses, cond-loses}
use Rattle.cell_machine.proofs.atomics.move_line.Goals as goal

pub returns-in-GetLine-clause-store : goal.returns-in-GetLine-clause-store
returns-in-GetLine-clause-store c = λ P Q m reserved shows at was. got-store m P Q c.args.a _ _ _ c.in-GetLine.is shows.bytes was (rw c.line_part.ensures at c.get_part.ensures)

pub returns-in-GetLine-clause-memory : goal.returns-in-GetLine-clause-memory
returns-in-GetLine-clause-memory c = λ P Q m reserved shows at was.
    got-memory _ m P Q c.args.a reserved c.args.spe c.in-GetLine.is (got-shows c.args.memory.now _ m reserved c.args.spe c.args.a.line refl c.getllar.ensures.versions shows)

pub returns-in-PutCond-clause-status : goal.returns-in-PutCond-clause-status
returns-in-PutCond-clause-status c = λ P m reserved shows at. c.put_conditional.ensures.status P m reserved shows at ∙ cond-status (holds m P c.args.a.line) c.args.a c.in-PutCond.is

pub returns-in-PutCond-clause-store : goal.returns-in-PutCond-clause-store
returns-in-PutCond-clause-store c = λ P Q m reserved shows at was. cond-store m P Q c.args.a _ c.in-PutCond.is was

pub returns-in-PutCond-clause-memory : goal.returns-in-PutCond-clause-memory
returns-in-PutCond-clause-memory c = λ P Q m reserved shows at was. cond-memory _ m P Q c.args.a _ reserved c.args.spe c.in-PutCond.is was (c.put_conditional.ensures.stores P m reserved shows at)

pub returns-in-PutLine-clause-store : goal.returns-in-PutLine-clause-store
returns-in-PutLine-clause-store c = λ P Q m reserved shows at was. line-store m P Q c.args.a _ c.in-PutLine.is was

pub returns-in-PutLine-clause-memory : goal.returns-in-PutLine-clause-memory
returns-in-PutLine-clause-memory c = λ P Q m reserved shows at was.
    line-memory _ m P Q c.args.a _ reserved c.args.spe c.in-PutLine.is was at (rw c.line_part-in-PutLine.ensures at (c.put_part.ensures.stores m reserved shows))

pub returns-in-GetLine-clause-losers : goal.returns-in-GetLine-clause-losers
returns-in-GetLine-clause-losers c = λ P Q m reserved shows at was. got-loses c.args.spe m reserved P Q c.args.a c.in-GetLine.is

pub returns-in-PutCond-clause-losers : goal.returns-in-PutCond-clause-losers
returns-in-PutCond-clause-losers c = λ P Q m reserved shows at was.
    cond-loses c.args.spe c.put_conditional.result.losers m reserved P Q c.args.a _ c.in-PutCond.is was (c.put_conditional.ensures.losers P m reserved shows at)

pub returns-in-PutLine-clause-losers : goal.returns-in-PutLine-clause-losers
returns-in-PutLine-clause-losers c = λ P Q m reserved shows at was.
    line-loses c.args.spe c.other_holders-losers.result m reserved P Q c.args.a _ c.in-PutLine.is was
    (others-lose c.args.memory.now m reserved c.args.spe c.args.a.line c.other_holders-losers.result _ c.other_holders-losers.ensures.versions c.requires.fits.1 shows)
