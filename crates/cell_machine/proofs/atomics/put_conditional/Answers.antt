use Rattle.std.proofs.Common.{refl}
use Rattle.cell_machine.proofs.MemoryShown.{stored-held, put-stored, put-lost}
use Rattle.cell_machine.proofs.Losing.{others-lose, stored-lose, lost-lose}
use Rattle.cell_machine.proofs.atomics.put_conditional.Goals as goal

pub returns-in-Stored-clause-status : goal.returns-in-Stored-clause-status
returns-in-Stored-clause-status c = λ P m reserved shows at. rw ((stored-held _ _ m reserved P _ c.args.a.line at c.putllc.ensures.reserved shows).0 c.in-Stored.is) refl

pub returns-in-Stored-clause-stores : goal.returns-in-Stored-clause-stores
returns-in-Stored-clause-stores c = λ P m reserved shows at.
    put-stored c.args.memory.now _ m reserved P _ c.args.a.line _ at ((stored-held _ _ m reserved P _ c.args.a.line at c.putllc.ensures.reserved shows).0 c.in-Stored.is)
    (rw c.copy_out.ensures at c.copy_in.ensures.bytes) c.putllc.ensures.versions shows

pub returns-in-Lost-clause-status : goal.returns-in-Lost-clause-status
returns-in-Lost-clause-status c = λ P m reserved shows at. rw ((stored-held _ _ m reserved P _ c.args.a.line at c.putllc.ensures.reserved shows).1 c.in-Lost.is) refl

pub returns-in-Lost-clause-stores : goal.returns-in-Lost-clause-stores
returns-in-Lost-clause-stores c = λ P m reserved shows at.
    put-lost c.args.memory.now _ m reserved P _ c.args.a.line _ at ((stored-held _ _ m reserved P _ c.args.a.line at c.putllc.ensures.reserved shows).1 c.in-Lost.is) refl c.putllc.ensures.versions shows

pub returns-in-Stored-clause-losers : goal.returns-in-Stored-clause-losers
returns-in-Stored-clause-losers c = λ P m reserved shows at.
    let held = (stored-held _ _ m reserved P _ c.args.a.line at c.putllc.ensures.reserved shows).0 c.in-Stored.is in
    stored-lose c.args.spe c.other_holders-losers.result m reserved P c.args.a.line _ held
    (others-lose c.args.memory.now m reserved c.args.spe c.args.a.line c.other_holders-losers.result _ c.other_holders-losers.ensures.versions c.requires.fits.1 shows)

pub returns-in-Lost-clause-losers : goal.returns-in-Lost-clause-losers
returns-in-Lost-clause-losers c = λ P m reserved shows at.
    lost-lose c.args.spe m reserved P c.args.a.line _ ((stored-held _ _ m reserved P _ c.args.a.line at c.putllc.ensures.reserved shows).1 c.in-Lost.is)
