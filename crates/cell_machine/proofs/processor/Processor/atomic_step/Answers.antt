use Rattle.std.proofs.Common.{slice_set}
use Rattle.cell_machine.specs.Atomic.{atomic}
use Rattle.cell_machine.specs.Shows.{ShowsSpe, ShowsMemory, LosesOthers}
use Rattle.cell_machine.specs.OwnEvents.{with_fixed}
use Rattle.cell_machine.proofs.AllTwo.{makes-on, makes-none}
use Rattle.cell_machine.proofs.processor.Processor.atomic_step.Goals as goal

pub returns-in_default-clause-made : goal.returns-in_default-clause-made
returns-in_default-clause-made c = λ P m reserved shows memory at. makes-none (atomic m P) _ _ (rw c.in_default.is at (c.atomic.ensures.made P m reserved shows memory at))

pub returns-clause-made : goal.returns-clause-made
returns-clause-made c = λ P m reserved shows memory at.
    makes-on (atomic m P) c.in-Some.losers (λ w x. ShowsSpe c.atomic.new.self x.spe × ShowsMemory c.atomic.new.memory x.memory (slice_set reserved c.args.spe x.spe.reserved) × LosesOthers c.args.spe w m reserved x.memory)
    (λ w x. ShowsSpe c.settle.new.self (with_fixed x.spe) × ShowsMemory c.atomic.new.memory x.memory (slice_set reserved c.args.spe x.spe.reserved) × LosesOthers c.args.spe w m reserved x.memory)
    (λ x r. (c.settle.ensures x.spe r.0, r.1, r.2))
    (rw c.in-Some.is at (c.atomic.ensures.made P m reserved shows memory at))
