use Rattle.std.proofs.Common.{◌∙◌, refl}
use Rattle.cell_machine.proofs.Execs.{none_there}
use Rattle.cell_machine.proofs.processor.Processor.read_inbound.Goals as goal

pub returns-in_default-clause-made : goal.returns-in_default-clause-made
returns-in_default-clause-made c = λ P shows.
    let empty = rw (none_there c.take.result c.in_default.not-Some) at c.take.ensures.none in
    rw (shows.inbound ∙ empty.0) refl

pub returns-clause-made : goal.returns-clause-made
returns-clause-made c = λ P shows.
    let oldest = rw c.in-Some.is at c.take.ensures.some in
    rw (shows.inbound ∙ oldest)
    (c.give.ensures (record P { inbound = c.take.new.self }) (record { status = shows.status; pc = shows.pc; registers = shows.registers; store = shows.store; inbound = refl; outbound = shows.outbound; interrupt = shows.interrupt; channels = shows.channels; tags = shows.tags; signals = shows.signals; events = shows.events; queue = shows.queue }))
