use Rattle.std.proofs.Common.{◌==◌, refl, ◌∙◌, subst}
use Rattle.std.specs.Prelude.{if◌then◌else◌}
use Rattle.cell_machine.specs.Raised.{with_raised}
use Rattle.cell_machine.specs.Shows.{ShowsSpe}
use Rattle.cell_machine.proofs.Execs.{none_there}
use Rattle.cell_machine.proofs.HostGives.{taken-none, taken-gives}
use Rattle.cell_machine.proofs.processor.Processor.give_outbound.Goals as goal

pub returns-in_default-clause-made : goal.returns-in_default-clause-made
returns-in_default-clause-made c = λ P shows still.
    let empty = rw (none_there c.take.result c.in_default.not-Some) at c.take.ensures.none in
    taken-none P _ (shows.outbound ∙ empty.0)

pub returns-clause-made : goal.returns-clause-made
returns-clause-made c = λ P shows still.
    let is = rw c.in-Some.is at c.take.ensures.some in
    let Q = record P { outbound = c.take.new.self } in
    taken-gives P c.in-Some.value c.take.new.self _ _ still (shows.outbound ∙ is) refl
    (subst (λ n. ShowsSpe c.raise_if.new.self (with_raised Q (if n == 0 then 0x80 else 0))) c.len-is_empty.ensures.count (c.raise_if.ensures Q (record { status = shows.status; pc = shows.pc; registers = shows.registers; store = shows.store; inbound = shows.inbound; outbound = refl; interrupt = shows.interrupt; channels = shows.channels; tags = shows.tags; signals = shows.signals; events = shows.events; queue = shows.queue })))
