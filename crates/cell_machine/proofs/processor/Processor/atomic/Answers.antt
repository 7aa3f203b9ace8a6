use Rattle.std.proofs.Common.{refl, sym, ap, ◌∙◌}
use Rattle.std.specs.Prelude.{Some, None}
use Rattle.cell_channels.specs.declared.channels.Channels.{Channels}
use Rattle.cell_machine.specs.Spe.{is_faulted}
use Rattle.cell_machine.specs.Atomic.{answered, holds, status_of}
use Rattle.cell_machine.specs.Shows.{ShowsSpe}
use Rattle.cell_machine.proofs.AtomicSteps.{atomic-faulted, atomic-free, atomic-made}
use Rattle.cell_machine.proofs.processor.Processor.atomic.Goals as goal

pub returns-then-is_faulted-clause-made : goal.returns-then-is_faulted-clause-made
returns-then-is_faulted-clause-made c = λ P m reserved shows memory at. rw (atomic-faulted m P (ap is_faulted shows.status ∙ sym c.is_faulted.ensures ∙ c.if-is_faulted.true)) tt

pub returns-in_default-clause-made : goal.returns-in_default-clause-made
returns-in_default-clause-made c = λ P m reserved shows memory at. rw (atomic-free m P (ap (λ (k : Channels). k.slot) shows.channels ∙ sym c.slot.ensures ∙ c.in_default.is)) tt

pub returns-clause-made : goal.returns-clause-made
returns-clause-made c = λ P m reserved shows memory at.
    let a = c.in-Some.a in
    let status = c.move_line-done.ensures.status P m reserved memory at in
    atomic-made _ m P a reserved c.args.spe c.move_line-done.result.losers c.move_line-done.new.store (ShowsSpe _)
    (ap is_faulted shows.status ∙ sym c.is_faulted.ensures ∙ c.if-is_faulted.false)
    (ap (λ (k : Channels). k.slot) shows.channels ∙ sym c.slot.ensures ∙ c.in-Some.is)
    (c.move_line-done.ensures.store P (answered m P a) m reserved memory at shows.store)
    (record {
      status = shows.status;
      pc = shows.pc;
      registers = shows.registers;
      store = refl;
      inbound = shows.inbound;
      outbound = shows.outbound;
      interrupt = shows.interrupt;
      channels = ap (λ (k : Channels). record k { slot = None; atomic = Some (status_of a.kind (holds m P a.line)) }) shows.channels
          ∙ ap (λ s. record c.args.self.now.channels { slot = None; atomic = Some s }) (sym status) ∙ sym c.atomic_done.ensures;
      tags = shows.tags;
      signals = shows.signals;
      events = shows.events;
      queue = shows.queue;
    })
    (c.move_line-done.ensures.memory P (answered m P a) m reserved memory at shows.store)
    (c.move_line-done.ensures.losers P (answered m P a) m reserved memory at shows.store)
