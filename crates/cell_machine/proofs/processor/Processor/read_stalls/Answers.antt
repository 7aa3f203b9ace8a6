use Rattle.std.proofs.Common.{◌==◌, sym, ◌∙◌, ap, subst, true≢false}
use Rattle.std.specs.Prelude.{is_ok}
use Rattle.cell_channels.specs.declared.channels.Channels.{Channels}
use Rattle.cell_machine.specs.Channels.{given}
use Rattle.cell_machine.specs.Shows.{ShowsSpe}
use Rattle.cell_machine.proofs.ChannelSteps.{not-set, not-clear}
use Rattle.cell_machine.proofs.processor.Processor.read_stalls.Goals as goal

pub returns-then-not-has_stall-clause-made : goal.returns-then-not-has_stall-clause-made
returns-then-not-has_stall-clause-made c = λ P shows. ap (λ (s : Channels). s.stalls == 0) shows.channels ∙ not-clear _ (sym c.has_stall.ensures ∙ c.if-not-has_stall.true)

pub unreachable-requires : goal.unreachable-requires
unreachable-requires c = true≢false (sym c.if-not-has_stall.false ∙ c.has_stall.ensures ∙ sym c.read_stall.ensures.ready ∙ ap is_ok c.in-Err.is)

pub returns-clause-made : goal.returns-clause-made
returns-clause-made c = λ P shows.
    let bits = rw c.in-Ok.is at c.read_stall.ensures.ok in (
      ap (λ (s : Channels). s.stalls == 0) shows.channels ∙ not-set _ (sym c.has_stall.ensures ∙ c.if-not-has_stall.false),
      subst (λ n. ShowsSpe c.give.new.self (given (record P { channels = record P.channels { stalls = 0 } }) c.args.rt n)) (sym (ap (λ (s : Channels). s.stalls) shows.channels ∙ bits))
          (c.give.ensures (record P { channels = record P.channels { stalls = 0 } }) (record {
            status = shows.status;
            pc = shows.pc;
            registers = shows.registers;
            store = shows.store;
            inbound = shows.inbound;
            outbound = shows.outbound;
            interrupt = shows.interrupt;
            channels = ap (λ (s : Channels). record s { stalls = 0 }) shows.channels ∙ sym c.read_stall.ensures.taken;
            tags = shows.tags;
            signals = shows.signals;
            events = shows.events;
            queue = shows.queue;
          })),
    )
