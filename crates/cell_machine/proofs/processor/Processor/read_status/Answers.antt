use Rattle.std.proofs.Common.{◌∙◌, sym, ap, true≢false}
use Rattle.std.specs.Prelude.{is_some, is_ok, None}
use Rattle.tag_groups.specs.declared.Tags.{Tags}
use Rattle.cell_machine.proofs.SpeShown.{status-off}
use Rattle.cell_machine.proofs.processor.Processor.read_status.Goals as goal

pub returns-then-not-ready-clause-made : goal.returns-then-not-ready-clause-made
returns-then-not-ready-clause-made c = λ P shows. status-off P c.args.rt P.tags.status (ap (λ (t : Tags). is_some t.status) shows.tags ∙ sym c.ready.ensures ∙ c.if-not-ready.true)

pub unreachable-requires : goal.unreachable-requires
unreachable-requires c = true≢false (sym c.if-not-ready.false ∙ c.ready.ensures ∙ sym c.read.ensures.ready ∙ ap is_ok c.in-Err.is)

pub returns-clause-made : goal.returns-clause-made
returns-clause-made c = λ P shows.
    let status = rw c.in-Ok.is at c.read.ensures.ok in
    rw (ap (λ (t : Tags). t.status) shows.tags ∙ status)
    (c.give.ensures (record P { tags = record P.tags { status = None } }) (record { status = shows.status; pc = shows.pc; registers = shows.registers; store = shows.store; inbound = shows.inbound; outbound = shows.outbound; interrupt = shows.interrupt; channels = shows.channels; tags = ap (λ (t : Tags). record t { status = None }) shows.tags ∙ sym c.read.ensures.taken; signals = shows.signals; events = shows.events; queue = shows.queue }))
