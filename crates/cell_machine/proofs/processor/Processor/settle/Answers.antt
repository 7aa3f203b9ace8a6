use Rattle.std.proofs.Common.{◌≡◌, length, sym, ap, ◌∙◌, subst}
use Rattle.std.specs.Prelude.{is_some, if◌then◌else◌, false}
use Rattle.std.specs.Option.{option_map_or}
use Rattle.tag_groups.specs.declared.Tags.{Tags}
use Rattle.tag_groups.specs.Settle.{is_met}
use Rattle.cell_machine.specs.Moves.{busy}
use Rattle.cell_machine.specs.Tags.{settled, fixes}
use Rattle.cell_machine.specs.Raised.{with_raised}
use Rattle.cell_machine.specs.Shows.{ShowsSpe}
use Rattle.cell_machine.proofs.SpeShown.{busy-same}
use Rattle.cell_machine.proofs.Raising.{unasked}
use Rattle.cell_machine.proofs.processor.Processor.settle.Goals as goal

pub returns-then-not-pending : goal.returns-then-not-pending
returns-then-not-pending c = λ P shows.
    let again = subst (ShowsSpe c.args.self.now) (sym (unasked P (ap (λ (t : Tags). is_some t.request) shows.tags ∙ sym c.pending.ensures ∙ c.if-not-pending.true))) shows in
    record { status = again.status; pc = again.pc; registers = again.registers; store = again.store; inbound = again.inbound; outbound = again.outbound; interrupt = again.interrupt; channels = again.channels; tags = again.tags; signals = again.signals; events = again.events; queue = again.queue }

pub returns : goal.returns
returns c = λ P shows.
    let q = shows.queue in
    let b : busy P.moves ≡ c.busy-busy.result = sym (busy-same q.calls P.moves q.moves) ∙ sym (c.busy-busy.ensures.bits q.calls q.stands) in
    let n : length P.moves.issued ≡ c.issued.result = sym (ap length q.moves.done.issued) ∙ sym (c.issued.ensures q.calls q.stands) in
    let fixed : c.would_settle-fixed.result ≡ fixes P =
    c.would_settle-fixed.ensures ∙ ap (λ k. option_map_or (is_met k) c.args.self.now.tags.request false) (sym b) ∙ ap (λ (t : Tags). option_map_or (is_met (busy P.moves)) t.request false) (sym shows.tags) in
    subst (λ f. ShowsSpe c.raise_if.new.self (with_raised (settled P) (if f then 0x1 else 0))) fixed (c.raise_if.ensures (settled P) (record {
      status = shows.status;
      pc = shows.pc;
      registers = shows.registers;
      store = shows.store;
      inbound = shows.inbound;
      outbound = shows.outbound;
      interrupt = shows.interrupt;
      channels = shows.channels;
      tags = rw (b, n, shows.tags) (sym c.settle.ensures.settled);
      signals = shows.signals;
      events = shows.events;
      queue = shows.queue;
    }))
