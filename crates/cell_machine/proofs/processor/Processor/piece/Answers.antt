use Rattle.std.proofs.Common.{arith, refl, sym, ◌∙◌, ap}
use Rattle.std.specs.Prelude.{is_some}
use Rattle.lock_lines.specs.Stands.{line_count}
use Rattle.cell_machine.specs.Spe.{is_faulted}
use Rattle.cell_machine.specs.Transfers.{with_done}
use Rattle.cell_machine.proofs.SpeShown.{issued-at}
use Rattle.cell_machine.proofs.Controllers.{begins-has, part-number, can-copy, kept-of, piece-may, piece-faulted, piece-off, piece-made}
use Rattle.cell_machine.proofs.processor.Processor.piece.Goals as goal

pub returns-then-is_faulted-clause-made : goal.returns-then-is_faulted-clause-made
returns-then-is_faulted-clause-made c = λ P m reserved shows memory. rw (piece-off m P c.args.cmd c.args.elem c.args.k (piece-faulted P c.args.cmd c.args.elem c.args.k (ap is_faulted shows.status ∙ sym c.is_faulted.ensures ∙ c.if-is_faulted.true))) tt

pub part_left-requires : goal.part_left-requires
part_left-requires c = kept-of _ c.args.self.now c.requires.can

pub returns-in_default-clause-made : goal.returns-in_default-clause-made
returns-in_default-clause-made c = λ P m reserved shows memory. rw (piece-off m P c.args.cmd c.args.elem c.args.k
    (piece-may P c.args.cmd c.args.elem c.args.k (ap is_faulted shows.status ∙ sym c.is_faulted.ensures ∙ c.if-is_faulted.false) ∙ sym (c.part_left.ensures.may P.moves shows.queue) ∙ ap is_some c.in_default.is)) tt

pub command-command-requires : goal.command-command-requires
command-command-requires c = c.in-Some.ensures.there

pub move_part-change-requires-clause-few : goal.move_part-change-requires-clause-few
move_part-change-requires-clause-few c =
    let s = c.requires.can in
    let q = s.shows.queue in
    let at = issued-at q.calls s.spe.moves c.args.cmd c.command-command.result q.moves (c.command-command.ensures.command q.calls q.stands) in
    let can = can-copy (line_count c.args.memory.now.locks) 999999 s.spe c.args.cmd c.args.elem c.args.k c.command-command.result c.in-Some.x s.bounded at
    (sym (c.part_left.ensures.may s.spe.moves q) ∙ ap is_some c.in-Some.is) (c.in-Some.ensures.some s.spe.moves c.command-command.result q at) in
    can.fits.size

pub move_part-change-requires-clause-store : goal.move_part-change-requires-clause-store
move_part-change-requires-clause-store c =
    let s = c.requires.can in
    let q = s.shows.queue in
    let at = issued-at q.calls s.spe.moves c.args.cmd c.command-command.result q.moves (c.command-command.ensures.command q.calls q.stands) in
    let can = can-copy (line_count c.args.memory.now.locks) 999999 s.spe c.args.cmd c.args.elem c.args.k c.command-command.result c.in-Some.x s.bounded at
    (sym (c.part_left.ensures.may s.spe.moves q) ∙ ap is_some c.in-Some.is) (c.in-Some.ensures.some s.spe.moves c.command-command.result q at) in
    can.fits.store

pub move_part-change-requires-clause-memory : goal.move_part-change-requires-clause-memory
move_part-change-requires-clause-memory c =
    let s = c.requires.can in
    let q = s.shows.queue in
    let at = issued-at q.calls s.spe.moves c.args.cmd c.command-command.result q.moves (c.command-command.ensures.command q.calls q.stands) in
    let can = can-copy (line_count c.args.memory.now.locks) 999999 s.spe c.args.cmd c.args.elem c.args.k c.command-command.result c.in-Some.x s.bounded at
    (sym (c.part_left.ensures.may s.spe.moves q) ∙ ap is_some c.in-Some.is) (c.in-Some.ensures.some s.spe.moves c.command-command.result q at) in
    let fits = can.fits.memory in
    let long = c.args.memory.now.even in
    omega arith

pub move_part-change-requires-clause-there : goal.move_part-change-requires-clause-there
move_part-change-requires-clause-there c =
    let s = c.requires.can in
    let q = s.shows.queue in
    let at = issued-at q.calls s.spe.moves c.args.cmd c.command-command.result q.moves (c.command-command.ensures.command q.calls q.stands) in
    let can = can-copy (line_count c.args.memory.now.locks) 999999 s.spe c.args.cmd c.args.elem c.args.k c.command-command.result c.in-Some.x s.bounded at
    (sym (c.part_left.ensures.may s.spe.moves q) ∙ ap is_some c.in-Some.is) (c.in-Some.ensures.some s.spe.moves c.command-command.result q at) in
    can.within

pub move_part-change-requires-clause-signal : goal.move_part-change-requires-clause-signal
move_part-change-requires-clause-signal c =
    let s = c.requires.can in
    let q = s.shows.queue in
    let at = issued-at q.calls s.spe.moves c.args.cmd c.command-command.result q.moves (c.command-command.ensures.command q.calls q.stands) in
    let can = can-copy (line_count c.args.memory.now.locks) 999999 s.spe c.args.cmd c.args.elem c.args.k c.command-command.result c.in-Some.x s.bounded at
    (sym (c.part_left.ensures.may s.spe.moves q) ∙ ap is_some c.in-Some.is) (c.in-Some.ensures.some s.spe.moves c.command-command.result q at) in
    can.signal

pub mark-stalls-requires : goal.mark-stalls-requires
mark-stalls-requires c =
    let s = c.requires.can in
    let q = s.shows.queue in
    let at = issued-at q.calls s.spe.moves c.args.cmd c.command-command.result q.moves (c.command-command.ensures.command q.calls q.stands) in
    let can = can-copy (line_count c.args.memory.now.locks) 999999 s.spe c.args.cmd c.args.elem c.args.k c.command-command.result c.in-Some.x s.bounded at
    (sym (c.part_left.ensures.may s.spe.moves q) ∙ ap is_some c.in-Some.is) (c.in-Some.ensures.some s.spe.moves c.command-command.result q at) in
    record { moves = s.spe.moves; command = c.command-command.result; elem = c.args.elem; shows = q; at = at; has = can.has }

pub returns-clause-made : goal.returns-clause-made
returns-clause-made c = λ P m reserved shows memory.
    let q = shows.queue in
    let d = c.command-command.result in
    let at = issued-at q.calls P.moves c.args.cmd d q.moves (c.command-command.ensures.command q.calls q.stands) in
    let begun = sym (c.part_left.ensures.may P.moves q) ∙ ap is_some c.in-Some.is in
    let may = piece-may P c.args.cmd c.args.elem c.args.k (ap is_faulted shows.status ∙ sym c.is_faulted.ensures ∙ c.if-is_faulted.false) ∙ begun in
    let has = begins-has P.moves c.args.cmd d _ at begun in
    let marked = c.mark-stalls.ensures P.moves d c.args.elem q at has in
    piece-made c.tell.new.self P c.move_part-change.new.memory m reserved c.args.self.now.store c.move_part-change.new.store c.args.cmd c.args.elem c.args.k c.mark-stalls.result d c.in-Some.x c.move_part-change.result may at
    (c.in-Some.ensures.some P.moves d q at) (part-number P.moves c.args.cmd c.args.elem c.args.k d c.in-Some.x has (c.in-Some.ensures.some P.moves d q at)) shows.store marked.1
    (λ Q was. c.move_part-change.ensures.store Q m reserved memory was) (λ Q was. c.move_part-change.ensures.memory Q m reserved memory was) (λ Q was. c.move_part-change.ensures.change Q m reserved memory was)
    (c.tell.ensures (record P { store = c.move_part-change.new.store; moves = with_done P.moves c.args.cmd c.args.elem c.args.k })
    (record { status = shows.status; pc = shows.pc; registers = shows.registers; store = refl; inbound = shows.inbound; outbound = shows.outbound; interrupt = shows.interrupt; channels = shows.channels; tags = shows.tags; signals = shows.signals; events = shows.events; queue = marked.0 }))
