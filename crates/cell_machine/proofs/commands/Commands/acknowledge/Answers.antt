use Rattle.std.proofs.Common.{length, arith, sym, ◌∙◌, ap}
use Rattle.cell_machine.proofs.Acknowledged.{ack-none, ack-next, ack-end}
use Rattle.cell_machine.proofs.Places.{found-outstanding}
use Rattle.cell_machine.proofs.commands.Commands.acknowledge.Goals as goal

pub loop-cmd-init : goal.loop-cmd-init
loop-cmd-init c = λ m shows. ack-none _ _ m c.args.tag shows

pub resume-requires : goal.resume-requires
resume-requires c =
    let s = c.loop-cmd.invariant c.requires.moves c.requires.shows in
    record { calls = s.calls; stands = s.stands; outstanding = (found-outstanding s.calls c.loop-cmd.next c.in-Some.cmd _ (c.outstanding_from.ensures s.calls s.stands) c.in-Some.is).0 }

pub overflow_add-next : goal.overflow_add-next
overflow_add-next c =
    let s = c.loop-cmd.invariant c.requires.moves c.requires.shows in
    let f = found-outstanding s.calls c.loop-cmd.next c.in-Some.cmd _ (c.outstanding_from.ensures s.calls s.stands) c.in-Some.is in
    let l = f.2 in let e = ap length s.moves.done.issued in let few = c.requires.few in omega arith

pub loop-cmd-smaller : goal.loop-cmd-smaller
loop-cmd-smaller c =
    let s = c.loop-cmd.invariant c.requires.moves c.requires.shows in
    let f = found-outstanding s.calls c.loop-cmd.next c.in-Some.cmd _ (c.outstanding_from.ensures s.calls s.stands) c.in-Some.is in
    let l = f.2 in let k = f.1 in let e = ap length s.moves.done.issued in let few = c.requires.few in omega arith

pub loop-cmd-preserved : goal.loop-cmd-preserved
loop-cmd-preserved c = λ m shows.
    let s = c.loop-cmd.invariant m shows in
    let found = sym (c.outstanding_from.ensures s.calls s.stands) ∙ c.in-Some.is in
    let low = (found-outstanding s.calls c.loop-cmd.next c.in-Some.cmd _ (c.outstanding_from.ensures s.calls s.stands) c.in-Some.is).1 in
    ack-next _ _ _ _ m c.args.tag c.loop-cmd.next c.in-Some.cmd s found low (c.resume.ensures _ s)

pub returns : goal.returns
returns c = λ m shows.
    let s = c.loop-cmd.invariant m shows in
    ack-end _ _ m c.args.tag c.loop-cmd.next s (sym (c.outstanding_from.ensures s.calls s.stands) ∙ c.in_default.is)
