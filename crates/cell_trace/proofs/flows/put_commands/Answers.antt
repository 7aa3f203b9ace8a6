use Rattle.std.proofs.Common.{arith, sym, ap, ◌∙◌, ◌≡◌, ◌+◌, ◌++◌, length}
use Rattle.std.proofs.lemmas.List.{nil_from_length}
use Rattle.cell_machine.specs.Run.{state_of}
use Rattle.cell_trace.specs.Flows.{command_lines}
use Rattle.cell_trace.proofs.Lemmas.{of_state, of_spe}
use Rattle.cell_trace.proofs.Commands.{later, none_later, next_later, one_command, fewer_left, no_command, all_left}
use Rattle.cell_trace.proofs.flows.put_commands.Goals as goal

pub loop-init : goal.loop-init
loop-init c = λ M P at there.
    let sound = of_state (state_of c.args.m.now) _ M at c.steps-most.ensures.sound in
    let few = (sound.bounded c.args.spe P there).few in
    let all = all_left P _ few in
    (ap (λ xs. c.args.out.now.items ++ command_lines c.args.spe P xs) all.0, all.1)

pub returns-in_default : goal.returns-in_default
returns-in_default c = λ M P at there.
    let shows = of_spe (state_of c.args.m.now) c.args.spe M P _ at there c.outstanding_from.ensures in
    no_command c.loop.out.items _ c.args.spe c.loop.next P (none_later P c.loop.next (sym shows ∙ c.in_default.is)) (c.loop.invariant M P at there).0

pub loop-preserved : goal.loop-preserved
loop-preserved c = λ M P at there.
    let shows = of_spe (state_of c.args.m.now) c.args.spe M P _ at there c.outstanding_from.ensures in
    let is = sym shows ∙ c.in-Some.is in
    let sound = of_state (state_of c.args.m.now) _ M at c.steps-most.ensures.sound in
    let few = (sound.bounded c.args.spe P there).few in
    let small = c.steps-most.ensures.recorded.0 in
    let same = c.steps-most.ensures.steps in
    let low = (next_later P c.loop.next c.in-Some.it is).2 in
    let next : c.saturating_add-next.result ≡ c.in-Some.it.number + 1 = omega (arith, low, few, small) in (
      one_command c.loop.out.items c.put_outstanding.new.out.items _ c.args.spe c.loop.next c.saturating_add-next.result P c.in-Some.it is next c.in_ok-put_outstanding.ensures (c.loop.invariant M P at there).0,
      fewer_left c.loop.next c.saturating_add-next.result c.loop.counter _ P c.in-Some.it is next (c.loop.invariant M P at there).1,
    )

pub returns : goal.returns
returns c = λ M P at there.
    let h = c.loop.invariant M P at there in
    let left = h.1 in
    let same = ap length c.steps-most.ensures.steps in
    no_command c.loop.out.items _ c.args.spe c.loop.next P (nil_from_length (later c.loop.next P) (omega (arith, left, same))) h.0
