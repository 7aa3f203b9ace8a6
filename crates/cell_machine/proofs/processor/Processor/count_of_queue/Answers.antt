use Rattle.std.proofs.Common.{◌≡◌, ◌+◌, length, length-append, arith, sym, ◌∙◌, ap}
use Rattle.std.specs.Prelude.{option_map, slice_get}
use Rattle.cell_machine.specs.Spe.{is_faulted}
use Rattle.cell_machine.specs.Choices.{allowed_of_number}
use Rattle.cell_machine.proofs.MovesShown.{get-within}
use Rattle.cell_machine.proofs.SpeShown.{outstanding-same, few-outstanding}
use Rattle.cell_machine.proofs.Places.{steps_at, steps-next, steps-end, steps-faulted}
use Rattle.cell_machine.proofs.processor.Processor.count_of_queue.Goals as goal

pub returns-then-is_faulted-clause-count : goal.returns-then-is_faulted-clause-count
returns-then-is_faulted-clause-count c = λ spe P shows. sym (ap length (steps-faulted spe P (ap is_faulted shows.status ∙ sym c.is_faulted.ensures ∙ c.if-is_faulted.true)))

pub loop-cmd-init : goal.loop-cmd-init
loop-cmd-init c = (omega arith, omega arith, λ spe P shows. let e : length (steps_at spe P 0) ≡ 0 + length (steps_at spe P 0) = omega arith in e)

pub overflow_add-count : goal.overflow_add-count
overflow_add-count c =
    let few = c.count_of_command-count.ensures.few in let low = c.loop-cmd.invariant.0 in let so_far = c.loop-cmd.invariant.1 in omega arith

pub overflow_add-i : goal.overflow_add-i
overflow_add-i c = let low = c.loop-cmd.invariant.0 in omega arith

pub loop-cmd-smaller : goal.loop-cmd-smaller
loop-cmd-smaller c =
    let s = c.requires in
    let there = sym (c.outstanding_at.ensures.number s.calls s.stands) ∙ ap (option_map (λ x. x.0)) c.in-Some.is in
    let l = get-within _ c.loop-cmd.i c.in-Some.cmd there in let n = few-outstanding c.args.self.now.commands.queue s.calls s.stands in omega arith

pub loop-cmd-preserved : goal.loop-cmd-preserved
loop-cmd-preserved c =
    let s = c.requires in
    let there = sym (c.outstanding_at.ensures.number s.calls s.stands) ∙ ap (option_map (λ x. x.0)) c.in-Some.is in
    let l = get-within _ c.loop-cmd.i c.in-Some.cmd there in
    let n = few-outstanding c.args.self.now.commands.queue s.calls s.stands in
    let few = c.count_of_command-count.ensures.few in
    let so_far = c.loop-cmd.invariant.1 in (
      omega arith,
      omega arith,
      λ spe P shows.
          let q = shows.queue in
          let sound = ap is_faulted shows.status ∙ sym c.is_faulted.ensures ∙ c.if-is_faulted.false in
          let here = ap (λ xs. slice_get xs c.loop-cmd.i) (sym (outstanding-same q.calls P q.moves)) ∙ sym (c.outstanding_at.ensures.number q.calls q.stands) ∙ ap (option_map (λ x. x.0)) c.in-Some.is in
          let cut = ap length (steps-next spe P c.loop-cmd.i c.in-Some.cmd here) ∙ length-append (allowed_of_number spe P c.in-Some.cmd) (steps_at spe P (c.loop-cmd.i + 1)) in
          let one = c.count_of_command-count.ensures.count spe P shows sound in
          let all = c.loop-cmd.invariant.2 spe P shows in
          omega (arith, cut, one, all),
    )

pub returns-clause-count : goal.returns-clause-count
returns-clause-count c = λ spe P shows.
    let q = shows.queue in
    let none = ap (λ xs. slice_get xs c.loop-cmd.i) (sym (outstanding-same q.calls P q.moves)) ∙ sym (c.outstanding_at.ensures.number q.calls q.stands) ∙ ap (option_map (λ x. x.0)) c.in_default.is in
    let end = ap length (steps-end spe P c.loop-cmd.i none) in
    let all = c.loop-cmd.invariant.2 spe P shows in
    omega (arith, end, all)

pub returns-clause-few : goal.returns-clause-few
returns-clause-few c = let low = c.loop-cmd.invariant.0 in let so_far = c.loop-cmd.invariant.1 in omega arith
