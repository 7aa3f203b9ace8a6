use Rattle.std.proofs.Common.{◌≡◌, ◌+◌, arith, sym, ◌∙◌, ap, subst}
use Rattle.std.specs.Prelude.{Err, option_map, slice_get}
use Rattle.mfc_queue.specs.At.{IsAt}
use Rattle.mfc_queue.proofs.AtLemmas.{at-behind}
use Rattle.cell_machine.specs.Spe.{is_faulted}
use Rattle.cell_machine.proofs.MovesShown.{get-within}
use Rattle.cell_machine.proofs.SpeShown.{outstanding-same, few-outstanding}
use Rattle.cell_machine.proofs.Places.{steps-next, steps-end, steps-faulted, at-within}
use Rattle.cell_machine.proofs.processor.Processor.step_of_queue.Goals as goal

pub returns-then-is_faulted : goal.returns-then-is_faulted
returns-then-is_faulted c = λ P shows.
    subst (IsAt (Err c.args.n) c.args.n) (sym (steps-faulted c.args.spe P (ap is_faulted shows.status ∙ sym c.is_faulted.ensures ∙ c.if-is_faulted.true))) (let e : c.args.n ≡ 0 + c.args.n = omega arith in e)

pub loop-cmd-init : goal.loop-cmd-init
loop-cmd-init c = λ P r shows h. h

pub returns-then-rest-count : goal.returns-then-rest-count
returns-then-rest-count c = λ P shows.
    let q = shows.queue in
    let sound = ap is_faulted shows.status ∙ sym c.is_faulted.ensures ∙ c.if-is_faulted.false in
    let there = ap (λ xs. slice_get xs c.loop-cmd.i) (sym (outstanding-same q.calls P q.moves)) ∙ sym (c.outstanding_at.ensures.number q.calls q.stands) ∙ ap (option_map (λ x. x.0)) c.in-Some.is in
    let count = c.count_of_command-count.ensures.count c.args.spe P shows sound in
    c.loop-cmd.invariant P c.step_of_command.result shows
    (subst (IsAt c.step_of_command.result c.loop-cmd.rest) (sym (steps-next c.args.spe P c.loop-cmd.i c.in-Some.cmd there))
    (at-within c.step_of_command.result c.loop-cmd.rest _ _ (omega arith) (c.step_of_command.ensures P shows sound)))

pub overflow_add-i : goal.overflow_add-i
overflow_add-i c =
    let s = c.requires in
    let there = sym (c.outstanding_at.ensures.number s.calls s.stands) ∙ ap (option_map (λ x. x.0)) c.in-Some.is in
    let l = get-within _ c.loop-cmd.i c.in-Some.cmd there in let n = few-outstanding c.args.self.now.commands.queue s.calls s.stands in omega arith

pub loop-cmd-smaller : goal.loop-cmd-smaller
loop-cmd-smaller c =
    let s = c.requires in
    let there = sym (c.outstanding_at.ensures.number s.calls s.stands) ∙ ap (option_map (λ x. x.0)) c.in-Some.is in
    let l = get-within _ c.loop-cmd.i c.in-Some.cmd there in let n = few-outstanding c.args.self.now.commands.queue s.calls s.stands in omega arith

pub loop-cmd-preserved : goal.loop-cmd-preserved
loop-cmd-preserved c = λ P r shows h.
    let q = shows.queue in
    let sound = ap is_faulted shows.status ∙ sym c.is_faulted.ensures ∙ c.if-is_faulted.false in
    let there = ap (λ xs. slice_get xs c.loop-cmd.i) (sym (outstanding-same q.calls P q.moves)) ∙ sym (c.outstanding_at.ensures.number q.calls q.stands) ∙ ap (option_map (λ x. x.0)) c.in-Some.is in
    let count = c.count_of_command-count.ensures.count c.args.spe P shows sound in
    c.loop-cmd.invariant P r shows
    (subst (IsAt r c.loop-cmd.rest) (sym (steps-next c.args.spe P c.loop-cmd.i c.in-Some.cmd there)) (at-behind r c.loop-cmd.rest _ _ _ (omega arith) h))

pub returns : goal.returns
returns c = λ P shows.
    let q = shows.queue in
    let none = ap (λ xs. slice_get xs c.loop-cmd.i) (sym (outstanding-same q.calls P q.moves)) ∙ sym (c.outstanding_at.ensures.number q.calls q.stands) ∙ ap (option_map (λ x. x.0)) c.in_default.is in
    c.loop-cmd.invariant P (Err c.loop-cmd.rest) shows
    (subst (IsAt (Err c.loop-cmd.rest) c.loop-cmd.rest) (sym (steps-end c.args.spe P c.loop-cmd.i none)) (let e : c.loop-cmd.rest ≡ 0 + c.loop-cmd.rest = omega arith in e))
