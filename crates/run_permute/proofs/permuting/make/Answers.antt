use Rattle.std.proofs.Common.{ℕ, ◌++◌, ◌∷◌, [], List, get_or, sym, ap, ◌∙◌, subst, true≢false}
use Rattle.std.specs.Prelude.{IsOk}
use Rattle.std.proofs.lemmas.List.{take_all}
use Rattle.std.proofs.lemmas.Option.{slice_get-get_or}
use Rattle.cell_base.specs.declared.steps.Step.{Step}
use Rattle.cell_base.specs.declared.steps.Step.TheVariants.{Exec}
use Rattle.cell_machine.specs.Run.{Ran}
use Rattle.race_check.specs.Reorderings.{at_places}
use Rattle.run_permute.proofs.Entries.{in-get}
use Rattle.run_permute.proofs.Making.{made-more, may-go-on}
use Rattle.run_permute.proofs.permuting.make.Goals as goal

pub bounds-steps-place : goal.bounds-steps-place
bounds-steps-place c = c.requires.inside (get_or c.args.order.now c.loop-place.place-index 0) (in-get c.args.order.now c.loop-place.place-index c.loop-place-test.true)

pub unreachable-requires : goal.unreachable-requires
unreachable-requires c =
    let index = c.loop-place.place-index in
    let place = get_or c.args.order.now index 0 in
    let step = get_or c.args.steps.now place (Exec 0) in
    let low = c.requires.inside place (in-get c.args.order.now index c.loop-place-test.true) in
    let at = slice_get-get_or c.args.steps.now place (Exec 0) low in
    let may = may-go-on c.args.setup.now c.args.steps.now c.args.order.now index step c.loop-place.machine c.requires.run c.requires.inside c.loop-place-test.true c.loop-place.invariant at in
    true≢false (sym (subst IsOk c.in_default-step.is (c.step.ensures.allowed.1 may)))

pub loop-place-preserved : goal.loop-place-preserved
loop-place-preserved c =
    let index = c.loop-place.place-index in
    let place = get_or c.args.order.now index 0 in
    let step = get_or c.args.steps.now place (Exec 0) in
    let low = c.requires.inside place (in-get c.args.order.now index c.loop-place-test.true) in
    let more = made-more c.args.setup.now c.args.steps.now c.args.order.now index step c.loop-place-test.true (slice_get-get_or c.args.steps.now place (Exec 0) low) in
    c.in-Ok-step.ensures.made.1 ∙ ap (λ (r : Ran). let n : Ran = record r { steps = r.steps ++ step ∷ [] } in n) c.loop-place.invariant ∙ ap (λ (steps : List Step). let n : Ran = record { setup = c.args.setup.now; steps = steps } in n) (sym more)

pub returns : goal.returns
returns c =
    c.loop-place.invariant ∙ ap (λ (order : List ℕ). let n : Ran = record { setup = c.args.setup.now; steps = at_places c.args.steps.now order } in n) (take_all c.loop-place.place-index c.args.order.now c.loop-place-test.false)
