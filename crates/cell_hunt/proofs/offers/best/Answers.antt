use Rattle.std.proofs.Common.{◌≡◌, ◌∙◌, ap, arith}
use Rattle.std.specs.Prelude.{length}
use Rattle.cell_machine.specs.Opening.{Opening}
use Rattle.cell_hunt.specs.Choices.{IsBest, key_of}
use Rattle.cell_hunt.specs.Offers.{offered_by_first, offers}
use Rattle.cell_hunt.proofs.Bests.{all-is, first-init, first-next, if_none, none-is, some-is}
use Rattle.cell_hunt.proofs.Offering.{greatest-allowed}
use Rattle.cell_hunt.proofs.Overs.{first-none}
use Rattle.cell_hunt.proofs.offers.best.Goals as goal

pub loop-spe-init : goal.loop-spe-init
loop-spe-init c = first-init (key_of c.args.machine.now c.args.strategy c.args.keys.now) c.args.machine.now c.args.word

pub loop-spe-preserved : goal.loop-spe-preserved
loop-spe-preserved c =
    first-next (key_of c.args.machine.now c.args.strategy c.args.keys.now) c.args.machine.now c.args.word c.loop-spe.spe c.with_processor-best.result
    (c.with_processor-best.ensures (offered_by_first c.args.machine.now c.args.word c.loop-spe.spe) c.loop-spe.invariant)

pub returns-in_default-clause-best : goal.returns-in_default-clause-best
returns-in_default-clause-best c =
    let m = c.args.machine.now in
    let key = key_of m c.args.strategy c.args.keys.now in
    let count : c.loop-spe.spe ≡ length m.setup.entries = omega (arith, c.loop-spe-test.false, c.loop-spe.auto.spe-end, c.spes-spe-end.ensures.count, ap (λ (o : Opening). length o.entries) c.setup.ensures.setup) in
    let all = all-is key m c.args.word c.loop-spe.spe c.with_host.result count (c.with_host.ensures (offered_by_first m c.args.word c.loop-spe.spe) c.loop-spe.invariant) in
    if_none (IsBest m c.args.strategy c.args.word c.args.keys.now) c.any_step.result
    (c.any_step.ensures.first ∙ first-none m c.args.word c.setup.ensures.count (none-is key (offers m c.args.word) c.with_host.result c.in_default.is all))

pub returns-clause-best : goal.returns-clause-best
returns-clause-best c =
    let m = c.args.machine.now in
    let key = key_of m c.args.strategy c.args.keys.now in
    let count : c.loop-spe.spe ≡ length m.setup.entries = omega (arith, c.loop-spe-test.false, c.loop-spe.auto.spe-end, c.spes-spe-end.ensures.count, ap (λ (o : Opening). length o.entries) c.setup.ensures.setup) in
    let all = all-is key m c.args.word c.loop-spe.spe c.with_host.result count (c.with_host.ensures (offered_by_first m c.args.word c.loop-spe.spe) c.loop-spe.invariant) in
    some-is key (offers m c.args.word) c.with_host.result c.in-Some.best c.in-Some.is all

pub returns-clause-allowed : goal.returns-clause-allowed
returns-clause-allowed c =
    let m = c.args.machine.now in
    let key = key_of m c.args.strategy c.args.keys.now in
    let count : c.loop-spe.spe ≡ length m.setup.entries = omega (arith, c.loop-spe-test.false, c.loop-spe.auto.spe-end, c.spes-spe-end.ensures.count, ap (λ (o : Opening). length o.entries) c.setup.ensures.setup) in
    let all = all-is key m c.args.word c.loop-spe.spe c.with_host.result count (c.with_host.ensures (offered_by_first m c.args.word c.loop-spe.spe) c.loop-spe.invariant) in
    greatest-allowed m c.args.word key c.in-Some.best.step (some-is key (offers m c.args.word) c.with_host.result c.in-Some.best c.in-Some.is all)
