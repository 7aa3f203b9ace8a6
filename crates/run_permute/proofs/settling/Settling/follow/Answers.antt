use Rattle.std.proofs.Common.{◌+◌, length, refl, sym, ap, ◌∙◌, subst}
use Rattle.cell_machine.specs.Run.{Ran, IsRun}
use Rattle.cell_machine.proofs.AllTwo.{whole}
use Rattle.run_walk.specs.Walks.{walked}
use Rattle.reorder_laws.specs.Places.{until}
use Rattle.run_permute.specs.Watches.{AreWatches}
use Rattle.run_permute.proofs.Settlings.{earlier, stepped, stepped-follows, unsettled-more}
use Rattle.run_permute.proofs.Walking.{made-there}
use Rattle.run_permute.proofs.settling.Settling.follow.Goals as goal

pub returns-then-not-self-clause-follows : goal.returns-then-not-self-clause-follows
returns-then-not-self-clause-follows c =
    let m = walked c.args.walk.now in
    let run = subst (λ (r : Ran). IsRun r.setup r.steps) c.machine.ensures c.steps-steps.ensures.run in
    let st = stepped c.args.walk.now c.args.place run c.requires.last in
    unsettled-more m c.args.place c.args.self.now run st.long st.counted c.requires.follows c.if-not-self.true

pub follow-requires : goal.follow-requires
follow-requires c =
    let m = walked c.args.walk.now in
    let run = subst (λ (r : Ran). IsRun r.setup r.steps) c.machine.ensures c.steps-steps.ensures.run in
    let st = stepped c.args.walk.now c.args.place run c.requires.last in
    let e = earlier m c.args.place c.args.self.now run st.counted c.requires.follows c.if-not-self.false in (
      st.at,
      (c.requires.step, (made-there m c.args.place c.args.step c.args.made.now (until m c.args.place) run refl c.requires.step c.requires.made, (subst (AreWatches m c.args.place) (sym c.as_mut_slice-watches.ensures.value) e.0, e.1))),
    )

pub returns-clause-follows : goal.returns-clause-follows
returns-clause-follows c =
    let m = walked c.args.walk.now in
    let self = c.args.self.now in
    let run = subst (λ (r : Ran). IsRun r.setup r.steps) c.machine.ensures c.steps-steps.ensures.run in
    let st = stepped c.args.walk.now c.args.place run c.requires.last in
    let e = earlier m c.args.place self run st.counted c.requires.follows c.if-not-self.false in
    stepped-follows m c.args.place c.in_ok-self.field-0 _ st.long e.1 refl c.in_ok-self.ensures.settled
    (λ t.
    let on = c.in_ok-self.ensures.watches t in
    let same = sym c.as_mut_slice-watches.ensures.len ∙ ap length c.as_mut_slice-watches.ensures.value ∙ e.0.many ∙ sym on.many in
    subst (AreWatches m (c.args.place + 1)) (sym (whole self.watches.len c.follow.new.watches self.watches.items same)) on)
