use Rattle.std.proofs.Common.{◌≡◌, ◌+◌, ◌-◌, ◌<◌, ◌≤◌, List, length, refl, sym, ap, ◌∙◌, subst, arith}
use Rattle.cell_machine.specs.Run.{Ran, IsRun}
use Rattle.cell_machine.proofs.AllTwo.{whole}
use Rattle.race_order.specs.Orderly.{IsWithin}
use Rattle.run_walk.specs.Ordered.{IsOrdered}
use Rattle.run_walk.specs.Walks.{walked}
use Rattle.run_permute.specs.Walks.{IsAt}
use Rattle.run_permute.proofs.Settlings.{stepped}
use Rattle.run_permute.proofs.Walking.{step-inside}
use Rattle.run_permute.specs.Needs.{AreNeedsOf}
use Rattle.run_permute.specs.Tracks.{AreTracks, IsEndAt}
use Rattle.run_permute.specs.declared.track.Track.{Track}
use Rattle.run_permute.proofs.GatheringNeeds.{gathers-more, tracks-before}
use Rattle.run_permute.proofs.needs.Needs.follow.Goals as goal

pub gather-requires : goal.gather-requires
gather-requires c =
    let m = walked c.args.walk.now in
    let run = subst (λ (r : Ran). IsRun r.setup r.steps) c.machine.ensures c.steps-steps.ensures.run in
    let st = stepped c.args.walk.now c.args.place run c.requires.last in
    let e : length m.steps - 1 ≡ c.args.place = (let long : length m.steps ≡ c.args.place + 1 = st.long in omega arith) in
    let before = tracks-before m c.args.place c.args.self.now run st.counted c.requires.gathers in
    let high : c.track_of-own.result ≤ c.args.self.now.spes = c.track_of-own.ensures in
    let long : length c.args.self.now.tracks.items ≡ c.args.self.now.spes + 1 = c.requires.gathers.long in
    let low : c.track_of-own.result < length c.args.self.now.tracks.items = omega arith in (
      subst (λ j. IsAt c.args.walk.now m (j + 1)) (sym e) st.at,
      (subst (λ (ts : List Track). c.track_of-own.result < length ts) (sym c.deref.ensures.value) low, subst (λ j. AreTracks m j c.deref.result.now) (sym e) (subst (AreTracks m c.args.place) (sym c.deref.ensures.value) before)),
    )

pub track_of-own-requires : goal.track_of-own-requires
track_of-own-requires c =
    let m = walked c.args.walk.now in
    let run = subst (λ (r : Ran). IsRun r.setup r.steps) c.machine.ensures c.steps-steps.ensures.run in
    subst (λ n. IsWithin n c.args.step) (sym c.requires.gathers.spes) (step-inside m c.args.place c.args.step run c.requires.step)

pub add-requires : goal.add-requires
add-requires c =
    let m = walked c.args.walk.now in
    let g = c.requires.gathers in
    let tracks = c.as_mut_slice-tracks.ensures.value in
    let run = subst (λ (r : Ran). IsRun r.setup r.steps) c.machine.ensures c.steps-steps.ensures.run in
    let st = stepped c.args.walk.now c.args.place run c.requires.last in
    let before = tracks-before m c.args.place c.args.self.now run st.counted g in
    let high : c.track_of-own.result ≤ c.args.self.now.spes = c.track_of-own.ensures in
    let long : length c.args.self.now.tracks.items ≡ c.args.self.now.spes + 1 = g.long in
    let low : c.track_of-own.result < length c.args.self.now.tracks.items = omega arith in
    let own = c.track_of-own.result in
    let end = c.in_ok-spot.spot.end in
    let e : length m.steps - 1 ≡ c.args.place = (let long : length m.steps ≡ c.args.place + 1 = st.long in omega arith) in
    let is = subst (λ (ts : List Track). IsEndAt m c.args.place ts own end) (c.deref.ensures.value ∙ sym tracks) (subst (λ j. IsEndAt m j c.deref.result.now own end) e c.in_ok-spot.ensures.end) in
    (st.at, (refl, (subst (λ (ts : List Track). own < length ts) (sym tracks) low, (subst (AreTracks m c.args.place) (sym tracks) before, is))))

pub returns-clause-gathers : goal.returns-clause-gathers
returns-clause-gathers c =
    let m = walked c.args.walk.now in
    let self = c.args.self.now in
    let run = subst (λ (r : Ran). IsRun r.setup r.steps) c.machine.ensures c.steps-steps.ensures.run in
    let st = stepped c.args.walk.now c.args.place run c.requires.last in
    let e : length m.steps - 1 ≡ c.args.place = (let long : length m.steps ≡ c.args.place + 1 = st.long in omega arith) in
    let same = whole self.tracks.len c.add.new.tracks self.tracks.items (sym (c.add.ensures.long ∙ c.as_mut_slice-tracks.ensures.len)) in
    let are = c.in_ok-needs.ensures ∙ c.deref-2.ensures.value in
    gathers-more m c.args.place self run st.counted c.requires.gathers _ c.in_ok-needs.needs st.long refl (ap length same ∙ c.add.ensures.long ∙ ap length c.as_mut_slice-tracks.ensures.value)
    (subst (AreTracks m (c.args.place + 1)) (sym same) c.in_ok-add.ensures.tracks) c.in_ok-push.ensures.items
    (subst (AreNeedsOf (IsOrdered m) c.args.place) (sym are) (subst (λ j. AreNeedsOf (IsOrdered m) j c.gather.new.needs.items) e c.in_ok-spot.ensures.needs))
