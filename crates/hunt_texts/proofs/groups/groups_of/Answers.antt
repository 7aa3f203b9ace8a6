use Rattle.std.proofs.Common.{◌+◌, sym, ◌∙◌, subst, take, arith, Vec}
use Rattle.std.specs.declared.alloc.Global.{Global}
use Rattle.hunt_tally.specs.declared.tally.Line.{Line}
use Rattle.hunt_tally.specs.Tallies.{told_in}
use Rattle.hunt_texts.specs.Groups.{AreGroups}
use Rattle.hunt_texts.proofs.GroupLemmas.{none_more, group_more, there_is, place_below}
use Rattle.hunt_texts.proofs.groups.groups_of.Goals as goal
use Rattle.hunt_texts.proofs.groups.groups_of.Goals.{in-Some+in_ok-push, in_default}

pub loop-place-preserved : goal.loop-place-preserved
loop-place-preserved c =
    let P : Vec (Vec Line Global) Global → Type 0 = λ g. AreGroups (told_in c.args.endings.now) (take (c.loop-place.place + 1) (told_in c.args.results.now)) g.items in
    elim c.match-place_of.branch [
      | in-Some+in_ok-push w ↦
          (let is = sym c.place_of.ensures ∙ w.in-Some.is in
          let below = place_below _ (told_in c.args.endings.now) w.in-Some.at is in
          let long = c.loop-place.invariant.long in
          let there = there_is c.loop-place.groups.items w.in-Some.at w.index_mut.result.now (omega (arith, below, long)) w.index_mut.ensures.value in
          subst P (sym w.groups-is) (group_more (told_in c.args.endings.now) (told_in c.args.results.now) c.loop-place.groups.items c.loop-place.place c.get-line.result c.get-line.ensures
          w.in-Some.at w.index_mut.result.now w.push.new.self c.loop-place.invariant is there w.in_ok-push.ensures.items))
      | in_default w ↦
          subst P (sym w.groups-is) (none_more (told_in c.args.endings.now) (told_in c.args.results.now) c.loop-place.groups.items c.loop-place.place c.get-line.result c.get-line.ensures
          c.loop-place.invariant (sym c.place_of.ensures ∙ w.in_default.is))
    ]
