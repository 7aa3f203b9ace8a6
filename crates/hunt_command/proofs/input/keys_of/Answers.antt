use Rattle.std.proofs.Common.{ap, map, refl, ◌∙◌}
use Rattle.hunt_reports.specs.Places.{key_of}
use Rattle.hunt_reports.proofs.Ends.{take_past}
use Rattle.hunt_command.proofs.KeysLaws.{keys_step}
use Rattle.hunt_command.proofs.input.keys_of.Goals as goal

pub loop-race-preserved : goal.loop-race-preserved
loop-race-preserved c =
    keys_step (key_of c.args.places.now) c.args.races.now c.loop-race.race-index _ _ _ _ c.loop-race-test.true refl c.loop-race.invariant c.in_ok-add_key.ensures

pub returns : goal.returns
returns c = c.loop-race.invariant ∙ ap (map (key_of c.args.places.now)) (take_past c.args.races.now c.loop-race.race-index c.loop-race-test.false)
