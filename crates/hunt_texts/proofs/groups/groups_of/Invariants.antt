use Rattle.std.proofs.Common.{take}
use Rattle.hunt_tally.specs.Tallies.{told_in}
use Rattle.hunt_texts.specs.Groups.{AreGroups}
use Rattle.hunt_texts.proofs.groups.groups_of.Given as goal

abbrev pub invariant-loop-place : goal.invariant-loop-place
invariant-loop-place l = AreGroups (told_in l.endings) (take l.place (told_in l.results)) l.groups.items
