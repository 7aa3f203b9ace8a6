use Rattle.std.proofs.Common.{◌≡◌, ◌+◌, ◌≤◌, [], ◌∷◌, ◌++◌, rules}
use Rattle.std.proofs.lemmas.List.Elements.{All-push, All-same}
use Rattle.hunt_command.specs.Hunts.{IsPart}
use Rattle.hunt_command.proofs.HuntsLaws.{part_before}
use Rattle.hunt_command.proofs.parts.make_parts.Goals as goal

pub loop-preserved : goal.loop-preserved
loop-preserved c =
    let is = IsPart c.args.target.now c.args.seed c.args.from c.args.end in
    let part = c.in_ok-make_part.field-0 in
    let end : c.in-Some.runs.first + c.in-Some.runs.count ≤ c.args.end = search rules in
    let more : c.push.new.self.items ≡ c.loop.parts.items ++ part ∷ [] = search rules in
    All-same is c.push.new.self.items (c.loop.parts.items ++ part ∷ []) more
    (All-push is c.loop.parts.items part c.loop.invariant
    (part_before c.args.target.now c.args.seed c.args.from (c.in-Some.runs.first + c.in-Some.runs.count) c.args.end part end c.in_ok-make_part.ensures))
