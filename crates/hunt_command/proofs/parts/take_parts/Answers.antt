use Rattle.std.proofs.Common.{◌∷◌, sym, arith}
use Rattle.std.proofs.lemmas.List.Elements.{All-head, All-rest, All-same}
use Rattle.hunt_command.specs.Hunts.{IsPart, AreParts}
use Rattle.hunt_command.proofs.parts.take_parts.Goals as goal
use Rattle.hunt_command.proofs.parts.take_parts.Goals.{In-Some}

-- what is told of the part that comes next
part_is : (c : In-Some) → IsPart c.args.target.now c.args.seed c.args.from c.args.end c.in-Some.part
part_is c =
    let is = IsPart c.args.target.now c.args.seed c.args.from c.args.end in
    let rest = c.next.new.self.rest.items in
    All-head is c.in-Some.part rest (All-same is (c.in-Some.part ∷ rest) c.loop-part.part-iterator.rest.items (sym c.in-Some.ensures.steps.0) c.loop-part.invariant.left)

-- and of those behind it
left : (c : In-Some) → AreParts c.args.target.now c.args.seed c.args.from c.args.end c.next.new.self.rest.items
left c =
    All-rest (IsPart c.args.target.now c.args.seed c.args.from c.args.end) c.in-Some.part c.next.new.self.rest.items c.loop-part.part-iterator.rest.items c.in-Some.ensures.steps.0 c.loop-part.invariant.left

pub take_part-requires-clause-numbered : goal.take_part-requires-clause-numbered
take_part-requires-clause-numbered c = let within = (part_is (goal.at.take_part-requires-clause-numbered c).In-Some).within in omega (arith, within, c.requires.numbered)

pub take_part-requires-clause-room : goal.take_part-requires-clause-room
take_part-requires-clause-room c = let within = (part_is (goal.at.take_part-requires-clause-room c).In-Some).within in omega (arith, within, c.requires.room)

pub take_part-requires-clause-behind : goal.take_part-requires-clause-behind
take_part-requires-clause-behind c = (part_is (goal.at.take_part-requires-clause-behind c).In-Some).taken

pub loop-part-preserved : goal.loop-part-preserved
loop-part-preserved c =
    let o = (goal.at.loop-part-preserved c).In-Some in
    let end = (part_is o).within in
    let all = c.in_ok-made.ensures.within in
    record {
      can = tt;
      finite = tt;
      left = left o;
      taken = c.in_ok-made.ensures.taken;
      within = omega (arith, end, all, c.loop-part.invariant.within);
    }
