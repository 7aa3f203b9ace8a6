use Rattle.std.proofs.Common.{◌≡◌, ◌++◌, drop}
use Rattle.hunt_texts.specs.Lists.{from_place}
use Rattle.hunt_texts.specs.Jsons.{kind_at}
use Rattle.hunt_texts.proofs.kinds.put_all_json.Given as goal

abbrev pub invariant-loop-place : goal.invariant-loop-place
invariant-loop-place l = l.out.items ++ from_place kind_at l.place (drop l.place l.kinds) ≡ l.fn.out.items ++ from_place kind_at 0 l.kinds
