use Rattle.std.proofs.Common.{◌≡◌, ◌++◌, ◌∷◌, take}
use Rattle.std.specs.List.{flat_map}
use Rattle.hunt_texts.specs.Jsons.{byte_json}
use Rattle.hunt_texts.proofs.rows.put_string_json.Given as goal

abbrev pub invariant-loop-b : goal.invariant-loop-b
invariant-loop-b l = l.out.items ≡ l.fn.out.items ++ 34 ∷ flat_map byte_json (take l.b-index l.bytes)
