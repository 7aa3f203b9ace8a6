use Rattle.std.proofs.Common.{◌≡◌, ◌++◌, take}
use Rattle.std.specs.List.{flat_map}
use Rattle.hunt_texts.specs.Jsons.{source_json}
use Rattle.hunt_texts.proofs.sources.put_sources_json.Given as goal

abbrev pub invariant-loop-source : goal.invariant-loop-source
invariant-loop-source l = l.out.items ≡ l.fn.out.items ++ flat_map source_json (take l.source-index l.coverage)
