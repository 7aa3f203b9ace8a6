use Rattle.std.proofs.Common.{map, ap, length, arith}
use Rattle.std.proofs.lemmas.List.{length-map}
use Rattle.cell_load.specs.Entries.{entry_of}
use Rattle.cell_load.specs.Sources.{named}
use Rattle.cell_load.proofs.Admitted.{few_sources}
use Rattle.cell_load.proofs.plan.Plan.sources.Goals as goal

pub returns-clause-few : goal.returns-clause-few
returns-clause-few c =
    rw c.as_slice.ensures.value
    (omega (arith, ap length c.self.invariant.1, length-map c.self.inside.sources.items named, few_sources (map entry_of c.self.inside.lines.items) c.self.invariant.0))
