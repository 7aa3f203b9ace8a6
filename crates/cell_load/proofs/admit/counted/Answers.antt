use Rattle.std.proofs.Common.{sym, ap, ◌∙◌}
use Rattle.cell_load.specs.declared.line.Line.{Line}
use Rattle.cell_load.specs.Entries.{entry_of}
use Rattle.cell_load.specs.Order.{counted}
use Rattle.cell_load.proofs.admit.counted.Goals as goal

pub returns-in-Source : goal.returns-in-Source
returns-in-Source c = c.count_source.ensures _ ∙ ap (λ (l : Line). counted c.args.counts (entry_of l)) (sym c.in-Source.is)
