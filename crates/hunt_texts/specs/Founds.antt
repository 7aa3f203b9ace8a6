-- What a finding of the code stands for.
use Rattle.hunt_tally.specs.Lines.{told_by}
use Rattle.hunt_texts.specs.declared.found.Found.{Found as ALine}
use Rattle.hunt_texts.specs.Findings.{Found}

abbrev pub found_by : ALine → Found
found_by f = record { kind = f.kind; told = told_by f.line }
