use Rattle.hunt_texts.specs.Coverage.{classes_line}
use Rattle.hunt_texts.proofs.RowLemmas.{four}
use Rattle.hunt_texts.proofs.coverage.put_classes.Goals as goal

pub returns : goal.returns
unfolding classes_line
returns c = four _ _ _ _ _ _ _ _ _ c.in_ok-extend_from_slice.ensures.items c.in_ok-put_units.ensures c.in_ok-put_seen.ensures c.in_ok-push.ensures.items
