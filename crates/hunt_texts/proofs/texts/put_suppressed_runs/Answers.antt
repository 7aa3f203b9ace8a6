use Rattle.hunt_texts.specs.Texts.{suppressed_text}
use Rattle.hunt_texts.proofs.RowLemmas.{three}
use Rattle.hunt_texts.proofs.texts.put_suppressed_runs.Goals as goal

pub returns : goal.returns
unfolding suppressed_text
returns c = three _ _ _ _ _ _ _ c.in_ok-extend_from_slice.ensures.items c.in_ok-put_units.ensures c.in_ok-extend_from_slice-2.ensures.items
