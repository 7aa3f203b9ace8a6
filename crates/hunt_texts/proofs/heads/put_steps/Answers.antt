use Rattle.hunt_texts.specs.Heads.{steps_line}
use Rattle.hunt_texts.proofs.RowLemmas.{two}
use Rattle.hunt_texts.proofs.heads.put_steps.Goals as goal

pub returns : goal.returns
unfolding steps_line
returns c = two _ _ _ _ _ c.in_ok-extend_from_slice.ensures.items c.in_ok-put_word.ensures
