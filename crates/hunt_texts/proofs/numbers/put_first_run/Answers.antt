use Rattle.hunt_texts.specs.Numbers.{first_text}
use Rattle.hunt_texts.proofs.RowLemmas.{two}
use Rattle.hunt_texts.proofs.numbers.put_first_run.Goals as goal

pub returns : goal.returns
unfolding first_text
returns c = two _ _ _ _ _ c.in_ok-extend_from_slice.ensures.items c.in_ok-put_word.ensures
