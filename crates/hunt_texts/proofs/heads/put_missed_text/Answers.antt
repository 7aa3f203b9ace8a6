use Rattle.hunt_texts.specs.Heads.{missed_text}
use Rattle.hunt_texts.proofs.RowLemmas.{three}
use Rattle.hunt_texts.proofs.heads.put_missed_text.Goals as goal

pub returns : goal.returns
unfolding missed_text
returns c = three _ _ _ _ _ _ _ c.in_ok-extend_from_slice.ensures.items c.in_ok-put_word.ensures c.in_ok-put_word-2.ensures
