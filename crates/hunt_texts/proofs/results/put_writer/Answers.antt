use Rattle.hunt_texts.specs.Results.{writer_line}
use Rattle.hunt_texts.proofs.RowLemmas.{four}
use Rattle.hunt_texts.proofs.results.put_writer.Goals as goal

pub returns : goal.returns
unfolding writer_line
returns c = four _ _ _ _ _ _ _ _ _ c.in_ok-extend_from_slice.ensures.items c.in_ok-put_command.ensures c.in_ok-put_watch.ensures c.in_ok-push.ensures.items
