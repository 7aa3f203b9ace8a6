use Rattle.cell_io.proofs.AdapterLemmas.{part_gone, part_gone_after}
use Rattle.cell_io.proofs.out_sink.write_whole.Goals as goal

pub returns-in-Ok-eq0 : goal.returns-in-Ok-eq0
returns-in-Ok-eq0 g c = part_gone_after _ _ _ _ _ _ c.loop-rest.invariant c.in-Ok-eq0.ensures.bytes

pub returns-in-Err : goal.returns-in-Err
returns-in-Err g c = part_gone _ _ _ _ _ c.loop-rest.invariant c.in-Err.ensures.bytes
