use Rattle.std.proofs.Common.{arith}
use Rattle.cell_load.specs.Entries.{entry_of}
use Rattle.cell_load.proofs.CutLemmas.{cut_at, cut_end}
use Rattle.cell_load.proofs.LoadLemmas.{next_spes, no_spes}
use Rattle.cell_load.proofs.loads.spes_in.Goals as goal

pub loop-line-preserved : goal.loop-line-preserved
loop-line-preserved c =
    let cut = cut_at entry_of c.args.lines.now c.loop-line.line-index c.line-item.result (omega arith) c.line-item.is in
    rw c.spes_after-spes.ensures (next_spes c.loop-line.spes _ _ _ _ cut c.loop-line.invariant)

pub returns : goal.returns
returns c = no_spes c.loop-line.spes _ _ (cut_end entry_of c.args.lines.now c.loop-line.line-index (omega arith)) c.loop-line.invariant
