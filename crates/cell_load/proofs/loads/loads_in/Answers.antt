use Rattle.std.proofs.Common.{map, arith}
use Rattle.cell_load.specs.Entries.{entry_of}
use Rattle.cell_load.specs.LoadViews.{load_of}
use Rattle.cell_load.proofs.CutLemmas.{cut_at, cut_end}
use Rattle.cell_load.proofs.LoadLemmas.{next_fits, next_loads, no_fits, no_loads}
use Rattle.cell_load.proofs.SourceLemmas.{next_few}
use Rattle.cell_load.proofs.loads.loads_in.Goals as goal

pub loop-line-preserved : goal.loop-line-preserved
loop-line-preserved c =
    let cut = cut_at entry_of c.args.lines.now c.loop-line.line-index c.line-item.result (omega arith) c.line-item.is in
    rw (c.in_ok-keep_parts.ensures.kept, c.spes_after-spes.ensures, c.images_after-left.ensures, c.saturating_sub.ensures) record {
      few = next_few c.loop-line.spes _ _ _ cut c.loop-line.invariant.few;
      fits = next_fits _ _ _ c.loop-line.left.now _ cut c.in_ok-keep_parts.ensures.fits c.loop-line.invariant.fits;
      so_far = next_loads (map load_of c.loop-line.loads.items) c.loop-line.spes _ _ _ c.loop-line.left.now _ cut c.loop-line.invariant.so_far;
    }

pub returns-clause-fits : goal.returns-clause-fits
returns-clause-fits c = c.loop-line.invariant.fits (no_fits _ c.loop-line.left.now (cut_end entry_of c.args.lines.now c.loop-line.line-index (omega arith)))

pub returns-clause-all : goal.returns-clause-all
returns-clause-all c = no_loads (map load_of c.loop-line.loads.items) c.loop-line.spes _ _ _ (cut_end entry_of c.args.lines.now c.loop-line.line-index (omega arith)) c.loop-line.invariant.so_far
