use Rattle.std.proofs.Common.{◌≡◌, map, take, ap, arith}
use Rattle.std.specs.List.{filter_map}
use Rattle.cell_machine.specs.Opening.{Opening}
use Rattle.cell_machine.specs.Limits.{FitsMemory}
use Rattle.cell_load.specs.Entries.{entry_of}
use Rattle.cell_load.specs.Loaded.{memory_piece}
use Rattle.cell_load.proofs.CutLemmas.{given_at}
use Rattle.cell_load.proofs.LoadLemmas.{given_more}
use Rattle.cell_load.proofs.SetupLemmas.{next_filled}
use Rattle.cell_load.proofs.loading.fill_memory.Goals as goal

pub place_memory-requires : goal.place_memory-requires
place_memory-requires c =
    let fits = given_at entry_of memory_piece (FitsMemory c.args.setup.now.lines) c.args.lines.now c.loop-line.line-index c.line-item.result c.requires (omega arith) in
    let same : c.loop-line.setup.lines ≡ c.args.setup.now.lines = ap (λ (S : Opening). S.lines) c.loop-line.invariant in
    rw same (rw (← c.line-item.is) at fits)

pub loop-line-preserved : goal.loop-line-preserved
loop-line-preserved c =
    let more = given_more entry_of memory_piece c.args.lines.now c.loop-line.line-index c.line-item.result (omega arith) in
    next_filled c.args.setup.now c.loop-line.setup _ (filter_map memory_piece (map entry_of (take c.loop-line.line-index c.args.lines.now))) _ _ c.loop-line.invariant c.in_ok-place_memory.ensures (rw (← c.line-item.is) at more)
