use Rattle.std.proofs.Common.{◌≡◌, length, map, take, ap, arith}
use Rattle.std.specs.List.{filter_map}
use Rattle.cell_machine.specs.Opening.{Opening}
use Rattle.cell_load.specs.Entries.{entry_of}
use Rattle.cell_load.specs.LoadViews.{FitsRegister}
use Rattle.cell_load.specs.Loaded.{or_register}
use Rattle.cell_load.proofs.CutLemmas.{given_at}
use Rattle.cell_load.proofs.LoadLemmas.{given_more}
use Rattle.cell_load.proofs.SetupLemmas.{next_moded}
use Rattle.cell_load.proofs.loading.set_modes.Goals as goal

pub set_mode-requires : goal.set_mode-requires
set_mode-requires c =
    let fits = given_at entry_of or_register (FitsRegister (length c.args.setup.now.entries)) c.args.lines.now c.loop-line.line-index c.line-item.result c.requires (omega arith) in
    let same : length c.loop-line.setup.entries ≡ length c.args.setup.now.entries = ap (λ (S : Opening). length S.entries) c.loop-line.invariant in
    rw same (rw (← c.line-item.is) at fits)

pub loop-line-preserved : goal.loop-line-preserved
loop-line-preserved c =
    let more = given_more entry_of or_register c.args.lines.now c.loop-line.line-index c.line-item.result (omega arith) in
    next_moded c.args.setup.now c.loop-line.setup _ (filter_map or_register (map entry_of (take c.loop-line.line-index c.args.lines.now))) _ _ c.loop-line.invariant c.in_ok-set_mode.ensures (rw (← c.line-item.is) at more)
