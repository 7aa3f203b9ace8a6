use Rattle.std.proofs.Common.{sym, ◌∙◌, arith}
use Rattle.cell_load.specs.Loaded.{for_spe, image_start}
use Rattle.cell_load.specs.LoadViews.{load_of}
use Rattle.cell_load.proofs.CutLemmas.{cut_or, cut_end, no_load}
use Rattle.cell_load.proofs.LoadLemmas.{first_here, first_later, first_none}
use Rattle.cell_load.proofs.loads.first_image_start.Goals as goal

pub returns-in-Some : goal.returns-in-Some
returns-in-Some c =
    let cut = cut_or load_of c.args.loads.now c.loop-load.load-index no_load (omega arith) in
    sym (c.loop-load.invariant ∙ first_here (for_spe c.args.spe image_start) _ _ _ _ cut (sym c.in-Some.ensures))

pub loop-load-preserved : goal.loop-load-preserved
loop-load-preserved c =
    let cut = cut_or load_of c.args.loads.now c.loop-load.load-index no_load (omega arith) in
    c.loop-load.invariant ∙ first_later (for_spe c.args.spe image_start) _ _ _ cut (sym c.in_default.ensures)

pub returns : goal.returns
returns c = sym (c.loop-load.invariant ∙ first_none (for_spe c.args.spe image_start) _ (cut_end load_of c.args.loads.now c.loop-load.load-index (omega arith)))
