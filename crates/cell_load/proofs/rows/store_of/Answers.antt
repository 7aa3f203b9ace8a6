use Rattle.std.proofs.Common.{◌+◌, ◌≤◌, length, map, drop, sym, ap, ◌∙◌, arith}
use Rattle.cell_machine.specs.Opening.{placed_in}
use Rattle.cell_load.specs.Loaded.{placed_of, placed_part}
use Rattle.cell_load.specs.LoadViews.{load_of}
use Rattle.cell_load.proofs.CutLemmas.{cut_or, cut_end, given_at, no_load}
use Rattle.cell_load.proofs.rows.store_of.Goals as goal

pub copy_load-requires : goal.copy_load-requires
copy_load-requires c = given_at load_of (λ load. placed_part load.spe load.part) (λ x. x.at + length x.bytes ≤ 262144) c.args.loads.now c.loop-load.load-index no_load c.requires (omega arith)

pub loop-load-preserved : goal.loop-load-preserved
loop-load-preserved c =
    let cut = cut_or load_of c.args.loads.now c.loop-load.load-index no_load (omega arith) in
    c.loop-load.invariant
    ∙ ap (λ loads. placed_in c.loop-load.store c.args.spe (placed_of loads)) cut
    ∙ sym (c.copy_load.ensures (placed_of (map load_of (drop (c.loop-load.load-index + 1) c.args.loads.now))))

pub returns : goal.returns
returns c =
    let none = cut_end load_of c.args.loads.now c.loop-load.load-index (omega arith) in
    sym (c.loop-load.invariant ∙ ap (λ loads. placed_in c.loop-load.store c.args.spe (placed_of loads)) none)
