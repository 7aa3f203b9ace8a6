use Rattle.std.proofs.Common.{◌≡◌, ◌+◌, ◌*◌, ◌≤◌, length, arith}
use Rattle.cell_load.specs.Loaded.{placed_part}
use Rattle.cell_load.specs.LoadViews.{load_of}
use Rattle.cell_load.proofs.CutLemmas.{cut_or, cut_end, given_at, no_load, whole}
use Rattle.cell_load.proofs.RowLemmas.{next_text, no_text, unmarked-at, unmarked-length}
use Rattle.cell_load.proofs.rows.text_marks.Goals as goal

pub loop-load-init : goal.loop-load-init
loop-load-init c = record {
  all = unmarked-length 65536 _ c.in_ok-marks.ensures;
  text = λ k within. unmarked-at 65536 k _ _ c.in_ok-marks.ensures within;
}

pub mark_load-requires-clause-fits : goal.mark_load-requires-clause-fits
mark_load-requires-clause-fits c = given_at load_of (λ load. placed_part load.spe load.part) (λ x. x.at + length x.bytes ≤ 262144) c.args.loads.now c.loop-load.load-index no_load c.requires (omega arith)

pub loop-load-preserved : goal.loop-load-preserved
loop-load-preserved c =
    let cut = cut_or load_of c.args.loads.now c.loop-load.load-index no_load (omega arith) in
    let same = whole c.loop-load.marks.len c.mark_load.new.marks c.loop-load.marks.items (omega arith) in
    let now : c.deref_mut.result.now ≡ c.loop-load.marks.items = c.deref_mut.ensures.value in
    rw same record {
      all = omega arith;
      text = λ k within. next_text _ _ _ _ _ c.args.spe (4 * k) _ cut (rw now at (c.mark_load.ensures k within)) (c.loop-load.invariant.text k within);
    }

pub returns-clause-text : goal.returns-clause-text
returns-clause-text c = λ k within. no_text _ _ c.args.spe (4 * k) _ (cut_end load_of c.args.loads.now c.loop-load.load-index (omega arith)) (c.loop-load.invariant.text k within)
