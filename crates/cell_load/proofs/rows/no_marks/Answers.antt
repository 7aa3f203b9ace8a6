use Rattle.cell_load.specs.LoadViews.{unmarked}
use Rattle.cell_load.proofs.rows.no_marks.Goals as goal

pub returns : goal.returns
unfolding unmarked
returns c = c.in_ok-marks.ensures.items_if_clones_equal (λ y same. same)
