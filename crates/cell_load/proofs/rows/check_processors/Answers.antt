use Rattle.std.proofs.Common.{◌+◌, ◌-◌, map, arith}
use Rattle.std.proofs.lemmas.Result.{err_from_is_err_and}
use Rattle.cell_load.specs.LoadViews.{load_of}
use Rattle.cell_load.proofs.RowLemmas.{no_processor, processor_bad, processor_good}
use Rattle.cell_load.proofs.rows.check_processors.Goals as goal

pub returns-in_err-check_processor : goal.returns-in_err-check_processor
returns-in_err-check_processor c =
    let p = err_from_is_err_and c.from_residual.result c.from_residual.ensures.1 in
    rw (p.1, p.2) (processor_bad (Unit {0}) (Unit {0}) (map load_of c.args.loads.now) c.loop-spe.spe (c.args.spes - c.loop-spe.spe) (c.args.spes - (c.loop-spe.spe + 1)) _ _ (omega arith) c.loop-spe.invariant c.in_err-check_processor.ensures)

pub loop-spe-preserved : goal.loop-spe-preserved
loop-spe-preserved c = processor_good (map load_of c.args.loads.now) c.loop-spe.spe (c.args.spes - c.loop-spe.spe) (c.args.spes - (c.loop-spe.spe + 1)) _ (omega arith) c.loop-spe.invariant c.in_ok-check_processor.ensures

pub returns : goal.returns
returns c = no_processor (map load_of c.args.loads.now) c.loop-spe.spe (c.args.spes - c.loop-spe.spe) _ (omega arith) c.loop-spe.invariant
