use Rattle.std.proofs.lemmas.Result.{err_from_is_err_and}
use Rattle.std.proofs.Common.{Err, refl, ◌∙◌, ap}
use Rattle.cell_commands.proofs.Puts.{takes_first, takes_second}
use Rattle.cell_commands.proofs.run.put_both.Goals as goal

pub returns-in_err-put-clause-takes : goal.returns-in_err-put-clause-takes
returns-in_err-put-clause-takes g c =
    let p = err_from_is_err_and c.from_residual.result c.from_residual.ensures.1 in
    takes_first _ _ c.args.first.now c.args.second.now c.in_err-put.field-0.0 (Err c.in_err-put.field-0.0) c.from_residual.result refl (p.1 ∙ ap Err p.2) c.in_err-put.ensures.takes

pub returns-clause-takes : goal.returns-clause-takes
returns-clause-takes g c = takes_second _ _ _ c.args.first.now c.args.second.now c.in_ok-put.field-0 c.put-2.result c.in_ok-put.ensures.takes c.put-2.ensures.takes
