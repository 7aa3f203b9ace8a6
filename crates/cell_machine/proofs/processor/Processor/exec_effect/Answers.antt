use Rattle.std.proofs.Common.{sym, ◌∙◌, ap}
use Rattle.std.specs.Option.{option_map}
use Rattle.cell_machine.specs.Effects.{exec_effect}
use Rattle.cell_machine.proofs.AllTwo.{none_of}
use Rattle.cell_machine.proofs.processor.Processor.exec_effect.Goals as goal

pub returns-then-not-may_exec : goal.returns-then-not-may_exec
returns-then-not-may_exec c = λ P shows. sym (ap (option_map (exec_effect c.args.spe P)) (none_of _ (sym (c.may_exec.ensures c.args.lines P shows) ∙ c.if-not-may_exec.true)))

pub returns : goal.returns
returns c = λ P shows. c.allowed_effect.ensures P shows (sym (c.may_exec.ensures c.args.lines P shows) ∙ c.if-not-may_exec.false)
