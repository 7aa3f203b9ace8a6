use Rattle.std.proofs.Common.{sym, ◌∙◌, ap}
use Rattle.std.specs.Prelude.{Some, is_some}
use Rattle.cell_base.specs.declared.steps.ChannelOp.TheVariants.{Count}
use Rattle.cell_machine.proofs.Telling.{told-on, told-off, count-there, count-absent}
use Rattle.cell_machine.proofs.instructions.count_tells.Goals as goal

pub returns-in-Some : goal.returns-in-Some
returns-in-Some c = λ lines spe P Q registers store rt on made. sym (told-on spe P Q (Some (Count rt c.args.ch)) (count-there lines _ Q rt c.args.ch (ap is_some (sym c.way.ensures ∙ c.in-Some.is)) made).status)

pub returns-in-None : goal.returns-in-None
returns-in-None c = λ lines spe P Q registers store rt on made. sym (told-off spe P Q (Some (Count rt c.args.ch)) on (count-absent lines _ Q rt c.args.ch (ap is_some (sym c.way.ensures ∙ c.in-None.is)) made))
