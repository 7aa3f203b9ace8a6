use Rattle.std.proofs.Common.{sym, ◌∙◌}
use Rattle.std.specs.Prelude.{Some}
use Rattle.cell_base.specs.declared.steps.ChannelOp.TheVariants.{Write}
use Rattle.cell_machine.proofs.Telling.{told-on, told-off, write-of_param, param-told, write-rest}
use Rattle.cell_machine.proofs.instructions.param_tells.Goals as goal

pub returns-then-is_param : goal.returns-then-is_param
returns-then-is_param c = λ lines spe value P Q registers store on made.
    let r = c.requires in
    sym (told-on spe P Q (Some (Write c.args.ch value)) (write-of_param lines _ Q c.args.ch value (sym c.is_param.ensures ∙ c.if-is_param.true) made).status ∙ param-told spe P Q c.args.ch value r.2 r.5 r.6 r.7)

pub returns-else-is_param : goal.returns-else-is_param
returns-else-is_param c = λ lines spe value P Q registers store on made.
    let r = c.requires in
    sym (told-off spe P Q (Some (Write c.args.ch value)) on (write-rest lines _ Q c.args.ch value (sym c.is_param.ensures ∙ c.if-is_param.false) r.0 r.1 r.2 r.3 r.4 r.5 r.6 r.7 made))
