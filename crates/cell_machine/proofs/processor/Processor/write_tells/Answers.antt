use Rattle.std.proofs.Common.{sym}
use Rattle.std.specs.Prelude.{Some}
use Rattle.cell_base.specs.declared.steps.ChannelOp.TheVariants.{Write}
use Rattle.cell_machine.proofs.Telling.{told-on, write-1, write-2, write-22, write-23, write-26, write-28, write-30}
use Rattle.cell_machine.proofs.processor.Processor.write_tells.Goals as goal

pub returns-in-1 : goal.returns-in-1
returns-in-1 c = λ P Q registers store shows on made. rw c.in-1.is (sym (told-on c.args.spe P Q (Some (Write 1 c.args.value)) (write-1 c.args.lines _ Q c.args.value (rw c.in-1.is at made)).status))

pub returns-in-2 : goal.returns-in-2
returns-in-2 c = λ P Q registers store shows on made. rw c.in-2.is (sym (told-on c.args.spe P Q (Some (Write 2 c.args.value)) (write-2 c.args.lines _ Q c.args.value (rw c.in-2.is at made)).status))

pub returns-in-21 : goal.returns-in-21
returns-in-21 c = λ P Q registers store shows on made. rw c.in-21.is (c.command_tells.ensures c.args.spe P Q registers store shows on (rw c.in-21.is at made))

pub returns-in-22 : goal.returns-in-22
returns-in-22 c = λ P Q registers store shows on made. rw c.in-22.is (sym (told-on c.args.spe P Q (Some (Write 22 c.args.value)) (write-22 c.args.lines _ Q c.args.value (rw c.in-22.is at made)).status))

pub returns-in-23 : goal.returns-in-23
returns-in-23 c = λ P Q registers store shows on made. rw c.in-23.is (sym (told-on c.args.spe P Q (Some (Write 23 c.args.value)) (write-23 c.args.lines _ Q c.args.value (rw c.in-23.is at made)).status))

pub returns-in-26 : goal.returns-in-26
returns-in-26 c = λ P Q registers store shows on made. rw c.in-26.is (sym (told-on c.args.spe P Q (Some (Write 26 c.args.value)) (write-26 c.args.lines _ Q c.args.value (rw c.in-26.is at made)).status))

pub returns-in-28 : goal.returns-in-28
returns-in-28 c = λ P Q registers store shows on made. rw c.in-28.is (sym (told-on c.args.spe P Q (Some (Write 28 c.args.value)) (write-28 c.args.lines _ Q c.args.value (rw c.in-28.is at made)).status))

pub returns-in-30 : goal.returns-in-30
returns-in-30 c = λ P Q registers store shows on made. rw c.in-30.is (sym (told-on c.args.spe P Q (Some (Write 30 c.args.value)) (write-30 c.args.lines _ Q c.args.value (rw c.in-30.is at made)).status))

pub returns-in_default : goal.returns-in_default
returns-in_default c = λ P Q registers store shows on made. c.param_tells.ensures c.args.lines c.args.spe c.args.value P Q registers store on made
