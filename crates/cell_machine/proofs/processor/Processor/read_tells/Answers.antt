use Rattle.std.proofs.Common.{sym, ◌∙◌, ap, arith}
use Rattle.std.specs.Prelude.{Some}
use Rattle.std.specs.Option.{option_map_or}
use Rattle.cell_base.specs.declared.steps.ChannelOp.TheVariants.{Read}
use Rattle.cell_channels.specs.declared.channels.Channels.{Channels}
use Rattle.tag_groups.specs.declared.Tags.{Tags}
use Rattle.cell_machine.specs.declared.effect.Note.TheVariants.{Nothing, TagRead, StallRead}
use Rattle.cell_machine.proofs.Telling.{told-on, told-off, read-0, read-3, read-4, read-11, read-12, read-24, read-25, read-27, read-29, read-rest}
use Rattle.cell_machine.proofs.processor.Processor.read_tells.Goals as goal

pub returns-in-0 : goal.returns-in-0
returns-in-0 c = λ lines P Q registers store rt shows on made. rw c.in-0.is (sym (told-on c.args.spe P Q (Some (Read rt 0)) (read-0 lines _ Q rt (rw c.in-0.is at made)).status))

pub returns-in-3 : goal.returns-in-3
returns-in-3 c = λ lines P Q registers store rt shows on made. rw c.in-3.is (sym (told-on c.args.spe P Q (Some (Read rt 3)) (read-3 lines _ Q rt (rw c.in-3.is at made)).status))

pub returns-in-4 : goal.returns-in-4
returns-in-4 c = λ lines P Q registers store rt shows on made. rw c.in-4.is (sym (told-on c.args.spe P Q (Some (Read rt 4)) (read-4 lines _ Q rt (rw c.in-4.is at made)).status))

pub returns-in-11 : goal.returns-in-11
returns-in-11 c = λ lines P Q registers store rt shows on made. rw c.in-11.is (sym (told-on c.args.spe P Q (Some (Read rt 11)) (read-11 lines _ Q rt (rw c.in-11.is at made)).status))

pub returns-in-12 : goal.returns-in-12
returns-in-12 c = λ lines P Q registers store rt shows on made. rw c.in-12.is (sym (told-on c.args.spe P Q (Some (Read rt 12)) (read-12 lines _ Q rt (rw c.in-12.is at made)).status))

pub returns-in-24 : goal.returns-in-24
returns-in-24 c = λ lines P Q registers store rt shows on made. rw c.in-24.is (c.status_told.ensures ∙ ap (λ (t : Tags). option_map_or (λ s. TagRead s.groups s.issued) t.status Nothing) (sym shows.tags) ∙ sym (told-on c.args.spe P Q (Some (Read rt 24)) (read-24 lines _ Q rt (rw c.in-24.is at made)).status))

pub returns-in-25 : goal.returns-in-25
returns-in-25 c = λ lines P Q registers store rt shows on made. rw c.in-25.is (ap StallRead (c.stalls.ensures ∙ ap (λ (k : Channels). k.stalls) (sym shows.channels)) ∙ sym (told-on c.args.spe P Q (Some (Read rt 25)) (read-25 lines _ Q rt (rw c.in-25.is at made)).status))

pub returns-in-27 : goal.returns-in-27
returns-in-27 c = λ lines P Q registers store rt shows on made. rw c.in-27.is (sym (told-on c.args.spe P Q (Some (Read rt 27)) (read-27 lines _ Q rt (rw c.in-27.is at made)).status))

pub returns-in-29 : goal.returns-in-29
returns-in-29 c = λ lines P Q registers store rt shows on made. rw c.in-29.is (sym (told-on c.args.spe P Q (Some (Read rt 29)) (read-29 lines _ Q rt (rw c.in-29.is at made)).status))

pub returns-in_default : goal.returns-in_default
returns-in_default c = λ lines P Q registers store rt shows on made.
    sym (told-off c.args.spe P Q (Some (Read rt c.args.ch)) on (read-rest lines _ Q rt c.args.ch (omega arith) (omega arith) (omega arith) (omega arith) (omega arith) (omega arith) (omega arith) (omega arith) (omega arith) made))
