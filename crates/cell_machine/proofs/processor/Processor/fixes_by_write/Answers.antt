use Rattle.std.proofs.Common.{sym, ◌∙◌, ap, arith}
use Rattle.tag_groups.specs.declared.Tags.{Tags}
use Rattle.cell_machine.specs.Channels.{with_resumed}
use Rattle.cell_machine.specs.Moves.{stalls_of_tag}
use Rattle.cell_machine.specs.Effects.{is_fixed}
use Rattle.cell_machine.proofs.Telling.{write-23, write-26, write-fixes}
use Rattle.cell_machine.proofs.processor.Processor.fixes_by_write.Goals as goal

pub returns-in-21 : goal.returns-in-21
returns-in-21 c = λ P Q registers store shows made. c.fixes_by_command.ensures P Q registers store shows (rw c.in-21.is at made)

pub returns-in-23 : goal.returns-in-23
returns-in-23 c = λ P Q registers store shows made. c.fixes_by_request.ensures P shows ∙ sym (write-23 c.args.lines _ Q c.args.value (rw c.in-23.is at made)).fixes

pub returns-in-26 : goal.returns-in-26
returns-in-26 c = λ P Q registers store shows made.
    c.fixes_by_acknowledgement.ensures P.moves shows.queue ∙ ap (λ (t : Tags). is_fixed t (with_resumed P.moves (stalls_of_tag P.moves c.args.value))) (sym shows.tags)
    ∙ sym (write-26 c.args.lines _ Q c.args.value (rw c.in-26.is at made)).fixes

pub returns-in_default : goal.returns-in_default
returns-in_default c = λ P Q registers store shows made.
    c.fixes.ensures P shows ∙ sym (write-fixes c.args.lines _ Q c.args.ch c.args.value (omega arith) (omega arith) (omega arith) made)
