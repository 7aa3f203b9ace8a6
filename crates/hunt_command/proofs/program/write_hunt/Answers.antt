use Rattle.hunt_command.specs.Words.{asked}
use Rattle.hunt_command.specs.Hunts.{TellsHunt, status_of}
use Rattle.hunt_command.proofs.AnswersLaws.{text_ends}
use Rattle.hunt_command.proofs.program.write_hunt.Goals as goal

pub returns-in-Ok-clause-ends : goal.returns-in-Ok-clause-ends
returns-in-Ok-clause-ends g c =
    text_ends (TellsHunt c.args.target.now.setup c.args.target.now.asked (asked c.args.hunt.now) _) _ _ c.as_slice.result.now _ c.status_of.result (status_of c.in-Ok.is_found) c.write_text.result
    c.in-Ok.ensures c.as_slice.ensures.value c.status_of.ensures c.write_text.ensures.ends
