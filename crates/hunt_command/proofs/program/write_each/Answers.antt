use Rattle.hunt_command.specs.Hunts.{TellsEach, status_of}
use Rattle.hunt_command.proofs.AnswersLaws.{text_ends}
use Rattle.hunt_command.proofs.HuntsLaws.{each_tells}
use Rattle.hunt_command.proofs.program.write_each.Goals as goal

pub returns-in-Ok-clause-ends : goal.returns-in-Ok-clause-ends
returns-in-Ok-clause-ends g c =
    text_ends (TellsEach c.args.setup.now c.args.from c.args.runs c.args.seed) _ _ c.as_slice.result.now _ c.status_of.result (status_of c.in-Ok.is_racy) c.write_text.result
    (each_tells c.args.setup.now c.args.seed c.args.from c.args.runs _ c.in-Ok.is_racy c.in-Ok.ensures) c.as_slice.ensures.value c.status_of.ensures c.write_text.ensures.ends
