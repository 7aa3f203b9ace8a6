use Rattle.hunt_command.specs.Words.{record_of}
use Rattle.hunt_command.specs.Answers.{TellsRun}
use Rattle.hunt_command.proofs.AnswersLaws.{refused, ended}
use Rattle.hunt_command.proofs.program.record_form.Goals as goal

pub returns-in-Err : goal.returns-in-Err
returns-in-Err g c = λ stopped.
    let e = c.in-Err.ensures in
    refused (record_of c.args.machine.now c.args.run c.args.seed) stopped _ _ _ c.in-Err.fault (λ is. cc) e.input e.same e.store_count e.comes e.cause

pub returns-in-Ok : goal.returns-in-Ok
returns-in-Ok g c = λ stopped.
    let e = c.in-Ok.ensures in
    let w = c.write_record.ensures in
    let q = c.in-Ok.target in
    ended (TellsRun q.setup c.args.run c.args.seed) (record_of c.args.machine.now c.args.run c.args.seed) stopped _ _ _ _ c.write_record.result (λ is. cc) e.same e.store_count w.sink_count (λ files. tt)
    (λ files is status text tells. (q, e.comes files is, tells)) w.ends
