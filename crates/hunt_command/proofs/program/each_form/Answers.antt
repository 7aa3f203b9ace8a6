use Rattle.hunt_command.specs.Words.{each}
use Rattle.hunt_command.specs.Hunts.{TellsEach}
use Rattle.hunt_command.proofs.AnswersLaws.{refused, ended}
use Rattle.hunt_command.proofs.program.each_form.Goals as goal

pub returns-in-Err : goal.returns-in-Err
returns-in-Err g c = λ stopped.
    let e = c.in-Err.ensures in
    refused (each c.args.machine.now c.args.from c.args.runs c.args.seed) stopped _ _ _ c.in-Err.fault (λ is. cc) e.input e.same e.store_count e.comes e.cause

pub returns-in-Ok : goal.returns-in-Ok
returns-in-Ok g c = λ stopped.
    let e = c.in-Ok.ensures in
    let w = c.write_each.ensures in
    let q = c.in-Ok.target in
    ended (TellsEach q.setup c.args.from c.args.runs c.args.seed) (each c.args.machine.now c.args.from c.args.runs c.args.seed) stopped _ _ _ _ c.write_each.result (λ is. cc) e.same e.store_count w.sink_count (λ files. tt)
    (λ files is status text tells. (q, e.comes files is, tells)) w.ends
