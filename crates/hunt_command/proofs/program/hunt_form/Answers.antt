use Rattle.std.proofs.Common.{subst}
use Rattle.hunt_command.specs.Heard.{texts_of}
use Rattle.hunt_command.specs.Files.{IsTarget}
use Rattle.hunt_command.specs.Words.{hunt, asked}
use Rattle.hunt_command.specs.Hunts.{TellsHunt}
use Rattle.hunt_command.proofs.AnswersLaws.{refused, ended}
use Rattle.hunt_command.proofs.program.hunt_form.Goals as goal

pub returns-in-Err : goal.returns-in-Err
returns-in-Err g c =
    let e = c.in-Err.ensures in
    refused (hunt (asked c.args.wanted.now)) _ _ _ _ c.in-Err.fault (λ is. cc) e.input e.same e.store_count e.comes e.cause

pub returns-in-Ok : goal.returns-in-Ok
returns-in-Ok g c =
    let e = c.in-Ok.ensures in
    let w = c.write_hunt.ensures in
    let q = c.in-Ok.target in
    ended (TellsHunt q.setup q.asked (asked c.args.wanted.now) _) (hunt (asked c.args.wanted.now)) _ _ _ _ _ c.write_hunt.result (λ is. cc) e.same e.store_count w.sink_count (λ files. tt)
    (λ files is status text tells. (q, subst (λ warns. IsTarget files c.args.wanted.now.machine.now (texts_of c.args.wanted.now.expect) (texts_of c.args.wanted.now.pass) warns q) c.is_on.ensures (e.comes files is), tells)) w.ends
