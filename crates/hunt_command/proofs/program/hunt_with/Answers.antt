use Rattle.cell_commands.specs.Answer.{Sinks}
use Rattle.hunt_command.specs.Answers.{Stores}
use Rattle.hunt_command.proofs.AnswersLaws.{helped, as_spoken}
use Rattle.hunt_command.proofs.program.hunt_with.Goals as goal

pub returns-in-Each : goal.returns-in-Each
returns-in-Each g c = as_spoken c.in-Each.ensures.form (c.each_form.ensures (g.P.Progress.stopped c.args.progress.now))

pub returns-in-Record : goal.returns-in-Record
returns-in-Record g c = as_spoken c.in-Record.ensures.form (c.record_form.ensures (g.P.Progress.stopped c.args.progress.now))

pub returns-in-Help : goal.returns-in-Help
returns-in-Help g c =
    let store : Stores = record { files = g.T.Store.files c.args.files.now; ledger = g.T.Store.ledger c.args.files.now } in
    let sink : Sinks = record { taken = g.K.Sink.taken c.args.out.now; faults = g.K.Sink.faults c.args.out.now } in
    let after : Sinks = record { taken = g.K.Sink.taken c.write_text.new.out; faults = g.K.Sink.faults c.write_text.new.out } in
    as_spoken c.in-Help.ensures.form (helped (g.P.Progress.stopped c.args.progress.now) store sink after c.write_text.result c.write_text.ensures.sink_count c.write_text.ensures.ends)
