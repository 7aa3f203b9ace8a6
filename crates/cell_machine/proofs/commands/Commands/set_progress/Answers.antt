use Rattle.std.proofs.Common.{◌<◌, length, true≢false, sym, ◌∙◌, ap, arith}
use Rattle.std.specs.Prelude.{is_some}
use Rattle.cell_machine.proofs.CommandsShown.{progress-set}
use Rattle.cell_machine.proofs.commands.Commands.set_progress.Goals as goal

pub unreachable-requires : goal.unreachable-requires
unreachable-requires c = let s = c.requires in true≢false (sym s.outstanding ∙ sym (c.look.ensures.outstanding s.calls s.stands) ∙ ap is_some c.in-None.is)

pub returns-clause-progress : goal.returns-clause-progress
returns-clause-progress c = λ m d others at stands.
    let s = c.requires in
    let w = c.in-Some.ensures.seen.waits s.calls s.stands in
    let many = c.args.self.now.places in
    let small = c.in-Some.ensures.seen.small in
    let e : c.in-Some.w.place < length c.args.self.now.progress = omega arith in
    progress-set c.args.self.now.queue c.args.self.now.progress m c.args.cmd c.in-Some.w.place d c.args.progress others at stands w.place e
