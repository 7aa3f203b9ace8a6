use Rattle.std.proofs.Common.{◌+◌, ◌<◌, ◌^◌, List, length, sym, ◌∙◌, subst, arith}
use Rattle.std.proofs.lemmas.Option.{slice_get_within}
use Rattle.run_permute.specs.declared.kept.Kept.{Kept}
use Rattle.run_permute.specs.SettledLists.{AreChanged, Each}
use Rattle.run_permute.specs.Watches.{AreKept, IsTaken}
use Rattle.cell_machine.proofs.AllTwo.{whole}
use Rattle.run_permute.proofs.SettledChanges.{changed-long}
use Rattle.run_permute.proofs.Here.{queued-run, trace-size, moved-on}
use Rattle.run_permute.proofs.Executed.{reads-low, not-exec, ok-on}
use Rattle.run_permute.proofs.watch.Watch.transfer.Goals as goal

pub take_all-requires : goal.take_all-requires
take_all-requires g c =
    let run = c.requires.0 in
    let low = slice_get_within g.m.steps c.args.place c.args.step c.requires.1.0 in
    let size = trace-size g.m run in
    subst (Each (λ (k : Kept). k.progress.read + 1 < 2 ^ 32)) (sym c.as_mut_slice.ensures.value)
    (reads-low g.m c.args.spe c.args.place c.args.place c.args.self.now.kept.items (queued-run g.m run) (omega arith) c.requires.1.1.1.1.commands)

pub returns : goal.returns
returns g c =
    let own = c.requires.1.1.0 in
    ok-on c.take_all.result _ _
    (λ (t : AreChanged (IsTaken c.args.spe c.args.place c.args.step c.args.made.now.effect.note) (length c.as_mut_slice.result.now) c.as_mut_slice.result.now c.take_all.new.kept).
    let size = sym (changed-long (IsTaken c.args.spe c.args.place c.args.step c.args.made.now.effect.note) (length c.as_mut_slice.result.now) c.as_mut_slice.result.now c.take_all.new.kept t ∙ c.as_mut_slice.ensures.len) in
    let moved = moved-on g.m c.args.place c.args.step c.args.made.now c.requires.1.0 c.requires.1.1.1.0 c.args.spe (not-exec c.args.spe c.args.spe c.args.step own) (queued-run g.m c.requires.0) c.args.self.now c.take_all.new.kept c.requires.1.1.1.1
    (subst (λ (ks : List Kept). AreChanged (IsTaken c.args.spe c.args.place c.args.step c.args.made.now.effect.note) (length ks) ks c.take_all.new.kept) c.as_mut_slice.ensures.value t) in
    record { requested = moved.requested; atomic = moved.atomic; stalled = moved.stalled; tag = moved.tag; commands = subst (AreKept g.m c.args.spe (c.args.place + 1) (c.args.place + 1)) (sym (whole c.args.self.now.kept.len c.take_all.new.kept c.args.self.now.kept.items size)) moved.commands })
    c.take_all.ensures
