use Rattle.std.proofs.Common.{ℕ, ◌+◌, ◌<◌, ◌^◌, List, length, refl, sym, ap, ◌∙◌, subst, arith}
use Rattle.cell_base.specs.declared.steps.Step.TheVariants.{Exec}
use Rattle.run_permute.specs.declared.kept.Kept.{Kept}
use Rattle.run_permute.specs.declared.watch.Watch.{Watch}
use Rattle.run_permute.specs.SettledLists.{AreChanged, Each, IsIn}
use Rattle.run_permute.specs.Watches.{IsAdded, IsTaken}
use Rattle.cell_machine.proofs.AllTwo.{whole}
use Rattle.run_permute.proofs.SettledChanges.{changed-long}
use Rattle.run_permute.specs.Walks.{IsAt}
use Rattle.run_permute.proofs.Here.{at-last, made-here, marked-next, kept-next, queued-run, trace-size}
use Rattle.run_permute.proofs.Executed.{looked, steps-low, refused-op, refused-note, taken-true, left-read, may-op, reads-low}
use Rattle.run_permute.proofs.watch.Watch.execute.Goals as goal

pub look-requires : goal.look-requires
look-requires g c =
    let at = c.requires.0 in
    let ws = c.requires.1.1.1.1 in
    let e = at-last c.args.walk.now g.m c.args.place at in (
      subst (λ j. IsAt c.args.walk.now g.m (j + 1)) (sym e) at,
      subst (λ j. Each (λ (k : Kept). (i : ℕ) → IsIn i k.steps.items → i < j) c.args.self.now.kept.items) (sym e) (steps-low g.m c.args.spe c.args.place c.args.place c.args.self.now.kept.items ws.commands),
    )

pub returns-then-not-may_operate-clause-settled : goal.returns-then-not-may_operate-clause-settled
returns-then-not-may_operate-clause-settled g c =
    let step = c.requires.1.0 in
    let made = c.requires.1.1.0 in
    let here = made-here g.m c.args.place (Exec c.args.spe) c.args.made.now step made c.args.spe refl in
    let l = looked g.m c.args.spe c.args.place _ c.args.self.now c.look.new.self c.args.made.now.operation c.args.made.now.effect.note (at-last c.args.walk.now g.m c.args.place c.requires.0) here c.requires.1.1.1.1 c.look.ensures.watches c.look.ensures.left in
    refused-op g.m c.args.spe c.args.place c.args.made.now step made c.look.new.self l c.requires.1.1.1.0 c.may_operate.result c.may_operate.ensures c.if-not-may_operate.true

pub returns-then-not-may_tell-clause-settled : goal.returns-then-not-may_tell-clause-settled
returns-then-not-may_tell-clause-settled g c =
    let step = c.requires.1.0 in
    let made = c.requires.1.1.0 in
    let here = made-here g.m c.args.place (Exec c.args.spe) c.args.made.now step made c.args.spe refl in
    let l = looked g.m c.args.spe c.args.place _ c.args.self.now c.look.new.self c.args.made.now.operation c.args.made.now.effect.note (at-last c.args.walk.now g.m c.args.place c.requires.0) here c.requires.1.1.1.1 c.look.ensures.watches c.look.ensures.left in
    refused-note g.m c.args.spe c.args.place c.args.made.now step made c.look.new.self l c.requires.1.1.1.0 c.may_tell.result c.may_tell.ensures c.if-not-may_tell.true

pub take_all-requires : goal.take_all-requires
take_all-requires g c =
    let step = c.requires.1.0 in
    let made = c.requires.1.1.0 in
    let run = c.requires.0.run in
    let within = c.requires.0.within in
    let size = trace-size g.m run in
    let here = made-here g.m c.args.place (Exec c.args.spe) c.args.made.now step made c.args.spe refl in
    let l = looked g.m c.args.spe c.args.place _ c.args.self.now c.look.new.self c.args.made.now.operation c.args.made.now.effect.note (at-last c.args.walk.now g.m c.args.place c.requires.0) here c.requires.1.1.1.1 c.look.ensures.watches c.look.ensures.left in
    let low = reads-low g.m c.args.spe c.args.place (c.args.place + 1) c.look.new.self.kept.items (queued-run g.m run) (omega arith) l.watches.commands in
    subst (Each (λ (k : Kept). k.progress.read + 1 < 2 ^ 32)) (sym (c.as_mut_slice.ensures.value ∙ ap (λ (w : Watch). w.kept.items) c.mark.ensures)) low

pub returns : goal.returns
returns g c =
    let step = c.requires.1.0 in
    let made = c.requires.1.1.0 in
    let earlier = c.requires.1.1.1.0 in
    let place = c.args.place in
    let here = made-here g.m place (Exec c.args.spe) c.args.made.now step made c.args.spe refl in
    let w = c.look.new.self in
    let l = looked g.m c.args.spe place _ c.args.self.now w c.args.made.now.operation c.args.made.now.effect.note (at-last c.args.walk.now g.m place c.requires.0) here c.requires.1.1.1.1 c.look.ensures.watches c.look.ensures.left in
    let operates = sym c.may_operate.ensures ∙ c.if-not-may_operate.false in
    let tells = sym c.may_tell.ensures ∙ c.if-not-may_tell.false in
    let R = IsTaken c.args.spe place (Exec c.args.spe) c.args.made.now.effect.note in
    let items = c.as_mut_slice.ensures.value ∙ ap (λ (w : Watch). w.kept.items) c.mark.ensures in
    let size = sym (changed-long R (length c.as_mut_slice.result.now) c.as_mut_slice.result.now c.take_all.new.kept c.in_ok-take_all.ensures ∙ c.as_mut_slice.ensures.len) in
    record {
      settled = taken-true g.m c.args.spe place c.args.made.now step made w l earlier operates tells;
      watches = λ t.
          marked-next g.m place (Exec c.args.spe) c.args.made.now step made c.args.spe refl w c.add.new.self l.watches (left-read g.m c.args.spe place c.args.made.now step made w l earlier)
          ((may-op g.m c.args.spe place c.args.made.now step made w l earlier).0 operates) (c.add.ensures.rest ∙ ap (λ (x : Watch). record x { kept = c.add.new.self.kept }) c.mark.ensures)
          (kept-next g.m place (Exec c.args.spe) c.args.made.now step made c.args.spe refl (queued-run g.m c.requires.0.run) (place + 1) w.kept.items c.take_all.new.kept c.add.new.self.kept.items l.watches.commands
          (subst (λ (ks : List Kept). AreChanged R (length ks) ks c.take_all.new.kept) items c.in_ok-take_all.ensures)
          (subst (λ (ks : List Kept). IsAdded c.args.made.now.effect.note ks c.add.new.self.kept.items) (whole c.mark.new.self.kept.len c.take_all.new.kept c.mark.new.self.kept.items size) c.in_ok-add.ensures.kept));
    }
