use Rattle.std.proofs.Common.{◌≡◌, ◌+◌, refl, sym, subst, ◌∙◌}
use Rattle.cell_hunt.specs.declared.ending.Ended.{Ended}
use Rattle.cell_hunt.specs.Endings.{IsEnding}
use Rattle.cell_hunt.specs.Sites.{IsSite}
use Rattle.cell_hunt.specs.SoFar.{AreEndingsTo, made_by}
use Rattle.cell_hunt.proofs.AllEndings.{an-end, endings-more}
use Rattle.cell_hunt.proofs.so_far.SoFar.add_ending.Goals as goal

pub returns-in_ok-push-clause-endings : goal.returns-in_ok-push-clause-endings
returns-in_ok-push-clause-endings c =
    let old = c.args.self.now in
    let m = made_by old in
    let e : Ended = record { step = c.args.place; site = c.site-site.result } in
    let ending : IsEnding m e = record {
      ends = an-end m c.args.place c.args.note c.requires.note (sym c.is_ended.ensures ∙ c.if-is_ended.true);
      site = subst (λ r. IsSite r c.args.place c.site-site.result) c.machine.ensures c.site-site.ensures;
    } in
    subst (AreEndingsTo (c.args.place + 1) m) (sym c.in_ok-push.ensures.items) (endings-more m c.args.place old.endings.items e refl ending c.requires.endings)
