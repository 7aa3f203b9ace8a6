use Rattle.std.proofs.Common.{◌≡◌, arith, sym, ap, subst}
use Rattle.tag_groups.specs.declared.Request.{Request}
use Rattle.tag_groups.specs.Settle.{AreIdle, idle_groups}
use Rattle.tag_groups.proofs.Idle.{are-idle}
use Rattle.tag_groups.proofs.Tags.settle.Goals as goal

pub returns-then-is_met-clause-idle : goal.returns-then-is_met-clause-idle
returns-then-is_met-clause-idle c = λ r pending met.
    let is : c.in-Some.request ≡ r = cc in
    let same : c.in-Some.request.mask ≡ r.mask = ap (λ (x : Request). x.mask) is in
    subst (λ groups. AreIdle c.args.busy r.mask groups) (sym c.idle_groups.ensures) (subst (λ m. AreIdle c.args.busy r.mask (idle_groups c.args.busy m)) (sym same) (are-idle c.args.busy r.mask (omega arith)))
