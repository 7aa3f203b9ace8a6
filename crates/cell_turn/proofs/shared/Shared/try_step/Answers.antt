use Rattle.std.proofs.Common.{ap, refl}
use Rattle.cell_turn.proofs.Tells.{tells_made}
use Rattle.cell_turn.proofs.shared.Shared.try_step.Goals as goal

pub returns-in-Ok-clause-tells : goal.returns-in-Ok-clause-tells
returns-in-Ok-clause-tells c =
    let is = c.pass.view_is in
    tells_made _ _ c.pass.inside.seat.me _ _ _ _ _ _ _ (ap (λ p. p.setup) is) (ap (λ p. p.seen) is) (ap (λ p. p.told) is) c.in_default.ensures.begun c.in-Ok.ensures.played c.publish.ensures.told refl refl refl
