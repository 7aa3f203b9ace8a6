use Rattle.std.proofs.Common.{◌≡◌, ◌+◌, ◌-◌, ◌<◌, length, refl, subst, arith}
use Rattle.std.specs.Prelude.{◌↔◌, IsTrue}
use Rattle.cell_machine.specs.Run.{Ran}
use Rattle.run_walk.specs.Ordered.{IsOrdered}
use Rattle.run_walk.specs.Walks.{walked}
use Rattle.run_permute.proofs.Here.{has-made}
use Rattle.run_permute.proofs.Walking.{ordered-until}
use Rattle.run_permute.proofs.before.is_before.Goals as goal

pub before-requires : goal.before-requires
before-requires g c =
    let at = c.requires.0 in
    let long : length (walked c.args.walk.now).steps ≡ g.here.place + 1 = has-made c.args.walk.now g.here.run (g.here.place + 1) at in
    let low : c.args.i < g.here.place = c.requires.1 in
    (refl, (at.stands, omega arith))

pub returns : goal.returns
returns g c =
    let at = c.requires.0 in
    ordered-until g.here.run g.here.place c.args.i c.before-2.result at.run at.within
    (subst (λ (r : Ran). IsTrue c.before-2.result ↔ IsOrdered r c.args.i (length r.steps - 1)) at.made c.before-2.ensures)
