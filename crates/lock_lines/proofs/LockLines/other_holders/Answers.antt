use Rattle.std.proofs.Common.{◌≡◌, ◌<◌, ◌==◌, ◌&&◌, ◌∙◌, not, ap, arith}
use Rattle.cell_base.proofs.BitLaws.{bit-clear}
use Rattle.lock_lines.specs.Reservations.{Reservations}
use Rattle.lock_lines.proofs.LockLines.other_holders.Goals as goal

pub returns-clause-logs : goal.returns-clause-logs
returns-clause-logs c = λ logs p stands low.
    let spes : c.self.inside.spes ≡ c.args.self.now.spes = ap (λ (x : Reservations). x.spes) c.self.view_is in
    let small : c.args.spe < 16 = omega (arith, c.self.invariant.few, c.requires.spe) in
    bit-clear c.holders.result c.args.spe p small low ∙ ap (λ b. b && not (c.args.spe == p)) (c.holders.ensures.logs logs p stands low)

pub returns-clause-versions : goal.returns-clause-versions
returns-clause-versions c = λ v p stands low.
    let spes : c.self.inside.spes ≡ c.args.self.now.spes = ap (λ (x : Reservations). x.spes) c.self.view_is in
    let small : c.args.spe < 16 = omega (arith, c.self.invariant.few, c.requires.spe) in
    bit-clear c.holders.result c.args.spe p small low ∙ ap (λ b. b && not (c.args.spe == p)) (c.holders.ensures.versions v p stands low)
