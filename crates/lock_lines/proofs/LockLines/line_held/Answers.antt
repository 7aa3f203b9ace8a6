use Rattle.std.proofs.Common.{◌≡◌, ◌<◌, ◌∙◌, ap, sym, slice_index_or, None, arith}
use Rattle.lock_lines.specs.Reservations.{Reservations}
use Rattle.lock_lines.proofs.StandsLaws.{line-held, none-held}
use Rattle.lock_lines.proofs.LockLines.line_held.Goals as goal

pub returns-then-is_holding : goal.returns-then-is_holding
returns-then-is_holding c = λ v stands.
    let spes : c.self.inside.spes ≡ c.args.self.now.spes = ap (λ (x : Reservations). x.spes) c.self.view_is in
    let small : c.args.spe < 16 = omega (arith, c.self.invariant.few, c.requires) in
    ap (λ i. slice_index_or c.self.inside.reserved i None) c.from.ensures ∙ ap (λ (x : Reservations). slice_index_or x.reserved c.args.spe None) c.self.view_is
    ∙ line-held c.args.self.now v c.args.spe small stands (sym c.is_holding.ensures ∙ c.if-is_holding.true)

pub returns-else-is_holding : goal.returns-else-is_holding
returns-else-is_holding c = λ v stands.
    let spes : c.self.inside.spes ≡ c.args.self.now.spes = ap (λ (x : Reservations). x.spes) c.self.view_is in
    let small : c.args.spe < 16 = omega (arith, c.self.invariant.few, c.requires) in
    none-held c.args.self.now v c.args.spe small stands (sym c.is_holding.ensures ∙ c.if-is_holding.false)
