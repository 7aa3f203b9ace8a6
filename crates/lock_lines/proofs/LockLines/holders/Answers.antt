use Rattle.std.proofs.Common.{◌≡◌, ◌+◌, ◌<◌, ◌≤◌, ◌∙◌, ℕ, ap, sym, subst, arith, false}
use Rattle.cell_base.specs.Bits.{has_bit}
use Rattle.cell_base.proofs.BitLaws.{bit-none}
use Rattle.lock_lines.specs.Reservations.{Reservations}
use Rattle.lock_lines.proofs.HolderLaws.{HasHoldersBelow, none-holds, none-below, holder-below, other-below, all-below}
use Rattle.lock_lines.proofs.LockLines.holders.Goals as goal
use Rattle.lock_lines.proofs.LockLines.holders.Goals.{then-held, else-held}

pub returns-then-self-eq0-clause-holders : goal.returns-then-self-eq0-clause-holders
returns-then-self-eq0-clause-holders c = λ p low.
    bit-none p ∙ sym (none-holds c.args.self.now p c.args.line (ap (λ (x : Reservations). x.holding) (sym c.self.view_is) ∙ c.if-self-eq0.true))

pub returns-then-self-eq0-clause-logs : goal.returns-then-self-eq0-clause-logs
returns-then-self-eq0-clause-logs c = λ logs p stands low. returns-then-self-eq0-clause-holders c p low ∙ stands.holders p c.args.line low

pub returns-then-self-eq0-clause-versions : goal.returns-then-self-eq0-clause-versions
returns-then-self-eq0-clause-versions c = λ v p stands low. returns-then-self-eq0-clause-holders c p low ∙ stands.holders p c.args.line low

pub loop-spe-init : goal.loop-spe-init
loop-spe-init c = none-below c.args.self.now c.args.line

pub loop-spe-preserved : goal.loop-spe-preserved
loop-spe-preserved c =
    let small : c.loop-spe.spe < 16 = omega (arith, c.loop-spe-test.true, c.self.invariant.few) in
    elim c.if-held.branch [
      | then-held w ↦
          subst (HasHoldersBelow (c.loop-spe.spe + 1) c.args.self.now c.args.line) (sym w.holders-is)
          (holder-below c.loop-spe.spe c.args.self.now c.args.line c.loop-spe.holders small (sym c.held.ensures.holder ∙ w.if-held.true) c.loop-spe.invariant)
      | else-held w ↦
          subst (HasHoldersBelow (c.loop-spe.spe + 1) c.args.self.now c.args.line) (sym w.holders-is)
          (other-below c.loop-spe.spe c.args.self.now c.args.line c.loop-spe.holders (sym c.held.ensures.holder ∙ w.if-held.false) c.loop-spe.invariant)
    ]

pub returns-clause-holders : goal.returns-clause-holders
returns-clause-holders c =
    let others : (p : ℕ) → c.loop-spe.spe ≤ p → p < 16 → has_bit c.self.inside.holding p ≡ false = λ p from low. c.self.invariant.others p (omega (arith, c.loop-spe-test.false)) low in
    all-below c.loop-spe.spe c.args.self.now c.args.line c.loop-spe.holders (subst (λ (x : Reservations). (p : ℕ) → c.loop-spe.spe ≤ p → p < 16 → has_bit x.holding p ≡ false) c.self.view_is others) c.loop-spe.invariant

pub returns-clause-logs : goal.returns-clause-logs
returns-clause-logs c = λ logs p stands low. returns-clause-holders c p low ∙ stands.holders p c.args.line low

pub returns-clause-versions : goal.returns-clause-versions
returns-clause-versions c = λ v p stands low. returns-clause-holders c p low ∙ stands.holders p c.args.line low
