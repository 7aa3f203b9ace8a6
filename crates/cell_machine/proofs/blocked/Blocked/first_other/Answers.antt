use Rattle.std.proofs.Common.{◌≡◌, ◌+◌, ◌/◌, ◌^◌, ◌<◌, w32, rules, sym, ◌∙◌, ap, subst, false}
use Rattle.std.specs.Int.{trailing_ones}
use Rattle.cell_base.specs.Bits.{has_bit}
use Rattle.cell_machine.proofs.Marks.{marked-before, first-other}
use Rattle.cell_machine.proofs.blocked.Blocked.first_other.Goals as goal

pub returns-clause-before : goal.returns-clause-before
returns-clause-before c = λ p low less.
    let fits : c.args.self.now.bits < 65536 = search rules in
    let ones = c.trailing_ones.ensures ∙ ap (λ b. trailing_ones w32 (b / 2 ^ c.args.from)) c.from.ensures in
    marked-before c.args.self.now.bits c.args.from p fits low (subst (λ t. p < c.args.from + t) ones less)

pub returns-clause-other : goal.returns-clause-other
returns-clause-other c =
    let fits : c.args.self.now.bits < 65536 = search rules in
    let ones = c.trailing_ones.ensures ∙ ap (λ b. trailing_ones w32 (b / 2 ^ c.args.from)) c.from.ensures in
    subst (λ t. has_bit c.args.self.now.bits (c.args.from + t) ≡ false) (sym ones) (first-other c.args.self.now.bits c.args.from fits)
