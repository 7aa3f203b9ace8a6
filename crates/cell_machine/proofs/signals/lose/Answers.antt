use Rattle.std.proofs.Common.{arith, sym, ◌∙◌, subst}
use Rattle.cell_machine.specs.Shows.{AllTwo, ShowsSpe}
use Rattle.cell_machine.proofs.AllTwo.{two_length}
use Rattle.cell_machine.proofs.Spreading.{lost-none, lost-all, lost-zero, lost-off, lost-next}
use Rattle.cell_machine.proofs.signals.lose.Goals as goal

pub returns-then-losers-eq0-clause-lost : goal.returns-then-losers-eq0-clause-lost
returns-then-losers-eq0-clause-lost c = λ spes two. rw c.if-losers-eq0.true (subst (AllTwo ShowsSpe _) (sym (lost-zero 0 spes)) two)

pub loop-spe-init : goal.loop-spe-init
loop-spe-init c = λ spes two. subst (AllTwo ShowsSpe _) (sym (lost-none c.args.losers spes)) two

pub loop-spe-preserved-then-not-is_loser : goal.loop-spe-preserved-then-not-is_loser
loop-spe-preserved-then-not-is_loser c = λ spes two.
    subst (AllTwo ShowsSpe _) (lost-off c.args.losers c.loop-spe.spe spes (sym c.is_loser.ensures ∙ c.if-not-is_loser.true)) (c.loop-spe.invariant spes two)

pub loop-spe-preserved : goal.loop-spe-preserved
loop-spe-preserved c = λ spes two.
    lost-next _ spes c.args.losers c.loop-spe.spe _ _ (c.loop-spe.invariant spes two) (omega arith) (sym c.is_loser.ensures ∙ c.if-not-is_loser.false) c.lose.ensures

pub returns-clause-lost : goal.returns-clause-lost
returns-clause-lost c = λ spes two.
    let long = two_length ShowsSpe _ spes two in
    subst (AllTwo ShowsSpe _) (lost-all c.args.losers c.loop-spe.spe spes (omega arith)) (c.loop-spe.invariant spes two)
