use Rattle.std.proofs.Common.{◌≡◌, ◌+◌, arith, sym, ap, subst, refl, ◌∙◌, length}
use Rattle.cell_base.specs.declared.steps.Actor.TheVariants.{Spu}
use Rattle.cell_machine.specs.Shows.{Shows, CanGo}
use Rattle.cell_machine.proofs.AnyStep.{tried-on, tried-found}
use Rattle.cell_machine.proofs.Choices.{none-left, none-before}
use Rattle.cell_machine.proofs.Marks.{skip-to}
use Rattle.cell_machine.proofs.acting.act_first_of_spus.Goals as goal

pub loop-spe-init : goal.loop-spe-init
loop-spe-init c = (refl, λ host M shows all. skip-to c.args.blocked.now c.args.processors.now M 0 c.first_other-spe.result shows c.requires.blocked c.first_other-spe.ensures.from c.first_other-spe.ensures.before (none-before M Spu _), c.requires.blocked)

pub act_exec-requires-clause-can : goal.act_exec-requires-clause-can
act_exec-requires-clause-can c = subst (λ ps. CanGo ps c.args.memory.now) (sym c.loop-spe.invariant.0) c.requires.can

pub returns-then-act_exec-clause-first : goal.returns-then-act_exec-clause-first
returns-then-act_exec-clause-first c = λ host M shows all.
    let now = subst (λ ps. Shows ps c.args.memory.now host M) (sym c.loop-spe.invariant.0) shows in
    let long = ap length c.loop-spe.invariant.0 in
    tried-found _ M c.loop-spe.spe _ now (omega arith) (rw c.if-act_exec.true at (c.act_exec.ensures.made host M now all)) (c.loop-spe.invariant.1 host M now all)

pub returns-then-act_exec-clause-made : goal.returns-then-act_exec-clause-made
returns-then-act_exec-clause-made c = λ host M shows all.
    let now = subst (λ ps. Shows ps c.args.memory.now host M) (sym c.loop-spe.invariant.0) shows in
    rw c.if-act_exec.true at (c.act_exec.ensures.made host M now all)

pub loop-spe-preserved : goal.loop-spe-preserved
loop-spe-preserved c =
    let same : c.act_exec.new.processors ≡ c.loop-spe.processors = rw c.if-act_exec.false at c.act_exec.ensures.refused in
    let long = ap length c.loop-spe.invariant.0 in (
      same ∙ c.loop-spe.invariant.0,
      λ host M shows all.
          let before = subst (λ ps. Shows ps c.args.memory.now host M) same shows in
          skip-to c.act_exec.new.blocked c.act_exec.new.processors M (c.loop-spe.spe + 1) c.first_other-spe-in-loop-spe.result shows c.act_exec.ensures.blocked c.first_other-spe-in-loop-spe.ensures.from c.first_other-spe-in-loop-spe.ensures.before
          (tried-on _ M c.loop-spe.spe before (omega arith) (rw c.if-act_exec.false at (c.act_exec.ensures.made host M before all)) (c.loop-spe.invariant.1 host M before all)),
      c.act_exec.ensures.blocked,
    )

pub returns-clause-first : goal.returns-clause-first
returns-clause-first c = λ host M shows all.
    let now = subst (λ ps. Shows ps c.args.memory.now host M) (sym c.loop-spe.invariant.0) shows in
    let long = ap length c.loop-spe.invariant.0 in
    none-left _ M Spu c.loop-spe.spe _ now (omega arith) (c.loop-spe.invariant.1 host M now all)

pub act_exec-requires-clause-blocked : goal.act_exec-requires-clause-blocked
act_exec-requires-clause-blocked c = c.loop-spe.invariant.2

pub returns-clause-blocked : goal.returns-clause-blocked
returns-clause-blocked c = c.loop-spe.invariant.2
