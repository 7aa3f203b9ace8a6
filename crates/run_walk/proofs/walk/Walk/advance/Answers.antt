use Rattle.std.proofs.Common.{◌≡◌, [], ◌∷◌, ◌++◌, refl, sym, ap, ◌∙◌, subst, true≢false}
use Rattle.std.specs.Prelude.{Some, IsOk}
use Rattle.cell_machine.specs.Run.{Ran}
use Rattle.cell_machine.specs.Effects.{effect_in}
use Rattle.cell_machine.proofs.MachineEffects.{effect-allowed}
use Rattle.race_order.specs.OrderedRuns.{StandsForRun}
use Rattle.run_walk.specs.Walks.{Stands}
use Rattle.run_walk.proofs.walk.Walk.advance.Goals as goal

pub advance-requires : goal.advance-requires
unfolding Stands
advance-requires g c = (
  subst (StandsForRun c.args.self.now.orderer) (sym c.requires.0) c.requires.1.0,
  c.requires.1.1,
)

pub unreachable-requires : goal.unreachable-requires
unreachable-requires g c =
    let effect : effect_in c.args.self.now.machine c.args.step ≡ Some c.args.effect.now = ap (λ m. effect_in m c.args.step) (sym c.requires.0) ∙ c.requires.1.1 in
    let allowed = (effect-allowed c.args.self.now.machine c.args.step (Some c.args.effect.now) (sym effect)).0 refl in
    true≢false (sym (subst IsOk c.in_default-step.is (c.step.ensures.allowed.1 allowed)))

pub returns-clause-stands : goal.returns-clause-stands
unfolding Stands
returns-clause-stands g c =
    subst (StandsForRun c.advance.new.self) (ap (λ (m : Ran). record m { steps = m.steps ++ c.args.step ∷ [] }) c.requires.0 ∙ sym c.in-Ok-step.ensures.made.1) c.in-Ok.ensures.stands
