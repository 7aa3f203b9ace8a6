use Rattle.std.proofs.Common.{ℕ, List, refl, subst, ◌⊎◌}
use Rattle.std.specs.Prelude.{◌↔◌, Contains}
use Rattle.race_check.specs.declared.crowd.Crowd.{Crowd}
use Rattle.race_check.proofs.CrowdLaws.{added_steps}
use Rattle.race_check.proofs.crowd.Crowd.add.Goals as goal

pub returns-clause-steps : goal.returns-clause-steps
returns-clause-steps c =
    let new : Crowd = record { entry = c.args.self.now.entry; others = c.add_all.new.self } in
    added_steps c.args.self.now new c.add.new.self.list.items c.args.step c.args.others.now.list.items refl c.in_ok-add.ensures
    (subst (λ (xs : List ℕ). (s : ℕ) → Contains c.add_all.new.self.list.items s ↔ (Contains c.add.new.self.list.items s ⊎ Contains xs s)) c.as_slice.ensures.value c.in_ok-add_all.ensures)
