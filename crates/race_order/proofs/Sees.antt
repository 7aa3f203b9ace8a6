-- What a step looks at.
use Rattle.std.specs.Prelude.{◌≡◌, ℕ, ◌<◌, true, IsBitSet}
use Rattle.cell_base.specs.declared.steps.Step.TheVariants.{Exec}
use Rattle.cell_machine.specs.declared.effect.Note.TheVariants.{TagRead, StallRead}
use Rattle.race_order.specs.Trace.{Event, Trace, is_of}
use Rattle.race_order.specs.declared.roles.QueueRole.{QueueRole}
use Rattle.race_order.specs.declared.roles.QueueRole.TheVariants.{Base, Waits, Complete, Fixed, Stalled}
use Rattle.race_order.specs.Roles.{read_roles}
use Rattle.race_order.proofs.Among.{Among}

-- a tag status, or a stall status, with the tag's bit
pub record SeesTag (e : Event) (p g : ℕ) : Type 0 where
  pub groups : ℕ
  pub issued : ℕ
  pub is : e.step ≡ Exec p
  pub notes : e.effect.note ≡ TagRead groups issued
  pub bit : IsBitSet groups g
  pub low : g < 32

pub record SeesStall (e : Event) (p g : ℕ) : Type 0 where
  pub groups : ℕ
  pub is : e.step ≡ Exec p
  pub notes : e.effect.note ≡ StallRead groups
  pub bit : IsBitSet groups g
  pub low : g < 32

-- the step looks at the role's set
abbrev pub LooksAt : Trace → Event → QueueRole → Type 0
LooksAt before e (Base r) = Among (λ w. w ≡ r) (read_roles before e)
LooksAt before e (Waits p d) = is_of p d e.step ≡ true
LooksAt before e (Complete p class) = ⊥
LooksAt before e (Fixed p g) = SeesTag e p g
LooksAt before e (Stalled p g) = SeesStall e p g
