-- Where steps come from.
use Rattle.std.specs.Prelude.{◌≡◌, ℕ, ◌<◌, Bool, true, false, ◌&&◌, ◌==◌, take, count_by, Some, IfSome, slice_get}
use Rattle.cell_base.specs.declared.steps.Step.{Step}
use Rattle.cell_base.specs.declared.steps.Step.TheVariants as step
use Rattle.cell_machine.specs.declared.effect.Effect.{Effect}
use Rattle.cell_machine.specs.declared.effect.Note.{Note}
use Rattle.cell_machine.specs.declared.effect.Note.TheVariants.{Issue, AtomicIssue}
use Rattle.cell_machine.specs.Effects.{effect_in}
use Rattle.cell_machine.specs.Run.{Ran, spe_of}
use Rattle.cell_hunt.specs.declared.site.Site.{Site}
use Rattle.cell_hunt.specs.declared.site.Sites.{Sites}
use Rattle.cell_hunt.specs.declared.site.Site.TheVariants.{Exec, Piece, Elem, Retire, Atomic, Host}

-- the site of a step of which this is the address of its instruction, or the number of its action
abbrev pub site_of : Step → ℕ → Site
site_of (step.Exec p) at = Exec p at
site_of (step.Piece p c x k) at = Piece p at
site_of (step.Elem p c) at = Elem p at
site_of (step.Retire p c) at = Retire p at
site_of (step.Atomic p) at = Atomic p at
site_of step.Host at = Host at

-- ---- where a step comes from

-- the run up to its step at this place
abbrev pub up_to : Ran → ℕ → Ran
up_to m place = record m { steps = take place m.steps }

-- before the step at this place the PC of processor p is this
abbrev pub HasPc : Ran → ℕ → ℕ → ℕ → Type 0
HasPc m place p at = IfSome (spe_of (up_to m place) p) (λ P. P.pc ≡ at)

abbrev pub is_action : Step → Bool
is_action step.Host = true
is_action _ = false

-- how many actions of the host stand before this place
abbrev pub actions_before : Ran → ℕ → ℕ
actions_before m place = count_by is_action (take place m.steps)

-- whether a command of this number is issued
abbrev pub issues_command : Note → ℕ → Bool
issues_command (Issue c command) number = c == number
issues_command _ number = false

abbrev pub issues_atomic : Note → Bool
issues_atomic AtomicIssue = true
issues_atomic _ = false

-- whether an instruction of processor p that tells this issues the command that a step is of
abbrev pub issues_for : Step → ℕ → Note → Bool
issues_for (step.Piece q c x k) p note = q == p && issues_command note c
issues_for (step.Elem q c) p note = q == p && issues_command note c
issues_for (step.Retire q c) p note = q == p && issues_command note c
issues_for (step.Atomic q) p note = q == p && issues_atomic note
issues_for (step.Exec q) p note = false
issues_for step.Host p note = false

-- the step at place k is an instruction of processor p that issues the command that the step is of
pub record Issues (m : Ran) (of : Step) (k p : ℕ) : Type 0 where
  pub effect : Effect
  pub is : slice_get m.steps k ≡ Some (step.Exec p)
  pub told : effect_in (up_to m k) (step.Exec p) ≡ Some effect
  pub issues : issues_for of p effect.note ≡ true

-- Of an instruction this is its address, of an action of the host its number, and of a step of a command the address of the last instruction before it that issued one
-- of that number.
pub record IsOrigin (m : Ran) (place : ℕ) (of : Step) (at : ℕ) : Type 0 where
  pub spu : (p : ℕ) → of ≡ step.Exec p → HasPc m place p at
  pub host : of ≡ step.Host → at ≡ actions_before m place
  pub issue : (k p : ℕ) → k < place → Issues m of k p → ((l q : ℕ) → k < l → l < place → Issues m of l q → ⊥) → HasPc m k p at

-- it is the site of the step at this place
pub record IsSite (m : Ran) (place : ℕ) (site : Site) : Type 0 where
  pub of : Step
  pub address : ℕ
  pub at : slice_get m.steps place ≡ Some of
  pub origin : IsOrigin m place of address
  pub told : site ≡ site_of of address

-- they are the sites of the two steps
pub record AreSites (m : Ran) (i j : ℕ) (sites : Sites) : Type 0 where
  pub first : IsSite m i sites.first
  pub second : IsSite m j sites.second
