-- The run that an orderer stands for.
use Rattle.std.specs.Prelude.{◌≡◌, ℕ, ◌+◌, ◌*◌, ◌-◌, ◌<◌, ◌≤◌, ◌↔◌, Bool, true, List, [], ◌∷◌, ◌++◌, Option, Some, None, IfSome, length, slice_get}
use Rattle.order_sets.specs.declared.facts.At.{At}
use Rattle.order_sets.specs.Stands.{has_at}
use Rattle.race_order.specs.Trace.{Event, Trace}
use Rattle.race_order.specs.Status.{begun}
use Rattle.race_order.specs.Rules.{Ordered}
use Rattle.race_order.specs.StatusRules.{Rule}
use Rattle.race_order.specs.Stamps.{stamp, IsStamp}
use Rattle.race_order.specs.Counted.{Shows}
use Rattle.race_order.specs.Orderly.{IsOrderly}
use Rattle.race_order.specs.Pasts.{Holds}
use Rattle.race_order.specs.declared.lists.Issued.{Issued}
use Rattle.race_order.specs.declared.lives.Live.{Live}
use Rattle.race_order.specs.declared.orderer.Orderer.{Orderer}
use Rattle.race_order.specs.declared.roles.QueueRole.{QueueRole}
use Rattle.race_order.specs.declared.roles.QueueRole.TheVariants.{Base}
use Rattle.race_order.specs.declared.roles.Role.TheVariants.{OfExec}
use Rattle.race_order.specs.declared.sets.Sets.{Sets}
use Rattle.order_sets.specs.declared.known.Known.{Known}
use Rattle.race_order.specs.Premises.{IsQueued}
use Rattle.race_order.specs.Sources.{QueueSource, IsKept, HaveOwn}
use Rattle.race_order.specs.Lives.{ShowsLives, lives_of}
use Rattle.race_order.specs.Pasts.{IsPast}
use Rattle.race_order.specs.Tables.{sets_have, AreOf}

abbrev pub with_issued : Option Issued → List Live → List Live
with_issued None lives = lives
with_issued (Some i) lives = lives ++ (record { spe = i.spe; cmd = i.cmd; progress = begun i.command } ∷ [])

-- of each step its name is kept
pub record AreNamed (n : ℕ) (trace : Trace) (names : List At) : Type 0 where
  pub long : length names ≡ length trace
  pub named : (i : ℕ) (e : Event) → slice_get trace i ≡ Some e → slice_get names i ≡ Some (stamp n i e)

-- the set is what is ordered before the last step
pub record IsLast (n : ℕ) (trace : Trace) (known : At → Bool) : Type 0 where
  pub says : (i : ℕ) (a : At) → IsStamp n trace i a → i + 1 < length trace → (known a ≡ true) ↔ Ordered Rule trace i (length trace - 1)

-- every set that is kept is the past of its sources
pub record Keep (n : ℕ) (trace : Trace) (sets : QueueRole → At → Bool) : Type 0 where
  pub holds : (r : QueueRole) → IsKept trace r → Holds Rule n (IsPast n) trace (sets r) (QueueSource trace r)

-- what is known before the last step: the set of a processor's instructions has it, or a set of its own
abbrev pub known_in : Option ℕ → Sets → Known → At → Bool
known_in (Some p) sets known a = sets_have sets (Base (OfExec p)) a
known_in None sets known a = has_at known a

pub record StandsFor (o : Orderer) (trace : Trace) : Type 0 where
  pub some : 1 ≤ o.spes
  pub spes : o.spes ≤ 16
  pub orderly : IsOrderly o.spes trace
  pub queued : IsQueued trace
  pub chains : AreOf (3 * o.spes + 1) o.sets
  pub own_spe : IfSome o.own (λ p. p < o.spes)
  pub last_chains : o.last.chains ≡ 3 * o.spes + 1
  pub spare_chains : o.spare.chains ≡ 3 * o.spes + 1
  pub counts : Shows o.spes o.boxes trace
  pub names : AreNamed o.spes trace o.names.items
  pub lives_long : length o.lives.items ≡ o.spes
  pub lives : (p : ℕ) → p < o.spes → ShowsLives p (lives_of o.lives.items p) trace
  pub own : HaveOwn o.spes (sets_have o.sets) trace
  pub kept : Keep o.spes trace (sets_have o.sets)
  pub last : IsLast o.spes trace (known_in o.own o.sets o.last)
