-- Laws on the effects of steps: what they mean for the bytes of all places, and for tag requests.
use Rattle.std.specs.Prelude.{◌≡◌, ℕ, ◌+◌, ◌==◌, ◌&&◌, not, Bool, true, false, if◌then◌else◌, List, [], length, map, is_some, Option, Some, None, slice_get, slice_range}
use Rattle.std.specs.Option.{option_map_or}
use Rattle.cell_base.specs.Bytes.{put}
use Rattle.cell_base.specs.declared.steps.Step.{Step}
use Rattle.cell_base.specs.declared.steps.Step.TheVariants.{Exec, Piece, Elem, Retire, Atomic, Host}
use Rattle.cell_machine.specs.declared.effect.Place.{Place}
use Rattle.cell_machine.specs.declared.effect.Place.TheVariants.{Memory, Local}
use Rattle.cell_machine.specs.declared.effect.Span.{Span}
use Rattle.cell_machine.specs.declared.effect.Effect.{Effect}
use Rattle.cell_machine.specs.Spe.{Spe}
use Rattle.cell_machine.specs.State.{State}
use Rattle.cell_machine.specs.Tags.{settled}
use Rattle.cell_machine.specs.Next.{act, next}
use Rattle.cell_machine.specs.Effects.{effect_of}
use Rattle.cell_machine.specs.Written.{Written, Given, Copy, written_by}

-- a step has an effect exactly where it is allowed
abbrev pub HasEffects : Type 0
HasEffects = (M : State) (s : Step) → is_some (effect_of M s) ≡ is_some (next M s)

-- ---- bytes

-- the bytes of main memory, or of a processor's store
abbrev pub bytes_of : State → Place → List ℕ
bytes_of M Memory = M.memory.bytes
bytes_of M (Local p) = option_map_or (λ P. P.store) (slice_get M.spes p) []

abbrev pub bytes_in : State → Span → List ℕ
bytes_in M x = slice_range (bytes_of M x.place) x.at (x.at + x.len)

abbrev pub new_of : Written → List ℕ → List ℕ
new_of (Given new) read = new
new_of Copy read = read

-- the bytes that a step of this effect writes
abbrev pub new_bytes : State → Step → Effect → List ℕ
new_bytes M s e = new_of (written_by M s) (bytes_in M e.reads)

abbrev pub same_place : Place → Place → Bool
same_place Memory Memory = true
same_place Memory (Local q) = false
same_place (Local p) Memory = false
same_place (Local p) (Local q) = p == q

-- the bytes of a place after new ones were put into a span
abbrev pub put_in : Span → List ℕ → Place → List ℕ → List ℕ
put_in x new place bytes = if same_place x.place place then put bytes x.at new else bytes

-- after an allowed step all bytes of all places are as before, but those that it writes
abbrev pub WritesAlone : Type 0
WritesAlone = (M N : State) (s : Step) (e : Effect) → next M s ≡ Some N → effect_of M s ≡ Some e
    → (place : Place) → bytes_of N place ≡ put_in e.writes (new_bytes M s e) place (bytes_of M place)

-- ---- states that differ in bytes alone

-- P with other bytes in its store
abbrev pub at_store : Spe → List ℕ → Spe
at_store P store = record P { store = store }

abbrev pub bare : Spe → Spe
bare P = at_store P []

pub record SameBut (M N : State) : Type 0 where
  pub spes : map bare M.spes ≡ map bare N.spes
  pub long : length M.memory.bytes ≡ length N.memory.bytes
  pub versions : M.memory.versions ≡ N.memory.versions
  pub host : M.host ≡ N.host
  pub steps : M.steps ≡ N.steps

-- what a step that is allowed in M does in a state N that differs from M in bytes alone, and not in those that the step looks at:
-- it has the same effect and writes the same bytes, and the states after it differ in bytes alone
pub record DoesTheSame (M N : State) (s : Step) (e : Effect) (M2 : State) : Type 0 where
  pub effect : effect_of N s ≡ Some e
  pub new : new_bytes N s e ≡ new_bytes M s e
  pub after : State
  pub next_is : next N s ≡ Some after
  pub same : SameBut M2 after

abbrev pub LooksAlone : Type 0
LooksAlone = (M N M2 : State) (s : Step) (e : Effect) → SameBut M N → effect_of M s ≡ Some e → next M s ≡ Some M2
    → bytes_in M e.fetch ≡ bytes_in N e.fetch → bytes_in M e.reads ≡ bytes_in N e.reads → DoesTheSame M N s e M2

-- ---- tag statuses

-- the processor whose step it is, None for the host's
abbrev pub maker : Step → Option ℕ
maker (Exec p) = Some p
maker (Piece p c e k) = Some p
maker (Elem p c) = Some p
maker (Retire p c) = Some p
maker (Atomic p) = Some p
maker Host = None

abbrev pub has_request : Spe → Bool
has_request P = is_some P.tags.request

-- a step of processor p fixes a tag status exactly where the processor has a request after what the step does and none at the step's end
abbrev pub FixesOnce : Type 0
FixesOnce = (M N : State) (s : Step) (p : ℕ) (P : Spe) (e : Effect) → maker s ≡ Some p → act M s ≡ Some N → slice_get N.spes p ≡ Some P
    → effect_of M s ≡ Some e → e.fixed ≡ (has_request P && not (has_request (settled P)))
