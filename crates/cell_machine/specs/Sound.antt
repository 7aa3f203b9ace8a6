-- What holds of every state of a run, and what it gives: a step's spans lie in their places, and it writes as many bytes as it says.
use Rattle.std.specs.Prelude.{◌≡◌, ℕ, ◌+◌, ◌-◌, ◌*◌, ◌≤◌, ◌&&◌, nat_le, nat_lt, Bool, if◌then◌else◌, List, length, Some, slice_get, slice_index, All}
use Rattle.cell_base.specs.declared.steps.Step.{Step}
use Rattle.spu_exec.specs.Places.{IsPlace}
use Rattle.mfc_command.specs.declared.command.Command.{Command}
use Rattle.cell_machine.specs.declared.effect.Place.{Place}
use Rattle.cell_machine.specs.declared.effect.Span.{Span}
use Rattle.cell_machine.specs.declared.effect.Effect.{Effect}
use Rattle.cell_machine.specs.Spe.{Spe, Moves}
use Rattle.cell_machine.specs.State.{State}
use Rattle.cell_machine.specs.Moves.{elements_in, elements_of}
use Rattle.cell_machine.specs.Next.{next}
use Rattle.cell_machine.specs.Limits.{FitsAction, IsOpening}
use Rattle.cell_machine.specs.Opening.{Opening, opening}
use Rattle.cell_machine.specs.Run.{replay}
use Rattle.cell_machine.specs.Shows.{AreBounded, AreSettled}
use Rattle.cell_machine.specs.Effects.{effect_of}
use Rattle.cell_machine.specs.EffectLaws.{bytes_of, new_bytes, same_place}

-- no command has more elements than it says
abbrev pub AreFew : Moves → Type 0
AreFew m = (c : ℕ) (d : Command) → slice_get m.issued c ≡ Some d → length (elements_of m.read c d) ≤ elements_in d

-- a PC at which an instruction may stand, 128 registers of 16 bytes, a store of 262,144, and no element of a list too many
pub record IsWhole (P : Spe) : Type 0 where
  pub place : IsPlace P.pc
  pub store : length P.store ≡ 262144
  pub many : length P.registers ≡ 128
  pub quads : (r : ℕ) (q : List ℕ) → slice_get P.registers r ≡ Some q → length q ≡ 16
  pub few : AreFew P.moves

abbrev pub AreWhole : List Spe → Type 0
AreWhole spes = (p : ℕ) (P : Spe) → slice_get spes p ≡ Some P → IsWhole P

-- so many lines of memory, at most n commands issued by each processor, and all that was asked for fits
pub record IsSound (lines n : ℕ) (M : State) : Type 0 where
  pub long : length M.memory.bytes ≡ 128 * lines
  pub whole : AreWhole M.spes
  pub bounded : AreBounded lines n M.spes
  pub settled : AreSettled M.spes
  pub actions : All (FitsAction lines (length M.spes)) M.host.script

-- the spans lie in their places, and the step writes as many bytes as it says
pub record Fits (M : State) (s : Step) (e : Effect) : Type 0 where
  pub new : length (new_bytes M s e) ≡ e.writes.len
  pub writes : e.writes.at + e.writes.len ≤ length (bytes_of M e.writes.place)
  pub reads : e.reads.at + e.reads.len ≤ length (bytes_of M e.reads.place)
  pub fetch : e.fetch.at + e.fetch.len ≤ length (bytes_of M e.fetch.place)

abbrev pub EffectsFit : Type 0
EffectsFit = (lines n : ℕ) (M : State) (s : Step) (e : Effect) → IsSound lines n M → effect_of M s ≡ Some e → Fits M s e

-- the byte x of the place is in the span
abbrev pub covers : Span → Place → ℕ → Bool
covers span place x = same_place span.place place && (nat_le span.at x && nat_lt x (span.at + span.len))

abbrev pub byte_of : State → Place → ℕ → ℕ
byte_of M place x = slice_index (bytes_of M place) x

-- each byte after an allowed step is one that the step wrote, or the byte that stood there
abbrev pub EachByte : Type 0
EachByte = (lines n : ℕ) (M N : State) (s : Step) (e : Effect) → IsSound lines n M → next M s ≡ Some N → effect_of M s ≡ Some e
    → (place : Place) (x : ℕ) → byte_of N place x ≡ (if covers e.writes place x then slice_index (new_bytes M s e) (x - e.writes.at) else byte_of M place x)

-- each run from a setup that can be comes to a sound state
abbrev pub RunsAreSound : Type 0
RunsAreSound = (S : Opening) (steps : List Step) (M : State) → IsOpening S → replay (opening S) steps ≡ Some M → IsSound S.lines (length steps) M
