-- The steps that move a whole line of memory, which is 128 bytes.
use Rattle.std.specs.Prelude.{◌≡◌, ℕ, ◌==◌, ◌&&◌, Bool, true, false, ◌⊎◌, Some, slice_get, take}
use Rattle.std.specs.List.{list_any}
use Rattle.cell_base.specs.declared.steps.Step.{Step}
use Rattle.cell_base.specs.declared.steps.Step.TheVariants.{Exec, Piece, Elem, Retire, Atomic, Host}
use Rattle.mfc_command.specs.declared.command.Kind.{Kind}
use Rattle.mfc_command.specs.declared.command.Kind.TheVariants.{Put, Get, PutList, GetList, Barrier, PutQueued, Signal}
use Rattle.cell_machine.specs.declared.effect.Note.{Note}
use Rattle.cell_machine.specs.declared.effect.Note.TheVariants.{Issue}
use Rattle.cell_machine.specs.declared.effect.Place.TheVariants.{Memory}
use Rattle.cell_machine.specs.declared.effect.Span.{Span}
use Rattle.race_order.specs.Trace.{Event, Trace}

-- the span is the line that begins at the address
pub record IsLine (span : Span) (address : ℕ) : Type 0 where
  pub memory : span.place ≡ Memory
  pub begins : span.at ≡ address
  pub long : span.len ≡ 128

-- a PUTQLLUC
abbrev pub is_queued_line : Kind → Bool
is_queued_line PutQueued = true
is_queued_line Put = false
is_queued_line Get = false
is_queued_line PutList = false
is_queued_line GetList = false
is_queued_line Barrier = false
is_queued_line Signal = false

-- a step with this note issues the PUTQLLUC c of processor p
abbrev pub issues_line : ℕ → ℕ → Step → Note → Bool
issues_line p c (Exec q) (Issue d command) = (q == p && d == c) && is_queued_line command.kind
issues_line p c _ _ = false

-- whether a step that comes after these moves a line whole: that of an atomic command, or the piece of a PUTQLLUC
abbrev pub moves_line : Trace → Step → Bool
moves_line before (Atomic p) = true
moves_line before (Piece p c e k) = list_any (λ x. issues_line p c x.step x.effect.note) before
moves_line before (Exec p) = false
moves_line before (Elem p c) = false
moves_line before (Retire p c) = false
moves_line before Host = false

-- at place i stands such a step on the line that begins at the address
pub record OnLine (trace : Trace) (i address : ℕ) : Type 0 where
  pub event : Event
  pub at : slice_get trace i ≡ Some event
  pub moves : moves_line (take i trace) event.step ≡ true
  pub line : IsLine event.effect.reads address ⊎ IsLine event.effect.writes address
