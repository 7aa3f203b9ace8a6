-- Which steps change what other actors can see: a mailbox, a signal register, a status, or main memory.
use Rattle.std.specs.Prelude.{◌==◌, ◌&&◌, ◌||◌, Bool, true, false, not, bytes_eq}
use Rattle.cell_base.specs.declared.steps.Step.{Step}
use Rattle.cell_base.specs.declared.steps.Step.TheVariants.{Exec, Piece, Elem, Retire, Atomic, Host}
use Rattle.cell_machine.specs.declared.effect.Place.TheVariants.{Memory}
use Rattle.cell_machine.specs.declared.effect.Span.{Span}
use Rattle.cell_machine.specs.declared.effect.Note.{Note}
use Rattle.cell_machine.specs.declared.effect.Note.TheVariants.{Nothing, Issue, AtomicIssue, TagRead, StallRead, Ack, AtomicRead, Put, Take, Ended, Awaited, Element, Signal}
use Rattle.cell_machine.specs.EffectLaws.{bytes_in, same_place}
use Rattle.run_progress.specs.Made.{Made}

abbrev pub is_host : Step → Bool
is_host (Exec p) = false
is_host (Piece p c e k) = false
is_host (Elem p c) = false
is_host (Retire p c) = false
is_host (Atomic p) = false
is_host Host = true

-- a mailbox, a signal register or a status changes
abbrev pub is_visible : Note → Bool
is_visible (Put p mailbox) = true
is_visible (Take p mailbox) = true
is_visible (Signal p register) = true
is_visible Ended = true
is_visible Nothing = false
is_visible (Issue c d) = false
is_visible AtomicIssue = false
is_visible (TagRead groups issued) = false
is_visible (StallRead groups) = false
is_visible (Ack tag) = false
is_visible AtomicRead = false
is_visible (Awaited p) = false
is_visible (Element number parts flagged) = false

-- the span has bytes, and they are in main memory
abbrev pub is_shared : Span → Bool
is_shared x = same_place x.place Memory && not (x.len == 0)

-- bytes of main memory that the step writes are others after it than before it
abbrev pub changes_memory : Made → Bool
changes_memory x = is_shared x.effect.writes && not (bytes_eq (bytes_in x.before x.effect.writes) (bytes_in x.after x.effect.writes))

-- other actors can see that the step was made
unfoldable pub changes : Made → Bool
changes x = (is_host x.step || is_visible x.effect.note) || changes_memory x
