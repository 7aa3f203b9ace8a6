-- What is kept of a run while it is made again. Contracts of private functions use it.
use Rattle.std.specs.Prelude.{◌≡◌, ℕ, List, [], length, filter, Option, Some, None, slice_get}
use Rattle.std.specs.List.{last_or}
use Rattle.std.specs.Option.{option_map}
use Rattle.cell_base.specs.declared.steps.Step.{Step}
use Rattle.cell_base.specs.declared.steps.Step.TheVariants.{Exec, Piece, Elem, Retire, Atomic, Host}
use Rattle.cell_machine.specs.declared.effect.Span.{Span}
use Rattle.run_progress.specs.declared.recent.Recent.{Recent}
use Rattle.run_progress.specs.declared.writes.Write.{Write}
use Rattle.run_progress.specs.declared.tracks.Tracks.{Tracks}
use Rattle.run_progress.specs.Made.{Made}
use Rattle.run_progress.specs.Progress.{after_change, executed, last_change, last_ones, last_place, overlap, polled, writes_in}

-- the last instructions of each processor after the last change
abbrev pub AreRecent : List Made → List Recent → Type 0
AreRecent run recent = (p : ℕ) (r : Recent) → slice_get recent p ≡ Some r → r.addresses.items ≡ last_ones 1000 (executed p (after_change run))

abbrev pub AreEmpty : List Recent → Type 0
AreEmpty recent = (p : ℕ) (r : Recent) → slice_get recent p ≡ Some r → r.addresses.items ≡ []

-- the processor whose MFC copies bytes in a step
abbrev pub copier : Step → Option ℕ
copier (Piece p c e k) = Some p
copier (Atomic p) = Some p
copier (Exec p) = None
copier (Elem p c) = None
copier (Retire p c) = None
copier Host = None

-- what the MFC of each processor read last after the last change
abbrev pub AreReads : List Made → List (Option Span) → Type 0
AreReads run reads = (p : ℕ) (o : Option Span) → slice_get reads p ≡ Some o → o ≡ polled p run

abbrev pub AreNone : List (Option Span) → Type 0
AreNone reads = (p : ℕ) (o : Option Span) → slice_get reads p ≡ Some o → o ≡ None

-- the place of the last of these that wrote a byte of the span
abbrev pub last_write : Span → List Write → Option ℕ
last_write read writes = option_map (λ (w : Write). w.place) (last_or None (filter (λ w. overlap w.span read) writes))

-- they find the writer of every span
abbrev pub AreWrites : List Made → List Write → Type 0
AreWrites run writes = (read : Span) → last_write read writes ≡ last_place (writes_in read) run

-- all that is kept of a run of so many processors
pub record Follows (spes : ℕ) (run : List Made) (t : Tracks) : Type 0 where
  pub change_is : t.last_change ≡ last_change run
  pub recent : AreRecent run t.recent.items
  pub spes_recent : length t.recent.items ≡ spes
  pub reads : AreReads run t.reads.items
  pub spes_read : length t.reads.items ≡ spes
  pub writes : AreWrites run t.writes.items
