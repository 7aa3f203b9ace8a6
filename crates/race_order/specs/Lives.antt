-- The outstanding commands, and what a step does to their sets.
use Rattle.std.specs.List.{list_any}
use Rattle.std.specs.Prelude.{◌≡◌, ℕ, zero, suc, ◌+◌, ◌*◌, ◌<◌, ◌==◌, ◌&&◌, ◌||◌, Bool, true, false, List, [], ◌∷◌, Vec, Option, Some, None, slice_get, ◌^◌, All as Each}
use Rattle.std.specs.declared.alloc.Global.{Global}
use Rattle.order_sets.specs.declared.facts.At.{At}
use Rattle.order_sets.specs.declared.facts.Fact.TheVariants.{Whole, Elements}
use Rattle.order_sets.specs.Facts.{covers}
use Rattle.cell_base.specs.declared.steps.Step.{Step}
use Rattle.cell_base.specs.declared.steps.Step.TheVariants.{Exec, Piece, Elem, Retire, Atomic, Host}
use Rattle.cell_machine.specs.declared.effect.Note.{Note}
use Rattle.cell_machine.specs.declared.effect.Note.TheVariants.{Ack, Signal}
use Rattle.race_order.specs.declared.progress.Progress.{Progress}
use Rattle.race_order.specs.Trace.{Trace, is_of}
use Rattle.race_order.specs.Status.{stepped, is_by, elements_done, has_one_piece}
use Rattle.race_order.specs.Queue.{Has}
use Rattle.race_order.specs.Lines.{is_queued_line}
use Rattle.race_order.specs.declared.lives.Live.{Live}
use Rattle.race_order.specs.declared.lives.Target.{Target}
use Rattle.race_order.specs.declared.lives.Target.TheVariants.{Command, Lists, Nothing}
use Rattle.race_order.specs.declared.roles.QueueRole.{QueueRole}
use Rattle.race_order.specs.declared.roles.QueueRole.TheVariants.{Waits}
use Rattle.race_order.specs.Tables.{same_role}

abbrev pub acked_by : Progress → Note → Bool
acked_by s (Ack tag) = s.stalled && tag == s.command.tag
acked_by s _ = false

abbrev pub acks : ℕ → Progress → Step → Note → Bool
acks p s (Exec q) note = q == p && acked_by s note
acks p s _ note = false

abbrev pub reads_of : ℕ → ℕ → Step → Bool
reads_of p c (Elem q d) = is_by p c q d
reads_of p c _ = false

-- the step is the piece of the command, a PUTQLLUC: it looks at the set of its line, which isn't kept for queues
abbrev pub moves_own_line : Live → Step → Bool
moves_own_line l (Piece q d e k) = is_by l.spe l.cmd q d && is_queued_line l.progress.command.kind
moves_own_line l _ = false

-- the step is one of the command, and delivers a signal: it looks at the set of its register, which isn't kept for queues
abbrev pub delivers : ℕ → ℕ → Step → Note → Bool
delivers p c step (Signal q r) = is_of p c step
delivers p c step _ = false

-- the step goes itself into what waits for the command
abbrev pub goes_in : Live → Step → Note → Bool
goes_in l step note = reads_of l.spe l.cmd step || (acks l.spe l.progress step note || (moves_own_line l step || delivers l.spe l.cmd step note))

-- whether a step moves a line whole, where these are the outstanding commands of its processor
abbrev pub moves_line_by : List Live → Step → Bool
moves_line_by lives (Atomic p) = true
moves_line_by lives (Piece p c e k) = list_any (λ l. moves_own_line l (Piece p c e k)) lives
moves_line_by lives (Exec p) = false
moves_line_by lives (Elem p c) = false
moves_line_by lives (Retire p c) = false
moves_line_by lives Host = false

-- the step is the piece of the command, which has one
abbrev pub is_only_piece : ℕ → ℕ → Live → Bool
is_only_piece p c l = is_by l.spe l.cmd p c && has_one_piece l.progress.command

-- whether a step is the only one of its command, where these are the outstanding commands of its processor
abbrev pub is_only_step : List Live → Step → Bool
is_only_step lives (Piece p c e k) = list_any (is_only_piece p c) lives
is_only_step lives (Exec p) = false
is_only_step lives (Elem p c) = false
is_only_step lives (Retire p c) = false
is_only_step lives (Atomic p) = false
is_only_step lives Host = false

abbrev pub is_touched : Live → Step → Note → Bool
is_touched l step note = is_of l.spe l.cmd step || acks l.spe l.progress step note

-- the command is what is touched
abbrev pub is_target : Target → Live → Bool
is_target (Command p c) l = is_by l.spe l.cmd p c
is_target (Lists p tag) l = p == l.spe && (l.progress.stalled && tag == l.progress.command.tag)
is_target Nothing l = false

abbrev pub moved : Live → Step → Note → Live
moved l step note = record l { progress = stepped l.spe l.cmd l.progress step note }

-- the list has exactly the outstanding commands of processor p
pub record ShowsLives (p : ℕ) (lives : List Live) (trace : Trace) : Type 0 where
  pub sound : (i : ℕ) (l : Live) → slice_get lives i ≡ Some l → (l.spe ≡ p) × Has trace l.spe l.cmd l.progress × (l.progress.done ≡ false)
  pub full : (c : ℕ) (s : Progress) → Has trace p c s → s.done ≡ false → (i : ℕ) × (slice_get lives i ≡ Some record { spe = p; cmd = c; progress = s })

-- the list of processor p
abbrev pub lives_of : List (Vec Live Global) → ℕ → List Live
lives_of [] p = []
lives_of (v ∷ vs) zero = v.items
lives_of (v ∷ vs) (suc p) = lives_of vs p

-- that of the processor whose step it is
abbrev pub near : List (Vec Live Global) → Option ℕ → List Live
near lists None = []
near lists (Some p) = lives_of lists p

-- what is done of the command
abbrev pub own_has : ℕ → Live → At → Bool
own_has n l a =
    covers (Elements (2 * n + l.spe) l.cmd (elements_done l.progress)) a || (l.progress.done && covers (Whole (2 * n + l.spe) l.cmd) a)

-- no list has read too many elements
abbrev pub HaveRoom : List Live → Type 0
HaveRoom lives = Each (λ l. l.progress.read + 1 < 2 ^ 16) lives

abbrev pub AreOutstanding : List Live → Type 0
AreOutstanding lives = Each (λ l. l.progress.done ≡ false) lives

abbrev pub AreWithin : ℕ → List Live → Type 0
AreWithin n lives = Each (λ l. l.spe < n) lives

-- what a touched command brings into its set
abbrev pub touch_brings : ℕ → Step → Note → (At → Bool) → QueueRole → At → Live → Bool
touch_brings n step note after r a l =
    is_touched l step note && (same_role (Waits l.spe l.cmd) r && ((goes_in l step note && after a) || own_has n (moved l step note) a))
