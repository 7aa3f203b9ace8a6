-- The lists of a step: what it issues, and what else it moves.
use Rattle.std.specs.Prelude.{ℕ, zero, suc, List, [], ◌∷◌, ◌++◌, map, Option, Some, None, Bool, true, false, filter, bit_and, ◌/◌, ◌^◌, ◌==◌}
use Rattle.cell_base.specs.declared.steps.Step.{Step}
use Rattle.cell_base.specs.declared.steps.Step.TheVariants.{Exec, Piece, Elem, Retire, Atomic, Host}
use Rattle.cell_machine.specs.declared.effect.Note.{Note}
use Rattle.cell_machine.specs.declared.effect.Note.TheVariants.{Issue, TagRead, StallRead}
use Rattle.race_order.specs.declared.lists.Issued.{Issued}
use Rattle.race_order.specs.declared.moves.Move.{Move}
use Rattle.race_order.specs.declared.roles.Class.TheVariants.{Tag}
use Rattle.race_order.specs.declared.roles.QueueRole.{QueueRole}
use Rattle.race_order.specs.declared.roles.QueueRole.TheVariants.{Waits, Complete, Fixed, Stalled}
use Rattle.race_order.specs.Passes.{from_class, classes_ahead}

abbrev pub issued_note : ℕ → Note → Option Issued
issued_note p (Issue c command) = Some record { spe = p; cmd = c; command = command }
issued_note p _ = None

abbrev pub issued_in : Step → Note → Option Issued
issued_in (Exec p) note = issued_note p note
issued_in _ note = None

abbrev pub self_roles : Option Issued → List QueueRole
self_roles None = []
self_roles (Some i) = Waits i.spe i.cmd ∷ []

abbrev pub issue_list : Option Issued → List Move
issue_list None = []
issue_list (Some i) = map (from_class i.spe i.cmd) (classes_ahead i.command)

abbrev pub spe_in : Step → Option ℕ
spe_in (Exec p) = Some p
spe_in (Piece p c e k) = Some p
spe_in (Elem p c) = Some p
spe_in (Retire p c) = Some p
spe_in (Atomic p) = Some p
spe_in Host = None

unfoldable pub below : ℕ → List ℕ
below zero = []
below (suc k) = below k ++ (k ∷ [])

abbrev pub fix_move : ℕ → ℕ → Move
fix_move p tag = record { from = Complete p (Tag tag); to = Fixed p tag }

abbrev pub fix_list : Bool → Option ℕ → List Move
fix_list fixed None = []
fix_list true (Some p) = map (fix_move p) (below 32)
fix_list false (Some p) = []

abbrev pub own_waits : Step → List QueueRole
own_waits (Piece p c e k) = Waits p c ∷ []
own_waits (Elem p c) = Waits p c ∷ []
own_waits (Retire p c) = Waits p c ∷ []
own_waits _ = []

abbrev pub has_bit : ℕ → ℕ → Bool
has_bit groups tag = bit_and (groups / 2 ^ tag) 1 == 1

abbrev pub tags_in : ℕ → List ℕ
tags_in groups = filter (has_bit groups) (below 32)

abbrev pub seen_by : ℕ → Note → List QueueRole
seen_by p (TagRead groups issued) = map (Fixed p) (tags_in groups)
seen_by p (StallRead groups) = map (Stalled p) (tags_in groups)
seen_by p _ = []

abbrev pub seen_in : Step → Note → List QueueRole
seen_in (Exec p) note = seen_by p note
seen_in _ note = []
