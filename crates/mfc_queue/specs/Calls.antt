-- The calls that were ever made on a queue, oldest first, and what they say.
use Rattle.std.specs.Prelude.{ℕ, Bool, false, not, ◌&&◌, ◌||◌, ◌==◌, nat_lt, if◌then◌else◌, List, length, filter, fold, filter_map, Option, Some, None, slice_get}
use Rattle.std.specs.List.{list_any, list_all, range_with_len}
use Rattle.std.specs.Option.{option_map_or}
use Rattle.mfc_command.specs.declared.command.Command.{Command}
use Rattle.mfc_command.specs.Order.{may_start, busy_groups, outstanding as outstanding_of}

pub data Call : Type 0 where
  Issue : Command → Call
  SetParts : ℕ → ℕ → Call  -- of a command, and how many
  Mark : ℕ → ℕ → Call  -- of a command, and which part
  Retire : ℕ → Call

abbrev pub command_in : Call → Option Command
command_in (Issue c) = Some c
command_in (SetParts cmd n) = None
command_in (Mark cmd part) = None
command_in (Retire cmd) = None

-- all commands that were issued; each one's place is its number
unfoldable pub issued : List Call → List Command
issued calls = filter_map command_in calls

abbrev pub retires : ℕ → Call → Bool
retires cmd (Retire c) = c == cmd
retires cmd (Issue c) = false
retires cmd (SetParts c n) = false
retires cmd (Mark c part) = false

unfoldable pub is_retired : List Call → ℕ → Bool
is_retired calls cmd = list_any (retires cmd) calls

abbrev pub is_outstanding : List Call → ℕ → Bool
is_outstanding calls cmd = nat_lt cmd (length (issued calls)) && not (is_retired calls cmd)

-- the commands that were issued and aren't retired
abbrev pub outstanding : List Call → List ℕ
outstanding calls = outstanding_of (is_retired calls) (issued calls)

-- how many parts the command's latest SetParts gave it
abbrev pub parts_after : ℕ → ℕ → Call → ℕ
parts_after cmd n (SetParts c m) = if c == cmd then m else n
parts_after cmd n (Issue c) = n
parts_after cmd n (Mark c part) = n
parts_after cmd n (Retire c) = n

unfoldable pub parts : List Call → ℕ → ℕ
parts calls cmd = fold (parts_after cmd) 0 calls

-- whether the part was marked since then
abbrev pub marked_after : ℕ → ℕ → Bool → Call → Bool
marked_after cmd part b (SetParts c m) = if c == cmd then false else b
marked_after cmd part b (Mark c k) = b || (c == cmd && k == part)
marked_after cmd part b (Issue c) = b
marked_after cmd part b (Retire c) = b

unfoldable pub is_marked : List Call → ℕ → ℕ → Bool
is_marked calls cmd part = fold (marked_after cmd part) false calls

-- the parts of the command that aren't marked, in order
unfoldable pub left : List Call → ℕ → List ℕ
left calls cmd = filter (λ k. not (is_marked calls cmd k)) (range_with_len 0 (parts calls cmd))

-- whether all parts of the command are marked
abbrev pub all_marked : List Call → ℕ → Bool
all_marked calls cmd = list_all (is_marked calls cmd) (range_with_len 0 (parts calls cmd))

-- whether every command that goes before this one is retired
abbrev pub may_begin : List Call → ℕ → Bool
may_begin calls cmd = may_start (is_retired calls) (issued calls) cmd

-- the tag groups with a command outstanding
abbrev pub busy : List Call → ℕ
busy calls = busy_groups (is_retired calls) (issued calls)

-- whether the command of this number has the tag
abbrev pub is_of_tag : List Command → ℕ → ℕ → Bool
is_of_tag issued tag c = option_map_or (λ d. d.tag == tag) (slice_get issued c) false

-- whether a command of the tag is outstanding
abbrev pub has_outstanding : List Call → ℕ → Bool
has_outstanding calls tag = list_any (is_of_tag (issued calls) tag) (outstanding calls)
