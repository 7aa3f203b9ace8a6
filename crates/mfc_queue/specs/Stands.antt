-- What a queue stands for.
use Rattle.std.specs.Prelude.{◌≡◌, ◌≢◌, ℕ, ◌<◌, ◌≤◌, ◌&&◌, nat_lt, Bool, true, false, List, Option, Some, find, ◌==◌, All, map, length, slice_get, slice_index_or}
use Rattle.std.specs.List.{list_any}
use Rattle.std.specs.Option.{option_map}
use Rattle.mfc_queue.specs.declared.Queue.{Queue}
use Rattle.mfc_queue.specs.declared.Held.{Held}
use Rattle.mfc_queue.specs.declared.Waiting.{Waiting}
use Rattle.mfc_queue.specs.declared.place_set.PlaceSet.{PlaceSet}
use Rattle.mfc_command.specs.declared.command.Command.{Command}
use Rattle.mfc_command.specs.Order.{precedes}
use Rattle.cell_base.specs.Bits.{has_bit}
use Rattle.mfc_queue.specs.Sets.{has_part}
use Rattle.mfc_queue.specs.Calls.{Call, issued, is_retired, is_outstanding, outstanding, parts, is_marked, left, may_begin}

-- the command of this number, its parts, and those done
pub record Holds (calls : List Call) (h : Held) : Type 0 where
  pub command : slice_get (issued calls) h.cmd ≡ Some h.command
  pub parts : parts calls h.cmd ≡ h.parts
  pub done : (k : ℕ) → k < 129 → is_marked calls h.cmd k ≡ has_part h.done.words k

-- no call spoke of a command of this number
pub record IsUnknown (calls : List Call) (cmd : ℕ) : Type 0 where
  pub retired : is_retired calls cmd ≡ false
  pub parts : parts calls cmd ≡ 0
  pub marked : (k : ℕ) → is_marked calls cmd k ≡ false

-- what of a held command says which others it goes before
pub record Entry : Type 0 where
  pub cmd : ℕ
  pub place : ℕ
  pub command : Command

abbrev pub entry : Held → Entry
entry h = record { cmd = h.cmd; place = h.place; command = h.command }

-- whether g has the place, was issued before e, and goes before it
abbrev pub goes_at : ℕ → Entry → Entry → Bool
goes_at place e g = g.place == place && (nat_lt g.cmd e.cmd && precedes g.command e.command)

-- the set of e's place has the places of the earlier ones that go before e
abbrev pub KnowsBefore : List Entry → List PlaceSet → Entry → Type 0
KnowsBefore entries sets e = (place : ℕ) (d : PlaceSet) → place < 16 → has_bit (slice_index_or sets e.place d).bits place ≡ list_any (goes_at place e) entries

-- the queue holds the outstanding commands in the order of their numbers
pub record StandsFor (q : Queue) (calls : List Call) : Type 0 where
  pub number : length (issued calls) ≡ q.issued
  pub numbers : outstanding calls ≡ map (λ h. h.cmd) q.held.items
  pub each : All (Holds calls) q.held.items
  pub fresh : (cmd : ℕ) → length (issued calls) ≤ cmd → IsUnknown calls cmd
  pub many : length q.held.items ≤ 16
  pub before : All (KnowsBefore (map entry q.held.items) q.before) (map entry q.held.items)

-- the place of the command of this number, where the queue holds it
abbrev pub place_in : Queue → ℕ → Option ℕ
place_in q cmd = option_map (λ h. h.place) (find (λ h. h.cmd == cmd) q.held.items)

-- every command has the place that it had, or all but one
abbrev pub KeepsPlaces : Queue → Queue → Type 0
KeepsPlaces old new = (other : ℕ) → place_in new other ≡ place_in old other

abbrev pub KeepsOtherPlaces : Queue → Queue → ℕ → Type 0
KeepsOtherPlaces old new cmd = (other : ℕ) → other ≢ cmd → place_in new other ≡ place_in old other

-- it stands for some calls
pub record IsKnown (q : Queue) : Type 0 where
  pub calls : List Call
  pub stands : StandsFor q calls

-- it stands for some calls by which the command is outstanding
pub record IsOneOf (q : Queue) (cmd : ℕ) : Type 0 where
  pub calls : List Call
  pub stands : StandsFor q calls
  pub outstanding : is_outstanding calls cmd ≡ true

-- and by which it has the part
pub record HasPart (q : Queue) (cmd part : ℕ) : Type 0 where
  pub calls : List Call
  pub stands : StandsFor q calls
  pub outstanding : is_outstanding calls cmd ≡ true
  pub within : part < parts calls cmd

-- fewer than a million commands were issued, and a place is free or not
pub record HasNumber (q : Queue) : Type 0 where
  pub calls : List Call
  pub stands : StandsFor q calls
  pub few : length (issued calls) < 1000000

-- a look at the outstanding command of this number finds this
pub record IsWaiting (q : Queue) (calls : List Call) (cmd : ℕ) (w : Waiting) : Type 0 where
  pub outstanding : is_outstanding calls cmd ≡ true
  pub place : place_in q cmd ≡ Some w.place
  pub command : slice_get (issued calls) cmd ≡ Some w.command
  pub may_start : w.may_start ≡ may_begin calls cmd
  pub left : w.left ≡ length (left calls cmd)

-- and so it is by all calls that the queue stands for
pub record IsSeen (q : Queue) (cmd : ℕ) (w : Waiting) : Type 0 where
  pub waits : (calls : List Call) → StandsFor q calls → IsWaiting q calls cmd w
  pub small : w.place < 16
  pub tag : w.command.tag < 32
