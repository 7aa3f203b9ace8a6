-- What the queue and what is kept at its places stand for, of the commands of a processor.
use Rattle.std.specs.Prelude.{◌≡◌, ◌≢◌, ℕ, ◌+◌, ◌<◌, ◌≤◌, true, false, not, if◌then◌else◌, List, length, Option, Some, None, IsSomeAnd, slice_get}
use Rattle.std.specs.List.{list_all}
use Rattle.std.specs.Option.{option_map_or}
use Rattle.mfc_command.specs.declared.command.Command.{Command}
use Rattle.mfc_command.specs.Order.{is_list}
use Rattle.mfc_lists.specs.declared.Element.{Element}
use Rattle.mfc_lists.specs.declared.ListState.{ListState}
use Rattle.mfc_lists.specs.Readings.{Reading, StandsFor as StandsForReading}
use Rattle.mfc_queue.specs.declared.Queue.{Queue}
use Rattle.mfc_queue.specs.Calls.{Call, issued, is_retired, parts, is_marked}
use Rattle.mfc_queue.specs.Stands.{StandsFor, place_in}
use Rattle.cell_machine.specs.declared.progress.Progress.{Progress}
use Rattle.cell_machine.specs.Spe.{Moves, ElementRead}
use Rattle.cell_machine.specs.Moves.{read_of, elements_in, elements_of, present, parts_in, is_moved, is_done, is_finished, is_stalled, is_resumed, was_retired, is_complete}
use Rattle.cell_machine.specs.Transfers.{has_element}

-- ---- the calls made on a queue

-- nothing was done of a command of this number
pub record IsUntouched (m : Moves) (c : ℕ) : Type 0 where
  pub read : length (read_of m.read c) ≡ 0
  pub done : (e k : ℕ) → is_done m.done c e k ≡ false
  pub retired : was_retired m.retired c ≡ false
  pub resumed : (e : ℕ) → is_resumed m.resumed c e ≡ false

-- the parts that may be marked now
abbrev pub parts_now : List ElementRead → ℕ → Command → ℕ
parts_now read c d = if is_moved d then option_map_or parts_in (present read c d) 0 else 0

-- no more elements were read than there are, they have their numbers, and all but the present one are finished; nothing was done of later ones
pub record AreElements (m : Moves) (c : ℕ) (d : Command) : Type 0 where
  pub few : length (elements_of m.read c d) ≤ elements_in d
  pub numbers : (n : ℕ) (x : Element) → slice_get (elements_of m.read c d) n ≡ Some x → x.number ≡ n
  pub earlier : (n : ℕ) (x y : Element) → slice_get (elements_of m.read c d) n ≡ Some x → present m.read c d ≡ Some y → n < y.number → is_finished m.done c x ≡ true
  pub later : (e k : ℕ) → length (elements_of m.read c d) ≤ e → is_done m.done c e k ≡ false
  pub not_resumed : (e : ℕ) → length (elements_of m.read c d) ≤ e → is_resumed m.resumed c e ≡ false
  pub resumed : (x : Element) → present m.read c d ≡ Some x → is_finished m.done c x ≡ false → is_resumed m.resumed c x.number ≡ false

-- the calls are what was issued and done; of what is complete nothing is said
pub record ShowsDone (calls : List Call) (m : Moves) : Type 0 where
  pub issued : issued calls ≡ m.issued
  pub parts : (c : ℕ) (d : Command) → slice_get m.issued c ≡ Some d → parts calls c ≡ parts_now m.read c d
  pub marked : (c k : ℕ) (d : Command) (x : Element) → slice_get m.issued c ≡ Some d → present m.read c d ≡ Some x
      → is_marked calls c k ≡ is_done m.done c x.number k
  pub elements : (c : ℕ) (d : Command) → slice_get m.issued c ≡ Some d → AreElements m c d
  pub fresh : (c : ℕ) → length m.issued ≤ c → IsUntouched m c

-- and what is complete is retired
pub record ShowsMoves (calls : List Call) (m : Moves) : Type 0 where
  pub done : ShowsDone calls m
  pub complete : is_retired calls ≡ is_complete m

-- each command but c that is complete is retired; c isn't retired
pub record ShowsOthers (calls : List Call) (m : Moves) (c : ℕ) : Type 0 where
  pub done : ShowsDone calls m
  pub complete : (other : ℕ) → other ≢ c → is_retired calls other ≡ is_complete m other
  pub waits : is_retired calls c ≡ false

-- ---- how far commands have come

-- how far the list c, which is d, has come
abbrev pub reading : Moves → ℕ → Command → Reading
reading m c d = record {
  command = d;
  read = read_of m.read c;
  in_progress = not (list_all (is_finished m.done c) (read_of m.read c));
  is_stalled = is_stalled m c d;
}

-- how far command c, which is d, has come, if it is a list
abbrev pub IsListOf : Option ListState → Moves → ℕ → Command → Type 0
IsListOf o m c d = (is_list d.kind ≡ true → IsSomeAnd o (λ s. StandsForReading s (reading m c d))) × (is_list d.kind ≡ false → o ≡ None)

-- how many steps beside its pieces it can make once it may begin: the reading of its next element, or its retirement
abbrev pub other_steps : Moves → ℕ → Command → ℕ
other_steps m c d = (if has_element m c d then 1 else 0) + (if not (is_moved d) then 1 else 0)

pub record IsProgressOf (progress : Progress) (m : Moves) (c : ℕ) (d : Command) : Type 0 where
  pub list : IsListOf progress.list m c d
  pub others : progress.others ≡ other_steps m c d

-- at a place of the queue stands how far command c, which is d, has come
pub record ShowsCommand (kept : List Progress) (place : ℕ) (m : Moves) (c : ℕ) (d : Command) : Type 0 where
  pub progress : Progress
  pub there : slice_get kept place ≡ Some progress
  pub stands : IsProgressOf progress m c d

-- so it is of each outstanding command, or of each but one
abbrev pub ShowsProgress : Queue → List Progress → Moves → Type 0
ShowsProgress q kept m = (c place : ℕ) (d : Command) → slice_get m.issued c ≡ Some d → place_in q c ≡ Some place → ShowsCommand kept place m c d

abbrev pub ShowsOtherProgress : Queue → List Progress → Moves → ℕ → Type 0
ShowsOtherProgress q kept m but = (c place : ℕ) (d : Command) → c ≢ but → slice_get m.issued c ≡ Some d → place_in q c ≡ Some place → ShowsCommand kept place m c d

-- ---- both

pub record ShowsQueue (q : Queue) (progress : List Progress) (m : Moves) : Type 0 where
  pub calls : List Call
  pub stands : StandsFor q calls
  pub moves : ShowsMoves calls m
  pub kept : ShowsProgress q progress m

-- all but what is kept of command c, and whether it is complete
pub record ShowsQueueBut (q : Queue) (progress : List Progress) (m : Moves) (c : ℕ) : Type 0 where
  pub calls : List Call
  pub stands : StandsFor q calls
  pub moves : ShowsOthers calls m c
  pub kept : ShowsOtherProgress q progress m c
