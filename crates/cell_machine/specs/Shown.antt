-- What a machine shows of a processor, but for what the written machine has in the same words.
use Rattle.std.specs.Prelude.{ℕ, not, if◌then◌else◌, List, [], length, filter, find, nat_le, Option, None, slice_get}
use Rattle.std.specs.List.{range_with_len}
use Rattle.std.specs.Option.{option_map, option_map_or, option_and_then}
use Rattle.mfc_command.specs.declared.command.Command.{Command}
use Rattle.mfc_command.specs.Order.{is_list}
use Rattle.mfc_lists.specs.declared.Element.{Element}
use Rattle.mfc_lists.specs.Readings.{current}
use Rattle.lock_lines.specs.Versions.{Reserved, current_line}
use Rattle.cell_machine.specs.declared.outstanding.Outstanding.{Outstanding}
use Rattle.cell_machine.specs.Spe.{Spe, Moves, PartDone}
use Rattle.cell_machine.specs.Memory.{MainMemory}
use Rattle.cell_machine.specs.Moves.{is_moved, read_of, present, parts_in, is_done, is_stalled, outstanding}
use Rattle.cell_machine.specs.MovesShown.{parts_now, reading}

-- the line that P holds: it reserved that last, and no store has touched it since
abbrev pub line_held_by : MainMemory → Spe → Option ℕ
line_held_by memory P = option_and_then (current_line memory.versions) P.reserved

-- the line that P reserved last, also where a store has touched it since; None where P reserved none, or gave it up
abbrev pub line_reserved_by : Spe → Option ℕ
line_reserved_by P = option_map (λ (r : Reserved). r.line) P.reserved

-- the parts of an element of command c that aren't done
abbrev pub parts_missing : List PartDone → ℕ → Element → List ℕ
parts_missing done c x = filter (λ k. not (is_done done c x.number k)) (range_with_len 0 (parts_in x))

-- those of command c, which is d: of its present element
unfoldable pub parts_left : Moves → ℕ → Command → List ℕ
parts_left m c d = if is_moved d then option_map_or (parts_missing m.done c) (present m.read c d) [] else []

-- command c, which is d, and how far it has come
abbrev pub shown : Moves → ℕ → Command → Outstanding
shown m c d = record {
  number = c;
  command = d;
  read = if is_list d.kind then length (read_of m.read c) else 0;
  element = if is_list d.kind then current (reading m c d) else None;
  parts = parts_now m.read c d;
  left = length (parts_left m c d);
  stalled = is_stalled m c d;
}

abbrev pub shown_at : Moves → ℕ → Option Outstanding
shown_at m c = option_map (shown m c) (slice_get m.issued c)

-- the first outstanding command of P of at least this number
abbrev pub shown_from : Spe → ℕ → Option Outstanding
shown_from P n = option_and_then (shown_at P.moves) (find (nat_le n) (outstanding P))
