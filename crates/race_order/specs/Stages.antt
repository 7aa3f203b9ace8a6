-- How far the machine has come with its commands, and that the trace alone tells it.
use Rattle.std.specs.Prelude.{◌≡◌, ℕ, false, not, if◌then◌else◌, List, length, filter, slice_get}
use Rattle.std.specs.List.{range_with_len}
use Rattle.std.specs.Option.{option_map, option_map_or}
use Rattle.mfc_command.specs.declared.command.Command.{Command}
use Rattle.mfc_command.specs.Order.{is_list}
use Rattle.mfc_lists.specs.declared.Element.{Element}
use Rattle.cell_machine.specs.Spe.{Spe, Moves, PartDone, is_faulted}
use Rattle.cell_machine.specs.Moves.{read_of, is_moved, present, parts_in, is_done, is_stalled, is_complete_as}
use Rattle.race_order.specs.declared.progress.Progress.{Progress}
use Rattle.race_order.specs.Trace.{Trace}
use Rattle.race_order.specs.Status.{status}

-- how many parts of an element aren't done
unfoldable pub parts_left : List PartDone → ℕ → Element → ℕ
parts_left done c x = length (filter (λ k. not (is_done done c x.number k)) (range_with_len 0 (parts_in x)))

-- how far the machine has come with command c, which is d: of a list the elements that were read are counted;
-- what is left, and the flag, are those of the present element
abbrev pub progress_of : Moves → ℕ → Command → Progress
progress_of m c d = record {
  command = d;
  read = if is_list d.kind then length (read_of m.read c) else 0;
  left = if is_moved d then option_map_or (parts_left m.done c) (present m.read c d) 0 else 0;
  flagged = option_map_or (λ x. x.flagged) (present m.read c d) false;
  stalled = is_stalled m c d;
  done = is_complete_as m c d;
}

-- the trace tells of processor p, which is P, what the machine keeps: which commands were issued, and how far each has come.
-- Behind a faulty element nothing more is said of how far they have come: the trace counts that element as read,
-- and neither the flow controller nor the processor makes another step
pub record KeepsStatus (p : ℕ) (trace : Trace) (P : Spe) : Type 0 where
  pub issued : (c : ℕ) → option_map (λ s. s.command) (status p c trace) ≡ slice_get P.moves.issued c
  pub come : is_faulted P.status ≡ false → (c : ℕ) → status p c trace ≡ option_map (progress_of P.moves c) (slice_get P.moves.issued c)
