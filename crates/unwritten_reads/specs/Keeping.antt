-- What is kept of the known bytes of a run as it is made.
use Rattle.std.specs.Prelude.{◌≡◌, ℕ, ◌*◌, ◌<◌, ◌↔◌, true, ◌||◌, ◌++◌, Option, length}
use Rattle.std.specs.Option.{option_to_list}
use Rattle.cell_base.specs.declared.steps.Step.{Step}
use Rattle.cell_machine.specs.declared.effect.Effect.{Effect}
use Rattle.cell_machine.specs.Limits.{IsOpening}
use Rattle.cell_machine.specs.Run.{Ran}
use Rattle.unwritten_reads.specs.declared.reads.UnwrittenReads.{UnwrittenReads}
use Rattle.unwritten_reads.specs.declared.unwritten.Unwritten.{Unwritten}
use Rattle.unwritten_reads.specs.ByMarks.{IsUnwrittenBy, has}
use Rattle.unwritten_reads.specs.Marks.{is_marked}
use Rattle.unwritten_reads.specs.Ranges.{in_range, range_of}
use Rattle.unwritten_reads.specs.Reads.{AreAllUnwritten, IsKnown}

-- all unwritten reads of the run so far, and all known bytes
pub record Knows (m : Ran) (o : UnwrittenReads) : Type 0 where
  pub opening : IsOpening m.setup
  pub long : length o.known.marks ≡ 4096 * length m.setup.entries
  pub bytes : (p x : ℕ) → x < 262144 → ((has o.known p x ≡ true) ↔ IsKnown m (length m.steps) p x)
  pub found : AreAllUnwritten m o.found.items

-- what the step at this place of the run adds
pub record Adds (s : Step) (e : Effect) (place : ℕ) (old new : UnwrittenReads) : Type 0 where
  pub unwritten : Option Unwritten
  pub is : IsUnwrittenBy old.known s e.reads place unwritten
  pub found : new.found.items ≡ old.found.items ++ option_to_list unwritten
  pub long : length new.known.marks ≡ length old.known.marks
  pub marks : (b : ℕ) → is_marked new.known.marks b ≡ (is_marked old.known.marks b || (in_range (range_of e.reads) b || in_range (range_of e.writes) b))
