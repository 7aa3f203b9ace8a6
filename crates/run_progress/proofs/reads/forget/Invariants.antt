use Rattle.std.proofs.Common.{◌≡◌, ℕ, ◌<◌, length, Option, Some, None}
use Rattle.std.specs.Prelude.{slice_get}
use Rattle.cell_machine.specs.declared.effect.Span.{Span}
use Rattle.run_progress.proofs.reads.forget.Given as goal

abbrev pub invariant-loop-i : goal.invariant-loop-i
invariant-loop-i l =
    record {
      none : (p : ℕ) (o : Option Span) → p < l.i → slice_get l.reads p ≡ Some o → o ≡ None;
      many : length l.reads ≡ length l.initial.reads;
    }
