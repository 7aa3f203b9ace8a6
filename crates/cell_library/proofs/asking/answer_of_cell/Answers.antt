use Rattle.std.proofs.Common.{ap, sym, rules}
use Rattle.cell_commands.specs.Words.{no_form}
use Rattle.trace_commands.specs.Words.{alone}
use Rattle.cell_library.specs.Asked.{by_cell, by_trace, without_runs}
use Rattle.cell_library.proofs.AnswersLaws.{asked_of, no_run}
use Rattle.cell_library.proofs.asking.answer_of_cell.Goals as goal

pub returns-in-Run : goal.returns-in-Run
returns-in-Run c = asked_of c.args.files.items (by_trace (alone c.in-Run.machine.now)) _ c.trace_answer.result (ap without_runs c.in-Run.ensures) c.trace_answer.ensures

pub returns-in-Gen : goal.returns-in-Gen
returns-in-Gen c = asked_of c.args.files.items (by_cell no_form) _ c.cell_answer.result (ap without_runs c.in-Gen.ensures) c.cell_answer.ensures

pub returns-in_default : goal.returns-in_default
returns-in_default c = asked_of c.args.files.items _ _ c.cell_answer-in_default.result (sym (no_run _ (search rules))) c.cell_answer-in_default.ensures
