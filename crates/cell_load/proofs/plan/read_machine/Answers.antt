use Rattle.std.proofs.Common.{Vec, Global, map, rules}
use Rattle.cell_load.specs.declared.line.Line.{Line}
use Rattle.cell_load.specs.Entries.{entry_of}
use Rattle.std.proofs.lemmas.Result.{err_from_is_err_and}
use Rattle.cell_load.proofs.Admitted.{few_spes, is_machine}
use Rattle.cell_load.proofs.MachineLemmas.{first_bad, first_limit}
use Rattle.cell_load.proofs.plan.read_machine.Goals as goal

pub returns-in_err-lines-clause-bad_line : goal.returns-in_err-lines-clause-bad_line
returns-in_err-lines-clause-bad_line c = λ line is.
    let p = err_from_is_err_and c.from_residual.result c.from_residual.ensures.1 in
    first_bad {Y = Vec Line Global} (λ v. map entry_of v.items) c.args.text.now _ line c.in_err-lines.ensures.gives (rw (p.1, p.2) at is)

pub returns-in_err-lines-clause-limit : goal.returns-in_err-lines-clause-limit
returns-in_err-lines-clause-limit c = λ line is.
    let p = err_from_is_err_and c.from_residual.result c.from_residual.ensures.1 in
    first_limit {Y = Vec Line Global} (λ v. map entry_of v.items) c.args.text.now _ line c.in_err-lines.ensures.gives (rw (p.1, p.2) at is)

pub sources_in-requires : goal.sources_in-requires
sources_in-requires c =
    rw c.as_slice.ensures.value (few_spes (map entry_of c.in_ok-lines.lines.items) (is_machine c.args.text.now _ c.in_ok-lines.ensures.gives))

pub invariant_of-result : goal.invariant_of-result
invariant_of-result c = (is_machine c.args.text.now _ c.in_ok-lines.ensures.gives, search rules)
