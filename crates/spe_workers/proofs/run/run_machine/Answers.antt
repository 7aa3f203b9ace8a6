use Rattle.std.proofs.Common.{arith, ◌≡◌, length, sym, ◌∙◌, subst}
use Rattle.std.specs.Prelude.{Option}
use Rattle.cell_machine.specs.declared.status.End.{End}
use Rattle.cell_machine.specs.Run.{EndsAs}
use Rattle.cell_machine.proofs.Runs.{ends_once}
use Rattle.spe_workers.proofs.Ending.{all_done_within}
use Rattle.spe_workers.proofs.Rising.{nothing_follows}
use Rattle.spe_workers.proofs.run.run_machine.Goals as goal

pub join_all-all-requires-clause-done : goal.join_all-all-requires-clause-done
join_all-all-requires-clause-done g c =
    let d = c.deref_mut.ensures in
    let same : length c.run_workers.new.workers ≡ length c.deref_mut.result.now = c.run_workers.auto.workers in
    all_done_within c.in-Ok.shared _ c.in_ok-workers.workers.items _ _ _ d.value same (same ∙ d.len) c.in_ok-workers.ensures.own c.run_workers.ensures

pub unreachable-requires : goal.unreachable-requires
unreachable-requires g c =
    let j = c.join_all-all.ensures in
    let m = c.close-machine.ensures in
    let e = nothing_follows c.close-machine.result c.join_all-all.result.setup c.join_all-all.result.seen (m.setup ∙ sym j.own.1) j.end m.begins c.steps-run.ensures.run in
    ends_once c.close-machine.result (subst (λ (o : Option End). EndsAs c.close-machine.result o) c.in_default-end.is c.end.ensures) e

pub close-machine-requires-clause-all : goal.close-machine-requires-clause-all
close-machine-requires-clause-all g c =
    omega (arith, c.join_all-all.ensures.tokens, c.in_ok-workers.ensures.count, c.in-Ok.ensures.passes, c.from.ensures)
