use Rattle.std.proofs.Common.{arith, length, ◌≤◌}
use Rattle.cell_report.proofs.Texts.{on_ok}
use Rattle.cell_report.proofs.Lengths.{host-short}
use Rattle.state_lines.proofs.Lengths.{grown}
use Rattle.cell_report.proofs.host.put_host.Goals as goal

pub returns-clause-short : goal.returns-clause-short
returns-clause-short c =
    let all : length c.actions.result.now ≤ 4096 = rw c.actions.ensures.actions c.actions.ensures.few in
    let line = grown c.args.out.now.items _ c.put_progress.new.out.items 30 c.in_ok-put_progress.ensures (host-short c.place.result (length c.actions.result.now) (omega arith) (omega (arith, all))) in
    let few = c.took.ensures.few in
    on_ok c.put_all_took.result _ _ (λ grew. omega (arith, line, few, grew)) c.put_all_took.ensures.short
