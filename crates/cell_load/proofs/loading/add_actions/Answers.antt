use Rattle.std.proofs.Common.{◌≤◌, ◌+◌, ◌++◌, length, map, take, arith}
use Rattle.std.specs.List.{filter_map}
use Rattle.std.specs.Option.{option_to_list}
use Rattle.cell_machine.specs.Limits.{FitsAction}
use Rattle.cell_load.specs.Entries.{entry_of}
use Rattle.cell_load.specs.Loaded.{host_action}
use Rattle.cell_load.proofs.CutLemmas.{given_at}
use Rattle.cell_load.proofs.LoadLemmas.{given_few, given_more}
use Rattle.cell_load.proofs.SetupLemmas.{may_act, next_acted}
use Rattle.cell_load.proofs.loading.add_actions.Goals as goal

pub add_action-requires : goal.add_action-requires
add_action-requires c =
    let fits = given_at entry_of host_action (FitsAction c.args.setup.now.lines (length c.args.setup.now.entries)) c.args.lines.now c.loop-line.line-index c.line-item.result c.requires.fits (omega arith) in
    let more = given_more entry_of host_action c.args.lines.now c.loop-line.line-index c.line-item.result (omega arith) in
    let few : length (filter_map host_action (map entry_of (take c.loop-line.line-index c.args.lines.now)) ++ option_to_list (host_action (entry_of c.line-item.result))) ≤ length (filter_map host_action (map entry_of c.args.lines.now)) = rw (c.line-item.is) (rw more at (given_few entry_of host_action c.args.lines.now (c.loop-line.line-index + 1))) in
    may_act c.args.setup.now c.loop-line.setup _ _ _ c.loop-line.invariant few c.requires.room (rw (← c.line-item.is) at fits)

pub loop-line-preserved : goal.loop-line-preserved
loop-line-preserved c =
    let more = given_more entry_of host_action c.args.lines.now c.loop-line.line-index c.line-item.result (omega arith) in
    next_acted c.args.setup.now c.loop-line.setup _ (filter_map host_action (map entry_of (take c.loop-line.line-index c.args.lines.now))) _ _ c.loop-line.invariant c.in_ok-add_action.ensures (rw (← c.line-item.is) at more)
