use Rattle.trace_commands.proofs.TellLaws.{on_ok, standing}
use Rattle.trace_commands.proofs.telling.put_standing.Goals as goal

pub returns : goal.returns
returns c = on_ok c.put_flows.result _ _ (standing c.args.machine.now c.args.out.now.items c.put_states.new.out.items c.put_flows.new.out.items c.in_ok-put_states.ensures) c.put_flows.ensures
