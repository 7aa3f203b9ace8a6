use Rattle.trace_commands.proofs.TellLaws.{goes}
use Rattle.trace_commands.proofs.telling.going_text.Goals as goal

pub returns : goal.returns
returns c =
    goes c.args.numbers.now c.args.machine.now c.put_chosen.new.machine _ _ _ _ c.new-out.ensures.items c.in_ok-put_chosen.ensures.lines c.in_ok-put_chosen.ensures.chosen c.in_ok-put_standing.ensures c.in_ok-put_allowed.ensures
