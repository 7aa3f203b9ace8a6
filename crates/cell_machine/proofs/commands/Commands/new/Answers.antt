use Rattle.std.proofs.Common.{[], arith}
use Rattle.cell_machine.proofs.MovesShown.{no_calls, get-within}
use Rattle.cell_machine.proofs.commands.Commands.new.Goals as goal

pub returns : goal.returns
returns c = record { calls = []; stands = c.new.ensures; moves = no_calls; kept = λ d place x at. absurd (let l = get-within [] d x at in omega arith) }
