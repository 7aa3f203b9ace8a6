use Rattle.std.proofs.Common.{sym, true≢false}
use Rattle.cell_machine.proofs.blocked.Blocked.wake.Goals as goal

pub returns-then-alone : goal.returns-then-alone
returns-then-alone c = λ before processors were but. c.tell.ensures before processors were (but c.if-alone.true) (λ d no. absurd (true≢false (sym no)))

pub returns-else-alone : goal.returns-else-alone
returns-else-alone c = λ before processors were but. c.forget.ensures processors
