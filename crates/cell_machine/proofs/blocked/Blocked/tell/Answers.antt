use Rattle.std.proofs.Common.{sym, true≢false, ◌∙◌}
use Rattle.cell_machine.proofs.Marks.{told, set-other, clear-other, clear-same}
use Rattle.cell_machine.proofs.blocked.Blocked.tell.Goals as goal

pub returns-then-is_blocked : goal.returns-then-is_blocked
returns-then-is_blocked c = λ before processors were but tells.
    told c.args.self.now _ c.args.spe before processors (λ p marked apart. set-other c.args.self.now.bits c.args.spe p c.requires marked apart) were but (λ d marked at. tells d c.if-is_blocked.true at)

pub returns-else-is_blocked : goal.returns-else-is_blocked
returns-else-is_blocked c = λ before processors were but tells.
    told c.args.self.now _ c.args.spe before processors (λ p marked apart. clear-other c.args.self.now.bits c.args.spe p marked) were but
    (λ d marked at. absurd (true≢false (sym marked ∙ clear-same c.args.self.now.bits c.args.spe c.requires)))
