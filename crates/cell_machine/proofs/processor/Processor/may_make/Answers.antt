use Rattle.std.proofs.Common.{refl, sym, ◌∙◌}
use Rattle.cell_machine.proofs.Execs.{may-operate, may-go_on}
use Rattle.cell_machine.proofs.processor.Processor.may_make.Goals as goal

pub returns-in-Some : goal.returns-in-Some
returns-in-Some c = λ lines P shows running there.
    may-operate lines c.args.self.now P c.args.instruction c.in-Some.op _ shows running there (sym c.in-Some.is ∙ c.operation.ensures c.args.self.now.pc c.args.self.now.store) c.is_ready.ensures

pub returns-in-None : goal.returns-in-None
returns-in-None c = λ lines P shows running there.
    may-go_on lines c.args.self.now P c.args.instruction shows running there (sym c.in-None.is ∙ c.operation.ensures c.args.self.now.pc c.args.self.now.store)

pub returns-then-not-may_operate : goal.returns-then-not-may_operate
returns-then-not-may_operate c = λ lines P shows running there.
    may-go_on lines c.args.self.now P c.args.instruction shows running there
    (sym (c.may_operate.ensures c.args.instruction c.args.self.now.pc c.args.self.now.registers c.args.self.now.store refl c.if-not-may_operate.true))
