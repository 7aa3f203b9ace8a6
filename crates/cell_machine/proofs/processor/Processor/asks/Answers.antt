use Rattle.std.proofs.Common.{sym, ◌∙◌, ap}
use Rattle.std.specs.Prelude.{Some, None}
use Rattle.spu_decode.specs.Spelling.{instr_of}
use Rattle.cell_machine.proofs.Asking.{asks-shown}
use Rattle.cell_machine.proofs.processor.Processor.asks.Goals as goal

pub returns-in-Some : goal.returns-in-Some
returns-in-Some c = λ P shows.
    c.operation.ensures c.args.self.now.pc c.args.self.now.store
    ∙ sym (asks-shown c.args.self.now P (Some c.in-Some.instruction) shows (ap instr_of (sym c.word.ensures) ∙ sym c.decode.ensures.means ∙ c.in-Some.is))

pub returns-in-None : goal.returns-in-None
returns-in-None c = λ P shows. sym (asks-shown c.args.self.now P None shows (ap instr_of (sym c.word.ensures) ∙ sym c.decode.ensures.means ∙ c.in-None.is))
