use Rattle.cell_machine.proofs.InstructionEffects.{bad_word-effect, instr_shown}
use Rattle.cell_machine.proofs.processor.Processor.bad_word_effect.Goals as goal

pub returns : goal.returns
returns c = λ lines P shows allowed none.
    bad_word-effect lines c.args.spe c.args.self.now P _ _ _ _ shows allowed (instr_shown c.args.self.now P _ shows none) c.in_store.ensures c.nowhere.ensures c.nowhere-2.ensures (c.fixes.ensures P shows)
