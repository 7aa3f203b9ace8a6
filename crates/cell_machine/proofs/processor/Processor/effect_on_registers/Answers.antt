use Rattle.std.proofs.Common.{refl, sym, ◌∙◌, ap, Some}
use Rattle.spu_decode.specs.Spelling.{instr_of}
use Rattle.cell_machine.specs.declared.effect.Reach.TheVariants.{Registers}
use Rattle.cell_machine.proofs.InstructionEffects.{instr_is}
use Rattle.cell_machine.proofs.Reaching.{instr-reached, registers-effect, registers≢other}
use Rattle.cell_machine.proofs.processor.Processor.effect_on_registers.Goals as goal

pub returns : goal.returns
returns c = λ lines P shows allowed.
    let here = instr-reached (instr_of c.args.word) Registers c.requires.reach registers≢other in
    let row = c.requires.fits here.0 here.1 in
    registers-effect lines c.args.spe c.args.self.now P here.0 c.in_store.result c.nowhere.result c.nowhere-2.result c.fixes.result shows allowed
    (instr_is c.args.self.now P (Some here.0) shows (ap instr_of (sym c.requires.word) ∙ here.1))
    (λ pc a b t. row.goes here.0 pc a b t registers≢other) (λ imm pc a b. row.registers imm pc a b refl)
    c.in_store.ensures c.nowhere.ensures c.nowhere-2.ensures (c.fixes.ensures P shows)
