use Rattle.std.proofs.Common.{sym, ◌∙◌, ap, None}
use Rattle.spu_decode.specs.Spelling.{instr_of}
use Rattle.cell_machine.specs.Effects.{quad_in}
use Rattle.cell_machine.proofs.Execs.{none_there}
use Rattle.cell_machine.proofs.InstructionEffects.{instr_is, instruction-effect}
use Rattle.cell_machine.proofs.processor.Processor.effect_beyond.Goals as goal

pub returns-in_default : goal.returns-in_default
returns-in_default c = λ P shows allowed.
    c.bad_word_effect.ensures c.args.lines P shows allowed
    (instr_is c.args.self.now P None shows (ap instr_of (sym c.requires.word) ∙ sym c.decode.ensures.means ∙ none_there c.decode.result c.in_default.not-Some))

pub returns : goal.returns
returns c = λ P shows allowed.
    instruction-effect c.args.lines c.args.spe c.args.self.now P c.in-Some.instruction c.leads_to-flow.result _ _ _ _ _ shows allowed
    (ap instr_of (sym c.requires.word) ∙ sym c.decode.ensures.means ∙ c.in-Some.is)
    c.leads_to-flow.ensures.flow c.in_store.ensures
    (c.quad_in.ensures ∙ ap (quad_in c.args.spe) c.loads_at.ensures) (c.quad_in-2.ensures ∙ ap (quad_in c.args.spe) c.stores_at.ensures)
    (λ Q registers store runs made. c.tells.ensures P Q registers store shows runs made)
    (λ Q registers store made. c.fixes_by.ensures P Q registers store shows made)
