use Rattle.std.proofs.Common.{sym, ◌∙◌, ap, Some}
use Rattle.spu_decode.specs.Spelling.{instr_of}
use Rattle.cell_machine.specs.declared.effect.Reach.TheVariants.{Store}
use Rattle.cell_machine.specs.Effects.{quad_in}
use Rattle.cell_machine.proofs.InstructionEffects.{instr_is}
use Rattle.cell_machine.proofs.Reaching.{going-effect, instr-reached, store≢other}
use Rattle.cell_machine.proofs.processor.Processor.effect_on_store.Goals as goal

pub unreachable-requires : goal.unreachable-requires
unreachable-requires c =
    let here = instr-reached (instr_of c.args.word) Store c.requires.reach store≢other in
    absurd (c.in_default.not-Some here.0 (c.decode.ensures.means ∙ here.1))

pub returns : goal.returns
returns c = λ lines P shows allowed.
    let some = sym c.decode.ensures.means ∙ c.in-Some.is in
    let row = c.requires.fits c.in-Some.instruction some in
    going-effect lines c.args.spe c.args.self.now P c.in-Some.instruction c.in_store.result c.quad_in.result c.quad_in-2.result c.fixes.result shows allowed
    (instr_is c.args.self.now P (Some c.in-Some.instruction) shows (ap instr_of (sym c.requires.word) ∙ some))
    (λ pc a b t. row.goes c.in-Some.instruction pc a b t store≢other)
    c.in_store.ensures
    (c.quad_in.ensures ∙ ap (quad_in c.args.spe) c.loads_at.ensures) (c.quad_in-2.ensures ∙ ap (quad_in c.args.spe) c.stores_at.ensures)
    (c.fixes.ensures P shows)
