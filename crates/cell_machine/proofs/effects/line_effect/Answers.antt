use Rattle.std.proofs.Common.{true, sym, ◌∙◌, ap}
use Rattle.cell_machine.specs.Effects.{copy_effect}
use Rattle.cell_machine.proofs.MemoryShown.{held-is, versions_of}
use Rattle.cell_machine.proofs.StepEffects.{line-stored, line-lost}
use Rattle.cell_machine.proofs.effects.line_effect.Goals as goal

pub returns-then-held : goal.returns-then-held
returns-then-held c = λ P Q m reserved shows at fixed.
    c.copying-then-held.ensures Q fixed ∙ ap (λ x. copy_effect c.args.spe true x Q) c.line_part-then-held.ensures
    ∙ line-stored c.args.spe m P Q c.args.a c.in-PutCond.is (sym (held-is m reserved P c.args.spe c.args.a.line at) ∙ sym (c.held.ensures.versions (versions_of m reserved) shows.versions) ∙ c.if-held.true)

pub returns-else-held : goal.returns-else-held
returns-else-held c = λ P Q m reserved shows at fixed.
    c.looking.ensures
    ∙ line-lost c.args.spe m P Q c.args.a _ _ c.in-PutCond.is (sym (held-is m reserved P c.args.spe c.args.a.line at) ∙ sym (c.held.ensures.versions (versions_of m reserved) shows.versions) ∙ c.if-held.false) c.in_memory.ensures fixed
