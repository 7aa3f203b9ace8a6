use Rattle.std.proofs.Common.{sym, ◌∙◌, ap, true≢false}
use Rattle.std.specs.Prelude.{is_some}
use Rattle.cell_machine.proofs.Execs.{none_there}
use Rattle.cell_machine.proofs.effects.other_effect.Goals as goal

pub unreachable-requires : goal.unreachable-requires
unreachable-requires c =
    let allowed = c.requires.allowed in
    let none = none_there c.effect_of.result c.in_default.not-Some in
    absurd (true≢false (sym allowed.2 ∙ ap is_some (sym (c.effect_of.ensures allowed.0 allowed.1) ∙ none)))

pub returns : goal.returns
returns c = λ M shows. sym c.in-Some.is ∙ c.effect_of.ensures M shows
