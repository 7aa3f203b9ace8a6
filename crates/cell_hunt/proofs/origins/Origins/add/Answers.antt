use Rattle.std.proofs.Common.{[], ◌∷◌, ◌++◌, refl, ap, ◌∙◌}
use Rattle.cell_hunt.specs.declared.origins.Origins.{Origins}
use Rattle.cell_hunt.proofs.Knowing.{knows-more}
use Rattle.cell_hunt.proofs.origins.Origins.add.Goals as goal

pub returns : goal.returns
returns c =
    let after : Origins = record c.pass.new.self { steps = c.push.new.self } in
    knows-more c.args.machine.now c.args.step c.args.effect.now c.origin-at.result c.args.self.now c.pass.new.self c.requires.knows c.requires.effect c.origin-at.ensures.pc c.origin-at.ensures.action c.origin-at.ensures.issued
    c.in_ok-pass.ensures.issued after (c.in_ok-push.ensures.items ∙ ap (λ xs. xs.items ++ c.origin-at.result ∷ []) c.in_ok-pass.ensures.steps) c.in_ok-pass.ensures.actions refl refl
