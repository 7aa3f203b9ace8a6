use Rattle.std.proofs.Common.{◌+◌, ◌∙◌, ap, ap₂, not}
use Rattle.std.specs.Prelude.{if◌then◌else◌}
use Rattle.cell_machine.proofs.progress.Progress.new.Goals as goal

pub returns-clause-others : goal.returns-clause-others
returns-clause-others c = λ m k d is moved.
    ap₂ (λ a b. a + b) (c.one_if-element.ensures.count ∙ ap (λ b. if b then 1 else 0) (c.has_next.ensures m k d is))
    (c.one_if-retirement.ensures.count ∙ ap (λ b. if not b then 1 else 0) moved)
