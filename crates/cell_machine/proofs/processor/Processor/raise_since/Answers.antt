use Rattle.std.proofs.Common.{◌&&◌, ap₂, ◌∙◌, subst}
use Rattle.std.specs.Prelude.{not, if◌then◌else◌}
use Rattle.cell_machine.specs.Raised.{with_raised}
use Rattle.cell_machine.specs.declared.events.Load.{Load}
use Rattle.cell_machine.specs.Shows.{ShowsSpe}
use Rattle.cell_machine.specs.OwnEvents.{with_freed}
use Rattle.cell_machine.proofs.processor.Processor.raise_since.Goals as goal

pub returns : goal.returns
returns c = λ P Q was shows.
    let now = c.load-now.ensures Q shows in
    let first = subst (λ b. ShowsSpe c.raise_if.new.self (with_raised Q (if b then 0x8 else 0)))
    (c.ceases.ensures ∙ ap₂ (λ (a b : Load). a.is_full && not b.is_full) was now) (c.raise_if.ensures Q shows) in
    subst (λ b. ShowsSpe c.raise_if-2.new.self (with_raised (with_freed P Q) (if b then 0x2 else 0)))
    (c.begins.ensures ∙ ap₂ (λ (a b : Load). not a.has_stall && b.has_stall) was now) (c.raise_if-2.ensures (with_freed P Q) first)
