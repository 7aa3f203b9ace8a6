use Rattle.std.proofs.Common.{◌<◌, length, set, sym, ap, ◌∙◌, subst}
use Rattle.std.specs.Prelude.{slice_index}
use Rattle.cell_hunt.specs.Origins.{commands_of}
use Rattle.cell_hunt.proofs.Kept.{command-left, commands-at, commands-here}
use Rattle.cell_hunt.proofs.origins.Origins.set_command.Goals as goal

pub returns-clause-here : goal.returns-clause-here
returns-clause-here c =
    let i = c.from.result in
    let lists = c.grow.new.self.commands.items in
    let low : i < length lists = subst (λ n. n < length lists) (sym c.from.ensures) c.in_ok-grow.ensures.there in
    ap (λ p. slice_index (commands_of (set lists i c.put.new.numbers) p) c.args.number) (sym c.from.ensures)
    ∙ ap (λ xs. slice_index xs c.args.number) (commands-here lists i c.put.new.numbers low)
    ∙ c.in_ok-put.ensures.here

pub returns-clause-left : goal.returns-clause-left
returns-clause-left c = λ p k other.
    (let i = c.from.result in
    let lists = c.grow.new.self.commands.items in
    let low : i < length lists = subst (λ n. n < length lists) (sym c.from.ensures) c.in_ok-grow.ensures.there in
    command-left lists i c.args.number c.index_mut.result.now c.put.new.numbers low (commands-at lists i c.index_mut.result.now low c.index_mut.ensures.value) c.in_ok-put.ensures.left p k (λ e. other (e.0 ∙ c.from.ensures, e.1))
    ∙ ap (λ xs. slice_index xs k) (c.in_ok-grow.ensures.same p))
