use Rattle.std.proofs.Common.{◌≡◌, length, arith, ap, sym, subst, ◌∙◌}
use Rattle.cell_machine.specs.Opening.{Opening}
use Rattle.cell_machine.specs.Limits.{shown, shown_memory, IsOpening}
use Rattle.cell_host.specs.Script.{opening as opening_host}
use Rattle.cell_machine.proofs.Openings.{fits-shown, fits-memory, memory-new, machine-new}
use Rattle.cell_machine.proofs.machine.Machine.new.Goals as goal

pub opening_processors-requires-clause-fits : goal.opening_processors-requires-clause-fits
opening_processors-requires-clause-fits c = rw c.deref-2.ensures.value (fits-shown _ _ c.setup.invariant.placed)

pub new-requires-clause-fits : goal.new-requires-clause-fits
new-requires-clause-fits c = rw c.deref-3.ensures.value (fits-memory _ _ c.setup.invariant.memory)

pub invariant_of-result : goal.invariant_of-result
invariant_of-result c =
    let budget : c.setup.inside.budget ≡ c.args.setup.budget = ap (λ (S : Opening). S.budget) c.setup.view_is in
    let lines : c.args.setup.lines ≡ c.setup.inside.lines = ap (λ (S : Opening). S.lines) (sym c.setup.view_is) in
    let spes : length c.args.setup.entries ≡ c.len-spes.result = ap (λ (S : Opening). length S.entries) (sym c.setup.view_is) ∙ (let e = c.len-spes.ensures in omega arith) in (
      machine-new c.args.setup _ _ _ _ _ (subst IsOpening c.setup.view_is c.setup.invariant) c.requires
          (c.in_ok-processors.ensures c.args.setup
          (ap (λ (S : Opening). S.entries) (sym c.setup.view_is) ∙ sym c.deref.ensures.value)
          (ap (λ (S : Opening). S.or_modes) (sym c.setup.view_is))
          (ap (λ (S : Opening). S.placed) (sym c.setup.view_is) ∙ ap shown (sym c.deref-2.ensures.value)))
          (memory-new c.args.setup _ c.setup.inside.lines c.len-spes.result c.deref-3.result.now lines
          (ap (λ (S : Opening). S.memory) (sym c.setup.view_is) ∙ ap shown_memory (sym c.deref-3.ensures.value)) spes c.in_ok-memory.ensures.shows)
          (c.in_ok-memory.ensures.size.0 ∙ sym lines, c.in_ok-memory.ensures.size.1 ∙ sym spes)
          (ap (λ (S : Opening). opening_host S.actions) (sym c.setup.view_is) ∙ ap opening_host (sym c.deref-4.ensures.value) ∙ sym c.in_ok-host.ensures)
          c.in_ok-steps.ensures.items (let room = c.in_ok-steps.ensures.exact in omega arith),
      c.new-blocked.ensures _,
    )
