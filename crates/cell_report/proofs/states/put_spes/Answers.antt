use Rattle.std.proofs.Common.{arith, refl, ap, length}
use Rattle.cell_machine.specs.Opening.{Opening}
use Rattle.cell_report.proofs.Texts.{spe_there, spes_one, spes_none, some_of}
use Rattle.cell_report.proofs.states.put_spes.Goals as goal

pub loop-p-init : goal.loop-p-init
loop-p-init c = record { text = λ M at. refl; short = omega arith }

pub loop-p-preserved : goal.loop-p-preserved
loop-p-preserved c = record {
  text = λ M at.
      let here = spe_there _ c.loop-p.p _ M at c.in_ok-put_lines.ensures.text in
      rw here.2 (spes_one c.loop-p.out.items _ c.loop-p.p c.loop-p.p here.0 M.spes here.1 (c.loop-p.invariant.text M at));
  short = let so_far = c.loop-p.invariant.short in let grew = c.in_ok-put_lines.ensures.short in omega (arith, so_far, grew);
}

pub returns-clause-text : goal.returns-clause-text
returns-clause-text c = some_of _ _ _ (λ M at count. spes_none c.loop-p.out.items _ c.loop-p.p c.loop-p.p M.spes (let same = ap (λ (S : Opening). length S.entries) c.setup.ensures.setup in omega (arith, count)) (c.loop-p.invariant.text M at)) c.setup.ensures.count
