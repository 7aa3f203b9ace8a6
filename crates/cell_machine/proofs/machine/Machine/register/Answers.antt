use Rattle.std.proofs.Common.{sym, ap, ◌∙◌}
use Rattle.spu_regs.specs.Registers.{register}
use Rattle.cell_machine.proofs.Replays.{machine-spe}
use Rattle.cell_machine.proofs.machine.Machine.register.Goals as goal

pub returns : goal.returns
returns c = machine-spe _ _ _ _ _ c.args.spe _ _ c.self.invariant.0 c.self.view_is c.requires.spe c.index-processor.ensures (λ P shows.
    ap (λ xs. register xs c.args.r) shows.registers ∙ sym c.get.ensures.value)
