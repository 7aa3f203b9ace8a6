use Rattle.cell_base.specs.Bytes.{zeros}
use Rattle.spu_regs.specs.Registers.{zero_registers}
use Rattle.spu_regs.proofs.Regs.new.Goals as goal

pub returns : goal.returns
unfolding zero_registers zeros
returns c = rw c.of_bytes.ensures at (c.in_ok-quads.ensures.items_if_clones_equal (λ y same. same))
