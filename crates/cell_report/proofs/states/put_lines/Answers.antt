use Rattle.cell_report.proofs.Texts.{spe_written}
use Rattle.cell_report.proofs.states.put_lines.Goals as goal

pub returns-clause-text : goal.returns-clause-text
returns-clause-text c = spe_written c.put_registers.result _ c.registers.result.now c.args.out.now.items c.put_spe.new.out.items _ c.args.p c.in_ok-put_spe.ensures.text c.registers.ensures.all c.put_registers.ensures.text
