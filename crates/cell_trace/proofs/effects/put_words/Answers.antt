use Rattle.cell_base.specs.Records.{step_line}
use Rattle.cell_trace.specs.Effects.{step_words}
use Rattle.cell_trace.proofs.Lemmas.{popped, line_some}
use Rattle.cell_trace.proofs.effects.put_words.Goals as goal

pub returns : goal.returns
unfolding step_words
returns c = popped c.args.out.now.items (step_line c.args.step) c.put_step.new.out.items c.pop.new.self.items _ c.in_ok-put_step.ensures c.put_step.new.out.ok.0 c.pop.ensures.rest (line_some c.args.step)
