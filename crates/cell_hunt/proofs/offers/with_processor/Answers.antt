use Rattle.cell_hunt.specs.Choices.{key_of}
use Rattle.cell_hunt.proofs.Bests.{processor-all}
use Rattle.cell_hunt.proofs.offers.with_processor.Goals as goal

pub returns : goal.returns
returns c = λ steps so_far.
    processor-all (key_of c.args.machine.now c.args.strategy c.args.keys.now) c.args.machine.now c.args.word c.args.spe steps c.with_queue.result
    (c.with_queue.ensures _ (c.with_atomic-best.ensures _ (c.with_instruction-best.ensures steps so_far)))
