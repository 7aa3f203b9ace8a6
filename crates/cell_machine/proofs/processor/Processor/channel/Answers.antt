use Rattle.std.proofs.Common.{true}
use Rattle.cell_base.specs.declared.steps.ChannelOp.TheVariants.{Read, Count}
use Rattle.cell_machine.specs.Channels.{channel}
use Rattle.cell_machine.proofs.Freed.{kept-shows, read-kept, count-kept}
use Rattle.cell_machine.proofs.processor.Processor.channel.Goals as goal

pub returns-in-Read-clause-made : goal.returns-in-Read-clause-made
returns-in-Read-clause-made c = λ P shows. rw c.in-Read.is
    (kept-shows _ P (channel c.args.lines P (Read c.in-Read.rt c.in-Read.ch)) _ (read-kept c.args.lines P c.in-Read.rt c.in-Read.ch) (c.read_channel.ensures.made c.args.lines P shows))

pub returns-in-Count-clause-made : goal.returns-in-Count-clause-made
returns-in-Count-clause-made c = λ P shows. rw c.in-Count.is
    (kept-shows _ P (channel c.args.lines P (Count c.in-Count.rt c.in-Count.ch)) true (count-kept c.args.lines P c.in-Count.rt c.in-Count.ch) (c.count_channel.ensures c.args.lines P shows))
