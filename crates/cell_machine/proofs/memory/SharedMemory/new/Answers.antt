use Rattle.std.proofs.Common.{sym}
use Rattle.cell_machine.proofs.MemoryShown.{starts-shows}
use Rattle.cell_machine.proofs.memory.SharedMemory.new.Goals as goal

pub returns-clause-shows : goal.returns-clause-shows
returns-clause-shows c = starts-shows _ _ c.args.lines c.args.spes (sym c.in_ok-bytes.ensures.filled) c.in_ok-locks.ensures.versions
