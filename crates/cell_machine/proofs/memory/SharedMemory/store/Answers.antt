use Rattle.std.proofs.Common.{◌/◌, ◌<◌, arith}
use Rattle.lock_lines.specs.Stands.{line_count}
use Rattle.cell_machine.proofs.MemoryShown.{store-shows}
use Rattle.cell_machine.proofs.Losing.{store-loses}
use Rattle.cell_machine.proofs.memory.SharedMemory.store.Goals as goal

pub returns-clause-shows : goal.returns-clause-shows
returns-clause-shows c = λ m reserved shows. store-shows c.args.self.now _ m reserved c.args.at c.args.bytes.now c.copy_in.ensures.bytes c.touched.ensures.versions shows

pub returns-clause-losers : goal.returns-clause-losers
returns-clause-losers c = λ m reserved shows.
    let within : c.args.at / 128 < line_count c.args.self.now.locks =
    let long = c.args.self.now.even in let some = c.requires.some in let there = c.requires.there in omega arith in
    store-loses c.args.self.now m reserved c.args.at c.holders-losers.result c.args.bytes.now c.holders-losers.ensures.versions within shows
