use Rattle.std.proofs.Common.{◌+◌, ◌-◌, ◌≤◌, length, arith, rules}
use Rattle.main_memory.proofs.PageLaws.{read_more}
use Rattle.main_memory.proofs.Memory.read_pages.Goals as goal

pub loop-done-preserved : goal.loop-done-preserved
loop-done-preserved c =
    let done = c.loop-done.done in
    let count = c.min-count.result in
    let into = c.loop-done.into in
    let low : done + count ≤ length into = omega arith in
    record {
      within = search rules;
      copied = read_more c.args.self.now into c.read.new.into c.args.at done count (done + count - done) low (omega arith) c.loop-done.invariant.copied c.read.ensures;
    }
