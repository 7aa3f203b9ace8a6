use Rattle.std.proofs.Common.{◌+◌, ◌≤◌, ◌∙◌, length, arith}
use Rattle.main_memory.proofs.PageLaws.{write_more}
use Rattle.main_memory.proofs.Memory.write_pages.Goals as goal

pub loop-done-preserved : goal.loop-done-preserved
loop-done-preserved c =
    let done = c.loop-done.done in
    let count = c.min-count.result in
    let low : done + count ≤ length c.args.from.now = omega arith in
    record {
      within = low;
      written = write_more c.args.self.now c.loop-done.self c.write.new.self c.args.from.now c.args.at done count low c.requires.within c.loop-done.invariant.written c.write.ensures.bytes;
      same = c.write.ensures.count ∙ c.loop-done.invariant.same;
    }
