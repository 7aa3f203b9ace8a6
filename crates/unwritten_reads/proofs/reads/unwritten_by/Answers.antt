use Rattle.std.proofs.Common.{arith, ◌-◌, ◌*◌, ◌<◌, subst}
use Rattle.std.specs.Prelude.{Some, false}
use Rattle.unwritten_reads.specs.Marks.{HasMarked, IsFirst, is_marked}
use Rattle.unwritten_reads.proofs.Finding.{read-loads, in-span}
use Rattle.unwritten_reads.proofs.reads.unwritten_by.Goals as goal

pub returns-then-loads_known : goal.returns-then-loads_known
returns-then-loads_known c =
    let known = c.args.known.now in
    let loads = c.loads_known.ensures.yes c.if-loads_known.true in
    read-loads known c.args.step c.args.span.now c.args.place c.in-Local.spe c.in-Local.is loads.0 (subst (HasMarked known.marks) c.range_in-range.ensures loads.1)

pub overflow_cast-result : goal.overflow_cast-result
overflow_cast-result c =
    let known = c.args.known.now in
    let span = c.args.span.now in
    let spe = c.in-Local.spe in
    let first = c.in_ok-first.first in
    let is = subst (λ r. IsFirst (is_marked known.marks) false r (Some first)) c.range_in-range.ensures c.in_ok-first.ensures in
    let low : first - 262144 * spe < 262144 = (c.requires spe (first - 262144 * spe) (in-span known c.args.step span c.args.place spe c.in-Local.is first is)).1 in
    let start = c.start_of.ensures in
    omega (arith, low, start)
