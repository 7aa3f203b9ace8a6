use Rattle.std.proofs.Common.{◌≡◌, ◌<◌, ◌≤◌, length, get_or, subst, arith}
use Rattle.reorder_laws.specs.OrderedLaws.{IsOrdered}
use Rattle.run_permute.proofs.Ends.{end-from}
use Rattle.run_permute.proofs.chain.search_end.Goals as goal

pub returns : goal.returns
returns g c =
    let meet : c.loop-low.low ≤ c.loop-low.high = c.loop-low.invariant.meet in
    let over : c.loop-low.high ≤ c.loop-low.low = c.loop-low-test.false in
    let within : c.loop-low.high ≤ length c.args.chain.now = c.loop-low.invariant.within in
    let e : c.loop-low.high ≡ c.loop-low.low = omega arith in
    end-from g.here.run g.here.place c.args.chain.now c.loop-low.low c.requires.1.0 (omega arith) (subst (λ x. x < length c.args.chain.now → IsOrdered g.here.run (get_or c.args.chain.now x 0) g.here.place → ⊥) e c.loop-low.invariant.after) c.loop-low.invariant.before
