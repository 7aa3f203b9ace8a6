use Rattle.std.proofs.Common.{◌≡◌, ◌+◌, ◌-◌, ◌<◌, ◌≤◌, true, false, sym, ap, ◌∙◌, arith, rules}
use Rattle.hunt_command.specs.Words.{most_made}
use Rattle.hunt_command.specs.Hunts.{ends_at, HasTaken}
use Rattle.hunt_command.proofs.HuntsLaws.{has_none, has_all, none_ends_yet, none_ends_next}
use Rattle.hunt_command.proofs.hunting.make_batches.Goals as goal

pub loop-left-init : goal.loop-left-init
loop-left-init g c = record {
  taken = has_none c.args.target.now c.args.hunt.now.seed c.args.hunt.now.from c.args.sums.now c.requires.none;
  below = omega arith;
  none = none_ends_yet c.args.target.now c.args.hunt.now.seed c.args.hunt.now.from c.args.hunt.now.runs;
}

pub loop-left-preserved : goal.loop-left-preserved
loop-left-preserved g c =
    let q = c.args.target.now in
    let h = c.args.hunt.now in
    let made = c.loop-left.made in
    let all = made + c.next_batch-batch.result.runs in
    let old = c.loop-left.invariant in
    let goes : ends_at h.runs made c.loop-left.sums.steps ≡ false = ap (λ s. ends_at h.runs made s) (sym c.steps.ensures) ∙ c.goes_on.ensures.more c.loop-left-test.true in
    let within : c.next_batch-batch.result.runs ≤ c.next_end.result - made = c.next_batch-batch.ensures.within in
    let after : made < c.next_end.result = c.next_end.ensures.after in
    let most : c.next_end.result ≤ most_made h.runs = c.next_end.ensures.within in
    let taken : HasTaken q h.seed h.from all c.make.new.arg6 = search rules in
    record {
      taken = taken;
      below = omega (arith, within, after, most);
      none = none_ends_next q h.seed h.from made all h.runs c.loop-left.sums old.taken old.none goes (λ n steps more less. c.next_end.ensures.next n steps more (omega (arith, less, within, after)));
    }

pub returns : goal.returns
returns g c =
    let h = c.args.hunt.now in
    let made = c.loop-left.made in
    let old = c.loop-left.invariant in
    has_all c.args.target.now h.seed h.from made h.runs _ c.loop-left.sums old.taken old.none (c.goes_on.ensures.some c.loop-left-test.false)
    (λ goes. ap (λ s. ends_at h.runs made s) (sym c.steps.ensures) ∙ c.goes_on.ensures.ended c.loop-left-test.false goes)
