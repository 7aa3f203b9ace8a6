use Rattle.race_check.proofs.CrowdLaws.{trimmed_twice}
use Rattle.race_check.proofs.crowds.trim.Goals as goal

pub loop-i-preserved : goal.loop-i-preserved
loop-i-preserved c = record {
  trimmed = trimmed_twice c.args.new.now c.args.crowds.now.items c.loop-i.crowds.items c.trim_at.new.crowds.items c.loop-i.invariant.trimmed c.in_ok-trim_at.ensures.trimmed;
  long = c.in_ok-trim_at.ensures.long;
}
