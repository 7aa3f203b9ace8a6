use Rattle.std.proofs.Common.{refl, inr}
use Rattle.run_permute.specs.Tracks.{places}
use Rattle.run_permute.proofs.Entries.{at-in}
use Rattle.run_permute.proofs.strand.Strand.close.Goals as goal

pub returns-then-is_behind : goal.returns-then-is_behind
returns-then-is_behind g c =
    let end = c.is_behind.ensures c.if-is_behind.true in
    record {
      rest = refl;
      until = inr (refl, λ i h. (let r = at-in (places c.args.self.now) i h in end.before r.0 i r.1 r.2));
    }
