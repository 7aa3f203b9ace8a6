use Rattle.std.proofs.Common.{refl, subst}
use Rattle.std.proofs.lemmas.List.{get_or_default}
use Rattle.run_permute.specs.Tracks.{IsLonger}
use Rattle.run_permute.specs.declared.strand.Strand.{Strand}
use Rattle.run_permute.proofs.block.extend_at.Goals as goal

pub returns-clause-longer : goal.returns-clause-longer
returns-clause-longer g c =
    let strands = c.args.strands.now in
    let d = c.index-strands-index.result in
    let new = c.extend.new.self in
    let low = c.requires.1.within in
    record {
      index = c.args.index;
      entry = new;
      within = low;
      changed = subst (λ (s : Strand). IsLonger g.here.run g.here.place s new) (get_or_default strands c.args.index d new low) c.in_ok-extend.ensures;
      is = refl;
    }
