use Rattle.std.proofs.Common.{refl, subst}
use Rattle.std.proofs.lemmas.List.{get_or_default}
use Rattle.run_permute.specs.Tracks.{IsBlockLonger}
use Rattle.run_permute.specs.declared.block.Block.{Block}
use Rattle.run_permute.proofs.track.extend_at.Goals as goal

pub returns-clause-longer : goal.returns-clause-longer
returns-clause-longer g c =
    let blocks = c.args.blocks.now in
    let d = c.index-blocks-at.result in
    let new = c.extend.new.self in
    let low = c.requires.1.within in
    record {
      index = c.args.at.block;
      entry = new;
      within = low;
      changed = subst (λ (b : Block). IsBlockLonger g.here.run g.here.place b new) (get_or_default blocks c.args.at.block d new low) c.in_ok-extend.ensures;
      is = refl;
    }
