use Rattle.std.proofs.Common.{◌≡◌, ◌-◌, ◌<◌, ◌++◌, ◌∷◌, [], length, subst, arith}
use Rattle.std.proofs.lemmas.List.{get_or_default}
use Rattle.run_permute.specs.Tracks.{IsBounded}
use Rattle.run_permute.specs.declared.block.Block.{Block}
use Rattle.run_permute.proofs.Added.{put-at}
use Rattle.run_permute.proofs.track.put_last.Goals as goal

pub returns-clause-put : goal.returns-clause-put
returns-clause-put c =
    let blocks = c.args.blocks.now in
    let last = length blocks - 1 in
    let new = c.push.new.self in
    let some : 0 < length blocks = c.requires in
    let low : last < length blocks = omega (arith, some) in
    let was = get_or_default blocks last c.index-blocks-last.result new low in
    put-at blocks last c.args.strand new low (omega arith) (subst (λ (b : Block). new.strands.items ≡ b.strands.items ++ c.args.strand ∷ []) was c.in_ok-push.ensures.strands) (subst (λ (b : Block). IsBounded b → IsBounded new) was c.in_ok-push.ensures.bounded)
