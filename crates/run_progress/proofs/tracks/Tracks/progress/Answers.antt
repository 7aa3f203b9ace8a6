use Rattle.std.proofs.Common.{rules, ◌≡◌, [], ◌∷◌, ◌++◌, map, sym, ap, ◌∙◌, arith}
use Rattle.std.specs.List.{range_with_len}
use Rattle.std.proofs.lemmas.List.FromFn.{map-range_with_len_more}
use Rattle.run_progress.specs.Made.{made_of}
use Rattle.run_progress.specs.Progress.{spe_progress}
use Rattle.run_progress.proofs.tracks.Tracks.progress.Goals as goal

pub loop-spe-preserved : goal.loop-spe-preserved
loop-spe-preserved g c =
    let more : c.push.new.self.items ≡ c.loop-spe.spes.items ++ c.spe_progress.result ∷ [] = search rules in
    more
    ∙ ap (λ xs. xs ++ c.spe_progress.result ∷ []) c.loop-spe.invariant
    ∙ ap (λ x. map (spe_progress (made_of g.m)) (range_with_len 0 c.loop-spe.spe) ++ x ∷ []) c.spe_progress.ensures
    ∙ sym (map-range_with_len_more (spe_progress (made_of g.m)) 0 c.loop-spe.spe c.loop-spe.spe (omega arith))
