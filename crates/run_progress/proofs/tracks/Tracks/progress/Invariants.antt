use Rattle.std.proofs.Common.{◌≡◌, map}
use Rattle.std.specs.List.{range_with_len}
use Rattle.run_progress.specs.Made.{made_of}
use Rattle.run_progress.specs.Progress.{spe_progress}
use Rattle.run_progress.proofs.tracks.Tracks.progress.Given as goal

abbrev pub ghost-spe_progress : goal.ghost-spe_progress
ghost-spe_progress g a = g.m

abbrev pub invariant-loop-spe : goal.invariant-loop-spe
invariant-loop-spe g l = l.spes.items ≡ map (spe_progress (made_of g.m)) (range_with_len 0 l.spe)
