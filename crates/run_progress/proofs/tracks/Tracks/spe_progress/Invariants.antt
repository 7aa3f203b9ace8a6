use Rattle.run_progress.specs.Made.{made_of}
use Rattle.run_progress.proofs.tracks.Tracks.spe_progress.Given as goal

abbrev pub ghost-poll_of : goal.ghost-poll_of
ghost-poll_of g a = made_of g.m
