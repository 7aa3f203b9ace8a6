use Rattle.std.proofs.Common.{◌≡◌, length}
use Rattle.run_permute.specs.SettledLists.{Each}
use Rattle.run_permute.specs.Walks.{Here}
use Rattle.run_permute.specs.Tracks.{IsTrack}
use Rattle.run_permute.proofs.tracks.no_tracks.Given as goal

abbrev pub invariant-loop : goal.invariant-loop
invariant-loop l = record { many : length l.tracks.items ≡ l.counter; each : (h : Here) → Each (IsTrack h.run h.place) l.tracks.items }
