use Rattle.std.proofs.Common.{◌+◌, length, sym, ap, ◌∙◌, subst}
use Rattle.std.proofs.lemmas.List.{length_push}
use Rattle.run_permute.specs.SettledLists.{Each}
use Rattle.run_permute.specs.Walks.{Here}
use Rattle.run_permute.specs.Tracks.{IsTrack}
use Rattle.run_permute.proofs.Added.{tracks-none}
use Rattle.run_permute.proofs.SettledEntries.{each-end}
use Rattle.run_permute.proofs.tracks.no_tracks.Goals as goal

pub loop-preserved : goal.loop-preserved
loop-preserved c =
    record {
      many = ap length c.in_ok-push.ensures.items ∙ length_push c.loop.tracks.items c.new.result ∙ ap (λ n. n + 1) c.loop.invariant.many;
      each = λ h. subst (Each (IsTrack h.run h.place)) (sym c.in_ok-push.ensures.items) (each-end (IsTrack h.run h.place) c.loop.tracks.items c.new.result (c.loop.invariant.each h) (c.new.ensures h));
    }

pub returns-clause-tracks : goal.returns-clause-tracks
returns-clause-tracks c = λ h. tracks-none h.run c.loop.tracks.items (let start : Here = record { run = h.run; place = 0 } in c.loop.invariant.each start)
