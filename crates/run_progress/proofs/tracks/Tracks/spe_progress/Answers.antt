use Rattle.std.proofs.Common.{◌≡◌, ◌<◌, length, sym, ap, ◌∙◌, arith}
use Rattle.std.specs.Prelude.{Some, slice_get}
use Rattle.std.specs.Option.{option_map}
use Rattle.std.proofs.lemmas.Option.{slice_get-get_or}
use Rattle.run_progress.specs.Made.{made_of}
use Rattle.run_progress.specs.Progress.{poll_of, polled, range_of}
use Rattle.run_progress.proofs.Kept.{spe-is}
use Rattle.run_progress.proofs.tracks.Tracks.spe_progress.Goals as goal
use Rattle.run_progress.proofs.tracks.Tracks.spe_progress.Goals.{in-Some, in-None}

pub returns : goal.returns
returns g c =
    let run = made_of g.m in
    let t = c.args.self.now in
    let low : c.args.spe < length t.reads.items = omega (arith, c.requires.0, c.requires.1.spes_read) in
    let there : slice_get t.reads.items c.args.spe ≡ Some c.index.result.now = slice_get-get_or t.reads.items c.args.spe c.index.result.now low ∙ ap Some (sym c.index.ensures) in
    let is : c.index.result.now ≡ polled c.args.spe run = c.requires.1.reads c.args.spe c.index.result.now there in
    let low2 : c.args.spe < length t.recent.items = omega (arith, c.requires.0, c.requires.1.spes_recent) in
    let there2 : slice_get t.recent.items c.args.spe ≡ Some c.index-2.result.now = slice_get-get_or t.recent.items c.args.spe c.index-2.result.now low2 ∙ ap Some (sym c.index-2.ensures) in
    let polls : c.match-index.polled ≡ option_map (poll_of run) (polled c.args.spe run) = elim c.match-index.branch [
      | in-Some w ↦ w.polled-is ∙ ap Some w.poll_of.ensures ∙ ap (option_map (poll_of run)) (sym w.in-Some.is ∙ is)
      | in-None w ↦ w.polled-is ∙ ap (option_map (poll_of run)) (sym w.in-None.is ∙ is)
    ] in
    spe-is run c.args.spe c.range.result c.match-index.polled (c.range.ensures ∙ ap range_of (c.requires.1.recent c.args.spe c.index-2.result.now there2)) polls
