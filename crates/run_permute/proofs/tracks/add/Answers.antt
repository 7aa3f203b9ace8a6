use Rattle.std.proofs.Common.{sym, subst}
use Rattle.std.proofs.lemmas.List.{get_or_default}
use Rattle.run_permute.proofs.SettledEntries.{each-at}
use Rattle.run_permute.specs.Tracks.{IsOn, IsTrack}
use Rattle.run_permute.specs.declared.track.Track.{Track}
use Rattle.run_permute.proofs.Added.{tracks-more}
use Rattle.run_permute.proofs.tracks.add.Goals as goal

pub add-requires : goal.add-requires
add-requires g c =
    let tracks = c.args.tracks.now in
    let old = c.index-tracks-own.result in
    let is = each-at (IsTrack g.here.run g.here.place) tracks c.args.own old c.requires.1.1.1.0.each c.requires.1.1.0 in
    (c.requires.0, (c.requires.1.0, (is, c.requires.1.1.1.1.holds old)))

pub returns-clause-tracks : goal.returns-clause-tracks
returns-clause-tracks g c =
    let tracks = c.args.tracks.now in
    let own = c.args.own in
    let new = c.add.new.self in
    let low = c.requires.1.1.0 in
    let was = get_or_default tracks own c.index-tracks-own.result new low in
    tracks-more g.here.run g.here.place tracks own new low c.requires.1.1.1.0 c.in_ok-add.ensures.track (λ i h. c.in_ok-add.ensures.kept i (subst (λ (t : Track). IsOn t i) (sym was) h)) (subst (IsOn new) c.requires.1.0 c.in_ok-add.ensures.added)
