use Rattle.std.proofs.Common.{◌<◌, ◌≤◌, length, sym, ap, ◌∙◌, subst, arith}
use Rattle.std.proofs.lemmas.List.{get_or_default}
use Rattle.std.specs.Prelude.{slice_index_or}
use Rattle.run_permute.specs.SettledLists.{IsIn}
use Rattle.run_permute.specs.Tracks.{CoversTrack, IsEnd}
use Rattle.run_permute.specs.declared.track.Track.{Track}
use Rattle.run_permute.proofs.Added.{sound-all, covers-next, needs-from, not-yet}
use Rattle.run_permute.proofs.tracks.gather.Goals.{then-k-own, else-k-own}
use Rattle.run_permute.proofs.tracks.gather.Goals as goal

pub loop-k-init : goal.loop-k-init
loop-k-init g c = record { sound = λ k h. absurd (subst (IsIn k) c.clear.ensures.items h); covers = λ k d low. absurd (omega arith); end = λ d low. absurd (omega arith) }

pub loop-k-preserved : goal.loop-k-preserved
loop-k-preserved g c =
    let m = g.here.run in
    let j = g.here.place in
    let tracks = c.args.tracks.now in
    let own = c.args.own in
    let new = c.gather.new.needs.items in
    let k = c.loop-k.k in
    record {
      sound = sound-all m j c.loop-k.needs.items new c.loop-k.invariant.sound c.in_ok-found.ensures.sound;
      covers =
          covers-next m j tracks c.loop-k.needs.items new k c.in_ok-found.ensures.kept c.loop-k.invariant.covers
          (λ d. subst (λ (t : Track). CoversTrack m j t new) (c.index-tracks-k.is ∙ get_or_default tracks k c.index-tracks-k.result d c.loop-k-test.true) c.in_ok-found.ensures.covers);
      end = λ d low.
          elim c.if-k-own.branch [
            | then-k-own w ↦
                subst (IsEnd m j (slice_index_or tracks own d).chain.items) (sym (ap (λ s. s.end) w.spot-is))
                (subst (λ i. IsEnd m j (slice_index_or tracks i d).chain.items c.in_ok-found.found.end) w.if-k-own.true
                (subst (λ (t : Track). IsEnd m j t.chain.items c.in_ok-found.found.end) (c.index-tracks-k.is ∙ get_or_default tracks k c.index-tracks-k.result d c.loop-k-test.true) c.in_ok-found.ensures.end))
            | else-k-own w ↦ subst (IsEnd m j (slice_index_or tracks own d).chain.items) (sym (ap (λ s. s.end) w.spot-is)) (c.loop-k.invariant.end d (not-yet own k low w.if-k-own.false))
          ];
    }

pub returns-clause-needs : goal.returns-clause-needs
returns-clause-needs g c =
    let all : length c.args.tracks.now ≤ c.loop-k.k = c.loop-k-test.false in
    needs-from g.here.run g.here.place c.args.tracks.now c.loop-k.needs.items c.requires.1.1 c.loop-k.invariant.sound (λ k d low. c.loop-k.invariant.covers k d (omega (arith, low, all)))

pub returns-clause-end : goal.returns-clause-end
returns-clause-end g c =
    let all : length c.args.tracks.now ≤ c.loop-k.k = c.loop-k-test.false in
    let low : c.args.own < length c.args.tracks.now = c.requires.1.0 in
    record { within = low; holds = λ d. c.loop-k.invariant.end d (omega arith) }
