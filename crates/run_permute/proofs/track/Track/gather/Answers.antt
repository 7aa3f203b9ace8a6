use Rattle.std.proofs.Common.{ℕ, ◌-◌, ◌<◌, List, drop, get_or, sym, ap, ◌∙◌, subst}
use Rattle.std.proofs.lemmas.List.{take_rest}
use Rattle.run_permute.specs.SettledLists.{IsIn, Each}
use Rattle.run_permute.specs.Tracks.{AreChains, IsBlockFound, IsBounded, IsEnd}
use Rattle.run_permute.proofs.Added.{blocks-chains, blocks-bounded, sound-more}
use Rattle.run_permute.proofs.Ends.{covers-track}
use Rattle.run_permute.proofs.Passed.{each-drop, past-found}
use Rattle.run_permute.proofs.track.Track.gather.Goals as goal

pub gather_blocks-requires : goal.gather_blocks-requires
gather_blocks-requires g c =
    let m = g.here.run in
    let j = g.here.place in
    let self = c.args.self.now in
    let passed = c.passed-passed.result in
    let behind = take_rest c.deref-2.result.now passed ∙ ap (drop passed) c.deref-2.ensures.value in
    (c.requires.0, (subst (Each (AreChains m j)) (sym behind) (each-drop (AreChains m j) passed self.blocks.items (blocks-chains m j self c.requires.1)), subst (Each IsBounded) (sym behind) (each-drop IsBounded passed self.blocks.items (blocks-bounded m j self c.requires.1))))

pub returns-clause-kept : goal.returns-clause-kept
returns-clause-kept g c = λ k h. c.in_ok-at.ensures.kept k (c.in_ok-end.ensures.kept k h)

pub returns-clause-sound : goal.returns-clause-sound
returns-clause-sound g c = sound-more g.here.run g.here.place c.args.needs.now.items c.gather_chain.new.needs.items c.gather_blocks.new.needs.items c.in_ok-end.ensures.sound c.in_ok-at.ensures.sound

pub returns-clause-covers : goal.returns-clause-covers
returns-clause-covers g c =
    let m = g.here.run in
    let j = g.here.place in
    let self = c.args.self.now in
    let chain = self.chain.items in
    let end = c.in_ok-end.end in
    let needs = c.gather_blocks.new.needs.items in
    let passed = c.passed-passed.result in
    let is = subst (λ (xs : List ℕ). IsEnd m j xs end) c.deref.ensures.value c.in_ok-end.ensures.end in
    let last = subst (λ (xs : List ℕ). 0 < end → IsIn (get_or xs (end - 1) 0) c.gather_chain.new.needs.items) c.deref.ensures.value c.in_ok-end.ensures.last in
    let behind = take_rest c.deref-2.result.now passed ∙ ap (drop passed) c.deref-2.ensures.value in
    let found = subst (Each (IsBlockFound m j end needs)) behind c.in_ok-at.ensures.found in
    let all = past-found m j end passed needs self.past self.blocks.items c.passed-passed.ensures.within c.passed-passed.ensures.beside c.requires.1.past (blocks-bounded m j self c.requires.1) found in
    covers-track m j self end needs c.requires.1 is (λ some. c.in_ok-at.ensures.kept (get_or chain (end - 1) 0) (last some)) all

pub returns-clause-end : goal.returns-clause-end
returns-clause-end g c = subst (λ (xs : List ℕ). IsEnd g.here.run g.here.place xs c.in_ok-end.end) c.deref.ensures.value c.in_ok-end.ensures.end
