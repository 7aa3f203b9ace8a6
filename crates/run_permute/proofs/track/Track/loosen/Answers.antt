use Rattle.std.proofs.Common.{rules, ◌≡◌, ◌<◌, ◌≤◌, ◌^◌, ◌∷◌, [], List, length, refl, sym, ap, ap₂, ◌∙◌, subst, arith, inl, inr}
use Rattle.std.specs.Vec.{with_items}
use Rattle.run_permute.specs.Lists.{IsOneChanged}
use Rattle.run_permute.specs.Tracks.{IsBlockLonger, IsEnd, IsOn, places}
use Rattle.run_permute.specs.declared.block.Block.{Block}
use Rattle.run_permute.specs.declared.track.Track.{Track}
use Rattle.run_permute.proofs.Added.{in-place, longer-has, longer-on, track-longer, track-loosed, loosed-on}
use Rattle.run_permute.proofs.Ends.{chain-long}
use Rattle.run_permute.proofs.track.Track.loosen.Goals as goal

pub returns-then-may_extend-clause-track : goal.returns-then-may_extend-clause-track
returns-then-may_extend-clause-track g c =
    let m = g.here.run in
    let j = g.here.place in
    let old = c.args.self.now in
    let ws = c.extend_at.new.blocks in
    let n : Track = record { chain = old.chain; blocks = with_items old.blocks ws; past = old.past } in
    let one = in-place m j old.blocks ws (c.extend_at.ensures.long ∙ ap length c.as_mut_slice.ensures.value) (subst (λ (bs : List Block). IsOneChanged (IsBlockLonger m j) bs ws) c.as_mut_slice.ensures.value c.in_ok-extend_at.ensures.longer) in
    track-longer m j old n one refl c.requires.1.1.0 refl

pub returns-then-may_extend-clause-kept : goal.returns-then-may_extend-clause-kept
returns-then-may_extend-clause-kept g c =
    let m = g.here.run in
    let j = g.here.place in
    let old = c.args.self.now in
    let ws = c.extend_at.new.blocks in
    let n : Track = record { chain = old.chain; blocks = with_items old.blocks ws; past = old.past } in
    let one = in-place m j old.blocks ws (c.extend_at.ensures.long ∙ ap length c.as_mut_slice.ensures.value) (subst (λ (bs : List Block). IsOneChanged (IsBlockLonger m j) bs ws) c.as_mut_slice.ensures.value c.in_ok-extend_at.ensures.longer) in
    longer-on m j old n one refl

pub returns-then-may_extend-clause-added : goal.returns-then-may_extend-clause-added
returns-then-may_extend-clause-added g c =
    let m = g.here.run in
    let j = g.here.place in
    let old = c.args.self.now in
    let ws = c.extend_at.new.blocks in
    let n : Track = record { chain = old.chain; blocks = with_items old.blocks ws; past = old.past } in
    let one = in-place m j old.blocks ws (c.extend_at.ensures.long ∙ ap length c.as_mut_slice.ensures.value) (subst (λ (bs : List Block). IsOneChanged (IsBlockLonger m j) bs ws) c.as_mut_slice.ensures.value c.in_ok-extend_at.ensures.longer) in
    subst (IsOn n) (sym c.requires.1.0) (longer-has m j old n one refl)

pub overflow_cast-end : goal.overflow_cast-end
overflow_cast-end g c =
    let is = c.requires.1.1.0 in
    let long : length c.args.self.now.chain.items ≤ g.here.place = chain-long g.here.run g.here.place c.args.self.now.chain.items is.chain in
    let within : c.args.end ≤ length c.args.self.now.chain.items = c.requires.1.1.1.within in
    let here : c.args.place ≡ g.here.place = c.requires.1.0 in
    let fits : c.args.place < 2 ^ 32 = search rules in
    let few : c.args.end < 2 ^ 32 = omega arith in
    search rules

pub returns-clause-track : goal.returns-clause-track
returns-clause-track g c =
    let m = g.here.run in
    let j = g.here.place in
    let old = c.args.self.now in
    let strand = c.new-strand.result in
    let is = c.new-strand.ensures in
    let steps : places strand ≡ j ∷ [] = ap₂ (λ f r. f ∷ r) (is.first ∙ c.requires.1.0) is.rest in
    let n : Track = record { chain = old.chain; blocks = c.put_strand.new.blocks; past = old.past } in
    track-loosed m j old n strand c.requires.1.1.0 (subst (IsEnd m j old.chain.items) (sym is.from) c.requires.1.1.1) steps (is.first ∙ c.requires.1.0) is.until refl refl c.in_ok-put_strand.ensures

pub returns-clause-kept : goal.returns-clause-kept
returns-clause-kept g c =
    let n : Track = record { chain = c.args.self.now.chain; blocks = c.put_strand.new.blocks; past = c.args.self.now.past } in
    loosed-on c.args.self.now n c.new-strand.result refl c.in_ok-put_strand.ensures

pub returns-clause-added : goal.returns-clause-added
returns-clause-added g c = inr (c.in_ok-put_strand.ensures.added c.args.place (inl c.new-strand.ensures.first))
