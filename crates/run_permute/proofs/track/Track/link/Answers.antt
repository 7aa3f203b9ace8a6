use Rattle.std.proofs.Common.{rules, ◌≡◌, ◌<◌, ◌≤◌, ◌^◌, ◌++◌, ◌∷◌, [], List, length, sym, ap, ◌∙◌, subst, arith}
use Rattle.std.specs.Vec.{with_items}
use Rattle.run_permute.specs.SettledLists.{Each, AreChanged}
use Rattle.run_permute.specs.Tracks.{AreChains, IsBlockClosed, IsBounded, IsPast}
use Rattle.run_permute.specs.declared.block.Block.{Block}
use Rattle.run_permute.specs.declared.track.Track.{Track}
use Rattle.run_permute.proofs.Added.{blocks-chains, blocks-bounded, track-linked, linked-on, linked-new}
use Rattle.run_permute.proofs.Passed.{closed-items, past-closed, past-few}
use Rattle.run_permute.proofs.Ends.{chain-long}
use Rattle.run_permute.proofs.track.Track.link.Goals as goal

pub overflow_cast-index : goal.overflow_cast-index
overflow_cast-index g c =
    let long : length c.args.self.now.chain.items ≤ g.here.place = chain-long g.here.run g.here.place c.args.self.now.chain.items c.requires.1.1.0.chain in
    let index : c.len-index.result ≡ length c.args.self.now.chain.items = search rules in
    let here : c.args.place ≡ g.here.place = c.requires.1.0 in
    let fits : c.args.place < 2 ^ 32 = search rules in
    let few : c.len-index.result < 2 ^ 32 = omega arith in
    search rules

pub close_blocks-requires : goal.close_blocks-requires
close_blocks-requires g c =
    let m = g.here.run in
    let j = g.here.place in
    let old = c.args.self.now in
    let bs = c.as_mut_slice.ensures.value in
    (c.requires.0, (subst (Each (AreChains m j)) (sym bs) (blocks-chains m j old c.requires.1.1.0), (subst (Each IsBounded) (sym bs) (blocks-bounded m j old c.requires.1.1.0), subst (λ (xs : List Block). old.past.blocks ≤ length xs) (sym bs) (past-few old.past old.blocks.items c.requires.1.1.0.past))))

pub advanced-self-requires : goal.advanced-self-requires
advanced-self-requires g c =
    let m = g.here.run in
    let j = g.here.place in
    let old = c.args.self.now in
    let ws = c.close_blocks.new.blocks in
    let index = c.len-index.result in
    let changed = subst (λ (ls : List Block). AreChanged (IsBlockClosed m j index) (length ls) ls ws) c.as_mut_slice.ensures.value c.close_blocks.ensures in
    let same = closed-items m j index old.blocks ws changed in
    subst (IsPast old.past) (sym (c.deref.ensures.value ∙ same)) (past-closed m j index old.past old.blocks.items ws changed c.requires.1.1.0.past)

pub returns-clause-track : goal.returns-clause-track
returns-clause-track g c =
    let m = g.here.run in
    let j = g.here.place in
    let old = c.args.self.now in
    let ws = c.close_blocks.new.blocks in
    let past = c.advanced-self.result in
    let n : Track = record { chain = c.push.new.self; blocks = with_items old.blocks ws; past = past } in
    let index : c.len-index.result ≡ length old.chain.items = search rules in
    let changed =
    subst (λ k. AreChanged (IsBlockClosed m j k) (length old.blocks.items) old.blocks.items ws) index
    (subst (λ (ls : List Block). AreChanged (IsBlockClosed m j c.len-index.result) (length ls) ls ws) c.as_mut_slice.ensures.value c.close_blocks.ensures) in
    let same = closed-items m j (length old.chain.items) old.blocks ws changed in
    track-linked m j old n ws c.requires.1.1.0 c.requires.1.1.1 changed (c.in_ok-push.ensures.items ∙ ap (λ p. old.chain.items ++ p ∷ []) c.requires.1.0) same (subst (IsPast past) (c.deref.ensures.value ∙ same) c.advanced-self.ensures)

pub returns-clause-kept : goal.returns-clause-kept
returns-clause-kept g c =
    let m = g.here.run in
    let j = g.here.place in
    let old = c.args.self.now in
    let ws = c.close_blocks.new.blocks in
    let n : Track = record { chain = c.push.new.self; blocks = with_items old.blocks ws; past = c.advanced-self.result } in
    let index : c.len-index.result ≡ length old.chain.items = search rules in
    let changed =
    subst (λ k. AreChanged (IsBlockClosed m j k) (length old.blocks.items) old.blocks.items ws) index
    (subst (λ (ls : List Block). AreChanged (IsBlockClosed m j c.len-index.result) (length ls) ls ws) c.as_mut_slice.ensures.value c.close_blocks.ensures) in
    linked-on m j old n ws changed (c.in_ok-push.ensures.items ∙ ap (λ p. old.chain.items ++ p ∷ []) c.requires.1.0) (closed-items m j (length old.chain.items) old.blocks ws changed)

pub returns-clause-added : goal.returns-clause-added
returns-clause-added g c =
    let n : Track = record { chain = c.push.new.self; blocks = with_items c.args.self.now.blocks c.close_blocks.new.blocks; past = c.advanced-self.result } in
    linked-new c.args.place c.args.self.now n c.in_ok-push.ensures.items
