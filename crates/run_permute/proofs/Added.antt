-- Tracks with one more step.
use Rattle.std.proofs.Common.{◌≡◌, ℕ, suc, ◌+◌, ◌<◌, ◌≤◌, List, [], ◌∷◌, ◌++◌, length, refl, sym, ◌∙◌, subst, arith, ◌⊎◌, inl, inr, None, ap}
use Rattle.std.specs.Prelude.{slice_index_or, slice_set, Vec}
use Rattle.std.specs.Vec.{with_items}
use Rattle.std.specs.declared.alloc.Global.{Global}
use Rattle.std.proofs.lemmas.Bool.{cases_lt}
use Rattle.cell_machine.proofs.AllTwo.{whole}
use Rattle.cell_machine.specs.Run.{Ran}
use Rattle.reorder_laws.specs.OrderedLaws.{IsOrdered}
use Rattle.run_permute.specs.SettledLists.{IsIn, Each, AreChanged}
use Rattle.run_permute.specs.Lists.{One, IsOneChanged}
use Rattle.run_permute.specs.Needs.{IsCovered, AreNeedsOf}
use Rattle.run_permute.specs.Tracks.{AreChains, IsChain, IsEnd, IsStrand, IsNotAbove, IsWithinBounds, MayBeUntil, IsBounded, IsBlock, IsPast, IsTrack, IsOnBlock, IsOn, CoversTrack, IsClosed, IsBlockClosed, IsLonger, IsBlockLonger, IsPut, AreTracks, places}
use Rattle.run_permute.specs.declared.block.Block.{Block}
use Rattle.run_permute.specs.declared.strand.Strand.{Strand}
use Rattle.run_permute.specs.declared.track.Track.{Track}
use Rattle.run_permute.proofs.SettledEntries.{each-on, each-at, each-end}
use Rattle.run_permute.proofs.Changes.{each-set, changed-each}
use Rattle.run_permute.proofs.Entries.{in-left, in-push}
use Rattle.run_permute.proofs.Ordered.{ordered-up}
use Rattle.run_permute.proofs.Ends.{covers-more, chain-one, chain-later, chain-more, longer-places, strand-later, strand-closed, strand-longer}
use Rattle.run_permute.proofs.Passed.{past-longer, past-push, past-set}
use Rattle.run_permute.proofs.Ones.{one-changed, one-kept, one-last, one-left, one-new}

-- ---- one block

block-later : (m : Ran) (j : ℕ) (chain : List ℕ) (b : Block) → IsBlock m j chain b → IsBlock m (j + 1) chain b
block-later m j chain b is = record { bounded = is.bounded; strands = each-on (IsStrand m j chain) (IsStrand m (j + 1) chain) b.strands.items (strand-later m j chain) is.strands }

-- behind one more step of the chain
block-closed : (m : Ran) (j : ℕ) (chain : List ℕ) (b n : Block) → IsBlockClosed m j (length chain) b n → IsBlock m j chain b → IsBlock m (j + 1) (chain ++ j ∷ []) n
block-closed m j chain b n closed is =
    record {
      bounded = closed.bounded;
      strands = changed-each (IsClosed m j (length chain)) (IsStrand m j chain) (IsStrand m (j + 1) (chain ++ j ∷ [])) (length b.strands.items) b.strands.items n.strands.items (omega arith) closed.strands (λ x y r p. strand-closed m j chain x y r p) is.strands;
    }

closed-on : (m : Ran) (j index i : ℕ) (b n : Block) → IsBlockClosed m j index b n → IsOnBlock i b → IsOnBlock i n
closed-on m j index i b n closed h =
    one-changed (IsClosed m j index) (λ (s : Strand). IsIn i (places s)) (length b.strands.items) b.strands.items n.strands.items (omega arith) closed.strands (λ x y r on. subst (IsIn i) (sym (ap places r.rest)) on) h

-- with one strand more
pushed-block : (m : Ran) (j : ℕ) (chain : List ℕ) (s : Strand) (b n : Block) → n.strands.items ≡ b.strands.items ++ s ∷ [] → (IsBounded b → IsBounded n) → IsStrand m j chain s → IsBlock m j chain b → IsBlock m j chain n
pushed-block m j chain s b n strands bounded strand is = record { bounded = bounded is.bounded; strands = subst (Each (IsStrand m j chain)) (sym strands) (each-end (IsStrand m j chain) b.strands.items s is.strands strand) }

pub put-at : (bs : List Block) (k : ℕ) (s : Strand) (n : Block) → k < length bs → length bs ≤ k + 1 → n.strands.items ≡ (slice_index_or bs k n).strands.items ++ s ∷ [] → (IsBounded (slice_index_or bs k n) → IsBounded n) → IsPut s bs (slice_set bs k n)
put-at bs k s n low last strands bounded =
    record {
      blocks = λ m j chain strand each. each-set (IsBlock m j chain) bs k n each (pushed-block m j chain s (slice_index_or bs k n) n strands bounded strand (each-at (IsBlock m j chain) bs k n each low));
      kept = λ i h. one-kept (IsOnBlock i) bs k n low (λ on. subst (One (λ (x : Strand). IsIn i (places x))) (sym strands) (one-left (λ (x : Strand). IsIn i (places x)) (slice_index_or bs k n).strands.items s on)) h;
      added = λ i h. one-new (IsOnBlock i) bs k n low (subst (One (λ (x : Strand). IsIn i (places x))) (sym strands) (one-last (λ (x : Strand). IsIn i (places x)) (slice_index_or bs k n).strands.items s h));
      past = λ p is. past-set p bs k n last is;
    }

-- in a block of its own
pub put-new : (bs : List Block) (s : Strand) (n : Block) → n.strands.items ≡ s ∷ [] → IsBounded n → IsPut s bs (bs ++ n ∷ [])
put-new bs s n strands bounded =
    record {
      blocks = λ m j chain strand each. each-end (IsBlock m j chain) bs n each (record { bounded = bounded; strands = subst (Each (IsStrand m j chain)) (sym strands) (strand, tt) });
      kept = λ i h. one-left (IsOnBlock i) bs n h;
      added = λ i h. one-last (IsOnBlock i) bs n (subst (One (λ (x : Strand). IsIn i (places x))) (sym strands) (inl h));
      past = λ p is. past-push p bs n is;
    }

-- with one more step of a strand
module _ (m : Ran) (j : ℕ) (chain : List ℕ) (b n : Block) (longer : IsBlockLonger m j b n) where
  abbrev one : IsOneChanged (IsLonger m j) b.strands.items n.strands.items
  one = longer.strands

  abbrev old : Strand
  old = slice_index_or b.strands.items longer.strands.index longer.strands.entry

  longer-bounded : IsBounded b → IsBounded n
  longer-bounded bounded =
      let was : IsWithinBounds b.low b.high old = each-at (IsWithinBounds b.low b.high) b.strands.items one.index one.entry bounded one.within in
      let now : IsWithinBounds b.low b.high one.entry =
      record {
        low = subst (λ f. b.low ≤ f) (sym (ap (λ (x : Strand). x.from) one.changed.rest)) was.low;
        high = subst (IsNotAbove b.high) (sym (ap (λ (x : Strand). x.until) one.changed.rest)) was.high;
      } in
      let all : Each (IsWithinBounds b.low b.high) n.strands.items = subst (Each (IsWithinBounds b.low b.high)) (sym one.is) (each-set (IsWithinBounds b.low b.high) b.strands.items one.index one.entry bounded now) in
      let low : b.low ≡ n.low = sym (ap (λ (x : Block). x.low) longer.rest) in
      let high : b.high ≡ n.high = sym (ap (λ (x : Block). x.high) longer.rest) in
      subst (λ l. Each (IsWithinBounds l n.high) n.strands.items) low (subst (λ h. Each (IsWithinBounds b.low h) n.strands.items) high all)

  pub block-longer : IsBlock m j chain b → IsBlock m (j + 1) chain n
  block-longer is =
      record {
        bounded = longer-bounded is.bounded;
        strands = subst (Each (IsStrand m (j + 1) chain)) (sym one.is) (each-set (IsStrand m (j + 1) chain) b.strands.items one.index one.entry (each-on (IsStrand m j chain) (IsStrand m (j + 1) chain) b.strands.items (strand-later m j chain) is.strands)
            (strand-longer m j chain old one.entry one.changed (each-at (IsStrand m j chain) b.strands.items one.index one.entry is.strands one.within)));
      }

  pub longer-kept : (i : ℕ) → IsOnBlock i b → IsOnBlock i n
  longer-kept i h =
      subst (One (λ (x : Strand). IsIn i (places x))) (sym one.is)
      (one-kept (λ (x : Strand). IsIn i (places x)) b.strands.items one.index one.entry one.within (λ on. subst (IsIn i) (sym (longer-places m j old one.entry one.changed)) (in-left (places old) (j ∷ []) i on)) h)

  pub longer-new : IsOnBlock j n
  longer-new =
      subst (One (λ (x : Strand). IsIn j (places x))) (sym one.is)
      (one-new (λ (x : Strand). IsIn j (places x)) b.strands.items one.index one.entry one.within (subst (IsIn j) (sym (longer-places m j old one.entry one.changed)) ((in-push (places old) j j).1 (inr refl))))

-- ---- one track

pub track-later : (m : Ran) (j : ℕ) (t : Track) → IsTrack m j t → IsTrack m (j + 1) t
track-later m j t is = record { chain = chain-later m j t.chain.items is.chain; blocks = each-on (IsBlock m j t.chain.items) (IsBlock m (j + 1) t.chain.items) t.blocks.items (block-later m j t.chain.items) is.blocks; past = is.past }

-- the step goes to the chain
pub track-linked : (m : Ran) (j : ℕ) (t n : Track) (closed : List Block) → IsTrack m j t → IsEnd m j t.chain.items (length t.chain.items) → AreChanged (IsBlockClosed m j (length t.chain.items)) (length t.blocks.items) t.blocks.items closed
    → n.chain.items ≡ t.chain.items ++ j ∷ [] → n.blocks.items ≡ closed → IsPast n.past closed → IsTrack m (j + 1) n
track-linked m j t n closed is end changed chain blocks past =
    let more = changed-each (IsBlockClosed m j (length t.chain.items)) (IsBlock m j t.chain.items) (IsBlock m (j + 1) (t.chain.items ++ j ∷ [])) (length t.blocks.items) t.blocks.items closed (omega arith) changed (λ b c r p. block-closed m j t.chain.items b c r p) is.blocks in
    record {
      chain = subst (IsChain m (j + 1)) (sym chain) (chain-more m j t.chain.items is.chain end);
      blocks = subst (λ c. Each (IsBlock m (j + 1) c) n.blocks.items) (sym chain) (subst (Each (IsBlock m (j + 1) (t.chain.items ++ j ∷ []))) (sym blocks) more);
      past = subst (IsPast n.past) (sym blocks) past;
    }

pub linked-on : (m : Ran) (j : ℕ) (t n : Track) (closed : List Block) → AreChanged (IsBlockClosed m j (length t.chain.items)) (length t.blocks.items) t.blocks.items closed → n.chain.items ≡ t.chain.items ++ j ∷ [] → n.blocks.items ≡ closed → (i : ℕ) → IsOn t i → IsOn n i
linked-on m j t n closed changed chain blocks i (inl h) = inl (subst (IsIn i) (sym chain) (in-left t.chain.items (j ∷ []) i h))
linked-on m j t n closed changed chain blocks i (inr h) =
    inr (subst (One (IsOnBlock i)) (sym blocks) (one-changed (IsBlockClosed m j (length t.chain.items)) (IsOnBlock i) (length t.blocks.items) t.blocks.items closed (omega arith) changed (λ b c r on. closed-on m j (length t.chain.items) i b c r on) h))

pub linked-new : (j : ℕ) (t n : Track) → n.chain.items ≡ t.chain.items ++ j ∷ [] → IsOn n j
linked-new j t n chain = inl (subst (IsIn j) (sym chain) ((in-push t.chain.items j j).1 (inr refl)))

-- it goes to a strand of its own
pub track-loosed : (m : Ran) (j : ℕ) (t n : Track) (s : Strand) → IsTrack m j t → IsEnd m j t.chain.items s.from → places s ≡ j ∷ [] → s.first ≡ j → s.until ≡ None → n.chain.items ≡ t.chain.items → n.past ≡ t.past → IsPut s t.blocks.items n.blocks.items → IsTrack m (j + 1) n
track-loosed m j t n s is end steps first until chain past put =
    let later = track-later m j t is in
    let one : IsStrand m (j + 1) t.chain.items s =
    record {
      steps = subst (IsChain m (j + 1)) (sym steps) (chain-one m j);
      high = end.within;
      above = λ x a low at. subst (IsOrdered m a) (sym first) (end.before x a low at);
      low = subst (MayBeUntil m t.chain.items (places s)) (sym until) tt;
    } in
    record {
      chain = subst (IsChain m (j + 1)) (sym chain) later.chain;
      blocks = subst (λ c. Each (IsBlock m (j + 1) c) n.blocks.items) (sym chain) (put.blocks m (j + 1) t.chain.items one later.blocks);
      past = subst (λ p. IsPast p n.blocks.items) (sym past) (put.past t.past is.past);
    }

pub loosed-on : (t n : Track) (s : Strand) → n.chain.items ≡ t.chain.items → IsPut s t.blocks.items n.blocks.items → (i : ℕ) → IsOn t i → IsOn n i
loosed-on t n s chain put i (inl h) = inl (subst (IsIn i) (sym chain) h)
loosed-on t n s chain put i (inr h) = inr (put.kept i h)

-- or to one that there is
pub in-place : (m : Ran) (j : ℕ) (blocks : Vec Block Global) (ws : List Block) → length ws ≡ length blocks.items → IsOneChanged (IsBlockLonger m j) blocks.items ws → IsOneChanged (IsBlockLonger m j) blocks.items (with_items blocks ws).items
in-place m j blocks ws long one = subst (IsOneChanged (IsBlockLonger m j) blocks.items) (sym (whole blocks.len ws blocks.items (blocks.ok.0 ∙ sym long))) one

module _ (m : Ran) (j : ℕ) (t n : Track) (one : IsOneChanged (IsBlockLonger m j) t.blocks.items n.blocks.items) (chain : n.chain.items ≡ t.chain.items) where
  abbrev was : Block
  was = slice_index_or t.blocks.items one.index one.entry

  pub track-longer : IsTrack m j t → n.past ≡ t.past → IsTrack m (j + 1) n
  track-longer is past =
      let later = track-later m j t is in
      let entry = block-longer m j t.chain.items was one.entry one.changed (each-at (IsBlock m j t.chain.items) t.blocks.items one.index one.entry is.blocks one.within) in
      let blocks : Each (IsBlock m (j + 1) t.chain.items) n.blocks.items = subst (Each (IsBlock m (j + 1) t.chain.items)) (sym one.is) (each-set (IsBlock m (j + 1) t.chain.items) t.blocks.items one.index one.entry later.blocks entry) in
      record {
        chain = subst (IsChain m (j + 1)) (sym chain) later.chain;
        blocks = subst (λ c. Each (IsBlock m (j + 1) c) n.blocks.items) (sym chain) blocks;
        past = subst (λ p. IsPast p n.blocks.items) (sym past) (past-longer m j t.past t.blocks.items n.blocks.items one is.past);
      }

  pub longer-on : (i : ℕ) → IsOn t i → IsOn n i
  longer-on i (inl h) = inl (subst (IsIn i) (sym chain) h)
  longer-on i (inr h) = inr (subst (One (IsOnBlock i)) (sym one.is) (one-kept (IsOnBlock i) t.blocks.items one.index one.entry one.within (longer-kept m j t.chain.items was one.entry one.changed i) h))

  pub longer-has : IsOn n j
  longer-has = inr (subst (One (IsOnBlock j)) (sym one.is) (one-new (IsOnBlock j) t.blocks.items one.index one.entry one.within (longer-new m j t.chain.items was one.entry one.changed)))

-- ---- all tracks

pub needs-from : (m : Ran) (j : ℕ) (tracks : List Track) (needs : List ℕ) → AreTracks m j tracks → ((i : ℕ) → IsIn i needs → IsOrdered m i j) → ((k : ℕ) (d : Track) → k < length tracks → CoversTrack m j (slice_index_or tracks k d) needs) → AreNeedsOf (IsOrdered m) j needs
needs-from m j tracks needs are sound covers = record { sound = sound; complete = λ i o. by tracks covers i o (are.all i (ordered-up m i j o)) }
  where
    by : (ts : List Track) → ((k : ℕ) (d : Track) → k < length ts → CoversTrack m j (slice_index_or ts k d) needs) → (i : ℕ) → IsOrdered m i j → One (λ (t : Track). IsOn t i) ts → IsCovered (IsOrdered m) needs i
    by [] c i o h = absurd h
    by (t ∷ ts) c i o (inl h) = c 0 t (omega arith) i h o
    by (t ∷ ts) c i o (inr h) = by ts (λ k d low. c (suc k) d (omega arith)) i o h

pub tracks-more : (m : Ran) (j : ℕ) (ts : List Track) (own : ℕ) (n : Track) → own < length ts → AreTracks m j ts → IsTrack m (j + 1) n → ((i : ℕ) → IsOn (slice_index_or ts own n) i → IsOn n i) → IsOn n j → AreTracks m (j + 1) (slice_set ts own n)
tracks-more m j ts own n low are is kept new =
    record {
      each = each-set (IsTrack m (j + 1)) ts own n (each-on (IsTrack m j) (IsTrack m (j + 1)) ts (track-later m j) are.each) is;
      all = λ i within. by i (cases_lt i j) within;
    }
  where
    by : (i : ℕ) → (i < j) ⊎ (j ≤ i) → i < j + 1 → One (λ (t : Track). IsOn t i) (slice_set ts own n)
    by i (inl below) within = one-kept (λ (t : Track). IsOn t i) ts own n low (kept i) (are.all i below)
    by i (inr above) within = let e : j ≡ i = omega arith in one-new (λ (t : Track). IsOn t i) ts own n low (subst (IsOn n) e new)

pub tracks-none : (m : Ran) (ts : List Track) → Each (IsTrack m 0) ts → AreTracks m 0 ts
tracks-none m ts each = record { each = each; all = λ i low. absurd (omega arith) }

-- ---- what is gathered

-- one more step that is ordered before j
pub sound-push : (m : Ran) (j : ℕ) (needs : List ℕ) (y : ℕ) → IsOrdered m y j → (k : ℕ) → IsIn k (needs ++ y ∷ []) → IsIn k needs ⊎ IsOrdered m k j
sound-push m j needs y o k h = on ((in-push needs y k).0 h)
  where
    on : IsIn k needs ⊎ (k ≡ y) → IsIn k needs ⊎ IsOrdered m k j
    on (inl i) = inl i
    on (inr e) = inr (subst (λ x. IsOrdered m x j) (sym e) o)

-- one part after another
pub sound-more : (m : Ran) (j : ℕ) (first mid new : List ℕ) → ((k : ℕ) → IsIn k mid → IsIn k first ⊎ IsOrdered m k j) → ((k : ℕ) → IsIn k new → IsIn k mid ⊎ IsOrdered m k j) → (k : ℕ) → IsIn k new → IsIn k first ⊎ IsOrdered m k j
sound-more m j first mid new before one k h = on (one k h)
  where
    on : IsIn k mid ⊎ IsOrdered m k j → IsIn k first ⊎ IsOrdered m k j
    on (inl i) = before k i
    on (inr o) = inr o

pub sound-all : (m : Ran) (j : ℕ) (mid new : List ℕ) → ((k : ℕ) → IsIn k mid → IsOrdered m k j) → ((k : ℕ) → IsIn k new → IsIn k mid ⊎ IsOrdered m k j) → (k : ℕ) → IsIn k new → IsOrdered m k j
sound-all m j mid new before one k h = on (one k h)
  where
    on : IsIn k mid ⊎ IsOrdered m k j → IsOrdered m k j
    on (inl i) = before k i
    on (inr o) = o

pub covers-next : (m : Ran) (j : ℕ) (tracks : List Track) (mid new : List ℕ) (index : ℕ) → ((k : ℕ) → IsIn k mid → IsIn k new) → ((k : ℕ) (d : Track) → k < index → CoversTrack m j (slice_index_or tracks k d) mid) → ((d : Track) → CoversTrack m j (slice_index_or tracks index d) new)
    → (k : ℕ) (d : Track) → k < index + 1 → CoversTrack m j (slice_index_or tracks k d) new
covers-next m j tracks mid new index kept before one k d high = on (cases_lt k index)
  where
    on : (k < index) ⊎ (index ≤ k) → CoversTrack m j (slice_index_or tracks k d) new
    on (inl l) = covers-more m j (slice_index_or tracks k d) mid new kept (before k d l)
    on (inr l) = let e : index ≡ k = omega arith in subst (λ i. CoversTrack m j (slice_index_or tracks i d) new) e (one d)

-- an index that is one of the first k + 1 and isn't k
pub not-yet : (own k : ℕ) → own < k + 1 → (k ≡ own → ⊥) → own < k
not-yet own k low other = on (cases_lt own k)
  where
    on : (own < k) ⊎ (k ≤ own) → own < k
    on (inl l) = l
    on (inr h) = absurd (other (omega arith))

pub blocks-chains : (m : Ran) (j : ℕ) (t : Track) → IsTrack m j t → Each (AreChains m j) t.blocks.items
blocks-chains m j t is = each-on (IsBlock m j t.chain.items) (AreChains m j) t.blocks.items (λ b block. each-on (IsStrand m j t.chain.items) (λ (s : Strand). IsChain m j (places s)) b.strands.items (λ s strand. strand.steps) block.strands) is.blocks

pub blocks-bounded : (m : Ran) (j : ℕ) (t : Track) → IsTrack m j t → Each IsBounded t.blocks.items
blocks-bounded m j t is = each-on (IsBlock m j t.chain.items) IsBounded t.blocks.items (λ b block. block.bounded) is.blocks
