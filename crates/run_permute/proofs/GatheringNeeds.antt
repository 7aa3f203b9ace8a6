-- What is gathered of a run, as it goes on.
use Rattle.std.proofs.Common.{◌≡◌, ℕ, ◌+◌, ◌<◌, List, [], ◌∷◌, ◌++◌, length, refl, sym, ap, ◌∙◌, subst, arith, inl, inr, Option, Some, None}
use Rattle.cell_machine.specs.Opening.{Opening}
use Rattle.cell_machine.specs.Run.{Ran, IsRun}
use Rattle.run_walk.specs.Ordered.{IsOrdered}
use Rattle.race_check.proofs.Prefixes.{is_ordered-up, run-told}
use Rattle.reorder_laws.specs.Places.{until}
use Rattle.run_permute.proofs.Alike.{Alike, alike-first}
use Rattle.run_permute.specs.SettledLists.{Each}
use Rattle.run_permute.specs.declared.block.Block.{Block}
use Rattle.run_permute.specs.declared.few.Few.{Few}
use Rattle.run_permute.specs.declared.needs.Needs.{Needs}
use Rattle.run_permute.specs.declared.strand.Strand.{Strand}
use Rattle.run_permute.specs.declared.track.Track.{Track}
use Rattle.run_permute.specs.Gathered.{Gathers}
use Rattle.run_permute.specs.Lists.{list_at, steps_in}
use Rattle.run_permute.specs.Needs.{AreNeeds, AreNeedsOf}
use Rattle.run_permute.proofs.Needing.{needs-more, needs-none}
use Rattle.run_permute.specs.Tracks.{AreTracks, IsBlock, IsChain, IsStrand, IsTrack, MayBeUntil, places}

-- ---- two runs with the same first j steps

module _ (m n : Ran) (j : ℕ) (a : Alike m n j) where
  chain-on : (chain : List ℕ) → IsChain m j chain → IsChain n j chain
  chain-on chain c = record { below = c.below; ordered = λ x y b d low at there. a.to b d (c.below y d there) (c.ordered x y b d low at there) }

  until-on : (chain steps : List ℕ) (until : Option ℕ) → IsChain m j chain → MayBeUntil m chain steps until → MayBeUntil n chain steps until
  until-on chain steps None c u = tt
  until-on chain steps (Some index) c u = record { next = u.next; at = u.at; ordered = λ i h. a.to i u.next (c.below index u.next u.at) (u.ordered i h) }

  strand-on : (chain : List ℕ) (s : Strand) → IsChain m j chain → IsStrand m j chain s → IsStrand n j chain s
  strand-on chain s c x = record {
    steps = chain-on (places s) x.steps;
    high = x.high;
    above = λ k b low at. a.to b s.first (x.steps.below 0 s.first refl) (x.above k b low at);
    low = until-on chain (places s) s.until c x.low;
  }

  each-strand : (chain : List ℕ) (ss : List Strand) → IsChain m j chain → Each (IsStrand m j chain) ss → Each (IsStrand n j chain) ss
  each-strand chain [] c e = tt
  each-strand chain (s ∷ ss) c e = (strand-on chain s c e.0, each-strand chain ss c e.1)

  each-block : (chain : List ℕ) (bs : List Block) → IsChain m j chain → Each (IsBlock m j chain) bs → Each (IsBlock n j chain) bs
  each-block chain [] c e = tt
  each-block chain (b ∷ bs) c e = (record { bounded = e.0.bounded; strands = each-strand chain b.strands.items c e.0.strands }, each-block chain bs c e.1)

  each-track : (ts : List Track) → Each (IsTrack m j) ts → Each (IsTrack n j) ts
  each-track [] e = tt
  each-track (t ∷ ts) e = (record { chain = chain-on t.chain.items e.0.chain; blocks = each-block t.chain.items t.blocks.items e.0.chain e.0.blocks; past = e.0.past }, each-track ts e.1)

  pub tracks-on : (ts : List Track) → AreTracks m j ts → AreTracks n j ts
  tracks-on ts t = record { each = each-track ts t.each; all = t.all }

  one-on : (k : ℕ) (needs : List ℕ) → k < j → AreNeedsOf (IsOrdered m) k needs → AreNeedsOf (IsOrdered n) k needs
  one-on k needs low x = record {
    sound = λ i among. a.to i k low (x.sound i among);
    complete = λ i o.
        let c = x.complete i (a.from i k low o) in
        let less : c.need < k = is_ordered-up m c.need k (x.sound c.need c.within) in
        record { need = c.need; within = c.within; covers = elim c.covers [ inl same ↦ inl same | inr before ↦ inr (a.to i c.need (omega arith) before) ] };
  }

  pub needs-on : (needs : List Few) → AreNeeds (IsOrdered m) j needs → AreNeeds (IsOrdered n) j needs
  needs-on needs x = record { all = x.all; each = λ k low. one-on k (list_at needs k) low (x.each k low) }

-- ---- as the run goes on

pub begun-gathers : (setup : Opening) (g : Needs) → g.spes ≡ length setup.entries → length g.tracks.items ≡ g.spes + 1 → AreTracks (record { setup = setup; steps = [] }) 0 g.tracks.items → g.needs.items ≡ [] → Gathers (record { setup = setup; steps = [] }) g
begun-gathers setup g spes long tracks none =
    let m : Ran = record { setup = setup; steps = [] } in
    record { spes = spes; long = long; tracks = tracks; needs = subst (AreNeeds (IsOrdered m) 0) (sym none) (needs-none (IsOrdered m)) }

module _ (m : Ran) (place : ℕ) (g : Needs) (run : IsRun m.setup m.steps) (counted : length (until m place).steps ≡ place) (old : Gathers (until m place) g) where
  same : Alike (until m place) m place
  same = alike-first (until m place) m place (run-told m run) refl

  pub tracks-before : AreTracks m place g.tracks.items
  tracks-before = tracks-on (until m place) m place same g.tracks.items (subst (λ n. AreTracks (until m place) n g.tracks.items) counted old.tracks)

  needs-before : AreNeeds (IsOrdered m) place g.needs.items
  needs-before = needs-on (until m place) m place same g.needs.items (subst (λ n. AreNeeds (IsOrdered (until m place)) n g.needs.items) counted old.needs)

  pub gathers-more : (h : Needs) (v : Few) → length m.steps ≡ place + 1 → h.spes ≡ g.spes → length h.tracks.items ≡ length g.tracks.items → AreTracks m (place + 1) h.tracks.items → h.needs.items ≡ g.needs.items ++ v ∷ [] → AreNeedsOf (IsOrdered m) place (steps_in v) → Gathers m h
  gathers-more h v long spes many tracks put one = record {
    spes = spes ∙ old.spes;
    long = many ∙ old.long ∙ ap (λ n. n + 1) (sym spes);
    tracks = subst (λ n. AreTracks m n h.tracks.items) (sym long) tracks;
    needs = subst (λ n. AreNeeds (IsOrdered m) n h.needs.items) (sym long) (subst (AreNeeds (IsOrdered m) (place + 1)) (sym put) (needs-more (IsOrdered m) place g.needs.items v needs-before one));
  }
