-- Chains, and how many of their steps are ordered before a step.
use Rattle.std.proofs.Common.{◌≡◌, ℕ, zero, suc, ◌+◌, ◌-◌, ◌<◌, ◌≤◌, List, [], ◌∷◌, ◌++◌, length, get_or, refl, sym, ap, ◌∙◌, subst, arith, ◌⊎◌, inl, inr, Some, None, Option, ap₂}
use Rattle.std.specs.Prelude.{slice_get}
use Rattle.std.proofs.lemmas.Bool.{cases_lt}
use Rattle.std.proofs.lemmas.List.{length_push}
use Rattle.std.proofs.lemmas.Option.{same_Some, none-some, slice_get_within, slice_get-get_or, get_or_from_slice_get}
use Rattle.cell_machine.specs.Run.{Ran}
use Rattle.reorder_laws.specs.OrderedLaws.{IsOrdered}
use Rattle.run_permute.specs.SettledLists.{IsIn, Each}
use Rattle.run_permute.specs.Needs.{IsCovered}
use Rattle.run_permute.specs.Tracks.{AreCovered, IsChain, IsEnd, IsUntil, MayBeUntil, IsStrand, IsBlock, IsTrack, IsOnBlock, IsOn, CoversTrack, IsNotBelow, IsFound, IsBlockFound, IsClosed, IsLonger, places}
use Rattle.run_permute.specs.declared.strand.Strand.{Strand}
use Rattle.run_permute.specs.declared.track.Track.{Track}
use Rattle.run_permute.proofs.Entries.{at-in}
use Rattle.run_permute.proofs.Ones.{one-in}
use Rattle.run_permute.proofs.Ordered.{ordered-trans, ordered-up}

-- ---- the end of a chain

pub end-from : (m : Ran) (j : ℕ) (chain : List ℕ) (e : ℕ) → IsChain m j chain → e ≤ length chain → (e < length chain → IsOrdered m (get_or chain e 0) j → ⊥) → (0 < e → IsOrdered m (get_or chain (e - 1) 0) j) → IsEnd m j chain e
end-from m j chain e is within not-there last = record { within = within; before = before; after = after }
  where
    before : (x a : ℕ) → x < e → slice_get chain x ≡ Some a → IsOrdered m a j
    before x a low at = on (cases_lt x (e - 1))
      where
        there : slice_get chain (e - 1) ≡ Some (get_or chain (e - 1) 0)
        there = slice_get-get_or chain (e - 1) 0 (omega (arith, low, within))

        on : (x < e - 1) ⊎ (e - 1 ≤ x) → IsOrdered m a j
        on (inl l) = ordered-trans m a (get_or chain (e - 1) 0) j (is.ordered x (e - 1) a (get_or chain (e - 1) 0) l at there) (last (omega (arith, low)))
        on (inr l) =
            let same : e - 1 ≡ x = omega (arith, low, l) in
            let value : get_or chain (e - 1) 0 ≡ a = ap (λ k. get_or chain k 0) same ∙ get_or_from_slice_get chain x a 0 at in
            subst (λ b. IsOrdered m b j) value (last (omega (arith, low)))

    after : (x a : ℕ) → e ≤ x → slice_get chain x ≡ Some a → IsOrdered m a j → ⊥
    after x a high at o = on (cases_lt e x)
      where
        low : x < length chain
        low = slice_get_within chain x a at

        there : slice_get chain e ≡ Some (get_or chain e 0)
        there = slice_get-get_or chain e 0 (omega (arith, high, low))

        on : (e < x) ⊎ (x ≤ e) → ⊥
        on (inl l) = not-there (omega (arith, high, low)) (ordered-trans m (get_or chain e 0) a j (is.ordered e x (get_or chain e 0) a l there at) o)
        on (inr l) =
            let same : x ≡ e = omega (arith, high, l) in
            let value : a ≡ get_or chain e 0 = sym (get_or_from_slice_get chain x a 0 at) ∙ ap (λ k. get_or chain k 0) same in
            not-there (omega (arith, high, low)) (subst (λ b. IsOrdered m b j) value o)

pub chain-later : (m : Ran) (j : ℕ) (chain : List ℕ) → IsChain m j chain → IsChain m (j + 1) chain
chain-later m j chain is = record { below = λ x a at. (let l : a < j = is.below x a at in omega arith); ordered = is.ordered }

pub push-front : (chain : List ℕ) (y x a : ℕ) → slice_get chain x ≡ Some a → slice_get (chain ++ y ∷ []) x ≡ Some a
push-front [] y x a at = absurd (none-some a at)
push-front (z ∷ zs) y zero a at = at
push-front (z ∷ zs) y (suc x) a at = push-front zs y x a at

pub push-back : (chain : List ℕ) (y x a : ℕ) → x < length chain → slice_get (chain ++ y ∷ []) x ≡ Some a → slice_get chain x ≡ Some a
push-back [] y x a low at = absurd (omega arith)
push-back (z ∷ zs) y zero a low at = at
push-back (z ∷ zs) y (suc x) a low at = push-back zs y x a (omega arith) at

pub push-last : (chain : List ℕ) (y : ℕ) → slice_get (chain ++ y ∷ []) (length chain) ≡ Some y
push-last [] y = refl
push-last (z ∷ zs) y = push-last zs y

pub chain-more : (m : Ran) (j : ℕ) (chain : List ℕ) → IsChain m j chain → IsEnd m j chain (length chain) → IsChain m (j + 1) (chain ++ j ∷ [])
chain-more m j chain is end = record { below = below; ordered = ordered }
  where
    at-last : (x a : ℕ) → length chain ≤ x → slice_get (chain ++ j ∷ []) x ≡ Some a → j ≡ a
    at-last x a high at =
        let low : x < length (chain ++ j ∷ []) = slice_get_within (chain ++ j ∷ []) x a at in
        let long = length_push chain j in
        let same : length chain ≡ x = omega (arith, low, long, high) in
        same_Some j a (sym (push-last chain j) ∙ ap (slice_get (chain ++ j ∷ [])) same ∙ at)

    below : (x a : ℕ) → slice_get (chain ++ j ∷ []) x ≡ Some a → a < j + 1
    below x a at = on (cases_lt x (length chain))
      where
        on : (x < length chain) ⊎ (length chain ≤ x) → a < j + 1
        on (inl low) = let l : a < j = is.below x a (push-back chain j x a low at) in omega arith
        on (inr high) = let e : j ≡ a = at-last x a high at in omega arith

    ordered : (x y a b : ℕ) → x < y → slice_get (chain ++ j ∷ []) x ≡ Some a → slice_get (chain ++ j ∷ []) y ≡ Some b → IsOrdered m a b
    ordered x y a b low at there = on (cases_lt y (length chain))
      where
        inside : y < length (chain ++ j ∷ [])
        inside = slice_get_within (chain ++ j ∷ []) y b there

        long : length (chain ++ j ∷ []) ≡ length chain + 1
        long = length_push chain j

        on : (y < length chain) ⊎ (length chain ≤ y) → IsOrdered m a b
        on (inl l) = is.ordered x y a b low (push-back chain j x a (omega arith) at) (push-back chain j y b l there)
        on (inr h) = subst (IsOrdered m a) (at-last y b h there) (end.before x a (omega (arith, low, inside, long)) (push-back chain j x a (omega (arith, low, inside, long)) at))

-- a chain has no more steps than there are
chain-high : (m : Ran) (j : ℕ) (chain : List ℕ) → IsChain m j chain → (x a : ℕ) → slice_get chain x ≡ Some a → x ≤ a
chain-high m j chain is zero a at = omega arith
chain-high m j chain is (suc x) a at =
    let low : suc x < length chain = slice_get_within chain (suc x) a at in
    let there = slice_get-get_or chain x 0 (omega arith) in
    let b : x ≤ get_or chain x 0 = chain-high m j chain is x (get_or chain x 0) there in
    let up : get_or chain x 0 < a = ordered-up m (get_or chain x 0) a (is.ordered x (suc x) (get_or chain x 0) a (omega arith) there at) in
    omega arith

pub chain-long : (m : Ran) (j : ℕ) (chain : List ℕ) → IsChain m j chain → length chain ≤ j
chain-long m j chain is = on (cases_lt 0 (length chain))
  where
    on : (0 < length chain) ⊎ (length chain ≤ 0) → length chain ≤ j
    on (inr none) = omega arith
    on (inl some) =
        let there = slice_get-get_or chain (length chain - 1) 0 (omega arith) in
        let high : length chain - 1 ≤ get_or chain (length chain - 1) 0 = chain-high m j chain is (length chain - 1) (get_or chain (length chain - 1) 0) there in
        let low : get_or chain (length chain - 1) 0 < j = is.below (length chain - 1) (get_or chain (length chain - 1) 0) there in
        omega arith

-- ---- the first step of a chain and the rest

pub chain-one : (m : Ran) (j : ℕ) → IsChain m (j + 1) (j ∷ [])
chain-one m j = record { below = below; ordered = ordered }
  where
    below : (x a : ℕ) → slice_get (j ∷ []) x ≡ Some a → a < j + 1
    below zero a at = let e : j ≡ a = same_Some j a at in omega arith
    below (suc x) a at = absurd (none-some a at)

    ordered : (x y a b : ℕ) → x < y → slice_get (j ∷ []) x ≡ Some a → slice_get (j ∷ []) y ≡ Some b → IsOrdered m a b
    ordered x zero a b low at there = absurd (omega arith)
    ordered x (suc y) a b low at there = absurd (none-some b there)

pub chain-rest : (m : Ran) (j first : ℕ) (rest : List ℕ) → IsChain m j (first ∷ rest) → IsChain m j rest
chain-rest m j first rest is = record { below = λ x a at. is.below (suc x) a at; ordered = λ x y a b low at there. is.ordered (suc x) (suc y) a b (omega arith) at there }

first-before : (m : Ran) (j first : ℕ) (rest : List ℕ) → IsChain m j (first ∷ rest) → (i : ℕ) → IsIn i rest → IsOrdered m first i
first-before m j first rest is i h = let r = at-in rest i h in is.ordered 0 (suc r.0) first i (omega arith) refl r.2

pub end-rest : (m : Ran) (j first : ℕ) (rest : List ℕ) (end : ℕ) → IsOrdered m first j → IsEnd m j rest end → IsEnd m j (first ∷ rest) (suc end)
end-rest m j first rest end o is = record { within = (let w : end ≤ length rest = is.within in omega arith); before = before; after = after }
  where
    before : (x a : ℕ) → x < suc end → slice_get (first ∷ rest) x ≡ Some a → IsOrdered m a j
    before zero a low at = subst (λ b. IsOrdered m b j) (same_Some first a at) o
    before (suc x) a low at = is.before x a (omega arith) at

    after : (x a : ℕ) → suc end ≤ x → slice_get (first ∷ rest) x ≡ Some a → IsOrdered m a j → ⊥
    after zero a high at = absurd (omega arith)
    after (suc x) a high at = is.after x a (omega arith) at

-- the last of them
pub last-is : (first : ℕ) (rest : List ℕ) → 0 < length rest → get_or (first ∷ rest) (length rest) 0 ≡ get_or rest (length rest - 1) 0
last-is first [] some = absurd (omega arith)
last-is first (y ∷ ys) some = let e : length ys ≡ suc (length ys) - 1 = omega arith in ap (λ k. get_or (y ∷ ys) k 0) e

pub all-from : (m : Ran) (j first : ℕ) (rest : List ℕ) → IsChain m j (first ∷ rest) → IsOrdered m (get_or (first ∷ rest) (length rest) 0) j → IsEnd m j (first ∷ rest) (length (first ∷ rest))
all-from m j first rest is o =
    let e : length rest ≡ suc (length rest) - 1 = omega arith in
    end-from m j (first ∷ rest) (length (first ∷ rest)) is (omega arith) (λ low. absurd (omega arith)) (λ some. subst (λ k. IsOrdered m (get_or (first ∷ rest) k 0) j) e o)

-- ---- strands

pub until-later : (m : Ran) (chain : List ℕ) (y : ℕ) (steps : List ℕ) (u : Option ℕ) → MayBeUntil m chain steps u → MayBeUntil m (chain ++ y ∷ []) steps u
until-later m chain y steps None h = tt
until-later m chain y steps (Some index) h = record { next = h.next; at = push-front chain y index h.next h.at; ordered = h.ordered }

pub strand-later : (m : Ran) (j : ℕ) (chain : List ℕ) (s : Strand) → IsStrand m j chain s → IsStrand m (j + 1) chain s
strand-later m j chain s is = record { steps = chain-later m j (places s) is.steps; high = is.high; above = is.above; low = is.low }

-- behind one more step of the chain
pub strand-closed : (m : Ran) (j : ℕ) (chain : List ℕ) (s n : Strand) → IsClosed m j (length chain) s n → IsStrand m j chain s → IsStrand m (j + 1) (chain ++ j ∷ []) n
strand-closed m j chain s n closed is =
    record {
      steps = subst (IsChain m (j + 1)) (sym same) (chain-later m j (places s) is.steps);
      high = (let h : s.from ≤ length chain = is.high in let e : n.from ≡ s.from = from in let long = length_push chain j in omega (arith, h, e, long));
      above = above;
      low = on closed.until;
    }
  where
    same : places n ≡ places s
    same = ap places closed.rest

    from : n.from ≡ s.from
    from = ap (λ (x : Strand). x.from) closed.rest

    above : (x a : ℕ) → x < n.from → slice_get (chain ++ j ∷ []) x ≡ Some a → IsOrdered m a n.first
    above x a low at =
        let h : s.from ≤ length chain = is.high in
        let e : n.from ≡ s.from = from in
        let first : n.first ≡ s.first = ap (λ (x : Strand). x.first) closed.rest in
        subst (IsOrdered m a) (sym first) (is.above x a (omega arith) (push-back chain j x a (omega arith) at))

    on : (n.until ≡ s.until) ⊎ ((n.until ≡ Some (length chain)) × ((i : ℕ) → IsIn i (places s) → IsOrdered m i j)) → MayBeUntil m (chain ++ j ∷ []) (places n) n.until
    on (inl e) =
        let old : MayBeUntil m (chain ++ j ∷ []) (places s) s.until = until-later m chain j (places s) s.until is.low in
        subst (λ p. MayBeUntil m (chain ++ j ∷ []) p n.until) (sym same) (subst (MayBeUntil m (chain ++ j ∷ []) (places s)) (sym e) old)
    on (inr h) =
        let there : IsUntil m (chain ++ j ∷ []) (places n) (length chain) = record { next = j; at = push-last chain j; ordered = subst (λ p. (i : ℕ) → IsIn i p → IsOrdered m i j) (sym same) h.1 } in
        subst (MayBeUntil m (chain ++ j ∷ []) (places n)) (sym h.0) there

pub longer-places : (m : Ran) (j : ℕ) (s n : Strand) → IsLonger m j s n → places n ≡ places s ++ j ∷ []
longer-places m j s n longer = let first : n.first ≡ s.first = ap (λ (x : Strand). x.first) longer.rest in ap₂ (λ f r. f ∷ r) first longer.steps

-- with one more step
pub strand-longer : (m : Ran) (j : ℕ) (chain : List ℕ) (s n : Strand) → IsLonger m j s n → IsStrand m j chain s → IsStrand m (j + 1) chain n
strand-longer m j chain s n longer is =
    record {
      steps = subst (IsChain m (j + 1)) (sym (longer-places m j s n longer)) (chain-more m j (places s) is.steps longer.open_before.end);
      high = subst (λ f. f ≤ length chain) (sym from) is.high;
      above = λ x a low at. (let e : n.from ≡ s.from = from in subst (IsOrdered m a) (sym first) (is.above x a (omega arith) at));
      low = subst (MayBeUntil m chain (places n)) (sym (until ∙ longer.open_before.until)) tt;
    }
  where
    first : n.first ≡ s.first
    first = ap (λ (x : Strand). x.first) longer.rest

    from : n.from ≡ s.from
    from = ap (λ (x : Strand). x.from) longer.rest

    until : n.until ≡ s.until
    until = ap (λ (x : Strand). x.until) longer.rest

-- ---- what covers steps

pub covered-more : (m : Ran) (j : ℕ) (needs more steps : List ℕ) → ((k : ℕ) → IsIn k needs → IsIn k more) → AreCovered m j needs steps → AreCovered m j more steps
covered-more m j needs more steps kept covered i h o = let c = covered i h o in record { need = c.need; within = kept c.need c.within; covers = c.covers }

pub found-more : (m : Ran) (j end : ℕ) (needs more : List ℕ) (s : Strand) → ((k : ℕ) → IsIn k needs → IsIn k more) → IsFound m j end needs s → IsFound m j end more s
found-more m j end needs more s kept found beside = covered-more m j needs more (places s) kept (found beside)

pub none-covered : (m : Ran) (j : ℕ) (needs : List ℕ) (first : ℕ) (rest : List ℕ) → IsChain m j (first ∷ rest) → (IsOrdered m first j → ⊥) → AreCovered m j needs (first ∷ rest)
none-covered m j needs first rest is none i (inl e) o = absurd (none (subst (λ x. IsOrdered m x j) (sym e) o))
none-covered m j needs first rest is none i (inr h) o = absurd (none (ordered-trans m first i j (first-before m j first rest is i h) o))

module _ (m : Ran) (j : ℕ) (chain : List ℕ) (end : ℕ) (needs : List ℕ) (is : IsChain m j chain) (is-end : IsEnd m j chain end) (last : 0 < end → IsIn (get_or chain (end - 1) 0) needs) where
  -- what is ordered before a step of the chain below the end
  pub covered-below : (i x a : ℕ) → x < end → slice_get chain x ≡ Some a → (i ≡ a) ⊎ IsOrdered m i a → IsCovered (IsOrdered m) needs i
  covered-below i x a low at to = on (cases_lt x (end - 1)) to
    where
      inside : end ≤ length chain
      inside = is-end.within

      there : slice_get chain (end - 1) ≡ Some (get_or chain (end - 1) 0)
      there = slice_get-get_or chain (end - 1) 0 (omega (arith, low, inside))

      on : (x < end - 1) ⊎ (end - 1 ≤ x) → (i ≡ a) ⊎ IsOrdered m i a → IsCovered (IsOrdered m) needs i
      on (inl l) (inl e) = record { need = get_or chain (end - 1) 0; within = last (omega (arith, low)); covers = inr (subst (λ b. IsOrdered m b (get_or chain (end - 1) 0)) (sym e) (is.ordered x (end - 1) a (get_or chain (end - 1) 0) l at there)) }
      on (inl l) (inr p) = record { need = get_or chain (end - 1) 0; within = last (omega (arith, low)); covers = inr (ordered-trans m i a (get_or chain (end - 1) 0) p (is.ordered x (end - 1) a (get_or chain (end - 1) 0) l at there)) }
      on (inr l) to2 =
          let same : x ≡ end - 1 = omega (arith, low, l) in
          let value : a ≡ get_or chain (end - 1) 0 = sym (get_or_from_slice_get chain x a 0 at) ∙ ap (λ k. get_or chain k 0) same in
          record { need = get_or chain (end - 1) 0; within = last (omega (arith, low)); covers = subst (λ b. (i ≡ b) ⊎ IsOrdered m i b) value to2 }

  pub chain-covered : AreCovered m j needs chain
  chain-covered i h o = let r = at-in chain i h in on r.0 r.2 (cases_lt r.0 end)
    where
      on : (k : ℕ) → slice_get chain k ≡ Some i → (k < end) ⊎ (end ≤ k) → IsCovered (IsOrdered m) needs i
      on k at (inl low) = covered-below i k i low at (inl refl)
      on k at (inr high) = absurd (is-end.after k i high at o)

last-in : (first : ℕ) (rest : List ℕ) (end : ℕ) (needs : List ℕ) → (0 < end → IsIn (get_or rest (end - 1) 0) needs) → (end ≡ 0 → IsIn first needs) → IsIn (get_or (first ∷ rest) (suc end - 1) 0) needs
last-in first rest zero needs last none = let e : 0 ≡ suc zero - 1 = omega arith in subst (λ k. IsIn (get_or (first ∷ rest) k 0) needs) e (none refl)
last-in first rest (suc d) needs last none =
    let e : suc d ≡ suc (suc d) - 1 = omega arith in
    let f : suc d - 1 ≡ d = omega arith in
    subst (λ k. IsIn (get_or (first ∷ rest) k 0) needs) e (subst (λ k. IsIn (get_or rest k 0) needs) f (last (omega arith)))

-- the first step is ordered before j, so many of the rest are, and the last that is so is among the needs
pub strand-covered : (m : Ran) (j first : ℕ) (rest : List ℕ) (end : ℕ) (needs : List ℕ) → IsChain m j (first ∷ rest) → IsOrdered m first j → IsEnd m j rest end → (0 < end → IsIn (get_or rest (end - 1) 0) needs) → (end ≡ 0 → IsIn first needs) → AreCovered m j needs (first ∷ rest)
strand-covered m j first rest end needs is o is-end last none = chain-covered m j (first ∷ rest) (suc end) needs is (end-rest m j first rest end o is-end) (λ some. last-in first rest end needs last none)

-- ---- what covers a track

pub covers-more : (m : Ran) (j : ℕ) (t : Track) (needs more : List ℕ) → ((k : ℕ) → IsIn k needs → IsIn k more) → CoversTrack m j t needs → CoversTrack m j t more
covers-more m j t needs more kept covers i on o = let c = covers i on o in record { need = c.need; within = kept c.need c.within; covers = c.covers }

pub covers-track : (m : Ran) (j : ℕ) (t : Track) (end : ℕ) (needs : List ℕ) → IsTrack m j t → IsEnd m j t.chain.items end → (0 < end → IsIn (get_or t.chain.items (end - 1) 0) needs) → Each (IsBlockFound m j end needs) t.blocks.items → CoversTrack m j t needs
covers-track m j t end needs is is-end last found i on o = by on
  where
    below : (x a : ℕ) → x < end → slice_get t.chain.items x ≡ Some a → (i ≡ a) ⊎ IsOrdered m i a → IsCovered (IsOrdered m) needs i
    below = covered-below m j t.chain.items end needs is.chain is-end last i

    -- the first step of the strand is i, or ordered before it
    from-first : (s : Strand) → IsStrand m j t.chain.items s → IsIn i (places s) → (a : ℕ) → IsOrdered m a s.first → IsOrdered m a i
    from-first s strand (inl e) a p = subst (IsOrdered m a) e p
    from-first s strand (inr h) a p = ordered-trans m a s.first i p (first-before m j s.first s.rest.items strand.steps i h)

    beside : (s : Strand) → IsStrand m j t.chain.items s → IsIn i (places s) → s.from ≤ end
    beside s strand h = on2 (cases_lt end s.from)
      where
        on2 : (end < s.from) ⊎ (s.from ≤ end) → s.from ≤ end
        on2 (inr low) = low
        on2 (inl high) =
            let long : s.from ≤ length t.chain.items = strand.high in
            let there = slice_get-get_or t.chain.items end 0 (omega (arith, high, long)) in
            let a : IsOrdered m (get_or t.chain.items end 0) i = from-first s strand h (get_or t.chain.items end 0) (strand.above end (get_or t.chain.items end 0) high there) in
            absurd (is-end.after end (get_or t.chain.items end 0) (omega arith) there (ordered-trans m (get_or t.chain.items end 0) i j a o))

    by-until : (s : Strand) (u : Option ℕ) → s.until ≡ u → IsStrand m j t.chain.items s → IsFound m j end needs s → IsIn i (places s) → MayBeUntil m t.chain.items (places s) u → IsCovered (IsOrdered m) needs i
    by-until s None is-until strand f h low = f (record { from = beside s strand h; until = subst (IsNotBelow end) (sym is-until) tt }) i h o
    by-until s (Some u) is-until strand f h low = on2 (cases_lt u end)
      where
        on2 : (u < end) ⊎ (end ≤ u) → IsCovered (IsOrdered m) needs i
        on2 (inl lower) = below u low.next lower low.at (inr (low.ordered i h))
        on2 (inr higher) = f (record { from = beside s strand h; until = subst (IsNotBelow end) (sym is-until) higher }) i h o

    by : IsOn t i → IsCovered (IsOrdered m) needs i
    by (inl h) = chain-covered m j t.chain.items end needs is.chain is-end last i h o
    by (inr h) =
        let b = one-in (IsBlock m j t.chain.items) (IsBlockFound m j end needs) (IsOnBlock i) t.blocks.items is.blocks found h in
        let r = one-in (IsStrand m j t.chain.items) (IsFound m j end needs) (λ (s : Strand). IsIn i (places s)) b.0.strands.items b.1.strands b.2 b.3 in
        by-until r.0 r.0.until refl r.1 r.2 r.3 r.1.low
