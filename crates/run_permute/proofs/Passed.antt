-- Blocks that are passed over at once.
use Rattle.std.proofs.Common.{◌≡◌, ℕ, zero, suc, ◌+◌, ◌-◌, ◌<◌, ◌≤◌, List, [], ◌∷◌, ◌++◌, length, take, drop, refl, sym, ap, ◌∙◌, subst, arith, ◌⊎◌, inl, inr, Some, None, Option}
use Rattle.std.specs.Prelude.{slice_index_or, slice_set, Vec}
use Rattle.std.specs.Vec.{with_items}
use Rattle.std.specs.declared.alloc.Global.{Global}
use Rattle.std.proofs.lemmas.List.{length-set, length_push, take-append-le, take-set-le}
use Rattle.cell_machine.proofs.AllTwo.{whole}
use Rattle.cell_machine.specs.Run.{Ran}
use Rattle.run_permute.specs.SettledLists.{Each, AreChanged}
use Rattle.run_permute.proofs.SettledChanges.{changed-long}
use Rattle.run_permute.proofs.SettledEntries.{each-on}
use Rattle.run_permute.specs.Lists.{IsOneChanged}
use Rattle.run_permute.specs.Tracks.{IsBeside, IsBlockClosed, IsBlockFound, IsBlockLonger, IsBounded, IsFound, IsNotAbove, IsPast, IsSpanned, IsWithinBounds}
use Rattle.run_permute.specs.declared.block.Block.{Block}
use Rattle.run_permute.specs.declared.strand.Strand.{Strand}
use Rattle.run_permute.specs.declared.past.Past.{Past}
use Rattle.run_permute.proofs.Bounds.{none-closed}
use Rattle.run_permute.proofs.Ones.{each-two}

-- ---- the first entries of a list and the others

pub each-drop : {X : Type 0} (P : X → Type 0) (n : ℕ) (xs : List X) → Each P xs → Each P (drop n xs)
each-drop P zero xs h = h
each-drop P (suc n) [] h = tt
each-drop P (suc n) (x ∷ xs) h = each-drop P n xs h.1

each-take : {X : Type 0} (P : X → Type 0) (n : ℕ) (xs : List X) → Each P xs → Each P (take n xs)
each-take P zero xs h = tt
each-take P (suc n) [] h = tt
each-take P (suc n) (x ∷ xs) h = (h.0, each-take P n xs h.1)

-- of the first ones, of fewer
each-first : {X : Type 0} (P : X → Type 0) (k n : ℕ) (xs : List X) → k ≤ n → Each P (take n xs) → Each P (take k xs)
each-first P zero n xs low h = tt
each-first P (suc k) zero xs low h = absurd (omega arith)
each-first P (suc k) (suc n) [] low h = tt
each-first P (suc k) (suc n) (x ∷ xs) low h = (h.0, each-first P k n xs (omega arith) h.1)

-- a property of the first n that holds of the others too
each-rest : {X : Type 0} (P : X → Type 0) (n : ℕ) (xs : List X) → Each P (take n xs) → Each P (drop n xs) → Each P xs
each-rest P zero xs first rest = rest
each-rest P (suc n) [] first rest = tt
each-rest P (suc n) (x ∷ xs) first rest = (first.0, each-rest P n xs first.1 rest)

-- of one entry more
each-more : {X : Type 0} (P Q : X → Type 0) (n : ℕ) (xs : List X) (d : X) → ((x : X) → P x → Q x) → n < length xs → Each P (take n xs) → Q (slice_index_or xs n d) → Each Q (take (suc n) xs)
each-more P Q n [] d f low first next = absurd (omega arith)
each-more P Q zero (x ∷ xs) d f low first next = (next, tt)
each-more P Q (suc n) (x ∷ xs) d f low first next = (f x first.0, each-more P Q n xs d f (omega arith) first.1 next)

-- where it goes over to what each became
first-changed : {X : Type 0} (R : X → X → Type 0) (P : X → Type 0) (k n : ℕ) (xs ys : List X) → ((x y : X) → R x y → P x → P y) → AreChanged R n xs ys → Each P (take k xs) → Each P (take k ys)
first-changed R P zero n xs ys go changed first = tt
first-changed R P (suc k) zero xs ys go changed first = subst (λ zs. Each P (take (suc k) zs)) (sym changed) first
first-changed R P (suc k) (suc n) [] ys go changed first = subst (λ zs. Each P (take (suc k) zs)) (sym changed) first
first-changed R P (suc k) (suc n) (x ∷ xs) [] go changed first = tt
first-changed R P (suc k) (suc n) (x ∷ xs) (y ∷ ys) go changed first = (go x y changed.0 first.0, first-changed R P k n xs ys go changed.1 first.1)

-- ---- blocks that are past

-- a step is beside an end only where the bounds around it are
span-beside : (low top from end : ℕ) (high until : Option ℕ) → low ≤ from → IsNotAbove (Some top) high → IsNotAbove high until → IsBeside from until end → IsBeside low (Some top) end
span-beside low top from end None until l h u beside = absurd h
span-beside low top from end (Some high) None l h u beside = absurd u
span-beside low top from end (Some high) (Some until) l h u beside =
    record {
      from = (let b : from ≤ end = beside.from in omega arith);
      until = (let b : end ≤ until = beside.until in omega arith);
    }

none-found : (m : Ran) (j end : ℕ) (needs : List ℕ) (p : Past) (b : Block) → (IsBeside p.low (Some p.high) end → ⊥) → IsSpanned p b → IsBounded b → IsBlockFound m j end needs b
none-found m j end needs p b apart spanned bounded =
    each-on (IsWithinBounds b.low b.high) (IsFound m j end needs) b.strands.items
    (λ (l : Strand) within beside i h o. absurd (apart (span-beside p.low p.high l.from end b.high l.until (let low : p.low ≤ b.low = spanned.low in let from : b.low ≤ l.from = within.low in omega arith) spanned.high within.high beside)))
    bounded

each-none : (m : Ran) (j end : ℕ) (needs : List ℕ) (p : Past) (bs : List Block) → (IsBeside p.low (Some p.high) end → ⊥) → Each (IsSpanned p) bs → Each IsBounded bs → Each (IsBlockFound m j end needs) bs
each-none m j end needs p bs apart spanned bounded = each-two (IsSpanned p) IsBounded (IsBlockFound m j end needs) bs (λ b s h. none-found m j end needs p b apart s h) spanned bounded

-- what is found in the blocks behind those passed over is found in all
pub past-found : (m : Ran) (j end passed : ℕ) (needs : List ℕ) (p : Past) (bs : List Block) → passed ≤ p.blocks → (0 < passed → IsBeside p.low (Some p.high) end → ⊥) → IsPast p bs → Each IsBounded bs → Each (IsBlockFound m j end needs) (drop passed bs) → Each (IsBlockFound m j end needs) bs
past-found m j end zero needs p bs within apart past bounded found = found
past-found m j end (suc k) needs p bs within apart past bounded found =
    each-rest (IsBlockFound m j end needs) (suc k) bs
    (each-none m j end needs p (take (suc k) bs) (apart (omega arith)) (each-first (IsSpanned p) (suc k) p.blocks bs within past.each) (each-take IsBounded (suc k) bs bounded))
    found

-- ---- as the blocks change

-- closed or not, blocks with bounds are as they may be
pub front-closed : (m : Ran) (j index n : ℕ) (bs : List Block) → Each IsBounded bs → AreChanged (IsBlockClosed m j index) n bs bs
front-closed m j index zero bs bounded = refl
front-closed m j index (suc n) [] bounded = refl
front-closed m j index (suc n) (b ∷ bs) bounded = (none-closed m j index b bounded.0, front-closed m j index n bs bounded.1)

spanned-closed : (m : Ran) (j index : ℕ) (p : Past) (b n : Block) → IsBlockClosed m j index b n → IsSpanned p b → IsSpanned p n
spanned-closed m j index p b n closed spanned = on closed.kept
  where
    on : (b.high ≡ None) ⊎ (n ≡ b) → IsSpanned p n
    on (inl none) = absurd (subst (IsNotAbove (Some p.high)) none spanned.high)
    on (inr same) = subst (IsSpanned p) (sym same) spanned

pub past-closed : (m : Ran) (j index : ℕ) (p : Past) (bs ns : List Block) → AreChanged (IsBlockClosed m j index) (length bs) bs ns → IsPast p bs → IsPast p ns
past-closed m j index p bs ns changed past =
    let long = changed-long (IsBlockClosed m j index) (length bs) bs ns changed in
    record {
      within = subst (λ n. p.blocks ≤ n - 1) (sym long) past.within;
      each = first-changed (IsBlockClosed m j index) (IsSpanned p) p.blocks (length bs) bs ns (λ b n. spanned-closed m j index p b n) changed past.each;
    }

pub closed-items : (m : Ran) (j index : ℕ) (blocks : Vec Block Global) (ns : List Block) → AreChanged (IsBlockClosed m j index) (length blocks.items) blocks.items ns → (with_items blocks ns).items ≡ ns
closed-items m j index blocks ns changed = whole blocks.len ns blocks.items (blocks.ok.0 ∙ sym (changed-long (IsBlockClosed m j index) (length blocks.items) blocks.items ns changed))

pub past-few : (p : Past) (bs : List Block) → IsPast p bs → p.blocks ≤ length bs
past-few p bs past = let within : p.blocks ≤ length bs - 1 = past.within in omega arith

pub past-set : (p : Past) (bs : List Block) (k : ℕ) (n : Block) → length bs ≤ k + 1 → IsPast p bs → IsPast p (slice_set bs k n)
past-set p bs k n last past =
    let within : p.blocks ≤ length bs - 1 = past.within in
    record {
      within = subst (λ n. p.blocks ≤ n - 1) (sym (length-set bs k n)) within;
      each = subst (Each (IsSpanned p)) (sym (take-set-le p.blocks bs k n (omega arith))) past.each;
    }

-- ---- with another entry

first-set : {X : Type 0} (P : X → Type 0) (n : ℕ) (xs : List X) (k : ℕ) (y : X) → (P (slice_index_or xs k y) → P y) → Each P (take n xs) → Each P (take n (slice_set xs k y))
first-set P zero xs k y go h = tt
first-set P (suc n) [] k y go h = tt
first-set P (suc n) (x ∷ xs) zero y go h = (go h.0, h.1)
first-set P (suc n) (x ∷ xs) (suc k) y go h = (h.0, first-set P n xs k y go h.1)

pub past-longer : (m : Ran) (j : ℕ) (p : Past) (bs ns : List Block) → IsOneChanged (IsBlockLonger m j) bs ns → IsPast p bs → IsPast p ns
past-longer m j p bs ns one past =
    subst (IsPast p) (sym one.is)
    (record {
      within = subst (λ n. p.blocks ≤ n - 1) (sym (length-set bs one.index one.entry)) past.within;
      each = first-set (IsSpanned p) p.blocks bs one.index one.entry spanned past.each;
    })
  where
    b : Block
    b = slice_index_or bs one.index one.entry

    spanned : IsSpanned p b → IsSpanned p one.entry
    spanned s =
        record {
          low = subst (λ l. p.low ≤ l) (sym (ap (λ (x : Block). x.low) one.changed.rest)) s.low;
          high = subst (IsNotAbove (Some p.high)) (sym (ap (λ (x : Block). x.high) one.changed.rest)) s.high;
        }

pub past-push : (p : Past) (bs : List Block) (n : Block) → IsPast p bs → IsPast p (bs ++ n ∷ [])
past-push p bs n past =
    let within : p.blocks ≤ length bs - 1 = past.within in
    let long = length_push bs n in
    record {
      within = omega (arith, within, long);
      each = subst (Each (IsSpanned p)) (sym (take-append-le p.blocks bs (n ∷ []) (omega arith))) past.each;
    }
