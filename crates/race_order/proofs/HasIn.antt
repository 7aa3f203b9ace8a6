-- What the buckets have.
use Rattle.std.proofs.Common.{◌≡◌, ℕ, zero, suc, ◌+◌, ◌<◌, ◌≤◌, Bool, true, false, ◌||◌, ◌&&◌, List, [], ◌∷◌, ◌++◌, length, get_or, set, take, replicate, ◌⊎◌, inl, inr, refl, sym, ap, ◌∙◌, arith}
use Rattle.std.specs.Prelude.{slice_index}
use Rattle.std.proofs.lemmas.List.{get_or-set_other, get_or-set_same, take_all}
use Rattle.std.proofs.lemmas.Bool.{cases_eq, false_from_ne_true, and_parts}
use Rattle.std.specs.List.{list_any}
use Rattle.order_sets.specs.declared.facts.At.{At}
use Rattle.race_order.specs.declared.buckets.Bucket.{Bucket}
use Rattle.race_order.specs.declared.roles.QueueRole.{QueueRole}
use Rattle.race_order.specs.Tables.{same_role, number, place_of, bucket_has, has_in, named_has}
use Rattle.race_order.proofs.SameRoles.{same_role_is}

pub has_there : (bs : List Bucket) (k : ℕ) (d : Bucket) (r : QueueRole) (at : At) → k < length bs → has_in bs k r at ≡ bucket_has r at (get_or bs k d)
has_there [] k d r at low = absurd (omega arith)
has_there (b ∷ bs) zero d r at low = refl
has_there (b ∷ bs) (suc k) d r at low = has_there bs k d r at (omega arith)

pub has_past : (bs : List Bucket) (k : ℕ) (r : QueueRole) (at : At) → length bs ≤ k → has_in bs k r at ≡ false
has_past [] k r at low = refl
has_past (b ∷ bs) zero r at low = absurd (omega arith)
has_past (b ∷ bs) (suc k) r at low = has_past bs k r at (omega arith)

-- an empty bucket behind the others
pub has_longer : (bs : List Bucket) (b : Bucket) (k : ℕ) (r : QueueRole) (at : At) → b.rows.items ≡ [] → has_in (bs ++ (b ∷ [])) k r at ≡ has_in bs k r at
has_longer [] b zero r at e = ap (list_any _) e
has_longer [] b (suc k) r at e = refl
has_longer (x ∷ bs) b zero r at e = refl
has_longer (x ∷ bs) b (suc k) r at e = has_longer bs b k r at e

or_false : (a x : Bool) → x ≡ false → a ≡ (a || x)
or_false true x e = refl
or_false false x e = sym e

-- a bucket that has more
pub has_set : (bs : List Bucket) (k j : ℕ) (b d : Bucket) (r : QueueRole) (at : At) (x : Bool) → k < length bs
    → bucket_has r at b ≡ (bucket_has r at (get_or bs k d) || x) → ((j ≡ k → ⊥) → x ≡ false) → has_in (set bs k b) j r at ≡ (has_in bs j r at || x)
has_set [] k j b d r at x low e h = absurd (omega arith)
has_set (y ∷ ys) zero zero b d r at x low e h = e
has_set (y ∷ ys) zero (suc j) b d r at x low e h = or_false (has_in ys j r at) x (h (λ q. omega arith))
has_set (y ∷ ys) (suc k) zero b d r at x low e h = or_false (bucket_has r at y) x (h (λ q. omega arith))
has_set (y ∷ ys) (suc k) (suc j) b d r at x low e h = has_set ys k j b d r at x (omega arith) e (λ ne. h (λ q. ne (omega arith)))

-- the bucket of a role, whose set has more
named_set : (bs : List Bucket) (k j : ℕ) (b d : Bucket) (r : QueueRole) (at : At) (x : Bool) → k < length bs
    → bucket_has r at b ≡ (bucket_has r at (get_or bs k d) || x) → ((j ≡ k + 1 → ⊥) → x ≡ false) → named_has (set bs k b) j r at ≡ (named_has bs j r at || x)
named_set bs k zero b d r at x low e h = or_false false x (h (λ q. omega (arith, q)))
named_set bs k (suc j) b d r at x low e h = has_set bs k j b d r at x low e (λ ne. h (λ q. ne (omega (arith, q))))

pub has_more : (places : List ℕ) (bs : List Bucket) (k : ℕ) (role : QueueRole) (b d : Bucket) (r : QueueRole) (at : At) (x : Bool) → place_of places role ≡ k + 1 → k < length bs
    → bucket_has r at b ≡ (bucket_has r at (get_or bs k d) || (same_role role r && x)) → named_has (set bs k b) (place_of places r) r at ≡ (named_has bs (place_of places r) r at || (same_role role r && x))
has_more places bs k role b d r at x is low e =
    named_set bs k (place_of places r) b d r at (same_role role r && x) low e
    (λ ne. false_from_ne_true _ (λ u. ne (sym (ap (place_of places) (same_role_is r role (and_parts (same_role role r) x u).0)) ∙ is)))

-- and one that has the same
pub has_kept : (bs : List Bucket) (k j : ℕ) (b d : Bucket) (r : QueueRole) (at : At) → k < length bs → bucket_has r at b ≡ bucket_has r at (get_or bs k d) → has_in (set bs k b) j r at ≡ has_in bs j r at
has_kept [] k j b d r at low e = absurd (omega arith)
has_kept (y ∷ ys) zero zero b d r at low e = e
has_kept (y ∷ ys) zero (suc j) b d r at low e = refl
has_kept (y ∷ ys) (suc k) zero b d r at low e = refl
has_kept (y ∷ ys) (suc k) (suc j) b d r at low e = has_kept ys k j b d r at (omega arith) e

pub named_kept : (bs : List Bucket) (k j : ℕ) (b d : Bucket) (r : QueueRole) (at : At) → k < length bs → bucket_has r at b ≡ bucket_has r at (get_or bs k d) → named_has (set bs k b) j r at ≡ named_has bs j r at
named_kept bs k zero b d r at low e = refl
named_kept bs k (suc j) b d r at low e = has_kept bs k j b d r at low e

-- ---- where the buckets are

-- a role whose bucket is there
pub named_there : (bs : List Bucket) (n k : ℕ) (d : Bucket) (r : QueueRole) (at : At) → n ≡ k + 1 → k < length bs → named_has bs n r at ≡ bucket_has r at (get_or bs k d)
named_there bs n k d r at is low = let next : n ≡ suc k = omega (arith, is) in ap (λ i. named_has bs i r at) next ∙ has_there bs k d r at low

-- a number past the end
pub no_place : (places : List ℕ) (k : ℕ) → length places ≤ k → slice_index places k ≡ 0
no_place [] k far = refl
no_place (x ∷ xs) zero far = absurd (omega (arith, far))
no_place (x ∷ xs) (suc k) far = no_place xs k (omega (arith, far))

-- a role that has none
named_past : (bs : List Bucket) (n : ℕ) (r : QueueRole) (at : At) → (n ≡ 0) ⊎ (length bs < n) → named_has bs n r at ≡ false
named_past bs zero r at out = refl
named_past bs (suc k) r at (inl e) = absurd (omega (arith, e))
named_past bs (suc k) r at (inr far) = has_past bs k r at (omega (arith, far))

pub unplaced : (places : List ℕ) (bs : List Bucket) (n : ℕ) (role r : QueueRole) (at : At) → place_of places role ≡ n → (n ≡ 0) ⊎ (length bs < n) → number r ≡ number role → named_has bs (place_of places r) r at ≡ false
unplaced places bs n role r at is out same = ap (λ k. named_has bs (slice_index places k) r at) same ∙ (ap (λ k. named_has bs k r at) is ∙ named_past bs n r at out)

named_longer : (bs : List Bucket) (b : Bucket) (n : ℕ) (r : QueueRole) (at : At) → b.rows.items ≡ [] → named_has (bs ++ (b ∷ [])) n r at ≡ named_has bs n r at
named_longer bs b zero r at e = refl
named_longer bs b (suc k) r at e = has_longer bs b k r at e

-- an empty bucket behind the others, for a number that had none
pub has_placed : (places : List ℕ) (bs : List Bucket) (slot n j : ℕ) (b : Bucket) (r : QueueRole) (at : At) → b.rows.items ≡ [] → slot < length places → n ≡ length bs + 1 → (j ≡ slot → named_has bs (slice_index places j) r at ≡ false)
    → named_has (bs ++ (b ∷ [])) (slice_index (set places slot n) j) r at ≡ named_has bs (slice_index places j) r at
has_placed places bs slot n j b r at empty low is none = go (cases_eq j slot)
  where
    go : (j ≡ slot) ⊎ (j ≡ slot → ⊥) → named_has (bs ++ (b ∷ [])) (slice_index (set places slot n) j) r at ≡ named_has bs (slice_index places j) r at
    go (inl here) =
        let next : n ≡ suc (length bs) = omega (arith, is) in
        ap (λ i. named_has (bs ++ (b ∷ [])) (slice_index (set places slot n) i) r at) here
        ∙ (ap (λ k. named_has (bs ++ (b ∷ [])) k r at) (get_or-set_same places slot n 0 low ∙ next)
        ∙ (has_longer bs b (length bs) r at empty
        ∙ (has_past bs (length bs) r at (omega arith) ∙ sym (none here))))
    go (inr ne) = ap (λ k. named_has (bs ++ (b ∷ [])) k r at) (get_or-set_other places slot j n 0 ne) ∙ named_longer bs b (slice_index places j) r at empty

zeros : (m k : ℕ) → slice_index (replicate m 0) k ≡ 0
zeros zero k = refl
zeros (suc m) zero = refl
zeros (suc m) (suc k) = zeros m k

pad : (xs : List ℕ) (m k : ℕ) → slice_index (xs ++ replicate m 0) k ≡ slice_index xs k
pad [] m k = zeros m k
pad (x ∷ xs) m zero = refl
pad (x ∷ xs) m (suc k) = pad xs m k

-- more numbers, which have no bucket
pub padded : (xs ys : List ℕ) (n m k : ℕ) → length xs ≤ n → ys ≡ take n xs ++ replicate m 0 → slice_index ys k ≡ slice_index xs k
padded xs ys n m k short is = ap (λ l. slice_index l k) (is ∙ ap (λ l. l ++ replicate m 0) (take_all n xs short)) ∙ pad xs m k
