-- How a write changes the list that pages represent, and where its next digest is that isn't 0.
use Rattle.std.proofs.Common.{◌≡◌, ℕ, zero, suc, ◌+◌, ◌*◌, ◌-◌, ◌/◌, ◌%◌, ◌<◌, ◌≤◌, ap, refl, sym, subst, ◌∙◌, List, [], ◌∷◌, ◌++◌, length, inl, inr, arith, get_or-set_other}
use Rattle.std.specs.Prelude.{◌⊎◌, max, replicate, slice_index, slice_index_or, slice_set}
use Rattle.std.proofs.lemmas.Bool.{cases_eq, cases_lt}
use Rattle.std.proofs.lemmas.List.{get_or-replicate, get_or-set_same, get_or_past, length-replicate, length-set, set-get_or}
use Rattle.std.proofs.lemmas.List.FromFn.{fill_by_all, get_or-map-range_with_len, length-map-range_with_len}
use Rattle.digest_pages.specs.Nexts.{IsNext}
use Rattle.digest_pages.specs.Pages.{ArePages, IsPut, digest_at, digests_in}

-- zeros after a list read like its end
pub zeros_after : (xs : List ℕ) (n k : ℕ) → slice_index (xs ++ replicate n 0) k ≡ slice_index xs k
zeros_after [] n k = zeros n k
  where
    zeros : (n k : ℕ) → slice_index (replicate n 0) k ≡ 0
    zeros zero k = refl
    zeros (suc n) zero = refl
    zeros (suc n) (suc k) = zeros n k
zeros_after (x ∷ xs) n zero = refl
zeros_after (x ∷ xs) n (suc k) = zeros_after xs n k

-- ---- the list

pub length_in : (count : ℕ) (pages : List (List ℕ)) → length (digests_in count pages) ≡ count
unfolding digests_in
length_in count pages = length-map-range_with_len (digest_at pages) 0 count

pub inside_of : (count : ℕ) (pages : List (List ℕ)) (xs : List ℕ) (n : ℕ) → digests_in count pages ≡ xs → n < length xs → n < count
inside_of count pages xs n is low = subst (λ k. n < k) (sym (ap length is) ∙ length_in count pages) low

pub list_is : (count : ℕ) (pages : List (List ℕ)) (xs : List ℕ) → length xs ≡ count → ((k : ℕ) → k < count → slice_index xs k ≡ digest_at pages k) → xs ≡ digests_in count pages
unfolding digests_in
list_is count pages xs long are = fill_by_all (digest_at pages) xs count 0 long are

pub at_index : (count : ℕ) (pages : List (List ℕ)) → ArePages count pages → (n : ℕ) → slice_index (digests_in count pages) n ≡ digest_at pages n
unfolding digests_in
at_index count pages are n = on (cases_lt n count)
  where
    on : (n < count) ⊎ (count ≤ n) → slice_index (digests_in count pages) n ≡ digest_at pages n
    on (inl low) = get_or-map-range_with_len (digest_at pages) 0 count n n 0 low (omega arith)
    on (inr high) = get_or_past (digests_in count pages) n 0 (subst (λ l. l ≤ n) (sym (length_in count pages)) high) ∙ sym (are.beyond n high)

pub none_written : (count : ℕ) → digests_in count [] ≡ replicate count 0
none_written count = sym (list_is count [] (replicate count 0) (length-replicate count 0) (λ k low. get_or-replicate count k 0 0 low))

-- ---- other pages that read the same

abbrev pub IsGrown : List (List ℕ) → List (List ℕ) → Type 0
IsGrown old new = (k : ℕ) → slice_index_or new k [] ≡ slice_index_or old k []

pub grown_at : (old new : List (List ℕ)) → IsGrown old new → (n : ℕ) → digest_at new n ≡ digest_at old n
grown_at old new same n = ap (λ page. slice_index page (n % 256)) (same (n / 256))

pub grown_in : (count : ℕ) (old new : List (List ℕ)) → ArePages count old → IsGrown old new → digests_in count new ≡ digests_in count old
grown_in count old new are same = sym (list_is count new (digests_in count old) (length_in count old) (λ k low. at_index count old are k ∙ sym (grown_at old new same k)))

-- ---- one is written

pub put_here : (pages : List (List ℕ)) (index digest : ℕ) (page : List ℕ) → index / 256 < length pages → IsPut (index % 256) digest (slice_index_or pages (index / 256) []) page → digest_at (slice_set pages (index / 256) page) index ≡ digest
put_here pages index digest page there put = ap (λ p. slice_index p (index % 256)) (get_or-set_same pages (index / 256) page [] there) ∙ put.here

pub put_left : (pages : List (List ℕ)) (index digest : ℕ) (page : List ℕ) → index / 256 < length pages → IsPut (index % 256) digest (slice_index_or pages (index / 256) []) page
    → (n : ℕ) → (n ≡ index → ⊥) → digest_at (slice_set pages (index / 256) page) n ≡ digest_at pages n
put_left pages index digest page there put n other = by (cases_eq (n / 256) (index / 256))
  where
    by : (n / 256 ≡ index / 256) ⊎ (n / 256 ≡ index / 256 → ⊥) → digest_at (slice_set pages (index / 256) page) n ≡ digest_at pages n
    by (inl same) =
        ap (λ q. slice_index (slice_index_or (slice_set pages (index / 256) page) q []) (n % 256)) same
        ∙ ap (λ p. slice_index p (n % 256)) (get_or-set_same pages (index / 256) page [] there)
        ∙ put.left (n % 256) (λ e. other (omega (arith, same, e)))
        ∙ ap (λ q. slice_index (slice_index_or pages q []) (n % 256)) (sym same)
    by (inr ne) = ap (λ p. slice_index p (n % 256)) (get_or-set_other pages (index / 256) (n / 256) page [] ne)

pub put_in : (count : ℕ) (old pages : List (List ℕ)) (index digest : ℕ) (page : List ℕ) → ArePages count old → IsGrown old pages → index < count → index / 256 < length pages
    → IsPut (index % 256) digest (slice_index_or pages (index / 256) []) page → digests_in count (slice_set pages (index / 256) page) ≡ slice_set (digests_in count old) index digest
put_in count old pages index digest page are same inside there put =
    sym (list_is count (slice_set pages (index / 256) page) (slice_set (digests_in count old) index digest) (length-set (digests_in count old) index digest ∙ length_in count old) (λ k low. by k (cases_eq k index)))
  where
    by : (k : ℕ) → (k ≡ index) ⊎ (k ≡ index → ⊥) → slice_index (slice_set (digests_in count old) index digest) k ≡ digest_at (slice_set pages (index / 256) page) k
    by k (inl e) =
        subst (λ i. slice_index (slice_set (digests_in count old) index digest) i ≡ digest_at (slice_set pages (index / 256) page) i) (sym e)
        (get_or-set_same (digests_in count old) index digest 0 (subst (λ l. index < l) (sym (length_in count old)) inside) ∙ sym (put_here pages index digest page there put))
    by k (inr ne) =
        get_or-set_other (digests_in count old) index k digest 0 ne ∙ at_index count old are k
        ∙ sym (put_left pages index digest page there put k ne ∙ grown_at old pages same k)

pub put_are : (count : ℕ) (old pages : List (List ℕ)) (index digest : ℕ) (page : List ℕ) → ArePages count old → IsGrown old pages → index < count → index / 256 < length pages
    → 256 * length pages < count + 256 → IsPut (index % 256) digest (slice_index_or pages (index / 256) []) page → ArePages count (slice_set pages (index / 256) page)
put_are count old pages index digest page are same inside there few put = record {
  short = are.short;
  few = subst (λ l. 256 * l < count + 256) (sym (length-set pages (index / 256) page)) few;
  beyond = λ n high. put_left pages index digest page there put n (λ e. absurd (omega (arith, e, high, inside))) ∙ grown_at old pages same n ∙ are.beyond n high;
}

pub grown_are : (count : ℕ) (old pages : List (List ℕ)) → ArePages count old → IsGrown old pages → 256 * length pages < count + 256 → ArePages count pages
grown_are count old pages are same few = record { short = are.short; few = few; beyond = λ n high. grown_at old pages same n ∙ are.beyond n high }

pub few_more : (count pages grown index : ℕ) → 256 * pages < count + 256 → grown ≤ max pages (index / 256 + 1) → index < count → 256 * grown < count + 256
few_more count pages grown index few more inside = omega arith

-- a page that is written back unchanged
pub same_back : (old pages : List (List ℕ)) (at : ℕ) (page : List ℕ) → IsGrown old pages → page ≡ slice_index_or pages at [] → IsGrown old (slice_set pages at page)
same_back old pages at page same is k = ap (λ p. slice_index_or (slice_set pages at p) k []) is ∙ ap (λ ps. slice_index_or ps k []) (set-get_or pages at []) ∙ same k

-- ---- the next one that isn't 0

-- all digests from `from` on are 0, up to the page
abbrev pub IsPassed : List (List ℕ) → ℕ → ℕ → Type 0
IsPassed pages from page = (n : ℕ) → from ≤ n → n < page * 256 → digest_at pages n ≡ 0

pub digest_of : (pages : List (List ℕ)) (page at : ℕ) → at < 256 → digest_at pages (page * 256 + at) ≡ slice_index (slice_index_or pages page []) at
digest_of pages page at low =
    let q : (page * 256 + at) / 256 ≡ page = omega (arith, low) in
    let r : (page * 256 + at) % 256 ≡ at = omega (arith, low) in
    ap (λ p. slice_index (slice_index_or pages p []) ((page * 256 + at) % 256)) q ∙ ap (slice_index (slice_index_or pages page [])) r

pub none_passed : (pages : List (List ℕ)) (from : ℕ) → IsPassed pages from (from / 256)
none_passed pages from n high low = absurd (omega (arith, high, low))

pub passed_more : (pages : List (List ℕ)) (from page : ℕ) (digests : List ℕ) → IsPassed pages from page → digests ≡ slice_index_or pages page []
    → ((k : ℕ) → from - page * 256 ≤ k → slice_index digests k ≡ 0) → IsPassed pages from (page + 1)
passed_more pages from page digests passed is zeros n high low = on (cases_lt n (page * 256))
  where
    on : (n < page * 256) ⊎ (page * 256 ≤ n) → digest_at pages n ≡ 0
    on (inl under) = passed n high under
    on (inr over) =
        let back : n ≡ page * 256 + (n - page * 256) = omega (arith, over) in
        ap (digest_at pages) back ∙ digest_of pages page (n - page * 256) (omega (arith, over, low)) ∙ ap (λ p. slice_index p (n - page * 256)) (sym is)
        ∙ zeros (n - page * 256) (omega (arith, high, over))

pub next_at : (count : ℕ) (pages : List (List ℕ)) (from page at : ℕ) (digests : List ℕ) → ArePages count pages → IsPassed pages from page → digests ≡ slice_index_or pages page []
    → at < 256 → IsNext digests (from - page * 256) at → IsNext (digests_in count pages) from (page * 256 + at)
next_at count pages from page at digests are passed is low next = record {
  from = (let first = next.from in omega (arith, first));
  written = λ zero. next.written (ap (λ p. slice_index p at) is ∙ sym (digest_of pages page at low) ∙ sym (at_index count pages are (page * 256 + at)) ∙ zero);
  least = λ k high under. at_index count pages are k ∙ on k high under (cases_lt k (page * 256));
}
  where
    on : (k : ℕ) → from ≤ k → k < page * 256 + at → (k < page * 256) ⊎ (page * 256 ≤ k) → digest_at pages k ≡ 0
    on k high under (inl front) = passed k high front
    on k high under (inr over) =
        let back : k ≡ page * 256 + (k - page * 256) = omega (arith, over) in
        ap (digest_at pages) back ∙ digest_of pages page (k - page * 256) (omega (arith, over, under, low)) ∙ ap (λ p. slice_index p (k - page * 256)) (sym is)
        ∙ next.least (k - page * 256) (omega (arith, high, over)) (omega (arith, under, over))

pub next_inside : (count : ℕ) (pages : List (List ℕ)) (from n : ℕ) → ArePages count pages → IsNext (digests_in count pages) from n → n < count
next_inside count pages from n are next = on (cases_lt n count)
  where
    on : (n < count) ⊎ (count ≤ n) → n < count
    on (inl low) = low
    on (inr high) = absurd (next.written (at_index count pages are n ∙ are.beyond n high))

pub none_next : (count : ℕ) (pages : List (List ℕ)) (from page : ℕ) → ArePages count pages → IsPassed pages from page → length pages ≤ page → (k : ℕ) → from ≤ k → slice_index (digests_in count pages) k ≡ 0
none_next count pages from page are passed all k high = at_index count pages are k ∙ on (cases_lt k (page * 256))
  where
    on : (k < page * 256) ⊎ (page * 256 ≤ k) → digest_at pages k ≡ 0
    on (inl under) = passed k high under
    on (inr over) = ap (λ p. slice_index p (k % 256)) (get_or_past pages (k / 256) [] (omega (arith, over, all)))
