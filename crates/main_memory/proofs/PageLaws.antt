-- How the bytes of pages are read and written.
use Rattle.std.proofs.Common.{◌≡◌, ℕ, zero, suc, ◌+◌, ◌*◌, ◌-◌, ◌/◌, ◌%◌, ◌<◌, ◌≤◌, ap, refl, sym, subst, ◌∙◌, List, [], ◌++◌, length, take, drop, slice_range, inl, inr, arith, length-append, length-drop, get_or-set_other}
use Rattle.std.specs.Prelude.{◌⊎◌, cond, replicate, slice_index, slice_set}
use Rattle.std.specs.List.{count_by}
use Rattle.std.proofs.lemmas.Bool.{cases_eq, cases_lt}
use Rattle.std.proofs.lemmas.List.{drop-drop, ext_get_or, get_or-replicate, get_or-set_same, get_or_append_left, get_or-append_right, length-replicate, length-set, length-take-le, drop-take, take-append-drop, take-take, take_all}
use Rattle.std.proofs.lemmas.List.Edits.{get_or-between, length-between, paste_all, paste-paste}
use Rattle.std.proofs.lemmas.List.FromFn.{fill_by_all, get_or-map-range_with_len, length-map-range_with_len}
use Rattle.std.proofs.lemmas.List.Sums.{count_by-le-length, sum_by-set}
use Rattle.std.proofs.lemmas.Slice.{take-put_mid}
use borrow.Rule.Slice.PartMut.{put_mid}
use Rattle.std.proofs.lemmas.Simd.{put_chunk_is, get_or-put_chunk_below, get_or-put_chunk_at, get_or-put_chunk_above}
use Rattle.std.proofs.Math.Seq.{paste}
use lib.Lanes.{put_chunk}
use Rattle.cell_base.specs.Bytes.{put, zeros}
use Rattle.main_memory.specs.Pages.{AreSame, ArePages, byte_at, byte_in, bytes_in, is_written}

-- ---- the list

pub length_in : (count : ℕ) (numbers kept : List ℕ) → length (bytes_in count numbers kept) ≡ count
unfolding bytes_in
length_in count numbers kept = length-map-range_with_len (byte_at numbers kept) 0 count

pub within_of : (count : ℕ) (numbers kept xs : List ℕ) (n : ℕ) → bytes_in count numbers kept ≡ xs → n ≤ length xs → n ≤ count
within_of count numbers kept xs n is within = subst (λ l. n ≤ l) (sym (ap length is) ∙ length_in count numbers kept) within

pub at_index : (count : ℕ) (numbers kept : List ℕ) (at : ℕ) → at < count → slice_index (bytes_in count numbers kept) at ≡ byte_at numbers kept at
unfolding bytes_in
at_index count numbers kept at low = get_or-map-range_with_len (byte_at numbers kept) 0 count at at 0 low (omega arith)

pub list_is : (count : ℕ) (numbers kept xs : List ℕ) → length xs ≡ count → ((at : ℕ) → at < count → slice_index xs at ≡ byte_at numbers kept at) → xs ≡ bytes_in count numbers kept
unfolding bytes_in
list_is count numbers kept xs long are = fill_by_all (byte_at numbers kept) xs count 0 long are

pub same_in : (count : ℕ) (numbers kept new_numbers new_kept : List ℕ) → AreSame numbers kept new_numbers new_kept → bytes_in count new_numbers new_kept ≡ bytes_in count numbers kept
same_in count numbers kept new_numbers new_kept same =
    sym (list_is count new_numbers new_kept (bytes_in count numbers kept) (length_in count numbers kept) (λ at low. at_index count numbers kept at low ∙ sym (same at)))

-- a number of a list of zeros
zero_at : (pages page : ℕ) → slice_index (replicate pages 0) page ≡ 0
zero_at zero page = refl
zero_at (suc pages) zero = refl
zero_at (suc pages) (suc page) = zero_at pages page

none_counted : (pages : ℕ) → count_by is_written (replicate pages 0) ≡ 0
none_counted zero = refl
none_counted (suc pages) = none_counted pages

pub none_in : (count pages : ℕ) (numbers kept : List ℕ) → numbers ≡ replicate pages 0 → bytes_in count numbers kept ≡ zeros count
unfolding zeros
none_in count pages numbers kept is =
    sym (list_is count numbers kept (replicate count 0) (length-replicate count 0)
    (λ at low. get_or-replicate count at 0 0 low ∙ sym (ap (λ n. byte_in kept n (at % 4096)) (ap (λ ns. slice_index ns (at / 4096)) is ∙ zero_at pages (at / 4096)))))

pub none_are : (pages : ℕ) (numbers kept : List ℕ) → pages ≤ 16385 → numbers ≡ replicate pages 0 → kept ≡ [] → ArePages numbers kept
none_are pages numbers kept few is empty = record {
  few = omega (arith, ap length is, length-replicate {A = ℕ} pages 0);
  whole = ap length empty ∙ ap (λ n. 4096 * n) (sym (ap (count_by is_written) is ∙ none_counted pages));
  within = λ page. (let e : slice_index numbers page ≡ 0 = ap (λ ns. slice_index ns page) is ∙ zero_at pages page in omega arith);
  apart = λ page other some same. (let e : slice_index numbers page ≡ 0 = ap (λ ns. slice_index ns page) is ∙ zero_at pages page in absurd (omega arith));
}

-- ---- reads

-- k bytes further on, in one page
further : (numbers kept : List ℕ) (at number k : ℕ) → at % 4096 + k < 4096 → slice_index numbers (at / 4096) ≡ number → byte_at numbers kept (at + k) ≡ byte_in kept number (at % 4096 + k)
further numbers kept at number k low is =
    let page : (at + k) / 4096 ≡ at / 4096 = omega arith in
    let offset : (at + k) % 4096 ≡ at % 4096 + k = omega arith in
    ap (λ p. byte_in kept (slice_index numbers p) ((at + k) % 4096)) page ∙ ap (λ n. byte_in kept n ((at + k) % 4096)) is ∙ ap (byte_in kept number) offset

long_range : (count : ℕ) (numbers kept : List ℕ) (at n : ℕ) → at + n ≤ count → length (slice_range (bytes_in count numbers kept) at (at + n)) ≡ n
long_range count numbers kept at n within =
    length-between (bytes_in count numbers kept) at (at + n) (subst (λ l. at + n ≤ l) (sym (length_in count numbers kept)) within) ∙ omega arith

range_at : (count : ℕ) (numbers kept : List ℕ) (at n k : ℕ) → at + n ≤ count → k < n → slice_index (slice_range (bytes_in count numbers kept) at (at + n)) k ≡ byte_at numbers kept (at + k)
range_at count numbers kept at n k within low =
    get_or-between (bytes_in count numbers kept) at (at + n) k 0 (omega arith) ∙ at_index count numbers kept (at + k) (omega arith)

-- a range of a page that was never written
pub unwritten : (count : ℕ) (numbers kept : List ℕ) (at n : ℕ) → at + n ≤ count → at % 4096 + n ≤ 4096 → slice_index numbers (at / 4096) ≡ 0
    → slice_range (bytes_in count numbers kept) at (at + n) ≡ replicate n 0
unwritten count numbers kept at n within one is =
    let long = long_range count numbers kept at n within in
    ext_get_or 0 (slice_range (bytes_in count numbers kept) at (at + n)) (replicate n 0) (long ∙ sym (length-replicate n 0))
    (λ k low. (let less : k < n = subst (λ l. k < l) long low in
    range_at count numbers kept at n k within less ∙ further numbers kept at 0 k (omega arith) is ∙ sym (get_or-replicate n k 0 0 less)))

-- a range of a kept page
pub written : (count : ℕ) (numbers kept : List ℕ) (at n index : ℕ) → at + n ≤ count → at % 4096 + n ≤ 4096 → slice_index numbers (at / 4096) ≡ suc index → index * 4096 + at % 4096 + n ≤ length kept
    → slice_range (bytes_in count numbers kept) at (at + n) ≡ slice_range kept (index * 4096 + at % 4096) (index * 4096 + at % 4096 + n)
written count numbers kept at n index within one is inside =
    let start = index * 4096 + at % 4096 in
    let long = long_range count numbers kept at n within in
    let size : length (slice_range kept start (start + n)) ≡ n = length-between kept start (start + n) inside ∙ omega arith in
    ext_get_or 0 (slice_range (bytes_in count numbers kept) at (at + n)) (slice_range kept start (start + n)) (long ∙ sym size)
    (λ k low. (let less : k < n = subst (λ l. k < l) long low in
    range_at count numbers kept at n k within less ∙ further numbers kept at (suc index) k (omega arith) is ∙ ap (slice_index kept) (omega arith)
    ∙ sym (get_or-between kept start (start + n) k 0 (omega arith))))

-- ---- a page is added

pub added_same : (numbers kept : List ℕ) (page index : ℕ) → ArePages numbers kept → page < length numbers → slice_index numbers page ≡ 0 → length kept ≡ index * 4096
    → AreSame numbers kept (slice_set numbers page (index + 1)) (kept ++ replicate 4096 0)
added_same numbers kept page index are there new long at = by (cases_eq (at / 4096) page)
  where
    old_in : (number : ℕ) → 4096 * number ≤ length kept → byte_in (kept ++ replicate 4096 0) number (at % 4096) ≡ byte_in kept number (at % 4096)
    old_in zero low = refl
    old_in (suc n) low = get_or_append_left kept (replicate 4096 0) 0 (n * 4096 + at % 4096) (omega arith)

    by : (at / 4096 ≡ page) ⊎ (at / 4096 ≡ page → ⊥) → byte_at (slice_set numbers page (index + 1)) (kept ++ replicate 4096 0) at ≡ byte_at numbers kept at
    by (inl e) =
        let number : slice_index (slice_set numbers page (index + 1)) (at / 4096) ≡ suc index = ap (slice_index (slice_set numbers page (index + 1))) e ∙ get_or-set_same numbers page (index + 1) 0 there ∙ omega arith in
        let past : index * 4096 + at % 4096 - length kept ≡ at % 4096 = omega arith in
        ap (λ n. byte_in (kept ++ replicate 4096 0) n (at % 4096)) number ∙ get_or-append_right kept (replicate 4096 0) (length kept) (index * 4096 + at % 4096) 0 refl (omega arith)
        ∙ ap (slice_index (replicate 4096 0)) past ∙ get_or-replicate 4096 (at % 4096) 0 0 (omega arith)
        ∙ sym (ap (λ n. byte_in kept n (at % 4096)) (ap (slice_index numbers) e ∙ new))
    by (inr ne) = ap (λ n. byte_in (kept ++ replicate 4096 0) n (at % 4096)) (get_or-set_other numbers page (at / 4096) (index + 1) 0 ne) ∙ old_in (slice_index numbers (at / 4096)) (are.within (at / 4096))

count_more : (numbers : List ℕ) (page index : ℕ) → page < length numbers → slice_index numbers page ≡ 0 → count_by is_written (slice_set numbers page (suc index)) ≡ count_by is_written numbers + 1
count_more numbers page index there new =
    let sum = sum_by-set (λ (n : ℕ). cond (is_written n) 1 0) numbers page (suc index) 0 there in
    let none = ap (λ (n : ℕ). cond {A = ℕ} (is_written n) 1 0) new in
    omega (arith, sum, none)

-- kept bytes that were made longer by a page of zeros
pub longer : (kept new : List ℕ) (n len : ℕ) → n ≡ length kept + 4096 → len ≡ length kept → new ≡ take n kept ++ replicate (n - len) 0 → new ≡ kept ++ replicate 4096 0
longer kept new n len long was is =
    let more : n - len ≡ 4096 = omega arith in
    is ∙ ap (λ k. take n kept ++ replicate k 0) more ∙ ap (λ front. front ++ replicate 4096 0) (take_all n kept (omega arith))

-- the kept pages have room for one more
pub has_room : (numbers kept : List ℕ) (page : ℕ) → ArePages numbers kept → page < length numbers → slice_index numbers page ≡ 0 → length kept + 4096 ≤ 4096 * length numbers
has_room numbers kept page are there new =
    let more = count_more numbers page 0 there new in
    let most = count_by-le-length is_written (slice_set numbers page 1) in
    omega (arith, more, most, length-set numbers page 1, are.whole)

pub added_are : (numbers kept : List ℕ) (page index : ℕ) → ArePages numbers kept → page < length numbers → slice_index numbers page ≡ 0 → length kept ≡ index * 4096
    → ArePages (slice_set numbers page (index + 1)) (kept ++ replicate 4096 0)
added_are numbers kept page index are there new long = record {
  few = subst (λ l. l ≤ 16385) (sym (length-set numbers page (index + 1))) are.few;
  whole = (let one : index + 1 ≡ suc index = omega arith in
      size ∙ (let more = count_more numbers page index there new in subst (λ i. length kept + 4096 ≡ 4096 * count_by is_written (slice_set numbers page i)) (sym one) (omega (arith, more, are.whole))));
  within = λ p. at p (cases_eq p page);
  apart = λ p q some same. apart p q some same (cases_eq p page) (cases_eq q page);
}
  where
    size : length (kept ++ replicate 4096 0) ≡ length kept + 4096
    size = length-append kept (replicate 4096 0) ∙ ap (λ n. length kept + n) (length-replicate {A = ℕ} 4096 0)

    here : (p : ℕ) → p ≡ page → slice_index (slice_set numbers page (index + 1)) p ≡ index + 1
    here p e = ap (slice_index (slice_set numbers page (index + 1))) e ∙ get_or-set_same numbers page (index + 1) 0 there

    other : (p : ℕ) → (p ≡ page → ⊥) → slice_index (slice_set numbers page (index + 1)) p ≡ slice_index numbers p
    other p ne = get_or-set_other numbers page p (index + 1) 0 ne

    at : (p : ℕ) → (p ≡ page) ⊎ (p ≡ page → ⊥) → 4096 * slice_index (slice_set numbers page (index + 1)) p ≤ length (kept ++ replicate 4096 0)
    at p (inl e) = omega (arith, here p e, size, long)
    at p (inr ne) = omega (arith, other p ne, size, are.within p)

    apart : (p q : ℕ) → 0 < slice_index (slice_set numbers page (index + 1)) p → slice_index (slice_set numbers page (index + 1)) p ≡ slice_index (slice_set numbers page (index + 1)) q
        → (p ≡ page) ⊎ (p ≡ page → ⊥) → (q ≡ page) ⊎ (q ≡ page → ⊥) → p ≡ q
    apart p q some same (inl e) (inl f) = e ∙ sym f
    apart p q some same (inl e) (inr ne) = absurd (omega (arith, same, here p e, other q ne, are.within q, long))
    apart p q some same (inr ne) (inl e) = absurd (omega (arith, same, here q e, other p ne, are.within p, long))
    apart p q some same (inr ne) (inr me) = are.apart p q (subst (λ n. 0 < n) (other p ne) some) (sym (other p ne) ∙ same ∙ other q me)

-- ---- writes

put_length : (xs part : List ℕ) (at : ℕ) → at + length part ≤ length xs → length (put xs at part) ≡ length xs
put_length xs part at inside =
    omega (arith, length-append (take at xs) (part ++ drop (at + length part) xs), length-append part (drop (at + length part) xs), length-drop (at + length part) xs, length-take-le at xs (omega arith))

is_chunk : (xs part : List ℕ) (at : ℕ) → at + length part ≤ length xs → put xs at part ≡ put_chunk at xs part
is_chunk xs part at inside = ap (λ rest. take at xs ++ (part ++ rest)) (sym (drop-drop (length part) at xs)) ∙ sym (put_chunk_is at xs part inside)

put_below : (xs part : List ℕ) (at k : ℕ) → at + length part ≤ length xs → k < at → slice_index (put xs at part) k ≡ slice_index xs k
put_below xs part at k inside low = ap (λ ys. slice_index ys k) (is_chunk xs part at inside) ∙ get_or-put_chunk_below at xs part k 0 low

put_at : (xs part : List ℕ) (at k : ℕ) → at + length part ≤ length xs → k < length part → slice_index (put xs at part) (at + k) ≡ slice_index part k
put_at xs part at k inside low = ap (λ ys. slice_index ys (at + k)) (is_chunk xs part at inside) ∙ get_or-put_chunk_at at xs part k 0 low inside

put_above : (xs part : List ℕ) (at k : ℕ) → at + length part ≤ length xs → at + length part ≤ k → slice_index (put xs at part) k ≡ slice_index xs k
put_above xs part at k inside high = ap (λ ys. slice_index ys k) (is_chunk xs part at inside) ∙ get_or-put_chunk_above at xs part k 0 high

-- what is put into a kept page is put at the addresses of that page
pub put_in : (count : ℕ) (numbers kept part : List ℕ) (at index : ℕ) → ArePages numbers kept → at + length part ≤ count → at % 4096 + length part ≤ 4096 → slice_index numbers (at / 4096) ≡ suc index
    → bytes_in count numbers (put kept (index * 4096 + at % 4096) part) ≡ put (bytes_in count numbers kept) at part
put_in count numbers kept part at index are within one is =
    sym (list_is count numbers (put kept (index * 4096 + at % 4096) part) (put (bytes_in count numbers kept) at part) (put_length (bytes_in count numbers kept) part at long ∙ length_in count numbers kept)
    (λ x low. by x low (cases_lt x at) (cases_lt x (at + length part))))
  where
    long : at + length part ≤ length (bytes_in count numbers kept)
    long = subst (λ l. at + length part ≤ l) (sym (length_in count numbers kept)) within

    inside : index * 4096 + at % 4096 + length part ≤ length kept
    inside = omega (arith, are.within (at / 4096), is)

    -- a byte that isn't in the range, by the number of its page
    left : (x number : ℕ) → slice_index numbers (x / 4096) ≡ number → (x < at) ⊎ (at + length part ≤ x)
        → byte_in (put kept (index * 4096 + at % 4096) part) number (x % 4096) ≡ byte_in kept number (x % 4096)
    left x zero e out = refl
    left x (suc n) e out = on out (cases_lt (n * 4096 + x % 4096) (index * 4096 + at % 4096)) (cases_lt (n * 4096 + x % 4096) (index * 4096 + at % 4096 + length part))
      where
        page : n ≡ index → x / 4096 ≡ at / 4096
        page same = are.apart (x / 4096) (at / 4096) (omega (arith, e)) (e ∙ ap suc same ∙ sym is)

        none : (x < at) ⊎ (at + length part ≤ x) → index * 4096 + at % 4096 ≤ n * 4096 + x % 4096 → n * 4096 + x % 4096 < index * 4096 + at % 4096 + length part → ⊥
        none (inl below) over under = (let same : n ≡ index = omega arith in let p = page same in omega (arith, p, same))
        none (inr above) over under = (let same : n ≡ index = omega arith in let p = page same in omega (arith, p, same))

        on : (x < at) ⊎ (at + length part ≤ x) → (n * 4096 + x % 4096 < index * 4096 + at % 4096) ⊎ (index * 4096 + at % 4096 ≤ n * 4096 + x % 4096)
            → (n * 4096 + x % 4096 < index * 4096 + at % 4096 + length part) ⊎ (index * 4096 + at % 4096 + length part ≤ n * 4096 + x % 4096)
            → slice_index (put kept (index * 4096 + at % 4096) part) (n * 4096 + x % 4096) ≡ slice_index kept (n * 4096 + x % 4096)
        on out (inl low) side = put_below kept part (index * 4096 + at % 4096) (n * 4096 + x % 4096) inside low
        on out (inr over) (inl under) = absurd (none out over under)
        on out (inr over) (inr high) = put_above kept part (index * 4096 + at % 4096) (n * 4096 + x % 4096) inside high

    by : (x : ℕ) → x < count → (x < at) ⊎ (at ≤ x) → (x < at + length part) ⊎ (at + length part ≤ x)
        → slice_index (put (bytes_in count numbers kept) at part) x ≡ byte_at numbers (put kept (index * 4096 + at % 4096) part) x
    by x low (inl below) side =
        put_below (bytes_in count numbers kept) part at x long below ∙ at_index count numbers kept x low ∙ sym (left x (slice_index numbers (x / 4096)) refl (inl below))
    by x low (inr over) (inl under) =
        let back : x ≡ at + (x - at) = omega arith in
        ap (slice_index (put (bytes_in count numbers kept) at part)) back ∙ put_at (bytes_in count numbers kept) part at (x - at) long (omega arith)
        ∙ sym (put_at kept part (index * 4096 + at % 4096) (x - at) inside (omega arith)) ∙ ap (slice_index (put kept (index * 4096 + at % 4096) part)) (omega arith)
        ∙ sym (ap (byte_at numbers (put kept (index * 4096 + at % 4096) part)) back ∙ further numbers (put kept (index * 4096 + at % 4096) part) at (suc index) (x - at) (omega arith) is)
    by x low (inr over) (inr high) =
        put_above (bytes_in count numbers kept) part at x long high ∙ at_index count numbers kept x low ∙ sym (left x (slice_index numbers (x / 4096)) refl (inr high))

-- a part that was written anew
pub rewritten : (xs before part after : List ℕ) (at count : ℕ) → before ≡ xs → after ≡ part → count ≡ length part → take at before ++ (after ++ drop count (drop at before)) ≡ put xs at part
rewritten xs before part after at count is same long =
    ap (λ ys. take at before ++ (ys ++ drop count (drop at before))) same ∙ ap (λ ys. take at before ++ (part ++ ys)) (drop-drop count at before)
    ∙ ap (λ n. take at before ++ (part ++ drop (at + n) before)) long ∙ ap (λ ys. put ys at part) is

-- ---- ranges in parts

take_next : (xs : List ℕ) (n m : ℕ) → take n xs ++ take m (drop n xs) ≡ take (n + m) xs
take_next xs n m =
    ap (λ front. front ++ take m (drop n xs)) (sym (take-take n (n + m) xs (omega arith))) ∙ ap (λ rest. take n (take (n + m) xs) ++ rest) (sym (drop-take n m xs))
    ∙ take-append-drop n (take (n + m) xs)

-- a range, and the next one
next_range : (xs : List ℕ) (i j k : ℕ) → i ≤ j → j ≤ k → slice_range xs i j ++ slice_range xs j k ≡ slice_range xs i k
next_range xs i j k low high =
    let there : i + (j - i) ≡ j = omega arith in
    let sum : j - i + (k - j) ≡ k - i = omega arith in
    ap (λ rest. take (j - i) (drop i xs) ++ take (k - j) rest) (sym (drop-drop (j - i) i xs ∙ ap (λ n. drop n xs) there)) ∙ take_next (drop i xs) (j - i) (k - j) ∙ ap (λ n. take n (drop i xs)) sum

put_next : (xs s t : List ℕ) (at : ℕ) → at + length s + length t ≤ length xs → put (put xs at s) (at + length s) t ≡ put xs at (s ++ t)
put_next xs s t at inside =
    sym (paste_all (put xs at s) (at + length s) t (length t) refl) ∙ ap (λ d. paste d (at + length s) t (length t)) (sym (paste_all xs at s (length s) refl))
    ∙ paste-paste xs at s t (length s) (length t) refl refl (omega arith) ∙ paste_all xs at (s ++ t) (length s + length t) (sym (length-append s t))
    ∙ ap (λ n. take at xs ++ ((s ++ t) ++ drop (at + n) xs)) (sym (length-append s t))

part_next : (xs : List ℕ) (done count : ℕ) → take done xs ++ slice_range xs done (done + count) ≡ take (done + count) xs
part_next xs done count = ap (λ n. take done xs ++ take n (drop done xs)) (omega arith) ∙ take_next xs done count

-- one more part of a range is read
pub read_more : (xs before part : List ℕ) (at done count k : ℕ) → done + count ≤ length before → at + length before ≤ length xs → take done before ≡ slice_range xs at (at + done)
    → part ≡ slice_range xs (at + done) (at + done + length (slice_range before done (done + count))) → take (done + count) (put_mid done k before part) ≡ slice_range xs at (at + (done + count))
read_more xs before part at done count k low within was is =
    let size : length (slice_range before done (done + count)) ≡ count = length-between before done (done + count) low ∙ omega arith in
    let same : part ≡ slice_range xs (at + done) (at + (done + count)) = is ∙ ap (slice_range xs (at + done)) (ap (λ n. at + done + n) size ∙ omega arith) in
    let long : length part ≡ count = ap length same ∙ length-between xs (at + done) (at + (done + count)) (omega arith) ∙ omega arith in
    take-put_mid done k before part (done + count) (omega arith) (omega arith) ∙ ap (λ ys. ys ++ part) was ∙ ap (λ ys. slice_range xs at (at + done) ++ ys) same
    ∙ next_range xs at (at + done) (at + (done + count)) (omega arith) (omega arith)

-- one more part of a list is written
pub write_more : (xs was now all : List ℕ) (at done count : ℕ) → done + count ≤ length all → at + length all ≤ length xs → was ≡ put xs at (take done all)
    → now ≡ put was (at + done) (slice_range all done (done + count)) → now ≡ put xs at (take (done + count) all)
write_more xs was now all at done count low within before is =
    let part = slice_range all done (done + count) in
    let first : length (take done all) ≡ done = length-take-le done all (omega arith) in
    let size : length part ≡ count = length-between all done (done + count) low ∙ omega arith in
    is ∙ ap (λ ys. put ys (at + done) part) before ∙ ap (λ n. put (put xs at (take done all)) (at + n) part) (sym first)
    ∙ put_next xs (take done all) part at (omega arith) ∙ ap (put xs at) (part_next all done count)
