-- Bytes after some of them were put in place.
use Rattle.std.proofs.Common.{◌≡◌, ℕ, ◌+◌, ◌-◌, ◌<◌, ◌≤◌, List, [], ◌++◌, take, drop, length, get_or, refl, sym, ◌∙◌, ap, arith, length-append, length-take, length-drop, get_or-take, get_or-drop}
use Rattle.std.specs.Prelude.{Bool, true, false, cond, ◌&&◌, nat_le, nat_lt, slice_range}
use Rattle.std.proofs.lemmas.List.{get_or_append_left, get_or-append_right, length-take-le, take-take, drop-take, drop-drop}
use Rattle.std.proofs.lemmas.Bool.Decides.{nat_tests}
use Rattle.cell_base.specs.Bytes.{put}

pub length-put : (xs part : List ℕ) (at : ℕ) → length (put xs at part) ≡ length (take at xs) + (length part + (length xs - (at + length part)))
length-put xs part at = simp (length-append, length-drop)

-- as long as before, where the part fits
pub length-put-within : (xs part : List ℕ) (at : ℕ) → at + length part ≤ length xs → length (put xs at part) ≡ length xs
length-put-within xs part at h = length-put xs part at ∙ (let e = length-take-le at xs (omega arith) in omega arith)

pub length-put-same : (xs ys part : List ℕ) (at : ℕ) → length xs ≡ length ys → length (put xs at part) ≡ length (put ys at part)
length-put-same xs ys part at h =
    let a = length-put xs part at in let b = length-put ys part at in
    let c = length-take at xs in let d = length-take at ys in omega arith

put-below : (xs part : List ℕ) (at i d : ℕ) → i < at → at ≤ length xs → get_or (put xs at part) i d ≡ get_or xs i d
put-below xs part at i d l h =
    let e = length-take-le at xs h in
    get_or_append_left (take at xs) _ d i (omega arith) ∙ get_or-take at xs i d l

put-from : (xs part : List ℕ) (at i d : ℕ) → at ≤ i → at ≤ length xs → get_or (put xs at part) i d ≡ get_or (part ++ drop (at + length part) xs) (i - at) d
put-from xs part at i d l h = get_or-append_right (take at xs) _ at i d (length-take-le at xs h) l

put-within : (xs part : List ℕ) (at i d : ℕ) → at ≤ i → i < at + length part → at ≤ length xs → get_or (put xs at part) i d ≡ get_or part (i - at) d
put-within xs part at i d l k h = put-from xs part at i d l h ∙ get_or_append_left part _ d (i - at) (omega arith)

put-above : (xs part : List ℕ) (at i d : ℕ) → at + length part ≤ i → at ≤ length xs → get_or (put xs at part) i d ≡ get_or xs i d
put-above xs part at i d l h =
    put-from xs part at i d (omega arith) h
    ∙ get_or-append_right part _ (length part) (i - at) d refl (omega arith)
    ∙ get_or-drop (at + length part) xs (i - at - length part) d
    ∙ ap (λ j. get_or xs j d) (omega arith)

-- whether a place lies in a range
abbrev pub lies_in : ℕ → ℕ → ℕ → Bool
lies_in at len i = nat_le at i && nat_lt i (at + len)

pub get-put : (xs part : List ℕ) (at i d : ℕ) → at + length part ≤ length xs
    → get_or (put xs at part) i d ≡ cond (lies_in at (length part) i) (get_or part (i - at) d) (get_or xs i d)
get-put xs part at i d h = on (nat_le at i) (nat_lt i (at + length part)) refl refl
  where
    on : (a b : Bool) → nat_le at i ≡ a → nat_lt i (at + length part) ≡ b → get_or (put xs at part) i d ≡ cond (a && b) (get_or part (i - at) d) (get_or xs i d)
    on true true e f = let l : at ≤ i = grind (arith, nat_tests) in let k : i < at + length part = grind (arith, nat_tests) in put-within xs part at i d l k (omega arith)
    on true false e f = let k : at + length part ≤ i = grind (arith, nat_tests) in put-above xs part at i d k (omega arith)
    on false b e f = let l : i < at = grind (arith, nat_tests) in put-below xs part at i d l (omega arith)

pub length-range : (xs : List ℕ) (a n : ℕ) → a + n ≤ length xs → length (slice_range xs a (a + n)) ≡ n
length-range xs a n h = let e = length-take (a + n - a) (drop a xs) in let f = length-drop a xs in omega arith

-- the same eight bytes at a place are the same four there, and the same four behind them
pub first-four : (xs ys : List ℕ) (at : ℕ) → slice_range xs at (at + 8) ≡ slice_range ys at (at + 8) → slice_range xs at (at + 4) ≡ slice_range ys at (at + 4)
first-four xs ys at h = sym (four xs) ∙ ap (take 4) h ∙ four ys
  where
    four : (zs : List ℕ) → take 4 (slice_range zs at (at + 8)) ≡ slice_range zs at (at + 4)
    four zs =
        let a : at + 8 - at ≡ 8 = omega arith in
        let b : at + 4 - at ≡ 4 = omega arith in
        ap (λ n. take 4 (take n (drop at zs))) a ∙ take-take 4 8 (drop at zs) (omega arith) ∙ ap (λ n. take n (drop at zs)) (sym b)

pub next-four : (xs ys : List ℕ) (at : ℕ) → slice_range xs at (at + 8) ≡ slice_range ys at (at + 8) → slice_range xs (at + 4) (at + 4 + 4) ≡ slice_range ys (at + 4) (at + 4 + 4)
next-four xs ys at h = sym (four xs) ∙ ap (drop 4) h ∙ four ys
  where
    four : (zs : List ℕ) → drop 4 (slice_range zs at (at + 8)) ≡ slice_range zs (at + 4) (at + 4 + 4)
    four zs =
        let a : at + 8 - at ≡ 4 + 4 = omega arith in
        let b : at + 4 + 4 - (at + 4) ≡ 4 = omega arith in
        ap (λ n. drop 4 (take n (drop at zs))) a ∙ drop-take 4 4 (drop at zs) ∙ ap (take 4) (drop-drop 4 at zs) ∙ ap (λ n. take n (drop (at + 4) zs)) (sym b)

pub put-nothing : (xs : List ℕ) → put xs 0 [] ≡ xs
put-nothing xs = refl
