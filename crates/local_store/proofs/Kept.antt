-- A store of which some bytes are kept, and the others are zero.
use Rattle.std.proofs.Common.{◌≡◌, ℕ, ◌+◌, ◌-◌, ◌<◌, ◌≤◌, ◌∙◌, ap, sym, refl, List, [], ◌++◌, length, take, drop, slice_range, append_assoc, arith, length-append, length-drop}
use Rattle.std.specs.Prelude.{replicate}
use Rattle.std.proofs.lemmas.List.{take-append-le, drop-append-le, length-take-le, length-replicate, drop-drop, drop-replicate, take-replicate, replicate-append-replicate, take_all}
use Rattle.std.proofs.Math.Seq.{drop-append-add, take-append-add}
use Rattle.cell_base.specs.Bytes.{put, zeros}
use Rattle.cell_base.specs.Bytes.{number}
use Rattle.local_store.specs.Store.{with_zeros, line_of, quad_at, word_at}

range_kept : (b z : List ℕ) (i n : ℕ) → i + n ≤ length b → take n (drop i (b ++ z)) ≡ take n (drop i b)
range_kept b z i n inside =
    let long : n ≤ length (drop i b) = omega (arith, length-drop i b) in
    ap (take n) (drop-append-le i b z (omega arith)) ∙ take-append-le n (drop i b) z long

range_past : (b : List ℕ) (k i n : ℕ) → length b ≤ i → i + n ≤ length b + k → take n (drop i (b ++ replicate k 0)) ≡ replicate n 0
range_past b k i n past inside =
    let at : i ≡ length b + (i - length b) = omega arith in
    ap (λ p. take n (drop p (b ++ replicate k 0))) at ∙ ap (take n) (drop-append-add b (replicate k 0) (i - length b) ∙ drop-replicate (i - length b) k 0)
    ∙ take-replicate n (k - (i - length b)) 0 (omega arith)

range_over : (b : List ℕ) (k i n : ℕ) → i ≤ length b → length b ≤ i + n → i + n ≤ length b + k
    → take n (drop i (b ++ replicate k 0)) ≡ drop i b ++ replicate (i + n - length b) 0
range_over b k i n low high inside =
    let e : n ≡ length (drop i b) + (i + n - length b) = omega (arith, length-drop i b) in
    ap (take n) (drop-append-le i b (replicate k 0) low) ∙ ap (λ m. take m (drop i b ++ replicate k 0)) e ∙ take-append-add (drop i b) (replicate k 0) (i + n - length b)
    ∙ ap (λ xs. drop i b ++ xs) (take-replicate (i + n - length b) k 0 (omega arith))

-- a range of kept bytes
pub kept : (b : List ℕ) (i j : ℕ) → i ≤ j → j ≤ length b → slice_range (with_zeros b) i j ≡ slice_range b i j
unfolding with_zeros
kept b i j order inside = range_kept b (zeros (262144 - length b)) i (j - i) (omega arith)

-- a range behind them
pub past : (b : List ℕ) (i j : ℕ) → length b ≤ i → i ≤ j → j ≤ 262144 → slice_range (with_zeros b) i j ≡ replicate (j - i) 0
unfolding with_zeros zeros
past b i j behind order inside = range_past b (262144 - length b) i (j - i) behind (omega arith)

-- a range that begins among them, and ends behind them
pub over : (b : List ℕ) (i j : ℕ) → i ≤ length b → length b ≤ j → j ≤ 262144 → slice_range (with_zeros b) i j ≡ drop i b ++ replicate (j - length b) 0
unfolding with_zeros zeros
over b i j low high inside =
    range_over b (262144 - length b) i (j - i) low (omega arith) (omega arith) ∙ ap (λ n. drop i b ++ replicate n 0) (omega arith)

-- more zeros are kept
pub longer : (b new : List ℕ) (n len : ℕ) → len ≡ length b → length b ≤ n → n ≤ 262144 → new ≡ take n b ++ replicate (n - len) 0 → with_zeros new ≡ with_zeros b
unfolding with_zeros zeros
longer b new n len long more inside is =
    let same : new ≡ b ++ replicate (n - length b) 0 = is ∙ ap (λ k. take n b ++ replicate (n - k) 0) long ∙ ap (λ xs. xs ++ replicate (n - length b) 0) (take_all n b more) in
    let size : length new ≡ n = ap length same ∙ omega (arith, length-append b (replicate (n - length b) 0), length-replicate {A = ℕ} (n - length b) 0) in
    let rest : 262144 - length new ≡ 262144 - n = omega (arith, size) in
    let sum : n - length b + (262144 - n) ≡ 262144 - length b = omega arith in
    ap (λ k. new ++ replicate k 0) rest ∙ ap (λ xs. xs ++ replicate (262144 - n) 0) same ∙ append_assoc b (replicate (n - length b) 0) (replicate (262144 - n) 0)
    ∙ ap (λ xs. b ++ xs) (replicate-append-replicate (n - length b) (262144 - n) 0 ∙ ap (λ k. replicate k 0) sum)

put_before : (b z part : List ℕ) (at : ℕ) → at + length part ≤ length b → put (b ++ z) at part ≡ put b at part ++ z
put_before b z part at inside =
    let front : take at (b ++ z) ≡ take at b = take-append-le at b z (omega arith) in
    let back : drop (at + length part) (b ++ z) ≡ drop (at + length part) b ++ z = drop-append-le (at + length part) b z inside in
    ap (λ xs. xs ++ (part ++ drop (at + length part) (b ++ z))) front ∙ ap (λ xs. take at b ++ (part ++ xs)) back
    ∙ ap (λ xs. take at b ++ xs) (sym (append_assoc part (drop (at + length part) b) z)) ∙ sym (append_assoc (take at b) (part ++ drop (at + length part) b) z)

put_length : (b part : List ℕ) (at : ℕ) → at + length part ≤ length b → length (put b at part) ≡ length b
put_length b part at inside =
    omega (arith, length-append (take at b) (part ++ drop (at + length part) b), length-append part (drop (at + length part) b), length-drop (at + length part) b, length-take-le at b (omega arith))

-- kept bytes are written
pub written : (b new part : List ℕ) (at : ℕ) → at + length part ≤ length b → new ≡ put b at part → with_zeros new ≡ put (with_zeros b) at part
unfolding with_zeros
written b new part at inside is =
    let size : length new ≡ length b = ap length is ∙ put_length b part at inside in
    ap (λ n. new ++ zeros (262144 - n)) size ∙ ap (λ xs. xs ++ zeros (262144 - length b)) is ∙ sym (put_before b (zeros (262144 - length b)) part at inside)

-- no byte is kept yet
pub none_kept : (new : List ℕ) → new ≡ [] → with_zeros new ≡ zeros 262144
unfolding with_zeros
none_kept new is = ap (λ xs. xs ++ zeros (262144 - length xs)) is

-- a quadword of kept bytes, and one behind them
pub quad_kept : (b store q : List ℕ) (at line : ℕ) → with_zeros b ≡ store → line ≡ line_of at → line + 16 ≤ length b → q ≡ slice_range b line (line + 16) → q ≡ quad_at store at
quad_kept b store q at line view value inside is =
    is ∙ sym (kept b line (line + 16) (omega arith) inside) ∙ ap (λ s. slice_range s line (line + 16)) view ∙ ap (λ l. slice_range store l (l + 16)) value

pub quad_past : (b store q : List ℕ) (at line : ℕ) → with_zeros b ≡ store → line ≡ line_of at → length b ≤ line → line + 16 ≤ 262144 → q ≡ replicate 16 0 → q ≡ quad_at store at
quad_past b store q at line view value behind inside is =
    let n : 16 ≡ line + 16 - line = omega arith in
    is ∙ ap (λ k. replicate k 0) n ∙ sym (past b line (line + 16) behind (omega arith) inside) ∙ ap (λ s. slice_range s line (line + 16)) view
    ∙ ap (λ l. slice_range store l (l + 16)) value

number_zeros : number (replicate 4 0) ≡ 0
unfolding number
number_zeros = refl

-- a word behind them
pub word_past : (b store : List ℕ) (at : ℕ) → with_zeros b ≡ store → length b ≤ at → at + 4 ≤ 262144 → 0 ≡ word_at store at
word_past b store at view behind inside =
    let n : 4 ≡ at + 4 - at = omega arith in
    sym number_zeros ∙ ap (λ k. number (replicate k 0)) n ∙ ap number (sym (past b at (at + 4) behind (omega arith) inside) ∙ ap (λ s. slice_range s at (at + 4)) view)

-- a part that was written anew
pub rewritten : (b before part after : List ℕ) (at count : ℕ) → before ≡ b → after ≡ part → count ≡ length part → take at before ++ (after ++ drop count (drop at before)) ≡ put b at part
rewritten b before part after at count same is long =
    ap (λ xs. take at before ++ (xs ++ drop count (drop at before))) is ∙ ap (λ xs. take at before ++ (part ++ xs)) (drop-drop count at before)
    ∙ ap (λ n. take at before ++ (part ++ drop (at + n) before)) long ∙ ap (λ xs. put xs at part) same

-- zeros, before which the last kept bytes were copied
pub copied_over : (b filled copied : List ℕ) (at n : ℕ) → at < length b → length b < at + n → at + n ≤ 262144 → filled ≡ replicate n 0 → copied ≡ take (length b - at) (drop at b)
    → copied ++ drop (length (take (length b - at) (drop at b))) filled ≡ slice_range (with_zeros b) at (at + n)
copied_over b filled copied at n low high inside zero is =
    let all : take (length b - at) (drop at b) ≡ drop at b = take_all (length b - at) (drop at b) (omega (arith, length-drop at b)) in
    let size : length (take (length b - at) (drop at b)) ≡ length b - at = ap length all ∙ length-drop at b in
    let left : n - (length b - at) ≡ at + n - length b = omega arith in
    ap (λ xs. xs ++ drop (length (take (length b - at) (drop at b))) filled) (is ∙ all) ∙ ap (λ k. drop at b ++ drop k filled) size ∙ ap (λ xs. drop at b ++ drop (length b - at) xs) zero
    ∙ ap (λ xs. drop at b ++ xs) (drop-replicate (length b - at) n 0 ∙ ap (λ k. replicate k 0) left) ∙ sym (over b at (at + n) (omega arith) (omega arith) inside)
