-- The words of memory, line by line.
use Rattle.std.proofs.Common.{◌≡◌, ℕ, zero, suc, ◌+◌, ◌-◌, ◌*◌, ◌/◌, ◌≤◌, List, [], ◌∷◌, ◌++◌, length, take, drop, slice_range, ap, ap₂, sym, ◌∙◌, arith, length-append, length-drop}
use Rattle.std.specs.Prelude.{map}
use Rattle.std.specs.List.{sum}
use Rattle.std.specs.Simd.{first_chunks}
use Rattle.std.proofs.lemmas.List.{drop-append-le, drop-take, length-take-le, map-append, take-append-drop, take-append-le, take-take}
use Rattle.std.proofs.lemmas.List.Edits.{length-between}
use Rattle.std.proofs.lemmas.List.Sums.{sum_by-append}
use Rattle.cell_base.specs.Bytes.{number}
use Rattle.cell_report.specs.Summaries.{memory_words}

chunks_append : (j m : ℕ) (xs ys : List ℕ) → length xs ≡ j * 4 → first_chunks 4 (j + m) (xs ++ ys) ≡ first_chunks 4 j xs ++ first_chunks 4 m ys
chunks_append zero m [] ys long = ap (λ n. first_chunks 4 n ys) (omega arith)
chunks_append zero m (x ∷ xs) ys long = absurd (omega arith)
chunks_append (suc j) m xs ys long =
    let more : suc j + m ≡ suc (j + m) = omega arith in
    let left : length (drop 4 xs) ≡ j * 4 = omega (arith, length-drop 4 xs) in
    ap (λ n. first_chunks 4 n (xs ++ ys)) more
    ∙ ap₂ (λ c cs. c ∷ cs) (take-append-le 4 xs ys (omega arith)) (ap (first_chunks 4 (j + m)) (drop-append-le 4 xs ys (omega arith)) ∙ chunks_append j m (drop 4 xs) ys left)

words_append : (xs ys : List ℕ) (j m : ℕ) → length xs ≡ j * 4 → length ys ≡ m * 4 → memory_words (xs ++ ys) ≡ memory_words xs ++ memory_words ys
words_append xs ys j m long more =
    let both : length (xs ++ ys) / 4 ≡ j + m = omega (arith, length-append xs ys) in
    let first : length xs / 4 ≡ j = omega arith in
    let second : length ys / 4 ≡ m = omega arith in
    ap (λ n. map number (first_chunks 4 n (xs ++ ys))) both ∙ ap (map number) (chunks_append j m xs ys long) ∙ map-append number (first_chunks 4 j xs) (first_chunks 4 m ys)
    ∙ ap₂ (λ a b. map number (first_chunks 4 a xs) ++ map number (first_chunks 4 b ys)) (sym first) (sym second)

-- the words of one line more
pub line_more : (bytes line : List ℕ) (k : ℕ) → 128 * (k + 1) ≤ length bytes → line ≡ slice_range bytes (128 * k) (128 * k + 128)
    → sum (memory_words (take (128 * (k + 1)) bytes)) ≡ sum (memory_words (take (128 * k) bytes)) + sum (memory_words line)
line_more bytes line k within is =
    let size : 128 * k + 128 - 128 * k ≡ 128 = omega arith in
    let here : line ≡ take 128 (drop (128 * k) bytes) = is ∙ ap (λ n. take n (drop (128 * k) bytes)) size in
    let end : 128 * (k + 1) ≡ 128 * k + 128 = omega arith in
    let next : take (128 * (k + 1)) bytes ≡ take (128 * k) bytes ++ line =
    ap (λ n. take n bytes) end ∙ sym (take-append-drop (128 * k) (take (128 * k + 128) bytes))
    ∙ ap₂ (λ a b. a ++ b) (take-take (128 * k) (128 * k + 128) bytes (omega arith)) (drop-take (128 * k) 128 bytes ∙ sym here) in
    let first = length-take-le (128 * k) bytes (omega arith) in
    let front : length (take (128 * k) bytes) ≡ (32 * k) * 4 = omega arith in
    let long : length line ≡ 32 * 4 = ap length is ∙ length-between bytes (128 * k) (128 * k + 128) (omega arith) ∙ omega arith in
    ap (λ xs. sum (memory_words xs)) next ∙ ap sum (words_append (take (128 * k) bytes) line (32 * k) 32 front long)
    ∙ sum_by-append (λ x. x) (memory_words (take (128 * k) bytes)) (memory_words line)
