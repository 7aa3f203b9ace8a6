-- Lines and words are cut off one by one.
use Rattle.std.proofs.Common.{◌≡◌, ℕ, suc, ◌+◌, ◌-◌, ◌<◌, ◌≤◌, Bool, true, false, not, cond, eqb, ltb, List, [], ◌∷◌, length, take, drop, Some, None, refl, sym, ap, ◌∙◌, arith, filter}
use Rattle.std.specs.List.{position, position_or_len, slice_split, onto_first, after_first}
use Rattle.std.proofs.lemmas.Bool.{lt-ltb, ltb-true, ltb-false, ne_eqb}
use Rattle.std.proofs.lemmas.Option.{cond_some}
use Rattle.std.proofs.lemmas.List.{take_all, length-drop, length-take-le, nil_from_length}
use Rattle.std.proofs.lemmas.List.Splits.{slice_split-cons_yes, slice_split-cons_no, slice_split_first, length-slice_split}
use Rattle.cell_base.specs.Words.{is_feed, is_blank, is_word, whole_parts, lines_of, words_in}

some_place : {X : Type 0} (p : X → Bool) (xs : List X) (i : ℕ) → position p xs ≡ Some i → (i ≡ position_or_len p xs) × (i < length xs)
some_place p xs i e =
    let t = cond_some _ _ _ e in
    let lt : position_or_len p xs < length xs = ltb-true _ _ t.0 in
    (sym t.1, omega (arith, t.1))

no_place : {X : Type 0} (p : X → Bool) (xs : List X) → position p xs ≡ None → length xs ≤ position_or_len p xs
no_place p xs e = by_test (ltb (position_or_len p xs) (length xs)) refl e
  where
    by_test : (t : Bool) → ltb (position_or_len p xs) (length xs) ≡ t → cond t (Some (position_or_len p xs)) None ≡ None → length xs ≤ position_or_len p xs
    by_test true is e = absurd cc
    by_test false is e = ltb-false _ _ is

slice_rest : {X : Type 0} (xs : List X) (k : ℕ) → take (length xs - k) (drop k xs) ≡ drop k xs
slice_rest xs k = take_all (length xs - k) (drop k xs) (omega (arith, length-drop k xs))

-- ---- lines

-- a part before others is a line
whole_more : (part : List ℕ) (parts : List (List ℕ)) → 0 < length parts → whole_parts (part ∷ parts) ≡ part ∷ whole_parts parts
unfolding whole_parts
whole_more part [] some = absurd (omega arith)
whole_more part (next ∷ more) some = refl

unsplit : {X : Type 0} (p : X → Bool) (xs : List X) → length xs ≤ position_or_len p xs → slice_split p xs ≡ xs ∷ []
unsplit p [] le = refl
unsplit p (x ∷ xs) le = by_test (p x) refl (unsplit p xs)
  where
    by_test : (t : Bool) → p x ≡ t → (length xs ≤ position_or_len p xs → slice_split p xs ≡ xs ∷ []) → slice_split p (x ∷ xs) ≡ (x ∷ xs) ∷ []
    by_test true is more = absurd (passes is)
      where
        passes : p x ≡ true → ⊥
        passes is = let none : position_or_len p (x ∷ xs) ≡ 0 = rw is refl in omega arith
    by_test false is more =
        let one : position_or_len p (x ∷ xs) ≡ 1 + position_or_len p xs = rw is refl in
        slice_split-cons_no p x xs is ∙ ap (onto_first x) (more (omega arith))

pub line_then : (text : List ℕ) (i : ℕ) → position is_feed text ≡ Some i → lines_of text ≡ take i text ∷ lines_of (take (length text - (i + 1)) (drop (i + 1) text))
unfolding lines_of
line_then text i e =
    let at = some_place is_feed text i e in
    let inside : position_or_len is_feed text < length text = omega (arith, at) in
    let parts = slice_split_first is_feed text 0 inside in
    let some : 0 < length (slice_split is_feed (after_first is_feed text)) = omega (arith, length-slice_split is_feed (after_first is_feed text)) in
    ap whole_parts parts ∙ whole_more _ _ some ∙ ap (λ (k : ℕ). take k text ∷ whole_parts (slice_split is_feed (drop (k + 1) text))) (sym at.0) ∙ ap (λ (rest : List ℕ). take i text ∷ whole_parts (slice_split is_feed rest)) (sym (slice_rest text (i + 1)))

whole_one : (part : List ℕ) → 0 < length part → whole_parts (part ∷ []) ≡ part ∷ []
unfolding whole_parts
whole_one part some =
    let full : eqb (length part) 0 ≡ false = ne_eqb (length part) 0 (omega arith) in
    rw full refl

pub line_last : (text : List ℕ) → position is_feed text ≡ None → 0 < length text → lines_of text ≡ text ∷ lines_of []
unfolding lines_of whole_parts
line_last text e some = ap whole_parts (unsplit is_feed text (no_place is_feed text e)) ∙ whole_one text some

-- ---- words

begins : List ℕ → Type 0
begins [] = ⊥
begins (b ∷ bytes) = is_blank b ≡ false

blank_skipped : (b : ℕ) (bytes : List ℕ) → is_blank b ≡ true → words_in (b ∷ bytes) ≡ words_in bytes
unfolding words_in
blank_skipped b bytes is = ap (filter is_word) (slice_split-cons_yes is_blank b bytes is)

words_skip : (bytes : List ℕ) → words_in (drop (position_or_len (λ b. not (is_blank b)) bytes) bytes) ≡ words_in bytes
words_skip [] = refl
words_skip (b ∷ bytes) = by_test (is_blank b) refl (words_skip bytes)
  where
    by_test : (t : Bool) → is_blank b ≡ t → words_in (drop (position_or_len (λ b. not (is_blank b)) bytes) bytes) ≡ words_in bytes → words_in (drop (position_or_len (λ b. not (is_blank b)) (b ∷ bytes)) (b ∷ bytes)) ≡ words_in (b ∷ bytes)
    by_test true is more =
        let place : position_or_len (λ b. not (is_blank b)) (b ∷ bytes) ≡ suc (position_or_len (λ b. not (is_blank b)) bytes) = rw is (omega arith) in
        rw place more ∙ sym (blank_skipped b bytes is)
    by_test false is more =
        let place : position_or_len (λ b. not (is_blank b)) (b ∷ bytes) ≡ 0 = rw is refl in
        rw place refl

word_begins : (bytes : List ℕ) → position_or_len (λ b. not (is_blank b)) bytes < length bytes → begins (drop (position_or_len (λ b. not (is_blank b)) bytes) bytes)
unfolding begins
word_begins [] lt = absurd (omega arith)
word_begins (b ∷ bytes) lt = by_test (is_blank b) refl (word_begins bytes) lt
  where
    by_test : (t : Bool) → is_blank b ≡ t → (position_or_len (λ b. not (is_blank b)) bytes < length bytes → begins (drop (position_or_len (λ b. not (is_blank b)) bytes) bytes)) → position_or_len (λ b. not (is_blank b)) (b ∷ bytes) < length (b ∷ bytes) → begins (drop (position_or_len (λ b. not (is_blank b)) (b ∷ bytes)) (b ∷ bytes))
    by_test true is more lt =
        let place : position_or_len (λ b. not (is_blank b)) (b ∷ bytes) ≡ suc (position_or_len (λ b. not (is_blank b)) bytes) = rw is (omega arith) in
        rw place (more (omega (arith, place)))
    by_test false is more lt =
        let place : position_or_len (λ b. not (is_blank b)) (b ∷ bytes) ≡ 0 = rw is refl in
        rw place is

pub no_words : (bytes : List ℕ) → position (λ b. not (is_blank b)) bytes ≡ None → words_in bytes ≡ []
unfolding words_in
no_words bytes e = sym (words_skip bytes) ∙ ap words_in (drop_past bytes (no_place (λ b. not (is_blank b)) bytes e))
  where
    drop_past : (xs : List ℕ) {k : ℕ} → length xs ≤ k → drop k xs ≡ []
    drop_past xs {k} le = nil_from_length (drop k xs) (omega (arith, length-drop k xs))

blank_dropped : (bytes : List ℕ) → position_or_len is_blank bytes < length bytes → words_in (drop (position_or_len is_blank bytes) bytes) ≡ words_in (drop (position_or_len is_blank bytes + 1) bytes)
blank_dropped [] lt = absurd (omega arith)
blank_dropped (b ∷ bytes) lt = by_test (is_blank b) refl (blank_dropped bytes) lt
  where
    by_test : (t : Bool) → is_blank b ≡ t → (position_or_len is_blank bytes < length bytes → words_in (drop (position_or_len is_blank bytes) bytes) ≡ words_in (drop (position_or_len is_blank bytes + 1) bytes)) → position_or_len is_blank (b ∷ bytes) < length (b ∷ bytes) → words_in (drop (position_or_len is_blank (b ∷ bytes)) (b ∷ bytes)) ≡ words_in (drop (position_or_len is_blank (b ∷ bytes) + 1) (b ∷ bytes))
    by_test true is more lt =
        let place : position_or_len is_blank (b ∷ bytes) ≡ 0 = rw is refl in
        rw place (blank_skipped b bytes is)
    by_test false is more lt =
        let place : position_or_len is_blank (b ∷ bytes) ≡ suc (position_or_len is_blank bytes) = rw is (omega arith) in
        let after : suc (position_or_len is_blank bytes) + 1 ≡ suc (position_or_len is_blank bytes + 1) = omega arith in
        rw (place, after) (more (omega (arith, place)))

-- a word that a blank ends
one_word : (w : List ℕ) (i : ℕ) → begins w → position is_blank w ≡ Some i → words_in w ≡ take i w ∷ words_in (drop i w)
unfolding words_in begins
one_word [] i b e = absurd b
one_word (b ∷ bytes) i is e =
    let at = some_place is_blank (b ∷ bytes) i e in
    let inside : position_or_len is_blank (b ∷ bytes) < length (b ∷ bytes) = omega (arith, at) in
    let parts = slice_split_first is_blank (b ∷ bytes) 0 inside in
    let later : position_or_len is_blank (b ∷ bytes) ≡ 1 + position_or_len is_blank bytes = rw is refl in
    let len : length (take i (b ∷ bytes)) ≡ i = length-take-le i (b ∷ bytes) (omega (arith, at)) in
    let full : is_word (take i (b ∷ bytes)) ≡ true = lt-ltb 0 (length (take i (b ∷ bytes))) (omega (arith, at, later, len)) in
    let cut : slice_split is_blank (b ∷ bytes) ≡ take i (b ∷ bytes) ∷ slice_split is_blank (drop (i + 1) (b ∷ bytes)) = parts ∙ ap (λ (k : ℕ). take k (b ∷ bytes) ∷ slice_split is_blank (drop (k + 1) (b ∷ bytes))) (sym at.0) in
    let rest : words_in (drop i (b ∷ bytes)) ≡ words_in (drop (i + 1) (b ∷ bytes)) = rw at.0 (blank_dropped (b ∷ bytes) inside) in
    ap (filter is_word) cut ∙ rw full refl ∙ ap (λ (ws : List (List ℕ)). take i (b ∷ bytes) ∷ ws) (sym rest)

-- a word up to the end
last_word : (w : List ℕ) → begins w → position is_blank w ≡ None → words_in w ≡ w ∷ words_in []
unfolding words_in begins
last_word [] b e = absurd b
last_word (b ∷ bytes) is e =
    let full : is_word (b ∷ bytes) ≡ true = lt-ltb 0 (length (b ∷ bytes)) (omega arith) in
    ap (filter is_word) (unsplit is_blank (b ∷ bytes) (no_place is_blank (b ∷ bytes) e)) ∙ rw full refl

pub word_then : (bytes : List ℕ) (start i : ℕ) → position (λ b. not (is_blank b)) bytes ≡ Some start → position is_blank (take (length bytes - start) (drop start bytes)) ≡ Some i
    → words_in bytes ≡ take i (take (length bytes - start) (drop start bytes)) ∷ words_in (take (length (take (length bytes - start) (drop start bytes)) - i) (drop i (take (length bytes - start) (drop start bytes))))
word_then bytes start i e f =
    let at = some_place (λ b. not (is_blank b)) bytes start e in
    let inside : position_or_len (λ b. not (is_blank b)) bytes < length bytes = omega (arith, at) in
    let w = drop start bytes in
    let cut : take (length bytes - start) (drop start bytes) ≡ w = slice_rest bytes start in
    let first : begins w = rw at.0 (word_begins bytes inside) in
    let same : words_in bytes ≡ words_in w = sym (words_skip bytes) ∙ ap (λ (k : ℕ). words_in (drop k bytes)) (sym at.0) in
    let g : position is_blank w ≡ Some i = ap (position is_blank) (sym cut) ∙ f in
    same ∙ one_word w i first g ∙ ap (λ (rest : List ℕ). take i w ∷ words_in rest) (sym (slice_rest w i)) ∙ ap (λ (v : List ℕ). take i v ∷ words_in (take (length v - i) (drop i v))) (sym cut)

pub word_last : (bytes : List ℕ) (start : ℕ) → position (λ b. not (is_blank b)) bytes ≡ Some start → position is_blank (take (length bytes - start) (drop start bytes)) ≡ None
    → words_in bytes ≡ take (length bytes - start) (drop start bytes) ∷ words_in []
word_last bytes start e f =
    let at = some_place (λ b. not (is_blank b)) bytes start e in
    let inside : position_or_len (λ b. not (is_blank b)) bytes < length bytes = omega (arith, at) in
    let w = drop start bytes in
    let cut : take (length bytes - start) (drop start bytes) ≡ w = slice_rest bytes start in
    let first : begins w = rw at.0 (word_begins bytes inside) in
    let same : words_in bytes ≡ words_in w = sym (words_skip bytes) ∙ ap (λ (k : ℕ). words_in (drop k bytes)) (sym at.0) in
    let g : position is_blank w ≡ None = ap (position is_blank) (sym cut) ∙ f in
    same ∙ last_word w first g ∙ ap (λ (v : List ℕ). v ∷ words_in []) (sym cut)

pub no_lines : (bytes : List ℕ) → length bytes ≡ 0 → lines_of bytes ≡ []
unfolding lines_of whole_parts
no_lines [] e = refl
no_lines (b ∷ bytes) e = absurd (omega arith)
