-- How many parts of a command are left.
use Rattle.std.proofs.Common.{◌≡◌, ◌≢◌, ℕ, zero, suc, ◌+◌, ◌<◌, ◌≤◌, ◌==◌, ◌||◌, ◌&&◌, not, Bool, true, false, List, [], ◌∷◌, length, map, slice_index_or, arith, refl, sym, ◌∙◌, ap, subst, true≢false}
use Rattle.std.specs.Prelude.{filter, cond, find, Some, None, slice_get}
use Rattle.std.specs.List.{list_all, range_with_len}
use Rattle.std.proofs.lemmas.Bool.Decides.{nat_tests}
use Rattle.mfc_queue.specs.declared.Held.{Held}

-- all are, where none is done
pub count-none : (t : ℕ → Bool) (a n : ℕ) → ((k : ℕ) → t k ≡ false) → n ≡ length (filter (λ k. not (t k)) (range_with_len a n))
count-none t a zero h = refl
count-none t a (suc n) h = rw (h a) (ap suc (count-none t (a + 1) n h))

some_left : (n : ℕ) → (suc n == 0) ≡ false
some_left n = grind (arith, nat_tests)

none-from : (t : ℕ → Bool) (a n : ℕ) → (length (filter (λ k. not (t k)) (range_with_len a n)) == 0) ≡ list_all t (range_with_len a n)
none-from t a zero = refl
none-from t a (suc n) = on (t a) (none-from t (a + 1) n)
  where
    on : (b : Bool) → (length (filter (λ k. not (t k)) (range_with_len (a + 1) n)) == 0) ≡ list_all t (range_with_len (a + 1) n)
        → (length (cond (not b) (a ∷ filter (λ k. not (t k)) (range_with_len (a + 1) n)) (filter (λ k. not (t k)) (range_with_len (a + 1) n))) == 0) ≡ (b && list_all t (range_with_len (a + 1) n))
    on true h = h
    on false h = some_left (length (filter (λ k. not (t k)) (range_with_len (a + 1) n)))

-- none is left where all are done
pub none-missing : (t : ℕ → Bool) (n left : ℕ) → left ≡ length (filter (λ k. not (t k)) (range_with_len 0 n)) → (left == 0) ≡ list_all t (range_with_len 0 n)
none-missing t n left is = ap (λ k. k == 0) is ∙ none-from t 0 n

or_false : (b : Bool) → (b || false) ≡ b
or_false true = refl
or_false false = refl

or_true : (b : Bool) → (b || true) ≡ true
or_true true = refl
or_true false = refl

-- a part that was done before leaves the set as it is
pub marked-again : (b c : Bool) → (c ≡ true → b ≡ true) → b ≡ (b || c)
marked-again true c h = refl
marked-again false true h = absurd (true≢false (sym (h refl)))
marked-again false false h = refl

-- the same numbers are left where none of them is the part
count-past : (t u : ℕ → Bool) (a n part : ℕ) → part < a → ((k : ℕ) → u k ≡ (t k || part == k)) → length (filter (λ k. not (u k)) (range_with_len a n)) ≡ length (filter (λ k. not (t k)) (range_with_len a n))
count-past t u a zero part h is = refl
count-past t u a (suc n) part h is =
    let off : (part == a) ≡ false = grind (arith, nat_tests) in
    let same : u a ≡ t a = is a ∙ ap (λ b. t a || b) off ∙ or_false (t a) in
    on (t a) (u a) same (count-past t u (a + 1) n part (omega arith) is)
  where
    on : (b c : Bool) → c ≡ b → length (filter (λ k. not (u k)) (range_with_len (a + 1) n)) ≡ length (filter (λ k. not (t k)) (range_with_len (a + 1) n))
        → length (cond (not c) (a ∷ filter (λ k. not (u k)) (range_with_len (a + 1) n)) (filter (λ k. not (u k)) (range_with_len (a + 1) n)))
        ≡ length (cond (not b) (a ∷ filter (λ k. not (t k)) (range_with_len (a + 1) n)) (filter (λ k. not (t k)) (range_with_len (a + 1) n)))
    on true true e h = h
    on false false e h = ap suc h
    on true false e h = absurd (true≢false (sym e))
    on false true e h = absurd (true≢false e)

-- one more part that is done is one less that is left
pub count-one : (t u : ℕ → Bool) (a n part : ℕ) → a ≤ part → part < a + n → t part ≡ false → ((k : ℕ) → u k ≡ (t k || part == k))
    → length (filter (λ k. not (t k)) (range_with_len a n)) ≡ suc (length (filter (λ k. not (u k)) (range_with_len a n)))
count-one t u a zero part low high fresh is = absurd (omega arith)
count-one t u a (suc n) part low high fresh is = on (part == a) refl (λ l. count-one t u (a + 1) n part l (omega arith) fresh is)
  where
    other : (b c : Bool) → c ≡ b → length (filter (λ k. not (t k)) (range_with_len (a + 1) n)) ≡ suc (length (filter (λ k. not (u k)) (range_with_len (a + 1) n)))
        → length (cond (not b) (a ∷ filter (λ k. not (t k)) (range_with_len (a + 1) n)) (filter (λ k. not (t k)) (range_with_len (a + 1) n)))
        ≡ suc (length (cond (not c) (a ∷ filter (λ k. not (u k)) (range_with_len (a + 1) n)) (filter (λ k. not (u k)) (range_with_len (a + 1) n))))
    other true true e h = h
    other false false e h = ap suc h
    other true false e h = absurd (true≢false (sym e))
    other false true e h = absurd (true≢false e)

    on : (b : Bool) → (part == a) ≡ b → (a + 1 ≤ part → length (filter (λ k. not (t k)) (range_with_len (a + 1) n)) ≡ suc (length (filter (λ k. not (u k)) (range_with_len (a + 1) n))))
        → length (filter (λ k. not (t k)) (range_with_len a (suc n))) ≡ suc (length (filter (λ k. not (u k)) (range_with_len a (suc n))))
    on true e later =
        let same : part ≡ a = grind (arith, nat_tests) in
        let was : t a ≡ false = subst (λ k. t k ≡ false) same fresh in
        let now : u a ≡ true = is a ∙ ap (λ b. t a || b) e ∙ or_true (t a) in
        rw (was, now) (ap suc (sym (count-past t u (a + 1) n part (omega arith) is)))
    on false e later =
        let apart : part ≢ a = grind (arith, nat_tests) in
        other (t a) (u a) (is a ∙ ap (λ b. t a || b) e ∙ or_false (t a)) (later (omega arith))

-- the command that is held at a place is the first of its number, where no other has it
pub find-own : (held : List Held) (i : ℕ) (h : Held) → i < length held → h ≡ slice_index_or held i h → ((j : ℕ) → j < i → (slice_index_or held j h).cmd ≢ h.cmd) → find (λ x. x.cmd == h.cmd) held ≡ Some h
find-own [] i h within at own = absurd (omega arith)
find-own (g ∷ held) zero h within at own = rw (sym at) (let same : (h.cmd == h.cmd) ≡ true = grind (arith, nat_tests) in rw same refl)
find-own (g ∷ held) (suc i) h within at own =
    let apart : g.cmd ≢ h.cmd = own 0 (omega arith) in
    let off : (g.cmd == h.cmd) ≡ false = grind (arith, nat_tests) in
    rw off (find-own held i h (omega arith) at (λ j low. own (suc j) (omega arith)))

pub got-past : (xs : List ℕ) (n : ℕ) → length xs ≤ n → slice_get xs n ≡ None
got-past [] n h = refl
got-past (x ∷ xs) zero h = absurd (omega arith)
got-past (x ∷ xs) (suc n) h = got-past xs n (omega arith)

pub got-number : (held : List Held) (i n : ℕ) → i < length held → ((d : Held) → n ≡ (slice_index_or held i d).cmd) → slice_get (map (λ h. h.cmd) held) i ≡ Some n
got-number [] i n h is = absurd (omega arith)
got-number (g ∷ held) zero n h is = ap Some (sym (is g))
got-number (g ∷ held) (suc i) n h is = got-number held i n (omega arith) is
