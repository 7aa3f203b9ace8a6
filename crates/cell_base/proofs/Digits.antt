-- A number that is read is the one that was written, and what was written is read again.
use Rattle.std.proofs.Common.{◌≡◌, ◌≢◌, ℕ, zero, suc, ◌+◌, ◌-◌, ◌*◌, ◌/◌, ◌%◌, ◌^◌, ◌<◌, ◌≤◌, Bool, true, false, cond, eqb, List, [], ◌∷◌, ◌++◌, Some, None, refl, sym, ap, subst, ◌∙◌, append_assoc, arith}
use Rattle.std.specs.Fmt.{decimal}
use Rattle.std.specs.Char.{is_ascii_digit}
use Rattle.std.proofs.lemmas.Fmt.{decimal_step, decimal_digit, decimal_by_steps}
use Rattle.std.proofs.lemmas.Bool.{lt-leb, le-leb, leb-true, eqb-true, eqb-false, ne_eqb}
use Rattle.std.proofs.lemmas.Option.{same_Some, cond_some}
use Rattle.cell_base.specs.Numbers.{digits_at, at_most, number_at}

pub decimal_onto : (out : List ℕ) (n : ℕ) → 10 ≤ n → n < 2 ^ 64 → (out ++ decimal (n / 10)) ++ (48 + n % 10) ∷ [] ≡ out ++ decimal n
decimal_onto out n low high = append_assoc out (decimal (n / 10)) _ ∙ ap (λ (x : List ℕ). out ++ x) (sym (decimal_step n low high))

digit_range : (b : ℕ) → is_ascii_digit b ≡ true → (48 ≤ b) × (b < 58)
digit_range b h = grind arith

digits_grow : (n : ℕ) (bs : List ℕ) → n ≤ (digits_at n bs).0
unfolding digits_at
digits_grow n [] = omega arith
digits_grow n (b ∷ bs) =
    let more = digits_grow (n * 10 + (b - 48)) bs in
    elim (is_ascii_digit b) as (λ t. n ≤ (cond t (digits_at (n * 10 + (b - 48)) bs) (n, b ∷ bs)).0) [ true ↦ omega arith | false ↦ omega arith ]

one_more : (n b : ℕ) → 0 < n → 48 ≤ b → b < 58 → n * 10 + (b - 48) < 2 ^ 64 → decimal (n * 10 + (b - 48)) ≡ decimal n ++ b ∷ []
one_more n b pos low high small =
    let m : ℕ = n * 10 + (b - 48) in
    let front : m / 10 ≡ n = omega arith in
    let last : 48 + m % 10 ≡ b = omega arith in
    decimal_step m (omega arith) small ∙ rw (front, last) refl

pub over_limit : (limit n : ℕ) (bs : List ℕ) → limit < n → at_most limit (digits_at n bs) ≡ None
over_limit limit n bs over =
    let more : limit < (digits_at n bs).0 = omega (arith, digits_grow n bs) in
    rw (lt-leb (digits_at n bs).0 limit more) refl

pub digits_step : (n b : ℕ) (bs : List ℕ) → is_ascii_digit b ≡ true → digits_at (n * 10 + (b - 48)) bs ≡ digits_at n (b ∷ bs)
unfolding digits_at
digits_step n b bs digit = rw digit refl

-- nothing stands there, or no digit
abbrev pub IsEnded : List ℕ → Type 0
IsEnded [] = Unit {0}
IsEnded (b ∷ bs) = is_ascii_digit b ≡ false

pub digits_stop : (n : ℕ) (bs : List ℕ) → IsEnded bs → digits_at n bs ≡ (n, bs)
unfolding digits_at
digits_stop n [] ended = refl
digits_stop n (b ∷ bs) ended = rw ended refl

pub within_limit : (limit n : ℕ) (bs : List ℕ) → IsEnded bs → n ≤ limit → at_most limit (digits_at n bs) ≡ Some (n, bs)
within_limit limit n bs ended le = rw (digits_stop n bs ended, le-leb n limit le) refl

digits_take : (n : ℕ) (bs : List ℕ) → 0 < n → (digits_at n bs).0 < 2 ^ 64 → decimal n ++ bs ≡ decimal (digits_at n bs).0 ++ (digits_at n bs).1
unfolding digits_at
digits_take n [] pos small = refl
digits_take n (b ∷ bs) pos small = digits_take_by n b bs (is_ascii_digit b) refl (digits_take (n * 10 + (b - 48)) bs) pos small
  where
    digits_take_by : (n b : ℕ) (bs : List ℕ) (t : Bool) → is_ascii_digit b ≡ t
        → (0 < n * 10 + (b - 48) → (digits_at (n * 10 + (b - 48)) bs).0 < 2 ^ 64 → decimal (n * 10 + (b - 48)) ++ bs ≡ decimal (digits_at (n * 10 + (b - 48)) bs).0 ++ (digits_at (n * 10 + (b - 48)) bs).1)
        → 0 < n → (cond t (digits_at (n * 10 + (b - 48)) bs) (n, b ∷ bs)).0 < 2 ^ 64
        → decimal n ++ (b ∷ bs) ≡ decimal (cond t (digits_at (n * 10 + (b - 48)) bs) (n, b ∷ bs)).0 ++ (cond t (digits_at (n * 10 + (b - 48)) bs) (n, b ∷ bs)).1
    digits_take_by n b bs false is more pos small = refl
    digits_take_by n b bs true is more pos small =
        let range = digit_range b is in
        let grows = digits_grow (n * 10 + (b - 48)) bs in
        let one = one_more n b pos range.0 range.1 (omega arith) in
        sym (append_assoc (decimal n) (b ∷ []) bs) ∙ ap (λ (x : List ℕ). x ++ bs) (sym one) ∙ more (omega arith) small

-- what was read: the number's text, and the rest
pub number_takes : (limit : ℕ) (bytes : List ℕ) (n : ℕ) (rest : List ℕ) → limit < 2 ^ 64 → number_at limit bytes ≡ Some (n, rest) → (bytes ≡ decimal n ++ rest) × (n ≤ limit)
unfolding number_at
number_takes limit [] n rest small e = absurd cc
number_takes limit (b ∷ bs) n rest small e =
    takes_by limit b bs n rest small (eqb b 48) (is_ascii_digit b) refl refl e
  where
    takes_by : (limit b : ℕ) (bs : List ℕ) (n : ℕ) (rest : List ℕ) → limit < 2 ^ 64 → (zero_test digit_test : Bool) → eqb b 48 ≡ zero_test → is_ascii_digit b ≡ digit_test
        → cond zero_test (Some (0, bs)) (cond digit_test (at_most limit (digits_at (b - 48) bs)) None) ≡ Some (n, rest) → ((b ∷ bs) ≡ decimal n ++ rest) × (n ≤ limit)
    takes_by limit b bs n rest small true d z-is d-is e =
        let b-is : b ≡ 48 = eqb-true _ _ z-is in
        let zero-is : decimal 0 ≡ 48 ∷ [] = decimal_digit 0 (omega arith) in
        let whole : (b ∷ bs) ≡ decimal 0 ++ bs = ap (λ (x : ℕ). x ∷ bs) b-is ∙ ap (λ (x : List ℕ). x ++ bs) (sym zero-is) in
        subst (λ (p : ℕ × List ℕ). ((b ∷ bs) ≡ decimal p.0 ++ p.1) × (p.0 ≤ limit)) (same_Some (0, bs) (n, rest) e) (whole, omega arith)
    takes_by limit b bs n rest small false false z-is d-is e = absurd cc
    takes_by limit b bs n rest small false true z-is d-is e =
        let t = cond_some _ _ _ e in
        let bound : (digits_at (b - 48) bs).0 ≤ limit = leb-true _ _ t.0 in
        let range = digit_range b d-is in
        let other : b ≢ 48 = eqb-false _ _ z-is in
        let first : decimal (b - 48) ≡ b ∷ [] = decimal_digit (b - 48) (omega arith) ∙ (let back : 48 + (b - 48) ≡ b = omega arith in rw back refl) in
        let whole = ap (λ (x : List ℕ). x ++ bs) (sym first) ∙ digits_take (b - 48) bs (omega arith) (omega arith) in
        subst (λ (p : ℕ × List ℕ). ((b ∷ bs) ≡ decimal p.0 ++ p.1) × (p.0 ≤ limit)) t.1 (whole, bound)

-- what was written is read, where no digit follows
digits_again : (n : ℕ) → 0 < n → n < 2 ^ 64 → (d : ℕ) × (tail : List ℕ) × (decimal n ≡ d ∷ tail) × (49 ≤ d) × (d < 58) × ((rest : List ℕ) → digits_at (d - 48) (tail ++ rest) ≡ digits_at n rest)
digits_again n pos small = decimal_by_steps
    (λ n ds. 0 < n → (d : ℕ) × (tail : List ℕ) × (ds ≡ d ∷ tail) × (49 ≤ d) × (d < 58) × ((rest : List ℕ) → digits_at (d - 48) (tail ++ rest) ≡ digits_at n rest))
    (λ n low pos. (48 + n, [], refl, omega arith, omega arith, λ rest. let back : (48 + n) - 48 ≡ n = omega arith in rw back refl))
    (λ n ds low more pos.
    let m = more (omega arith) in
    let digit : is_ascii_digit (48 + n % 10) ≡ true = grind arith in
    let whole : n / 10 * 10 + ((48 + n % 10) - 48) ≡ n = omega arith in
    (m.0, m.1 ++ (48 + n % 10) ∷ [], rw m.2 refl, m.3, m.4, λ rest. ap (digits_at (m.0 - 48)) (append_assoc m.1 ((48 + n % 10) ∷ []) rest) ∙ m.5 ((48 + n % 10) ∷ rest) ∙ sym (digits_step (n / 10) (48 + n % 10) rest digit) ∙ rw whole refl))
    n small pos

pub number_again : (limit n : ℕ) (rest : List ℕ) → limit < 2 ^ 64 → n ≤ limit → IsEnded rest → number_at limit (decimal n ++ rest) ≡ Some (n, rest)
unfolding number_at
number_again limit zero rest small le ended = ap (λ (x : List ℕ). number_at limit (x ++ rest)) (decimal_digit 0 (omega arith))
number_again limit (suc n) rest small le ended =
    let m = digits_again (suc n) (omega arith) (omega arith) in
    let other : eqb m.0 48 ≡ false = ne_eqb m.0 48 (omega arith) in
    let digit : is_ascii_digit m.0 ≡ true = grind arith in
    ap (λ (x : List ℕ). number_at limit (x ++ rest)) m.2 ∙ rw (other, digit, m.5 rest) (within_limit limit (suc n) rest ended le)
