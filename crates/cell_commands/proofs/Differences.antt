-- Where two texts first differ.
use Rattle.std.proofs.Common.{◌≡◌, ℕ, zero, suc, ◌+◌, ◌<◌, Bool, true, false, cond, List, [], ◌∷◌, ◌++◌, ◌-◌, length, take, drop, Option, Some, None, refl, sym, ap, subst, ◌∙◌, arith}
use Rattle.std.specs.Prelude.{if◌then◌else◌, ◌≢◌, ◌==◌}
use Rattle.std.proofs.Common.{length-drop}
use Rattle.std.proofs.Math.Seq.{take-length}
use Rattle.std.proofs.lemmas.Bool.{eq-eqb, eqb-true}
use Rattle.std.proofs.lemmas.Bool.Decides.{nat_tests}
use Rattle.cell_commands.specs.Checks.{DifferAt}

-- the first place where the texts differ, the first byte having this number
abbrev pub differ : ℕ → List ℕ → List ℕ → Option ℕ
differ at [] [] = None
differ at [] (y ∷ ys) = Some at
differ at (x ∷ xs) [] = Some at
differ at (x ∷ xs) (y ∷ ys) = if x == y then differ (at + 1) xs ys else Some at

-- ---- from the front on

pub heads_differ : (x y : ℕ) (xs ys : List ℕ) → x ≢ y → DifferAt 0 (x ∷ xs) (y ∷ ys)
heads_differ x y xs ys unequal = (refl, λ e. unequal cc)

pub tails_differ : (k x : ℕ) (xs ys : List ℕ) → DifferAt k xs ys → DifferAt (suc k) (x ∷ xs) (x ∷ ys)
tails_differ k x xs ys d = (ap (λ t. x ∷ t) d.0, d.1)

-- one of the two texts has ended, and the other hasn't
pub left_ends : (left right : List ℕ) → length left < 1 → length left ≢ length right → DifferAt 0 left right
left_ends [] [] short unequal = absurd (unequal refl)
left_ends [] (y ∷ ys) short unequal = (refl, λ e. cc)
left_ends (x ∷ xs) right short unequal = absurd (omega (arith, short))

pub right_ends : (left right : List ℕ) → length right < 1 → length left ≢ length right → DifferAt 0 left right
right_ends [] [] short unequal = absurd (unequal refl)
right_ends (x ∷ xs) [] short unequal = (refl, λ e. cc)
right_ends left (y ∷ ys) short unequal = absurd (omega (arith, short))

pub all_taken : (n : ℕ) (xs : List ℕ) → take (length xs - n) (drop n xs) ≡ drop n xs
all_taken n xs = ap (λ k. take k (drop n xs)) (sym (length-drop n xs)) ∙ take-length (drop n xs)

-- behind what both begin with
pub differ_behind : (front xs ys : List ℕ) (k : ℕ) → DifferAt k xs ys → DifferAt (length front + k) (front ++ xs) (front ++ ys)
differ_behind [] xs ys k d = let same : k ≡ length {A = ℕ} [] + k = omega arith in subst (λ n. DifferAt n xs ys) same d
differ_behind (f ∷ front) xs ys k d =
    let same : suc (length front + k) ≡ length (f ∷ front) + k = omega arith in
    subst (λ n. DifferAt n (f ∷ (front ++ xs)) (f ∷ (front ++ ys))) same (tails_differ (length front + k) f (front ++ xs) (front ++ ys) (differ_behind front xs ys k d))

-- ---- the place is found, and there is one

pub differ-same : (at : ℕ) (xs : List ℕ) → differ at xs xs ≡ None
differ-same at [] = refl
differ-same at (x ∷ xs) = rw (eq-eqb x x refl) (differ-same (at + 1) xs)

pub none-differ : (at : ℕ) (xs ys : List ℕ) → differ at xs ys ≡ None → xs ≡ ys
none-differ at [] [] e = refl
none-differ at [] (y ∷ ys) e = absurd cc
none-differ at (x ∷ xs) [] e = absurd cc
none-differ at (x ∷ xs) (y ∷ ys) e = on (x == y) refl e (λ h. none-differ (at + 1) xs ys h)
  where
    on : (b : Bool) → (x == y) ≡ b → cond b (differ (at + 1) xs ys) (Some at) ≡ None → (differ (at + 1) xs ys ≡ None → xs ≡ ys) → x ∷ xs ≡ y ∷ ys
    on false is e later = absurd cc
    on true is e later =
        let first = eqb-true x y is in
        let rest = later e in
        cc

pub found : (at k : ℕ) (xs ys : List ℕ) → DifferAt k xs ys → differ at xs ys ≡ Some (at + k)
found at k [] [] d = absurd (d.1 refl)
found at zero [] (y ∷ ys) d = let same : at ≡ at + 0 = omega arith in ap Some same
found at (suc k) [] (y ∷ ys) d = let e = d.0 in absurd cc
found at zero (x ∷ xs) [] d = let same : at ≡ at + 0 = omega arith in ap Some same
found at (suc k) (x ∷ xs) [] d = let e = d.0 in absurd cc
found at zero (x ∷ xs) (y ∷ ys) d = on (x == y) refl
  where
    on : (b : Bool) → (x == y) ≡ b → cond b (differ (at + 1) xs ys) (Some at) ≡ Some (at + 0)
    on true is = absurd (d.1 (ap Some (eqb-true x y is)))
    on false is = let same : at ≡ at + 0 = omega arith in ap Some same
found at (suc k) (x ∷ xs) (y ∷ ys) d =
    let e = d.0 in
    let first : x ≡ y = cc in
    let rest : take k xs ≡ take k ys = cc in
    let later = found (at + 1) k xs ys (rest, d.1) in
    let number : (at + 1) + k ≡ at + suc k = omega arith in
    rw (eq-eqb x y first) (later ∙ ap Some number)

pub differs : (at place : ℕ) (xs ys : List ℕ) → differ at xs ys ≡ Some place → (k : ℕ) × (place ≡ at + k) × DifferAt k xs ys
differs at place [] [] e = absurd cc
differs at place [] (y ∷ ys) e = (0, (let same : at ≡ place = cc in omega (arith, same)), left_ends [] (y ∷ ys) (omega arith) (λ h. omega (arith, h)))
differs at place (x ∷ xs) [] e = (0, (let same : at ≡ place = cc in omega (arith, same)), right_ends (x ∷ xs) [] (omega arith) (λ h. omega (arith, h)))
differs at place (x ∷ xs) (y ∷ ys) e = on (x == y) refl e (λ h. differs (at + 1) place xs ys h)
  where
    on : (b : Bool) → (x == y) ≡ b → cond b (differ (at + 1) xs ys) (Some at) ≡ Some place → (differ (at + 1) xs ys ≡ Some place → (k : ℕ) × (place ≡ (at + 1) + k) × DifferAt k xs ys)
        → (k : ℕ) × (place ≡ at + k) × DifferAt k (x ∷ xs) (y ∷ ys)
    on false is e later =
        let same : at ≡ place = cc in
        let unequal : x ≢ y = grind (arith, nat_tests, is) in
        (0, omega (arith, same), heads_differ x y xs ys unequal)
    on true is e later =
        let rest = later e in
        let number = rest.1 in
        let first = eqb-true x y is in
        (suc rest.0, omega (arith, number), subst (λ z. DifferAt (suc rest.0) (x ∷ xs) (z ∷ ys)) first (tails_differ rest.0 x xs ys rest.2))
