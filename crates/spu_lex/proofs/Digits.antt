-- The value of digits, found digit by digit.
use Rattle.std.proofs.Common.{◌≡◌, ℕ, ◌+◌, ◌*◌, ◌^◌, ◌<◌, ◌≤◌, Bool, true, false, ◌&&◌, cond, ltb, List, [], ◌∷◌, ◌++◌, length, take, drop, None, Some, refl, sym, ap, ◌∙◌, arith}
use Rattle.std.specs.List.{list_all}
use Rattle.std.specs.Char.{digit_value}
use Rattle.std.specs.Str.Parse.{digits_value, digits_value_after, AllDigits}
use Rattle.std.proofs.lemmas.Bool.{le-ltb, lt-ltb, ne_eqb}
use Rattle.std.proofs.lemmas.List.{take-append-drop}
use Rattle.std.proofs.Math.Nat.{mul-le-mul_left}
use Rattle.spu_lex.specs.Numbers.{number_in, are_digits}

after_append : (radix n : ℕ) (xs ys : List ℕ) → digits_value_after radix n (xs ++ ys) ≡ digits_value_after radix (digits_value_after radix n xs) ys
after_append radix n [] ys = refl
after_append radix n (x ∷ xs) ys = after_append radix (n * radix + digit_value x) xs ys

grows : (n radix d : ℕ) → 0 < radix → n ≤ n * radix + d
grows n radix d pos = omega (arith, mul-le-mul_left n pos)

after_ge : (radix n : ℕ) (ds : List ℕ) → 0 < radix → n ≤ digits_value_after radix n ds
after_ge radix n [] pos = omega arith
after_ge radix n (d ∷ ds) pos = omega (arith, grows n radix (digit_value d) pos, after_ge radix (n * radix + digit_value d) ds pos)

value_ge : (radix : ℕ) (ds : List ℕ) (i : ℕ) → 0 < radix → digits_value radix (take i ds) ≤ digits_value radix ds
value_ge radix ds i pos =
    let whole : digits_value radix ds ≡ digits_value_after radix (digits_value radix (take i ds)) (drop i ds) = ap (digits_value radix) (sym (take-append-drop i ds)) ∙ after_append radix 0 (take i ds) (drop i ds) in
    omega (arith, whole, after_ge radix (digits_value radix (take i ds)) (drop i ds) pos)

none_if : (b : Bool) (v : ℕ) → 2 ^ 64 ≤ v → cond (b && ltb v (2 ^ 64)) (Some v) None ≡ None
none_if true v le = rw (le-ltb _ _ le) refl
none_if false v le = refl

-- digits whose value is too large, at some place already
pub too_large : (radix : ℕ) (ds : List ℕ) (i : ℕ) → 0 < radix → 2 ^ 64 ≤ digits_value radix (take i ds) → number_in radix ds ≡ None
too_large radix ds i pos le = none_if (are_digits radix ds) (digits_value radix ds) (omega (arith, value_ge radix ds i pos))

all_pass : (radix : ℕ) (ds : List ℕ) → AllDigits radix ds → list_all (λ d. ltb (digit_value d) radix) ds ≡ true
all_pass radix [] all = refl
all_pass radix (d ∷ ds) all = rw (lt-ltb _ _ all.0, all_pass radix ds all.1) refl

-- digits whose value fits
pub fits : (radix : ℕ) (ds : List ℕ) → 0 < length ds → AllDigits radix ds → digits_value radix ds < 2 ^ 64 → number_in radix ds ≡ Some (digits_value radix ds)
fits radix ds some all lt = rw (ne_eqb (length ds) 0 (omega arith), all_pass radix ds all, lt-ltb _ _ lt) refl
