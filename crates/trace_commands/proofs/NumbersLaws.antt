-- Numbers that are read one behind the other.
use Rattle.std.proofs.Common.{◌≡◌, ℕ, ◌<◌, List, [], ◌∷◌, ◌++◌, length, Option, Some, None, refl, sym, ap, subst, append_assoc, append-nil}
use Rattle.std.specs.Option.{option_map}
use Rattle.std.specs.Char.{is_whitespace, is_not_whitespace}
use Rattle.std.specs.Str.{NoCharPasses, EmptyOrStartsWithPassing}
use Rattle.trace_commands.specs.Numbers.{BeginsWithWord, IsNumber, Numbers, End, Then, NoNumber, value_of, with_number}

-- numbers with those so far in front
abbrev pub behind : List ℕ → Option (List ℕ) → Option (List ℕ)
behind so_far more = option_map (λ numbers. so_far ++ numbers) more

-- what is left of the text says what all of it is
pub record GoesOn (all rest so_far : List ℕ) : Type 0 where
  pub on : (more : Option (List ℕ)) → Numbers rest more → Numbers all (behind so_far more)

behind_none : (more : Option (List ℕ)) → more ≡ behind [] more
behind_none None = refl
behind_none (Some numbers) = refl

behind_one : (so_far : List ℕ) (number : ℕ) (more : Option (List ℕ)) → behind so_far (with_number number more) ≡ behind (so_far ++ number ∷ []) more
behind_one so_far number None = refl
behind_one so_far number (Some numbers) = ap Some (sym (append_assoc so_far (number ∷ []) numbers))

pub no_numbers : (all rest so_far : List ℕ) → rest ≡ all → so_far ≡ [] → GoesOn all rest so_far
no_numbers all rest so_far same none = record {
  on = λ more n. subst (λ (ns : List ℕ). Numbers all (behind ns more)) (sym none) (subst (Numbers all) (behind_none more) (subst (λ (t : List ℕ). Numbers t more) same n));
}

-- what `split_whitespace` says of a word
pub word_of : (text word rest : List ℕ)
    → (gap : List ℕ) × (text ≡ gap ++ (word ++ rest)) × (0 < length word) × NoCharPasses is_not_whitespace gap × NoCharPasses is_whitespace word × ((more : List ℕ) × EmptyOrStartsWithPassing is_whitespace rest more)
    → BeginsWithWord text word rest
word_of text word rest item = record { gap = item.0; parts = item.1; some = item.2; blank = item.3; one = item.4; ends = item.5 }

pub one_number : (all rest word left so_far new : List ℕ) (number : ℕ) → BeginsWithWord rest word left → IsNumber word → number ≡ value_of word → new ≡ so_far ++ number ∷ [] → GoesOn all rest so_far → GoesOn all left new
one_number all rest word left so_far new number at is value added h =
    let same : new ≡ so_far ++ value_of word ∷ [] = subst (λ (n : ℕ). new ≡ so_far ++ n ∷ []) value added in
    record {
      on = λ more n. subst (λ (ns : List ℕ). Numbers all (behind ns more)) (sym same) (subst (Numbers all) (behind_one so_far (value_of word) more) (h.on (with_number (value_of word) more) (Then at is n)));
    }

pub no_number : (all rest word left so_far : List ℕ) → BeginsWithWord rest word left → ¬ (IsNumber word) → GoesOn all rest so_far → Numbers all None
no_number all rest word left so_far at lacks h = h.on None (NoNumber at lacks)

pub all_numbers : (all rest so_far : List ℕ) → NoCharPasses is_not_whitespace rest → GoesOn all rest so_far → Numbers all (Some so_far)
all_numbers all rest so_far blank h = subst (λ (ns : List ℕ). Numbers all (Some ns)) (append-nil so_far) (h.on (Some []) (End blank))
