-- What a choice file says: numbers between white space.
use Rattle.std.specs.Prelude.{◌≡◌, ◌⊎◌, ℕ, ◌<◌, ◌^◌, List, [], ◌∷◌, ◌++◌, length, Option, Some, None}
use Rattle.std.specs.Option.{option_map}
use Rattle.std.specs.Char.{is_whitespace, is_not_whitespace}
use Rattle.std.specs.Str.{IsUtf8, NoCharPasses, EmptyOrStartsWithPassing}
use Rattle.std.specs.Str.Parse.{IsNumeral, digits_value, without_leading_plus}

-- white space, then this word, and behind it this rest, which is empty or begins with white space
pub record BeginsWithWord (text word rest : List ℕ) : Type 0 where
  pub gap : List ℕ
  pub parts : text ≡ gap ++ (word ++ rest)
  pub some : 0 < length word
  pub blank : NoCharPasses is_not_whitespace gap
  pub one : NoCharPasses is_whitespace word
  pub ends : (more : List ℕ) × EmptyOrStartsWithPassing is_whitespace rest more

-- the digits of a word, in front of which a plus may stand, and their value
abbrev pub value_of : List ℕ → ℕ
value_of word = digits_value 10 (without_leading_plus word)

abbrev pub IsNumber : List ℕ → Type 0
IsNumber word = IsNumeral 10 (without_leading_plus word) × (value_of word < 2 ^ 64)

abbrev pub with_number : ℕ → Option (List ℕ) → Option (List ℕ)
with_number number numbers = option_map (λ more. number ∷ more) numbers

-- the words of a text are these numbers; None where one is no number
pub data Numbers : List ℕ → Option (List ℕ) → Type 0 where
  End : {text : List ℕ} → NoCharPasses is_not_whitespace text → Numbers text (Some [])
  Then : {text word rest : List ℕ} {numbers : Option (List ℕ)} → BeginsWithWord text word rest → IsNumber word → Numbers rest numbers → Numbers text (with_number (value_of word) numbers)
  NoNumber : {text word rest : List ℕ} → BeginsWithWord text word rest → ¬ (IsNumber word) → Numbers text None

abbrev pub HasNumbers : List ℕ → List ℕ → Type 0
HasNumbers text numbers = Numbers text (Some numbers)

-- it isn't UTF-8, or one of its words is no number
abbrev pub LacksNumbers : List ℕ → Type 0
LacksNumbers text = ¬ (IsUtf8 text) ⊎ Numbers text None
