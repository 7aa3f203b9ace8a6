-- Numbers in a text, read from left to right.
use Rattle.std.specs.Prelude.{◌≡◌, ℕ, ◌+◌, ◌-◌, ◌*◌, ◌==◌, nat_le, nat_lt, ◌&&◌, length, List, [], ◌∷◌, Option, Some, None, if◌then◌else◌, option_and_then}
use Rattle.std.specs.Char.{is_ascii_digit, digit_value}

infixl 10 ◌>>=◌
abbrev pub ◌>>=◌ : {A B : Type 0} → Option A → (A → Option B) → Option B
o >>= f = option_and_then f o

-- What a reader returned, seen by view, is what reading gives.
abbrev pub Reads : {X Y : Type 0} → (X → Y) → Option X → Option Y → Type 0
Reads view None read = read ≡ None
Reads view (Some x) read = read ≡ Some (view x)

-- the value of the digits at the front, behind digits of value n, and the bytes after them
unfoldable pub digits_at : ℕ → List ℕ → ℕ × List ℕ
digits_at n [] = (n, [])
digits_at n (b ∷ bs) = if is_ascii_digit b then digits_at (n * 10 + (b - 48)) bs else (n, b ∷ bs)

abbrev pub at_most : ℕ → ℕ × List ℕ → Option (ℕ × List ℕ)
at_most limit read = if nat_le read.0 limit then Some read else None

-- a number in decimal, 0 or without a leading zero, and the bytes after it; none above limit
unfoldable pub number_at : ℕ → List ℕ → Option (ℕ × List ℕ)
number_at limit [] = None
number_at limit (b ∷ bs) =
    if b == 48 then Some (0, bs)
    else if is_ascii_digit b then at_most limit (digits_at (b - 48) bs)
    else None

abbrev pub hex_digit : ℕ → Option ℕ
hex_digit c = if nat_lt (digit_value c) 16 then Some (digit_value c) else None

-- the value of hexadecimal digits, behind digits of value n
unfoldable pub hex_value : ℕ → List ℕ → Option ℕ
hex_value n [] = Some n
hex_value n (c ∷ cs) = hex_digit c >>= λ d. hex_value (n * 16 + d) cs

abbrev pub hex_number : List ℕ → Option ℕ
hex_number digits = if nat_lt 0 (length digits) && nat_le (length digits) 8 then hex_value 0 digits else None

abbrev pub whole : ℕ × List ℕ → Option ℕ
whole read = if length read.1 == 0 then Some read.0 else None

abbrev pub decimal_number : List ℕ → Option ℕ
decimal_number word = number_at 4294967295 word >>= whole

-- a word that is a number: decimal, or `0x` and up to eight hexadecimal digits
unfoldable pub word_number : List ℕ → Option ℕ
word_number [] = None
word_number (a ∷ []) = decimal_number (a ∷ [])
word_number (a ∷ b ∷ digits) = if a == 48 && b == 120 then hex_number digits else decimal_number (a ∷ b ∷ digits)
