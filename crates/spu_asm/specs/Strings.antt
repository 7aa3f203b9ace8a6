-- What a string stands for.
use Rattle.std.specs.Prelude.{ℕ, zero, suc, ◌+◌, ◌-◌, ◌*◌, Bool, ◌&&◌, List, [], ◌∷◌, take, drop, length, if◌then◌else◌, nat_le, nat_lt, ◌==◌}

abbrev pub is_octal : ℕ → Bool
is_octal b = nat_le 48 b && nat_lt b 56

-- `n`, `t` and `r` are a line feed, a tab and a carriage return; a backslash and a quote are themselves
abbrev pub letter_byte : ℕ → ℕ
letter_byte b = if b == 110 then 10 else (if b == 116 then 9 else (if b == 114 then 13 else b))

-- the byte of an escape, and how many bytes it has behind its backslash: one to three octal digits of at most 377, or a letter
abbrev pub escape_value : List ℕ → ℕ × ℕ
escape_value [] = (0, 0)
escape_value (a ∷ []) = if is_octal a then (a - 48, 1) else (letter_byte a, 1)
escape_value (a ∷ b ∷ []) = if is_octal a then (if is_octal b then ((a - 48) * 8 + (b - 48), 2) else (a - 48, 1)) else (letter_byte a, 1)
escape_value (a ∷ b ∷ c ∷ bs) =
    if is_octal a
    then (if is_octal b then (if is_octal c && nat_lt a 52 then ((a - 48) * 64 + (b - 48) * 8 + (c - 48), 3) else ((a - 48) * 8 + (b - 48), 2)) else (a - 48, 1))
    else (letter_byte a, 1)

-- the bytes that a string's inside stands for; at most as many as it has
unfoldable pub unescaped : ℕ → List ℕ → List ℕ
unescaped n [] = []
unescaped zero (b ∷ bs) = []
unescaped (suc n) (b ∷ bs) =
    if b == 92 then (escape_value bs).0 ∷ unescaped n (drop (escape_value bs).1 bs) else b ∷ unescaped n bs

-- the bytes of a string, whose first and last are its quotes
abbrev pub string_value : List ℕ → List ℕ
string_value quoted = unescaped (length quoted) (take (length quoted - 2) (drop 1 quoted))
