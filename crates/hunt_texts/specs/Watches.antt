-- The first byte in which two results differ, as the debugger names it.
use Rattle.std.specs.Prelude.{ℕ, suc, ◌+◌, ◌-◌, ◌/◌, ◌^◌, ◌==◌, ◌&&◌, nat_lt, List, [], ◌∷◌, ◌++◌, take, length, codes, Option, None, Some, if◌then◌else◌}
use Rattle.std.specs.Str.{bytes_eq}
use Rattle.cell_base.specs.Hex.{hex}
use Rattle.cell_base.specs.Numbers.{◌>>=◌, word_number}
use Rattle.cell_base.specs.Words.{words_in}

-- how many bytes of two lines are equal before the first that differs
unfoldable pub same_bytes : List ℕ → List ℕ → ℕ
same_bytes [] ys = 0
same_bytes (x ∷ xs) [] = 0
same_bytes (x ∷ xs) (y ∷ ys) = if x == y then suc (same_bytes xs ys) else 0

-- a byte of main memory, or of the local store of the processor that a word names
pub record Watch : Type 0 where
  pub spe : Option (List ℕ)
  pub at : ℕ

abbrev pub watch_at : Option (List ℕ) → ℕ → Option Watch
watch_at spe at = if nat_lt at (2 ^ 32) then Some (record { spe = spe; at = at }) else None

-- a word, and the words after it
abbrev pub word_at : List (List ℕ) → Option (List ℕ × List (List ℕ))
word_at [] = None
word_at (word ∷ words) = Some (word, words)

-- the byte of the last digit of `0xA DIGITS`
unfoldable pub digit_at : Option (List ℕ) → List (List ℕ) → Option Watch
digit_at spe words = word_at words >>= λ at. word_number at.0 >>= λ first. word_at at.1 >>= λ digits. watch_at spe (first + (length digits.0 - 1) / 2)

unfoldable pub local_at : List (List ℕ) → Option Watch
local_at words = word_at words >>= λ spe. digit_at (Some spe.0) spe.1

-- the byte of the last digit of `mem 0xA DIGITS` or `ls P 0xA DIGITS`
unfoldable pub byte_in : List (List ℕ) → Option Watch
byte_in words =
    word_at words >>= λ w.
    if bytes_eq w.0 (codes "mem") then digit_at None w.1
    else if bytes_eq w.0 (codes "ls") then local_at w.1
    else None

-- the byte in whose digits two lines differ first; none if they differ in other words
unfoldable pub watch_in : List ℕ → List ℕ → Option Watch
watch_in line other =
    let same = same_bytes line other in
    if nat_lt same (length line) && nat_lt same (length other) then byte_in (words_in (take (same + 1) line)) else None

abbrev pub byte_text : Option (List ℕ) → ℕ → List ℕ
byte_text None at = codes "mem 0x" ++ hex 8 at
byte_text (Some spe) at = codes "x" ++ spe ++ codes " 0x" ++ hex 5 at

-- the commands of the debugger that stop at the step that wrote the byte last
unfoldable pub last_text : Option (List ℕ) → ℕ → List ℕ
last_text spe at = codes ", then `run` and `last " ++ byte_text spe at ++ codes " 1`"

abbrev pub watch_text : Option Watch → List ℕ
watch_text None = []
watch_text (Some w) = last_text w.spe w.at
