-- The lanes of a quadword, which is a list of 16 bytes: each is the number that its bytes spell.
use Rattle.std.specs.Prelude.{ℕ, zero, suc, ◌+◌, ◌-◌, ◌/◌, ◌%◌, ◌^◌, List, [], ◌∷◌, ◌++◌, take, drop, map, replicate, slice_index, Bool, nat_lt, ◌==◌, if◌then◌else◌}
use Rattle.std.specs.Int.{Width, byte_len, bit_at, w8, w32}
use Rattle.std.specs.List.{range_with_len}
use Rattle.std.specs.Simd.Lanes.{zip2}
use Rattle.cell_base.specs.Bytes.{number, spelled}

-- the numbers of k slices of n bytes
abbrev pub slices : ℕ → ℕ → List ℕ → List ℕ
slices n zero bytes = []
slices n (suc k) bytes = number (take n bytes) ∷ slices n k (drop n bytes)

-- the bytes of numbers of n bytes each
abbrev pub joined : ℕ → List ℕ → List ℕ
joined n [] = []
joined n (x ∷ xs) = spelled n x ++ joined n xs

-- how many values a lane has
abbrev pub size : Width → ℕ
size w = 256 ^ byte_len w

-- the lanes of this width, from the left
unfoldable pub lanes : Width → List ℕ → List ℕ
lanes w quad = slices (byte_len w) (16 / byte_len w) quad

-- the quadword with these lanes
unfoldable pub of_lanes : Width → List ℕ → List ℕ
of_lanes w xs = joined (byte_len w) xs

-- f of each lane, of the lanes of two quadwords, and of three
abbrev pub map_lanes : Width → (ℕ → ℕ) → List ℕ → List ℕ
map_lanes w f a = of_lanes w (map f (lanes w a))

abbrev pub zip_lanes : Width → (ℕ → ℕ → ℕ) → List ℕ → List ℕ → List ℕ
zip_lanes w f a b = of_lanes w (zip2 f (lanes w a) (lanes w b))

abbrev pub zip3 : (ℕ → ℕ → ℕ → ℕ) → List ℕ → List ℕ → List ℕ → List ℕ
zip3 f (x ∷ xs) (y ∷ ys) (z ∷ zs) = f x y z ∷ zip3 f xs ys zs
zip3 f _ _ _ = []

abbrev pub zip3_lanes : Width → (ℕ → ℕ → ℕ → ℕ) → List ℕ → List ℕ → List ℕ → List ℕ
zip3_lanes w f a b c = of_lanes w (zip3 f (lanes w a) (lanes w b) (lanes w c))

-- the quadword whose lane k is g of k
unfoldable pub lanes_from : Width → (ℕ → ℕ) → List ℕ
lanes_from w g = of_lanes w (map g (range_with_len 0 (16 / byte_len w)))

-- the quadword with x in each lane
abbrev pub splat : Width → ℕ → List ℕ
splat w x = of_lanes w (replicate (16 / byte_len w) x)

-- word 0, the preferred slot
abbrev pub first_word : List ℕ → ℕ
first_word quad = slice_index (lanes w32 quad) 0

-- the quadword with x in word 0 and zeros after
abbrev pub in_first_word : ℕ → List ℕ
in_first_word x = of_lanes w32 (x ∷ 0 ∷ 0 ∷ 0 ∷ [])

-- a lane of all ones or all zeros
abbrev pub truth : Width → Bool → ℕ
truth w holds = if holds then size w - 1 else 0

-- the left and right halfword of a word
abbrev pub hi : ℕ → ℕ
hi x = x / 2 ^ 16

abbrev pub lo : ℕ → ℕ
lo x = x % 2 ^ 16

-- a number of n bits at the width of a lane, filled with its sign
abbrev pub extended : ℕ → Width → ℕ → ℕ
extended n w x = if nat_lt x (2 ^ (n - 1)) then x else x + (size w - 2 ^ n)

-- an immediate of ten bits with its sign, in each lane
abbrev pub ten_bits : Width → ℕ → List ℕ
ten_bits w imm = splat w (extended 10 w imm)

-- the low eight bits of an immediate, in each byte
abbrev pub low_byte : ℕ → List ℕ
low_byte imm = splat w8 (imm % 256)

-- bit k, counted from the left, of the rightmost n bits
abbrev pub bit_from_left : ℕ → ℕ → ℕ → ℕ
bit_from_left n x k = bit_at x (n - 1 - k)

-- lane k is all ones where bit k of the rightmost n bits is 1, else all zeros
abbrev pub mask_from : Width → ℕ → ℕ → List ℕ
mask_from w n x = lanes_from w (λ k. truth w (bit_from_left n x k == 1))
