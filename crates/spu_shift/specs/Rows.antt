-- What each row of the shifts and rotates gives: of the operands a and b, and of the raw immediate imm.
use Rattle.std.specs.Prelude.{ℕ, ◌-◌, ◌*◌, ◌/◌, ◌%◌, ◌^◌, List, if◌then◌else◌, nat_lt, min}
use Rattle.std.specs.Int.{Width, w16, w32, w128, byte_len, cast_signed, cast_unsigned, int_shr, rotate_left}
use Rattle.cell_base.specs.Bytes.{number, spelled}
use Rattle.cell_base.specs.Lanes.{size, splat, first_word, zip_lanes}

-- ---- words of the table

-- how many bits a lane has
abbrev pub width : Width → ℕ
width w = 8 * byte_len w

-- x shifted by k bits to the left, and to the right; a count at or above the width gives only zeros
abbrev pub left_shift : Width → ℕ → ℕ → ℕ
left_shift w x k = if nat_lt k (width w) then x * 2 ^ k % size w else 0

abbrev pub right_shift : Width → ℕ → ℕ → ℕ
right_shift w x k = if nat_lt k (width w) then x / 2 ^ k else 0

-- x shifted right by k bits and filled with its sign; a count at or above the width gives only the sign
abbrev pub signed_right_shift : Width → ℕ → ℕ → ℕ
signed_right_shift w x k = cast_unsigned w (int_shr (cast_signed w x) (min k (width w - 1)))

-- 0 minus n
abbrev pub negative : Width → ℕ → ℕ
negative w n = size w - n

-- a quadword as one number, shifted or rotated by k bits
abbrev pub quad_left_shift : List ℕ → ℕ → List ℕ
quad_left_shift a k = spelled 16 (left_shift w128 (number a) k)

abbrev pub quad_right_shift : List ℕ → ℕ → List ℕ
quad_right_shift a k = spelled 16 (right_shift w128 (number a) k)

abbrev pub quad_rotation : List ℕ → ℕ → List ℕ
quad_rotation a k = spelled 16 (rotate_left w128 (number a) k)

-- ---- lanes, each by the lane of b, and by the immediate

-- halfwords to the left, by the low five bits of a count
unfoldable pub shlh_of : List ℕ → List ℕ → List ℕ
shlh_of a b = zip_lanes w16 (λ x n. left_shift w16 x (n % 32)) a b

-- the same by the immediate
unfoldable pub shlhi_of : List ℕ → ℕ → List ℕ
shlhi_of a imm = shlh_of a (splat w16 imm)

-- words to the left, by the low six bits of a count
unfoldable pub shl_of : List ℕ → List ℕ → List ℕ
shl_of a b = zip_lanes w32 (λ x n. left_shift w32 x (n % 64)) a b

-- the same by the immediate
unfoldable pub shli_of : List ℕ → ℕ → List ℕ
shli_of a imm = shl_of a (splat w32 imm)

-- halfwords rotated to the left, by the low four bits of a count
unfoldable pub roth_of : List ℕ → List ℕ → List ℕ
roth_of a b = zip_lanes w16 (λ x n. rotate_left w16 x (n % 16)) a b

-- the same by the immediate
unfoldable pub rothi_of : List ℕ → ℕ → List ℕ
rothi_of a imm = roth_of a (splat w16 imm)

-- words rotated to the left, by the low five bits of a count
unfoldable pub rot_of : List ℕ → List ℕ → List ℕ
rot_of a b = zip_lanes w32 (λ x n. rotate_left w32 x (n % 32)) a b

-- the same by the immediate
unfoldable pub roti_of : List ℕ → ℕ → List ℕ
roti_of a imm = rot_of a (splat w32 imm)

-- halfwords to the right, by the low five bits of the negative of a count
unfoldable pub rothm_of : List ℕ → List ℕ → List ℕ
rothm_of a b = zip_lanes w16 (λ x n. right_shift w16 x (negative w16 n % 32)) a b

-- the same by the immediate
unfoldable pub rothmi_of : List ℕ → ℕ → List ℕ
rothmi_of a imm = rothm_of a (splat w16 imm)

-- words to the right, by the low six bits of the negative of a count
unfoldable pub rotm_of : List ℕ → List ℕ → List ℕ
rotm_of a b = zip_lanes w32 (λ x n. right_shift w32 x (negative w32 n % 64)) a b

-- the same by the immediate
unfoldable pub rotmi_of : List ℕ → ℕ → List ℕ
rotmi_of a imm = rotm_of a (splat w32 imm)

-- halfwords to the right in the same way, filled with the sign
unfoldable pub rotmah_of : List ℕ → List ℕ → List ℕ
rotmah_of a b = zip_lanes w16 (λ x n. signed_right_shift w16 x (negative w16 n % 32)) a b

-- the same by the immediate
unfoldable pub rotmahi_of : List ℕ → ℕ → List ℕ
rotmahi_of a imm = rotmah_of a (splat w16 imm)

-- words to the right in the same way, filled with the sign
unfoldable pub rotma_of : List ℕ → List ℕ → List ℕ
rotma_of a b = zip_lanes w32 (λ x n. signed_right_shift w32 x (negative w32 n % 64)) a b

-- the same by the immediate
unfoldable pub rotmai_of : List ℕ → ℕ → List ℕ
rotmai_of a imm = rotma_of a (splat w32 imm)

-- ---- quadwords, each by word 0 of b, and by the immediate

-- to the left by bits
unfoldable pub shlqbi_of : List ℕ → List ℕ → List ℕ
shlqbi_of a b = quad_left_shift a (first_word b % 8)

-- the same by the immediate
unfoldable pub shlqbii_of : List ℕ → ℕ → List ℕ
shlqbii_of a imm = quad_left_shift a (imm % 8)

-- to the left by bytes
unfoldable pub shlqby_of : List ℕ → List ℕ → List ℕ
shlqby_of a b = quad_left_shift a (8 * (first_word b % 32))

-- the same by the immediate
unfoldable pub shlqbyi_of : List ℕ → ℕ → List ℕ
shlqbyi_of a imm = quad_left_shift a (8 * (imm % 32))

-- to the left by the bytes of a count of bits
unfoldable pub shlqbybi_of : List ℕ → List ℕ → List ℕ
shlqbybi_of a b = quad_left_shift a (8 * (first_word b / 8 % 32))

-- rotated to the left by bytes
unfoldable pub rotqby_of : List ℕ → List ℕ → List ℕ
rotqby_of a b = quad_rotation a (8 * (first_word b % 16))

-- the same by the immediate
unfoldable pub rotqbyi_of : List ℕ → ℕ → List ℕ
rotqbyi_of a imm = quad_rotation a (8 * (imm % 16))

-- rotated to the left by the bytes of a count of bits
unfoldable pub rotqbybi_of : List ℕ → List ℕ → List ℕ
rotqbybi_of a b = quad_rotation a (8 * (first_word b / 8 % 16))

-- rotated to the left by bits
unfoldable pub rotqbi_of : List ℕ → List ℕ → List ℕ
rotqbi_of a b = quad_rotation a (first_word b % 8)

-- the same by the immediate
unfoldable pub rotqbii_of : List ℕ → ℕ → List ℕ
rotqbii_of a imm = quad_rotation a (imm % 8)

-- to the right by bytes, by the negative of a count
unfoldable pub rotqmby_of : List ℕ → List ℕ → List ℕ
rotqmby_of a b = quad_right_shift a (8 * (negative w32 (first_word b) % 32))

-- the same by the immediate
unfoldable pub rotqmbyi_of : List ℕ → ℕ → List ℕ
rotqmbyi_of a imm = quad_right_shift a (8 * (negative w32 imm % 32))

-- to the right by bytes, by the negative of the bytes of a count of bits
unfoldable pub rotqmbybi_of : List ℕ → List ℕ → List ℕ
rotqmbybi_of a b = quad_right_shift a (8 * (negative w32 (first_word b / 8) % 32))

-- to the right by bits, by the negative of a count
unfoldable pub rotqmbi_of : List ℕ → List ℕ → List ℕ
rotqmbi_of a b = quad_right_shift a (negative w32 (first_word b) % 8)

-- the same by the immediate
unfoldable pub rotqmbii_of : List ℕ → ℕ → List ℕ
rotqmbii_of a imm = quad_right_shift a (negative w32 imm % 8)
