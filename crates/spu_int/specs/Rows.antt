-- What each row gives, lane by lane: of the operands a and b, of the raw immediate imm, and of the old target t.
use Rattle.std.specs.Prelude.{ℕ, ◌+◌, ◌-◌, ◌*◌, ◌%◌, ◌^◌, List, Bool, if◌then◌else◌, nat_lt, nat_le, ◌==◌, bit_or, ◌*ℤ◌}
use Rattle.std.specs.Int.{Width, w8, w16, w32, cast_signed, cast_unsigned}
use Rattle.std.specs.Int.Signed.{lt_z}
use Rattle.cell_base.specs.Lanes.{size, truth, hi, lo, extended, splat, ten_bits, low_byte, mask_from, map_lanes, zip_lanes, zip3_lanes}

-- ---- constants

-- a word: the immediate with its sign
unfoldable pub il_of : ℕ → List ℕ
il_of imm = splat w32 (extended 16 w32 imm)

-- a halfword: the immediate
unfoldable pub ilh_of : ℕ → List ℕ
ilh_of imm = splat w16 imm

-- a word: the immediate in its left halfword, and zeros
unfoldable pub ilhu_of : ℕ → List ℕ
ilhu_of imm = splat w32 (imm * 2 ^ 16)

-- a word: the immediate with zeros before it
unfoldable pub ila_of : ℕ → List ℕ
ila_of imm = splat w32 imm

-- a word: its bits and those of the immediate
unfoldable pub iohl_of : ℕ → List ℕ → List ℕ
iohl_of imm t = map_lanes w32 (λ x. bit_or x imm) t

-- byte k is all ones where bit k of the sixteen, from the left, is 1
unfoldable pub fsmbi_of : ℕ → List ℕ
fsmbi_of imm = mask_from w8 16 imm

-- ---- arithmetic

-- x plus y, and x minus y, modulo the lane's size
abbrev pub sum : Width → ℕ → ℕ → ℕ
sum w x y = (x + y) % size w

abbrev pub difference : Width → ℕ → ℕ → ℕ
difference w x y = (x + size w - y) % size w

-- 1 where it holds, else 0
abbrev pub one_where : Bool → ℕ
one_where holds = if holds then 1 else 0

-- halfwords: a plus b
unfoldable pub ah_of : List ℕ → List ℕ → List ℕ
ah_of a b = zip_lanes w16 (sum w16) a b

-- words: a plus b
unfoldable pub a_of : List ℕ → List ℕ → List ℕ
a_of a b = zip_lanes w32 (sum w32) a b

-- halfwords: a plus the immediate
unfoldable pub ahi_of : List ℕ → ℕ → List ℕ
ahi_of a imm = ah_of a (ten_bits w16 imm)

-- words: a plus the immediate
unfoldable pub ai_of : List ℕ → ℕ → List ℕ
ai_of a imm = a_of a (ten_bits w32 imm)

-- halfwords: b minus a
unfoldable pub sfh_of : List ℕ → List ℕ → List ℕ
sfh_of a b = zip_lanes w16 (difference w16) b a

-- words: b minus a
unfoldable pub sf_of : List ℕ → List ℕ → List ℕ
sf_of a b = zip_lanes w32 (difference w32) b a

-- halfwords: the immediate minus a
unfoldable pub sfhi_of : List ℕ → ℕ → List ℕ
sfhi_of a imm = sfh_of a (ten_bits w16 imm)

-- words: the immediate minus a
unfoldable pub sfi_of : List ℕ → ℕ → List ℕ
sfi_of a imm = sf_of a (ten_bits w32 imm)

-- a sum with the lowest bit of the old target
abbrev pub sum_with_carry : ℕ → ℕ → ℕ → ℕ
sum_with_carry x y t = (x + y + t % 2) % 2 ^ 32

-- words: a plus b plus the lowest bit of t
unfoldable pub addx_of : List ℕ → List ℕ → List ℕ → List ℕ
addx_of a b t = zip3_lanes w32 sum_with_carry a b t

-- words: b plus the complement of a plus the lowest bit of t
unfoldable pub sfx_of : List ℕ → List ℕ → List ℕ → List ℕ
sfx_of a b t = zip3_lanes w32 (λ x y z. sum_with_carry (2 ^ 32 - 1 - x) y z) a b t

-- 1 where the sum needs more than a word
abbrev pub carry : ℕ → ℕ
carry total = one_where (nat_le (2 ^ 32) total)

-- words: the carry of a plus b
unfoldable pub cg_of : List ℕ → List ℕ → List ℕ
cg_of a b = zip_lanes w32 (λ x y. carry (x + y)) a b

-- words: the carry of a plus b plus the lowest bit of t
unfoldable pub cgx_of : List ℕ → List ℕ → List ℕ → List ℕ
cgx_of a b t = zip3_lanes w32 (λ x y z. carry (x + y + z % 2)) a b t

-- words: 1 where a can be taken from b with no borrow
unfoldable pub bg_of : List ℕ → List ℕ → List ℕ
bg_of a b = zip_lanes w32 (λ x y. one_where (nat_le x y)) a b

-- the same; b has to be above a where the lowest bit of t is 0
unfoldable pub bgx_of : List ℕ → List ℕ → List ℕ → List ℕ
bgx_of a b t = zip3_lanes w32 (λ x y z. one_where (if z % 2 == 1 then nat_le x y else nat_lt x y)) a b t

-- ---- multiplies

-- the product of two halfwords read as signed, as a word
abbrev pub signed_product : ℕ → ℕ → ℕ
signed_product x y = cast_unsigned w32 (cast_signed w16 x *ℤ cast_signed w16 y)

-- the right halfwords, read as signed
unfoldable pub mpy_of : List ℕ → List ℕ → List ℕ
mpy_of a b = zip_lanes w32 (λ x y. signed_product (lo x) (lo y)) a b

-- the right halfwords, read as unsigned
unfoldable pub mpyu_of : List ℕ → List ℕ → List ℕ
mpyu_of a b = zip_lanes w32 (λ x y. lo x * lo y) a b

-- the right halfword and the immediate, read as signed
unfoldable pub mpyi_of : List ℕ → ℕ → List ℕ
mpyi_of a imm = map_lanes w32 (λ x. signed_product (lo x) (extended 10 w16 imm)) a

-- the right halfword and the immediate, which gets its sign at a halfword and is read as unsigned
unfoldable pub mpyui_of : List ℕ → ℕ → List ℕ
mpyui_of a imm = map_lanes w32 (λ x. lo x * extended 10 w16 imm) a

-- the right halfwords, read as signed, plus c
unfoldable pub mpya_of : List ℕ → List ℕ → List ℕ → List ℕ
mpya_of a b c = zip3_lanes w32 (λ x y z. sum w32 (signed_product (lo x) (lo y)) z) a b c

-- the left halfword of a and the right one of b, in the left halfword
unfoldable pub mpyh_of : List ℕ → List ℕ → List ℕ
mpyh_of a b = zip_lanes w32 (λ x y. hi x * lo y * 2 ^ 16 % 2 ^ 32) a b

-- the left halfword of the signed product of the right halfwords, with its sign
unfoldable pub mpys_of : List ℕ → List ℕ → List ℕ
mpys_of a b = zip_lanes w32 (λ x y. extended 16 w32 (hi (signed_product (lo x) (lo y)))) a b

-- the left halfwords, read as signed
unfoldable pub mpyhh_of : List ℕ → List ℕ → List ℕ
mpyhh_of a b = zip_lanes w32 (λ x y. signed_product (hi x) (hi y)) a b

-- the same plus t
unfoldable pub mpyhha_of : List ℕ → List ℕ → List ℕ → List ℕ
mpyhha_of a b t = zip3_lanes w32 (λ x y z. sum w32 (signed_product (hi x) (hi y)) z) a b t

-- the left halfwords, read as unsigned
unfoldable pub mpyhhu_of : List ℕ → List ℕ → List ℕ
mpyhhu_of a b = zip_lanes w32 (λ x y. hi x * hi y) a b

-- the same plus t
unfoldable pub mpyhhau_of : List ℕ → List ℕ → List ℕ → List ℕ
mpyhhau_of a b t = zip3_lanes w32 (λ x y z. sum w32 (hi x * hi y) z) a b t

-- ---- compares: a lane of all ones where it holds, else of all zeros

-- x is y; x is above y, both read as signed; the same, both read as unsigned
abbrev pub where_equal : Width → ℕ → ℕ → ℕ
where_equal w x y = truth w (x == y)

abbrev pub where_signed_above : Width → ℕ → ℕ → ℕ
where_signed_above w x y = truth w (lt_z (cast_signed w y) (cast_signed w x))

abbrev pub where_above : Width → ℕ → ℕ → ℕ
where_above w x y = truth w (nat_lt y x)

-- bytes that are equal
unfoldable pub ceqb_of : List ℕ → List ℕ → List ℕ
ceqb_of a b = zip_lanes w8 (where_equal w8) a b

-- halfwords that are equal
unfoldable pub ceqh_of : List ℕ → List ℕ → List ℕ
ceqh_of a b = zip_lanes w16 (where_equal w16) a b

-- words that are equal
unfoldable pub ceq_of : List ℕ → List ℕ → List ℕ
ceq_of a b = zip_lanes w32 (where_equal w32) a b

-- bytes of a above those of b, as signed
unfoldable pub cgtb_of : List ℕ → List ℕ → List ℕ
cgtb_of a b = zip_lanes w8 (where_signed_above w8) a b

-- halfwords of a above those of b, as signed
unfoldable pub cgth_of : List ℕ → List ℕ → List ℕ
cgth_of a b = zip_lanes w16 (where_signed_above w16) a b

-- words of a above those of b, as signed
unfoldable pub cgt_of : List ℕ → List ℕ → List ℕ
cgt_of a b = zip_lanes w32 (where_signed_above w32) a b

-- bytes of a above those of b, as unsigned
unfoldable pub clgtb_of : List ℕ → List ℕ → List ℕ
clgtb_of a b = zip_lanes w8 (where_above w8) a b

-- halfwords of a above those of b, as unsigned
unfoldable pub clgth_of : List ℕ → List ℕ → List ℕ
clgth_of a b = zip_lanes w16 (where_above w16) a b

-- words of a above those of b, as unsigned
unfoldable pub clgt_of : List ℕ → List ℕ → List ℕ
clgt_of a b = zip_lanes w32 (where_above w32) a b

-- the same with the immediate: its low eight bits for bytes, its ten bits with their sign for halfwords and words
unfoldable pub ceqbi_of : List ℕ → ℕ → List ℕ
ceqbi_of a imm = ceqb_of a (low_byte imm)

unfoldable pub ceqhi_of : List ℕ → ℕ → List ℕ
ceqhi_of a imm = ceqh_of a (ten_bits w16 imm)

unfoldable pub ceqi_of : List ℕ → ℕ → List ℕ
ceqi_of a imm = ceq_of a (ten_bits w32 imm)

unfoldable pub cgtbi_of : List ℕ → ℕ → List ℕ
cgtbi_of a imm = cgtb_of a (low_byte imm)

unfoldable pub cgthi_of : List ℕ → ℕ → List ℕ
cgthi_of a imm = cgth_of a (ten_bits w16 imm)

unfoldable pub cgti_of : List ℕ → ℕ → List ℕ
cgti_of a imm = cgt_of a (ten_bits w32 imm)

unfoldable pub clgtbi_of : List ℕ → ℕ → List ℕ
clgtbi_of a imm = clgtb_of a (low_byte imm)

unfoldable pub clgthi_of : List ℕ → ℕ → List ℕ
clgthi_of a imm = clgth_of a (ten_bits w16 imm)

unfoldable pub clgti_of : List ℕ → ℕ → List ℕ
clgti_of a imm = clgt_of a (ten_bits w32 imm)
