-- What each row computes, lane by lane.
use Rattle.std.specs.Prelude.{ℕ, ◌+◌, ◌-◌, ◌*◌, ◌/◌, ◌%◌, ◌^◌, List, ◌&&◌, if◌then◌else◌, nat_lt, nat_le, bit_and, bit_or, bit_xor, count_ones, slice_index, map}
use Rattle.std.specs.Int.{w8, w16, w32, w64, w128, bit_not, leading_zeros, abs_diff}
use Rattle.std.specs.Int.Digits.{number_from_digits}
use Rattle.cell_base.specs.Bytes.{number, spelled}
use Rattle.cell_base.specs.Lanes.{lanes, lanes_from, map_lanes, zip_lanes, low_byte, ten_bits, mask_from, first_word, in_first_word, extended}

-- ---- counting and bytes

-- the number of zero bits before the first one, 32 in a word of zeros
unfoldable pub clz_of : List ℕ → List ℕ
clz_of a = map_lanes w32 (leading_zeros w32) a

-- the number of ones in each byte
unfoldable pub cntb_of : List ℕ → List ℕ
cntb_of a = map_lanes w8 count_ones a

-- the right half of each lane with its sign
unfoldable pub xsbh_of : List ℕ → List ℕ
xsbh_of a = map_lanes w16 (λ x. extended 8 w16 (x % 2 ^ 8)) a

unfoldable pub xshw_of : List ℕ → List ℕ
xshw_of a = map_lanes w32 (λ x. extended 16 w32 (x % 2 ^ 16)) a

unfoldable pub xswd_of : List ℕ → List ℕ
xswd_of a = map_lanes w64 (λ x. extended 32 w64 (x % 2 ^ 32)) a

-- the average of two bytes, a half rounded up
unfoldable pub avgb_of : List ℕ → List ℕ → List ℕ
avgb_of a b = zip_lanes w8 (λ x y. (x + y + 1) / 2) a b

-- the absolute difference of two bytes
unfoldable pub absdb_of : List ℕ → List ℕ → List ℕ
absdb_of a b = zip_lanes w8 abs_diff a b

-- the sum of the four bytes of a word
abbrev pub byte_sum : ℕ → ℕ
byte_sum x = x / 2 ^ 24 + x / 2 ^ 16 % 256 + x / 2 ^ 8 % 256 + x % 256

-- the sum of the bytes of b in the left halfword, that of a in the right one
unfoldable pub sumb_of : List ℕ → List ℕ → List ℕ
sumb_of a b = zip_lanes w32 (λ x y. byte_sum y * 2 ^ 16 + byte_sum x) a b

-- ---- masks and gathered bits

unfoldable pub fsmb_of : List ℕ → List ℕ
fsmb_of a = mask_from w8 16 (first_word a)

unfoldable pub fsmh_of : List ℕ → List ℕ
fsmh_of a = mask_from w16 8 (first_word a)

unfoldable pub fsm_of : List ℕ → List ℕ
fsm_of a = mask_from w32 4 (first_word a)

-- the number whose binary digits are the low bits of the lanes, the first lane leftmost
abbrev pub low_bits : List ℕ → ℕ
low_bits xs = number_from_digits 2 (map (λ x. x % 2) xs)

unfoldable pub gbb_of : List ℕ → List ℕ
gbb_of a = in_first_word (low_bits (lanes w8 a))

unfoldable pub gbh_of : List ℕ → List ℕ
gbh_of a = in_first_word (low_bits (lanes w16 a))

unfoldable pub gb_of : List ℕ → List ℕ
gb_of a = in_first_word (low_bits (lanes w32 a))

-- ---- logic, on all bits of the quadwords
unfoldable pub and_of : List ℕ → List ℕ → List ℕ
and_of a b = spelled 16 (bit_and (number a) (number b))

unfoldable pub andc_of : List ℕ → List ℕ → List ℕ
andc_of a b = spelled 16 (bit_and (number a) (bit_not w128 (number b)))

unfoldable pub or_of : List ℕ → List ℕ → List ℕ
or_of a b = spelled 16 (bit_or (number a) (number b))

unfoldable pub orc_of : List ℕ → List ℕ → List ℕ
orc_of a b = spelled 16 (bit_or (number a) (bit_not w128 (number b)))

unfoldable pub xor_of : List ℕ → List ℕ → List ℕ
xor_of a b = spelled 16 (bit_xor (number a) (number b))

unfoldable pub nand_of : List ℕ → List ℕ → List ℕ
nand_of a b = spelled 16 (bit_not w128 (bit_and (number a) (number b)))

unfoldable pub nor_of : List ℕ → List ℕ → List ℕ
nor_of a b = spelled 16 (bit_not w128 (bit_or (number a) (number b)))

unfoldable pub eqv_of : List ℕ → List ℕ → List ℕ
eqv_of a b = spelled 16 (bit_not w128 (bit_xor (number a) (number b)))

-- the bit of b where the bit of c is 1, else that of a
unfoldable pub selb_of : List ℕ → List ℕ → List ℕ → List ℕ
selb_of a b c = spelled 16 (bit_or (bit_and (number b) (number c)) (bit_and (number a) (bit_not w128 (number c))))

unfoldable pub andbi_of : List ℕ → ℕ → List ℕ
andbi_of a imm = and_of a (low_byte imm)

unfoldable pub andhi_of : List ℕ → ℕ → List ℕ
andhi_of a imm = and_of a (ten_bits w16 imm)

unfoldable pub andi_of : List ℕ → ℕ → List ℕ
andi_of a imm = and_of a (ten_bits w32 imm)

unfoldable pub orbi_of : List ℕ → ℕ → List ℕ
orbi_of a imm = or_of a (low_byte imm)

unfoldable pub orhi_of : List ℕ → ℕ → List ℕ
orhi_of a imm = or_of a (ten_bits w16 imm)

unfoldable pub ori_of : List ℕ → ℕ → List ℕ
ori_of a imm = or_of a (ten_bits w32 imm)

unfoldable pub xorbi_of : List ℕ → ℕ → List ℕ
xorbi_of a imm = xor_of a (low_byte imm)

unfoldable pub xorhi_of : List ℕ → ℕ → List ℕ
xorhi_of a imm = xor_of a (ten_bits w16 imm)

unfoldable pub xori_of : List ℕ → ℕ → List ℕ
xori_of a imm = xor_of a (ten_bits w32 imm)

abbrev pub word_of : List ℕ → ℕ → ℕ
word_of a k = slice_index (lanes w32 a) k

-- the or of the four words in word 0, zeros after
unfoldable pub orx_of : List ℕ → List ℕ
orx_of a = in_first_word (bit_or (bit_or (bit_or (word_of a 0) (word_of a 1)) (word_of a 2)) (word_of a 3))

-- ---- shuffles and their controls

-- byte i of the 32 bytes of a followed by b
abbrev pub byte_of_both : List ℕ → List ℕ → ℕ → ℕ
byte_of_both a b i = if nat_lt i 16 then slice_index a i else slice_index b (i - 16)

-- the byte that a control byte picks: a byte of a or b, or one of three constants
abbrev pub picked : List ℕ → List ℕ → ℕ → ℕ
picked a b x =
    if nat_lt x 0x80 then byte_of_both a b (x % 32)
    else if nat_lt x 0xC0 then 0
    else if nat_lt x 0xE0 then 0xFF
    else 0x80

unfoldable pub shufb_of : List ℕ → List ℕ → List ℕ → List ℕ
shufb_of a b c = map_lanes w8 (picked a b) c

-- byte k of the bytes 10, 11, .., 1F with the n bytes from `first` on in place of those from p on
abbrev pub control_byte : ℕ → ℕ → ℕ → ℕ → ℕ
control_byte n first p k = if nat_le p k && nat_lt k (p + n) then first + (k - p) else 16 + k

-- the controls that put the preferred byte, halfword, word or doubleword of one quadword into another at p
abbrev pub byte_control : ℕ → List ℕ
byte_control p = lanes_from w8 (control_byte 1 3 p)

abbrev pub half_control : ℕ → List ℕ
half_control p = lanes_from w8 (control_byte 2 2 p)

abbrev pub word_control : ℕ → List ℕ
word_control p = lanes_from w8 (control_byte 4 0 p)

abbrev pub double_control : ℕ → List ℕ
double_control p = lanes_from w8 (control_byte 8 0 p)

-- the address that an immediate of seven bits, or a second quadword, gives with word 0
abbrev pub address_by_immediate : List ℕ → ℕ → ℕ
address_by_immediate a imm = (first_word a + extended 7 w32 imm) % 2 ^ 32

abbrev pub address_by_index : List ℕ → List ℕ → ℕ
address_by_index a b = (first_word a + first_word b) % 2 ^ 32

unfoldable pub cbd_of : List ℕ → ℕ → List ℕ
cbd_of a imm = byte_control (bit_and (address_by_immediate a imm) 0xF)

unfoldable pub chd_of : List ℕ → ℕ → List ℕ
chd_of a imm = half_control (bit_and (address_by_immediate a imm) 0xE)

unfoldable pub cwd_of : List ℕ → ℕ → List ℕ
cwd_of a imm = word_control (bit_and (address_by_immediate a imm) 0xC)

unfoldable pub cdd_of : List ℕ → ℕ → List ℕ
cdd_of a imm = double_control (bit_and (address_by_immediate a imm) 0x8)

unfoldable pub cbx_of : List ℕ → List ℕ → List ℕ
cbx_of a b = byte_control (bit_and (address_by_index a b) 0xF)

unfoldable pub chx_of : List ℕ → List ℕ → List ℕ
chx_of a b = half_control (bit_and (address_by_index a b) 0xE)

unfoldable pub cwx_of : List ℕ → List ℕ → List ℕ
cwx_of a b = word_control (bit_and (address_by_index a b) 0xC)

unfoldable pub cdx_of : List ℕ → List ℕ → List ℕ
cdx_of a b = double_control (bit_and (address_by_index a b) 0x8)
