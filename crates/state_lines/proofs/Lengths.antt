-- How long the lines are at most.
use Rattle.std.proofs.Common.{◌≡◌, ℕ, zero, suc, ◌+◌, ◌*◌, ◌/◌, ◌%◌, ◌<◌, ◌≤◌, List, [], ◌∷◌, ◌++◌, length, codes, arith, refl, ap, ◌∙◌, length-append}
use Rattle.std.specs.Fmt.{decimal}
use Rattle.std.specs.List.{flat_map}
use Rattle.std.proofs.lemmas.Fmt.{length-decimal-le}
use Rattle.cell_base.specs.Hex.{hex, hex_glyph, byte_hex}
use Rattle.mfc_command.specs.declared.command.DmaFault.{DmaFault}
use Rattle.mfc_command.specs.declared.command.DmaFault.TheVariants.{Opcode, Tag, Size, Alignment, StoreRange, MemoryRange, High}
use Rattle.cell_machine.specs.declared.status.Status.{Status}
use Rattle.cell_machine.specs.declared.status.Status.TheVariants.{Running, Stopped, Halted, BadWord, BadChannel, DmaFault as Fault}
use Rattle.state_lines.specs.Lines.{kind_text, status_text, place_text}

-- a text that grew by one that is short
pub grown : (old text new : List ℕ) (n : ℕ) → new ≡ old ++ text → length text ≤ n → length new ≤ length old + n
grown old text new n is short =
    let long : length new ≡ length old + length text = ap length is ∙ length-append old text in
    omega (arith, long, short)

hex-length : (width n : ℕ) → length (hex width n) ≡ width
unfolding hex
hex-length zero n = refl
hex-length (suc width) n =
    let one : length (hex width (n / 16) ++ hex_glyph (n % 16) ∷ []) ≡ length (hex width (n / 16)) + 1 = length-append (hex width (n / 16)) (hex_glyph (n % 16) ∷ []) in
    let rest = hex-length width (n / 16) in
    omega (arith, one, rest)

pub digits-short : (width n : ℕ) → length (hex width n) ≤ width
digits-short width n = let long = hex-length width n in omega (arith, long)

pub decimal-short : (n : ℕ) → n < 4294967296 → length (decimal n) ≤ 10
decimal-short n low = length-decimal-le 10 n (omega arith) (omega (arith, low)) (omega (arith, low))

-- of a number below 1,000
pub decimal-three : (n : ℕ) → n < 1000 → length (decimal n) ≤ 3
decimal-three n low = length-decimal-le 3 n (omega arith) (omega (arith, low)) (omega (arith, low))

hexes-length : (bytes : List ℕ) → length (flat_map byte_hex bytes) ≡ 2 * length bytes
hexes-length [] = refl
hexes-length (b ∷ bytes) = let rest = hexes-length bytes in omega (arith, rest)

pub bytes-short : (bytes : List ℕ) → length (flat_map byte_hex bytes) ≤ 2 * length bytes
bytes-short bytes = let long = hexes-length bytes in omega (arith, long)

kind-short : (kind : DmaFault) → length (kind_text kind) ≤ 9
kind-short Opcode = omega arith
kind-short Tag = omega arith
kind-short Size = omega arith
kind-short Alignment = omega arith
kind-short StoreRange = omega arith
kind-short MemoryRange = omega arith
kind-short High = omega arith

pub status-short : (status : Status) → length (status_text status) ≤ 18
status-short Running = omega arith
status-short (Stopped code) = let digits = hex-length 4 code in omega (arith, digits)
status-short Halted = omega arith
status-short BadWord = omega arith
status-short BadChannel = omega arith
status-short (Fault kind) = let text = kind-short kind in omega (arith, text)

pub place-short : (pc queued : ℕ) → queued < 4294967296 → length (place_text pc queued) ≤ 30
place-short pc queued low =
    let at = hex-length 5 pc in
    let number = decimal-short queued low in
    simp length-append (omega (arith, at, number))

-- the line of a processor, in five parts
pub line-short : (old a b c d new t0 t1 t2 t3 t4 : List ℕ) → a ≡ old ++ t0 → b ≡ a ++ t1 → c ≡ b ++ t2 → d ≡ c ++ t3 → new ≡ d ++ t4
    → length t0 ≤ 4 → length t1 ≤ 10 → length t2 ≤ 1 → length t3 ≤ 18 → length t4 ≤ 30 → length new ≤ length old + 63
line-short old a b c d new t0 t1 t2 t3 t4 is0 is1 is2 is3 is4 s0 s1 s2 s3 s4 =
    let l0 = grown old t0 a 4 is0 s0 in
    let l1 = grown a t1 b 10 is1 s1 in
    let l2 = grown b t2 c 1 is2 s2 in
    let l3 = grown c t3 d 18 is3 s3 in
    let l4 = grown d t4 new 30 is4 s4 in
    omega (arith, l0, l1, l2, l3, l4)
