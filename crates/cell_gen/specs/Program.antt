-- The program of a generated processor.
use Rattle.std.specs.Prelude.{ℕ, ◌-◌, ◌^◌, List, [], ◌∷◌, flat_map}
use Rattle.std.specs.Int.{w32, to_be_bytes}
use Rattle.spu_decode.specs.Spelling.{word_of}
use Rattle.spu_decode.specs.declared.Instr.{Instr}
use Rattle.spu_decode.specs.declared.row.Row.{Row}
use Rattle.spu_decode.specs.declared.row.Row.TheVariants.{Ila, Il, Brz, Brnz, Br, Wrch, Rdch, Ori, Ai, Lqd, Stqd, Stop}

-- -k as an immediate of ten bits
abbrev pub minus : ℕ → ℕ
minus k = 2 ^ 10 - k

-- k instructions back, as an immediate of sixteen bits
abbrev pub back : ℕ → ℕ
back k = 2 ^ 16 - k

-- an instruction by its fields; no row of the program names RB or RC
abbrev pub instr : Row → ℕ → ℕ → ℕ → Instr
instr row rt ra imm = record { row = row; rt = rt; ra = ra; rb = 0; rc = 0; imm = imm }

-- instructions by their operands, in the order in which a source has them
abbrev pub ila : ℕ → ℕ → Instr
ila rt imm = instr Ila rt 0 imm

abbrev pub il : ℕ → ℕ → Instr
il rt imm = instr Il rt 0 imm

abbrev pub brz : ℕ → ℕ → Instr
brz rt distance = instr Brz rt 0 distance

abbrev pub brnz : ℕ → ℕ → Instr
brnz rt distance = instr Brnz rt 0 distance

abbrev pub br : ℕ → Instr
br distance = instr Br 0 0 distance

abbrev pub wrch : ℕ → ℕ → Instr
wrch channel rt = instr Wrch rt channel 0

abbrev pub rdch : ℕ → ℕ → Instr
rdch rt channel = instr Rdch rt channel 0

abbrev pub ori : ℕ → ℕ → ℕ → Instr
ori rt ra imm = instr Ori rt ra imm

abbrev pub ai : ℕ → ℕ → ℕ → Instr
ai rt ra imm = instr Ai rt ra imm

abbrev pub lqd : ℕ → ℕ → ℕ → Instr
lqd rt displacement ra = instr Lqd rt ra displacement

abbrev pub stqd : ℕ → ℕ → ℕ → Instr
stqd rt displacement ra = instr Stqd rt ra displacement

abbrev pub stop : ℕ → Instr
stop code = instr Stop 0 0 code

-- n rounds over the 2,048 bytes of main memory from `base` on: they are fetched to 0x1000, 1 is added to each word, and they are put back
unfoldable pub program : ℕ → ℕ → List Instr
program base n =
    ila 3 0x1000 ∷
    ila 4 base ∷
    il 5 2048 ∷
    il 7 n ∷
    -- round:
    brz 7 26 ∷  -- to done
    wrch 16 3 ∷
    wrch 18 4 ∷
    wrch 19 5 ∷
    il 8 0x40 ∷  -- GET
    wrch 21 8 ∷
    il 8 1 ∷
    wrch 22 8 ∷
    il 8 2 ∷
    wrch 23 8 ∷
    rdch 9 24 ∷
    il 10 128 ∷
    ori 11 3 0 ∷
    -- add:
    lqd 12 0 11 ∷
    ai 12 12 1 ∷
    stqd 12 0 11 ∷
    ai 11 11 16 ∷
    ai 10 10 (minus 1) ∷
    brnz 10 (back 5) ∷  -- to add
    il 8 0x20 ∷  -- PUT
    wrch 21 8 ∷
    il 8 2 ∷
    wrch 23 8 ∷
    rdch 9 24 ∷
    ai 7 7 (minus 1) ∷
    br (back 25) ∷  -- to round
    -- done:
    stop 0 ∷
    []

-- the bytes of an instruction's word, the first byte the highest
abbrev pub word_bytes : Instr → List ℕ
word_bytes i = to_be_bytes w32 (word_of i)

-- the program as it stands in a store
unfoldable pub code : ℕ → ℕ → List ℕ
code base n = flat_map word_bytes (program base n)
