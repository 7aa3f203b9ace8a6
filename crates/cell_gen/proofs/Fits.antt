-- Each instruction of the program fits its row.
use Rattle.std.proofs.Common.{ℕ, ◌<◌, ◌^◌, refl, lit<, rules}
use Rattle.std.specs.Prelude.{All}
use Rattle.std.proofs.lemmas.List.Elements.{All-from_recursion}
use Rattle.spu_decode.specs.Table.{entry_of}
use Rattle.spu_decode.specs.Spelling.{FieldsFit}
use Rattle.cell_gen.specs.Program.{ila, il, brz, brnz, br, wrch, rdch, ori, ai, lqd, stqd, stop, program}

ila_fits : (rt imm : ℕ) → rt < 128 → imm < 2 ^ 18 → FieldsFit (ila rt imm)
unfolding entry_of
ila_fits rt imm register small = record { within = record { rt = register; ra = lit< tt; rb = lit< tt; rc = lit< tt; imm = small }; others = refl }

il_fits : (rt imm : ℕ) → rt < 128 → imm < 2 ^ 16 → FieldsFit (il rt imm)
unfolding entry_of
il_fits rt imm register small = record { within = record { rt = register; ra = lit< tt; rb = lit< tt; rc = lit< tt; imm = small }; others = refl }

brz_fits : (rt distance : ℕ) → rt < 128 → distance < 2 ^ 16 → FieldsFit (brz rt distance)
unfolding entry_of
brz_fits rt distance register small = record { within = record { rt = register; ra = lit< tt; rb = lit< tt; rc = lit< tt; imm = small }; others = refl }

brnz_fits : (rt distance : ℕ) → rt < 128 → distance < 2 ^ 16 → FieldsFit (brnz rt distance)
unfolding entry_of
brnz_fits rt distance register small = record { within = record { rt = register; ra = lit< tt; rb = lit< tt; rc = lit< tt; imm = small }; others = refl }

br_fits : (distance : ℕ) → distance < 2 ^ 16 → FieldsFit (br distance)
unfolding entry_of
br_fits distance small = record { within = record { rt = lit< tt; ra = lit< tt; rb = lit< tt; rc = lit< tt; imm = small }; others = refl }

wrch_fits : (channel rt : ℕ) → channel < 128 → rt < 128 → FieldsFit (wrch channel rt)
unfolding entry_of
wrch_fits channel rt there register = record { within = record { rt = register; ra = there; rb = lit< tt; rc = lit< tt; imm = lit< tt }; others = refl }

rdch_fits : (rt channel : ℕ) → rt < 128 → channel < 128 → FieldsFit (rdch rt channel)
unfolding entry_of
rdch_fits rt channel register there = record { within = record { rt = register; ra = there; rb = lit< tt; rc = lit< tt; imm = lit< tt }; others = refl }

ori_fits : (rt ra imm : ℕ) → rt < 128 → ra < 128 → imm < 2 ^ 10 → FieldsFit (ori rt ra imm)
unfolding entry_of
ori_fits rt ra imm one two small = record { within = record { rt = one; ra = two; rb = lit< tt; rc = lit< tt; imm = small }; others = refl }

ai_fits : (rt ra imm : ℕ) → rt < 128 → ra < 128 → imm < 2 ^ 10 → FieldsFit (ai rt ra imm)
unfolding entry_of
ai_fits rt ra imm one two small = record { within = record { rt = one; ra = two; rb = lit< tt; rc = lit< tt; imm = small }; others = refl }

lqd_fits : (rt displacement ra : ℕ) → rt < 128 → displacement < 2 ^ 10 → ra < 128 → FieldsFit (lqd rt displacement ra)
unfolding entry_of
lqd_fits rt displacement ra one small two = record { within = record { rt = one; ra = two; rb = lit< tt; rc = lit< tt; imm = small }; others = refl }

stqd_fits : (rt displacement ra : ℕ) → rt < 128 → displacement < 2 ^ 10 → ra < 128 → FieldsFit (stqd rt displacement ra)
unfolding entry_of
stqd_fits rt displacement ra one small two = record { within = record { rt = one; ra = two; rb = lit< tt; rc = lit< tt; imm = small }; others = refl }

stop_fits : (code : ℕ) → code < 2 ^ 14 → FieldsFit (stop code)
unfolding entry_of
stop_fits code small = record { within = record { rt = lit< tt; ra = lit< tt; rb = lit< tt; rc = lit< tt; imm = small }; others = refl }

pub program_fits : (base n : ℕ) → base < 2 ^ 18 → n < 2 ^ 16 → All FieldsFit (program base n)
unfolding program
program_fits base n low few =
    All-from_recursion FieldsFit (program base n)
    (search (rules, ila_fits, il_fits, brz_fits, brnz_fits, br_fits, wrch_fits, rdch_fits, ori_fits, ai_fits, lqd_fits, stqd_fits, stop_fits))
