-- How the words of a row are read, from what they spell.
use Rattle.std.specs.Prelude.{ℕ, ◌-◌, ◌^◌}
use Rattle.spu_decode.specs.declared.row.Row.{Row}
use Rattle.spu_decode.specs.declared.fields.Reading.{Reading}
use Rattle.spu_decode.specs.declared.shape.Format.{Format}
use Rattle.spu_decode.specs.declared.shape.Format.TheVariants.{Indirect, Rrr, Ri7, Ri10, Ri16, Ri18}
use Rattle.spu_decode.specs.Spelling.{shape_of, fields_of}

-- the bits that must be 0
abbrev pub clear_bits : Format → ℕ
clear_bits Indirect = 0xC0000
clear_bits _ = 0

-- how far from the right RT stands
abbrev pub rt_shift : Format → ℕ
rt_shift Rrr = 21
rt_shift _ = 0

-- how far from the right the immediate stands
abbrev pub imm_shift : Format → ℕ
imm_shift Ri7 = 14
imm_shift Ri10 = 14
imm_shift Ri16 = 7
imm_shift Ri18 = 7
imm_shift _ = 0

-- how the words of a row are read: what a word of ones is read as, the bits that must be 0, and where the fields stand that don't
-- stand at the same place in all words
abbrev pub reading_of : Row → Reading
reading_of row =
    let format = (shape_of row).format in
    record { ones = fields_of row (2 ^ 32 - 1); clear = clear_bits format; rt_shift = rt_shift format; imm_shift = imm_shift format }
