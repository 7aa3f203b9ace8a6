-- The fields that a row names fit.
use Rattle.std.proofs.Common.{◌≡◌, ◌^◌, ◌<◌, refl, arith}
use Rattle.spu_decode.specs.declared.Instr.{Instr}
use Rattle.spu_decode.specs.declared.shape.Operands.{Operands}
use Rattle.spu_decode.specs.declared.shape.Operands.TheVariants as operands
use Rattle.spu_decode.specs.Spelling.{shape_of, named, immediate_bits, IsWithin, FieldsFit}

pub fits_named : (o : Operands) (i : Instr) → 0 < 2 ^ immediate_bits (shape_of i.row).format → (shape_of i.row).operands ≡ o → IsWithin (shape_of i.row).format i → FieldsFit (named o i)
fits_named operands.RtDisplacementRa i some e h = record { within = record { rt = h.rt; ra = h.ra; rb = omega arith; rc = omega arith; imm = h.imm }; others = rw e refl }
fits_named operands.RtSevenRa i some e h = record { within = record { rt = h.rt; ra = h.ra; rb = omega arith; rc = omega arith; imm = h.imm }; others = rw e refl }
fits_named operands.RtRaRb i some e h = record { within = record { rt = h.rt; ra = h.ra; rb = h.rb; rc = omega arith; imm = some }; others = rw e refl }
fits_named operands.RtRaRbRc i some e h = record { within = record { rt = h.rt; ra = h.ra; rb = h.rb; rc = h.rc; imm = some }; others = rw e refl }
fits_named operands.RtRa i some e h = record { within = record { rt = h.rt; ra = h.ra; rb = omega arith; rc = omega arith; imm = some }; others = rw e refl }
fits_named operands.RaRb i some e h = record { within = record { rt = omega arith; ra = h.ra; rb = h.rb; rc = omega arith; imm = some }; others = rw e refl }
fits_named operands.Ra i some e h = record { within = record { rt = omega arith; ra = h.ra; rb = omega arith; rc = omega arith; imm = some }; others = rw e refl }
fits_named operands.RtAbsolute i some e h = record { within = record { rt = h.rt; ra = omega arith; rb = omega arith; rc = omega arith; imm = h.imm }; others = rw e refl }
fits_named operands.RtRelative i some e h = record { within = record { rt = h.rt; ra = omega arith; rb = omega arith; rc = omega arith; imm = h.imm }; others = rw e refl }
fits_named operands.Absolute i some e h = record { within = record { rt = omega arith; ra = omega arith; rb = omega arith; rc = omega arith; imm = h.imm }; others = rw e refl }
fits_named operands.Relative i some e h = record { within = record { rt = omega arith; ra = omega arith; rb = omega arith; rc = omega arith; imm = h.imm }; others = rw e refl }
fits_named operands.RtSignedHalf i some e h = record { within = record { rt = h.rt; ra = omega arith; rb = omega arith; rc = omega arith; imm = h.imm }; others = rw e refl }
fits_named operands.RtHalf i some e h = record { within = record { rt = h.rt; ra = omega arith; rb = omega arith; rc = omega arith; imm = h.imm }; others = rw e refl }
fits_named operands.RtUnsigned i some e h = record { within = record { rt = h.rt; ra = omega arith; rb = omega arith; rc = omega arith; imm = h.imm }; others = rw e refl }
fits_named operands.RtRaTen i some e h = record { within = record { rt = h.rt; ra = h.ra; rb = omega arith; rc = omega arith; imm = h.imm }; others = rw e refl }
fits_named operands.RtRaByte i some e h = record { within = record { rt = h.rt; ra = h.ra; rb = omega arith; rc = omega arith; imm = h.imm }; others = rw e refl }
fits_named operands.RtRaSeven i some e h = record { within = record { rt = h.rt; ra = h.ra; rb = omega arith; rc = omega arith; imm = h.imm }; others = rw e refl }
fits_named operands.RaTen i some e h = record { within = record { rt = omega arith; ra = h.ra; rb = omega arith; rc = omega arith; imm = h.imm }; others = rw e refl }
fits_named operands.Code i some e h = record { within = record { rt = omega arith; ra = omega arith; rb = omega arith; rc = omega arith; imm = h.imm }; others = rw e refl }
fits_named operands.RtChannel i some e h = record { within = record { rt = h.rt; ra = h.ra; rb = omega arith; rc = omega arith; imm = some }; others = rw e refl }
fits_named operands.ChannelRt i some e h = record { within = record { rt = h.rt; ra = h.ra; rb = omega arith; rc = omega arith; imm = some }; others = rw e refl }
fits_named operands.OptionalRegister i some e h = record { within = record { rt = omega arith; ra = omega arith; rb = omega arith; rc = omega arith; imm = some }; others = rw e refl }
fits_named operands.HintRa i some e h = record { within = record { rt = omega arith; ra = omega arith; rb = omega arith; rc = omega arith; imm = some }; others = rw e refl }
fits_named operands.HintAddresses i some e h = record { within = record { rt = omega arith; ra = omega arith; rb = omega arith; rc = omega arith; imm = some }; others = rw e refl }
fits_named operands.Bare i some e h = record { within = record { rt = omega arith; ra = omega arith; rb = omega arith; rc = omega arith; imm = some }; others = rw e refl }
