use Rattle.std.proofs.Common.{◌<◌, ◌^◌, refl, arith}
use Rattle.spu_decode.specs.declared.Instr.{Instr}
use Rattle.spu_decode.specs.Spelling.{shape_of, immediate_bits}
use Rattle.spu_asm.proofs.InstrLemmas.{fits_named}
use Rattle.spu_asm.proofs.instructions.instr.Goals as goal

pub returns-clause-fits : goal.returns-clause-fits
returns-clause-fits c =
    let g = c.args.given in
    let row = c.args.row in
    let all : Instr = record { row = row; rt = g.rt; ra = g.ra; rb = g.rb; rc = g.rc; imm = c.args.imm } in
    let some : 0 < 2 ^ immediate_bits (shape_of row).format = omega (arith, c.requires.imm) in
    let fits = fits_named (shape_of row).operands all some refl (record { rt = c.requires.rt; ra = c.requires.ra; rb = c.requires.rb; rc = c.requires.rc; imm = c.requires.imm }) in
    rw (c.keep_named.ensures, c.row_shape.ensures) fits
