use Rattle.std.proofs.Common.{arith}
use Rattle.std.specs.Prelude.{All}
use Rattle.spu_decode.specs.Spelling.{FieldsFit}
use Rattle.cell_gen.proofs.Fits.{program_fits}
use Rattle.cell_gen.proofs.program.code.Goals as goal

pub encode-requires : goal.encode-requires
encode-requires c =
    let fit : All FieldsFit c.program-instructions.result = rw c.program-instructions.ensures (program_fits c.args.base c.args.n c.requires.base c.requires.rounds) in
    fit c.loop-i.i-index _ (omega arith)
