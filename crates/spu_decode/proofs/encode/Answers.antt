use Rattle.spu_decode.specs.Spelling.{word_of}
use Rattle.spu_decode.proofs.EncodeLemmas.{opcode_fits, word_spells, word_below}
use Rattle.spu_decode.proofs.DecodeLemmas.{Spells-instr_of}
use Rattle.spu_decode.proofs.encode.Goals as goal

pub place_opcode-requires : goal.place_opcode-requires
place_opcode-requires c = rw c.row_shape-shape.ensures (opcode_fits c.args.i.row)

pub returns-clause-spells : goal.returns-clause-spells
returns-clause-spells c =
    rw (c.place_opcode.ensures, c.place_fields.ensures, c.row_shape-shape.ensures) (word_spells c.args.i c.requires)

pub returns-clause-means : goal.returns-clause-means
returns-clause-means c =
    rw (c.place_opcode.ensures, c.place_fields.ensures, c.row_shape-shape.ensures)
    (Spells-instr_of (word_of c.args.i) c.args.i (word_below c.args.i c.requires) (word_spells c.args.i c.requires))
