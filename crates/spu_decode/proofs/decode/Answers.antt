use Rattle.std.proofs.Common.{◌≡◌, rules, Some, sym, ◌∙◌, ap}
use Rattle.spu_decode.specs.Spelling.{instr_of}
use Rattle.spu_decode.proofs.TableLemmas.{one_row}
use Rattle.spu_decode.proofs.DecodeLemmas.{instr_of-exactly, instr_of-FieldsFit}
use Rattle.spu_decode.proofs.ReadingLemmas.{found-reading, found-fields}
use Rattle.spu_decode.proofs.decode.Goals as goal

means : (c : goal.After-read_fields) → Some c.read_fields.result ≡ instr_of c.args.w
means c = ap Some c.read_fields.ensures ∙ found-fields c.args.w c.in_ok-reading.reading c.in_ok-reading.ensures

pub returns-in_err-reading-clause-exact : goal.returns-in_err-reading-clause-exact
returns-in_err-reading-clause-exact c =
    let means : c.from_residual.result ≡ instr_of c.args.w = search rules in
    instr_of-exactly c.args.w c.from_residual.result c.ranges.w.fits means

pub returns-in_err-reading-clause-one_row : goal.returns-in_err-reading-clause-one_row
returns-in_err-reading-clause-one_row c = λ r s first second. one_row c.args.w r s c.ranges.w.fits first second

pub read_fields-requires : goal.read_fields-requires
read_fields-requires c = found-reading c.args.w c.in_ok-reading.reading c.in_ok-reading.ensures

pub returns-clause-exact : goal.returns-clause-exact
returns-clause-exact c = instr_of-exactly c.args.w _ c.ranges.w.fits (means c)

pub returns-clause-means : goal.returns-clause-means
returns-clause-means c = means c

pub returns-clause-one_row : goal.returns-clause-one_row
returns-clause-one_row c = λ r s first second. one_row c.args.w r s c.ranges.w.fits first second

pub returns-clause-fits : goal.returns-clause-fits
returns-clause-fits c = instr_of-FieldsFit c.args.w c.read_fields.result (sym (means c))
