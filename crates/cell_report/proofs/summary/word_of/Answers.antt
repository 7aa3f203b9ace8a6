use Rattle.std.proofs.Common.{◌∙◌}
use Rattle.local_store.proofs.WordLemmas.{number_of_four}
use Rattle.cell_report.proofs.summary.word_of.Goals as goal

pub returns : goal.returns
returns c = c.from_be_bytes.ensures ∙ number_of_four c.args.bytes.now c.told-bytes
