use Rattle.std.proofs.Common.{ℕ, List}
use Rattle.std.specs.Borrow.{Bor}
use Rattle.spu_decode.specs.Spelling.{mnemonic_of}
use Rattle.spu_decode.proofs.MnemonicLemmas.{entry_beside}
use Rattle.spu_decode.proofs.names.mnemonic.Goals as goal

pub returns : goal.returns
returns c = entry_beside (λ (t : Bor (List ℕ)). t.now) mnemonic_of c.mnemonics.result.now c.index_of.result c.args.row _ c.mnemonics.ensures c.index_of.ensures.at
