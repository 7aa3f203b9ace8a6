use Rattle.std.proofs.Common.{ap, sym, ◌∙◌, arith}
use Rattle.local_store.specs.Store.{word_at}
use Rattle.cell_signals.specs.Registers.{processor_in, register_in}
use Rattle.cell_machine.specs.Transfers.{delivery}
use Rattle.cell_machine.proofs.Raising.{signal-part}
use Rattle.cell_machine.proofs.transfers.signal.Goals as goal

pub word-requires-clause-aligned : goal.word-requires-clause-aligned
word-requires-clause-aligned c = c.requires.aligned

pub word-requires-clause-within : goal.word-requires-clause-within
word-requires-clause-within c = let low = c.requires.store in let size = c.requires.size in omega arith

pub returns-clause-sent : goal.returns-clause-sent
returns-clause-sent c = λ P was.
    ap (λ v. record { spe = processor_in c.args.x.ea; register = register_in c.args.x.ea; value = v }) (c.word.ensures ∙ ap (λ s. word_at s c.args.x.ls) (sym was))
    ∙ ap (delivery P) (sym (signal-part c.args.x c.requires))
