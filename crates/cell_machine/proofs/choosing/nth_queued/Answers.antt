use Rattle.std.proofs.Common.{◌≡◌, ◌%◌, length, arith, sym, ap}
use Rattle.std.specs.Prelude.{List, slice_get}
use Rattle.cell_base.specs.declared.steps.Step.{Step}
use Rattle.cell_machine.proofs.Choices.{queued-no_spe, queued-says}
use Rattle.cell_machine.proofs.choosing.nth_queued.Goals as goal

pub returns-then-spe-processors : goal.returns-then-spe-processors
returns-then-spe-processors c = λ memory host M shows.
    sym (ap (λ (xs : List Step). slice_get xs (c.args.choice % length xs)) (queued-no_spe _ M c.args.spe c.args.index shows (omega arith)))

pub pick_at-requires : goal.pick_at-requires
pick_at-requires c = rw c.index-processors-spe.is (c.requires c.args.spe _ (omega arith))

pub returns : goal.returns
returns c = λ memory host M shows.
    queued-says _ M c.args.spe c.args.index _ (λ xs. c.pick_at.result ≡ slice_get xs (c.args.choice % length xs)) shows (omega arith) c.index-processors-spe.is c.pick_at.ensures
