use Rattle.std.proofs.Common.{length, subst}
use Rattle.race_order.specs.Orderly.{IsWithin}
use Rattle.race_check.proofs.Prefixes.{run-told}
use Rattle.run_permute.proofs.Walking.{within-next}
use Rattle.run_permute.proofs.made.Made.of.Goals as goal

pub asked-requires : goal.asked-requires
asked-requires c p own =
    let m = c.args.machine.now in
    subst (IsWithin (length m.setup.entries)) own (within-next m c.args.step c.args.effect (run-told m c.steps-steps.ensures.run) c.requires)
