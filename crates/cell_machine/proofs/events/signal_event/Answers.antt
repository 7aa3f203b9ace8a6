use Rattle.std.proofs.Common.{◌≡◌, ◌≢◌, ◌==◌, false, arith, refl}
use Rattle.std.proofs.lemmas.Bool.Decides.{nat_tests}
use Rattle.cell_machine.proofs.events.signal_event.Goals as goal

pub returns-in_default : goal.returns-in_default
returns-in_default c =
    let apart : c.args.register ≢ 1 = omega arith in
    let off : (c.args.register == 1) ≡ false = grind (arith, nat_tests) in
    rw off refl
