use Rattle.std.proofs.Common.{sym}
use Rattle.cell_commands.proofs.looks.Looks.new.Goals as goal

pub returns : goal.returns
returns c =
    let many = sym c.spes-spes.ensures.count in
    record { follows = c.in_ok-settling.ensures c.args.setup.now many; gathers = λ s. c.in_ok-needs.ensures c.args.setup.now many }
