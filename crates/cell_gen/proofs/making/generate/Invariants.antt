use Rattle.std.proofs.Common.{◌≡◌}
use Rattle.cell_gen.proofs.Made.{made_with}
use Rattle.cell_gen.proofs.making.generate.Given as goal

abbrev pub invariant-loop : goal.invariant-loop
invariant-loop l = l.setup ≡ made_with l.n l.counter
