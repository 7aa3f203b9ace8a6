use Rattle.std.proofs.Common.{◌≡◌, ℕ, ◌+◌, ◌-◌, length}
use Rattle.cell_hunt.specs.Origins.{commands_of}
use Rattle.cell_hunt.proofs.origins.Origins.grow.Given as goal

abbrev pub invariant-loop-self : goal.invariant-loop-self
invariant-loop-self l =
    record {
      same : (p : ℕ) → commands_of l.self.commands.items p ≡ commands_of l.initial.self.commands.items p;
      rest : l.self ≡ record l.initial.self { commands = l.self.commands };
    }

abbrev pub decreases-loop-self : goal.decreases-loop-self
decreases-loop-self l = l.spe + 1 - length l.self.commands.items
