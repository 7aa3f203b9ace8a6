use Rattle.std.proofs.Common.{◌≡◌, length, ap, arith}
use Rattle.cell_machine.specs.Run.{Ran}
use Rattle.cell_machine.proofs.LineHeld.{line_held-is}
use Rattle.cell_machine.proofs.Replays.{machine-state}
use Rattle.cell_machine.proofs.machine.Machine.line_held.Goals as goal

pub line_held-requires : goal.line_held-requires
line_held-requires c =
    let count : length c.self.inside.setup.entries ≡ length c.args.self.now.setup.entries = ap (λ (n : Ran). length n.setup.entries) c.self.view_is in
    let spes = c.self.invariant.0.size.1 in
    omega (arith, c.self.invariant.0.count)

pub returns : goal.returns
returns c =
    let count : length c.self.inside.setup.entries ≡ length c.args.self.now.setup.entries = ap (λ (n : Ran). length n.setup.entries) c.self.view_is in
    machine-state _ _ _ _ _ _ c.self.invariant.0 c.self.view_is (λ M shows long.
    line_held-is c.self.inside.processors.items c.self.inside.memory c.self.inside.host M c.args.spe _ shows (omega (arith, c.self.invariant.0.count)) c.line_held.ensures)
