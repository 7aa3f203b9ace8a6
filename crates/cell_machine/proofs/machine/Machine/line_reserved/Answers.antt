use Rattle.std.proofs.Common.{◌≡◌, length, ap, arith}
use Rattle.cell_machine.specs.Run.{Ran}
use Rattle.cell_machine.specs.Shown.{line_reserved_by}
use Rattle.cell_machine.proofs.LineHeld.{line_reserved-is, spe-of_state}
use Rattle.cell_machine.proofs.Replays.{machine-state}
use Rattle.cell_machine.proofs.machine.Machine.line_reserved.Goals as goal

pub line_reserved-requires : goal.line_reserved-requires
line_reserved-requires c =
    let count : length c.self.inside.setup.entries ≡ length c.args.self.now.setup.entries = ap (λ (n : Ran). length n.setup.entries) c.self.view_is in
    let spes = c.self.invariant.0.size.1 in
    omega (arith, c.self.invariant.0.count)

pub returns : goal.returns
returns c =
    let count : length c.self.inside.setup.entries ≡ length c.args.self.now.setup.entries = ap (λ (n : Ran). length n.setup.entries) c.self.view_is in
    spe-of_state c.args.spe (λ P. c.line_reserved.result ≡ line_reserved_by P) _ (machine-state _ _ _ _ _ _ c.self.invariant.0 c.self.view_is (λ M shows long.
    line_reserved-is c.self.inside.processors.items c.self.inside.memory c.self.inside.host M c.args.spe _ shows (omega (arith, c.self.invariant.0.count)) c.line_reserved.ensures))
