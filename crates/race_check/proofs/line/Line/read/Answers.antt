use Rattle.std.proofs.Common.{refl, subst}
use Rattle.race_check.specs.Walks.{IsOrdered}
use Rattle.race_check.specs.declared.line.Line.{Line}
use Rattle.race_check.specs.Crowds.{Tells}
use Rattle.race_check.proofs.LineVisits.{read}
use Rattle.race_check.proofs.line.Line.read.Goals as goal

pub returns : goal.returns
returns c =
    let before = IsOrdered c.args.walk.now.machine in
    let after : Line = record { writes = c.args.self.now.writes; reads = c.join.new.crowds; near = c.in_ok-self.field-0 } in
    read before c.args.new.now c.args.self.now after c.latest_clash-clash.result (subst (λ crowds. Tells before c.args.new.now crowds c.latest_clash-clash.result) c.as_slice.ensures.value c.latest_clash-clash.ensures) refl c.in_ok-self.ensures
