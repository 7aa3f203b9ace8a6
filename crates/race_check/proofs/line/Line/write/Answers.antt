use Rattle.std.proofs.Common.{[], refl, sym, ◌∙◌, subst}
use Rattle.race_check.specs.Walks.{IsOrdered}
use Rattle.race_check.specs.declared.line.Line.{Line}
use Rattle.race_check.specs.Crowds.{IsLater, IsPut, Tells}
use Rattle.race_check.proofs.Latest.{none_of}
use Rattle.race_check.proofs.CrowdLaws.{joined_behind, put_behind}
use Rattle.race_check.proofs.LineVisits.{beside, readers_safe, writers_safe, written}
use Rattle.race_check.proofs.line.Line.write.Goals as goal

pub returns-then-is_some : goal.returns-then-is_some
returns-then-is_some c =
    let before = IsOrdered c.args.walk.now.machine in
    let a = c.latest_clash-written.result in
    let b = c.latest_clash.result in
    let after : Line = record { writes = c.join.new.crowds; reads = c.args.self.now.reads; near = c.args.self.now.near } in
    beside before c.args.new.now c.args.self.now a b c.later-clash.result c.later-clash.ensures
    (subst (λ crowds. Tells before c.args.new.now crowds a) c.as_slice.ensures.value c.latest_clash-written.ensures)
    (subst (λ crowds. Tells before c.args.new.now crowds b) c.as_slice-2.ensures.value c.latest_clash.ensures)
    after c.in_ok-join.ensures refl

pub returns : goal.returns
returns c =
    let before = IsOrdered c.args.walk.now.machine in
    let a = c.latest_clash-written.result in
    let b = c.latest_clash.result in
    let none = subst (IsLater a b) (none_of c.later-clash.result (sym c.is_some.ensures ∙ c.if-is_some.false)) c.later-clash.ensures in
    let after : Line = record { writes = c.push.new.self; reads = c.trim.new.crowds; near = c.args.self.now.near } in
    written before c.args.new.now c.args.self.now after c.trim-2.new.crowds.items
    (writers_safe before c.args.new.now c.args.self.now.writes.items a b none (subst (λ crowds. Tells before c.args.new.now crowds a) c.as_slice.ensures.value c.latest_clash-written.ensures))
    (readers_safe before c.args.new.now c.args.self.now.reads.items a b none (subst (λ crowds. Tells before c.args.new.now crowds b) c.as_slice-2.ensures.value c.latest_clash.ensures))
    c.in_ok-trim.ensures c.in_ok-trim-2.ensures
    (joined_behind before c.args.new.now c.trim-2.new.crowds.items c.push.new.self.items
    (subst (IsPut c.args.new.now [] c.trim-2.new.crowds.items) (sym c.in_ok-push.ensures.items) (put_behind c.trim-2.new.crowds.items c.of.result c.args.new.now [] c.of.ensures.entry c.of.ensures.others)))
