use Rattle.std.proofs.Common.{◌+◌, not, sym, ap, ◌∙◌, drop}
use Rattle.run_permute.specs.Watches.{stalled_from}
use Rattle.run_permute.proofs.Stalls.{from-listed, from-other, from-end, from-refused}
use Rattle.run_permute.proofs.Executed.{or-left, or-right}
use Rattle.std.specs.Prelude.{is_some}
use Rattle.run_permute.proofs.watch.stalled_tag.Goals as goal
use Rattle.run_permute.proofs.watch.stalled_tag.Goals.{then-is_some-via-then-is_some, then-is_some-via-else-is_some+then-not-command, then-is_list+else-is_some+else-not-command, else-is_list}

pub returns-then-is_some : goal.returns-then-is_some
returns-then-is_some c =
    let listed = sym c.is_list.ensures ∙ c.if-is_list.true in
    let refused = from-refused c.args.kept.now c.loop-command.command-index c.loop-command.tag c.command-item.result c.loop-command-test.true c.command-item.is listed in
    elim c.then-is_some.branch [
      | then-is_some-via-then-is_some w ↦ sym (c.loop-command.invariant ∙ refused (or-left (is_some c.loop-command.tag) _ (sym c.is_some.ensures ∙ w.if-is_some.true)))
      | then-is_some-via-else-is_some+then-not-command w ↦ sym (c.loop-command.invariant ∙ refused (or-right (is_some c.loop-command.tag) _ (ap not w.if-not-command.true)))
    ]

pub loop-command-preserved : goal.loop-command-preserved
loop-command-preserved c =
    elim c.if-is_list.branch [
      | then-is_list+else-is_some+else-not-command w ↦
          c.loop-command.invariant
          ∙ from-listed c.args.kept.now c.loop-command.command-index c.loop-command.tag c.command-item.result c.loop-command-test.true c.command-item.is (sym c.is_list.ensures ∙ w.if-is_list.true) (sym w.is_some.ensures ∙ w.if-is_some.false) w.if-not-command.false
          ∙ ap (λ t. stalled_from t (drop (c.loop-command.command-index + 1) c.args.kept.now)) (sym w.tag-is)
      | else-is_list w ↦
          c.loop-command.invariant
          ∙ from-other c.args.kept.now c.loop-command.command-index c.loop-command.tag c.command-item.result c.loop-command-test.true c.command-item.is (sym c.is_list.ensures ∙ w.if-is_list.false)
          ∙ ap (λ t. stalled_from t (drop (c.loop-command.command-index + 1) c.args.kept.now)) (sym w.tag-is)
    ]

pub returns : goal.returns
returns c = sym (c.loop-command.invariant ∙ from-end c.args.kept.now c.loop-command.command-index c.loop-command.tag c.loop-command-test.false)
