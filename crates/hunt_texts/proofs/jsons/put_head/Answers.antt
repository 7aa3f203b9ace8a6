use Rattle.std.proofs.Common.{◌++◌, ap, sym, ◌∙◌, append_assoc}
use Rattle.std.specs.Prelude.{codes}
use Rattle.cell_base.specs.Records.{line_feed}
use Rattle.hunt_texts.specs.Jsons.{runs_of_json, sums_json, ended_json, faulted_json, head_json}
use Rattle.hunt_texts.proofs.RowLemmas.{two, four}
use Rattle.hunt_texts.proofs.jsons.put_head.Goals as goal

pub returns : goal.returns
unfolding head_json
returns c =
    let e1 = c.in_ok-put_runs.ensures ∙ ap (λ n. c.args.out.now.items ++ runs_of_json c.args.seed c.args.from n c.args.expects) c.runs.ensures in
    let e2 = c.in_ok-put_sums.ensures ∙ (λ i. c.put_runs.new.out.items ++ sums_json (c.all_stopped.ensures i) (c.left_out.ensures i) (c.steps.ensures i)) in
    let e3 = c.in_ok-put_ended.ensures ∙ ap (λ f. c.put_sums.new.out.items ++ ended_json c.args.from f) c.flaws-flaws.ensures in
    let e4 = c.in_ok-put_faulted.ensures ∙ ap (λ f. c.put_ended.new.out.items ++ faulted_json c.args.from f) c.flaws-flaws.ensures in
    two _ _ _ _ _ (four _ _ _ _ _ _ _ _ _ e1 e2 e3 e4) c.in_ok-extend_from_slice.ensures.items
    ∙ ap (λ text. c.args.out.now.items ++ text) (sym (append_assoc _ (codes "}") line_feed))
