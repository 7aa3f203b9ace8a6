use Rattle.std.proofs.Common.{rules, ◌≡◌, [], ◌∷◌, ◌++◌, length, get_or, refl, sym, ap, ◌∙◌, arith}
use Rattle.std.specs.Prelude.{Some, slice_get}
use Rattle.std.proofs.lemmas.Option.{slice_get-get_or}
use Rattle.cell_base.specs.declared.steps.Step.TheVariants.{Exec}
use Rattle.run_progress.specs.Progress.{is_exec_of, last_ones}
use Rattle.run_progress.proofs.Kept.{recent-changed, recent-more, recent-same, not-exec, exec-past}
use Rattle.run_progress.proofs.recents.add_step.Goals as goal

pub returns-then-repeated-clause-recent : goal.returns-then-repeated-clause-recent
returns-then-repeated-clause-recent c = λ run made of recent. recent-changed run made c.forget.new.recent (of.changes_is ∙ c.if-repeated.true) c.forget.ensures.none

pub returns-in_ok-add-clause-recent : goal.returns-in_ok-add-clause-recent
returns-in_ok-add-clause-recent c = λ run made of recent.
    let place : c.from-index.result ≡ c.in-Exec.spe = search rules in
    let old = get_or c.args.recent.now c.from-index.result c.index-recent-index.result in
    let there : slice_get c.args.recent.now c.from-index.result ≡ Some old = slice_get-get_or c.args.recent.now c.from-index.result c.index-recent-index.result c.if-index-recent.true in
    recent-more run made c.args.recent.now c.from-index.result old c.add.new.self (of.changes_is ∙ c.if-repeated.false) recent (of.step ∙ c.in-Exec.is ∙ ap Exec (sym place)) there
    (c.in_ok-add.ensures ∙ ap (λ e. last_ones 1000 (old.addresses.items ++ e.fetch.at ∷ [])) (sym of.effect))

pub returns-else-index-recent-clause-recent : goal.returns-else-index-recent-clause-recent
returns-else-index-recent-clause-recent c = λ run made of recent.
    let place : c.from-index.result ≡ c.in-Exec.spe = search rules in
    recent-same run made c.args.recent.now (of.changes_is ∙ c.if-repeated.false) recent (exec-past made (length c.args.recent.now) c.from-index.result (of.step ∙ c.in-Exec.is ∙ ap Exec (sym place)) (omega (arith, c.if-index-recent.false)))

pub returns-in_default : goal.returns-in_default
returns-in_default c = record {
  recent = λ run made of recent. recent-same run made c.args.recent.now (of.changes_is ∙ c.if-repeated.false) recent (λ p low. ap (is_exec_of p) of.step ∙ not-exec c.args.repeated.now.step c.in_default.not-Exec p);
  many = refl;
}
