use Rattle.std.proofs.Common.{◌≡◌, ◌∷◌, ℕ, sym, ◌∙◌}
use Rattle.std.proofs.lemmas.Bool.{eqb-true}
use Rattle.std.proofs.lemmas.Result.{err_from_is_err_and}
use Rattle.spu_asm.specs.declared.syntax.Section.TheVariants.{Text}
use Rattle.spu_asm.specs.Layout.{section_end}
use Rattle.spu_asm.specs.Source.{line_view, lines_left}
use Rattle.spu_asm.proofs.LayoutLemmas.{end_next, end_wrong, end_here}
use Rattle.spu_asm.proofs.OutcomeLemmas.{shows_err}
use Rattle.spu_asm.proofs.SourceLemmas.{no_lines}
use Rattle.spu_asm.proofs.layout.text_end.Goals as goal

pub returns-in_err-at-clause-end : goal.returns-in_err-at-clause-end
returns-in_err-at-clause-end c =
    let text = c.args.text.now in
    let line = line_view c.read_line.result.0 in
    let others = lines_left text c.read_line.result.1 in
    let total = section_end Text 0 (lines_left text c.args.lines) in
    let e = c.in_err-at.field-0.0 in
    let p = err_from_is_err_and c.from_residual.result c.from_residual.ensures.1 in
    let here : section_end Text c.loop-unread.at (line ∷ others) ≡ total = rw c.read_line.ensures.line at c.loop-unread.invariant.end in
    rw (p.1, p.2) (shows_err (λ (at : ℕ). at) e total (sym here ∙ end_wrong Text c.loop-unread.at line others e (sym c.in_err-at.ensures.stepped)))

pub loop-unread-preserved : goal.loop-unread-preserved
loop-unread-preserved c =
    let text = c.args.text.now in
    let line = line_view c.read_line.result.0 in
    let others = lines_left text c.read_line.result.1 in
    let total = section_end Text 0 (lines_left text c.args.lines) in
    let here : section_end Text c.loop-unread.at (line ∷ others) ≡ total = rw c.read_line.ensures.line at c.loop-unread.invariant.end in
    record {
      end = sym (end_next Text c.loop-unread.at line others c.in_ok-at.at (sym c.in_ok-at.ensures.stepped)) ∙ here;
      bound = c.in_ok-at.ensures.bound;
      left = c.read_line.ensures.left;
    }

pub returns-clause-end : goal.returns-clause-end
returns-clause-end c =
    let text = c.args.text.now in
    let unread = c.loop-unread.unread in
    sym c.loop-unread.invariant.end ∙ end_here Text c.loop-unread.at (lines_left text unread) (no_lines text unread.number unread.section unread.tokens.now (eqb-true _ _ (sym c.loop-unread-test.ensures)))
