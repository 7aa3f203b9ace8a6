use Rattle.std.proofs.Common.{◌≤◌, ◌∷◌, ℕ, sym}
use Rattle.std.specs.Global.{Vec}
use Rattle.std.proofs.lemmas.Bool.{eqb-true}
use Rattle.std.proofs.lemmas.List.Elements.{All-push}
use Rattle.std.proofs.lemmas.Result.{err_from_is_err_and}
use Rattle.spu_asm.specs.Layout.{places_from}
use Rattle.spu_asm.specs.Source.{line_view, lines_left}
use Rattle.spu_asm.proofs.LayoutLemmas.{Finds, goes_on, wrong, is_done, present_bound}
use Rattle.spu_asm.proofs.OutcomeLemmas.{shows_err}
use Rattle.spu_asm.proofs.SourceLemmas.{no_lines}
use Rattle.spu_asm.proofs.layout.places.Goals as goal

pub returns-in_err-text_at-clause-places : goal.returns-in_err-text_at-clause-places
returns-in_err-text_at-clause-places c =
    let text = c.args.text.now in
    let l = c.loop-unread in
    let line = line_view c.read_line.result.0 in
    let others = lines_left text c.read_line.result.1 in
    let total = places_from 0 c.args.start (lines_left text c.args.lines) in
    let e = c.in_err-text_at.field-0.0 in
    let p = err_from_is_err_and c.from_residual-in_err-text_at.result c.from_residual-in_err-text_at.ensures.1 in
    let here : Finds l.found.items l.text_at l.data_at (line ∷ others) total = rw c.read_line.ensures.line at l.invariant.finds in
    rw (p.1, p.2) (shows_err (λ (v : Vec ℕ). v.items) e total (wrong l.found.items l.text_at l.data_at line others total here e (sym c.in_err-text_at.ensures.stepped)))

pub loop-unread-preserved : goal.loop-unread-preserved
loop-unread-preserved c =
    let text = c.args.text.now in
    let l = c.loop-unread in
    let line = line_view c.read_line.result.0 in
    let others = lines_left text c.read_line.result.1 in
    let total = places_from 0 c.args.start (lines_left text c.args.lines) in
    let here : Finds l.found.items l.text_at l.data_at (line ∷ others) total = rw c.read_line.ensures.line at l.invariant.finds in
    let next : ℕ × ℕ = (c.in_ok-text_at.field-0-0, c.in_ok-text_at.field-0-1) in
    record {
      finds = rw (c.in_ok-push.ensures.items, c.present.ensures) (goes_on l.found.items l.text_at l.data_at line others total here next (sym c.in_ok-text_at.ensures.stepped));
      bound = rw c.in_ok-push.ensures.items (All-push (λ n. n ≤ 262144) l.found.items c.present.result l.invariant.bound (rw c.present.ensures (present_bound line.section l.text_at l.data_at 262144 l.invariant.text_bound l.invariant.data_bound)));
      text_bound = c.in_ok-text_at.ensures.text_bound;
      data_bound = c.in_ok-text_at.ensures.data_bound;
      left = c.read_line.ensures.left;
    }

pub returns-clause-places : goal.returns-clause-places
returns-clause-places c =
    let text = c.args.text.now in
    let l = c.loop-unread in
    is_done l.found.items l.text_at l.data_at (lines_left text l.unread) (places_from 0 c.args.start (lines_left text c.args.lines)) (no_lines text l.unread.number l.unread.section l.unread.tokens.now (eqb-true _ _ (sym c.loop-unread-test.ensures))) l.invariant.finds
