use Rattle.std.proofs.Common.{◌≡◌, ◌+◌, ◌∷◌, [], drop, length, get_or, ap, arith}
use Rattle.std.proofs.lemmas.List.{length-drop}
use Rattle.std.proofs.lemmas.Result.{err_from_is_err_and}
use Rattle.spu_asm.specs.Source.{line_view, lines_left, labels_view}
use Rattle.spu_asm.specs.Assembling.{sections_of, sections_view}
use Rattle.spu_asm.proofs.LayoutLemmas.{drop_here}
use Rattle.spu_asm.proofs.SectionLemmas.{Makes, grows, fails, is_done, no_elements}
use Rattle.spu_asm.proofs.SourceLemmas.{some_lines}
use Rattle.spu_asm.proofs.sections.make_sections.Goals as goal

pub read_line-requires-clause-some : goal.read_line-requires-clause-some
read_line-requires-clause-some c =
    let unread = c.loop-at.unread in
    let i = c.loop-at.at-index in
    some_lines c.args.text.now unread.number unread.section unread.tokens.now (omega (arith, c.loop-at.invariant.len, length-drop i c.args.places.now, c.loop-at-test.true))

pub returns-in_err-push_line : goal.returns-in_err-push_line
returns-in_err-push_line c =
    let text = c.args.text.now in
    let labels = labels_view c.args.labels.now.entries in
    let places = c.args.places.now in
    let i = c.loop-at.at-index in
    let line = line_view c.read_line.result.0 in
    let others = lines_left text c.read_line.result.1 in
    let total = sections_of text labels places (lines_left text c.args.lines) places in
    let front = sections_view c.loop-at.made in
    let e = c.in_err-push_line.field-0.0 in
    let p = err_from_is_err_and c.from_residual.result c.from_residual.ensures.1 in
    let here : Makes text labels places front (line ∷ others) (get_or places i 0 ∷ drop (i + 1) places) total = rw (c.read_line.ensures.line, drop_here places i 0 c.loop-at-test.true) at c.loop-at.invariant.makes in
    rw (p.1, p.2) (fails text labels places front line others (get_or places i 0) (drop (i + 1) places) total here (λ _. sections_view c.push_line.new.made) sections_view e c.in_err-push_line.ensures)

pub loop-at-preserved : goal.loop-at-preserved
loop-at-preserved c =
    let text = c.args.text.now in
    let labels = labels_view c.args.labels.now.entries in
    let places = c.args.places.now in
    let i = c.loop-at.at-index in
    let line = line_view c.read_line.result.0 in
    let others = lines_left text c.read_line.result.1 in
    let total = sections_of text labels places (lines_left text c.args.lines) places in
    let front = sections_view c.loop-at.made in
    let at = drop_here places i 0 c.loop-at-test.true in
    let here : Makes text labels places front (line ∷ others) (get_or places i 0 ∷ drop (i + 1) places) total = rw (c.read_line.ensures.line, at) at c.loop-at.invariant.makes in
    record {
      makes = grows text labels places front line others (get_or places i 0) (drop (i + 1) places) total here (sections_view c.push_line.new.made) c.in_ok-push_line.ensures;
      len = omega (arith, ap length at, ap length c.read_line.ensures.line, c.loop-at.invariant.len);
      left = c.read_line.ensures.left;
    }

pub returns : goal.returns
returns c =
    let text = c.args.text.now in
    let labels = labels_view c.args.labels.now.entries in
    let places = c.args.places.now in
    let unread = c.loop-at.unread in
    let i = c.loop-at.at-index in
    let none : lines_left text unread ≡ [] = no_elements (lines_left text unread) (omega (arith, c.loop-at.invariant.len, length-drop i places, c.loop-at-test.false)) in
    is_done text labels places (sections_view c.loop-at.made) (lines_left text unread) (drop i places) (sections_of text labels places (lines_left text c.args.lines) places) none c.loop-at.invariant.makes
