use Rattle.std.proofs.Common.{◌∷◌, sym}
use Rattle.std.specs.Global.{Vec}
use Rattle.std.proofs.lemmas.Bool.{eqb-true}
use Rattle.std.proofs.lemmas.Result.{err_from_is_err_and}
use Rattle.spu_asm.specs.declared.syntax.ListedLine.{ListedLine}
use Rattle.spu_asm.specs.Listings.{listed_from}
use Rattle.spu_asm.specs.Source.{line_view, lines_left}
use Rattle.spu_asm.proofs.ListingLemmas.{Lists, goes_on, wrong, is_done}
use Rattle.spu_asm.proofs.OutcomeLemmas.{shows_err}
use Rattle.spu_asm.proofs.SourceLemmas.{no_lines}
use Rattle.spu_asm.proofs.listing.listed_lines.Goals as goal

pub returns-in_err-next : goal.returns-in_err-next
returns-in_err-next c =
    let text = c.args.text.now in
    let l = c.loop-unread in
    let line = line_view c.read_line.result.0 in
    let others = lines_left text c.read_line.result.1 in
    let total = listed_from 0 c.args.start (lines_left text c.args.lines) in
    let e = c.in_err-next.field-0.0 in
    let p = err_from_is_err_and c.from_residual.result c.from_residual.ensures.1 in
    let here : Lists l.found.items l.text_at l.data_at (line ∷ others) total = rw c.read_line.ensures.line at l.invariant.lists in
    rw (p.1, p.2) (shows_err (λ (v : Vec ListedLine). v.items) e total (wrong l.found.items l.text_at l.data_at line others total here e (sym c.in_err-next.ensures.stepped)))

pub loop-unread-preserved : goal.loop-unread-preserved
loop-unread-preserved c =
    let text = c.args.text.now in
    let l = c.loop-unread in
    let line = line_view c.read_line.result.0 in
    let others = lines_left text c.read_line.result.1 in
    let total = listed_from 0 c.args.start (lines_left text c.args.lines) in
    let here : Lists l.found.items l.text_at l.data_at (line ∷ others) total = rw c.read_line.ensures.line at l.invariant.lists in
    record {
      lists = rw (c.in_ok-push.ensures.items, c.listed_line.ensures) (goes_on l.found.items l.text_at l.data_at line others total here c.in_ok-next.next (sym c.in_ok-next.ensures.stepped));
      text_bound = c.in_ok-next.ensures.text_bound;
      data_bound = c.in_ok-next.ensures.data_bound;
      left = c.read_line.ensures.left;
    }

pub returns : goal.returns
returns c =
    let text = c.args.text.now in
    let l = c.loop-unread in
    is_done l.found.items l.text_at l.data_at (lines_left text l.unread) (listed_from 0 c.args.start (lines_left text c.args.lines)) (no_lines text l.unread.number l.unread.section l.unread.tokens.now (eqb-true _ _ (sym c.loop-unread-test.ensures))) l.invariant.lists
