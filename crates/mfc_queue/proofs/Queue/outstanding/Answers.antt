use Rattle.std.proofs.Common.{◌≡◌, ◌==◌, ap, sym, ◌∙◌, arith, true, false}
use Rattle.std.specs.List.{list_any}
use Rattle.std.proofs.lemmas.Bool.Decides.{nat_tests}
use Rattle.mfc_queue.specs.Calls.{issued, is_of_tag}
use Rattle.mfc_queue.proofs.Walks.{numbers-on, numbers-end, any-skip, any-found, any-end}
use Rattle.mfc_queue.proofs.Holding.{held-at, tag-held}
use Rattle.mfc_queue.proofs.Queue.outstanding.Goals as goal

pub returns-then-h-tag : goal.returns-then-h-tag
returns-then-h-tag c = λ calls stands.
    let is : (c.held_at-h.result.now.command.tag == c.args.tag) ≡ true = grind (arith, nat_tests) in
    sym (ap (list_any (is_of_tag (issued calls) c.args.tag)) stands.numbers
    ∙ any-found (is_of_tag (issued calls) c.args.tag) _ _ _ _ (c.loop-i.invariant calls stands) (numbers-on _ c.loop-i.i _ (omega arith) c.held_at-h.ensures)
    (tag-held calls _ c.args.tag (held-at _ calls c.loop-i.i _ stands (omega arith) c.held_at-h.ensures) ∙ is))

pub loop-i-preserved : goal.loop-i-preserved
loop-i-preserved c = λ calls stands.
    let other : (c.held_at-h.result.now.command.tag == c.args.tag) ≡ false = grind (arith, nat_tests) in
    any-skip (is_of_tag (issued calls) c.args.tag) _ _ _ _ (c.loop-i.invariant calls stands) (numbers-on _ c.loop-i.i _ (omega arith) c.held_at-h.ensures)
    (tag-held calls _ c.args.tag (held-at _ calls c.loop-i.i _ stands (omega arith) c.held_at-h.ensures) ∙ other)

pub returns : goal.returns
returns c = λ calls stands.
    sym (ap (list_any (is_of_tag (issued calls) c.args.tag)) stands.numbers
    ∙ any-end (is_of_tag (issued calls) c.args.tag) _ _ (c.loop-i.invariant calls stands) (numbers-end _ c.loop-i.i (omega arith)))
