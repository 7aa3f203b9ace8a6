use Rattle.std.proofs.Common.{◌≡◌, ◌+◌, not, arith, refl, sym, ◌∙◌, ap, subst}
use Rattle.std.specs.Prelude.{Ok, Err}
use Rattle.mfc_queue.specs.At.{IsAt}
use Rattle.mfc_queue.specs.Sets.{has_part}
use Rattle.mfc_queue.proofs.AtLemmas.{pass-skip, pass-here, pass-end, pass-all, at-next}
use Rattle.mfc_queue.proofs.part_set.PartSet.missing_at.Goals as goal

pub loop-k-init : goal.loop-k-init
loop-k-init c = λ r h. subst (IsAt r c.args.n) (pass-all (λ j. not (has_part c.args.self.now.words j)) c.args.below) h

pub loop-k-preserved-then-has : goal.loop-k-preserved-then-has
loop-k-preserved-then-has c = λ r h.
    c.loop-k.invariant r (subst (IsAt r c.loop-k.rest) (sym (pass-skip (λ j. not (has_part c.args.self.now.words j)) c.loop-k.k c.args.below (omega arith) (ap not (sym c.has.ensures ∙ c.if-has.true)))) h)

pub returns-then-rest-eq0-clause-at : goal.returns-then-rest-eq0-clause-at
returns-then-rest-eq0-clause-at c =
    c.loop-k.invariant (Ok c.loop-k.k) (subst (IsAt (Ok c.loop-k.k) c.loop-k.rest) (sym (pass-here (λ j. not (has_part c.args.self.now.words j)) c.loop-k.k c.args.below (omega arith) (ap not (sym c.has.ensures ∙ c.if-has.false)))) (rw c.if-rest-eq0.true refl))

pub loop-k-preserved : goal.loop-k-preserved
loop-k-preserved c = λ r h.
    c.loop-k.invariant r (subst (IsAt r c.loop-k.rest) (sym (pass-here (λ j. not (has_part c.args.self.now.words j)) c.loop-k.k c.args.below (omega arith) (ap not (sym c.has.ensures ∙ c.if-has.false)))) (at-next r c.loop-k.rest _ _ c.if-rest-eq0.false h))

pub returns-clause-at : goal.returns-clause-at
returns-clause-at c =
    c.loop-k.invariant (Err c.loop-k.rest) (subst (IsAt (Err c.loop-k.rest) c.loop-k.rest) (sym (pass-end (λ j. not (has_part c.args.self.now.words j)) c.loop-k.k c.args.below (omega arith))) (let e : c.loop-k.rest ≡ 0 + c.loop-k.rest = omega arith in e))
