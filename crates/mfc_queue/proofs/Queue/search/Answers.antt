use Rattle.std.proofs.Common.{◌≡◌, ◌==◌, true, sym, ◌∙◌, arith}
use Rattle.std.proofs.lemmas.Bool.Decides.{nat_tests}
use Rattle.mfc_queue.specs.declared.Held.{Held}
use Rattle.mfc_queue.proofs.Walks.{find-found, held-on, get-at}
use Rattle.mfc_queue.proofs.Queue.search.Goals as goal

pub returns-then-h-cmd-clause-first : goal.returns-then-h-cmd-clause-first
returns-then-h-cmd-clause-first c =
    let is : (c.held_at-h.result.now.cmd == c.args.cmd) ≡ true = grind (arith, nat_tests) in
    get-at _ c.loop-i.i c.held_at-h.result.now (omega arith) c.held_at-h.ensures
    ∙ sym (find-found (λ (h : Held). h.cmd == c.args.cmd) _ _ _ _ c.loop-i.invariant.first (held-on _ c.loop-i.i c.held_at-h.result.now (omega arith) c.held_at-h.ensures) is)
