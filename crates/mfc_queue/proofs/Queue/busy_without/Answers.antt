use Rattle.std.proofs.Common.{◌≡◌, ◌==◌, true, false, not, ap, sym, ◌∙◌, arith, ◌+◌}
use Rattle.std.specs.Prelude.{fold, filter, bit_or}
use Rattle.std.proofs.lemmas.Bool.Decides.{nat_tests}
use Rattle.mfc_command.specs.Order.{with_group}
use Rattle.mfc_queue.specs.Calls.{issued}
use Rattle.mfc_queue.proofs.Walks.{numbers_from, numbers-on, numbers-end, filter-skip, filter-keep}
use Rattle.mfc_queue.proofs.Holding.{busy-retired, group-held, held-at, shifted}
use Rattle.mfc_queue.proofs.Queue.busy_without.Goals as goal

pub loop-i-preserved-then-h-cmd : goal.loop-i-preserved-then-h-cmd
loop-i-preserved-then-h-cmd c = λ calls stands.
    let is : (c.args.cmd == c.held_at-h.result.now.cmd) ≡ true = grind (arith, nat_tests) in
    c.loop-i.invariant calls stands ∙ ap (fold (with_group (issued calls)) c.loop-i.bits) (filter-skip c.args.cmd _ _ _ (numbers-on _ c.loop-i.i _ (omega arith) c.held_at-h.ensures) is)

pub loop-i-preserved : goal.loop-i-preserved
loop-i-preserved c = λ calls stands.
    let h = c.held_at-h.result.now in
    let other : (c.args.cmd == h.cmd) ≡ false = grind (arith, nat_tests) in
    c.loop-i.invariant calls stands ∙ ap (fold (with_group (issued calls)) c.loop-i.bits) (filter-keep c.args.cmd _ _ _ (numbers-on _ c.loop-i.i _ (omega arith) c.held_at-h.ensures) other)
    ∙ ap (λ b. fold (with_group (issued calls)) b (filter (λ k. not (c.args.cmd == k)) (numbers_from c.args.self.now.held.items (c.loop-i.i + 1))))
    (group-held calls _ c.loop-i.bits (held-at _ calls c.loop-i.i _ stands (omega arith) c.held_at-h.ensures) ∙ ap (bit_or c.loop-i.bits) (sym (shifted _ h.tag)))

pub returns : goal.returns
returns c = λ calls stands.
    sym (busy-retired _ calls c.args.cmd stands ∙ c.loop-i.invariant calls stands
    ∙ ap (λ xs. fold (with_group (issued calls)) c.loop-i.bits (filter (λ k. not (c.args.cmd == k)) xs)) (numbers-end _ c.loop-i.i (omega arith)))
