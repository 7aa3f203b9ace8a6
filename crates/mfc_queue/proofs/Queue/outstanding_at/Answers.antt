use Rattle.std.proofs.Common.{map, sym, ◌∙◌, ap, arith}
use Rattle.std.specs.Prelude.{slice_get}
use Rattle.std.proofs.Math.ListN.{length-map}
use Rattle.mfc_queue.specs.declared.Held.{Held}
use Rattle.mfc_queue.proofs.PlaceLemmas.{at-any}
use Rattle.mfc_queue.proofs.Counting.{got-number, got-past}
use Rattle.mfc_queue.proofs.Queue.outstanding_at.Goals as goal

pub returns-then-i-len-clause-number : goal.returns-then-i-len-clause-number
returns-then-i-len-clause-number c = λ calls stands.
    let long = length-map c.args.self.now.held.items (λ (h : Held). h.cmd) in
    sym (ap (λ xs. slice_get xs c.args.i) stands.numbers ∙ got-past (map (λ (h : Held). h.cmd) c.args.self.now.held.items) c.args.i (omega arith))

pub returns-clause-number : goal.returns-clause-number
returns-clause-number c = λ calls stands.
    let h = c.held_at-h.result.now in
    sym (ap (λ xs. slice_get xs c.args.i) stands.numbers
    ∙ got-number c.args.self.now.held.items c.args.i h.cmd (omega arith) (λ d. ap (λ (x : Held). x.cmd) (sym (at-any c.args.self.now.held.items c.args.i h d (omega arith) c.held_at-h.ensures))))

pub returns-clause-seen : goal.returns-clause-seen
returns-clause-seen c =
    let h = c.held_at-h.result.now in
    c.seen_at.ensures h.cmd (λ d. ap (λ (x : Held). x.cmd) (at-any c.args.self.now.held.items c.args.i h d (omega arith) c.held_at-h.ensures))
