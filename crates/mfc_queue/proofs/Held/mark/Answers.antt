use Rattle.std.proofs.Common.{◌≡◌, ◌==◌, ◌||◌, false, refl, sym, ◌∙◌, arith}
use Rattle.mfc_queue.specs.Sets.{has_part}
use Rattle.mfc_queue.proofs.Counting.{count-one}
use Rattle.mfc_queue.proofs.Held.mark.Goals as goal

pub overflow_sub-self : goal.overflow_sub-self
overflow_sub-self c =
    let words = c.args.self.now.done.words in
    let fresh : has_part words c.args.part ≡ false = sym c.has.ensures ∙ c.if-has.false in
    let one = count-one (has_part words) (λ k. has_part words k || c.args.part == k) 0 c.args.self.now.parts c.args.part (omega arith) (let h = c.requires in omega arith) fresh (λ k. refl) in
    let e = c.args.self.now.counted in
    omega arith

pub invariant_of-self : goal.invariant_of-self
invariant_of-self c =
    let words = c.args.self.now.done.words in
    let fresh : has_part words c.args.part ≡ false = sym c.has.ensures ∙ c.if-has.false in
    let one = count-one (has_part words) (has_part c.insert.new.self.words) 0 c.args.self.now.parts c.args.part (omega arith) (let h = c.requires in omega arith) fresh c.insert.ensures in
    let e = c.args.self.now.counted in
    record { tag = c.args.self.now.tag; few = c.args.self.now.few; counted = omega arith }
