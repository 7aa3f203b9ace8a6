use Rattle.std.proofs.Common.{◌≡◌, ℕ, ◌<◌, Bool, List, length, sym, ap, ◌∙◌, subst, arith, ◌⊎◌}
use Rattle.std.specs.Prelude.{◌↔◌}
use Rattle.std.specs.Vec.{with_items}
use Rattle.cell_machine.proofs.AllTwo.{whole}
use Rattle.run_permute.specs.SettledLists.{IsIn}
use Rattle.run_permute.specs.Lists.{list_at, steps_in}
use Rattle.run_permute.specs.Choices.{IsTaken}
use Rattle.run_permute.specs.declared.few.Few.{Few}
use Rattle.run_permute.proofs.Entries.{list-read}
use Rattle.run_permute.proofs.Frees.{is-taken, not-taken}
use Rattle.run_permute.proofs.Waiters.{free-sound, free-seen, wait-sound, wait-seen, taken-still}
use Rattle.run_permute.proofs.order.Order.look_at.Goals as goal

pub returns-then-index-clause-seen : goal.returns-then-index-clause-seen
returns-then-index-clause-seen c =
    let low : c.args.step < length c.args.needs.now = c.requires.within in
    let long : length c.args.self.now.taken.items ≡ length c.args.needs.now = c.requires.sound.long in
    taken-still c.args.needs.now c.args.self.now c.args.step (is-taken c.args.self.now.taken.items c.args.step c.index.result.now (omega arith) c.index.ensures c.if-index.true)

pub need_left-requires : goal.need_left-requires
need_left-requires c = λ i h.
    let at = list-read c.args.needs.now c.args.step c.index-needs-step.result c.requires.within c.index-needs-step.is in
    let low : i < length c.args.needs.now = c.requires.inside i c.args.step (subst (IsIn i) (sym at) h) in
    let long : length c.deref.result.now ≡ length c.args.needs.now = ap length c.deref.ensures.value ∙ c.requires.sound.long in
    omega arith

pub add_waiter-requires : goal.add_waiter-requires
add_waiter-requires c =
    let at = list-read c.args.needs.now c.args.step c.index-needs-step.result c.requires.within c.index-needs-step.is in
    let low : c.in-Some.need < length c.args.needs.now = c.requires.inside c.in-Some.need c.args.step (subst (IsIn c.in-Some.need) (sym at) c.in-Some.ensures.0) in
    let long : length c.as_mut_slice.result.now ≡ length c.args.needs.now = ap length c.as_mut_slice.ensures.value ∙ c.requires.sound.lists in
    omega arith

pub returns-in_ok-add_waiter-in-Some-clause-sound : goal.returns-in_ok-add_waiter-in-Some-clause-sound
returns-in_ok-add_waiter-in-Some-clause-sound c =
    let o = c.args.self.now in
    let need = c.in-Some.need in
    let ws = c.add_waiter.new.waiting in
    let long = c.add_waiter.ensures.long ∙ ap length c.as_mut_slice.ensures.value in
    let same : (with_items o.waiting ws).items ≡ ws = whole o.waiting.len ws o.waiting.items (o.waiting.ok.0 ∙ sym long) in
    let here =
    subst (λ (vs : List Few). (k : ℕ) → IsIn k (list_at vs need) ↔ (IsIn k (list_at o.waiting.items need) ⊎ (k ≡ c.args.step))) (sym same)
    (subst (λ (vs : List Few). (k : ℕ) → IsIn k (list_at ws need) ↔ (IsIn k (list_at vs need) ⊎ (k ≡ c.args.step))) c.as_mut_slice.ensures.value c.in_ok-add_waiter-in-Some.ensures.here) in
    let others =
    subst (λ (vs : List Few). (a : ℕ) → (a ≡ need → ⊥) → list_at vs a ≡ list_at o.waiting.items a) (sym same)
    (subst (λ (vs : List Few). (a : ℕ) → (a ≡ need → ⊥) → list_at ws a ≡ list_at vs a) c.as_mut_slice.ensures.value c.in_ok-add_waiter-in-Some.ensures.others) in
    wait-sound c.args.needs.now o need c.args.step (with_items o.waiting ws) here others c.requires.sound c.requires.within (ap length same ∙ long)

pub returns-in_ok-add_waiter-in-Some-clause-seen : goal.returns-in_ok-add_waiter-in-Some-clause-seen
returns-in_ok-add_waiter-in-Some-clause-seen c =
    let o = c.args.self.now in
    let need = c.in-Some.need in
    let ws = c.add_waiter.new.waiting in
    let long = c.add_waiter.ensures.long ∙ ap length c.as_mut_slice.ensures.value in
    let same : (with_items o.waiting ws).items ≡ ws = whole o.waiting.len ws o.waiting.items (o.waiting.ok.0 ∙ sym long) in
    let here =
    subst (λ (vs : List Few). (k : ℕ) → IsIn k (list_at vs need) ↔ (IsIn k (list_at o.waiting.items need) ⊎ (k ≡ c.args.step))) (sym same)
    (subst (λ (vs : List Few). (k : ℕ) → IsIn k (list_at ws need) ↔ (IsIn k (list_at vs need) ⊎ (k ≡ c.args.step))) c.as_mut_slice.ensures.value c.in_ok-add_waiter-in-Some.ensures.here) in
    let others =
    subst (λ (vs : List Few). (a : ℕ) → (a ≡ need → ⊥) → list_at vs a ≡ list_at o.waiting.items a) (sym same)
    (subst (λ (vs : List Few). (a : ℕ) → (a ≡ need → ⊥) → list_at ws a ≡ list_at vs a) c.as_mut_slice.ensures.value c.in_ok-add_waiter-in-Some.ensures.others) in
    let at = list-read c.args.needs.now c.args.step c.index-needs-step.result c.requires.within c.index-needs-step.is in
    let left = subst (λ (bs : List Bool). IsTaken bs need → ⊥) c.deref.ensures.value c.in-Some.ensures.1 in
    wait-seen c.args.needs.now o need c.args.step (with_items o.waiting ws) here others (subst (IsIn need) (sym at) c.in-Some.ensures.0) left

pub returns-in_ok-put-in-None-clause-sound : goal.returns-in_ok-put-in-None-clause-sound
returns-in_ok-put-in-None-clause-sound c =
    let o = c.args.self.now in
    let at = list-read c.args.needs.now c.args.step c.index-needs-step.result c.requires.within c.index-needs-step.is in
    let low : c.args.step < length c.args.needs.now = c.requires.within in
    let long : length o.taken.items ≡ length c.args.needs.now = c.requires.sound.long in
    let all = subst (λ (bs : List Bool). (i : ℕ) → IsIn i (steps_in c.index-needs-step.result) → IsTaken bs i) c.deref.ensures.value c.in-None.ensures in
    free-sound c.args.needs.now o c.args.step c.put.new.places c.in_ok-put-in-None.ensures.put c.requires.sound
    (record {
      within = omega arith;
      left = not-taken o.taken.items c.args.step c.index.result.now c.index.ensures c.if-index.false;
      needs_taken = λ i h. all i (subst (IsIn i) at h);
    }) c.in_ok-put-in-None.ensures.rising

pub returns-in_ok-put-in-None-clause-seen : goal.returns-in_ok-put-in-None-clause-seen
returns-in_ok-put-in-None-clause-seen c = free-seen c.args.needs.now c.args.self.now c.args.step c.put.new.places c.in_ok-put-in-None.ensures.put
