use Rattle.std.proofs.Common.{rules, ◌≡◌, ℕ, ◌<◌, List, length, refl, sym, ap, ◌∙◌, subst, arith}
use Rattle.std.specs.Prelude.{Some, Vec}
use Rattle.std.specs.Vec.{with_items}
use Rattle.std.specs.declared.alloc.Global.{Global}
use Rattle.std.proofs.lemmas.Option.{slice_get-get_or}
use Rattle.cell_machine.proofs.AllTwo.{whole}
use Rattle.run_permute.specs.SettledLists.{IsIn}
use Rattle.run_permute.specs.Lists.{list_at, steps_in}
use Rattle.run_permute.specs.declared.few.Few.{Few}
use Rattle.run_permute.proofs.Stages.{step-ready, step-low, taken-sound, taken-seen}
use Rattle.run_permute.proofs.order.Order.take.Goals as goal

pub index_mut-requires : goal.index_mut-requires
index_mut-requires c =
    let chosen = slice_get-get_or c.args.self.now.free.items c.args.at c.remove-step.result c.requires.within ∙ ap Some (sym c.remove-step.ensures.value) in
    let ready = step-ready c.args.needs.now c.args.self.now c.args.at c.remove-step.result c.requires.stage chosen in
    let low : c.remove-step.result < length c.args.self.now.taken.items = ready.within in
    search rules

pub take_waiters-waiters-requires : goal.take_waiters-waiters-requires
take_waiters-waiters-requires c =
    let chosen = slice_get-get_or c.args.self.now.free.items c.args.at c.remove-step.result c.requires.within ∙ ap Some (sym c.remove-step.ensures.value) in
    let low : c.remove-step.result < length c.args.needs.now = step-low c.args.needs.now c.args.self.now c.args.at c.remove-step.result c.requires.stage chosen in
    let lists : length c.as_mut_slice.result.now ≡ length c.args.needs.now = ap length c.as_mut_slice.ensures.value ∙ c.requires.stage.sound.lists in
    omega arith

pub look_at_few-requires-clause-within : goal.look_at_few-requires-clause-within
look_at_few-requires-clause-within c = λ k h.
    let step = c.remove-step.result in
    let are = c.take_waiters-waiters.ensures.taken ∙ ap (λ (vs : List Few). list_at vs step) c.as_mut_slice.ensures.value in
    c.requires.stage.sound.there step k (subst (IsIn k) are h)

pub look_at_few-requires-clause-sound : goal.look_at_few-requires-clause-sound
look_at_few-requires-clause-sound c =
    let old = c.args.self.now in
    let step = c.remove-step.result in
    let chosen = slice_get-get_or old.free.items c.args.at step c.requires.within ∙ ap Some (sym c.remove-step.ensures.value) in
    let ws = c.take_waiters-waiters.new.waiting in
    let long = c.take_waiters-waiters.ensures.long ∙ ap length c.as_mut_slice.ensures.value in
    let same : (with_items old.waiting ws).items ≡ ws = whole old.waiting.len ws old.waiting.items (old.waiting.ok.0 ∙ sym long) in
    let kept =
    subst (λ (vs : List Few). (a k : ℕ) → IsIn k (list_at vs a) → IsIn k (list_at old.waiting.items a)) (sym same)
    (subst (λ (vs : List Few). (a k : ℕ) → IsIn k (list_at ws a) → IsIn k (list_at vs a)) c.as_mut_slice.ensures.value c.take_waiters-waiters.ensures.kept) in
    taken-sound c.args.needs.now old c.args.at step c.requires.stage chosen _ refl c.in_ok-push.ensures.items c.remove-step.ensures.items (ap length same ∙ long) kept

pub returns-clause-stage : goal.returns-clause-stage
returns-clause-stage c =
    let old = c.args.self.now in
    let step = c.remove-step.result in
    let chosen = slice_get-get_or old.free.items c.args.at step c.requires.within ∙ ap Some (sym c.remove-step.ensures.value) in
    let ws = c.take_waiters-waiters.new.waiting in
    let long = c.take_waiters-waiters.ensures.long ∙ ap length c.as_mut_slice.ensures.value in
    let same : (with_items old.waiting ws).items ≡ ws = whole old.waiting.len ws old.waiting.items (old.waiting.ok.0 ∙ sym long) in
    let others =
    subst (λ (vs : List Few). (a : ℕ) → (a ≡ step → ⊥) → list_at vs a ≡ list_at old.waiting.items a) (sym same)
    (subst (λ (vs : List Few). (a : ℕ) → (a ≡ step → ⊥) → list_at ws a ≡ list_at vs a) c.as_mut_slice.ensures.value c.take_waiters-waiters.ensures.others) in
    let are = c.take_waiters-waiters.ensures.taken ∙ ap (λ (vs : List Few). list_at vs step) c.as_mut_slice.ensures.value in
    record {
      sound = c.in_ok-look_at_few.ensures.sound;
      seen = λ j low. c.in_ok-look_at_few.ensures.seen j (taken-seen c.args.needs.now old c.args.at step c.requires.stage chosen _ (steps_in c.take_waiters-waiters.result) refl c.remove-step.ensures.items are others j low);
    }

pub returns-clause-taken : goal.returns-clause-taken
returns-clause-taken c =
    let chosen = slice_get-get_or c.args.self.now.free.items c.args.at c.remove-step.result c.requires.within ∙ ap Some (sym c.remove-step.ensures.value) in
    record { step = c.remove-step.result; chosen = chosen; is = ap (λ (v : Vec ℕ Global). v.items) c.in_ok-look_at_few.ensures.steps ∙ c.in_ok-push.ensures.items }
