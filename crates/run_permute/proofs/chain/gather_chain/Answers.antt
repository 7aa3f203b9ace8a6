use Rattle.std.proofs.Common.{◌-◌, ◌<◌, ◌≤◌, ◌∷◌, [], length, get_or, refl, sym, subst, arith, inr}
use Rattle.std.proofs.lemmas.Option.{slice_get-get_or}
use Rattle.run_permute.specs.SettledLists.{IsIn}
use Rattle.run_permute.proofs.Added.{sound-push}
use Rattle.run_permute.proofs.Entries.{in-left, in-push}
use Rattle.run_permute.proofs.chain.gather_chain.Goals as goal

pub returns-in_ok-push-clause-kept : goal.returns-in_ok-push-clause-kept
returns-in_ok-push-clause-kept g c = λ k h. subst (IsIn k) (sym c.in_ok-push.ensures.items) (in-left c.args.needs.now.items (get_or c.args.chain.now (c.end_of-end.result - 1) 0 ∷ []) k h)

pub returns-in_ok-push-clause-sound : goal.returns-in_ok-push-clause-sound
returns-in_ok-push-clause-sound g c = λ k h.
    let chain = c.args.chain.now in
    let end = c.end_of-end.result in
    let some : 0 < end = c.if-end-gt0.true in
    let within : end ≤ length chain = c.end_of-end.ensures.within in
    let ordered = c.end_of-end.ensures.before (end - 1) (get_or chain (end - 1) 0) (omega (arith, some)) (slice_get-get_or chain (end - 1) 0 (omega (arith, some, within))) in
    sound-push g.here.run g.here.place c.args.needs.now.items (get_or chain (end - 1) 0) ordered k (subst (IsIn k) c.in_ok-push.ensures.items h)

pub returns-in_ok-push-clause-last : goal.returns-in_ok-push-clause-last
returns-in_ok-push-clause-last g c = λ some.
    let last = get_or c.args.chain.now (c.end_of-end.result - 1) 0 in
    subst (IsIn last) (sym c.in_ok-push.ensures.items) ((in-push c.args.needs.now.items last last).1 (inr refl))
