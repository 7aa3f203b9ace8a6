-- One more step of which it is known where it comes from.
use Rattle.std.proofs.Common.{◌≡◌, ℕ, ◌+◌, ◌<◌, ◌≤◌, ap, refl, sym, subst, ◌∙◌, arith, [], ◌∷◌, ◌++◌, length, get_or, inl, inr}
use Rattle.std.specs.Prelude.{◌⊎◌, Bool, true, false, Some, IfSome, slice_get, if◌then◌else◌}
use Rattle.std.proofs.lemmas.Bool.{cases_Bool, cases_lt}
use Rattle.std.proofs.lemmas.List.{length_push}
use Rattle.std.proofs.lemmas.List.Sums.{count_by_more_yes, count_by_more_no}
use Rattle.std.proofs.lemmas.Option.{get_or_from_slice_get, same_Some, slice_get_within}
use Rattle.cell_base.specs.declared.steps.Step.{Step}
use Rattle.cell_base.specs.declared.steps.Step.TheVariants.{Exec, Piece, Elem, Retire, Atomic, Host}
use Rattle.cell_machine.specs.declared.effect.Effect.{Effect}
use Rattle.cell_machine.specs.declared.effect.Note.{Note}
use Rattle.cell_machine.specs.Effects.{effect_in}
use Rattle.cell_machine.specs.Run.{Ran, spe_of}
use Rattle.cell_hunt.specs.declared.origins.Origins.{Origins}
use Rattle.cell_hunt.specs.Origins.{AreOrigins, IsPassed, Knows, TellsIssues, issued_at}
use Rattle.cell_hunt.specs.Runs.{with_step}
use Rattle.cell_hunt.specs.Sites.{HasPc, IsOrigin, Issues, actions_before, is_action, issues_for, up_to}
use Rattle.cell_hunt.proofs.Grown.{actions-left, issues-back, issues-on, origin-left, pc-left, step-left, up_to-all}
use Rattle.cell_hunt.proofs.Places.{get-last, get-more}

-- what a step passes on
passed-here : (p : ℕ) (s : Step) (note : Note) (at : ℕ) (old new : Origins) (of : Step) → IsPassed s note at old new → s ≡ Exec p → issues_for of p note ≡ true → issued_at new of ≡ at
passed-here p s note at old new of passed is issues = (subst (λ t. IsPassed t note at old new) is passed).here of issues

passed-left : (s : Step) (note : Note) (at : ℕ) (old new : Origins) (of : Step) → IsPassed s note at old new → ((p : ℕ) → s ≡ Exec p → issues_for of p note ≡ true → ⊥) → issued_at new of ≡ issued_at old of
passed-left (Exec p) note at old new of passed none = by (cases_Bool (issues_for of p note))
  where
    by : (issues_for of p note ≡ true) ⊎ (issues_for of p note ≡ false) → issued_at new of ≡ issued_at old of
    by (inl is_so) = absurd (none p refl is_so)
    by (inr isnt) = passed.left of isnt
passed-left Host note at old new of passed none = passed of
passed-left (Piece q c y k) note at old new of passed none = passed of
passed-left (Elem q c) note at old new of passed none = passed of
passed-left (Retire q c) note at old new of passed none = passed of
passed-left (Atomic q) note at old new of passed none = passed of

actions-by : (n : Ran) (k : ℕ) (s : Step) (b : Bool) → k < length n.steps → is_action (get_or n.steps k s) ≡ b → (if b then actions_before n k + 1 else actions_before n k) ≡ actions_before n (k + 1)
actions-by n k s true inside is = sym (count_by_more_yes is_action n.steps k s inside is)
actions-by n k s false inside is = sym (count_by_more_no is_action n.steps k s inside is)

-- the step s, which tells this, comes from `at`
module _ (m : Ran) (s : Step) (e : Effect) (at : ℕ) (old new : Origins) (knows : Knows m old) (effect : effect_in m s ≡ Some e) (pc : (p : ℕ) → s ≡ Exec p → IfSome (spe_of m p) (λ P. P.pc ≡ at)) (action : s ≡ Host → at ≡ old.actions)
    (issued : (p : ℕ) (note : Note) → issues_for s p note ≡ true → at ≡ issued_at old s) where
  abbrev n : Ran
  n = with_step m s

  abbrev last : ℕ
  last = length m.steps

  here : slice_get n.steps last ≡ Some s
  here = get-last m.steps s

  all : up_to n last ≡ m
  all = up_to-all m n (s ∷ []) last refl refl

  pc-here : (p : ℕ) → s ≡ Exec p → HasPc n last p at
  pc-here p is = subst (λ (r : Ran). IfSome (spe_of r p) (λ P. P.pc ≡ at)) (sym all) (pc p is)

  origin-here : IsOrigin n last s at
  origin-here = record {
    spu = pc-here;
    host = λ is. action is ∙ knows.actions ∙ sym (actions-left m n (s ∷ []) refl last (omega arith));
    issue = λ k p low issues none.
        (let earlier = issues-back m n (s ∷ []) refl s k p low issues in
        pc-left m n (s ∷ []) refl k p at (omega (arith, low))
        (subst (HasPc m k p) (sym (issued p issues.effect.note issues.issues)) (knows.issues s k p low earlier (λ l q a b other. none l q a b (issues-on m n (s ∷ []) refl s l q other)))));
  }

  told : AreOrigins n (old.steps.items ++ at ∷ [])
  told place of from is got = by (get-more old.steps.items at place from got)
    where
      by : (slice_get old.steps.items place ≡ Some from) ⊎ ((place ≡ length old.steps.items) × (at ≡ from)) → IsOrigin n place of from
      by (inl before) =
          let inside : place < length old.steps.items = slice_get_within old.steps.items place from before in
          let long = knows.long in
          let low : place < last = omega (arith, inside, long) in
          origin-left m n (s ∷ []) refl place of from low (knows.told place of from (sym (step-left m n (s ∷ []) refl place low) ∙ is) before)
      by (inr (end, same)) =
          let place_is : last ≡ place = sym knows.long ∙ sym end in
          let step_is : s ≡ of = same_Some s of (sym here ∙ ap (slice_get n.steps) place_is ∙ is) in
          subst (IsOrigin n place of) same (subst (λ k. IsOrigin n k of at) place_is (subst (λ t. IsOrigin n last t at) step_is origin-here))

  pub counted : (counts : ℕ) → counts ≡ (if is_action s then old.actions + 1 else old.actions) → counts ≡ actions_before n (length n.steps)
  counted counts is =
      let long : length n.steps ≡ last + 1 = length_push m.steps s in
      let same : get_or n.steps last s ≡ s = get_or_from_slice_get n.steps last s s here in
      let before : old.actions ≡ actions_before n last = knows.actions ∙ sym (actions-left m n (s ∷ []) refl last (omega arith)) in
      is ∙ ap (λ (k : ℕ). if is_action s then k + 1 else k) before ∙ actions-by n last s (is_action s) (omega (arith, long)) (ap is_action same) ∙ ap (actions_before n) (sym long)

  module _ (passed : IsPassed s e.note at old new) where
    -- the step at the last place issues what it tells
    issues-here : (of : Step) (p : ℕ) → s ≡ Exec p → issues_for of p e.note ≡ true → Issues n of last p
    issues-here of p is is_so = record { effect = e; is = here ∙ ap Some is; told = ap (λ (r : Ran). effect_in r (Exec p)) all ∙ ap (effect_in m) (sym is) ∙ effect; issues = is_so }

    issues : TellsIssues n new
    issues of k p low i none = by (cases_lt k last)
      where
        by : (k < last) ⊎ (last ≤ k) → HasPc n k p (issued_at new of)
        by (inl below) =
            let earlier = issues-back m n (s ∷ []) refl of k p below i in
            let long : length n.steps ≡ last + 1 = length_push m.steps s in
            let same = passed-left s e.note at old new of passed (λ q is is_so. none last q below (omega (arith, long)) (issues-here of q is is_so)) in
            pc-left m n (s ∷ []) refl k p (issued_at new of) (omega (arith, below))
            (subst (HasPc m k p) (sym same) (knows.issues of k p below earlier (λ l q a b other. none l q a (omega (arith, b, long)) (issues-on m n (s ∷ []) refl of l q other))))
        by (inr above) =
            let long : length n.steps ≡ last + 1 = length_push m.steps s in
            let end : k ≡ last = omega (arith, low, long, above) in
            let i_last : Issues n of last p = subst (λ j. Issues n of j p) end i in
            let step_is : s ≡ Exec p = same_Some s (Exec p) (sym here ∙ i_last.is) in
            let effect_is : e ≡ i_last.effect = same_Some e i_last.effect (sym effect ∙ ap (effect_in m) step_is ∙ ap (λ (r : Ran). effect_in r (Exec p)) (sym all) ∙ i_last.told) in
            let is_so : issues_for of p e.note ≡ true = ap (λ (f : Effect). issues_for of p f.note) effect_is ∙ i_last.issues in
            subst (λ j. HasPc n j p (issued_at new of)) (sym end) (subst (HasPc n last p) (sym (passed-here p s e.note at old new of passed step_is is_so)) (pc-here p step_is))

    pub knows-more : (after : Origins) → after.steps.items ≡ old.steps.items ++ at ∷ [] → after.actions ≡ (if is_action s then old.actions + 1 else old.actions) → after.commands ≡ new.commands → after.atomics ≡ new.atomics → Knows n after
    knows-more after steps counts commands atomics = record {
      long = ap length steps ∙ length_push old.steps.items at ∙ ap (λ (k : ℕ). k + 1) knows.long ∙ sym (length_push m.steps s);
      told = subst (AreOrigins n) (sym steps) told;
      actions = counted after.actions counts;
      issues = λ of k p low i none. subst (HasPc n k p) (same of) (issues of k p low i none);
    }
      where
        same : (of : Step) → issued_at new of ≡ issued_at after of
        same of = rw (sym commands, sym atomics) refl
