-- The steps with which processors end, when one more step is made.
use Rattle.std.proofs.Common.{◌≡◌, ℕ, ◌+◌, ◌<◌, ap, refl, sym, subst, ◌∙◌, arith, [], ◌∷◌, ◌++◌, List, length, get_or, inl, inr, true≢false}
use Rattle.std.specs.Prelude.{◌⊎◌, Some, true, false, slice_get}
use Rattle.std.proofs.lemmas.List.Elements.{All-push, Contains-append_left, Contains-push}
use Rattle.std.proofs.lemmas.List.Quantifiers.{all_pairs_push}
use Rattle.std.proofs.lemmas.Option.{same_Some, slice_get_within}
use Rattle.cell_base.specs.declared.steps.Step.{Step}
use Rattle.cell_machine.specs.declared.effect.Effect.{Effect}
use Rattle.cell_machine.specs.declared.effect.Note.{Note}
use Rattle.cell_machine.specs.declared.effect.Note.TheVariants.{Ended as TheEnd}
use Rattle.cell_machine.specs.Effects.{effect_in}
use Rattle.cell_machine.specs.Run.{Ran}
use Rattle.cell_hunt.specs.declared.ending.Ended.{Ended}
use Rattle.cell_hunt.specs.Endings.{AreAllEndings, EndsAt, HasEnding, HasNote, IsEnding}
use Rattle.cell_hunt.specs.Locals.{is_ended}
use Rattle.cell_hunt.specs.Runs.{with_step}
use Rattle.cell_hunt.specs.Sites.{IsSite, up_to}
use Rattle.cell_hunt.specs.SoFar.{AreEndingsTo}
use Rattle.cell_hunt.proofs.AllRaces.{below-or}
use Rattle.cell_hunt.proofs.Grown.{site-left, step-left, up_to-all, up_to-left}
use Rattle.cell_hunt.proofs.Places.{get-last}

-- a step has one note
note-one : (m : Ran) (place : ℕ) (a b : Note) → HasNote m place a → HasNote m place b → a ≡ b
note-one m place a b x y =
    let step : x.step ≡ y.step = same_Some x.step y.step (sym x.at ∙ y.at) in
    let effect : x.effect ≡ y.effect = same_Some x.effect y.effect (sym x.told ∙ ap (effect_in (up_to m place)) step ∙ y.told) in
    sym x.is ∙ ap (λ (e : Effect). e.note) effect ∙ y.is

is-end : (note : Note) → is_ended note ≡ true → note ≡ TheEnd
is-end TheEnd e = refl
is-end note e = absurd (true≢false (sym e))

pub no-end : (m : Ran) (place : ℕ) (note : Note) → HasNote m place note → is_ended note ≡ false → EndsAt m place → ⊥
no-end m place note has isnt ends = true≢false (ap is_ended (note-one m place TheEnd note ends has) ∙ isnt)

pub an-end : (m : Ran) (place : ℕ) (note : Note) → HasNote m place note → is_ended note ≡ true → EndsAt m place
an-end m place note has is = subst (HasNote m place) (is-end note is) has

-- the note of the last step
pub last-note : (m n : Ran) (s : Step) (e : Effect) → n ≡ with_step m s → effect_in m s ≡ Some e → HasNote n (length m.steps) e.note
last-note m n s e made effect = record {
  step = s;
  effect = e;
  at = ap (λ (r : Ran). slice_get r.steps (length m.steps)) made ∙ get-last m.steps s;
  told = ap (λ (r : Ran). effect_in r s) (up_to-all m n (s ∷ []) (length m.steps) made refl) ∙ effect;
  is = refl;
}

-- ---- one more step, whatever its note

module _ (m n : Ran) (s : Step) (made : n ≡ with_step m s) where
  note-on : (place : ℕ) (note : Note) → HasNote m place note → HasNote n place note
  note-on place note has =
      let low : place < length m.steps = slice_get_within m.steps place has.step has.at in
      record {
        step = has.step;
        effect = has.effect;
        at = step-left m n (s ∷ []) made place low ∙ has.at;
        told = ap (λ (r : Ran). effect_in r has.step) (up_to-left m n (s ∷ []) place made (omega (arith, low))) ∙ has.told;
        is = has.is;
      }

  note-back : (place : ℕ) (note : Note) → place < length m.steps → HasNote n place note → HasNote m place note
  note-back place note low has = record {
    step = has.step;
    effect = has.effect;
    at = sym (step-left m n (s ∷ []) made place low) ∙ has.at;
    told = ap (λ (r : Ran). effect_in r has.step) (sym (up_to-left m n (s ∷ []) place made (omega (arith, low)))) ∙ has.told;
    is = has.is;
  }

  ending-on : (e : Ended) → IsEnding m e → IsEnding n e
  ending-on e is = record { ends = note-on e.step TheEnd is.ends; site = site-left m n (s ∷ []) made e.step e.site is.site }

  pub endings-on : (endings : List Ended) → AreEndingsTo (length m.steps) m endings → AreEndingsTo (length m.steps) n endings
  endings-on endings are = record {
    each = λ k d low. ending-on (get_or endings k d) (are.each k d low);
    below = are.below;
    all = λ place low ends. are.all place low (note-back place TheEnd low ends);
    ascend = are.ascend;
  }

-- ---- the step at n

module _ (m : Ran) (n : ℕ) where
  pub endings-none : (endings : List Ended) → (EndsAt m n → ⊥) → AreEndingsTo n m endings → AreEndingsTo (n + 1) m endings
  endings-none endings none are = record {
    each = are.each;
    below = λ k d low. (let less : (get_or endings k d).step < n = are.below k d low in omega (arith, less));
    all = λ place low ends. elim (below-or place n low) [
      | inl less ↦ are.all place less ends
      | inr here ↦ absurd (none (subst (EndsAt m) here ends))
    ];
    ascend = are.ascend;
  }

  pub endings-more : (endings : List Ended) (e : Ended) → e.step ≡ n → IsEnding m e → AreEndingsTo n m endings → AreEndingsTo (n + 1) m (endings ++ e ∷ [])
  endings-more endings e is ending are = record {
    each = All-push (IsEnding m) endings e are.each ending;
    below = All-push (λ x. x.step < n + 1) endings e (λ k d low. (let less : (get_or endings k d).step < n = are.below k d low in omega (arith, less))) (omega (arith, is));
    all = λ place low ends. elim (below-or place n low) [
      | inl less ↦ (let old : HasEnding endings place = are.all place less ends in record { ending = old.ending; inside = Contains-append_left endings (e ∷ []) old.ending old.inside; is = old.is })
      | inr here ↦ record { ending = e; inside = Contains-push endings e; is = is ∙ sym here }
    ];
    ascend = all_pairs_push (λ a b. a.step < b.step) endings e are.ascend (λ k d low. (let less : (get_or endings k d).step < n = are.below k d low in omega (arith, less, is)));
  }

-- ---- all steps

pub all-endings : (m : Ran) (endings : List Ended) → AreEndingsTo (length m.steps) m endings → AreAllEndings m endings
all-endings m endings are = record { each = are.each; all = λ place ends. are.all place (slice_get_within m.steps place ends.step ends.at) ends; ascend = are.ascend }

-- before the first step
pub endings-begun : (m : Ran) → m.steps ≡ [] → AreEndingsTo (length m.steps) m []
endings-begun m none =
    subst (λ (xs : List Step). AreEndingsTo (length xs) m []) (sym none)
    (record { each = λ k d low. absurd (omega (arith, low)); below = λ k d low. absurd (omega (arith, low)); all = λ place low ends. absurd (omega (arith, low)); ascend = λ i j d less low. absurd (omega (arith, low)) })
