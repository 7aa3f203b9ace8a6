-- One more step of a run.
use Rattle.std.proofs.Common.{◌≡◌, ℕ, ap, sym, refl, subst, ◌∙◌, List, [], ◌∷◌, ◌++◌, append_assoc, append-nil, true≢false}
use Rattle.std.specs.Prelude.{Result, Ok, Err, IsOk, IfOk}
use Rattle.cell_base.specs.declared.steps.Step.{Step}
use Rattle.cell_machine.specs.Run.{Ran}
use Rattle.cell_hunt.specs.Choices.{Choices, IsChosen}
use Rattle.cell_hunt.specs.Ends.{IsOver}
use Rattle.cell_hunt.specs.Runs.{Makes, End, Then, with_step}
use Rattle.cell_hunt.specs.Goings.{Continues, Goes, with_steps}
use Rattle.cell_hunt.proofs.Determined.{not_over}

no_steps : (m : Ran) → m ≡ with_steps m []
no_steps m = ap (λ (xs : List Step). let r : Ran = record m { steps = xs } in r) (sym (append-nil m.steps))

pub continues-none : (c : Choices) (m : Ran) → Continues c m c m
continues-none c m = record { made = []; all = no_steps m; goes = λ rest makes. makes }

steps_then : (start m n : Ran) (made more : List Step) → m ≡ with_steps start made → n ≡ with_steps m more → n ≡ with_steps start (made ++ more)
steps_then start m n made more first then =
    then ∙ ap (λ (r : Ran). with_steps r more) first ∙ ap (λ (xs : List Step). let r : Ran = record start { steps = xs } in r) (append_assoc start.steps made more)

pub continues-more : (first : Choices) (start : Ran) (c left : Choices) (m new : Ran) (s : Step) → IsChosen m c s left → new ≡ with_step m s
    → Continues first start c m → Continues first start left new
continues-more first start c left m new s chosen made so_far =
    record {
      made = so_far.made ++ s ∷ [];
      all = steps_then start m new so_far.made (s ∷ []) so_far.all made;
      goes = λ rest makes.
          (let there : Makes left (with_step m s) rest = subst (λ x. Makes left x rest) made makes in
          subst (Makes first start) (sym (append_assoc so_far.made (s ∷ []) rest)) (so_far.goes (s ∷ rest) (Then chosen there)));
    }

pub continues-end : (first : Choices) (start : Ran) (c : Choices) (m : Ran) → IsOver m → Continues first start c m → Goes first start m
continues-end first start c m over so_far =
    record { made = so_far.made; all = so_far.all; goes = subst (Makes first start) (append-nil so_far.made) (so_far.goes [] (End over)) }

made-none : (c : Choices) (m : Ran) (steps : List Step) → IsOver m → Makes c m steps → steps ≡ []
made-none c m steps over (End other) = refl
made-none c m steps over (Then {left = left} {s = s} chosen rest) = absurd (not_over m c s left chosen over)

-- a run that is over doesn't go on
pub goes-none : (c : Choices) (m n : Ran) → IsOver m → Goes c m n → n ≡ m
goes-none c m n over goes = goes.all ∙ ap (with_steps m) (made-none c m goes.made over goes.goes) ∙ sym (no_steps m)

-- where it is over, other choices may be left
pub continues-over : (first : Choices) (start : Ran) (c d : Choices) (m : Ran) → IsOver m → Continues first start c m → Continues first start d m
continues-over first start c d m over so_far =
    record {
      made = so_far.made;
      all = so_far.all;
      goes = λ rest makes. subst (λ more. Makes first start (so_far.made ++ more)) (sym (made-none d m rest over makes)) (so_far.goes [] (End over));
    }

pub continues-on : (first : Choices) (start : Ran) (c : Choices) (m n : Ran) → Continues first start c m → Goes c m n → Goes first start n
continues-on first start c m n so_far rest =
    record { made = so_far.made ++ rest.made; all = steps_then start m n so_far.made rest.made so_far.all rest.all; goes = so_far.goes rest.made rest.goes }

pub made_of : {E : Type 0} (A : ℕ → Type 0) (B : Type 0) (r : Result ℕ E) → IsOk r → IfOk r (λ at. A at × B) → B
made_of A B (Ok at) ok made = made.1
made_of A B (Err e) ok made = absurd (true≢false (sym ok))
