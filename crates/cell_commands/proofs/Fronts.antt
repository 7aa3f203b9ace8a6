-- The steps of a record, as they are made again and searched.
use Rattle.std.proofs.Common.{◌≡◌, ℕ, ◌+◌, ◌<◌, ◌≤◌, List, [], ◌∷◌, ◌++◌, length, take, get_or, Some, Err, refl, sym, ap, ◌∙◌, subst, arith}
use Rattle.std.specs.Prelude.{IsSome, slice_get}
use Rattle.std.proofs.lemmas.List.{length-take-le, length_push, take_more}
use Rattle.cell_base.specs.declared.steps.Step.{Step}
use Rattle.cell_machine.specs.Opening.{Opening}
use Rattle.cell_machine.specs.Run.{Ran, IsRun, next_of}
use Rattle.cell_machine.proofs.Same.{get-last}
use Rattle.race_check.specs.declared.check.Verdict.{Verdict}
use Rattle.race_check.specs.declared.check.Verdict.TheVariants.{Accepted, Race as Racing}
use Rattle.race_check.specs.Races.{IsVerdict}
use Rattle.race_check.proofs.Accepted.{first_steps, raced-whole}
use Rattle.race_check.proofs.Prefixes.{first_of, first-all, run-told}
use Rattle.reorder_laws.specs.Places.{until}
use Rattle.run_permute.specs.Settlings.{IsSettledSoFar}
use Rattle.run_permute.proofs.Alike.{alike-first, flipped, settled-on}
use Rattle.run_permute.proofs.Walking.{until-long}
use Rattle.run_record.specs.Replayed.{IsRefusedAt}
use Rattle.run_record.proofs.Runs.{refused_at}

-- the run of the first i steps
abbrev pub front : Opening → List Step → ℕ → Ran
front setup steps i = record { setup = setup; steps = take i steps }

-- a step more
pub front-more : (setup : Opening) (steps : List Step) (i : ℕ) (d : Step) (old new : Ran) → i < length steps → old ≡ front setup steps i → new ≡ record old { steps = old.steps ++ get_or steps i d ∷ [] } → new ≡ front setup steps (i + 1)
front-more setup steps i d old new low was made =
    made ∙ ap (λ (r : Ran). let n : Ran = record r { steps = r.steps ++ get_or steps i d ∷ [] } in n) was ∙ ap (λ (xs : List Step). let n : Ran = record { setup = setup; steps = xs } in n) (sym (take_more steps i d low))

pub front-long : (setup : Opening) (steps : List Step) (i : ℕ) (m : Ran) → i ≤ length steps → m ≡ front setup steps i → length m.steps ≡ i
front-long setup steps i m low is = ap (λ (r : Ran). length r.steps) is ∙ length-take-le i steps low

-- the step at i is refused
pub front-refused : (setup : Opening) (steps : List Step) (i : ℕ) (m : Ran) (d : Step) (at : ℕ) → m ≡ front setup steps i → IsRun m.setup m.steps → i < length steps → (IsSome (next_of m (get_or steps i d)) → ⊥) → at ≡ length m.steps → IsRefusedAt setup steps at
front-refused setup steps i m d at is run low refused counted =
    refused_at {A = ℕ} {E = ℕ} setup steps i m d at (Err 0) is (subst (λ (r : Ran). IsRun r.setup r.steps) is run) low (λ some. absurd (refused some)) refl counted

-- the verdict on the first steps, which are all where it finds no race, is that on all
pub whole-verdict : (m w : Ran) (v : Verdict) → IsRun m.setup m.steps → w ≡ first_of m (length w.steps) → (v ≡ Accepted → w ≡ m) → IsVerdict w v → IsVerdict m v
whole-verdict m w Accepted run first whole is = subst (λ r. IsVerdict r Accepted) (whole refl) is
whole-verdict m w (Racing i j) run first whole is = raced-whole m w (length w.steps) i j run first is

-- the run of the first steps, and that of all
module _ (setup : Opening) (steps : List Step) (w m : Ran) (first : w ≡ front setup steps (length w.steps)) (made : m ≡ record w { steps = steps }) where
  pub first-made : w ≡ first_of m (length w.steps)
  first-made =
      let n = length w.steps in
      first ∙ ap (λ (s : Opening). let r : Ran = record { setup = s; steps = take n steps } in r) (sym (ap (λ (r : Ran). r.setup) first)) ∙ sym (ap (λ (r : Ran). first_of r n) made)

  pub all-made : length w.steps ≡ length steps → w ≡ m
  all-made all =
      let few : length m.steps ≤ length w.steps = (let long : length m.steps ≡ length steps = ap (λ (r : Ran). length r.steps) made in omega arith) in
      first-made ∙ first-all m (length w.steps) few

-- ---- one step more

-- before the step the run was this one
pub back : (old new : Ran) (s : Step) (place : ℕ) → place ≡ length old.steps → new ≡ record old { steps = old.steps ++ s ∷ [] } → old ≡ until new place
back old new s place counted made = first_steps old new s made ∙ ap (first_of new) (sym counted)

pub last-at : (old new : Ran) (s : Step) (place : ℕ) → place ≡ length old.steps → new ≡ record old { steps = old.steps ++ s ∷ [] } → slice_get new.steps place ≡ Some s
last-at old new s place counted made = ap (λ (r : Ran). slice_get r.steps place) made ∙ ap (slice_get (old.steps ++ s ∷ [])) counted ∙ get-last old.steps s

pub last-long : (old new : Ran) (s : Step) (place : ℕ) → place ≡ length old.steps → new ≡ record old { steps = old.steps ++ s ∷ [] } → place + 1 ≡ length new.steps
last-long old new s place counted made =
    let long : length new.steps ≡ length old.steps + 1 = ap (λ (r : Ran). length r.steps) made ∙ length_push old.steps s in
    omega arith

-- what is so at each place of a run is so at each of its first ones
pub so-far-before : (m : Ran) (place : ℕ) → IsRun m.setup m.steps → place + 1 ≡ length m.steps → IsSettledSoFar m → IsSettledSoFar (until m place)
so-far-before m place run long s p k low =
    let a = alike-first (until m place) m place (run-told m run) refl in
    let few : length (until m place).steps ≡ place = until-long m place (omega arith) in
    settled-on m (until m place) place (flipped (until m place) m place a) p k (omega arith) (s p k (omega arith))
