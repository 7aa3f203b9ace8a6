-- What holds of the first steps of a run when more are made.
use Rattle.std.proofs.Common.{◌≡◌, ℕ, ◌<◌, ◌≤◌, ap, sym, subst, ◌∙◌, arith, List, [], ◌∷◌, ◌++◌, length}
use Rattle.std.specs.Prelude.{IfSome, slice_get, count_by}
use Rattle.std.proofs.lemmas.List.{take-append-le, take_all}
use Rattle.std.proofs.lemmas.Option.{slice_get_within}
use Rattle.cell_base.specs.declared.steps.Step.{Step}
use Rattle.cell_base.specs.declared.steps.Step.TheVariants.{Exec}
use Rattle.cell_machine.specs.Effects.{effect_in}
use Rattle.cell_machine.specs.Run.{Ran, spe_of}
use Rattle.cell_hunt.specs.declared.site.Site.{Site}
use Rattle.cell_hunt.specs.declared.site.Sites.{Sites}
use Rattle.cell_hunt.specs.Goings.{with_steps}
use Rattle.cell_hunt.specs.Sites.{AreSites, HasPc, IsOrigin, IsSite, Issues, actions_before, is_action, up_to}
use Rattle.cell_hunt.proofs.Places.{get-front}

-- what a run was up to a place is left as it was
pub up_to-left : (m n : Ran) (more : List Step) (k : ℕ) → n ≡ with_steps m more → k ≤ length m.steps → up_to n k ≡ up_to m k
up_to-left m n more k is low =
    ap (λ (r : Ran). up_to r k) is ∙ ap (λ (xs : List Step). let r : Ran = record m { steps = xs } in r) (take-append-le k m.steps more low)

-- its first steps are all that it had
pub up_to-all : (m n : Ran) (more : List Step) (k : ℕ) → n ≡ with_steps m more → k ≡ length m.steps → up_to n k ≡ m
up_to-all m n more k is all =
    up_to-left m n more k is (omega (arith, all)) ∙ ap (λ (xs : List Step). let r : Ran = record m { steps = xs } in r) (take_all k m.steps (omega (arith, all)))

module _ (m n : Ran) (more : List Step) (is : n ≡ with_steps m more) where
  pub step-left : (k : ℕ) → k < length m.steps → slice_get n.steps k ≡ slice_get m.steps k
  step-left k low = ap (λ (r : Ran). slice_get r.steps k) is ∙ get-front m.steps more k low

  pub pc-left : (k p at : ℕ) → k ≤ length m.steps → HasPc m k p at → HasPc n k p at
  pc-left k p at low has = subst (λ (r : Ran). IfSome (spe_of r p) (λ P. P.pc ≡ at)) (sym (up_to-left m n more k is low)) has

  pub actions-left : (k : ℕ) → k ≤ length m.steps → actions_before n k ≡ actions_before m k
  actions-left k low = ap (λ (r : Ran). count_by is_action r.steps) (up_to-left m n more k is low)

  pub issues-back : (of : Step) (k p : ℕ) → k < length m.steps → Issues n of k p → Issues m of k p
  issues-back of k p low i = record {
    effect = i.effect;
    is = sym (step-left k low) ∙ i.is;
    told = ap (λ (r : Ran). effect_in r (Exec p)) (sym (up_to-left m n more k is (omega (arith, low)))) ∙ i.told;
    issues = i.issues;
  }

  pub issues-on : (of : Step) (k p : ℕ) → Issues m of k p → Issues n of k p
  issues-on of k p i =
      let low : k < length m.steps = slice_get_within m.steps k (Exec p) i.is in
      record {
        effect = i.effect;
        is = step-left k low ∙ i.is;
        told = ap (λ (r : Ran). effect_in r (Exec p)) (up_to-left m n more k is (omega (arith, low))) ∙ i.told;
        issues = i.issues;
      }

  pub origin-left : (k : ℕ) (of : Step) (at : ℕ) → k < length m.steps → IsOrigin m k of at → IsOrigin n k of at
  origin-left k of at low o = record {
    spu = λ p e. pc-left k p at (omega (arith, low)) (o.spu p e);
    host = λ e. o.host e ∙ sym (actions-left k (omega (arith, low)));
    issue = λ j p below issues last.
        (let few : j < length m.steps = omega (arith, below, low) in
        pc-left j p at (omega (arith, few)) (o.issue j p below (issues-back of j p few issues) (λ l q a b other. last l q a b (issues-on of l q other))));
  }

  pub site-left : (k : ℕ) (site : Site) → IsSite m k site → IsSite n k site
  site-left k site s =
      let low : k < length m.steps = slice_get_within m.steps k s.of s.at in
      record { of = s.of; address = s.address; at = step-left k low ∙ s.at; origin = origin-left k s.of s.address low s.origin; told = s.told }

  pub sites-left : (i j : ℕ) (sites : Sites) → AreSites m i j sites → AreSites n i j sites
  sites-left i j sites are = record { first = site-left i sites.first are.first; second = site-left j sites.second are.second }
