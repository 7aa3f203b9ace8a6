-- The site of a step whose origin is known.
use Rattle.std.proofs.Common.{◌≡◌, ℕ, ◌<◌, ap, sym, ◌∙◌, subst, List, length}
use Rattle.std.specs.Prelude.{Some, slice_get, get_or}
use Rattle.std.proofs.lemmas.Option.{slice_get-get_or}
use Rattle.cell_base.specs.declared.steps.Step.{Step}
use Rattle.cell_machine.specs.Run.{Ran}
use Rattle.cell_hunt.specs.declared.site.Site.{Site}
use Rattle.cell_hunt.specs.Sites.{site_of, IsOrigin, IsSite}

pub site-at : (m : Ran) (steps : List Step) (place address : ℕ) (d : Step) (site : Site) → steps ≡ m.steps → place < length m.steps
    → ((of : Step) → slice_get m.steps place ≡ Some of → IsOrigin m place of address) → site ≡ site_of (get_or steps place d) address → IsSite m place site
site-at m steps place address d site same inside origin told =
    let at : slice_get steps place ≡ Some (get_or steps place d) = slice_get-get_or steps place d (subst (λ xs. place < length xs) (sym same) inside) in
    record {
      of = get_or steps place d;
      address = address;
      at = ap (λ xs. slice_get xs place) (sym same) ∙ at;
      origin = origin (get_or steps place d) (ap (λ xs. slice_get xs place) (sym same) ∙ at);
      told = told;
    }
