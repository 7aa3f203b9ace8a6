-- Steps that numbers choose.
use Rattle.std.proofs.Common.{◌≡◌, ◌∙◌, ℕ, zero, suc, ◌+◌, List, ◌∷◌, [], ◌++◌, Option, Some, None, sym, ap, arith}
use Rattle.std.specs.List.{range_with_len}
use Rattle.std.specs.Option.{option_map_or}
use Rattle.std.proofs.lemmas.List.Sums.{fold_push}
use Rattle.cell_base.specs.declared.steps.Step.{Step}
use Rattle.cell_machine.specs.Run.{Ran}
use Rattle.cell_trace.specs.Effects.{grown}
use Rattle.trace_commands.specs.Choices.{chosen_in, with_choice, with_choices}

-- where a number chooses no step
pub stays : (m : Ran) (number : ℕ) → None ≡ chosen_in m number → m ≡ with_choice m number
stays m number is = ap (λ (o : Option Step). option_map_or (grown m) o m) is

-- where it chooses this one
pub grows : (m n : Ran) (number : ℕ) (s : Step) → Some s ≡ chosen_in m number → n ≡ grown m s → n ≡ with_choice m number
grows m n number s is made = made ∙ ap (λ (o : Option Step). option_map_or (grown m) o m) is

-- ---- turns

range_more : (a n : ℕ) → range_with_len a (suc n) ≡ range_with_len a n ++ (a + n) ∷ []
range_more a zero = let same : a ≡ a + 0 = omega arith in ap (λ (k : ℕ). k ∷ []) same
range_more a (suc n) =
    let same : a + 1 + n ≡ a + suc n = omega arith in
    ap (λ (xs : List ℕ). a ∷ xs) (range_more (a + 1) n ∙ ap (λ (k : ℕ). range_with_len (a + 1) n ++ k ∷ []) same)

one_more : (n : ℕ) → range_with_len 0 (n + 1) ≡ range_with_len 0 n ++ n ∷ []
one_more n =
    let next : n + 1 ≡ suc n = omega arith in
    let same : 0 + n ≡ n = omega arith in
    ap (range_with_len 0) next ∙ range_more 0 n ∙ ap (λ (k : ℕ). range_with_len 0 n ++ k ∷ []) same

pub turn : (first m n : Ran) (number : ℕ) → m ≡ with_choices first (range_with_len 0 number) → n ≡ with_choice m number → n ≡ with_choices first (range_with_len 0 (number + 1))
turn first m n number so_far made =
    made ∙ ap (λ (x : Ran). with_choice x number) so_far ∙ sym (fold_push with_choice first (range_with_len 0 number) number) ∙ ap (with_choices first) (sym (one_more number))
