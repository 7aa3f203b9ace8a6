use Rattle.std.proofs.Common.{arith, ◌≡◌, ◌+◌, ◌-◌, ◌/◌, ◌^◌, length, sym, ap, subst, ◌∙◌}
use Rattle.std.specs.Prelude.{replicate}
use Rattle.std.proofs.lemmas.List.{length-replicate}
use Rattle.race_check.specs.Numbers.{ArePages, numbers_in}
use Rattle.race_check.proofs.NumberLaws.{none_are, none_set}
use Rattle.race_check.proofs.numbers.Numbers.new.Goals as goal

pub invariant_of-result : goal.invariant_of-result
invariant_of-result c =
    let starts : c.in_ok-vec.field-0.items ≡ replicate (c.args.count / 64 + 1) 0 = c.in_ok-vec.ensures.items_if_clones_equal (λ y same. same) in
    let kept : c.in_ok-vec-2.field-0.items ≡ replicate 64 (2 ^ 32 - 1) = c.in_ok-vec-2.ensures.items_if_clones_equal (λ y same. same) in
    let long : length c.in_ok-vec.field-0.items ≡ c.args.count / 64 + 1 = ap length starts ∙ length-replicate (c.args.count / 64 + 1) 0 in
    (omega (arith, long), subst (ArePages c.in_ok-vec.field-0.items) (sym kept) (subst (λ xs. ArePages xs (replicate 64 (2 ^ 32 - 1))) (sym starts) (none_are (c.args.count / 64 + 1))))

pub returns : goal.returns
returns c =
    let starts : c.in_ok-vec.field-0.items ≡ replicate (c.args.count / 64 + 1) 0 = c.in_ok-vec.ensures.items_if_clones_equal (λ y same. same) in
    let kept : c.in_ok-vec-2.field-0.items ≡ replicate 64 (2 ^ 32 - 1) = c.in_ok-vec-2.ensures.items_if_clones_equal (λ y same. same) in
    ap (λ xs. numbers_in c.args.count xs c.in_ok-vec-2.field-0.items) starts ∙ ap (numbers_in c.args.count (replicate (c.args.count / 64 + 1) 0)) kept ∙ none_set c.args.count (c.args.count / 64 + 1)
