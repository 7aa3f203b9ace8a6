-- The tag groups with a command outstanding, bit by bit.
use Rattle.std.proofs.Common.{◌≡◌, ◌≢◌, ℕ, zero, suc, ◌^◌, ◌<◌, ◌==◌, ◌||◌, Bool, true, false, List, [], ◌∷◌, max, bit_or, fold, Option, Some, None, slice_get, arith, refl, ◌∙◌, ap, subst}
use Rattle.std.specs.List.{list_any}
use Rattle.std.specs.Option.{option_map_or}
use Rattle.std.specs.Int.{bit_at}
use Rattle.std.proofs.lemmas.Bool.Decides.{nat_tests}
use Rattle.std.proofs.lemmas.Nat.Bits.{bit_at_or, bit_at-lt, bit_at-pow_same, bit_at-pow_other}
use Rattle.mfc_command.specs.declared.command.Command.{Command}
use Rattle.mfc_command.specs.Order.{busy_groups, with_group}
use Rattle.mfc_queue.specs.Calls.{Call, issued, is_of_tag, outstanding, busy, has_outstanding}
use Rattle.cell_base.specs.Bits.{has_bit}
use Rattle.cell_base.proofs.BitLaws.{bit-none}

or_bit : (a b k : ℕ) → has_bit (bit_or a b) k ≡ (has_bit a k || has_bit b k)
unfolding has_bit
or_bit a b k = ap (λ n. n == 1) (bit_at_or a b k) ∙ on (bit_at a k) (bit_at b k) (bit_at-lt a k) (bit_at-lt b k)
  where
    on : (m n : ℕ) → m < 2 → n < 2 → (max m n == 1) ≡ (m == 1 || n == 1)
    on zero zero l h = refl
    on zero (suc zero) l h = refl
    on (suc zero) zero l h = refl
    on (suc zero) (suc zero) l h = refl
    on m (suc (suc n)) l h = absurd (omega arith)
    on (suc (suc m)) n l h = absurd (omega arith)

pow_bit : (tag k : ℕ) → has_bit (2 ^ tag) k ≡ (tag == k)
unfolding has_bit
pow_bit tag k = on (tag == k) refl
  where
    on : (b : Bool) → (tag == k) ≡ b → (bit_at (2 ^ tag) k == 1) ≡ b
    on true e = let same : tag ≡ k = grind (arith, nat_tests) in ap (λ b. b == 1) (subst (λ i. bit_at (2 ^ tag) i ≡ 1) same (bit_at-pow_same tag))
    on false e = let apart : k ≢ tag = grind (arith, nat_tests) in ap (λ b. b == 1) (bit_at-pow_other tag k apart)

group_bit : (o : Option Command) (k : ℕ) → has_bit (option_map_or (λ d. 2 ^ d.tag) o 0) k ≡ option_map_or (λ d. d.tag == k) o false
group_bit None k = bit-none k
group_bit (Some d) k = pow_bit d.tag k

or_false : (b : Bool) → b ≡ (b || false)
or_false true = refl
or_false false = refl

or_assoc : (a b c : Bool) → ((a || b) || c) ≡ (a || (b || c))
or_assoc true b c = refl
or_assoc false b c = refl

-- the groups so far, and those of the commands to come
fold_bit : (commands : List Command) (xs : List ℕ) (bits k : ℕ) → has_bit (fold (with_group commands) bits xs) k ≡ (has_bit bits k || list_any (is_of_tag commands k) xs)
fold_bit commands [] bits k = or_false (has_bit bits k)
fold_bit commands (c ∷ xs) bits k =
    fold_bit commands xs (with_group commands bits c) k
    ∙ ap (λ b. b || list_any (is_of_tag commands k) xs) (or_bit bits _ k ∙ ap (λ b. has_bit bits k || b) (group_bit (slice_get commands c) k))
    ∙ or_assoc (has_bit bits k) (is_of_tag commands k c) (list_any (is_of_tag commands k) xs)

pub busy-groups : (calls : List Call) (tag : ℕ) → has_bit (busy calls) tag ≡ has_outstanding calls tag
unfolding busy_groups
busy-groups calls tag = fold_bit (issued calls) (outstanding calls) 0 tag ∙ ap (λ b. b || has_outstanding calls tag) (bit-none tag)
