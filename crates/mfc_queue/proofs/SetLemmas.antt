-- Sets of numbers, as bits.
use Rattle.std.proofs.Common.{◌≡◌, ◌≢◌, ℕ, zero, suc, ◌+◌, ◌*◌, ◌/◌, ◌%◌, ◌^◌, ◌<◌, ◌≤◌, ◌==◌, Bool, true, false, ◌||◌, List, [], ◌∷◌, length, slice_index_or, slice_set, bit_or, w16, w64, arith, refl, sym, ◌∙◌, ap, subst}
use Rattle.std.specs.Prelude.{not}
use Rattle.std.specs.Int.{trailing_zeros}
use Rattle.std.specs.List.{list_any, range_with_len}
use Rattle.std.proofs.lemmas.List.{get_or-set_same, get_or-set_other}
use Rattle.std.proofs.lemmas.Bool.Decides.{nat_tests}
use Rattle.std.proofs.lemmas.Nat.Bits.{bit_at-trailing_zeros}
use Rattle.cell_base.specs.Bits.{has_bit}
use Rattle.cell_base.proofs.BitLaws.{or_true, or_false, bit-none, bit-set}
use Rattle.mfc_queue.specs.Sets.{has_part}

pub part-none : (k : ℕ) → has_part (0 ∷ 0 ∷ 0 ∷ []) k ≡ false
unfolding has_part
part-none k = ap (λ w. has_bit w (k % 64)) (zeros (k / 64)) ∙ bit-none (k % 64)
  where
    zeros : (i : ℕ) → slice_index_or {A = ℕ} (0 ∷ 0 ∷ 0 ∷ []) i 0 ≡ 0
    zeros zero = refl
    zeros (suc zero) = refl
    zeros (suc (suc zero)) = refl
    zeros (suc (suc (suc i))) = refl

-- a set with one part more
pub part-set : (words : List ℕ) (part k : ℕ) → length words ≡ 3 → part < 192
    → has_part (slice_set words (part / 64) (bit_or (slice_index_or words (part / 64) 0) (1 * 2 ^ (part % 64) % 2 ^ 64))) k ≡ (has_part words k || part == k)
unfolding has_part
part-set words part k whole within = on (part / 64 == k / 64) refl
  where
    set : List ℕ
    set = slice_set words (part / 64) (bit_or (slice_index_or words (part / 64) 0) (1 * 2 ^ (part % 64) % 2 ^ 64))

    same_test : (b : Bool) → part / 64 ≡ k / 64 → (part % 64 == k % 64) ≡ (part == k)
    same_test b e = grind (arith, nat_tests)

    on : (b : Bool) → (part / 64 == k / 64) ≡ b → has_bit (slice_index_or set (k / 64) 0) (k % 64) ≡ (has_bit (slice_index_or words (k / 64) 0) (k % 64) || part == k)
    on true e =
        let same : part / 64 ≡ k / 64 = grind (arith, nat_tests) in
        subst (λ i. has_bit (slice_index_or set i 0) (k % 64) ≡ (has_bit (slice_index_or words i 0) (k % 64) || part == k)) same
        (ap (λ w. has_bit w (k % 64)) (get_or-set_same words (part / 64) _ 0 (omega arith))
        ∙ bit-set w64 (slice_index_or words (part / 64) 0) (part % 64) (k % 64) (omega arith)
        ∙ ap (λ b. has_bit (slice_index_or words (part / 64) 0) (k % 64) || b) (same_test true same))
    on false e =
        let apart : k / 64 ≢ part / 64 = grind (arith, nat_tests) in
        let other : (part == k) ≡ false = grind (arith, nat_tests) in
        ap (λ w. has_bit w (k % 64)) (get_or-set_other words (part / 64) (k / 64) _ 0 apart) ∙ sym (or_false _) ∙ ap (λ b. has_bit (slice_index_or words (k / 64) 0) (k % 64) || b) (sym other)

-- tests of a range
pub any-none : (p : ℕ → Bool) (a n : ℕ) → ((k : ℕ) → k < a + n → p k ≡ false) → list_any p (range_with_len a n) ≡ false
any-none p a zero h = refl
any-none p a (suc n) h = rw (h a (omega arith)) (any-none p (a + 1) n (λ k l. h k (omega arith)))

pub any-one : (p : ℕ → Bool) (a n k : ℕ) → a ≤ k → k < a + n → p k ≡ true → list_any p (range_with_len a n) ≡ true
any-one p a zero k low high on = absurd (omega arith)
any-one p a (suc n) k low high is = on (a == k) refl (λ l. any-one p (a + 1) n k l (omega arith) is)
  where
    on : (b : Bool) → (a == k) ≡ b → (a + 1 ≤ k → list_any p (range_with_len (a + 1) n) ≡ true) → list_any p (range_with_len a (suc n)) ≡ true
    on true e rest = let same : k ≡ a = grind (arith, nat_tests) in rw (subst (λ j. p j ≡ true) same is) refl
    on false e rest = let apart : a ≢ k = grind (arith, nat_tests) in ap (λ b. p a || b) (rest (grind (arith, apart))) ∙ or_true (p a)

pub any-agree : (p r : ℕ → Bool) (a n : ℕ) → ((k : ℕ) → k < a + n → p k ≡ r k) → list_any p (range_with_len a n) ≡ list_any r (range_with_len a n)
any-agree p r a zero h = refl
any-agree p r a (suc n) h = rw (h a (omega arith)) (ap (λ b. r a || b) (any-agree p r (a + 1) n (λ k l. h k (omega arith))))

-- a set of sixteen is empty where no bit is set
lowest-found : (n : ℕ) → n < 65536 → 0 < n → list_any (has_bit n) (range_with_len 0 16) ≡ true
unfolding has_bit
lowest-found n fits some =
    let lowest = bit_at-trailing_zeros w16 n some fits in
    any-one (has_bit n) 0 16 (trailing_zeros w16 n) (omega arith) lowest.0 (ap (λ b. b == 1) lowest.1)

pub is-empty : (n : ℕ) → n < 65536 → (n == 0) ≡ not (list_any (has_bit n) (range_with_len 0 16))
is-empty n fits = on (n == 0) refl
  where
    on : (b : Bool) → (n == 0) ≡ b → b ≡ not (list_any (has_bit n) (range_with_len 0 16))
    on true e =
        let zeroth : n ≡ 0 = grind (arith, nat_tests) in
        sym (ap not (any-none (has_bit n) 0 16 (λ k l. ap (λ m. has_bit m k) zeroth ∙ bit-none k)))
    on false e =
        let some : 0 < n = grind (arith, nat_tests) in
        sym (ap not (lowest-found n fits some))
