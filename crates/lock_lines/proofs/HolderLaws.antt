-- What a change of the reservations does to the holders of lines.
use Rattle.std.proofs.Common.{◌≡◌, ◌≢◌, ℕ, zero, suc, [], ◌-◌, ◌*◌, ◌%◌, ◌^◌, ◌+◌, ◌<◌, ◌≤◌, ◌==◌, Bool, true, false, ◌&&◌, ◌||◌, List, length, min, slice_index_or, slice_set, bit_and, bit_or, w16, arith, refl, sym, ◌∙◌, ap, subst}
use Rattle.std.specs.Prelude.{not, if◌then◌else◌, nat_lt, replicate, Option, Some, None}
use Rattle.std.specs.Int.{bit_at, bit_not}
use Rattle.std.proofs.lemmas.List.{get_or-set_same, get_or-set_other}
use Rattle.std.proofs.lemmas.Nat.Bits.{bit_at_and, bit_at_not, bit_at-lt}
use Rattle.std.proofs.lemmas.Bool.Decides.{nat_tests}
use Rattle.cell_base.specs.Bits.{has_bit}
use Rattle.cell_base.proofs.BitLaws.{bit-none, bit-set, bit-clear, and_true, and_false, or_true, or_false}
use Rattle.lock_lines.specs.Reservations.{Reservations}
use Rattle.lock_lines.specs.Holders.{is_line, is_holder, IsLineCleared, IsSpeCleared}

-- ---- bits

-- several bits less, of sixteen
pub bits-clear : (n m k : ℕ) → m < 2 ^ 16 → k < 16 → has_bit (bit_and n (bit_not w16 m)) k ≡ (has_bit n k && not (has_bit m k))
unfolding has_bit
bits-clear n m k within low =
    ap (λ b. b == 1) (bit_at_and n (bit_not w16 m) k ∙ ap (min (bit_at n k)) (bit_at_not w16 m k within low)) ∙ on (bit_at n k) (bit_at m k) (bit_at-lt n k) (bit_at-lt m k)
  where
    on : (a b : ℕ) → a < 2 → b < 2 → (min a (1 - b) == 1) ≡ (a == 1 && not (b == 1))
    on zero zero _ _ = refl
    on zero (suc zero) _ _ = refl
    on (suc zero) zero _ _ = refl
    on (suc zero) (suc zero) _ _ = refl
    on (suc (suc a)) b low _ = absurd (omega arith)
    on zero (suc (suc b)) _ low = absurd (omega arith)
    on (suc zero) (suc (suc b)) _ low = absurd (omega arith)

-- no bit more
pub bits-fewer : (n m k : ℕ) → has_bit n k ≡ false → has_bit (bit_and n m) k ≡ false
unfolding has_bit
bits-fewer n m k none = ap (λ b. b == 1) (bit_at_and n m k) ∙ on (bit_at n k) (bit_at m k) (bit_at-lt n k) (bit_at-lt m k) none
  where
    on : (a b : ℕ) → a < 2 → b < 2 → (a == 1) ≡ false → (min a b == 1) ≡ false
    on zero zero _ _ e = refl
    on zero (suc zero) _ _ e = refl
    on (suc zero) b _ _ e = absurd (cc)
    on (suc (suc a)) b low _ e = absurd (omega arith)
    on zero (suc (suc b)) _ low e = absurd (omega arith)

-- one bit more, that of a processor
pub bits-more : (n spe spes k : ℕ) → spe < spes → spes ≤ 16 → spes ≤ k → has_bit n k ≡ false → has_bit (bit_or n (1 * 2 ^ spe % 2 ^ 16)) k ≡ false
bits-more n spe spes k small few from none =
    let apart : (spe == k) ≡ false = grind (arith, nat_tests) in
    bit-set w16 n spe k (omega arith) ∙ ap (λ b. b || spe == k) none ∙ apart

-- ---- what is reserved

-- what a processor reserves is put in place of what it had
pub same-place : (reserved : List (Option ℕ)) (spe p : ℕ) (o : Option ℕ) → spe < length reserved → (spe == p) ≡ true → slice_index_or (slice_set reserved spe o) p None ≡ o
same-place reserved spe p o there e =
    let at : spe ≡ p = grind (arith, nat_tests) in
    subst (λ j. slice_index_or (slice_set reserved spe o) j None ≡ o) at (get_or-set_same reserved spe o None there)

pub other-place : (reserved : List (Option ℕ)) (spe p : ℕ) (o : Option ℕ) → (spe == p) ≡ false → slice_index_or (slice_set reserved spe o) p None ≡ slice_index_or reserved p None
other-place reserved spe p o e =
    let apart : p ≢ spe = grind (arith, nat_tests) in
    get_or-set_other reserved spe p o None apart

none-kept : (n p : ℕ) → slice_index_or {A = Option ℕ} (replicate n None) p None ≡ None
none-kept zero p = none p
  where
    none : (k : ℕ) → slice_index_or {A = Option ℕ} [] k None ≡ None
    none zero = refl
    none (suc k) = refl
none-kept (suc n) zero = refl
none-kept (suc n) (suc k) = none-kept n k

pub none-reserved : (reserved : List (Option ℕ)) (p : ℕ) → reserved ≡ replicate 16 None → slice_index_or reserved p None ≡ None
none-reserved reserved p are = ap (λ (l : List (Option ℕ)). slice_index_or l p None) are ∙ none-kept 16 p

-- ---- holders

-- nobody holds anything
pub none-holds : (x : Reservations) (p k : ℕ) → x.holding ≡ 0 → is_holder x p k ≡ false
none-holds x p k empty = ap (λ h. has_bit h p && is_line (slice_index_or x.reserved p None) k) empty ∙ ap (λ b. b && is_line (slice_index_or x.reserved p None) k) (bit-none p)

-- those that held the line hold nothing any more
pub line-cleared : (x : Reservations) (line holders : ℕ) → holders < 2 ^ 16 → ((p : ℕ) → p < 16 → has_bit holders p ≡ is_holder x p line)
    → IsLineCleared line x (record x { holding = bit_and x.holding (bit_not w16 holders) })
line-cleared x line holders within are p k low =
    ap (λ b. b && is_line o k) (bits-clear x.holding holders p within low ∙ ap (λ b. has_bit x.holding p && not b) (are p low)) ∙ on (has_bit x.holding p) o
  where
    o : Option ℕ
    o = slice_index_or x.reserved p None

    not-both : (r : ℕ) (b c d : Bool) → (r == line) ≡ b → (r == k) ≡ c → (line == k) ≡ d → (not b && c) ≡ (c && not d)
    not-both r true true true e f g = refl
    not-both r true true false e f g = absurd (let same : r ≡ line = grind (arith, nat_tests) in let at : r ≡ k = grind (arith, nat_tests) in let apart : line ≢ k = grind (arith, nat_tests) in apart (sym same ∙ at))
    not-both r true false d e f g = refl
    not-both r false true true e f g = absurd (let same : line ≡ k = grind (arith, nat_tests) in let at : r ≡ k = grind (arith, nat_tests) in let apart : r ≢ line = grind (arith, nat_tests) in apart (at ∙ sym same))
    not-both r false true false e f g = refl
    not-both r false false d e f g = refl

    on : (b : Bool) (r : Option ℕ) → ((b && not (b && is_line r line)) && is_line r k) ≡ ((b && is_line r k) && not (line == k))
    on false r = refl
    on true None = refl
    on true (Some r) = not-both r (r == line) (r == k) (line == k) refl refl refl

-- a processor that gives up what it reserved holds nothing
pub spe-cleared : (x : Reservations) (spe i : ℕ) → spe < 16 → i ≡ spe
    → IsSpeCleared spe x (record x { holding = bit_and x.holding (bit_not w16 (1 * 2 ^ spe % 2 ^ 16)); reserved = slice_set x.reserved i None })
spe-cleared x spe i small at p k low =
    ap (λ j. is_holder (record x { holding = bit_and x.holding (bit_not w16 (1 * 2 ^ spe % 2 ^ 16)); reserved = slice_set x.reserved j None }) p k) at ∙ ap (λ b. b && is_line (slice_index_or (slice_set x.reserved spe None) p None) k) (bit-clear x.holding spe p small low) ∙ on (spe == p) refl
  where
    on : (b : Bool) → (spe == p) ≡ b → ((has_bit x.holding p && not b) && is_line (slice_index_or (slice_set x.reserved spe None) p None) k) ≡ (is_holder x p k && not b)
    on true e = ap (λ b. b && is_line (slice_index_or (slice_set x.reserved spe None) p None) k) (and_false (has_bit x.holding p)) ∙ sym (and_false (is_holder x p k))
    on false e =
        ap (λ b. b && is_line (slice_index_or (slice_set x.reserved spe None) p None) k) (and_true (has_bit x.holding p))
        ∙ ap (λ o. has_bit x.holding p && is_line o k) (other-place x.reserved spe p None e)
        ∙ sym (and_true (is_holder x p k))

-- the processor holds this line and no other, and the others hold the same
abbrev pub HoldsOnly : ℕ → ℕ → Reservations → Reservations → Type 0
HoldsOnly spe line old new = (p k : ℕ) → p < 16 → is_holder new p k ≡ (if spe == p then line == k else is_holder old p k)

-- so it is with a processor that reserves it
pub line-reserved : (x : Reservations) (spe line i : ℕ) → spe < 16 → spe < length x.reserved → i ≡ spe
    → HoldsOnly spe line x (record x { holding = bit_or x.holding (1 * 2 ^ spe % 2 ^ 16); reserved = slice_set x.reserved i (Some line) })
line-reserved x spe line i small there at p k low =
    ap (λ j. is_holder (record x { holding = bit_or x.holding (1 * 2 ^ spe % 2 ^ 16); reserved = slice_set x.reserved j (Some line) }) p k) at ∙ ap (λ b. b && is_line (slice_index_or (slice_set x.reserved spe (Some line)) p None) k) (bit-set w16 x.holding spe p small) ∙ on (spe == p) refl
  where
    on : (b : Bool) → (spe == p) ≡ b → ((has_bit x.holding p || b) && is_line (slice_index_or (slice_set x.reserved spe (Some line)) p None) k) ≡ (if b then line == k else is_holder x p k)
    on true e =
        ap (λ b. b && is_line (slice_index_or (slice_set x.reserved spe (Some line)) p None) k) (or_true (has_bit x.holding p))
        ∙ ap (λ o. is_line o k) (same-place x.reserved spe p (Some line) there e)
    on false e =
        ap (λ b. b && is_line (slice_index_or (slice_set x.reserved spe (Some line)) p None) k) (or_false (has_bit x.holding p))
        ∙ ap (λ o. has_bit x.holding p && is_line o k) (other-place x.reserved spe p (Some line) e)

-- ---- the holders of a line, as bits

-- they are right for the processors below n, and 0 from there on
abbrev pub HasHoldersBelow : ℕ → Reservations → ℕ → ℕ → Type 0
HasHoldersBelow n x line holders = (p : ℕ) → p < 16 → has_bit holders p ≡ (nat_lt p n && is_holder x p line)

pub none-below : (x : Reservations) (line : ℕ) → HasHoldersBelow 0 x line 0
none-below x line p low = let no : nat_lt p 0 ≡ false = grind (arith, nat_tests) in bit-none p ∙ ap (λ b. b && is_holder x p line) (sym no)

pub holder-below : (n : ℕ) (x : Reservations) (line holders : ℕ) → n < 16 → is_holder x n line ≡ true → HasHoldersBelow n x line holders
    → HasHoldersBelow (n + 1) x line (bit_or holders (1 * 2 ^ n % 2 ^ 16))
holder-below n x line holders small holds are p low =
    bit-set w16 holders n p small ∙ ap (λ b. b || n == p) (are p low) ∙ on (nat_lt p n) (n == p) (nat_lt p (n + 1)) refl refl refl
  where
    on : (a b c : Bool) → nat_lt p n ≡ a → (n == p) ≡ b → nat_lt p (n + 1) ≡ c → ((a && is_holder x p line) || b) ≡ (c && is_holder x p line)
    on true true c e f g = absurd (grind (arith, nat_tests))
    on false true true e f g = let at : n ≡ p = grind (arith, nat_tests) in sym (subst (λ q. is_holder x q line ≡ true) at holds)
    on false true false e f g = absurd (grind (arith, nat_tests))
    on true false true e f g = or_false (is_holder x p line)
    on true false false e f g = absurd (grind (arith, nat_tests))
    on false false true e f g = absurd (grind (arith, nat_tests))
    on false false false e f g = refl

pub other-below : (n : ℕ) (x : Reservations) (line holders : ℕ) → is_holder x n line ≡ false → HasHoldersBelow n x line holders → HasHoldersBelow (n + 1) x line holders
other-below n x line holders holds_not are p low = are p low ∙ on (nat_lt p n) (nat_lt p (n + 1)) refl refl
  where
    on : (a c : Bool) → nat_lt p n ≡ a → nat_lt p (n + 1) ≡ c → (a && is_holder x p line) ≡ (c && is_holder x p line)
    on true true e g = refl
    on true false e g = absurd (grind (arith, nat_tests))
    on false true e g = let at : n ≡ p = grind (arith, nat_tests) in sym (subst (λ q. is_holder x q line ≡ false) at holds_not)
    on false false e g = refl

-- no processor from n on holds anything, so they are all
pub all-below : (n : ℕ) (x : Reservations) (line holders : ℕ) → ((p : ℕ) → n ≤ p → p < 16 → has_bit x.holding p ≡ false) → HasHoldersBelow n x line holders
    → (p : ℕ) → p < 16 → has_bit holders p ≡ is_holder x p line
all-below n x line holders others are p low = are p low ∙ on (nat_lt p n) refl
  where
    on : (a : Bool) → nat_lt p n ≡ a → (a && is_holder x p line) ≡ is_holder x p line
    on true e = refl
    on false e = let from : n ≤ p = grind (arith, nat_tests) in ap (λ b. b && is_line (slice_index_or x.reserved p None) line) (sym (others p from low))
