-- The tag groups of the commands that aren't complete, bit by bit.
use Rattle.std.proofs.Common.{◌≡◌, ℕ, zero, suc, ◌+◌, ◌^◌, ◌<◌, ◌≤◌, ◌==◌, not, Bool, true, false, List, [], ◌∷◌, length, arith, refl, sym, ◌∙◌, ap, true≢false}
use Rattle.std.specs.Prelude.{Option, Some, None, slice_get, filter, cond, bit_or, fold}
use Rattle.std.specs.List.{range_with_len}
use Rattle.std.specs.Option.{option_map_or}
use Rattle.std.specs.Int.{bit_at}
use Rattle.std.proofs.lemmas.Nat.{or_of_32, pow_below}
use Rattle.std.proofs.lemmas.Nat.Bits.{bit_at_or, bit_at-lt, bit_at-pow_same}
use Rattle.mfc_command.specs.declared.command.Command.{Command}
use Rattle.mfc_command.specs.Order.{busy_groups, with_group, outstanding}
use Rattle.cell_machine.specs.Spe.{Moves}
use Rattle.cell_machine.specs.Moves.{is_complete, busy}
use Rattle.cell_machine.proofs.Same.{eq_is, eq_not, get-within}

-- a bit that is on stays on
stays_on : (issued : List Command) (xs : List ℕ) (bits k : ℕ) → bit_at bits k ≡ 1 → bit_at (fold (with_group issued) bits xs) k ≡ 1
stays_on issued [] bits k h = h
stays_on issued (c ∷ xs) bits k h = stays_on issued xs (with_group issued bits c) k (bit_at_or bits _ k ∙ let low = bit_at-lt (option_map_or (λ (d : Command). 2 ^ d.tag) (slice_get issued c) 0) k in omega (arith, h, low))

group_on : (issued : List Command) (bits c : ℕ) (d : Command) → slice_get issued c ≡ Some d → bit_at (with_group issued bits c) d.tag ≡ 1
group_on issued bits c d at =
    ap (λ o. bit_at (bit_or bits (option_map_or (λ (y : Command). 2 ^ y.tag) o 0)) d.tag) at
    ∙ bit_at_or bits (2 ^ d.tag) d.tag ∙ let one = bit_at-pow_same d.tag in let low = bit_at-lt bits d.tag in omega (arith, one, low)

-- the bit of a command among those that pass is on
among_on : (issued : List Command) (t : ℕ → Bool) (a n bits c : ℕ) (d : Command) → slice_get issued c ≡ Some d → a ≤ c → c < a + n → t c ≡ true → bit_at (fold (with_group issued) bits (filter t (range_with_len a n))) d.tag ≡ 1
among_on issued t a zero bits c d at low high passes = absurd (omega (arith, low, high))
among_on issued t a (suc n) bits c d at low high passes = on (a == c) refl (t a) refl (λ b above. among_on issued t (a + 1) n b c d at above (omega (arith, high)) passes)
  where
    on : (e : Bool) → (a == c) ≡ e → (b : Bool) → t a ≡ b → ((x : ℕ) → a + 1 ≤ c → bit_at (fold (with_group issued) x (filter t (range_with_len (a + 1) n))) d.tag ≡ 1)
        → bit_at (fold (with_group issued) bits (cond b (a ∷ filter t (range_with_len (a + 1) n)) (filter t (range_with_len (a + 1) n)))) d.tag ≡ 1
    on true e true g later = stays_on issued (filter t (range_with_len (a + 1) n)) (with_group issued bits a) d.tag (group_on issued bits a d (ap (slice_get issued) (eq_is a c e) ∙ at))
    on true e false g later = absurd (true≢false (sym passes ∙ ap t (sym (eq_is a c e)) ∙ g))
    on false e true g later = later (with_group issued bits a) (let differs = eq_not a c e in omega (arith, low, differs))
    on false e false g later = later bits (let differs = eq_not a c e in omega (arith, low, differs))

pub busy-on : (m : Moves) (c : ℕ) (d : Command) → slice_get m.issued c ≡ Some d → is_complete m c ≡ false → bit_at (busy m) d.tag ≡ 1
unfolding busy_groups outstanding
busy-on m c d at open_still =
    among_on m.issued (λ k. not (is_complete m k)) 0 (length m.issued) 0 c d at (omega arith) (let low = get-within m.issued c d at in omega (arith, low)) (ap not open_still)

group_small : (issued : List Command) (c : ℕ) → ((k : ℕ) (d : Command) → slice_get issued k ≡ Some d → d.tag < 32) → option_map_or (λ (d : Command). 2 ^ d.tag) (slice_get issued c) 0 < 2 ^ 32
group_small issued c fit = on (slice_get issued c) refl
  where
    on : (o : Option Command) → slice_get issued c ≡ o → option_map_or (λ (d : Command). 2 ^ d.tag) o 0 < 2 ^ 32
    on None at = omega arith
    on (Some d) at = pow_below d.tag 32 (fit c d at)

groups_small : (issued : List Command) (xs : List ℕ) (bits : ℕ) → ((k : ℕ) (d : Command) → slice_get issued k ≡ Some d → d.tag < 32) → bits < 2 ^ 32 → fold (with_group issued) bits xs < 2 ^ 32
groups_small issued [] bits fit h = h
groups_small issued (c ∷ xs) bits fit h = groups_small issued xs (with_group issued bits c) fit (or_of_32 bits _ h (group_small issued c fit))

pub busy-small : (m : Moves) → ((c : ℕ) (d : Command) → slice_get m.issued c ≡ Some d → d.tag < 32) → busy m < 2 ^ 32
unfolding busy_groups
busy-small m fit = groups_small m.issued (outstanding (is_complete m) m.issued) 0 fit (omega arith)
