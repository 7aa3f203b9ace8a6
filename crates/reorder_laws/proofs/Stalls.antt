-- The groups of stalled lists, where one command stalls more.
use Rattle.std.proofs.Common.{◌≡◌, ◌≢◌, ℕ, zero, suc, ◌+◌, ◌^◌, ◌<◌, ◌≤◌, ◌==◌, Bool, true, false, List, [], ◌∷◌, length, arith, refl, sym, ◌∙◌, ap, ap₂, max}
use Rattle.std.specs.Prelude.{Some, slice_get, filter, cond, bit_or, fold}
use Rattle.std.specs.List.{range_with_len}
use Rattle.std.specs.Option.{option_map_or}
use Rattle.std.specs.Int.{bit_at}
use Rattle.std.proofs.lemmas.Nat.Bits.{bit_at_or, bit_at-zero, same_from_bits}
use Rattle.mfc_command.specs.declared.command.Command.{Command}
use Rattle.mfc_command.specs.Order.{with_group}
use Rattle.cell_machine.specs.Spe.{Moves}
use Rattle.cell_machine.specs.Moves.{is_stalled}
use Rattle.cell_machine.proofs.Same.{eq_is, eq_not, get-within}
use Rattle.reorder_laws.specs.Recorded.{stalled_groups, is_stalled_number}
use Rattle.reorder_laws.specs.OrderedLaws.{StalledMore, StalledOne}

or_swap : (a b c : ℕ) → bit_or (bit_or a b) c ≡ bit_or (bit_or a c) b
or_swap a b c = same_from_bits _ _ (λ i.
    let p = bit_at_or (bit_or a b) c i in
    let q = bit_at_or a b i in
    let r = bit_at_or (bit_or a c) b i in
    let s = bit_at_or a c i in
    p ∙ ap (λ x. max x (bit_at c i)) q ∙ swap (bit_at a i) (bit_at b i) (bit_at c i) ∙ sym (r ∙ ap (λ x. max x (bit_at b i)) s))
  where
    swap : (x y z : ℕ) → max (max x y) z ≡ max (max x z) y
    swap x y z = omega arith

zero_or : (b : ℕ) → bit_or 0 b ≡ b
zero_or b = same_from_bits _ _ (λ i. bit_at_or 0 b i ∙ let z = bit_at-zero i in ap (λ x. max x (bit_at b i)) z ∙ (let e : max 0 (bit_at b i) ≡ bit_at b i = omega arith in e))

-- a group may come in before the others or behind them
push : (issued : List Command) (xs : List ℕ) (bits g : ℕ) → fold (with_group issued) (bit_or bits g) xs ≡ bit_or (fold (with_group issued) bits xs) g
push issued [] bits g = refl
push issued (k ∷ xs) bits g =
    ap (λ b. fold (with_group issued) b xs) (or_swap bits g (option_map_or (λ (d : Command). 2 ^ d.tag) (slice_get issued k) 0))
    ∙ push issued xs (with_group issued bits k) g

filter_same : (t u : ℕ → Bool) (a n : ℕ) → ((k : ℕ) → a ≤ k → u k ≡ t k) → filter u (range_with_len a n) ≡ filter t (range_with_len a n)
filter_same t u a zero same = refl
filter_same t u a (suc n) same =
    ap₂ (λ b rest. cond b (a ∷ rest) rest) (same a (omega arith)) (filter_same t u (a + 1) n (λ k h. same k (omega (arith, h))))

-- one more number among those that pass
insert : (issued : List Command) (t u : ℕ → Bool) (a n bits c g : ℕ) → ((b : ℕ) → with_group issued b c ≡ bit_or b g) → a ≤ c → c < a + n → t c ≡ false → u c ≡ true → ((k : ℕ) → k ≢ c → u k ≡ t k)
    → fold (with_group issued) bits (filter u (range_with_len a n)) ≡ bit_or (fold (with_group issued) bits (filter t (range_with_len a n))) g
insert issued t u a zero bits c g group low high off set same = absurd (omega (arith, low, high))
insert issued t u a (suc n) bits c g group low high off set same = on (a == c) refl (λ b h. insert issued t u (a + 1) n b c g group h (omega (arith, high)) off set same)
  where
    rest : List ℕ
    rest = filter t (range_with_len (a + 1) n)

    here : a ≡ c → fold (with_group issued) bits (cond (u a) (a ∷ filter u (range_with_len (a + 1) n)) (filter u (range_with_len (a + 1) n))) ≡ bit_or (fold (with_group issued) bits (cond (t a) (a ∷ rest) rest)) g
    here e =
        let ua : u a ≡ true = ap u e ∙ set in
        let ta : t a ≡ false = ap t e ∙ off in
        let tail : filter u (range_with_len (a + 1) n) ≡ rest = filter_same t u (a + 1) n (λ k h. same k (λ q. absurd (omega (arith, h, q, e)))) in
        rw (ua, ta) (ap (λ xs. fold (with_group issued) (with_group issued bits a) xs) tail ∙ ap (λ b. fold (with_group issued) b rest) (ap (with_group issued bits) e ∙ group bits) ∙ push issued rest bits g)

    there : a ≢ c → a + 1 ≤ c → ((b : ℕ) → a + 1 ≤ c → fold (with_group issued) b (filter u (range_with_len (a + 1) n)) ≡ bit_or (fold (with_group issued) b rest) g)
        → fold (with_group issued) bits (cond (u a) (a ∷ filter u (range_with_len (a + 1) n)) (filter u (range_with_len (a + 1) n))) ≡ bit_or (fold (with_group issued) bits (cond (t a) (a ∷ rest) rest)) g
    there ne above later = ap (λ b. fold (with_group issued) bits (cond b (a ∷ filter u (range_with_len (a + 1) n)) (filter u (range_with_len (a + 1) n)))) (same a ne) ∙ by (t a)
      where
        by : (b : Bool) → fold (with_group issued) bits (cond b (a ∷ filter u (range_with_len (a + 1) n)) (filter u (range_with_len (a + 1) n))) ≡ bit_or (fold (with_group issued) bits (cond b (a ∷ rest) rest)) g
        by true = later (with_group issued bits a) above
        by false = later bits above

    on : (b : Bool) → (a == c) ≡ b → ((b : ℕ) → a + 1 ≤ c → fold (with_group issued) b (filter u (range_with_len (a + 1) n)) ≡ bit_or (fold (with_group issued) b rest) g)
        → fold (with_group issued) bits (cond (u a) (a ∷ filter u (range_with_len (a + 1) n)) (filter u (range_with_len (a + 1) n))) ≡ bit_or (fold (with_group issued) bits (cond (t a) (a ∷ rest) rest)) g
    on true e later = here (eq_is a c e)
    on false e later = let ne = eq_not a c e in there ne (omega (arith, low, ne)) later

group_of : (issued : List Command) (c : ℕ) (d : Command) → slice_get issued c ≡ Some d → (b : ℕ) → with_group issued b c ≡ bit_or b (2 ^ d.tag)
group_of issued c d at b = ap (λ o. bit_or b (option_map_or (λ (x : Command). 2 ^ x.tag) o 0)) at

at_number : (m : Moves) (c : ℕ) (d : Command) → slice_get m.issued c ≡ Some d → is_stalled_number m c ≡ is_stalled m c d
at_number m c d at = ap (λ o. option_map_or (is_stalled m c) o false) at

none_pass : (a n : ℕ) → filter (λ k. false) (range_with_len a n) ≡ []
none_pass a zero = refl
none_pass a (suc n) = none_pass (a + 1) n

pub stalled-more : StalledMore
unfolding stalled_groups
stalled-more m n c d issued at off others = on (is_stalled n c d) refl
  where
    there : slice_get n.issued c ≡ Some d
    there = ap (λ xs. slice_get xs c) issued ∙ at

    moved : fold (with_group n.issued) 0 (filter (is_stalled_number n) (range_with_len 0 (length n.issued))) ≡ fold (with_group m.issued) 0 (filter (is_stalled_number n) (range_with_len 0 (length m.issued)))
    moved = ap (λ xs. fold (with_group xs) 0 (filter (is_stalled_number n) (range_with_len 0 (length xs)))) issued

    on : (b : Bool) → is_stalled n c d ≡ b
        → fold (with_group n.issued) 0 (filter (is_stalled_number n) (range_with_len 0 (length n.issued)))
        ≡ cond b (bit_or (fold (with_group m.issued) 0 (filter (is_stalled_number m) (range_with_len 0 (length m.issued)))) (2 ^ d.tag)) (fold (with_group m.issued) 0 (filter (is_stalled_number m) (range_with_len 0 (length m.issued))))
    on true e =
        let low = get-within m.issued c d at in
        moved ∙ insert m.issued (is_stalled_number m) (is_stalled_number n) 0 (length m.issued) 0 c (2 ^ d.tag) (group_of m.issued c d at) (omega arith) (omega (arith, low)) (at_number m c d at ∙ off) (at_number n c d there ∙ e) others
    on false e = moved ∙ ap (fold (with_group m.issued) 0) (filter_same (is_stalled_number m) (is_stalled_number n) 0 (length m.issued) (λ k h. by k (k == c) refl))
      where
        by : (k : ℕ) (b : Bool) → (k == c) ≡ b → is_stalled_number n k ≡ is_stalled_number m k
        by k true q = let same = eq_is k c q in ap (is_stalled_number n) same ∙ at_number n c d there ∙ e ∙ sym (at_number m c d at ∙ off) ∙ sym (ap (is_stalled_number m) same)
        by k false q = others k (eq_not k c q)

pub stalled-one : StalledOne
unfolding stalled_groups
stalled-one m c d at set others =
    let low = get-within m.issued c d at in
    insert m.issued (λ k. false) (is_stalled_number m) 0 (length m.issued) 0 c (2 ^ d.tag) (group_of m.issued c d at) (omega arith) (omega (arith, low)) refl (at_number m c d at ∙ set) others
    ∙ ap (λ xs. bit_or (fold (with_group m.issued) 0 xs) (2 ^ d.tag)) (none_pass 0 (length m.issued)) ∙ zero_or (2 ^ d.tag)
