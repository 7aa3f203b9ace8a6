-- What a step does to other processors, as the code does it.
use Rattle.std.proofs.Common.{◌≡◌, ℕ, suc, ◌+◌, ◌<◌, ◌≤◌, ◌==◌, ◌&&◌, Bool, true, false, List, [], ◌∷◌, map, length, slice_index_or, slice_set, arith, refl, sym, ◌∙◌, ap, subst}
use Rattle.std.specs.Prelude.{Option, Some, None, nat_lt, slice_get, cond, if◌then◌else◌}
use Rattle.std.specs.Option.{option_map}
use Rattle.std.specs.List.{enumerate_from}
use Rattle.std.proofs.lemmas.List.{length-set}
use Rattle.std.proofs.lemmas.Bool.Decides.{nat_tests}
use Rattle.cell_base.specs.Bits.{has_bit}
use Rattle.cell_base.proofs.BitLaws.{bit-none}
use Rattle.cell_machine.specs.declared.processor.Processor.{Processor}
use Rattle.cell_machine.specs.declared.signals.Delivery.{Delivery}
use Rattle.cell_machine.specs.Spe.{Spe}
use Rattle.cell_machine.specs.Raised.{with_raised}
use Rattle.cell_machine.specs.Shows.{ShowsSpe, AllTwo, informed, informed_by, lost_by}
use Rattle.cell_machine.proofs.AllTwo.{two_at, two_none, two_set}
use Rattle.cell_machine.proofs.Ending.{list-same, numbered-at, set-at, none-past, past-none}

-- ---- a delivery

pub inform-absent : (processors : List Processor) (spes : List Spe) (d : Delivery) → AllTwo ShowsSpe processors spes → length processors ≤ d.spe → AllTwo ShowsSpe processors (informed_by spes (Some d))
inform-absent processors spes d two h = rw (two_none ShowsSpe processors spes d.spe two h) two

pub inform-there : (processors : List Processor) (spes : List Spe) (d : Delivery) (x new : Processor) → AllTwo ShowsSpe processors spes → d.spe < length processors
    → ((P : Spe) → ShowsSpe (slice_index_or processors d.spe x) P → ShowsSpe new (informed P d.register d.value)) → AllTwo ShowsSpe (slice_set processors d.spe new) (informed_by spes (Some d))
inform-there processors spes d x new two h does =
    let at = two_at ShowsSpe processors spes d.spe x two h in
    rw at.1 (two_set ShowsSpe processors spes d.spe new (informed at.0 d.register d.value) two (does at.0 at.2))

-- ---- reservations that are lost, one processor after the other

-- those below the number i
abbrev pub lost_below : ℕ → ℕ → ℕ × Spe → Spe
lost_below losers i x = if nat_lt x.0 i && has_bit losers x.0 then with_raised x.1 0x400 else x.1

abbrev pub lost_so_far : ℕ → ℕ → List Spe → List Spe
lost_so_far losers i spes = map (lost_below losers i) (enumerate_from 0 spes)

pub lost-length : (losers i : ℕ) (spes : List Spe) → length (lost_so_far losers i spes) ≡ length spes
lost-length losers i spes = on 0 spes
  where
    on : (n : ℕ) (xs : List Spe) → length (map (lost_below losers i) (enumerate_from n xs)) ≡ length xs
    on n [] = refl
    on n (x ∷ xs) = ap suc (on (n + 1) xs)

pub lost-none : (losers : ℕ) (spes : List Spe) → lost_so_far losers 0 spes ≡ spes
lost-none losers spes = on 0 spes
  where
    off : (n : ℕ) → nat_lt n 0 ≡ false
    off n = grind (arith, nat_tests)

    on : (n : ℕ) (xs : List Spe) → map (lost_below losers 0) (enumerate_from n xs) ≡ xs
    on n [] = refl
    on n (x ∷ xs) = rw (off n) (ap (λ ys. x ∷ ys) (on (n + 1) xs))

-- and all of them, where none is as high
pub lost-all : (losers i : ℕ) (spes : List Spe) → length spes ≤ i → lost_so_far losers i spes ≡ map (lost_by losers) (enumerate_from 0 spes)
lost-all losers i spes h = on 0 spes (omega arith)
  where
    below : (n : ℕ) → n < i → nat_lt n i ≡ true
    below n l = grind (arith, nat_tests)

    on : (n : ℕ) (xs : List Spe) → n + length xs ≤ i → map (lost_below losers i) (enumerate_from n xs) ≡ map (lost_by losers) (enumerate_from n xs)
    on n [] l = refl
    on n (x ∷ xs) l = rw (below n (omega arith)) (ap (λ ys. lost_by losers (n, x) ∷ ys) (on (n + 1) xs (omega arith)))

-- no bit is 1 in 0
pub lost-zero : (n : ℕ) (xs : List Spe) → map (lost_by 0) (enumerate_from n xs) ≡ xs
lost-zero n [] = refl
lost-zero n (P ∷ xs) = rw (bit-none n) (ap (λ ys. P ∷ ys) (lost-zero (n + 1) xs))

-- the next one doesn't lose it
pub lost-off : (losers i : ℕ) (spes : List Spe) → has_bit losers i ≡ false → lost_so_far losers i spes ≡ lost_so_far losers (i + 1) spes
lost-off losers i spes off =
    list-same (lost_so_far losers i spes) (lost_so_far losers (i + 1) spes) (λ k.
    numbered-at (lost_below losers i) spes k ∙ ap (λ b. option_map (λ P. if b then with_raised P 0x400 else P) (slice_get spes k)) (same k) ∙ sym (numbered-at (lost_below losers (i + 1)) spes k))
  where
    same : (k : ℕ) → (nat_lt k i && has_bit losers k) ≡ (nat_lt k (i + 1) && has_bit losers k)
    same k = on (i == k) refl
      where
        on : (b : Bool) → (i == k) ≡ b → (nat_lt k i && has_bit losers k) ≡ (nat_lt k (i + 1) && has_bit losers k)
        on true e =
            let is : i ≡ k = grind (arith, nat_tests) in
            let none : has_bit losers k ≡ false = ap (has_bit losers) (sym is) ∙ off in
            rw none (both (nat_lt k i) (nat_lt k (i + 1)))
          where
            both : (a b : Bool) → (a && false) ≡ (b && false)
            both true true = refl
            both true false = refl
            both false true = refl
            both false false = refl
        on false e = ap (λ b. b && has_bit losers k) (let h : nat_lt k i ≡ nat_lt k (i + 1) = grind (arith, nat_tests) in h)

-- or it does
pub lost-on : (losers i : ℕ) (spes : List Spe) (P : Spe) → has_bit losers i ≡ true → slice_get (lost_so_far losers i spes) i ≡ Some P
    → slice_set (lost_so_far losers i spes) i (with_raised P 0x400) ≡ lost_so_far losers (i + 1) spes
lost-on losers i spes P on_bit at = list-same old new (λ k. by k (slice_get spes k) refl)
  where
    old : List Spe
    old = slice_set (lost_so_far losers i spes) i (with_raised P 0x400)

    new : List Spe
    new = lost_so_far losers (i + 1) spes

    by : (k : ℕ) (o : Option Spe) → slice_get spes k ≡ o → slice_get old k ≡ slice_get new k
    by k None e =
        let past = none-past spes k e in
        let one = lost-length losers i spes in
        let two = lost-length losers (i + 1) spes in
        let three = length-set (lost_so_far losers i spes) i (with_raised P 0x400) in
        past-none old k (omega arith) ∙ sym (past-none new k (omega arith))
    by k (Some Q) e =
        let was : slice_get (lost_so_far losers i spes) k ≡ Some (lost_below losers i (k, Q)) = numbered-at (lost_below losers i) spes k ∙ ap (option_map (λ X. lost_below losers i (k, X))) e in
        let is : slice_get new k ≡ Some (lost_below losers (i + 1) (k, Q)) = numbered-at (lost_below losers (i + 1)) spes k ∙ ap (option_map (λ X. lost_below losers (i + 1) (k, X))) e in
        set-at (lost_so_far losers i spes) i k (with_raised P 0x400) (lost_below losers i (k, Q)) was ∙ ap Some (each (i == k) refl was) ∙ sym is
      where
        each : (b : Bool) → (i == k) ≡ b → slice_get (lost_so_far losers i spes) k ≡ Some (lost_below losers i (k, Q)) → cond b (with_raised P 0x400) (lost_below losers i (k, Q)) ≡ lost_below losers (i + 1) (k, Q)
        each true f was =
            let same : i ≡ k = grind (arith, nat_tests) in
            let here : slice_get (lost_so_far losers i spes) k ≡ Some P = ap (slice_get (lost_so_far losers i spes)) (sym same) ∙ at in
            let one : P ≡ lost_below losers i (k, Q) = cc in
            let under : nat_lt k i ≡ false = grind (arith, nat_tests) in
            let over : nat_lt k (i + 1) ≡ true = grind (arith, nat_tests) in
            let bit : has_bit losers k ≡ true = ap (has_bit losers) (sym same) ∙ on_bit in
            let plain_one : P ≡ Q = one ∙ rw under refl in
            ap (λ X. with_raised X 0x400) plain_one ∙ rw (over, bit) refl
        each false f was = ap (λ b. if b && has_bit losers k then with_raised Q 0x400 else Q) (let h : nat_lt k i ≡ nat_lt k (i + 1) = grind (arith, nat_tests) in h)

pub lost-next : (processors : List Processor) (spes : List Spe) (losers i : ℕ) (x new : Processor) → AllTwo ShowsSpe processors (lost_so_far losers i spes) → i < length processors → has_bit losers i ≡ true
    → ((P : Spe) → ShowsSpe (slice_index_or processors i x) P → ShowsSpe new (with_raised P 0x400)) → AllTwo ShowsSpe (slice_set processors i new) (lost_so_far losers (i + 1) spes)
lost-next processors spes losers i x new two h bit does =
    let at = two_at ShowsSpe processors (lost_so_far losers i spes) i x two h in
    subst (AllTwo ShowsSpe (slice_set processors i new)) (lost-on losers i spes at.0 bit at.1)
    (two_set ShowsSpe processors (lost_so_far losers i spes) i new (with_raised at.0 0x400) two (does at.0 at.2))
