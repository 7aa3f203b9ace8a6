-- What is so of each channel that is read, or written, by its number.
use Rattle.std.proofs.Common.{◌≡◌, ℕ, refl, sym, subst, true≢false}
use Rattle.std.specs.Prelude.{Option, Bool, true, false, cond, ◌==◌}
use Rattle.cell_channels.specs.declared.ways.Way.{Way}
use Rattle.cell_channels.specs.Table.{way_of}
use Rattle.cell_machine.specs.Channels.{is_read, is_write}
use Rattle.cell_machine.proofs.Same.{eq_is}

-- the chain of tests, one after the other
test : (X : ℕ → Type 0) (f : Option Way → Bool) (ch k : ℕ) (w rest : Option Way) → f (cond (ch == k) w rest) ≡ true → (f w ≡ true → X k) → (f rest ≡ true → X ch) → X ch
test X f ch k w rest h here there = on (ch == k) refl h
  where
    on : (b : Bool) → (ch == k) ≡ b → f (cond b w rest) ≡ true → X ch
    on true e h = subst X (sym (eq_is ch k e)) (here h)
    on false e h = there h

no_way : (X : Type 0) → false ≡ true → X
no_way X h = absurd (true≢false (sym h))

pub reads-are : (X : ℕ → Type 0) (ch : ℕ) → is_read (way_of ch) ≡ true → X 0 → X 3 → X 4 → X 11 → X 12 → X 24 → X 25 → X 27 → X 29 → X ch
unfolding way_of
reads-are X ch h x0 x3 x4 x11 x12 x24 x25 x27 x29 =
    test X is_read ch 0 _ _ h (λ t. x0) (λ h.
    test X is_read ch 1 _ _ h (no_way (X 1)) (λ h.
    test X is_read ch 2 _ _ h (no_way (X 2)) (λ h.
    test X is_read ch 3 _ _ h (λ t. x3) (λ h.
    test X is_read ch 4 _ _ h (λ t. x4) (λ h.
    test X is_read ch 11 _ _ h (λ t. x11) (λ h.
    test X is_read ch 12 _ _ h (λ t. x12) (λ h.
    test X is_read ch 16 _ _ h (no_way (X 16)) (λ h.
    test X is_read ch 17 _ _ h (no_way (X 17)) (λ h.
    test X is_read ch 18 _ _ h (no_way (X 18)) (λ h.
    test X is_read ch 19 _ _ h (no_way (X 19)) (λ h.
    test X is_read ch 20 _ _ h (no_way (X 20)) (λ h.
    test X is_read ch 21 _ _ h (no_way (X 21)) (λ h.
    test X is_read ch 22 _ _ h (no_way (X 22)) (λ h.
    test X is_read ch 23 _ _ h (no_way (X 23)) (λ h.
    test X is_read ch 24 _ _ h (λ t. x24) (λ h.
    test X is_read ch 25 _ _ h (λ t. x25) (λ h.
    test X is_read ch 26 _ _ h (no_way (X 26)) (λ h.
    test X is_read ch 27 _ _ h (λ t. x27) (λ h.
    test X is_read ch 28 _ _ h (no_way (X 28)) (λ h.
    test X is_read ch 29 _ _ h (λ t. x29) (λ h.
    test X is_read ch 30 _ _ h (no_way (X 30)) (no_way (X ch)))))))))))))))))))))))

pub writes-are : (X : ℕ → Type 0) (ch : ℕ) → is_write (way_of ch) ≡ true → X 1 → X 2 → X 16 → X 17 → X 18 → X 19 → X 20 → X 21 → X 22 → X 23 → X 26 → X 28 → X 30 → X ch
unfolding way_of
writes-are X ch h x1 x2 x16 x17 x18 x19 x20 x21 x22 x23 x26 x28 x30 =
    test X is_write ch 0 _ _ h (no_way (X 0)) (λ h.
    test X is_write ch 1 _ _ h (λ t. x1) (λ h.
    test X is_write ch 2 _ _ h (λ t. x2) (λ h.
    test X is_write ch 3 _ _ h (no_way (X 3)) (λ h.
    test X is_write ch 4 _ _ h (no_way (X 4)) (λ h.
    test X is_write ch 11 _ _ h (no_way (X 11)) (λ h.
    test X is_write ch 12 _ _ h (no_way (X 12)) (λ h.
    test X is_write ch 16 _ _ h (λ t. x16) (λ h.
    test X is_write ch 17 _ _ h (λ t. x17) (λ h.
    test X is_write ch 18 _ _ h (λ t. x18) (λ h.
    test X is_write ch 19 _ _ h (λ t. x19) (λ h.
    test X is_write ch 20 _ _ h (λ t. x20) (λ h.
    test X is_write ch 21 _ _ h (λ t. x21) (λ h.
    test X is_write ch 22 _ _ h (λ t. x22) (λ h.
    test X is_write ch 23 _ _ h (λ t. x23) (λ h.
    test X is_write ch 24 _ _ h (no_way (X 24)) (λ h.
    test X is_write ch 25 _ _ h (no_way (X 25)) (λ h.
    test X is_write ch 26 _ _ h (λ t. x26) (λ h.
    test X is_write ch 27 _ _ h (no_way (X 27)) (λ h.
    test X is_write ch 28 _ _ h (λ t. x28) (λ h.
    test X is_write ch 29 _ _ h (no_way (X 29)) (λ h.
    test X is_write ch 30 _ _ h (λ t. x30) (no_way (X ch)))))))))))))))))))))))
