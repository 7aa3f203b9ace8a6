-- The next line of a record in either format: what is read is what was written, and what was written is read again.
use Rattle.std.proofs.Common.{◌≡◌, ℕ, ◌^◌, ◌<◌, ◌≤◌, Bool, true, false, ◌&&◌, not, cond, eqb, List, [], ◌∷◌, ◌++◌, Option, Some, None, refl, sym, ap, subst, ◌∙◌, arith, lit<}
use Rattle.std.specs.Prelude.{nat_lt}
use Rattle.std.proofs.lemmas.Bool.{eqb-true, eq-eqb}
use Rattle.std.proofs.lemmas.Bool.Decides.{nat_tests}
use Rattle.std.proofs.lemmas.Option.{same_Some}
use Rattle.cell_base.specs.declared.format.Format.{Format}
use Rattle.cell_base.specs.declared.format.Format.TheVariants.{One, Two}
use Rattle.cell_base.specs.declared.steps.Step.{Step}
use Rattle.cell_base.specs.declared.steps.Step.TheVariants.{Exec, Piece, Elem, Retire, Atomic, Host}
use Rattle.cell_base.specs.Numbers.{◌>>=◌}
use Rattle.cell_base.specs.Records.{Line, field, letter_x, are_of_one, step_line, stretch_line, line_text, count_line, InBounds}
use Rattle.cell_base.proofs.Stretches.{joins_last, Fits}
use Rattle.run_record.specs.Reading.{field_at, end_at, step_at, goes_on, stretch_of, stretch_at, alone, line_at}
use Rattle.run_record.proofs.Lines.{bind_some, field_takes, field_again, end_takes, end_again, step_takes, step_again, regroup2}

-- what is known of a line that was read where there is room for so many steps
pub record Took (format : Format) (room : ℕ) (last : Option Step) (bytes : List ℕ) (x : Line × List ℕ) : Type 0 where
  pub is : bytes ≡ line_text format x.0 ++ x.1
  pub fits : Fits format x.0
  pub apart : joins_last format last x.0.0 ≡ false
  pub small : x.0.1 ≤ room

-- ---- a stretch

goes_on-is : (last : Option Step) (s : Step) → goes_on last s ≡ joins_last Two last s
goes_on-is None s = refl
goes_on-is (Some t) s = refl

of_itself : (p : ℕ) → are_of_one (Exec p) (Exec p) ≡ true
of_itself p = eq-eqb p p refl

fits_stretch : (p n : ℕ) → p ≤ 15 → 0 < n → Fits Two (Exec p, n)
fits_stretch p n low some = (low, some, λ no. absurd (cc (no, of_itself p)))

stretch_of-takes : (last : Option Step) (p n : ℕ) (rest : List ℕ) (x : Line × List ℕ) → stretch_of last p n rest ≡ Some x → (0 < n) × (joins_last Two last (Exec p) ≡ false) × (((Exec p, n), rest) ≡ x)
stretch_of-takes last p n rest x e = on (nat_lt 0 n) refl (goes_on last (Exec p)) refl e
  where
    on : (a : Bool) → nat_lt 0 n ≡ a → (b : Bool) → goes_on last (Exec p) ≡ b → cond (a && not b) (Some ((Exec p, n), rest)) None ≡ Some x → (0 < n) × (joins_last Two last (Exec p) ≡ false) × (((Exec p, n), rest) ≡ x)
    on true some false apart is = (grind (arith, nat_tests, some), sym (goes_on-is last (Exec p)) ∙ apart, same_Some _ _ is)
    on true some true apart is = absurd cc
    on false some b apart is = absurd cc

stretch_of-again : (last : Option Step) (p n : ℕ) (rest : List ℕ) → 0 < n → joins_last Two last (Exec p) ≡ false → stretch_of last p n rest ≡ Some ((Exec p, n), rest)
stretch_of-again last p n rest some apart =
    let positive : nat_lt 0 n ≡ true = grind (arith, nat_tests, some) in
    let other : goes_on last (Exec p) ≡ false = goes_on-is last (Exec p) ∙ apart in
    rw (positive, other) refl

stretch_takes : (room : ℕ) (last : Option Step) (bs : List ℕ) (x : Line × List ℕ) → room < 2 ^ 64 → stretch_at room last bs ≡ Some x → Took Two room last (letter_x ∷ bs) x
unfolding stretch_at
stretch_takes room last bs x small e =
    let p = bind_some (field_at 15 bs) (λ p. field_at room p.1 >>= λ n. end_at n.1 >>= λ rest. stretch_of last p.0 n.0 rest) x e in
    let n = bind_some (field_at room p.0.1) (λ n. end_at n.1 >>= λ rest. stretch_of last p.0.0 n.0 rest) x p.2 in
    let r = bind_some (end_at n.0.1) (λ rest. stretch_of last p.0.0 n.0.0 rest) x n.2 in
    let made = stretch_of-takes last p.0.0 n.0.0 r.0 x r.2 in
    let first = field_takes 15 bs p.0 (lit< tt) p.1 in
    let second = field_takes room p.0.1 n.0 small n.1 in
    let text : bs ≡ ((field p.0.0 ++ field n.0.0) ++ 10 ∷ []) ++ r.0 =
    first.0 ∙ ap (λ (t : List ℕ). field p.0.0 ++ t) (second.0 ∙ ap (λ (t : List ℕ). field n.0.0 ++ t) (end_takes n.0.1 r.0 r.1)) ∙ sym (regroup2 (field p.0.0) (field n.0.0) r.0) in
    subst (Took Two room last (letter_x ∷ bs)) made.2
    (record { is = ap (λ (t : List ℕ). letter_x ∷ t) text; fits = fits_stretch p.0.0 n.0.0 first.1 made.0; apart = made.1; small = second.1 })

stretch_again : (room : ℕ) (last : Option Step) (p n : ℕ) (rest : List ℕ) → room < 2 ^ 64 → p ≤ 15 → 0 < n → n ≤ room → joins_last Two last (Exec p) ≡ false
    → stretch_at room last (((field p ++ field n) ++ 10 ∷ []) ++ rest) ≡ Some ((Exec p, n), rest)
unfolding stretch_at
stretch_again room last p n rest small low some le apart =
    ap (stretch_at room last) (regroup2 (field p) (field n) rest)
    ∙ rw (field_again 15 p (field n ++ 10 ∷ rest) (lit< tt) low refl, field_again room n (10 ∷ rest) small le refl, end_again rest) (stretch_of-again last p n rest some apart)

-- ---- a line that stands for one step

alone_takes : (room : ℕ) (read : Option (Step × List ℕ)) (x : Line × List ℕ) → alone room read ≡ Some x → (1 ≤ room) × (x.0.1 ≡ 1) × (read ≡ Some (x.0.0, x.1))
alone_takes room None x e = absurd cc
alone_takes room (Some y) x e = on (nat_lt 0 room) refl e
  where
    on : (b : Bool) → nat_lt 0 room ≡ b → cond b (Some ((y.0, 1), y.1)) None ≡ Some x → (1 ≤ room) × (x.0.1 ≡ 1) × (Some y ≡ Some (x.0.0, x.1))
    on true some is = subst (λ (z : Line × List ℕ). (1 ≤ room) × (z.0.1 ≡ 1) × (Some y ≡ Some (z.0.0, z.1))) (same_Some _ _ is) (grind (arith, nat_tests, some), refl, refl)
    on false some is = absurd cc

alone_again : (room : ℕ) (s : Step) (rest : List ℕ) → 1 ≤ room → alone room (Some (s, rest)) ≡ Some ((s, 1), rest)
alone_again room s rest le =
    let some : nat_lt 0 room ≡ true = grind (arith, nat_tests, le) in
    rw some refl

-- a step whose line begins with another letter is no instruction
abbrev IsOther : Step → Type 0
IsOther (Exec p) = ⊥
IsOther s = Unit {0}

is_other : (s : Step) (b : ℕ) (bs rest : List ℕ) → eqb b letter_x ≡ false → (b ∷ bs) ≡ step_line s ++ rest → IsOther s
is_other (Exec p) b bs rest other is =
    let same : b ≡ letter_x = cc in
    absurd (cc (other, eq-eqb b letter_x same))
is_other (Piece p c e k) b bs rest other is = tt
is_other (Elem p c) b bs rest other is = tt
is_other (Retire p c) b bs rest other is = tt
is_other (Atomic p) b bs rest other is = tt
is_other Host b bs rest other is = tt

other_line : (s : Step) → IsOther s → stretch_line s 1 ≡ step_line s
other_line (Exec p) other = absurd other
other_line (Piece p c e k) other = refl
other_line (Elem p c) other = refl
other_line (Retire p c) other = refl
other_line (Atomic p) other = refl
other_line Host other = refl

other_of_one : (t s : Step) → IsOther s → are_of_one t s ≡ false
other_of_one (Exec p) (Exec q) other = absurd other
other_of_one (Exec p) (Piece q c e k) other = refl
other_of_one (Exec p) (Elem q c) other = refl
other_of_one (Exec p) (Retire q c) other = refl
other_of_one (Exec p) (Atomic q) other = refl
other_of_one (Exec p) Host other = refl
other_of_one (Piece p c e k) s other = refl
other_of_one (Elem p c) s other = refl
other_of_one (Retire p c) s other = refl
other_of_one (Atomic p) s other = refl
other_of_one Host s other = refl

other_apart : (last : Option Step) (s : Step) → IsOther s → joins_last Two last s ≡ false
other_apart None s other = refl
other_apart (Some t) s other = other_of_one t s other

one_apart : (last : Option Step) (s : Step) → joins_last One last s ≡ false
one_apart None s = refl
one_apart (Some t) s = refl

-- ---- a line

one_takes : (room : ℕ) (last : Option Step) (bytes : List ℕ) (x : Line × List ℕ) → alone room (step_at bytes) ≡ Some x → Took One room last bytes x
one_takes room last bytes x e =
    let a = alone_takes room (step_at bytes) x e in
    let took = step_takes bytes (x.0.0, x.1) a.2 in
    record { is = took.0; fits = (took.1, omega (arith, a.1), λ no. a.1); apart = one_apart last x.0.0; small = omega (arith, a.0, a.1) }

two_takes : (room : ℕ) (last : Option Step) (b : ℕ) (bs : List ℕ) (x : Line × List ℕ) → eqb b letter_x ≡ false → alone room (step_at (b ∷ bs)) ≡ Some x → Took Two room last (b ∷ bs) x
two_takes room last b bs x differs e =
    let a = alone_takes room (step_at (b ∷ bs)) x e in
    let took = step_takes (b ∷ bs) (x.0.0, x.1) a.2 in
    let other = is_other x.0.0 b bs x.1 differs took.0 in
    record {
      is = took.0 ∙ ap (λ (t : List ℕ). t ++ x.1) (sym (other_line x.0.0 other) ∙ ap (stretch_line x.0.0) (sym a.1));
      fits = (took.1, omega (arith, a.1), λ same. a.1);
      apart = other_apart last x.0.0 other;
      small = omega (arith, a.0, a.1);
    }

pub line_takes : (format : Format) (room : ℕ) (last : Option Step) (bytes : List ℕ) (x : Line × List ℕ) → room < 2 ^ 64 → line_at format room last bytes ≡ Some x → Took format room last bytes x
unfolding line_at
line_takes One room last bytes x small e = one_takes room last bytes x e
line_takes Two room last [] x small e = absurd cc
line_takes Two room last (b ∷ bs) x small e = on (eqb b letter_x) refl e
  where
    on : (t : Bool) → eqb b letter_x ≡ t → cond t (stretch_at room last bs) (alone room (step_at (b ∷ bs))) ≡ Some x → Took Two room last (b ∷ bs) x
    on true is e = subst (λ (l : ℕ). Took Two room last (l ∷ bs) x) (sym (eqb-true b letter_x is)) (stretch_takes room last bs x small e)
    on false is e = two_takes room last b bs x is e

-- a step's line that isn't a stretch, behind any line
other_again : (room : ℕ) (last : Option Step) (s : Step) (rest : List ℕ) → IsOther s → InBounds s → 1 ≤ room → line_at Two room last (step_line s ++ rest) ≡ Some ((s, 1), rest)
unfolding line_at
other_again room last (Exec p) rest other fits le = absurd other
other_again room last (Piece p c e k) rest other fits le = ap (alone room) (step_again (Piece p c e k) rest fits) ∙ alone_again room (Piece p c e k) rest le
other_again room last (Elem p c) rest other fits le = ap (alone room) (step_again (Elem p c) rest fits) ∙ alone_again room (Elem p c) rest le
other_again room last (Retire p c) rest other fits le = ap (alone room) (step_again (Retire p c) rest fits) ∙ alone_again room (Retire p c) rest le
other_again room last (Atomic p) rest other fits le = ap (alone room) (step_again (Atomic p) rest fits) ∙ alone_again room (Atomic p) rest le
other_again room last Host rest other fits le = ap (alone room) (step_again Host rest fits) ∙ alone_again room Host rest le

-- a line of format 2 that stands for a step which is no instruction stands for it once
other_once : (room : ℕ) (last : Option Step) (s : Step) (n : ℕ) (rest : List ℕ) → IsOther s → Fits Two (s, n) → n ≤ room → line_at Two room last (stretch_line s n ++ rest) ≡ Some ((s, n), rest)
other_once room last s n rest other fits le =
    let one : n ≡ 1 = fits.2 (other_of_one s s other) in
    let room_is : 1 ≤ room = omega (arith, le, one) in
    rw one (ap (λ (t : List ℕ). line_at Two room last (t ++ rest)) (other_line s other) ∙ other_again room last s rest other fits.0 room_is)

pub line_again : (format : Format) (room : ℕ) (last : Option Step) (l : Line) (rest : List ℕ) → room < 2 ^ 64 → Fits format l → joins_last format last l.0 ≡ false → l.1 ≤ room
    → line_at format room last (line_text format l ++ rest) ≡ Some (l, rest)
unfolding line_at
line_again One room last (s, n) rest small fits apart le =
    let one : n ≡ 1 = fits.2 refl in
    let room_is : 1 ≤ room = omega (arith, le, one) in
    rw one (ap (alone room) (step_again s rest fits.0) ∙ alone_again room s rest room_is)
line_again Two room last (Exec p, n) rest small fits apart le = stretch_again room last p n rest small fits.0 fits.1 le apart
line_again Two room last (Piece p c e k, n) rest small fits apart le = other_once room last (Piece p c e k) n rest tt fits le
line_again Two room last (Elem p c, n) rest small fits apart le = other_once room last (Elem p c) n rest tt fits le
line_again Two room last (Retire p c, n) rest small fits apart le = other_once room last (Retire p c) n rest tt fits le
line_again Two room last (Atomic p, n) rest small fits apart le = other_once room last (Atomic p) n rest tt fits le
line_again Two room last (Host, n) rest small fits apart le = other_once room last Host n rest tt fits le

-- a line stands for one step at least, and there is room for all
pub within_room : (format : Format) (room : ℕ) (last : Option Step) (bytes : List ℕ) (x : Line × List ℕ) → room ≤ 1000000 → line_at format room last bytes ≡ Some x → (0 < x.0.1) × (x.0.1 ≤ room)
within_room format room last bytes x le e =
    let wide : 1000001 ≤ 2 ^ 64 = lit< tt in
    let t = line_takes format room last bytes x (omega (arith, le, wide)) e in
    (t.fits.1, t.small)

-- the line with the number of steps is no other
pub no_line : (format : Format) (room : ℕ) (last : Option Step) (n : ℕ) (rest : List ℕ) → line_at format room last (count_line n ++ rest) ≡ None
unfolding line_at step_at
no_line One room last n rest = refl
no_line Two room last n rest = refl

-- no line comes where there is no room
pub no_room : (format : Format) (last : Option Step) (bytes : List ℕ) → line_at format 0 last bytes ≡ None
no_room format last bytes = on (line_at format 0 last bytes) refl
  where
    on : (o : Option (Line × List ℕ)) → line_at format 0 last bytes ≡ o → o ≡ None
    on None is = refl
    on (Some x) is =
        let t = line_takes format 0 last bytes x (lit< tt) is in
        let small = t.small in
        let some = t.fits.1 in
        absurd (omega (arith, small, some))
