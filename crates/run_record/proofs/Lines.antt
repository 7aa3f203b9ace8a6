-- A line that is read is the line that was written, and what was written is read again.
use Rattle.std.proofs.Common.{◌≡◌, ℕ, ◌+◌, ◌^◌, ◌<◌, ◌≤◌, Bool, true, false, ◌&&◌, cond, eqb, List, [], ◌∷◌, ◌++◌, length, take, drop, Option, Some, None, refl, sym, ap, subst, ◌∙◌, append_assoc, codes, lit<, Bor}
use Rattle.std.specs.Cmp.Lexicographic.{pointwise}
use Rattle.std.specs.Option.{MatchOption}
use Rattle.std.proofs.lemmas.Bool.{eqb-true, eq-eqb}
use Rattle.std.proofs.lemmas.Option.{same_Some}
use Rattle.cell_base.specs.Numbers.{◌>>=◌, number_at, Reads}
use Rattle.cell_base.proofs.Digits.{IsEnded, number_takes, number_again}
use Rattle.cell_base.specs.declared.steps.Step.{Step}
use Rattle.cell_base.specs.declared.steps.Step.TheVariants.{Exec, Piece, Elem, Retire, Atomic, Host}
use Rattle.cell_base.specs.Records.{field, letter_x, letter_p, letter_e, letter_r, letter_a, letter_h, step_line, count_line, InBounds}
use Rattle.run_record.specs.Reading.{after, field_at, end_at, exec_at, atomic_at, elem_at, retire_at, piece_at, host_at, step_at, count_at}

pub bind_some : {A B : Type 0} (o : Option A) (f : A → Option B) (y : B) → (o >>= f) ≡ Some y → (x : A) × (o ≡ Some x) × (f x ≡ Some y)
bind_some (Some x) f y e = (x, refl, e)
bind_some None f y e = absurd cc

-- ---- a text at the front

pub after_tested : (p bytes : List ℕ) → after p bytes ≡ cond (pointwise eqb (take (length p) bytes) p) (Some (drop (length p) bytes)) None
unfolding after
after_tested [] bytes = refl
after_tested (p ∷ ps) [] = refl
after_tested (p ∷ ps) (b ∷ bs) =
    elim (eqb b p) as (λ t. cond t (after ps bs) None ≡ cond (t && pointwise eqb (take (length ps) bs) ps) (Some (drop (length ps) bs)) None) [ true ↦ after_tested ps bs | false ↦ refl ]

-- what std's strip_prefix says is what after gives
pub after_stripped : (p bytes : List ℕ) (r : Option (Bor (List ℕ))) → MatchOption r (pointwise eqb (take (length p) bytes) p ≡ false) (λ x. (pointwise eqb (take (length p) bytes) p ≡ true) × (x.now ≡ drop (length p) bytes) × (length x.now + length p ≡ length bytes)) → Reads (λ x. x.now) r (after p bytes)
after_stripped p bytes None h = after_tested p bytes ∙ rw h refl
after_stripped p bytes (Some x) h = after_tested p bytes ∙ rw (h.0, ← h.1) refl

pub after_takes : (p bytes rest : List ℕ) → after p bytes ≡ Some rest → bytes ≡ p ++ rest
unfolding after
after_takes [] bytes rest e = same_Some _ _ e
after_takes (p ∷ ps) [] rest e = absurd cc
after_takes (p ∷ ps) (b ∷ bs) rest e =
    let t = cond_some_of (eqb b p) (after ps bs) rest e in
    ap (λ (x : ℕ). x ∷ bs) (eqb-true _ _ t.0) ∙ ap (λ (x : List ℕ). p ∷ x) (after_takes ps bs rest t.1)
  where
    cond_some_of : {A : Type 0} (b : Bool) (o : Option A) (y : A) → cond b o None ≡ Some y → (b ≡ true) × (o ≡ Some y)
    cond_some_of true o y e = (refl, e)
    cond_some_of false o y e = absurd cc

pub after_again : (p rest : List ℕ) → after p (p ++ rest) ≡ Some rest
unfolding after
after_again [] rest = refl
after_again (p ∷ ps) rest = rw (eq-eqb p p refl) (after_again ps rest)

pub chosen : {A : Type 0} (b : Bool) (o : Option A) (y : A) → cond b o None ≡ Some y → (b ≡ true) × (o ≡ Some y)
chosen true o y e = (refl, e)
chosen false o y e = absurd cc

-- ---- fields and line ends

pub field_takes : (limit : ℕ) (bytes : List ℕ) (x : ℕ × List ℕ) → limit < 2 ^ 64 → field_at limit bytes ≡ Some x → (bytes ≡ field x.0 ++ x.1) × (x.0 ≤ limit)
unfolding field_at
field_takes limit [] x small e = absurd cc
field_takes limit (b ∷ bs) x small e =
    let t = chosen (eqb b 32) (number_at limit bs) x e in
    let n = number_takes limit bs x.0 x.1 small t.1 in
    (ap (λ (c : ℕ). c ∷ bs) (eqb-true _ _ t.0) ∙ ap (λ (c : List ℕ). 32 ∷ c) n.0, n.1)

pub field_again : (limit n : ℕ) (rest : List ℕ) → limit < 2 ^ 64 → n ≤ limit → IsEnded rest → field_at limit (field n ++ rest) ≡ Some (n, rest)
unfolding field_at
field_again limit n rest small le ended = number_again limit n rest small le ended

pub end_takes : (bytes rest : List ℕ) → end_at bytes ≡ Some rest → bytes ≡ 10 ∷ rest
unfolding end_at
end_takes [] rest e = absurd cc
end_takes (b ∷ bs) rest e =
    let t = chosen (eqb b 10) (Some bs) rest e in
    ap (λ (c : ℕ). c ∷ bs) (eqb-true _ _ t.0) ∙ ap (λ (c : List ℕ). 10 ∷ c) (same_Some _ _ t.1)

pub end_again : (rest : List ℕ) → end_at (10 ∷ rest) ≡ Some rest
unfolding end_at
end_again rest = refl

-- ---- a step

-- what a step's reader took behind the word
abbrev Took : ℕ → List ℕ → Step × List ℕ → Type 0
Took letter bs x = ((letter ∷ bs) ≡ step_line x.0 ++ x.1) × InBounds x.0

regroup1 : (a rest : List ℕ) → (a ++ 10 ∷ []) ++ rest ≡ a ++ 10 ∷ rest
regroup1 a rest = append_assoc a (10 ∷ []) rest

pub regroup2 : (a b rest : List ℕ) → ((a ++ b) ++ 10 ∷ []) ++ rest ≡ a ++ (b ++ 10 ∷ rest)
regroup2 a b rest = regroup1 (a ++ b) rest ∙ append_assoc a b (10 ∷ rest)

regroup4 : (a b c d rest : List ℕ) → ((((a ++ b) ++ c) ++ d) ++ 10 ∷ []) ++ rest ≡ a ++ (b ++ (c ++ (d ++ 10 ∷ rest)))
regroup4 a b c d rest = regroup1 (((a ++ b) ++ c) ++ d) rest ∙ append_assoc ((a ++ b) ++ c) d (10 ∷ rest) ∙ append_assoc (a ++ b) c (d ++ 10 ∷ rest) ∙ append_assoc a b (c ++ (d ++ 10 ∷ rest))

one_field : (bs : List ℕ) (p : ℕ × List ℕ) (rest : List ℕ) → field_at 15 bs ≡ Some p → end_at p.1 ≡ Some rest → (bs ≡ (field p.0 ++ 10 ∷ []) ++ rest) × (p.0 ≤ 15)
one_field bs p rest f e =
    let first = field_takes 15 bs p (lit< tt) f in
    (first.0 ∙ ap (λ (x : List ℕ). field p.0 ++ x) (end_takes p.1 rest e) ∙ sym (regroup1 (field p.0) rest), first.1)

two_fields : (bs : List ℕ) (p c : ℕ × List ℕ) (rest : List ℕ) → field_at 15 bs ≡ Some p → field_at 999999 p.1 ≡ Some c → end_at c.1 ≡ Some rest → (bs ≡ ((field p.0 ++ field c.0) ++ 10 ∷ []) ++ rest) × (p.0 ≤ 15) × (c.0 ≤ 999999)
two_fields bs p c rest f g e =
    let first = field_takes 15 bs p (lit< tt) f in
    let second = field_takes 999999 p.1 c (lit< tt) g in
    (first.0 ∙ ap (λ (x : List ℕ). field p.0 ++ x) (second.0 ∙ ap (λ (x : List ℕ). field c.0 ++ x) (end_takes c.1 rest e)) ∙ sym (regroup2 (field p.0) (field c.0) rest), first.1, second.1)

exec_takes : (bs : List ℕ) (x : Step × List ℕ) → exec_at bs ≡ Some x → Took letter_x bs x
unfolding exec_at
exec_takes bs x e =
    let p = bind_some (field_at 15 bs) (λ p. end_at p.1 >>= λ rest. Some (Exec p.0, rest)) x e in
    let r = bind_some (end_at p.0.1) (λ rest. Some (Exec p.0.0, rest)) x p.2 in
    let took = one_field bs p.0 r.0 p.1 r.1 in
    subst (Took letter_x bs) (same_Some _ _ r.2) (ap (λ (t : List ℕ). letter_x ∷ t) took.0, took.1)

atomic_takes : (bs : List ℕ) (x : Step × List ℕ) → atomic_at bs ≡ Some x → Took letter_a bs x
unfolding atomic_at
atomic_takes bs x e =
    let p = bind_some (field_at 15 bs) (λ p. end_at p.1 >>= λ rest. Some (Atomic p.0, rest)) x e in
    let r = bind_some (end_at p.0.1) (λ rest. Some (Atomic p.0.0, rest)) x p.2 in
    let took = one_field bs p.0 r.0 p.1 r.1 in
    subst (Took letter_a bs) (same_Some _ _ r.2) (ap (λ (t : List ℕ). letter_a ∷ t) took.0, took.1)

elem_takes : (bs : List ℕ) (x : Step × List ℕ) → elem_at bs ≡ Some x → Took letter_e bs x
unfolding elem_at
elem_takes bs x e =
    let p = bind_some (field_at 15 bs) (λ p. field_at 999999 p.1 >>= λ c. end_at c.1 >>= λ rest. Some (Elem p.0 c.0, rest)) x e in
    let c = bind_some (field_at 999999 p.0.1) (λ c. end_at c.1 >>= λ rest. Some (Elem p.0.0 c.0, rest)) x p.2 in
    let r = bind_some (end_at c.0.1) (λ rest. Some (Elem p.0.0 c.0.0, rest)) x c.2 in
    let took = two_fields bs p.0 c.0 r.0 p.1 c.1 r.1 in
    subst (Took letter_e bs) (same_Some _ _ r.2) (ap (λ (t : List ℕ). letter_e ∷ t) took.0, (took.1, took.2))

retire_takes : (bs : List ℕ) (x : Step × List ℕ) → retire_at bs ≡ Some x → Took letter_r bs x
unfolding retire_at
retire_takes bs x e =
    let p = bind_some (field_at 15 bs) (λ p. field_at 999999 p.1 >>= λ c. end_at c.1 >>= λ rest. Some (Retire p.0 c.0, rest)) x e in
    let c = bind_some (field_at 999999 p.0.1) (λ c. end_at c.1 >>= λ rest. Some (Retire p.0.0 c.0, rest)) x p.2 in
    let r = bind_some (end_at c.0.1) (λ rest. Some (Retire p.0.0 c.0.0, rest)) x c.2 in
    let took = two_fields bs p.0 c.0 r.0 p.1 c.1 r.1 in
    subst (Took letter_r bs) (same_Some _ _ r.2) (ap (λ (t : List ℕ). letter_r ∷ t) took.0, (took.1, took.2))

piece_takes : (bs : List ℕ) (x : Step × List ℕ) → piece_at bs ≡ Some x → Took letter_p bs x
unfolding piece_at
piece_takes bs x e =
    let p = bind_some (field_at 15 bs) (λ p. field_at 999999 p.1 >>= λ c. field_at 2047 c.1 >>= λ e. field_at 128 e.1 >>= λ k. end_at k.1 >>= λ rest. Some (Piece p.0 c.0 e.0 k.0, rest)) x e in
    let c = bind_some (field_at 999999 p.0.1) (λ c. field_at 2047 c.1 >>= λ e. field_at 128 e.1 >>= λ k. end_at k.1 >>= λ rest. Some (Piece p.0.0 c.0 e.0 k.0, rest)) x p.2 in
    let n = bind_some (field_at 2047 c.0.1) (λ e. field_at 128 e.1 >>= λ k. end_at k.1 >>= λ rest. Some (Piece p.0.0 c.0.0 e.0 k.0, rest)) x c.2 in
    let k = bind_some (field_at 128 n.0.1) (λ k. end_at k.1 >>= λ rest. Some (Piece p.0.0 c.0.0 n.0.0 k.0, rest)) x n.2 in
    let r = bind_some (end_at k.0.1) (λ rest. Some (Piece p.0.0 c.0.0 n.0.0 k.0.0, rest)) x k.2 in
    let t0 = field_takes 15 bs p.0 (lit< tt) p.1 in
    let t1 = field_takes 999999 p.0.1 c.0 (lit< tt) c.1 in
    let t2 = field_takes 2047 c.0.1 n.0 (lit< tt) n.1 in
    let t3 = field_takes 128 n.0.1 k.0 (lit< tt) k.1 in
    let last : k.0.1 ≡ 10 ∷ r.0 = end_takes k.0.1 r.0 r.1 in
    let third = t3.0 ∙ ap (λ (t : List ℕ). field k.0.0 ++ t) last in
    let second = t2.0 ∙ ap (λ (t : List ℕ). field n.0.0 ++ t) third in
    let first = t1.0 ∙ ap (λ (t : List ℕ). field c.0.0 ++ t) second in
    let whole = t0.0 ∙ ap (λ (t : List ℕ). field p.0.0 ++ t) first ∙ sym (regroup4 (field p.0.0) (field c.0.0) (field n.0.0) (field k.0.0) r.0) in
    subst (Took letter_p bs) (same_Some _ _ r.2) (ap (λ (t : List ℕ). letter_p ∷ t) whole, (t0.1, t1.1, t2.1, t3.1))

host_takes : (bs : List ℕ) (x : Step × List ℕ) → host_at bs ≡ Some x → Took letter_h bs x
unfolding host_at
host_takes bs x e =
    let r = bind_some (end_at bs) (λ rest. Some (Host, rest)) x e in
    subst (Took letter_h bs) (same_Some _ _ r.2) (ap (λ (t : List ℕ). letter_h ∷ t) (end_takes bs r.0 r.1), tt)

-- a letter's reader, or the readers of the letters after it
by_letter : (b letter : ℕ) (bs : List ℕ) (o rest : Option (Step × List ℕ)) (x : Step × List ℕ) → (o ≡ Some x → Took letter bs x) → (rest ≡ Some x → Took b bs x) → cond (eqb b letter) o rest ≡ Some x → Took b bs x
by_letter b letter bs o rest x here others e = by_letter_of (eqb b letter) refl e
  where
    by_letter_of : (t : Bool) → eqb b letter ≡ t → cond t o rest ≡ Some x → Took b bs x
    by_letter_of true is e = subst (λ (l : ℕ). Took l bs x) (sym (eqb-true _ _ is)) (here e)
    by_letter_of false is e = others e

pub step_takes : (bytes : List ℕ) (x : Step × List ℕ) → step_at bytes ≡ Some x → (bytes ≡ step_line x.0 ++ x.1) × InBounds x.0
unfolding step_at
step_takes [] x e = absurd cc
step_takes (b ∷ bs) x e =
    let none : None ≡ Some x → Took b bs x = λ no_step. absurd (cc no_step) in
    let h = by_letter b letter_h bs (host_at bs) None x (host_takes bs x) none in
    let a = by_letter b letter_a bs (atomic_at bs) _ x (atomic_takes bs x) h in
    let r = by_letter b letter_r bs (retire_at bs) _ x (retire_takes bs x) a in
    let l = by_letter b letter_e bs (elem_at bs) _ x (elem_takes bs x) r in
    let p = by_letter b letter_p bs (piece_at bs) _ x (piece_takes bs x) l in
    by_letter b letter_x bs (exec_at bs) _ x (exec_takes bs x) p e

pub step_again : (s : Step) (rest : List ℕ) → InBounds s → step_at (step_line s ++ rest) ≡ Some (s, rest)
unfolding step_at exec_at piece_at elem_at retire_at atomic_at host_at
step_again (Exec p) rest le = ap exec_at (regroup1 (field p) rest) ∙ rw (field_again 15 p (10 ∷ rest) (lit< tt) le refl, end_again rest) refl
step_again (Piece p c e k) rest le = ap piece_at (regroup4 (field p) (field c) (field e) (field k) rest) ∙ rw (field_again 15 p (field c ++ (field e ++ (field k ++ 10 ∷ rest))) (lit< tt) le.0 refl, field_again 999999 c (field e ++ (field k ++ 10 ∷ rest)) (lit< tt) le.1 refl, field_again 2047 e (field k ++ 10 ∷ rest) (lit< tt) le.2 refl, field_again 128 k (10 ∷ rest) (lit< tt) le.3 refl, end_again rest) refl
step_again (Elem p c) rest le = ap elem_at (regroup2 (field p) (field c) rest) ∙ rw (field_again 15 p (field c ++ 10 ∷ rest) (lit< tt) le.0 refl, field_again 999999 c (10 ∷ rest) (lit< tt) le.1 refl, end_again rest) refl
step_again (Retire p c) rest le = ap retire_at (regroup2 (field p) (field c) rest) ∙ rw (field_again 15 p (field c ++ 10 ∷ rest) (lit< tt) le.0 refl, field_again 999999 c (10 ∷ rest) (lit< tt) le.1 refl, end_again rest) refl
step_again (Atomic p) rest le = ap atomic_at (regroup1 (field p) rest) ∙ rw (field_again 15 p (10 ∷ rest) (lit< tt) le refl, end_again rest) refl
step_again Host rest le = rw (end_again rest) refl

-- ---- the line with the number of steps

pub count_takes : (n : ℕ) (bytes rest : List ℕ) → count_at n bytes ≡ Some rest → bytes ≡ count_line n ++ rest
unfolding count_at
count_takes n bytes rest e =
    let a = bind_some (after (codes "steps") bytes) (λ t. field_at 1000000 t >>= λ c. cond (eqb c.0 n) (end_at c.1) None) rest e in
    let c = bind_some (field_at 1000000 a.0) (λ c. cond (eqb c.0 n) (end_at c.1) None) rest a.2 in
    let t = chosen (eqb c.0.0 n) (end_at c.0.1) rest c.2 in
    let field-is = (field_takes 1000000 a.0 c.0 (lit< tt) c.1).0 in
    let number-is : c.0.0 ≡ n = eqb-true _ _ t.0 in
    let tail : a.0 ≡ (field n ++ 10 ∷ []) ++ rest = field-is ∙ ap (λ (k : ℕ). field k ++ c.0.1) number-is ∙ ap (λ (w : List ℕ). field n ++ w) (end_takes c.0.1 rest t.1) ∙ sym (regroup1 (field n) rest) in
    after_takes (codes "steps") bytes a.0 a.1 ∙ ap (λ (w : List ℕ). codes "steps" ++ w) tail

pub count_again : (n : ℕ) (rest : List ℕ) → n ≤ 1000000 → count_at n (count_line n ++ rest) ≡ Some rest
unfolding count_at
count_again n rest le =
    let whole : count_line n ++ rest ≡ codes "steps" ++ (field n ++ 10 ∷ rest) = ap (λ (w : List ℕ). codes "steps" ++ w) (regroup1 (field n) rest) in
    ap (count_at n) whole ∙ rw (after_again (codes "steps") (field n ++ 10 ∷ rest), field_again 1000000 n (10 ∷ rest) (lit< tt) le refl, eq-eqb n n refl, end_again rest) refl
