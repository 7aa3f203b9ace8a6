-- Values and their bytes, one by one.
use Rattle.std.proofs.Common.{◌≡◌, ℕ, ℤ, pos, ◌+◌, ◌≤◌, ◌<◌, List, [], ◌∷◌, ◌++◌, length, drop, get_or, None, Result, Ok, Err, refl, sym, ap, ◌∙◌, append_assoc}
use Rattle.std.proofs.lemmas.List.{append-nil, drop_all}
use Rattle.spu_asm.specs.declared.error.AsmError.{AsmError}
use Rattle.spu_asm.specs.declared.error.AsmError.TheVariants.{At, Memory}
use Rattle.spu_asm.specs.declared.error.AsmKind.{AsmKind}
use Rattle.spu_asm.specs.declared.syntax.Expression.{Expression}
use Rattle.spu_asm.specs.declared.syntax.Part.TheVariants.{Whole}
use Rattle.spu_asm.specs.declared.syntax.Size.{Size}
use Rattle.spu_asm.specs.Encoding.{values_of, spelled, defined, allowed, range_of_size, number_bytes}
use Rattle.spu_asm.specs.Outcomes.{◌>>=◌, on_line, Shows}
use Rattle.spu_asm.specs.Source.{Labels}
use Rattle.spu_asm.proofs.LayoutLemmas.{drop_here}

abbrev pub before : {X : Type 0} → List X → Result (List X) AsmKind → Result (List X) AsmKind
before front read = read >>= λ xs. Ok (front ++ xs)

same : {X : Type 0} (r : Result (List X) AsmKind) → before [] r ≡ r
same (Ok s) = refl
same (Err e) = refl

regroup : {X : Type 0} (front next : List X) (read : Result (List X) AsmKind) → before front (read >>= λ xs. Ok (next ++ xs)) ≡ before (front ++ next) read
regroup front next (Ok xs) = ap Ok (simp append_assoc)
regroup front next (Err e) = refl

-- what a line's reading was, by its outcome
line_ok : {X : Type 0} (number : ℕ) (r : Result X AsmKind) (x : X) → Ok x ≡ on_line number r → r ≡ Ok x
line_ok number (Ok y) x e = let p : y ≡ x = cc in ap Ok p
line_ok number (Err k) x e = absurd cc

line_err : {X Y : Type 0} (number : ℕ) (r : Result X AsmKind) (e : AsmError) (total : Result Y AsmKind) → Err e ≡ on_line number r → ((k : AsmKind) → r ≡ Err k → total ≡ Err k) → on_line number total ≡ Err e
line_err number (Ok y) e total is go = absurd cc
line_err number (Err k) e total is go = let p : At number k ≡ e = cc in rw (go k refl) (ap Err p)

pub record Values (text : List ℕ) (labels : Labels) (places : List ℕ) (front : List ℤ) (es : List Expression) (total : Result (List ℤ) AsmKind) : Type 0 where
  pub is : before front (values_of text labels places es) ≡ total

pub begin_values : (text : List ℕ) (labels : Labels) (places : List ℕ) (front : List ℤ) (es : List Expression) → front ≡ [] → Values text labels places front es (values_of text labels places es)
begin_values text labels places front es none = record { is = rw none (same (values_of text labels places es)) }

abbrev pub any_expression : Expression
any_expression = record { label = None; offset = pos 0; part = Whole }

module _ (text : List ℕ) (labels : Labels) (places : List ℕ) (number : ℕ) (front : List ℤ) (es : List Expression) (i : ℕ) (total : Result (List ℤ) AsmKind) (lt : i < length es) (so_far : Values text labels places front (drop i es) total) where
  pub next_value : (v : ℤ) → Ok v ≡ on_line number (defined text labels places (get_or es i any_expression)) → Values text labels places (front ++ v ∷ []) (drop (i + 1) es) total
  unfolding values_of
  next_value v is =
      let read = line_ok number _ v is in
      let one : before front (values_of text labels places (drop i es)) ≡ before (front ++ v ∷ []) (values_of text labels places (drop (i + 1) es)) = rw (drop_here es i any_expression lt, read) (regroup front (v ∷ []) (values_of text labels places (drop (i + 1) es))) in
      record { is = sym one ∙ so_far.is }

  pub no_value : (e : AsmError) → Err e ≡ on_line number (defined text labels places (get_or es i any_expression)) → on_line number total ≡ Err e
  unfolding values_of
  no_value e is = line_err number (defined text labels places (get_or es i any_expression)) e total is (λ k read.
      let one : before front (values_of text labels places (drop i es)) ≡ Err k = rw (drop_here es i any_expression lt, read) refl in
      sym so_far.is ∙ one)

pub all_values : (text : List ℕ) (labels : Labels) (places : List ℕ) (number : ℕ) (front : List ℤ) (es : List Expression) (i : ℕ) (total : Result (List ℤ) AsmKind) → length es ≤ i → Values text labels places front (drop i es) total → on_line number total ≡ Ok front
unfolding values_of
all_values text labels places number front es i total le so_far =
    let one : before front (values_of text labels places (drop i es)) ≡ Ok front = rw (drop_all i es le, append-nil) refl in
    ap (on_line number) (sym so_far.is ∙ one)

pub record Spells (size : Size) (front : List ℕ) (vs : List ℤ) (total : Result (List ℕ) AsmKind) : Type 0 where
  pub is : before front (spelled size vs) ≡ total

pub begin_spelling : (size : Size) (front : List ℕ) (vs : List ℤ) → front ≡ [] → Spells size front vs (spelled size vs)
begin_spelling size front vs none = record { is = rw none (same (spelled size vs)) }

module _ (number : ℕ) (size : Size) (front : List ℕ) (vs : List ℤ) (i : ℕ) (total : Result (List ℕ) AsmKind) (lt : i < length vs) (so_far : Spells size front (drop i vs) total) where
  pub next_bytes : (v : ℤ) → Ok v ≡ on_line number (allowed (range_of_size size) (get_or vs i (pos 0))) → Spells size (front ++ number_bytes size v) (drop (i + 1) vs) total
  unfolding spelled
  next_bytes v is =
      let read = line_ok number _ v is in
      let one : before front (spelled size (drop i vs)) ≡ before (front ++ number_bytes size v) (spelled size (drop (i + 1) vs)) = rw (drop_here vs i (pos 0) lt, read) (regroup front (number_bytes size v) (spelled size (drop (i + 1) vs))) in
      record { is = sym one ∙ so_far.is }

  pub no_bytes : (e : AsmError) → Err e ≡ on_line number (allowed (range_of_size size) (get_or vs i (pos 0))) → on_line number total ≡ Err e
  unfolding spelled
  no_bytes e is = line_err number (allowed (range_of_size size) (get_or vs i (pos 0))) e total is (λ k read.
      let one : before front (spelled size (drop i vs)) ≡ Err k = rw (drop_here vs i (pos 0) lt, read) refl in
      sym so_far.is ∙ one)

pub all_bytes : (number : ℕ) (size : Size) (front : List ℕ) (vs : List ℤ) (i : ℕ) (total : Result (List ℕ) AsmKind) → length vs ≤ i → Spells size front (drop i vs) total → on_line number total ≡ Ok front
unfolding spelled
all_bytes number size front vs i total le so_far =
    let one : before front (spelled size (drop i vs)) ≡ Ok front = rw (drop_all i vs le, append-nil) refl in
    ap (on_line number) (sym so_far.is ∙ one)

-- a fault of the values is one of their bytes
bound_err : (number : ℕ) (r : Result (List ℤ) AsmKind) (f : List ℤ → Result (List ℕ) AsmKind) (e : AsmError) → on_line number r ≡ Err e → on_line number (r >>= f) ≡ Err e
bound_err number (Ok v) f e is = absurd cc
bound_err number (Err k) f e is = let p : At number k ≡ e = cc in ap Err p

pub values_err : {A B : Type 0} (values : A → List ℤ) (bytes : B → List ℕ) (number : ℕ) (r : Result (List ℤ) AsmKind) (f : List ℤ → Result (List ℕ) AsmKind) (e : AsmError) → Shows values (Err e) (on_line number r) → Shows bytes (Err e) (on_line number (r >>= f))
values_err values bytes number r f (At line kind) is = bound_err number r f (At line kind) is
values_err values bytes number r f Memory is = tt
