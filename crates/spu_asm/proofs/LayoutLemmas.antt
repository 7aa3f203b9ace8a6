-- Addresses, found line by line.
use Rattle.std.proofs.Common.{◌≡◌, ℕ, suc, ◌+◌, ◌≤◌, ◌<◌, Bool, true, false, cond, List, [], ◌∷◌, ◌++◌, length, drop, get_or, add-one, Result, Ok, Err, refl, sym, ap, ◌∙◌, append_assoc}
use Rattle.std.specs.Prelude.{nat_lt, slice_index}
use Rattle.std.proofs.lemmas.Bool.{ltb-false}
use Rattle.std.proofs.lemmas.List.{append-nil}
use Rattle.std.proofs.Math.Seq.{drop-cons}
use Rattle.spu_asm.specs.declared.syntax.Section.TheVariants.{Text, Data}
use Rattle.spu_asm.specs.declared.error.AsmError.{AsmError}
use Rattle.spu_asm.specs.declared.error.AsmKind.TheVariants.{NotMultiple, Overlap, OutsideStore}
use Rattle.spu_asm.specs.declared.syntax.Section.{Section}
use Rattle.spu_asm.specs.declared.syntax.Statement.{Statement}
use Rattle.spu_asm.specs.Outcomes.{◌>>=◌, on_line}
use Rattle.spu_asm.specs.Source.{SourceLine}
use Rattle.spu_asm.specs.Layout.{is_not_multiple, overlaps, address_after, placed, same_section, stepped, both_stepped, addresses, present, places, places_from, section_end}
use Rattle.spu_asm.proofs.OutcomeLemmas.{bind_ok, line_ok, ok_is}

pub drop_here : {X : Type 0} (xs : List X) (i : ℕ) (d : X) → i < length xs → drop i xs ≡ get_or xs i d ∷ drop (i + 1) xs
drop_here xs i d lt = drop-cons xs i d lt ∙ ap (λ (k : ℕ). get_or xs i d ∷ drop k xs) (sym (add-one i))

-- where a section ends

module _ (section : Section) (at : ℕ) (line : SourceLine) (lines : List SourceLine) where
  pub end_next : (next : ℕ) → stepped section at line ≡ Ok next → section_end section at (line ∷ lines) ≡ section_end section next lines
  unfolding addresses
  end_next next is = rw is (by (addresses section next lines))
    where
      by : (r : Result (List ℕ) AsmError) → ((r >>= λ rest. Ok (at ∷ rest)) >>= λ found. Ok (slice_index found (length (line ∷ lines)))) ≡ (r >>= λ found. Ok (slice_index found (length lines)))
      by (Ok rest) = refl
      by (Err e) = refl

  pub end_wrong : (e : AsmError) → stepped section at line ≡ Err e → section_end section at (line ∷ lines) ≡ Err e
  unfolding addresses
  end_wrong e is = rw is refl

pub end_here : (section : Section) (at : ℕ) (lines : List SourceLine) → lines ≡ [] → section_end section at lines ≡ Ok at
unfolding addresses
end_here section at lines none = rw none refl

-- no address is behind the store

tests : (a b c : Bool) (n next : ℕ) → cond a (Err NotMultiple) (cond b (Err Overlap) (cond c (Err OutsideStore) (Ok n))) ≡ Ok next → (c ≡ false) × (n ≡ next)
tests true b c n next e = absurd cc
tests false true c n next e = absurd cc
tests false false true n next e = absurd cc
tests false false false n next e = (refl, ok_is n next e)

placed_within : (section : Section) (at : ℕ) (statement : Statement) (next : ℕ) → placed section at statement ≡ Ok next → next ≤ 262144
unfolding placed
placed_within section at statement next is =
    let t = tests (is_not_multiple section at statement) (overlaps at statement) (nat_lt 262144 (address_after section at statement)) (address_after section at statement) next is in
    let within : address_after section at statement ≤ 262144 = ltb-false 262144 (address_after section at statement) t.0 in
    rw t.1 at within

stepped_within : (section : Section) (at : ℕ) (line : SourceLine) (next : ℕ) → at ≤ 262144 → stepped section at line ≡ Ok next → next ≤ 262144
stepped_within section at line next within is = by (same_section section line.section) is
  where
    by : (b : Bool) → cond b (on_line line.number (placed section at line.statement)) (Ok at) ≡ Ok next → next ≤ 262144
    by true e = placed_within section at line.statement next (line_ok line.number (placed section at line.statement) next e)
    by false e = rw (ok_is at next e) at within

pub end_within : (section : Section) (lines : List SourceLine) (at last : ℕ) → at ≤ 262144 → section_end section at lines ≡ Ok last → last ≤ 262144
unfolding addresses
end_within section [] at last within is = rw (ok_is at last is) at within
end_within section (line ∷ lines) at last within is =
    let found = bind_ok (addresses section at (line ∷ lines)) _ last is in
    let next = bind_ok (stepped section at line) _ found.0 found.1 in
    end_within section lines next.0 last (stepped_within section at line next.0 within next.1) (sym (end_next section at line lines next.0 next.1) ∙ is)

-- the places of lines

-- places before those that are still found
abbrev pub behind : List ℕ → Result (List ℕ) AsmError → Result (List ℕ) AsmError
behind front read = read >>= λ s. Ok (front ++ s)

pub record Finds (front : List ℕ) (text_at data_at : ℕ) (lines : List SourceLine) (total : Result (List ℕ) AsmError) : Type 0 where
  pub is : behind front (places_from text_at data_at lines) ≡ total

regroup : (front : List ℕ) (at : ℕ) (read : Result (List ℕ) AsmError) → behind front (read >>= λ s. Ok (at ∷ s)) ≡ behind (front ++ at ∷ []) read
regroup front at (Ok s) = ap Ok (simp append_assoc)
regroup front at (Err e) = refl

pub begins : (front : List ℕ) (text_at data_at : ℕ) (lines : List SourceLine) → front ≡ [] → Finds front text_at data_at lines (places_from text_at data_at lines)
begins front text_at data_at lines none = record { is = rw none (same (places_from text_at data_at lines)) }
  where
    same : (r : Result (List ℕ) AsmError) → behind [] r ≡ r
    same (Ok s) = refl
    same (Err e) = refl

module _ (front : List ℕ) (text_at data_at : ℕ) (line : SourceLine) (lines : List SourceLine) (total : Result (List ℕ) AsmError) (so_far : Finds front text_at data_at (line ∷ lines) total) where
  abbrev pub here : ℕ
  here = present line.section text_at data_at

  pub goes_on : (next : ℕ × ℕ) → both_stepped text_at data_at line ≡ Ok next → Finds (front ++ here ∷ []) next.0 next.1 lines total
  unfolding places_from
  goes_on next is =
      let one : behind front (places_from text_at data_at (line ∷ lines)) ≡ behind (front ++ here ∷ []) (places_from next.0 next.1 lines) = rw is (regroup front here (places_from next.0 next.1 lines)) in
      record { is = sym one ∙ so_far.is }

  pub wrong : (e : AsmError) → both_stepped text_at data_at line ≡ Err e → total ≡ Err e
  unfolding places_from
  wrong e is =
      let one : behind front (places_from text_at data_at (line ∷ lines)) ≡ Err e = rw is refl in
      sym so_far.is ∙ one

pub is_done : (front : List ℕ) (text_at data_at : ℕ) (lines : List SourceLine) (total : Result (List ℕ) AsmError) → lines ≡ [] → Finds front text_at data_at lines total → total ≡ Ok front
unfolding places_from
is_done front text_at data_at lines total none so_far =
    let one : behind front (places_from text_at data_at lines) ≡ Ok front = rw (none, append-nil) refl in
    sym so_far.is ∙ one

pub present_bound : (section : Section) (t d most : ℕ) → t ≤ most → d ≤ most → present section t d ≤ most
present_bound Text t d most a b = a
present_bound Data t d most a b = b

pub length_places : (lines : List SourceLine) (text_at data_at : ℕ) (found : List ℕ) → places_from text_at data_at lines ≡ Ok found → length found ≡ length lines
unfolding places_from
length_places [] text_at data_at found is = ap length (sym (ok_is [] found is))
length_places (line ∷ lines) text_at data_at found is =
    let next = bind_ok (both_stepped text_at data_at line) _ found is in
    let rest = bind_ok (places_from next.0.0 next.0.1 lines) _ found next.2 in
    ap length (sym (ok_is (present line.section text_at data_at ∷ rest.0) found rest.2)) ∙ ap suc (length_places lines next.0.0 next.0.1 rest.0 rest.1)

-- where the addresses of text are known, the places are those at the addresses of both
pub places_are : (lines : List SourceLine) (text_at data_at : ℕ) (found : List ℕ) → addresses Text text_at lines ≡ Ok found
    → places_from text_at data_at lines ≡ (addresses Data data_at lines >>= λ others. Ok (places lines found others))
unfolding addresses places places_from
places_are [] text_at data_at found is = refl
places_are (line ∷ lines) text_at data_at found is =
    let step = bind_ok (stepped Text text_at line) _ found is in
    let rest = bind_ok (addresses Text step.0 lines) _ found step.2 in
    let front = ok_is (text_at ∷ rest.0) found rest.2 in
    let one = by step.0 rest.0 (λ d. places_are lines step.0 d rest.0 rest.1) (stepped Data data_at line) in
    let two = ap from step.1 in
    two ∙ one ∙ ap (λ (xs : List ℕ). addresses Data data_at (line ∷ lines) >>= λ others. Ok (places (line ∷ lines) xs others)) front
  where
    from : Result ℕ AsmError → Result (List ℕ) AsmError
    from r = (r >>= λ t. ◌>>=◌ {A = ℕ} {B = ℕ × ℕ} (stepped Data data_at line) (λ d. Ok (t, d))) >>= λ next. places_from next.0 next.1 lines >>= λ rest. Ok (present line.section text_at data_at ∷ rest)

    last : (t_rest : List ℕ) (r : Result (List ℕ) AsmError)
        → ((r >>= λ others. Ok (places lines t_rest others)) >>= λ rest. Ok (present line.section text_at data_at ∷ rest))
        ≡ ((r >>= λ rest. Ok (data_at ∷ rest)) >>= λ others. Ok (places (line ∷ lines) (text_at ∷ t_rest) others))
    last t_rest (Ok xs) = refl
    last t_rest (Err e) = refl

    by : (t_next : ℕ) (t_rest : List ℕ) → ((d : ℕ) → places_from t_next d lines ≡ (addresses Data d lines >>= λ others. Ok (places lines t_rest others))) → (r : Result ℕ AsmError)
        → (◌>>=◌ {A = ℕ} {B = ℕ × ℕ} r (λ d. Ok (t_next, d)) >>= λ next. places_from next.0 next.1 lines >>= λ rest. Ok (present line.section text_at data_at ∷ rest))
        ≡ ((r >>= λ d. addresses Data d lines >>= λ rest. Ok (data_at ∷ rest)) >>= λ others. Ok (places (line ∷ lines) (text_at ∷ t_rest) others))
    by t_next t_rest ih (Ok d) = rw (ih d) (last t_rest (addresses Data d lines))
    by t_next t_rest ih (Err e) = refl
