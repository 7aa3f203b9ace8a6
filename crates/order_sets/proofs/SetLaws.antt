-- What a set holds after runs or parts were joined, and after what they cover was dropped.
use Rattle.std.proofs.Common.{◌≡◌, ℕ, ◌+◌, ◌<◌, length, get_or, take, ◌++◌, Bool, true, false, not, ◌||◌, List, [], ◌∷◌, filter, refl, ap, sym, subst, ◌∙◌, arith, true≢false}
use Rattle.std.specs.List.{list_any}
use Rattle.std.proofs.lemmas.Bool.Decides.{nat_tests}
use Rattle.std.proofs.lemmas.List.Elements.{filter-append}
use Rattle.order_sets.specs.declared.facts.At.{At}
use Rattle.order_sets.specs.declared.run.Run.{Run}
use Rattle.order_sets.specs.declared.parts.Part.{Part}
use Rattle.order_sets.specs.declared.facts.Fact.{Fact}
use Rattle.order_sets.specs.declared.facts.Fact.TheVariants.{Upto, Whole, Elements, One}
use Rattle.order_sets.specs.Facts.{is_at, covers}
use Rattle.order_sets.specs.Holds.{in_run, in_part, is_inside, is_part_inside, is_needed}
use Rattle.order_sets.proofs.AnySet.{any_kept, any_snoc, any_take}

-- ---- what is kept beside the whole one, of runs and of parts

-- what isn't kept is inside the whole one
abbrev pub is_kept : {X : Type 0} → (X → X → Bool) → X → X → Bool
is_kept inside whole x = not (inside whole x) || inside x whole

kept_whole : {X : Type 0} (inside : X → X → Bool) (whole : X) → is_kept inside whole whole ≡ true
kept_whole inside whole = on (inside whole whole)
  where
    on : (b : Bool) → (not b || b) ≡ true
    on true = refl
    on false = refl

pub or_swap : (a b : Bool) → (a || b) ≡ (b || a)
or_swap true true = refl
or_swap true false = refl
or_swap false true = refl
or_swap false false = refl

-- where there are no more, no more pass
pub none_more : {X : Type 0} (p : X → Bool) (xs more : List X) → more ≡ [] → list_any p xs ≡ (list_any p xs || list_any p more)
none_more p xs more e = sym (ap (λ l. list_any p xs || list_any p l) e ∙ or_swap (list_any p xs) false)

-- w has r, and nothing but a and r
same_or : (w a r : Bool) → (r ≡ true → w ≡ true) → (w ≡ true → (a || r) ≡ true) → (w || a) ≡ (a || r)
same_or true a r more only = sym (only refl)
same_or false true r more only = refl
same_or false false true more only = more refl
same_or false false false more only = refl

added : {X : Type 0} (has : X → Bool) (keep : X → Bool) (new whole : X) (xs : List X) → keep whole ≡ true → ((x : X) → keep x ≡ false → has x ≡ true → has whole ≡ true)
    → (has new ≡ true → has whole ≡ true) → (has whole ≡ true → (list_any has xs || has new) ≡ true)
    → list_any has (filter keep (xs ++ whole ∷ [])) ≡ (list_any has xs || has new)
added has keep new whole xs stays within more only =
    ap (list_any has) (filter-append keep xs (whole ∷ []) ∙ ap (λ l. filter keep xs ++ l) last)
    ∙ any_snoc has (filter keep xs) whole
    ∙ or_swap (list_any has (filter keep xs)) (has whole)
    ∙ any_kept has keep (has whole) xs within
    ∙ same_or (has whole) (list_any has xs) (has new) more only
  where
    last : filter keep (whole ∷ []) ≡ whole ∷ []
    last = rw stays refl

pub run_added : (run whole : Run) (runs : List Run) (at : At) → (in_run at run ≡ true → in_run at whole ≡ true) → (in_run at whole ≡ true → (list_any (in_run at) runs || in_run at run) ≡ true)
    → list_any (in_run at) (filter (is_kept is_inside whole) (runs ++ whole ∷ [])) ≡ (list_any (in_run at) runs || in_run at run)
run_added run whole runs at more only = added (in_run at) (is_kept is_inside whole) run whole runs (kept_whole is_inside whole) within more only
  where
    within : (r : Run) → is_kept is_inside whole r ≡ false → in_run at r ≡ true → in_run at whole ≡ true
    within r e inside = grind (arith, nat_tests)

pub part_added : (part whole : Part) (parts : List Part) (at : At) → (in_part at part ≡ true → in_part at whole ≡ true) → (in_part at whole ≡ true → (list_any (in_part at) parts || in_part at part) ≡ true)
    → list_any (in_part at) (filter (is_kept is_part_inside whole) (parts ++ whole ∷ [])) ≡ (list_any (in_part at) parts || in_part at part)
part_added part whole parts at more only = added (in_part at) (is_kept is_part_inside whole) part whole parts (kept_whole is_part_inside whole) within more only
  where
    within : (p : Part) → is_kept is_part_inside whole p ≡ false → in_part at p ≡ true → in_part at whole ≡ true
    within p e inside = grind (arith, nat_tests)

-- what has the new one, and nothing but that and those so far, stays so with one more that it takes in or leaves
pub taken_in : {X : Type 0} (has : X → Bool) (new old whole x : X) (xs : List X) (i : ℕ) → i < length xs → x ≡ get_or xs i x → has whole ≡ (has x || has old)
    → (has new ≡ true → has old ≡ true) × (has old ≡ true → (list_any has (take i xs) || has new) ≡ true)
    → (has new ≡ true → has whole ≡ true) × (has whole ≡ true → (list_any has (take (i + 1) xs) || has new) ≡ true)
taken_in has new old whole x xs i low is both so_far = rw (both, any_take has xs i x low is) (on (has new) (has old) (has x) (list_any has (take i xs)) so_far.0 so_far.1)
  where
    on : (n o h t : Bool) → (n ≡ true → o ≡ true) → (o ≡ true → (t || n) ≡ true) → (n ≡ true → (h || o) ≡ true) × ((h || o) ≡ true → ((t || h) || n) ≡ true)
    on n true true t more only = (λ e. refl, λ e. ap (λ b. b || n) (or_swap t true))
    on n false true t more only = (λ e. refl, λ e. ap (λ b. b || n) (or_swap t true))
    on n true false t more only = (λ e. refl, λ e. ap (λ b. b || n) (or_swap t false) ∙ only refl)
    on n false false t more only = (more, λ e. absurd (true≢false (sym e)))

pub left : {X : Type 0} (has : X → Bool) (new old whole x : X) (xs : List X) (i : ℕ) → i < length xs → x ≡ get_or xs i x → whole ≡ old
    → (has new ≡ true → has old ≡ true) × (has old ≡ true → (list_any has (take i xs) || has new) ≡ true)
    → (has new ≡ true → has whole ≡ true) × (has whole ≡ true → (list_any has (take (i + 1) xs) || has new) ≡ true)
left has new old whole x xs i low is same so_far = rw (same, any_take has xs i x low is) (so_far.0, λ e. on (has new) (has x) (list_any has (take i xs)) (so_far.1 e))
  where
    on : (n h t : Bool) → (t || n) ≡ true → ((t || h) || n) ≡ true
    on n h true e = refl
    on true h false e = or_swap h true
    on false h false e = absurd (true≢false (sym e))

-- ---- what runs cover

-- one run has all commands of this one
abbrev pub in_one : List Run → Run → Bool
in_one runs run = list_any (λ r. is_inside r run) runs

one_has : (runs : List Run) (run : Run) (at : At) → in_one runs run ≡ true → in_run at run ≡ true → list_any (in_run at) runs ≡ true
one_has [] run at found inside = absurd (true≢false (sym found))
one_has (r ∷ runs) run at found inside = on (is_inside r run) refl found (λ later. one_has runs run at later inside)
  where
    on : (b : Bool) → is_inside r run ≡ b → (b || in_one runs run) ≡ true → (in_one runs run ≡ true → list_any (in_run at) runs ≡ true) → (in_run at r || list_any (in_run at) runs) ≡ true
    on true is some rest =
        let here : in_run at r ≡ true = grind (arith, nat_tests) in
        rw here refl
    on false is some rest = rw (rest some) (or_swap (in_run at r) true)

covered : (b : Bool) → not b ≡ false → b ≡ true
covered true e = refl
covered false e = sym e

pub parts_dropped : (runs : List Run) (parts : List Part) (at : At)
    → (list_any (in_run at) runs || list_any (in_part at) (filter (λ p. not (in_one runs p.run)) parts)) ≡ (list_any (in_run at) runs || list_any (in_part at) parts)
parts_dropped runs parts at = any_kept (in_part at) (λ p. not (in_one runs p.run)) (list_any (in_run at) runs) parts gone
  where
    gone : (p : Part) → not (in_one runs p.run) ≡ false → in_part at p ≡ true → list_any (in_run at) runs ≡ true
    gone p e inside =
        let of_run : in_run at p.run ≡ true = grind (arith, nat_tests) in
        one_has runs p.run at (covered _ e) of_run

-- a run or a part has the step
abbrev pub is_covered : List Run → List Part → At → Bool
is_covered runs parts at = list_any (in_run at) runs || list_any (in_part at) parts

same_step : (o at : At) → is_at o at ≡ true → o ≡ at
same_step o at e =
    let chain : o.chain ≡ at.chain = grind (arith, nat_tests) in
    let cmd : o.cmd ≡ at.cmd = grind (arith, nat_tests) in
    let elem : o.elem ≡ at.elem = grind (arith, nat_tests) in
    let place : o.place ≡ at.place = grind (arith, nat_tests) in
    as_record o.chain o.cmd o.elem o.place at.chain at.cmd at.elem at.place chain cmd elem place
  where
    as_record : (a b c d p q r s : ℕ) → a ≡ p → b ≡ q → c ≡ r → d ≡ s → record { chain = a; cmd = b; elem = c; place = d } ≡ (let at : At = record { chain = p; cmd = q; elem = r; place = s } in at)
    as_record a b c d p q r s e f g h = cc

pub ones_dropped : (runs : List Run) (parts : List Part) (rest : List Fact) (at : At)
    → (is_covered runs parts at || list_any (λ f. covers f at) (filter (is_needed runs parts) rest)) ≡ (is_covered runs parts at || list_any (λ f. covers f at) rest)
ones_dropped runs parts rest at = any_kept (λ f. covers f at) (is_needed runs parts) (is_covered runs parts at) rest gone
  where
    gone : (f : Fact) → is_needed runs parts f ≡ false → covers f at ≡ true → is_covered runs parts at ≡ true
    gone (One o) e inside = subst (λ x. is_covered runs parts x ≡ true) (same_step o at inside) (covered _ e)
    gone (Upto chain place) e inside = absurd (true≢false e)
    gone (Whole chain cmd) e inside = absurd (true≢false e)
    gone (Elements chain cmd below) e inside = absurd (true≢false e)
