-- Groups of results, and the same with one result more.
use Rattle.std.proofs.Common.{◌≡◌, ℕ, zero, suc, ◌+◌, ◌<◌, cond, Bool, true, false, List, [], ◌∷◌, ◌++◌, length, take, map, filter, refl, sym, ap, ◌∙◌, subst, append-nil, arith, if◌then◌else◌, eqb, set, get_or, true≢false, Vec}
use Rattle.std.specs.Prelude.{Option, Some, None, slice_get, nat_lt}
use Rattle.std.specs.declared.alloc.Global.{Global}
use Rattle.std.specs.List.{position, position_or_len}
use Rattle.std.specs.Str.{bytes_eq}
use Rattle.std.proofs.lemmas.List.{map_push}
use Rattle.std.proofs.lemmas.Option.{none-some, same_Some}
use Rattle.hunt_tally.specs.declared.tally.Line.{Line}
use Rattle.hunt_tally.specs.Lines.{told_by}
use Rattle.hunt_tally.specs.Tallies.{Told}
use Rattle.hunt_texts.specs.Groups.{is_place, is_of, results_at, AreGroups}
use Rattle.hunt_texts.proofs.RowLemmas.{take_push}

pub filter_push : {X : Type 0} (p : X → Bool) (xs : List X) (x : X) → filter p (xs ++ x ∷ []) ≡ filter p xs ++ (if p x then x ∷ [] else [])
filter_push p [] x = refl
filter_push p (y ∷ ys) x = by (p y) (filter_push p ys x)
  where
    by : (b : Bool) → filter p (ys ++ x ∷ []) ≡ filter p ys ++ (if p x then x ∷ [] else [])
        → (if b then y ∷ filter p (ys ++ x ∷ []) else filter p (ys ++ x ∷ [])) ≡ (if b then y ∷ filter p ys else filter p ys) ++ (if p x then x ∷ [] else [])
    by true e = ap (λ zs. y ∷ zs) e
    by false e = e

set_length : {X : Type 0} (xs : List X) (i : ℕ) (x : X) → length (set xs i x) ≡ length xs
set_length [] i x = refl
set_length (y ∷ ys) zero x = refl
set_length (y ∷ ys) (suc i) x = ap suc (set_length ys i x)

set_here : {X : Type 0} (xs : List X) (i : ℕ) (x y : X) → slice_get (set xs i x) i ≡ Some y → y ≡ x
set_here [] i x y at = absurd (none-some y at)
set_here (z ∷ zs) zero x y at = sym (same_Some x y at)
set_here (z ∷ zs) (suc i) x y at = set_here zs i x y at

set_other : {X : Type 0} (xs : List X) (i j : ℕ) (x : X) → eqb i j ≡ false → slice_get (set xs i x) j ≡ slice_get xs j
set_other [] i j x e = refl
set_other (z ∷ zs) zero zero x e = absurd (true≢false e)
set_other (z ∷ zs) zero (suc j) x e = refl
set_other (z ∷ zs) (suc i) zero x e = refl
set_other (z ∷ zs) (suc i) (suc j) x e = set_other zs i j x (let less : eqb i j ≡ false = grind (arith, e) in less)

module _ (endings results : List Told) (groups : List (Vec Line Global)) (k : ℕ) (line : Line) (at : slice_get results k ≡ Some (told_by line)) where
  one_more : (i : ℕ) → results_at endings (take (k + 1) results) i ≡ results_at endings (take k results) i ++ (if is_of endings i (told_by line) then told_by line ∷ [] else [])
  one_more i = ap (filter (is_of endings i)) (take_push results k (told_by line) at) ∙ filter_push (is_of endings i) (take k results) (told_by line)

  -- a result that is of no ending
  pub none_more : AreGroups endings (take k results) groups → position (λ e. bytes_eq line.shown.now e.key) endings ≡ None → AreGroups endings (take (k + 1) results) groups
  none_more are none = record {
    long = are.long;
    each = λ i g here. are.each i g here ∙ sym (append-nil (results_at endings (take k results) i))
        ∙ ap (λ (o : Option ℕ). results_at endings (take k results) i ++ (if is_place o i then told_by line ∷ [] else [])) (sym none) ∙ sym (one_more i);
  }

  -- one that is
  pub group_more : (j : ℕ) (old new : Vec Line Global) → AreGroups endings (take k results) groups → position (λ e. bytes_eq line.shown.now e.key) endings ≡ Some j
      → slice_get groups j ≡ Some old → new.items ≡ old.items ++ line ∷ [] → AreGroups endings (take (k + 1) results) (set groups j new)
  group_more j old new are is there pushed = record {
    long = set_length groups j new ∙ are.long;
    each = λ i g here. by i g here (eqb j i) refl;
  }
    where
      by : (i : ℕ) (g : Vec Line Global) → slice_get (set groups j new) i ≡ Some g → (b : Bool) → eqb j i ≡ b → map told_by g.items ≡ results_at endings (take (k + 1) results) i
      by i g here true e =
          let same : j ≡ i = grind (arith, e) in
          let mine : g ≡ new = set_here groups j new g (subst (λ n. slice_get (set groups j new) n ≡ Some g) (sym same) here) in
          let is_mine : is_of endings i (told_by line) ≡ true = ap (λ (o : Option ℕ). is_place o i) is ∙ e in
          ap (λ (v : Vec Line Global). map told_by v.items) mine ∙ ap (map told_by) pushed ∙ map_push told_by old.items line
          ∙ ap (λ ts. ts ++ told_by line ∷ []) (are.each j old there ∙ ap (results_at endings (take k results)) same)
          ∙ ap (λ b. results_at endings (take k results) i ++ (if b then told_by line ∷ [] else [])) (sym is_mine) ∙ sym (one_more i)
      by i g here false e =
          let not_mine : is_of endings i (told_by line) ≡ false = ap (λ (o : Option ℕ). is_place o i) is ∙ e in
          are.each i g (sym (set_other groups j i new e) ∙ here) ∙ sym (append-nil (results_at endings (take k results) i))
          ∙ ap (λ b. results_at endings (take k results) i ++ (if b then told_by line ∷ [] else [])) (sym not_mine) ∙ sym (one_more i)

pub seen_at : {X Y : Type 0} (view : X → Y) (xs : List X) (i : ℕ) (d : X) → i < length xs → slice_get (map view xs) i ≡ Some (view (get_or xs i d))
seen_at view [] i d inside = absurd (omega (arith, inside))
seen_at view (x ∷ xs) zero d inside = refl
seen_at view (x ∷ xs) (suc i) d inside = seen_at view xs i d (omega (arith, inside))

pub line_at : (lines : List Line) (i : ℕ) (d : Line) → i < length lines → slice_get (map told_by lines) i ≡ Some (told_by (get_or lines i d))
line_at lines i d inside = seen_at told_by lines i d inside

-- what stands at a place
pub there_is : {X : Type 0} (xs : List X) (i : ℕ) (x : X) → i < length xs → x ≡ get_or xs i x → slice_get xs i ≡ Some x
there_is [] i x inside is = absurd (omega (arith, inside))
there_is (y ∷ ys) zero x inside is = ap Some (sym is)
there_is (y ∷ ys) (suc i) x inside is = there_is ys i x (omega (arith, inside)) is

-- the first place that passes a test is inside
pub place_below : {X : Type 0} (test : X → Bool) (xs : List X) (i : ℕ) → position test xs ≡ Some i → i < length xs
place_below test xs i is = by (nat_lt (position_or_len test xs) (length xs)) refl
  where
    by : (b : Bool) → nat_lt (position_or_len test xs) (length xs) ≡ b → i < length xs
    by true e =
        let same : position_or_len test xs ≡ i = same_Some _ _ (sym (ap (λ t. cond t (Some (position_or_len test xs)) None) e) ∙ is) in
        grind (arith, e, same)
    by false e = absurd (none-some i (sym (ap (λ t. cond t (Some (position_or_len test xs)) None) e) ∙ is))
