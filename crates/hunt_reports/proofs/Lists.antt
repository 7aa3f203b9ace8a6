-- Tests over lists of texts, and the lines of no text.
use Rattle.std.proofs.Common.{◌≡◌, ℕ, suc, ◌+◌, ◌<◌, Bool, true, false, not, ◌||◌, eqb, List, [], ◌∷◌, ◌++◌, length, map, filter, take, get_or, append-nil, Vec, if◌then◌else◌, refl, sym, ap, ◌∙◌, subst, arith, append_assoc, true≢false, Result, Ok, Err}
use Rattle.std.specs.Prelude.{OnOk}
use Rattle.std.specs.declared.alloc.Global.{Global}
use Rattle.std.specs.List.{AllZip, list_any, flat_map}
use Rattle.std.proofs.lemmas.List.Concat.{flat_map-append}
use Rattle.std.proofs.lemmas.List.{map_push, take_more}
use Rattle.hunt_reports.specs.Lists.{bytes_in}
use Rattle.hunt_reports.specs.Missing.{has_line, missed_in, with_line}
use Rattle.cell_base.specs.Words.{lines_of, whole_parts}

pub any_map : {X Y : Type 0} (p : Y → Bool) (f : X → Y) (xs : List X) → list_any (λ x. p (f x)) xs ≡ list_any p (map f xs)
any_map p f [] = refl
any_map p f (x ∷ xs) = ap (λ b. p (f x) || b) (any_map p f xs)

pub no_lines : lines_of [] ≡ []
unfolding lines_of whole_parts
no_lines = refl

pub is_nil : {X : Type 0} (xs : List X) → eqb (length xs) 0 ≡ true → xs ≡ []
is_nil [] e = refl
is_nil (x ∷ xs) e = absurd (let none : eqb (suc (length xs)) 0 ≡ false = grind arith in true≢false (sym e ∙ none))

pub filter_push : {X : Type 0} (p : X → Bool) (xs : List X) (x : X) → filter p (xs ++ x ∷ []) ≡ filter p xs ++ (if p x then x ∷ [] else [])
filter_push p [] x = refl
filter_push p (y ∷ ys) x = by (p y) (filter_push p ys x)
  where
    by : (b : Bool) → filter p (ys ++ x ∷ []) ≡ filter p ys ++ (if p x then x ∷ [] else [])
        → (if b then y ∷ filter p (ys ++ x ∷ []) else filter p (ys ++ x ∷ [])) ≡ (if b then y ∷ filter p ys else filter p ys) ++ (if p x then x ∷ [] else [])
    by true e = ap (λ zs. y ∷ zs) e
    by false e = e

-- one expected line more
pub missed_more : (text : List ℕ) (es : List (Vec ℕ Global)) (i : ℕ) (v : Vec ℕ Global) → i < length es
    → with_line text (get_or es i v).items (missed_in text (bytes_in (take i es))) ≡ missed_in text (bytes_in (take (i + 1) es))
missed_more text es i v inside =
    let line : List ℕ = (get_or es i v).items in
    let more : bytes_in (take (i + 1) es) ≡ bytes_in (take i es) ++ line ∷ [] = ap bytes_in (take_more es i v inside) ∙ map_push (λ (w : Vec ℕ Global). w.items) (take i es) (get_or es i v) in
    by (has_line text line) line ∙ sym (ap (missed_in text) more ∙ filter_push (λ l. not (has_line text l)) (bytes_in (take i es)) line)
  where
    by : (b : Bool) (line : List ℕ) → (if b then missed_in text (bytes_in (take i es)) else missed_in text (bytes_in (take i es)) ++ line ∷ []) ≡ missed_in text (bytes_in (take i es)) ++ (if not b then line ∷ [] else [])
    by true line = sym (append-nil (missed_in text (bytes_in (take i es))))
    by false line = refl

-- ---- texts written one after the other

pub more : (out one two a b : List ℕ) → one ≡ out ++ a → two ≡ one ++ b → two ≡ out ++ (a ++ b)
more out one two a b first second = second ∙ ap (λ x. x ++ b) first ∙ append_assoc out a b

pub on_more : {E : Type 0} (r : Result (Unit {0}) E) (out one all a b : List ℕ) → one ≡ out ++ a → OnOk r (all ≡ one ++ b) → OnOk r (all ≡ out ++ (a ++ b))
on_more (Ok u) out one all a b first second = more out one all a b first second
on_more (Err e) out one all a b first second = tt

pub three : (out a b c one two all : List ℕ) → one ≡ out ++ a → two ≡ one ++ b → all ≡ two ++ c → all ≡ out ++ ((a ++ b) ++ c)
three out a b c one two all first second third =
    third ∙ ap (λ x. x ++ c) (second ∙ ap (λ x. x ++ b) first) ∙ ap (λ x. x ++ c) (append_assoc out a b) ∙ append_assoc out (a ++ b) c

-- ---- lists made one after the other

pub flat_more : {X Y : Type 0} (f : X → List Y) (base old new : List Y) (xs : List X) (i : ℕ) (d : X) → i < length xs → old ≡ base ++ flat_map f (take i xs) → new ≡ old ++ f (get_or xs i d)
    → new ≡ base ++ flat_map f (take (i + 1) xs)
flat_more f base old new xs i d inside so_far made =
    let last : List _ = f (get_or xs i d) in
    let more : flat_map f (take (i + 1) xs) ≡ flat_map f (take i xs) ++ last
    = ap (flat_map f) (take_more xs i d inside) ∙ flat_map-append f (take i xs) (get_or xs i d ∷ []) ∙ ap (λ ys. flat_map f (take i xs) ++ ys) (append-nil last) in
    made ∙ ap (λ ys. ys ++ last) so_far ∙ append_assoc base (flat_map f (take i xs)) last ∙ ap (λ ys. base ++ ys) (sym more)

-- ---- elements in pairs

zip_push : {X Y : Type 0} (R : X → Y → Type 0) (xs : List X) (ys : List Y) (x : X) (y : Y) → AllZip R xs ys → R x y → AllZip R (xs ++ x ∷ []) (ys ++ y ∷ [])
zip_push R [] [] x y a r = (r, tt)
zip_push R (u ∷ xs) (v ∷ ys) x y a r = (a.0, zip_push R xs ys x y a.1 r)
zip_push R [] (v ∷ ys) x y a r = absurd a
zip_push R (u ∷ xs) [] x y a r = absurd a

pub zip_more : {X Y : Type 0} (R : X → Y → Type 0) (xs : List X) (ys : List Y) (i : ℕ) (d : X) (y : Y) → i < length xs → AllZip R (take i xs) ys → R (get_or xs i d) y → AllZip R (take (i + 1) xs) (ys ++ y ∷ [])
zip_more R xs ys i d y inside so_far here = subst (λ zs. AllZip R zs (ys ++ y ∷ [])) (sym (take_more xs i d inside)) (zip_push R (take i xs) ys (get_or xs i d) y so_far here)

pub zip_long : {X Y : Type 0} (R : X → Y → Type 0) (xs : List X) (ys : List Y) → AllZip R xs ys → length ys ≡ length xs
zip_long R [] [] a = refl
zip_long R (x ∷ xs) (y ∷ ys) a = ap suc (zip_long R xs ys a.1)
zip_long R [] (y ∷ ys) a = absurd a
zip_long R (x ∷ xs) [] a = absurd a
