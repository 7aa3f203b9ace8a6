-- The passes over the outstanding commands change what a step has to change.
use Rattle.std.proofs.Common.{◌≡◌, ℕ, zero, suc, ◌==◌, Bool, true, false, ◌||◌, List, [], ◌∷◌, ◌++◌, map, Some, ◌⊎◌, inl, inr, refl, sym, ap, ◌∙◌, subst}
use Rattle.std.specs.Prelude.{slice_get}
use Rattle.std.specs.List.{list_any}
use Rattle.std.proofs.lemmas.Bool.{or_cases, or_left, or_right, and_from, and_parts, eq-eqb}
use Rattle.mfc_command.specs.declared.command.Mark.TheVariants.{Fenced, Barred}
use Rattle.mfc_command.specs.declared.command.Command.{Command}
use Rattle.mfc_command.specs.Order.{is_barred, is_barrier}
use Rattle.race_order.proofs.Reasons.{kind_is, marked_is}
use Rattle.race_order.specs.declared.roles.Class.{Class}
use Rattle.race_order.specs.declared.roles.Class.TheVariants.{All, Tag, BarredTag, Barriers}
use Rattle.race_order.specs.Sources.{is_in}
use Rattle.race_order.proofs.Nexts.{GoesAhead, OfAll, OfTag, OfBarred, OfBarriers}
use Rattle.race_order.specs.Passes.{is_marked, when, classes_ahead, classes_of}
use Rattle.race_order.specs.Tables.{same_class}
use Rattle.race_order.proofs.SameRoles.{same_class_is}

-- an element of a list that passes a test
pub record Picked {X : Type 0} (p : X → Bool) (xs : List X) : Type 0 where
  pub one : X
  pub place : ℕ
  pub at : slice_get xs place ≡ Some one
  pub passes : p one ≡ true

pub picked : {X : Type 0} (p : X → Bool) (xs : List X) → list_any p xs ≡ true → Picked p xs
picked p [] e = cc
picked p (x ∷ xs) e = by (or_cases (p x) (list_any p xs) e) (λ f. picked p xs f)
  where
    by : (p x ≡ true) ⊎ (list_any p xs ≡ true) → (list_any p xs ≡ true → Picked p xs) → Picked p (x ∷ xs)
    by (inl f) rest = record { one = x; place = zero; at = refl; passes = f }
    by (inr f) rest = let r = rest f in record { one = r.one; place = suc r.place; at = r.at; passes = r.passes }

pub pick : {X : Type 0} (p : X → Bool) (xs : List X) (i : ℕ) (x : X) → slice_get xs i ≡ Some x → p x ≡ true → list_any p xs ≡ true
pick p [] i x e f = absurd cc
pick p (y ∷ ys) zero x e f = let same : y ≡ x = cc in or_left (p y) (list_any p ys) (ap p same ∙ f)
pick p (y ∷ ys) (suc i) x e f = or_right (p y) (list_any p ys) (pick p ys i x e f)

pub none_any : {X : Type 0} (p : X → Bool) (xs : List X) → ((x : X) → p x ≡ false) → list_any p xs ≡ false
none_any p [] h = refl
none_any p (x ∷ xs) h = ap (λ b. b || list_any p xs) (h x) ∙ none_any p xs h

-- the classes of a command are those that it is in
pub classes_sound : (c : Command) (class : Class) → list_any (λ x. same_class x class) (classes_of c) ≡ true → is_in class c ≡ true
classes_sound c class e = first (or_cases (same_class All class) (list_any (λ x. same_class x class) (Tag c.tag ∷ (when (is_barred c.mark) (BarredTag c.tag) ++ when (is_barrier c.kind) Barriers))) e)
  where
    barred : (b : Bool) → is_barred c.mark ≡ b → (k : Bool) → is_barrier c.kind ≡ k → list_any (λ x. same_class x class) (when b (BarredTag c.tag) ++ when k Barriers) ≡ true → is_in class c ≡ true
    barred true f true g e = by (or_cases (same_class (BarredTag c.tag) class) (same_class Barriers class || false) e)
      where
        by : (same_class (BarredTag c.tag) class ≡ true) ⊎ ((same_class Barriers class || false) ≡ true) → is_in class c ≡ true
        by (inl x) = subst (λ y. is_in y c ≡ true) (same_class_is (BarredTag c.tag) class x) (and_from _ _ (eq-eqb c.tag c.tag refl) f)
        by (inr x) = last (or_cases (same_class Barriers class) false x)
          where
            last : (same_class Barriers class ≡ true) ⊎ (false ≡ true) → is_in class c ≡ true
            last (inl y) = subst (λ z. is_in z c ≡ true) (same_class_is Barriers class y) g
            last (inr y) = cc
    barred true f false g e = by (or_cases (same_class (BarredTag c.tag) class) false e)
      where
        by : (same_class (BarredTag c.tag) class ≡ true) ⊎ (false ≡ true) → is_in class c ≡ true
        by (inl x) = subst (λ y. is_in y c ≡ true) (same_class_is (BarredTag c.tag) class x) (and_from _ _ (eq-eqb c.tag c.tag refl) f)
        by (inr x) = cc
    barred false f true g e = by (or_cases (same_class Barriers class) false e)
      where
        by : (same_class Barriers class ≡ true) ⊎ (false ≡ true) → is_in class c ≡ true
        by (inl y) = subst (λ z. is_in z c ≡ true) (same_class_is Barriers class y) g
        by (inr y) = cc
    barred false f false g e = cc

    second : (same_class (Tag c.tag) class ≡ true) ⊎ (list_any (λ x. same_class x class) (when (is_barred c.mark) (BarredTag c.tag) ++ when (is_barrier c.kind) Barriers) ≡ true) → is_in class c ≡ true
    second (inl x) = subst (λ y. is_in y c ≡ true) (same_class_is (Tag c.tag) class x) (eq-eqb c.tag c.tag refl)
    second (inr x) = barred (is_barred c.mark) refl (is_barrier c.kind) refl x

    first : (same_class All class ≡ true) ⊎ (list_any (λ x. same_class x class) (Tag c.tag ∷ (when (is_barred c.mark) (BarredTag c.tag) ++ when (is_barrier c.kind) Barriers)) ≡ true) → is_in class c ≡ true
    first (inl x) = subst (λ y. is_in y c ≡ true) (same_class_is All class x) refl
    first (inr x) = second (or_cases (same_class (Tag c.tag) class) (list_any (λ x. same_class x class) (when (is_barred c.mark) (BarredTag c.tag) ++ when (is_barrier c.kind) Barriers)) x)

pub classes_full : (c : Command) (class : Class) → is_in class c ≡ true → list_any (λ x. same_class x class) (classes_of c) ≡ true
classes_full c All e = refl
classes_full c (Tag g) e = or_left (c.tag == g) _ e
classes_full c (BarredTag g) e =
    let a = and_parts (c.tag == g) (is_barred c.mark) e in
    subst (λ b. list_any (λ x. same_class x (BarredTag g)) (when b (BarredTag c.tag) ++ when (is_barrier c.kind) Barriers) ≡ true) (sym a.1) (or_left (c.tag == g) _ a.0)
classes_full c Barriers e = by (is_barred c.mark)
  where
    by : (b : Bool) → list_any (λ x. same_class x Barriers) (when b (BarredTag c.tag) ++ when (is_barrier c.kind) Barriers) ≡ true
    by true = subst (λ k. list_any (λ x. same_class x Barriers) (when k Barriers) ≡ true) (sym e) refl
    by false = subst (λ k. list_any (λ x. same_class x Barriers) (when k Barriers) ≡ true) (sym e) refl

-- the classes ahead of a command are those of which every command goes before it
pub ahead_sound : (d : Command) (class : Class) → list_any (λ x. same_class x class) (classes_ahead d) ≡ true → GoesAhead d class
ahead_sound d class e = by (is_barrier d.kind) refl (is_marked d.mark) refl e
  where
    rest : list_any (λ x. same_class x class) (BarredTag d.tag ∷ Barriers ∷ []) ≡ true → GoesAhead d class
    rest e = one (or_cases (same_class (BarredTag d.tag) class) (same_class Barriers class || false) e)
      where
        one : (same_class (BarredTag d.tag) class ≡ true) ⊎ ((same_class Barriers class || false) ≡ true) → GoesAhead d class
        one (inl x) = subst (GoesAhead d) (same_class_is (BarredTag d.tag) class x) OfBarred
        one (inr x) = two (or_cases (same_class Barriers class) false x)
          where
            two : (same_class Barriers class ≡ true) ⊎ (false ≡ true) → GoesAhead d class
            two (inl y) = subst (GoesAhead d) (same_class_is Barriers class y) OfBarriers
            two (inr y) = cc

    marks : (m : Bool) → is_marked d.mark ≡ m → list_any (λ x. same_class x class) (when m (Tag d.tag) ++ (BarredTag d.tag ∷ Barriers ∷ [])) ≡ true → GoesAhead d class
    marks true f e = one (or_cases (same_class (Tag d.tag) class) (list_any (λ x. same_class x class) (BarredTag d.tag ∷ Barriers ∷ [])) e)
      where
        one : (same_class (Tag d.tag) class ≡ true) ⊎ (list_any (λ x. same_class x class) (BarredTag d.tag ∷ Barriers ∷ []) ≡ true) → GoesAhead d class
        one (inl x) = subst (GoesAhead d) (same_class_is (Tag d.tag) class x) (OfTag (marked_is d.mark f))
        one (inr x) = rest x
    marks false f e = rest e

    by : (k : Bool) → is_barrier d.kind ≡ k → (m : Bool) → is_marked d.mark ≡ m → list_any (λ x. same_class x class) (when k All ++ (when m (Tag d.tag) ++ (BarredTag d.tag ∷ Barriers ∷ []))) ≡ true → GoesAhead d class
    by true g m f e = one (or_cases (same_class All class) (list_any (λ x. same_class x class) (when m (Tag d.tag) ++ (BarredTag d.tag ∷ Barriers ∷ []))) e)
      where
        one : (same_class All class ≡ true) ⊎ (list_any (λ x. same_class x class) (when m (Tag d.tag) ++ (BarredTag d.tag ∷ Barriers ∷ [])) ≡ true) → GoesAhead d class
        one (inl x) = subst (GoesAhead d) (same_class_is All class x) (OfAll (kind_is d.kind g))
        one (inr x) = marks m f x
    by false g m f e = marks m f e

pub any_append_right : {X : Type 0} (p : X → Bool) (xs ys : List X) → list_any p ys ≡ true → list_any p (xs ++ ys) ≡ true
any_append_right p [] ys e = e
any_append_right p (x ∷ xs) ys e = or_right (p x) _ (any_append_right p xs ys e)

pub any_append_left : {X : Type 0} (p : X → Bool) (xs ys : List X) → list_any p xs ≡ true → list_any p (xs ++ ys) ≡ true
any_append_left p [] ys e = cc
any_append_left p (x ∷ xs) ys e = by (or_cases (p x) (list_any p xs) e) (λ f. any_append_left p xs ys f)
  where
    by : (p x ≡ true) ⊎ (list_any p xs ≡ true) → (list_any p xs ≡ true → list_any p (xs ++ ys) ≡ true) → list_any p ((x ∷ xs) ++ ys) ≡ true
    by (inl f) rest = or_left (p x) _ f
    by (inr f) rest = or_right (p x) _ (rest f)

-- a test that the class passes is passed in the list
pub ahead_any : (d : Command) (class : Class) (p : Class → Bool) → GoesAhead d class → p class ≡ true → list_any p (classes_ahead d) ≡ true
ahead_any d class p (OfAll k) e = any_append_left p (when (is_barrier d.kind) All) _ (subst (λ b. list_any p (when b All) ≡ true) (sym (ap is_barrier k)) (or_left (p All) false e))
ahead_any d class p (OfTag m) e =
    any_append_right p (when (is_barrier d.kind) All) _
    (any_append_left p (when (is_marked d.mark) (Tag d.tag)) _ (subst (λ b. list_any p (when b (Tag d.tag)) ≡ true) (sym (marked m)) (or_left (p (Tag d.tag)) false e)))
  where
    marked : (d.mark ≡ Fenced) ⊎ (d.mark ≡ Barred) → is_marked d.mark ≡ true
    marked (inl x) = ap is_marked x
    marked (inr x) = ap is_marked x
ahead_any d class p OfBarred e = any_append_right p (when (is_barrier d.kind) All) _ (any_append_right p (when (is_marked d.mark) (Tag d.tag)) _ (or_left (p (BarredTag d.tag)) _ e))
ahead_any d class p OfBarriers e = any_append_right p (when (is_barrier d.kind) All) _ (any_append_right p (when (is_marked d.mark) (Tag d.tag)) _ (or_right (p (BarredTag d.tag)) _ (or_left (p Barriers) false e)))

pub any_map : {X Y : Type 0} (p : Y → Bool) (f : X → Y) (xs : List X) → list_any p (map f xs) ≡ list_any (λ x. p (f x)) xs
any_map p f [] = refl
any_map p f (x ∷ xs) = ap (λ b. p (f x) || b) (any_map p f xs)
