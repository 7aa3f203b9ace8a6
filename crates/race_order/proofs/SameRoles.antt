-- Two roles of the queue are one.
use Rattle.std.proofs.Common.{◌≡◌, Bool, true, false, not, ◌||◌, List, [], ◌∷◌, ◌∙◌, ◌&&◌, filter, refl, sym, ap, ap₂, subst}
use Rattle.std.specs.List.{list_any}
use Rattle.std.proofs.lemmas.Bool.{and_from, and_parts, eqb-true, eq-eqb}
use Rattle.race_order.specs.declared.roles.Class.{Class}
use Rattle.race_order.specs.declared.roles.Class.TheVariants.{All, Tag, BarredTag, Barriers}
use Rattle.race_order.specs.declared.roles.QueueRole.{QueueRole}
use Rattle.race_order.specs.declared.roles.QueueRole.TheVariants.{Base, Waits, Complete, Fixed, Stalled}
use Rattle.race_order.specs.Tables.{same_class, same_role, row_has}
use Rattle.race_order.specs.declared.buckets.Row.{Row}
use Rattle.order_sets.specs.declared.facts.At.{At}
use Rattle.order_sets.specs.Stands.{has_at}
use Rattle.order_sets.proofs.AnySet.{any_kept}
use Rattle.race_order.proofs.SameRole.{same_role_is as same_base_is, same_role_itself as same_base_itself}

pub same_class_is : (a b : Class) → same_class a b ≡ true → a ≡ b
same_class_is All All e = refl
same_class_is All _ e = cc
same_class_is (Tag g) (Tag h) e = ap Tag (eqb-true g h e)
same_class_is (Tag g) _ e = cc
same_class_is (BarredTag g) (BarredTag h) e = ap BarredTag (eqb-true g h e)
same_class_is (BarredTag g) _ e = cc
same_class_is Barriers Barriers e = refl
same_class_is Barriers _ e = cc

pub same_class_itself : (a : Class) → same_class a a ≡ true
same_class_itself All = refl
same_class_itself (Tag g) = eq-eqb g g refl
same_class_itself (BarredTag g) = eq-eqb g g refl
same_class_itself Barriers = refl

is : (w r : QueueRole) → same_role w r ≡ true → w ≡ r
is (Base r) (Base s) e = ap Base (same_base_is s r e)
is (Base r) _ e = cc
is (Waits p c) (Waits q d) e = let a = and_parts _ _ e in ap₂ Waits (eqb-true p q a.0) (eqb-true c d a.1)
is (Waits p c) _ e = cc
is (Complete p c) (Complete q d) e = let a = and_parts _ _ e in ap₂ Complete (eqb-true p q a.0) (same_class_is c d a.1)
is (Complete p c) _ e = cc
is (Fixed p c) (Fixed q d) e = let a = and_parts _ _ e in ap₂ Fixed (eqb-true p q a.0) (eqb-true c d a.1)
is (Fixed p c) _ e = cc
is (Stalled p c) (Stalled q d) e = let a = and_parts _ _ e in ap₂ Stalled (eqb-true p q a.0) (eqb-true c d a.1)
is (Stalled p c) _ e = cc

pub same_role_is : (r w : QueueRole) → same_role w r ≡ true → w ≡ r
same_role_is r w e = is w r e

pub same_role_itself : (r : QueueRole) → same_role r r ≡ true
same_role_itself (Base r) = same_base_itself r
same_role_itself (Waits p c) = and_from _ _ (eq-eqb p p refl) (eq-eqb c c refl)
same_role_itself (Complete p c) = and_from _ _ (eq-eqb p p refl) (same_class_itself c)
same_role_itself (Fixed p g) = and_from _ _ (eq-eqb p p refl) (eq-eqb g g refl)
same_role_itself (Stalled p g) = and_from _ _ (eq-eqb p p refl) (eq-eqb g g refl)

not_false : (b : Bool) → not b ≡ false → b ≡ true
not_false true e = refl
not_false false e = sym e

pub rows_dropped : (over : QueueRole → Bool) (r : QueueRole) (at : At) (rows : List Row) → over r ≡ false → list_any (row_has r at) (filter (λ row. not (over row.role)) rows) ≡ list_any (row_has r at) rows
rows_dropped over r at rows q =
    subst (λ b. (b || list_any (row_has r at) (filter (λ row. not (over row.role)) rows)) ≡ (b || list_any (row_has r at) rows)) q
    (any_kept (row_has r at) (λ row. not (over row.role)) (over r) rows gone)
  where
    gone : (row : Row) → not (over row.role) ≡ false → row_has r at row ≡ true → over r ≡ true
    gone row e h = let a = and_parts (same_role row.role r) (has_at row.known at) h in subst (λ x. over x ≡ true) (same_role_is r row.role a.0) (not_false (over row.role) e)

-- a role without a row has the empty set
pub none_has : (r : QueueRole) (at : At) (rows : List Row) → list_any (λ row. same_role row.role r) rows ≡ false → list_any (row_has r at) rows ≡ false
none_has r at [] e = refl
none_has r at (row ∷ rows) e = by (same_role row.role r) refl (λ f. none_has r at rows f)
  where
    never : true ≡ false → {X : Type 0} → X
    never f = absurd cc

    by : (b : Bool) → same_role row.role r ≡ b → (list_any (λ row. same_role row.role r) rows ≡ false → list_any (row_has r at) rows ≡ false) → list_any (row_has r at) (row ∷ rows) ≡ false
    by true q rest = never (sym (ap (λ b. b || list_any (λ row. same_role row.role r) rows) q) ∙ e)
    by false q rest = ap (λ b. (b && has_at row.known at) || list_any (row_has r at) rows) q ∙ rest (sym (ap (λ b. b || list_any (λ row. same_role row.role r) rows) q) ∙ e)
