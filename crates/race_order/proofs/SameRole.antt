-- Two roles are one.
use Rattle.std.proofs.Common.{◌≡◌, true, false, ◌||◌, ◌&&◌, Bool, refl, ap}
use Rattle.std.proofs.lemmas.Bool.{and_from, and_parts, eqb-true, eq-eqb}
use Rattle.race_order.specs.declared.roles.Role.{Role}
use Rattle.race_order.specs.declared.roles.Role.TheVariants.{OfExec, OfHost, OfSlot, OfAtomic, OfLine, OfBox, OfSignal, OfEnd}
use Rattle.race_order.specs.Roles.{same_role}

pub same_role_is : (r w : Role) → same_role w r ≡ true → w ≡ r
same_role_is r w e = is w r e
  where
    is : (w r : Role) → same_role w r ≡ true → w ≡ r
    is (OfExec p) (OfExec q) e = ap OfExec (eqb-true p q e)
    is (OfExec p) _ e = cc
    is OfHost OfHost e = refl
    is OfHost _ e = cc
    is (OfSlot p) (OfSlot q) e = ap OfSlot (eqb-true p q e)
    is (OfSlot p) _ e = cc
    is (OfAtomic p) (OfAtomic q) e = ap OfAtomic (eqb-true p q e)
    is (OfAtomic p) _ e = cc
    is (OfLine p) (OfLine q) e = ap OfLine (eqb-true p q e)
    is (OfLine p) _ e = cc
    is (OfBox p m x) (OfBox q l y) e = let a = and_parts _ _ e in let b = and_parts _ _ a.1 in let u : p ≡ q = eqb-true p q a.0 in let v : m ≡ l = eqb-true m l b.0 in let w : x ≡ y = eqb-true x y b.1 in cc
    is (OfBox p m x) _ e = cc
    is (OfSignal p x) (OfSignal q y) e = let a = and_parts _ _ e in let u : p ≡ q = eqb-true p q a.0 in let v : x ≡ y = eqb-true x y a.1 in cc
    is (OfSignal p x) _ e = cc
    is (OfEnd p) (OfEnd q) e = ap OfEnd (eqb-true p q e)
    is (OfEnd p) _ e = cc

pub same_role_itself : (r : Role) → same_role r r ≡ true
same_role_itself (OfExec p) = eq-eqb p p refl
same_role_itself OfHost = refl
same_role_itself (OfSlot p) = eq-eqb p p refl
same_role_itself (OfAtomic p) = eq-eqb p p refl
same_role_itself (OfLine p) = eq-eqb p p refl
same_role_itself (OfBox p m x) = and_from _ _ (eq-eqb p p refl) (and_from _ _ (eq-eqb m m refl) (eq-eqb x x refl))
same_role_itself (OfSignal p x) = and_from _ _ (eq-eqb p p refl) (eq-eqb x x refl)
same_role_itself (OfEnd p) = eq-eqb p p refl

pub and_or : (b x y : Bool) → (b && (x || y)) ≡ ((b && x) || (b && y))
and_or true x y = refl
and_or false x y = refl

pub or_assoc : (a b c : Bool) → ((a || b) || c) ≡ (a || (b || c))
or_assoc true b c = refl
or_assoc false b c = refl
