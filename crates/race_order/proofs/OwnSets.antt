-- The sets of the processors' instructions, which stand apart.
use Rattle.std.proofs.Common.{◌≡◌, ℕ, zero, suc, ◌<◌, ◌==◌, ◌||◌, ◌&&◌, Bool, true, false, List, [], ◌∷◌, length, get_or, set, max, refl, sym, ap, ◌∙◌, arith}
use Rattle.std.specs.Prelude.{nat_le, slice_get}
use Rattle.std.proofs.lemmas.Bool.{false_from_ne_true, and_parts, eqb-true, eq-eqb}
use Rattle.std.proofs.lemmas.Bool.Decides.{nat_tests}
use Rattle.order_sets.specs.declared.facts.At.{At}
use Rattle.race_order.specs.declared.own.Own.{Own}
use Rattle.race_order.specs.declared.roles.QueueRole.{QueueRole}
use Rattle.race_order.specs.declared.roles.QueueRole.TheVariants.{Base}
use Rattle.race_order.specs.declared.roles.Role.TheVariants.{OfExec}
use Rattle.race_order.specs.Tables.{same_role, own_has, own_of, has_or}

or_false : (a x : Bool) → x ≡ false → a ≡ (a || x)
or_false true x e = refl
or_false false x e = sym e

-- one of them, which has more
one_set : (own : List Own) (p q : ℕ) (k d : Own) (at : At) (other x : Bool) → p < length own → (q ≡ p → own_has k at ≡ (own_has (get_or own p d) at || x)) → ((q ≡ p → ⊥) → x ≡ false)
    → has_or (slice_get (set own p k) q) at other ≡ (has_or (slice_get own q) at other || x)
one_set [] p q k d at other x low e h = absurd (omega arith)
one_set (y ∷ ys) zero zero k d at other x low e h = e refl
one_set (y ∷ ys) zero (suc q) k d at other x low e h = or_false (has_or (slice_get ys q) at other) x (h (λ s. omega arith))
one_set (y ∷ ys) (suc p) zero k d at other x low e h = or_false (own_has y at) x (h (λ s. omega arith))
one_set (y ∷ ys) (suc p) (suc q) k d at other x low e h = one_set ys p q k d at other x (omega arith) (λ s. e (ap suc s)) (λ ne. h (λ s. ne (omega arith)))

pub own_more : (own : List Own) (p : ℕ) (k d : Own) (r : QueueRole) (at : At) (other x : Bool) → p < length own → own_has k at ≡ (own_has (get_or own p d) at || x)
    → has_or (own_of (set own p k) r) at other ≡ (has_or (own_of own r) at other || (same_role (Base (OfExec p)) r && x))
own_more own p k d (Base (OfExec q)) at other x low e =
    one_set own p q k d at other ((p == q) && x) low
    (λ s. e ∙ ap (λ b. own_has (get_or own p d) at || (b && x)) (sym (eq-eqb p q (sym s))))
    (λ ne. false_from_ne_true _ (λ u. ne (sym (eqb-true p q (and_parts (p == q) x u).0))))
own_more own p k d _ at other x low e = or_false other false refl

-- ---- what one of them has

-- the later of two places is up to both
pub up_to_both : (c : Bool) (x a b : ℕ) → (c && nat_le x (max a b)) ≡ ((c && nat_le x a) || (c && nat_le x b))
up_to_both true x a b = grind (arith, nat_tests)
up_to_both false x a b = refl

-- more instructions
pub first_more : (a b c d : Bool) → d ≡ (a || c) → (d || b) ≡ ((a || b) || c)
first_more true b c d e = ap (λ x. x || b) e
first_more false true true d e = ap (λ x. x || true) e
first_more false true false d e = ap (λ x. x || true) e
first_more false false true d e = ap (λ x. x || false) e
first_more false false false d e = ap (λ x. x || false) e

-- more of the other steps
pub second_more : (a b c d : Bool) → d ≡ (b || c) → (a || d) ≡ ((a || b) || c)
second_more true b c d e = refl
second_more false b c d e = e

-- all of it
pub both_more : (known a b all next : Bool) → next ≡ (known || b) → all ≡ (next || a) → all ≡ (known || (a || b))
both_more true a b all next e f = f ∙ ap (λ x. x || a) e
both_more false true true all next e f = f ∙ ap (λ x. x || true) e
both_more false true false all next e f = f ∙ ap (λ x. x || true) e
both_more false false b all next e f = f ∙ (ap (λ x. x || false) e ∙ or_no b)
  where
    or_no : (b : Bool) → (b || false) ≡ b
    or_no true = refl
    or_no false = refl
