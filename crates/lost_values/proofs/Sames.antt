-- When two kinds name the same value.
use Rattle.std.proofs.Common.{◌≡◌, ℕ, ap, refl, sym, ◌∙◌, true≢false}
use Rattle.std.specs.Prelude.{Bool, true, false, ◌&&◌, ◌==◌}
use Rattle.std.proofs.lemmas.Bool.{eq-eqb}
use Rattle.std.proofs.lemmas.Bool.Decides.{Decides-eqb}
use Rattle.lost_values.specs.declared.loss.LossKind.{LossKind}
use Rattle.lost_values.specs.declared.loss.LossKind.TheVariants.{Signal, FailedStore, TagStatus}
use Rattle.lost_values.specs.Touches.{is_same}

pub and-left : (a b : Bool) → (a && b) ≡ true → a ≡ true
and-left true b h = refl
and-left false b h = h

pub and-right : (a b : Bool) → (a && b) ≡ true → b ≡ true
and-right true b h = h
and-right false b h = absurd (true≢false (sym h))

pub and-both : (a b : Bool) → a ≡ true → b ≡ true → (a && b) ≡ true
and-both true b x y = y
and-both false b x y = x

pub same-refl : (x : LossKind) → is_same x x ≡ true
same-refl (Signal p r) = and-both (p == p) (r == r) (eq-eqb p p refl) (eq-eqb r r refl)
same-refl (FailedStore p) = eq-eqb p p refl
same-refl (TagStatus p) = eq-eqb p p refl

pub same-is : (x y : LossKind) → is_same x y ≡ true → x ≡ y
same-is (Signal p r) (Signal q s) h =
    ap (λ (k : ℕ). Signal k r) ((Decides-eqb p q).0 (and-left (p == q) (r == s) h)) ∙ ap (Signal q) ((Decides-eqb r s).0 (and-right (p == q) (r == s) h))
same-is (FailedStore p) (FailedStore q) h = ap FailedStore ((Decides-eqb p q).0 h)
same-is (TagStatus p) (TagStatus q) h = ap TagStatus ((Decides-eqb p q).0 h)
same-is (Signal p r) (FailedStore q) h = absurd (true≢false (sym h))
same-is (Signal p r) (TagStatus q) h = absurd (true≢false (sym h))
same-is (FailedStore p) (Signal q s) h = absurd (true≢false (sym h))
same-is (FailedStore p) (TagStatus q) h = absurd (true≢false (sym h))
same-is (TagStatus p) (Signal q s) h = absurd (true≢false (sym h))
same-is (TagStatus p) (FailedStore q) h = absurd (true≢false (sym h))
