-- When two spans share a byte.
use Rattle.std.proofs.Common.{◌≡◌, ℕ, ◌+◌, ◌≤◌, ◌<◌, true, max, refl, sym, ap, ◌∙◌, arith}
use Rattle.std.proofs.lemmas.Bool.{and_from, and_parts, le-leb, lt-ltb, leb-true, ltb-true, eq-eqb, eqb-true}
use Rattle.cell_machine.specs.declared.effect.Place.{Place}
use Rattle.cell_machine.specs.declared.effect.Place.TheVariants.{Memory, Local}
use Rattle.cell_machine.specs.declared.effect.Span.{Span}
use Rattle.cell_machine.specs.EffectLaws.{same_place}
use Rattle.race_check.specs.Races.{Meet}

pub place_from : (p q : Place) → same_place p q ≡ true → p ≡ q
place_from Memory Memory e = refl
place_from Memory (Local q) e = cc
place_from (Local p) Memory e = cc
place_from (Local p) (Local q) e = ap Local (eqb-true p q e)

pub place_same : (p q : Place) → p ≡ q → same_place p q ≡ true
place_same Memory Memory e = refl
place_same Memory (Local q) e = absurd cc
place_same (Local p) Memory e = absurd cc
place_same (Local p) (Local q) e = eq-eqb p q cc

-- the first byte that could be in both is in both
pub meets_from : (a b : Span) (x : ℕ) → x ≡ max a.at b.at → same_place a.place b.place ≡ true → x < a.at + a.len → x < b.at + b.len → Meet a b
meets_from a b x e s f g =
    record {
      place = a.place;
      at = x;
      in_first = and_from _ _ (place_same a.place a.place refl) (and_from _ _ (le-leb _ _ (omega arith)) (lt-ltb _ _ f));
      in_second = and_from _ _ (place_same b.place a.place (sym (place_from a.place b.place s))) (and_from _ _ (le-leb _ _ (omega arith)) (lt-ltb _ _ g));
    }

pub record Parts (a b : Span) (x : ℕ) : Type 0 where
  pub same : same_place a.place b.place ≡ true
  pub first : x < a.at + a.len
  pub second : x < b.at + b.len

pub meets_parts : (a b : Span) (x : ℕ) → x ≡ max a.at b.at → Meet a b → Parts a b x
meets_parts a b x e m =
    let p = and_parts _ _ m.in_first in
    let q = and_parts _ _ m.in_second in
    let p' = and_parts _ _ p.1 in
    let q' = and_parts _ _ q.1 in
    let low_a : a.at ≤ m.at = leb-true _ _ p'.0 in
    let high_a : m.at < a.at + a.len = ltb-true _ _ p'.1 in
    let low_b : b.at ≤ m.at = leb-true _ _ q'.0 in
    let high_b : m.at < b.at + b.len = ltb-true _ _ q'.1 in
    record {
      same = place_same a.place b.place (place_from a.place m.place p.0 ∙ sym (place_from b.place m.place q.0));
      first = omega arith;
      second = omega arith;
    }
