-- What a set takes in at once.
use Rattle.std.proofs.Common.{◌≡◌, Bool, ◌||◌, ◌&&◌, true, false, Option, Some, None, refl, sym, ap, ◌∙◌}
use Rattle.order_sets.specs.declared.facts.At.{At}
use Rattle.order_sets.specs.declared.facts.Fact.{Fact}
use Rattle.order_sets.specs.Facts.{covers}
use Rattle.order_sets.specs.Stands.{has_at}
use Rattle.race_order.specs.declared.brought.Brought.{Brought}
use Rattle.race_order.specs.Bringing.{has_brought}
use Rattle.race_order.specs.Gains.{some_covers, has_gain}
use Rattle.race_order.proofs.Moved.{or_none}
use Rattle.race_order.proofs.SameRole.{or_assoc}

gain_is : (b : Brought) (more : Option Fact) (at : At) → (has_brought b at || some_covers more at) ≡ has_gain b more at
gain_is b None at = sym (or_none (has_brought b at))
gain_is b (Some fact) at = refl

-- it takes in what is known, then the step, then what one more fact covers
pub gained : (b : Brought) (more : Option Fact) (at : At) (old first second last : Bool) → first ≡ (old || has_at b.known.now at) → second ≡ (first || covers b.fact at) → last ≡ (second || some_covers more at)
    → last ≡ (old || has_gain b more at)
gained b more at old first second last e f g =
    g
    ∙ (ap (λ x. x || some_covers more at) (f ∙ (ap (λ x. x || covers b.fact at) e ∙ or_assoc old (has_at b.known.now at) (covers b.fact at)))
    ∙ (or_assoc old (has_brought b at) (some_covers more at) ∙ ap (λ x. old || x) (gain_is b more at)))

-- where a command is complete, all of it is more than its first elements
pub whole_has : (a b c done : Bool) → done ≡ true → (a && b) ≡ ((a && (b && c)) || (done && (a && b)))
whole_has true true true done e = refl
whole_has true true false done e = rw e refl
whole_has true false c done e = rw e refl
whole_has false b c done e = rw e refl

pub first_has : (a b done : Bool) → done ≡ false → a ≡ (a || (done && b))
first_has a b done e = rw e (or_none a)
