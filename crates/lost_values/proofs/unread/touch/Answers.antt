use Rattle.std.proofs.Common.{◌≡◌, ℕ, List, [], ◌∷◌, ◌++◌, ap, sym, subst, ◌∙◌, filter}
use Rattle.std.specs.Prelude.{Bool, Contains, IfNone, IfSome, Option, not, if◌then◌else◌}
use Rattle.std.proofs.lemmas.List.{append-nil}
use Rattle.lost_values.specs.declared.touches.Touch.{Touch}
use Rattle.lost_values.specs.declared.unread.Unread.{Unread}
use Rattle.lost_values.specs.Keeping.{IsLostBy, IsTouched, values_after}
use Rattle.lost_values.specs.Touches.{is_same}
use Rattle.lost_values.proofs.Values.{lost-by}
use Rattle.lost_values.proofs.unread.touch.Goals as goal
use Rattle.lost_values.proofs.unread.touch.Goals.{then-touched+in_ok-push, else-touched}

pub returns : goal.returns
returns c =
    let t = c.in-Some.touched in
    let place = c.args.place in
    let old = c.args.values.now.items in
    let others : List Unread = filter (λ v. not (is_same t.kind v.kind)) old in
    let here : Unread = record { kind = t.kind; place = place } in
    let pushed : (b : Bool) → t.counts ≡ b → others ++ (if b then here ∷ [] else []) ≡ values_after t place old = λ b is. ap (λ (a : Bool). others ++ (if a then here ∷ [] else [])) (sym is) in
    let values : c.if-touched.values.items ≡ values_after t place old = elim c.if-touched.branch [
      | then-touched+in_ok-push w ↦ ap (λ v. v.items) w.values-is ∙ w.in_ok-push.ensures.items ∙ ap (λ vs. vs ++ here ∷ []) c.drop_kind.ensures ∙ pushed _ w.if-touched.true
      | else-touched w ↦ ap (λ v. v.items) w.values-is ∙ c.drop_kind.ensures ∙ sym (append-nil others) ∙ pushed _ w.if-touched.false
    ] in
    let was = c.place_of-was.result in
    let slice = c.as_slice.ensures.value in
    let found : IfSome was (λ i. Contains old (record { kind = t.kind; place = i })) =
    subst (λ (vs : List Unread). IfSome was (λ i. Contains vs (record { kind = t.kind; place = i }))) slice c.place_of-was.ensures.found in
    let none : IfNone was ((i : ℕ) → Contains old (record { kind = t.kind; place = i }) → ⊥) =
    subst (λ (vs : List Unread). IfNone was ((i : ℕ) → Contains vs (record { kind = t.kind; place = i }) → ⊥)) slice c.place_of-was.ensures.none in
    let lost : IsLostBy t place old c.loss_of.result = lost-by t place old was c.loss_of.result found none c.loss_of.ensures in
    subst (λ (o : Option Touch). IsTouched o place old c.if-touched.values.items c.loss_of.result) (sym c.in-Some.is) (values, lost)
