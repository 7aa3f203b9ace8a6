use Rattle.std.proofs.Common.{◌∷◌, ◌++◌, [], map, ap, ap₂, sym, subst, ◌∙◌}
use Rattle.std.proofs.lemmas.List.{map-append}
use Rattle.std.specs.List.{list_any}
use Rattle.race_order.specs.declared.roles.Class.TheVariants.{All, Tag, BarredTag, Barriers}
use Rattle.race_order.specs.Passes.{AreMoved, from_class, when}
use Rattle.race_order.specs.Tables.{sets_have}
use Rattle.race_order.proofs.Moved.{lists_in_turn}
use Rattle.race_order.proofs.passes.pass_issued.Goals as goal

pub returns-clause-has : goal.returns-clause-has
returns-clause-has c =
    let i = c.args.issued.now in
    let f = from_class i.spe i.cmd in
    let tag = i.command.tag in
    let t0 = sets_have c.args.sets.now in
    let t1 = sets_have c.pass_when.new.sets in
    let t2 = sets_have c.pass_when-2.new.sets in
    let t3 = sets_have c.pass_when-3.new.sets in
    let t4 = sets_have c.pass_when-4.new.sets in
    let all = when c.barrier.result All in
    let own = when c.marked.result (Tag tag) in
    let last = lists_in_turn (map f (BarredTag tag ∷ [])) (map f (Barriers ∷ [])) t2 t3 t4 c.in_ok-pass_when-3.ensures.has c.in_ok-pass_when-4.ensures.has in
    let some = lists_in_turn (map f own) (map f (BarredTag tag ∷ Barriers ∷ [])) t1 t2 t4 c.in_ok-pass_when-2.ensures.has last in
    let whole = lists_in_turn (map f all) (map f own ++ map f (BarredTag tag ∷ Barriers ∷ [])) t0 t1 t4 c.in_ok-pass_when.ensures.has some in
    subst (λ ms. AreMoved (λ g. list_any g ms) t0 t4)
    (ap (λ l. map f all ++ l) (sym (map-append f own (BarredTag tag ∷ Barriers ∷ []))) ∙ (sym (map-append f all (own ++ (BarredTag tag ∷ Barriers ∷ [])))
    ∙ ap₂ (λ x y. map f (when x All ++ (when y (Tag tag) ++ (BarredTag tag ∷ Barriers ∷ [])))) c.barrier.ensures c.marked.ensures)) whole
