use Rattle.std.proofs.Common.{◌++◌, ap, sym, subst, ◌∙◌, option_to_list}
use Rattle.cell_hunt.specs.Kinds.{line_touch, value_touch}
use Rattle.cell_hunt.specs.Touched.{AreDigests}
use Rattle.cell_hunt.proofs.Touching.{four_more}
use Rattle.cell_hunt.proofs.touched.Touched.add.Goals as goal

pub returns-clause-more : goal.returns-clause-more
returns-clause-more c = λ all are.
    (let e = c.args.effect.now in
    let read = c.line_touch.ensures ∙ ap (λ who. line_touch who e.reads) c.actor_number-who.ensures in
    let wrote = c.line_touch-2.ensures ∙ ap (λ who. line_touch who e.writes) c.actor_number-who.ensures in
    let value = c.value_touch.ensures ∙ ap (λ who. value_touch who e.note) c.actor_number-who.ensures in
    let done = c.in_ok-touch_some-4.ensures.more _ (c.in_ok-touch_some-3.ensures.more _ (c.in_ok-touch_some-2.ensures.more _ (c.in_ok-touch_some.ensures.more all (subst (AreDigests all) (sym c.execute.ensures.digests) are)))) in
    subst (λ more. AreDigests (all ++ more) c.touch_some-4.new.self.digests)
    (λ i. option_to_list (c.program_touch.ensures i) ++ option_to_list (read i) ++ option_to_list (wrote i) ++ option_to_list (value i))
    (four_more c.touch_some-4.new.self.digests all _ _ _ _ done))
