use Rattle.std.proofs.Common.{◌||◌, ap, ◌∙◌, ◌++◌}
use Rattle.std.specs.Prelude.{codes, nat_lt}
use Rattle.hunt_texts.specs.Lists.{item_text}
use Rattle.hunt_texts.specs.Ends.{end_item}
use Rattle.hunt_texts.proofs.RowLemmas.{three_items}
use Rattle.hunt_texts.proofs.ends.put_items.Goals as goal

pub returns : goal.returns
returns c =
    let b1 = c.in_ok-begun.ensures.begun in
    let b2 = c.in_ok-begun_stuck.ensures.begun ∙ ap (λ b. b || nat_lt 0 c.args.stuck) b1 in
    three_items _ _ _ _ _ _ _ c.in_ok-begun.ensures.text
    (c.in_ok-begun_stuck.ensures.text ∙ ap (λ b. c.put_end.new.out.items ++ item_text b (end_item (codes " Stuck") c.args.stuck)) b1)
    (c.in_ok-put_end.ensures.text ∙ ap (λ b. c.put_end-2.new.out.items ++ item_text b (end_item (codes " Budget") c.args.spent)) b2)
