use Rattle.std.proofs.Common.{◌||◌, ap, ◌∙◌, ◌++◌}
use Rattle.std.specs.Prelude.{codes, nat_lt}
use Rattle.hunt_texts.specs.Lists.{item_text}
use Rattle.hunt_texts.specs.Heads.{outcome}
use Rattle.hunt_texts.proofs.RowLemmas.{seven_items}
use Rattle.hunt_texts.proofs.heads.put_outcomes.Goals as goal

pub returns : goal.returns
returns c =
    let b1 = c.in_ok-race.ensures.begun in
    let b2 = c.in_ok-halt.ensures.begun ∙ ap (λ b. b || nat_lt 0 c.args.c.halt.runs) b1 in
    let b3 = c.in_ok-fault.ensures.begun ∙ ap (λ b. b || nat_lt 0 c.args.c.fault.runs) b2 in
    let b4 = c.in_ok-stuck.ensures.begun ∙ ap (λ b. b || nat_lt 0 c.args.c.stuck.runs) b3 in
    let b5 = c.in_ok-livelock.ensures.begun ∙ ap (λ b. b || nat_lt 0 c.args.c.livelock.runs) b4 in
    let b6 = c.in_ok-missed.ensures.begun ∙ ap (λ b. b || nat_lt 0 c.args.c.missed.runs) b5 in
    seven_items _ _ _ _ _ _ _ _ _ _ _ _ _ _ _ c.in_ok-race.ensures.text
    (c.in_ok-halt.ensures.text ∙ ap (λ b. c.put_outcome.new.out.items ++ item_text b (outcome (codes "HALT") c.args.c.halt)) b1)
    (c.in_ok-fault.ensures.text ∙ ap (λ b. c.put_outcome-2.new.out.items ++ item_text b (outcome (codes "FAULT") c.args.c.fault)) b2)
    (c.in_ok-stuck.ensures.text ∙ ap (λ b. c.put_outcome-3.new.out.items ++ item_text b (outcome (codes "DEADLOCK") c.args.c.stuck)) b3)
    (c.in_ok-livelock.ensures.text ∙ ap (λ b. c.put_outcome-4.new.out.items ++ item_text b (outcome (codes "LIVELOCK") c.args.c.livelock)) b4)
    (c.in_ok-missed.ensures.text ∙ ap (λ b. c.put_outcome-5.new.out.items ++ item_text b (outcome (codes "EXPECTED LINE MISSING") c.args.c.missed)) b5)
    (c.in_ok-put_outcome.ensures.text ∙ ap (λ b. c.put_outcome-6.new.out.items ++ item_text b (outcome (codes "BUDGET SPENT") c.args.c.budget)) b6)
