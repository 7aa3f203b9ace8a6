use Rattle.std.proofs.Common.{rules, ◌||◌, ◌+◌, map, ap, sym, ◌∙◌}
use Rattle.std.specs.List.{list_any}
use Rattle.order_sets.proofs.AnySet.{any_snoc}
use Rattle.race_order.specs.Ordering.{below, fix_move}
use Rattle.race_order.specs.Tables.{sets_have}
use Rattle.race_order.proofs.Moved.{still, in_turn, moved_as, up_list, up_one}
use Rattle.race_order.proofs.Tags.{below_none, below_more, map_snoc}
use Rattle.race_order.proofs.passes.pass_tags.Goals as goal

pub loop-tag-init : goal.loop-tag-init
loop-tag-init c = record {
  has = still (λ g. list_any g (map (fix_move c.args.spe) (below 0))) (sets_have c.args.sets.now) (λ g. ap (λ l. list_any g (map (fix_move c.args.spe) l)) below_none);
  chains = search rules;
  spare = search rules;
}

pub loop-tag-preserved : goal.loop-tag-preserved
loop-tag-preserved c =
    let f = fix_move c.args.spe in
    let tag = c.loop-tag.tag in
    record {
      has =
          moved_as (λ g. list_any g (map f (below tag)) || g (f tag)) (λ g. list_any g (map f (below (tag + 1)))) (sets_have c.args.sets.now) (sets_have c.pass_tag.new.sets)
          (λ g. sym (ap (λ l. list_any g (map f l)) (below_more tag) ∙ (ap (list_any g) (map_snoc f (below tag) tag) ∙ any_snoc g (map f (below tag)) (f tag))))
          (in_turn (λ g. list_any g (map f (below tag))) (λ g. g (f tag)) (sets_have c.args.sets.now) (sets_have c.loop-tag.sets) (sets_have c.pass_tag.new.sets) (up_list (map f (below tag))) (up_one (f tag)) c.loop-tag.invariant.has c.in_ok-pass_tag.ensures.has);
      chains = search rules;
      spare = search rules;
    }
