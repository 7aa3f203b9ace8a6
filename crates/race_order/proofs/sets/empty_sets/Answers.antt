use Rattle.std.proofs.Common.{rules, ◌≡◌, ◌+◌, ◌*◌, All, false, sym, subst}
use Rattle.std.proofs.lemmas.List.Elements.{All-push}
use Rattle.order_sets.specs.declared.facts.At.{At}
use Rattle.race_order.specs.declared.own.Own.{Own}
use Rattle.race_order.specs.Tables.{own_has, IsOwnOf}
use Rattle.race_order.proofs.sets.empty_sets.Goals as goal

pub loop-spe-preserved : goal.loop-spe-preserved
loop-spe-preserved c = record {
  long = search rules;
  chains = subst (All (IsOwnOf (3 * c.args.spes + 1))) (sym c.in_ok-push.ensures.items) (All-push (IsOwnOf (3 * c.args.spes + 1)) c.loop-spe.sets.items c.in_ok-own.own c.loop-spe.invariant.chains c.in_ok-own.ensures.own);
  empty = subst (All (λ (own : Own). (at : At) → own_has own at ≡ false)) (sym c.in_ok-push.ensures.items) (All-push (λ (own : Own). (at : At) → own_has own at ≡ false) c.loop-spe.sets.items c.in_ok-own.own c.loop-spe.invariant.empty c.in_ok-own.ensures.empty);
}
