use Rattle.std.proofs.Common.{rules, ◌≡◌, ◌+◌, ◌*◌, ◌<◌, ◌||◌, ◌&&◌, ◌∙◌, ◌++◌, ◌∷◌, [], length, sym, subst, ap, arith}
use Rattle.order_sets.specs.declared.facts.Fact.TheVariants.{Upto}
use Rattle.order_sets.specs.Facts.{covers}
use Rattle.race_order.specs.declared.roles.QueueRole.TheVariants.{Base}
use Rattle.race_order.specs.declared.roles.Role.TheVariants.{OfExec}
use Rattle.race_order.specs.Stamps.{event_of, stamp}
use Rattle.race_order.specs.Tables.{same_role, sets_have, AreOf}
use Rattle.race_order.proofs.OwnStands.{own_low, own_stands}
use Rattle.race_order.proofs.orderer.Orderer.take_plain.Goals as goal

pub extend_own-requires-clause-sets : goal.extend_own-requires-clause-sets
extend_own-requires-clause-sets g c =
    let st = c.requires.1.0 in
    subst (λ n. AreOf n c.args.self.now.sets) (sym st.chains.0.2) st.chains

pub extend_own-requires-clause-chain : goal.extend_own-requires-clause-chain
extend_own-requires-clause-chain g c =
    let st = c.requires.1.0 in
    let low : c.args.spe < c.args.self.now.spes = own_low c.args.self.now g.trace c.args.step c.args.effect.now c.args.spe c.requires.0 st c.requires.1.1.0 c.requires.1.1.1.0 in
    let many : 3 * c.args.self.now.sets.table.spes + 1 ≡ 3 * c.args.self.now.spes + 1 = st.chains.0.2 in
    omega arith

pub extend_own-requires-clause-inside : goal.extend_own-requires-clause-inside
extend_own-requires-clause-inside g c =
    let st = c.requires.1.0 in
    let low : c.args.spe < c.args.self.now.spes = own_low c.args.self.now g.trace c.args.step c.args.effect.now c.args.spe c.requires.0 st c.requires.1.1.0 c.requires.1.1.1.0 in
    let many : 3 * c.args.self.now.sets.table.spes + 1 ≡ 3 * c.args.self.now.spes + 1 = st.chains.0.2 in
    let long : length c.args.self.now.sets.own.items ≡ c.args.self.now.sets.table.spes = st.chains.1 in
    omega arith

pub returns-clause-stands : goal.returns-clause-stands
returns-clause-stands g c =
    let o = c.args.self.now in
    let st = c.requires.1.0 in
    let place : c.len-place.result ≡ length g.trace = c.len-place.ensures ∙ search rules in
    own_stands o g.trace c.args.step c.args.effect.now c.args.spe c.requires.0 st c.requires.1.1.0 c.requires.1.1.1.0 c.extend_own.new.self c.push.new.self
    (subst (λ n. AreOf n c.extend_own.new.self) st.chains.0.2 c.in_ok-extend_own.ensures.chains)
    (λ r a. c.in_ok-extend_own.ensures.has r a ∙ ap (λ k. sets_have o.sets r a || (same_role (Base (OfExec c.args.spe)) r && covers (Upto c.args.spe k) a)) place)
    (c.in_ok-push.ensures.items ∙ ap (λ a. o.names.items ++ (a ∷ [])) (c.name-at.ensures ∙ ap (λ k. stamp o.spes k (event_of c.args.step c.args.effect.now)) place))
