use Rattle.std.proofs.Common.{◌∙◌, sym}
use Rattle.race_order.specs.Stamps.{IsStamp}
use Rattle.race_order.proofs.Standings.{name_is, name_within}
use Rattle.race_order.proofs.orderer.Orderer.is_before.Goals as goal

pub knows-requires-clause-sets : goal.knows-requires-clause-sets
knows-requires-clause-sets g c = c.requires.0.chains

pub knows-requires-clause-own : goal.knows-requires-clause-own
knows-requires-clause-own g c = c.requires.0.own_spe

pub knows-requires-clause-last : goal.knows-requires-clause-last
knows-requires-clause-last g c = c.requires.0.last_chains

pub knows-requires-clause-chain : goal.knows-requires-clause-chain
knows-requires-clause-chain g c = name_within c.args.self.now g.trace c.args.i c.index.result.now c.requires.0 (name_is c.args.self.now g.trace c.args.i c.index.result.now c.requires.0 c.requires.1 c.index.ensures)

pub returns : goal.returns
returns g c =
    let st : IsStamp c.args.self.now.spes g.trace c.args.i c.index.result.now = name_is c.args.self.now g.trace c.args.i c.index.result.now c.requires.0 c.requires.1 c.index.ensures in (
      λ t. (c.requires.0.last.says c.args.i c.index.result.now st c.requires.1).0 (sym c.knows.ensures ∙ t),
      λ o. c.knows.ensures ∙ (c.requires.0.last.says c.args.i c.index.result.now st c.requires.1).1 o,
    )
