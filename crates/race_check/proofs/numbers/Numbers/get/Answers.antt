use Rattle.std.proofs.Common.{rules}
use Rattle.race_check.proofs.NumberLaws.{has_page, on_page, reads}
use Rattle.race_check.proofs.numbers.Numbers.get.Goals as goal

pub index-requires : goal.index-requires
index-requires c =
    let old = c.self.inside in
    let inside = has_page old.count old.starts.items old.kept.items c.args.self.now c.self.view_is c.self.invariant.0 c.self.invariant.1 c.args.slot c.requires in
    search rules

pub index-requires-2 : goal.index-requires-2
index-requires-2 c =
    let old = c.self.inside in
    let inside = on_page old.count old.starts.items old.kept.items c.args.self.now c.self.view_is c.self.invariant.0 c.self.invariant.1 c.args.slot c.requires c.index.result.now c.index.ensures in
    search rules

pub returns : goal.returns
returns c =
    let old = c.self.inside in
    reads old.count old.starts.items old.kept.items c.args.self.now c.self.view_is c.self.invariant.0 c.self.invariant.1 c.args.slot c.requires c.index.result.now c.index.ensures c.index-2.result.now c.index-2.ensures
