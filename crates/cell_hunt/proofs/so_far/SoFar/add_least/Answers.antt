use Rattle.std.proofs.Common.{sym, ◌∙◌, subst}
use Rattle.cell_hunt.specs.Sites.{AreSites}
use Rattle.cell_hunt.specs.SoFar.{IsLeastTo, made_by}
use Rattle.cell_hunt.proofs.AllRaces.{least-first, none_of}
use Rattle.cell_hunt.proofs.so_far.SoFar.add_least.Goals as goal

pub returns-clause-least : goal.returns-clause-least
returns-clause-least c =
    let m = made_by c.args.self.now in
    let none = subst (IsLeastTo c.args.second m) (none_of c.args.self.now.least (sym c.is_some.ensures ∙ c.if-is_some.false)) c.requires.searched.least in
    (least-first m c.args.second c.first_race-first.result none c.first_race-first.ensures, subst (λ r. AreSites r c.first_race-first.result c.args.second c.sites-sites.result) c.machine.ensures c.sites-sites.ensures)
