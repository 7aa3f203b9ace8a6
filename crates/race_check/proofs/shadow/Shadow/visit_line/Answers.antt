use Rattle.std.proofs.lemmas.Option.{slice_get-get_or}
use Rattle.std.proofs.Common.{refl, sym, ap, ◌∙◌, Some}
use Rattle.race_check.specs.Walks.{IsOrdered}
use Rattle.race_check.proofs.Prefixes.{is_ordered-trans, is_ordered-up}
use Rattle.race_check.proofs.Lists.{takes_longer}
use Rattle.race_check.proofs.Visits.{takes_entry}
use Rattle.race_check.proofs.shadow.Shadow.visit_line.Goals as goal

pub returns : goal.returns
returns c =
    let m = c.args.walk.now.machine in
    let inside = c.in_ok-number.ensures.inside in
    let at = slice_get-get_or c.list.new.self.lists.items c.in_ok-number.number c.index_mut.result.now inside ∙ ap Some (sym c.index_mut.ensures.value) in
    takes_longer (IsOrdered m) c.args.self.now c.list.new.self _ c.args.entry.now c.args.writes c.args.line c.in_ok-number.ensures.lengthened c.in_ok-latest.latest
    (takes_entry (IsOrdered m) (is_ordered-trans m) (is_ordered-up m) c.list.new.self _ c.in_ok-number.number _ c.visit.new.self c.args.entry.now c.args.writes c.args.line inside refl refl at c.in_ok-number.ensures.number c.in_ok-latest.latest c.in_ok-latest.ensures)
