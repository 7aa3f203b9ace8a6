use Rattle.std.proofs.Common.{◌≡◌, rules, ap, sym, subst, ◌∙◌}
use Rattle.std.specs.Prelude.{Vec}
use Rattle.std.specs.declared.alloc.Global.{Global}
use Rattle.cell_hunt.specs.declared.executed.Executed.{Executed}
use Rattle.cell_hunt.specs.Endings.{AreAllEndings}
use Rattle.cell_hunt.specs.Ends.{IsOver}
use Rattle.cell_hunt.specs.Executed.{executed_in}
use Rattle.cell_hunt.specs.Kinds.{kind_of}
use Rattle.cell_hunt.specs.Origins.{Knows}
use Rattle.cell_hunt.specs.Racings.{IsSearched}
use Rattle.cell_hunt.specs.SoFar.{made_by}
use Rattle.lost_values.specs.Losses.{AreAllLosses}
use Rattle.unwritten_reads.specs.Reads.{AreAllUnwritten}
use Rattle.race_check.proofs.Accepted.{search-told}
use Rattle.cell_hunt.proofs.AllEndings.{all-endings}
use Rattle.cell_hunt.proofs.AllRaces.{all-races, least-race}
use Rattle.cell_hunt.proofs.Determined.{run-one}
use Rattle.cell_hunt.proofs.Touching.{kind_is}
use Rattle.cell_hunt.proofs.running.run_of_seed.Goals as goal

pub invariant_of-result : goal.invariant_of-result
invariant_of-result c =
    let so_far = c.make_all.new.so_far in
    let m = made_by so_far in
    let searched = c.in_ok-make_all.ensures.searched in
    let is = search-told so_far.search searched.keeps in
    subst (λ r. IsSearched r so_far.least so_far.races.items × (c.kind-kind.result ≡ kind_of r) × AreAllEndings r so_far.endings.items × (c.into_executed-executed.result.items ≡ executed_in r) × AreAllLosses r c.in_ok-losses.losses.items × AreAllUnwritten r c.finish-unwritten_reads.result.items × Knows r so_far.origins) (sym c.into_machine.ensures) (
      record { over = c.in_ok-make_all.ensures.over; is_least = least-race m is so_far.least searched.least; are_all = all-races m is so_far.races.items searched.all },
      c.kind-kind.ensures ∙ kind_is m so_far.touched searched.touched,
      all-endings m so_far.endings.items searched.endings,
      ap (λ (v : Vec Executed Global). v.items) c.into_executed-executed.ensures ∙ searched.touched.executed,
      c.in_ok-losses.ensures m searched.losses,
      c.finish-unwritten_reads.ensures m searched.unwritten,
      searched.knows,
    )

pub returns-clause-only : goal.returns-clause-only
returns-clause-only c = λ n is. run-one _ _ _ n _ is (search rules)

pub returns-clause-over : goal.returns-clause-over
returns-clause-over c = subst IsOver (sym c.into_machine.ensures) c.in_ok-make_all.ensures.over
