use Rattle.std.proofs.Common.{rules, ℕ, ◌<◌, List, length, not, sym, ap, ◌∙◌, subst}
use Rattle.std.specs.Prelude.{filter}
use Rattle.std.proofs.lemmas.Fn.{filter_same}
use Rattle.run_permute.specs.declared.kept.Kept.{Kept}
use Rattle.run_permute.specs.SettledLists.{AreChanged, Each, IsIn}
use Rattle.run_permute.specs.Watches.{IsSwept, is_closed}
use Rattle.cell_machine.proofs.AllTwo.{whole}
use Rattle.run_permute.proofs.SettledChanges.{changed-long}
use Rattle.run_permute.proofs.watch.Watch.sweep.Goals as goal

pub sweep_all-requires : goal.sweep_all-requires
sweep_all-requires g c = (c.requires.0, subst (Each (λ (k : Kept). (i : ℕ) → IsIn i k.steps.items → i < g.here.place)) (sym c.as_mut_slice.ensures.value) c.requires.1)

pub returns-clause-swept : goal.returns-clause-swept
returns-clause-swept g c = record {
  between = c.sweep_all.new.kept;
  swept = subst (λ (ks : List Kept). AreChanged (IsSwept g.here.run g.here.place) (length ks) ks c.sweep_all.new.kept) c.as_mut_slice.ensures.value c.sweep_all.ensures;
  left = filter_same _ (λ (k : Kept). not (is_closed k)) _ (λ x b f k. search rules) _ _ c.retain.ensures.filtered
      ∙ ap (filter {X = Kept} (λ (k : Kept). not (is_closed k)))
      (whole c.args.self.now.kept.len c.sweep_all.new.kept c.args.self.now.kept.items (sym (changed-long (IsSwept g.here.run g.here.place) (length c.as_mut_slice.result.now) c.as_mut_slice.result.now c.sweep_all.new.kept c.sweep_all.ensures ∙ c.as_mut_slice.ensures.len)));
}
