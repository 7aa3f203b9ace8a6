use Rattle.std.proofs.Common.{rules, ◌≡◌, suc, ◌∷◌, [], ◌++◌, length, sym, ap, ◌∙◌, subst, arith}
use Rattle.std.specs.Prelude.{cond}
use Rattle.run_progress.specs.Progress.{last_change}
use Rattle.run_progress.specs.Tracks.{AreReads, AreRecent}
use Rattle.run_progress.proofs.Kept.{change-more, whole-so}
use Rattle.run_progress.proofs.tracks.Tracks.follow.Goals as goal

pub returns-then-repeated : goal.returns-then-repeated
returns-then-repeated c = λ spes run made of place follows.
    let t = c.args.self.now in
    let more = run ++ made ∷ [] in
    let long : length c.add_step.new.recent ≡ length t.recent.items = c.in_ok-add_step.ensures.many ∙ ap length c.as_mut_slice.ensures.value in
    let long2 : length c.add_step-2.new.reads ≡ length t.reads.items = c.add_step-2.ensures.many ∙ ap length c.as_mut_slice-2.ensures.value in
    let size : t.recent.len ≡ length t.recent.items = search rules in
    let size2 : t.reads.len ≡ length t.reads.items = search rules in
    let last : last_change more ≡ suc (length run) = change-more run made ∙ ap (λ b. cond b (suc (length run)) (last_change run)) (of.changes_is ∙ c.if-repeated.true) in
    record {
      change_is = omega (arith, last, place);
      recent = whole-so (AreRecent more) t.recent.len c.add_step.new.recent t.recent.items size long (c.in_ok-add_step.ensures.recent run made of (subst (AreRecent run) (sym c.as_mut_slice.ensures.value) follows.recent));
      spes_recent = whole-so (λ xs. length xs ≡ spes) t.recent.len c.add_step.new.recent t.recent.items size long (long ∙ follows.spes_recent);
      reads = whole-so (AreReads more) t.reads.len c.add_step-2.new.reads t.reads.items size2 long2 (c.add_step-2.ensures.reads run made of (subst (AreReads run) (sym c.as_mut_slice-2.ensures.value) follows.reads));
      spes_read = whole-so (λ xs. length xs ≡ spes) t.reads.len c.add_step-2.new.reads t.reads.items size2 long2 (long2 ∙ follows.spes_read);
      writes = c.in_ok-add_step-2.ensures run made of place follows.writes;
    }

pub returns-else-repeated : goal.returns-else-repeated
returns-else-repeated c = λ spes run made of place follows.
    let t = c.args.self.now in
    let more = run ++ made ∷ [] in
    let long : length c.add_step.new.recent ≡ length t.recent.items = c.in_ok-add_step.ensures.many ∙ ap length c.as_mut_slice.ensures.value in
    let long2 : length c.add_step-2.new.reads ≡ length t.reads.items = c.add_step-2.ensures.many ∙ ap length c.as_mut_slice-2.ensures.value in
    let size : t.recent.len ≡ length t.recent.items = search rules in
    let size2 : t.reads.len ≡ length t.reads.items = search rules in
    let last : last_change more ≡ last_change run = change-more run made ∙ ap (λ b. cond b (suc (length run)) (last_change run)) (of.changes_is ∙ c.if-repeated.false) in
    record {
      change_is = follows.change_is ∙ sym last;
      recent = whole-so (AreRecent more) t.recent.len c.add_step.new.recent t.recent.items size long (c.in_ok-add_step.ensures.recent run made of (subst (AreRecent run) (sym c.as_mut_slice.ensures.value) follows.recent));
      spes_recent = whole-so (λ xs. length xs ≡ spes) t.recent.len c.add_step.new.recent t.recent.items size long (long ∙ follows.spes_recent);
      reads = whole-so (AreReads more) t.reads.len c.add_step-2.new.reads t.reads.items size2 long2 (c.add_step-2.ensures.reads run made of (subst (AreReads run) (sym c.as_mut_slice-2.ensures.value) follows.reads));
      spes_read = whole-so (λ xs. length xs ≡ spes) t.reads.len c.add_step-2.new.reads t.reads.items size2 long2 (long2 ∙ follows.spes_read);
      writes = c.in_ok-add_step-2.ensures run made of place follows.writes;
    }
