use Rattle.std.proofs.Common.{rules, ◌≡◌, List, length, sym, ◌∙◌, subst, inl}
use Rattle.std.specs.Vec.{with_items}
use Rattle.cell_machine.proofs.AllTwo.{whole}
use Rattle.run_permute.specs.SettledLists.{Each, AreChanged}
use Rattle.run_permute.specs.Tracks.{IsClosed, IsNotAbove, IsWithinBounds}
use Rattle.run_permute.specs.declared.strand.Strand.{Strand}
use Rattle.run_permute.proofs.Bounds.{closed-bounded, none-closed}
use Rattle.run_permute.proofs.SettledChanges.{changed-long}
use Rattle.run_permute.proofs.block.Block.close.Goals as goal

pub returns-then-is_none : goal.returns-then-is_none
returns-then-is_none g c =
    let m = g.here.run in
    let j = g.here.place in
    let old = c.args.self.now in
    let ws = c.close_all.new.strands in
    let high = c.high_of-self.result in
    let R = IsClosed m j c.args.index in
    let changed = subst (λ (ls : List Strand). AreChanged R (length ls) ls ws) c.as_mut_slice.ensures.value c.close_all.ensures in
    let same : (with_items old.strands ws).items ≡ ws = whole old.strands.len ws old.strands.items (old.strands.ok.0 ∙ sym (changed-long R (length old.strands.items) old.strands.items ws changed)) in
    let until = subst (Each (λ (s : Strand). IsNotAbove high s.until)) (c.deref.ensures.value ∙ same) c.high_of-self.ensures in
    record {
      strands = subst (AreChanged R (length old.strands.items) old.strands.items) (sym same) changed;
      bounded = subst (Each (IsWithinBounds old.low high)) (sym same) (closed-bounded m j c.args.index old.low old.high high old.strands.items ws changed c.requires.1.1 until);
      kept = inl (search rules);
    }

pub returns-else-is_none : goal.returns-else-is_none
returns-else-is_none g c = none-closed g.here.run g.here.place c.args.index c.args.self.now c.requires.1.1
