-- Blocks of strands and their bounds.
use Rattle.std.proofs.Common.{ℕ, ◌≤◌, List, length, refl, sym, ap, subst, arith, inl, inr, Option, Some, None}
use Rattle.cell_machine.specs.Run.{Ran}
use Rattle.run_permute.specs.SettledLists.{Each, AreChanged}
use Rattle.run_permute.specs.Tracks.{IsNotAbove, IsWithinBounds, IsBounded, IsClosed, IsBlockClosed}
use Rattle.run_permute.specs.declared.block.Block.{Block}
use Rattle.run_permute.specs.declared.strand.Strand.{Strand}
use Rattle.run_permute.proofs.Changes.{changed-each}
use Rattle.run_permute.proofs.Ones.{changed-same, each-two}

-- closed strands stay above the lower bound; the new upper one is theirs
pub closed-bounded : (m : Ran) (j index low : ℕ) (high new : Option ℕ) (ls ns : List Strand) → AreChanged (IsClosed m j index) (length ls) ls ns → Each (IsWithinBounds low high) ls → Each (λ (l : Strand). IsNotAbove new l.until) ns → Each (IsWithinBounds low new) ns
closed-bounded m j index low high new ls ns changed within until =
    each-two (λ (l : Strand). low ≤ l.from) (λ (l : Strand). IsNotAbove new l.until) (IsWithinBounds low new) ns (λ l from high. record { low = from; high = high })
    (changed-each (IsClosed m j index) (IsWithinBounds low high) (λ (l : Strand). low ≤ l.from) (length ls) ls ns (omega arith) changed (λ x y r p. subst (λ f. low ≤ f) (sym (ap (λ (s : Strand). s.from) r.rest)) p.low) within) until

-- a block with an upper bound stays as it is
pub none-closed : (m : Ran) (j index : ℕ) (b : Block) → IsBounded b → IsBlockClosed m j index b b
none-closed m j index b bounded = record { strands = changed-same (IsClosed m j index) (length b.strands.items) b.strands.items (λ l. record { rest = refl; until = inl refl }); bounded = bounded; kept = inr refl }

-- below a bound is below a higher one
pub above-more : (high new : ℕ) (until : Option ℕ) → high ≤ new → IsNotAbove (Some high) until → IsNotAbove (Some new) until
above-more high new None le h = h
above-more high new (Some until) le h = omega arith
