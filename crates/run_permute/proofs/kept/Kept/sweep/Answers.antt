use Rattle.std.proofs.Common.{ℕ, ◌-◌, ◌<◌, ◌≤◌, List, length, refl, subst}
use Rattle.std.specs.Prelude.{slice_index}
use Rattle.reorder_laws.specs.OrderedLaws.{IsOrdered}
use Rattle.run_permute.specs.SettledLists.{IsIn}
use Rattle.run_permute.proofs.Sweeps.{swept-to}
use Rattle.run_permute.proofs.kept.Kept.sweep.Goals as goal

pub unknown-left-requires : goal.unknown-left-requires
unknown-left-requires g c = (c.requires.0, λ i h. c.requires.1 i (subst (IsIn i) c.as_slice.ensures.value h))

pub returns : goal.returns
returns g c =
    let same = c.as_slice.ensures.value in
    let n = c.unknown-left.result in
    swept-to g.here.run g.here.place n c.args.self.now _ refl refl c.truncate.ensures.items (subst (λ (xs : List ℕ). n ≤ length xs) same c.unknown-left.ensures.few)
    (subst (λ (xs : List ℕ). (x : ℕ) → n ≤ x → x < length xs → IsOrdered g.here.run (slice_index xs x) g.here.place) same c.unknown-left.ensures.known)
    (subst (λ (xs : List ℕ). 0 < n → IsOrdered g.here.run (slice_index xs (n - 1)) g.here.place → ⊥) same c.unknown-left.ensures.stop)
