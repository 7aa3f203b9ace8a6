use Rattle.std.proofs.Common.{◌≡◌, ◌+◌, [], ◌++◌, replicate, ap, sym, subst, ◌∙◌, arith}
use Rattle.hunt_tally.specs.Tallies.{Tallied}
use Rattle.hunt_tally.specs.Joins.{joined, Fits}
use Rattle.hunt_tally.specs.Views.{entries_in}
use Rattle.hunt_tally.proofs.Joining.{tallies_fit, tallies_joined, tallied_none}
use Rattle.hunt_tally.proofs.tally.Tally.join.Goals as goal
use Rattle.hunt_tally.proofs.tally.Tally.join.Goals.{In_ok-join_entries}

pub join_entries-requires : goal.join_entries-requires
join_entries-requires c =
    let here : Tallied = record { runs = c.self.inside.runs; entries = entries_in c.self.inside.entries.entries } in
    let behind : Tallied = record { runs = c.other.inside.runs; entries = entries_in c.other.inside.entries.entries } in
    let own = ap (λ (t : Tallied). t.runs) c.self.view_is in
    let others = ap (λ (t : Tallied). t.runs) c.other.view_is in (
      c.other.inside.runs,
      omega (arith, own, others, c.requires),
      subst (λ m. Fits here.runs behind.runs (entries_in m.entries) behind.entries) (sym c.replace-entries.ensures.value)
          (tallies_fit here behind c.self.invariant.0 c.other.invariant.0 c.self.invariant.1 c.other.invariant.1),
    )

-- nothing is kept
pub invariant_of-self : goal.invariant_of-self
invariant_of-self c =
    let n = c.self.inside.runs + c.other.inside.runs in
    let none : entries_in c.replace-entries.new.dest.entries ≡ [] = ap (λ m. entries_in m.entries) c.replace-entries.ensures.after ∙ ap entries_in c.new.ensures.empty in
    (replicate n [], (λ i. record { runs = n; entries = none i }) ∙ tallied_none n)

all : (c : In_ok-join_entries) → entries_in c.join_entries.new.entries.entries ≡ joined c.self.inside.runs (entries_in c.self.inside.entries.entries) (entries_in c.other.inside.entries.entries)
all c = c.in_ok-join_entries.ensures ∙ ap (λ m. joined c.self.inside.runs (entries_in m.entries) (entries_in c.other.inside.entries.entries)) c.replace-entries.ensures.value

pub invariant_of-self-2 : goal.invariant_of-self-2
invariant_of-self-2 c =
    let here : Tallied = record { runs = c.self.inside.runs; entries = entries_in c.self.inside.entries.entries } in
    let behind : Tallied = record { runs = c.other.inside.runs; entries = entries_in c.other.inside.entries.entries } in (
      c.self.invariant.0 ++ c.other.invariant.0,
      tallies_joined here behind (entries_in c.join_entries.new.entries.entries) (all (goal.at.invariant_of-self-2 c).In_ok-join_entries) c.self.invariant.0 c.other.invariant.0 c.self.invariant.1 c.other.invariant.1,
    )

pub returns-clause-joined : goal.returns-clause-joined
returns-clause-joined c = λ runs behind here there.
    tallies_joined (record { runs = c.self.inside.runs; entries = entries_in c.self.inside.entries.entries }) (record { runs = c.other.inside.runs; entries = entries_in c.other.inside.entries.entries })
    (entries_in c.join_entries.new.entries.entries) (all (goal.at.returns-clause-joined c).In_ok-join_entries) runs behind (c.self.view_is ∙ here) (c.other.view_is ∙ there)
