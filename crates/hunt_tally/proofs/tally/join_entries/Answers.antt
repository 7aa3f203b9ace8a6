use Rattle.std.proofs.Common.{ℕ, ◌+◌, ◌<◌, ◌^◌, ◌∷◌, List, sym, ap, ◌∙◌, subst}
use Rattle.hunt_tally.specs.Tallies.{Entry}
use Rattle.hunt_tally.specs.Joins.{joined, runs_telling, Fits}
use Rattle.hunt_tally.specs.Views.{entries_in, entry_in}
use Rattle.hunt_tally.proofs.Joining.{fits_here, fits_next}
use Rattle.hunt_tally.proofs.tally.join_entries.Goals as goal
use Rattle.hunt_tally.proofs.tally.join_entries.Goals.{In-Some}

-- what is left begins with the entry that is taken in next
left : (c : In-Some) (runs : ℕ) → Fits c.args.before runs (entries_in c.args.entries.now.entries) (entries_in c.args.behind.entries)
    → Fits c.args.before runs (entries_in c.loop-key.entries.entries) (entry_in (c.in-Some.key, c.in-Some.counted) ∷ entries_in c.next.new.self)
left c runs fits = subst (λ es. Fits c.args.before runs (entries_in c.loop-key.entries.entries) (entries_in es)) c.in-Some.ensures.steps (c.loop-key.invariant.fits runs fits)

here : (c : In-Some) → (runs_telling c.in-Some.key.items (entries_in c.loop-key.entries.entries) + c.in-Some.counted.runs < 2 ^ 32) × (c.args.before + c.in-Some.counted.first < 2 ^ 32) × (c.args.before + c.in-Some.counted.last < 2 ^ 32)
here c = fits_here c.args.before c.requires.0 (entries_in c.loop-key.entries.entries) (entry_in (c.in-Some.key, c.in-Some.counted)) (entries_in c.next.new.self) c.requires.1 (left c c.requires.0 c.requires.2)

pub join_in-requires-clause-runs : goal.join_in-requires-clause-runs
join_in-requires-clause-runs c = (here (goal.at.join_in-requires-clause-runs c).In-Some).0

pub join_in-requires-clause-first : goal.join_in-requires-clause-first
join_in-requires-clause-first c = (here (goal.at.join_in-requires-clause-first c).In-Some).1

pub join_in-requires-clause-last : goal.join_in-requires-clause-last
join_in-requires-clause-last c = (here (goal.at.join_in-requires-clause-last c).In-Some).2

pub loop-key-preserved : goal.loop-key-preserved
loop-key-preserved c =
    let es : List Entry = entries_in c.loop-key.entries.entries in
    let next : Entry = entry_in (c.in-Some.key, c.in-Some.counted) in
    record {
      can = tt;
      finite = tt;
      taken = ap (λ xs. joined c.args.before xs (entries_in c.next.new.self)) c.in_ok-join_in.ensures ∙ ap (λ xs. joined c.args.before es (entries_in xs)) (sym c.in-Some.ensures.steps) ∙ c.loop-key.invariant.taken;
      fits = λ runs fits.
          subst (λ xs. Fits c.args.before runs xs (entries_in c.next.new.self)) (sym c.in_ok-join_in.ensures)
          (fits_next c.args.before runs es next (entries_in c.next.new.self) (subst (λ xs. Fits c.args.before runs es (entries_in xs)) c.in-Some.ensures.steps (c.loop-key.invariant.fits runs fits)));
    }
