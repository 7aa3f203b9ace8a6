use Rattle.std.proofs.Common.{◌≡◌, ◌+◌, ◌≤◌, eqb, sym, ap, ◌∙◌, subst, arith}
use Rattle.indexmap.specs.IndexMap.{insert_entry}
use Rattle.hunt_tally.specs.Kinds.{kinds_in, runs_of, runs_with, with_runs}
use Rattle.hunt_tally.proofs.KindLemmas.{runs-more, runs-within, with_more}
use Rattle.hunt_tally.proofs.kinds.Kinds.add.Goals as goal
use Rattle.hunt_tally.proofs.kinds.Kinds.add.Goals.{In_ok-insert}

pub overflow_add-before : goal.overflow_add-before
overflow_add-before c = let less = runs-within c.args.self.now c.args.digest in omega (arith, less, c.requires, c.runs-before.ensures)

taken : (c : In_ok-insert) → kinds_in c.insert.new.self.entries ≡ with_runs c.args.self.now c.args.digest c.args.runs
taken c =
    let es = c.self.inside.counts.entries in
    ap kinds_in c.in_ok-insert.ensures.entries
    ∙ ap (λ runs. kinds_in (insert_entry eqb es c.args.digest (runs + c.args.runs))) (c.runs-before.ensures ∙ ap (λ kinds. runs_with kinds c.args.digest) (sym c.self.view_is))
    ∙ with_more c.args.digest c.args.runs es ∙ ap (λ kinds. with_runs kinds c.args.digest c.args.runs) c.self.view_is

pub returns-clause-taken : goal.returns-clause-taken
returns-clause-taken c = taken c

pub returns-clause-runs : goal.returns-clause-runs
returns-clause-runs c =
    let more = runs-more c.args.self.now c.args.digest c.args.runs in
    subst (λ kinds. runs_of kinds ≤ runs_of c.args.self.now + c.args.runs) (sym (taken c)) (omega (arith, more))
