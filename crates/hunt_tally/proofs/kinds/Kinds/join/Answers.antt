use Rattle.std.proofs.Common.{sym, ap, ◌∙◌, arith}
use Rattle.std.proofs.lemmas.List.Sums.{sum_by-cons}
use Rattle.hunt_tally.specs.declared.kinds.Kind.{Kind}
use Rattle.hunt_tally.specs.Kinds.{kinds_in, runs_of, with_kinds}
use Rattle.hunt_tally.proofs.KindLemmas.{runs-more}
use Rattle.hunt_tally.proofs.kinds.Kinds.join.Goals as goal

pub loop-digest-preserved : goal.loop-digest-preserved
loop-digest-preserved c =
    let now = ap runs_of c.in_ok-add.ensures.taken ∙ runs-more c.loop-digest.self c.in-Some.digest c.in-Some.runs in
    let left = ap (λ es. runs_of (kinds_in es)) c.in-Some.ensures.steps ∙ sum_by-cons (λ (k : Kind). k.runs) (record { digest = c.in-Some.digest; runs = c.in-Some.runs }) (kinds_in c.next.new.self) in
    let all = c.loop-digest.invariant.runs in
    record {
      can = tt;
      finite = tt;
      taken = ap (λ ks. with_kinds ks (kinds_in c.next.new.self)) c.in_ok-add.ensures.taken ∙ ap (λ es. with_kinds c.loop-digest.self (kinds_in es)) (sym c.in-Some.ensures.steps) ∙ c.loop-digest.invariant.taken;
      runs = omega (arith, now, left, all);
    }
