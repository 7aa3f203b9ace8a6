use Rattle.std.proofs.Common.{◌++◌, ◌∷◌, [], map, length, sym, ap, ◌∙◌, arith}
use Rattle.std.proofs.lemmas.List.{length_push}
use Rattle.cell_machine.specs.Opening.{Opening}
use Rattle.cell_machine.specs.Run.{state_of}
use Rattle.hunt_reports.specs.declared.ended.AtEnd.{AtEnd}
use Rattle.hunt_reports.specs.Endings.{ended_in}
use Rattle.hunt_reports.proofs.Ends.{ended_more, spe_at, of_state, take_past}
use Rattle.hunt_reports.proofs.ended.ended_of.Goals as goal

pub loop-p-preserved : goal.loop-p-preserved
loop-p-preserved c =
    let e : AtEnd = record { status = c.status.result; pc = c.pc.result } in
    record {
      ended = λ M at.
          let here = spe_at (state_of c.args.m.now) c.loop-p.p _ _ M at c.status.ensures c.pc.ensures in
          c.in_ok-push.ensures.items ∙ ap (λ xs. xs ++ e ∷ []) (c.loop-p.invariant.ended M at)
          ∙ ended_more M.spes c.loop-p.p here.0 e here.1 (λ i. record { status = sym here.2 i; pc = sym here.3 i });
      long = let n = length_push c.loop-p.ended.items e in let l = ap length c.in_ok-push.ensures.items in let k = c.loop-p.invariant.long in omega (arith, n, l, k);
    }

pub returns-clause-ended : goal.returns-clause-ended
returns-clause-ended c = λ M at.
    let count = of_state (state_of c.args.m.now) _ M at c.setup.ensures.count in
    let same = ap (λ (S : Opening). length S.entries) c.setup.ensures.setup in
    let all = c.spes-p-end.ensures.count in
    let past = c.loop-p-test.false in
    c.loop-p.invariant.ended M at ∙ ap (map ended_in) (take_past M.spes c.loop-p.p (omega (arith, count, same, all, past)))

pub returns-clause-few : goal.returns-clause-few
returns-clause-few c = let k = c.loop-p.invariant.long in let e = c.loop-p.auto.p-end in let f = c.spes-p-end.ensures.few in omega (arith, k, e, f)
