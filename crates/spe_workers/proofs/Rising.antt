-- Places that rise.
use Rattle.std.proofs.Common.{◌≡◌, ℕ, ◌+◌, ◌<◌, ◌≤◌, List, [], ◌∷◌, ◌++◌, length, Some, refl, sym, ap, ◌∙◌, subst, arith, append_assoc, append-nil, le_refl, le_trans}
use mathlib.Core.List.{IsPrefix}
use Rattle.cell_base.specs.declared.steps.Actor.{Actor}
use Rattle.cell_base.specs.declared.steps.Step.{Step}
use Rattle.cell_machine.specs.declared.status.End.{End}
use Rattle.cell_machine.specs.Opening.{Opening}
use Rattle.cell_machine.specs.Run.{Ran, IsRun, EndsAs, HasEnd}
use Rattle.cell_turn.specs.Choice.{ran}
use Rattle.cell_machine.proofs.Runs.{ended_is_whole}
use Rattle.cell_turn.specs.Known.{Known, Rests}
use Rattle.cell_turn.specs.Told.{Stays, Makes, IsOver}
use Rattle.cell_turn.proofs.Fronts.{prefix_self, prefix_trans, prefix_length}
use Rattle.spe_workers.specs.Worked.{Rises, Further, Worked}

rises_push : (from upto at upto' : ℕ) (s : Step) (ts : List (ℕ × Step)) → Rises from upto ts → upto ≤ at → at < upto' → Rises from upto' (ts ++ (at, s) ∷ [])
rises_push from upto at upto' s [] h le lt = (omega arith, omega arith)
rises_push from upto at upto' s (t ∷ ts) h le lt = (h.0, rises_push (t.0 + 1) upto at upto' s ts h.1 le lt)

rises_more : (from upto upto' : ℕ) (ts : List (ℕ × Step)) → Rises from upto ts → upto ≤ upto' → Rises from upto' ts
rises_more from upto upto' [] h le = le_trans h le
rises_more from upto upto' (t ∷ ts) h le = (h.0, rises_more (t.0 + 1) upto upto' ts h.1 le)

pub further_self : (p : Known) → Further p p
further_self p = record { same = (refl, refl, refl, refl); begins = prefix_self p.seen; more = []; told = sym (append-nil p.told); rises = le_refl (length p.seen) }

stays_trans : (p q r : Known) → Stays p q → Stays q r → Stays p r
stays_trans p q r a b = (b.0 ∙ a.0, b.1 ∙ a.1, b.2 ∙ a.2, b.3 ∙ a.3)

pub further_step : (p q r : Known) (actor : Actor) (choice at : ℕ) (s : Step) → Further p q → Stays q r → Makes q r actor choice at s → Further p r
further_step p q r actor choice at s f same m = record {
  same = stays_trans p q r f.same same;
  begins = prefix_trans p.seen q.seen r.seen f.begins m.begins;
  more = f.more ++ (at, s) ∷ [];
  told = m.told ∙ (ap (λ l. l ++ (at, s) ∷ []) f.told ∙ append_assoc p.told f.more ((at, s) ∷ []));
  rises = rises_push (length p.seen) (length q.seen) at (length r.seen) s f.more f.rises m.not_below (let e = m.place in omega arith);
}

pub worked : (p q r : Known) (end : End) → Further p q → Stays q r → IsOver q r end → Rests r → Worked p r
worked p q r end f same o rests = record {
  further = record {
    same = stays_trans p q r f.same same;
    begins = prefix_trans p.seen q.seen r.seen f.begins o.begins;
    more = f.more;
    told = o.told ∙ f.told;
    rises = rises_more (length p.seen) (length q.seen) (length r.seen) f.more f.rises (prefix_length q.seen r.seen o.begins);
  };
  rests = rests;
  ended = (end, subst (λ (k : Opening). EndsAs (ran k r.seen) (Some end)) (sym same.1) o.is_end);
}

-- no step follows a record that has an end
pub nothing_follows : (m : Ran) (setup : Opening) (seen : List Step) → m.setup ≡ setup → HasEnd (ran setup seen) → IsPrefix seen m.steps → IsRun m.setup m.steps → HasEnd m
nothing_follows m setup seen same ended begins is_run =
    let here : HasEnd (ran m.setup seen) = subst (λ (k : Opening). HasEnd (ran k seen)) (sym same) ended in
    let whole = ended_is_whole m seen here.0 is_run here.1 begins in
    subst (λ (l : List Step). HasEnd (ran m.setup l)) whole here
