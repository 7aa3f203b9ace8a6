-- The writers of what processors poll are steps of the run, and a run that is no livelock has a last change.
use Rattle.std.proofs.Common.{◌≡◌, ℕ, zero, suc, ◌≤◌, ◌<◌, Bool, false, true≢false, List, [], ◌∷◌, length, map, sym, ap, ◌∙◌, arith, Option, Some, None, subst}
use Rattle.std.proofs.lemmas.List.{length-map}
use Rattle.std.specs.Prelude.{◌==◌, ◌||◌, ◌-◌, IfSome, not, option_and_then, option_map}
use Rattle.std.specs.Option.{option_map_or}
use Rattle.cell_base.specs.declared.steps.Step.{Step}
use Rattle.cell_machine.specs.declared.effect.Span.{Span}
use Rattle.cell_machine.specs.State.{State}
use Rattle.cell_machine.specs.Next.{next}
use Rattle.cell_machine.specs.Run.{Ran}
use Rattle.cell_machine.specs.Traces.{Event, event, trace_from, trace_of}
use Rattle.cell_machine.proofs.StepBytes.{of_map, of_then}
use Rattle.run_progress.specs.declared.progress.Poll.{Poll}
use Rattle.run_progress.specs.Made.{event_of, made_of}
use Rattle.run_progress.specs.Progress.{last_place, poll_of, polled, spe_progress, writes_in}
use Rattle.run_progress.proofs.Lists.{last_place-within}
use Rattle.hunt_reports.specs.declared.spent.Spent.{Spent}
use Rattle.hunt_reports.specs.declared.locations.Location.{Location}
use Rattle.hunt_reports.specs.Spent.{is_fair, is_livelock, IsLoop, IsSpentBy}
use Rattle.cell_machine.specs.declared.status.End.{End}
use Rattle.cell_machine.specs.declared.status.End.TheVariants.{AllStopped, Stuck, Budget}
use Rattle.std.proofs.lemmas.Slice.Zip.{AllZip-long}

trace_long : (M : State) (steps : List Step) (es : List Event) → trace_from M steps ≡ Some es → length es ≡ length steps
trace_long M [] es e = let same : [] ≡ es = cc in ap length (sym same)
trace_long M (s ∷ steps) es e =
    of_then (λ x. option_and_then (λ N. option_map (λ events. x ∷ events) (trace_from N steps)) (next M s)) (event M s) es (λ es. length es ≡ suc (length steps)) e (λ x _ rest.
    of_then (λ N. option_map (λ events. x ∷ events) (trace_from N steps)) (next M s) es (λ es. length es ≡ suc (length steps)) rest (λ N _ more.
    of_map (λ events. x ∷ events) (trace_from N steps) es (λ es. length es ≡ suc (length steps)) more (λ events traced. ap suc (trace_long N steps events traced))))

pub made_long : (m : Ran) → trace_of m ≡ Some (map event_of (made_of m)) → length (made_of m) ≡ length m.steps
made_long m traced = sym (length-map (made_of m) event_of) ∙ trace_long _ m.steps (map event_of (made_of m)) traced

pub writer_within : (m : Ran) (p : ℕ) → length (made_of m) ≡ length m.steps → IfSome (spe_progress (made_of m) p).polled (λ (poll : Poll). IfSome poll.writer (λ i. i < length m.steps))
unfolding spe_progress
writer_within m p long = on (polled p (made_of m))
  where
    within : (o : Option ℕ) → option_map_or suc o 0 ≤ length (made_of m) → IfSome o (λ i. i < length m.steps)
    within None h = tt
    within (Some i) h = omega (arith, h, long)

    on : (o : Option Span) → IfSome (option_map (poll_of (made_of m)) o) (λ (poll : Poll). IfSome poll.writer (λ i. i < length m.steps))
    on None = tt
    on (Some read) = within (last_place (writes_in read) (made_of m)) (last_place-within (writes_in read) (made_of m))

pub progressed : (s : Spent) → is_livelock s ≡ false → 0 < s.last_change
progressed s fails = on s.last_change (not (is_fair s.budget (s.last_change - 1))) fails
  where
    on : (n : ℕ) (b : Bool) → ((n == 0) || b) ≡ false → 0 < n
    on zero b e = absurd (true≢false e)
    on (suc n) b e = omega arith

-- as many loops as processors that run
pub few_spent : (m : Ran) (running : List Location) (end : End) (spent : Option Spent) → length running ≤ 16 → IsSpentBy m running end spent → IfSome spent (λ s. length s.loops.items ≤ 16)
few_spent m running Budget None few h = tt
few_spent m running Budget (Some s) few h = subst (λ n. n ≤ 16) (sym (AllZip-long (IsLoop m) running s.loops.items h.loops)) few
few_spent m running AllStopped spent few h = subst (λ (o : Option Spent). IfSome o (λ s. length s.loops.items ≤ 16)) (sym h) tt
few_spent m running Stuck spent few h = subst (λ (o : Option Spent). IfSome o (λ s. length s.loops.items ≤ 16)) (sym h) tt
