-- The rules on the queue say the same by counting in the trace and by how far each command has come.
use Rattle.std.proofs.Common.{◌≡◌, ℕ, suc, ◌+◌, ◌-◌, ◌<◌, ◌≤◌, Bool, true, length, take, Some, None, ◌⊎◌, inl, inr, refl, sym, ap, ◌∙◌, subst, subst₂, arith}
use Rattle.std.specs.Prelude.{◌↔◌, if◌then◌else◌, IsBitSet}
use Rattle.std.proofs.lemmas.Bool.{cases_lt, eq-eqb, both_ways}
use Rattle.std.proofs.lemmas.List.{take-take, take_all, length-take-le}
use Rattle.std.proofs.lemmas.Option.{slice_get_within}
use Rattle.cell_base.specs.declared.steps.Step.{Step}
use Rattle.cell_base.specs.declared.steps.Step.TheVariants.{Exec, Elem}
use Rattle.mfc_command.specs.declared.command.Command.{Command}
use Rattle.mfc_command.specs.Order.{precedes}
use Rattle.cell_machine.specs.declared.effect.Note.{Note}
use Rattle.cell_machine.specs.declared.effect.Note.TheVariants.{Issue, Ack, Element}
use Rattle.race_order.specs.Trace.{Trace, IsStep, Notes}
use Rattle.race_order.specs.declared.progress.Progress.{Progress}
use Rattle.race_order.specs.Status.{status, next_status, first_status, begun, issued_as}
use Rattle.race_order.specs.Queue.{Has, IsStalled, Before as BeforeByStatus, ReadsElement as ReadsByStatus, IsStepOfElement as StepByStatus, Resumes as ResumesByStatus}
use Rattle.race_order.specs.Commands.{IsIssued, Before, is_read, reads, pieces, is_piece, ReadsElement, IsStepOfElement, IsFlagDone, Resumes}
use Rattle.race_order.specs.Premises.{MayStep, IsQueued, QueueMay}
use Rattle.race_order.specs.Rules.{Rule, Queued, Queue, ElementPiece, NextElement, StallSeen, Resumed, ResumedEarlier, TagSeen, Edge, Ordered, One, Then}
use Rattle.race_order.specs.StatusRules.{Rule as RuleByStatus, Queued as QueuedByStatus, Queue as QueueByStatus, ElementPiece as ElementPieceByStatus, NextElement as NextElementByStatus, StallSeen as StallSeenByStatus, Resumed as ResumedByStatus, ResumedEarlier as ResumedEarlierByStatus, TagSeen as TagSeenByStatus}
use Rattle.race_order.proofs.Places.{get_take, take_step}
use Rattle.race_order.proofs.Counts.{count_here, counts_rise}
use Rattle.race_order.proofs.LookedAt.{step_here, step_there, notes_here, notes_there}
use Rattle.race_order.proofs.Histories.{status_next, Later, later_at, issued_there, read_there, valid_at}
use Rattle.race_order.proofs.Elements.{may_at, step_of, elem_fits, of_itself}
use Rattle.race_order.proofs.Tallies.{Full, grown, Waits, Resumed as WasResumed, waits_or, done_full, full_done, stalled_full, counted, tracked, reads_at, last_flag}

pub queued_take : (T : Trace) (i : ℕ) → i ≤ length T → IsQueued T → IsQueued (take i T)
queued_take T i low queued k e at =
    let less : k < length (take i T) = slice_get_within (take i T) k e at in
    let in_front : k < i = omega (arith, less, length-take-le i T low) in
    subst (λ t. QueueMay t e) (sym (take-take k i T (omega arith))) (queued k e (sym (get_take T i k in_front) ∙ at))

all_of : (T : Trace) → take (length T) T ≡ T
all_of T = take_all (length T) T (omega arith)

module _ (T : Trace) (queued : IsQueued T) where
  -- ---- commands that were issued

  -- it has come so far
  pub record Found (p c : ℕ) (command : Command) : Type 0 where
    pub progress : Progress
    pub has : Has T p c progress
    pub same : progress.command ≡ command

  pub found : (p c : ℕ) (command : Command) → IsIssued T p c command → Found p c command
  found p c command is =
      let e = is.issue.event in
      let low : is.place < length T = slice_get_within T is.place e is.issue.at in
      let next = ((queued is.place e is.issue.at).issue p c command is.issue.is is.issue.notes).0 in
      let none : status p c (take is.place T) ≡ None = next.above c (omega arith) in
      let new : status p c (take (suc is.place) T) ≡ Some (begun command) =
      ap (status p c) (take_step T is.place e is.issue.at)
      ∙ (status_next p c (take is.place T) e
      ∙ (ap (λ o. next_status p c o e) none
      ∙ first e.step e.effect.note is.issue.is is.issue.notes)) in
      let l : Later (take (length T) T) p c (begun command) = later_at T p c (suc is.place) (length T) (begun command) (omega arith) (omega arith) record { is = new } in
      record { progress = l.progress; has = subst (λ t. Has t p c l.progress) (all_of T) l.has; same = l.grows.command }
    where
      first : (step : Step) (note : Note) → step ≡ Exec p → note ≡ Issue c command → first_status p c step note ≡ Some (begun command)
      first step note is tells =
          ap (λ s. first_status p c s note) is
          ∙ (ap (λ n. first_status p c (Exec p) n) tells
          ∙ (ap (λ (b : Bool). if b then issued_as c (Issue c command) else None) (eq-eqb p p refl)
          ∙ ap (λ (b : Bool). if b then Some (begun command) else None) (eq-eqb c c refl)))

  pub issued : (p c : ℕ) (s : Progress) → Has T p c s → IsIssued T p c s.command
  issued p c s h =
      let i = issued_there T p c (length T) s (omega arith) (subst (λ t. Has t p c s) (sym (all_of T)) h) in
      record { place = i.0; issue = i.2 }

  -- it asks for the same at the end
  at_end : (p c i : ℕ) (s t : Progress) → i ≤ length T → Has (take i T) p c s → Has T p c t → t.command ≡ s.command
  at_end p c i s t low h g = (grown T queued p c i (length T) s t low (omega arith) h (subst (λ u. Has u p c t) (sym (all_of T)) g)).command

  before_to : (p c d : ℕ) → BeforeByStatus T p c d → Before T p c d
  before_to p c d b = record { lower = b.lower; first = b.first.command; second = b.second.command; first_is = issued p c b.first b.first_is; second_is = issued p d b.second b.second_is; goes = b.goes }

  before_from : (p c d : ℕ) → Before T p c d → BeforeByStatus T p c d
  before_from p c d b =
      let f = found p c b.first b.first_is in
      let s = found p d b.second b.second_is in
      record { lower = b.lower; first = f.progress; second = s.progress; first_is = f.has; second_is = s.has; goes = subst₂ (λ (x y : Command). precedes x y ≡ true) (sym f.same) (sym s.same) b.goes }

  -- ---- steps of elements

  step_to : (i p c n : ℕ) → StepByStatus T i p c n → IsStepOfElement T i p c n
  step_to i p c n (inl r) = inl (counted T queued i p c n r)
  step_to i p c n (inr q) = inr q

  step_from : (i p c n : ℕ) → IsStepOfElement T i p c n → StepByStatus T i p c n
  step_from i p c n (inl r) = inl (tracked T queued i p c n r)
  step_from i p c n (inr q) = inr q

  -- ---- flagged elements that are done

  -- the command has come so far where the element is done
  record DoneAt (p c n i : ℕ) : Type 0 where
    progress : Progress
    has : Has (take i T) p c progress
    read : n + 1 ≤ progress.read

  done_at : (p c n i : ℕ) → i ≤ length T → IsFlagDone (take i T) p c n → DoneAt p c n i
  done_at p c n i low f =
      let place : f.place < length (take i T) = slice_get_within (take i T) f.place f.flag.event f.flag.at in
      let less : f.place < i = omega (arith, place, length-take-le i T low) in
      let step : IsStep T f.place (Elem p c) = step_there T f.place i (Elem p c) less f.read.step in
      let may : MayStep (take f.place T) p c step.event.step step.event.effect.note = may_at T queued f.place p c (step_of T queued f.place p c step) in
      let l : Later (take i T) p c may.progress = later_at T p c f.place i may.progress (omega arith) low may.has in
      let before : reads p c (take f.place T) ≡ n = sym (ap (reads p c) (take-take f.place i T (omega arith))) ∙ f.read.number in
      let more : reads p c (take f.place T) < reads p c (take i T) = count_here (λ e. is_read p c e.step) T f.place i step.event step.at (ap (is_read p c) step.is ∙ of_itself p c) less in
      let all : reads p c (take i T) ≡ l.progress.read = reads_at T queued p c i l.progress low l.has in
      record { progress = l.progress; has = l.has; read = omega arith }

  done_later : (p c n m j : ℕ) → m ≤ j → j ≤ length T → IsFlagDone (take m T) p c n → IsFlagDone (take j T) p c n
  done_later p c n m j below low f =
      let place : f.place < length (take m T) = slice_get_within (take m T) f.place f.flag.event f.flag.at in
      let less : f.place < m = omega (arith, place, length-take-le m T (let l : m ≤ length T = omega arith in l)) in
      let more : pieces p c n (take m T) ≤ pieces p c n (take j T) = counts_rise (λ e. is_piece p c n e.step) T m j below in
      let all = f.all in
      let there : f.place < j = omega arith in
      record {
        place = f.place;
        read = record {
          step = step_here T f.place j (Elem p c) there (step_there T f.place m (Elem p c) less f.read.step);
          number = ap (reads p c) (take-take f.place j T (omega arith)) ∙ (sym (ap (reads p c) (take-take f.place m T (omega arith))) ∙ f.read.number);
        };
        number = f.number;
        parts = f.parts;
        flag = notes_here T f.place j (Elem p c) (Element f.number f.parts true) there (notes_there T f.place m (Elem p c) (Element f.number f.parts true) less f.flag);
        all = omega arith;
      }

  -- ---- acknowledgements

  resumes_to : (i p c : ℕ) → ResumesByStatus T i p c → Resumes T i p c
  resumes_to i p c r =
      let within : i < length T = slice_get_within T i r.acknowledges.event r.acknowledges.at in
      let low : i ≤ length T = omega arith in
      let some : 0 < r.progress.read = (valid_at (take i T) p c r.progress r.has).listed r.stalled in
      let number : r.progress.read ≡ (r.progress.read - 1) + 1 = omega arith in
      let full : Full (r.progress.read - 1) r.progress = stalled_full T queued p c (r.progress.read - 1) i r.progress low r.has r.stalled number in
      record {
        command = r.progress.command;
        issued = first_issue low;
        acknowledges = r.acknowledges;
        element = r.progress.read - 1;
        last = reads_at T queued p c i r.progress low r.has ∙ number;
        done = full_done T queued p c (r.progress.read - 1) i r.progress low r.has full;
        first = λ k less ack done. none low full k less ack done (waits_or T queued p c (r.progress.read - 1) i r.progress low r.has full);
      }
    where
      first_issue : i ≤ length T → IsIssued (take i T) p c r.progress.command
      first_issue low = let f = issued_there T p c i r.progress low r.has in let less : f.0 < i = f.1 in record { place = f.0; issue = notes_here T f.0 i (Exec p) (Issue c r.progress.command) less f.2 }

      none : i ≤ length T → Full (r.progress.read - 1) r.progress → (k : ℕ) → k < i → Notes T k (Exec p) (Ack r.progress.command.tag) → IsFlagDone (take k T) p c (r.progress.read - 1)
          → Waits T queued p c (r.progress.read - 1) i r.progress ⊎ WasResumed T queued p c (r.progress.read - 1) i r.progress → ⊥
      none low full k less ack done (inr w) = absurd (both_ways _ w.calm r.stalled)
      none low full k less ack done (inl w) =
          let d : DoneAt p c (r.progress.read - 1) k = done_at p c (r.progress.read - 1) k (omega arith) done in
          let most : d.progress.read ≤ r.progress.read = (grown T queued p c k i d.progress r.progress (omega arith) low d.has r.has).read in
          let least = d.read in
          let number = full.read in
          w.none k d.progress less ack d.has (done_full T queued p c (r.progress.read - 1) k d.progress (omega arith) d.has (omega arith) done)

  resumes_by : (i p c : ℕ) (low : i ≤ length T) (r : Resumes T i p c) (s : Progress) → Has (take i T) p c s → s.command ≡ r.command → ResumesByStatus T i p c
  resumes_by i p c low r s h same =
      let number : s.read ≡ r.element + 1 = sym (reads_at T queued p c i s low h) ∙ r.last in
      let full : Full r.element s = done_full T queued p c r.element i s low h number r.done in
      at (waits_or T queued p c r.element i s low h full)
    where
      at : Waits T queued p c r.element i s ⊎ WasResumed T queued p c r.element i s → ResumesByStatus T i p c
      at (inl w) = record { progress = s; has = h; stalled = w.stalled; acknowledges = subst (λ (d : Command). Notes T i (Exec p) (Ack d.tag)) (sym same) r.acknowledges }
      at (inr w) =
          let less = w.before in
          absurd
          (r.first w.place less (subst (λ (d : Command). Notes T w.place (Exec p) (Ack d.tag)) same w.ack)
          (full_done T queued p c r.element w.place w.stall.progress (omega arith) w.stall.has
          (stalled_full T queued p c r.element w.place w.stall.progress (omega arith) w.stall.has w.stall.stalled w.stall.number)))

-- a rule looks at the steps before a place
module _ (T : Trace) (queued : IsQueued T) where
  resumes_from : (i p c : ℕ) → Resumes T i p c → ResumesByStatus T i p c
  resumes_from i p c r =
      let within : i < length T = slice_get_within T i r.acknowledges.event r.acknowledges.at in
      let low : i ≤ length T = omega arith in
      let f = found (take i T) (queued_take T i low queued) p c r.command r.issued in
      resumes_by T queued i p c low r f.progress f.has f.same

  -- ---- stalls

  -- where the element was done the list was stalled
  record StalledAt (p c n j : ℕ) : Type 0 where
    after : ℕ
    within : after ≤ j
    stall : IsStalled T after p c n

  stalled_at : (p c n j : ℕ) → j ≤ length T → IsFlagDone (take j T) p c n → StalledAt p c n j
  stalled_at p c n j low f =
      let d = done_at T queued p c n j low f in
      by d.progress d.has d.read (cases_lt (n + 1) d.progress.read)
    where
      waited : (i : ℕ) (s : Progress) → i ≤ j → Has (take i T) p c s → s.read ≡ n + 1 → Waits T queued p c n i s ⊎ WasResumed T queued p c n i s → StalledAt p c n j
      waited i s below h number (inl w) = record { after = i; within = below; stall = record { progress = s; has = h; stalled = w.stalled; number = number } }
      waited i s below h number (inr w) = let less = w.before in record { after = w.place; within = omega arith; stall = w.stall }

      by : (s : Progress) → Has (take j T) p c s → n + 1 ≤ s.read → (n + 1 < s.read) ⊎ (s.read ≤ n + 1) → StalledAt p c n j
      by s h least (inr most) =
          let number : s.read ≡ n + 1 = omega arith in
          waited j s (omega arith) h number (waits_or T queued p c n j s low h (done_full T queued p c n j s low h number f))
      by s h least (inl more) =
          let r : (k : ℕ) × (k < j) × ReadsByStatus T k p c (n + 1) = read_there T p c j s (n + 1) low h more in
          let less : r.0 < j = r.1 in
          let place : f.place < length (take j T) = slice_get_within (take j T) f.place f.flag.event f.flag.at in
          let before : f.place < j = omega (arith, place, length-take-le j T low) in
          let fits = elem_fits T queued r.0 p c (n + 1) r.2 in
          let left : r.2.progress.left ≡ 0 = fits.1 in
          let flag = notes_there T f.place j (Elem p c) (Element f.number f.parts true) before f.flag in
          let here : ReadsElement T f.place p c n = record { step = step_there T f.place j (Elem p c) before f.read.step; number = sym (ap (reads p c) (take-take f.place j T (omega arith))) ∙ f.read.number } in
          let says = last_flag T queued p c n r.0 f.place f.number f.parts r.2.progress (omega arith) r.2.has r.2.number here flag in
          waited r.0 r.2.progress (omega arith) r.2.has r.2.number
          (waits_or T queued p c n r.0 r.2.progress (omega arith) r.2.has record { read = r.2.number; flagged = says.0; left = left })

  -- ---- the rules

  pub to_status : (i j : ℕ) → Queued T i j → QueuedByStatus T i j
  to_status i j (Queue p c d s t b) = QueueByStatus p c d s t (before_from T queued p c d b)
  to_status i j (ElementPiece p c n k r s) = ElementPieceByStatus p c n k (tracked T queued i p c n r) s
  to_status i j (NextElement p c n s r) = NextElementByStatus p c n (step_from T queued i p c n s) (tracked T queued j p c (n + 1) r)
  to_status i j (StallSeen p c n groups command s f is reads bit) =
      let within : j < length T = slice_get_within T j reads.event reads.at in
      let m = stalled_at p c n j (omega arith) f in
      let below = m.within in
      let g = found T queued p c command is in
      let same : m.stall.progress.command ≡ command = sym (at_end T queued p c m.after m.stall.progress g.progress (omega arith) m.stall.has g.has) ∙ g.same in
      StallSeenByStatus p c n m.after groups (step_from T queued i p c n s) m.within m.stall reads (subst (λ (d : Command). IsBitSet groups d.tag) (sym same) bit)
  to_status i j (Resumed p c r s) = ResumedByStatus p c (resumes_from i p c r) s
  to_status i j (ResumedEarlier p c d r s b) = ResumedEarlierByStatus p c d (resumes_from i p c r) s (before_from T queued p c d b)
  to_status i j (TagSeen p c groups number command s is reads bit low) =
      let f = found T queued p c command is in
      TagSeenByStatus p c groups number f.progress s f.has reads (subst (λ (d : Command). IsBitSet groups d.tag) (sym f.same) bit) low

  pub from_status : (i j : ℕ) → QueuedByStatus T i j → Queued T i j
  from_status i j (QueueByStatus p c d s t b) = Queue p c d s t (before_to T queued p c d b)
  from_status i j (ElementPieceByStatus p c n k r s) = ElementPiece p c n k (counted T queued i p c n r) s
  from_status i j (NextElementByStatus p c n s r) = NextElement p c n (step_to T queued i p c n s) (counted T queued j p c (n + 1) r)
  from_status i j (StallSeenByStatus p c n m groups s below stall reads bit) =
      let within : j < length T = slice_get_within T j reads.event reads.at in
      let end = later_at T p c m (length T) stall.progress (omega arith) (omega arith) stall.has in
      let is : IsIssued T p c end.progress.command = issued T queued p c end.progress (subst (λ t. Has t p c end.progress) (all_of T) end.has) in
      let full = stalled_full T queued p c n m stall.progress (omega arith) stall.has stall.stalled stall.number in
      let done = done_later T queued p c n m j below (omega arith) (full_done T queued p c n m stall.progress (omega arith) stall.has full) in
      StallSeen p c n groups stall.progress.command (step_to T queued i p c n s) done (subst (IsIssued T p c) end.grows.command is) reads bit
  from_status i j (ResumedByStatus p c r s) = Resumed p c (resumes_to T queued i p c r) s
  from_status i j (ResumedEarlierByStatus p c d r s b) = ResumedEarlier p c d (resumes_to T queued i p c r) s (before_to T queued p c d b)
  from_status i j (TagSeenByStatus p c groups number s h is reads bit low) = TagSeen p c groups number s.command h (issued T queued p c s is) reads bit low

  pub same_rule : (i j : ℕ) → Rule T i j ↔ RuleByStatus T i j
  same_rule i j = (to, from)
    where
      to : Rule T i j → RuleByStatus T i j
      to (inl plain) = inl plain
      to (inr queue) = inr (to_status i j queue)

      from : RuleByStatus T i j → Rule T i j
      from (inl plain) = inl plain
      from (inr queue) = inr (from_status i j queue)

-- ---- the order

module _ (T : Trace) (queued : IsQueued T) where
  front : (i j : ℕ) → Edge Rule T i j ↔ Edge RuleByStatus T i j
  front i j = (λ e. record { below = e.below; rule = (same_rule (take (j + 1) T) (short j) i j).0 e.rule }, λ e. record { below = e.below; rule = (same_rule (take (j + 1) T) (short j) i j).1 e.rule })
    where
      short : (j : ℕ) → IsQueued (take (j + 1) T)
      short j = at (cases_lt (j + 1) (length T))
        where
          at : (j + 1 < length T) ⊎ (length T ≤ j + 1) → IsQueued (take (j + 1) T)
          at (inl low) = queued_take T (j + 1) (omega arith) queued
          at (inr high) = subst IsQueued (sym (take_all (j + 1) T high)) queued

  pub ordered_to : (i j : ℕ) → Ordered Rule T i j → Ordered RuleByStatus T i j
  ordered_to i j (One e) = One ((front i j).0 e)
  ordered_to i j (Then {k = k} o e) = Then (ordered_to i k o) ((front k j).0 e)

  pub ordered_from : (i j : ℕ) → Ordered RuleByStatus T i j → Ordered Rule T i j
  ordered_from i j (One e) = One ((front i j).1 e)
  ordered_from i j (Then {k = k} o e) = Then (ordered_from i k o) ((front k j).1 e)
