-- The passes make the sets what they have to become.
use Rattle.std.proofs.Common.{◌≡◌, ℕ, ◌+◌, ◌*◌, ◌<◌, ◌≤◌, ◌==◌, Bool, true, false, ◌&&◌, ◌||◌, List, [], ◌∷◌, ◌++◌, length, take, Option, Some, None, ◌⊎◌, inl, inr, refl, sym, ap, ap₂, ◌∙◌, subst, subst₂, arith}
use Rattle.std.specs.Prelude.{nat_lt, if◌then◌else◌}
use Rattle.std.specs.List.{list_any}
use Rattle.std.proofs.lemmas.Bool.{or_cases, or_left, or_right, and_from, and_parts, both_ways, eqb-true, eq-eqb, ltb-true, lt-ltb}
use Rattle.order_sets.specs.declared.facts.At.{At}
use Rattle.order_sets.specs.declared.facts.Fact.TheVariants.{Whole, Elements}
use Rattle.order_sets.specs.Facts.{covers}
use Rattle.cell_base.specs.declared.steps.Step.{Step}
use Rattle.cell_base.specs.declared.steps.Step.TheVariants.{Exec, Piece, Elem, Retire, Atomic, Host}
use Rattle.mfc_command.specs.declared.command.Command.{Command}
use Rattle.cell_machine.specs.declared.effect.Note.{Note}
use Rattle.cell_machine.specs.declared.effect.Note.TheVariants.{Ack, Signal}
use Rattle.mfc_command.specs.Order.{precedes}
use Rattle.race_order.specs.declared.progress.Progress.{Progress}
use Rattle.race_order.specs.Trace.{Event, Trace, IsStepOf, is_of}
use Rattle.race_order.specs.Status.{status, next_status, stepped, begun, elements_done}
use Rattle.race_order.specs.Lines.{moves_line}
use Rattle.race_order.specs.Queue.{Has, Before, ReadsElement}
use Rattle.race_order.specs.declared.roles.Role.{Role}
use Rattle.race_order.specs.Roles.{write_roles, is_among as is_among_base}
use Rattle.race_order.specs.Orderly.{IsOrderly}
use Rattle.race_order.proofs.Places.{get_last, longer, take_before}
use Rattle.race_order.specs.declared.lives.Live.{Live}
use Rattle.race_order.specs.declared.roles.Class.{Class}
use Rattle.race_order.specs.declared.roles.Class.TheVariants.{Tag}
use Rattle.race_order.specs.declared.roles.QueueRole.{QueueRole}
use Rattle.race_order.specs.declared.roles.QueueRole.TheVariants.{Base, Waits, Complete, Fixed, Stalled}
use Rattle.race_order.specs.Premises.{MayStep, QueueMay, IsQueued}
use Rattle.race_order.specs.Sources.{is_in, IsKept, IsOwn, HaveOwn}
use Rattle.race_order.proofs.Nexts.{is_delivery, Completes, Stalls, GoesInto}
use Rattle.race_order.proofs.Local.{Touches, WaitsLocal, Stays, Itself, AtIssue, FromEarlier, Own, CompleteLocal, WasComplete, IsNow, FixedLocal, WasFixed, FixedNow, StalledLocal, WasStalled, StalledNow, AreLocal}
use Rattle.race_order.specs.Lives.{is_touched, goes_in, moves_own_line, delivers, own_has, moved, acks, acked_by, reads_of, touch_brings}
use Rattle.race_order.proofs.CountedRules.{queued_take}
use Rattle.race_order.proofs.WholeLines.{own_line, line_own}
use Rattle.race_order.proofs.LivesNext.{ShowsNear}
use Rattle.race_order.specs.Passes.{View, is_ahead, brings, with_into, from_class, classes_ahead}
use Rattle.race_order.specs.Tables.{is_among}
use Rattle.race_order.proofs.Passed.{Picked, picked, none_any}
use Rattle.race_order.proofs.Statuses.{stepped_steps, done_le}
use Rattle.race_order.proofs.Histories.{status_next, same_progress, Later, later_at, read_there, valid_at, Came, Newly, Kept, Moved, came}
use Rattle.race_order.proofs.Elements.{step_of, may_at}
use Rattle.race_order.proofs.Keeping.{stepped_issue, issued_now}
use Rattle.race_order.proofs.Locals.{completes_touched, stalls_touched}
use Rattle.race_order.proofs.Wholes.{earlier_has}
use Rattle.race_order.specs.Ordering.{issued_in, issue_list, fix_list, spe_in}
use Rattle.race_order.specs.Bringing.{AreStepped}
use Rattle.race_order.proofs.Causes.{AreLists, IsFix, IsIssue, In, Cause, CStay, CInto, CTouch, CIssue, CClass, CWaits, CStall, CFixed, cause, up0, up2, up3, up4, up5, up_into, up_touch, up_issue, up_class, up_waits, up_stall, up_fixed}

bool_iff : (x y : Bool) → (x ≡ true → y ≡ true) → (y ≡ true → x ≡ true) → x ≡ y
bool_iff true true f g = refl
bool_iff true false f g = sym (f refl)
bool_iff false true f g = g refl
bool_iff false false f g = refl

reads_is : (p c : ℕ) (step : Step) → reads_of p c step ≡ true → step ≡ Elem p c
reads_is p c (Elem q d) e = let a = and_parts (q == p) (d == c) e in ap₂ Elem (eqb-true q p a.0) (eqb-true d c a.1)
reads_is p c _ e = cc

ack_is : (s : Progress) (note : Note) → acked_by s note ≡ true → (s.stalled ≡ true) × (note ≡ Ack s.command.tag)
ack_is s (Ack tag) e = let a = and_parts s.stalled (tag == s.command.tag) e in (a.0, ap Ack (eqb-true tag s.command.tag a.1))
ack_is s _ e = cc

acks_is : (p : ℕ) (s : Progress) (step : Step) (note : Note) → acks p s step note ≡ true → (step ≡ Exec p) × (s.stalled ≡ true) × (note ≡ Ack s.command.tag)
acks_is p s (Exec q) note e = let a = and_parts (q == p) (acked_by s note) e in let b = ack_is s note a.1 in (ap Exec (eqb-true q p a.0), b.0, b.1)
acks_is p s _ note e = cc

delivers_is : (p c : ℕ) (step : Step) (note : Note) → delivers p c step note ≡ true → (is_of p c step ≡ true) × (is_delivery note ≡ true)
delivers_is p c step (Signal q r) e = (e, refl)
delivers_is p c step _ e = cc

is_delivers : (p c : ℕ) (step : Step) (note : Note) → is_of p c step ≡ true → is_delivery note ≡ true → delivers p c step note ≡ true
is_delivers p c step (Signal q r) of e = of
is_delivers p c step _ of e = cc

acks_from : (p : ℕ) (s : Progress) (step : Step) (note : Note) → step ≡ Exec p → s.stalled ≡ true → note ≡ Ack s.command.tag → acks p s step note ≡ true
acks_from p s step note f g h =
    subst (λ x. acks p s x note ≡ true) (sym f) (and_from (p == p) _ (eq-eqb p p refl) (subst (λ y. acked_by s y ≡ true) (sym h) (and_from s.stalled _ g (eq-eqb s.command.tag s.command.tag refl))))

of_spe : (p c : ℕ) (step : Step) → is_of p c step ≡ true → spe_in step ≡ Some p
of_spe p c (Exec q) h = cc
of_spe p c (Piece q d x k) h = ap Some (eqb-true q p (and_parts (q == p) (d == c) h).0)
of_spe p c (Elem q d) h = ap Some (eqb-true q p (and_parts (q == p) (d == c) h).0)
of_spe p c (Retire q d) h = ap Some (eqb-true q p (and_parts (q == p) (d == c) h).0)
of_spe p c (Atomic q) h = cc
of_spe p c Host h = cc

module _ (n : ℕ) (trace : Trace) (e : Event) (orderly : IsOrderly n (trace ++ (e ∷ []))) (queued : IsQueued (trace ++ (e ∷ []))) (brought : At → Bool) (lives : List Live) (shows : ShowsNear (spe_in e.step) lives trace) (sets : View) (have : HaveOwn n sets trace) (into : List QueueRole) (lists : AreLists trace e into (issue_list (issued_in e.step e.effect.note)) (fix_list e.effect.fixed (spe_in e.step))) (final : View) (passed : AreStepped n e.step e.effect (brought) lives into sets final) where
  abbrev T : Trace
  T = trace ++ (e ∷ [])

  abbrev InLives : Live → Type 0
  InLives l = In n trace e brought lives sets into lists final passed l

  abbrev next_of : Live → Live
  next_of l = moved l e.step e.effect.note

  may : QueueMay trace e
  may = subst (λ t. QueueMay t e) (take_before trace e) (queued (length trace) e (get_last trace e))

  live_has : (l : Live) → InLives l → Has trace l.spe l.cmd l.progress × (l.progress.done ≡ false)
  live_has l i = let h = shows.sound i.place l i.at in (h.1, h.2)

  comes_to : (p c : ℕ) (s : Progress) → Has trace p c s → s.done ≡ false → Has T p c (next_of record { spe = p; cmd = c; progress = s }).progress
  comes_to p c s h d = record { is = status_next p c trace e ∙ (ap (λ o. next_status p c o e) h.is ∙ ap (λ (b : Bool). Some (if b then s else stepped p c s e.step e.effect.note)) d) }

  next_has : (l : Live) → InLives l → Has T l.spe l.cmd (next_of l).progress
  next_has l i = let h = live_has l i in comes_to l.spe l.cmd l.progress h.0 h.1

  find : (p c : ℕ) (s : Progress) → spe_in e.step ≡ Some p → Has trace p c s → s.done ≡ false → InLives record { spe = p; cmd = c; progress = s }
  find p c s w h d = let f = shows.full p c s w h d in record { place = f.0; at = f.1 }

  -- what the step touches is of its processor
  who_of : (p c : ℕ) → Touches trace e p c → spe_in e.step ≡ Some p
  who_of p c (inl of) = of_spe p c e.step of
  who_of p c (inr (inl h)) = ap spe_in h.1.is
  who_of p c (inr (inr a)) = ap spe_in a.is

  touches_of : (l : Live) → InLives l → is_touched l e.step e.effect.note ≡ true → Touches trace e l.spe l.cmd
  touches_of l i x = by (or_cases (is_of l.spe l.cmd e.step) (acks l.spe l.progress e.step e.effect.note) x)
    where
      by : (is_of l.spe l.cmd e.step ≡ true) ⊎ (acks l.spe l.progress e.step e.effect.note ≡ true) → Touches trace e l.spe l.cmd
      by (inl y) = inl y
      by (inr y) = let a = acks_is l.spe l.progress e.step e.effect.note y in inr (inr record { progress = l.progress; has = (live_has l i).0; stalled = a.1; is = a.0; notes = a.2 })

  queued_before : IsQueued trace
  queued_before = subst (λ t. IsQueued t) (take_before trace e) (queued_take T (length trace) (let l : length T ≡ length trace + 1 = longer trace e in omega arith) queued)

  goes_of : (l : Live) → InLives l → goes_in l e.step e.effect.note ≡ true → GoesInto trace e l.spe l.cmd
  goes_of l i x = by (or_cases (reads_of l.spe l.cmd e.step) (acks l.spe l.progress e.step e.effect.note || (moves_own_line l e.step || delivers l.spe l.cmd e.step e.effect.note)) x)
    where
      moves : (moves_own_line l e.step ≡ true) ⊎ (delivers l.spe l.cmd e.step e.effect.note ≡ true) → GoesInto trace e l.spe l.cmd
      moves (inl y) = let a = own_line trace queued_before e l (live_has l i).0 y in inr (inr (inr record { is = a.0; moves = or_left _ _ a.1 }))
      moves (inr y) = let a = delivers_is l.spe l.cmd e.step e.effect.note y in inr (inr (inr record { is = a.0; moves = or_right (moves_line trace e.step) _ a.1 }))

      beside : (acks l.spe l.progress e.step e.effect.note ≡ true) ⊎ ((moves_own_line l e.step || delivers l.spe l.cmd e.step e.effect.note) ≡ true) → GoesInto trace e l.spe l.cmd
      beside (inl y) = let a = acks_is l.spe l.progress e.step e.effect.note y in inr (inr (inl record { progress = l.progress; has = (live_has l i).0; stalled = a.1; is = a.0; notes = a.2 }))
      beside (inr y) = moves (or_cases (moves_own_line l e.step) (delivers l.spe l.cmd e.step e.effect.note) y)

      by : (reads_of l.spe l.cmd e.step ≡ true) ⊎ ((acks l.spe l.progress e.step e.effect.note || (moves_own_line l e.step || delivers l.spe l.cmd e.step e.effect.note)) ≡ true) → GoesInto trace e l.spe l.cmd
      by (inl y) = inr (inl (reads_is l.spe l.cmd e.step y))
      by (inr y) = beside (or_cases (acks l.spe l.progress e.step e.effect.note) (moves_own_line l e.step || delivers l.spe l.cmd e.step e.effect.note) y)

  abbrev completes_of : (l : Live) → InLives l → (next_of l).progress.done ≡ true → Completes trace e l.spe l.cmd
  completes_of l i d =
      let h = live_has l i in
      record { progress = (next_of l).progress; now = record { has = next_has l i; done = d }; before = λ s g. subst (λ (v : Progress). v.done ≡ false) (same_progress trace l.spe l.cmd l.progress s h.0 g) h.1 }

  -- a command that is complete now is in the list, and its progress after the step is that of the list
  record Held (p c : ℕ) (t : Progress) : Type 0 where
    was : Progress
    has : Has trace p c was
    live : was.done ≡ false
    becomes : (next_of record { spe = p; cmd = c; progress = was }).progress ≡ t

  held_by : (p c : ℕ) (s t : Progress) → Has trace p c s → s.done ≡ false → Has T p c t → Held p c t
  held_by p c s t h d g = record { was = s; has = h; live = d; becomes = same_progress T p c (next_of record { spe = p; cmd = c; progress = s }).progress t (comes_to p c s h d) g }

  completes_held : (p c : ℕ) (x : Completes trace e p c) → Held p c x.progress
  completes_held p c x = by (came trace e p c x.progress x.now.has)
    where
      never : false ≡ true → ⊥
      never y = cc

      by : Came trace e p c x.progress → Held p c x.progress
      by (Newly a f g z) = absurd (never (ap (λ (v : Progress). v.done) (sym z) ∙ x.now.done))
      by (Kept s h d same) = absurd (both_ways _ (x.before s h) d)
      by (Moved s h live f st) = held_by p c s x.progress h live x.now.has

  -- no step completes a command and touches one that it goes before
  no_two : (p c d : ℕ) (s : Progress) → Completes trace e p c → Touches trace e p d → Has T p d s → Held p d s → Before T p c d → ⊥
  no_two p c d s x y has hd b = by y
    where
      hc : Held p c x.progress
      hc = completes_held p c x

      command_c : hc.was.command ≡ b.first.command
      command_c = sym (ap (λ (v : Progress). v.command) (same_progress T p c b.first x.progress b.first_is x.now.has ∙ sym hc.becomes) ∙ (stepped_steps p c hc.was hc.live e.step e.effect.note).grows.command)

      command_d : hd.was.command ≡ b.second.command
      command_d = sym (ap (λ (v : Progress). v.command) (same_progress T p d b.second s b.second_is has ∙ sym hd.becomes) ∙ (stepped_steps p d hd.was hd.live e.step e.effect.note).grows.command)

      goes : precedes hc.was.command hd.was.command ≡ true
      goes = subst₂ (λ (x y : Command). precedes x y ≡ true) (sym command_c) (sym command_d) b.goes

      clash : (s : Progress) → Has trace p c s → s.done ≡ true → ⊥
      clash s h dn = both_ways _ hc.live (ap (λ (v : Progress). v.done) (same_progress trace p c hc.was s hc.has h) ∙ dn)

      front : take (length trace) T ≡ trace
      front = take_before trace e

      at_step : (k : ℕ) → k < length trace → IsStepOf T k p d → ⊥
      at_step k low st =
          let l0 : length T ≡ length trace + 1 = longer trace e in
          let m : MayStep (take k T) p d st.event.step st.event.effect.note = may_at T queued k p d st in
          let f : (s : Progress) × Has (take k T) p c s = early b.lower k st in
          let fc : Later (take (length trace) T) p c f.0 = later_at T p c k (length trace) f.0 (omega arith) (omega arith) f.1 in
          let fd : Later (take (length trace) T) p d m.progress = later_at T p d k (length trace) m.progress (omega arith) (omega arith) m.has in
          let sc : fc.progress ≡ hc.was = same_progress trace p c fc.progress hc.was (subst (λ t. Has t p c fc.progress) front fc.has) hc.has in
          let sd : fd.progress ≡ hd.was = same_progress trace p d fd.progress hd.was (subst (λ t. Has t p d fd.progress) front fd.has) hd.has in
          let gc : hc.was.command ≡ f.0.command = ap (λ (v : Progress). v.command) (sym sc) ∙ fc.grows.command in
          let gd : hd.was.command ≡ m.progress.command = ap (λ (v : Progress). v.command) (sym sd) ∙ fd.grows.command in
          let dn : f.0.done ≡ true = m.first c f.0 b.lower f.1 (subst₂ (λ (x y : Command). precedes x y ≡ true) gc gd goes) in
          both_ways _ hc.live (ap (λ (v : Progress). v.done) (sym sc ∙ fc.frozen dn) ∙ dn)
        where
          early : c < d → (k : ℕ) → IsStepOf T k p d → (s : Progress) × Has (take k T) p c s
          early low k st = earlier_has T queued n orderly p c d k low st

      by : Touches trace e p d → ⊥
      by (inl of) =
          let m : MayStep trace p d e.step e.effect.note = may.step p d of in
          let same : m.progress ≡ hd.was = same_progress trace p d m.progress hd.was m.has hd.has in
          both_ways _ hc.live (m.first c hc.was b.lower hc.has (subst (λ (v : Progress). precedes hc.was.command v.command ≡ true) (sym same) goes))
      by (inr (inl h)) = none (status p d trace) hd.was ((may.issue p d h.0 h.1.is h.1.notes).0.above d (omega arith)) hd.has.is
        where
          none : (o : Option Progress) (t : Progress) → o ≡ None → o ≡ Some t → ⊥
          none o t u v = cc
      by (inr (inr a)) =
          let some : 0 < a.progress.read = (valid_at trace p d a.progress a.has).listed a.stalled in
          let l0 : length T ≡ length trace + 1 = longer trace e in
          let r : (k : ℕ) × (k < length trace) × ReadsElement T k p d 0 = read_there T p d (length trace) a.progress 0 (omega arith) (subst (λ t. Has t p d a.progress) (sym front) a.has) some in
          at_step r.0 r.1 (step_of T queued r.0 p d r.2.step)

  never : false ≡ true → ⊥
  never y = cc

  up4_of : (r : QueueRole) (a : At) → passed.issued r a ≡ true → passed.stalled r a ≡ true
  up4_of r a x = up3 n trace e brought lives sets into lists final passed r a x

  up6_of : (r : QueueRole) (a : At) → passed.stalled r a ≡ true → final r a ≡ true
  up6_of r a x = up5 n trace e brought lives sets into lists final passed r a (up4 n trace e brought lives sets into lists final passed r a x)

  up6 : (r : QueueRole) (a : At) → passed.issued r a ≡ true → final r a ≡ true
  up6 r a x = up6_of r a (up4_of r a x)

  from2 : (r : QueueRole) (a : At) → passed.touched r a ≡ true → passed.issued r a ≡ true
  from2 r a x = up2 n trace e brought lives sets into lists final passed r a x

  touch3 : (l : Live) (a : At) → InLives l → is_touched l e.step e.effect.note ≡ true → ((goes_in l e.step e.effect.note ≡ true) × (brought a ≡ true)) ⊎ (own_has n (next_of l) a ≡ true) → passed.issued (Waits l.spe l.cmd) a ≡ true
  touch3 l a i x w = from2 (Waits l.spe l.cmd) a (up_touch n trace e brought lives sets into lists final passed l a i x (what w))
    where
      what : ((goes_in l e.step e.effect.note ≡ true) × (brought a ≡ true)) ⊎ (own_has n (next_of l) a ≡ true) → ((goes_in l e.step e.effect.note && brought a) || own_has n (next_of l) a) ≡ true
      what (inl y) = or_left _ _ (and_from _ _ y.0 y.1)
      what (inr y) = or_right _ _ y

  before_of : (l d : Live) → InLives l → InLives d → is_ahead (next_of l) (next_of d) ≡ true → (l.spe ≡ d.spe) × Before T l.spe l.cmd d.cmd
  before_of l d i j x =
      let a = and_parts (l.spe == d.spe) (nat_lt l.cmd d.cmd && precedes (next_of l).progress.command (next_of d).progress.command) x in
      let b = and_parts (nat_lt l.cmd d.cmd) (precedes (next_of l).progress.command (next_of d).progress.command) a.1 in
      let q : l.spe ≡ d.spe = eqb-true l.spe d.spe a.0 in (
        q,
        record { lower = ltb-true _ _ b.0; first = (next_of l).progress; second = (next_of d).progress; first_is = next_has l i; second_is = subst (λ p. Has T p d.cmd (next_of d).progress) (sym q) (next_has d j); goes = b.1 },
      )

  -- a step changes no Complete set before commands are complete
  complete2 : (p : ℕ) (class : Class) (a : At) → passed.touched (Complete p class) a ≡ true → sets (Complete p class) a ≡ true
  complete2 p class a x = by (or_cases (with_into into (brought) sets (Complete p class) a) (list_any (touch_brings n e.step e.effect.note (brought) (Complete p class) a) lives) (sym (passed.is_touched (Complete p class) a) ∙ x))
    where
      first : (sets (Complete p class) a ≡ true) ⊎ ((is_among (Complete p class) into && brought a) ≡ true) → sets (Complete p class) a ≡ true
      first (inl y) = y
      first (inr y) = absurd (lists.complete p class (and_parts (is_among (Complete p class) into) (brought a) y).0)

      by : (with_into into (brought) sets (Complete p class) a ≡ true) ⊎ (list_any (touch_brings n e.step e.effect.note (brought) (Complete p class) a) lives ≡ true) → sets (Complete p class) a ≡ true
      by (inl y) = first (or_cases (sets (Complete p class) a) (is_among (Complete p class) into && brought a) y)
      by (inr y) = touched (picked (touch_brings n e.step e.effect.note (brought) (Complete p class) a) lives y)
        where
          touched : Picked (touch_brings n e.step e.effect.note (brought) (Complete p class) a) lives → sets (Complete p class) a ≡ true
          touched q = let u = and_parts (is_touched q.one e.step e.effect.note) (false && ((goes_in q.one e.step e.effect.note && brought a) || own_has n (next_of q.one) a)) q.passes in absurd (never u.1)

  complete3 : (p : ℕ) (class : Class) (a : At) → passed.issued (Complete p class) a ≡ true → sets (Complete p class) a ≡ true
  complete3 p class a x = by (or_cases _ _ (passed.is_issued.only (Complete p class) a x))
    where
      issued : IsIssue e (brings passed.issued (Complete p class) a) → sets (Complete p class) a ≡ true
      issued i = absurd (never (sym (none_any (λ class'. brings passed.issued (Complete p class) a (from_class i.p i.d class')) (classes_ahead i.command) (λ class'. refl)) ∙ i.any))

      by : (passed.touched (Complete p class) a ≡ true) ⊎ (list_any (brings passed.issued (Complete p class) a) (issue_list (issued_in e.step e.effect.note)) ≡ true) → sets (Complete p class) a ≡ true
      by (inl y) = complete2 p class a y
      by (inr y) = issued ((lists.issues (brings passed.issued (Complete p class) a)).0 y)

  -- what the set of a touched command has in the end it had before the sets of others went into it
  down : (p c : ℕ) (s : Progress) (a : At) → Touches trace e p c → Has T p c s → Held p c s → final (Waits p c) a ≡ true → passed.issued (Waits p c) a ≡ true
  down p c s a y has hd t = by (cause n trace e brought lives sets into lists final passed (Waits p c) a t)
    where
      by : Cause n trace e brought lives sets into lists final passed (Waits p c) a → passed.issued (Waits p c) a ≡ true
      by (CStay u) = from2 (Waits p c) a (up0 n trace e brought lives sets into lists final passed (Waits p c) a u)
      by (CInto u z) = from2 (Waits p c) a (up_into n trace e brought lives sets into lists final passed (Waits p c) a u z)
      by (CTouch l i u q w) = subst (λ r. passed.issued r a ≡ true) (sym q) (touch3 l a i u w)
      by (CIssue p' d' command class h g q u) = subst (λ r. passed.issued r a ≡ true) (sym q) (up_issue n trace e brought lives sets into lists final passed p' d' command class a h g (up0 n trace e brought lives sets into lists final passed (Complete p' class) a (complete3 p' class a u)))
      by (CClass l class i d' of q u) = cc
      by (CWaits l d' i j dn ah q u) =
          let b = before_of l d' i j ah in
          let sp : p ≡ d'.spe = cc in
          let sc : c ≡ d'.cmd = cc in
          absurd
          (no_two p l.cmd c s (subst (λ v. Completes trace e v l.cmd) (b.0 ∙ sym sp) (completes_of l i dn)) y has hd
          (subst₂ (λ v w. Before T v l.cmd w) (b.0 ∙ sym sp) (sym sc) b.1))
      by (CStall l i s1 s2 q u) = cc
      by (CFixed p' tag low f q u) = cc

  complete5 : (p : ℕ) (class : Class) (a : At) → final (Complete p class) a ≡ true → passed.done (Complete p class) a ≡ true
  complete5 p class a x = by (or_cases _ _ (passed.is_fixed.only (Complete p class) a x))
    where
      fixed : IsFix e (brings final (Complete p class) a) → passed.done (Complete p class) a ≡ true
      fixed i = absurd (never i.passes)

      by : (passed.done (Complete p class) a ≡ true) ⊎ (list_any (brings final (Complete p class) a) (fix_list e.effect.fixed (spe_in e.step)) ≡ true) → passed.done (Complete p class) a ≡ true
      by (inl y) = y
      by (inr y) = fixed ((lists.fixes (brings final (Complete p class) a)).0 y)

  base_is : (w : Role) (a : At) → final (Base w) a ≡ (sets (Base w) a || (is_among_base w (write_roles trace e) && brought a))
  base_is w a = bool_iff _ _ (λ t. to (cause n trace e brought lives sets into lists final passed (Base w) a t)) (λ t. from (or_cases (sets (Base w) a) (is_among_base w (write_roles trace e) && brought a) t))
    where
      to : Cause n trace e brought lives sets into lists final passed (Base w) a → (sets (Base w) a || (is_among_base w (write_roles trace e) && brought a)) ≡ true
      to (CStay y) = or_left _ _ y
      to (CInto y z) = or_right _ _ (and_from _ _ ((lists.base w).0 y) z)
      to (CTouch l i y q u) = cc
      to (CIssue p' d' command class h g q y) = cc
      to (CClass l class i d' of q y) = cc
      to (CWaits l d' i j dn ah q y) = cc
      to (CStall l i s1 s2 q y) = cc
      to (CFixed p' tag low f q y) = cc

      from : (sets (Base w) a ≡ true) ⊎ ((is_among_base w (write_roles trace e) && brought a) ≡ true) → final (Base w) a ≡ true
      from (inl y) = up6 (Base w) a (from2 (Base w) a (up0 n trace e brought lives sets into lists final passed (Base w) a y))
      from (inr y) = let u = and_parts (is_among_base w (write_roles trace e)) (brought a) y in up6 (Base w) a (from2 (Base w) a (up_into n trace e brought lives sets into lists final passed (Base w) a ((lists.base w).1 u.0) u.1))

  -- what is done of a command that stands in the list
  own_from : (l : Live) (a : At) → InLives l → IsOwn n T l.spe l.cmd a → own_has n (next_of l) a ≡ true
  own_from l a i o = by o.over
    where
      same : o.progress ≡ (next_of l).progress
      same = same_progress T l.spe l.cmd o.progress (next_of l).progress o.has (next_has l i)

      chain : (a.chain == 2 * n + l.spe) ≡ true
      chain = eq-eqb a.chain (2 * n + l.spe) o.chain

      cmd : (a.cmd == l.cmd) ≡ true
      cmd = eq-eqb a.cmd l.cmd o.cmd

      by : (o.progress.done ≡ true) ⊎ (a.elem < elements_done o.progress) → own_has n (next_of l) a ≡ true
      by (inl d) = or_right (covers (Elements (2 * n + l.spe) l.cmd (elements_done (next_of l).progress)) a) _ (and_from _ _ (ap (λ (v : Progress). v.done) (sym same) ∙ d) (and_from _ _ chain cmd))
      by (inr d) = or_left _ _ (and_from _ _ chain (and_from _ _ cmd (lt-ltb _ _ (subst (λ v. a.elem < elements_done v) same d))))

  own_to : (l : Live) (a : At) → InLives l → own_has n (next_of l) a ≡ true → IsOwn n T l.spe l.cmd a
  own_to l a i x = by (or_cases (covers (Elements (2 * n + l.spe) l.cmd (elements_done (next_of l).progress)) a) ((next_of l).progress.done && covers (Whole (2 * n + l.spe) l.cmd) a) x)
    where
      by : (covers (Elements (2 * n + l.spe) l.cmd (elements_done (next_of l).progress)) a ≡ true) ⊎ (((next_of l).progress.done && covers (Whole (2 * n + l.spe) l.cmd) a) ≡ true) → IsOwn n T l.spe l.cmd a
      by (inl y) =
          let u = and_parts (a.chain == 2 * n + l.spe) (a.cmd == l.cmd && nat_lt a.elem (elements_done (next_of l).progress)) y in
          let v = and_parts (a.cmd == l.cmd) (nat_lt a.elem (elements_done (next_of l).progress)) u.1 in
          record { progress = (next_of l).progress; has = next_has l i; chain = eqb-true a.chain (2 * n + l.spe) u.0; cmd = eqb-true a.cmd l.cmd v.0; over = inr (ltb-true _ _ v.1) }
      by (inr y) =
          let u = and_parts ((next_of l).progress.done) (a.chain == 2 * n + l.spe && a.cmd == l.cmd) y in
          let v = and_parts (a.chain == 2 * n + l.spe) (a.cmd == l.cmd) u.1 in
          record { progress = (next_of l).progress; has = next_has l i; chain = eqb-true a.chain (2 * n + l.spe) v.0; cmd = eqb-true a.cmd l.cmd v.1; over = inl u.0 }

  waits_to : (p d : ℕ) (a : At) → Cause n trace e brought lives sets into lists final passed (Waits p d) a → WaitsLocal n sets final trace e brought p d a
  waits_to p d a (CStay y) = Stays y
  waits_to p d a (CInto y z) = Itself (inl ((lists.waits p d).0 y)) z
  waits_to p d a (CTouch l i y q w) = subst₂ (λ v u. WaitsLocal n sets final trace e brought v u a) (let f : l.spe ≡ p = cc in f) (let g : l.cmd ≡ d = cc in g) (what w)
    where
      what : ((goes_in l e.step e.effect.note ≡ true) × (brought a ≡ true)) ⊎ (own_has n (next_of l) a ≡ true) → WaitsLocal n sets final trace e brought l.spe l.cmd a
      what (inl u) = Itself (goes_of l i u.0) u.1
      what (inr u) = Own (touches_of l i y) (own_to l a i u)
  waits_to p d a (CIssue p' d' command class h g q y) =
      subst₂ (λ v u. WaitsLocal n sets final trace e brought v u a) (let f : p' ≡ p = cc in f) (let k : d' ≡ d = cc in k) (AtIssue command class h g (complete3 p' class a y))
  waits_to p d a (CClass l class i dn of q y) = cc
  waits_to p d a (CWaits l d' i j dn ah q y) =
      let b = before_of l d' i j ah in
      subst₂ (λ v u. WaitsLocal n sets final trace e brought v u a) (let f : d'.spe ≡ p = cc in f) (let k : d'.cmd ≡ d = cc in k)
      (subst (λ v. WaitsLocal n sets final trace e brought v d'.cmd a) b.0
      (FromEarlier l.cmd (completes_touched trace e l.spe l.cmd (completes_of l i dn)) (completes_of l i dn) b.1 (up5 n trace e brought lives sets into lists final passed (Waits l.spe l.cmd) a y)))
  waits_to p d a (CStall l i s1 s2 q y) = cc
  waits_to p d a (CFixed p' tag low f q y) = cc

  waits_from : (p d : ℕ) (a : At) → IsKept trace (Waits p d) → WaitsLocal n sets final trace e brought p d a → final (Waits p d) a ≡ true
  waits_from p d a kept (Stays y) = up6 (Waits p d) a (from2 (Waits p d) a (up0 n trace e brought lives sets into lists final passed (Waits p d) a y))
  waits_from p d a kept (Itself (inl h) z) = up6 (Waits p d) a (from2 (Waits p d) a (up_into n trace e brought lives sets into lists final passed (Waits p d) a ((lists.waits p d).1 h) z))
  waits_from p d a kept (Itself (inr (inl h)) z) =
      let of : ((p == p) && (d == d)) ≡ true = and_from _ _ (eq-eqb p p refl) (eq-eqb d d refl) in
      let m : MayStep trace p d e.step e.effect.note = may.step p d (ap (is_of p d) h ∙ of) in
      let l : Live = record { spe = p; cmd = d; progress = m.progress } in
      up6 (Waits p d) a (touch3 l a (find p d m.progress (ap spe_in h) m.has m.live) (or_left _ _ (ap (is_of p d) h ∙ of)) (inl (or_left _ _ (ap (reads_of p d) h ∙ of), z)))
  waits_from p d a kept (Itself (inr (inr (inl h))) z) =
      let k : acks p h.progress e.step e.effect.note ≡ true = acks_from p h.progress e.step e.effect.note h.is h.stalled h.notes in
      let l : Live = record { spe = p; cmd = d; progress = h.progress } in
      up6 (Waits p d) a (touch3 l a (find p d h.progress (ap spe_in h.is) h.has (kept h.progress h.has)) (or_right (is_of p d e.step) _ k) (inl (or_right (reads_of p d e.step) _ (or_left _ _ k), z)))
  waits_from p d a kept (Itself (inr (inr (inr h))) z) =
      let m : MayStep trace p d e.step e.effect.note = may.step p d h.is in
      let l : Live = record { spe = p; cmd = d; progress = m.progress } in
      let own : (moves_own_line l e.step || delivers p d e.step e.effect.note) ≡ true = beyond (or_cases (moves_line trace e.step) (is_delivery e.effect.note) h.moves) in
      up6 (Waits p d) a (touch3 l a (find p d m.progress (of_spe p d e.step h.is) m.has m.live) (or_left _ _ h.is) (inl (or_right (reads_of p d e.step) _ (or_right (acks p m.progress e.step e.effect.note) _ own), z)))
    where
      may_own : MayStep trace p d e.step e.effect.note
      may_own = may.step p d h.is

      live_own : Live
      live_own = record { spe = p; cmd = d; progress = may_own.progress }

      beyond : (moves_line trace e.step ≡ true) ⊎ (is_delivery e.effect.note ≡ true) → (moves_own_line live_own e.step || delivers p d e.step e.effect.note) ≡ true
      beyond (inl x) = or_left _ _ (line_own trace queued_before e p d may_own.progress may_own.has h.is x)
      beyond (inr x) = or_right (moves_own_line live_own e.step) _ (is_delivers p d e.step e.effect.note h.is x)
  waits_from p d a kept (AtIssue command class h g y) =
      up6 (Waits p d) a (up_issue n trace e brought lives sets into lists final passed p d command class a h g (up0 n trace e brought lives sets into lists final passed (Complete p class) a y))
  waits_from p d a kept (FromEarlier c t x b y) = by (came trace e p d b.second b.second_is)
    where
      hc : Held p c x.progress
      hc = completes_held p c x

      lc : Live
      lc = record { spe = p; cmd = c; progress = hc.was }

      go : Held p d b.second → final (Waits p d) a ≡ true
      go hd =
          up5 n trace e brought lives sets into lists final passed (Waits p d) a
          (up_waits n trace e brought lives sets into lists final passed record { spe = p; cmd = c; progress = hc.was } record { spe = p; cmd = d; progress = hd.was } a (find p c hc.was (who_of p c t) hc.has hc.live) (find p d hd.was (who_of p c t) hd.has hd.live)
          (ap (λ (v : Progress). v.done) hc.becomes ∙ x.now.done)
          (and_from _ _ (eq-eqb p p refl)
          (and_from _ _ (lt-ltb c d b.lower)
          (subst₂ (λ (v w : Progress). precedes v.command w.command ≡ true) (same_progress T p c b.first x.progress b.first_is x.now.has ∙ sym hc.becomes) (sym hd.becomes) b.goes)))
          (up4_of (Waits p c) a (down p c x.progress a t x.now.has hc y)))

      by : Came trace e p d b.second → final (Waits p d) a ≡ true
      by (Newly u f g z) =
          let q : x.progress ≡ hc.was = sym hc.becomes ∙ (ap₂ (λ v w. stepped p c hc.was v w) f g ∙ stepped_issue p c p d b.second.command hc.was) in
          absurd (never (sym hc.live ∙ (ap (λ (v : Progress). v.done) (sym q) ∙ x.now.done)))
      by (Kept s h dn same) = absurd (both_ways _ (kept s h) dn)
      by (Moved s h live f st) = go (held_by p d s b.second h live b.second_is)
  waits_from p d a kept (Own (inl of) o) =
      let m : MayStep trace p d e.step e.effect.note = may.step p d of in
      let i : InLives record { spe = p; cmd = d; progress = m.progress } = find p d m.progress (of_spe p d e.step of) m.has m.live in
      up6 (Waits p d) a (touch3 record { spe = p; cmd = d; progress = m.progress } a i (or_left _ _ of) (inr (own_from record { spe = p; cmd = d; progress = m.progress } a i o)))
  waits_from p d a kept (Own (inr (inl h)) o) = none o.over
    where
      same : o.progress ≡ begun h.0
      same = same_progress T p d o.progress (begun h.0) o.has (issued_now trace e p d h.0 ((may.issue p d h.0 h.1.is h.1.notes).0.above d (omega arith)) h.1)

      none : (o.progress.done ≡ true) ⊎ (a.elem < elements_done o.progress) → final (Waits p d) a ≡ true
      none (inl dn) = absurd (never (ap (λ (v : Progress). v.done) (sym same) ∙ dn))
      none (inr low) =
          let le : elements_done o.progress ≤ o.progress.read = done_le o.progress in
          let z : o.progress.read ≡ 0 = ap (λ (v : Progress). v.read) same in
          absurd (omega arith)
  waits_from p d a kept (Own (inr (inr h)) o) =
      let k : acks p h.progress e.step e.effect.note ≡ true = acks_from p h.progress e.step e.effect.note h.is h.stalled h.notes in
      let i : InLives record { spe = p; cmd = d; progress = h.progress } = find p d h.progress (ap spe_in h.is) h.has (kept h.progress h.has) in
      up6 (Waits p d) a (touch3 record { spe = p; cmd = d; progress = h.progress } a i (or_right (is_of p d e.step) _ k) (inr (own_from record { spe = p; cmd = d; progress = h.progress } a i o)))

  complete_to : (p : ℕ) (class : Class) (a : At) → Cause n trace e brought lives sets into lists final passed (Complete p class) a → CompleteLocal sets final trace e p class a
  complete_to p class a (CStay y) = WasComplete y
  complete_to p class a (CInto y z) = absurd (lists.complete p class y)
  complete_to p class a (CTouch l i y q w) = cc
  complete_to p class a (CIssue p' d' command class' h g q y) = cc
  complete_to p class a (CClass l class' i dn of q y) =
      subst₂ (λ v u. CompleteLocal sets final trace e v u a) (let f : l.spe ≡ p = cc in f) (let k : class' ≡ class = cc in k)
      (IsNow l.cmd (completes_touched trace e l.spe l.cmd (completes_of l i dn)) (completes_of l i dn) of (up5 n trace e brought lives sets into lists final passed (Waits l.spe l.cmd) a y))
  complete_to p class a (CWaits l d' i j dn ah q y) = cc
  complete_to p class a (CStall l i s1 s2 q y) = cc
  complete_to p class a (CFixed p' tag low f q y) = cc

  complete_from : (p : ℕ) (class : Class) (a : At) → CompleteLocal sets final trace e p class a → final (Complete p class) a ≡ true
  complete_from p class a (WasComplete y) = up6 (Complete p class) a (from2 (Complete p class) a (up0 n trace e brought lives sets into lists final passed (Complete p class) a y))
  complete_from p class a (IsNow c t x of y) =
      up5 n trace e brought lives sets into lists final passed (Complete p class) a
      (up_class n trace e brought lives sets into lists final passed record { spe = p; cmd = c; progress = (completes_held p c x).was } class a
      (find p c (completes_held p c x).was (who_of p c t) (completes_held p c x).has (completes_held p c x).live)
      (ap (λ (v : Progress). v.done) (completes_held p c x).becomes ∙ x.now.done) (ap (λ (v : Progress). is_in class v.command) (completes_held p c x).becomes ∙ of) (up4_of (Waits p c) a (down p c x.progress a t x.now.has (completes_held p c x) y)))

  fixed_to : (p g : ℕ) (a : At) → Cause n trace e brought lives sets into lists final passed (Fixed p g) a → FixedLocal sets final e p g a
  fixed_to p g a (CStay y) = WasFixed y
  fixed_to p g a (CInto y z) = absurd (lists.fixed p g y)
  fixed_to p g a (CTouch l i y q w) = cc
  fixed_to p g a (CIssue p' d' command class' h k q y) = cc
  fixed_to p g a (CClass l class' i dn of q y) = cc
  fixed_to p g a (CWaits l d' i j dn ah q y) = cc
  fixed_to p g a (CStall l i s1 s2 q y) = cc
  fixed_to p g a (CFixed p' tag low f q y) =
      subst₂ (λ v u. FixedLocal sets final e v u a) (let x : p' ≡ p = cc in x) (let k : tag ≡ g = cc in k) (FixedNow f y)

  stalls_held : (p c : ℕ) (x : Stalls trace e p c) → Held p c x.progress
  stalls_held p c x = by (came trace e p c x.progress x.has)
    where
      by : Came trace e p c x.progress → Held p c x.progress
      by (Newly a f g z) = absurd (never (ap (λ (v : Progress). v.stalled) (sym z) ∙ x.stalled))
      by (Kept s h d same) = absurd (both_ways _ (x.before s h) (ap (λ (v : Progress). v.stalled) (sym same) ∙ x.stalled))
      by (Moved s h live f st) = held_by p c s x.progress h live x.has

  abbrev stalls_of : (l : Live) → InLives l → l.progress.stalled ≡ false → (next_of l).progress.stalled ≡ true → Stalls trace e l.spe l.cmd
  stalls_of l i s t =
      let h = live_has l i in
      record { progress = (next_of l).progress; has = next_has l i; stalled = t; before = λ u g. subst (λ (v : Progress). v.stalled ≡ false) (same_progress trace l.spe l.cmd l.progress u h.0 g) s }

  same_tag : (l : Live) → InLives l → (next_of l).progress.command.tag ≡ l.progress.command.tag
  same_tag l i = ap (λ (v : Command). v.tag) (stepped_steps l.spe l.cmd l.progress (live_has l i).1 e.step e.effect.note).grows.command

  stalled_to : (p g : ℕ) (a : At) → Cause n trace e brought lives sets into lists final passed (Stalled p g) a → StalledLocal sets final trace e p g a
  stalled_to p g a (CStay y) = WasStalled y
  stalled_to p g a (CInto y z) = absurd (lists.stalled p g y)
  stalled_to p g a (CTouch l i y q w) = cc
  stalled_to p g a (CIssue p' d' command class' h k q y) = cc
  stalled_to p g a (CClass l class' i dn of q y) = cc
  stalled_to p g a (CWaits l d' i j dn ah q y) = cc
  stalled_to p g a (CStall l i s1 s2 q y) =
      subst₂ (λ v u. StalledLocal sets final trace e v u a) (let x : l.spe ≡ p = cc in x) (let k : l.progress.command.tag ≡ g = cc in k)
      (StalledNow l.cmd (stalls_touched trace e l.spe l.cmd (stalls_of l i s1 s2)) (stalls_of l i s1 s2) (same_tag l i) (up6_of (Waits l.spe l.cmd) a y))
  stalled_to p g a (CFixed p' tag low f q y) = cc

  stalled_from : (p g : ℕ) (a : At) → StalledLocal sets final trace e p g a → final (Stalled p g) a ≡ true
  stalled_from p g a (WasStalled y) = up6 (Stalled p g) a (from2 (Stalled p g) a (up0 n trace e brought lives sets into lists final passed (Stalled p g) a y))
  stalled_from p g a (StalledNow c t x tag y) =
      let i : InLives record { spe = p; cmd = c; progress = (stalls_held p c x).was } = find p c (stalls_held p c x).was (who_of p c t) (stalls_held p c x).has (stalls_held p c x).live in
      let k : (stalls_held p c x).was.command.tag ≡ g = sym (same_tag record { spe = p; cmd = c; progress = (stalls_held p c x).was } i) ∙ (ap (λ (v : Progress). v.command.tag) (stalls_held p c x).becomes ∙ tag) in
      subst (λ v. final (Stalled p v) a ≡ true) k
      (up6_of (Stalled p (stalls_held p c x).was.command.tag) a
      (up_stall n trace e brought lives sets into lists final passed record { spe = p; cmd = c; progress = (stalls_held p c x).was } a i (x.before (stalls_held p c x).was (stalls_held p c x).has) (ap (λ (v : Progress). v.stalled) (stalls_held p c x).becomes ∙ x.stalled) (down p c x.progress a t x.has (stalls_held p c x) y)))

  -- the passes change exactly what the step has to change
  pub passes_local : AreLocal n sets final trace e brought
  passes_local =
      record {
        base = base_is;
        waits = λ p d a kept. (λ t. waits_to p d a (cause n trace e brought lives sets into lists final passed (Waits p d) a t), λ w. waits_from p d a kept w);
        complete = λ p class a. (λ t. complete_to p class a (cause n trace e brought lives sets into lists final passed (Complete p class) a t), λ w. complete_from p class a w);
        fixed = λ p g a low. (λ t. fixed_to p g a (cause n trace e brought lives sets into lists final passed (Fixed p g) a t), λ w. fixed_from p g a low w);
        stalled = λ p g a. (λ t. stalled_to p g a (cause n trace e brought lives sets into lists final passed (Stalled p g) a t), λ w. stalled_from p g a w);
      }
    where
      fixed_from : (p g : ℕ) (a : At) → g < 32 → FixedLocal sets final e p g a → final (Fixed p g) a ≡ true
      fixed_from p g a low (WasFixed y) = up6 (Fixed p g) a (from2 (Fixed p g) a (up0 n trace e brought lives sets into lists final passed (Fixed p g) a y))
      fixed_from p g a low (FixedNow f y) = up_fixed n trace e brought lives sets into lists final passed p g a low f (complete5 p (Tag g) a y)
