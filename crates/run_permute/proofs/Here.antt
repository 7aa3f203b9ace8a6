-- What is so at the place of a step.
use Rattle.std.proofs.Common.{◌≡◌, ℕ, ◌+◌, ◌-◌, ◌<◌, ◌≤◌, ◌||◌, ◌&&◌, Bool, true, false, List, length, refl, sym, ap, ◌∙◌, subst, arith, Option, Some, None}
use Rattle.std.specs.Prelude.{◌↔◌, not, slice_get, if◌then◌else◌}
use Rattle.std.specs.Option.{option_map_or}
use Rattle.std.proofs.lemmas.Bool.{and_parts}
use Rattle.std.proofs.lemmas.List.{length-take-le}
use Rattle.std.proofs.lemmas.Option.{slice_get_within}
use Rattle.cell_base.specs.declared.steps.Step.{Step}
use Rattle.cell_base.specs.declared.steps.Step.TheVariants.{Exec, Host}
use Rattle.cell_base.specs.declared.steps.ChannelOp.{ChannelOp}
use Rattle.cell_base.specs.declared.steps.ChannelOp.TheVariants.{Write}
use Rattle.cell_machine.specs.declared.effect.Note.{Note}
use Rattle.cell_machine.specs.declared.effect.Note.TheVariants.{Nothing, Issue, AtomicIssue, TagRead, StallRead, Ack, AtomicRead, Put, Take, Ended, Awaited, Element, Signal}
use Rattle.cell_machine.specs.Exec.{asks}
use Rattle.cell_machine.specs.Opening.{opening}
use Rattle.cell_machine.specs.Run.{Ran, IsRun}
use Rattle.cell_machine.proofs.Same.{some_same}
use Rattle.mfc_command.specs.declared.command.Command.{Command}
use Rattle.race_order.specs.Trace.{Event, IsStep, Notes}
use Rattle.race_order.specs.Premises.{IsQueued}
use Rattle.race_order.specs.Told.{trace_in}
use Rattle.race_order.proofs.OrderedRuns.{trace-long}
use Rattle.race_order.proofs.Runs.{is-orderly}
use Rattle.race_check.proofs.Prefixes.{run-told}
use Rattle.run_permute.specs.declared.kept.Kept.{Kept}
use Rattle.run_walk.specs.declared.walk.Walk.{Walk}
use Rattle.run_walk.specs.Walks.{walked}
use Rattle.run_permute.specs.declared.made.Made.{Made}
use Rattle.run_permute.specs.declared.watch.Watch.{Watch}
use Rattle.run_permute.specs.SettledLists.{AreChanged}
use Rattle.reorder_laws.specs.Places.{Asks, IssuesAtomic}
use Rattle.run_permute.specs.Online.{Does, Pends, IsRequested, IsAtomicIssued, IsStallRead, HasStalledList, IsStalledTag, IsSettledAt, is_read_of, is_write_to}
use Rattle.run_permute.specs.Walks.{IsAt, IsMade}
use Rattle.run_permute.specs.Watches.{IsTaken, IsAdded, AreKept, AreLeft, Watches, MayOperate, MayTell, does, is_atomic_issue, marked, stalled_from}
use Rattle.run_permute.proofs.Flags.{pends_next, pends_same, begun, stays}
use Rattle.run_permute.proofs.SettledEntries.{changed-same}
use Rattle.run_permute.proofs.Takes.{IsIdle, idle-taken, taken-kept, added-kept}
use Rattle.run_permute.proofs.Stalls.{only-from, from-only, tag-at, only-at}
use Rattle.run_permute.proofs.Sweeps.{are-more}

pub queued-run : (m : Ran) → IsRun m.setup m.steps → IsQueued (trace_in m)
queued-run m run = (is-orderly m (trace_in m) (run-told m run)).1

pub trace-size : (m : Ran) → IsRun m.setup m.steps → length (trace_in m) ≡ length m.steps
trace-size m run = trace-long (opening m.setup) m.steps (trace_in m) (run-told m run)

pub has-made : (w : Walk) (m : Ran) (j : ℕ) → IsAt w m j → length (walked w).steps ≡ j
has-made w m j at = let in_steps : j ≤ length m.steps = at.within in ap (λ (r : Ran). length r.steps) at.made ∙ length-take-le j m.steps in_steps

pub at-last : (w : Walk) (m : Ran) (j : ℕ) → IsAt w m (j + 1) → length (walked w).steps - 1 ≡ j
at-last w m j at = let e : length (walked w).steps ≡ j + 1 = has-made w m (j + 1) at in omega arith

-- ---- the step at a place

-- beyond the run nothing is made
pub settled-beyond : (m : Ran) → IsRun m.setup m.steps → (p k : ℕ) → length m.steps ≤ k → IsSettledAt m p k
settled-beyond m run p k high = record {
  operation = λ op a. absurd (no-step (Exec p) a.step);
  queues = λ c command n. absurd (no-event n.event n.at);
  stalls = λ d. absurd (no-step (Exec p) d.asked.step);
  acknowledges = λ tag a. absurd (no-step (Exec p) a.step);
  atomic = λ n. absurd (no-event n.event n.at);
  host = λ q register n. no-event n.event n.at;
}
  where
    no-step : (s : Step) → slice_get m.steps k ≡ Some s → ⊥
    no-step s h = let l : k < length m.steps = slice_get_within m.steps k s h in omega arith

    no-event : (e : Event) → slice_get (trace_in m) k ≡ Some e → ⊥
    no-event e h = let l : k < length (trace_in m) = slice_get_within (trace_in m) k e h in let s = trace-size m run in omega arith

module _ (m : Ran) (j : ℕ) (step : Step) (made : Made) (at : slice_get m.steps j ≡ Some step) (is : IsMade m j step made) where
  abbrev event : Event
  event = record { step = step; effect = made.effect }

  same-event : (e : Event) → slice_get (trace_in m) j ≡ Some e → e ≡ event
  same-event e h = some_same e event (sym h ∙ is.event)

  -- what the host tells there
  pub host-noted : (q register : ℕ) → Notes (trace_in m) j Host (Signal q register) → (step ≡ Host) × (made.effect.note ≡ Signal q register)
  host-noted q register n = (ap (λ (e : Event). e.step) (sym (same-event n.event n.at)) ∙ n.is, ap (λ (e : Event). e.effect.note) (sym (same-event n.event n.at)) ∙ n.notes)

  pub noted-host : (q register : ℕ) → step ≡ Host → made.effect.note ≡ Signal q register → Notes (trace_in m) j Host (Signal q register)
  noted-host q register s n = record { event = event; at = is.event; is = s; notes = n }

  -- of another processor nothing is asked there
  module _ (p : ℕ) (other : step ≡ Exec p → ⊥) where
    no-asks : (op : ChannelOp) → Asks m j p op → ⊥
    no-asks op a = other (some_same step (Exec p) (sym at ∙ a.step))

    no-does : (test : ChannelOp → Bool) → Does test m p j → ⊥
    no-does test d = no-asks d.op d.asked

    no-notes : (note : Note) → Notes (trace_in m) j (Exec p) note → ⊥
    no-notes note n = other (ap (λ (e : Event). e.step) (sym (same-event n.event n.at)) ∙ n.is)

    pub settled-other : ((q register : ℕ) → Notes (trace_in m) j Host (Signal q register) → ⊥) → IsSettledAt m p j
    settled-other quiet = record {
      host = quiet;
      operation = λ op a. absurd (no-asks op a);
      queues = λ c command n. absurd (no-notes (Issue c command) n);
      stalls = λ d. absurd (no-does (is_read_of 25) d);
      acknowledges = λ tag a. absurd (no-asks (Write 26 tag) a);
      atomic = λ n. absurd (no-notes AtomicIssue n);
    }

    tag-stays : (tag : ℕ) → IsStalledTag m p j tag → IsStalledTag m p (j + 1) tag
    tag-stays tag t = record { read = stays (Does (is_read_of 25) m p) (Does (is_write_to 26) m p) j (no-does (is_write_to 26)) t.read; stalled = t.stalled; same = t.same }

    -- its flags stay
    pub flags-stay : (x y : ℕ) (w v : Watch) → Watches m p j x w → v.requested ≡ w.requested → v.atomic ≡ w.atomic → v.stalled ≡ w.stalled → v.tag ≡ w.tag → AreKept m p (j + 1) y v.kept.items → Watches m p (j + 1) y v
    flags-stay x y w v ws requested atomic stalled tag kept = record {
      requested = subst (λ b. (b ≡ true) ↔ Pends (Does (is_write_to 23) m p) (Does (is_read_of 24) m p) (j + 1)) (sym requested) (pends_same (Does (is_write_to 23) m p) (Does (is_read_of 24) m p) j (no-does (is_write_to 23)) (no-does (is_read_of 24)) w.requested ws.requested);
      atomic = subst (λ b. (b ≡ true) ↔ Pends (λ k. IssuesAtomic m k p) (Does (is_read_of 27) m p) (j + 1)) (sym atomic) (pends_same (λ k. IssuesAtomic m k p) (Does (is_read_of 27) m p) j (no-notes AtomicIssue) (no-does (is_read_of 27)) w.atomic ws.atomic);
      stalled = subst (λ b. (b ≡ true) ↔ Pends (Does (is_read_of 25) m p) (Does (is_write_to 26) m p) (j + 1)) (sym stalled) (pends_same (Does (is_read_of 25) m p) (Does (is_write_to 26) m p) j (no-does (is_read_of 25)) (no-does (is_write_to 26)) w.stalled ws.stalled);
      tag = λ h. subst (IsStalledTag m p (j + 1)) (sym tag) (tag-stays w.tag (ws.tag (sym stalled ∙ h)));
      commands = kept;
    }

  -- ---- an instruction of processor p

  module _ (p : ℕ) (own : step ≡ Exec p) where
    pub made-here : IsStep (trace_in m) j (Exec p)
    made-here = record { event = event; at = is.event; is = own }

    pub asked : (op : ChannelOp) → Asks m j p op ↔ (made.operation ≡ Some op)
    asked op = (
      λ a. let x = is.asked p own in sym x.asks_is ∙ ap asks (some_same x.spe a.spe (sym x.at ∙ a.at)) ∙ a.asks_is,
      λ h. let x = is.asked p own in record { step = at ∙ ap Some own; spe = x.spe; at = x.at; asks_is = x.asks_is ∙ h },
    )

    pub does-here : (test : ChannelOp → Bool) → (does test made.operation ≡ true) ↔ Does test m p j
    does-here test = (λ h. on made.operation refl h, λ d. ap (does test) ((asked d.op).0 d.asked) ∙ d.passes)
      where
        on : (o : Option ChannelOp) → made.operation ≡ o → does test made.operation ≡ true → Does test m p j
        on None e h = let q : false ≡ true = sym (ap (does test) e) ∙ h in absurd (cc)
        on (Some op) e h = record { op = op; asked = (asked op).1 e; passes = sym (ap (does test) e) ∙ h }

    pub noted : (note : Note) → Notes (trace_in m) j (Exec p) note ↔ (made.effect.note ≡ note)
    noted note = (
      λ n. ap (λ (e : Event). e.effect.note) (sym (same-event n.event n.at)) ∙ n.notes,
      λ h. record { event = event; at = is.event; is = own; notes = h },
    )

    atomic-is : (note : Note) → is_atomic_issue note ≡ true → note ≡ AtomicIssue
    atomic-is AtomicIssue h = refl
    atomic-is Nothing h = absurd (cc)
    atomic-is (Issue a b) h = absurd (cc)
    atomic-is (TagRead a b) h = absurd (cc)
    atomic-is (StallRead a) h = absurd (cc)
    atomic-is (Ack a) h = absurd (cc)
    atomic-is AtomicRead h = absurd (cc)
    atomic-is (Put a b) h = absurd (cc)
    atomic-is (Take a b) h = absurd (cc)
    atomic-is Ended h = absurd (cc)
    atomic-is (Awaited a) h = absurd (cc)
    atomic-is (Signal a y) h = absurd (cc)
    atomic-is (Element a b c) h = absurd (cc)

    issues-here : (is_atomic_issue made.effect.note ≡ true) ↔ IssuesAtomic m j p
    issues-here = (λ h. (noted AtomicIssue).1 (atomic-is made.effect.note h), λ n. ap is_atomic_issue ((noted AtomicIssue).0 n))

    exec-no-host : Exec p ≡ Host → ⊥
    exec-no-host e = cc

    -- what a settled run asks of it is asked of its operation and its note
    pub settled-here : IsSettledAt m p j ↔ (MayOperate m p j made.operation × MayTell m p j made.effect.note)
    settled-here = (
      λ s. (
        record { plain = λ op e. s.operation op ((asked op).1 e); stalls = λ h. s.stalls ((does-here (is_read_of 25)).0 h); acknowledges = λ tag e. s.acknowledges tag ((asked (Write 26 tag)).1 e) },
        record { queues = λ c command e. s.queues c command ((noted (Issue c command)).1 e); atomic = λ e r. s.atomic ((noted AtomicIssue).1 e) r },
      ),
      λ h. record {
        host = λ q register n. exec-no-host (sym own ∙ ap (λ (e : Event). e.step) (sym (same-event n.event n.at)) ∙ n.is);
        operation = λ op a. h.0.plain op ((asked op).0 a);
        queues = λ c command n. h.1.queues c command ((noted (Issue c command)).0 n);
        stalls = λ d. h.0.stalls ((does-here (is_read_of 25)).1 d);
        acknowledges = λ tag a. h.0.acknowledges tag ((asked (Write 26 tag)).0 a);
        atomic = λ n r. h.1.atomic ((noted AtomicIssue).0 n) r;
      },
    )

    -- the tag after it
    tag-next : (w : Watch) → Watches m p j (j + 1) w → (does (is_read_of 25) made.operation ≡ true → AreLeft m p j w.kept.items) → MayOperate m p j made.operation
        → (b : Bool) → does (is_read_of 25) made.operation ≡ b → (b || (w.stalled && not (does (is_write_to 26) made.operation))) ≡ true
        → IsStalledTag m p (j + 1) (if b then option_map_or (λ t. t) (stalled_from None w.kept.items) w.tag else w.tag)
    tag-next w ws left may true e h = on (stalled_from None w.kept.items) refl
      where
        stalled : HasStalledList m p j
        stalled = (may.stalls e).stalled

        on : (o : Option ℕ) → stalled_from None w.kept.items ≡ o → IsStalledTag m p (j + 1) (option_map_or (λ t. t) o w.tag)
        on (Some t) q =
            let tagged = tag-at m p j made-here w.kept.items ws.commands (left e) t (only-from t w.kept.items q) in
            record { read = begun (Does (is_read_of 25) m p) (Does (is_write_to 26) m p) j ((does-here (is_read_of 25)).0 e); stalled = tagged.stalled; same = tagged.same }
        on None q = absurd (none (sym q ∙ from-only stalled.progress.command.tag w.kept.items (only-at m p j made-here w.kept.items ws.commands (left e) stalled.progress.command.tag (record { stalled = stalled; same = refl }))))
          where
            none : None ≡ Some stalled.progress.command.tag → ⊥
            none q = cc
    tag-next w ws left may false e h =
        let parts = and_parts _ _ h in
        let t = ws.tag parts.0 in
        record { read = stays (Does (is_read_of 25) m p) (Does (is_write_to 26) m p) j (λ d. off (does (is_write_to 26) made.operation) parts.1 ((does-here (is_write_to 26)).1 d)) t.read; stalled = t.stalled; same = t.same }
      where
        off : (b : Bool) → not b ≡ true → b ≡ true → ⊥
        off true h g = cc
        off false h g = cc

    -- the flags after it, the tag, and the commands
    pub marked-next : (w v : Watch) → Watches m p j (j + 1) w → (does (is_read_of 25) made.operation ≡ true → AreLeft m p j w.kept.items) → MayOperate m p j made.operation
        → v ≡ record (marked w made.operation made.effect.note) { kept = v.kept } → AreKept m p (j + 1) (j + 1) v.kept.items → Watches m p (j + 1) (j + 1) v
    marked-next w v ws left may same kept =
        subst (Watches m p (j + 1) (j + 1)) (sym same)
        (record {
          requested = pends_next (Does (is_write_to 23) m p) (Does (is_read_of 24) m p) j w.requested _ _ ws.requested (does-here (is_write_to 23)) (does-here (is_read_of 24));
          atomic = pends_next (λ k. IssuesAtomic m k p) (Does (is_read_of 27) m p) j w.atomic _ _ ws.atomic issues-here (does-here (is_read_of 27));
          stalled = pends_next (Does (is_read_of 25) m p) (Does (is_write_to 26) m p) j w.stalled _ _ ws.stalled (does-here (is_read_of 25)) (does-here (is_write_to 26));
          tag = λ h. tag-next w ws left may (does (is_read_of 25) made.operation) refl h;
          commands = kept;
        })

    -- the commands after it
    pub kept-next : IsQueued (trace_in m) → (x : ℕ) (before between after : List Kept) → AreKept m p j x before → AreChanged (IsTaken p j step made.effect.note) (length before) before between → IsAdded made.effect.note between after → AreKept m p (j + 1) x after
    kept-next queued x before between after k t a = on made.effect.note refl a
      where
        none : (note : Note) → made.effect.note ≡ note → ((c : ℕ) (command : Command) → note ≡ Issue c command → ⊥) → after ≡ between → AreKept m p (j + 1) x after
        none note e no_issue same = subst (AreKept m p (j + 1) x) (sym same) (taken-kept m p j event is.event queued x before between k t (λ c command o h. no_issue c command (sym e ∙ h)))

        on : (note : Note) → made.effect.note ≡ note → IsAdded note between after → AreKept m p (j + 1) x after
        on (Issue c command) e r = subst (AreKept m p (j + 1) x) (sym r.2) (added-kept m p j event is.event queued x before between k t c command own e r.0 r.1)
        on Nothing e r = none Nothing e (λ c command q. cc) r
        on AtomicIssue e r = none AtomicIssue e (λ c command q. cc) r
        on (TagRead a b) e r = none (TagRead a b) e (λ c command q. cc) r
        on (StallRead a) e r = none (StallRead a) e (λ c command q. cc) r
        on (Ack a) e r = none (Ack a) e (λ c command q. cc) r
        on AtomicRead e r = none AtomicRead e (λ c command q. cc) r
        on (Put a b) e r = none (Put a b) e (λ c command q. cc) r
        on (Take a b) e r = none (Take a b) e (λ c command q. cc) r
        on Ended e r = none Ended e (λ c command q. cc) r
        on (Awaited a) e r = none (Awaited a) e (λ c command q. cc) r
        on (Signal a y) e r = none (Signal a y) e (λ c command q. cc) r
        on (Element a b c) e r = none (Element a b c) e (λ d command q. cc) r

  -- ---- a step that isn't an instruction of processor p

  module _ (p : ℕ) (other : step ≡ Exec p → ⊥) (queued : IsQueued (trace_in m)) where
    -- it goes on with the commands
    pub transferred : (w v : Watch) → Watches m p j j w → v ≡ record w { kept = v.kept } → AreChanged (IsTaken p j step made.effect.note) (length w.kept.items) w.kept.items v.kept.items → Watches m p (j + 1) (j + 1) v
    transferred w v ws same t =
        flags-stay p other j (j + 1) w v ws (ap (λ (u : Watch). u.requested) same) (ap (λ (u : Watch). u.atomic) same) (ap (λ (u : Watch). u.stalled) same) (ap (λ (u : Watch). u.tag) same)
        (are-more m p (j + 1) j (j + 1) (omega arith) v.kept.items (taken-kept m p j event is.event queued j w.kept.items v.kept.items ws.commands t (λ c command o h. other o)))

    -- or leaves them
    pub idled : IsIdle p step → (w : Watch) → Watches m p j j w → Watches m p (j + 1) (j + 1) w
    idled idle w ws = transferred w w ws refl (changed-same (IsTaken p j step made.effect.note) (idle-taken p j step made.effect.note idle) w.kept.items)

    -- what a watch has then, of these commands
    pub record Moved (w : Watch) (ks : List Kept) : Type 0 where
      pub requested : (w.requested ≡ true) ↔ IsRequested m p (j + 1)
      pub atomic : (w.atomic ≡ true) ↔ IsAtomicIssued m p (j + 1)
      pub stalled : (w.stalled ≡ true) ↔ IsStallRead m p (j + 1)
      pub tag : w.stalled ≡ true → IsStalledTag m p (j + 1) w.tag
      pub commands : AreKept m p (j + 1) (j + 1) ks

    pub moved-on : (w : Watch) (ks : List Kept) → Watches m p j j w → AreChanged (IsTaken p j step made.effect.note) (length w.kept.items) w.kept.items ks → Moved w ks
    moved-on w ks ws t = record {
      requested = pends_same (Does (is_write_to 23) m p) (Does (is_read_of 24) m p) j (no-does p other (is_write_to 23)) (no-does p other (is_read_of 24)) w.requested ws.requested;
      atomic = pends_same (λ k. IssuesAtomic m k p) (Does (is_read_of 27) m p) j (no-notes p other AtomicIssue) (no-does p other (is_read_of 27)) w.atomic ws.atomic;
      stalled = pends_same (Does (is_read_of 25) m p) (Does (is_write_to 26) m p) j (no-does p other (is_read_of 25)) (no-does p other (is_write_to 26)) w.stalled ws.stalled;
      tag = λ h. tag-stays p other w.tag (ws.tag h);
      commands = are-more m p (j + 1) j (j + 1) (omega arith) ks (taken-kept m p j event is.event queued j w.kept.items ks ws.commands t (λ c command o h. other o));
    }
