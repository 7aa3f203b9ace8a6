-- A run that is settled at each place is settled.
use Rattle.std.proofs.Common.{◌≡◌, ◌≢◌, ℕ, zero, suc, ◌<◌, ◌≤◌, ◌==◌, ◌&&◌, ◌||◌, Bool, true, false, List, [], ◌∷◌, length, take, refl, sym, ap, ◌∙◌, subst, arith, ◌⊎◌, inl, inr, Option, Some, None}
use Rattle.std.specs.Prelude.{nat_le, nat_lt, slice_get, Contains, option_and_then, IsSome}
use Rattle.std.specs.Option.{option_map_or}
use Rattle.std.proofs.lemmas.Bool.{cases_lt, eqb-true, both_ways, and_parts}
use Rattle.std.proofs.lemmas.Bool.Decides.{nat_tests}
use Rattle.std.proofs.lemmas.Option.{slice_get_within}
use Rattle.cell_base.specs.declared.steps.Step.{Step}
use Rattle.cell_base.specs.declared.steps.Step.TheVariants.{Exec}
use Rattle.cell_base.specs.declared.steps.ChannelOp.{ChannelOp}
use Rattle.cell_base.specs.declared.steps.ChannelOp.TheVariants.{Read, Count, Write}
use Rattle.mfc_command.specs.declared.command.Command.{Command}
use Rattle.mfc_command.specs.Order.{is_list}
use Rattle.cell_machine.specs.declared.effect.Note.{Note}
use Rattle.cell_machine.specs.declared.effect.Note.TheVariants.{Issue}
use Rattle.cell_machine.specs.Exec.{asks}
use Rattle.cell_machine.specs.Spe.{Spe, is_faulted}
use Rattle.cell_machine.specs.State.{State}
use Rattle.cell_machine.specs.Memory.{lines_of}
use Rattle.cell_machine.specs.Moves.{is_complete, is_complete_as}
use Rattle.cell_machine.specs.Next.{next}
use Rattle.cell_machine.specs.Opening.{opening}
use Rattle.cell_machine.specs.Run.{Ran, IsRun, state_of, replay}
use Rattle.cell_machine.proofs.Same.{some_same}
use Rattle.cell_machine.proofs.Completion.{next-act}
use Rattle.cell_machine.proofs.Bounds.{act-seen}
use Rattle.cell_machine.proofs.ListSteps.{seen-later}
use Rattle.race_order.specs.Trace.{Event, IsStepOf, Notes}
use Rattle.race_order.specs.Queue.{Has}
use Rattle.race_order.specs.Stages.{progress_of}
use Rattle.race_order.specs.Premises.{IsQueued, MayStep}
use Rattle.race_order.specs.Told.{trace_in}
use Rattle.race_order.specs.declared.progress.Progress.{Progress as Come}
use Rattle.race_order.proofs.Histories.{same_progress, later_at, Later}
use Rattle.race_order.proofs.Elements.{may_at}
use Rattle.race_check.proofs.Prefixes.{go-on}
use Rattle.reorder_laws.proofs.Hosting.{next-leaves}
use Rattle.reorder_laws.specs.OrderedLaws.{IsOrdered}
use Rattle.reorder_laws.proofs.Recording.{recording, records}
use Rattle.reorder_laws.specs.Places.{until, spe_at, Asks, WritesChannel, IssuesQueued}
use Rattle.reorder_laws.specs.Settled.{Between, AsksForTags, ReadsTags, ReadsStalls, Acknowledges, ReadsAtomic, CountsNothing, WaitsForTags, IsClosed, HasRoom, ReadsOneStall, AlternatesStalls, ReadsEachAtomic, HasNoFault, IsSettledChannel, KeepsChannels, IsSettled}
use Rattle.run_permute.specs.Online.{Does, IsShutAt, AreFewOpen, IsStallRead, HasStalledList, IsStalledTag, IsSettledOnline, is_read_of, is_write_to, is_settled_channel}
use Rattle.run_permute.proofs.Stalls.{stalled-once}
use Rattle.run_permute.proofs.Here.{trace-size}
use Rattle.run_permute.proofs.Onlines.{does-read, read-does, does-write, write-does, search-between}
use Rattle.run_permute.proofs.Coming.{does-or, has-moves, moves-has}

never : false ≡ true → ⊥
never h = cc

-- ---- a fault stays

some-then : {X Y : Type 0} (f : X → Option Y) (o : Option X) (y : Y) → option_and_then f o ≡ Some y → (x : X) × (o ≡ Some x) × (f x ≡ Some y)
some-then f None y h = absurd (cc)
some-then f (Some x) y h = (x, refl, h)

-- the processor after some steps, at fault where it was before
record After (N : State) (p : ℕ) : Type 0 where
  spe : Spe
  at : slice_get N.spes p ≡ Some spe
  faulted : is_faulted spe.status ≡ true

faulted-on : (M : State) (steps : List Step) (N : State) (p : ℕ) (P : Spe) → replay M steps ≡ Some N → slice_get M.spes p ≡ Some P → is_faulted P.status ≡ true → After N p
faulted-on M [] N p P run at fault = let same : M ≡ N = some_same M N run in record { spe = P; at = ap (λ (K : State). slice_get K.spes p) (sym same) ∙ at; faulted = fault }
faulted-on M (s ∷ steps) N p P run at fault =
    let first = some-then (λ K. replay K steps) (next M s) N run in
    let acted = next-act M s first.0 first.1 in
    let k = act-seen M s acted.0 p P acted.1 at in
    faulted-on first.0 steps N p k.0 first.2 (ap (λ xs. slice_get xs p) (sym acted.2) ∙ k.1) ((seen-later (lines_of M.memory) s p P k.0 k.2).faulted fault)

faulted-end : (j : ℕ) (M : State) (steps : List Step) (N K : State) (p : ℕ) (P : Spe) → replay M steps ≡ Some N → replay M (take j steps) ≡ Some K → slice_get K.spes p ≡ Some P → is_faulted P.status ≡ true → After N p
faulted-end zero M steps N K p P run front at fault = let same : M ≡ K = some_same M K front in faulted-on M steps N p P run (ap (λ (S : State). slice_get S.spes p) same ∙ at) fault
faulted-end (suc j) M [] N K p P run front at fault = let same : M ≡ K = some_same M K front in faulted-on M [] N p P run (ap (λ (S : State). slice_get S.spes p) same ∙ at) fault
faulted-end (suc j) M (s ∷ steps) N K p P run front at fault =
    let first = some-then (λ L. replay L steps) (next M s) N run in
    faulted-end j first.0 steps N K p P first.2 (sym (ap (option_and_then (λ L. replay L (take j steps))) first.1) ∙ front) at fault

some-of : {X : Type 0} (o : Option X) → IsSome o → (x : X) × (o ≡ Some x)
some-of None e = absurd (cc)
some-of (Some x) e = (x, refl)

channel-is : (ch : ℕ) → is_settled_channel ch ≡ true → IsSettledChannel ch
channel-is ch h = on (ch == 12) refl h
  where
    le-nat : (a b : ℕ) → nat_le a b ≡ true → a ≤ b
    le-nat a b h = grind (arith, nat_tests)

    on : (b : Bool) → (ch == 12) ≡ b → (b || (nat_le 16 ch && nat_le ch 30)) ≡ true → IsSettledChannel ch
    on true e h = inl (eqb-true ch 12 e)
    on false e h = let parts = and_parts _ _ h in inr (le-nat 16 ch parts.0, le-nat ch 30 parts.1)

above-one : (v : ℕ) → nat_lt 1 v ≡ true → 1 < v
above-one v h = grind (arith, nat_tests)

module _ (m : Ran) (run : IsRun m.setup m.steps) (queued : IsQueued (trace_in m)) (o : IsSettledOnline m) where
  end : (N : State) × (replay (opening m.setup) m.steps ≡ Some N)
  end = some-of (replay (opening m.setup) m.steps) run.0

  -- no processor is at fault at any place
  sound : HasNoFault m
  sound j p P at = on (is_faulted P.status) refl
    where
      on : (b : Bool) → is_faulted P.status ≡ b → is_faulted P.status ≡ false
      on false e = e
      on true e =
          let K = some-then (λ (M : State). slice_get M.spes p) (state_of (until m j)) P at in
          let last = faulted-end j (opening m.setup) m.steps end.0 K.0 p P end.1 K.1 K.2 e in
          absurd (both_ways _ (o.faults p last.spe (ap (option_and_then (λ (M : State). slice_get M.spes p)) end.1 ∙ last.at)) last.faulted)

  -- the processor before an instruction of its own
  spe-there : (j p : ℕ) → slice_get m.steps j ≡ Some (Exec p) → (P : Spe) × (spe_at m j p ≡ Some P)
  spe-there j p step =
      let g = go-on (opening m.setup) end.0 m.steps j (Exec p) end.1 step in
      let after = some-of (next g.0 (Exec p)) g.2 in
      let l = next-leaves g.0 after.0 (Exec p) p refl after.1 in
      (l.spe, ap (option_and_then (λ (M : State). slice_get M.spes p)) g.1 ∙ l.at)

  noted-step : (j p : ℕ) (note : Note) → Notes (trace_in m) j (Exec p) note → slice_get m.steps j ≡ Some (Exec p)
  noted-step j p note n =
      let of = records m run in
      let size = trace-size m run in
      let sizes = of.size in
      let within : j < length (trace_in m) = slice_get_within (trace_in m) j n.event n.at in
      let low : j < (recording m).size = omega arith in
      let same : n.event ≡ record { step = (recording m).step j; effect = (recording m).effect j } = some_same n.event _ (sym n.at ∙ of.event j low) in
      of.step j low ∙ ap Some (ap (λ (e : Event). e.step) (sym same) ∙ n.is)

  -- ---- commands

  -- a complete command makes no step later
  no-later : (p c k i : ℕ) (t : Come) → Has (take k (trace_in m)) p c t → t.done ≡ true → k ≤ i → IsStepOf (trace_in m) i p c → ⊥
  no-later p c k i t has done high of =
      let T = trace_in m in
      let within : i < length T = slice_get_within T i of.event of.at in
      let may : MayStep (take i T) p c of.event.step of.event.effect.note = may_at T queued i p c of in
      let later : Later (take i T) p c t = later_at T p c k i t high (omega arith) has in
      let same : may.progress ≡ t = same_progress (take i T) p c may.progress later.progress may.has later.has ∙ later.frozen done in
      both_ways _ may.live (ap (λ (s : Come). s.done) same ∙ done)

  complete-from : (c : ℕ) (P : Spe) (d : Command) → slice_get P.moves.issued c ≡ Some d → is_complete_as P.moves c d ≡ true → is_complete P.moves c ≡ true
  unfolding is_complete
  complete-from c P d e q = ap (λ o. option_map_or (is_complete_as P.moves c) o false) e ∙ q

  closed : (p k c : ℕ) (P : Spe) → spe_at m k p ≡ Some P → IsShutAt m p c k → IsClosed m k p c
  closed p k c P at shut =
      let moves = has-moves m run sound p k c P shut.progress at shut.has in
      record {
        spe = P;
        at = at;
        complete = complete-from c P moves.0 moves.1 (sym (ap (λ (t : Come). t.done) moves.2) ∙ shut.complete);
        ordered = λ i of. on i of (cases_lt i k);
      }
    where
      on : (i : ℕ) → IsStepOf (trace_in m) i p c → (i < k) ⊎ (k ≤ i) → IsOrdered m i k
      on i of (inl low) = shut.ordered i low of
      on i of (inr high) = absurd (no-later p c k i shut.progress shut.has shut.complete high of)

  -- ---- counts, tag requests, room

  counts : CountsNothing m
  counts j p register channel a = never ((o.each p j).operation (Count register channel) a)

  tags : WaitsForTags m
  tags = record { all = λ j p value a. above-one value ((o.each p j).operation (Write 23 value) a); waits = λ i j p value c d low a n. on i j p value c d low a n (search-between (Does (is_read_of 24) m p) (does-or m (is_read_of 24) p) i j) }
    where
      on : (i j p value c : ℕ) (d : Command) → i < j → AsksForTags m i p value → IssuesQueued m j p c d → Between i j (Does (is_read_of 24) m p) ⊎ ((x : ℕ) → i < x → x < j → Does (is_read_of 24) m p x → ⊥) → Between i j (ReadsTags m p)
      on i j p value c d low a n (inl b) = record { place = b.place; above = b.above; below = b.below; holds = does-read m p b.place 24 b.holds }
      on i j p value c d low a n (inr none) = absurd (((o.each p j).queues c d n).requested (record { place = i; below = low; begins = write-does m p i 23 value a; goes_on = none }))

  room : HasRoom m
  room j p c d n =
      let may = ((o.each p j).queues c d n).room in
      record { unclosed = may.unclosed; few = may.few; closed = λ b low. on b may (below b low) }
    where
      P : (P : Spe) × (spe_at m j p ≡ Some P)
      P = spe-there j p (noted-step j p (Issue c d) n)

      below : (b : ℕ) → b < c → (s : Come) × Has (take j (trace_in m)) p b s
      below b low = ((queued j n.event n.at).issue p c d n.is n.notes).0.below b low

      on : (b : ℕ) (may : AreFewOpen m p j) → (s : Come) × Has (take j (trace_in m)) p b s → Contains may.unclosed b ⊎ IsClosed m j p b
      on b may h = or (may.others b h.0 h.1)
        where
          or : Contains may.unclosed b ⊎ IsShutAt m p b j → Contains may.unclosed b ⊎ IsClosed m j p b
          or (inl inside) = inl inside
          or (inr shut) = inr (closed p j b P.0 P.1 shut)

  -- ---- stalls

  acks : (p x : ℕ) → Does (is_write_to 26) m p x → Acknowledges m p x
  acks p x d = let w = does-write m p x 26 d in record { tag = w.value; writes = w.asked }

  acks-does : (p x : ℕ) → Acknowledges m p x → Does (is_write_to 26) m p x
  acks-does p x a = write-does m p x 26 a.tag a.writes

  ack-between : (p i j : ℕ) → Between i j (Does (is_write_to 26) m p) → Between i j (Acknowledges m p)
  ack-between p i j b = record { place = b.place; above = b.above; below = b.below; holds = acks p b.place b.holds }

  -- where no acknowledgement comes between them, the read isn't acknowledged
  abbrev unread : (p i j : ℕ) → i < j → ReadsStalls m p i → ((x : ℕ) → i < x → x < j → Does (is_write_to 26) m p x → ⊥) → IsStallRead m p j
  unread p i j low r none = record { place = i; below = low; begins = read-does m p i 25 r; goes_on = none }

  -- one operation is asked for at a place
  one-op : (x p : ℕ) (a b : ChannelOp) → Asks m x p a → Asks m x p b → a ≡ b
  one-op x p a b u v = some_same a b (sym u.asks_is ∙ ap asks (some_same u.spe v.spe (sym u.at ∙ v.at)) ∙ v.asks_is)

  alternates : (p : ℕ) → AlternatesStalls m p
  alternates p = record { reads = λ i j low a b. reads i j low a b (search-between (Does (is_write_to 26) m p) (does-or m (is_write_to 26) p) i j); first = first; acknowledgements = acknowledgements }
    where
      reads : (i j : ℕ) → i < j → ReadsStalls m p i → ReadsStalls m p j → Between i j (Does (is_write_to 26) m p) ⊎ ((x : ℕ) → i < x → x < j → Does (is_write_to 26) m p x → ⊥) → Between i j (Acknowledges m p)
      reads i j low a b (inl between) = ack-between p i j between
      reads i j low a b (inr none) = absurd (((o.each p j).stalls (read-does m p j 25 b)).none (unread p i j low a none))

      first : (j : ℕ) → Acknowledges m p j → (i : ℕ) × (i < j) × ReadsStalls m p i
      first j a = let t = (o.each p j).acknowledges a.tag a.writes in (t.read.place, t.read.below, does-read m p t.read.place 25 t.read.begins)

      acknowledgements : (i j : ℕ) → i < j → Acknowledges m p i → Acknowledges m p j → Between i j (ReadsStalls m p)
      acknowledgements i j low a b = on (cases_lt i t.read.place)
        where
          t : IsStalledTag m p j b.tag
          t = (o.each p j).acknowledges b.tag b.writes

          at-read : ReadsStalls m p t.read.place
          at-read = does-read m p t.read.place 25 t.read.begins

          apart : i ≡ t.read.place → ⊥
          apart e = clash (one-op i p (Write 26 a.tag) (Read at-read.register 25) a.writes (subst (λ x. Asks m x p (Read at-read.register 25)) (sym e) at-read.reads))
            where
              clash : Write 26 a.tag ≡ Read at-read.register 25 → ⊥
              clash e = cc

          later : t.read.place ≤ i → Between i j (ReadsStalls m p)
          later high = on (cases_lt t.read.place i)
            where
              on : (t.read.place < i) ⊎ (i ≤ t.read.place) → Between i j (ReadsStalls m p)
              on (inl more) = absurd (t.read.goes_on i more low (acks-does p i a))
              on (inr less) = absurd (apart (let e : i ≡ t.read.place = omega arith in e))

          on : (i < t.read.place) ⊎ (t.read.place ≤ i) → Between i j (ReadsStalls m p)
          on (inl less) = record { place = t.read.place; above = less; below = t.read.below; holds = at-read }
          on (inr high) = later high

  one : (j p : ℕ) → ReadsStalls m p j → ReadsOneStall m j p
  one j p r = record {
    spe = P.0;
    at = P.1;
    cmd = list;
    command = command;
    is = moves.1;
    list = ap (λ (t : Come). is_list t.command.kind) (sym moves.2) ∙ stalled.is.list;
    stalled = ap (λ (t : Come). t.stalled) (sym moves.2) ∙ stalled.is.stalled;
    others = λ c d at listed ne. others c d ne (stalled.is.only c (progress_of P.0.moves c d) (moves-has m run sound p j c P.0 d P.1 at) listed);
    named = λ k tag low w. named k tag low w (search-between (Does (is_write_to 26) m p) (does-or m (is_write_to 26) p) j k);
    quiet = λ k c d low n listed. quiet k c d low n listed (search-between (Does (is_write_to 26) m p) (does-or m (is_write_to 26) p) j k);
  }
    where
      P : (P : Spe) × (spe_at m j p ≡ Some P)
      P = (r.reads.spe, r.reads.at)

      stalled : HasStalledList m p j
      stalled = ((o.each p j).stalls (read-does m p j 25 r)).stalled

      list : ℕ
      list = stalled.list

      moves : (d : Command) × (slice_get P.0.moves.issued list ≡ Some d) × (stalled.progress ≡ progress_of P.0.moves list d)
      moves = has-moves m run sound p j list P.0 stalled.progress P.1 stalled.is.has

      command : Command
      command = moves.0

      others : (c : ℕ) (d : Command) → c ≢ list → (c ≡ list) ⊎ IsShutAt m p c j → IsClosed m j p c
      others c d ne (inl e) = absurd (ne e)
      others c d ne (inr shut) = closed p j c P.0 P.1 shut

      tagged : (k : ℕ) → j < k → ((x : ℕ) → j < x → x < k → Does (is_write_to 26) m p x → ⊥) → IsStalledTag m p k command.tag
      tagged k low none = record { read = unread p j k low r none; stalled = stalled; same = ap (λ (t : Come). t.command.tag) moves.2 }

      named : (k tag : ℕ) → j < k → WritesChannel m k p 26 tag → Between j k (Does (is_write_to 26) m p) ⊎ ((x : ℕ) → j < x → x < k → Does (is_write_to 26) m p x → ⊥) → Between j k (Acknowledges m p) ⊎ (tag ≡ command.tag)
      named k tag low w (inl b) = inl (ack-between p j k b)
      named k tag low w (inr none) = inr (stalled-once m p k (λ x less. o.each p x) tag command.tag ((o.each p k).acknowledges tag w) (tagged k low none))

      quiet : (k c : ℕ) (d : Command) → j < k → IssuesQueued m k p c d → is_list d.kind ≡ true → Between j k (Does (is_write_to 26) m p) ⊎ ((x : ℕ) → j < x → x < k → Does (is_write_to 26) m p x → ⊥) → Between j k (Acknowledges m p)
      quiet k c d low n listed (inl b) = ack-between p j k b
      quiet k c d low n listed (inr none) = absurd (((o.each p k).queues c d n).list listed (unread p j k low r none))

  -- ---- atomic commands, channels

  atomics : ReadsEachAtomic m
  atomics i j p low a b = on (search-between (Does (is_read_of 27) m p) (does-or m (is_read_of 27) p) i j)
    where
      on : Between i j (Does (is_read_of 27) m p) ⊎ ((x : ℕ) → i < x → x < j → Does (is_read_of 27) m p x → ⊥) → Between i j (ReadsAtomic m p)
      on (inl h) = record { place = h.place; above = h.above; below = h.below; holds = does-read m p h.place 27 h.holds }
      on (inr none) = absurd ((o.each p j).atomic b (record { place = i; below = low; begins = a; goes_on = none }))

  channels : KeepsChannels m
  channels = record {
    reads = λ j p ch r. channel-is ch ((o.each p j).operation (Read r.register ch) r.reads);
    writes = λ j p ch value w. channel-is ch (and_parts _ _ ((o.each p j).operation (Write ch value) w)).0;
    commands = λ j p c d n. ((o.each p j).queues c d n).unsent;
    host = λ j q register n. (o.each 0 j).host q register n;
  }

  -- a run that is settled at each place is settled
  pub online-settled : IsSettled m
  online-settled = record { counts = counts; tags = tags; room = room; stalls = record { alternates = alternates; one = one }; atomics = atomics; faults = sound; channels = channels }
