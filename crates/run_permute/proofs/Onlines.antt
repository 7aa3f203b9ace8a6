-- A settled run is settled at each place.
use Rattle.std.proofs.Common.{◌≡◌, ◌≢◌, ℕ, zero, suc, ◌<◌, ◌≤◌, ◌==◌, ◌&&◌, ◌||◌, Bool, true, false, List, length, take, refl, sym, ap, ◌∙◌, subst, arith, ◌⊎◌, inl, inr, Some, None}
use Rattle.std.specs.Prelude.{not, nat_le, nat_lt, slice_get, Contains}
use Rattle.std.specs.Option.{option_map_or}
use Rattle.std.proofs.lemmas.Bool.{cases_lt, eqb-true, eq-eqb, both_ways, and_from}
use Rattle.std.proofs.lemmas.Bool.Decides.{nat_tests}
use Rattle.std.proofs.lemmas.List.{take_all}
use Rattle.cell_base.specs.declared.steps.Step.{Step}
use Rattle.cell_base.specs.declared.steps.ChannelOp.{ChannelOp}
use Rattle.cell_base.specs.declared.steps.ChannelOp.TheVariants.{Read, Count, Write}
use Rattle.cell_machine.specs.Spe.{Spe}
use Rattle.cell_machine.specs.Moves.{is_complete, is_complete_as}
use Rattle.cell_machine.specs.Run.{Ran, IsRun, spe_of}
use Rattle.mfc_command.specs.declared.command.Command.{Command}
use Rattle.mfc_command.specs.Order.{is_list}
use Rattle.race_order.specs.Queue.{Has}
use Rattle.race_order.specs.Status.{status}
use Rattle.race_order.specs.Stages.{progress_of}
use Rattle.race_order.specs.Premises.{IsQueued}
use Rattle.race_order.specs.Told.{trace_in}
use Rattle.race_order.specs.declared.progress.Progress.{Progress as Come}
use Rattle.race_order.proofs.Histories.{same_progress, valid_at}
use Rattle.reorder_laws.specs.Places.{Asks, ReadsChannel, IssuesQueued, IssuesAtomic}
use Rattle.reorder_laws.specs.Settled.{Between, IsClosed, ReadsOneStall, Acknowledges, ReadsStalls, IsSettled, IsSettledChannel}
use Rattle.run_permute.proofs.Coming.{does-or, has-moves, moves-has}
use Rattle.run_permute.specs.Online.{Does, IsShutAt, AreFewOpen, IsStallRead, IsAtomicIssued, HasStalledList, IsStalledTag, MayQueue, MayReadStall, IsSettledOnline, is_plain, is_read_of, is_write_to, is_settled_channel}

never : false ≡ true → ⊥
never h = cc

-- ---- operations

pub does-read : (m : Ran) (p k ch : ℕ) → Does (is_read_of ch) m p k → ReadsChannel m k p ch
does-read m p k ch d = on d.op d.asked d.passes
  where
    on : (op : ChannelOp) → Asks m k p op → is_read_of ch op ≡ true → ReadsChannel m k p ch
    on (Read rt c) a h = record { register = rt; reads = subst (λ x. Asks m k p (Read rt x)) (eqb-true c ch h) a }
    on (Count rt c) a h = absurd (never h)
    on (Write c v) a h = absurd (never h)

pub read-does : (m : Ran) (p k ch : ℕ) → ReadsChannel m k p ch → Does (is_read_of ch) m p k
read-does m p k ch r = record { op = Read r.register ch; asked = r.reads; passes = eq-eqb ch ch refl }

pub record Writes (m : Ran) (p k ch : ℕ) : Type 0 where
  pub value : ℕ
  pub asked : Asks m k p (Write ch value)

pub does-write : (m : Ran) (p k ch : ℕ) → Does (is_write_to ch) m p k → Writes m p k ch
does-write m p k ch d = on d.op d.asked d.passes
  where
    on : (op : ChannelOp) → Asks m k p op → is_write_to ch op ≡ true → Writes m p k ch
    on (Read rt c) a h = absurd (never h)
    on (Count rt c) a h = absurd (never h)
    on (Write c v) a h = record { value = v; asked = subst (λ x. Asks m k p (Write x v)) (eqb-true c ch h) a }

pub write-does : (m : Ran) (p k ch v : ℕ) → Asks m k p (Write ch v) → Does (is_write_to ch) m p k
write-does m p k ch v a = record { op = Write ch v; asked = a; passes = eq-eqb ch ch refl }

settled-channel : (ch : ℕ) → IsSettledChannel ch → is_settled_channel ch ≡ true
settled-channel ch (inl e) = subst (λ x. is_settled_channel x ≡ true) (sym e) refl
settled-channel ch (inr r) = on (ch == 12)
  where
    low : nat_le 16 ch ≡ true
    low = let h = r.0 in grind (arith, nat_tests)

    high : nat_le ch 30 ≡ true
    high = let h = r.1 in grind (arith, nat_tests)

    on : (b : Bool) → (b || (nat_le 16 ch && nat_le ch 30)) ≡ true
    on true = refl
    on false = and_from _ _ low high

-- between two places there is such a step, or there is none
pub search-between : (P : ℕ → Type 0) → ((x : ℕ) → P x ⊎ (P x → ⊥)) → (i j : ℕ) → Between i j P ⊎ ((x : ℕ) → i < x → x < j → P x → ⊥)
search-between P dec i zero = inr (λ x more less h. absurd (omega arith))
search-between P dec i (suc j) = on (search-between P dec i j) (dec j) (cases_lt i j)
  where
    on : Between i j P ⊎ ((x : ℕ) → i < x → x < j → P x → ⊥) → P j ⊎ (P j → ⊥) → (i < j) ⊎ (j ≤ i) → Between i (suc j) P ⊎ ((x : ℕ) → i < x → x < suc j → P x → ⊥)
    on (inl b) d low = inl (record { place = b.place; above = b.above; below = let l : b.place < j = b.below in omega arith; holds = b.holds })
    on (inr none) (inl h) (inl low) = inl (record { place = j; above = low; below = omega arith; holds = h })
    on (inr none) (inl h) (inr high) = inr (λ x more less g. absurd (omega arith))
    on (inr none) (inr absent) low = inr (λ x more less g. end x more g (cases_lt x j) less)
      where
        end : (x : ℕ) → i < x → P x → (x < j) ⊎ (j ≤ x) → x < suc j → ⊥
        end x more g (inl l) less = none x more l g
        end x more g (inr h) less = let e : x ≡ j = omega arith in absent (subst P e g)

-- the last one below k, where there is one
pub search-last : (P : ℕ → Type 0) → ((x : ℕ) → P x ⊎ (P x → ⊥)) → (k i : ℕ) → i < k → P i → (l : ℕ) × (l < k) × P l × ((x : ℕ) → l < x → x < k → P x → ⊥)
search-last P dec zero i low h = absurd (omega arith)
search-last P dec (suc k) i low h = on (dec k) (cases_lt i k) (λ less. search-last P dec k i less h)
  where
    on : P k ⊎ (P k → ⊥) → (i < k) ⊎ (k ≤ i) → (i < k → (l : ℕ) × (l < k) × P l × ((x : ℕ) → l < x → x < k → P x → ⊥)) → (l : ℕ) × (l < suc k) × P l × ((x : ℕ) → l < x → x < suc k → P x → ⊥)
    on (inl g) c rest = (k, omega arith, g, λ x more less f. absurd (omega arith))
    on (inr absent) (inr high) rest = let e : i ≡ k = omega arith in absurd (absent (subst P e h))
    on (inr absent) (inl less) rest = let r = rest less in (r.0, (let l : r.0 < k = r.1 in omega arith), r.2, λ x more under f. end x more f (cases_lt x k) under)
      where
        end : (x : ℕ) → (rest less).0 < x → P x → (x < k) ⊎ (k ≤ x) → x < suc k → ⊥
        end x more f (inl u) under = (rest less).3 x more u f
        end x more f (inr u) under = let e : x ≡ k = omega arith in absent (subst P e f)

complete-as : (c : ℕ) (P : Spe) (d : Command) → slice_get P.moves.issued c ≡ Some d → is_complete P.moves c ≡ true → is_complete_as P.moves c d ≡ true
unfolding is_complete
complete-as c P d e q = sym (ap (λ o. option_map_or (is_complete_as P.moves c) o false) e) ∙ q

-- ---- from the clauses of a settled run to its places

module _ (m : Ran) (run : IsRun m.setup m.steps) (queued : IsQueued (trace_in m)) (s : IsSettled m) where
  plain-at : (p k : ℕ) (op : ChannelOp) → Asks m k p op → is_plain op ≡ true
  plain-at p k (Count rt ch) a = absurd (s.counts k p rt ch a)
  plain-at p k (Read rt ch) a = settled-channel ch (s.channels.reads k p ch (record { register = rt; reads = a }))
  plain-at p k (Write ch v) a = and_from _ _ (settled-channel ch (s.channels.writes k p ch v a)) (on (ch == 23) refl)
    where
      on : (b : Bool) → (ch == 23) ≡ b → (not b || nat_lt 1 v) ≡ true
      on false e = refl
      on true e = let low : 1 < v = s.tags.all k p v (subst (λ x. Asks m k p (Write x v)) (eqb-true ch 23 e) a) in grind (arith, nat_tests)

  shut-at : (p k c : ℕ) (t : Come) → Has (take k (trace_in m)) p c t → IsClosed m k p c → IsShutAt m p c k
  shut-at p k c t h closed =
      let moves = has-moves m run s.faults p k c closed.spe t closed.at h in
      record {
        progress = t;
        has = h;
        complete = ap (λ (x : Come). x.done) moves.2 ∙ complete-as c closed.spe moves.0 moves.1 closed.complete;
        ordered = λ i low of. closed.ordered i of;
      }

  few-at : (p k c : ℕ) (d : Command) → IssuesQueued m k p c d → AreFewOpen m p k
  few-at p k c d n =
      let room = s.room k p c d n in
      record { unclosed = room.unclosed; few = room.few; others = λ b t h. on b t h (cases_lt b c) }
    where
      above : (b : ℕ) → c ≤ b → status p b (take k (trace_in m)) ≡ None
      above b low = ((queued k n.event n.at).issue p c d n.is n.notes).0.above b low

      on : (b : ℕ) (t : Come) → Has (take k (trace_in m)) p b t → (b < c) ⊎ (c ≤ b) → Contains (s.room k p c d n).unclosed b ⊎ IsShutAt m p b k
      on b t h (inl low) = or ((s.room k p c d n).closed b low)
        where
          or : Contains (s.room k p c d n).unclosed b ⊎ IsClosed m k p b → Contains (s.room k p c d n).unclosed b ⊎ IsShutAt m p b k
          or (inl r) = inl r
          or (inr closed) = inr (shut-at p k b t h closed)
      on b t h (inr high) = let a : status p b (take k (trace_in m)) ≡ Some t = h.is in let z = above b high in absurd (cc)

  ack-does : (p k : ℕ) → Acknowledges m p k → Does (is_write_to 26) m p k
  ack-does p k a = write-does m p k 26 a.tag a.writes

  queue-at : (p k c : ℕ) (d : Command) → IssuesQueued m k p c d → MayQueue m p k d
  queue-at p k c d n = record {
    requested = λ r.
        let w = does-write m p r.place 23 r.begins in
        let b = s.tags.waits r.place k p w.value c d r.below w.asked n in
        r.goes_on b.place b.above b.below (read-does m p b.place 24 b.holds);
    room = few-at p k c d n;
    unsent = s.channels.commands k p c d n;
    list = λ list r.
        let b = (s.stalls.one r.place p (does-read m p r.place 25 r.begins)).quiet k c d r.below n list in
        r.goes_on b.place b.above b.below (ack-does p b.place b.holds);
  }

  stalled-list : (p k : ℕ) (r : ReadsOneStall m k p) → (h : HasStalledList m p k) × (h.progress.command ≡ r.command)
  stalled-list p k r =
      let t = progress_of r.spe.moves r.cmd r.command in
      let has = moves-has m run s.faults p k r.cmd r.spe r.command r.at r.is in (
        record {
          list = r.cmd;
          progress = t;
          is = record {
            has = has;
            list = r.list;
            is_open = λ shut. both_ways _ ((valid_at (take k (trace_in m)) p r.cmd t has).calm (ap (λ (x : Come). x.done) (same_progress (take k (trace_in m)) p r.cmd t shut.progress has shut.has) ∙ shut.complete)) r.stalled;
            only = λ d u h list. on d u h list (d == r.cmd) refl;
            stalled = r.stalled;
          };
        },
        refl,
      )
    where
      differs : (d : ℕ) → (d == r.cmd) ≡ false → d ≢ r.cmd
      differs d e q = both_ways _ e (eq-eqb d r.cmd q)

      on : (d : ℕ) (u : Come) → Has (take k (trace_in m)) p d u → is_list u.command.kind ≡ true → (b : Bool) → (d == r.cmd) ≡ b → (d ≡ r.cmd) ⊎ IsShutAt m p d k
      on d u h list true e = inl (eqb-true d r.cmd e)
      on d u h list false e =
          let moves = has-moves m run s.faults p k d r.spe u r.at h in
          let kind : is_list moves.0.kind ≡ true = ap (λ (x : Come). is_list x.command.kind) (sym moves.2) ∙ list in
          inr (shut-at p k d u h (r.others d moves.0 moves.1 kind (differs d e)))

  stall-at : (p k : ℕ) → Does (is_read_of 25) m p k → MayReadStall m p k
  stall-at p k d = record {
    none = λ r.
        let b = (s.stalls.alternates p).reads r.place k r.below (does-read m p r.place 25 r.begins) (does-read m p k 25 d) in
        r.goes_on b.place b.above b.below (ack-does p b.place b.holds);
    stalled = (stalled-list p k (s.stalls.one k p (does-read m p k 25 d))).0;
  }

  -- whether the stall status is read at a place
  reads-or : (p x : ℕ) → ReadsStalls m p x ⊎ (ReadsStalls m p x → ⊥)
  reads-or p x = on (does-or m (is_read_of 25) p x)
    where
      on : Does (is_read_of 25) m p x ⊎ (Does (is_read_of 25) m p x → ⊥) → ReadsStalls m p x ⊎ (ReadsStalls m p x → ⊥)
      on (inl d) = inl (does-read m p x 25 d)
      on (inr none) = inr (λ r. none (read-does m p x 25 r))

  ack-at : (p k tag : ℕ) → Asks m k p (Write 26 tag) → IsStalledTag m p k tag
  ack-at p k tag a =
      let acks = s.stalls.alternates p in
      let first = acks.first k (record { tag = tag; writes = a }) in
      let last = search-last (ReadsStalls m p) (reads-or p) k first.0 first.1 first.2 in
      let pend = pending last.0 last.1 last.2 last.3 in
      let one = s.stalls.one last.0 p last.2 in
      let list = stalled-list p last.0 one in
      record { read = pend; stalled = list.0; same = ap (λ (d : Command). d.tag) list.1 ∙ tags last.0 last.1 one pend.goes_on }
    where
      above : (l x : ℕ) → Between x k (ReadsStalls m p) → l < x → ((y : ℕ) → l < y → y < k → ReadsStalls m p y → ⊥) → ⊥
      above l x b more none = let u : x < b.place = b.above in none b.place (omega arith) b.below b.holds

      back : (x : ℕ) → Does (is_write_to 26) m p x → Acknowledges m p x
      back x d = let w = does-write m p x 26 d in record { tag = w.value; writes = w.asked }

      pending : (l : ℕ) → l < k → ReadsStalls m p l → ((y : ℕ) → l < y → y < k → ReadsStalls m p y → ⊥) → IsStallRead m p k
      pending l low r none = record {
        place = l;
        below = low;
        begins = read-does m p l 25 r;
        goes_on = λ x more less d. above l x ((s.stalls.alternates p).acknowledgements x k less (back x d) (record { tag = tag; writes = a })) more none;
      }

      tags : (l : ℕ) → l < k → (one : ReadsOneStall m l p) → ((x : ℕ) → l < x → x < k → Does (is_write_to 26) m p x → ⊥) → one.command.tag ≡ tag
      tags l low one none = on (one.named k tag low a)
        where
          on : Between l k (Acknowledges m p) ⊎ (tag ≡ one.command.tag) → one.command.tag ≡ tag
          on (inl b) = absurd (none b.place b.above b.below (ack-does p b.place b.holds))
          on (inr e) = sym e

  atomic-at : (p k : ℕ) → IssuesAtomic m k p → IsAtomicIssued m p k → ⊥
  atomic-at p k n r = let b = s.atomics r.place k p r.below r.begins n in r.goes_on b.place b.above b.below (read-does m p b.place 27 b.holds)

  -- a settled run is settled at each place
  pub settled-online : IsSettledOnline m
  settled-online = record {
    each = λ p k. record {
      operation = λ op a. plain-at p k op a;
      queues = λ c d n. queue-at p k c d n;
      stalls = λ d. stall-at p k d;
      acknowledges = λ tag a. ack-at p k tag a;
      atomic = λ n r. atomic-at p k n r;
      host = λ q register n. s.channels.host k q register n;
    };
    faults = λ p P at. s.faults (length m.steps) p P (ap (λ (steps : List Step). spe_of (record m { steps = steps }) p) (take_all (length m.steps) m.steps (omega arith)) ∙ at);
  }
