-- The host's step, in another order.
use Rattle.std.proofs.Common.{◌≡◌, ℕ, zero, suc, ◌+◌, ◌-◌, ◌/◌, ◌<◌, ◌≤◌, refl, sym, ◌∙◌, ap, ap₂, subst, arith, Bool, true, false, List, [], ◌∷◌, ◌++◌, length, take, Some, None, cond, inl, inr}
use Rattle.std.specs.Prelude.{slice_get, ◌==◌, ◌&&◌, not, nat_lt, is_some, option_and_then}
use Rattle.std.specs.List.{range_with_len}
use Rattle.std.specs.Option.{option_map, option_map_or}
use Rattle.std.proofs.lemmas.Bool.{cases_eq, cases_lt, false≢true, lt-ltb}
use Rattle.std.proofs.lemmas.Bool.Decides.{nat_tests}
use Rattle.std.proofs.lemmas.Option.{slice_get_within}
use Rattle.cell_base.specs.declared.steps.Step.{Step}
use Rattle.cell_base.specs.declared.steps.Step.TheVariants.{Exec, Piece, Elem, Retire, Atomic, Host}
use Rattle.cell_host.specs.declared.HostAction.{HostAction}
use Rattle.cell_host.specs.declared.HostAction.TheVariants.{Send, Take as TakeOut, TakeIntr, Store, Await, Signal as SignalTo}
use Rattle.cell_host.specs.Script.{Progress, advanced}
use Rattle.lock_lines.specs.Versions.{raised}
use Rattle.tag_groups.specs.declared.Tags.{Tags}
use Rattle.tag_groups.specs.Settle.{settled_tags}
use Rattle.cell_channels.specs.declared.channels.Channels.{Channels}
use Rattle.cell_machine.specs.declared.effect.Effect.{Effect}
use Rattle.cell_machine.specs.declared.effect.Note.TheVariants.{Put, Take, Ended, Awaited}
use Rattle.cell_machine.specs.Spe.{Spe, Moves, is_running}
use Rattle.cell_machine.specs.State.{State, with_spe}
use Rattle.cell_machine.specs.Memory.{MainMemory, lines_of, stored}
use Rattle.cell_machine.specs.Moves.{busy, read_of}
use Rattle.cell_machine.specs.Hosts.{Acted, acted, after_action, host}
use Rattle.cell_machine.specs.Tags.{settled}
use Rattle.cell_machine.specs.Next.{next, ended_by}
use Rattle.cell_machine.specs.Locks.{stored_by, stored_by_action}
use Rattle.cell_machine.specs.Effects.{effect_of, host_effect, host_tells}
use Rattle.cell_machine.specs.Written.{written_by, Given, host_bytes}
use Rattle.cell_machine.specs.Raised.{with_raised, raised_at}
use Rattle.cell_machine.proofs.CommandsShown.{set-here, set-other}
use Rattle.cell_machine.proofs.Same.{some_same, eq_same, eq_is, eq_not}
use Rattle.cell_machine.proofs.BytesLaws.{length-put-same}
use Rattle.reorder_laws.specs.Boxes.{first_of, later_of}
use Rattle.reorder_laws.specs.Hosting.{host_may, host_leaves, host_took, IsGiven, IsActed, IsHost}
use Rattle.reorder_laws.specs.Happens.{concerns}
use Rattle.reorder_laws.specs.Deeds.{Did, Ends, Goes, Plain, SetParams, SetMask, AskTags, TakeTags, TakeStalls, TakeAtomic, TakeValue, Queue, FillSlot, Resume, PutValue, PutInterrupt, TakeSignal, LeaveEvents, did, note_of, instr_deed, exec_deed}
use Rattle.spu_decode.specs.Spelling.{instr_of}
use Rattle.local_store.specs.Store.{word_at}
use Rattle.reorder_laws.proofs.Hosting.{closed-long, host-next, host-leaves, host-made, map_some}
use Rattle.reorder_laws.specs.Cuts.{IsFront, IsCut}
use Rattle.reorder_laws.specs.Recorded.{Recorded, IsRecorded, Program, count_of, spe_in, spe_before, program_of, listening_of, locking_of, is_exec, is_elem, is_host, is_atomic_step, is_put_note, is_take_note, done_by, retired_by, element_at, asked, owes, stalled_groups, element_by, box_of}
use Rattle.reorder_laws.specs.OrderLaws.{Orders}
use Rattle.reorder_laws.specs.Frames.{HasFrames, IsFaultless}
use Rattle.reorder_laws.specs.OrderedLaws.{BoxesFit}
use Rattle.reorder_laws.proofs.Steps.{host_off}
use Rattle.reorder_laws.proofs.Frames.{happens-at}
use Rattle.reorder_laws.proofs.CommandFrames.{exec-only}
use Rattle.reorder_laws.proofs.Makers.{put-maker, take-maker}
use Rattle.reorder_laws.specs.Described.{Describes, DescribesSpe, ShowsBox}
use Rattle.reorder_laws.specs.Facts.{HostSignalsNothing}
use Rattle.reorder_laws.specs.Steps.{HasSameBytes, MakesStep}
use Rattle.reorder_laws.proofs.Cuts.{cut_front, cut_skip, shown_at, shows_step, shows_skip}
use Rattle.reorder_laws.proofs.After.{get_in, closed_spe, closed_described, set_long, settled_here, map_same, Spares, spared_settled, versions_more, inside_more}
use Rattle.reorder_laws.proofs.BoxSteps.{PutsThere, puts_there, TakesThere, takes_there}

host_is : (s : Step) → is_host s ≡ true → s ≡ Host
host_is (Exec p) h = absurd (false≢true h)
host_is (Piece p c e k) h = absurd (false≢true h)
host_is (Elem p c) h = absurd (false≢true h)
host_is (Retire p c) h = absurd (false≢true h)
host_is (Atomic p) h = absurd (false≢true h)
host_is Host h = refl

-- the effect of the host's step
pub effect_there : (M N : State) (a : HostAction) → slice_get M.host.script M.host.done ≡ Some a → host M ≡ Some N → effect_of M Host ≡ Some (host_effect a)
unfolding host effect_of
effect_there M N a at h =
    let f = map_some after_action (acted M a) N (sym (ap (option_and_then (λ a. option_map after_action (acted M a))) at) ∙ h) in
    ap (option_and_then (λ a. option_map (λ (d : Acted). host_effect a) (acted M a))) at ∙ ap (option_map (λ (d : Acted). host_effect a)) f.1

wrote_there : (M N : State) → M.host ≡ N.host → written_by M Host ≡ written_by N Host
unfolding written_by
wrote_there M N same = ap (λ (h : Progress). Given (option_map_or host_bytes (slice_get h.script h.done) [])) same

host_program : (a : HostAction) (P : Spe) → (program_of (host_leaves a P) ≡ program_of P) × (locking_of (host_leaves a P) ≡ locking_of P) × ((host_leaves a P).moves ≡ P.moves) × ((host_leaves a P).tags ≡ P.tags)
    × ((host_leaves a P).channels ≡ P.channels)
host_program (Send p value) P = (refl, refl, refl, refl, refl)
host_program (TakeOut p) P = (refl, refl, refl, refl, refl)
host_program (TakeIntr p) P = (refl, refl, refl, refl, refl)
host_program (Store ea len bytes) P = (refl, refl, refl, refl, refl)
host_program (Await p) P = (refl, refl, refl, refl, refl)
host_program (SignalTo p register value) P = (refl, refl, refl, refl, refl)

stored_versions : (m : MainMemory) (ea : ℕ) (bytes : List ℕ) → (stored m ea bytes).versions ≡ raised m.versions (ea / 128)
unfolding stored
stored_versions m ea bytes = refl

stored_long : (m n : MainMemory) (ea : ℕ) (bytes : List ℕ) → length m.bytes ≡ length n.bytes → length (stored m ea bytes).bytes ≡ length (stored n ea bytes).bytes
unfolding stored
stored_long m n ea bytes same = length-put-same m.bytes n.bytes bytes ea same

host_hears : (a : HostAction) (P : Spe) → ((p register value : ℕ) → a ≡ SignalTo p register value → ⊥) → listening_of (host_leaves a P) ≡ listening_of P
host_hears (Send p value) P quiet = refl
host_hears (TakeOut p) P quiet = refl
host_hears (TakeIntr p) P quiet = refl
host_hears (Store ea len bytes) P quiet = refl
host_hears (Await p) P quiet = refl
host_hears (SignalTo p register value) P quiet = absurd (quiet p register value refl)

-- an instruction is made by a processor that runs
exec_runs : (lines : ℕ) (P : Spe) (d : Did) → exec_deed lines P ≡ Some d → is_running P.status ≡ true
unfolding exec_deed
exec_runs lines P d h = on (is_running P.status) refl h
  where
    on : (b : Bool) → is_running P.status ≡ b → cond b (instr_deed lines P (instr_of (word_at P.store P.pc))) None ≡ Some d → is_running P.status ≡ true
    on true e g = e
    on false e g = absurd (cc)

-- one that ends its run tells that
ended_note : (p : ℕ) (d : Did) (P : Spe) → is_running P.status ≡ true → is_running (did d P).status ≡ false → note_of p d ≡ Ended
ended_note p (Ends status x) P on_ off = refl
ended_note p (Goes x Plain) P on_ off = absurd (false≢true (sym off ∙ on_))
ended_note p (Goes x (SetParams y)) P on_ off = absurd (false≢true (sym off ∙ on_))
ended_note p (Goes x (SetMask y)) P on_ off = absurd (false≢true (sym off ∙ on_))
ended_note p (Goes x (TakeSignal y)) P on_ off = absurd (false≢true (sym off ∙ on_))
ended_note p (Goes x (LeaveEvents y)) P on_ off = absurd (false≢true (sym off ∙ on_))
ended_note p (Goes x (AskTags y)) P on_ off = absurd (false≢true (sym off ∙ on_))
ended_note p (Goes x (TakeTags y)) P on_ off = absurd (false≢true (sym off ∙ on_))
ended_note p (Goes x (TakeStalls y)) P on_ off = absurd (false≢true (sym off ∙ on_))
ended_note p (Goes x TakeAtomic) P on_ off = absurd (false≢true (sym off ∙ on_))
ended_note p (Goes x TakeValue) P on_ off = absurd (false≢true (sym off ∙ on_))
ended_note p (Goes x (Queue n y)) P on_ off = absurd (false≢true (sym off ∙ on_))
ended_note p (Goes x (FillSlot y)) P on_ off = absurd (false≢true (sym off ∙ on_))
ended_note p (Goes x (Resume t y)) P on_ off = absurd (false≢true (sym off ∙ on_))
ended_note p (Goes x (PutValue y)) P on_ off = absurd (false≢true (sym off ∙ on_))
ended_note p (Goes x (PutInterrupt y)) P on_ off = absurd (false≢true (sym off ∙ on_))

not_below : (i x : ℕ) → x ≤ i → nat_lt i x ≡ false
not_below i x h = grind (arith, nat_tests)

exec_is : (p : ℕ) (s : Step) → is_exec p s ≡ true → s ≡ Exec p
exec_is p (Exec q) h = ap Exec (eq_is q p h)
exec_is p (Piece q c e k) h = absurd (false≢true h)
exec_is p (Elem q c) h = absurd (false≢true h)
exec_is p (Retire q c) h = absurd (false≢true h)
exec_is p (Atomic q) h = absurd (false≢true h)
exec_is p Host h = absurd (false≢true h)

module _ (r : Recorded) (rec : IsRecorded r) (frames : HasFrames r) (faultless : IsFaultless r) (fit : BoxesFit r) (silent_host : HostSignalsNothing r) (Before : ℕ → ℕ → Type 0) (orders : Orders Before r)
    (D : List ℕ) (j : ℕ) (M : State) (front : IsFront Before r.size D j) (describes : Describes r D M) (shown : Describes r (range_with_len 0 j) (r.state j)) (same_bytes : HasSameBytes M (r.state j)) (step_is : r.step j ≡ Host) where
  low : j < r.size
  low = front.low

  abbrev A : State
  A = r.state j

  made_host : next A Host ≡ Some (r.state (suc j))
  made_host = ap (next A) (sym step_is) ∙ rec.made j low

  came : (K : State) × (host A ≡ Some K) × (r.state (suc j) ≡ ended_by A Host K)
  came = host-next A (r.state (suc j)) made_host

  found : IsHost A came.0
  found = host-leaves A came.0 came.1

  abbrev a : HostAction
  a = found.action

  effect_is : r.effect j ≡ host_effect a
  effect_is = some_same (r.effect j) (host_effect a) (sym (ap (effect_of A) (sym step_is) ∙ rec.told j low) ∙ effect_there A came.0 a found.at came.1)

  note_is : (r.effect j).note ≡ host_tells a
  note_is = ap (λ (e : Effect). e.note) effect_is

  no_signal : (p register value : ℕ) → a ≡ SignalTo p register value → ⊥
  no_signal p register value is = silent_host j p register low step_is (note_is ∙ ap host_tells is)

  host_cut : IsCut r.size (λ i. is_host (r.step i)) D j
  host_cut =
      cut_front r.size Before (λ i. is_host (r.step i)) D j front
      (λ i less c. orders.script i j less low (host_is (r.step i) c) step_is) (λ i more low_i c. orders.script j i more low_i step_is (host_is (r.step i) c))

  hosts : M.host ≡ A.host
  hosts = shown_at r.size (λ i. is_host (r.step i)) (λ i. (r.state i).host) (λ i h off. frames.host i h off) D j M.host (omega (arith, low)) host_cut describes.host

  at_M : slice_get M.host.script M.host.done ≡ Some a
  at_M = ap (λ (h : Progress). slice_get h.script h.done) hosts ∙ found.at

  -- ---- a processor that the action doesn't concern

  spares : (q : ℕ) → (concerns a ≡ Some q → ⊥) → Spares r frames D j low q
  spares q far = record {
    exec = ap (is_exec q) step_is;
    elem = λ b. ap (is_elem q b) step_is;
    done = ap (done_by q) step_is;
    retired = ap (retired_by q) step_is;
    element = ap (λ s. element_by q s (spe_before r q (suc j))) step_is;
    atomic = ap (λ s. is_atomic_step q s (r.effect j).note) step_is;
    put = λ m. ap (is_put_note q m) note_is ∙ (host_off q a far m).0;
    take = λ m. ap (is_take_note q m) note_is ∙ (host_off q a far m).1;
  }

  kept : (p m : ℕ) (values : List ℕ) → is_put_note p m (r.effect j).note ≡ false → is_take_note p m (r.effect j).note ≡ false → ShowsBox r p m D values → ShowsBox r p m (D ++ j ∷ []) values
  kept p m values a b box = record {
    put_place = box.put_place;
    take_place = box.take_place;
    put_within = box.put_within;
    take_within = box.take_within;
    put_cut = cut_skip r.size (λ i. is_put_note p m (r.effect i).note) D j box.put_place a box.put_cut;
    take_cut = cut_skip r.size (λ i. is_take_note p m (r.effect i).note) D j box.take_place b box.take_cut;
    values_are = box.values_are;
  }

  -- ---- the processor that it concerns

  concerned : (p : ℕ) → p < count_of r → ((m : ℕ) → m < 3 → ShowsBox r p m (D ++ j ∷ []) (box_of m (host_leaves a (spe_in M p)))) → DescribesSpe r p (D ++ j ∷ []) (settled (host_leaves a (spe_in M p)))
  concerned p low_p boxes =
      subst (DescribesSpe r p (D ++ j ∷ [])) (sym (settled_here Q (record { mask = Q.tags.mask; request = asked r p d.program.place; status = None }) tags)) (record {
        program = record {
          place = d.program.place;
          within = d.program.within;
          cut = cut_skip r.size (λ i. is_exec p (r.step i)) D j d.program.place (ap (is_exec p) step_is) d.program.cut;
          program = h.0 ∙ d.program.program;
          tags = tags;
          stalls = ap (λ (c : Channels). c.stalls) h.4 ∙ d.program.stalls ∙ ap (λ (mv : Moves). cond (owes r p d.program.place) 0 (stalled_groups mv)) (sym h.2);
        };
        read = map_same (element_at r p) D j Q.moves.read (ap (λ s. element_by p s (spe_before r p (suc j))) step_is) (ap (λ (mv : Moves). mv.read) h.2 ∙ d.read);
        done = map_same (λ i. done_by p (r.step i)) D j Q.moves.done (ap (done_by p) step_is) (ap (λ (mv : Moves). mv.done) h.2 ∙ d.done);
        retired = map_same (λ i. retired_by p (r.step i)) D j Q.moves.retired (ap (retired_by p) step_is) (ap (λ (mv : Moves). mv.retired) h.2 ∙ d.retired);
        elements = λ b. shows_skip r.size (λ i. is_elem p b (r.step i)) (λ x. read_of (spe_before r p x).moves.read b) D j (read_of (spe_in M p).moves.read b) (read_of Q.moves.read b) (ap (is_elem p b) step_is)
            (ap (λ (mv : Moves). read_of mv.read b) h.2) (d.elements b);
        locking = shows_skip r.size (λ i. is_atomic_step p (r.step i) (r.effect i).note) (λ x. locking_of (spe_before r p x)) D j (locking_of (spe_in M p)) (locking_of Q) (ap (λ s. is_atomic_step p s (r.effect j).note) step_is) h.1 d.locking;
        boxes = boxes;
        heard = host_hears a (spe_in M p) no_signal ∙ d.heard;
      })
    where
      d : DescribesSpe r p D (spe_in M p)
      d = describes.spes p low_p

      Q : Spe
      Q = host_leaves a (spe_in M p)

      h : (program_of (host_leaves a (spe_in M p)) ≡ program_of (spe_in M p)) × (locking_of (host_leaves a (spe_in M p)) ≡ locking_of (spe_in M p)) × ((host_leaves a (spe_in M p)).moves ≡ (spe_in M p).moves) × ((host_leaves a (spe_in M p)).tags ≡ (spe_in M p).tags)
          × ((host_leaves a (spe_in M p)).channels ≡ (spe_in M p).channels)
      h = host_program a (spe_in M p)

      tags : Q.tags ≡ settled_tags (busy Q.moves) (length Q.moves.issued) (record { mask = Q.tags.mask; request = asked r p d.program.place; status = None })
      tags =
          h.3 ∙ d.program.tags
          ∙ ap₂ (λ (t : Tags) (mv : Moves). settled_tags (busy mv) (length mv.issued) (record { mask = t.mask; request = asked r p d.program.place; status = None })) (sym h.3) (sym h.2)

  -- ---- the step

  make : (N : State) → host M ≡ Some N → Describes r (D ++ j ∷ []) (ended_by M Host N) → MakesStep r D j M
  make N made d = record {
    after = ended_by M Host N;
    next_is = ap (next M) step_is ∙ ap (option_map (ended_by M Host)) made;
    effect = host_effect a;
    effect_is = ap (effect_of M) step_is ∙ effect_there M N a at_M made;
    spans = record {
      fetch = sym (ap (λ (e : Effect). e.fetch) effect_is);
      reads = sym (ap (λ (e : Effect). e.reads) effect_is);
      writes = sym (ap (λ (e : Effect). e.writes) effect_is);
    };
    written = ap (written_by M) step_is ∙ wrote_there M A hosts ∙ sym (ap (written_by A) step_is);
    describes = subst (λ s. Describes r (D ++ j ∷ []) (ended_by M s N)) refl d;
  }

  stores : stored_by A (r.step j) ≡ stored_by_action a
  stores = ap (stored_by A) step_is ∙ ap (option_and_then stored_by_action) found.at

  given_low : (p : ℕ) → IsGiven A came.0 p a → p < count_of r
  given_low p g = let w = slice_get_within A.spes p g.spe g.at in let c = frames.count j (omega (arith, low)) in omega (arith, w, c)

  given_spe : (p : ℕ) (g : IsGiven A came.0 p a) → g.spe ≡ spe_before r p j
  given_spe p g = some_same g.spe (spe_before r p j) (sym g.at ∙ get_in A.spes p (slice_get_within A.spes p g.spe g.at))

  -- what it leaves of its processor in the recorded run
  given_after : (p : ℕ) → IsGiven A came.0 p a → spe_before r p (suc j) ≡ settled (with_raised (host_leaves a (spe_before r p j)) (raised_at A Host came.0 p))
  given_after p g =
      ap (λ (S : State). spe_in S p) came.2
      ∙ closed_spe A came.0 Host p (host_leaves a g.spe) (ap (λ (S : State). slice_get S.spes p) g.is ∙ set-here A.spes p (host_leaves a g.spe) (slice_get_within A.spes p g.spe g.at))
      ∙ ap (λ S. settled (with_raised (host_leaves a S) (raised_at A Host came.0 p))) (given_spe p g)

  given_step : (p : ℕ) → concerns a ≡ Some p → IsGiven A came.0 p a → ((N : State) → IsGiven M N p a → IsActed M N a) → host_may a (spe_in M p) ≡ true → host_took a (spe_in M p) ≡ host_took a (spe_before r p j)
      → stored_by_action a ≡ None → ((m : ℕ) → m < 3 → ShowsBox r p m (D ++ j ∷ []) (box_of m (host_leaves a (spe_in M p)))) → MakesStep r D j M
  given_step p of g lift may took none boxes = make N made (record {
    inside = inside_more r frames D j low describes.inside;
    count = closed-long M N Host ∙ set_long M.spes p Q ∙ describes.count;
    long = describes.long;
    versions = versions_more r frames D j low M.memory.versions M.memory.versions describes.versions (sym (ap (λ o. option_map_or (raised M.memory.versions) o M.memory.versions) (stores ∙ none)));
    host = shows_step r.size (λ i. is_host (r.step i)) (λ i. (r.state i).host) D j (advanced M.host (host_took a (spe_in M p))) low host_cut
        (ap₂ advanced hosts took ∙ sym (ap (λ (S : State). S.host) came.2 ∙ ap (λ (S : State). S.host) g.is ∙ ap (λ S. advanced A.host (host_took a S)) (given_spe p g)));
    spes = λ q low_q. elim (cases_eq q p) [
      | inl e ↦ subst (λ q. DescribesSpe r q (D ++ j ∷ []) (spe_in (ended_by M Host N) q)) (sym e)
          (closed_described r p (D ++ j ∷ []) M N Host Q (set-here M.spes p Q (omega (arith, low_p, describes.count))) (concerned p low_p boxes))
      | inr ne ↦ closed_described r q (D ++ j ∷ []) M N Host (spe_in M q)
          (set-other M.spes p q Q (λ e. ne (sym e)) ∙ get_in M.spes q (omega (arith, low_q, describes.count)))
          (spared_settled r frames D j low q (spe_in M q) (spares q (λ h. ne (sym (some_same p q (sym of ∙ h))))) (describes.spes q low_q))
    ];
  })
    where
      low_p : p < count_of r
      low_p = given_low p g

      Q : Spe
      Q = host_leaves a (spe_in M p)

      N : State
      N = record (with_spe M p (host_leaves a (spe_in M p))) { host = advanced M.host (host_took a (spe_in M p)) }

      made : host M ≡ Some N
      made = host-made M N (record { action = a; at = at_M; acted = lift N (record { spe = spe_in M p; at = get_in M.spes p (omega (arith, low_p, describes.count)); may = may; is = refl }) })

  -- ---- each action

  box_there : (p m : ℕ) → p < count_of r → m < 3 → ShowsBox r p m D (box_of m (spe_in M p))
  box_there p m low_p small = (describes.spes p low_p).boxes m small

  put_cut : (p : ℕ) → p < count_of r → IsCut r.size (λ i. is_put_note p 0 (r.effect i).note) D j
  put_cut p low_p =
      cut_front r.size Before (λ i. is_put_note p 0 (r.effect i).note) D j front
      (λ i less c. orders.script i j less low (put-maker r rec faultless i p 0 (omega (arith, less, low)) low_p c) step_is)
      (λ i more low_i c. orders.script j i more low_i step_is (put-maker r rec faultless i p 0 low_i low_p c))

  send : (p v : ℕ) → a ≡ Send p v → IsGiven A came.0 p (Send p v) → MakesStep r D j M
  send p v is g0 =
      given_step p (ap concerns is) g (λ N x. subst (IsActed M N) (sym is) (subst (IsGiven M N p) is x)) (ap (λ b. host_may b P) is ∙ room) (ap (λ b. host_took b P) is ∙ sym (ap (λ b. host_took b K) is)) (ap stored_by_action is)
      (λ m small. subst (λ b. ShowsBox r p m (D ++ j ∷ []) (box_of m (host_leaves b P))) (sym is) (on m small (0 == m) refl))
    where
      g : IsGiven A came.0 p a
      g = subst (IsGiven A came.0 p) (sym is) g0

      low_p : p < count_of r
      low_p = given_low p g

      P : Spe
      P = spe_in M p

      K : Spe
      K = spe_before r p j

      note : (r.effect j).note ≡ Put p 0
      note = note_is ∙ ap host_tells is

      puts : is_put_note p 0 (r.effect j).note ≡ true
      puts = ap (is_put_note p 0) note ∙ ap (λ b. b && true) (eq_same p)

      there : PutsThere r frames p 0 low_p (omega arith) Before orders fit D j front describes.inside P.inbound (box_there p 0 low_p (omega arith))
      there = puts_there r frames p 0 low_p (omega arith) Before orders fit D j front describes.inside P.inbound (box_there p 0 low_p (omega arith)) puts (ap (is_take_note p 0) note) (put_cut p low_p)
          (λ i more low_i c. orders.script j i more low_i step_is (put-maker r rec faultless i p 0 low_i low_p c))

      room : host_may (Send p v) P ≡ true
      room = let l = there.room in lt-ltb (length P.inbound) 4 l

      recorded : box_of 0 (spe_before r p (suc j)) ≡ box_of 0 (spe_before r p j) ++ v ∷ []
      recorded = ap (λ (S : Spe). S.inbound) (given_after p g) ∙ ap (λ b. (host_leaves b K).inbound) is

      on : (m : ℕ) → m < 3 → (b : Bool) → (0 == m) ≡ b → ShowsBox r p m (D ++ j ∷ []) (box_of m (host_leaves (Send p v) P))
      on m small true e = subst (λ k. ShowsBox r p k (D ++ j ∷ []) (box_of k (host_leaves (Send p v) P))) (eq_is 0 m e) (there.after v recorded)
      on m small false e =
          subst (ShowsBox r p m (D ++ j ∷ [])) (same_box m e)
          (kept p m (box_of m P) (ap (is_put_note p m) note ∙ ap₂ (λ x y. x && y) (eq_same p) e) (ap (is_take_note p m) note) (box_there p m low_p small))
        where
          same_box : (m : ℕ) → (0 == m) ≡ false → box_of m P ≡ box_of m (host_leaves (Send p v) P)
          same_box m e = let o : (m == 0) ≡ false = grind (arith, nat_tests, e) in rw o refl

  take_cut : (p m : ℕ) → p < count_of r → (m == 0) ≡ false → IsCut r.size (λ i. is_take_note p m (r.effect i).note) D j
  take_cut p m low_p off =
      cut_front r.size Before (λ i. is_take_note p m (r.effect i).note) D j front
      (λ i less c. orders.script i j less low (take-maker r rec faultless i p m (omega (arith, less, low)) low_p c ∙ ap (λ b. cond b (Exec p) Host) off) step_is)
      (λ i more low_i c. orders.script j i more low_i step_is (take-maker r rec faultless i p m low_i low_p c ∙ ap (λ b. cond b (Exec p) Host) off))

  -- an action that takes from mailbox k, in its general form
  take_boxes : (p k : ℕ) → p < count_of r → (small : k < 3) → (k == 0) ≡ false → (r.effect j).note ≡ Take p k → (Q : Spe) → (box_of k Q ≡ later_of (box_of k (spe_in M p))) → ((m : ℕ) → m < 3 → (k == m) ≡ false → box_of m Q ≡ box_of m (spe_in M p))
      → (first_of (box_of k (spe_in M p)) ≡ first_of (box_of k (spe_before r p j))) × ((m : ℕ) → m < 3 → ShowsBox r p m (D ++ j ∷ []) (box_of m Q))
  take_boxes p k low_p small off note Q here others = (there.first, λ m small_m. on m small_m (k == m) refl)
    where
      takes : is_take_note p k (r.effect j).note ≡ true
      takes = ap (is_take_note p k) note ∙ ap₂ (λ x y. x && y) (eq_same p) (eq_same k)

      there : TakesThere r frames p k low_p small Before orders fit D j front describes.inside (box_of k (spe_in M p)) (box_there p k low_p small)
      there = takes_there r frames p k low_p small Before orders fit D j front describes.inside (box_of k (spe_in M p)) (box_there p k low_p small) takes (ap (is_put_note p k) note) (take_cut p k low_p off)
          ((shown.spes p low_p).boxes k small)

      on : (m : ℕ) → m < 3 → (b : Bool) → (k == m) ≡ b → ShowsBox r p m (D ++ j ∷ []) (box_of m Q)
      on m small_m true e = subst (λ x. ShowsBox r p x (D ++ j ∷ []) (box_of x Q)) (eq_is k m e) (subst (ShowsBox r p k (D ++ j ∷ [])) (sym here) there.after)
      on m small_m false e =
          subst (ShowsBox r p m (D ++ j ∷ [])) (sym (others m small_m e))
          (kept p m (box_of m (spe_in M p)) (ap (is_put_note p m) note) (ap (is_take_note p m) note ∙ ap₂ (λ x y. x && y) (eq_same p) e) (box_there p m low_p small_m))

  some_first : (xs ys : List ℕ) → first_of xs ≡ first_of ys → is_some (first_of ys) ≡ true → is_some (first_of xs) ≡ true
  some_first xs ys same h = ap is_some same ∙ h

  take_out : (p : ℕ) → a ≡ TakeOut p → IsGiven A came.0 p (TakeOut p) → MakesStep r D j M
  take_out p is g0 =
      given_step p (ap concerns is) g (λ N x. subst (IsActed M N) (sym is) (subst (IsGiven M N p) is x)) (ap (λ b. host_may b P) is ∙ some_first P.outbound K.outbound boxes.0 may)
      (ap (λ b. host_took b P) is ∙ boxes.0 ∙ sym (ap (λ b. host_took b K) is)) (ap stored_by_action is)
      (λ m small. subst (λ b. ShowsBox r p m (D ++ j ∷ []) (box_of m (host_leaves b P))) (sym is) (boxes.1 m small))
    where
      g : IsGiven A came.0 p a
      g = subst (IsGiven A came.0 p) (sym is) g0

      low_p : p < count_of r
      low_p = given_low p g

      P : Spe
      P = spe_in M p

      K : Spe
      K = spe_before r p j

      may : is_some (first_of K.outbound) ≡ true
      may = ap (λ (S : Spe). is_some (first_of S.outbound)) (sym (given_spe p g)) ∙ sym (ap (λ b. host_may b g.spe) is) ∙ g.may

      same_box : (m : ℕ) → m < 3 → (1 == m) ≡ false → box_of m (host_leaves (TakeOut p) P) ≡ box_of m P
      same_box m small e = let o : (m == 1) ≡ false = grind (arith, nat_tests, e) in ap (λ b. cond (m == 0) P.inbound (cond b (later_of P.outbound) P.interrupt)) o ∙ sym (ap (λ b. cond (m == 0) P.inbound (cond b P.outbound P.interrupt)) o)

      boxes : (first_of P.outbound ≡ first_of K.outbound) × ((m : ℕ) → m < 3 → ShowsBox r p m (D ++ j ∷ []) (box_of m (host_leaves (TakeOut p) P)))
      boxes = take_boxes p 1 low_p (omega arith) refl (note_is ∙ ap host_tells is) (host_leaves (TakeOut p) P) refl same_box

  take_interrupt : (p : ℕ) → a ≡ TakeIntr p → IsGiven A came.0 p (TakeIntr p) → MakesStep r D j M
  take_interrupt p is g0 =
      given_step p (ap concerns is) g (λ N x. subst (IsActed M N) (sym is) (subst (IsGiven M N p) is x)) (ap (λ b. host_may b P) is ∙ some_first P.interrupt K.interrupt boxes.0 may)
      (ap (λ b. host_took b P) is ∙ boxes.0 ∙ sym (ap (λ b. host_took b K) is)) (ap stored_by_action is)
      (λ m small. subst (λ b. ShowsBox r p m (D ++ j ∷ []) (box_of m (host_leaves b P))) (sym is) (boxes.1 m small))
    where
      g : IsGiven A came.0 p a
      g = subst (IsGiven A came.0 p) (sym is) g0

      low_p : p < count_of r
      low_p = given_low p g

      P : Spe
      P = spe_in M p

      K : Spe
      K = spe_before r p j

      may : is_some (first_of K.interrupt) ≡ true
      may = ap (λ (S : Spe). is_some (first_of S.interrupt)) (sym (given_spe p g)) ∙ sym (ap (λ b. host_may b g.spe) is) ∙ g.may

      same_box : (m : ℕ) → m < 3 → (2 == m) ≡ false → box_of m (host_leaves (TakeIntr p) P) ≡ box_of m P
      same_box m small e = on (m == 0) refl (m == 1) refl
        where
          on : (b : Bool) → (m == 0) ≡ b → (c : Bool) → (m == 1) ≡ c → cond b P.inbound (cond c P.outbound (later_of P.interrupt)) ≡ cond b P.inbound (cond c P.outbound P.interrupt)
          on true f c g = refl
          on false f true g = refl
          on false f false g = absurd (let x = eq_not m 0 f in let y = eq_not m 1 g in let z = eq_not 2 m e in omega (arith, small, x, y, z))

      boxes : (first_of P.interrupt ≡ first_of K.interrupt) × ((m : ℕ) → m < 3 → ShowsBox r p m (D ++ j ∷ []) (box_of m (host_leaves (TakeIntr p) P)))
      boxes = take_boxes p 2 low_p (omega arith) refl (note_is ∙ ap host_tells is) (host_leaves (TakeIntr p) P) refl same_box

  -- ---- a processor that doesn't run

  stays_off : (p n i : ℕ) → i + n ≤ r.size → p < count_of r → is_running (spe_before r p i).status ≡ false → is_running (spe_before r p (i + n)).status ≡ false
  stays_off p zero i h low_p off = let e : i + 0 ≡ i = omega arith in ap (λ k. is_running (spe_before r p k).status) e ∙ off
  stays_off p (suc n) i h low_p off = on (stays_off p n i (omega (arith, h)) low_p off) (is_exec p (r.step (i + n))) refl
    where
      e : i + suc n ≡ suc (i + n)
      e = omega arith

      on : is_running (spe_before r p (i + n)).status ≡ false → (b : Bool) → is_exec p (r.step (i + n)) ≡ b → is_running (spe_before r p (i + suc n)).status ≡ false
      on was true f =
          let d = exec-only (r.state (i + n)).memory (r.step (i + n)) (r.effect (i + n)).note p (spe_before r p (i + n)) (spe_before r p (suc (i + n))) (happens-at r rec faultless (i + n) p (omega (arith, h)) low_p) (exec_is p (r.step (i + n)) f) in
          absurd (false≢true (sym was ∙ exec_runs (lines_of (r.state (i + n)).memory) (spe_before r p (i + n)) d.deed d.made))
      on was false f = ap (λ k. is_running (spe_before r p k).status) e ∙ ap (λ (g : Program). is_running g.status) (frames.program (i + n) p (omega (arith, h)) low_p f) ∙ was

  -- the place at which it ceased to run
  fall : (p n x : ℕ) → x + n ≤ r.size → is_running (spe_before r p x).status ≡ true → is_running (spe_before r p (x + n)).status ≡ false
      → (i : ℕ) × (x ≤ i) × (i < x + n) × (is_running (spe_before r p i).status ≡ true) × (is_running (spe_before r p (suc i)).status ≡ false)
  fall p zero x h on_ off = absurd (false≢true (sym off ∙ (let e : x + 0 ≡ x = omega arith in ap (λ k. is_running (spe_before r p k).status) e) ∙ on_))
  fall p (suc n) x h on_ off = by (λ f. fall p n x (omega (arith, h)) on_ f) (is_running (spe_before r p (x + n)).status) refl
    where
      e : x + suc n ≡ suc (x + n)
      e = omega arith

      by : (is_running (spe_before r p (x + n)).status ≡ false → (i : ℕ) × (x ≤ i) × (i < x + n) × (is_running (spe_before r p i).status ≡ true) × (is_running (spe_before r p (suc i)).status ≡ false))
          → (b : Bool) → is_running (spe_before r p (x + n)).status ≡ b → (i : ℕ) × (x ≤ i) × (i < x + suc n) × (is_running (spe_before r p i).status ≡ true) × (is_running (spe_before r p (suc i)).status ≡ false)
      by earlier true f = (x + n, omega arith, omega arith, f, sym (ap (λ k. is_running (spe_before r p k).status) e) ∙ off)
      by earlier false f = let y = earlier f in let l = y.2 in (y.0, y.1, omega (arith, l), y.3, y.4)

  await : (p : ℕ) → a ≡ Await p → IsGiven A came.0 p (Await p) → MakesStep r D j M
  await p is g0 =
      given_step p (ap concerns is) g (λ N x. subst (IsActed M N) (sym is) (subst (IsGiven M N p) is x)) (ap (λ b. host_may b P) is ∙ ap not stopped)
      (ap (λ b. host_took b P) is ∙ sym (ap (λ b. host_took b K) is)) (ap stored_by_action is)
      (λ m small. subst (λ b. ShowsBox r p m (D ++ j ∷ []) (box_of m (host_leaves b P))) (sym is) (kept p m (box_of m P) (ap (is_put_note p m) note) (ap (is_take_note p m) note) (box_there p m low_p small)))
    where
      g : IsGiven A came.0 p a
      g = subst (IsGiven A came.0 p) (sym is) g0

      low_p : p < count_of r
      low_p = given_low p g

      P : Spe
      P = spe_in M p

      K : Spe
      K = spe_before r p j

      note : (r.effect j).note ≡ Awaited p
      note = note_is ∙ ap host_tells is

      not_true : (b : Bool) → not b ≡ true → b ≡ false
      not_true true h = absurd (false≢true h)
      not_true false h = refl

      off : is_running K.status ≡ false
      off = not_true (is_running K.status) (ap (λ (S : Spe). not (is_running S.status)) (sym (given_spe p g)) ∙ sym (ap (λ b. host_may b g.spe) is) ∙ g.may)

      d : DescribesSpe r p D P
      d = describes.spes p low_p

      at_place : is_running (spe_before r p d.program.place).status ≡ false
      at_place = elim (cases_lt d.program.place j) [
        | inl less ↦ by less (is_running (spe_before r p d.program.place).status) refl
        | inr more ↦
            let within = d.program.within in
            let e : j + (d.program.place - j) ≡ d.program.place = omega (arith, more) in
            ap (λ k. is_running (spe_before r p k).status) (sym e) ∙ stays_off p (d.program.place - j) j (omega (arith, within, more)) low_p off
      ]
        where
          by : d.program.place < j → (b : Bool) → is_running (spe_before r p d.program.place).status ≡ b → is_running (spe_before r p d.program.place).status ≡ false
          by less false e = e
          by less true e = ceased (fall p (j - d.program.place) d.program.place (omega (arith, less, low)) e (ap (λ k. is_running (spe_before r p k).status) (let f : d.program.place + (j - d.program.place) ≡ j = omega (arith, less) in f) ∙ off))
            where
              ceased : (i : ℕ) × (d.program.place ≤ i) × (i < d.program.place + (j - d.program.place)) × (is_running (spe_before r p i).status ≡ true) × (is_running (spe_before r p (suc i)).status ≡ false) → is_running (spe_before r p d.program.place).status ≡ false
              ceased y = step (is_exec p (r.step y.0)) refl
                where
                  less_i : y.0 < j
                  less_i = let l = y.2 in omega (arith, l, less)

                  low_i : y.0 < r.size
                  low_i = omega (arith, less_i, low)

                  step : (b : Bool) → is_exec p (r.step y.0) ≡ b → is_running (spe_before r p d.program.place).status ≡ false
                  step true f =
                      let st = exec_is p (r.step y.0) f in
                      let x = exec-only (r.state y.0).memory (r.step y.0) (r.effect y.0).note p (spe_before r p y.0) (spe_before r p (suc y.0)) (happens-at r rec faultless y.0 p low_i low_p) st in
                      let ends = x.told ∙ ended_note p x.deed (spe_before r p y.0) y.3 (sym (ap (λ (S : Spe). is_running S.status) x.is) ∙ y.4) in
                      let before = front.past y.0 low_i (orders.finished y.0 j p less_i low st ends step_is note) in
                      let high = y.1 in
                      absurd (false≢true (sym (not_below y.0 d.program.place high) ∙ sym (d.program.cut y.0 low_i f) ∙ before))
                  step false f = absurd (false≢true (sym y.4 ∙ ap (λ (h : Program). is_running h.status) (frames.program y.0 p low_i low_p f) ∙ y.3))

      stopped : is_running P.status ≡ false
      stopped = ap (λ (h : Program). is_running h.status) d.program.program ∙ at_place

  -- ---- a store

  store : (ea len : ℕ) (bytes : List ℕ) → a ≡ Store ea len bytes → IsActed A came.0 (Store ea len bytes) → MakesStep r D j M
  store ea len bytes is acted_is = make N made (record {
    inside = inside_more r frames D j low describes.inside;
    count = closed-long M N Host ∙ describes.count;
    long = long;
    versions = versions_more r frames D j low M.memory.versions N.memory.versions describes.versions
        (stored_versions M.memory ea (take len bytes) ∙ sym (ap (λ o. option_map_or (raised M.memory.versions) o M.memory.versions) (stores ∙ ap stored_by_action is)));
    host = shows_step r.size (λ i. is_host (r.step i)) (λ i. (r.state i).host) D j (advanced M.host None) low host_cut
        (ap (λ h. advanced h None) hosts ∙ sym (ap (λ (S : State). S.host) came.2 ∙ ap (λ (S : State). S.host) acted_is));
    spes = λ q low_q. closed_described r q (D ++ j ∷ []) M N Host (spe_in M q) (get_in M.spes q (omega (arith, low_q, describes.count)))
        (spared_settled r frames D j low q (spe_in M q) (spares q (λ h. no_one q (sym (ap concerns is) ∙ h))) (describes.spes q low_q));
  })
    where
      N : State
      N = record M { memory = stored M.memory ea (take len bytes); host = advanced M.host None }

      made : host M ≡ Some N
      made = host-made M N (record { action = a; at = at_M; acted = subst (IsActed M N) (sym is) refl })

      no_one : (q : ℕ) → None ≡ Some q → ⊥
      no_one q h = cc

      long : length N.memory.bytes ≡ length (r.state 0).memory.bytes
      long =
          let first = (rec.sound 0 (omega arith)).long in
          let after = (rec.sound (suc j) low).long in
          let there = ap (λ (S : State). length S.memory.bytes) came.2 ∙ ap (λ (S : State). length S.memory.bytes) acted_is in
          let here = stored_long M.memory A.memory ea (take len bytes) (ap length same_bytes.memory) in
          here ∙ sym there ∙ after ∙ sym first

  pub makes : MakesStep r D j M
  makes = on a refl found.acted
    where
      on : (b : HostAction) → a ≡ b → IsActed A came.0 b → MakesStep r D j M
      on (Send p v) e g = send p v e g
      on (TakeOut p) e g = take_out p e g
      on (TakeIntr p) e g = take_interrupt p e g
      on (Store ea len bytes) e g = store ea len bytes e g
      on (Await p) e g = await p e g
      on (SignalTo p register value) e g = absurd (no_signal p register value e)
