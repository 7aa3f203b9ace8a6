-- What the steps of a recorded run leave as it was, and what they add.
use Rattle.std.proofs.Common.{◌≡◌, ◌≢◌, ℕ, zero, suc, ◌<◌, ◌≤◌, refl, sym, ◌∙◌, ap, subst, arith, List, [], ◌∷◌, length, true≢false, ◌⊎◌, inl, inr, slice_index_or}
use Rattle.std.specs.Prelude.{Option, Some, slice_get, true, false, ◌==◌}
use Rattle.std.specs.Option.{option_map_or}
use Rattle.cell_base.specs.declared.steps.Step.{Step}
use Rattle.cell_base.specs.declared.steps.Step.TheVariants.{Exec, Piece, Elem, Retire, Atomic, Host}
use Rattle.mfc_command.specs.declared.command.Command.{Command}
use Rattle.lock_lines.specs.Versions.{raised}
use Rattle.cell_machine.specs.declared.effect.Note.TheVariants.{Issue}
use Rattle.cell_machine.specs.Spe.{Spe}
use Rattle.cell_machine.specs.State.{State}
use Rattle.cell_machine.specs.Memory.{MainMemory, stored}
use Rattle.cell_machine.specs.Moves.{is_resumed}
use Rattle.cell_machine.specs.Locks.{stored_by}
use Rattle.cell_machine.specs.Next.{act, ended_by}
use Rattle.cell_machine.specs.Order.{is_step_of}
use Rattle.cell_machine.specs.EffectLaws.{maker}
use Rattle.cell_machine.proofs.Same.{some_same, get-within, get-cases, eq_is}
use Rattle.cell_machine.proofs.Staying.{Keeps, both}
use Rattle.cell_machine.proofs.Completion.{next-act}
use Rattle.cell_machine.proofs.Elements.{not_on}
use Rattle.cell_machine.proofs.Bounds.{if_is, act-keeps, act-length}
use Rattle.cell_machine.proofs.LocksRun.{Touches, leaves, stores, Acts, act-acts}
use Rattle.reorder_laws.specs.Happens.{Happens}
use Rattle.reorder_laws.proofs.Hosting.{map_some, next-leaves}
use Rattle.reorder_laws.proofs.Happening.{steps-happen}
use Rattle.reorder_laws.specs.Recorded.{Recorded, IsRecorded, spe_in, no_spe, spe_before, count_of, is_host, is_stalled_number, is_put_note, is_take_note}
use Rattle.reorder_laws.specs.Frames.{IsFaultless, Acknowledges, Issues}
use Rattle.reorder_laws.specs.FrameLaws.{RunsHaveFrames}
use Rattle.reorder_laws.proofs.Steps.{program-kept, locking-kept, elements-kept, done-added, retired-added, read-added, IsOff, own-off, quiet-off, BoxStep, box-step}
use Rattle.reorder_laws.proofs.CommandFrames.{IsIssue, IsAck, IsOpen, issue-cases, issued-more, resumed-kept, resumed-more, step-open, command-kept, stalled-kept}

-- ---- processors by their numbers

got : {X : Type 0} (xs : List X) (i : ℕ) (d : X) → i < length xs → slice_get xs i ≡ Some (slice_index_or xs i d)
got [] i d h = absurd (omega (arith, h))
got (x ∷ xs) zero d h = refl
got (x ∷ xs) (suc i) d h = got xs i d (omega (arith, h))

pub spe-there : (M : State) (p : ℕ) → p < length M.spes → slice_get M.spes p ≡ Some (spe_in M p)
spe-there M p h = got M.spes p no_spe h

-- ---- the memory

versions_after : (lines : ℕ) (m n : MainMemory) (o : Option ℕ) → Touches lines m n o → n.versions ≡ option_map_or (raised m.versions) o m.versions
unfolding stored
versions_after lines m n o (leaves same none) = ap (λ (k : MainMemory). k.versions) same ∙ sym (ap (λ x. option_map_or (raised m.versions) x m.versions) none)
versions_after lines m n o (stores at bytes same one low within) = ap (λ (k : MainMemory). k.versions) same ∙ sym (ap (λ x. option_map_or (raised m.versions) x m.versions) one)

-- the maker of a step that isn't the host's
made_by : (s : Step) → is_host s ≡ false → (p : ℕ) × (maker s ≡ Some p)
made_by (Exec p) h = (p, refl)
made_by (Piece p c e k) h = (p, refl)
made_by (Elem p c) h = (p, refl)
made_by (Retire p c) h = (p, refl)
made_by (Atomic p) h = (p, refl)
made_by Host h = absurd (true≢false h)

pub step_made_by : (p c : ℕ) (s : Step) → is_step_of p c s ≡ true → (q : ℕ) × (maker s ≡ Some q)
step_made_by p c (Exec q) h = absurd (true≢false (sym h))
step_made_by p c (Piece q d e k) h = (q, refl)
step_made_by p c (Elem q d) h = (q, refl)
step_made_by p c (Retire q d) h = (q, refl)
step_made_by p c (Atomic q) h = absurd (true≢false (sym h))
step_made_by p c Host h = absurd (true≢false (sym h))

-- ---- the run

module _ (r : Recorded) (rec : IsRecorded r) (sound : IsFaultless r) where
  pub count-is : (i : ℕ) → i ≤ r.size → length (r.state i).spes ≡ count_of r
  count-is zero h = refl
  count-is (suc i) h =
      let a = next-act (r.state i) (r.step i) (r.state (suc i)) (rec.made i (omega (arith, h))) in
      sym (ap length a.2) ∙ act-length (r.state i) (r.step i) a.0 a.1 ∙ count-is i (omega (arith, h))

  pub spe-at : (i p : ℕ) → i ≤ r.size → p < count_of r → slice_get (r.state i).spes p ≡ Some (spe_before r p i)
  spe-at i p h low = let n = count-is i h in spe-there (r.state i) p (omega (arith, n, low))

  pub happens-at : (i p : ℕ) → i < r.size → p < count_of r → Happens (r.state i).memory (r.step i) (r.effect i).note p (spe_before r p i) (spe_before r p (suc i))
  happens-at i p h low =
      let to = steps-happen (r.state i) (r.state (suc i)) (r.step i) (r.effect i) p (spe_before r p i) (rec.made i h) (rec.told i h) (spe-at i p (omega (arith, h)) low) in
      let same : to.spe ≡ spe_before r p (suc i) = some_same to.spe _ (sym to.at ∙ spe-at (suc i) p (omega (arith, h)) low) in
      subst (Happens (r.state i).memory (r.step i) (r.effect i).note p (spe_before r p i)) same to.happens

  -- the maker of a step is one of the processors
  pub maker-low : (i p : ℕ) → i < r.size → maker (r.step i) ≡ Some p → p < count_of r
  maker-low i p h by =
      let n = next-leaves (r.state i) (r.state (suc i)) (r.step i) p by (rec.made i h) in
      let within = get-within (r.state i).spes p n.spe n.at in
      let c = count-is i (omega (arith, h)) in
      omega (arith, within, c)

  pub off-at : (i p q : ℕ) → i < r.size → maker (r.step i) ≡ Some p → q ≢ p → IsOff q (r.effect i).note
  off-at i p q h by ne = own-off (r.state i).memory (r.step i) (r.effect i).note p (spe_before r p i) (spe_before r p (suc i)) q (happens-at i p h (maker-low i p h by)) by ne

  box-at : (i p m : ℕ) → i < r.size → p < count_of r → m < 3 → BoxStep p m (r.effect i).note (spe_before r p i) (spe_before r p (suc i))
  box-at i p m h low small =
      box-step (r.state i).memory (r.step i) (r.effect i).note p (spe_before r p i) (spe_before r p (suc i)) m small
      (λ q by ne. off-at i q p h by (λ e. ne (sym e))) (happens-at i p h low)

  keeps-at : (i p : ℕ) → i < r.size → p < count_of r → Keeps (spe_before r p i).moves (spe_before r p (suc i)).moves
  keeps-at i p h low =
      let a = next-act (r.state i) (r.step i) (r.state (suc i)) (rec.made i h) in
      let k = act-keeps (r.state i) (r.step i) a.0 p (spe_before r p i) a.1 (spe-at i p (omega (arith, h)) low) in
      let same : k.0 ≡ spe_before r p (suc i) = some_same k.0 _ (sym k.1 ∙ ap (λ xs. slice_get xs p) a.2 ∙ spe-at (suc i) p (omega (arith, h)) low) in
      subst (λ (Q : Spe). Keeps (spe_before r p i).moves Q.moves) same k.2

  host-at : (i : ℕ) → i < r.size → is_host (r.step i) ≡ false → (r.state (suc i)).host ≡ (r.state i).host
  host-at i h off =
      let by = made_by (r.step i) off in
      ap (λ (S : State). S.host) (next-leaves (r.state i) (r.state (suc i)) (r.step i) by.0 by.1 (rec.made i h)).is

  versions-at : (i : ℕ) → i < r.size → (r.state (suc i)).memory.versions ≡ option_map_or (raised (r.state i).memory.versions) (stored_by (r.state i) (r.step i)) (r.state i).memory.versions
  versions-at i h =
      let s = rec.sound i (omega (arith, h)) in
      let a = map_some (ended_by (r.state i) (r.step i)) (act (r.state i) (r.step i)) (r.state (suc i)) (rec.made i h) in
      let does = if_is (act (r.state i) (r.step i)) a.0 (Acts rec.lines (r.step i) (r.state i)) a.1 (act-acts rec.lines i (length (r.state i).spes) (r.state i) (r.step i) s.bounded s.actions) in
      ap (λ (S : State). S.memory.versions) (sym a.2) ∙ versions_after rec.lines (r.state i).memory a.0.memory (stored_by (r.state i) (r.step i)) does.touches

  open-at : (i p c : ℕ) → i < r.size → p < count_of r → is_step_of p c (r.step i) ≡ true → IsOpen (spe_before r p i) c
  open-at i p c h low of =
      let s = rec.sound i (omega (arith, h)) in
      step-open (r.state i).memory (r.step i) (r.effect i).note p (spe_before r p i) (spe_before r p (suc i)) c
      (s.whole p (spe_before r p i) (spe-at i p (omega (arith, h)) low)).few (happens-at i p h low) of

  ack_of : (i p c : ℕ) → IsAck (r.step i) (r.effect i).note p (spe_before r p i) c → Acknowledges r i p c
  ack_of i p c a = record { command = a.command; is = a.at; step = a.step; tag = a.told; stalled = a.stalled }

  resumed-at : (i p c e : ℕ) → i < r.size → p < count_of r → (Acknowledges r i p c → ⊥) → is_resumed (spe_before r p (suc i)).moves.resumed c e ≡ is_resumed (spe_before r p i).moves.resumed c e
  resumed-at i p c e h low none =
      resumed-kept (r.state i).memory (r.step i) (r.effect i).note p (spe_before r p i) (spe_before r p (suc i)) c e (happens-at i p h low) (λ a. none (ack_of i p c a))

  rests-at : (i p c : ℕ) → i < r.size → p < count_of r → is_stalled_number (spe_before r p i).moves c ≡ true → is_step_of p c (r.step i) ≡ false
  rests-at i p c h low stalled = not_on _ (λ of. true≢false (sym stalled ∙ (open-at i p c h low of).goes_on))

  stalls-at : (i p c : ℕ) → i < r.size → p < count_of r → is_stalled_number (spe_before r p i).moves c ≡ true → (Acknowledges r i p c → ⊥) → is_stalled_number (spe_before r p (suc i)).moves c ≡ true
  stalls-at i p c h low stalled none =
      let k = keeps-at i p h low in
      let same = command-kept (r.state i).memory (r.step i) (r.effect i).note p (spe_before r p i) (spe_before r p (suc i)) c (happens-at i p h low)
      (rests-at i p c h low stalled) (λ e. resumed-at i p c e h low none) in
      stalled-kept (spe_before r p i).moves (spe_before r p (suc i)).moves c k.later k.issued same stalled

  -- no command was issued before the first place
  none_first : (p c : ℕ) (d : Command) → p < count_of r → slice_get (spe_before r p 0).moves.issued c ≡ Some d → ⊥
  none_first p c d low at =
      let few = ((rec.sound 0 (omega arith)).bounded p (spe_before r p 0) (spe-at 0 p (omega arith) low)).few in
      let within = get-within (spe_before r p 0).moves.issued c d at in
      omega (arith, few, within)

  issued-at : (j p c : ℕ) (d : Command) → j ≤ r.size → p < count_of r → slice_get (spe_before r p j).moves.issued c ≡ Some d → (i : ℕ) × (i < j) × Issues r i p c d
  issued-at zero p c d h low at = absurd (none_first p c d low at)
  issued-at (suc j) p c d h low at = on (issue-cases (r.state j).memory (r.step j) (r.effect j).note p P Q (happens-at j p (omega (arith, h)) low)) (λ was. up (issued-at j p c d (omega (arith, h)) low was))
    where
      P : Spe
      P = spe_before r p j

      Q : Spe
      Q = spe_before r p (suc j)

      up : (i : ℕ) × (i < j) × Issues r i p c d → (i : ℕ) × (i < suc j) × Issues r i p c d
      up x = let less = x.1 in (x.0, omega (arith, less), x.2)

      on : (Q.moves.issued ≡ P.moves.issued) ⊎ IsIssue (r.step j) (r.effect j).note p P Q → (slice_get P.moves.issued c ≡ Some d → (i : ℕ) × (i < suc j) × Issues r i p c d) → (i : ℕ) × (i < suc j) × Issues r i p c d
      on (inl same) earlier = earlier (sym (ap (λ xs. slice_get xs c) same) ∙ at)
      on (inr x) earlier =
          get-cases P.moves.issued x.command d c ((i : ℕ) × (i < suc j) × Issues r i p c d) (sym (ap (λ xs. slice_get xs c) x.more) ∙ at)
          (λ number is. (j, omega arith, record { step = x.step; note = x.told ∙ ap (λ n. Issue n x.command) (sym number) ∙ ap (Issue c) (sym is) }))
          earlier

pub step_own : (p c q : ℕ) (s : Step) → is_step_of p c s ≡ true → maker s ≡ Some q → q ≡ p
step_own p c q (Exec x) h by = absurd (true≢false (sym h))
step_own p c q (Piece x d e k) h by = sym (some_same x q by) ∙ eq_is x p (both (x == p) (d == c) h).0
step_own p c q (Elem x d) h by = sym (some_same x q by) ∙ eq_is x p (both (x == p) (d == c) h).0
step_own p c q (Retire x d) h by = sym (some_same x q by) ∙ eq_is x p (both (x == p) (d == c) h).0
step_own p c q (Atomic x) h by = absurd (true≢false (sym h))
step_own p c q Host h by = absurd (true≢false (sym h))

quiet : (r : Recorded) → IsRecorded r → IsFaultless r → (i p c q m : ℕ) → i < r.size → is_step_of p c (r.step i) ≡ true → (x : ℕ) → maker (r.step i) ≡ Some x
    → (is_put_note q m (r.effect i).note ≡ false) × (is_take_note q m (r.effect i).note ≡ false)
quiet r rec sound i p c q m h of x by =
    let mine : maker (r.step i) ≡ Some p = by ∙ ap Some (step_own p c x (r.step i) of by) in
    quiet-off (r.state i).memory (r.step i) (r.effect i).note p (spe_before r p i) (spe_before r p (suc i)) q c (happens-at r rec sound i p h (maker-low r rec sound i p h mine)) of m

pub runs-have_frames : RunsHaveFrames
runs-have_frames r rec sound = record {
  count = count-is r rec sound;
  program = λ i p h low off. program-kept (r.state i).memory (r.step i) (r.effect i).note p (spe_before r p i) (spe_before r p (suc i)) (happens-at r rec sound i p h low) off (sound (suc i) p (omega (arith, h)) low);
  elements = λ i p c h low off. elements-kept (r.state i).memory (r.step i) (r.effect i).note p (spe_before r p i) (spe_before r p (suc i)) c (happens-at r rec sound i p h low) off;
  locking = λ i p h low off. locking-kept (r.state i).memory (r.step i) (r.effect i).note p (spe_before r p i) (spe_before r p (suc i)) (happens-at r rec sound i p h low) off;
  host = host-at r rec sound;
  done = λ i p h low. done-added (r.state i).memory (r.step i) (r.effect i).note p (spe_before r p i) (spe_before r p (suc i)) (happens-at r rec sound i p h low);
  retired = λ i p h low. retired-added (r.state i).memory (r.step i) (r.effect i).note p (spe_before r p i) (spe_before r p (suc i)) (happens-at r rec sound i p h low);
  read = λ i p h low. read-added (r.state i).memory (r.step i) (r.effect i).note p (spe_before r p i) (spe_before r p (suc i)) (happens-at r rec sound i p h low) (sound (suc i) p (omega (arith, h)) low);
  versions = versions-at r rec sound;
  put = λ i p m h low small is. (box-at r rec sound i p m h low small).put is;
  take = λ i p m h low small is. (box-at r rec sound i p m h low small).take is;
  box = λ i p m h low small a b. (box-at r rec sound i p m h low small).same a b;
  own_notes = λ i p q m h by ne. off-at r rec sound i p q h by ne m;
  quiet_notes = λ i p c q m h of.
      let by = step_made_by p c (r.step i) of in
      quiet r rec sound i p c q m h of by.0 by.1;
  grows = λ i p h low. let k = keeps-at r rec sound i p h low in (k.later, k.issued);
  issued_at = issued-at r rec sound;
  issues = λ i p c d h low x. (issued-more (r.state i).memory (r.step i) (r.effect i).note p (spe_before r p i) (spe_before r p (suc i)) c d (happens-at r rec sound i p h low) x.step x.note).0;
  number = λ i p c d h low x. (issued-more (r.state i).memory (r.step i) (r.effect i).note p (spe_before r p i) (spe_before r p (suc i)) c d (happens-at r rec sound i p h low) x.step x.note).1;
  there = λ i p c h low of. let o = open-at r rec sound i p c h low of in (o.command, o.at, o.open_still);
  stays = λ i p c h low complete. (keeps-at r rec sound i p h low).complete c complete;
  resumed = resumed-at r rec sound;
  more_resumed = λ i p c e h low was. resumed-more (r.state i).memory (r.step i) (r.effect i).note p (spe_before r p i) (spe_before r p (suc i)) c e (happens-at r rec sound i p h low) was;
  rests = rests-at r rec sound;
  stalls_on = stalls-at r rec sound;
}
