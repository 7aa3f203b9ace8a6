-- Without a race the line of an atomic command has in another order the version that it had.
use Rattle.std.proofs.Common.{◌≡◌, ℕ, zero, suc, ◌+◌, ◌-◌, ◌*◌, ◌/◌, ◌<◌, ◌≤◌, refl, sym, ◌∙◌, ap, ap₂, subst, arith, Bool, true, false, length, Some, None, cond, inl, inr, true≢false}
use Rattle.std.specs.Prelude.{slice_get, ◌⊎◌, ◌==◌, ◌&&◌, ◌||◌, nat_lt, nat_le, option_and_then}
use Rattle.std.specs.List.{range_with_len}
use Rattle.std.specs.Option.{option_map}
use Rattle.std.proofs.lemmas.Bool.{cases_order}
use Rattle.std.proofs.lemmas.Bool.Decides.{nat_tests}
use Rattle.std.proofs.lemmas.Option.{get_or_from_slice_get, slice_get_within}
use Rattle.cell_base.specs.declared.steps.Step.{Step}
use Rattle.cell_base.specs.declared.steps.Step.TheVariants.{Exec, Piece, Elem, Retire, Atomic, Host}
use Rattle.cell_host.specs.declared.HostAction.{HostAction}
use Rattle.cell_host.specs.declared.HostAction.TheVariants.{Send, Take as TakeOut, TakeIntr, Store, Await, Signal as SignalTo}
use Rattle.mfc_command.specs.declared.command.AtomicOp.{AtomicOp}
use Rattle.mfc_command.specs.declared.command.Command.{Command}
use Rattle.mfc_command.specs.declared.command.Kind.{Kind}
use Rattle.mfc_command.specs.declared.command.Kind.TheVariants.{Put as PutKind, Get, PutList, GetList, Barrier, PutQueued, Signal as SignalKind}
use Rattle.mfc_command.specs.Parts.{part_from, part_to, part_of, parts_of}
use Rattle.mfc_lists.specs.declared.Element.{Element}
use Rattle.lock_lines.specs.Versions.{version_of}
use Rattle.cell_machine.specs.declared.effect.Place.TheVariants.{Memory}
use Rattle.cell_machine.specs.declared.effect.Span.{Span}
use Rattle.cell_machine.specs.declared.effect.Effect.{Effect}
use Rattle.cell_machine.specs.Spe.{Spe}
use Rattle.cell_machine.specs.Moves.{parts_in}
use Rattle.cell_machine.specs.Next.{own}
use Rattle.cell_machine.specs.Transfers.{Left, piece_of, may_piece, has_part, is_put, is_signal, part_in}
use Rattle.cell_machine.specs.Atomic.{Fate, Got, Stored, Lost, fate, after_atomic}
use Rattle.cell_machine.specs.Locks.{stored_by, stored_by_piece, stored_by_fate, stored_by_atomic, stored_by_action}
use Rattle.cell_machine.specs.Effects.{copy_effect, part_effect, signal_effect, line_effect}
use Rattle.cell_machine.specs.EffectLaws.{maker}
use Rattle.cell_machine.specs.Sound.{covers}
use Rattle.cell_machine.proofs.Same.{some_same}
use Rattle.cell_machine.proofs.Bounds.{passes}
use Rattle.cell_machine.proofs.Elements.{part-is}
use Rattle.cell_machine.proofs.StepBytes.{own_effect, none_is, piece-is, atomic-is}
use Rattle.reorder_laws.specs.Recorded.{Recorded, IsRecorded, spe_before}
use Rattle.reorder_laws.specs.Frames.{HasFrames}
use Rattle.cell_machine.specs.Limits.{FitsAction}
use Rattle.cell_machine.specs.Next.{next}
use Rattle.cell_machine.specs.Effects.{effect_of, host_effect}
use Rattle.cell_machine.proofs.Same.{eq_off}
use Rattle.race_check.specs.Races.{access_of, Meet, WritesInto}
use Rattle.reorder_laws.proofs.Hosting.{host-next, host-leaves}
use Rattle.reorder_laws.specs.Cuts.{has, Distinct}
use Rattle.reorder_laws.specs.Laws.{LinesSeen}
use Rattle.reorder_laws.proofs.Bytes.{IsFree}
use Rattle.reorder_laws.proofs.Commands.{below_range}
use Rattle.reorder_laws.proofs.HostSteps.{effect_there}
use Rattle.reorder_laws.proofs.Runs.{has_below}
use Rattle.reorder_laws.proofs.Versions.{same_version}
use Rattle.reorder_laws.proofs.Making.{is_own}
use Rattle.reorder_laws.proofs.After.{get_in}

-- ---- a byte of the line

-- the span has a byte of the line in memory
record Touches (x : Span) (line : ℕ) : Type 0 where
  at : ℕ
  covered : covers x Memory at ≡ true
  in_line : at / 128 ≡ line

starts : (at len : ℕ) → 0 < len → covers (record { place = Memory; at = at; len = len }) Memory at ≡ true
starts at len h = let a : nat_le at at ≡ true = grind (arith, nat_tests) in let b : nat_lt at (at + len) ≡ true = grind (arith, nat_tests) in rw (a, b) refl

part_some : (ls ea size k : ℕ) → k < parts_of ea size → 0 < (part_of ls ea size k).len
part_some ls ea size k h = on (size == 0) refl h
  where
    on : (b : Bool) → (size == 0) ≡ b → k < cond b 0 ((ea + size - 1) / 128 - ea / 128 + 1) → 0 < part_to ea size k - part_from ea k
    on true e g = absurd (omega (arith, g))
    on false e g = let some : 0 < size = grind (arith, nat_tests) in omega (arith, g, some)

copy_touches : (p : ℕ) (put_it : Bool) (z : Element) (k line : ℕ) (Q : Spe) → k < parts_in z → cond put_it (Some ((part_in z k).ea / 128)) None ≡ Some line → Touches (copy_effect p put_it (part_in z k) Q).writes line
copy_touches p true z k line Q h is = record { at = (part_in z k).ea; covered = starts (part_in z k).ea (part_in z k).len (part_some z.ls z.ea z.size k h); in_line = some_same _ line is }
copy_touches p false z k line Q h is = none_is _ line is

-- a signal stores to no line
part_touches : (spes p : ℕ) (d : Command) (z : Element) (k line : ℕ) (x : Left) → k < parts_in z → cond (is_put d.kind) (Some ((part_in z k).ea / 128)) None ≡ Some line → Touches (part_effect spes p d (part_in z k) x).writes line
part_touches spes p d z k line x h is = on d.kind is
  where
    on : (kind : Kind) → cond (is_put kind) (Some ((part_in z k).ea / 128)) None ≡ Some line
        → Touches (cond {A = Effect} (is_signal kind) (signal_effect spes p (part_in z k) x) (copy_effect p (is_put kind) (part_in z k) x.spe)).writes line
    on PutKind is = copy_touches p true z k line x.spe h is
    on Get is = none_is _ line is
    on PutList is = copy_touches p true z k line x.spe h is
    on GetList is = none_is _ line is
    on Barrier is = none_is _ line is
    on PutQueued is = copy_touches p true z k line x.spe h is
    on SignalKind is = none_is _ line is

line_touches : (p line : ℕ) (a : AtomicOp) (Q : Spe) (f : Fate) → stored_by_fate f a.line ≡ Some line → Touches (line_effect p a Q f).writes line
line_touches p line a Q Got is = none_is _ line is
line_touches p line a Q Stored is = let same = some_same a.line line is in record { at = 128 * a.line; covered = starts (128 * a.line) 128 (omega arith); in_line = omega (arith, same) }
line_touches p line a Q Lost is = none_is _ line is

module _ (r : Recorded) (rec : IsRecorded r) (frames : HasFrames r) where
  piece_touches : (i p c e k line : ℕ) → i < r.size → r.step i ≡ Piece p c e k → stored_by (r.state i) (Piece p c e k) ≡ Some line → Touches (r.effect i).writes line
  unfolding may_piece
  piece_touches i p c e k line h st stores =
      let mine = is_own r rec frames i h p (ap (λ s. maker s) st) in
      let P = spe_before r p i in
      let at = get_in (r.state i).spes p (let c = frames.count i (omega (arith, h)) in let l = mine.low in omega (arith, c, l)) in
      piece-is (length (r.state i).spes) p p c e k (r.state i).memory P mine.left (r.effect i) (λ x f. Touches f.writes line)
      (ap (λ s. own (r.state i).memory s P) (sym st) ∙ mine.owns) (ap (λ s. own_effect (length (r.state i).spes) p (r.state i).memory s P) (sym st) ∙ mine.effect)
      (λ d z may command there.
      let has = passes P c (has_part P.moves c e k) d may command in
      let part = part-is P.moves c e k d has in
      let same = some_same part.element z (sym part.there ∙ there) in
      let within : k < parts_in z = subst (λ y. k < parts_in y) same part.within in
      part_touches (length (r.state i).spes) p d z k line (piece_of (r.state i).memory P c k d z) within
      (sym (ap (λ o. cond (is_put d.kind) (option_map (λ x. (part_in x k).ea / 128) o) None) there) ∙ sym (ap (option_and_then (stored_by_piece P.moves c k)) command)
      ∙ sym (ap (option_and_then (λ (P : Spe). option_and_then (stored_by_piece P.moves c k) (slice_get P.moves.issued c))) at) ∙ stores))

  atomic_touches : (i p line : ℕ) → i < r.size → r.step i ≡ Atomic p → stored_by (r.state i) (Atomic p) ≡ Some line → Touches (r.effect i).writes line
  atomic_touches i p line h st stores =
      let mine = is_own r rec frames i h p (ap (λ s. maker s) st) in
      let P = spe_before r p i in
      let at = get_in (r.state i).spes p (let c = frames.count i (omega (arith, h)) in let l = mine.low in omega (arith, c, l)) in
      atomic-is (length (r.state i).spes) p p (r.state i).memory P mine.left (r.effect i) (λ x f. Touches f.writes line)
      (ap (λ s. own (r.state i).memory s P) (sym st) ∙ mine.owns) (ap (λ s. own_effect (length (r.state i).spes) p (r.state i).memory s P) (sym st) ∙ mine.effect)
      (λ a may slot. line_touches p line a (after_atomic (r.state i).memory P a).spe (fate (r.state i).memory P a)
      (sym (ap (option_and_then (stored_by_atomic (r.state i).memory P)) slot) ∙ sym (ap (option_and_then (λ (P : Spe). option_and_then (stored_by_atomic (r.state i).memory P) P.channels.slot)) at) ∙ stores))

  host_touches : (i line : ℕ) → i < r.size → r.step i ≡ Host → stored_by (r.state i) Host ≡ Some line → Touches (r.effect i).writes line
  host_touches i line h st stores =
      let A = r.state i in
      let made : next A Host ≡ Some (r.state (suc i)) = ap (next A) (sym st) ∙ rec.made i h in
      let came = host-next A (r.state (suc i)) made in
      let found = host-leaves A came.0 came.1 in
      let effect = some_same (r.effect i) (host_effect found.action) (sym (ap (effect_of A) (sym st) ∙ rec.told i h) ∙ effect_there A came.0 found.action found.at came.1) in
      let stored_is = sym (ap (option_and_then stored_by_action) found.at) ∙ stores in
      subst (λ (e : Effect). Touches e.writes line) (sym effect) (action found.action (subst (FitsAction rec.lines (length A.spes)) (get_or_from_slice_get A.host.script A.host.done found.action found.action found.at) ((rec.sound i (omega (arith, h))).actions A.host.done found.action (slice_get_within A.host.script A.host.done found.action found.at))) stored_is)
    where
      action : (a : HostAction) → FitsAction rec.lines (length (r.state i).spes) a → stored_by_action a ≡ Some line → Touches (host_effect a).writes line
      action (Send p v) fits is = none_is _ line is
      action (TakeOut p) fits is = none_is _ line is
      action (TakeIntr p) fits is = none_is _ line is
      action (Store ea len bytes) fits is = record { at = ea; covered = starts ea len fits.0; in_line = some_same _ line is }
      action (Await p) fits is = none_is _ line is
      action (SignalTo p register value) fits is = none_is _ line is

  -- a step that stores to a line writes a byte of it
  touches : (i line : ℕ) → i < r.size → stored_by (r.state i) (r.step i) ≡ Some line → Touches (r.effect i).writes line
  touches i line h stores = on (r.step i) refl stores
    where
      on : (s : Step) → r.step i ≡ s → stored_by (r.state i) s ≡ Some line → Touches (r.effect i).writes line
      on (Exec p) st is = none_is _ line is
      on (Piece p c e k) st is = piece_touches i p c e k line h st is
      on (Elem p c) st is = none_is _ line is
      on (Retire p c) st is = none_is _ line is
      on (Atomic p) st is = atomic_touches i p line h st is
      on Host st is = host_touches i line h st is

  -- an atomic step reads or writes each byte of its line
  covers_line : (j p : ℕ) (a : AtomicOp) (x : ℕ) → j < r.size → r.step j ≡ Atomic p → (spe_before r p j).channels.slot ≡ Some a → x / 128 ≡ a.line → (covers (r.effect j).reads Memory x ≡ true) ⊎ (covers (r.effect j).writes Memory x ≡ true)
  covers_line j p a x h st slot in_line =
      let mine = is_own r rec frames j h p (ap (λ s. maker s) st) in
      let P = spe_before r p j in
      atomic-is (length (r.state j).spes) p p (r.state j).memory P mine.left (r.effect j) (λ y f. (covers f.reads Memory x ≡ true) ⊎ (covers f.writes Memory x ≡ true))
      (ap (λ s. own (r.state j).memory s P) (sym st) ∙ mine.owns) (ap (λ s. own_effect (length (r.state j).spes) p (r.state j).memory s P) (sym st) ∙ mine.effect)
      (λ b may there. line_of p b (after_atomic (r.state j).memory P b).spe (fate (r.state j).memory P b) (ap (λ (c : AtomicOp). c.line) (some_same a b (sym slot ∙ there))))
    where
      inside : (line : ℕ) → a.line ≡ line → (nat_le (128 * line) x && nat_lt x (128 * line + 128)) ≡ true
      inside line same =
          let low : nat_le (128 * line) x ≡ true = let e : 128 * line ≤ x = omega (arith, in_line, same) in grind (arith, nat_tests) in
          let high : nat_lt x (128 * line + 128) ≡ true = let e : x < 128 * line + 128 = omega (arith, in_line, same) in grind (arith, nat_tests) in
          rw (low, high) refl

      line_of : (p : ℕ) (b : AtomicOp) (Q : Spe) (f : Fate) → a.line ≡ b.line → (covers (line_effect p b Q f).reads Memory x ≡ true) ⊎ (covers (line_effect p b Q f).writes Memory x ≡ true)
      line_of p b Q Got same = inl (inside b.line same)
      line_of p b Q Stored same = inr (inside b.line same)
      line_of p b Q Lost same = inl (inside b.line same)

  meets : (x y : Span) (at : ℕ) → covers x Memory at ≡ true → covers y Memory at ≡ true → Meet x y
  meets x y at a b = record { place = Memory; at = at; in_first = a; in_second = b }

  conflict : (i j p : ℕ) (a : AtomicOp) → i < r.size → j < r.size → stored_by (r.state i) (r.step i) ≡ Some a.line → r.step j ≡ Atomic p → (spe_before r p j).channels.slot ≡ Some a → WritesInto (access_of (r.effect i)) (access_of (r.effect j))
  conflict i j p a h low stores st slot =
      let t = touches i a.line h stores in
      on t.at t.covered (covers_line j p a t.at low st slot t.in_line)
    where
      on : (x : ℕ) → covers (r.effect i).writes Memory x ≡ true → (covers (r.effect j).reads Memory x ≡ true) ⊎ (covers (r.effect j).writes Memory x ≡ true) → WritesInto (access_of (r.effect i)) (access_of (r.effect j))
      on x w (inl reads) = inr (inl (meets (r.effect i).writes (r.effect j).reads x w reads))
      on x w (inr writes) = inr (inr (meets (r.effect i).writes (r.effect j).writes x w writes))

  distinct_range : (a n : ℕ) → Distinct (range_with_len a n)
  unfolding has
  distinct_range a zero = tt
  distinct_range a (suc n) = (above (a + 1) n (omega arith), distinct_range (a + 1) n)
    where
      above : (b n : ℕ) → a < b → has (range_with_len b n) a ≡ false
      above b zero h = refl
      above b (suc n) h = ap₂ (λ x y. x || y) (eq_off b a (λ e. absurd (omega (arith, e, h)))) (above (b + 1) n (omega (arith, h)))

  pub lines_seen : (Before : ℕ → ℕ → Type 0) → IsFree r Before → LinesSeen Before r
  lines_seen Before free D j M p a front describes shown st slot =
      ap (λ v. version_of v a.line) describes.versions
      ∙ same_version (r.state 0).memory.versions (λ i. stored_by (r.state i) (r.step i)) a.line r.size D (range_with_len 0 j) front.distinct (distinct_range 0 j) describes.inside
      (λ i h. let l = below_range j i h in let low = front.low in omega (arith, l, low)) same
      ∙ sym (ap (λ v. version_of v a.line) shown.versions)
    where
      low : j < r.size
      low = front.low

      not_on : (b : Bool) → (b ≡ true → ⊥) → b ≡ false
      not_on true h = absurd (h refl)
      not_on false h = refl

      not_off : (b : Bool) → (b ≡ false → ⊥) → b ≡ true
      not_off true h = refl
      not_off false h = absurd (h refl)

      same : (i : ℕ) → stored_by (r.state i) (r.step i) ≡ Some a.line → has D i ≡ has (range_with_len 0 j) i
      same i stores = elim (cases_order i j) [
        | inl e ↦ ap (has D) e ∙ front.fresh ∙ sym (not_on (has (range_with_len 0 j) i) (λ h. let l = below_range j i h in omega (arith, l, e)))
        | inr (inl less) ↦
            not_off (has D i) (λ off. free i j less low (λ b. true≢false (sym (front.past i (omega (arith, less, low)) b) ∙ off)) (inl (conflict i j p a (omega (arith, less, low)) low stores st slot)))
            ∙ sym (has_below j i less)
        | inr (inr more) ↦
            not_on (has D i) (λ on_. let in_ = describes.inside i on_ in free j i more in_ (λ b. front.future i in_ on_ b) (inr (conflict i j p a in_ low stores st slot)))
            ∙ sym (not_on (has (range_with_len 0 j) i) (λ h. let l = below_range j i h in omega (arith, l, more)))
      ]
