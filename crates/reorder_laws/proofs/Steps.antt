-- What a step leaves as it was of one processor, and what it adds.
use Rattle.std.proofs.Common.{◌≡◌, ◌≢◌, ℕ, ◌<◌, refl, sym, ◌∙◌, ap, ap₂, subst, arith, List, [], ◌∷◌, ◌++◌, length, true≢false, ◌⊎◌, inl, inr}
use Rattle.std.specs.Prelude.{Option, Some, None, is_some, option_map, Bool, true, false, cond, ◌&&◌, ◌==◌}
use Rattle.std.specs.List.{last_or}
use Rattle.std.proofs.lemmas.List.{append-nil}
use Rattle.std.proofs.lemmas.Bool.Decides.{nat_tests}
use Rattle.cell_base.specs.declared.steps.Step.{Step}
use Rattle.cell_base.specs.declared.steps.Step.TheVariants.{Exec, Piece, Elem, Retire, Atomic, Host}
use Rattle.cell_host.specs.declared.HostAction.{HostAction}
use Rattle.cell_host.specs.declared.HostAction.TheVariants.{Send, Take as TakeOut, TakeIntr, Store, Await, Signal as SignalTo}
use Rattle.mfc_lists.specs.declared.Element.{Element}
use Rattle.mfc_lists.proofs.ReadingLemmas.{last_or-snoc}
use Rattle.tag_groups.specs.declared.Tags.{Tags}
use Rattle.tag_groups.specs.declared.Request.{Request}
use Rattle.tag_groups.specs.Settle.{is_met, idle_groups, fixed_at}
use Rattle.cell_machine.specs.declared.effect.Note.{Note}
use Rattle.cell_machine.specs.declared.effect.Note.TheVariants.{Nothing, Put, Take, Ended, Element as Reading, Signal}
use Rattle.cell_machine.specs.Spe.{Spe, Moves, ElementRead, PartDone, is_faulted}
use Rattle.cell_machine.specs.Memory.{MainMemory}
use Rattle.cell_machine.specs.Moves.{read_of, parts_in, busy}
use Rattle.cell_machine.specs.Tags.{settled}
use Rattle.cell_machine.specs.Transfers.{with_done, with_read, with_retired}
use Rattle.cell_machine.specs.Order.{is_step_of}
use Rattle.cell_machine.specs.Atomic.{answered}
use Rattle.cell_machine.specs.Effects.{host_tells}
use Rattle.cell_machine.specs.EffectLaws.{maker}
use Rattle.cell_machine.proofs.Same.{some_same, eq_same, eq_is, eq_not, eq_off, read-elsewhere, read-more}
use Rattle.cell_machine.proofs.Staying.{both}
use Rattle.cell_machine.proofs.StepBytes.{none_is}
use Rattle.reorder_laws.specs.Deeds.{Did, Ends, Goes, Plain, SetParams, SetMask, AskTags, TakeTags, TakeStalls, TakeAtomic, TakeValue, Queue, FillSlot, Resume, PutValue, PutInterrupt, TakeSignal, LeaveEvents, behind_first, did, note_of, exec_deed}
use Rattle.reorder_laws.specs.Boxes.{later_of, first_of}
use Rattle.reorder_laws.specs.Controllers.{moved_on}
use Rattle.reorder_laws.specs.Hosting.{host_may, host_leaves}
use Rattle.reorder_laws.specs.Silent.{IsLike}
use Rattle.reorder_laws.specs.Happens.{concerns, TellsSignal, Happens, Passes, Executes, Copies, Reads, Faults, Retires, Answers, Hosts, HostPasses}
use Rattle.reorder_laws.proofs.SameDeeds.{exec-finds}
use Rattle.reorder_laws.specs.Recorded.{program_of, locking_of, is_exec, is_elem, is_atomic_note, is_atomic_step, is_put_note, is_take_note, done_by, retired_by, element_by, box_of}
use Rattle.reorder_laws.specs.Frames.{listed}

-- ---- whose step it is

pub not_true_false : (X : Type 0) (b : Bool) → b ≡ true → b ≡ false → X
not_true_false X b h g = absurd (true≢false (sym h ∙ g))

-- a step that has another maker than p
not_mine : (X : Type 0) (s : Step) (p q : ℕ) → maker s ≡ Some q → q ≢ p → maker s ≡ Some p → X
not_mine X s p q by ne mine = absurd (ne (some_same q p (sym by ∙ mine)))

-- ---- the settled processor

mask_settled : (P : Spe) → (settled P).tags.mask ≡ P.tags.mask
mask_settled P = on P.tags.request
  where
    on : (o : Option Request) → (fixed_at (busy P.moves) (length P.moves.issued) P.tags o).mask ≡ P.tags.mask
    on None = refl
    on (Some r) = by (is_met (busy P.moves) r)
      where
        by : (b : Bool) → (cond {A = Tags} b (record { mask = P.tags.mask; request = None; status = Some (record { groups = idle_groups (busy P.moves) r.mask; issued = length P.moves.issued }) }) P.tags).mask ≡ P.tags.mask
        by true = refl
        by false = refl

program_settled : (P : Spe) → program_of (settled P) ≡ program_of P
program_settled P = ap (λ m. record (program_of P) { mask = m }) (mask_settled P)

program_host : (a : HostAction) (P : Spe) → program_of (host_leaves a P) ≡ program_of P
program_host (Send p value) P = refl
program_host (TakeOut p) P = refl
program_host (TakeIntr p) P = refl
program_host (Store ea len bytes) P = refl
program_host (Await p) P = refl
program_host (SignalTo p register value) P = refl

pub moves_host : (a : HostAction) (P : Spe) → (host_leaves a P).moves ≡ P.moves
moves_host (Send p value) P = refl
moves_host (TakeOut p) P = refl
moves_host (TakeIntr p) P = refl
moves_host (Store ea len bytes) P = refl
moves_host (Await p) P = refl
moves_host (SignalTo p register value) P = refl

locking_host : (a : HostAction) (P : Spe) → locking_of (host_leaves a P) ≡ locking_of P
locking_host (Send p value) P = refl
locking_host (TakeOut p) P = refl
locking_host (TakeIntr p) P = refl
locking_host (Store ea len bytes) P = refl
locking_host (Await p) P = refl
locking_host (SignalTo p register value) P = refl

-- ---- an instruction

-- it leaves what was done of the commands, but for acknowledgements
pub record SameLists (m n : Moves) : Type 0 where
  pub read : n.read ≡ m.read
  pub done : n.done ≡ m.done
  pub retired : n.retired ≡ m.retired

same_lists : (m : Moves) → SameLists m m
same_lists m = record { read = refl; done = refl; retired = refl }

pub lists_did : (d : Did) (P : Spe) → SameLists P.moves (did d P).moves
lists_did (Ends status x) P = same_lists P.moves
lists_did (Goes x Plain) P = same_lists P.moves
lists_did (Goes x (SetParams y)) P = same_lists P.moves
lists_did (Goes x (SetMask y)) P = same_lists P.moves
lists_did (Goes x (TakeSignal y)) P = same_lists P.moves
lists_did (Goes x (LeaveEvents y)) P = same_lists P.moves
lists_did (Goes x (AskTags y)) P = same_lists P.moves
lists_did (Goes x (TakeTags y)) P = same_lists P.moves
lists_did (Goes x (TakeStalls y)) P = same_lists P.moves
lists_did (Goes x TakeAtomic) P = same_lists P.moves
lists_did (Goes x TakeValue) P = same_lists P.moves
lists_did (Goes x (Queue n y)) P = record { read = refl; done = refl; retired = refl }
lists_did (Goes x (FillSlot y)) P = same_lists P.moves
lists_did (Goes x (Resume t y)) P = record { read = refl; done = refl; retired = refl }
lists_did (Goes x (PutValue y)) P = same_lists P.moves
lists_did (Goes x (PutInterrupt y)) P = same_lists P.moves

locking_did : (p : ℕ) (d : Did) (P : Spe) → is_atomic_note (note_of p d) ≡ false → locking_of (did d P) ≡ locking_of P
locking_did p (Ends status x) P h = refl
locking_did p (Goes x Plain) P h = refl
locking_did p (Goes x (SetParams y)) P h = refl
locking_did p (Goes x (SetMask y)) P h = refl
locking_did p (Goes x (TakeSignal y)) P h = refl
locking_did p (Goes x (LeaveEvents y)) P h = refl
locking_did p (Goes x (AskTags y)) P h = refl
locking_did p (Goes x (TakeTags y)) P h = refl
locking_did p (Goes x (TakeStalls y)) P h = refl
locking_did p (Goes x TakeAtomic) P h = absurd (true≢false h)
locking_did p (Goes x TakeValue) P h = refl
locking_did p (Goes x (Queue n y)) P h = refl
locking_did p (Goes x (FillSlot y)) P h = absurd (true≢false h)
locking_did p (Goes x (Resume t y)) P h = refl
locking_did p (Goes x (PutValue y)) P h = refl
locking_did p (Goes x (PutInterrupt y)) P h = refl

-- ---- the commands' lists after a step

module _ (memory : MainMemory) (s : Step) (note : Note) (p : ℕ) (P Q : Spe) where
  pub program-kept : Happens memory s note p P Q → is_exec p s ≡ false → is_faulted Q.status ≡ false → program_of Q ≡ program_of P
  program-kept (Passes q by ne is) off sound = ap program_of is ∙ program_settled P
  program-kept (Executes d st made told is) off sound = not_true_false _ (is_exec p s) (ap (is_exec p) st ∙ eq_same p) off
  program-kept (Copies c e k d x store st at has there number told is) off sound = ap program_of is ∙ program_settled (record (moved_on P (with_done P.moves c e k) c d) { store = store })
  program-kept (Reads c d x st at has el told is) off sound = ap program_of is ∙ program_settled (moved_on P (with_read P.moves c x) c d)
  program-kept (Faults c d kind st at has told is) off sound = absurd (true≢false (sym (ap (λ (K : Spe). is_faulted K.status) is) ∙ sound))
  program-kept (Retires c d st at left told is) off sound = ap program_of is ∙ program_settled (record P { moves = with_retired P.moves c })
  program-kept (Answers a store st slot told is) off sound = ap program_of is ∙ program_settled (record (answered memory P a) { store = store })
  program-kept (Hosts a st of may told is) off sound = ap program_of is ∙ program_settled (host_leaves a P) ∙ program_host a P
  program-kept (HostPasses a st of told is) off sound = ap program_of is ∙ program_settled P

  pub locking-kept : Happens memory s note p P Q → is_atomic_step p s note ≡ false → locking_of Q ≡ locking_of P
  locking-kept (Passes q by ne is) off = ap locking_of is
  locking-kept (Executes d st made told is) off =
      ap locking_of is ∙ locking_did p d P (sym (ap₂ (λ x n. is_atomic_step p x n) st told ∙ ap (λ b. b && is_atomic_note (note_of p d)) (eq_same p)) ∙ off)
  locking-kept (Copies c e k d x store st at has there number told is) off = ap locking_of is
  locking-kept (Reads c d x st at has el told is) off = ap locking_of is
  locking-kept (Faults c d kind st at has told is) off = ap locking_of is
  locking-kept (Retires c d st at left told is) off = ap locking_of is
  locking-kept (Answers a store st slot told is) off = not_true_false _ (is_atomic_step p s note) (ap (λ x. is_atomic_step p x note) st ∙ eq_same p) off
  locking-kept (Hosts a st of may told is) off = ap locking_of is ∙ locking_host a P
  locking-kept (HostPasses a st of told is) off = ap locking_of is

  pub elements-kept : (c : ℕ) → Happens memory s note p P Q → is_elem p c s ≡ false → read_of Q.moves.read c ≡ read_of P.moves.read c
  elements-kept c (Passes q by ne is) off = ap (λ (m : Moves). read_of m.read c) (ap (λ (K : Spe). K.moves) is)
  elements-kept c (Executes d st made told is) off = ap (λ (m : Moves). read_of m.read c) (ap (λ (K : Spe). K.moves) is) ∙ ap (λ r. read_of r c) (lists_did d P).read
  elements-kept c (Copies c2 e k d x store st at has there number told is) off = ap (λ (m : Moves). read_of m.read c) (ap (λ (K : Spe). K.moves) is)
  elements-kept c (Reads c2 d x st at has el told is) off =
      ap (λ (m : Moves). read_of m.read c) (ap (λ (K : Spe). K.moves) is) ∙ (read-elsewhere P.moves c2 x c (eq_not c2 c (sym (ap (λ b. b && c2 == c) (eq_same p)) ∙ sym (ap (is_elem p c) st) ∙ off))).read
  elements-kept c (Faults c2 d kind st at has told is) off = ap (λ (m : Moves). read_of m.read c) (ap (λ (K : Spe). K.moves) is)
  elements-kept c (Retires c2 d st at left told is) off = ap (λ (m : Moves). read_of m.read c) (ap (λ (K : Spe). K.moves) is)
  elements-kept c (Answers a store st slot told is) off = ap (λ (m : Moves). read_of m.read c) (ap (λ (K : Spe). K.moves) is)
  elements-kept c (Hosts a st of may told is) off = ap (λ (m : Moves). read_of m.read c) (ap (λ (K : Spe). K.moves) is ∙ moves_host a P)
  elements-kept c (HostPasses a st of told is) off = ap (λ (m : Moves). read_of m.read c) (ap (λ (K : Spe). K.moves) is)

-- what a step of another processor adds
others_add : (s : Step) (p q : ℕ) (Q : Spe) → maker s ≡ Some q → q ≢ p → (done_by p s ≡ None) × (retired_by p s ≡ None) × (element_by p s Q ≡ None)
others_add (Exec r) p q Q by ne = (refl, refl, refl)
others_add (Piece r c e k) p q Q by ne = let off : (r == p) ≡ false = eq_off r p (λ same. not_mine ⊥ (Piece r c e k) p q by ne (ap Some same)) in (rw off refl, refl, refl)
others_add (Elem r c) p q Q by ne = let off : (r == p) ≡ false = eq_off r p (λ e. not_mine ⊥ (Elem r c) p q by ne (ap Some e)) in (refl, refl, rw off refl)
others_add (Retire r c) p q Q by ne = let off : (r == p) ≡ false = eq_off r p (λ e. not_mine ⊥ (Retire r c) p q by ne (ap Some e)) in (refl, rw off refl, refl)
others_add (Atomic r) p q Q by ne = (refl, refl, refl)
others_add Host p q Q by ne = (refl, refl, refl)

-- nothing is added
nothing : {X : Type 0} (xs ys : List X) (o : Option X) → ys ≡ xs → o ≡ None → ys ≡ xs ++ listed o
nothing xs ys o same none = same ∙ sym (append-nil xs) ∙ ap (λ o. xs ++ listed o) (sym none)

module _ (memory : MainMemory) (s : Step) (note : Note) (p : ℕ) (P Q : Spe) where
  pub done-added : Happens memory s note p P Q → Q.moves.done ≡ P.moves.done ++ listed (done_by p s)
  done-added (Passes q by ne is) = nothing _ _ _ (ap (λ (K : Spe). K.moves.done) is) (others_add s p q Q by ne).0
  done-added (Executes d st made told is) = nothing _ _ _ (ap (λ (K : Spe). K.moves.done) is ∙ (lists_did d P).done) (ap (done_by p) st)
  done-added (Copies c e k d x store st at has there number told is) =
      ap (λ (X : Spe). X.moves.done) is
      ∙ sym (ap (λ o. P.moves.done ++ listed o) (ap (done_by p) st ∙ ap (λ b. cond b (Some (part c e k)) None) (eq_same p)))
    where
      part : ℕ → ℕ → ℕ → PartDone
      part c e k = record { cmd = c; elem = e; part = k }
  done-added (Reads c d x st at has el told is) = nothing _ _ _ (ap (λ (K : Spe). K.moves.done) is) (ap (done_by p) st)
  done-added (Faults c d kind st at has told is) = nothing _ _ _ (ap (λ (K : Spe). K.moves.done) is) (ap (done_by p) st)
  done-added (Retires c d st at left told is) = nothing _ _ _ (ap (λ (K : Spe). K.moves.done) is) (ap (done_by p) st)
  done-added (Answers a store st slot told is) = nothing _ _ _ (ap (λ (K : Spe). K.moves.done) is) (ap (done_by p) st)
  done-added (Hosts a st of may told is) = nothing _ _ _ (ap (λ (K : Spe). K.moves.done) is ∙ ap (λ (m : Moves). m.done) (moves_host a P)) (ap (done_by p) st)
  done-added (HostPasses a st of told is) = nothing _ _ _ (ap (λ (K : Spe). K.moves.done) is) (ap (done_by p) st)

  pub retired-added : Happens memory s note p P Q → Q.moves.retired ≡ P.moves.retired ++ listed (retired_by p s)
  retired-added (Passes q by ne is) = nothing _ _ _ (ap (λ (K : Spe). K.moves.retired) is) (others_add s p q Q by ne).1
  retired-added (Executes d st made told is) = nothing _ _ _ (ap (λ (K : Spe). K.moves.retired) is ∙ (lists_did d P).retired) (ap (retired_by p) st)
  retired-added (Copies c e k d x store st at has there number told is) = nothing _ _ _ (ap (λ (K : Spe). K.moves.retired) is) (ap (retired_by p) st)
  retired-added (Reads c d x st at has el told is) = nothing _ _ _ (ap (λ (K : Spe). K.moves.retired) is) (ap (retired_by p) st)
  retired-added (Faults c d kind st at has told is) = nothing _ _ _ (ap (λ (K : Spe). K.moves.retired) is) (ap (retired_by p) st)
  retired-added (Retires c d st at left told is) =
      ap (λ (X : Spe). X.moves.retired) is ∙ sym (ap (λ o. P.moves.retired ++ listed o) (ap (retired_by p) st ∙ ap (λ b. cond b (Some c) None) (eq_same p)))
  retired-added (Answers a store st slot told is) = nothing _ _ _ (ap (λ (K : Spe). K.moves.retired) is) (ap (retired_by p) st)
  retired-added (Hosts a st of may told is) = nothing _ _ _ (ap (λ (K : Spe). K.moves.retired) is ∙ ap (λ (m : Moves). m.retired) (moves_host a P)) (ap (retired_by p) st)
  retired-added (HostPasses a st of told is) = nothing _ _ _ (ap (λ (K : Spe). K.moves.retired) is) (ap (retired_by p) st)

  abbrev an_element : ℕ → Element → ElementRead
  an_element c x = record { cmd = c; element = x }

  pub read-added : Happens memory s note p P Q → is_faulted Q.status ≡ false → Q.moves.read ≡ P.moves.read ++ listed (element_by p s Q)
  read-added (Passes q by ne is) sound = nothing _ _ _ (ap (λ (K : Spe). K.moves.read) is) (others_add s p q Q by ne).2
  read-added (Executes d st made told is) sound = nothing _ _ _ (ap (λ (K : Spe). K.moves.read) is ∙ (lists_did d P).read) (ap (λ x. element_by p x Q) st)
  read-added (Copies c e k d x store st at has there number told is) sound = nothing _ _ _ (ap (λ (K : Spe). K.moves.read) is) (ap (λ x. element_by p x Q) st)
  read-added (Reads c d x st at has el told is) sound =
      let r : Q.moves.read ≡ P.moves.read ++ an_element c x ∷ [] = ap (λ (X : Spe). X.moves.read) is in
      let last : last_or None (read_of Q.moves.read c) ≡ Some x = ap (λ ys. last_or None (read_of ys c)) r ∙ ap (last_or None) (read-more P.moves c x) ∙ last_or-snoc None (read_of P.moves.read c) x in
      let added : element_by p s Q ≡ Some (an_element c x) =
      ap (λ t. element_by p t Q) st ∙ ap (λ b. cond b (option_map (an_element c) (last_or None (read_of Q.moves.read c))) None) (eq_same p) ∙ ap (option_map (an_element c)) last in
      r ∙ sym (ap (λ o. P.moves.read ++ listed o) added)
  read-added (Faults c d kind st at has told is) sound = absurd (true≢false (sym (ap (λ (K : Spe). is_faulted K.status) is) ∙ sound))
  read-added (Retires c d st at left told is) sound = nothing _ _ _ (ap (λ (K : Spe). K.moves.read) is) (ap (λ x. element_by p x Q) st)
  read-added (Answers a store st slot told is) sound = nothing _ _ _ (ap (λ (K : Spe). K.moves.read) is) (ap (λ x. element_by p x Q) st)
  read-added (Hosts a st of may told is) sound = nothing _ _ _ (ap (λ (K : Spe). K.moves.read) is ∙ ap (λ (m : Moves). m.read) (moves_host a P)) (ap (λ x. element_by p x Q) st)
  read-added (HostPasses a st of told is) sound = nothing _ _ _ (ap (λ (K : Spe). K.moves.read) is) (ap (λ x. element_by p x Q) st)

-- ---- mailboxes

-- the note is of no mailbox of q
abbrev pub IsOff : ℕ → Note → Type 0
IsOff q note = (m : ℕ) → (is_put_note q m note ≡ false) × (is_take_note q m note ≡ false)

other_off : (p q m k : ℕ) → q ≢ p → ((p == q) && (k == m)) ≡ false
other_off p q m k ne = ap (λ b. b && k == m) (eq_off p q (λ e. ne (sym e)))

did_off : (p q : ℕ) (d : Did) → q ≢ p → IsOff q (note_of p d)
did_off p q (Ends status x) ne m = (refl, refl)
did_off p q (Goes x Plain) ne m = (refl, refl)
did_off p q (Goes x (SetParams y)) ne m = (refl, refl)
did_off p q (Goes x (SetMask y)) ne m = (refl, refl)
did_off p q (Goes x (TakeSignal y)) ne m = (refl, refl)
did_off p q (Goes x (LeaveEvents y)) ne m = (refl, refl)
did_off p q (Goes x (AskTags y)) ne m = (refl, refl)
did_off p q (Goes x (TakeTags y)) ne m = (refl, refl)
did_off p q (Goes x (TakeStalls y)) ne m = (refl, refl)
did_off p q (Goes x TakeAtomic) ne m = (refl, refl)
did_off p q (Goes x TakeValue) ne m = (refl, other_off p q m 0 ne)
did_off p q (Goes x (Queue n y)) ne m = (refl, refl)
did_off p q (Goes x (FillSlot y)) ne m = (refl, refl)
did_off p q (Goes x (Resume t y)) ne m = (refl, refl)
did_off p q (Goes x (PutValue y)) ne m = (other_off p q m 1 ne, refl)
did_off p q (Goes x (PutInterrupt y)) ne m = (other_off p q m 2 ne, refl)

pub off_as : (q : ℕ) (n k : Note) → n ≡ k → IsOff q k → IsOff q n
off_as q n k same h = subst (IsOff q) (sym same) h

fault_off : (q : ℕ) (n : Note) → (n ≡ Nothing) ⊎ (n ≡ Ended) → IsOff q n
fault_off q n (inl e) = off_as q n Nothing e (λ m. (refl, refl))
fault_off q n (inr e) = off_as q n Ended e (λ m. (refl, refl))

signal_off : (q : ℕ) (n : Note) → TellsSignal n → IsOff q n
signal_off q n (inl e) = off_as q n Nothing e (λ m. (refl, refl))
signal_off q n (inr (x, r, e)) = off_as q n (Signal x r) e (λ m. (refl, refl))

-- an action that doesn't concern q
pub host_off : (q : ℕ) (a : HostAction) → (concerns a ≡ Some q → ⊥) → IsOff q (host_tells a)
host_off q (Send p value) far m = (other_off p q m 0 (λ e. far (ap Some (sym e))), refl)
host_off q (TakeOut p) far m = (refl, other_off p q m 1 (λ e. far (ap Some (sym e))))
host_off q (TakeIntr p) far m = (refl, other_off p q m 2 (λ e. far (ap Some (sym e))))
host_off q (Store ea len bytes) far m = (refl, refl)
host_off q (Await p) far m = (refl, refl)
host_off q (SignalTo p register value) far m = (refl, refl)

host_no_maker : (X : Type 0) (s : Step) (p : ℕ) → s ≡ Host → maker s ≡ Some p → X
host_no_maker X s p st mine = none_is X p (sym (ap maker st) ∙ mine)

module _ (memory : MainMemory) (s : Step) (note : Note) (p : ℕ) (P Q : Spe) where
  -- a step of processor p notes no mailbox of another
  pub own-off : (q : ℕ) → Happens memory s note p P Q → maker s ≡ Some p → q ≢ p → IsOff q note
  own-off q (Passes r by ne is) mine differs = not_mine _ s p r by ne mine
  own-off q (Executes d st made told is) mine differs = off_as q note (note_of p d) told (did_off p q d differs)
  own-off q (Copies c e k d x store st at has there number told is) mine differs = signal_off q note told
  own-off q (Reads c d x st at has el told is) mine differs = off_as q note _ told (λ m. (refl, refl))
  own-off q (Faults c d kind st at has told is) mine differs = fault_off q note told
  own-off q (Retires c d st at left told is) mine differs = off_as q note Nothing told (λ m. (refl, refl))
  own-off q (Answers a store st slot told is) mine differs = off_as q note Nothing told (λ m. (refl, refl))
  own-off q (Hosts a st of may told is) mine differs = host_no_maker _ s p st mine
  own-off q (HostPasses a st of told is) mine differs = host_no_maker _ s p st mine

  -- a step of a command notes none at all
  pub quiet-off : (q c : ℕ) → Happens memory s note p P Q → is_step_of p c s ≡ true → IsOff q note
  quiet-off q c (Passes r by ne is) of = absurd (ne (some_same r p (sym by ∙ step_maker s of)))
    where
      step_maker : (s : Step) → is_step_of p c s ≡ true → maker s ≡ Some p
      step_maker (Exec r) h = absurd (true≢false (sym h))
      step_maker (Piece r c2 e k) h = ap Some (eq_is r p (both (r == p) (c2 == c) h).0)
      step_maker (Elem r c2) h = ap Some (eq_is r p (both (r == p) (c2 == c) h).0)
      step_maker (Retire r c2) h = ap Some (eq_is r p (both (r == p) (c2 == c) h).0)
      step_maker (Atomic r) h = absurd (true≢false (sym h))
      step_maker Host h = absurd (true≢false (sym h))
  quiet-off q c (Executes d st made told is) of = absurd (true≢false (sym of ∙ ap (is_step_of p c) st))
  quiet-off q c (Copies c2 e k d x store st at has there number told is) of = signal_off q note told
  quiet-off q c (Reads c2 d x st at has el told is) of = off_as q note _ told (λ m. (refl, refl))
  quiet-off q c (Faults c2 d kind st at has told is) of = fault_off q note told
  quiet-off q c (Retires c2 d st at left told is) of = off_as q note Nothing told (λ m. (refl, refl))
  quiet-off q c (Answers a store st slot told is) of = absurd (true≢false (sym of ∙ ap (is_step_of p c) st))
  quiet-off q c (Hosts a st of2 may told is) of = absurd (true≢false (sym of ∙ ap (is_step_of p c) st))
  quiet-off q c (HostPasses a st of2 told is) of = absurd (true≢false (sym of ∙ ap (is_step_of p c) st))

-- what a step does with mailbox m of processor p, by what it notes
pub record BoxStep (p m : ℕ) (note : Note) (P Q : Spe) : Type 0 where
  pub put : is_put_note p m note ≡ true → (v : ℕ) × (box_of m Q ≡ box_of m P ++ v ∷ [])
  pub take : is_take_note p m note ≡ true → (0 < length (box_of m P)) × (box_of m Q ≡ later_of (box_of m P))
  pub same : is_put_note p m note ≡ false → is_take_note p m note ≡ false → box_of m Q ≡ box_of m P

box_off : (p m : ℕ) (note : Note) (P Q : Spe) → (is_put_note p m note ≡ false) × (is_take_note p m note ≡ false) → box_of m Q ≡ box_of m P → BoxStep p m note P Q
box_off p m note P Q off same = record { put = λ h. not_true_false _ (is_put_note p m note) h off.0; take = λ h. not_true_false _ (is_take_note p m note) h off.1; same = λ h g. same }

-- a value goes into mailbox k, or out of it, and the other two stay
box_put : (p m k v : ℕ) (P Q : Spe) → (k ≡ m → box_of m Q ≡ box_of m P ++ v ∷ []) → ((k == m) ≡ false → box_of m Q ≡ box_of m P) → BoxStep p m (Put p k) P Q
box_put p m k v P Q here there = record {
  put = λ h. (v, here (eq_is k m (both (p == p) (k == m) h).1));
  take = λ h. absurd (true≢false (sym h));
  same = λ h g. there (sym (ap (λ b. b && k == m) (eq_same p)) ∙ h);
}

box_take : (p m k : ℕ) (P Q : Spe) → (k ≡ m → (0 < length (box_of m P)) × (box_of m Q ≡ later_of (box_of m P))) → ((k == m) ≡ false → box_of m Q ≡ box_of m P) → BoxStep p m (Take p k) P Q
box_take p m k P Q here there = record {
  put = λ h. absurd (true≢false (sym h));
  take = λ h. here (eq_is k m (both (p == p) (k == m) h).1);
  same = λ h g. there (sym (ap (λ b. b && k == m) (eq_same p)) ∙ g);
}

-- the boxes by their numbers
box_zero : (m : ℕ) (P : Spe) → 0 ≡ m → box_of m P ≡ P.inbound
box_zero m P e = ap (λ k. box_of k P) (sym e)

box_one : (m : ℕ) (P : Spe) → 1 ≡ m → box_of m P ≡ P.outbound
box_one m P e = ap (λ k. box_of k P) (sym e)

box_two : (m : ℕ) (P : Spe) → 2 ≡ m → box_of m P ≡ P.interrupt
box_two m P e = ap (λ k. box_of k P) (sym e)

-- where two boxes of three stay
keep_zero : (m : ℕ) (P Q : Spe) → (0 == m) ≡ false → Q.outbound ≡ P.outbound → Q.interrupt ≡ P.interrupt → box_of m Q ≡ box_of m P
keep_zero m P Q off out intr = let e : (m == 0) ≡ false = grind (arith, nat_tests, off) in rw e (ap₂ (λ x y. cond (m == 1) x y) out intr)

keep_one : (m : ℕ) (P Q : Spe) → (1 == m) ≡ false → Q.inbound ≡ P.inbound → Q.interrupt ≡ P.interrupt → box_of m Q ≡ box_of m P
keep_one m P Q off inb intr = let e : (m == 1) ≡ false = grind (arith, nat_tests, off) in rw e (ap₂ (λ x y. cond (m == 0) x y) inb intr)

keep_two : (m : ℕ) (P Q : Spe) → m < 3 → (2 == m) ≡ false → Q.inbound ≡ P.inbound → Q.outbound ≡ P.outbound → box_of m Q ≡ box_of m P
keep_two m P Q low off inb out = on (m == 0) refl (m == 1) refl
  where
    on : (b : Bool) → (m == 0) ≡ b → (c : Bool) → (m == 1) ≡ c → cond b Q.inbound (cond c Q.outbound Q.interrupt) ≡ cond b P.inbound (cond c P.outbound P.interrupt)
    on true e c f = inb
    on false e true f = out
    on false e false f = absurd (let a = eq_not m 0 e in let b = eq_not m 1 f in let c = eq_not 2 m off in omega (arith, low, a, b, c))

box_did : (p m lines : ℕ) (d : Did) (P : Spe) → m < 3 → exec_deed lines P ≡ Some d → BoxStep p m (note_of p d) P (did d P)
box_did p m lines (Ends status x) P low made = box_off p m _ P _ (refl, refl) refl
box_did p m lines (Goes x Plain) P low made = box_off p m _ P _ (refl, refl) refl
box_did p m lines (Goes x (SetParams y)) P low made = box_off p m _ P _ (refl, refl) refl
box_did p m lines (Goes x (SetMask y)) P low made = box_off p m _ P _ (refl, refl) refl
box_did p m lines (Goes x (TakeSignal y)) P low made = box_off p m _ P _ (refl, refl) refl
box_did p m lines (Goes x (LeaveEvents y)) P low made = box_off p m _ P _ (refl, refl) refl
box_did p m lines (Goes x (AskTags y)) P low made = box_off p m _ P _ (refl, refl) refl
box_did p m lines (Goes x (TakeTags y)) P low made = box_off p m _ P _ (refl, refl) refl
box_did p m lines (Goes x (TakeStalls y)) P low made = box_off p m _ P _ (refl, refl) refl
box_did p m lines (Goes x TakeAtomic) P low made = box_off p m _ P _ (refl, refl) refl
box_did p m lines (Goes x TakeValue) P low made =
    let some = (exec-finds lines P (Goes x TakeValue) made).0 in
    box_take p m 0 P (did (Goes x TakeValue) P)
    (λ e. (subst (λ xs. 0 < length xs) (sym (box_zero m P e)) some, box_zero m (did (Goes x TakeValue) P) e ∙ later_is P.inbound ∙ ap later_of (sym (box_zero m P e))))
    (λ e. keep_zero m P (did (Goes x TakeValue) P) e refl refl)
  where
    later_is : (xs : List ℕ) → behind_first xs ≡ later_of xs
    later_is [] = refl
    later_is (y ∷ ys) = refl
box_did p m lines (Goes x (Queue n y)) P low made = box_off p m _ P _ (refl, refl) refl
box_did p m lines (Goes x (FillSlot y)) P low made = box_off p m _ P _ (refl, refl) refl
box_did p m lines (Goes x (Resume t y)) P low made = box_off p m _ P _ (refl, refl) refl
box_did p m lines (Goes x (PutValue y)) P low made =
    let K = did (Goes x (PutValue y)) P in
    box_put p m 1 y P K (λ e. box_one m K e ∙ ap (λ xs. xs ++ y ∷ []) (sym (box_one m P e))) (λ e. keep_one m P K e refl refl)
box_did p m lines (Goes x (PutInterrupt y)) P low made =
    let K = did (Goes x (PutInterrupt y)) P in
    box_put p m 2 y P K (λ e. box_two m K e ∙ ap (λ xs. xs ++ y ∷ []) (sym (box_two m P e))) (λ e. keep_two m P K low e refl refl)

first_some : (xs : List ℕ) → is_some (first_of xs) ≡ true → 0 < length xs
first_some [] h = absurd (true≢false (sym h))
first_some (x ∷ xs) h = omega arith

box_host : (p m : ℕ) (a : HostAction) (P : Spe) → m < 3 → concerns a ≡ Some p → host_may a P ≡ true → BoxStep p m (host_tells a) P (host_leaves a P)
box_host p m (Send q value) P low of may =
    let K = host_leaves (Send q value) P in
    subst (λ j. BoxStep p m (Put j 0) P K) (sym (some_same q p of))
    (box_put p m 0 value P K (λ e. box_zero m K e ∙ ap (λ xs. xs ++ value ∷ []) (sym (box_zero m P e))) (λ e. keep_zero m P K e refl refl))
box_host p m (TakeOut q) P low of may =
    let K = host_leaves (TakeOut q) P in
    subst (λ j. BoxStep p m (Take j 1) P K) (sym (some_same q p of))
    (box_take p m 1 P K (λ e. (subst (λ xs. 0 < length xs) (sym (box_one m P e)) (first_some P.outbound may), box_one m K e ∙ ap later_of (sym (box_one m P e)))) (λ e. keep_one m P K e refl refl))
box_host p m (TakeIntr q) P low of may =
    let K = host_leaves (TakeIntr q) P in
    subst (λ j. BoxStep p m (Take j 2) P K) (sym (some_same q p of))
    (box_take p m 2 P K (λ e. (subst (λ xs. 0 < length xs) (sym (box_two m P e)) (first_some P.interrupt may), box_two m K e ∙ ap later_of (sym (box_two m P e)))) (λ e. keep_two m P K low e refl refl))
box_host p m (Store ea len bytes) P low of may = box_off p m _ P _ (refl, refl) refl
box_host p m (Await q) P low of may = box_off p m _ P _ (refl, refl) refl
box_host p m (SignalTo q register value) P low of may = box_off p m _ P _ (refl, refl) refl

module _ (memory : MainMemory) (s : Step) (note : Note) (p : ℕ) (P Q : Spe) where
  box_as : (m : ℕ) (n : Note) (K : Spe) → note ≡ n → IsLike Q (settled K) → BoxStep p m n P K → BoxStep p m note P Q
  box_as m n K told is b =
      let boxes : box_of m Q ≡ box_of m K = ap (box_of m) is in
      subst (λ k. BoxStep p m k P Q) (sym told)
      (record { put = λ h. let v = b.put h in (v.0, boxes ∙ v.1); take = λ h. let v = b.take h in (v.0, boxes ∙ v.1); same = λ h g. boxes ∙ b.same h g })

  -- the boxes of a processor, where a step of another notes none of them
  pub box-step : (m : ℕ) → m < 3 → ((q : ℕ) → maker s ≡ Some q → q ≢ p → IsOff p note) → Happens memory s note p P Q → BoxStep p m note P Q
  box-step m low others (Passes q by ne is) = box_off p m note P Q (others q by ne m) (ap (box_of m) is)
  box-step m low others (Executes d st made told is) = box_as m (note_of p d) (did d P) told is (box_did p m _ d P low made)
  box-step m low others (Copies c e k d x store st at has there number told is) = box_off p m note P Q (signal_off p note told m) (ap (box_of m) is)
  box-step m low others (Reads c d x st at has el told is) = box_as m (Reading x.number (parts_in x) x.flagged) (moved_on P (with_read P.moves c x) c d) told is (box_off p m _ P _ (refl, refl) refl)
  box-step m low others (Faults c d kind st at has told is) = box_off p m note P Q (fault_off p note told m) (ap (box_of m) is)
  box-step m low others (Retires c d st at left told is) = box_as m Nothing (record P { moves = with_retired P.moves c }) told is (box_off p m _ P _ (refl, refl) refl)
  box-step m low others (Answers a store st slot told is) = box_as m Nothing (record (answered memory P a) { store = store }) told is (box_off p m _ P _ (refl, refl) refl)
  box-step m low others (Hosts a st of may told is) = box_as m (host_tells a) (host_leaves a P) told is (box_host p m a P low of may)
  box-step m low others (HostPasses a st of told is) = box_off p m note P Q (off_as p note (host_tells a) told (host_off p a of) m) (ap (box_of m) is)
