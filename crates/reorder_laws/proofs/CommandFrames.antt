-- What a step does to the commands of one processor.
use Rattle.std.proofs.Common.{◌≡◌, ◌≢◌, ℕ, ◌≤◌, ◌/◌, refl, sym, ◌∙◌, ap, subst, arith, List, [], ◌∷◌, ◌++◌, length, true≢false, ◌⊎◌, inl, inr}
use Rattle.std.specs.Prelude.{Option, Some, None, is_some, slice_get, Bool, true, false, not, ◌&&◌, ◌==◌}
use Rattle.std.specs.Option.{option_map_or}
use Rattle.std.specs.List.{list_any, last_or}
use Rattle.std.proofs.lemmas.Bool.Decides.{nat_tests}
use mathlib.Core.Path.{fun_ext}
use Rattle.cell_base.specs.declared.steps.Step.{Step}
use Rattle.cell_base.specs.declared.steps.Step.TheVariants.{Exec, Piece, Elem, Retire, Atomic, Host}
use Rattle.mfc_command.specs.declared.command.Command.{Command}
use Rattle.mfc_command.specs.declared.command.Kind.{Kind}
use Rattle.mfc_command.specs.declared.command.Kind.TheVariants.{Put as PutKind, Get, PutList, GetList, Barrier, PutQueued, Signal as SignalKind}
use Rattle.mfc_command.specs.Order.{is_list, is_barrier}
use Rattle.cell_machine.specs.declared.effect.Note.{Note}
use Rattle.cell_machine.specs.declared.effect.Note.TheVariants.{Issue, Ack}
use Rattle.cell_machine.specs.Spe.{Spe, Moves, Stall}
use Rattle.cell_machine.specs.Memory.{MainMemory, lines_of}
use Rattle.cell_machine.specs.Moves.{is_moved, read_of, elements_in, elements_of, are_all_there, is_done, is_finished, is_resumed, was_retired, stall_of, is_stalled, is_at_rest, is_complete, stalls_of_tag}
use Rattle.cell_machine.specs.Tags.{settled}
use Rattle.cell_machine.specs.Transfers.{has_part, has_element, is_left, with_done, with_read, with_retired}
use Rattle.cell_machine.specs.Order.{is_step_of}
use Rattle.cell_machine.specs.Sound.{AreFew}
use Rattle.cell_machine.specs.EffectLaws.{maker}
use Rattle.cell_machine.proofs.Same.{SameOf, some_same, eq_same, eq_is, eq_not, done-elsewhere, read-elsewhere, retired-elsewhere, same-stall, empty, any_none}
use Rattle.cell_machine.proofs.Staying.{both, not_true, any_more, get_more}
use Rattle.cell_machine.proofs.StepBytes.{none_is}
use Rattle.cell_machine.proofs.Elements.{part-is, stall-is, element-is, is_stall_of, not_on, list-elements, present-last}
use Rattle.cell_machine.proofs.ListSteps.{of-tag}
use Rattle.cell_machine.proofs.MovesShown.{complete-moved, complete-retires, complete-unfinished, unfinished}
use Rattle.cell_machine.proofs.CommandsShown.{plain-unstalled}
use Rattle.reorder_laws.specs.Deeds.{Did, Ends, Goes, Plain, SetParams, SetMask, AskTags, TakeTags, TakeStalls, TakeAtomic, TakeValue, Queue, FillSlot, Resume, PutValue, PutInterrupt, TakeSignal, LeaveEvents, did, note_of, exec_deed}
use Rattle.reorder_laws.specs.Silent.{IsLike}
use Rattle.reorder_laws.specs.Happens.{Happens, Passes, Executes, Copies, Reads, Faults, Retires, Answers, Hosts, HostPasses}
use Rattle.reorder_laws.proofs.SameDeeds.{exec-finds}
use Rattle.reorder_laws.specs.Recorded.{is_stalled_number}
use Rattle.reorder_laws.proofs.Steps.{lists_did, moves_host}

-- ---- instructions

-- a step that is an instruction of p does what its deed says
pub record IsDone (memory : MainMemory) (note : Note) (p : ℕ) (P Q : Spe) : Type 0 where
  pub deed : Did
  pub made : exec_deed (lines_of memory) P ≡ Some deed
  pub told : note ≡ note_of p deed
  pub is : IsLike Q (settled (did deed P))

pub exec-only : (memory : MainMemory) (s : Step) (note : Note) (p : ℕ) (P Q : Spe) → Happens memory s note p P Q → s ≡ Exec p → IsDone memory note p P Q
exec-only memory s note p P Q (Passes q by ne is) st = absurd (ne (some_same q p (sym by ∙ ap maker st)))
exec-only memory s note p P Q (Executes d st2 made told is) st = record { deed = d; made = made; told = told; is = is }
exec-only memory s note p P Q (Copies c e k d x store st2 at has there number told is) st = let e = sym st2 ∙ st in absurd (cc)
exec-only memory s note p P Q (Reads c d x st2 at has el told is) st = let e = sym st2 ∙ st in absurd (cc)
exec-only memory s note p P Q (Faults c d kind st2 at has told is) st = let e = sym st2 ∙ st in absurd (cc)
exec-only memory s note p P Q (Retires c d st2 at left told is) st = let e = sym st2 ∙ st in absurd (cc)
exec-only memory s note p P Q (Answers a store st2 slot told is) st = let e = sym st2 ∙ st in absurd (cc)
exec-only memory s note p P Q (Hosts a st2 of may told is) st = let e = sym st2 ∙ st in absurd (cc)
exec-only memory s note p P Q (HostPasses a st2 of told is) st = let e = sym st2 ∙ st in absurd (cc)

-- ---- issues

-- what the deed issues, by its note
issued_did : (p c : ℕ) (d : Command) (a : Did) (P : Spe) → note_of p a ≡ Issue c d → (a ≡ a) × ((did a P).moves.issued ≡ P.moves.issued ++ d ∷ [])
issued_did p c d (Ends status x) P h = absurd (cc)
issued_did p c d (Goes x Plain) P h = absurd (cc)
issued_did p c d (Goes x (SetParams y)) P h = absurd (cc)
issued_did p c d (Goes x (SetMask y)) P h = absurd (cc)
issued_did p c d (Goes x (TakeSignal y)) P h = absurd (cc)
issued_did p c d (Goes x (LeaveEvents y)) P h = absurd (cc)
issued_did p c d (Goes x (AskTags y)) P h = absurd (cc)
issued_did p c d (Goes x (TakeTags y)) P h = absurd (cc)
issued_did p c d (Goes x (TakeStalls y)) P h = absurd (cc)
issued_did p c d (Goes x TakeAtomic) P h = absurd (cc)
issued_did p c d (Goes x TakeValue) P h = absurd (cc)
issued_did p c d (Goes x (Queue n y)) P h = let same : y ≡ d = cc in (refl, ap (λ z. P.moves.issued ++ z ∷ []) same)
issued_did p c d (Goes x (FillSlot y)) P h = absurd (cc)
issued_did p c d (Goes x (Resume t y)) P h = absurd (cc)
issued_did p c d (Goes x (PutValue y)) P h = absurd (cc)
issued_did p c d (Goes x (PutInterrupt y)) P h = absurd (cc)

number_did : (p c lines : ℕ) (d : Command) (a : Did) (P : Spe) → note_of p a ≡ Issue c d → exec_deed lines P ≡ Some a → length P.moves.issued ≡ c
number_did p c lines d (Ends status x) P h made = absurd (cc)
number_did p c lines d (Goes x Plain) P h made = absurd (cc)
number_did p c lines d (Goes x (SetParams y)) P h made = absurd (cc)
number_did p c lines d (Goes x (SetMask y)) P h made = absurd (cc)
number_did p c lines d (Goes x (TakeSignal y)) P h made = absurd (cc)
number_did p c lines d (Goes x (LeaveEvents y)) P h made = absurd (cc)
number_did p c lines d (Goes x (AskTags y)) P h made = absurd (cc)
number_did p c lines d (Goes x (TakeTags y)) P h made = absurd (cc)
number_did p c lines d (Goes x (TakeStalls y)) P h made = absurd (cc)
number_did p c lines d (Goes x TakeAtomic) P h made = absurd (cc)
number_did p c lines d (Goes x TakeValue) P h made = absurd (cc)
number_did p c lines d (Goes x (Queue n y)) P h made = let same : n ≡ c = cc in sym (exec-finds lines P (Goes x (Queue n y)) made).0 ∙ same
number_did p c lines d (Goes x (FillSlot y)) P h made = absurd (cc)
number_did p c lines d (Goes x (Resume t y)) P h made = absurd (cc)
number_did p c lines d (Goes x (PutValue y)) P h made = absurd (cc)
number_did p c lines d (Goes x (PutInterrupt y)) P h made = absurd (cc)

-- a step leaves the commands that were issued, or it is an instruction that issues one
pub record IsIssue (s : Step) (note : Note) (p : ℕ) (P Q : Spe) : Type 0 where
  pub command : Command
  pub step : s ≡ Exec p
  pub told : note ≡ Issue (length P.moves.issued) command
  pub more : Q.moves.issued ≡ P.moves.issued ++ command ∷ []

issue_did : (p lines : ℕ) (s : Step) (note : Note) (a : Did) (P Q : Spe) → s ≡ Exec p → note ≡ note_of p a → IsLike Q (settled (did a P)) → exec_deed lines P ≡ Some a → (Q.moves.issued ≡ P.moves.issued) ⊎ IsIssue s note p P Q
issue_did p lines s note (Ends status x) P Q st told is made = inl (ap (λ (K : Spe). K.moves.issued) is)
issue_did p lines s note (Goes x Plain) P Q st told is made = inl (ap (λ (K : Spe). K.moves.issued) is)
issue_did p lines s note (Goes x (SetParams y)) P Q st told is made = inl (ap (λ (K : Spe). K.moves.issued) is)
issue_did p lines s note (Goes x (SetMask y)) P Q st told is made = inl (ap (λ (K : Spe). K.moves.issued) is)
issue_did p lines s note (Goes x (TakeSignal y)) P Q st told is made = inl (ap (λ (K : Spe). K.moves.issued) is)
issue_did p lines s note (Goes x (LeaveEvents y)) P Q st told is made = inl (ap (λ (K : Spe). K.moves.issued) is)
issue_did p lines s note (Goes x (AskTags y)) P Q st told is made = inl (ap (λ (K : Spe). K.moves.issued) is)
issue_did p lines s note (Goes x (TakeTags y)) P Q st told is made = inl (ap (λ (K : Spe). K.moves.issued) is)
issue_did p lines s note (Goes x (TakeStalls y)) P Q st told is made = inl (ap (λ (K : Spe). K.moves.issued) is)
issue_did p lines s note (Goes x TakeAtomic) P Q st told is made = inl (ap (λ (K : Spe). K.moves.issued) is)
issue_did p lines s note (Goes x TakeValue) P Q st told is made = inl (ap (λ (K : Spe). K.moves.issued) is)
issue_did p lines s note (Goes x (Queue n y)) P Q st told is made =
    inr (record { command = y; step = st; told = told ∙ ap (λ k. Issue k y) (exec-finds lines P (Goes x (Queue n y)) made).0; more = ap (λ (K : Spe). K.moves.issued) is })
issue_did p lines s note (Goes x (FillSlot y)) P Q st told is made = inl (ap (λ (K : Spe). K.moves.issued) is)
issue_did p lines s note (Goes x (Resume t y)) P Q st told is made = inl (ap (λ (K : Spe). K.moves.issued) is)
issue_did p lines s note (Goes x (PutValue y)) P Q st told is made = inl (ap (λ (K : Spe). K.moves.issued) is)
issue_did p lines s note (Goes x (PutInterrupt y)) P Q st told is made = inl (ap (λ (K : Spe). K.moves.issued) is)

-- ---- acknowledgements

-- the step acknowledges the stall of command c
pub record IsAck (s : Step) (note : Note) (p : ℕ) (P : Spe) (c : ℕ) : Type 0 where
  pub command : Command
  pub at : slice_get P.moves.issued c ≡ Some command
  pub step : s ≡ Exec p
  pub told : note ≡ Ack command.tag
  pub stalled : is_stalled_number P.moves c ≡ true

abbrev KeepsResumed : Spe → Spe → ℕ → ℕ → Type 0
KeepsResumed P Q c e = is_resumed Q.moves.resumed c e ≡ is_resumed P.moves.resumed c e

stalled_number : (m : Moves) (c : ℕ) (d : Command) (s : Stall) → slice_get m.issued c ≡ Some d → stall_of m c d ≡ Some s → is_stalled_number m c ≡ true
stalled_number m c d s at stalls = ap (λ o. option_map_or (is_stalled m c) o false) at ∙ ap is_some stalls

resumed_did : (p lines c e : ℕ) (s : Step) (note : Note) (a : Did) (P Q : Spe) → s ≡ Exec p → note ≡ note_of p a → IsLike Q (settled (did a P)) → exec_deed lines P ≡ Some a → (IsAck s note p P c → ⊥) → KeepsResumed P Q c e
resumed_did p lines c e s note (Ends status x) P Q st told is made none = ap (λ (K : Spe). is_resumed K.moves.resumed c e) is
resumed_did p lines c e s note (Goes x Plain) P Q st told is made none = ap (λ (K : Spe). is_resumed K.moves.resumed c e) is
resumed_did p lines c e s note (Goes x (SetParams y)) P Q st told is made none = ap (λ (K : Spe). is_resumed K.moves.resumed c e) is
resumed_did p lines c e s note (Goes x (SetMask y)) P Q st told is made none = ap (λ (K : Spe). is_resumed K.moves.resumed c e) is
resumed_did p lines c e s note (Goes x (TakeSignal y)) P Q st told is made none = ap (λ (K : Spe). is_resumed K.moves.resumed c e) is
resumed_did p lines c e s note (Goes x (LeaveEvents y)) P Q st told is made none = ap (λ (K : Spe). is_resumed K.moves.resumed c e) is
resumed_did p lines c e s note (Goes x (AskTags y)) P Q st told is made none = ap (λ (K : Spe). is_resumed K.moves.resumed c e) is
resumed_did p lines c e s note (Goes x (TakeTags y)) P Q st told is made none = ap (λ (K : Spe). is_resumed K.moves.resumed c e) is
resumed_did p lines c e s note (Goes x (TakeStalls y)) P Q st told is made none = ap (λ (K : Spe). is_resumed K.moves.resumed c e) is
resumed_did p lines c e s note (Goes x TakeAtomic) P Q st told is made none = ap (λ (K : Spe). is_resumed K.moves.resumed c e) is
resumed_did p lines c e s note (Goes x TakeValue) P Q st told is made none = ap (λ (K : Spe). is_resumed K.moves.resumed c e) is
resumed_did p lines c e s note (Goes x (Queue n y)) P Q st told is made none = ap (λ (K : Spe). is_resumed K.moves.resumed c e) is
resumed_did p lines c e s note (Goes x (FillSlot y)) P Q st told is made none = ap (λ (K : Spe). is_resumed K.moves.resumed c e) is
resumed_did p lines c e s note (Goes x (Resume tag stalls)) P Q st told is made none =
    let them : stalls ≡ stalls_of_tag P.moves tag = (exec-finds lines P (Goes x (Resume tag stalls)) made).0 in
    let off : list_any (is_stall_of c e) (stalls_of_tag P.moves tag) ≡ false = not_on _ (λ h.
    let t = of-tag P.moves tag c e h in
    none (record { command = t.command; at = t.at; step = st; told = told ∙ ap Ack (sym t.tagged); stalled = stalled_number P.moves c t.command t.stall t.at t.is })) in
    ap (λ (K : Spe). is_resumed K.moves.resumed c e) is ∙ any_none (is_stall_of c e) P.moves.resumed stalls (ap (list_any (is_stall_of c e)) them ∙ off)
resumed_did p lines c e s note (Goes x (PutValue y)) P Q st told is made none = ap (λ (K : Spe). is_resumed K.moves.resumed c e) is
resumed_did p lines c e s note (Goes x (PutInterrupt y)) P Q st told is made none = ap (λ (K : Spe). is_resumed K.moves.resumed c e) is

-- acknowledgements stay
abbrev MoreResumed : Spe → Spe → ℕ → ℕ → Type 0
MoreResumed P Q c e = is_resumed P.moves.resumed c e ≡ true → is_resumed Q.moves.resumed c e ≡ true

more_did : (c e : ℕ) (a : Did) (P : Spe) → MoreResumed P (did a P) c e
more_did c e (Ends status x) P h = h
more_did c e (Goes x Plain) P h = h
more_did c e (Goes x (SetParams y)) P h = h
more_did c e (Goes x (SetMask y)) P h = h
more_did c e (Goes x (TakeSignal y)) P h = h
more_did c e (Goes x (LeaveEvents y)) P h = h
more_did c e (Goes x (AskTags y)) P h = h
more_did c e (Goes x (TakeTags y)) P h = h
more_did c e (Goes x (TakeStalls y)) P h = h
more_did c e (Goes x TakeAtomic) P h = h
more_did c e (Goes x TakeValue) P h = h
more_did c e (Goes x (Queue n y)) P h = h
more_did c e (Goes x (FillSlot y)) P h = h
more_did c e (Goes x (Resume tag stalls)) P h = any_more (is_stall_of c e) P.moves.resumed stalls h
more_did c e (Goes x (PutValue y)) P h = h
more_did c e (Goes x (PutInterrupt y)) P h = h

-- ---- steps of a command

list_not_barrier : (k : Kind) → is_list k ≡ true → is_barrier k ≡ false
list_not_barrier PutKind h = refl
list_not_barrier Get h = refl
list_not_barrier PutList h = refl
list_not_barrier GetList h = refl
list_not_barrier PutQueued h = refl
list_not_barrier SignalKind h = refl
list_not_barrier Barrier h = absurd (true≢false (sym h))

-- a list that isn't moved has no element
pub unmoved_empty : (m : Moves) (c : ℕ) (d : Command) → length (elements_of m.read c d) ≤ elements_in d → is_list d.kind ≡ true → is_moved d ≡ false → read_of m.read c ≡ []
unmoved_empty m c d few list kept = on (d.size == 0) refl
  where
    on : (b : Bool) → (d.size == 0) ≡ b → read_of m.read c ≡ []
    on true e =
        let size = eq_is d.size 0 e in
        let n : elements_in d ≡ d.size / 8 = rw list refl in
        let all : elements_of m.read c d ≡ read_of m.read c = list-elements m.read c d list in
        let long = ap length all in
        empty (read_of m.read c) (omega (arith, few, n, size, long))
    on false e = absurd (true≢false (let b = list_not_barrier d.kind list in sym (rw (b, e) refl) ∙ kept))

there_lists : (m : Moves) (c : ℕ) (d : Command) → length (elements_of m.read c d) ≤ elements_in d → has_element m c d ≡ true → is_moved d ≡ true
there_lists m c d few h = on (is_moved d) refl
  where
    on : (b : Bool) → is_moved d ≡ b → is_moved d ≡ true
    on true e = e
    on false e =
        let may = element-is m c d h in
        let none = unmoved_empty m c d few may.list e in
        let n : elements_in d ≡ d.size / 8 = let l = may.list in rw l refl in
        absurd (true≢false (sym (sized (d.size == 0) refl may.list none n) ∙ may.left))
      where
        zero_on : (a b : ℕ) → a ≡ b → (a == b) ≡ true
        zero_on a b q = grind (arith, nat_tests)

        sized : (b : Bool) → (d.size == 0) ≡ b → is_list d.kind ≡ true → read_of m.read c ≡ [] → elements_in d ≡ d.size / 8 → are_all_there m.read c d ≡ true
        sized true q list none n =
            let size = eq_is d.size 0 q in
            let long : length (elements_of m.read c d) ≡ 0 = ap length (list-elements m.read c d list ∙ none) in
            zero_on (length (elements_of m.read c d)) (elements_in d) (omega (arith, long, n, size))
        sized false q list none n = absurd (true≢false (let b = list_not_barrier d.kind list in sym (rw (b, q) refl) ∙ e))

-- a command with an element or a part left, or that is to be retired, isn't complete
open_part : (m : Moves) (c e k : ℕ) (d : Command) → slice_get m.issued c ≡ Some d → has_part m c e k d ≡ true → is_complete m c ≡ false
open_part m c e k d at has =
    let l = part-is m c e k d has in
    complete-unfinished m c d l.element at l.moved l.there (unfinished m c k l.element l.within (ap (λ n. is_done m.done c n k) l.number ∙ l.left))

open_element : (m : Moves) (c : ℕ) (d : Command) → slice_get m.issued c ≡ Some d → length (elements_of m.read c d) ≤ elements_in d → has_element m c d ≡ true → is_complete m c ≡ false
open_element m c d at few has = complete-moved m c d at (there_lists m c d few has) ∙ ap (λ b. b && is_at_rest m c d) (element-is m c d has).left

pub left_parts : (m : Moves) (c : ℕ) (d : Command) → is_left m c d ≡ true → (is_moved d ≡ false) × (was_retired m.retired c ≡ false)
left_parts m c d h = let two = both (not (is_moved d)) (not (was_retired m.retired c)) h in (not_true _ two.0, not_true _ two.1)

open_left : (m : Moves) (c : ℕ) (d : Command) → slice_get m.issued c ≡ Some d → is_left m c d ≡ true → is_complete m c ≡ false
open_left m c d at left = let two = left_parts m c d left in complete-retires m c d at two.0 ∙ two.1

-- nor is it stalled
part_unstalled : (m : Moves) (c e k : ℕ) (d : Command) → has_part m c e k d ≡ true → is_stalled m c d ≡ false
part_unstalled m c e k d has = on (stall_of m c d) refl
  where
    on : (o : Option Stall) → stall_of m c d ≡ o → is_some o ≡ false
    on None q = refl
    on (Some s) q =
        let l = part-is m c e k d has in
        let w = stall-is m c d s q in
        let same : l.element ≡ w.element = some_same l.element w.element (sym l.there ∙ w.is_present) in
        let finished : is_finished m.done c w.element ≡ true = (both w.element.flagged (is_finished m.done c w.element) (both (w.element.flagged && is_finished m.done c w.element) (not (is_resumed m.resumed c w.element.number)) w.stalls).0).1 in
        let left : is_finished m.done c l.element ≡ false = unfinished m c k l.element l.within (ap (λ n. is_done m.done c n k) l.number ∙ l.left) in
        absurd (true≢false (sym finished ∙ ap (is_finished m.done c) (sym same) ∙ left))

pub left_unstalled : (m : Moves) (c : ℕ) (d : Command) → length (elements_of m.read c d) ≤ elements_in d → is_moved d ≡ false → is_stalled m c d ≡ false
left_unstalled m c d few kept = on (is_list d.kind) refl
  where
    on : (b : Bool) → is_list d.kind ≡ b → is_stalled m c d ≡ false
    on false e = plain-unstalled m c d e
    on true e = by (stall_of m c d) refl
      where
        by : (o : Option Stall) → stall_of m c d ≡ o → is_some o ≡ false
        by None q = refl
        by (Some s) q =
            let w = stall-is m c d s q in
            none_is _ w.element (ap (last_or None) (sym (list-elements m.read c d e ∙ unmoved_empty m c d few e kept)) ∙ sym (present-last m.read c d) ∙ w.is_present)

-- a step of command c: the command is there, isn't complete and isn't stalled
pub record IsOpen (P : Spe) (c : ℕ) : Type 0 where
  pub command : Command
  pub at : slice_get P.moves.issued c ≡ Some command
  pub open_still : is_complete P.moves c ≡ false
  pub goes_on : is_stalled_number P.moves c ≡ false

module _ (memory : MainMemory) (s : Step) (note : Note) (p : ℕ) (P Q : Spe) where
  pub issue-cases : Happens memory s note p P Q → (Q.moves.issued ≡ P.moves.issued) ⊎ IsIssue s note p P Q
  issue-cases (Passes q by ne is) = inl (ap (λ (K : Spe). K.moves.issued) is)
  issue-cases (Executes d st made told is) = issue_did p (lines_of memory) s note d P Q st told is made
  issue-cases (Copies c e k d x store st at has there number told is) = inl (ap (λ (K : Spe). K.moves.issued) is)
  issue-cases (Reads c d x st at has el told is) = inl (ap (λ (K : Spe). K.moves.issued) is)
  issue-cases (Faults c d kind st at has told is) = inl (ap (λ (K : Spe). K.moves.issued) is)
  issue-cases (Retires c d st at left told is) = inl (ap (λ (K : Spe). K.moves.issued) is)
  issue-cases (Answers a store st slot told is) = inl (ap (λ (K : Spe). K.moves.issued) is)
  issue-cases (Hosts a st of may told is) = inl (ap (λ (K : Spe). K.moves.issued) is ∙ ap (λ (m : Moves). m.issued) (moves_host a P))
  issue-cases (HostPasses a st of told is) = inl (ap (λ (K : Spe). K.moves.issued) is)

  pub issued-more : (c : ℕ) (d : Command) → Happens memory s note p P Q → s ≡ Exec p → note ≡ Issue c d → (Q.moves.issued ≡ P.moves.issued ++ d ∷ []) × (length P.moves.issued ≡ c)
  issued-more c d h st told =
      let x = exec-only memory s note p P Q h st in
      let n : note_of p x.deed ≡ Issue c d = sym x.told ∙ told in
      (ap (λ (K : Spe). K.moves.issued) x.is ∙ (issued_did p c d x.deed P n).1, number_did p c (lines_of memory) d x.deed P n x.made)

  pub resumed-kept : (c e : ℕ) → Happens memory s note p P Q → (IsAck s note p P c → ⊥) → KeepsResumed P Q c e
  resumed-kept c e (Passes q by ne is) none = ap (λ (K : Spe). is_resumed K.moves.resumed c e) is
  resumed-kept c e (Executes d st made told is) none = resumed_did p (lines_of memory) c e s note d P Q st told is made none
  resumed-kept c e (Copies c2 e2 k d x store st at has there number told is) none = ap (λ (K : Spe). is_resumed K.moves.resumed c e) is
  resumed-kept c e (Reads c2 d x st at has el told is) none = ap (λ (K : Spe). is_resumed K.moves.resumed c e) is
  resumed-kept c e (Faults c2 d kind st at has told is) none = ap (λ (K : Spe). is_resumed K.moves.resumed c e) is
  resumed-kept c e (Retires c2 d st at left told is) none = ap (λ (K : Spe). is_resumed K.moves.resumed c e) is
  resumed-kept c e (Answers a store st slot told is) none = ap (λ (K : Spe). is_resumed K.moves.resumed c e) is
  resumed-kept c e (Hosts a st of may told is) none = ap (λ (K : Spe). is_resumed K.moves.resumed c e) is ∙ ap (λ (m : Moves). is_resumed m.resumed c e) (moves_host a P)
  resumed-kept c e (HostPasses a st of told is) none = ap (λ (K : Spe). is_resumed K.moves.resumed c e) is

  pub resumed-more : (c e : ℕ) → Happens memory s note p P Q → MoreResumed P Q c e
  resumed-more c e (Passes q by ne is) h = ap (λ (K : Spe). is_resumed K.moves.resumed c e) is ∙ h
  resumed-more c e (Executes d st made told is) h = ap (λ (K : Spe). is_resumed K.moves.resumed c e) is ∙ more_did c e d P h
  resumed-more c e (Copies c2 e2 k d x store st at has there number told is) h = ap (λ (K : Spe). is_resumed K.moves.resumed c e) is ∙ h
  resumed-more c e (Reads c2 d x st at has el told is) h = ap (λ (K : Spe). is_resumed K.moves.resumed c e) is ∙ h
  resumed-more c e (Faults c2 d kind st at has told is) h = ap (λ (K : Spe). is_resumed K.moves.resumed c e) is ∙ h
  resumed-more c e (Retires c2 d st at left told is) h = ap (λ (K : Spe). is_resumed K.moves.resumed c e) is ∙ h
  resumed-more c e (Answers a store st slot told is) h = ap (λ (K : Spe). is_resumed K.moves.resumed c e) is ∙ h
  resumed-more c e (Hosts a st of may told is) h = ap (λ (K : Spe). is_resumed K.moves.resumed c e) is ∙ ap (λ (m : Moves). is_resumed m.resumed c e) (moves_host a P) ∙ h
  resumed-more c e (HostPasses a st of told is) h = ap (λ (K : Spe). is_resumed K.moves.resumed c e) is ∙ h

  is_open : (c c2 : ℕ) (d : Command) → c2 ≡ c → slice_get P.moves.issued c2 ≡ Some d → is_complete P.moves c2 ≡ false → is_stalled P.moves c2 d ≡ false → IsOpen P c
  is_open c c2 d same at open_still goes_on =
      subst (IsOpen P) same (record { command = d; at = at; open_still = open_still; goes_on = ap (λ o. option_map_or (is_stalled P.moves c2) o false) at ∙ goes_on })

  of_number : (c c2 : ℕ) (x : Step) → s ≡ x → is_step_of p c s ≡ true → is_step_of p c x ≡ (p == p && c2 == c) → c2 ≡ c
  of_number c c2 x st of shape = eq_is c2 c (both (p == p) (c2 == c) (sym shape ∙ sym (ap (is_step_of p c) st) ∙ of)).1

  pub step-open : (c : ℕ) → AreFew P.moves → Happens memory s note p P Q → is_step_of p c s ≡ true → IsOpen P c
  step-open c few (Passes r by ne is) of = absurd (ne (some_same r p (sym by ∙ step_maker s of)))
    where
      step_maker : (s : Step) → is_step_of p c s ≡ true → maker s ≡ Some p
      step_maker (Exec r) h = absurd (true≢false (sym h))
      step_maker (Piece r c2 e k) h = ap Some (eq_is r p (both (r == p) (c2 == c) h).0)
      step_maker (Elem r c2) h = ap Some (eq_is r p (both (r == p) (c2 == c) h).0)
      step_maker (Retire r c2) h = ap Some (eq_is r p (both (r == p) (c2 == c) h).0)
      step_maker (Atomic r) h = absurd (true≢false (sym h))
      step_maker Host h = absurd (true≢false (sym h))
  step-open c few (Executes d st made told is) of = absurd (true≢false (sym of ∙ ap (is_step_of p c) st))
  step-open c few (Copies c2 e k d x store st at has there number told is) of = is_open c c2 d (of_number c c2 _ st of refl) at (open_part P.moves c2 e k d at has) (part_unstalled P.moves c2 e k d has)
  step-open c few (Reads c2 d x st at has el told is) of = is_open c c2 d (of_number c c2 _ st of refl) at (open_element P.moves c2 d at (few c2 d at) has) (element-is P.moves c2 d has).goes_on
  step-open c few (Faults c2 d kind st at has told is) of = is_open c c2 d (of_number c c2 _ st of refl) at (open_element P.moves c2 d at (few c2 d at) has) (element-is P.moves c2 d has).goes_on
  step-open c few (Retires c2 d st at left told is) of =
      is_open c c2 d (of_number c c2 _ st of refl) at (open_left P.moves c2 d at left) (left_unstalled P.moves c2 d (few c2 d at) (left_parts P.moves c2 d left).0)
  step-open c few (Answers a store st slot told is) of = absurd (true≢false (sym of ∙ ap (is_step_of p c) st))
  step-open c few (Hosts a st of2 may told is) of = absurd (true≢false (sym of ∙ ap (is_step_of p c) st))
  step-open c few (HostPasses a st of2 told is) of = absurd (true≢false (sym of ∙ ap (is_step_of p c) st))

  -- a command that makes no step and isn't acknowledged stays as it is
  not_number : (c c2 : ℕ) (x : Step) → s ≡ x → is_step_of p c s ≡ false → is_step_of p c x ≡ (p == p && c2 == c) → c2 ≢ c
  not_number c c2 x st of shape = eq_not c2 c (sym (ap (λ b. b && c2 == c) (eq_same p)) ∙ sym shape ∙ sym (ap (is_step_of p c) st) ∙ of)

  same_as : (m : Moves) (c : ℕ) → Q.moves ≡ m → SameOf P.moves m c → SameOf P.moves Q.moves c
  same_as m c is same = subst (λ n. SameOf P.moves n c) (sym is) same

  same_self : (c : ℕ) → SameOf P.moves P.moves c
  same_self c = record { read = refl; done = refl; retired = refl; resumed = refl }

  pub command-kept : (c : ℕ) → Happens memory s note p P Q → is_step_of p c s ≡ false → ((e : ℕ) → KeepsResumed P Q c e) → SameOf P.moves Q.moves c
  command-kept c (Passes r by ne is) of resumed = same_as P.moves c (ap (λ (K : Spe). K.moves) is) (same_self c)
  command-kept c (Executes d st made told is) of resumed =
      let l = lists_did d P in
      let q = ap (λ (K : Spe). K.moves) is in
      record {
        read = ap (λ (m : Moves). read_of m.read c) q ∙ ap (λ r. read_of r c) l.read;
        done = ap (λ (m : Moves). is_done m.done c) q ∙ ap (λ r. is_done r c) l.done;
        retired = ap (λ (m : Moves). was_retired m.retired c) q ∙ ap (λ r. was_retired r c) l.retired;
        resumed = fun_ext (λ e. resumed e);
      }
  command-kept c (Copies c2 e k d x store st at has there number told is) of resumed =
      same_as (with_done P.moves c2 e k) c (ap (λ (K : Spe). K.moves) is) (done-elsewhere P.moves c2 e k c (not_number c c2 _ st of refl))
  command-kept c (Reads c2 d x st at has el told is) of resumed =
      same_as (with_read P.moves c2 x) c (ap (λ (K : Spe). K.moves) is) (read-elsewhere P.moves c2 x c (not_number c c2 _ st of refl))
  command-kept c (Faults c2 d kind st at has told is) of resumed = same_as P.moves c (ap (λ (K : Spe). K.moves) is) (same_self c)
  command-kept c (Retires c2 d st at left told is) of resumed =
      same_as (with_retired P.moves c2) c (ap (λ (K : Spe). K.moves) is) (retired-elsewhere P.moves c2 c (not_number c c2 _ st of refl))
  command-kept c (Answers a store st slot told is) of resumed = same_as P.moves c (ap (λ (K : Spe). K.moves) is) (same_self c)
  command-kept c (Hosts a st of2 may told is) of resumed = same_as P.moves c (ap (λ (K : Spe). K.moves) is ∙ moves_host a P) (same_self c)
  command-kept c (HostPasses a st of2 told is) of resumed = same_as P.moves c (ap (λ (K : Spe). K.moves) is) (same_self c)

-- a stalled command stays so
pub stalled-kept : (m n : Moves) (c : ℕ) (later : List Command) → n.issued ≡ m.issued ++ later → SameOf m n c → is_stalled_number m c ≡ true → is_stalled_number n c ≡ true
stalled-kept m n c later more same h = on (slice_get m.issued c) refl h
  where
    on : (o : Option Command) → slice_get m.issued c ≡ o → option_map_or (is_stalled m c) o false ≡ true → is_stalled_number n c ≡ true
    on None at g = absurd (true≢false (sym g))
    on (Some d) at g =
        ap (λ o. option_map_or (is_stalled n c) o false) (ap (λ xs. slice_get xs c) more ∙ get_more m.issued later c d at)
        ∙ ap is_some (same-stall m n c d same) ∙ g
