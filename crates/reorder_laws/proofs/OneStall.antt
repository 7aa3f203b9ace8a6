-- The stall status and its acknowledgement, in another order: one list alone is stalled, and it is stalled alike.
use Rattle.std.proofs.Common.{◌≡◌, ◌≢◌, ℕ, zero, suc, ◌+◌, ◌<◌, ◌≤◌, ◌^◌, refl, sym, ◌∙◌, ap, subst, arith, Bool, true, false, List, [], ◌∷◌, ◌++◌, length, Option, Some, None, cond, inl, inr}
use Rattle.std.specs.Prelude.{slice_get, ◌⊎◌, ◌==◌, ◌&&◌, ◌||◌, not, is_some, option_and_then, filter, filter_map, fold}
use Rattle.std.specs.List.{range_with_len, list_any, list_all, last_or}
use Rattle.std.specs.Option.{option_map_or}
use Rattle.std.proofs.lemmas.Bool.{cases_Bool, cases_lt, cases_eq, eq-eqb, false≢true}
use mathlib.Core.Path.{fun_ext}
use Rattle.cell_base.specs.declared.steps.ChannelOp.TheVariants.{Write}
use Rattle.cell_base.specs.declared.steps.Step.TheVariants.{Exec}
use Rattle.mfc_command.specs.declared.command.Command.{Command}
use Rattle.mfc_command.specs.Order.{is_list, with_group}
use Rattle.mfc_lists.specs.declared.Element.{Element}
use Rattle.cell_machine.specs.Spe.{Spe, Moves, Stall}
use Rattle.cell_machine.specs.State.{State}
use Rattle.cell_machine.specs.Memory.{lines_of}
use Rattle.cell_machine.specs.Channels.{with_resumed}
use Rattle.cell_machine.specs.Moves.{read_of, is_moved, elements_of, is_done, is_resumed, is_at_rest, is_finished, are_all_there, is_complete, is_complete_as, is_stalled, stall_of, stall_of_tag, stalls_of_tag, parts_in}
use Rattle.cell_machine.specs.Exec.{asks}
use Rattle.cell_machine.specs.Order.{is_step_of}
use Rattle.cell_machine.specs.Sound.{AreFew}
use Rattle.cell_machine.specs.EffectLaws.{maker}
use Rattle.cell_machine.proofs.Same.{some_same, get-within, complete-at, stall-as, a_stall, stall_by, ended, elements_by}
use Rattle.cell_machine.proofs.Staying.{all_more, any_more, both, not_true, get_more}
use Rattle.cell_machine.proofs.Elements.{stall-is, present-last}
use Rattle.reorder_laws.specs.Deeds.{Did, Ends, Goes, Plain, SetParams, SetMask, AskTags, TakeTags, TakeStalls, TakeAtomic, TakeValue, Queue, FillSlot, Resume, PutValue, PutInterrupt, TakeSignal, LeaveEvents, exec_deed}
use Rattle.reorder_laws.proofs.SameDeeds.{exec-finds}
use Rattle.reorder_laws.specs.Cuts.{has, IsFront, IsCut}
use Rattle.reorder_laws.specs.Recorded.{Recorded, IsRecorded, Program, program_of, count_of, spe_in, spe_before, is_exec, is_elem, owes, stalled_groups, is_stalled_number}
use Rattle.reorder_laws.specs.OrderLaws.{Orders}
use Rattle.reorder_laws.specs.Frames.{IsFaultless, Acknowledges, HasFrames}
use Rattle.reorder_laws.proofs.CommandFrames.{unmoved_empty}
use Rattle.reorder_laws.proofs.Frames.{maker-low, spe-at}
use Rattle.reorder_laws.proofs.Stalls.{stalled-one}
use Rattle.reorder_laws.specs.Described.{Describes, DescribesSpe}
use Rattle.reorder_laws.specs.Laws.{InstructionsSee, InstructionsLeave, SeesRest, StallsRest}
use Rattle.reorder_laws.proofs.Commands.{StandsTo, complete_to, grown_to, complete_there, same_read, more_of, no_step, elem_of, any_of, any_from}
use Rattle.reorder_laws.proofs.Cuts.{cut_front, shown_at, same_look}
use Rattle.reorder_laws.proofs.Ending.{owes_frame}
use Rattle.reorder_laws.proofs.Fresh.{list_not}
use Rattle.reorder_laws.proofs.Instructing.{range_is}
use Rattle.reorder_laws.proofs.Owing.{ReadsAt, AcksAt, Unanswered, Since, Never, Read_at, Acked_at, since, ReadsOne, HandlesOne, acks_at, number_stalled, step_behind, still_stalled, issued_early, behind}
use Rattle.reorder_laws.proofs.Runs.{has_below}
use Rattle.reorder_laws.proofs.SettledFacts.{exec_is}
use Rattle.reorder_laws.proofs.Stalling.{single_not}

-- ---- stalls of one command

-- what is complete isn't stalled
complete_unstalled : (m : Moves) (c : ℕ) (d : Command) → slice_get m.issued c ≡ Some d → is_list d.kind ≡ true → (is_moved d ≡ false → read_of m.read c ≡ []) → is_complete m c ≡ true → is_stalled m c d ≡ false
unfolding is_complete_as
complete_unstalled m c d at list empty h = on (is_moved d) refl (sym (complete-at m c d at) ∙ h)
  where
    on : (b : Bool) → is_moved d ≡ b → is_complete_as m c d ≡ true → is_stalled m c d ≡ false
    on false e g = list_not m c d list (empty e)
    on true e g =
        let t : (are_all_there m.read c d && is_at_rest m c d) ≡ true = sym (rw e refl) ∙ g in
        not_true _ (both (list_all (is_finished m.done c) (elements_of m.read c d)) (not (is_stalled m c d)) (both (are_all_there m.read c d) (is_at_rest m c d) t).1).1

test_more : (f a b w : Bool) → (a ≡ true → b ≡ true) → (f && a && w) ≡ true → (f && b && w) ≡ true
test_more true true b w k h = ap (λ b. b && w) (k refl) ∙ h
test_more true false b w k h = absurd (false≢true h)
test_more false a b w k h = absurd (false≢true h)

abbrev stall_with : ℕ → (ℕ → ℕ → Bool) → (ℕ → Bool) → Option Element → Option Stall
stall_with c done was o = option_and_then (λ x. cond (x.flagged && ended done x && not (was x.number)) (Some (a_stall c x)) None) o

-- a stall stays where more is done of the command, and nothing else
stall_same : (m n : Moves) (c : ℕ) (d : Command) → read_of n.read c ≡ read_of m.read c → n.resumed ≡ m.resumed → ((e k : ℕ) → is_done m.done c e k ≡ true → is_done n.done c e k ≡ true) → is_stalled m c d ≡ true → stall_of n c d ≡ stall_of m c d
stall_same m n c d read resumed more h =
    stall-as n c d
    ∙ ap (λ xs. stall_by c (is_done n.done c) (is_resumed n.resumed c) (elements_by d xs)) read
    ∙ ap (λ rs. stall_by c (is_done n.done c) (is_resumed rs c) (elements_by d (read_of m.read c))) resumed
    ∙ on (last_or None (elements_by d (read_of m.read c))) (sym (ap is_some (stall-as m c d)) ∙ h)
    ∙ sym (stall-as m c d)
  where
    if_so : (a b : Bool) (x : Element) → (a ≡ true → b ≡ true) → is_some (cond a (Some (a_stall c x)) None) ≡ true → cond b (Some (a_stall c x)) None ≡ cond a (Some (a_stall c x)) None
    if_so true b x k g = ap (λ b. cond b (Some (a_stall c x)) None) (k refl)
    if_so false b x k g = absurd (false≢true g)

    on : (o : Option Element) → is_some (stall_with c (is_done m.done c) (is_resumed m.resumed c) o) ≡ true → stall_with c (is_done n.done c) (is_resumed m.resumed c) o ≡ stall_with c (is_done m.done c) (is_resumed m.resumed c) o
    on None g = refl
    on (Some x) g =
        if_so (x.flagged && ended (is_done m.done c) x && not (is_resumed m.resumed c x.number)) (x.flagged && ended (is_done n.done c) x && not (is_resumed m.resumed c x.number)) x
        (test_more x.flagged (ended (is_done m.done c) x) (ended (is_done n.done c) x) (not (is_resumed m.resumed c x.number)) (all_more (is_done m.done c x.number) (is_done n.done c x.number) (range_with_len 0 (parts_in x)) (more x.number))) g

off_more : (f a w v : Bool) → (w ≡ true → v ≡ true) → (f && a && not w) ≡ false → (f && a && not v) ≡ false
off_more false a w v k h = refl
off_more true false w v k h = refl
off_more true true false v k h = absurd (false≢true (sym h))
off_more true true true true k h = refl
off_more true true true false k h = absurd (false≢true (k refl))

any_left : {X : Type 0} (f : X → Bool) (xs ys : List X) → list_any f xs ≡ true → list_any f (xs ++ ys) ≡ true
any_left f xs ys h = any_more f xs ys h

any_right : {X : Type 0} (f : X → Bool) (xs ys : List X) → list_any f ys ≡ true → list_any f (xs ++ ys) ≡ true
any_right f [] ys h = h
any_right f (x ∷ xs) ys h = on (f x) (any_right f xs ys h)
  where
    on : (b : Bool) → list_any f (xs ++ ys) ≡ true → (b || list_any f (xs ++ ys)) ≡ true
    on true g = refl
    on false g = g

-- what isn't stalled isn't so where more was acknowledged
still_not : (m : Moves) (stalls : List Stall) (c : ℕ) (d : Command) → is_stalled m c d ≡ false → is_stalled (with_resumed m stalls) c d ≡ false
still_not m stalls c d h =
    ap is_some (stall-as (with_resumed m stalls) c d) ∙ on (last_or None (elements_of m.read c d)) (sym (ap is_some (stall-as m c d)) ∙ h)
  where
    is : (b : Bool) (x : Element) → is_some (cond b (Some (a_stall c x)) None) ≡ b
    is true x = refl
    is false x = refl

    on : (o : Option Element) → is_some (stall_with c (is_done m.done c) (is_resumed m.resumed c) o) ≡ false → is_some (stall_with c (is_done m.done c) (is_resumed (m.resumed ++ stalls) c) o) ≡ false
    on None g = refl
    on (Some x) g =
        is (x.flagged && ended (is_done m.done c) x && not (is_resumed (m.resumed ++ stalls) c x.number)) x
        ∙ off_more x.flagged (ended (is_done m.done c) x) (is_resumed m.resumed c x.number) (is_resumed (m.resumed ++ stalls) c x.number) (any_left (λ (s : Stall). s.cmd == c && s.elem == x.number) m.resumed stalls)
        (sym (is (x.flagged && ended (is_done m.done c) x && not (is_resumed m.resumed c x.number)) x) ∙ g)

-- the stalls of its tag resume a command
named_resumed : (m : Moves) (c tag : ℕ) (d : Command) (s : Stall) → slice_get m.issued c ≡ Some d → d.tag ≡ tag → stall_of m c d ≡ Some s → s.cmd ≡ c → is_resumed (stalls_of_tag m tag) c s.elem ≡ true
unfolding stalls_of_tag
named_resumed m c tag d s at named stalls cmd =
    any_of (λ (s2 : Stall). s2.cmd == c && s2.elem == s.elem) (stall_of_tag m tag) (range_with_len 0 (length m.issued))
    ∙ any_from (λ i. option_map_or (λ (s2 : Stall). s2.cmd == c && s2.elem == s.elem) (stall_of_tag m tag i) false) (range_with_len 0 (length m.issued)) c (has_below (length m.issued) c (get-within m.issued c d at))
    (ap (λ o. option_map_or (λ (s2 : Stall). s2.cmd == c && s2.elem == s.elem) o false) here ∙ ap (λ b. b && (s.elem == s.elem)) (eq-eqb s.cmd c cmd) ∙ eq-eqb s.elem s.elem refl)
  where
    here : stall_of_tag m tag c ≡ Some s
    here = ap (λ o. option_and_then (λ d. cond (d.tag == tag) (stall_of m c d) None) o) at ∙ ap (λ b. cond b (stall_of m c d) None) (eq-eqb d.tag tag named) ∙ stalls

-- so it isn't stalled any more
resumed_not : (m : Moves) (c tag : ℕ) (d : Command) → slice_get m.issued c ≡ Some d → d.tag ≡ tag → is_stalled m c d ≡ true → is_stalled (with_resumed m (stalls_of_tag m tag)) c d ≡ false
resumed_not m c tag d at named h = on (stall_of m c d) refl h
  where
    is : (b : Bool) (x : Element) → b ≡ false → is_some (cond b (Some (a_stall c x)) None) ≡ false
    is b x e = ap (λ b. is_some (cond b (Some (a_stall c x)) None)) e

    off : (a b : Bool) → b ≡ true → (a && not b) ≡ false
    off true true e = refl
    off false b e = refl
    off true false e = absurd (false≢true e)

    on : (o : Option Stall) → stall_of m c d ≡ o → is_some o ≡ true → is_stalled (with_resumed m (stalls_of_tag m tag)) c d ≡ false
    on None e g = absurd (false≢true g)
    on (Some s) e g =
        let w = stall-is m c d s e in
        let x = w.element in
        let gone : is_resumed (m.resumed ++ stalls_of_tag m tag) c x.number ≡ true =
        ap (is_resumed (m.resumed ++ stalls_of_tag m tag) c) (sym w.elem) ∙ any_right (λ (s2 : Stall). s2.cmd == c && s2.elem == s.elem) m.resumed (stalls_of_tag m tag) (named_resumed m c tag d s at named e w.cmd) in
        ap is_some (stall-as (with_resumed m (stalls_of_tag m tag)) c d)
        ∙ ap (λ o. is_some (option_and_then (λ x. cond (x.flagged && ended (is_done m.done c) x && not (is_resumed (m.resumed ++ stalls_of_tag m tag) c x.number)) (Some (a_stall c x)) None) o)) (sym (present-last m.read c d) ∙ w.is_present)
        ∙ is (x.flagged && ended (is_done m.done c) x && not (is_resumed (m.resumed ++ stalls_of_tag m tag) c x.number)) x (off (x.flagged && ended (is_done m.done c) x) (is_resumed (m.resumed ++ stalls_of_tag m tag) c x.number) gone)

none_pass : (a n : ℕ) → filter (λ k. false) (range_with_len a n) ≡ []
none_pass a zero = refl
none_pass a (suc n) = none_pass (a + 1) n

none_stalled : (m : Moves) → ((c : ℕ) → is_stalled_number m c ≡ false) → stalled_groups m ≡ 0
unfolding stalled_groups
none_stalled m h = ap (λ f. fold (with_group m.issued) 0 (filter f (range_with_len 0 (length m.issued)))) (fun_ext h) ∙ ap (fold (with_group m.issued) 0) (none_pass 0 (length m.issued))

-- ---- an instruction at place j at which one list alone is stalled

-- of the lists one is stalled there; the others are complete, and all steps so far are ordered before it
record Alone (Before : ℕ → ℕ → Type 0) (r : Recorded) (j p : ℕ) : Type 0 where
  cmd : ℕ
  command : Command
  is : slice_get (spe_before r p j).moves.issued cmd ≡ Some command
  list : is_list command.kind ≡ true
  stalled : is_stalled (spe_before r p j).moves cmd command ≡ true
  others : (c : ℕ) (d : Command) → slice_get (spe_before r p j).moves.issued c ≡ Some d → is_list d.kind ≡ true → c ≢ cmd
      → (is_complete (spe_before r p j).moves c ≡ true) × ((i : ℕ) → i < r.size → is_step_of p c (r.step i) ≡ true → Before i j)
  own : (i : ℕ) → i < j → is_step_of p cmd (r.step i) ≡ true → Before i j

-- at an acknowledgement it is the one whose stall was read
record AloneNamed (Before : ℕ → ℕ → Type 0) (r : Recorded) (j p tag : ℕ) : Type 0 where
  alone : Alone Before r j p
  due : owes r p j ≡ true
  named : tag ≡ alone.command.tag

none_both : (a b : Option Stall) → is_some a ≡ false → is_some b ≡ false → a ≡ b
none_both None None h g = refl
none_both (Some x) b h g = absurd (false≢true (sym h))
none_both None (Some x) h g = absurd (false≢true (sym g))

-- where the stall status is read no stall is owed
unowed : (r : Recorded) (Before : ℕ → ℕ → Type 0) → HandlesOne Before r → (j p : ℕ) → j < r.size → p < count_of r → ReadsAt r p j → owes r p j ≡ false
unowed r Before handles j p low low_p read = on (since r p j)
  where
    on : Since r p j → owes r p j ≡ false
    on (Never free none) = free
    on (Acked_at k less free ack none) = free
    on (Read_at i less due early none) = absurd (handles.reads i j p less low low_p early read none)

-- and the status is the group of the list that is stalled
pub status_of_one : (r : Recorded) (rec : IsRecorded r) → HasFrames r → IsFaultless r → (Before : ℕ → ℕ → Type 0) → HandlesOne Before r → (j p : ℕ) → j < r.size → p < count_of r → Describes r (range_with_len 0 j) (r.state j) → ReadsAt r p j
    → (c : ℕ) (d : Command) → slice_get (spe_before r p j).moves.issued c ≡ Some d → is_stalled (spe_before r p j).moves c d ≡ true
    → ((b : ℕ) (e : Command) → slice_get (spe_before r p j).moves.issued b ≡ Some e → is_list e.kind ≡ true → b ≢ c → is_complete (spe_before r p j).moves b ≡ true) → (spe_before r p j).channels.stalls ≡ 2 ^ d.tag
status_of_one r rec frames faultless Before handles j p low low_p shown read c d at stalled others =
    of_K.program.stalls
    ∙ ap (λ b. cond b 0 (stalled_groups (spe_before r p j).moves))
    (same_look r.size (λ i. is_exec p (r.step i)) (owes r p) (λ i low out. owes_frame r p i out) (range_with_len 0 j) of_K.program.place j of_K.program.within (omega (arith, low)) of_K.program.cut (λ i low h. range_is j i) ∙ unowed r Before handles j p low low_p read)
    ∙ stalled-one (spe_before r p j).moves c d at stalled (λ b ne. on b ne (slice_get (spe_before r p j).moves.issued b) refl)
  where
    of_K : DescribesSpe r p (range_with_len 0 j) (spe_before r p j)
    of_K = shown.spes p low_p

    few : AreFew (spe_before r p j).moves
    few = ((rec.sound j (omega (arith, low))).whole p (spe_before r p j) (spe-at r rec faultless j p (omega (arith, low)) low_p)).few

    by : (b : ℕ) (e : Command) → b ≢ c → slice_get (spe_before r p j).moves.issued b ≡ Some e → (is_list e.kind ≡ true) ⊎ (is_list e.kind ≡ false) → is_stalled (spe_before r p j).moves b e ≡ false
    by b e ne at (inr f) = single_not (spe_before r p j).moves b e f
    by b e ne at (inl list) = complete_unstalled (spe_before r p j).moves b e at list (λ kept. unmoved_empty (spe_before r p j).moves b e (few b e at) list kept) (others b e at list ne)

    on : (b : ℕ) → b ≢ c → (o : Option Command) → slice_get (spe_before r p j).moves.issued b ≡ o → option_map_or (is_stalled (spe_before r p j).moves b) o false ≡ false
    on b ne None at = refl
    on b ne (Some e) at = by b e ne at (cases_Bool (is_list e.kind))

module _ (r : Recorded) (rec : IsRecorded r) (frames : HasFrames r) (faultless : IsFaultless r) (Before : ℕ → ℕ → Type 0) (orders : Orders Before r) (handles : HandlesOne Before r) (j p : ℕ) (low : j < r.size) (low_p : p < count_of r) where
  at_read : ReadsAt r p j → Alone Before r j p
  at_read read =
      let one = handles.one j p low low_p read in
      record { cmd = one.cmd; command = one.command; is = one.is; list = one.list; stalled = one.stalled; others = one.others; own = one.own }

  at_ack : (tag : ℕ) → r.step j ≡ Exec p → asks (spe_before r p j) ≡ Some (Write 26 tag) → AloneNamed Before r j p tag
  at_ack tag s asks_is = on (since r p j)
    where
      ack : AcksAt r p j
      ack = record { step = s; tag = tag; asks_is = asks_is }

      differ : (i : ℕ) → ReadsAt r p i → AcksAt r p i → ⊥
      differ i a b = let e = sym a.asks_is ∙ b.asks_is in absurd (cc)

      from : (i : ℕ) → i < j → owes r p j ≡ true → ReadsAt r p i → Unanswered r p i j → AloneNamed Before r j p tag
      from i less due read free = record { alone = alone; due = due; named = one.named j tag less low s asks_is free }
        where
          i_low : i < r.size
          i_low = omega (arith, less, low)

          one : ReadsOne Before r i p
          one = handles.one i p i_low low_p read

          ordered : Before i j
          ordered = orders.program i j p less low read.step s

          free_from : (k : ℕ) → i ≤ k → k < j → AcksAt r p k → ⊥
          free_from k h below a = elim (cases_lt i k) [
            | inl above ↦ free k above below a
            | inr same ↦ differ i read (subst (AcksAt r p) (let q : k ≡ i = omega (arith, h, same) in q) a)
          ]

          is_there : slice_get (spe_before r p j).moves.issued one.cmd ≡ Some one.command
          is_there =
              let g = grown_to r frames p low_p i j (omega (arith, less)) (omega (arith, low)) in
              ap (λ xs. slice_get xs one.cmd) g.1 ∙ get_more (spe_before r p i).moves.issued g.0 one.cmd one.command one.is

          stalled_i : is_stalled_number (spe_before r p i).moves one.cmd ≡ true
          stalled_i = number_stalled (spe_before r p i).moves one.cmd one.command one.is ∙ one.stalled

          alone : Alone Before r j p
          alone = record {
            cmd = one.cmd;
            command = one.command;
            is = is_there;
            list = one.list;
            stalled = sym (number_stalled (spe_before r p j).moves one.cmd one.command is_there) ∙ still_stalled r rec frames faultless p low_p one.cmd i j (omega (arith, less)) (omega (arith, low)) stalled_i free_from;
            others = λ c d at list ne.
                let closed = one.others c d (issued_early r rec frames faultless p low_p Before orders handles i j c d i_low (omega (arith, low)) read free at list) list ne in
                (complete_to r frames p low_p c i j (omega (arith, less)) (omega (arith, low)) closed.0, λ y y_low of. orders.trans y i j (closed.1 y y_low of) ordered);
            own = λ y below of. elim (cases_lt y i) [
              | inl early ↦ orders.trans y i j (one.own y early of) ordered
              | inr late ↦
                  let a = step_behind r rec frames faultless p low_p one.cmd i y late (omega (arith, below, low)) stalled_i of in
                  let l = a.2 in
                  absurd (free_from a.0 a.1 (omega (arith, l, below)) (acks_at r rec frames faultless a.0 p a.3.command.tag (omega (arith, l, below, low)) low_p a.3.step a.3.tag))
            ];
          }

      on : Since r p j → AloneNamed Before r j p tag
      on (Never free none) = absurd (handles.first j p low low_p ack none)
      on (Acked_at k less free early none) = absurd (handles.acks k j p less low low_p early ack none)
      on (Read_at i less due read none) = from i less due read none

module _ (r : Recorded) (rec : IsRecorded r) (frames : HasFrames r) (faultless : IsFaultless r) (Before : ℕ → ℕ → Type 0) (orders : Orders Before r)
    (D : List ℕ) (j : ℕ) (M : State) (p : ℕ) (front : IsFront Before r.size D j) (describes : Describes r D M) (shown : Describes r (range_with_len 0 j) (r.state j)) (low_p : p < count_of r) (step_is : r.step j ≡ Exec p) where
  abbrev K : Spe
  K = spe_before r p j

  abbrev P : Spe
  P = spe_in M p

  of_P : DescribesSpe r p D P
  of_P = describes.spes p low_p

  of_K : DescribesSpe r p (range_with_len 0 j) K
  of_K = shown.spes p low_p

  abbrev execs : ℕ → Bool
  execs i = is_exec p (r.step i)

  cut : IsCut r.size execs D j
  cut =
      cut_front r.size Before execs D j front (λ i less h. orders.program i j p less front.low (exec_is p (r.step i) h) step_is)
      (λ i above low h. orders.program j i p above low step_is (exec_is p (r.step i) h))

  within : j ≤ r.size
  within = let l = front.low in omega (arith, l)

  program_here : program_of P ≡ program_of K
  program_here =
      shown_at r.size execs (λ x. program_of (spe_before r p x)) (λ i low out. frames.program i p low low_p out) D j (program_of P) within cut
      record { place = of_P.program.place; within = of_P.program.within; cut = of_P.program.cut; same = of_P.program.program }

  issued_same : P.moves.issued ≡ K.moves.issued
  issued_same = ap (λ (g : Program). g.issued) program_here

  resumed_same : P.moves.resumed ≡ K.moves.resumed
  resumed_same = ap (λ (g : Program). g.resumed) program_here

  few : AreFew K.moves
  few = ((rec.sound j within).whole p K (spe-at r rec faultless j p within low_p)).few

  -- the stall status
  stalls_P : P.channels.stalls ≡ cond (owes r p j) 0 (stalled_groups P.moves)
  stalls_P =
      of_P.program.stalls
      ∙ ap (λ b. cond b 0 (stalled_groups P.moves)) (same_look r.size execs (owes r p) (λ i low out. owes_frame r p i out) D of_P.program.place j of_P.program.within within of_P.program.cut cut)

  stalls_K : K.channels.stalls ≡ cond (owes r p j) 0 (stalled_groups K.moves)
  stalls_K =
      of_K.program.stalls
      ∙ ap (λ b. cond b 0 (stalled_groups K.moves))
      (same_look r.size execs (owes r p) (λ i low out. owes_frame r p i out) (range_with_len 0 j) of_K.program.place j of_K.program.within within of_K.program.cut (λ i low h. range_is j i))

  module _ (a : Alone Before r j p) where
    abbrev Stands : ℕ → Type 0
    Stands c = StandsTo r frames Before orders D j M front describes shown p low_p c

    elem_step : (c i : ℕ) → is_elem p c (r.step i) ≡ true → is_step_of p c (r.step i) ≡ true
    elem_step c i h = ap (is_step_of p c) (elem_of p c (r.step i) h) ∙ rw (eq-eqb p p refl, eq-eqb c c refl) refl

    acked : (c i : ℕ) → i < j → Acknowledges r i p c → has D i ≡ true
    acked c i less ack = let l = front.low in front.past i (omega (arith, l, less)) (orders.program i j p less front.low ack.step step_is)

    not_true_of : (b : Bool) → (b ≡ true → ⊥) → b ≡ false
    not_true_of true h = absurd (h refl)
    not_true_of false h = refl

    own_stands : Stands a.cmd
    own_stands = record {
      past = λ i less h. let l = front.low in front.past i (omega (arith, l, less)) (a.own i less h);
      later = λ i more low h. not_true_of (has D i) (λ t. front.future i low t (behind r rec frames faultless p low_p Before orders a.cmd j i more low step_is (number_stalled K.moves a.cmd a.command a.is ∙ a.stalled) (elem_step a.cmd i h)));
      resumed = acked a.cmd;
    }

    other_stands : (c : ℕ) → is_complete K.moves c ≡ true → ((i : ℕ) → i < r.size → is_step_of p c (r.step i) ≡ true → Before i j) → Stands c
    other_stands c complete before = record {
      past = λ i less h. let l = front.low in let low : i < r.size = omega (arith, l, less) in front.past i low (before i low h);
      later = λ i more low h. absurd (no_step r frames p low_p c j i more low complete (elem_step c i h));
      resumed = acked c;
    }

    own_same : stall_of P.moves a.cmd a.command ≡ stall_of K.moves a.cmd a.command
    own_same =
        let more = more_of r frames Before orders D j M front describes shown p low_p a.cmd own_stands in
        stall_same K.moves P.moves a.cmd a.command more.read resumed_same more.done a.stalled

    other_K : (c : ℕ) (d : Command) → slice_get K.moves.issued c ≡ Some d → c ≢ a.cmd → is_stalled K.moves c d ≡ false
    other_K c d at ne = on (cases_Bool (is_list d.kind))
      where
        on : (is_list d.kind ≡ true) ⊎ (is_list d.kind ≡ false) → is_stalled K.moves c d ≡ false
        on (inr f) = single_not K.moves c d f
        on (inl list) = complete_unstalled K.moves c d at list (λ kept. unmoved_empty K.moves c d (few c d at) list kept) (a.others c d at list ne).0

    other_P : (c : ℕ) (d : Command) → slice_get K.moves.issued c ≡ Some d → c ≢ a.cmd → is_stalled P.moves c d ≡ false
    other_P c d at ne = on (cases_Bool (is_list d.kind))
      where
        on : (is_list d.kind ≡ true) ⊎ (is_list d.kind ≡ false) → is_stalled P.moves c d ≡ false
        on (inr f) = single_not P.moves c d f
        on (inl list) =
            let closed = a.others c d at list ne in
            let stands = other_stands c closed.0 closed.1 in
            let same = ap (λ xs. slice_get xs c) issued_same in
            complete_unstalled P.moves c d (same ∙ at) list (λ kept. same_read r frames Before orders D j M front describes shown p low_p c stands ∙ unmoved_empty K.moves c d (few c d at) list kept)
            (complete_there r frames Before orders D j M front describes shown p low_p c same closed.0 stands)

    same_stall : (c : ℕ) (d : Command) → slice_get K.moves.issued c ≡ Some d → stall_of P.moves c d ≡ stall_of K.moves c d
    same_stall c d at = on (cases_eq c a.cmd)
      where
        on : (c ≡ a.cmd) ⊎ (c ≢ a.cmd) → stall_of P.moves c d ≡ stall_of K.moves c d
        on (inr ne) = none_both (stall_of P.moves c d) (stall_of K.moves c d) (other_P c d at ne) (other_K c d at ne)
        on (inl e) =
            let q : d ≡ a.command = some_same d a.command (sym at ∙ ap (slice_get K.moves.issued) e ∙ a.is) in
            ap (λ c. stall_of P.moves c d) e ∙ ap (stall_of P.moves a.cmd) q ∙ own_same ∙ sym (ap (λ c. stall_of K.moves c d) e ∙ ap (stall_of K.moves a.cmd) q)

    -- an acknowledgement finds the same stalls
    same_stalls : (tag : ℕ) → stalls_of_tag P.moves tag ≡ stalls_of_tag K.moves tag
    unfolding stalls_of_tag
    same_stalls tag =
        ap (λ f. filter_map f (range_with_len 0 (length P.moves.issued))) (fun_ext each)
        ∙ ap (λ (xs : List Command). filter_map (stall_of_tag K.moves tag) (range_with_len 0 (length xs))) issued_same
      where
        on : (c : ℕ) (o : Option Command) → slice_get K.moves.issued c ≡ o → option_and_then (λ (d : Command). cond (d.tag == tag) (stall_of P.moves c d) None) o ≡ option_and_then (λ (d : Command). cond (d.tag == tag) (stall_of K.moves c d) None) o
        on c None at = refl
        on c (Some d) at = ap (λ s. cond (d.tag == tag) s None) (same_stall c d at)

        each : (c : ℕ) → stall_of_tag P.moves tag c ≡ stall_of_tag K.moves tag c
        each c = ap (λ xs. option_and_then (λ (d : Command). cond (d.tag == tag) (stall_of P.moves c d) None) (slice_get xs c)) issued_same ∙ on c (slice_get K.moves.issued c) refl

    no_others : (m : Moves) → m.issued ≡ K.moves.issued → ((c : ℕ) (d : Command) → slice_get K.moves.issued c ≡ Some d → c ≢ a.cmd → is_stalled m c d ≡ false) → (b : ℕ) → b ≢ a.cmd → is_stalled_number m b ≡ false
    no_others m same none b ne = ap (λ xs. option_map_or (is_stalled m b) (slice_get xs b) false) same ∙ on (slice_get K.moves.issued b) refl
      where
        on : (o : Option Command) → slice_get K.moves.issued b ≡ o → option_map_or (is_stalled m b) o false ≡ false
        on None at = refl
        on (Some d) at = none b d at ne

    own_P : is_stalled P.moves a.cmd a.command ≡ true
    own_P = ap is_some own_same ∙ a.stalled

    at_P : slice_get P.moves.issued a.cmd ≡ Some a.command
    at_P = ap (λ xs. slice_get xs a.cmd) issued_same ∙ a.is

    others_P : (b : ℕ) → b ≢ a.cmd → is_stalled_number P.moves b ≡ false
    others_P = no_others P.moves issued_same other_P

    groups_K : stalled_groups K.moves ≡ 2 ^ a.command.tag
    groups_K = stalled-one K.moves a.cmd a.command a.is a.stalled (no_others K.moves refl other_K)

    groups_P : stalled_groups P.moves ≡ 2 ^ a.command.tag
    groups_P = stalled-one P.moves a.cmd a.command at_P own_P others_P

    -- behind an acknowledgement of its tag nothing is stalled
    none_left : (tag : ℕ) → tag ≡ a.command.tag → stalled_groups (with_resumed P.moves (stalls_of_tag P.moves tag)) ≡ 0
    none_left tag named = none_stalled (with_resumed P.moves (stalls_of_tag P.moves tag)) (λ b. on b (cases_eq b a.cmd))
      where
        other : (b : ℕ) → b ≢ a.cmd → (o : Option Command) → slice_get K.moves.issued b ≡ o → option_map_or (is_stalled (with_resumed P.moves (stalls_of_tag P.moves tag)) b) o false ≡ false
        other b ne None at = refl
        other b ne (Some d) at = still_not P.moves (stalls_of_tag P.moves tag) b d (other_P b d at ne)

        on : (b : ℕ) → (b ≡ a.cmd) ⊎ (b ≢ a.cmd) → is_stalled_number (with_resumed P.moves (stalls_of_tag P.moves tag)) b ≡ false
        on b (inr ne) = ap (λ xs. option_map_or (is_stalled (with_resumed P.moves (stalls_of_tag P.moves tag)) b) (slice_get xs b) false) issued_same ∙ other b ne (slice_get K.moves.issued b) refl
        on b (inl e) =
            ap (is_stalled_number (with_resumed P.moves (stalls_of_tag P.moves tag))) e
            ∙ number_stalled (with_resumed P.moves (stalls_of_tag P.moves tag)) a.cmd a.command at_P
            ∙ resumed_not P.moves a.cmd tag a.command at_P (sym named) own_P

-- ---- the other two laws

module _ (r : Recorded) (rec : IsRecorded r) (frames : HasFrames r) (faultless : IsFaultless r) (Before : ℕ → ℕ → Type 0) (orders : Orders Before r) (handles : HandlesOne Before r) where
  pub instructions_see : InstructionsSee Before r
  instructions_see D j M p d front describes shown bytes step_is made = on d made
    where
      low_p : p < count_of r
      low_p = maker-low r rec faultless j p front.low (ap maker step_is)

      status_same : (read : ReadsAt r p j) → (spe_in M p).channels.stalls ≡ (spe_before r p j).channels.stalls
      status_same read =
          let a = at_read r rec frames faultless Before orders handles j p front.low low_p read in
          let free = unowed r Before handles j p front.low low_p read in
          stalls_P r rec frames faultless Before orders D j M p front describes shown low_p step_is
          ∙ ap (λ b. cond b 0 (stalled_groups (spe_in M p).moves)) free
          ∙ groups_P r rec frames faultless Before orders D j M p front describes shown low_p step_is a
          ∙ sym (groups_K r rec frames faultless Before orders D j M p front describes shown low_p step_is a)
          ∙ sym (stalls_K r rec frames faultless Before orders D j M p front describes shown low_p step_is ∙ ap (λ b. cond b 0 (stalled_groups (spe_before r p j).moves)) free)

      on : (d : Did) → exec_deed (lines_of (r.state j).memory) (spe_before r p j) ≡ Some d → SeesRest (spe_before r p j) (spe_in M p) d
      on (Ends status x) e = tt
      on (Goes x Plain) e = tt
      on (Goes x (SetParams params)) e = tt
      on (Goes x (SetMask mask)) e = tt
      on (Goes x (TakeSignal mask)) e = tt
      on (Goes x (LeaveEvents mask)) e = tt
      on (Goes x (AskTags how)) e = tt
      on (Goes x (TakeTags t)) e = tt
      on (Goes x (TakeStalls bits)) e =
          let f = exec-finds (lines_of (r.state j).memory) (spe_before r p j) (Goes x (TakeStalls bits)) e in
          status_same (record { step = step_is; register = f.2.0; asks_is = f.2.1 }) ∙ sym f.0
      on (Goes x TakeAtomic) e = tt
      on (Goes x TakeValue) e = tt
      on (Goes x (Queue number d)) e = tt
      on (Goes x (FillSlot a)) e = tt
      on (Goes x (Resume tag stalls)) e =
          let f = exec-finds (lines_of (r.state j).memory) (spe_before r p j) (Goes x (Resume tag stalls)) e in
          let a = at_ack r rec frames faultless Before orders handles j p front.low low_p tag step_is f.1 in
          same_stalls r rec frames faultless Before orders D j M p front describes shown low_p step_is a.alone tag ∙ sym f.0
      on (Goes x (PutValue value)) e = tt
      on (Goes x (PutInterrupt value)) e = tt

  pub instructions_leave : InstructionsLeave Before r
  instructions_leave D j M p d front describes shown bytes step_is made made_P = on d made made_P
    where
      low_p : p < count_of r
      low_p = maker-low r rec faultless j p front.low (ap maker step_is)

      on : (d : Did) → exec_deed (lines_of (r.state j).memory) (spe_before r p j) ≡ Some d → exec_deed (lines_of M.memory) (spe_in M p) ≡ Some d → StallsRest (spe_in M p) d
      on (Ends status x) e g = tt
      on (Goes x Plain) e g = tt
      on (Goes x (SetParams params)) e g = tt
      on (Goes x (SetMask mask)) e g = tt
      on (Goes x (TakeSignal mask)) e g = tt
      on (Goes x (LeaveEvents mask)) e g = tt
      on (Goes x (AskTags how)) e g = tt
      on (Goes x (TakeTags t)) e g = tt
      on (Goes x (TakeStalls bits)) e g = tt
      on (Goes x TakeAtomic) e g = tt
      on (Goes x TakeValue) e g = tt
      on (Goes x (Queue number d)) e g = tt
      on (Goes x (FillSlot a)) e g = tt
      on (Goes x (Resume tag stalls)) e g =
          let f = exec-finds (lines_of (r.state j).memory) (spe_before r p j) (Goes x (Resume tag stalls)) e in
          let h = exec-finds (lines_of M.memory) (spe_in M p) (Goes x (Resume tag stalls)) g in
          let a = at_ack r rec frames faultless Before orders handles j p front.low low_p tag step_is f.1 in
          stalls_P r rec frames faultless Before orders D j M p front describes shown low_p step_is
          ∙ ap (λ b. cond b 0 (stalled_groups (spe_in M p).moves)) a.due
          ∙ sym (none_left r rec frames faultless Before orders D j M p front describes shown low_p step_is a.alone tag a.named)
          ∙ ap (λ ss. stalled_groups (with_resumed (spe_in M p).moves ss)) (sym h.0)
      on (Goes x (PutValue value)) e g = tt
      on (Goes x (PutInterrupt value)) e g = tt
