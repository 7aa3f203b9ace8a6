-- An instruction, in another order.
use Rattle.std.proofs.Common.{◌≡◌, ℕ, suc, ◌<◌, ◌≤◌, ◌/◌, refl, sym, ◌∙◌, ap, subst, arith, Bool, true, false, List, [], ◌∷◌, ◌++◌, length, Option, Some, None, cond, inl, inr}
use Rattle.std.specs.Prelude.{slice_get, ◌==◌, ◌&&◌, not, nat_lt, option_and_then, IsBitSet}
use Rattle.std.specs.List.{range_with_len}
use Rattle.std.specs.Option.{option_map, option_map_or}
use Rattle.std.proofs.lemmas.Bool.{eq-eqb, false≢true, lt-ltb, cases_lt, cases_order}
use Rattle.std.proofs.lemmas.Bool.Decides.{nat_tests}
use Rattle.cell_base.specs.declared.steps.ChannelOp.TheVariants.{Count}
use Rattle.cell_base.specs.declared.steps.Step.TheVariants.{Exec}
use Rattle.lock_lines.specs.Versions.{raised}
use Rattle.local_store.specs.Store.{word_at}
use Rattle.spu_decode.specs.declared.Instr.{Instr}
use Rattle.spu_decode.specs.Spelling.{instr_of}
use Rattle.spu_exec.specs.Meaning.{loaded_at, stored_at}
use Rattle.spu_regs.specs.Registers.{register}
use Rattle.cell_machine.specs.declared.effect.Span.{Span}
use Rattle.cell_machine.specs.declared.effect.Effect.{Effect}
use Rattle.cell_machine.specs.declared.status.Status.TheVariants.{Running, Stopped, Halted, BadWord, BadChannel, DmaFault}
use Rattle.cell_machine.specs.declared.effect.Note.TheVariants.{TagRead, Issue}
use Rattle.tag_groups.specs.declared.TagStatus.{TagStatus}
use Rattle.tag_groups.specs.declared.Tags.{Tags}
use Rattle.cell_machine.specs.Order.{is_step_of}
use Rattle.cell_machine.specs.Spe.{Spe, is_faulted}
use Rattle.cell_machine.specs.State.{State}
use Rattle.tag_groups.specs.Settle.{settled_tags}
use Rattle.cell_machine.specs.Memory.{MainMemory, lines_of}
use Rattle.cell_machine.specs.Moves.{busy, read_of, is_complete, outstanding}
use Rattle.mfc_command.specs.Order.{outstanding as outstanding_of}
use Rattle.cell_machine.proofs.Staying.{not_true}
use Rattle.reorder_laws.proofs.Rooms.{few_of}
use Rattle.cell_machine.specs.Exec.{exec, asks}
use Rattle.cell_machine.specs.Tags.{settled}
use Rattle.cell_machine.specs.Transfers.{Left}
use Rattle.cell_machine.specs.Next.{own, left}
use Rattle.cell_machine.specs.EffectLaws.{maker}
use Rattle.cell_machine.specs.Effects.{exec_effect, quad_in, in_store, instr, told}
use Rattle.cell_machine.specs.Written.{written_by, stored_by as bytes_stored, Given}
use Rattle.cell_machine.specs.Locks.{stored_by}
use Rattle.cell_machine.proofs.LocksRun.{map-is}
use Rattle.cell_machine.proofs.StepBytes.{own_effect}
use Rattle.cell_machine.proofs.Same.{some_same, get-within}
use Rattle.reorder_laws.specs.Silent.{silent, IsLike}
use Rattle.reorder_laws.specs.Deeds.{Did, Ends, Goes, Plain, SetParams, SetMask, AskTags, TakeTags, TakeStalls, TakeAtomic, TakeValue, Queue, FillSlot, Resume, PutValue, PutInterrupt, TakeSignal, LeaveEvents, did, exec_deed, note_of}
use Rattle.reorder_laws.proofs.Doing.{exec-does, exec-agrees, Agrees}
use Rattle.reorder_laws.proofs.SameDeeds.{exec-same_deed, exec-finds, exec-kinds}
use Rattle.reorder_laws.specs.Cuts.{has, IsFront, IsCut, Shows}
use Rattle.reorder_laws.specs.Recorded.{Recorded, IsRecorded, Program, program_of, listening_of, count_of, spe_in, spe_before, is_exec, is_elem, done_by, retired_by, element_by, element_at, asked, owes, stalled_groups, Locking, locking_of, is_atomic_step, is_atomic_note}
use Rattle.reorder_laws.specs.OrderLaws.{Orders}
use Rattle.reorder_laws.specs.Frames.{HasFrames, IsFaultless}
use Rattle.reorder_laws.specs.Described.{Describes, DescribesSpe}
use Rattle.reorder_laws.specs.Steps.{HasSameBytes, MakesStep}
use Rattle.reorder_laws.specs.Laws.{InstructionsSee, InstructionsLeave, SeesRest, StallsRest, AtomicsChain}
use Rattle.reorder_laws.proofs.Cuts.{cut_front, cut_step, shows_skip, shows_step, shown_at, same_look}
use Rattle.mfc_command.specs.declared.command.Command.{Command}
use Rattle.reorder_laws.specs.SameDeeds.{did_kind, Found, LooksSame}
use Rattle.reorder_laws.specs.Facts.{RequestsAll, HasTags, QueuesUnasked, QueuesHaveRoom, HasRoomBefore, HearsNothing}
use Rattle.reorder_laws.specs.OrderedLaws.{BoxesFit}
use Rattle.reorder_laws.proofs.InstructionBoxes.{boxes_after, value_seen, room_seen}
use Rattle.reorder_laws.proofs.After.{map_same, get_in}
use Rattle.reorder_laws.proofs.Ending.{asked_frame, owes_frame}
use Rattle.reorder_laws.proofs.InstructionTags.{asked_by, asked_next, owes_by, owes_next, tags_of}
use Rattle.reorder_laws.proofs.CommandSteps.{mask_kept}
use Rattle.reorder_laws.proofs.Making.{IsOwn, is_own, made_in}
use Rattle.reorder_laws.proofs.SettledFacts.{exec_is}
use Rattle.reorder_laws.proofs.Tagging.{status_late}
use Rattle.reorder_laws.proofs.Runs.{has_below}
use Rattle.reorder_laws.proofs.Commands.{complete_there, no_step, elem_of, below_range, grown_to}
use Rattle.std.proofs.lemmas.List.{length-append}
use Rattle.reorder_laws.proofs.Fresh.{none_read, groups_fresh}

-- ---- what a deed does to the program's parts, and that it leaves the lists of the flow controller

program_same : (d : Did) (P K : Spe) → program_of P ≡ program_of K → program_of (did d P) ≡ program_of (did d K)
program_same (Ends status x) P K h = ap (λ (g : Program). record g { status = status; pc = x.pc; registers = x.registers }) h
program_same (Goes x Plain) P K h = ap (λ (g : Program). record g { pc = x.pc; registers = x.registers }) h
program_same (Goes x (SetParams params)) P K h = ap (λ (g : Program). record g { pc = x.pc; registers = x.registers; params = params }) h
program_same (Goes x (SetMask mask)) P K h = ap (λ (g : Program). record g { pc = x.pc; registers = x.registers; mask = mask }) h
program_same (Goes x (TakeSignal r)) P K h = ap (λ (g : Program). record g { pc = x.pc; registers = x.registers }) h
program_same (Goes x (LeaveEvents events)) P K h = ap (λ (g : Program). record g { pc = x.pc; registers = x.registers }) h
program_same (Goes x (AskTags how)) P K h = ap (λ (g : Program). record g { pc = x.pc; registers = x.registers }) h
program_same (Goes x (TakeTags t)) P K h = ap (λ (g : Program). record g { pc = x.pc; registers = x.registers }) h
program_same (Goes x (TakeStalls bits)) P K h = ap (λ (g : Program). record g { pc = x.pc; registers = x.registers }) h
program_same (Goes x TakeAtomic) P K h = ap (λ (g : Program). record g { pc = x.pc; registers = x.registers }) h
program_same (Goes x TakeValue) P K h = ap (λ (g : Program). record g { pc = x.pc; registers = x.registers }) h
program_same (Goes x (Queue number d)) P K h = ap (λ (g : Program). record g { pc = x.pc; registers = x.registers; issued = g.issued ++ d ∷ [] }) h
program_same (Goes x (FillSlot a)) P K h = ap (λ (g : Program). record g { pc = x.pc; registers = x.registers }) h
program_same (Goes x (Resume tag stalls)) P K h = ap (λ (g : Program). record g { pc = x.pc; registers = x.registers; resumed = g.resumed ++ stalls }) h
program_same (Goes x (PutValue value)) P K h = ap (λ (g : Program). record g { pc = x.pc; registers = x.registers }) h
program_same (Goes x (PutInterrupt value)) P K h = ap (λ (g : Program). record g { pc = x.pc; registers = x.registers }) h

record KeepsLists (P Q : Spe) : Type 0 where
  read : Q.moves.read ≡ P.moves.read
  done : Q.moves.done ≡ P.moves.done
  retired : Q.moves.retired ≡ P.moves.retired

keeps_lists : (d : Did) (P : Spe) → KeepsLists P (did d P)
keeps_lists (Ends status x) P = record { read = refl; done = refl; retired = refl }
keeps_lists (Goes x Plain) P = record { read = refl; done = refl; retired = refl }
keeps_lists (Goes x (SetParams params)) P = record { read = refl; done = refl; retired = refl }
keeps_lists (Goes x (SetMask mask)) P = record { read = refl; done = refl; retired = refl }
keeps_lists (Goes x (TakeSignal mask)) P = record { read = refl; done = refl; retired = refl }
keeps_lists (Goes x (LeaveEvents mask)) P = record { read = refl; done = refl; retired = refl }
keeps_lists (Goes x (AskTags how)) P = record { read = refl; done = refl; retired = refl }
keeps_lists (Goes x (TakeTags t)) P = record { read = refl; done = refl; retired = refl }
keeps_lists (Goes x (TakeStalls bits)) P = record { read = refl; done = refl; retired = refl }
keeps_lists (Goes x TakeAtomic) P = record { read = refl; done = refl; retired = refl }
keeps_lists (Goes x TakeValue) P = record { read = refl; done = refl; retired = refl }
keeps_lists (Goes x (Queue number d)) P = record { read = refl; done = refl; retired = refl }
keeps_lists (Goes x (FillSlot a)) P = record { read = refl; done = refl; retired = refl }
keeps_lists (Goes x (Resume tag stalls)) P = record { read = refl; done = refl; retired = refl }
keeps_lists (Goes x (PutValue value)) P = record { read = refl; done = refl; retired = refl }
keeps_lists (Goes x (PutInterrupt value)) P = record { read = refl; done = refl; retired = refl }

-- ---- the spans and the written bytes, by the store, the PC and the registers

abbrev reads_of : ℕ → List ℕ → ℕ → List (List ℕ) → Span
reads_of p store pc registers = quad_in p (option_and_then (λ (i : Instr). loaded_at i.row i.imm pc (register registers i.ra) (register registers i.rb)) (instr_of (word_at store pc)))

abbrev writes_of : ℕ → List ℕ → ℕ → List (List ℕ) → Span
writes_of p store pc registers = quad_in p (option_and_then (λ (i : Instr). stored_at i.row i.imm pc (register registers i.ra) (register registers i.rb)) (instr_of (word_at store pc)))

abbrev bytes_of_instr : List (List ℕ) → ℕ → Option Instr → List ℕ
bytes_of_instr registers pc None = []
bytes_of_instr registers pc (Some i) = option_map_or (λ at. register registers i.rt) (stored_at i.row i.imm pc (register registers i.ra) (register registers i.rb)) []

abbrev given_of : List ℕ → ℕ → List (List ℕ) → List ℕ
given_of store pc registers = bytes_of_instr registers pc (instr_of (word_at store pc))

stored_is : (P : Spe) (o : Option Instr) → bytes_stored P o ≡ bytes_of_instr P.registers P.pc o
stored_is P None = refl
stored_is P (Some i) = refl

three : {X : Type 0} (f : List ℕ → ℕ → List (List ℕ) → X) (P K : Spe) → P.store ≡ K.store → P.pc ≡ K.pc → P.registers ≡ K.registers → f P.store P.pc P.registers ≡ f K.store K.pc K.registers
three f P K a b c = ap (λ s. f s P.pc P.registers) a ∙ ap (λ n. f K.store n P.registers) b ∙ ap (f K.store K.pc) c

exec_wrote : (M : State) (p : ℕ) (P : Spe) → slice_get M.spes p ≡ Some P → written_by M (Exec p) ≡ Given (given_of P.store P.pc P.registers)
unfolding written_by
exec_wrote M p P at = ap (λ o. Given (option_map_or (λ (P : Spe). bytes_stored P (instr P)) o [])) at ∙ ap Given (stored_is P (instr P))

pub range_is : (j i : ℕ) → has (range_with_len 0 j) i ≡ nat_lt i j
range_is j i = elim (cases_lt i j) [
  | inl less ↦ has_below j i less ∙ sym (lt-ltb i j less)
  | inr more ↦ not_so (has (range_with_len 0 j) i) (λ h. let l = below_range j i h in omega (arith, l, more)) ∙ sym (ge_not i j more)
]
  where
    ge_not : (i j : ℕ) → j ≤ i → nat_lt i j ≡ false
    ge_not i j h = grind (arith, nat_tests)

    not_so : (b : Bool) → (b ≡ true → ⊥) → b ≡ false
    not_so true h = absurd (h refl)
    not_so false h = refl

both_agree : (p : ℕ) (K : Spe) (o : Option Spe) (u : Option Did) (Q : Spe) (d : Did) → o ≡ Some Q → u ≡ Some d → Agrees p K (λ Q. told p K Q (asks K)) o u → (Q ≡ did d K) × (told p K Q (asks K) ≡ note_of p d)
both_agree p K o u Q d e f h = subst (λ u. Agrees p K (λ Q. told p K Q (asks K)) (Some Q) u) f (subst (λ o. Agrees p K (λ Q. told p K Q (asks K)) o u) e h)

module _ (r : Recorded) (rec : IsRecorded r) (frames : HasFrames r) (Before : ℕ → ℕ → Type 0) (orders : Orders Before r) (see : InstructionsSee Before r) (leave : InstructionsLeave Before r) (requests : RequestsAll r) (tags : HasTags r) (unasked : QueuesUnasked r) (faultless : IsFaultless r) (chain : AtomicsChain Before r) (fit : BoxesFit r) (room : QueuesHaveRoom Before r)
    (counts : (j p rt ch : ℕ) → j < r.size → p < count_of r → r.step j ≡ Exec p → asks (spe_before r p j) ≡ Some (Count rt ch) → ⊥) (hears : HearsNothing r)
    (D : List ℕ) (j : ℕ) (M : State) (p : ℕ) (front : IsFront Before r.size D j) (describes : Describes r D M) (shown : Describes r (range_with_len 0 j) (r.state j)) (bytes : HasSameBytes M (r.state j)) (step_is : r.step j ≡ Exec p) where
  abbrev K : Spe
  K = spe_before r p j

  abbrev P : Spe
  P = spe_in M p

  abbrev m : MainMemory
  m = (r.state j).memory

  abbrev own_step : IsOwn r j p
  own_step = is_own r rec frames j front.low p (ap (λ s. maker s) step_is)

  low_p : p < count_of r
  low_p = own_step.low

  of_P : DescribesSpe r p D P
  of_P = describes.spes p low_p

  abbrev execs : ℕ → Bool
  execs i = is_exec p (r.step i)

  -- D has come up to j in the processor's instructions
  cut : IsCut r.size execs D j
  cut =
      cut_front r.size Before execs D j front (λ i less h. orders.program i j p less front.low (exec_is p (r.step i) h) step_is)
      (λ i above low h. orders.program j i p above low step_is (exec_is p (r.step i) h))

  program_here : program_of P ≡ program_of K
  program_here =
      shown_at r.size execs (λ x. program_of (spe_before r p x)) (λ i low out. frames.program i p low low_p out) D j (program_of P) (let l = front.low in omega (arith, l)) cut
      record { place = of_P.program.place; within = of_P.program.within; cut = of_P.program.cut; same = of_P.program.program }

  -- ---- the deed

  abbrev made : (Q : Spe) × (exec (lines_of m) K ≡ Some Q) × (left m Q ≡ own_step.left)
  made = map-is (left m) (exec (lines_of m) K) own_step.left (ap (λ s. own m s K) (sym step_is) ∙ own_step.owns)

  abbrev deed : (d : Did) × (exec_deed (lines_of m) K ≡ Some d) × (did d K ≡ made.0)
  deed = map-is (λ d. did d K) (exec_deed (lines_of m) K) made.0 (sym (exec-does (lines_of m) K) ∙ made.1)

  after_K : IsLike (spe_before r p (suc j)) (settled (did deed.0 K))
  after_K = own_step.after ∙ ap (λ (x : Left). silent (settled x.spe)) (sym made.2) ∙ ap (λ Q. silent (settled Q)) (sym deed.2)

  effect_K : exec_effect p K made.0 ≡ r.effect j
  effect_K = some_same _ _ (sym (ap (option_map (exec_effect p K)) made.1) ∙ ap (λ s. own_effect (length (r.state j).spes) p m s K) (sym step_is) ∙ own_step.effect)

  note_K : (r.effect j).note ≡ note_of p deed.0
  note_K = sym (ap (λ (e : Effect). e.note) effect_K) ∙ (both_agree p K (exec (lines_of m) K) (exec_deed (lines_of m) K) made.0 deed.0 made.1 deed.1 (exec-agrees p (lines_of m) K)).1

  -- ---- its tags

  asked_here : asked r p of_P.program.place ≡ asked r p j
  asked_here = same_look r.size execs (asked r p) (λ i low out. asked_frame r p i out) D of_P.program.place j of_P.program.within (let l = front.low in omega (arith, l)) of_P.program.cut cut

  tags_P : P.tags ≡ settled_tags (busy P.moves) (length P.moves.issued) (record { mask = P.tags.mask; request = asked r p j; status = None })
  tags_P = of_P.program.tags ∙ ap (λ q. settled_tags (busy P.moves) (length P.moves.issued) (record { mask = P.tags.mask; request = q; status = None })) asked_here

  tags_small : (c : ℕ) (d : Command) → slice_get P.moves.issued c ≡ Some d → d.tag < 32
  tags_small c d at = tags of_P.program.place p c d of_P.program.within low_p (sym (ap (λ (g : Program). slice_get g.issued c) of_P.program.program) ∙ at)

  -- ---- a tag status that is read

  of_K : DescribesSpe r p (range_with_len 0 j) K
  of_K = shown.spes p low_p

  cut_K : IsCut r.size execs (range_with_len 0 j) j
  cut_K i low h = range_is j i

  tags_K : K.tags ≡ settled_tags (busy K.moves) (length K.moves.issued) (record { mask = K.tags.mask; request = asked r p j; status = None })
  tags_K =
      of_K.program.tags
      ∙ ap (λ q. settled_tags (busy K.moves) (length K.moves.issued) (record { mask = K.tags.mask; request = q; status = None }))
      (same_look r.size execs (asked r p) (λ i low out. asked_frame r p i out) (range_with_len 0 j) of_K.program.place j of_K.program.within (let l = front.low in omega (arith, l)) of_K.program.cut cut_K)

  issued_same : P.moves.issued ≡ K.moves.issued
  issued_same = ap (λ (g : Program). g.issued) program_here

  -- what was complete in K, of a group that the status shows, is complete in P
  complete_seen : (t : TagStatus) → (r.effect j).note ≡ TagRead t.groups t.issued → t.issued ≡ length K.moves.issued → (c : ℕ) (d : Command) → slice_get K.moves.issued c ≡ Some d → IsBitSet t.groups d.tag → is_complete K.moves c ≡ true → is_complete P.moves c ≡ true
  complete_seen t note count c d at bit complete =
      complete_there r frames Before orders D j M front describes shown p low_p c (ap (λ xs. slice_get xs c) issued_same) complete record {
        past = λ i less h. let l = front.low in
            front.past i (omega (arith, l, less)) (orders.tag_seen i j p c t.groups t.issued d less front.low h step_is note at bit (let w = get-within K.moves.issued c d at in omega (arith, w, count)));
        later = λ i more low h. absurd (no_step r frames p low_p c j i more low complete (ap (is_step_of p c) (elem_of p c (r.step i) h) ∙ rw (eq-eqb p p refl, eq-eqb c c refl) refl));
        resumed = λ i less ack. let l = front.low in front.past i (omega (arith, l, less)) (orders.program i j p less front.low ack.step step_is);
      }

  tags_seen : (t : TagStatus) → (r.effect j).note ≡ TagRead t.groups t.issued → K.tags.status ≡ Some t → P.tags.status ≡ Some t
  tags_seen t note there =
      ap (λ (t : Tags). t.status) tags_P
      ∙ status_late K.moves P.moves K.tags.mask P.tags.mask (asked r p j) t (λ q e. requests j p q (let l = front.low in omega (arith, l)) low_p e) issued_same small_K tags_small
      (complete_seen t note) (sym (ap (λ (t : Tags). t.status) tags_K) ∙ there)
    where
      small_K : (c : ℕ) (d : Command) → slice_get K.moves.issued c ≡ Some d → d.tag < 32
      small_K c d at = tags j p c d (let l = front.low in omega (arith, l)) low_p at

  -- ---- the slot, the atomic status and the reservation

  abbrev lock_step : ℕ → Bool
  lock_step i = is_atomic_step p (r.step i) (r.effect i).note

  lock_here : lock_step j ≡ is_atomic_note (note_of p deed.0)
  lock_here = ap (λ s. is_atomic_step p s (r.effect j).note) step_is ∙ ap (λ b. b && is_atomic_note (r.effect j).note) (eq-eqb p p refl) ∙ ap is_atomic_note note_K

  lock_cut : is_atomic_note (note_of p deed.0) ≡ true → IsCut r.size lock_step D j
  lock_cut t =
      cut_front r.size Before lock_step D j front (λ i less h. chain i j p less front.low h (lock_here ∙ t)) (λ i above low h. chain j i p above low (lock_here ∙ t) h)

  locking_here : is_atomic_note (note_of p deed.0) ≡ true → locking_of P ≡ locking_of K
  locking_here t =
      shown_at r.size lock_step (λ x. locking_of (spe_before r p x)) (λ i low out. frames.locking i p low low_p out) D j (locking_of P) (let l = front.low in omega (arith, l)) (lock_cut t) of_P.locking

  abbrev Locks : Did → Type 0
  Locks d = Shows r.size lock_step (λ x. locking_of (spe_before r p x)) (D ++ j ∷ []) (locking_of (did d P))

  locks_skip : (d : Did) → deed.0 ≡ d → is_atomic_note (note_of p d) ≡ false → locking_of (did d P) ≡ locking_of P → Locks d
  locks_skip d e out same = shows_skip r.size lock_step (λ x. locking_of (spe_before r p x)) D j (locking_of P) (locking_of (did d P)) (lock_here ∙ ap (λ d. is_atomic_note (note_of p d)) e ∙ out) same of_P.locking

  locks_step : (d : Did) → deed.0 ≡ d → is_atomic_note (note_of p d) ≡ true → (locking_of P ≡ locking_of K → locking_of (did d P) ≡ locking_of (did d K)) → Locks d
  locks_step d e on_ same =
      let t = ap (λ d. is_atomic_note (note_of p d)) e ∙ on_ in
      shows_step r.size lock_step (λ x. locking_of (spe_before r p x)) D j (locking_of (did d P)) front.low (lock_cut t)
      (same (locking_here t) ∙ ap (λ d. locking_of (did d K)) (sym e) ∙ ap locking_of (sym after_K))

  locks : (d : Did) → deed.0 ≡ d → Locks d
  locks (Ends status x) e = locks_skip (Ends status x) e refl refl
  locks (Goes x Plain) e = locks_skip (Goes x Plain) e refl refl
  locks (Goes x (SetParams params)) e = locks_skip (Goes x (SetParams params)) e refl refl
  locks (Goes x (SetMask mask)) e = locks_skip (Goes x (SetMask mask)) e refl refl
  locks (Goes x (TakeSignal mask)) e = locks_skip (Goes x (TakeSignal mask)) e refl refl
  locks (Goes x (LeaveEvents mask)) e = locks_skip (Goes x (LeaveEvents mask)) e refl refl
  locks (Goes x (AskTags how)) e = locks_skip (Goes x (AskTags how)) e refl refl
  locks (Goes x (TakeTags t)) e = locks_skip (Goes x (TakeTags t)) e refl refl
  locks (Goes x (TakeStalls bits)) e = locks_skip (Goes x (TakeStalls bits)) e refl refl
  locks (Goes x TakeAtomic) e = locks_step (Goes x TakeAtomic) e refl (λ h. ap (λ (l : Locking). record l { atomic = None }) h)
  locks (Goes x TakeValue) e = locks_skip (Goes x TakeValue) e refl refl
  locks (Goes x (Queue number d)) e = locks_skip (Goes x (Queue number d)) e refl refl
  locks (Goes x (FillSlot a)) e = locks_step (Goes x (FillSlot a)) e refl (λ h. ap (λ (l : Locking). record l { slot = Some a }) h)
  locks (Goes x (Resume tag stalls)) e = locks_skip (Goes x (Resume tag stalls)) e refl refl
  locks (Goes x (PutValue value)) e = locks_skip (Goes x (PutValue value)) e refl refl
  locks (Goes x (PutInterrupt value)) e = locks_skip (Goes x (PutInterrupt value)) e refl refl

  -- ---- the signal registers and the event mask

  listens : (d : Did) → deed.0 ≡ d → listening_of (did d P) ≡ listening_of P
  listens (Ends status x) e = refl
  listens (Goes x Plain) e = refl
  listens (Goes x (SetParams params)) e = refl
  listens (Goes x (SetMask mask)) e = refl
  listens (Goes x (AskTags how)) e = refl
  listens (Goes x (TakeTags t)) e = refl
  listens (Goes x (TakeStalls bits)) e = refl
  listens (Goes x TakeAtomic) e = refl
  listens (Goes x TakeValue) e = refl
  listens (Goes x (Queue number d)) e = refl
  listens (Goes x (FillSlot a)) e = refl
  listens (Goes x (Resume tag stalls)) e = refl
  listens (Goes x (PutValue value)) e = refl
  listens (Goes x (PutInterrupt value)) e = refl
  listens (Goes x (TakeSignal r)) e = absurd (hears j p front.low low_p step_is (subst (Found K) e (exec-finds (lines_of m) K deed.0 deed.1)))
  listens (Goes x (LeaveEvents events)) e = absurd (hears j p front.low low_p step_is (subst (Found K) e (exec-finds (lines_of m) K deed.0 deed.1)))

  -- ---- the stall bits

  owes_here : owes r p of_P.program.place ≡ owes r p j
  owes_here = same_look r.size execs (owes r p) (λ i low out. owes_frame r p i out) D of_P.program.place j of_P.program.within (let l = front.low in omega (arith, l)) of_P.program.cut cut

  stalls_P : P.channels.stalls ≡ cond (owes r p j) 0 (stalled_groups P.moves)
  stalls_P = of_P.program.stalls ∙ ap (λ b. cond b 0 (stalled_groups P.moves)) owes_here

  -- nothing was read yet of a command that comes now
  unread : (number : ℕ) (d : Command) → (r.effect j).note ≡ Issue number d → number ≡ length K.moves.issued → read_of P.moves.read (length P.moves.issued) ≡ []
  unread number d note is =
      ap (λ k. read_of P.moves.read k) (ap length issued_same ∙ sym is) ∙ ap (λ xs. read_of xs number) of_P.read ∙ none_read r p number D none
    where
      is_of : (i : ℕ) → is_elem p number (r.step i) ≡ true → is_step_of p number (r.step i) ≡ true
      is_of i h = ap (is_step_of p number) (elem_of p number (r.step i) h) ∙ rw (eq-eqb p p refl, eq-eqb number number refl) refl

      none : (i : ℕ) → has D i ≡ true → is_elem p number (r.step i) ≡ true → ⊥
      none i t h = elim (cases_order i j) [
        | inl e ↦ false≢true (sym front.fresh ∙ sym (ap (has D) e) ∙ t)
        | inr (inl less) ↦
            let l = front.low in
            let x = frames.there i p number (describes.inside i t) low_p (is_of i h) in
            let w = get-within (spe_before r p i).moves.issued number x.0 x.1 in
            let g = grown_to r frames p low_p i j (omega (arith, less)) (omega (arith, l)) in
            let long = ap length g.1 ∙ length-append (spe_before r p i).moves.issued g.0 in
            omega (arith, w, long, is)
        | inr (inr above) ↦ front.future i (describes.inside i t) t (orders.issued j i p number d above (describes.inside i t) step_is note (is_of i h))
      ]

  stalls_by : (d : Did) → deed.0 ≡ d → StallsRest P d → (did d P).channels.stalls ≡ cond (owes_by (did_kind d) (owes r p j)) 0 (stalled_groups (did d P).moves)
  stalls_by (Ends status x) e h = stalls_P
  stalls_by (Goes x Plain) e h = stalls_P
  stalls_by (Goes x (SetParams params)) e h = stalls_P
  stalls_by (Goes x (SetMask mask)) e h = stalls_P
  stalls_by (Goes x (TakeSignal mask)) e h = stalls_P
  stalls_by (Goes x (LeaveEvents mask)) e h = stalls_P
  stalls_by (Goes x (AskTags how)) e h = stalls_P
  stalls_by (Goes x (TakeTags t)) e h = stalls_P
  stalls_by (Goes x (TakeStalls bits)) e h = refl
  stalls_by (Goes x TakeAtomic) e h = stalls_P
  stalls_by (Goes x TakeValue) e h = stalls_P
  stalls_by (Goes x (Queue number d)) e h = stalls_P ∙ ap (cond (owes r p j) 0) (sym (groups_fresh P.moves d (unread number d (note_K ∙ ap (note_of p) e) (subst (Found K) e (exec-finds (lines_of m) K deed.0 deed.1)).0)))
  stalls_by (Goes x (FillSlot a)) e h = stalls_P
  stalls_by (Goes x (Resume tag stalls)) e h = h
  stalls_by (Goes x (PutValue value)) e h = stalls_P
  stalls_by (Goes x (PutInterrupt value)) e h = stalls_P

  -- ---- room in the queue

  room_there : (number : ℕ) (d : Command) → (r.effect j).note ≡ Issue number d → number ≡ length K.moves.issued → length (outstanding P) < 16
  unfolding outstanding_of
  room_there number d note is =
      let h = room j p number d front.low low_p step_is note in
      let few = few_of (λ c. not (is_complete P.moves c)) h.unclosed 0 (length P.moves.issued) (λ b low high out. unclosed h b (omega (arith, high, is, ap length issued_same)) out) in
      omega (arith, few, h.few)
    where
      unclosed : (h : HasRoomBefore Before r j p number) (b : ℕ) → b < number → not (is_complete P.moves b) ≡ true → has h.unclosed b ≡ true
      unclosed h b less out = elim (h.closed b less) [
        | inl inside ↦ inside
        | inr closed ↦ absurd (false≢true (sym (not_true (is_complete P.moves b) out) ∙ complete_there r frames Before orders D j M front describes shown p low_p b (ap (λ xs. slice_get xs b) issued_same) closed.0 record {
          past = λ i less h. let l = front.low in front.past i (omega (arith, l, less)) (closed.1 i (omega (arith, l, less)) h);
          later = λ i more low h. absurd (no_step r frames p low_p b j i more low closed.0 (ap (is_step_of p b) (elem_of p b (r.step i) h) ∙ rw (eq-eqb p p refl, eq-eqb b b refl) refl));
          resumed = λ i less ack. let l = front.low in front.past i (omega (arith, l, less)) (orders.program i j p less front.low ack.step step_is);
        }))
      ]

  own_box : (k : ℕ) → ((p == p) && (k == k)) ≡ true
  own_box k = ap (λ b. b && (k == k)) (eq-eqb p p refl) ∙ eq-eqb k k refl

  -- all that it looks at
  looks : (d : Did) → deed.0 ≡ d → SeesRest K P d → LooksSame K P d
  looks (Ends Running x) e h = tt
  looks (Ends (Stopped code) x) e h = tt
  looks (Ends Halted x) e h = tt
  looks (Ends BadWord x) e h = tt
  looks (Ends BadChannel x) e h = tt
  looks (Ends (DmaFault kind) x) e h =
      false≢true (sym (faultless (suc j) p front.low low_p) ∙ ap (λ (Q : Spe). is_faulted Q.status) after_K ∙ ap (λ d. is_faulted (did d K).status) e)
  looks (Goes x Plain) e h = h
  looks (Goes x (SetParams params)) e h = h
  looks (Goes x (SetMask mask)) e h = h
  looks (Goes x (TakeSignal r)) e h = hears j p front.low low_p step_is (subst (Found K) e (exec-finds (lines_of m) K deed.0 deed.1))
  looks (Goes x (LeaveEvents events)) e h = hears j p front.low low_p step_is (subst (Found K) e (exec-finds (lines_of m) K deed.0 deed.1))
  looks (Goes x (AskTags how)) e h = h
  looks (Goes x (TakeTags t)) e h = tags_seen t (note_K ∙ ap (note_of p) e) (subst (Found K) e (exec-finds (lines_of m) K deed.0 deed.1)).0
  looks (Goes x (TakeStalls bits)) e h = h
  looks (Goes x TakeAtomic) e h = ap (λ (l : Locking). l.atomic) (locking_here (ap (λ d. is_atomic_note (note_of p d)) e))
  looks (Goes x TakeValue) e h = value_seen r rec frames faultless Before orders fit D j M p low_p front describes shown step_is deed.0 note_K after_K (Goes x TakeValue) e (own_box 0) refl
  looks (Goes x (Queue number d)) e h = (
    ap length issued_same ∙ sym (subst (Found K) e (exec-finds (lines_of m) K deed.0 deed.1)).0,
    room_there number d (note_K ∙ ap (note_of p) e) (subst (Found K) e (exec-finds (lines_of m) K deed.0 deed.1)).0,
  )
  looks (Goes x (FillSlot a)) e h = ap (λ (l : Locking). l.slot) (locking_here (ap (λ d. is_atomic_note (note_of p d)) e)) ∙ (subst (Found K) e (exec-finds (lines_of m) K deed.0 deed.1)).0
  looks (Goes x (Resume tag stalls)) e h = h
  looks (Goes x (PutValue value)) e h = room_seen r rec frames faultless Before orders fit D j M p low_p front describes shown step_is deed.0 note_K after_K 1 (omega arith) refl (Goes x (PutValue value)) e (own_box 1) refl
  looks (Goes x (PutInterrupt value)) e h = room_seen r rec frames faultless Before orders fit D j M p low_p front describes shown step_is deed.0 note_K after_K 2 (omega arith) refl (Goes x (PutInterrupt value)) e (own_box 2) refl

  lines_same : lines_of m ≡ lines_of M.memory
  lines_same = ap (λ bytes. length bytes / 128) (sym bytes.memory)

  deed_P : exec_deed (lines_of M.memory) P ≡ Some deed.0
  deed_P =
      ap (λ n. exec_deed n P) (sym lines_same)
      ∙ exec-same_deed (lines_of m) K P deed.0 (sym (ap (λ (g : Program). g.status) program_here)) (sym (ap (λ (g : Program). g.pc) program_here)) (sym (ap (λ (g : Program). g.registers) program_here)) (sym (bytes.stores p))
      (sym (ap (λ (g : Program). g.params) program_here)) (sym (ap (λ (g : Program). g.mask) program_here)) (λ rt ch. counts j p rt ch front.low low_p step_is) deed.1 (looks deed.0 refl (see D j M p deed.0 front describes shown bytes step_is deed.1))

  abbrev Q : Spe
  Q = did deed.0 P

  made_P : exec (lines_of M.memory) P ≡ Some Q
  made_P = exec-does (lines_of M.memory) P ∙ ap (option_map (λ d. did d P)) deed_P

  parts : StallsRest P deed.0
  parts = leave D j M p deed.0 front describes shown bytes step_is deed.1 deed_P

  tags_after : settled_tags (busy Q.moves) (length Q.moves.issued) Q.tags ≡ settled_tags (busy Q.moves) (length Q.moves.issued) (record { mask = Q.tags.mask; request = asked r p (suc j); status = None })
  tags_after =
      tags_of P (asked r p j) (λ q e. requests j p q (let l = front.low in omega (arith, l)) low_p e) tags_small tags_P deed.0 (exec-finds (lines_of M.memory) P deed.0 deed_P)
      (λ x n c e. unasked j p n c front.low low_p step_is (note_K ∙ ap (note_of p) e))
      ∙ ap (λ q. settled_tags (busy Q.moves) (length Q.moves.issued) (record { mask = Q.tags.mask; request = q; status = None }))
      (ap (λ mask. asked_by mask (did_kind deed.0) (asked r p j)) (ap (λ (g : Program). g.mask) program_here) ∙ sym (asked_next r p j deed.0 step_is (exec-kinds (lines_of m) K deed.0 deed.1)))

  masked : (X : Spe) → program_of (settled X) ≡ program_of X
  masked X = ap (λ mask. record (program_of X) { mask = mask }) (mask_kept (busy X.moves) (length X.moves.issued) X.tags)

  described : DescribesSpe r p (D ++ j ∷ []) (settled Q)
  described = record {
    program = record {
      place = suc j;
      within = front.low;
      cut = cut_step r.size execs D j cut;
      program = masked Q ∙ program_same deed.0 P K program_here ∙ sym (masked (did deed.0 K)) ∙ ap program_of (sym after_K);
      tags = tags_after
          ∙ ap (λ mask. settled_tags (busy Q.moves) (length Q.moves.issued) (record { mask = mask; request = asked r p (suc j); status = None })) (sym (mask_kept (busy Q.moves) (length Q.moves.issued) Q.tags));
      stalls = stalls_by deed.0 refl parts ∙ ap (λ b. cond b 0 (stalled_groups Q.moves)) (sym (owes_next r p j deed.0 step_is (exec-kinds (lines_of m) K deed.0 deed.1)));
    };
    read = map_same (element_at r p) D j Q.moves.read (ap (λ s. element_by p s (spe_before r p (suc j))) step_is) (lists.read ∙ of_P.read);
    done = map_same (λ i. done_by p (r.step i)) D j Q.moves.done (ap (done_by p) step_is) (lists.done ∙ of_P.done);
    retired = map_same (λ i. retired_by p (r.step i)) D j Q.moves.retired (ap (retired_by p) step_is) (lists.retired ∙ of_P.retired);
    elements = λ b. shows_skip r.size (λ i. is_elem p b (r.step i)) (λ x. read_of (spe_before r p x).moves.read b) D j (read_of P.moves.read b) (read_of Q.moves.read b) (ap (is_elem p b) step_is) (ap (λ xs. read_of xs b) lists.read) (of_P.elements b);
    locking = locks deed.0 refl;
    boxes = boxes_after r rec frames faultless Before orders fit D j M p low_p front describes shown step_is deed.0 note_K after_K;
    heard = listens deed.0 refl ∙ of_P.heard;
  }
    where
      lists : KeepsLists P Q
      lists = keeps_lists deed.0 P

  pub makes : MakesStep r D j M
  makes =
      made_in r rec frames j front.low p (ap (λ s. maker s) step_is) D M (left M.memory Q) (exec_effect p P Q) low_p describes
      (ap (λ s. own M.memory s P) step_is ∙ ap (option_map (left M.memory)) made_P)
      (ap (λ s. own_effect (length M.spes) p M.memory s P) step_is ∙ ap (option_map (exec_effect p P)) made_P)
      (record {
        fetch = ap (λ pc. in_store p pc 4) pc_same ∙ ap (λ (e : Effect). e.fetch) effect_K;
        reads = three (reads_of p) P K (bytes.stores p) pc_same registers_same ∙ ap (λ (e : Effect). e.reads) effect_K;
        writes = three (writes_of p) P K (bytes.stores p) pc_same registers_same ∙ ap (λ (e : Effect). e.writes) effect_K;
      })
      (ap (written_by M) step_is ∙ exec_wrote M p P (get_in M.spes p (omega (arith, low_p, describes.count))) ∙ ap Given (three given_of P K (bytes.stores p) pc_same registers_same)
      ∙ sym (exec_wrote (r.state j) p K (get_in (r.state j).spes p (omega (arith, low_p, shown.count)))) ∙ sym (ap (written_by (r.state j)) step_is))
      described refl
      (sym (ap (λ s. option_map_or (raised M.memory.versions) (stored_by (r.state j) s) M.memory.versions) step_is)) refl
    where
      pc_same : P.pc ≡ K.pc
      pc_same = ap (λ (g : Program). g.pc) program_here

      registers_same : P.registers ≡ K.registers
      registers_same = ap (λ (g : Program). g.registers) program_here
