-- An instruction is its deed.
use Rattle.std.proofs.Common.{◌≡◌, ℕ, refl, sym, ◌∙◌, ap, arith, List, [], ◌∷◌, length}
use Rattle.std.specs.Prelude.{Option, Some, None, is_some, slice_get, option_map, Bool, true, false, cond, not, ◌&&◌, Result, Ok, Err}
use Rattle.std.specs.Option.{option_map_or}
use Rattle.cell_base.specs.declared.steps.ChannelOp.{ChannelOp}
use Rattle.cell_base.specs.declared.steps.ChannelOp.TheVariants.{Read, Count, Write}
use Rattle.cell_channels.specs.Table.{way_of}
use Rattle.mfc_command.specs.declared.command.Order.{Order}
use Rattle.mfc_command.specs.declared.command.Order.TheVariants.{Queued, Atomic as InSlot}
use Rattle.mfc_command.specs.declared.command.DmaFault.{DmaFault as Fault}
use Rattle.mfc_command.specs.Check.{checked}
use Rattle.spu_decode.specs.declared.Instr.{Instr}
use Rattle.spu_decode.specs.Spelling.{instr_of}
use Rattle.spu_exec.specs.declared.flow.Flow.{Flow}
use Rattle.spu_exec.specs.declared.flow.Flow.TheVariants.{Next, Stop, Halt, Channel}
use Rattle.spu_exec.specs.Meaning.{meaning}
use Rattle.local_store.specs.Store.{word_at}
use Rattle.tag_groups.specs.declared.TagStatus.{TagStatus}
use Rattle.cell_machine.specs.declared.effect.Note.{Note}
use Rattle.cell_machine.specs.declared.effect.Note.TheVariants.{Nothing, Issue, AtomicIssue, TagRead, StallRead, Ack, AtomicRead, Put, Take, Ended, Signal}
use Rattle.cell_machine.specs.Spe.{Spe, is_running}
use Rattle.cell_machine.specs.Channels.{is_read, is_write, may_read, may_write, channel, read_by, read_status, read_atomic, read_inbound, given, written, commanded, issued_by, acknowledged}
use Rattle.cell_machine.specs.Exec.{exec, exec_instr, followed, op_of, asks, asked_by}
use Rattle.cell_machine.specs.Effects.{ends, told, told_issue}
use Rattle.cell_machine.proofs.Same.{get-last, get-past, some_same}
use Rattle.cell_machine.proofs.StepBytes.{none_is}
use Rattle.reorder_laws.specs.Deeds.{Flowed, Asked, Plain, SetParams, SetMask, AskTags, TakeTags, TakeStalls, TakeAtomic, TakeValue, Queue, FillSlot, Resume, PutValue, PutInterrupt, TakeSignal, LeaveEvents, Did, Ends, Goes, did, behind_first, note_of, gets, read_deed, order_deed, write_deed, channel_deed, flow_deed, instr_deed, exec_deed, ExecDoes, ExecTells}
use Rattle.reorder_laws.proofs.Ways.{reads-are, writes-are}

-- ---- what an instruction leaves and tells is what its deed leaves and tells

-- both are there or none is; f is what the state after it tells
abbrev pub Agrees : ℕ → Spe → (Spe → Note) → Option Spe → Option Did → Type 0
Agrees p P f None None = Unit {0}
Agrees p P f None (Some d) = ⊥
Agrees p P f (Some Q) None = ⊥
Agrees p P f (Some Q) (Some d) = (Q ≡ did d P) × (f Q ≡ note_of p d)

agrees_if : (p : ℕ) (P : Spe) (f : Spe → Note) (b : Bool) (x y : Option Spe) (u v : Option Did) → Agrees p P f x u → Agrees p P f y v → Agrees p P f (cond b x y) (cond b u v)
agrees_if p P f true x y u v g h = g
agrees_if p P f false x y u v g h = h

stays_on : (b : Bool) (n : Note) → cond (b && not b) Ended n ≡ n
stays_on true n = refl
stays_on false n = refl

-- and the first is of a test that is passed
agrees_when : (p : ℕ) (P : Spe) (f : Spe → Note) (b : Bool) (x y : Option Spe) (u v : Option Did) → (b ≡ true → Agrees p P f x u) → Agrees p P f y v → Agrees p P f (cond b x y) (cond b u v)
agrees_when p P f true x y u v g h = g refl
agrees_when p P f false x y u v g h = h

module _ (p lines : ℕ) (P : Spe) (run : is_running P.status ≡ true) where
  ended : (n : Note) → cond (is_running P.status && true) Ended n ≡ Ended
  ended n = rw run refl

  -- what goes on tells what it tells
  on : (n : Note) → cond (is_running P.status && not (is_running P.status)) Ended n ≡ n
  on n = stays_on (is_running P.status) n

  -- reads
  abbrev ReadAgrees : ℕ → ℕ → Type 0
  ReadAgrees rt ch = Agrees p P (λ Q. told p P Q (Some (Read rt ch))) (read_by P rt ch) (read_deed P rt ch)

  events_agree : (rt : ℕ) → ReadAgrees rt 0 × ReadAgrees rt 11
  unfolding read_by
  events_agree rt = ((refl, on Nothing), (refl, on Nothing))

  signals_agree : (rt : ℕ) → ReadAgrees rt 3 × ReadAgrees rt 4
  unfolding read_by
  signals_agree rt = ((refl, on (Signal p 1)), (refl, on (Signal p 2)))

  mask_agrees : (rt : ℕ) → ReadAgrees rt 12
  unfolding read_by
  mask_agrees rt = (refl, on Nothing)

  status_agrees : (rt : ℕ) (o : Option TagStatus) → Agrees p P (λ Q. cond (ends P Q) Ended (option_map_or (λ (t : TagStatus). TagRead t.groups t.issued) o Nothing)) (read_status P rt o) (option_map (λ (t : TagStatus). Goes (gets P rt t.groups) (TakeTags t)) o)
  status_agrees rt None = tt
  status_agrees rt (Some t) = (refl, on (TagRead t.groups t.issued))

  tags_agree : (rt : ℕ) → ReadAgrees rt 24
  unfolding read_by
  tags_agree rt = status_agrees rt P.tags.status

  stalls_agree : (rt : ℕ) → ReadAgrees rt 25
  unfolding read_by
  stalls_agree rt = (refl, on (StallRead P.channels.stalls))

  atomic_agrees : (rt : ℕ) (o : Option ℕ) → Agrees p P (λ Q. cond (ends P Q) Ended AtomicRead) (read_atomic P rt o) (option_map (λ status. Goes (gets P rt status) TakeAtomic) o)
  atomic_agrees rt None = tt
  atomic_agrees rt (Some status) = (refl, on AtomicRead)

  slot_agrees : (rt : ℕ) → ReadAgrees rt 27
  unfolding read_by
  slot_agrees rt = atomic_agrees rt P.channels.atomic

  inbound_agrees : (rt : ℕ) (xs : List ℕ) → P.inbound ≡ xs → Agrees p P (λ Q. cond (ends P Q) Ended (Take p 0)) (read_inbound P rt xs) (option_map (λ value. Goes (gets P rt value) TakeValue) (slice_get xs 0))
  inbound_agrees rt [] e = tt
  inbound_agrees rt (x ∷ xs) e = (sym (ap (λ l. given (record P { inbound = behind_first l }) rt x) e), on (Take p 0))

  box_agrees : (rt : ℕ) → ReadAgrees rt 29
  unfolding read_by
  box_agrees rt = inbound_agrees rt P.inbound refl

  read_agrees : (rt ch : ℕ) → is_read (way_of ch) ≡ true → ReadAgrees rt ch
  read_agrees rt ch way =
      let events = events_agree rt in
      let signals = signals_agree rt in
      reads-are (ReadAgrees rt) ch way events.0 signals.0 signals.1 events.1 (mask_agrees rt) (tags_agree rt) (stalls_agree rt) (slot_agrees rt) (box_agrees rt)

  -- writes
  order_agrees : (r : Result Order Fault) → Agrees p P (λ Q. cond (ends P Q) Ended (told_issue P Q)) (Some (issued_by P r)) (Some (order_deed P r))
  order_agrees (Ok (Queued d)) =
      (refl, on _ ∙ ap (λ o. option_map_or (Issue (length P.moves.issued)) o AtomicIssue) (get-last P.moves.issued d))
  order_agrees (Ok (InSlot a)) =
      (refl, on _ ∙ ap (λ o. option_map_or (Issue (length P.moves.issued)) o AtomicIssue) (get-past P.moves.issued (length P.moves.issued) (omega arith)))
  order_agrees (Err kind) = (refl, ended _)

  abbrev WriteAgrees : ℕ → ℕ → Type 0
  WriteAgrees value ch = Agrees p P (λ Q. told p P Q (Some (Write ch value))) (Some (written lines P ch value)) (Some (write_deed lines P ch value))

  command_agrees : (value : ℕ) → WriteAgrees value 21
  unfolding written commanded
  command_agrees value = order_agrees (checked P.channels.params value lines)

  masks_agree : (value : ℕ) → WriteAgrees value 1 × WriteAgrees value 2 × WriteAgrees value 22 × WriteAgrees value 23
  unfolding written
  masks_agree value = ((refl, on Nothing), (refl, on Nothing), (refl, on Nothing), (refl, on Nothing))

  ack_agrees : (value : ℕ) → WriteAgrees value 26
  unfolding written acknowledged
  ack_agrees value = (refl, on (Ack value))

  outs_agree : (value : ℕ) → WriteAgrees value 28 × WriteAgrees value 30
  unfolding written
  outs_agree value = ((refl, on (Put p 1)), (refl, on (Put p 2)))

  params_agree : (value : ℕ) → WriteAgrees value 16 × WriteAgrees value 17 × WriteAgrees value 18 × WriteAgrees value 19 × WriteAgrees value 20
  unfolding written
  params_agree value = ((refl, on Nothing), (refl, on Nothing), (refl, on Nothing), (refl, on Nothing), (refl, on Nothing))

  write_agrees : (ch value : ℕ) → is_write (way_of ch) ≡ true → WriteAgrees value ch
  write_agrees ch value way =
      let masks = masks_agree value in
      let params = params_agree value in
      let outs = outs_agree value in
      writes-are (WriteAgrees value) ch way masks.0 masks.1 params.0 params.1 params.2 params.3 params.4 (command_agrees value) masks.2 masks.3 (ack_agrees value) outs.0 outs.1

  channel_agrees : (op : ChannelOp) → Agrees p P (λ Q. told p P Q (Some op)) (channel lines P op) (channel_deed lines P op)
  unfolding channel channel_deed
  channel_agrees (Read rt ch) =
      agrees_when p P _ (is_read (way_of ch)) _ _ _ _ (λ way. agrees_if p P _ (may_read P ch) _ _ _ _ (read_agrees rt ch way) tt) (refl, ended _)
  channel_agrees (Count rt ch) = agrees_if p P _ (is_some (way_of ch)) _ _ _ _ (refl, on Nothing) (refl, ended _)
  channel_agrees (Write ch value) =
      agrees_when p P _ (is_write (way_of ch)) _ _ _ _ (λ way. agrees_if p P _ (may_write P ch value) _ _ _ _ (write_agrees ch value way) tt) (refl, ended _)

  flow_agrees : (flow : Flow) → Agrees p P (λ Q. told p P Q (op_of flow)) (followed lines P flow) (flow_deed lines P flow)
  flow_agrees (Next pc) = (refl, stays_on (is_running P.status) Nothing)
  flow_agrees (Stop code next) = (refl, ended _)
  flow_agrees (Halt next) = (refl, ended _)
  flow_agrees (Channel op) = channel_agrees op

-- with other registers and another store
agrees_moved : (p : ℕ) (P : Spe) (r : List (List ℕ)) (s : List ℕ) (op : Option ChannelOp) (x : Option Spe) (d : Option Did)
    → Agrees p (record P { registers = r; store = s }) (λ Q. told p (record P { registers = r; store = s }) Q op) x d → Agrees p P (λ Q. told p P Q op) x d
agrees_moved p P r s op None None h = tt
agrees_moved p P r s op None (Some d) h = h
agrees_moved p P r s op (Some Q) None h = h
agrees_moved p P r s op (Some Q) (Some d) h = (h.0 ∙ same_did d, same_told op ∙ h.1)
  where
    same_asked : (a : Asked) (x : Flowed) → did (Goes x a) (record P { registers = r; store = s }) ≡ did (Goes x a) P
    same_asked Plain x = refl
    same_asked (SetParams y) x = refl
    same_asked (SetMask y) x = refl
    same_asked (AskTags y) x = refl
    same_asked (TakeTags y) x = refl
    same_asked (TakeStalls y) x = refl
    same_asked TakeAtomic x = refl
    same_asked TakeValue x = refl
    same_asked (Queue n y) x = refl
    same_asked (FillSlot y) x = refl
    same_asked (Resume t y) x = refl
    same_asked (PutValue y) x = refl
    same_asked (PutInterrupt y) x = refl
    same_asked (TakeSignal y) x = refl
    same_asked (LeaveEvents y) x = refl

    same_did : (d : Did) → did d (record P { registers = r; store = s }) ≡ did d P
    same_did (Ends status x) = refl
    same_did (Goes x a) = same_asked a x

    same_told : (op : Option ChannelOp) → told p P Q op ≡ told p (record P { registers = r; store = s }) Q op
    same_told None = refl
    same_told (Some (Read rt ch)) = refl
    same_told (Some (Count rt ch)) = refl
    same_told (Some (Write ch value)) = refl

instr_agrees : (p lines : ℕ) (P : Spe) → is_running P.status ≡ true → (o : Option Instr) → Agrees p P (λ Q. told p P Q (asked_by P o)) (exec_instr lines P o) (instr_deed lines P o)
instr_agrees p lines P run None = (refl, ended p lines P run _)
instr_agrees p lines P run (Some i) =
    let k = meaning i P.pc P.registers P.store in
    agrees_moved p P k.regs k.store (op_of k.flow) _ _ (flow_agrees p lines (record P { registers = k.regs; store = k.store }) run k.flow)

pub exec-agrees : (p lines : ℕ) (P : Spe) → Agrees p P (λ Q. told p P Q (asks P)) (exec lines P) (exec_deed lines P)
unfolding exec exec_deed asks
exec-agrees p lines P = on (is_running P.status) refl
  where
    on : (b : Bool) → is_running P.status ≡ b → Agrees p P (λ Q. told p P Q (asked_by P (instr_of (word_at P.store P.pc)))) (cond b (exec_instr lines P (instr_of (word_at P.store P.pc))) None) (cond b (instr_deed lines P (instr_of (word_at P.store P.pc))) None)
    on true e = instr_agrees p lines P e (instr_of (word_at P.store P.pc))
    on false e = tt

agrees_map : (p : ℕ) (P : Spe) (f : Spe → Note) (x : Option Spe) (d : Option Did) → Agrees p P f x d → x ≡ option_map (λ d. did d P) d
agrees_map p P f None None h = refl
agrees_map p P f None (Some d) h = absurd h
agrees_map p P f (Some Q) None h = absurd h
agrees_map p P f (Some Q) (Some d) h = ap Some h.0

pub exec-does : ExecDoes
exec-does lines P = agrees_map 0 P _ _ _ (exec-agrees 0 lines P)

pub exec-tells : ExecTells
exec-tells p lines P Q d is made = by (exec lines P) (exec_deed lines P) (exec-agrees p lines P) is made
  where
    by : (x : Option Spe) (o : Option Did) → Agrees p P (λ K. told p P K (asks P)) x o → x ≡ Some Q → o ≡ Some d → told p P Q (asks P) ≡ note_of p d
    by None o h is made = none_is _ Q is
    by (Some K) None h is made = none_is _ d made
    by (Some K) (Some e) h is made = ap (λ R. told p P R (asks P)) (sym (some_same K Q is)) ∙ h.1 ∙ ap (note_of p) (some_same e d made)
