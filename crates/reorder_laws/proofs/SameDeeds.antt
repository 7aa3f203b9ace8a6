-- What an instruction's deed says of the state that it found, and where another state gives the same deed.
use Rattle.std.proofs.Common.{◌≡◌, ℕ, zero, suc, ◌-◌, ◌<◌, refl, sym, ◌∙◌, ap, subst, arith, List, [], ◌∷◌, length, true≢false}
use Rattle.std.specs.Prelude.{Option, Some, None, is_some, is_none, slice_get, option_map, Bool, true, false, cond, ◌==◌, nat_lt, Result, Ok, Err}
use Rattle.std.proofs.lemmas.Bool.Decides.{nat_tests}
use Rattle.cell_base.specs.declared.steps.ChannelOp.{ChannelOp}
use Rattle.cell_base.specs.declared.steps.ChannelOp.TheVariants.{Read, Count, Write}
use Rattle.cell_channels.specs.State.{count_of}
use Rattle.cell_channels.specs.Table.{way_of}
use Rattle.mfc_command.specs.declared.command.Params.{Params}
use Rattle.mfc_command.specs.declared.command.Order.{Order}
use Rattle.mfc_command.specs.declared.command.Order.TheVariants.{Queued, Atomic as InSlot}
use Rattle.mfc_command.specs.declared.command.DmaFault.{DmaFault as Fault}
use Rattle.mfc_command.specs.Check.{checked}
use Rattle.mfc_command.proofs.CheckLemmas.{checked-slot}
use Rattle.spu_decode.specs.declared.Instr.{Instr}
use Rattle.spu_decode.specs.Spelling.{instr_of}
use Rattle.spu_exec.specs.declared.flow.Flow.{Flow}
use Rattle.spu_exec.specs.declared.flow.Flow.TheVariants.{Next, Stop, Halt, Channel}
use Rattle.spu_exec.specs.Meaning.{meaning}
use Rattle.local_store.specs.Store.{word_at}
use Rattle.tag_groups.specs.declared.TagStatus.{TagStatus}
use Rattle.cell_machine.specs.declared.effect.Note.TheVariants.{AtomicRead}
use Rattle.cell_machine.specs.Spe.{Spe, is_running}
use Rattle.cell_machine.specs.Moves.{outstanding}
use Rattle.cell_machine.specs.Channels.{is_read, is_write, is_atomic, count, may_write}
use Rattle.cell_machine.specs.Exec.{asks, asked_by, op_of}
use Rattle.cell_machine.proofs.Same.{some_same, eq_is}
use Rattle.cell_machine.proofs.StepBytes.{none_is}
use Rattle.reorder_laws.specs.Deeds.{Flowed, Did, Ends, Goes, Asked, Plain, SetParams, SetMask, AskTags, TakeTags, TakeStalls, TakeAtomic, TakeValue, Queue, FillSlot, Resume, PutValue, PutInterrupt, TakeSignal, LeaveEvents, note_of, gets, goes, write_deed, order_deed, bad_deed, channel_deed, flow_deed, instr_deed, exec_deed}
use Rattle.reorder_laws.specs.SameDeeds.{LooksSame, ExecSameDeed, op_kind, did_kind, FoundBy, ExecFinds, ExecKinds}
use Rattle.reorder_laws.proofs.Ways.{reads-are, writes-are}

-- ---- tests

if_some : {X : Type 0} (b : Bool) (o : Option X) (x : X) → cond b o None ≡ Some x → (b ≡ true) × (o ≡ Some x)
if_some true o x h = (refl, h)
if_some false o x h = none_is _ x h

on_if : {X : Type 0} (b : Bool) (x y : X) → b ≡ true → cond b x y ≡ x
on_if b x y h = rw h refl

off_if : {X : Type 0} (b : Bool) (x y : X) → b ≡ false → cond b x y ≡ y
off_if b x y h = rw h refl

some_first : (n : ℕ) → nat_lt 0 (suc n) ≡ true
some_first n = grind (arith, nat_tests)

room_for : (n k : ℕ) → n < k → nat_lt 0 (k - n) ≡ true
room_for n k h = grind (arith, nat_tests)

room_of : (n k : ℕ) → nat_lt 0 (k - n) ≡ true → n < k
room_of n k h = grind (arith, nat_tests)

is_none_of : {X : Type 0} (o : Option X) → is_none o ≡ true → o ≡ None
is_none_of None h = refl
is_none_of (Some x) h = absurd (true≢false (sym h))

-- ---- whether an order is for the queue or for the slot

abbrev IsLineOrder : Order → Bool → Type 0
IsLineOrder (Queued d) b = b ≡ false
IsLineOrder (InSlot a) b = b ≡ true

checked_is : (p : Params) (op lines : ℕ) (x : Order) → checked p op lines ≡ Ok x → IsLineOrder x (is_atomic op)
checked_is p op lines (Queued d) h = checked-slot p op lines (Queued d) h
checked_is p op lines (InSlot a) h = checked-slot p op lines (InSlot a) h

-- ---- the same deed

-- P where K is
abbrev core_in : Spe → Spe → Spe
core_in K P = record P {
  status = K.status;
  pc = K.pc;
  registers = K.registers;
  store = K.store;
  channels = record P.channels { params = K.channels.params };
  tags = record P.tags { mask = K.tags.mask };
}

module _ (lines : ℕ) (K P : Spe) where
  abbrev ReadsSame : ℕ → ℕ → Type 0
  ReadsSame rt ch = (d : Did) → channel_deed lines K (Read rt ch) ≡ Some d → LooksSame K P d → channel_deed lines (core_in K P) (Read rt ch) ≡ Some d

  mask_same : (rt : ℕ) → ReadsSame rt 12
  unfolding channel_deed way_of count count_of
  mask_same rt d h l = h

  status_same : (rt : ℕ) → ReadsSame rt 24
  unfolding channel_deed way_of count count_of
  status_same rt d h l = on K.tags.status h
    where
      on : (o : Option TagStatus) → cond (nat_lt 0 (cond (is_some o) 1 0)) (option_map (λ (t : TagStatus). Goes (gets K rt t.groups) (TakeTags t)) o) None ≡ Some d
          → cond (nat_lt 0 (cond (is_some P.tags.status) 1 0)) (option_map (λ (t : TagStatus). Goes (gets K rt t.groups) (TakeTags t)) P.tags.status) None ≡ Some d
      on None h = none_is _ d h
      on (Some t) h =
          let q = some_same (Goes (gets K rt t.groups) (TakeTags t)) d h in
          let there : P.tags.status ≡ Some t = subst (LooksSame K P) (sym q) l in
          ap (λ o. cond (nat_lt 0 (cond (is_some o) 1 0)) (option_map (λ (t : TagStatus). Goes (gets K rt t.groups) (TakeTags t)) o) None) there ∙ h

  stalls_same : (rt : ℕ) → ReadsSame rt 25
  unfolding channel_deed way_of count count_of
  stalls_same rt d h l =
      let r = if_some (nat_lt 0 (cond (K.channels.stalls == 0) 0 1)) _ d h in
      let q = some_same (Goes (gets K rt K.channels.stalls) (TakeStalls K.channels.stalls)) d r.1 in
      let there : P.channels.stalls ≡ K.channels.stalls = subst (LooksSame K P) (sym q) l in
      ap (λ n. cond (nat_lt 0 (cond (n == 0) 0 1)) (Some (Goes (gets K rt n) (TakeStalls n))) None) there ∙ h

  atomic_same : (rt : ℕ) → ReadsSame rt 27
  unfolding channel_deed way_of count count_of
  atomic_same rt d h l = on K.channels.atomic refl h
    where
      on : (o : Option ℕ) → K.channels.atomic ≡ o → cond (nat_lt 0 (cond (is_some o) 1 0)) (option_map (λ status. Goes (gets K rt status) TakeAtomic) o) None ≡ Some d
          → cond (nat_lt 0 (cond (is_some P.channels.atomic) 1 0)) (option_map (λ status. Goes (gets K rt status) TakeAtomic) P.channels.atomic) None ≡ Some d
      on None at h = none_is _ d h
      on (Some v) at h =
          let q = some_same (Goes (gets K rt v) TakeAtomic) d h in
          let there : P.channels.atomic ≡ K.channels.atomic = subst (LooksSame K P) (sym q) l in
          ap (λ o. cond (nat_lt 0 (cond (is_some o) 1 0)) (option_map (λ status. Goes (gets K rt status) TakeAtomic) o) None) (there ∙ at) ∙ h

  inbound_same : (rt : ℕ) → ReadsSame rt 29
  unfolding channel_deed way_of count count_of
  inbound_same rt d h l = on K.inbound refl P.inbound refl h
    where
      on : (xs : List ℕ) → K.inbound ≡ xs → (ys : List ℕ) → P.inbound ≡ ys → cond (nat_lt 0 (length xs)) (option_map (λ value. Goes (gets K rt value) TakeValue) (slice_get xs 0)) None ≡ Some d
          → cond (nat_lt 0 (length ys)) (option_map (λ value. Goes (gets K rt value) TakeValue) (slice_get ys 0)) None ≡ Some d
      on [] at ys there h = none_is _ d h
      on (x ∷ xs) at ys there h =
          let r = if_some (nat_lt 0 (length (x ∷ xs))) _ d h in
          let q = some_same (Goes (gets K rt x) TakeValue) d r.1 in
          let same : slice_get P.inbound 0 ≡ slice_get K.inbound 0 = subst (LooksSame K P) (sym q) l in
          by ys (ap (λ zs. slice_get zs 0) (sym there) ∙ same ∙ ap (λ zs. slice_get zs 0) at) r.1
        where
          by : (ys : List ℕ) → slice_get ys 0 ≡ Some x → Some (Goes (gets K rt x) TakeValue) ≡ Some d
              → cond (nat_lt 0 (length ys)) (option_map (λ value. Goes (gets K rt value) TakeValue) (slice_get ys 0)) None ≡ Some d
          by [] e g = none_is _ x e
          by (y ∷ ys) e g =
              let z = some_same y x e in
              on_if (nat_lt 0 (length (y ∷ ys))) _ None (some_first (length ys)) ∙ ap (λ v. Some (Goes (gets K rt v) TakeValue)) z ∙ g

  -- what it gives of signals and events isn't said to be the same
  foreign_same : (rt ch : ℕ) (may : Bool) (x : Flowed) (a : Asked) → (LooksSame K P (Goes x a) → ⊥) → (d : Did) → cond {A = Option Did} may (Some (Goes x a)) None ≡ Some d → LooksSame K P d → ⊥
  foreign_same rt ch may x a none d h l = none (subst (LooksSame K P) (sym (some_same (Goes x a) d (if_some may (Some (Goes x a)) d h).1)) l)

  events_same : (rt : ℕ) → ReadsSame rt 0 × ReadsSame rt 11
  unfolding channel_deed way_of
  events_same rt = (λ d h l. absurd (foreign_same rt 0 _ _ _ (λ z. z) d h l), λ d h l. absurd (foreign_same rt 11 _ _ _ (λ z. z) d h l))

  signals_same : (rt : ℕ) → ReadsSame rt 3 × ReadsSame rt 4
  unfolding channel_deed way_of
  signals_same rt = (λ d h l. absurd (foreign_same rt 3 _ _ _ (λ z. z) d h l), λ d h l. absurd (foreign_same rt 4 _ _ _ (λ z. z) d h l))

  read_same : (rt ch : ℕ) (b : Bool) → is_read (way_of ch) ≡ b → ReadsSame rt ch
  unfolding channel_deed
  read_same rt ch false way d h l =
      off_if (is_read (way_of ch)) _ _ way ∙ sym (off_if (is_read (way_of ch)) _ _ way) ∙ h
  read_same rt ch true way d h l = let events = events_same rt in let signals = signals_same rt in reads-are (ReadsSame rt) ch way events.0 signals.0 signals.1 events.1 (mask_same rt) (status_same rt) (stalls_same rt) (atomic_same rt) (inbound_same rt) d h l

  abbrev WritesSame : ℕ → ℕ → Type 0
  WritesSame value ch = may_write K ch value ≡ true → LooksSame K P (write_deed lines K ch value) → (may_write (core_in K P) ch value ≡ true) × (write_deed lines (core_in K P) ch value ≡ write_deed lines K ch value)

  param_same : (value : ℕ) → WritesSame value 16 × WritesSame value 17 × WritesSame value 18 × WritesSame value 19 × WritesSame value 20
  unfolding may_write count count_of way_of
  param_same value = (λ m l. (refl, refl), λ m l. (refl, refl), λ m l. (refl, refl), λ m l. (refl, refl), λ m l. (refl, refl))

  tags_same : (value : ℕ) → WritesSame value 22 × WritesSame value 23
  unfolding may_write count count_of way_of
  tags_same value = (λ m l. (refl, refl), λ m l. (refl, refl))

  resume_same : (value : ℕ) → WritesSame value 26
  unfolding may_write count count_of way_of
  resume_same value m l = (refl, ap (λ st. Goes (goes K) (Resume value st)) l)

  outbound_same : (value : ℕ) → WritesSame value 28
  unfolding may_write count count_of way_of
  outbound_same value m l = (room_for (length P.outbound) 1 l, refl)

  interrupt_same : (value : ℕ) → WritesSame value 30
  unfolding may_write count count_of way_of
  interrupt_same value m l = (room_for (length P.interrupt) 1 l, refl)

  order_same : (value : ℕ) (r : Result Order Fault) → checked K.channels.params value lines ≡ r → LooksSame K P (order_deed K r)
      → (cond (is_atomic value) (is_none P.channels.slot) (nat_lt 0 (16 - length (outstanding P))) ≡ true) × (order_deed (core_in K P) r ≡ order_deed K r)
  order_same value (Ok (Queued d)) is l =
      (off_if (is_atomic value) _ _ (checked_is K.channels.params value lines (Queued d) is) ∙ room_for (length (outstanding P)) 16 l.1, ap (λ n. Goes (goes K) (Queue n d)) l.0)
  order_same value (Ok (InSlot a)) is l =
      (on_if (is_atomic value) _ _ (checked_is K.channels.params value lines (InSlot a) is) ∙ ap is_none l, refl)
  order_same value (Err kind) is l = absurd l

  command_same : (value : ℕ) → WritesSame value 21
  unfolding may_write count count_of way_of
  command_same value m l = order_same value (checked K.channels.params value lines) refl l

  write_same : (ch value : ℕ) (b : Bool) → is_write (way_of ch) ≡ b → (d : Did) → channel_deed lines K (Write ch value) ≡ Some d → LooksSame K P d → channel_deed lines (core_in K P) (Write ch value) ≡ Some d
  unfolding channel_deed
  write_same ch value false way d h l = off_if (is_write (way_of ch)) _ _ way ∙ sym (off_if (is_write (way_of ch)) _ _ way) ∙ h
  write_same ch value true way d h l =
      let r = if_some (may_write K ch value) _ d (sym (on_if (is_write (way_of ch)) _ _ way) ∙ h) in
      let q = some_same (write_deed lines K ch value) d r.1 in
      let pars = param_same value in
      let tags = tags_same value in
      let w = writes-are (WritesSame value) ch way (λ m z. absurd z) (λ m z. absurd z) pars.0 pars.1 pars.2 pars.3 pars.4 (command_same value) tags.0 tags.1 (resume_same value) (outbound_same value) (interrupt_same value)
      r.0 (subst (LooksSame K P) (sym q) l) in
      on_if (is_write (way_of ch)) _ _ way ∙ on_if (may_write (core_in K P) ch value) _ None w.0 ∙ ap Some (w.1 ∙ q)

  flow_same : (flow : Flow) (d : Did) → ((rt ch : ℕ) → op_of flow ≡ Some (Count rt ch) → ⊥) → flow_deed lines K flow ≡ Some d → LooksSame K P d → flow_deed lines (core_in K P) flow ≡ Some d
  flow_same (Next pc) d no_count h l = h
  flow_same (Stop code next) d no_count h l = h
  flow_same (Halt next) d no_count h l = h
  flow_same (Channel (Read rt ch)) d no_count h l = read_same rt ch (is_read (way_of ch)) refl d h l
  flow_same (Channel (Count rt ch)) d no_count h l = absurd (no_count rt ch refl)
  flow_same (Channel (Write ch value)) d no_count h l = write_same ch value (is_write (way_of ch)) refl d h l

-- what it gives is the same with other registers and another store
looks_moved : (K P : Spe) (r : List (List ℕ)) (s : List ℕ) (d : Did) → LooksSame K P d → LooksSame (record K { registers = r; store = s }) P d
looks_moved K P r s (Ends status x) l = l
looks_moved K P r s (Goes x Plain) l = l
looks_moved K P r s (Goes x (SetParams y)) l = l
looks_moved K P r s (Goes x (SetMask y)) l = l
looks_moved K P r s (Goes x (AskTags y)) l = l
looks_moved K P r s (Goes x (TakeTags y)) l = l
looks_moved K P r s (Goes x (TakeStalls y)) l = l
looks_moved K P r s (Goes x TakeAtomic) l = l
looks_moved K P r s (Goes x TakeValue) l = l
looks_moved K P r s (Goes x (Queue n y)) l = l
looks_moved K P r s (Goes x (FillSlot y)) l = l
looks_moved K P r s (Goes x (Resume t y)) l = l
looks_moved K P r s (Goes x (PutValue y)) l = l
looks_moved K P r s (Goes x (PutInterrupt y)) l = l
looks_moved K P r s (Goes x (TakeSignal y)) l = l
looks_moved K P r s (Goes x (LeaveEvents y)) l = l

instr_same : (lines : ℕ) (K P : Spe) (o : Option Instr) (d : Did) → ((rt ch : ℕ) → asked_by K o ≡ Some (Count rt ch) → ⊥) → instr_deed lines K o ≡ Some d → LooksSame K P d → instr_deed lines (core_in K P) o ≡ Some d
instr_same lines K P None d no_count h l = h
instr_same lines K P (Some i) d no_count h l =
    let o = meaning i K.pc K.registers K.store in
    flow_same lines (record K { registers = o.regs; store = o.store }) P o.flow d no_count h (looks_moved K P o.regs o.store d l)

core_same : (lines : ℕ) (K P : Spe) (d : Did) → ((rt ch : ℕ) → asks K ≡ Some (Count rt ch) → ⊥) → exec_deed lines K ≡ Some d → LooksSame K P d → exec_deed lines (core_in K P) ≡ Some d
unfolding exec_deed asks
core_same lines K P d no_count h l =
    let r = if_some (is_running K.status) _ d h in
    on_if (is_running K.status) _ None r.0 ∙ instr_same lines K P (instr_of (word_at K.store K.pc)) d no_count r.1 l

pub exec-same_deed : ExecSameDeed
exec-same_deed lines K P d status pc registers store params mask no_count h l =
    let same : core_in K P ≡ P =
    ap (λ v. record (core_in K P) { status = v }) status
    ∙ ap (λ v. record (core_in K P) { status = P.status; pc = v }) pc
    ∙ ap (λ v. record (core_in K P) { status = P.status; pc = P.pc; registers = v }) registers
    ∙ ap (λ v. record (core_in K P) { status = P.status; pc = P.pc; registers = P.registers; store = v }) store
    ∙ ap (λ v. record (core_in K P) { status = P.status; pc = P.pc; registers = P.registers; store = P.store; channels = record P.channels { params = v } }) params
    ∙ ap (λ v. record P { tags = record P.tags { mask = v } }) mask in
    ap (exec_deed lines) (sym same) ∙ core_same lines K P d no_count h l

-- ---- what a deed found

abbrev FoundIn : Spe → Option ChannelOp → Did → Type 0
FoundIn P op (Ends status x) = Unit {0}
FoundIn P op (Goes x a) = FoundBy P op a

-- what P had for the operation, and of which kind it is
record Finds (P : Spe) (op : Option ChannelOp) (d : Did) : Type 0 where
  found : FoundIn P op d
  kind : op_kind op ≡ did_kind d

stalls_are : (n : ℕ) → nat_lt 0 (cond (n == 0) 0 1) ≡ true → 0 < n
stalls_are zero h = absurd (true≢false (sym h))
stalls_are (suc n) h = omega arith

inbound_is : (n : ℕ) → nat_lt 0 n ≡ true → 0 < n
inbound_is n h = grind (arith, nat_tests)

-- a channel that isn't read isn't one of those
not_read : (ch k : ℕ) → is_read (way_of ch) ≡ false → is_read (way_of k) ≡ true → (ch == k) ≡ false
not_read ch k h g = on (ch == k) refl
  where
    on : (b : Bool) → (ch == k) ≡ b → (ch == k) ≡ false
    on true e = absurd (true≢false (sym g ∙ ap (λ c. is_read (way_of c)) (sym (eq_is ch k e)) ∙ h))
    on false e = e

not_written : (ch k : ℕ) → is_write (way_of ch) ≡ false → is_write (way_of k) ≡ true → (ch == k) ≡ false
not_written ch k h g = on (ch == k) refl
  where
    on : (b : Bool) → (ch == k) ≡ b → (ch == k) ≡ false
    on true e = absurd (true≢false (sym g ∙ ap (λ c. is_write (way_of c)) (sym (eq_is ch k e)) ∙ h))
    on false e = e

reads_there : (is_read (way_of 24) ≡ true) × (is_read (way_of 25) ≡ true)
unfolding way_of
reads_there = (refl, refl)

writes_there : (is_write (way_of 23) ≡ true) × (is_write (way_of 26) ≡ true)
unfolding way_of
writes_there = (refl, refl)

module _ (lines : ℕ) (P : Spe) where
  abbrev ReadFinds : ℕ → ℕ → Type 0
  ReadFinds rt ch = (d : Did) → channel_deed lines P (Read rt ch) ≡ Some d → Finds P (Some (Read rt ch)) d

  mask_finds : (rt : ℕ) → ReadFinds rt 12
  unfolding channel_deed way_of count count_of
  mask_finds rt d h = subst (Finds P (Some (Read rt 12))) (some_same _ d h) (record { found = tt; kind = refl })

  status_finds : (rt : ℕ) → ReadFinds rt 24
  unfolding channel_deed way_of count count_of
  status_finds rt d h = on P.tags.status refl h
    where
      on : (o : Option TagStatus) → P.tags.status ≡ o → cond (nat_lt 0 (cond (is_some o) 1 0)) (option_map (λ (t : TagStatus). Goes (gets P rt t.groups) (TakeTags t)) o) None ≡ Some d → Finds P (Some (Read rt 24)) d
      on None at h = none_is _ d h
      on (Some t) at h = subst (Finds P (Some (Read rt 24))) (some_same (Goes (gets P rt t.groups) (TakeTags t)) d h) (record { found = (at, (rt, refl)); kind = refl })

  stalls_finds : (rt : ℕ) → ReadFinds rt 25
  unfolding channel_deed way_of count count_of
  stalls_finds rt d h =
      let r = if_some (nat_lt 0 (cond (P.channels.stalls == 0) 0 1)) _ d h in
      subst (Finds P (Some (Read rt 25))) (some_same (Goes (gets P rt P.channels.stalls) (TakeStalls P.channels.stalls)) d r.1) (record { found = (refl, stalls_are P.channels.stalls r.0, (rt, refl)); kind = refl })

  atomic_finds : (rt : ℕ) → ReadFinds rt 27
  unfolding channel_deed way_of count count_of
  atomic_finds rt d h = on P.channels.atomic refl h
    where
      on : (o : Option ℕ) → P.channels.atomic ≡ o → cond (nat_lt 0 (cond (is_some o) 1 0)) (option_map (λ status. Goes (gets P rt status) TakeAtomic) o) None ≡ Some d → Finds P (Some (Read rt 27)) d
      on None at h = none_is _ d h
      on (Some v) at h = subst (Finds P (Some (Read rt 27))) (some_same (Goes (gets P rt v) TakeAtomic) d h) (record { found = (ap is_some at, (rt, refl)); kind = refl })

  inbound_finds : (rt : ℕ) → ReadFinds rt 29
  unfolding channel_deed way_of count count_of
  inbound_finds rt d h =
      let r = if_some (nat_lt 0 (length P.inbound)) _ d h in
      on (slice_get P.inbound 0) (inbound_is (length P.inbound) r.0) r.1
    where
      on : (o : Option ℕ) → 0 < length P.inbound → option_map (λ value. Goes (gets P rt value) TakeValue) o ≡ Some d → Finds P (Some (Read rt 29)) d
      on None some h = none_is _ d h
      on (Some v) some h = subst (Finds P (Some (Read rt 29))) (some_same (Goes (gets P rt v) TakeValue) d h) (record { found = (some, (rt, refl)); kind = refl })

  foreign_finds : (op : ChannelOp) (may : Bool) (x : Flowed) (a : Asked) → FoundBy P (Some op) a → op_kind (Some op) ≡ did_kind (Goes x a) → (d : Did) → cond {A = Option Did} may (Some (Goes x a)) None ≡ Some d → Finds P (Some op) d
  foreign_finds op may x a found kind d h = subst (Finds P (Some op)) (some_same (Goes x a) d (if_some may (Some (Goes x a)) d h).1) (record { found = found; kind = kind })

  events_find : (rt : ℕ) → ReadFinds rt 0 × ReadFinds rt 11
  unfolding channel_deed way_of
  events_find rt = (λ d h. foreign_finds (Read rt 0) _ _ _ (omega arith) refl d h, λ d h. foreign_finds (Read rt 11) _ _ _ (omega arith) refl d h)

  signals_find : (rt : ℕ) → ReadFinds rt 3 × ReadFinds rt 4
  unfolding channel_deed way_of
  signals_find rt = (λ d h. foreign_finds (Read rt 3) _ _ _ (omega arith) refl d h, λ d h. foreign_finds (Read rt 4) _ _ _ (omega arith) refl d h)

  read_finds : (rt ch : ℕ) (b : Bool) → is_read (way_of ch) ≡ b → ReadFinds rt ch
  unfolding channel_deed
  read_finds rt ch false way d h =
      let q = some_same (bad_deed P) d (sym (off_if (is_read (way_of ch)) _ _ way) ∙ h) in
      let a = not_read ch 24 way reads_there.0 in
      let b = not_read ch 25 way reads_there.1 in
      subst (Finds P (Some (Read rt ch))) q (record { found = tt; kind = rw (a, b) refl })
  read_finds rt ch true way d h = let events = events_find rt in let signals = signals_find rt in reads-are (ReadFinds rt) ch way events.0 signals.0 signals.1 events.1 (mask_finds rt) (status_finds rt) (stalls_finds rt) (atomic_finds rt) (inbound_finds rt) d h

  abbrev WriteFinds : ℕ → ℕ → Type 0
  WriteFinds value ch = may_write P ch value ≡ true → Finds P (Some (Write ch value)) (write_deed lines P ch value)

  param_finds : (value : ℕ) → WriteFinds value 16 × WriteFinds value 17 × WriteFinds value 18 × WriteFinds value 19 × WriteFinds value 20
  param_finds value = (λ m. record { found = tt; kind = refl }, λ m. record { found = tt; kind = refl }, λ m. record { found = tt; kind = refl }, λ m. record { found = tt; kind = refl }, λ m. record { found = tt; kind = refl })

  masks_find : (value : ℕ) → WriteFinds value 1 × WriteFinds value 2
  masks_find value = (λ m. record { found = omega arith; kind = refl }, λ m. record { found = omega arith; kind = refl })

  order_finds : (value : ℕ) (r : Result Order Fault) → checked P.channels.params value lines ≡ r → cond (is_atomic value) (is_none P.channels.slot) (nat_lt 0 (16 - length (outstanding P))) ≡ true
      → Finds P (Some (Write 21 value)) (order_deed P r)
  order_finds value (Ok (Queued d)) is m =
      record { found = (refl, room_of (length (outstanding P)) 16 (sym (off_if (is_atomic value) _ _ (checked_is P.channels.params value lines (Queued d) is)) ∙ m), (value, refl)); kind = refl }
  order_finds value (Ok (InSlot a)) is m =
      record { found = (is_none_of P.channels.slot (sym (on_if (is_atomic value) _ _ (checked_is P.channels.params value lines (InSlot a) is)) ∙ m), (value, refl)); kind = refl }
  order_finds value (Err kind) is m = record { found = tt; kind = refl }

  command_finds : (value : ℕ) → WriteFinds value 21
  unfolding may_write count count_of
  command_finds value m = order_finds value (checked P.channels.params value lines) refl m

  others_find : (value : ℕ) → WriteFinds value 22 × WriteFinds value 23 × WriteFinds value 26
  others_find value = (λ m. record { found = refl; kind = refl }, λ m. record { found = refl; kind = refl }, λ m. record { found = (refl, refl); kind = refl })

  outbound_finds : (value : ℕ) → WriteFinds value 28
  unfolding may_write count count_of
  outbound_finds value m = record { found = (room_of (length P.outbound) 1 m, refl); kind = refl }

  interrupt_finds : (value : ℕ) → WriteFinds value 30
  unfolding may_write count count_of
  interrupt_finds value m = record { found = (room_of (length P.interrupt) 1 m, refl); kind = refl }

  write_finds : (ch value : ℕ) (b : Bool) → is_write (way_of ch) ≡ b → (d : Did) → channel_deed lines P (Write ch value) ≡ Some d → Finds P (Some (Write ch value)) d
  unfolding channel_deed
  write_finds ch value false way d h =
      let q = some_same (bad_deed P) d (sym (off_if (is_write (way_of ch)) _ _ way) ∙ h) in
      let a = not_written ch 23 way writes_there.0 in
      let b = not_written ch 26 way writes_there.1 in
      subst (Finds P (Some (Write ch value))) q (record { found = tt; kind = rw (a, b) refl })
  write_finds ch value true way d h =
      let r = if_some (may_write P ch value) _ d (sym (on_if (is_write (way_of ch)) _ _ way) ∙ h) in
      let q = some_same (write_deed lines P ch value) d r.1 in
      let pars = param_finds value in
      let others = others_find value in
      let masks = masks_find value in
      subst (Finds P (Some (Write ch value))) q
      (writes-are (WriteFinds value) ch way masks.0 masks.1 pars.0 pars.1 pars.2 pars.3 pars.4 (command_finds value) others.0 others.1 others.2 (outbound_finds value) (interrupt_finds value) r.0)

  count_finds : (rt ch : ℕ) (d : Did) → channel_deed lines P (Count rt ch) ≡ Some d → Finds P (Some (Count rt ch)) d
  unfolding channel_deed
  count_finds rt ch d h = on (is_some (way_of ch)) h
    where
      on : (b : Bool) → cond b (Some (Goes (gets P rt (count P ch)) Plain)) (Some (bad_deed P)) ≡ Some d → Finds P (Some (Count rt ch)) d
      on true h = subst (Finds P (Some (Count rt ch))) (some_same _ d h) (record { found = tt; kind = refl })
      on false h = subst (Finds P (Some (Count rt ch))) (some_same _ d h) (record { found = tt; kind = refl })

  flow_finds : (flow : Flow) (d : Did) → flow_deed lines P flow ≡ Some d → Finds P (op_of flow) d
  flow_finds (Next pc) d h = subst (Finds P None) (some_same _ d h) (record { found = tt; kind = refl })
  flow_finds (Stop code next) d h = subst (Finds P None) (some_same _ d h) (record { found = tt; kind = refl })
  flow_finds (Halt next) d h = subst (Finds P None) (some_same _ d h) (record { found = tt; kind = refl })
  flow_finds (Channel (Read rt ch)) d h = read_finds rt ch (is_read (way_of ch)) refl d h
  flow_finds (Channel (Count rt ch)) d h = count_finds rt ch d h
  flow_finds (Channel (Write ch value)) d h = write_finds ch value (is_write (way_of ch)) refl d h

found_moved : (P : Spe) (r : List (List ℕ)) (s : List ℕ) (op : Option ChannelOp) (d : Did) → FoundIn (record P { registers = r; store = s }) op d → FoundIn P op d
found_moved P r s op (Ends status x) l = l
found_moved P r s op (Goes x Plain) l = l
found_moved P r s op (Goes x (SetParams y)) l = l
found_moved P r s op (Goes x (SetMask y)) l = l
found_moved P r s op (Goes x (AskTags y)) l = l
found_moved P r s op (Goes x (TakeTags y)) l = l
found_moved P r s op (Goes x (TakeStalls y)) l = l
found_moved P r s op (Goes x TakeAtomic) l = l
found_moved P r s op (Goes x TakeValue) l = l
found_moved P r s op (Goes x (Queue n y)) l = l
found_moved P r s op (Goes x (FillSlot y)) l = l
found_moved P r s op (Goes x (Resume t y)) l = l
found_moved P r s op (Goes x (PutValue y)) l = l
found_moved P r s op (Goes x (PutInterrupt y)) l = l
found_moved P r s op (Goes x (TakeSignal y)) l = l
found_moved P r s op (Goes x (LeaveEvents y)) l = l

instr_finds : (lines : ℕ) (P : Spe) (o : Option Instr) (d : Did) → instr_deed lines P o ≡ Some d → Finds P (asked_by P o) d
instr_finds lines P None d h = subst (Finds P None) (some_same _ d h) (record { found = tt; kind = refl })
instr_finds lines P (Some i) d h =
    let o = meaning i P.pc P.registers P.store in
    let f = flow_finds lines (record P { registers = o.regs; store = o.store }) o.flow d h in
    record { found = found_moved P o.regs o.store (op_of o.flow) d f.found; kind = f.kind }

finds : (lines : ℕ) (P : Spe) (d : Did) → exec_deed lines P ≡ Some d → Finds P (asks P) d
unfolding exec_deed asks
finds lines P d h = instr_finds lines P (instr_of (word_at P.store P.pc)) d (if_some (is_running P.status) _ d h).1

pub exec-finds : ExecFinds
exec-finds lines P (Ends status x) h = tt
exec-finds lines P (Goes x a) h = (finds lines P (Goes x a) h).found

pub exec-kinds : ExecKinds
exec-kinds lines P d h = (finds lines P d h).kind

-- ---- the read of the atomic status

channel_27 : (p lines rt : ℕ) (P : Spe) (d : Did) → channel_deed lines P (Read rt 27) ≡ Some d → note_of p d ≡ AtomicRead
unfolding channel_deed way_of count count_of
channel_27 p lines rt P d h = on P.channels.atomic h
  where
    on : (o : Option ℕ) → cond (nat_lt 0 (cond (is_some o) 1 0)) (option_map (λ status. Goes (gets P rt status) TakeAtomic) o) None ≡ Some d → note_of p d ≡ AtomicRead
    on None g = none_is _ d g
    on (Some v) g = sym (ap (note_of p) (some_same (Goes (gets P rt v) TakeAtomic) d g))

flow_27 : (p lines rt : ℕ) (P : Spe) (flow : Flow) (d : Did) → op_of flow ≡ Some (Read rt 27) → flow_deed lines P flow ≡ Some d → note_of p d ≡ AtomicRead
flow_27 p lines rt P (Next pc) d op h = none_is _ (Read rt 27) op
flow_27 p lines rt P (Stop code next) d op h = none_is _ (Read rt 27) op
flow_27 p lines rt P (Halt next) d op h = none_is _ (Read rt 27) op
flow_27 p lines rt P (Channel o) d op h = channel_27 p lines rt P d (ap (channel_deed lines P) (sym (some_same o (Read rt 27) op)) ∙ h)

instr_27 : (p lines rt : ℕ) (P : Spe) (o : Option Instr) (d : Did) → asked_by P o ≡ Some (Read rt 27) → instr_deed lines P o ≡ Some d → note_of p d ≡ AtomicRead
instr_27 p lines rt P None d op h = none_is _ (Read rt 27) op
instr_27 p lines rt P (Some i) d op h =
    let o = meaning i P.pc P.registers P.store in
    flow_27 p lines rt (record P { registers = o.regs; store = o.store }) o.flow d op h

-- an instruction that reads the atomic status tells that
pub read-27_note : (p lines rt : ℕ) (P : Spe) (d : Did) → exec_deed lines P ≡ Some d → asks P ≡ Some (Read rt 27) → note_of p d ≡ AtomicRead
unfolding exec_deed asks
read-27_note p lines rt P d h op = instr_27 p lines rt P (instr_of (word_at P.store P.pc)) d op (if_some (is_running P.status) _ d h).1
