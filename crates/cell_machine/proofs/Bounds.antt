-- What a step does to the commands and the tags of the processors.
use Rattle.std.proofs.Common.{◌≡◌, ℕ, zero, suc, ◌+◌, ◌<◌, ◌≤◌, ◌==◌, not, List, [], ◌∷◌, ◌++◌, map, length, arith, refl, sym, ◌∙◌, ap, ap₂, subst, slice_set, true, false, Bool, ◌⊎◌, inl, inr, length-append, true≢false}
use Rattle.std.specs.Prelude.{Option, Some, None, IfSome, All, ⊤, slice_get, option_map, option_and_then, nat_lt, is_some, cond, Result, Ok, Err}
use Rattle.std.specs.Option.{option_map_or}
use Rattle.std.proofs.lemmas.Bool.Decides.{nat_tests}
use Rattle.std.proofs.lemmas.List.{length-set, length-map}
use Rattle.std.proofs.lemmas.List.Elements.{All-append}
use Rattle.mfc_command.specs.declared.command.AtomicOp.{AtomicOp}
use Rattle.mfc_command.specs.declared.command.Command.{Command}
use Rattle.mfc_command.specs.declared.command.Kind.{Kind}
use Rattle.mfc_command.specs.declared.command.Kind.TheVariants.{Put, Get, PutList, GetList, Barrier, PutQueued, Signal}
use Rattle.mfc_command.specs.declared.command.Order.{Order}
use Rattle.mfc_command.specs.declared.command.Order.TheVariants.{Queued, Atomic as AtomicOrder}
use Rattle.mfc_command.specs.declared.command.DmaFault.{DmaFault as Fault}
use Rattle.mfc_command.specs.Check.{OrderFits, KindFits, checked, transfer_fault}
use Rattle.mfc_command.specs.declared.range.Part.{Part}
use Rattle.mfc_command.proofs.CheckLemmas.{checked-fits}
use Rattle.mfc_lists.specs.declared.Element.{Element}
use Rattle.mfc_lists.specs.Elements.{element_of, element_by, tested, unless, ElementFits}
use Rattle.mfc_lists.proofs.ElementLemmas.{fits}
use Rattle.tag_groups.specs.Settle.{settled_tags}
use Rattle.tag_groups.specs.declared.TagStatus.{TagStatus}
use Rattle.spu_decode.specs.declared.Instr.{Instr}
use Rattle.spu_decode.specs.Spelling.{instr_of}
use Rattle.spu_exec.specs.declared.flow.Flow.{Flow}
use Rattle.spu_exec.specs.declared.flow.Flow.TheVariants.{Next, Stop, Halt, Channel}
use Rattle.spu_exec.specs.Meaning.{meaning}
use Rattle.local_store.specs.Store.{word_at}
use Rattle.cell_channels.specs.Table.{way_of}
use Rattle.cell_base.specs.declared.steps.ChannelOp.{ChannelOp}
use Rattle.cell_base.specs.declared.steps.ChannelOp.TheVariants.{Read, Count, Write}
use Rattle.cell_base.specs.declared.steps.Step.{Step}
use Rattle.cell_base.specs.declared.steps.Step.TheVariants.{Exec, Piece, Elem, Retire, Atomic, Host}
use Rattle.cell_host.specs.declared.HostAction.{HostAction}
use Rattle.cell_host.specs.declared.HostAction.TheVariants.{Send, Take, TakeIntr, Store, Await, Signal as SignalTo}
use Rattle.cell_machine.specs.declared.status.Status.{Status}
use Rattle.cell_machine.specs.declared.status.Status.TheVariants.{Running, Stopped, Halted, BadWord, BadChannel, DmaFault}
use Rattle.cell_machine.specs.Spe.{Spe, Moves, ElementRead, is_running, is_faulted}
use Rattle.cell_machine.specs.State.{State, with_spe}
use Rattle.cell_machine.specs.Moves.{busy, read_of, present, is_stalled, are_all_there, stalls_of_tag, may_begin}
use Rattle.cell_machine.specs.Tags.{settled}
use Rattle.cell_machine.specs.Channels.{given as with_value, went_on, bad_channel, is_read, is_write, count, may_read, may_write, channel, read_by, read_inbound, read_status, read_atomic, issued_by, commanded, acknowledged, written, with_issued, with_resumed}
use Rattle.cell_machine.specs.Exec.{exec, exec_instr, followed, asks, asked_by, op_of}
use Rattle.cell_machine.specs.Transfers.{Left, piece, piece_of, after_part, part_in, elem, after_element, next_element, retire, copied, sent, moved as moved_part, told, is_put, is_signal, may_of, begins, may_piece, may_elem, may_retire, has_part, has_element, is_left, next_at, with_done, with_read, with_retired}
use Rattle.cell_machine.specs.Atomic.{Fate, fate, answered, moved, line_part, after_atomic, may_atomic, atomic}
use Rattle.cell_machine.specs.Hosts.{Given, Acted, taken_of, taken_interrupt_of, given, at_spe, acted, after_action, host as host_step}
use Rattle.cell_machine.specs.Memory.{MainMemory, lines_of}
use Rattle.cell_machine.specs.Next.{act, act_in, own, left, with_left, with_events, closed_in}
use Rattle.cell_machine.specs.Kept.{MovesFit}
use Rattle.cell_machine.specs.Shows.{AreSettled, IsBounded, AreBounded}
use Rattle.cell_machine.proofs.MovesShown.{get-cases}
use Rattle.cell_machine.proofs.Staying.{Keeps, both, keeps-same, issued-keeps, done-keeps, read-keeps, resumed-keeps, retired-keeps}
use Rattle.cell_machine.proofs.Elements.{part-is, element-is}
use Rattle.cell_machine.proofs.Steps.{settled-twice}
use Rattle.cell_machine.proofs.Alike.{plain, AreAlike, left-alike, closed-alike, alike-at, alike-length}

-- what holds of each outcome holds of the one that comes
pub if_cond : {X : Type 0} (b : Bool) (x y : Option X) (R : X → Type 0) → IfSome x R → IfSome y R → IfSome (cond b x y) R
if_cond true x y R h k = h
if_cond false x y R h k = k

pub on_cond : {X : Type 0} (b : Bool) (x y : X) (R : X → Type 0) → R x → R y → R (cond b x y)
on_cond true x y R h k = h
on_cond false x y R h k = k

if_map : {X Y : Type 0} (f : X → Y) (o : Option X) (R : Y → Type 0) → IfSome o (λ x. R (f x)) → IfSome (option_map f o) R
if_map f None R h = tt
if_map f (Some x) R h = h

pub if_is : {X : Type 0} (o : Option X) (x : X) (R : X → Type 0) → o ≡ Some x → IfSome o R → R x
if_is None x R e h = absurd (cc)
if_is (Some y) x R e h = let same : y ≡ x = cc in subst R same h

if_on : {X : Type 0} (o : Option X) (A B : X → Type 0) → ((x : X) → A x → B x) → IfSome o A → IfSome o B
if_on None A B k h = tt
if_on (Some x) A B k h = k x h

pub if_so : {X : Type 0} (b : Bool) (o : Option X) (R : X → Type 0) → (b ≡ true → IfSome o R) → IfSome (cond b o None) R
if_so true o R h = h refl
if_so false o R h = tt

-- ---- what a step does to the commands of its processor

-- an instruction, where it asks for this operation of a channel
pub data Does (lines : ℕ) (asked : Option ChannelOp) (m n : Moves) : Type 0 where
  stays : n ≡ m → Does lines asked m n
  issues : (d : Command) → KindFits lines d d.kind → n ≡ with_issued m d → Does lines asked m n
  resumes : (tag : ℕ) → asked ≡ Some (Write 26 tag) → n ≡ with_resumed m (stalls_of_tag m tag) → Does lines asked m n

-- and any step, where the processor has this number
pub data Moved (lines : ℕ) (s : Step) (p : ℕ) (P Q : Spe) : Type 0 where
  executes : s ≡ Exec p → Does lines (asks P) P.moves Q.moves → Moved lines s p P Q
  copies : (c e k : ℕ) (d : Command) → s ≡ Piece p c e k → slice_get P.moves.issued c ≡ Some d → has_part P.moves c e k d ≡ true → Q.moves ≡ with_done P.moves c e k → Moved lines s p P Q
  reads : (c : ℕ) (d : Command) (x : Element) → s ≡ Elem p c → slice_get P.moves.issued c ≡ Some d → has_element P.moves c d ≡ true
      → next_element lines P c d ≡ Ok x → Q.moves ≡ with_read P.moves c x → Moved lines s p P Q
  refuses : (c : ℕ) → s ≡ Elem p c → is_faulted Q.status ≡ true → Q.moves ≡ P.moves → Moved lines s p P Q
  retires : (c : ℕ) (d : Command) → s ≡ Retire p c → slice_get P.moves.issued c ≡ Some d → is_left P.moves c d ≡ true → Q.moves ≡ with_retired P.moves c → Moved lines s p P Q
  locks : s ≡ Atomic p → Q.moves ≡ P.moves → Moved lines s p P Q
  acts : s ≡ Host → Q.moves ≡ P.moves → Moved lines s p P Q

-- the command in the slot fits
abbrev pub SlotFits : ℕ → Spe → Type 0
SlotFits lines P = IfSome P.channels.slot (λ a. OrderFits lines (AtomicOrder a))

-- and a fault stays, what is in the slot fits still, and none but an atomic command changes what is reserved
pub record Goes (lines : ℕ) (s : Step) (p : ℕ) (P Q : Spe) : Type 0 where
  pub moved : Moved lines s p P Q
  pub faulted : is_faulted P.status ≡ true → is_faulted Q.status ≡ true
  pub slot : SlotFits lines P → SlotFits lines Q
  pub reserved : (s ≡ Atomic p → ⊥) → Q.reserved ≡ P.reserved

-- a command's size, and its end in the memory or in the store
pub kind-small : (lines : ℕ) (d : Command) (k : Kind) → KindFits lines d k → (d.size ≤ 16384) × (d.ea < 4294967296 → lines ≤ 524288 → d.ea + d.size < 4294967296)
kind-small lines d Put fits = let s = fits.size in let m = fits.memory in (s, λ u l. omega arith)
kind-small lines d Get fits = let s = fits.size in let m = fits.memory in (s, λ u l. omega arith)
kind-small lines d PutList fits = let s = fits.size in let m = fits.store in (s, λ u l. omega arith)
kind-small lines d GetList fits = let s = fits.size in let m = fits.store in (s, λ u l. omega arith)
kind-small lines d Barrier fits = let z : d.size ≡ 0 = fits in (omega arith, λ u l. omega arith)
kind-small lines d PutQueued fits = let s = fits.fits.size in let m = fits.fits.memory in (s, λ u l. omega arith)
kind-small lines d Signal fits = let s = fits.size in let m = fits.register in (omega arith, λ u l. omega arith)

-- ---- instructions

-- an instruction leaves what is reserved
record Does_to (lines : ℕ) (asked : Option ChannelOp) (P Q : Spe) : Type 0 where
  does : Does lines asked P.moves Q.moves
  slot : SlotFits lines P → SlotFits lines Q
  reserved : Q.reserved ≡ P.reserved

slot_same : (lines : ℕ) (P Q : Spe) → Q.channels.slot ≡ P.channels.slot → SlotFits lines P → SlotFits lines Q
slot_same lines P Q same = subst (λ (o : Option AtomicOp). IfSome o (λ a. OrderFits lines (AtomicOrder a))) (sym same)

-- and this one leaves the commands and the slot
alone : (lines : ℕ) (a : Option ChannelOp) (P Q : Spe) → Q.moves ≡ P.moves → Q.channels.slot ≡ P.channels.slot → Q.reserved ≡ P.reserved → Does_to lines a P Q
alone lines a P Q moves slot reserved = record { does = stays moves; slot = slot_same lines P Q slot; reserved = reserved }

issued_does : (lines : ℕ) (a : Option ChannelOp) (P : Spe) (r : Result Order Fault) → ((o : Order) → r ≡ Ok o → OrderFits lines o) → Does_to lines a P (issued_by P r)
issued_does lines a P (Ok (Queued d)) fits = let fit = fits (Queued d) refl in record { does = issues d fit.1 refl; slot = λ h. h; reserved = refl }
issued_does lines a P (Ok (AtomicOrder o)) fits = record { does = stays refl; slot = λ h. fits (AtomicOrder o) refl; reserved = refl }
issued_does lines a P (Err kind) fits = alone lines a P _ refl refl refl

commanded_does : (lines : ℕ) (a : Option ChannelOp) (P : Spe) (op : ℕ) → Does_to lines a P (commanded lines P op)
unfolding commanded
commanded_does lines a P op = issued_does lines a P (checked P.channels.params op lines) (λ o e. checked-fits P.channels.params op lines o e)

acknowledged_does : (lines ch value : ℕ) (P : Spe) → ch ≡ 26 → Does_to lines (Some (Write ch value)) P (acknowledged P value)
unfolding acknowledged
acknowledged_does lines ch value P e = record { does = resumes value (ap (λ c. Some (Write c value)) e) refl; slot = λ h. h; reserved = refl }

-- what holds of each of two outcomes, where the first comes by an equation
on_eq : (n k : ℕ) (x y : Spe) (R : Spe → Type 0) → (n ≡ k → R x) → R y → R (cond (n == k) x y)
on_eq n k x y R h g = on (n == k) refl
  where
    on : (b : Bool) → (n == k) ≡ b → R (cond b x y)
    on true e = h (grind (arith, nat_tests, e))
    on false e = g

went : (lines : ℕ) (a : Option ChannelOp) (P Q : Spe) → Does_to lines a P Q → Does_to lines a P (went_on Q)
went lines a P Q d = record { does = d.does; slot = d.slot; reserved = d.reserved }

written_does : (lines : ℕ) (P : Spe) (ch value : ℕ) → Does_to lines (Some (Write ch value)) P (written lines P ch value)
unfolding written
written_does lines P ch value =
    let a : Option ChannelOp = Some (Write ch value) in
    let R : Spe → Type 0 = Does_to lines a P in
    on_cond (ch == 1) _ _ R (alone lines a P _ refl refl refl) (on_cond (ch == 2) _ _ R (alone lines a P _ refl refl refl)
    (on_cond (ch == 21) _ _ R (commanded_does lines a P value)
    (on_cond (ch == 22) _ _ R (alone lines a P _ refl refl refl) (on_cond (ch == 23) _ _ R (alone lines a P _ refl refl refl)
    (on_eq ch 26 _ _ R (λ e. went lines a P (acknowledged P value) (acknowledged_does lines ch value P e))
    (on_cond (ch == 28) _ _ R (alone lines a P _ refl refl refl) (on_cond (ch == 30) _ _ R (alone lines a P _ refl refl refl) (alone lines a P _ refl refl refl))))))))

status_does : (lines : ℕ) (a : Option ChannelOp) (P : Spe) (rt : ℕ) (o : Option TagStatus) → IfSome (read_status P rt o) (Does_to lines a P)
status_does lines a P rt None = tt
status_does lines a P rt (Some status) = alone lines a P _ refl refl refl

inbound_does : (lines : ℕ) (a : Option ChannelOp) (P : Spe) (rt : ℕ) (xs : List ℕ) → IfSome (read_inbound P rt xs) (Does_to lines a P)
inbound_does lines a P rt [] = tt
inbound_does lines a P rt (x ∷ xs) = alone lines a P _ refl refl refl

atomic_does : (lines : ℕ) (a : Option ChannelOp) (P : Spe) (rt : ℕ) (o : Option ℕ) → IfSome (read_atomic P rt o) (Does_to lines a P)
atomic_does lines a P rt None = tt
atomic_does lines a P rt (Some status) = alone lines a P _ refl refl refl

read_does : (lines : ℕ) (a : Option ChannelOp) (P : Spe) (rt ch : ℕ) → IfSome (read_by P rt ch) (Does_to lines a P)
unfolding read_by
read_does lines a P rt ch =
    let R : Spe → Type 0 = Does_to lines a P in
    if_cond (ch == 0) _ _ R (alone lines a P _ refl refl refl) (if_cond (ch == 3) _ _ R (alone lines a P _ refl refl refl)
    (if_cond (ch == 4) _ _ R (alone lines a P _ refl refl refl) (if_cond (ch == 11) _ _ R (alone lines a P _ refl refl refl)
    (if_cond (ch == 12) _ _ R (alone lines a P _ refl refl refl) (if_cond (ch == 24) _ _ R (status_does lines a P rt P.tags.status)
    (if_cond (ch == 25) _ _ R (alone lines a P _ refl refl refl) (if_cond (ch == 27) _ _ R (atomic_does lines a P rt P.channels.atomic)
    (if_cond (ch == 29) _ _ R (inbound_does lines a P rt P.inbound) tt))))))))

channel_does : (lines : ℕ) (P : Spe) (op : ChannelOp) → IfSome (channel lines P op) (Does_to lines (Some op) P)
unfolding channel
channel_does lines P (Read rt ch) =
    let a : Option ChannelOp = Some (Read rt ch) in
    let R : Spe → Type 0 = Does_to lines a P in
    if_cond (is_read (way_of ch)) _ _ R (if_cond (may_read P ch) _ _ R (read_does lines a P rt ch) tt) (alone lines a P _ refl refl refl)
channel_does lines P (Count rt ch) =
    let a : Option ChannelOp = Some (Count rt ch) in
    if_cond (is_some (way_of ch)) (Some (with_value P rt (count P ch))) (Some (bad_channel P)) (Does_to lines a P) (alone lines a P _ refl refl refl) (alone lines a P _ refl refl refl)
channel_does lines P (Write ch value) =
    let a : Option ChannelOp = Some (Write ch value) in
    let R : Spe → Type 0 = Does_to lines a P in
    if_cond (is_write (way_of ch)) _ _ R (if_cond (may_write P ch value) _ _ R (written_does lines P ch value) tt) (alone lines a P _ refl refl refl)

followed_does : (lines : ℕ) (P : Spe) (flow : Flow) → IfSome (followed lines P flow) (Does_to lines (op_of flow) P)
followed_does lines P (Next pc) = alone lines _ P _ refl refl refl
followed_does lines P (Stop code next) = alone lines _ P _ refl refl refl
followed_does lines P (Halt next) = alone lines _ P _ refl refl refl
followed_does lines P (Channel op) = channel_does lines P op

instr_does : (lines : ℕ) (P : Spe) (o : Option Instr) → IfSome (exec_instr lines P o) (Does_to lines (asked_by P o) P)
instr_does lines P None = alone lines _ P _ refl refl refl
instr_does lines P (Some i) =
    let o = meaning i P.pc P.registers P.store in
    if_on (followed lines (record P { registers = o.regs; store = o.store }) o.flow) (Does_to lines (op_of o.flow) (record P { registers = o.regs; store = o.store })) (Does_to lines (op_of o.flow) P)
    (λ Q d. record { does = d.does; slot = d.slot; reserved = d.reserved }) (followed_does lines (record P { registers = o.regs; store = o.store }) o.flow)

pub running-not : (s : Status) → is_running s ≡ true → is_faulted s ≡ true → ⊥
running-not Running h k = true≢false (sym k)
running-not (Stopped code) h k = true≢false (sym k)
running-not Halted h k = true≢false (sym k)
running-not BadWord h k = true≢false (sym k)
running-not BadChannel h k = true≢false (sym k)
running-not (DmaFault kind) h k = true≢false (sym h)

exec_goes : (lines p : ℕ) (P : Spe) → IfSome (exec lines P) (Goes lines (Exec p) p P)
unfolding exec asks
exec_goes lines p P = if_so (is_running P.status) _ (Goes lines (Exec p) p P)
    (λ runs. if_on (exec_instr lines P (instr_of (word_at P.store P.pc))) (Does_to lines (asks P) P) (Goes lines (Exec p) p P)
    (λ Q d. record { moved = executes refl d.does; faulted = λ k. absurd (running-not P.status runs k); slot = d.slot; reserved = λ n. d.reserved }) (instr_does lines P (instr_of (word_at P.store P.pc))))

-- ---- steps of the flow controller

-- a step of the flow controller is allowed where no fault stands
pub not-faulted : (P : Spe) (c : ℕ) (f : Command → Bool) → may_of P c f ≡ true → is_faulted P.status ≡ true → ⊥
not-faulted P c f h k = true≢false (sym (both (not (is_faulted P.status)) (begins P.moves c f) h).0 ∙ ap not k)

-- which command it is, and that it may begin
pub may-is : (P : Spe) (c : ℕ) (f : Command → Bool) → may_of P c f ≡ true → (d : Command) × (slice_get P.moves.issued c ≡ Some d) × (f d ≡ true)
may-is P c f h = on (slice_get P.moves.issued c) refl (both (option_map_or f (slice_get P.moves.issued c) false) (may_begin P.moves c) (both (not (is_faulted P.status)) (begins P.moves c f) h).1).0
  where
    on : (o : Option Command) → slice_get P.moves.issued c ≡ o → option_map_or f o false ≡ true → (d : Command) × (slice_get P.moves.issued c ≡ Some d) × (f d ≡ true)
    on None at g = absurd (true≢false (sym g))
    on (Some d) at g = (d, at, g)

pub may-begun : (P : Spe) (c : ℕ) (f : Command → Bool) → may_of P c f ≡ true → may_begin P.moves c ≡ true
may-begun P c f h = (both (option_map_or f (slice_get P.moves.issued c) false) (may_begin P.moves c) (both (not (is_faulted P.status)) (begins P.moves c f) h).1).1

pub passes : (P : Spe) (c : ℕ) (f : Command → Bool) (d : Command) → may_of P c f ≡ true → slice_get P.moves.issued c ≡ Some d → f d ≡ true
passes P c f d h at = let is = may-is P c f h in let same : is.0 ≡ d = some_same is.0 d (sym is.1 ∙ at) in ap f (sym same) ∙ is.2
  where
    some_same : (x y : Command) → Some x ≡ Some y → x ≡ y
    some_same x y e = cc

-- neither a copy nor what is told of a stall changes these
record Like (P Q : Spe) : Type 0 where
  moves : Q.moves ≡ P.moves
  status : Q.status ≡ P.status
  slot : Q.channels.slot ≡ P.channels.slot
  reserved : Q.reserved ≡ P.reserved

told_like : (b : Bool) (P : Spe) (tag : ℕ) → Like P (cond b (told P tag) P)
told_like true P tag = record { moves = refl; status = refl; slot = refl; reserved = refl }
told_like false P tag = record { moves = refl; status = refl; slot = refl; reserved = refl }

copied_like : (memory : MainMemory) (P : Spe) (b : Bool) (x : Part) → Like P (copied memory P b x).spe
unfolding copied
copied_like memory P true x = record { moves = refl; status = refl; slot = refl; reserved = refl }
copied_like memory P false x = record { moves = refl; status = refl; slot = refl; reserved = refl }

-- nor what is sent
sent_like : (memory : MainMemory) (P : Spe) (x : Part) → Like P (sent memory P x).spe
unfolding sent
sent_like memory P x = record { moves = refl; status = refl; slot = refl; reserved = refl }

part_like : (memory : MainMemory) (P : Spe) (kind : Kind) (x : Part) → Like P (moved_part memory P kind x).spe
part_like memory P kind x = on_cond (is_signal kind) _ _ (λ (y : Left). Like P y.spe) (sent_like memory P x) (copied_like memory P (is_put kind) x)

-- of each command and of each element there is
pub each_of : {X Y : Type 0} (o : Option X) (f : X → Option Y) (R : Y → Type 0) → ((x : X) → o ≡ Some x → IfSome (f x) R) → IfSome (option_and_then f o) R
each_of None f R h = tt
each_of (Some x) f R h = h x refl

pub each_map : {X Y : Type 0} (o : Option X) (f : X → Y) (R : Y → Type 0) → ((x : X) → o ≡ Some x → R (f x)) → IfSome (option_map f o) R
each_map None f R h = tt
each_map (Some x) f R h = h x refl

piece_goes : (lines p : ℕ) (memory : MainMemory) (P : Spe) (c e k : ℕ) → IfSome (piece memory P c e k) (λ x. Goes lines (Piece p c e k) p P x.spe)
unfolding piece may_piece
piece_goes lines p memory P c e k = if_so (may_of P c (has_part P.moves c e k)) _ (λ x. Goes lines (Piece p c e k) p P x.spe) (λ may.
    each_of (slice_get P.moves.issued c) _ (λ x. Goes lines (Piece p c e k) p P x.spe) (λ d at.
    each_map (present P.moves.read c d) (piece_of memory P c k d) (λ x. Goes lines (Piece p c e k) p P x.spe) (λ x there.
    let has = passes P c (has_part P.moves c e k) d may at in
    let of = part-is P.moves c e k d has in
    let same : of.element ≡ x = some_same of.element x (sym of.there ∙ there) in
    let number : x.number ≡ e = sym (ap (λ (y : Element). y.number) same) ∙ of.number in
    let copy = part_like memory (after_part P c x.number k d) d.kind (part_in x k) in
    let tell = told_like (is_stalled (with_done P.moves c x.number k) c d) (record P { moves = with_done P.moves c x.number k }) d.tag in
    record {
      moved = copies c e k d refl at has (copy.moves ∙ tell.moves ∙ ap (λ n. with_done P.moves c n k) number);
      faulted = λ f. absurd (not-faulted P c (has_part P.moves c e k) may f);
      slot = slot_same lines P (piece_of memory P c k d x).spe (copy.slot ∙ tell.slot);
      reserved = λ n. copy.reserved ∙ tell.reserved;
    })))
  where
    some_same : (a b : Element) → Some a ≡ Some b → a ≡ b
    some_same a b q = cc

elem_goes : (lines p : ℕ) (P : Spe) (c : ℕ) → IfSome (elem lines P c) (Goes lines (Elem p c) p P)
unfolding elem may_elem
elem_goes lines p P c = if_so (may_of P c (has_element P.moves c)) _ (Goes lines (Elem p c) p P) (λ may.
    each_map (slice_get P.moves.issued c) (λ d. after_element P c d (next_element lines P c d)) (Goes lines (Elem p c) p P) (λ d at.
    after may d at (next_element lines P c d) refl))
  where
    after : may_of P c (has_element P.moves c) ≡ true → (d : Command) → slice_get P.moves.issued c ≡ Some d → (r : Result Element Fault) → next_element lines P c d ≡ r
        → Goes lines (Elem p c) p P (after_element P c d r)
    after may d at (Ok x) is =
        let tell = told_like (is_stalled (with_read P.moves c x) c d) (record P { moves = with_read P.moves c x }) d.tag in
        record {
          moved = reads c d x refl at (passes P c (has_element P.moves c) d may at) is tell.moves;
          faulted = λ f. absurd (not-faulted P c (has_element P.moves c) may f);
          slot = slot_same lines P (after_element P c d (Ok x)) tell.slot;
          reserved = λ n. tell.reserved;
        }
    after may d at (Err kind) is = record { moved = refuses c refl refl refl; faulted = λ f. refl; slot = λ h. h; reserved = λ n. refl }

retire_goes : (lines p : ℕ) (P : Spe) (c : ℕ) → IfSome (retire P c) (Goes lines (Retire p c) p P)
unfolding retire may_retire
retire_goes lines p P c = if_so (may_of P c (is_left P.moves c)) _ (Goes lines (Retire p c) p P) (λ may.
    let is = may-is P c (is_left P.moves c) may in
    record { moved = retires c is.0 refl is.1 is.2 refl; faulted = λ f. absurd (not-faulted P c (is_left P.moves c) may f); slot = λ h. h; reserved = λ n. refl })

moved_like : (memory : MainMemory) (P : Spe) (a : AtomicOp) (f : Fate) → Like P (moved memory P a f).spe
moved_like memory P a Fate.Got = copied_like memory P false (line_part a)
moved_like memory P a Fate.Stored = copied_like memory P true (line_part a)
moved_like memory P a Fate.Lost = record { moves = refl; status = refl; slot = refl; reserved = refl }

atomic_goes : (lines p : ℕ) (memory : MainMemory) (P : Spe) → IfSome (atomic memory P) (λ x. Goes lines (Atomic p) p P x.spe)
unfolding atomic may_atomic
atomic_goes lines p memory P = if_so (may_atomic P) _ (λ x. Goes lines (Atomic p) p P x.spe) (λ may.
    each_map P.channels.slot (after_atomic memory P) (λ x. Goes lines (Atomic p) p P x.spe) (λ a at.
    let like = moved_like memory (answered memory P a) a (fate memory P a) in
    record {
      moved = locks refl like.moves;
      faulted = λ f. ap is_faulted like.status ∙ f;
      slot = λ h. subst (λ (o : Option AtomicOp). IfSome o (λ b. OrderFits lines (AtomicOrder b))) (sym like.slot) tt;
      reserved = λ n. absurd (n refl);
    }))

-- what is reserved stays, by each kind of step but an atomic one
pub exec-reserved : (lines : ℕ) (P : Spe) → IfSome (exec lines P) (λ Q. Q.reserved ≡ P.reserved)
exec-reserved lines P = if_on (exec lines P) (Goes lines (Exec 0) 0 P) (λ Q. Q.reserved ≡ P.reserved) (λ Q g. g.reserved (λ e. absurd (cc))) (exec_goes lines 0 P)

pub elem-reserved : (lines : ℕ) (P : Spe) (c : ℕ) → IfSome (elem lines P c) (λ Q. Q.reserved ≡ P.reserved)
elem-reserved lines P c = if_on (elem lines P c) (Goes lines (Elem 0 c) 0 P) (λ Q. Q.reserved ≡ P.reserved) (λ Q g. g.reserved (λ e. absurd (cc))) (elem_goes lines 0 P c)

pub retire-reserved : (P : Spe) (c : ℕ) → IfSome (retire P c) (λ Q. Q.reserved ≡ P.reserved)
retire-reserved P c = if_on (retire P c) (Goes 0 (Retire 0 c) 0 P) (λ Q. Q.reserved ≡ P.reserved) (λ Q g. g.reserved (λ e. absurd (cc))) (retire_goes 0 0 P c)

pub piece-reserved : (memory : MainMemory) (P : Spe) (c e k : ℕ) → IfSome (piece memory P c e k) (λ x. x.spe.reserved ≡ P.reserved)
piece-reserved memory P c e k = if_on (piece memory P c e k) (λ x. Goes 0 (Piece 0 c e k) 0 P x.spe) (λ x. x.spe.reserved ≡ P.reserved) (λ x g. g.reserved (λ f. absurd (cc))) (piece_goes 0 0 memory P c e k)

left_goes : (memory : MainMemory) (s : Step) (p : ℕ) (P : Spe) (o : Option Spe) → IfSome o (Goes (lines_of memory) s p P) → IfSome (option_map (left memory) o) (λ x. Goes (lines_of memory) s p P x.spe)
left_goes memory s p P None h = tt
left_goes memory s p P (Some Q) h = h

-- ---- the host

-- an action of the host leaves a processor's status, commands and tags
abbrev pub IsLike : ℕ → Spe → Spe → Type 0
IsLike p P Q = (Q.tags ≡ P.tags) × (Q.moves ≡ P.moves) × (Q.status ≡ P.status) × (Q.channels.slot ≡ P.channels.slot) × (Q.reserved ≡ P.reserved)

taken_like : (p : ℕ) (P : Spe) (xs : List ℕ) → IfSome (taken_of P xs) (λ g. IsLike p P g.spe)
taken_like p P [] = tt
taken_like p P (x ∷ xs) = (refl, refl, refl, refl, refl)

interrupt_like : (p : ℕ) (P : Spe) (xs : List ℕ) → IfSome (taken_interrupt_of P xs) (λ g. IsLike p P g.spe)
interrupt_like p P [] = tt
interrupt_like p P (x ∷ xs) = (refl, refl, refl, refl, refl)

pub given-like : (q : ℕ) (a : HostAction) (P : Spe) → IfSome (given a P) (λ g. IsLike q P g.spe)
given-like q (Send p value) P = if_cond (nat_lt (length P.inbound) 4) _ _ (λ g. IsLike q P g.spe) (refl, refl, refl, refl, refl) tt
given-like q (Take p) P = taken_like q P P.outbound
given-like q (TakeIntr p) P = interrupt_like q P P.interrupt
given-like q (Store ea len bytes) P = (refl, refl, refl, refl, refl)
given-like q (Await p) P = if_cond (is_running P.status) _ _ (λ g. IsLike q P g.spe) tt (refl, refl, refl, refl, refl)
given-like q (SignalTo p r value) P = (refl, refl, refl, refl, refl)

pub given-reserved : (a : HostAction) (P : Spe) → IfSome (given a P) (λ g. g.spe.reserved ≡ P.reserved)
given-reserved a P = if_on (given a P) (λ g. IsLike 0 P g.spe) (λ g. g.spe.reserved ≡ P.reserved) (λ g like. like.4) (given-like 0 a P)

-- one processor at most is another, in this relation to what it was
pub record Changed (R : ℕ → Spe → Spe → Type 0) (old new : List Spe) : Type 0 where
  pub p : ℕ
  pub was : Spe
  pub is : Spe
  pub at : slice_get old p ≡ Some was
  pub set : new ≡ slice_set old p is
  pub how : R p was is

-- or, where A, none is
abbrev pub Changes : Type 0 → (ℕ → Spe → Spe → Type 0) → List Spe → List Spe → Type 0
Changes A R old new = (A × (new ≡ old)) ⊎ Changed R old new

-- and besides it delivers and raises
abbrev pub After : (List Spe → List Spe → Type 0) → List Spe → List Spe → Type 0
After C old new = (mid : List Spe) × C old mid × AreAlike mid new

-- a step of one processor
in_changes : {X : Type 0} (R : ℕ → Spe → Spe → Type 0) (f : Spe → Option X) (spe_of : X → Spe) (spes : List Spe) (p : ℕ) (make : X → State)
    → ((P : Spe) → IfSome (f P) (λ x. R p P (spe_of x))) → ((x : X) → AreAlike (slice_set spes p (spe_of x)) (make x).spes)
    → IfSome (option_and_then (λ P. option_map make (f P)) (slice_get spes p)) (λ N. After (Changed R) spes N.spes)
in_changes R f spe_of spes p make each sets = on (slice_get spes p) refl
  where
    made : (P : Spe) → slice_get spes p ≡ Some P → (o : Option _) → IfSome o (λ x. R p P (spe_of x)) → IfSome (option_map make o) (λ N. After (Changed R) spes N.spes)
    made P at None h = tt
    made P at (Some x) h = (slice_set spes p (spe_of x), record { p = p; was = P; is = spe_of x; at = at; set = refl; how = h }, sets x)

    on : (o : Option Spe) → slice_get spes p ≡ o → IfSome (option_and_then (λ P. option_map make (f P)) o) (λ N. After (Changed R) spes N.spes)
    on None at = tt
    on (Some P) at = made P at (f P) (each P)

at_changes : (M : State) (p : ℕ) (a : HostAction) → IfSome (at_spe M p (given a)) (λ d. Changes ⊤ IsLike M.spes d.state.spes)
at_changes M p a = on (slice_get M.spes p) refl
  where
    made : (P : Spe) → slice_get M.spes p ≡ Some P → (o : Option Given) → IfSome o (λ g. IsLike p P g.spe) → IfSome (option_map (λ g. record { state = with_spe M p g.spe; took = g.took }) o) (λ (d : Acted). Changes ⊤ IsLike M.spes d.state.spes)
    made P at None h = tt
    made P at (Some g) h = inr (record { p = p; was = P; is = g.spe; at = at; set = refl; how = h })

    on : (o : Option Spe) → slice_get M.spes p ≡ o → IfSome (option_and_then (λ P. option_map (λ g. record { state = with_spe M p g.spe; took = g.took }) (given a P)) o) (λ (d : Acted). Changes ⊤ IsLike M.spes d.state.spes)
    on None at = tt
    on (Some P) at = made P at (given a P) (given-like p a P)

acted_changes : (M : State) (a : HostAction) → IfSome (acted M a) (λ d. Changes ⊤ IsLike M.spes d.state.spes)
unfolding acted
acted_changes M (Send p value) = at_changes M p (Send p value)
acted_changes M (Take p) = at_changes M p (Take p)
acted_changes M (TakeIntr p) = at_changes M p (TakeIntr p)
acted_changes M (Store ea len bytes) = inl (tt, refl)
acted_changes M (Await p) = at_changes M p (Await p)
acted_changes M (SignalTo p r value) = at_changes M p (SignalTo p r value)

host_changes : (M : State) → IfSome (host_step M) (λ N. Changes ⊤ IsLike M.spes N.spes)
unfolding host_step
host_changes M = on (slice_get M.host.script M.host.done)
  where
    on : (o : Option HostAction) → IfSome (option_and_then (λ a. option_map after_action (acted M a)) o) (λ N. Changes ⊤ IsLike M.spes N.spes)
    on None = tt
    on (Some a) = if_map after_action (acted M a) (λ N. Changes ⊤ IsLike M.spes N.spes) (acted_changes M a)

-- ---- the whole machine

-- a step of one processor changes that one
in_goes : (M : State) (p : ℕ) (s : Step) → ((P : Spe) → IfSome (own M.memory s P) (λ x. Goes (lines_of M.memory) s p P x.spe)) → IfSome (act_in M p s) (λ N. After (Changed (Goes (lines_of M.memory) s)) M.spes N.spes)
in_goes M p s each = in_changes (Goes (lines_of M.memory) s) (own M.memory s) (λ x. x.spe) M.spes p (with_left M p) each (left-alike M p)

like_goes : (lines p : ℕ) (P Q : Spe) → IsLike p P Q → Goes lines Host p P Q
like_goes lines p P Q like = record { moved = acts refl like.1; faulted = λ f. ap is_faulted like.2 ∙ f; slot = slot_same lines P Q like.3; reserved = λ n. like.4 }

-- the step is another's: the processor is as it was
abbrev pub is_at : ℕ → Step → Bool
is_at p (Exec q) = q == p
is_at p (Piece q c e k) = q == p
is_at p (Elem q c) = q == p
is_at p (Retire q c) = q == p
is_at p (Atomic q) = q == p
is_at p Host = false

abbrev ActChanges : State → Step → State → Type 0
ActChanges M s N = After (Changes (s ≡ Host) (Goes (lines_of M.memory) s)) M.spes N.spes

one_changed : {A : Type 0} {R : ℕ → Spe → Spe → Type 0} (old new : List Spe) → After (Changed R) old new → After (Changes A R) old new
one_changed old new (mid, changed, alike) = (mid, inr changed, alike)

act_changes : (M : State) (s : Step) → IfSome (act M s) (ActChanges M s)
act_changes M (Exec p) = if_on (act_in M p (Exec p)) _ _ (λ N. one_changed M.spes N.spes) (in_goes M p (Exec p) (λ P. left_goes M.memory (Exec p) p P _ (exec_goes (lines_of M.memory) p P)))
act_changes M (Piece p c e k) = if_on (act_in M p (Piece p c e k)) _ _ (λ N. one_changed M.spes N.spes) (in_goes M p (Piece p c e k) (λ P. piece_goes (lines_of M.memory) p M.memory P c e k))
act_changes M (Elem p c) = if_on (act_in M p (Elem p c)) _ _ (λ N. one_changed M.spes N.spes) (in_goes M p (Elem p c) (λ P. left_goes M.memory (Elem p c) p P _ (elem_goes (lines_of M.memory) p P c)))
act_changes M (Retire p c) = if_on (act_in M p (Retire p c)) _ _ (λ N. one_changed M.spes N.spes) (in_goes M p (Retire p c) (λ P. left_goes M.memory (Retire p c) p P _ (retire_goes (lines_of M.memory) p P c)))
act_changes M (Atomic p) = if_on (act_in M p (Atomic p)) _ _ (λ N. one_changed M.spes N.spes) (in_goes M p (Atomic p) (λ P. atomic_goes (lines_of M.memory) p M.memory P))
act_changes M Host = if_on (host_step M) _ _ (λ N k. (N.spes, weaken M.spes N.spes k, refl)) (host_changes M)
  where
    weaken : (old new : List Spe) → Changes ⊤ IsLike old new → Changes (Host ≡ Host) (Goes (lines_of M.memory) Host) old new
    weaken old new (inl same) = inl (refl, same.1)
    weaken old new (inr x) = inr (record { p = x.p; was = x.was; is = x.is; at = x.at; set = x.set; how = like_goes (lines_of M.memory) x.p x.was x.is x.how })

-- what the step changes of a state that it leads to
act_after : (M : State) (s : Step) (N : State) → act M s ≡ Some N → ActChanges M s N
act_after M s N e = if_is (act M s) N (ActChanges M s) e (act_changes M s)

-- the processors are settled
settled_all : (spes : List Spe) → AreSettled (map settled spes)
settled_all [] = refl
settled_all (P ∷ spes) = ap₂ (λ Q xs. Q ∷ xs) (settled-twice P) (settled_all spes)

pub act-settled : (M : State) (s : Step) (N : State) → AreSettled (closed_in M s N).spes
act-settled M s N = settled_all (with_events M s N).spes

pub settled-at : (spes : List Spe) (p : ℕ) (P : Spe) → AreSettled spes → slice_get spes p ≡ Some P → settled P ≡ P
settled-at [] p P all at = absurd (cc)
settled-at (x ∷ spes) zero P all at = let same : x ≡ P = cc in subst (λ y. settled y ≡ y) same (let h : settled x ∷ map settled spes ≡ x ∷ spes = all in cc)
settled-at (x ∷ spes) (suc p) P all at = settled-at spes p P (let h : settled x ∷ map settled spes ≡ x ∷ spes = all in cc) at

pub like-settled : (p : ℕ) (P Q : Spe) → IsLike p P Q → settled P ≡ P → settled Q ≡ Q
like-settled p P Q like h =
    let tags : (settled P).tags ≡ P.tags = ap (λ (x : Spe). x.tags) h in
    ap (λ t. record Q { tags = t }) (ap (λ t. settled_tags (busy Q.moves) (length Q.moves.issued) t) like.0
    ∙ ap (λ m. settled_tags (busy m) (length m.issued) P.tags) like.1 ∙ tags ∙ sym like.0)

-- and the commands stay bounded
pub set_cases : {X : Type 0} (xs : List X) (p q : ℕ) (y x : X) (G : Type 0) → slice_get (slice_set xs p y) q ≡ Some x → (x ≡ y → G) → (slice_get xs q ≡ Some x → G) → G
set_cases [] p q y x G h new old = absurd (cc)
set_cases (z ∷ xs) zero zero y x G h new old = new (cc)
set_cases (z ∷ xs) zero (suc q) y x G h new old = old h
set_cases (z ∷ xs) (suc p) zero y x G h new old = old h
set_cases (z ∷ xs) (suc p) (suc q) y x G h new old = set_cases xs p q y x G h new old

pub map-got : {X Y : Type 0} (f : X → Y) (xs : List X) (q : ℕ) (y : Y) → slice_get (map f xs) q ≡ Some y → (x : X) × (slice_get xs q ≡ Some x) × (f x ≡ y)
map-got f [] q y h = absurd (cc)
map-got f (x ∷ xs) zero y h = (x, refl, (cc))
map-got f (x ∷ xs) (suc q) y h = map-got f xs q y h

fits_more : (lines : ℕ) (issued : List Command) (x : Command) → KindFits lines x x.kind → MovesFit lines issued → MovesFit lines (issued ++ x ∷ [])
fits_more lines issued x fit fits c d at =
    get-cases issued x d c (KindFits lines d d.kind) at
    (λ k same. subst (λ y. KindFits lines y y.kind) (sym same) fit)
    (λ old. fits c d old)

tested_is : (lines : ℕ) (y x : Element) → tested lines y ≡ Ok x → ElementFits lines x × (x.number ≡ y.number)
tested_is lines y x h = on (transfer_fault y.ls y.ea y.size lines) refl h
  where
    on : (o : Option Fault) → o ≡ transfer_fault y.ls y.ea y.size lines → unless o y ≡ Ok x → ElementFits lines x × (x.number ≡ y.number)
    on (Some kind) e g = absurd (cc)
    on None e g = let same : y ≡ x = cc in (subst (ElementFits lines) same (fits lines y e), ap (λ (z : Element). z.number) (sym same))

-- an element that was read fits, and its number is that of those before it
pub read-is : (lines : ℕ) (P : Spe) (c : ℕ) (d : Command) (x : Element) → next_element lines P c d ≡ Ok x → ElementFits lines x × (x.number ≡ length (read_of P.moves.read c))
unfolding element_of
read-is lines P c d x is =
    let at = next_at P.moves c d in
    tested_is lines (element_by d.ls (read_of P.moves.read c) (word_at P.store at) (word_at P.store (at + 4))) x is

-- what IsBounded says, of moves alone
record MovesBounded (lines n : ℕ) (m : Moves) : Type 0 where
  some : 0 < lines
  few : length m.issued ≤ n
  fits : MovesFit lines m.issued
  elements : All (λ r. ElementFits lines r.element) m.read

bounded_moves : (lines n : ℕ) (Q : Spe) (m : Moves) → Q.moves ≡ m → SlotFits lines Q → MovesBounded lines n m → IsBounded lines n Q
bounded_moves lines n Q m same fit is = record {
  some = is.some;
  slot = fit;
  few = subst (λ (k : Moves). length k.issued ≤ n) (sym same) is.few;
  fits = subst (λ (k : Moves). MovesFit lines k.issued) (sym same) is.fits;
  elements = subst (λ (k : Moves). All (λ r. ElementFits lines r.element) k.read) (sym same) is.elements;
}

bounded_same : (lines n : ℕ) (P Q : Spe) → Q.moves ≡ P.moves → SlotFits lines Q → IsBounded lines n P → IsBounded lines (n + 1) Q
bounded_same lines n P Q same fit is = bounded_moves lines (n + 1) Q P.moves same fit (record { some = is.some; few = let l = is.few in omega arith; fits = is.fits; elements = is.elements })

one_more : (lines n : ℕ) (s : Step) (p : ℕ) (P Q : Spe) → IsBounded lines n P → SlotFits lines Q → Moved lines s p P Q → IsBounded lines (n + 1) Q
one_more lines n s p P Q is fit (executes e (stays same)) = bounded_same lines n P Q same fit is
one_more lines n s p P Q is fit (executes e (issues d kind same)) = bounded_moves lines (n + 1) Q (with_issued P.moves d) same fit (record {
  some = is.some;
  few = let l = is.few in let a = length-append P.moves.issued (d ∷ []) in omega arith;
  fits = fits_more lines P.moves.issued d kind is.fits;
  elements = is.elements;
})
one_more lines n s p P Q is fit (executes e (resumes tag asked same)) = bounded_moves lines (n + 1) Q (with_resumed P.moves (stalls_of_tag P.moves tag)) same fit (record { some = is.some; few = let l = is.few in omega arith; fits = is.fits; elements = is.elements })
one_more lines n s p P Q is fit (copies c e k d of at has same) = bounded_moves lines (n + 1) Q (with_done P.moves c e k) same fit (record { some = is.some; few = let l = is.few in omega arith; fits = is.fits; elements = is.elements })
one_more lines n s p P Q is fit (reads c d x of at has got same) = bounded_moves lines (n + 1) Q (with_read P.moves c x) same fit (record {
  some = is.some;
  few = let l = is.few in omega arith;
  fits = is.fits;
  elements = All-append (λ r. ElementFits lines r.element) P.moves.read (record { cmd = c; element = x } ∷ []) is.elements (one (record { cmd = c; element = x }) (read-is lines P c d x got).0);
})
  where
    one : (r : ElementRead) → ElementFits lines r.element → All (λ (y : ElementRead). ElementFits lines y.element) (r ∷ [])
    one r fit zero y h = fit
    one r fit (suc k) y h = absurd (omega arith)
one_more lines n s p P Q is fit (refuses c of fault same) = bounded_same lines n P Q same fit is
one_more lines n s p P Q is fit (retires c d of at left same) = bounded_moves lines (n + 1) Q (with_retired P.moves c) same fit (record { some = is.some; few = let l = is.few in omega arith; fits = is.fits; elements = is.elements })
one_more lines n s p P Q is fit (locks of same) = bounded_same lines n P Q same fit is
one_more lines n s p P Q is fit (acts of same) = bounded_same lines n P Q same fit is

weaker : (lines n : ℕ) (P : Spe) → IsBounded lines n P → IsBounded lines (n + 1) P
weaker lines n P is = record { some = is.some; few = let l = is.few in omega arith; fits = is.fits; elements = is.elements; slot = is.slot }

bounded_after : (lines n : ℕ) (s : Step) (old new : List Spe) → AreBounded lines n old → Changes (s ≡ Host) (Goes lines s) old new → AreBounded lines (n + 1) new
bounded_after lines n s old new all (inl same) p P at = weaker lines n P (all p P (subst (λ xs. slice_get xs p ≡ Some P) same.1 at))
bounded_after lines n s old new all (inr x) p P at =
    set_cases old x.p p x.is P (IsBounded lines (n + 1) P) (subst (λ xs. slice_get xs p ≡ Some P) x.set at)
    (λ same. subst (IsBounded lines (n + 1)) (sym same) (let was = all x.p x.was x.at in one_more lines n s x.p x.was x.is was (x.how.slot was.slot) x.how.moved))
    (λ h. weaker lines n P (all p P h))

settled_bounded : (lines n : ℕ) (spes : List Spe) → AreBounded lines n spes → AreBounded lines n (map settled spes)
settled_bounded lines n spes all p P at =
    let g = map-got settled spes p P at in
    let is = all p g.0 g.1 in
    subst (IsBounded lines n) g.2 (record { some = is.some; few = is.few; fits = is.fits; elements = is.elements; slot = is.slot })

bounded_plain : (lines n : ℕ) (P Q : Spe) → plain P ≡ plain Q → IsBounded lines n P → IsBounded lines n Q
bounded_plain lines n P Q same is =
    let K : IsBounded lines n (plain P) = record { some = is.some; few = is.few; fits = is.fits; elements = is.elements; slot = is.slot } in
    let L = subst (IsBounded lines n) same K in
    record { some = L.some; few = L.few; fits = L.fits; elements = L.elements; slot = L.slot }

bounded_alike : (lines n : ℕ) (xs ys : List Spe) → AreAlike xs ys → AreBounded lines n xs → AreBounded lines n ys
bounded_alike lines n xs ys alike all p P at = let g = alike-at ys xs p P (sym alike) at in bounded_plain lines n g.0 P (sym g.2) (all p g.0 g.1)

pub act-bounded : (M : State) (s : Step) (N : State) (lines n : ℕ) → lines_of M.memory ≡ lines → act M s ≡ Some N → AreBounded lines n M.spes → AreBounded lines (n + 1) (closed_in M s N).spes
act-bounded M s N lines n same e all =
    let after = act_after M s N e in
    bounded_alike lines (n + 1) (map settled after.0) (closed_in M s N).spes (closed-alike M s N after.0 after.2)
    (settled_bounded lines (n + 1) after.0 (bounded_after lines n s M.spes after.0 all
    (subst (λ k. Changes (s ≡ Host) (Goes k s) M.spes after.0) same after.1)))

-- ---- one processor, at a step of the machine

-- what the step does to it: it is another's, or its own
pub data Seen (lines : ℕ) (s : Step) (p : ℕ) (P Q : Spe) : Type 0 where
  another : is_at p s ≡ false → Q.moves ≡ P.moves → Q.status ≡ P.status → Q.reserved ≡ P.reserved → Seen lines s p P Q
  goes : Goes lines s p P Q → Seen lines s p P Q

pub set_got : {X : Type 0} (xs : List X) (p q : ℕ) (y x : X) (G : Type 0) → slice_get xs q ≡ Some x → (p ≡ q → slice_get (slice_set xs p y) q ≡ Some y → G) → ((p == q) ≡ false → slice_get (slice_set xs p y) q ≡ Some x → G) → G
set_got [] p q y x G h new old = absurd (cc)
set_got (z ∷ xs) zero zero y x G h new old = new refl refl
set_got (z ∷ xs) zero (suc q) y x G h new old = old (grind (arith, nat_tests)) h
set_got (z ∷ xs) (suc p) zero y x G h new old = old (grind (arith, nat_tests)) h
set_got (z ∷ xs) (suc p) (suc q) y x G h new old = set_got xs p q y x G h (λ e. new (ap suc e)) (λ e. old (grind (arith, nat_tests, e)))

-- who makes it
moved-by : (lines : ℕ) (s : Step) (p q : ℕ) (P Q : Spe) → (q == p) ≡ false → Moved lines s q P Q → is_at p s ≡ false
moved-by lines s p q P Q h (executes of d) = ap (is_at p) of ∙ h
moved-by lines s p q P Q h (copies c e k d of at has same) = ap (is_at p) of ∙ h
moved-by lines s p q P Q h (reads c d x of at has got same) = ap (is_at p) of ∙ h
moved-by lines s p q P Q h (refuses c of fault same) = ap (is_at p) of ∙ h
moved-by lines s p q P Q h (retires c d of at left same) = ap (is_at p) of ∙ h
moved-by lines s p q P Q h (locks of same) = ap (is_at p) of ∙ h
moved-by lines s p q P Q h (acts of same) = ap (is_at p) of

abbrev SeenAt : ℕ → Step → ℕ → Spe → List Spe → Type 0
SeenAt lines s p P new = (Q : Spe) × (slice_get new p ≡ Some Q) × Seen lines s p P Q

seen_after : (lines : ℕ) (s : Step) (old new : List Spe) (p : ℕ) (P : Spe) → slice_get old p ≡ Some P → Changes (s ≡ Host) (Goes lines s) old new → SeenAt lines s p P new
seen_after lines s old new p P at (inl same) = (P, subst (λ xs. slice_get xs p ≡ Some P) (sym same.1) at, another (ap (is_at p) same.0) refl refl refl)
seen_after lines s old new p P at (inr x) =
    set_got old x.p p x.is P (SeenAt lines s p P new) at
    (λ e got.
    let was : x.was ≡ P = let a : slice_get old p ≡ Some x.was = subst (λ q. slice_get old q ≡ Some x.was) e x.at in cc in
    (x.is, subst (λ xs. slice_get xs p ≡ Some x.is) (sym x.set) got, goes (subst (λ y. Goes lines s p y x.is) was (subst (λ q. Goes lines s q x.was x.is) e x.how))))
    (λ differs got. (P, subst (λ xs. slice_get xs p ≡ Some P) (sym x.set) got, another (moved-by lines s p x.p x.was x.is differs x.how.moved) refl refl refl))

got_map : {X Y : Type 0} (f : X → Y) (xs : List X) (q : ℕ) (x : X) → slice_get xs q ≡ Some x → slice_get (map f xs) q ≡ Some (f x)
got_map f [] q x h = absurd (cc)
got_map f (y ∷ xs) zero x h = ap (option_map f) h
got_map f (y ∷ xs) (suc q) x h = got_map f xs q x h

-- what it does is the same of a processor that is the same in all of this
seen_same : (lines : ℕ) (s : Step) (p : ℕ) (P Q R : Spe) → R.moves ≡ Q.moves → R.status ≡ Q.status → R.reserved ≡ Q.reserved → R.channels.slot ≡ Q.channels.slot → Seen lines s p P Q → Seen lines s p P R
seen_same lines s p P Q R m st rv sl (another other same status reserved) = another other (m ∙ same) (st ∙ status) (rv ∙ reserved)
seen_same lines s p P Q R m st rv sl (goes g) =
    goes (record { moved = moved_same g.moved; faulted = λ f. ap is_faulted st ∙ g.faulted f; slot = λ h. slot_same lines Q R sl (g.slot h); reserved = λ n. rv ∙ g.reserved n })
  where
    moved_same : Moved lines s p P Q → Moved lines s p P R
    moved_same (executes of d) = executes of (subst (Does lines (asks P) P.moves) (sym m) d)
    moved_same (copies c e k d of at has same) = copies c e k d of at has (m ∙ same)
    moved_same (reads c d x of at has got same) = reads c d x of at has got (m ∙ same)
    moved_same (refuses c of fault same) = refuses c of (ap is_faulted st ∙ fault) (m ∙ same)
    moved_same (retires c d of at left same) = retires c d of at left (m ∙ same)
    moved_same (locks of same) = locks of (m ∙ same)
    moved_same (acts of same) = acts of (m ∙ same)

pub act-seen : (M : State) (s : Step) (N : State) (p : ℕ) (P : Spe) → act M s ≡ Some N → slice_get M.spes p ≡ Some P
    → (Q : Spe) × (slice_get (closed_in M s N).spes p ≡ Some Q) × Seen (lines_of M.memory) s p P Q
act-seen M s N p P e at =
    let after = act_after M s N e in
    let k = seen_after (lines_of M.memory) s M.spes after.0 p P at after.1 in
    let g = alike-at (map settled after.0) (closed_in M s N).spes p (settled k.0) (closed-alike M s N after.0 after.2) (got_map settled after.0 p k.0 k.1) in
    let same = sym g.2 in
    (g.0, g.1, seen_same (lines_of M.memory) s p P k.0 g.0 (ap (λ (X : Spe). X.moves) same) (ap (λ (X : Spe). X.status) same) (ap (λ (X : Spe). X.reserved) same) (ap (λ (X : Spe). X.channels.slot) same) k.2)

-- a command keeps its number, and is complete still where it was
same-keeps : (m n : Moves) → n ≡ m → Keeps m n
same-keeps m n same = subst (Keeps m) (sym same) (keeps-same m)

as-keeps : (m n k : Moves) → k ≡ n → Keeps m n → Keeps m k
as-keeps m n k same keeps = subst (Keeps m) (sym same) keeps

moved-keeps : (lines : ℕ) (s : Step) (p : ℕ) (P Q : Spe) → Moved lines s p P Q → Keeps P.moves Q.moves
moved-keeps lines s p P Q (executes of (stays same)) = same-keeps P.moves Q.moves same
moved-keeps lines s p P Q (executes of (issues d fit same)) = as-keeps P.moves (with_issued P.moves d) Q.moves same (issued-keeps P.moves d)
moved-keeps lines s p P Q (executes of (resumes tag asked same)) = as-keeps P.moves (with_resumed P.moves (stalls_of_tag P.moves tag)) Q.moves same (resumed-keeps P.moves (stalls_of_tag P.moves tag))
moved-keeps lines s p P Q (copies c e k d of at has same) = as-keeps P.moves (with_done P.moves c e k) Q.moves same (done-keeps P.moves c e k)
moved-keeps lines s p P Q (reads c d x of at has got same) =
    as-keeps P.moves (with_read P.moves c x) Q.moves same (read-keeps P.moves c x (λ y at2. let one : d ≡ y = some_same d y (sym at ∙ at2) in subst (λ z. are_all_there P.moves.read c z ≡ false) one (element-is P.moves c d has).left))
  where
    some_same : (a b : Command) → Some a ≡ Some b → a ≡ b
    some_same a b q = cc
moved-keeps lines s p P Q (refuses c of fault same) = same-keeps P.moves Q.moves same
moved-keeps lines s p P Q (retires c d of at left same) = as-keeps P.moves (with_retired P.moves c) Q.moves same (retired-keeps P.moves c)
moved-keeps lines s p P Q (locks of same) = same-keeps P.moves Q.moves same
moved-keeps lines s p P Q (acts of same) = same-keeps P.moves Q.moves same

seen-keeps : (lines : ℕ) (s : Step) (p : ℕ) (P Q : Spe) → Seen lines s p P Q → Keeps P.moves Q.moves
seen-keeps lines s p P Q (another other same status reserved) = same-keeps P.moves Q.moves same
seen-keeps lines s p P Q (goes g) = moved-keeps lines s p P Q g.moved

pub act-keeps : (M : State) (s : Step) (N : State) (p : ℕ) (P : Spe) → act M s ≡ Some N → slice_get M.spes p ≡ Some P
    → (Q : Spe) × (slice_get (closed_in M s N).spes p ≡ Some Q) × Keeps P.moves Q.moves
act-keeps M s N p P e at = let k = act-seen M s N p P e at in (k.0, k.1, seen-keeps (lines_of M.memory) s p P k.0 k.2)

-- no processor comes or goes
length_after : {A : Type 0} {R : ℕ → Spe → Spe → Type 0} (old new : List Spe) → Changes A R old new → length new ≡ length old
length_after old new (inl same) = ap length same.1
length_after old new (inr x) = ap length x.set ∙ length-set old x.p x.is

pub act-length : (M : State) (s : Step) (N : State) → act M s ≡ Some N → length (closed_in M s N).spes ≡ length M.spes
act-length M s N e =
    let after = act_after M s N e in
    sym (alike-length (map settled after.0) (closed_in M s N).spes (closed-alike M s N after.0 after.2)) ∙ length-map after.0 settled ∙ length_after M.spes after.0 after.1
