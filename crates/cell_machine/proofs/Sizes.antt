-- A step leaves as many registers, each of 16 bytes, as long a store, and the PC at a place.
use Rattle.std.proofs.Common.{◌≡◌, ℕ, zero, suc, ◌+◌, ◌-◌, ◌/◌, ◌<◌, ◌≤◌, ◌==◌, Bool, true, false, List, [], ◌∷◌, length, map, slice_set, arith, refl, sym, ◌∙◌, ap, subst}
use Rattle.std.specs.Prelude.{Option, Some, None, IfSome, is_some, slice_get, slice_range, option_map, cond, nat_lt, Result, Ok, Err}
use Rattle.std.proofs.lemmas.Bool.Decides.{nat_tests}
use Rattle.std.proofs.lemmas.List.{length-set, length-take-le, length-drop}
use Rattle.cell_base.specs.Bytes.{put}
use Rattle.cell_base.specs.declared.steps.ChannelOp.{ChannelOp}
use Rattle.cell_base.specs.declared.steps.ChannelOp.TheVariants.{Read, Count, Write}
use Rattle.cell_base.specs.declared.steps.Step.{Step}
use Rattle.cell_base.specs.declared.steps.Step.TheVariants.{Exec, Piece, Elem, Retire, Atomic, Host}
use Rattle.cell_channels.specs.Table.{way_of}
use Rattle.cell_host.specs.declared.HostAction.{HostAction}
use Rattle.cell_host.specs.declared.HostAction.TheVariants.{Send, Take, TakeIntr, Store, Await, Signal as SignalTo}
use Rattle.local_store.specs.Store.{word_at, quad_at, line_of}
use Rattle.mfc_command.specs.declared.command.AtomicOp.{AtomicOp}
use Rattle.mfc_command.specs.declared.command.Command.{Command}
use Rattle.mfc_command.specs.declared.command.Kind.{Kind}
use Rattle.mfc_command.specs.declared.command.DmaFault.{DmaFault as Fault}
use Rattle.mfc_command.specs.declared.command.Order.{Order}
use Rattle.mfc_command.specs.declared.command.Order.TheVariants.{Queued, Atomic as AtomicOrder}
use Rattle.mfc_command.specs.declared.range.Part.{Part}
use Rattle.mfc_command.specs.Check.{OrderFits, checked}
use Rattle.mfc_lists.specs.declared.Element.{Element}
use Rattle.mfc_lists.specs.Elements.{ElementFits}
use Rattle.spu_decode.specs.declared.Instr.{Instr}
use Rattle.spu_decode.specs.declared.row.Row.{Row}
use Rattle.spu_decode.specs.declared.row.Row.TheVariants.{Lqd, Lqx, Lqa, Lqr, Brsl, Brasl, Bisl}
use Rattle.spu_decode.specs.Spelling.{instr_of}
use Rattle.spu_exec.specs.declared.flow.Flow.{Flow}
use Rattle.spu_exec.specs.declared.flow.Flow.TheVariants.{Next, Stop, Halt, Channel}
use Rattle.spu_exec.specs.Meaning.{meaning, value_of, with_value, with_stored, stored_at, displaced, indexed, absolute, relative}
use Rattle.spu_exec.specs.Places.{IsPlace, LeadsToPlace, next_pc}
use Rattle.spu_exec.proofs.FlowPlaces.{next-place, flow-leads}
use Rattle.spu_exec.proofs.RowLengths.{computed-long, first_long}
use Rattle.spu_regs.specs.Registers.{register}
use Rattle.tag_groups.specs.declared.TagStatus.{TagStatus}
use Rattle.cell_machine.specs.Spe.{Spe, is_running}
use Rattle.cell_machine.specs.State.{State}
use Rattle.cell_machine.specs.Memory.{MainMemory, lines_of}
use Rattle.cell_machine.specs.Moves.{present, parts_in, is_stalled}
use Rattle.cell_machine.specs.Tags.{settled}
use Rattle.cell_machine.specs.Channels.{given as with_given, is_read, is_write, count, may_read, may_write, channel, read_by, read_inbound, read_status, read_atomic, issued_by, commanded, acknowledged, written}
use Rattle.cell_machine.specs.Exec.{exec, exec_instr, followed}
use Rattle.cell_signals.specs.Registers.{register_of}
use Rattle.cell_signals.specs.Events.{status_of}
use Rattle.cell_machine.specs.Transfers.{Left, piece, piece_of, after_part, part_in, has_part, may_piece, elem, after_element, next_element, may_elem, retire, may_retire, with_done, with_read, told, copied, sent, moved as moved_part, is_put, is_signal}
use Rattle.cell_machine.specs.Atomic.{Fate, fate, answered, moved, line_part, after_atomic, may_atomic, atomic}
use Rattle.cell_machine.specs.Hosts.{Given, taken_of, taken_interrupt_of, given, at_spe, acted, after_action, host as host_step}
use Rattle.cell_machine.specs.Next.{act, act_in, own, left, with_left, with_events, closed_in}
use Rattle.cell_machine.specs.Shows.{IsBounded, AreBounded}
use Rattle.cell_machine.proofs.Bounds.{if_cond, on_cond, if_is, if_so, each_of, each_map, passes, set_cases, map-got}
use Rattle.cell_machine.proofs.Elements.{part-is}
use Rattle.cell_machine.proofs.Controllers.{element-fits}
use Rattle.cell_machine.proofs.Alike.{AreAlike, alike-at, left-alike, events-alike}
use Rattle.cell_machine.proofs.LocksRun.{put-length, range-few}

-- 128 registers of 16 bytes, a store of 262,144, and an address at which an instruction may stand
pub record AreSized (pc : ℕ) (registers : List (List ℕ)) (bytes : List ℕ) : Type 0 where
  pub place : IsPlace pc
  pub many : length registers ≡ 128
  pub quads : (r : ℕ) (q : List ℕ) → slice_get registers r ≡ Some q → length q ≡ 16
  pub store : length bytes ≡ 262144

abbrev pub IsSized : Spe → Type 0
IsSized P = AreSized P.pc P.registers P.store

abbrev pub AllSized : List Spe → Type 0
AllSized spes = (p : ℕ) (P : Spe) → slice_get spes p ≡ Some P → IsSized P

-- ---- a register is set, and bytes are stored

with_quad : (pc : ℕ) (regs : List (List ℕ)) (store : List ℕ) (rt : ℕ) (q : List ℕ) → AreSized pc regs store → length q ≡ 16 → AreSized pc (slice_set regs rt q) store
with_quad pc regs store rt q all long = record {
  place = all.place;
  many = length-set regs rt q ∙ all.many;
  quads = λ r y at. set_cases regs rt r q y (length y ≡ 16) at (λ same. ap length same ∙ long) (all.quads r y);
  store = all.store;
}

with_bytes : (pc : ℕ) (regs : List (List ℕ)) (store bytes : List ℕ) (at : ℕ) → AreSized pc regs store → at + length bytes ≤ 262144 → AreSized pc regs (put store at bytes)
with_bytes pc regs store bytes at all within = record {
  place = all.place;
  many = all.many;
  quads = all.quads;
  store = put-length store bytes at (let long = all.store in omega arith) ∙ all.store;
}

with_pc : (pc next : ℕ) (regs : List (List ℕ)) (store : List ℕ) → AreSized pc regs store → IsPlace next → AreSized next regs store
with_pc pc next regs store all place = record { place = place; many = all.many; quads = all.quads; store = all.store }

-- ---- instructions

with_result : (pc : ℕ) (regs : List (List ℕ)) (store : List ℕ) (rt : ℕ) (v : Option (List ℕ)) → AreSized pc regs store → IfSome v (λ q. length q ≡ 16) → AreSized pc (with_value rt v regs) store
with_result pc regs store rt None all long = all
with_result pc regs store rt (Some q) all long = with_quad pc regs store rt q all long

quad_long : (store : List ℕ) (at : ℕ) → length store ≡ 262144 → length (quad_at store at) ≡ 16
quad_long store at long =
    let rest = length-drop (line_of at) store in
    length-take-le (line_of at + 16 - line_of at) _ (omega arith) ∙ (omega arith)

value_long : (row : Row) (imm pc : ℕ) (a b c t store : List ℕ) → length store ≡ 262144 → IfSome (value_of row imm pc a b c t store) (λ q. length q ≡ 16)
value_long Lqd imm pc a b c t store long = quad_long store (displaced imm a) long
value_long Lqx imm pc a b c t store long = quad_long store (indexed a b) long
value_long Lqa imm pc a b c t store long = quad_long store (absolute imm) long
value_long Lqr imm pc a b c t store long = quad_long store (relative imm pc) long
value_long Brsl imm pc a b c t store long = first_long _
value_long Brasl imm pc a b c t store long = first_long _
value_long Bisl imm pc a b c t store long = first_long _
value_long row imm pc a b c t store long = computed-long row imm a b c t

register_few : (regs : List (List ℕ)) (r : ℕ) → ((k : ℕ) (q : List ℕ) → slice_get regs k ≡ Some q → length q ≡ 16) → length (register regs r) ≤ 16
register_few [] r all = omega arith
register_few (x ∷ regs) zero all = let long = all 0 x refl in omega arith
register_few (x ∷ regs) (suc r) all = register_few regs r (λ k q at. all (suc k) q at)

with_quad_stored : (pc : ℕ) (regs : List (List ℕ)) (store t : List ℕ) (o : Option ℕ) → AreSized pc regs store → length t ≤ 16 → AreSized pc regs (with_stored o t store)
with_quad_stored pc regs store t None all few = all
with_quad_stored pc regs store t (Some at) all few = with_bytes pc regs store t (line_of at) all (omega arith)

module _ (lines : ℕ) (P : Spe) (all : IsSized P) where
  went : AreSized (next_pc P.pc) P.registers P.store
  went = with_pc P.pc (next_pc P.pc) P.registers P.store all (next-place P.pc all.place)

  given_sized : (rt value : ℕ) → IsSized (with_given P rt value)
  given_sized rt value = with_quad (next_pc P.pc) P.registers P.store rt _ went (first_long value)

  issued_sized : (r : Result Order Fault) → IsSized (issued_by P r)
  issued_sized (Ok (Queued d)) = went
  issued_sized (Ok (AtomicOrder a)) = went
  issued_sized (Err kind) = all

  written_sized : (ch value : ℕ) → IsSized (written lines P ch value)
  unfolding written commanded acknowledged
  written_sized ch value =
      on_cond (ch == 1) _ _ IsSized went (on_cond (ch == 2) _ _ IsSized went (on_cond (ch == 21) _ _ IsSized (issued_sized (checked P.channels.params value lines))
      (on_cond (ch == 22) _ _ IsSized went (on_cond (ch == 23) _ _ IsSized went (on_cond (ch == 26) _ _ IsSized went (on_cond (ch == 28) _ _ IsSized went (on_cond (ch == 30) _ _ IsSized went went)))))))

  status_sized : (rt : ℕ) (o : Option TagStatus) → IfSome (read_status P rt o) IsSized
  status_sized rt None = tt
  status_sized rt (Some status) = given_sized rt status.groups

  atomic_sized : (rt : ℕ) (o : Option ℕ) → IfSome (read_atomic P rt o) IsSized
  atomic_sized rt None = tt
  atomic_sized rt (Some status) = given_sized rt status

  inbound_sized : (rt : ℕ) (xs : List ℕ) → IfSome (read_inbound P rt xs) IsSized
  inbound_sized rt [] = tt
  inbound_sized rt (x ∷ xs) = given_sized rt x

  read_sized : (rt ch : ℕ) → IfSome (read_by P rt ch) IsSized
  unfolding read_by
  read_sized rt ch =
      if_cond (ch == 0) _ _ IsSized (given_sized rt (status_of P.events)) (if_cond (ch == 3) _ _ IsSized (given_sized rt (register_of P.signals 1).value)
      (if_cond (ch == 4) _ _ IsSized (given_sized rt (register_of P.signals 2).value) (if_cond (ch == 11) _ _ IsSized (given_sized rt P.events.mask)
      (if_cond (ch == 12) _ _ IsSized (given_sized rt P.tags.mask) (if_cond (ch == 24) _ _ IsSized (status_sized rt P.tags.status)
      (if_cond (ch == 25) _ _ IsSized (given_sized rt P.channels.stalls) (if_cond (ch == 27) _ _ IsSized (atomic_sized rt P.channels.atomic)
      (if_cond (ch == 29) _ _ IsSized (inbound_sized rt P.inbound) tt))))))))

  channel_sized : (op : ChannelOp) → IfSome (channel lines P op) IsSized
  unfolding channel
  channel_sized (Read rt ch) = if_cond (is_read (way_of ch)) _ _ IsSized (if_cond (may_read P ch) _ _ IsSized (read_sized rt ch) tt) all
  channel_sized (Count rt ch) = if_cond (is_some (way_of ch)) (Some (with_given P rt (count P ch))) _ IsSized (given_sized rt (count P ch)) all
  channel_sized (Write ch value) = if_cond (is_write (way_of ch)) _ _ IsSized (if_cond (may_write P ch value) _ _ IsSized (written_sized ch value) tt) all

  followed_sized : (flow : Flow) → LeadsToPlace flow → IfSome (followed lines P flow) IsSized
  followed_sized (Next pc) leads = with_pc P.pc pc P.registers P.store all leads
  followed_sized (Stop code next) leads = with_pc P.pc next P.registers P.store all leads
  followed_sized (Halt next) leads = with_pc P.pc next P.registers P.store all leads
  followed_sized (Channel op) leads = channel_sized op

instr_sized : (lines : ℕ) (P : Spe) (o : Option Instr) → IsSized P → IfSome (exec_instr lines P o) IsSized
unfolding meaning
instr_sized lines P None all = all
instr_sized lines P (Some i) all =
    let n = meaning i P.pc P.registers P.store in
    let a = register P.registers i.ra in
    let b = register P.registers i.rb in
    let t = register P.registers i.rt in
    followed_sized lines (record P { registers = n.regs; store = n.store })
    (with_quad_stored P.pc n.regs P.store t (stored_at i.row i.imm P.pc a b)
    (with_result P.pc P.registers P.store i.rt _ all (value_long i.row i.imm P.pc a b (register P.registers i.rc) t P.store all.store))
    (register_few P.registers i.rt all.quads))
    n.flow (flow-leads i i.row P.pc a b t all.place)

exec_sized : (lines : ℕ) (P : Spe) → IsSized P → IfSome (exec lines P) IsSized
unfolding exec
exec_sized lines P all = if_cond (is_running P.status) _ _ IsSized (instr_sized lines P (instr_of (word_at P.store P.pc)) all) tt

-- ---- steps of the flow controller

-- what is told of a stall is no matter of these
told_sized : (b : Bool) (P : Spe) (tag : ℕ) → IsSized P → IsSized (cond b (told P tag) P)
told_sized true P tag all = all
told_sized false P tag all = all

copied_sized : (memory : MainMemory) (P : Spe) (b : Bool) (x : Part) → IsSized P → x.ls + x.len ≤ 262144 → IsSized (copied memory P b x).spe
unfolding copied
copied_sized memory P true x all within = all
copied_sized memory P false x all within =
    let few = range-few memory.bytes x.ea x.len in
    with_bytes P.pc P.registers P.store (slice_range memory.bytes x.ea (x.ea + x.len)) x.ls all (omega arith)

sent_sized : (memory : MainMemory) (P : Spe) (x : Part) → IsSized P → IsSized (sent memory P x).spe
unfolding sent
sent_sized memory P x all = all

part_sized : (memory : MainMemory) (P : Spe) (kind : Kind) (x : Part) → IsSized P → x.ls + x.len ≤ 262144 → IsSized (moved_part memory P kind x).spe
part_sized memory P kind x all within = on (is_signal kind)
  where
    on : (b : Bool) → IsSized (cond b (sent memory P x) (copied memory P (is_put kind) x)).spe
    on true = sent_sized memory P x all
    on false = copied_sized memory P (is_put kind) x all within

part_fits : (lines : ℕ) (x : Element) (k : ℕ) → ElementFits lines x → k < parts_in x → (part_in x k).ls + (part_in x k).len ≤ 262144
part_fits lines x k fits h = on (x.size == 0) refl h
  where
    on : (b : Bool) → (x.size == 0) ≡ b → k < cond b 0 ((x.ea + x.size - 1) / 128 - x.ea / 128 + 1) → (part_in x k).ls + (part_in x k).len ≤ 262144
    on true e less = absurd (omega arith)
    on false e less =
        let some : 0 < x.size = grind (arith, nat_tests) in
        let there = fits.store in
        omega arith

abbrev LeavesSized : Left → Type 0
LeavesSized x = IsSized x.spe

piece_sized : (lines n : ℕ) (memory : MainMemory) (P : Spe) (c e k : ℕ) → IsBounded lines n P → IsSized P → IfSome (piece memory P c e k) LeavesSized
unfolding piece may_piece
piece_sized lines n memory P c e k bounded all = if_so (may_piece P c e k) _ LeavesSized (λ may.
    each_of (slice_get P.moves.issued c) _ LeavesSized (λ d at.
    each_map (present P.moves.read c d) (piece_of memory P c k d) LeavesSized (λ x there.
    let of = part-is P.moves c e k d (passes P c (has_part P.moves c e k) d may at) in
    let same : of.element ≡ x = some_same of.element x (sym of.there ∙ there) in
    let fits = element-fits lines n P c d x bounded at of.moved there in
    part_sized memory (after_part P c x.number k d) d.kind (part_in x k)
    (told_sized (is_stalled (with_done P.moves c x.number k) c d) (record P { moves = with_done P.moves c x.number k }) d.tag all)
    (part_fits lines x k fits (subst (λ y. k < parts_in y) same of.within)))))
  where
    some_same : (a b : Element) → Some a ≡ Some b → a ≡ b
    some_same a b q = cc

elem_sized : (lines : ℕ) (P : Spe) (c : ℕ) → IsSized P → IfSome (elem lines P c) IsSized
unfolding elem
elem_sized lines P c all = if_so (may_elem P c) _ IsSized (λ may.
    each_map (slice_get P.moves.issued c) (λ d. after_element P c d (next_element lines P c d)) IsSized (λ d at. after d (next_element lines P c d)))
  where
    after : (d : Command) (r : Result Element Fault) → IsSized (after_element P c d r)
    after d (Ok x) = told_sized (is_stalled (with_read P.moves c x) c d) (record P { moves = with_read P.moves c x }) d.tag all
    after d (Err kind) = all

retire_sized : (P : Spe) (c : ℕ) → IsSized P → IfSome (retire P c) IsSized
unfolding retire
retire_sized P c all = if_so (may_retire P c) _ IsSized (λ may. all)

moved_sized : (lines : ℕ) (memory : MainMemory) (P : Spe) (a : AtomicOp) (f : Fate) → OrderFits lines (AtomicOrder a) → IsSized P → LeavesSized (moved memory P a f)
moved_sized lines memory P a Fate.Got fits all = copied_sized memory P false (line_part a) all fits.0
moved_sized lines memory P a Fate.Stored fits all = copied_sized memory P true (line_part a) all fits.0
moved_sized lines memory P a Fate.Lost fits all = all

line_sized : (lines n : ℕ) (memory : MainMemory) (P : Spe) → IsBounded lines n P → IsSized P → IfSome (atomic memory P) LeavesSized
unfolding atomic
line_sized lines n memory P bounded all = if_so (may_atomic P) _ LeavesSized (λ may.
    each_map P.channels.slot (after_atomic memory P) LeavesSized (λ a at.
    moved_sized lines memory (answered memory P a) a (fate memory P a) (if_is P.channels.slot a (λ b. OrderFits lines (AtomicOrder b)) at bounded.slot) all))

-- ---- the whole machine

left_sized : (memory : MainMemory) (o : Option Spe) → IfSome o IsSized → IfSome (option_map (left memory) o) LeavesSized
left_sized memory None h = tt
left_sized memory (Some Q) h = h

set_sized : (spes : List Spe) (p : ℕ) (Q : Spe) → AllSized spes → IsSized Q → AllSized (slice_set spes p Q)
set_sized spes p Q each all q R at = set_cases spes p q Q R (IsSized R) at (λ same. subst IsSized (sym same) all) (each q R)

-- and so do processors that differ in their signal registers and events alone
alike_sized : (xs ys : List Spe) → AreAlike xs ys → AllSized xs → AllSized ys
alike_sized xs ys alike all p P at = let was = alike-at ys xs p P (sym alike) at in subst IsSized (sym was.2) (all p was.0 was.1)

abbrev StateSized : State → Type 0
StateSized N = AllSized N.spes

in_sized : (M : State) (p : ℕ) (s : Step) → AllSized M.spes → ((P : Spe) → slice_get M.spes p ≡ Some P → IfSome (own M.memory s P) LeavesSized) → IfSome (act_in M p s) StateSized
in_sized M p s each step =
    each_of (slice_get M.spes p) _ StateSized (λ P at.
    each_map (own M.memory s P) (with_left M p) StateSized (λ x e.
    alike_sized (slice_set M.spes p x.spe) (with_left M p x).spes (left-alike M p x) (set_sized M.spes p x.spe each (if_is (own M.memory s P) x LeavesSized e (step P at)))))

-- an action of the host leaves the registers and the store
abbrev GivesSized : Given → Type 0
GivesSized g = IsSized g.spe

taken_sized : (P : Spe) (xs : List ℕ) → IsSized P → IfSome (taken_of P xs) GivesSized
taken_sized P [] all = tt
taken_sized P (x ∷ xs) all = all

interrupt_sized : (P : Spe) (xs : List ℕ) → IsSized P → IfSome (taken_interrupt_of P xs) GivesSized
interrupt_sized P [] all = tt
interrupt_sized P (x ∷ xs) all = all

action_sized : (a : HostAction) (P : Spe) → IsSized P → IfSome (given a P) GivesSized
action_sized (Send p value) P all = if_cond (nat_lt (length P.inbound) 4) _ _ GivesSized all tt
action_sized (Take p) P all = taken_sized P P.outbound all
action_sized (TakeIntr p) P all = interrupt_sized P P.interrupt all
action_sized (Store ea len bytes) P all = all
action_sized (Await p) P all = if_cond (is_running P.status) _ _ GivesSized tt all
action_sized (SignalTo p r value) P all = all

at_sized : (M : State) (p : ℕ) (a : HostAction) → AllSized M.spes → IfSome (option_map after_action (at_spe M p (given a))) StateSized
at_sized M p a each =
    each_map (at_spe M p (given a)) after_action StateSized (λ d e.
    if_is (at_spe M p (given a)) d (λ k. StateSized (after_action k)) e
    (each_of (slice_get M.spes p) _ (λ k. StateSized (after_action k)) (λ P at.
    each_map (given a P) _ (λ k. StateSized (after_action k)) (λ g f. set_sized M.spes p g.spe each (if_is (given a P) g GivesSized f (action_sized a P (each p P at)))))))

acted_sized : (M : State) (a : HostAction) → AllSized M.spes → IfSome (option_map after_action (acted M a)) StateSized
unfolding acted
acted_sized M (Send p value) each = at_sized M p (Send p value) each
acted_sized M (Take p) each = at_sized M p (Take p) each
acted_sized M (TakeIntr p) each = at_sized M p (TakeIntr p) each
acted_sized M (Store ea len bytes) each = each
acted_sized M (Await p) each = at_sized M p (Await p) each
acted_sized M (SignalTo p r value) each = at_sized M p (SignalTo p r value) each

host_sized : (M : State) → AllSized M.spes → IfSome (host_step M) StateSized
unfolding host_step
host_sized M each = each_of (slice_get M.host.script M.host.done) _ StateSized (λ a at. acted_sized M a each)

act_sized : (lines n : ℕ) (M : State) (s : Step) → AreBounded lines n M.spes → AllSized M.spes → IfSome (act M s) StateSized
act_sized lines n M (Exec p) bounded each = in_sized M p (Exec p) each (λ P at. left_sized M.memory (exec (lines_of M.memory) P) (exec_sized (lines_of M.memory) P (each p P at)))
act_sized lines n M (Piece p c e k) bounded each = in_sized M p (Piece p c e k) each (λ P at. piece_sized lines n M.memory P c e k (bounded p P at) (each p P at))
act_sized lines n M (Elem p c) bounded each = in_sized M p (Elem p c) each (λ P at. left_sized M.memory (elem (lines_of M.memory) P c) (elem_sized (lines_of M.memory) P c (each p P at)))
act_sized lines n M (Retire p c) bounded each = in_sized M p (Retire p c) each (λ P at. left_sized M.memory (retire P c) (retire_sized P c (each p P at)))
act_sized lines n M (Atomic p) bounded each = in_sized M p (Atomic p) each (λ P at. line_sized lines n M.memory P (bounded p P at) (each p P at))
act_sized lines n M Host bounded each = host_sized M each

settled_sized : (spes : List Spe) → AllSized spes → AllSized (map settled spes)
settled_sized spes all p P at = let g = map-got settled spes p P at in subst IsSized g.2 (all p g.0 g.1)

-- all processors keep their sizes to the end of the step
pub act-sized : (lines n : ℕ) (M : State) (s : Step) (N : State) → AreBounded lines n M.spes → AllSized M.spes → act M s ≡ Some N → AllSized (closed_in M s N).spes
act-sized lines n M s N bounded each e =
    settled_sized (with_events M s N).spes (alike_sized N.spes (with_events M s N).spes (events-alike M s N) (if_is (act M s) N StateSized e (act_sized lines n M s bounded each)))
