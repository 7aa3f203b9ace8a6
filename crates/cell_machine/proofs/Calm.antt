-- The steps of a processor raise the events of its flow controller, and no others but by what they store and deliver.
use Rattle.std.proofs.Common.{◌≡◌, ℕ, suc, ◌-◌, ◌==◌, ◌&&◌, Bool, true, false, List, [], ◌∷◌, ◌++◌, length, arith, refl, ◌∙◌, subst}
use Rattle.std.specs.Prelude.{Option, Some, None, IfSome, nat_lt, not, cond, is_some, slice_get, Result, Ok, Err}
use Rattle.std.proofs.lemmas.Bool.Decides.{nat_tests}
use Rattle.cell_base.specs.declared.steps.ChannelOp.{ChannelOp}
use Rattle.cell_base.specs.declared.steps.ChannelOp.TheVariants.{Read, Count, Write}
use Rattle.cell_channels.specs.Table.{way_of}
use Rattle.cell_channels.specs.State.{count_of}
use Rattle.tag_groups.specs.declared.TagStatus.{TagStatus}
use Rattle.mfc_command.specs.declared.command.Command.{Command}
use Rattle.mfc_command.specs.declared.command.Kind.{Kind}
use Rattle.mfc_command.specs.declared.command.AtomicOp.{AtomicOp}
use Rattle.mfc_command.specs.declared.command.DmaFault.{DmaFault as Fault}
use Rattle.mfc_command.specs.declared.command.Order.{Order}
use Rattle.mfc_command.specs.declared.command.Order.TheVariants.{Queued, Atomic as AtomicOrder}
use Rattle.mfc_command.specs.declared.range.Part.{Part}
use Rattle.mfc_command.specs.Check.{checked}
use Rattle.mfc_lists.specs.declared.Element.{Element}
use Rattle.spu_decode.specs.declared.Instr.{Instr}
use Rattle.spu_decode.specs.Spelling.{instr_of}
use Rattle.spu_exec.specs.declared.flow.Flow.{Flow}
use Rattle.spu_exec.specs.declared.flow.Flow.TheVariants.{Next, Stop, Halt, Channel}
use Rattle.spu_exec.specs.Meaning.{meaning}
use Rattle.local_store.specs.Store.{word_at}
use Rattle.cell_machine.specs.Spe.{Spe, Moves, is_running}
use Rattle.cell_machine.specs.Memory.{MainMemory}
use Rattle.cell_machine.specs.Moves.{present, is_stalled}
use Rattle.cell_machine.specs.Channels.{is_read, is_write, count, may_read, may_write, went_on, given, bad_channel, channel, read_by, read_inbound, read_status, read_atomic, read_signal, issued_by, commanded, acknowledged, written}
use Rattle.cell_machine.specs.Exec.{exec, exec_instr, followed}
use Rattle.cell_machine.specs.Transfers.{Left, told, notified, piece, piece_of, after_part, part_in, may_piece, elem, after_element, next_element, may_elem, retire, may_retire, copied, sent, moved as moved_part, is_put, is_signal, with_done, with_read}
use Rattle.cell_machine.specs.Atomic.{Fate, atomic, may_atomic, after_atomic, answered, moved, fate, line_part}
use Rattle.cell_machine.specs.Raised.{begins, has_stall, is_outbound_full, is_interrupt_full, has_inbound}
use Rattle.cell_machine.specs.OwnEvents.{alone}
use Rattle.cell_machine.proofs.Bounds.{if_cond, on_cond, if_so, each_of, each_map}
use Rattle.cell_machine.proofs.Raising.{IsCalm, same-calm, never, gone}

-- ---- instructions

-- and no list comes to stall
pub record IsQuiet (P Q : Spe) : Type 0 where
  pub calm : IsCalm P Q
  pub stalls : begins has_stall (alone P) (alone Q) ≡ false
  pub reserved : Q.reserved ≡ P.reserved

quiet : (P Q : Spe) → Q.reserved ≡ P.reserved → Q.signals ≡ P.signals → Q.outbound ≡ P.outbound → Q.interrupt ≡ P.interrupt → Q.inbound ≡ P.inbound → Q.channels.stalls ≡ P.channels.stalls → IsQuiet P Q
quiet P Q reserved signals outbound interrupt inbound stalls = record {
  calm = same-calm P Q reserved signals outbound interrupt inbound;
  stalls = rw stalls (never (has_stall (alone P)));
  reserved = reserved;
}

-- what holds of it holds of what goes on to the next instruction
went : (P Q : Spe) → IsQuiet P Q → IsQuiet P (went_on Q)
went P Q q = record {
  calm = record { lost = q.calm.lost; first = q.calm.first; second = q.calm.second; outbound = q.calm.outbound; interrupt = q.calm.interrupt; inbound = q.calm.inbound };
  stalls = q.stalls;
  reserved = q.reserved;
}

-- a register that is read isn't ready then
and_off : (b : Bool) → (b && false) ≡ false
and_off true = refl
and_off false = refl

first_read : (P : Spe) (rt : ℕ) → IsQuiet P (read_signal P rt 1)
first_read P rt = record {
  calm = record {
    lost = gone _;
    first = and_off (not P.signals.first.ready);
    second = never P.signals.second.ready;
    outbound = gone (is_outbound_full (alone P));
    interrupt = gone (is_interrupt_full (alone P));
    inbound = never (has_inbound (alone P));
  };
  stalls = never (has_stall (alone P));
  reserved = refl;
}

second_read : (P : Spe) (rt : ℕ) → IsQuiet P (read_signal P rt 2)
second_read P rt = record {
  calm = record {
    lost = gone _;
    first = never P.signals.first.ready;
    second = and_off (not P.signals.second.ready);
    outbound = gone (is_outbound_full (alone P));
    interrupt = gone (is_interrupt_full (alone P));
    inbound = never (has_inbound (alone P));
  };
  stalls = never (has_stall (alone P));
  reserved = refl;
}

stalls_read : (P : Spe) (rt : ℕ) → IsQuiet P (given (record P { channels = record P.channels { stalls = 0 } }) rt P.channels.stalls)
stalls_read P rt = record { calm = same-calm P _ refl refl refl refl refl; stalls = and_off (not (has_stall (alone P))); reserved = refl }

filled : (n : ℕ) → (suc n == 0) ≡ false
filled n = grind (arith, nat_tests)

inbound_read : (P : Spe) (rt : ℕ) (xs : List ℕ) → P.inbound ≡ xs → IfSome (read_inbound P rt xs) (IsQuiet P)
inbound_read P rt [] is = tt
inbound_read P rt (x ∷ xs) is = record {
  calm = record {
    lost = gone _;
    first = never P.signals.first.ready;
    second = never P.signals.second.ready;
    outbound = gone (is_outbound_full (alone P));
    interrupt = gone (is_interrupt_full (alone P));
    inbound = rw is (rw (filled (length xs)) refl);
  };
  stalls = never (has_stall (alone P));
  reserved = refl;
}

status_read : (P : Spe) (rt : ℕ) (o : Option TagStatus) → IfSome (read_status P rt o) (IsQuiet P)
status_read P rt None = tt
status_read P rt (Some status) = quiet P _ refl refl refl refl refl refl

atomic_read : (P : Spe) (rt : ℕ) (o : Option ℕ) → IfSome (read_atomic P rt o) (IsQuiet P)
atomic_read P rt None = tt
atomic_read P rt (Some status) = quiet P _ refl refl refl refl refl refl

read_quiet : (P : Spe) (rt ch : ℕ) → IfSome (read_by P rt ch) (IsQuiet P)
unfolding read_by
read_quiet P rt ch =
    let R : Spe → Type 0 = IsQuiet P in
    if_cond (ch == 0) _ _ R (quiet P _ refl refl refl refl refl refl) (if_cond (ch == 3) _ _ R (first_read P rt) (if_cond (ch == 4) _ _ R (second_read P rt)
    (if_cond (ch == 11) _ _ R (quiet P _ refl refl refl refl refl refl) (if_cond (ch == 12) _ _ R (quiet P _ refl refl refl refl refl refl)
    (if_cond (ch == 24) _ _ R (status_read P rt P.tags.status) (if_cond (ch == 25) _ _ R (stalls_read P rt)
    (if_cond (ch == 27) _ _ R (atomic_read P rt P.channels.atomic) (if_cond (ch == 29) _ _ R (inbound_read P rt P.inbound refl) tt))))))))

issued_quiet : (P : Spe) (r : Result Order Fault) → IsQuiet P (issued_by P r)
issued_quiet P (Ok (Queued d)) = quiet P _ refl refl refl refl refl refl
issued_quiet P (Ok (AtomicOrder a)) = quiet P _ refl refl refl refl refl refl
issued_quiet P (Err kind) = quiet P _ refl refl refl refl refl refl

commanded_quiet : (lines : ℕ) (P : Spe) (op : ℕ) → IsQuiet P (commanded lines P op)
unfolding commanded
commanded_quiet lines P op = issued_quiet P (checked P.channels.params op lines)

acknowledged_quiet : (P : Spe) (tag : ℕ) → IsQuiet P (acknowledged P tag)
unfolding acknowledged
acknowledged_quiet P tag = quiet P _ refl refl refl refl refl refl

-- a mailbox to the outside is written where it has a free place
not_full : (xs : List ℕ) → nat_lt 0 (1 - length xs) ≡ true → (length xs == 1) ≡ false
not_full xs h = grind (arith, nat_tests)

outbound_put : (P : Spe) (value : ℕ) → nat_lt 0 (1 - length P.outbound) ≡ true → IsQuiet P (went_on (record P { outbound = P.outbound ++ value ∷ [] }))
outbound_put P value free = record {
  calm = record {
    lost = gone _;
    first = never P.signals.first.ready;
    second = never P.signals.second.ready;
    outbound = rw (not_full P.outbound free) refl;
    interrupt = gone (is_interrupt_full (alone P));
    inbound = never (has_inbound (alone P));
  };
  stalls = never (has_stall (alone P));
  reserved = refl;
}

interrupt_put : (P : Spe) (value : ℕ) → nat_lt 0 (1 - length P.interrupt) ≡ true → IsQuiet P (went_on (record P { interrupt = P.interrupt ++ value ∷ [] }))
interrupt_put P value free = record {
  calm = record {
    lost = gone _;
    first = never P.signals.first.ready;
    second = never P.signals.second.ready;
    outbound = gone (is_outbound_full (alone P));
    interrupt = rw (not_full P.interrupt free) refl;
    inbound = never (has_inbound (alone P));
  };
  stalls = never (has_stall (alone P));
  reserved = refl;
}

-- what holds of each of two outcomes, by the test
on_test : (b : Bool) (x y : Spe) (R : Spe → Type 0) → (b ≡ true → R x) → R y → R (cond b x y)
on_test true x y R h k = h refl
on_test false x y R h k = k

at_channel : (P : Spe) (ch n value : ℕ) → (ch == n) ≡ true → may_write P ch value ≡ true → may_write P n value ≡ true
at_channel P ch n value is may = let e : ch ≡ n = grind (arith, nat_tests) in subst (λ k. may_write P k value ≡ true) e may

outbound_may : (P : Spe) (value : ℕ) → may_write P 28 value ≡ true → nat_lt 0 (1 - length P.outbound) ≡ true
unfolding may_write count count_of
outbound_may P value may = may

interrupt_may : (P : Spe) (value : ℕ) → may_write P 30 value ≡ true → nat_lt 0 (1 - length P.interrupt) ≡ true
unfolding may_write count count_of
interrupt_may P value may = may

written_quiet : (lines : ℕ) (P : Spe) (ch value : ℕ) → may_write P ch value ≡ true → IsQuiet P (written lines P ch value)
unfolding written
written_quiet lines P ch value may =
    let R : Spe → Type 0 = IsQuiet P in
    let same : IsQuiet P (went_on P) = quiet P _ refl refl refl refl refl refl in
    on_cond (ch == 1) _ _ R (quiet P _ refl refl refl refl refl refl) (on_cond (ch == 2) _ _ R (quiet P _ refl refl refl refl refl refl)
    (on_cond (ch == 21) _ _ R (commanded_quiet lines P value) (on_cond (ch == 22) _ _ R (quiet P _ refl refl refl refl refl refl)
    (on_cond (ch == 23) _ _ R (quiet P _ refl refl refl refl refl refl) (on_cond (ch == 26) _ _ R (went P (acknowledged P value) (acknowledged_quiet P value))
    (on_test (ch == 28) _ _ R (λ e. outbound_put P value (outbound_may P value (at_channel P ch 28 value e may)))
    (on_test (ch == 30) _ _ R (λ e. interrupt_put P value (interrupt_may P value (at_channel P ch 30 value e may)))
    (quiet P _ refl refl refl refl refl refl))))))))

channel_quiet : (lines : ℕ) (P : Spe) (op : ChannelOp) → IfSome (channel lines P op) (IsQuiet P)
unfolding channel
channel_quiet lines P (Read rt ch) =
    let R : Spe → Type 0 = IsQuiet P in
    if_cond (is_read (way_of ch)) _ _ R (if_cond (may_read P ch) _ _ R (read_quiet P rt ch) tt) (quiet P _ refl refl refl refl refl refl)
channel_quiet lines P (Count rt ch) = if_cond (is_some (way_of ch)) (Some (given P rt (count P ch))) (Some (bad_channel P)) (IsQuiet P) (quiet P _ refl refl refl refl refl refl) (quiet P _ refl refl refl refl refl refl)
channel_quiet lines P (Write ch value) =
    let R : Spe → Type 0 = IsQuiet P in
    if_cond (is_write (way_of ch)) _ _ R (if_so (may_write P ch value) _ R (λ may. written_quiet lines P ch value may)) (quiet P _ refl refl refl refl refl refl)

followed_quiet : (lines : ℕ) (P : Spe) (flow : Flow) → IfSome (followed lines P flow) (IsQuiet P)
followed_quiet lines P (Next pc) = quiet P _ refl refl refl refl refl refl
followed_quiet lines P (Stop code next) = quiet P _ refl refl refl refl refl refl
followed_quiet lines P (Halt next) = quiet P _ refl refl refl refl refl refl
followed_quiet lines P (Channel op) = channel_quiet lines P op

if_on : {X : Type 0} (o : Option X) (A B : X → Type 0) → ((x : X) → A x → B x) → IfSome o A → IfSome o B
if_on None A B k h = tt
if_on (Some x) A B k h = k x h

instr_quiet : (lines : ℕ) (P : Spe) (o : Option Instr) → IfSome (exec_instr lines P o) (IsQuiet P)
instr_quiet lines P None = quiet P _ refl refl refl refl refl refl
instr_quiet lines P (Some i) =
    let o = meaning i P.pc P.registers P.store in
    let K : Spe = record P { registers = o.regs; store = o.store } in
    if_on (followed lines K o.flow) (IsQuiet K) (IsQuiet P)
    (λ Q q. record {
      calm = record { lost = q.calm.lost; first = q.calm.first; second = q.calm.second; outbound = q.calm.outbound; interrupt = q.calm.interrupt; inbound = q.calm.inbound };
      stalls = q.stalls;
      reserved = q.reserved;
    })
    (followed_quiet lines K o.flow)

pub exec-quiet : (lines : ℕ) (P : Spe) → IfSome (exec lines P) (IsQuiet P)
unfolding exec
exec-quiet lines P = if_so (is_running P.status) _ (IsQuiet P) (λ runs. instr_quiet lines P (instr_of (word_at P.store P.pc)))

-- ---- steps of the flow controller

-- neither a copy nor a mark nor what is told of a stall changes what these events are about
pub record IsSame (P Q : Spe) : Type 0 where
  pub reserved : Q.reserved ≡ P.reserved
  pub signals : Q.signals ≡ P.signals
  pub outbound : Q.outbound ≡ P.outbound
  pub interrupt : Q.interrupt ≡ P.interrupt
  pub inbound : Q.inbound ≡ P.inbound

pub same-is_calm : (P Q : Spe) → IsSame P Q → IsCalm P Q
same-is_calm P Q s = same-calm P Q s.reserved s.signals s.outbound s.interrupt s.inbound

same_refl : (P : Spe) → IsSame P P
same_refl P = record { reserved = refl; signals = refl; outbound = refl; interrupt = refl; inbound = refl }

notified_same : (P : Spe) (m : Moves) (c : ℕ) (d : Command) → IsSame P (notified (record P { moves = m }) c d)
notified_same P m c d = on_test (is_stalled m c d) (told (record P { moves = m }) d.tag) (record P { moves = m }) (IsSame P)
    (λ e. record { reserved = refl; signals = refl; outbound = refl; interrupt = refl; inbound = refl })
    (record { reserved = refl; signals = refl; outbound = refl; interrupt = refl; inbound = refl })

copied_same : (memory : MainMemory) (P : Spe) (b : Bool) (x : Part) → IsSame P (copied memory P b x).spe
unfolding copied
copied_same memory P true x = record { reserved = refl; signals = refl; outbound = refl; interrupt = refl; inbound = refl }
copied_same memory P false x = record { reserved = refl; signals = refl; outbound = refl; interrupt = refl; inbound = refl }

sent_same : (memory : MainMemory) (P : Spe) (x : Part) → IsSame P (sent memory P x).spe
unfolding sent
sent_same memory P x = record { reserved = refl; signals = refl; outbound = refl; interrupt = refl; inbound = refl }

part_same : (memory : MainMemory) (P : Spe) (kind : Kind) (x : Part) → IsSame P (moved_part memory P kind x).spe
part_same memory P kind x = on_cond (is_signal kind) _ _ (λ (y : Left). IsSame P y.spe) (sent_same memory P x) (copied_same memory P (is_put kind) x)

same_then : (P Q R : Spe) → IsSame P Q → IsSame Q R → IsSame P R
same_then P Q R s t = record {
  reserved = t.reserved ∙ s.reserved;
  signals = t.signals ∙ s.signals;
  outbound = t.outbound ∙ s.outbound;
  interrupt = t.interrupt ∙ s.interrupt;
  inbound = t.inbound ∙ s.inbound;
}

pub piece-same : (memory : MainMemory) (P : Spe) (c e k : ℕ) → IfSome (piece memory P c e k) (λ x. IsSame P x.spe)
unfolding piece
piece-same memory P c e k = if_so (may_piece P c e k) _ (λ x. IsSame P x.spe) (λ may.
    each_of (slice_get P.moves.issued c) _ (λ x. IsSame P x.spe) (λ d at.
    each_map (present P.moves.read c d) (piece_of memory P c k d) (λ x. IsSame P x.spe) (λ x there.
    same_then P (after_part P c x.number k d) (piece_of memory P c k d x).spe
    (notified_same P (with_done P.moves c x.number k) c d) (part_same memory (after_part P c x.number k d) d.kind (part_in x k)))))

pub elem-same : (lines : ℕ) (P : Spe) (c : ℕ) → IfSome (elem lines P c) (IsSame P)
unfolding elem
elem-same lines P c = if_so (may_elem P c) _ (IsSame P) (λ may.
    each_map (slice_get P.moves.issued c) (λ d. after_element P c d (next_element lines P c d)) (IsSame P) (λ d at. after d (next_element lines P c d)))
  where
    after : (d : Command) (r : Result Element Fault) → IsSame P (after_element P c d r)
    after d (Ok x) = notified_same P (with_read P.moves c x) c d
    after d (Err kind) = record { reserved = refl; signals = refl; outbound = refl; interrupt = refl; inbound = refl }

pub retire-same : (P : Spe) (c : ℕ) → IfSome (retire P c) (IsSame P)
unfolding retire
retire-same P c = if_so (may_retire P c) _ (IsSame P) (λ may. record { reserved = refl; signals = refl; outbound = refl; interrupt = refl; inbound = refl })

-- ---- an atomic command

-- it leaves all that events are about but the reservation
pub record IsAtomicSame (P Q : Spe) : Type 0 where
  pub signals : Q.signals ≡ P.signals
  pub outbound : Q.outbound ≡ P.outbound
  pub interrupt : Q.interrupt ≡ P.interrupt
  pub inbound : Q.inbound ≡ P.inbound
  pub moves : Q.moves ≡ P.moves
  pub tags : Q.tags ≡ P.tags
  pub stalls : Q.channels.stalls ≡ P.channels.stalls

copied_atomic : (memory : MainMemory) (P Q : Spe) (b : Bool) (x : Part) → IsAtomicSame P Q → IsAtomicSame P (copied memory Q b x).spe
unfolding copied
copied_atomic memory P Q true x s = record { signals = s.signals; outbound = s.outbound; interrupt = s.interrupt; inbound = s.inbound; moves = s.moves; tags = s.tags; stalls = s.stalls }
copied_atomic memory P Q false x s = record { signals = s.signals; outbound = s.outbound; interrupt = s.interrupt; inbound = s.inbound; moves = s.moves; tags = s.tags; stalls = s.stalls }

moved_atomic : (memory : MainMemory) (P Q : Spe) (a : AtomicOp) (f : Fate) → IsAtomicSame P Q → IsAtomicSame P (moved memory Q a f).spe
moved_atomic memory P Q a Fate.Got s = copied_atomic memory P Q false (line_part a) s
moved_atomic memory P Q a Fate.Stored s = copied_atomic memory P Q true (line_part a) s
moved_atomic memory P Q a Fate.Lost s = s

copied_sent : (memory : MainMemory) (Q : Spe) (b : Bool) (x : Part) → (copied memory Q b x).sent ≡ None
unfolding copied
copied_sent memory Q true x = refl
copied_sent memory Q false x = refl

moved_sent : (memory : MainMemory) (Q : Spe) (a : AtomicOp) (f : Fate) → (moved memory Q a f).sent ≡ None
moved_sent memory Q a Fate.Got = copied_sent memory Q false (line_part a)
moved_sent memory Q a Fate.Stored = copied_sent memory Q true (line_part a)
moved_sent memory Q a Fate.Lost = refl

pub atomic-same : (memory : MainMemory) (P : Spe) → IfSome (atomic memory P) (λ x. IsAtomicSame P x.spe × (x.sent ≡ None))
unfolding atomic
atomic-same memory P = if_so (may_atomic P) _ (λ x. IsAtomicSame P x.spe × (x.sent ≡ None)) (λ may.
    each_map P.channels.slot (after_atomic memory P) (λ x. IsAtomicSame P x.spe × (x.sent ≡ None)) (λ a at. (
      moved_atomic memory P (answered memory P a) a (fate memory P a) (record { signals = refl; outbound = refl; interrupt = refl; inbound = refl; moves = refl; tags = refl; stalls = refl }),
      moved_sent memory (answered memory P a) a (fate memory P a),
    )))
