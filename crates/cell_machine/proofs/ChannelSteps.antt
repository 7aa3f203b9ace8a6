-- The channels that are there, and their counts.
use Rattle.std.proofs.Common.{◌≡◌, ◌≢◌, ◌↔◌, ℕ, ◌-◌, ◌==◌, ◌<◌, ◌≤◌, ◌&&◌, not, Bool, true, false, List, [], ◌∷◌, ◌++◌, length, arith, refl, sym, ◌∙◌, ap, subst, true≢false}
use Rattle.std.specs.Prelude.{MatchBool, Option, Some, None, nat_lt, nat_le, is_some, is_none, IsSomeAnd, cond, Result, Ok, Err, is_err, IsOk, OnOk}
use Rattle.std.proofs.lemmas.Bool.Decides.{nat_tests}
use Rattle.cell_channels.specs.State.{count_of}
use Rattle.cell_channels.specs.Table.{way_of}
use Rattle.cell_channels.specs.declared.ways.Way.{Way}
use Rattle.cell_channels.specs.declared.ways.Way.TheVariants.{Read as Reads, Write as Writes}
use Rattle.cell_base.specs.declared.steps.ChannelOp.TheVariants.{Read, Count, Write}
use Rattle.mfc_command.specs.declared.command.Command.{Command}
use Rattle.mfc_command.specs.declared.command.AtomicOp.{AtomicOp}
use Rattle.mfc_command.specs.declared.command.Order.TheVariants.{Queued, Atomic}
use Rattle.mfc_command.specs.declared.command.DmaFault.{DmaFault as Fault}
use Rattle.mfc_command.specs.Check.{checked}
use Rattle.tag_groups.specs.declared.TagStatus.{TagStatus}
use Rattle.tag_groups.specs.Settle.{requested}
use Rattle.cell_signals.specs.Registers.{register_of}
use Rattle.cell_signals.specs.Events.{status_of, cleared}
use Rattle.cell_machine.specs.Spe.{Spe}
use Rattle.cell_machine.specs.Moves.{outstanding}
use Rattle.std.specs.Option.{option_map_or}
use Rattle.cell_channels.specs.declared.channels.Channels.{Channels}
use Rattle.cell_channels.specs.declared.channels.Counts.{Counts}
use Rattle.cell_machine.specs.declared.processor.Processor.{Processor}
use Rattle.cell_machine.specs.Shows.{ShowsSpe}
use Rattle.cell_machine.specs.Channels.{is_read, is_write, count, counts, may_write, channel, bad_channel, given, went_on, read_by, read_inbound, read_status, read_atomic, read_stalls, read_signal, is_atomic, refused, with_issued, acknowledged, parameterized, commanded, written}

off : (ch k : ℕ) → ch ≢ k → (ch == k) ≡ false
off ch k h = grind (arith, nat_tests)

-- a channel of another way, or none, is no channel that is read
skip_write : (b : Bool) (o : Option Way) → is_read o ≡ false → is_read (cond b (Some Writes) o) ≡ false
skip_write true o h = refl
skip_write false o h = h

skip_read : (b : Bool) (o : Option Way) → is_write o ≡ false → is_write (cond b (Some Reads) o) ≡ false
skip_read true o h = refl
skip_read false o h = h

pub read-other : (ch : ℕ) → ch ≢ 0 → ch ≢ 3 → ch ≢ 4 → ch ≢ 11 → ch ≢ 12 → ch ≢ 24 → ch ≢ 25 → ch ≢ 27 → ch ≢ 29 → is_read (way_of ch) ≡ false
unfolding way_of
read-other ch s t u v a b c e d =
    rw (off ch 0 s, off ch 3 t, off ch 4 u, off ch 11 v, off ch 12 a, off ch 24 b, off ch 25 c, off ch 27 e, off ch 29 d)
    (skip_write (ch == 1) _ (skip_write (ch == 2) _ (skip_write (ch == 16) _ (skip_write (ch == 17) _ (skip_write (ch == 18) _ (skip_write (ch == 19) _ (skip_write (ch == 20) _ (skip_write (ch == 21) _
    (skip_write (ch == 22) _ (skip_write (ch == 23) _ (skip_write (ch == 26) _ (skip_write (ch == 28) _ (skip_write (ch == 30) _ refl)))))))))))))

param_off : (ch k : ℕ) → (nat_le 16 ch && nat_le ch 20) ≡ false → 16 ≤ k → k ≤ 20 → (ch == k) ≡ false
param_off ch k h low high = grind (arith, nat_tests)

pub write-other : (ch : ℕ) → (nat_le 16 ch && nat_le ch 20) ≡ false → ch ≢ 1 → ch ≢ 2 → ch ≢ 21 → ch ≢ 22 → ch ≢ 23 → ch ≢ 26 → ch ≢ 28 → ch ≢ 30 → is_write (way_of ch) ≡ false
unfolding way_of
write-other ch p s t a b c f d e =
    rw (off ch 1 s, off ch 2 t, param_off ch 16 p (omega arith) (omega arith), param_off ch 17 p (omega arith) (omega arith), param_off ch 18 p (omega arith) (omega arith), param_off ch 19 p (omega arith) (omega arith), param_off ch 20 p (omega arith) (omega arith), off ch 21 a, off ch 22 b, off ch 23 c, off ch 26 f, off ch 28 d, off ch 30 e)
    (skip_read (ch == 0) _ (skip_read (ch == 3) _ (skip_read (ch == 4) _ (skip_read (ch == 11) _ (skip_read (ch == 12) _ (skip_read (ch == 24) _ (skip_read (ch == 25) _ (skip_read (ch == 27) _ (skip_read (ch == 29) _ refl)))))))))

-- what the operations come to
pub read-bad : (lines : ℕ) (P : Spe) (rt ch : ℕ) → ch ≢ 0 → ch ≢ 3 → ch ≢ 4 → ch ≢ 11 → ch ≢ 12 → ch ≢ 24 → ch ≢ 25 → ch ≢ 27 → ch ≢ 29 → channel lines P (Read rt ch) ≡ Some (bad_channel P)
unfolding channel
read-bad lines P rt ch s t u v a b c e d = rw (read-other ch s t u v a b c e d) refl

-- the event status, where it isn't 0
pub read-events : (lines : ℕ) (P : Spe) (rt : ℕ) → (status_of P.events == 0) ≡ false → channel lines P (Read rt 0) ≡ Some (given P rt (status_of P.events))
unfolding channel way_of count count_of read_by
read-events lines P rt h = rw h refl

pub events-none : (lines : ℕ) (P : Spe) (rt : ℕ) → (status_of P.events == 0) ≡ true → channel lines P (Read rt 0) ≡ None
unfolding channel way_of count count_of
events-none lines P rt h = rw h refl

pub events-read : (lines : ℕ) (b : Bool) (P : Spe) (new : Processor) (rt : ℕ) → MatchBool b (((status_of P.events == 0) ≡ false) × ShowsSpe new (given P rt (status_of P.events))) ((status_of P.events == 0) ≡ true)
    → MatchBool b (IsSomeAnd (channel lines P (Read rt 0)) (ShowsSpe new)) (channel lines P (Read rt 0) ≡ None)
events-read lines true P new rt h = rw (read-events lines P rt h.0) h.1
events-read lines false P new rt h = events-none lines P rt h

pub events-ready : (lines : ℕ) (P : Spe) (rt : ℕ) → is_some (channel lines P (Read rt 0)) ≡ not (status_of P.events == 0)
events-ready lines P rt = on (status_of P.events == 0) refl
  where
    on : (b : Bool) → (status_of P.events == 0) ≡ b → is_some (channel lines P (Read rt 0)) ≡ not b
    on true e = ap is_some (events-none lines P rt e)
    on false e = ap is_some (read-events lines P rt e)

-- a signal register, where it is ready
first-on : (lines : ℕ) (P : Spe) (rt : ℕ) → (register_of P.signals 1).ready ≡ true → channel lines P (Read rt 3) ≡ Some (read_signal P rt 1)
unfolding channel way_of count count_of read_by
first-on lines P rt h = rw h refl

first-off : (lines : ℕ) (P : Spe) (rt : ℕ) → (register_of P.signals 1).ready ≡ false → channel lines P (Read rt 3) ≡ None
unfolding channel way_of count count_of
first-off lines P rt h = rw h refl

second-on : (lines : ℕ) (P : Spe) (rt : ℕ) → (register_of P.signals 2).ready ≡ true → channel lines P (Read rt 4) ≡ Some (read_signal P rt 2)
unfolding channel way_of count count_of read_by
second-on lines P rt h = rw h refl

second-off : (lines : ℕ) (P : Spe) (rt : ℕ) → (register_of P.signals 2).ready ≡ false → channel lines P (Read rt 4) ≡ None
unfolding channel way_of count count_of
second-off lines P rt h = rw h refl

pub first-read : (lines : ℕ) (b : Bool) (P : Spe) (new : Processor) (rt : ℕ) → MatchBool b (((register_of P.signals 1).ready ≡ true) × ShowsSpe new (read_signal P rt 1)) ((register_of P.signals 1).ready ≡ false)
    → MatchBool b (IsSomeAnd (channel lines P (Read rt 3)) (ShowsSpe new)) (channel lines P (Read rt 3) ≡ None)
first-read lines true P new rt h = rw (first-on lines P rt h.0) h.1
first-read lines false P new rt h = first-off lines P rt h

pub second-read : (lines : ℕ) (b : Bool) (P : Spe) (new : Processor) (rt : ℕ) → MatchBool b (((register_of P.signals 2).ready ≡ true) × ShowsSpe new (read_signal P rt 2)) ((register_of P.signals 2).ready ≡ false)
    → MatchBool b (IsSomeAnd (channel lines P (Read rt 4)) (ShowsSpe new)) (channel lines P (Read rt 4) ≡ None)
second-read lines true P new rt h = rw (second-on lines P rt h.0) h.1
second-read lines false P new rt h = second-off lines P rt h

pub first-ready : (lines : ℕ) (P : Spe) (rt : ℕ) → is_some (channel lines P (Read rt 3)) ≡ (register_of P.signals 1).ready
first-ready lines P rt = on (register_of P.signals 1).ready refl
  where
    on : (b : Bool) → (register_of P.signals 1).ready ≡ b → is_some (channel lines P (Read rt 3)) ≡ b
    on true e = ap is_some (first-on lines P rt e)
    on false e = ap is_some (first-off lines P rt e)

pub second-ready : (lines : ℕ) (P : Spe) (rt : ℕ) → is_some (channel lines P (Read rt 4)) ≡ (register_of P.signals 2).ready
second-ready lines P rt = on (register_of P.signals 2).ready refl
  where
    on : (b : Bool) → (register_of P.signals 2).ready ≡ b → is_some (channel lines P (Read rt 4)) ≡ b
    on true e = ap is_some (second-on lines P rt e)
    on false e = ap is_some (second-off lines P rt e)

pub read-event_mask : (lines : ℕ) (P : Spe) (rt : ℕ) → channel lines P (Read rt 11) ≡ Some (given P rt P.events.mask)
unfolding channel way_of count count_of read_by
read-event_mask lines P rt = refl

pub write-event_mask : (lines : ℕ) (P : Spe) (value : ℕ) → channel lines P (Write 1 value) ≡ Some (went_on (record P { events = record P.events { mask = value } }))
unfolding channel way_of may_write count count_of written
write-event_mask lines P value = refl

pub write-event_ack : (lines : ℕ) (P : Spe) (value : ℕ) → channel lines P (Write 2 value) ≡ Some (went_on (record P { events = cleared P.events value }))
unfolding channel way_of may_write count count_of written
write-event_ack lines P value = refl

pub read-mask : (lines : ℕ) (P : Spe) (rt : ℕ) → channel lines P (Read rt 12) ≡ Some (given P rt P.tags.mask)
unfolding channel way_of count count_of read_by
read-mask lines P rt = refl

status_on : (lines : ℕ) (P : Spe) (rt : ℕ) (o : Option TagStatus) → P.tags.status ≡ o → channel lines P (Read rt 24) ≡ read_status P rt o
unfolding channel way_of count count_of read_by
status_on lines P rt None e = rw e refl
status_on lines P rt (Some status) e = rw e refl

pub read-status : (lines : ℕ) (P : Spe) (rt : ℕ) → channel lines P (Read rt 24) ≡ read_status P rt P.tags.status
read-status lines P rt = status_on lines P rt P.tags.status refl

inbound_on : (lines : ℕ) (P : Spe) (rt : ℕ) (xs : List ℕ) → P.inbound ≡ xs → channel lines P (Read rt 29) ≡ read_inbound P rt xs
unfolding channel way_of count count_of read_by
inbound_on lines P rt [] e = rw e refl
inbound_on lines P rt (x ∷ xs) e = let some : nat_lt 0 (length (x ∷ xs)) ≡ true = grind (arith, nat_tests) in rw (e, some) refl

pub read-inbound : (lines : ℕ) (P : Spe) (rt : ℕ) → channel lines P (Read rt 29) ≡ read_inbound P rt P.inbound
read-inbound lines P rt = inbound_on lines P rt P.inbound refl

pub not-clear : (b : Bool) → not b ≡ false → b ≡ true
not-clear true h = refl
not-clear false h = absurd (true≢false h)

pub not-set : (b : Bool) → not b ≡ true → b ≡ false
not-set true h = absurd (true≢false (sym h))
not-set false h = refl

-- the stall status, where it has a bit
pub read-stalls : (lines : ℕ) (P : Spe) (rt : ℕ) → (P.channels.stalls == 0) ≡ false → channel lines P (Read rt 25) ≡ Some (read_stalls P rt)
unfolding channel way_of count count_of read_by
read-stalls lines P rt h = rw h refl

pub stalls-none : (lines : ℕ) (P : Spe) (rt : ℕ) → (P.channels.stalls == 0) ≡ true → channel lines P (Read rt 25) ≡ None
unfolding channel way_of count count_of
stalls-none lines P rt h = rw h refl

-- and the code's reading of it
pub stalls-read : (lines : ℕ) (b : Bool) (P : Spe) (new : Processor) (rt : ℕ) → MatchBool b (((P.channels.stalls == 0) ≡ false) × ShowsSpe new (read_stalls P rt)) ((P.channels.stalls == 0) ≡ true)
    → MatchBool b (IsSomeAnd (channel lines P (Read rt 25)) (ShowsSpe new)) (channel lines P (Read rt 25) ≡ None)
stalls-read lines true P new rt h = rw (read-stalls lines P rt h.0) h.1
stalls-read lines false P new rt h = stalls-none lines P rt h

pub stalls-ready : (lines : ℕ) (P : Spe) (rt : ℕ) → is_some (channel lines P (Read rt 25)) ≡ not (P.channels.stalls == 0)
stalls-ready lines P rt = on (P.channels.stalls == 0) refl
  where
    on : (b : Bool) → (P.channels.stalls == 0) ≡ b → is_some (channel lines P (Read rt 25)) ≡ not b
    on true e = ap is_some (stalls-none lines P rt e)
    on false e = ap is_some (read-stalls lines P rt e)

pub write-ack : (lines : ℕ) (P : Spe) (tag : ℕ) → channel lines P (Write 26 tag) ≡ Some (went_on (acknowledged P tag))
unfolding channel way_of may_write count count_of written
write-ack lines P tag = refl

pub write-bad : (lines : ℕ) (P : Spe) (ch value : ℕ) → (nat_le 16 ch && nat_le ch 20) ≡ false → ch ≢ 1 → ch ≢ 2 → ch ≢ 21 → ch ≢ 22 → ch ≢ 23 → ch ≢ 26 → ch ≢ 28 → ch ≢ 30 → channel lines P (Write ch value) ≡ Some (bad_channel P)
unfolding channel
write-bad lines P ch value p s t a b c f d e = rw (write-other ch p s t a b c f d e) refl

pub write-mask : (lines : ℕ) (P : Spe) (value : ℕ) → channel lines P (Write 22 value) ≡ Some (went_on (record P { tags = record P.tags { mask = value } }))
unfolding channel way_of may_write count count_of written
write-mask lines P value = refl

pub write-request : (lines : ℕ) (P : Spe) (value : ℕ) → channel lines P (Write 23 value) ≡ Some (went_on (record P { tags = requested P.tags value }))
unfolding channel way_of may_write count count_of written
write-request lines P value = refl

at_param : (lines : ℕ) (P : Spe) (value k : ℕ) → k ≡ 16 → channel lines P (Write k value) ≡ Some (went_on (parameterized P k value))
unfolding channel way_of may_write count count_of written
at_param lines P value k e = rw e refl

at_param_17 : (lines : ℕ) (P : Spe) (value k : ℕ) → k ≡ 17 → channel lines P (Write k value) ≡ Some (went_on (parameterized P k value))
unfolding channel way_of may_write count count_of written
at_param_17 lines P value k e = rw e refl

at_param_18 : (lines : ℕ) (P : Spe) (value k : ℕ) → k ≡ 18 → channel lines P (Write k value) ≡ Some (went_on (parameterized P k value))
unfolding channel way_of may_write count count_of written
at_param_18 lines P value k e = rw e refl

at_param_19 : (lines : ℕ) (P : Spe) (value k : ℕ) → k ≡ 19 → channel lines P (Write k value) ≡ Some (went_on (parameterized P k value))
unfolding channel way_of may_write count count_of written
at_param_19 lines P value k e = rw e refl

at_param_20 : (lines : ℕ) (P : Spe) (value k : ℕ) → k ≡ 20 → channel lines P (Write k value) ≡ Some (went_on (parameterized P k value))
unfolding channel way_of may_write count count_of written
at_param_20 lines P value k e = rw e refl

param_on : (lines : ℕ) (P : Spe) (ch value : ℕ) (a b c d : Bool) → (ch == 16) ≡ a → (ch == 17) ≡ b → (ch == 18) ≡ c → (ch == 19) ≡ d → (nat_le 16 ch && nat_le ch 20) ≡ true
    → channel lines P (Write ch value) ≡ Some (went_on (parameterized P ch value))
param_on lines P ch value true b c d ea eb ec ed h = at_param lines P value ch (grind (arith, nat_tests))
param_on lines P ch value false true c d ea eb ec ed h = at_param_17 lines P value ch (grind (arith, nat_tests))
param_on lines P ch value false false true d ea eb ec ed h = at_param_18 lines P value ch (grind (arith, nat_tests))
param_on lines P ch value false false false true ea eb ec ed h = at_param_19 lines P value ch (grind (arith, nat_tests))
param_on lines P ch value false false false false ea eb ec ed h = at_param_20 lines P value ch (grind (arith, nat_tests))

pub write-param : (lines : ℕ) (P : Spe) (ch value : ℕ) → (nat_le 16 ch && nat_le ch 20) ≡ true → channel lines P (Write ch value) ≡ Some (went_on (parameterized P ch value))
write-param lines P ch value h = param_on lines P ch value _ _ _ _ refl refl refl refl h

pub command-off : (lines : ℕ) (P : Spe) (op : ℕ) → may_write P 21 op ≡ false → channel lines P (Write 21 op) ≡ None
unfolding channel way_of
command-off lines P op h = rw h refl

pub command-taken : (lines : ℕ) (P : Spe) (op : ℕ) → may_write P 21 op ≡ true → channel lines P (Write 21 op) ≡ Some (commanded lines P op)
unfolding channel way_of written
command-taken lines P op h = rw h refl

-- MFC_Cmd is ready for an atomic command where the slot is free, and for another where the queue has a free place
pub command-line : (P : Spe) (op : ℕ) → is_atomic op ≡ true → may_write P 21 op ≡ is_none P.channels.slot
unfolding may_write
command-line P op h = rw h refl

pub command-queue : (P : Spe) (op n : ℕ) → is_atomic op ≡ false → n ≡ 16 - length (outstanding P) → may_write P 21 op ≡ nat_lt 0 n
unfolding may_write count count_of
command-queue P op n h is = rw (h, ← is) refl

-- what a mailbox of one place that takes a value had, and has
pub put-first : {X Y : Type 0} (r : Result X Y) (old new : List ℕ) (v : ℕ) → is_err r ≡ false → (IsOk r ↔ (length old < 1)) → OnOk r (new ≡ old ++ v ∷ []) → (old ≡ []) × (new ≡ v ∷ [])
put-first (Err e) old new v h k f = absurd (true≢false h)
put-first (Ok u) [] new v h k f = (refl, f)
put-first (Ok u) (x ∷ old) new v h k f = let l : length (x ∷ old) < 1 = k.0 refl in absurd (omega arith)

pub outbound-put : (lines : ℕ) (P : Spe) (value : ℕ) → P.outbound ≡ [] → channel lines P (Write 28 value) ≡ Some (went_on (record P { outbound = value ∷ [] }))
unfolding channel way_of may_write count count_of written
outbound-put lines P value e = rw e refl

pub outbound-full : (lines : ℕ) (P : Spe) (value : ℕ) → length P.outbound ≡ 1 → channel lines P (Write 28 value) ≡ None
unfolding channel way_of may_write count count_of
outbound-full lines P value e = rw e refl

pub interrupt-put : (lines : ℕ) (P : Spe) (value : ℕ) → P.interrupt ≡ [] → channel lines P (Write 30 value) ≡ Some (went_on (record P { interrupt = value ∷ [] }))
unfolding channel way_of may_write count count_of written
interrupt-put lines P value e = rw e refl

pub interrupt-full : (lines : ℕ) (P : Spe) (value : ℕ) → length P.interrupt ≡ 1 → channel lines P (Write 30 value) ≡ None
unfolding channel way_of may_write count count_of
interrupt-full lines P value e = rw e refl

pub count-bad : (lines : ℕ) (P : Spe) (rt ch : ℕ) → is_some (way_of ch) ≡ false → channel lines P (Count rt ch) ≡ Some (bad_channel P)
unfolding channel
count-bad lines P rt ch h = rw h refl

pub count-given : (lines : ℕ) (P : Spe) (rt ch : ℕ) → is_some (way_of ch) ≡ true → channel lines P (Count rt ch) ≡ Some (given P rt (count P ch))
unfolding channel
count-given lines P rt ch h = rw h refl

-- what is behind the channels says whether an operation is allowed
status_ready : (P : Spe) (rt : ℕ) (o : Option TagStatus) → is_some (read_status P rt o) ≡ is_some o
status_ready P rt None = refl
status_ready P rt (Some status) = refl

pub status-ready : (lines : ℕ) (P : Spe) (rt : ℕ) → is_some (channel lines P (Read rt 24)) ≡ is_some P.tags.status
status-ready lines P rt = ap is_some (read-status lines P rt) ∙ status_ready P rt P.tags.status

inbound_ready : (P : Spe) (rt : ℕ) (xs : List ℕ) → is_some (read_inbound P rt xs) ≡ nat_lt 0 (length xs)
inbound_ready P rt [] = refl
inbound_ready P rt (x ∷ xs) = let some : nat_lt 0 (length (x ∷ xs)) ≡ true = grind (arith, nat_tests) in sym some

pub read-ready : (lines : ℕ) (P : Spe) (rt : ℕ) → is_some (channel lines P (Read rt 29)) ≡ nat_lt 0 (length P.inbound)
read-ready lines P rt = ap is_some (read-inbound lines P rt) ∙ inbound_ready P rt P.inbound

read_on : (lines : ℕ) (P : Spe) (rt ch : ℕ) (b v : Bool) → (ch == 12) ≡ b → (ch == 11) ≡ v → ch ≢ 0 → ch ≢ 3 → ch ≢ 4 → ch ≢ 24 → ch ≢ 25 → ch ≢ 27 → ch ≢ 29 → is_some (channel lines P (Read rt ch)) ≡ true
read_on lines P rt ch true v e g s t u a d f c = let is : ch ≡ 12 = grind (arith, nat_tests) in rw is (ap is_some (read-mask lines P rt))
read_on lines P rt ch false true e g s t u a d f c = let is : ch ≡ 11 = grind (arith, nat_tests) in rw is (ap is_some (read-event_mask lines P rt))
read_on lines P rt ch false false e g s t u a d f c =
    ap is_some (read-bad lines P rt ch s t u (let differs : ch ≢ 11 = grind (arith, nat_tests) in differs) (let differs : ch ≢ 12 = grind (arith, nat_tests) in differs) a d f c)

pub read-always : (lines : ℕ) (P : Spe) (rt ch : ℕ) → ch ≢ 0 → ch ≢ 3 → ch ≢ 4 → ch ≢ 24 → ch ≢ 25 → ch ≢ 27 → ch ≢ 29 → is_some (channel lines P (Read rt ch)) ≡ true
read-always lines P rt ch s t u a d f c = read_on lines P rt ch (ch == 12) (ch == 11) refl refl s t u a d f c

write_on : (lines : ℕ) (P : Spe) (ch value : ℕ) (s t a b f p : Bool) → (ch == 1) ≡ s → (ch == 2) ≡ t → (ch == 22) ≡ a → (ch == 23) ≡ b → (ch == 26) ≡ f → (nat_le 16 ch && nat_le ch 20) ≡ p → ch ≢ 21 → ch ≢ 28 → ch ≢ 30 → is_some (channel lines P (Write ch value)) ≡ true
write_on lines P ch value true t a b f p es et ea eb ef ep x y z = let is : ch ≡ 1 = grind (arith, nat_tests) in rw is (ap is_some (write-event_mask lines P value))
write_on lines P ch value false true a b f p es et ea eb ef ep x y z = let is : ch ≡ 2 = grind (arith, nat_tests) in rw is (ap is_some (write-event_ack lines P value))
write_on lines P ch value false false true b f p es et ea eb ef ep x y z = let is : ch ≡ 22 = grind (arith, nat_tests) in rw is (ap is_some (write-mask lines P value))
write_on lines P ch value false false false true f p es et ea eb ef ep x y z = let is : ch ≡ 23 = grind (arith, nat_tests) in rw is (ap is_some (write-request lines P value))
write_on lines P ch value false false false false true p es et ea eb ef ep x y z = let is : ch ≡ 26 = grind (arith, nat_tests) in rw is (ap is_some (write-ack lines P value))
write_on lines P ch value false false false false false true es et ea eb ef ep x y z = ap is_some (write-param lines P ch value ep)
write_on lines P ch value false false false false false false es et ea eb ef ep x y z =
    let s : ch ≢ 1 = grind (arith, nat_tests) in
    let t : ch ≢ 2 = grind (arith, nat_tests) in
    let a : ch ≢ 22 = grind (arith, nat_tests) in
    let b : ch ≢ 23 = grind (arith, nat_tests) in
    let f : ch ≢ 26 = grind (arith, nat_tests) in
    ap is_some (write-bad lines P ch value ep s t x a b f y z)

pub write-always : (lines : ℕ) (P : Spe) (ch value : ℕ) → ch ≢ 21 → ch ≢ 28 → ch ≢ 30 → is_some (channel lines P (Write ch value)) ≡ true
write-always lines P ch value x y z = write_on lines P ch value (ch == 1) (ch == 2) (ch == 22) (ch == 23) (ch == 26) _ refl refl refl refl refl refl x y z

pub command-ready : (lines : ℕ) (P : Spe) (op : ℕ) → is_some (channel lines P (Write 21 op)) ≡ may_write P 21 op
command-ready lines P op = on (may_write P 21 op) refl
  where
    on : (b : Bool) → may_write P 21 op ≡ b → is_some (channel lines P (Write 21 op)) ≡ b
    on true e = ap is_some (command-taken lines P op e)
    on false e = ap is_some (command-off lines P op e)

outbound_ready : (lines : ℕ) (P : Spe) (value : ℕ) (xs : List ℕ) → P.outbound ≡ xs → length xs ≤ 1 → is_some (channel lines P (Write 28 value)) ≡ nat_lt (length xs) 1
outbound_ready lines P value [] e l = ap is_some (outbound-put lines P value e)
outbound_ready lines P value (x ∷ xs) e l =
    let one : length (x ∷ xs) ≡ 1 = omega arith in
    ap is_some (outbound-full lines P value (ap length e ∙ one)) ∙ sym (ap (λ n. nat_lt n 1) one)

pub outbound-ready : (lines : ℕ) (P : Spe) (value : ℕ) → length P.outbound ≤ 1 → is_some (channel lines P (Write 28 value)) ≡ nat_lt (length P.outbound) 1
outbound-ready lines P value l = outbound_ready lines P value P.outbound refl l

interrupt_ready : (lines : ℕ) (P : Spe) (value : ℕ) (xs : List ℕ) → P.interrupt ≡ xs → length xs ≤ 1 → is_some (channel lines P (Write 30 value)) ≡ nat_lt (length xs) 1
interrupt_ready lines P value [] e l = ap is_some (interrupt-put lines P value e)
interrupt_ready lines P value (x ∷ xs) e l =
    let one : length (x ∷ xs) ≡ 1 = omega arith in
    ap is_some (interrupt-full lines P value (ap length e ∙ one)) ∙ sym (ap (λ n. nat_lt n 1) one)

pub interrupt-ready : (lines : ℕ) (P : Spe) (value : ℕ) → length P.interrupt ≤ 1 → is_some (channel lines P (Write 30 value)) ≡ nat_lt (length P.interrupt) 1
interrupt-ready lines P value l = interrupt_ready lines P value P.interrupt refl l

-- and the code's puts are the writes
pub write-outbound : (lines : ℕ) (b : Bool) (P : Spe) (new : Processor) (value : ℕ) → MatchBool b ((P.outbound ≡ []) × ShowsSpe new (went_on (record P { outbound = value ∷ [] }))) (length P.outbound ≡ 1)
    → MatchBool b (IsSomeAnd (channel lines P (Write 28 value)) (ShowsSpe new)) (channel lines P (Write 28 value) ≡ None)
write-outbound lines true P new value h = rw (outbound-put lines P value h.0) h.1
write-outbound lines false P new value h = outbound-full lines P value h

pub write-interrupt : (lines : ℕ) (b : Bool) (P : Spe) (new : Processor) (value : ℕ) → MatchBool b ((P.interrupt ≡ []) × ShowsSpe new (went_on (record P { interrupt = value ∷ [] }))) (length P.interrupt ≡ 1)
    → MatchBool b (IsSomeAnd (channel lines P (Write 30 value)) (ShowsSpe new)) (channel lines P (Write 30 value) ≡ None)
write-interrupt lines true P new value h = rw (interrupt-put lines P value h.0) h.1
write-interrupt lines false P new value h = interrupt-full lines P value h

-- the count that the code comes to
pub counts-are : (P : Spe) (f i o r : ℕ) (t a2 b2 c2 : Bool) → a2 ≡ (register_of P.signals 1).ready → b2 ≡ (register_of P.signals 2).ready → c2 ≡ not (status_of P.events == 0) → f ≡ 16 - length (outstanding P) → t ≡ is_some P.tags.status → i ≡ length P.inbound → o ≡ length P.outbound → r ≡ length P.interrupt
    → record { free = f; tags = t; inbound = i; outbound = 1 - o; intr = 1 - r; sig1 = a2; sig2 = b2; event = c2 } ≡ counts P
counts-are P f i o r t a2 b2 c2 x y z d e a b c = rw (x, y, z, a, b, c, d, e) refl

pub count-ok : (P : Spe) (ch n : ℕ) (s : Channels) (k : Counts) → P.channels ≡ s → k ≡ counts P → count_of s k ch ≡ Some n → n ≡ count P ch
unfolding count
count-ok P ch n s k is same h =
    let e : count_of P.channels (counts P) ch ≡ Some n = subst (λ x. count_of P.channels x ch ≡ Some n) same (subst (λ x. count_of x k ch ≡ Some n) (sym is) h) in
    sym (ap (λ o. option_map_or (λ m. m) o 0) e)

count_on : (lines : ℕ) (P : Spe) (rt ch : ℕ) (b : Bool) → is_some (way_of ch) ≡ b → is_some (channel lines P (Count rt ch)) ≡ true
count_on lines P rt ch true e = ap is_some (count-given lines P rt ch e)
count_on lines P rt ch false e = ap is_some (count-bad lines P rt ch e)

pub count-some : (lines : ℕ) (P : Spe) (rt ch : ℕ) → is_some (channel lines P (Count rt ch)) ≡ true
count-some lines P rt ch = count_on lines P rt ch (is_some (way_of ch)) refl

-- the atomic status
atomic_on : (lines : ℕ) (P : Spe) (rt : ℕ) (o : Option ℕ) → P.channels.atomic ≡ o → channel lines P (Read rt 27) ≡ read_atomic P rt o
unfolding channel way_of count count_of read_by
atomic_on lines P rt None e = rw e refl
atomic_on lines P rt (Some status) e = rw e refl

pub read-atomic : (lines : ℕ) (P : Spe) (rt : ℕ) → channel lines P (Read rt 27) ≡ read_atomic P rt P.channels.atomic
read-atomic lines P rt = atomic_on lines P rt P.channels.atomic refl

pub atomic-off : (P : Spe) (rt : ℕ) (o : Option ℕ) → is_some o ≡ false → read_atomic P rt o ≡ None
atomic-off P rt None h = refl
atomic-off P rt (Some status) h = absurd (true≢false h)

atomic_ready : (P : Spe) (rt : ℕ) (o : Option ℕ) → is_some (read_atomic P rt o) ≡ is_some o
atomic_ready P rt None = refl
atomic_ready P rt (Some status) = refl

pub atomic-ready : (lines : ℕ) (P : Spe) (rt : ℕ) → is_some (channel lines P (Read rt 27)) ≡ is_some P.channels.atomic
atomic-ready lines P rt = ap is_some (read-atomic lines P rt) ∙ atomic_ready P rt P.channels.atomic

-- what a word that is written to MFC_Cmd comes to
pub commanded-queued : (lines : ℕ) (P : Spe) (op : ℕ) (d : Command) → checked P.channels.params op lines ≡ Ok (Queued d) → commanded lines P op ≡ went_on (record P { moves = with_issued P.moves d })
unfolding commanded
commanded-queued lines P op d e = rw e refl

pub commanded-line : (lines : ℕ) (P : Spe) (op : ℕ) (a : AtomicOp) → checked P.channels.params op lines ≡ Ok (Atomic a) → commanded lines P op ≡ went_on (record P { channels = record P.channels { slot = Some a } })
unfolding commanded
commanded-line lines P op a e = rw e refl

pub commanded-fault : (lines : ℕ) (P : Spe) (op : ℕ) (kind : Fault) → checked P.channels.params op lines ≡ Err kind → commanded lines P op ≡ refused P kind
unfolding commanded
commanded-fault lines P op kind e = rw e refl
