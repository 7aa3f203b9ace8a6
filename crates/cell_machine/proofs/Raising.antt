-- Which events a step raises: what a step leaves as it was raises nothing, a store raises the loss of a reservation where the line was held,
-- and a delivery raises its signal where the register wasn't ready.
use Rattle.std.proofs.Common.{◌≡◌, ◌≢◌, ℕ, ◌/◌, ◌+◌, ◌*◌, ◌-◌, ◌<◌, ◌≤◌, ◌==◌, min, Bool, true, false, ◌&&◌, List, [], ◌∷◌, length, slice_set, Option, Some, None, arith, refl, sym, ◌∙◌, ap, subst}
use Rattle.std.specs.Prelude.{not, bit_or, fold, is_some, cond, if◌then◌else◌}
use Rattle.std.specs.Int.Bits.{or_zero_r}
use Rattle.std.specs.Option.{option_map_or}
use Rattle.std.proofs.lemmas.Bool.Decides.{nat_tests}
use Rattle.std.proofs.lemmas.Nat.Bits.{bit_at_or, same_from_bits}
use Rattle.lock_lines.specs.Versions.{Reserved, version_of, raised as raised_line, is_current}
use Rattle.lock_lines.proofs.VersionLaws.{version-other, version-same}
use Rattle.mfc_command.specs.Parts.{part_of}
use Rattle.mfc_lists.specs.declared.Element.{Element}
use Rattle.tag_groups.specs.declared.Tags.{Tags}
use Rattle.tag_groups.specs.declared.Request.{Request}
use Rattle.tag_groups.specs.Settle.{fixed_at, idle_groups, is_met}
use Rattle.cell_signals.specs.Registers.{register_of}
use Rattle.cell_machine.specs.Spe.{Spe}
use Rattle.cell_machine.specs.Memory.{MainMemory, stored}
use Rattle.cell_machine.specs.Moves.{busy, parts_in}
use Rattle.cell_machine.specs.Transfers.{part_in}
use Rattle.cell_machine.specs.Tags.{settled, fixes}
use Rattle.cell_machine.specs.Limits.{IsRegister}
use Rattle.cell_machine.proofs.AllTwo.{none_of}
use Rattle.cell_machine.specs.Signals.{with_signal}
use Rattle.cell_machine.specs.Raised.{Sight, Event, event, with_event, begins, ceases, holds_line, has_signal, is_outbound_full, is_interrupt_full, has_inbound, is_queue_full, has_stall, events, bits_of, with_raised}
use Rattle.cell_machine.specs.Shows.{IsSignal, event_of, is_held, is_lost, IsStill}
use Rattle.cell_machine.specs.OwnEvents.{alone, own_bits, with_own, with_freed, with_fixed, with_flow}

-- ---- bits

pub never : (b : Bool) → (not b && b) ≡ false
never true = refl
never false = refl

pub gone : (b : Bool) → (b && not b) ≡ false
gone true = refl
gone false = refl

and_true : (b : Bool) → (b && true) ≡ b
and_true true = refl
and_true false = refl

and_false : (b : Bool) → (b && false) ≡ false
and_false true = refl
and_false false = refl

or-later : (a b c : ℕ) → bit_or (bit_or a b) c ≡ bit_or (bit_or a c) b
or-later a b c = same_from_bits (bit_or (bit_or a b) c) (bit_or (bit_or a c) b) (λ i. omega (arith, bit_at_or (bit_or a b) c i, bit_at_or a b i, bit_at_or (bit_or a c) b i, bit_at_or a c i))

or-within : (a b c : ℕ) → bit_or (bit_or a b) c ≡ bit_or a (bit_or b c)
or-within a b c = same_from_bits (bit_or (bit_or a b) c) (bit_or a (bit_or b c)) (λ i. omega (arith, bit_at_or (bit_or a b) c i, bit_at_or a b i, bit_at_or a (bit_or b c) i, bit_at_or b c i))

-- no bit leaves all that is pending, and two sets of bits are raised as one
pub raised-none : (P : Spe) → with_raised P 0 ≡ P
raised-none P = ap (λ n. record P { events = record P.events { pending = n } }) (or_zero_r P.events.pending)

pub raised-twice : (P : Spe) (a b : ℕ) → with_raised (with_raised P a) b ≡ with_raised P (bit_or a b)
raised-twice P a b = ap (λ n. record P { events = record P.events { pending = n } }) (or-within P.events.pending a b)

fold-or : (es : List Event) (a b : ℕ) → fold with_event (bit_or a b) es ≡ bit_or (fold with_event a es) b
fold-or [] a b = refl
fold-or (e ∷ es) a b = ap (λ n. fold with_event n es) (on e.raised) ∙ fold-or es (with_event a e) b
  where
    on : (r : Bool) → (if r then bit_or (bit_or a b) e.bit else bit_or a b) ≡ bit_or (if r then bit_or a e.bit else a) b
    on true = or-later a b e.bit
    on false = refl

-- one event more, wherever it stands
more : (n bit : ℕ) (c : Bool) (es : List Event) → fold with_event n (event bit c ∷ es) ≡ bit_or (fold with_event n (event bit false ∷ es)) (if c then bit else 0)
more n bit true es = fold-or es n bit
more n bit false es = sym (or_zero_r (fold with_event n es))

-- ---- what a step leaves as it was raises nothing

-- what bears on the events but those of the flow controller doesn't come about
pub record IsCalm (P Q : Spe) : Type 0 where
  pub lost : ceases holds_line (alone P) (alone Q) ≡ false
  pub first : begins (has_signal 1) (alone P) (alone Q) ≡ false
  pub second : begins (has_signal 2) (alone P) (alone Q) ≡ false
  pub outbound : ceases is_outbound_full (alone P) (alone Q) ≡ false
  pub interrupt : ceases is_interrupt_full (alone P) (alone Q) ≡ false
  pub inbound : begins has_inbound (alone P) (alone Q) ≡ false

calm_bits : (P Q : Spe) → IsCalm P Q
    → own_bits P Q ≡ bits_of (event 0x8 (ceases is_queue_full (alone P) (alone Q)) ∷ event 0x2 (begins has_stall (alone P) (alone Q)) ∷ event 0x1 (fixes Q) ∷ [])
unfolding own_bits bits_of
calm_bits P Q calm = rw (calm.lost, calm.first, calm.second, calm.outbound, calm.interrupt, calm.inbound) refl

three : (a b c : Bool) → bit_or (bit_or (if a then 0x8 else 0) (if b then 0x2 else 0)) (if c then 0x1 else 0) ≡ bits_of (event 0x8 a ∷ event 0x2 b ∷ event 0x1 c ∷ [])
unfolding bits_of
three true true true = refl
three true true false = refl
three true false true = refl
three true false false = refl
three false true true = refl
three false true false = refl
three false false true = refl
three false false false = refl

-- then the events of the flow controller are all there are
pub calm-flow : (P Q : Spe) → IsCalm P Q → with_flow P Q ≡ settled (with_own P Q)
calm-flow P Q calm =
    let a : ℕ = if ceases is_queue_full (alone P) (alone Q) then 0x8 else 0 in
    let b : ℕ = if begins has_stall (alone P) (alone Q) then 0x2 else 0 in
    let c : ℕ = if fixes Q then 0x1 else 0 in
    ap settled (raised-twice (with_raised Q a) b c ∙ raised-twice Q a (bit_or b c)
    ∙ ap (with_raised Q) (sym (or-within a b c) ∙ three (ceases is_queue_full (alone P) (alone Q)) (begins has_stall (alone P) (alone Q)) (fixes Q) ∙ sym (calm_bits P Q calm)))

-- a step that stores no line, and with which no list comes to stall
pub calm-freed : (P Q : Spe) → IsCalm P Q → begins has_stall (alone P) (alone Q) ≡ false → with_fixed (with_freed P Q) ≡ settled (with_own P Q)
calm-freed P Q calm still =
    let K = with_freed P Q in
    ap with_fixed (sym (raised-none K) ∙ ap (λ b. with_raised K (if b then 0x2 else 0)) (sym still)) ∙ calm-flow P Q calm

-- a processor that is as it was, and settled, raises nothing
pub same-calm : (P Q : Spe) → Q.reserved ≡ P.reserved → Q.signals ≡ P.signals → Q.outbound ≡ P.outbound → Q.interrupt ≡ P.interrupt → Q.inbound ≡ P.inbound → IsCalm P Q
same-calm P Q reserved signals outbound interrupt inbound = record {
  lost = rw reserved (gone (holds_line (alone P)));
  first = rw signals (never (has_signal 1 (alone P)));
  second = rw signals (never (has_signal 2 (alone P)));
  outbound = rw outbound (gone (is_outbound_full (alone P)));
  interrupt = rw interrupt (gone (is_interrupt_full (alone P)));
  inbound = rw inbound (never (has_inbound (alone P)));
}

pub none-raised : (P : Spe) → fixes P ≡ false → own_bits P P ≡ 0
unfolding bits_of
none-raised P h = calm_bits P P (same-calm P P refl refl refl refl refl) ∙ on
  where
    on : bits_of (event 0x8 (ceases is_queue_full (alone P) (alone P)) ∷ event 0x2 (begins has_stall (alone P) (alone P)) ∷ event 0x1 (fixes P) ∷ []) ≡ 0
    on = rw (gone (is_queue_full (alone P)), never (has_stall (alone P)), h) refl

-- a request that is met is one that is settled
pub once : (busy issued : ℕ) (t : Tags) (o : Option Request) → t.request ≡ o
    → option_map_or (is_met busy) o false ≡ (is_some o && not (is_some (fixed_at busy issued t o).request))
once busy issued t None e = refl
once busy issued t (Some r) e = on (is_met busy r)
  where
    on : (b : Bool) → b ≡ not (is_some (cond b (record { mask = t.mask; request = None; status = Some (record { groups = idle_groups busy r.mask; issued = issued }) }) t).request)
    on true = refl
    on false = sym (ap (λ q. not (is_some q)) e)

pub still-unfixed : (P : Spe) → IsStill P → fixes P ≡ false
still-unfixed P still =
    once (busy P.moves) (length P.moves.issued) P.tags P.tags.request refl
    ∙ ap (λ r. is_some P.tags.request && not (is_some r)) (ap (λ (X : Spe). X.tags.request) still) ∙ gone (is_some P.tags.request)

-- and where there is none, nothing is
pub unasked : (P : Spe) → is_some P.tags.request ≡ false → with_fixed P ≡ P
unasked P off =
    let e : P.tags.request ≡ None = none_of P.tags.request off in
    let f : fixes P ≡ false = ap (λ o. option_map_or (is_met (busy P.moves)) o false) e in
    let s : settled P ≡ P = ap (λ t. record P { tags = t }) (ap (fixed_at (busy P.moves) (length P.moves.issued) P.tags) e) in
    ap (λ b. settled (with_raised P (if b then 0x1 else 0))) f ∙ ap settled (raised-none P) ∙ s

pub still-own : (P : Spe) → IsStill P → settled (with_own P P) ≡ P
still-own P still = ap (λ n. settled (with_raised P n)) (none-raised P (still-unfixed P still)) ∙ ap settled (raised-none P) ∙ still

-- ---- the loss of a reservation, and a signal

-- a processor at some time
abbrev pub at_time : Spe → MainMemory → Sight
at_time P m = record { spe = P; memory = m }

-- another memory raises the loss alone
pub lost-raised : (P Q : Spe) (m n : MainMemory) → Q.reserved ≡ P.reserved
    → bits_of (events (at_time P m) (at_time Q n) false) ≡ bit_or (own_bits P Q) (if is_lost m n P.reserved then 0x400 else 0)
unfolding own_bits bits_of
lost-raised P Q m n same =
    let is : (ceases holds_line (at_time P m) (at_time Q n) && true) ≡ is_lost m n P.reserved = and_true _ ∙ ap (λ o. is_held m P.reserved && not (is_held n o)) same in
    let none : (ceases holds_line (alone P) (alone Q) && true) ≡ false = and_true _ ∙ rw same (gone (holds_line (alone P))) in
    rw (is, none) (more 0 0x400 (is_lost m n P.reserved) (rest_of P Q))
  where
    rest_of : Spe → Spe → List Event
    rest_of P Q =
        event 0x200 (begins (has_signal 1) (alone P) (alone Q)) ∷ event 0x100 (begins (has_signal 2) (alone P) (alone Q)) ∷ event 0x80 (ceases is_outbound_full (alone P) (alone Q))
        ∷ event 0x40 (ceases is_interrupt_full (alone P) (alone Q)) ∷ event 0x10 (begins has_inbound (alone P) (alone Q)) ∷ event 0x8 (ceases is_queue_full (alone P) (alone Q))
        ∷ event 0x2 (begins has_stall (alone P) (alone Q)) ∷ event 0x1 (fixes Q) ∷ []

-- a value that is delivered raises its signal where the register wasn't ready
pub signal-raised : (P Q : Spe) (r value : ℕ) → IsRegister r → Q.signals ≡ P.signals
    → own_bits P (with_signal Q r value) ≡ bit_or (own_bits P Q) (if not (register_of Q.signals r).ready then event_of r else 0)
unfolding own_bits bits_of
signal-raised P Q r value there same = on r there (r == 1) refl
  where
    lost : ℕ
    lost = with_event 0 (event 0x400 (ceases holds_line (alone P) (alone Q) && true))

    later : List Event
    later =
        event 0x80 (ceases is_outbound_full (alone P) (alone Q)) ∷ event 0x40 (ceases is_interrupt_full (alone P) (alone Q)) ∷ event 0x10 (begins has_inbound (alone P) (alone Q))
        ∷ event 0x8 (ceases is_queue_full (alone P) (alone Q)) ∷ event 0x2 (begins has_stall (alone P) (alone Q)) ∷ event 0x1 (fixes Q) ∷ []

    first : fold with_event lost (event 0x200 (not P.signals.first.ready && true) ∷ event 0x100 (not P.signals.second.ready && Q.signals.second.ready) ∷ later)
        ≡ bit_or (fold with_event lost (event 0x200 (not P.signals.first.ready && Q.signals.first.ready) ∷ event 0x100 (not P.signals.second.ready && Q.signals.second.ready) ∷ later)) (if not Q.signals.first.ready then 0x200 else 0)
    first = rw (and_true (not P.signals.first.ready), same, never P.signals.first.ready) (more lost 0x200 (not P.signals.first.ready) (event 0x100 (not P.signals.second.ready && P.signals.second.ready) ∷ later))

    second : fold with_event lost (event 0x200 (not P.signals.first.ready && Q.signals.first.ready) ∷ event 0x100 (not P.signals.second.ready && true) ∷ later)
        ≡ bit_or (fold with_event lost (event 0x200 (not P.signals.first.ready && Q.signals.first.ready) ∷ event 0x100 (not P.signals.second.ready && Q.signals.second.ready) ∷ later)) (if not Q.signals.second.ready then 0x100 else 0)
    second = rw (and_true (not P.signals.second.ready), same, never P.signals.second.ready) (more (with_event lost (event 0x200 (not P.signals.first.ready && P.signals.first.ready))) 0x100 (not P.signals.second.ready) later)

    on : (k : ℕ) → IsRegister k → (b : Bool) → (k == 1) ≡ b
        → bits_of (events (alone P) (alone (with_signal Q k value)) false) ≡ bit_or (bits_of (events (alone P) (alone Q) false)) (if not (register_of Q.signals k).ready then event_of k else 0)
    on k is true e = let one : k ≡ 1 = grind (arith, nat_tests) in subst (λ j. bits_of (events (alone P) (alone (with_signal Q j value)) false) ≡ bit_or (bits_of (events (alone P) (alone Q) false)) (if not (register_of Q.signals j).ready then event_of j else 0)) (sym one) first
    on k is false e =
        let apart : k ≢ 1 = grind (arith, nat_tests) in
        let low = is.0 in
        let high = is.1 in
        let two : k ≡ 2 = omega arith in
        subst (λ j. bits_of (events (alone P) (alone (with_signal Q j value)) false) ≡ bit_or (bits_of (events (alone P) (alone Q) false)) (if not (register_of Q.signals j).ready then event_of j else 0)) (sym two) second

-- by its own atomic command a processor raises nothing
pub atomic-raised : (P Q : Spe) (m n : MainMemory) → Q.signals ≡ P.signals → Q.outbound ≡ P.outbound → Q.interrupt ≡ P.interrupt → Q.inbound ≡ P.inbound
    → Q.moves ≡ P.moves → Q.channels.stalls ≡ P.channels.stalls → fixes Q ≡ false → bits_of (events (at_time P m) (at_time Q n) true) ≡ 0
unfolding bits_of
atomic-raised P Q m n signals outbound interrupt inbound moves stalls h =
    let x : Sight = at_time P m in
    rw (h, and_false (ceases holds_line x (at_time Q n)), signals, outbound, interrupt, inbound, moves, stalls)
    (rw (never (has_signal 1 x), never (has_signal 2 x), gone (is_outbound_full x), gone (is_interrupt_full x), never (has_inbound x), gone (is_queue_full x), never (has_stall x)) refl)

-- by a store a reservation is lost exactly where it was of the line
pub stored-loses : (o : Option Reserved) (m : MainMemory) (at : ℕ) (bytes : List ℕ) → at / 128 < length m.versions
    → is_lost m (stored m at bytes) o ≡ option_map_or (is_current m.versions (at / 128)) o false
unfolding stored
stored-loses o m at bytes within = on o
  where
    line : ℕ
    line = at / 128

    next : ℕ
    next = version_of m.versions line + 1

    same : (r : Reserved) → (r.line == r.line) ≡ true
    same r = grind (arith, nat_tests)

    by : (r : Reserved) (b c : Bool) → (line == r.line) ≡ b → (r.version == version_of m.versions r.line) ≡ c
        → ((r.version == version_of m.versions r.line) && not (r.version == version_of (slice_set m.versions line next) r.line)) ≡ (r.line == line && r.version == version_of m.versions line)
    by r true true e f =
        let to : r.line ≡ line = grind (arith, nat_tests) in
        let is : r.version ≡ version_of m.versions r.line = grind (arith, nat_tests) in
        let new : version_of (slice_set m.versions line next) r.line ≡ next = version-same m.versions line r.line next within e in
        let now : r.version ≡ version_of m.versions line = is ∙ ap (version_of m.versions) to in
        let left : (r.version == version_of (slice_set m.versions line next) r.line) ≡ false = ap (λ v. r.version == v) new ∙ grind (arith, nat_tests) in
        let here : (r.line == line) ≡ true = grind (arith, nat_tests) in
        let held : (r.version == version_of m.versions line) ≡ true = grind (arith, nat_tests) in
        rw (f, left, here, held) refl
    by r true false e f =
        let to : r.line ≡ line = grind (arith, nat_tests) in
        let held : (r.version == version_of m.versions line) ≡ false = ap (λ l. r.version == version_of m.versions l) (sym to) ∙ f in
        rw (f, held) (and_false (r.line == line))
      where
        and_false : (b : Bool) → false ≡ (b && false)
        and_false true = refl
        and_false false = refl
    by r false c e f =
        let new : version_of (slice_set m.versions line next) r.line ≡ version_of m.versions r.line = version-other m.versions line r.line next e in
        let apart : (r.line == line) ≡ false = grind (arith, nat_tests) in
        rw (new, apart) (gone (r.version == version_of m.versions r.line))

    on : (o : Option Reserved)
        → (option_map_or (λ r. is_current m.versions r.line r) o false && not (option_map_or (λ r. is_current (raised_line m.versions line) r.line r) o false)) ≡ option_map_or (is_current m.versions line) o false
    on None = refl
    on (Some r) = rw (same r) (by r (line == r.line) (r.version == version_of m.versions r.line) refl refl)

-- ---- the part of a SNDSIG

-- it has one part, which is its four bytes, though its effective address is no address
pub signal-parts : (x : Element) → IsSignal x → parts_in x ≡ 1
signal-parts x is = rw is.size (one x.ea is.register)
  where
    one : (ea : ℕ) → ea ≤ 31 → (ea + 4 - 1) / 128 - ea / 128 + 1 ≡ 1
    one ea h = omega arith

pub signal-part : (x : Element) → IsSignal x → part_in x 0 ≡ record { ls = x.ls; ea = x.ea; len = 4 }
signal-part x is = rw is.size (one x.ls x.ea is.register)
  where
    from : (ea : ℕ) → ea ≤ 31 → 128 * (ea / 128 + 0) - ea ≡ 0
    from ea h = omega arith

    to : (ea : ℕ) → ea ≤ 31 → min 4 (128 * (ea / 128 + 0 + 1) - ea) ≡ 4
    to ea h = omega arith

    none : (n : ℕ) → n + 0 ≡ n
    none n = omega arith

    one : (ls ea : ℕ) → ea ≤ 31 → part_of ls ea 4 0 ≡ record { ls = ls; ea = ea; len = 4 }
    one ls ea h = rw (from ea h, to ea h, none ls, none ea) refl

-- and no other
pub signal-first : (x : Element) (k : ℕ) → IsSignal x → k < parts_in x → k ≡ 0
signal-first x k is less = let one = signal-parts x is in omega arith
