-- What the host's actions make of a processor, with its events.
use Rattle.std.proofs.Common.{◌≡◌, ◌↔◌, ℕ, ◌+◌, ◌<◌, ◌==◌, ◌&&◌, Bool, true, false, List, [], ◌∷◌, ◌++◌, length, arith, refl, sym, ◌∙◌, ap, subst, true≢false, length-append}
use Rattle.std.specs.Prelude.{Some, None, Result, Ok, Err, IsOk, OnOk, OnErr, is_err, nat_lt, not, bit_or, if◌then◌else◌}
use Rattle.std.proofs.lemmas.Bool.Decides.{nat_tests}
use Rattle.cell_signals.specs.Registers.{register_of}
use Rattle.cell_machine.specs.declared.processor.Processor.{Processor}
use Rattle.cell_machine.specs.declared.hosts.Taken.{Taken}
use Rattle.cell_machine.specs.Spe.{Spe, is_running}
use Rattle.cell_machine.specs.Limits.{IsRegister}
use Rattle.cell_machine.specs.Signals.{with_signal}
use Rattle.cell_machine.specs.Hosts.{sent, taken, taken_of, taken_interrupt, taken_interrupt_of, awaited}
use Rattle.cell_machine.specs.Raised.{Sight, holds_line, has_signal, is_outbound_full, is_interrupt_full, has_inbound, is_queue_full, has_stall, bits_of, with_raised}
use Rattle.cell_machine.specs.Shows.{ShowsSpe, Gives, IsStill, event_of, informed}
use Rattle.cell_machine.specs.OwnEvents.{alone, own_bits, with_own}
use Rattle.cell_machine.proofs.Raising.{never, gone, raised-none, none-raised, still-unfixed, signal-raised}
use Rattle.std.specs.Int.Bits.{or_zero_l}

-- ---- the bits

first_in : (xs : List ℕ) (v : ℕ) → (not (not (length xs == 0)) && not (length (xs ++ v ∷ []) == 0)) ≡ (length xs == 0)
first_in xs v =
    let long : length (xs ++ v ∷ []) ≡ length xs + 1 = length-append xs (v ∷ []) in
    let some : (length (xs ++ v ∷ []) == 0) ≡ false = grind (arith, nat_tests) in
    rw some (on (length xs == 0))
  where
    on : (b : Bool) → (not (not b) && true) ≡ b
    on true = refl
    on false = refl

inbound_bits : (P : Spe) (v : ℕ) → IsStill P → own_bits P (record P { inbound = P.inbound ++ v ∷ [] }) ≡ (if length P.inbound == 0 then 0x10 else 0)
unfolding own_bits bits_of
inbound_bits P v still =
    let x : Sight = alone P in
    rw (gone (holds_line x), never (has_signal 1 x), never (has_signal 2 x), gone (is_outbound_full x), gone (is_interrupt_full x), gone (is_queue_full x), never (has_stall x), still-unfixed P still, first_in P.inbound v) (on (length P.inbound == 0))
  where
    on : (b : Bool) → (if b then bit_or 0 0x10 else 0) ≡ (if b then 0x10 else 0)
    on true = refl
    on false = refl

last_out : (xs : List ℕ) (v : ℕ) → ((length (v ∷ xs) == 1) && not (length xs == 1)) ≡ (length xs == 0)
last_out [] v = refl
last_out (x ∷ xs) v =
    let many : (length (v ∷ x ∷ xs) == 1) ≡ false = grind (arith, nat_tests) in
    let some : (length (x ∷ xs) == 0) ≡ false = grind (arith, nat_tests) in
    rw (many, some) refl

outbound_bits : (P : Spe) (v : ℕ) (later : List ℕ) → IsStill P → P.outbound ≡ v ∷ later → own_bits P (record P { outbound = later }) ≡ (if length later == 0 then 0x80 else 0)
unfolding own_bits bits_of
outbound_bits P v later still is =
    let x : Sight = alone P in
    let ends : (is_outbound_full x && not (length later == 1)) ≡ (length later == 0) = ap (λ xs. (length xs == 1) && not (length later == 1)) is ∙ last_out later v in
    rw (gone (holds_line x), never (has_signal 1 x), never (has_signal 2 x), ends, gone (is_interrupt_full x), never (has_inbound x), gone (is_queue_full x), never (has_stall x), still-unfixed P still) (on (length later == 0))
  where
    on : (b : Bool) → (if b then bit_or 0 0x80 else 0) ≡ (if b then 0x80 else 0)
    on true = refl
    on false = refl

interrupt_bits : (P : Spe) (v : ℕ) (later : List ℕ) → IsStill P → P.interrupt ≡ v ∷ later → own_bits P (record P { interrupt = later }) ≡ (if length later == 0 then 0x40 else 0)
unfolding own_bits bits_of
interrupt_bits P v later still is =
    let x : Sight = alone P in
    let ends : (is_interrupt_full x && not (length later == 1)) ≡ (length later == 0) = ap (λ xs. (length xs == 1) && not (length later == 1)) is ∙ last_out later v in
    rw (gone (holds_line x), never (has_signal 1 x), never (has_signal 2 x), gone (is_outbound_full x), ends, never (has_inbound x), gone (is_queue_full x), never (has_stall x), still-unfixed P still) (on (length later == 0))
  where
    on : (b : Bool) → (if b then bit_or 0 0x40 else 0) ≡ (if b then 0x40 else 0)
    on true = refl
    on false = refl

-- ---- what the code gives

pub sent-full : (P : Spe) (value : ℕ) (new : Processor) → length P.inbound ≡ 4 → Gives P None (sent value P) new
sent-full P value new full = let off : nat_lt (length P.inbound) 4 ≡ false = grind (arith, nat_tests) in rw off tt

pub sent-gives : (P : Spe) (value : ℕ) (t : Taken) (new : Processor) (b : Bool) → IsStill P → length P.inbound < 4 → t.value ≡ None → b ≡ (length P.inbound == 0)
    → ShowsSpe new (with_raised (record P { inbound = P.inbound ++ value ∷ [] }) (if b then 0x10 else 0)) → Gives P (Some t) (sent value P) new
sent-gives P value t new b still room took first shows =
    let on : nat_lt (length P.inbound) 4 ≡ true = grind (arith, nat_tests) in
    let Q : Spe = record P { inbound = P.inbound ++ value ∷ [] } in
    rw on (subst (λ n. ShowsSpe new (with_raised Q n)) (ap (λ c. if c then 0x10 else 0) first ∙ sym (inbound_bits P value still)) shows, sym took)

pub taken-none : (P : Spe) (new : Processor) → P.outbound ≡ [] → Gives P None (taken P) new
taken-none P new none = rw none tt

pub taken-gives : (P : Spe) (value : ℕ) (later : List ℕ) (t : Taken) (new : Processor) → IsStill P → P.outbound ≡ value ∷ later → t.value ≡ Some value
    → ShowsSpe new (with_raised (record P { outbound = later }) (if length later == 0 then 0x80 else 0)) → Gives P (Some t) (taken P) new
taken-gives P value later t new still is took shows =
    let Q : Spe = record P { outbound = later } in
    subst (λ xs. Gives P (Some t) (taken_of P xs) new) (sym is) (subst (λ n. ShowsSpe new (with_raised Q n)) (sym (outbound_bits P value later still is)) shows, sym took)

pub interrupt-none : (P : Spe) (new : Processor) → P.interrupt ≡ [] → Gives P None (taken_interrupt P) new
interrupt-none P new none = rw none tt

pub interrupt-gives : (P : Spe) (value : ℕ) (later : List ℕ) (t : Taken) (new : Processor) → IsStill P → P.interrupt ≡ value ∷ later → t.value ≡ Some value
    → ShowsSpe new (with_raised (record P { interrupt = later }) (if length later == 0 then 0x40 else 0)) → Gives P (Some t) (taken_interrupt P) new
interrupt-gives P value later t new still is took shows =
    let Q : Spe = record P { interrupt = later } in
    subst (λ xs. Gives P (Some t) (taken_interrupt_of P xs) new) (sym is) (subst (λ n. ShowsSpe new (with_raised Q n)) (sym (interrupt_bits P value later still is)) shows, sym took)

-- an action that leaves the processor
pub same-gives : (P : Spe) (t : Taken) (new : Processor) → IsStill P → t.value ≡ None → ShowsSpe new P → Gives P (Some t) (Some (record { spe = P; took = None })) new
same-gives P t new still took shows =
    let same : with_own P P ≡ P = ap (with_raised P) (none-raised P (still-unfixed P still)) ∙ raised-none P in
    (subst (ShowsSpe new) (sym same) shows, sym took)

pub awaited-gives : (P : Spe) (t : Taken) (new : Processor) → IsStill P → is_running P.status ≡ false → t.value ≡ None → ShowsSpe new P → Gives P (Some t) (awaited P) new
awaited-gives P t new still off took shows = rw off (same-gives P t new still took shows)

pub awaited-none : (P : Spe) (new : Processor) → is_running P.status ≡ true → Gives P None (awaited P) new
awaited-none P new on = rw on tt

pub signal-gives : (P : Spe) (r value : ℕ) (t : Taken) (new : Processor) → IsStill P → IsRegister r → t.value ≡ None → ShowsSpe new (informed P r value) → Gives P (Some t) (Some (record { spe = with_signal P r value; took = None })) new
signal-gives P r value t new still there took shows =
    let sign : ℕ = if not (register_of P.signals r).ready then event_of r else 0 in
    let bits : own_bits P (with_signal P r value) ≡ sign = signal-raised P P r value there refl ∙ ap (λ n. bit_or n sign) (none-raised P (still-unfixed P still)) ∙ or_zero_l sign in
    (subst (λ n. ShowsSpe new (with_raised (with_signal P r value) n)) (sym bits) shows, sym took)

-- what a mailbox that took a value had, and has; and one that didn't
pub put-room : {X Y : Type 0} (r : Result X Y) (old new : List ℕ) (v n : ℕ) → is_err r ≡ false → (IsOk r ↔ (length old < n)) → OnOk r (new ≡ old ++ v ∷ []) → (length old < n) × (new ≡ old ++ v ∷ [])
put-room (Err e) old new v n h k f = absurd (true≢false h)
put-room (Ok u) old new v n h k f = (k.0 refl, f)

pub put-full : {X Y : Type 0} (r : Result X Y) (old : List ℕ) (n : ℕ) → is_err r ≡ true → OnErr r (length old ≡ n) → length old ≡ n
put-full (Err e) old n h f = f
put-full (Ok u) old n h f = absurd (true≢false (sym h))
