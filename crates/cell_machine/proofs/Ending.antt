-- The end of a step: what the code delivers and raises is what the written machine does.
use Rattle.std.proofs.Common.{◌≡◌, ◌≢◌, ℕ, zero, suc, ◌+◌, ◌<◌, ◌≤◌, ◌==◌, ◌&&◌, List, [], ◌∷◌, map, length, arith, refl, sym, ◌∙◌, ap, ap₂, subst, slice_index_or, slice_set, true, false, Bool, ◌⊎◌, inl, inr}
use Rattle.std.specs.Prelude.{Option, Some, None, IsSomeAnd, IfSome, MatchBool, ⊤, slice_get, not, cond, bit_or, if◌then◌else◌}
use Rattle.std.specs.Option.{option_map, option_map_or}
use Rattle.std.specs.List.{enumerate_from}
use Rattle.std.proofs.lemmas.List.{map-set, length-set}
use Rattle.std.proofs.lemmas.Option.{slice_get-map, slice_get_within}
use Rattle.std.proofs.lemmas.Bool.Decides.{nat_tests}
use Rattle.cell_base.specs.Bits.{has_bit}
use Rattle.cell_base.specs.declared.steps.Step.{Step}
use Rattle.cell_base.specs.declared.steps.Step.TheVariants.{Exec, Piece, Atomic, Host}
use Rattle.cell_host.specs.Script.{Progress}
use Rattle.cell_signals.specs.Registers.{register_of}
use Rattle.cell_machine.specs.declared.memory.SharedMemory.{SharedMemory}
use Rattle.cell_machine.specs.declared.processor.Processor.{Processor}
use Rattle.cell_machine.specs.declared.signals.Delivery.{Delivery}
use Rattle.cell_machine.specs.declared.signals.RemoteChange.{RemoteChange}
use Rattle.cell_machine.specs.Spe.{Spe}
use Rattle.cell_machine.specs.State.{State}
use Rattle.cell_machine.specs.Memory.{MainMemory, lines_of}
use Rattle.cell_machine.specs.Tags.{settled, fixes, is_fixed}
use Rattle.cell_machine.specs.Signals.{with_signal, sent_in}
use Rattle.cell_machine.specs.Exec.{exec}
use Rattle.cell_machine.specs.Transfers.{Left, piece}
use Rattle.cell_machine.specs.Atomic.{atomic}
use Rattle.cell_machine.specs.Raised.{events, bits_of, with_raised, raised_at, is_atomic_of}
use Rattle.cell_machine.specs.Next.{act_in, own, left, with_left, with_events, closed_in}
use Rattle.cell_machine.specs.Shows.{Shows, ShowsSpe, ShowsMemory, reservations, AllTwo, AreSettled, IsStill, event_of, informed, informed_by, IsDelivery, lost_by, is_held, is_lost, Loses, LosesOthers, IsRemoteChange, Makes}
use Rattle.cell_machine.specs.OwnEvents.{own_bits, with_own, with_freed, with_fixed, with_flow}
use Rattle.cell_base.proofs.BitLaws.{bit-none}
use Rattle.cell_machine.proofs.AllTwo.{two_at, two_set, two_length, some_map, some-made}
use Rattle.cell_machine.proofs.Alike.{AreAlike, closed-alike, alike-reserved, left-alike}
use Rattle.cell_machine.proofs.Raising.{gone, calm-freed, calm-flow, atomic-raised, at_time, raised-none, raised-twice, lost-raised, signal-raised, still-own, still-unfixed}
use Rattle.cell_machine.proofs.Steps.{settled-reserved, reserved-at}
use Rattle.cell_machine.proofs.MemoryShown.{set-same}
use Rattle.cell_machine.proofs.Bounds.{settled-at}
use Rattle.cell_machine.proofs.Calm.{IsQuiet, exec-quiet, IsSame, same-is_calm, piece-same, IsAtomicSame, atomic-same}

-- ---- lists

pub list-same : {X : Type 0} (xs ys : List X) → ((i : ℕ) → slice_get xs i ≡ slice_get ys i) → xs ≡ ys
list-same [] [] h = refl
list-same [] (y ∷ ys) h = absurd (let e : None ≡ Some y = h 0 in cc)
list-same (x ∷ xs) [] h = absurd (let e : Some x ≡ None = h 0 in cc)
list-same (x ∷ xs) (y ∷ ys) h = ap₂ (λ z zs. z ∷ zs) (let e : Some x ≡ Some y = h 0 in cc) (list-same xs ys (λ i. h (suc i)))

-- each element with its number
numbered_from : {X Y : Type 0} (f : ℕ × X → Y) (n : ℕ) (xs : List X) (i : ℕ) → slice_get (map f (enumerate_from n xs)) i ≡ option_map (λ x. f (n + i, x)) (slice_get xs i)
numbered_from f n [] i = refl
numbered_from f n (x ∷ xs) zero = ap (λ k. Some (f (k, x))) (let e : n ≡ n + 0 = omega arith in e)
numbered_from f n (x ∷ xs) (suc i) = numbered_from f (n + 1) xs i ∙ ap (λ k. option_map (λ y. f (k, y)) (slice_get xs i)) (let e : n + 1 + i ≡ n + suc i = omega arith in e)

pub numbered-at : {X Y : Type 0} (f : ℕ × X → Y) (xs : List X) (i : ℕ) → slice_get (map f (enumerate_from 0 xs)) i ≡ option_map (λ x. f (i, x)) (slice_get xs i)
numbered-at f xs i = numbered_from f 0 xs i ∙ ap (λ k. option_map (λ y. f (k, y)) (slice_get xs i)) (let e : 0 + i ≡ i = omega arith in e)

-- an element that is set, at its place and at others
set_own : {X : Type 0} (xs : List X) (i : ℕ) (y x : X) → slice_get xs i ≡ Some x → slice_get (slice_set xs i y) i ≡ Some y
set_own [] i y x h = absurd (cc)
set_own (z ∷ xs) zero y x h = refl
set_own (z ∷ xs) (suc i) y x h = set_own xs i y x h

pub set_other : {X : Type 0} (xs : List X) (p i : ℕ) (y : X) → (p ≡ i → ⊥) → slice_get (slice_set xs p y) i ≡ slice_get xs i
set_other [] p i y apart = refl
set_other (z ∷ xs) zero zero y apart = absurd (apart refl)
set_other (z ∷ xs) zero (suc i) y apart = refl
set_other (z ∷ xs) (suc p) zero y apart = refl
set_other (z ∷ xs) (suc p) (suc i) y apart = set_other xs p i y (λ e. apart (ap suc e))

pub set-at : {X : Type 0} (xs : List X) (p i : ℕ) (y x : X) → slice_get xs i ≡ Some x → slice_get (slice_set xs p y) i ≡ Some (cond (p == i) y x)
set-at xs p i y x h = on (p == i) refl
  where
    on : (b : Bool) → (p == i) ≡ b → slice_get (slice_set xs p y) i ≡ Some (cond b y x)
    on true e =
        let same : p ≡ i = grind (arith, nat_tests) in
        subst (λ k. slice_get (slice_set xs k y) i ≡ Some y) (sym same) (set_own xs i y x h)
    on false e =
        let apart : p ≢ i = grind (arith, nat_tests) in
        set_other xs p i y apart ∙ h

pub none-past : {X : Type 0} (xs : List X) (i : ℕ) → slice_get xs i ≡ None → length xs ≤ i
none-past [] i h = omega arith
none-past (x ∷ xs) zero h = absurd (cc)
none-past (x ∷ xs) (suc i) h = let l = none-past xs i h in omega arith

pub past-none : {X : Type 0} (xs : List X) (i : ℕ) → length xs ≤ i → slice_get xs i ≡ None
past-none [] i h = refl
past-none (x ∷ xs) zero h = absurd (omega arith)
past-none (x ∷ xs) (suc i) h = past-none xs i (omega arith)

-- ---- the processors at the end of a step

-- processor q, which was P, as it is left, and as it is at the end
pub record EndsAt (M : State) (s : Step) (N : State) (new : List Spe) (q : ℕ) (P : Spe) : Type 0 where
  pub now : Spe
  pub there : slice_get N.spes q ≡ Some now
  pub is : slice_get new q ≡ Some (settled (with_raised now (bits_of (events (at_time P M.memory) (at_time now N.memory) (is_atomic_of q s)))))

pub all-end : (M : State) (s : Step) (N : State) (new : List Spe) → length new ≡ length M.spes → length N.spes ≡ length M.spes → ((q : ℕ) (P : Spe) → slice_get M.spes q ≡ Some P → EndsAt M s N new q P)
    → new ≡ (closed_in M s N).spes
unfolding raised_at
all-end M s N new long count each = list-same new (closed_in M s N).spes (λ q. at q (slice_get M.spes q) refl)
  where
    f : ℕ × Spe → Spe
    f x = with_raised x.1 (raised_at M s N x.0)

    closed : (q : ℕ) → slice_get (closed_in M s N).spes q ≡ option_map settled (option_map (λ P. f (q, P)) (slice_get N.spes q))
    closed q = slice_get-map settled (with_events M s N).spes q ∙ ap (option_map settled) (numbered-at f N.spes q)

    at : (q : ℕ) (o : Option Spe) → slice_get M.spes q ≡ o → slice_get new q ≡ slice_get (closed_in M s N).spes q
    at q None e =
        let past = none-past M.spes q e in
        past-none new q (omega arith) ∙ sym (closed q ∙ ap (λ o. option_map settled (option_map (λ P. f (q, P)) o)) (past-none N.spes q (omega arith)))
    at q (Some P) e =
        let g = each q P e in
        let h : raised_at M s N q ≡ bits_of (events (at_time P M.memory) (at_time g.now N.memory) (is_atomic_of q s)) = rw (e, g.there) refl in
        g.is ∙ ap (λ b. Some (settled (with_raised g.now b))) (sym h) ∙ sym (closed q ∙ ap (λ o. option_map settled (option_map (λ P. f (q, P)) o)) g.there)

-- the machine at the end of a step that left N, where the code's processors are these
pub state-ends : (memory2 : SharedMemory) (host2 : Progress) (processors : List Processor) (M : State) (s : Step) (N : State) (base new : List Spe)
    → AreAlike base N.spes → ShowsMemory memory2 N.memory (reservations base) → N.host ≡ host2 → AllTwo ShowsSpe processors new → new ≡ (closed_in M s N).spes
    → Shows processors memory2 host2 (closed_in M s N)
state-ends memory2 host2 processors M s N base new alike shows same two is = record {
  spes = subst (AllTwo ShowsSpe processors) is two;
  memory_is = subst (ShowsMemory memory2 N.memory) (sym (settled-reserved base) ∙ alike-reserved (map settled base) (closed_in M s N).spes (closed-alike M s N base alike)) shows;
  host_is = same;
}

-- ---- what the code delivers and raises

abbrev signal_at : Option Delivery → ℕ → Spe → Spe
signal_at None q P = P
signal_at (Some d) q P = cond (d.spe == q) (with_signal P d.register d.value) P

abbrev informed_at : Option Delivery → ℕ → Spe → Spe
informed_at None q P = P
informed_at (Some d) q P = cond (d.spe == q) (informed P d.register d.value) P

sent_at : (spes : List Spe) (o : Option Delivery) (q : ℕ) (P : Spe) → slice_get spes q ≡ Some P → slice_get (sent_in spes o) q ≡ Some (signal_at o q P)
sent_at spes None q P at = at
sent_at spes (Some d) q P at = on (slice_get spes d.spe) refl
  where
    on : (o : Option Spe) → slice_get spes d.spe ≡ o → slice_get (option_map_or (λ Q. slice_set spes d.spe (with_signal Q d.register d.value)) o spes) q ≡ Some (signal_at (Some d) q P)
    on None e = at ∙ ap Some (by (d.spe == q) refl)
      where
        by : (b : Bool) → (d.spe == q) ≡ b → P ≡ cond b (with_signal P d.register d.value) P
        by true f = absurd (let same : d.spe ≡ q = grind (arith, nat_tests) in let h : slice_get spes q ≡ None = ap (slice_get spes) (sym same) ∙ e in cc)
        by false f = refl
    on (Some Q) e = set-at spes d.spe q (with_signal Q d.register d.value) P at ∙ ap Some (by (d.spe == q) refl)
      where
        by : (b : Bool) → (d.spe == q) ≡ b → cond b (with_signal Q d.register d.value) P ≡ cond b (with_signal P d.register d.value) P
        by true f =
            let same : d.spe ≡ q = grind (arith, nat_tests) in
            let h : slice_get spes q ≡ Some Q = ap (slice_get spes) (sym same) ∙ e in
            let one : Q ≡ P = cc in
            ap (λ X. with_signal X d.register d.value) one
        by false f = refl

inform_at : (spes : List Spe) (o : Option Delivery) (q : ℕ) (P : Spe) → slice_get spes q ≡ Some P → slice_get (informed_by spes o) q ≡ Some (informed_at o q P)
inform_at spes None q P at = at
inform_at spes (Some d) q P at = on (slice_get spes d.spe) refl
  where
    on : (o : Option Spe) → slice_get spes d.spe ≡ o → slice_get (option_map_or (λ Q. slice_set spes d.spe (informed Q d.register d.value)) o spes) q ≡ Some (informed_at (Some d) q P)
    on None e = at ∙ ap Some (by (d.spe == q) refl)
      where
        by : (b : Bool) → (d.spe == q) ≡ b → P ≡ cond b (informed P d.register d.value) P
        by true f = absurd (let same : d.spe ≡ q = grind (arith, nat_tests) in let h : slice_get spes q ≡ None = ap (slice_get spes) (sym same) ∙ e in cc)
        by false f = refl
    on (Some Q) e = set-at spes d.spe q (informed Q d.register d.value) P at ∙ ap Some (by (d.spe == q) refl)
      where
        by : (b : Bool) → (d.spe == q) ≡ b → cond b (informed Q d.register d.value) P ≡ cond b (informed P d.register d.value) P
        by true f =
            let same : d.spe ≡ q = grind (arith, nat_tests) in
            let h : slice_get spes q ≡ Some Q = ap (slice_get spes) (sym same) ∙ e in
            let one : Q ≡ P = cc in
            ap (λ X. informed X d.register d.value) one
        by false f = refl

sent_length : (spes : List Spe) (o : Option Delivery) → length (sent_in spes o) ≡ length spes
sent_length spes None = refl
sent_length spes (Some d) = on (slice_get spes d.spe)
  where
    on : (o : Option Spe) → length (option_map_or (λ Q. slice_set spes d.spe (with_signal Q d.register d.value)) o spes) ≡ length spes
    on None = refl
    on (Some Q) = length-set spes d.spe (with_signal Q d.register d.value)

inform_length : (spes : List Spe) (o : Option Delivery) → length (informed_by spes o) ≡ length spes
inform_length spes None = refl
inform_length spes (Some d) = on (slice_get spes d.spe)
  where
    on : (o : Option Spe) → length (option_map_or (λ Q. slice_set spes d.spe (informed Q d.register d.value)) o spes) ≡ length spes
    on None = refl
    on (Some Q) = length-set spes d.spe (informed Q d.register d.value)

numbered_length : {X Y : Type 0} (f : ℕ × X → Y) (n : ℕ) (xs : List X) → length (map f (enumerate_from n xs)) ≡ length xs
numbered_length f n [] = refl
numbered_length f n (x ∷ xs) = ap suc (numbered_length f (n + 1) xs)

and_off : (b : Bool) → (b && false) ≡ false
and_off true = refl
and_off false = refl

and_on : (b : Bool) → (b && true) ≡ b
and_on true = refl
and_on false = refl

-- ---- one processor: it was P, its step left X of it, and what is sent and stored does the rest

-- the loss that is raised behind the rest
lose_last : (Q : Spe) (q losers a : ℕ) (b : Bool) → has_bit losers q ≡ b → lost_by losers (q, settled (with_raised Q a)) ≡ settled (with_raised Q (bit_or a (if b then 0x400 else 0)))
lose_last Q q losers a b is = on b is
  where
    on : (b : Bool) → has_bit losers q ≡ b → lost_by losers (q, settled (with_raised Q a)) ≡ settled (with_raised Q (bit_or a (if b then 0x400 else 0)))
    on true e = rw e (ap settled (raised-twice Q a 0x400))
    on false e = rw e (ap settled (sym (raised-none (with_raised Q a)) ∙ raised-twice Q a 0))

-- where nothing was delivered to it
plain_ends : (P X : Spe) (m n : MainMemory) (q losers : ℕ) → X.reserved ≡ P.reserved → has_bit losers q ≡ is_lost m n P.reserved
    → lost_by losers (q, settled (with_own P X)) ≡ settled (with_raised X (bits_of (events (at_time P m) (at_time X n) false)))
plain_ends P X m n q losers reserved lost =
    lose_last X q losers (own_bits P X) (is_lost m n P.reserved) lost ∙ ap (λ b. settled (with_raised X b)) (sym (lost-raised P X m n reserved))

pub one-ends : (P X : Spe) (m n : MainMemory) (o : Option Delivery) (q losers : ℕ) → X.reserved ≡ P.reserved → IfSome o (λ d. X.signals ≡ P.signals) → IsDelivery o → has_bit losers q ≡ is_lost m n P.reserved
    → lost_by losers (q, informed_at o q (settled (with_own P X))) ≡ settled (with_raised (signal_at o q X) (bits_of (events (at_time P m) (at_time (signal_at o q X) n) false)))
one-ends P X m n None q losers reserved signals there lost = plain_ends P X m n q losers reserved lost
one-ends P X m n (Some d) q losers reserved signals there lost = on (d.spe == q)
  where
    Y : Spe
    Y = with_signal X d.register d.value

    sign : ℕ
    sign = if not (register_of X.signals d.register).ready then event_of d.register else 0

    on : (b : Bool) → lost_by losers (q, cond b (informed (settled (with_own P X)) d.register d.value) (settled (with_own P X)))
        ≡ settled (with_raised (cond b Y X) (bits_of (events (at_time P m) (at_time (cond b Y X) n) false)))
    on true =
        let a : informed (settled (with_own P X)) d.register d.value ≡ settled (with_raised Y (own_bits P Y)) =
        ap settled (raised-twice Y (own_bits P X) sign) ∙ ap (λ b. settled (with_raised Y b)) (sym (signal-raised P X d.register d.value there signals)) in
        ap (λ Z. lost_by losers (q, Z)) a ∙ lose_last Y q losers (own_bits P Y) (is_lost m n P.reserved) lost
        ∙ ap (λ b. settled (with_raised Y b)) (sym (lost-raised P Y m n reserved))
    on false = plain_ends P X m n q losers reserved lost

-- ---- a step of one processor

-- no bit is 1 in 0
lost_none : (n : ℕ) (xs : List Spe) → map (lost_by 0) (enumerate_from n xs) ≡ xs
lost_none n [] = refl
lost_none n (P ∷ xs) = ap₂ (λ Q ys. Q ∷ ys) (rw (bit-none n) refl) (lost_none (n + 1) xs)

-- each processor is settled
still_at : (spes : List Spe) (q : ℕ) (P : Spe) → AreSettled spes → slice_get spes q ≡ Some P → IsStill P
still_at spes q P all at = settled-at spes q P all at

-- the processor of the step, and another
own_or_other : (M : State) (p q : ℕ) (P K X : Spe) (G : Spe → Spe → Type 0) → AreSettled M.spes → slice_get M.spes p ≡ Some P → slice_get M.spes q ≡ Some K
    → (p ≡ q → P ≡ K → G X (settled (with_own K X))) → ((p == q) ≡ false → G K (settled (with_own K K))) → G (cond (p == q) X K) (cond (p == q) (settled (with_own P X)) K)
own_or_other M p q P K X G all at there own other = on (p == q) refl
  where
    on : (b : Bool) → (p == q) ≡ b → G (cond b X K) (cond b (settled (with_own P X)) K)
    on true e =
        let same : p ≡ q = grind (arith, nat_tests) in
        let h : slice_get M.spes q ≡ Some P = ap (slice_get M.spes) (sym same) ∙ at in
        let one : P ≡ K = cc in
        subst (λ Z. G X (settled (with_own Z X))) (sym one) (own same one)
    on false e = subst (G K) (still-own K (still_at M.spes q K all there)) (other e)

-- what is left of processor p by its step is delivered and raised
pub sent-ends : (M : State) (s : Step) (p : ℕ) (P : Spe) (x : Left) (losers : ℕ) → AreSettled M.spes → slice_get M.spes p ≡ Some P → length M.spes ≤ 16
    → ((q : ℕ) → is_atomic_of q s ≡ false) → x.spe.reserved ≡ P.reserved → (x.spe.signals ≡ P.signals) ⊎ (x.sent ≡ None) → IsDelivery x.sent → Loses losers M.memory (reservations M.spes) x.memory
    → map (lost_by losers) (enumerate_from 0 (informed_by (slice_set M.spes p (settled (with_own P x.spe))) x.sent)) ≡ (closed_in M s (with_left M p x)).spes
sent-ends M s p P x losers all at few plain_step reserved signals there loses =
    all-end M s N new
    (numbered_length (lost_by losers) 0 (informed_by coded x.sent) ∙ inform_length coded x.sent ∙ length-set M.spes p (settled (with_own P x.spe)))
    (sent_length base x.sent ∙ length-set M.spes p x.spe)
    each
  where
    N : State
    N = with_left M p x

    base : List Spe
    base = slice_set M.spes p x.spe

    coded : List Spe
    coded = slice_set M.spes p (settled (with_own P x.spe))

    new : List Spe
    new = map (lost_by losers) (enumerate_from 0 (informed_by coded x.sent))

    here_signals : (o : Option Delivery) (X K : Spe) → (X.signals ≡ K.signals) ⊎ (o ≡ None) → IfSome o (λ d. X.signals ≡ K.signals)
    here_signals None X K h = tt
    here_signals (Some d) X K (inl e) = e
    here_signals (Some d) X K (inr e) = absurd (cc)

    each : (q : ℕ) (K : Spe) → slice_get M.spes q ≡ Some K → EndsAt M s N new q K
    each q K got =
        let low : q < 16 = let w = slice_get_within M.spes q K got in omega arith in
        let lost : has_bit losers q ≡ is_lost M.memory x.memory K.reserved = loses.each q K.reserved low (reserved-at M.spes q K got) in
        own_or_other M p q P K x.spe (λ X C. slice_get base q ≡ Some X → slice_get coded q ≡ Some C → EndsAt M s N new q K) all at got
        (λ e one. λ b c. ends_here q K x.spe (subst (λ (Z : Spe). x.spe.reserved ≡ Z.reserved) one reserved) (here_signals x.sent x.spe K (subst (λ (Z : Spe). (x.spe.signals ≡ Z.signals) ⊎ (x.sent ≡ None)) one signals)) lost b c)
        (λ e. λ b c. ends_here q K K refl (here_signals x.sent K K (inl refl)) lost b c)
        (set-at M.spes p q x.spe K got) (set-at M.spes p q (settled (with_own P x.spe)) K got)
      where
        ends_here : (q : ℕ) (K X : Spe) → X.reserved ≡ K.reserved → IfSome x.sent (λ d. X.signals ≡ K.signals) → has_bit losers q ≡ is_lost M.memory x.memory K.reserved
            → slice_get base q ≡ Some X → slice_get coded q ≡ Some (settled (with_own K X)) → EndsAt M s N new q K
        ends_here q K X reserved signals lost b c = record {
          now = signal_at x.sent q X;
          there = sent_at base x.sent q X b;
          is = numbered-at (lost_by losers) (informed_by coded x.sent) q
              ∙ ap (option_map (λ Z. lost_by losers (q, Z))) (inform_at coded x.sent q (settled (with_own K X)) c)
              ∙ ap Some (one-ends K X M.memory x.memory x.sent q losers reserved signals there lost
              ∙ ap (λ own. settled (with_raised (signal_at x.sent q X) (bits_of (events (at_time K M.memory) (at_time (signal_at x.sent q X) x.memory) own)))) (sym (plain_step q)));
        }

-- a step that sends nothing and leaves the memory
pub alone-ends : {memory : SharedMemory} {host : Progress} (processors : List Processor) (new : Processor) (M : State) (s : Step) (p : ℕ) (P Q : Spe) → Shows processors memory host M → AreSettled M.spes → length processors ≤ 16
    → slice_get M.spes p ≡ Some P → ((q : ℕ) → is_atomic_of q s ≡ false) → Q.reserved ≡ P.reserved → ShowsSpe new (settled (with_own P Q))
    → Shows (slice_set processors p new) memory host (closed_in M s (with_left M p (left M.memory Q)))
alone-ends {memory = memory} {host = host} processors new M s p P Q shows all few at plain_step reserved one =
    let x = left M.memory Q in
    let base = slice_set M.spes p Q in
    let coded = slice_set M.spes p (settled (with_own P Q)) in
    let count : length M.spes ≤ 16 = let l = two_length ShowsSpe processors M.spes shows.spes in omega arith in
    let same : reservations base ≡ reservations M.spes = map-set (λ (K : Spe). K.reserved) M.spes p Q ∙ ap (slice_set (reservations M.spes) p) reserved ∙ set-same (reservations M.spes) p P.reserved (reserved-at M.spes p P at) in
    state-ends memory host (slice_set processors p new) M s (with_left M p x) base coded refl
    (subst (ShowsMemory memory M.memory) (sym same) shows.memory_is) shows.host_is
    (two_set ShowsSpe processors M.spes p new (settled (with_own P Q)) shows.spes one)
    (sym (lost_none 0 coded) ∙ sent-ends M s p P x 0 all at count plain_step reserved (inr refl) tt (record { each = λ q o low got. bit-none q ∙ sym (gone (is_held M.memory o)) }))

-- a piece, of which r is what it does to other processors
pub piece-ends : {memory : SharedMemory} {host : Progress} (memory2 : SharedMemory) (processors final : List Processor) (new : Processor) (M : State) (s : Step) (p : ℕ) (P : Spe) (x : Left) (r : RemoteChange) → Shows processors memory host M → AreSettled M.spes
    → length processors ≤ 16 → slice_get M.spes p ≡ Some P → ((q : ℕ) → is_atomic_of q s ≡ false) → IsSame P x.spe → ShowsSpe new (settled (with_own P x.spe))
    → ShowsMemory memory2 x.memory (reservations M.spes) → IsRemoteChange r M.memory (reservations M.spes) x → IsDelivery r.sent
    → ((spes : List Spe) → AllTwo ShowsSpe (slice_set processors p new) spes → AllTwo ShowsSpe final (map (lost_by r.losers) (enumerate_from 0 (informed_by spes r.sent))))
    → Shows final memory2 host (closed_in M s (with_left M p x))
piece-ends {host = host} memory2 processors final new M s p P x r shows all few at plain_step same one memory_is change register spreads =
    let base = slice_set M.spes p x.spe in
    let coded = slice_set M.spes p (settled (with_own P x.spe)) in
    let count : length M.spes ≤ 16 = let l = two_length ShowsSpe processors M.spes shows.spes in omega arith in
    let kept : reservations base ≡ reservations M.spes = map-set (λ (K : Spe). K.reserved) M.spes p x.spe ∙ ap (slice_set (reservations M.spes) p) same.reserved ∙ set-same (reservations M.spes) p P.reserved (reserved-at M.spes p P at) in
    let told : map (lost_by r.losers) (enumerate_from 0 (informed_by coded x.sent)) ≡ map (lost_by r.losers) (enumerate_from 0 (informed_by coded r.sent)) = ap (λ o. map (lost_by r.losers) (enumerate_from 0 (informed_by coded o))) change.sent in
    state-ends memory2 host final M s (with_left M p x) base (map (lost_by r.losers) (enumerate_from 0 (informed_by coded x.sent))) (left-alike M p x)
    (subst (ShowsMemory memory2 x.memory) (sym kept) memory_is) shows.host_is
    (subst (AllTwo ShowsSpe final) (sym told) (spreads coded (two_set ShowsSpe processors M.spes p new (settled (with_own P x.spe)) shows.spes one)))
    (sent-ends M s p P x r.losers all at count plain_step same.reserved (inl same.signals) (subst IsDelivery (sym change.sent) register) change.losers)

-- an atomic command
pub atomic-ends : {memory : SharedMemory} {host : Progress} (memory2 : SharedMemory) (processors final : List Processor) (new : Processor) (M : State) (p : ℕ) (P : Spe) (x : Left) (losers : ℕ) → Shows processors memory host M → AreSettled M.spes
    → length processors ≤ 16 → slice_get M.spes p ≡ Some P → IsAtomicSame P x.spe → x.sent ≡ None → ShowsSpe new (with_fixed x.spe)
    → ShowsMemory memory2 x.memory (slice_set (reservations M.spes) p x.spe.reserved) → LosesOthers p losers M.memory (reservations M.spes) x.memory
    → ((spes : List Spe) → AllTwo ShowsSpe (slice_set processors p new) spes → AllTwo ShowsSpe final (map (lost_by losers) (enumerate_from 0 spes)))
    → Shows final memory2 host (closed_in M (Atomic p) (with_left M p x))
atomic-ends {host = host} memory2 processors final new M p P x losers shows all few at same none one memory_is loses spreads =
    state-ends memory2 host final M (Atomic p) N base ended (left-alike M p x)
    (subst (ShowsMemory memory2 x.memory) (sym (map-set (λ (K : Spe). K.reserved) M.spes p x.spe)) memory_is) shows.host_is
    (spreads coded (two_set ShowsSpe processors M.spes p new (with_fixed x.spe) shows.spes one))
    (all-end M (Atomic p) N ended
    (numbered_length (lost_by losers) 0 coded ∙ length-set M.spes p (with_fixed x.spe))
    (sent_length base x.sent ∙ length-set M.spes p x.spe)
    each)
  where
    N : State
    N = with_left M p x

    base : List Spe
    base = slice_set M.spes p x.spe

    coded : List Spe
    coded = slice_set M.spes p (with_fixed x.spe)

    ended : List Spe
    ended = map (lost_by losers) (enumerate_from 0 coded)

    count : length M.spes ≤ 16
    count = let l = two_length ShowsSpe processors M.spes shows.spes in omega arith

    there_at : (q : ℕ) (X : Spe) → slice_get base q ≡ Some X → slice_get N.spes q ≡ Some X
    there_at q X b = ap (λ o. slice_get (sent_in base o) q) none ∙ b

    fixed : fixes x.spe ≡ false
    fixed = ap (λ m. is_fixed x.spe.tags m) same.moves ∙ ap (λ t. is_fixed t P.moves) same.tags ∙ still-unfixed P (still_at M.spes p P all at)

    each : (q : ℕ) (K : Spe) → slice_get M.spes q ≡ Some K → EndsAt M (Atomic p) N ended q K
    each q K got = on (p == q) refl (set-at M.spes p q x.spe K got) (set-at M.spes p q (with_fixed x.spe) K got)
      where
        lost : has_bit losers q ≡ (is_lost M.memory x.memory K.reserved && not (p == q))
        lost = let w = slice_get_within M.spes q K got in let c = count in loses q K.reserved (omega arith) (reserved-at M.spes q K got)

        on : (b : Bool) → (p == q) ≡ b → slice_get base q ≡ Some (cond b x.spe K) → slice_get coded q ≡ Some (cond b (with_fixed x.spe) K) → EndsAt M (Atomic p) N ended q K
        on true e b c =
            let is : p ≡ q = grind (arith, nat_tests) in
            let h : slice_get M.spes q ≡ Some P = ap (slice_get M.spes) (sym is) ∙ at in
            let was : P ≡ K = cc in
            let unlost : has_bit losers q ≡ false = lost ∙ ap (λ t. is_lost M.memory x.memory K.reserved && not t) e ∙ and_off _ in
            let silent : bits_of (events (at_time K M.memory) (at_time x.spe x.memory) true) ≡ 0 =
            subst (λ (Z : Spe). bits_of (events (at_time Z M.memory) (at_time x.spe x.memory) true) ≡ 0) was
            (atomic-raised P x.spe M.memory x.memory same.signals same.outbound same.interrupt same.inbound same.moves same.stalls fixed) in
            record {
              now = x.spe;
              there = there_at q x.spe b;
              is = numbered-at (lost_by losers) coded q ∙ ap (option_map (λ Z. lost_by losers (q, Z))) c
                  ∙ ap Some (rw unlost (ap (λ f. settled (with_raised x.spe (if f then 1 else 0))) fixed ∙ ap (λ n. settled (with_raised x.spe n)) (sym silent)
                  ∙ ap (λ own. settled (with_raised x.spe (bits_of (events (at_time K M.memory) (at_time x.spe x.memory) own)))) (sym e)));
            }
        on false e b c =
            let lost_is : has_bit losers q ≡ is_lost M.memory x.memory K.reserved = lost ∙ ap (λ t. is_lost M.memory x.memory K.reserved && not t) e ∙ and_on _ in
            record {
              now = K;
              there = there_at q K b;
              is = numbered-at (lost_by losers) coded q ∙ ap (option_map (λ Z. lost_by losers (q, Z))) c
                  ∙ ap Some (ap (λ Z. lost_by losers (q, Z)) (sym (still-own K (still_at M.spes q K all got)))
                  ∙ one-ends K K M.memory x.memory None q losers refl tt tt lost_is
                  ∙ ap (λ own. settled (with_raised K (bits_of (events (at_time K M.memory) (at_time K x.memory) own)))) (sym e));
            }

-- a store of the host
pub store-ends : {host : Progress} (memory memory2 : SharedMemory) (processors final : List Processor) (M : State) (n : MainMemory) (losers : ℕ) → Shows processors memory host M → AreSettled M.spes → length processors ≤ 16
    → ShowsMemory memory2 n (reservations M.spes) → Loses losers M.memory (reservations M.spes) n
    → ((spes : List Spe) → AllTwo ShowsSpe processors spes → AllTwo ShowsSpe final (map (lost_by losers) (enumerate_from 0 spes)))
    → Shows final memory2 host (closed_in M Host (record M { memory = n }))
store-ends {host = host} memory memory2 processors final M n losers shows all few memory_is loses spreads =
    state-ends memory2 host final M Host (record M { memory = n }) M.spes ended refl memory_is shows.host_is (spreads M.spes shows.spes)
    (all-end M Host (record M { memory = n }) ended (numbered_length (lost_by losers) 0 M.spes) refl each)
  where
    ended : List Spe
    ended = map (lost_by losers) (enumerate_from 0 M.spes)

    each : (q : ℕ) (K : Spe) → slice_get M.spes q ≡ Some K → EndsAt M Host (record M { memory = n }) ended q K
    each q K got =
        let count = two_length ShowsSpe processors M.spes shows.spes in
        let low : q < 16 = let w = slice_get_within M.spes q K got in omega arith in
        record {
          now = K;
          there = got;
          is = numbered-at (lost_by losers) M.spes q ∙ ap (option_map (λ Z. lost_by losers (q, Z))) got
              ∙ ap Some (ap (λ Z. lost_by losers (q, Z)) (sym (still-own K (still_at M.spes q K all got)))
              ∙ one-ends K K M.memory n None q losers refl tt tt (loses.each q K.reserved low (reserved-at M.spes q K got)));
        }

-- ---- the call of the processor at p did the step, or left all as it was

pub act-own : {memory : SharedMemory} {host : Progress} (s : Step) (processors : List Processor) (d : Processor) (M : State) (p : ℕ) (made : Bool) (R : State → Type 0) → Shows processors memory host M → p < length processors
    → ((P : Spe) → slice_get M.spes p ≡ Some P → ShowsSpe (slice_index_or processors p d) P → MatchBool made (IsSomeAnd (own M.memory s P) (λ x. R (with_left M p x))) (own M.memory s P ≡ None))
    → MatchBool made (IsSomeAnd (act_in M p s) R) (act_in M p s ≡ None)
act-own s processors d M p true R shows h does =
    let two = two_at ShowsSpe processors M.spes p d shows.spes h in
    rw two.1 (some_map (with_left M p) (own M.memory s two.0) (λ x. R (with_left M p x)) R (λ x t. t) (does two.0 two.1 two.2))
act-own s processors d M p false R shows h does =
    let two = two_at ShowsSpe processors M.spes p d shows.spes h in
    let none : own M.memory s two.0 ≡ None = does two.0 two.1 two.2 in
    rw (two.1, none) refl

-- a step of the processor alone
pub own-alone : {X Y : Type 0} (o : Option X) (A B : X → Type 0) (f : X → Y) (R : Y → Type 0) (made : Bool) → ((x : X) → A x → B x → R (f x)) → MatchBool made (IsSomeAnd o A) (o ≡ None) → IfSome o B
    → MatchBool made (IsSomeAnd (option_map f o) R) (option_map f o ≡ None)
own-alone None A B f R true k h b = absurd h
own-alone (Some x) A B f R true k h b = k x h b
own-alone o A B f R false k h b = rw h refl

-- ---- each kind of step

-- an instruction
pub exec-acts : {memory : SharedMemory} {host : Progress} (processors : List Processor) (d new : Processor) (M : State) (p : ℕ) (made : Bool) → Shows processors memory host M → AreSettled M.spes → length processors ≤ 16 → p < length processors
    → ((P : Spe) → ShowsSpe (slice_index_or processors p d) P → MatchBool made (IsSomeAnd (exec (lines_of M.memory) P) (λ Q. ShowsSpe new (with_fixed (with_freed P Q)))) (exec (lines_of M.memory) P ≡ None))
    → MatchBool made (IsSomeAnd (act_in M p (Exec p)) (λ N. Shows (slice_set processors p new) memory host (closed_in M (Exec p) N))) (act_in M p (Exec p) ≡ None)
exec-acts {memory = memory} {host = host} processors d new M p made shows all few h does =
    act-own (Exec p) processors d M p made (λ N. Shows (slice_set processors p new) memory host (closed_in M (Exec p) N)) shows h (λ P at seen.
    own-alone (exec (lines_of M.memory) P) (λ Q. ShowsSpe new (with_fixed (with_freed P Q))) (IsQuiet P) (left M.memory) (λ x. Shows (slice_set processors p new) memory host (closed_in M (Exec p) (with_left M p x))) made
    (λ Q a b. alone-ends processors new M (Exec p) p P Q shows all few at (λ q. refl) b.reserved (subst (ShowsSpe new) (calm-freed P Q b.calm b.stalls) a))
    (does P seen) (exec-quiet (lines_of M.memory) P))

-- the reading of an element, and a retirement
pub flow-acts : {memory : SharedMemory} {host : Progress} (s : Step) (f : Spe → Option Spe) (processors : List Processor) (d new : Processor) (M : State) (p : ℕ) (made : Bool) → Shows processors memory host M → AreSettled M.spes → length processors ≤ 16 → p < length processors
    → ((P : Spe) → own M.memory s P ≡ option_map (left M.memory) (f P)) → ((q : ℕ) → is_atomic_of q s ≡ false) → ((P : Spe) → IfSome (f P) (IsSame P))
    → ((P : Spe) → ShowsSpe (slice_index_or processors p d) P → MatchBool made (IsSomeAnd (f P) (λ Q. ShowsSpe new (with_flow P Q))) (f P ≡ None))
    → MatchBool made (IsSomeAnd (act_in M p s) (λ N. Shows (slice_set processors p new) memory host (closed_in M s N))) (act_in M p s ≡ None)
flow-acts {memory = memory} {host = host} s f processors d new M p made shows all few h is plain_step same does =
    act-own s processors d M p made (λ N. Shows (slice_set processors p new) memory host (closed_in M s N)) shows h (λ P at seen.
    subst (λ o. MatchBool made (IsSomeAnd o (λ x. Shows (slice_set processors p new) memory host (closed_in M s (with_left M p x)))) (o ≡ None)) (sym (is P))
    (own-alone (f P) (λ Q. ShowsSpe new (with_flow P Q)) (IsSame P) (left M.memory) (λ x. Shows (slice_set processors p new) memory host (closed_in M s (with_left M p x))) made
    (λ Q a b. alone-ends processors new M s p P Q shows all few at plain_step b.reserved (subst (ShowsSpe new) (calm-flow P Q (same-is_calm P Q b)) a))
    (does P seen) (same P)))

-- a piece
pub piece-acts : {memory : SharedMemory} {host : Progress} (memory2 : SharedMemory) (processors final : List Processor) (d new : Processor) (M : State) (p c e k : ℕ) (r : RemoteChange) → Shows processors memory host M → AreSettled M.spes → length processors ≤ 16 → p < length processors
    → IsDelivery r.sent
    → ((P : Spe) → ShowsSpe (slice_index_or processors p d) P → Makes (Some r) (piece M.memory P c e k) (λ z x. ShowsSpe new (with_flow P x.spe) × ShowsMemory memory2 x.memory (reservations M.spes) × IsRemoteChange z M.memory (reservations M.spes) x))
    → ((spes : List Spe) → AllTwo ShowsSpe (slice_set processors p new) spes → AllTwo ShowsSpe final (map (lost_by r.losers) (enumerate_from 0 (informed_by spes r.sent))))
    → IsSomeAnd (act_in M p (Piece p c e k)) (λ N. Shows final memory2 host (closed_in M (Piece p c e k) N))
piece-acts {host = host} memory2 processors final d new M p c e k r shows all few h register does spreads =
    act-own (Piece p c e k) processors d M p true (λ N. Shows final memory2 host (closed_in M (Piece p c e k) N)) shows h (λ P at seen.
    some-made (piece M.memory P c e k) r (λ z x. ShowsSpe new (with_flow P x.spe) × ShowsMemory memory2 x.memory (reservations M.spes) × IsRemoteChange z M.memory (reservations M.spes) x) (λ x. IsSame P x.spe)
    (λ x. Shows final memory2 host (closed_in M (Piece p c e k) (with_left M p x)))
    (λ x a b. piece-ends memory2 processors final new M (Piece p c e k) p P x r shows all few at (λ q. refl) b (subst (ShowsSpe new) (calm-flow P x.spe (same-is_calm P x.spe b)) a.0) a.1 a.2 register spreads)
    (does P seen) (piece-same M.memory P c e k))

pub piece-refused : {memory : SharedMemory} {host : Progress} (processors : List Processor) (d : Processor) (M : State) (p c e k : ℕ) → Shows processors memory host M → p < length processors
    → ((P : Spe) → ShowsSpe (slice_index_or processors p d) P → piece M.memory P c e k ≡ None)
    → act_in M p (Piece p c e k) ≡ None
piece-refused processors d M p c e k shows h does = act-own (Piece p c e k) processors d M p false (λ N. ⊤) shows h (λ P at seen. does P seen)

-- an atomic command
pub atomic-acts : {memory : SharedMemory} {host : Progress} (memory2 : SharedMemory) (processors final : List Processor) (d new : Processor) (M : State) (p losers : ℕ) → Shows processors memory host M → AreSettled M.spes → length processors ≤ 16 → p < length processors
    → ((P : Spe) → slice_get M.spes p ≡ Some P → ShowsSpe (slice_index_or processors p d) P
    → Makes (Some losers) (atomic M.memory P) (λ w x. ShowsSpe new (with_fixed x.spe) × ShowsMemory memory2 x.memory (slice_set (reservations M.spes) p x.spe.reserved) × LosesOthers p w M.memory (reservations M.spes) x.memory))
    → ((spes : List Spe) → AllTwo ShowsSpe (slice_set processors p new) spes → AllTwo ShowsSpe final (map (lost_by losers) (enumerate_from 0 spes)))
    → IsSomeAnd (act_in M p (Atomic p)) (λ N. Shows final memory2 host (closed_in M (Atomic p) N))
atomic-acts {host = host} memory2 processors final d new M p losers shows all few h does spreads =
    act-own (Atomic p) processors d M p true (λ N. Shows final memory2 host (closed_in M (Atomic p) N)) shows h (λ P at seen.
    some-made (atomic M.memory P) losers (λ w x. ShowsSpe new (with_fixed x.spe) × ShowsMemory memory2 x.memory (slice_set (reservations M.spes) p x.spe.reserved) × LosesOthers p w M.memory (reservations M.spes) x.memory)
    (λ x. IsAtomicSame P x.spe × (x.sent ≡ None)) (λ x. Shows final memory2 host (closed_in M (Atomic p) (with_left M p x)))
    (λ x a b. atomic-ends memory2 processors final new M p P x losers shows all few at b.0 b.1 a.0 a.1 a.2 spreads)
    (does P at seen) (atomic-same M.memory P))

pub atomic-refused : {memory : SharedMemory} {host : Progress} (processors : List Processor) (d : Processor) (M : State) (p : ℕ) → Shows processors memory host M → p < length processors
    → ((P : Spe) → slice_get M.spes p ≡ Some P → ShowsSpe (slice_index_or processors p d) P → atomic M.memory P ≡ None)
    → act_in M p (Atomic p) ≡ None
atomic-refused processors d M p shows h does = act-own (Atomic p) processors d M p false (λ N. ⊤) shows h does
