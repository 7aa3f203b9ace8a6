-- An instruction raises that a place of the queue came free only where it acknowledges a stall.
use Rattle.std.proofs.Common.{◌≡◌, ◌≢◌, ℕ, ◌-◌, ◌==◌, ◌&&◌, Bool, true, false, List, [], ◌∷◌, length, arith, refl, sym, subst, true≢false}
use Rattle.std.specs.Prelude.{Option, Some, None, IsSomeAnd, IfSome, MatchBool, nat_lt, not, cond, if◌then◌else◌, is_some, Result, Ok, Err}
use Rattle.std.proofs.lemmas.Bool.Decides.{nat_tests}
use Rattle.cell_base.specs.declared.steps.ChannelOp.TheVariants.{Read, Count, Write}
use Rattle.cell_channels.specs.Table.{way_of}
use Rattle.cell_channels.specs.State.{count_of}
use Rattle.mfc_command.specs.declared.command.DmaFault.{DmaFault as Fault}
use Rattle.mfc_command.specs.declared.command.Order.{Order}
use Rattle.mfc_command.specs.declared.command.Order.TheVariants.{Queued, Atomic as AtomicOrder}
use Rattle.mfc_command.specs.Check.{checked}
use Rattle.mfc_command.proofs.CheckLemmas.{checked-slot}
use Rattle.tag_groups.specs.declared.TagStatus.{TagStatus}
use Rattle.cell_machine.specs.declared.processor.Processor.{Processor}
use Rattle.cell_machine.specs.Spe.{Spe}
use Rattle.cell_machine.specs.Moves.{outstanding}
use Rattle.cell_machine.specs.Channels.{is_read, is_write, count, may_read, may_write, is_atomic, channel, read_by, read_status, read_atomic, read_inbound, issued_by, commanded, written}
use Rattle.cell_machine.specs.Raised.{is_queue_full, with_raised}
use Rattle.cell_machine.specs.Shows.{ShowsSpe}
use Rattle.cell_machine.specs.OwnEvents.{alone, with_freed}
use Rattle.cell_machine.proofs.Bounds.{if_cond, on_cond, if_so}
use Rattle.cell_machine.proofs.Raising.{raised-none, gone}

-- no place comes free
pub record IsKept (P Q : Spe) : Type 0 where
  pub is : with_freed P Q ≡ Q

pub kept-same : (P Q : Spe) → Q.moves ≡ P.moves → IsKept P Q
kept-same P Q same = record { is = on (is_queue_full (alone P) && not (is_queue_full (alone Q))) (rw same (gone (is_queue_full (alone P)))) }
  where
    on : (b : Bool) → b ≡ false → with_raised Q (if b then 0x8 else 0) ≡ Q
    on true h = absurd (true≢false h)
    on false h = raised-none Q

kept_free : (P Q : Spe) → is_queue_full (alone P) ≡ false → IsKept P Q
kept_free P Q free = record { is = rw free (raised-none Q) }

on_test : (b : Bool) (x y : Spe) (R : Spe → Type 0) → (b ≡ true → R x) → (b ≡ false → R y) → R (cond b x y)
on_test true x y R h k = h refl
on_test false x y R h k = k refl

not_full : (P : Spe) (op : ℕ) → may_write P 21 op ≡ true → is_atomic op ≡ false → is_queue_full (alone P) ≡ false
unfolding may_write count count_of
not_full P op may queued = below (length (outstanding P)) (rw queued at may)
  where
    below : (n : ℕ) → nat_lt 0 (16 - n) ≡ true → (n == 16) ≡ false
    below n h = grind (arith, nat_tests)

commanded_kept : (lines : ℕ) (P : Spe) (op : ℕ) → may_write P 21 op ≡ true → IsKept P (commanded lines P op)
unfolding commanded
commanded_kept lines P op may = on (checked P.channels.params op lines) refl
  where
    on : (r : Result Order Fault) → checked P.channels.params op lines ≡ r → IsKept P (issued_by P r)
    on (Ok (Queued d)) e = kept_free P _ (not_full P op may (checked-slot P.channels.params op lines (Queued d) e))
    on (Ok (AtomicOrder a)) e = kept-same P _ refl
    on (Err kind) e = kept-same P _ refl

written_kept : (lines : ℕ) (P : Spe) (ch value : ℕ) → ch ≢ 26 → may_write P ch value ≡ true → IsKept P (written lines P ch value)
unfolding written
written_kept lines P ch value other may =
    let R : Spe → Type 0 = IsKept P in
    on_cond (ch == 1) _ _ R (kept-same P _ refl) (on_cond (ch == 2) _ _ R (kept-same P _ refl)
    (on_test (ch == 21) _ _ R (λ e. let is : ch ≡ 21 = grind (arith, nat_tests) in commanded_kept lines P value (subst (λ k. may_write P k value ≡ true) is may))
    (λ n. on_cond (ch == 22) _ _ R (kept-same P _ refl) (on_cond (ch == 23) _ _ R (kept-same P _ refl)
    (on_test (ch == 26) _ _ R (λ e. absurd (other (let is : ch ≡ 26 = grind (arith, nat_tests) in is)))
    (λ m. on_cond (ch == 28) _ _ R (kept-same P _ refl) (on_cond (ch == 30) _ _ R (kept-same P _ refl) (kept-same P _ refl))))))))

pub write-kept : (lines : ℕ) (P : Spe) (ch value : ℕ) → ch ≢ 26 → IfSome (channel lines P (Write ch value)) (IsKept P)
unfolding channel
write-kept lines P ch value other =
    if_cond (is_write (way_of ch)) _ _ (IsKept P) (if_so (may_write P ch value) _ (IsKept P) (λ may. written_kept lines P ch value other may)) (kept-same P _ refl)

status_kept : (P : Spe) (rt : ℕ) (o : Option TagStatus) → IfSome (read_status P rt o) (IsKept P)
status_kept P rt None = tt
status_kept P rt (Some status) = kept-same P _ refl

atomic_kept : (P : Spe) (rt : ℕ) (o : Option ℕ) → IfSome (read_atomic P rt o) (IsKept P)
atomic_kept P rt None = tt
atomic_kept P rt (Some status) = kept-same P _ refl

inbound_kept : (P : Spe) (rt : ℕ) (xs : List ℕ) → IfSome (read_inbound P rt xs) (IsKept P)
inbound_kept P rt [] = tt
inbound_kept P rt (x ∷ xs) = kept-same P _ refl

read_by_kept : (P : Spe) (rt ch : ℕ) → IfSome (read_by P rt ch) (IsKept P)
unfolding read_by
read_by_kept P rt ch =
    let R : Spe → Type 0 = IsKept P in
    if_cond (ch == 0) _ _ R (kept-same P _ refl) (if_cond (ch == 3) _ _ R (kept-same P _ refl) (if_cond (ch == 4) _ _ R (kept-same P _ refl)
    (if_cond (ch == 11) _ _ R (kept-same P _ refl) (if_cond (ch == 12) _ _ R (kept-same P _ refl) (if_cond (ch == 24) _ _ R (status_kept P rt P.tags.status)
    (if_cond (ch == 25) _ _ R (kept-same P _ refl) (if_cond (ch == 27) _ _ R (atomic_kept P rt P.channels.atomic) (if_cond (ch == 29) _ _ R (inbound_kept P rt P.inbound) tt))))))))

pub read-kept : (lines : ℕ) (P : Spe) (rt ch : ℕ) → IfSome (channel lines P (Read rt ch)) (IsKept P)
unfolding channel
read-kept lines P rt ch = if_cond (is_read (way_of ch)) _ _ (IsKept P) (if_cond (may_read P ch) _ _ (IsKept P) (read_by_kept P rt ch) tt) (kept-same P _ refl)

pub count-kept : (lines : ℕ) (P : Spe) (rt ch : ℕ) → IfSome (channel lines P (Count rt ch)) (IsKept P)
unfolding channel
count-kept lines P rt ch = if_cond (is_some (way_of ch)) _ _ (IsKept P) (kept-same P _ refl) (kept-same P _ refl)

-- so what the code has is what it has with that event
pub kept-shows : (new : Processor) (P : Spe) (o : Option Spe) (made : Bool) → IfSome o (IsKept P) → MatchBool made (IsSomeAnd o (ShowsSpe new)) (o ≡ None) → MatchBool made (IsSomeAnd o (λ Q. ShowsSpe new (with_freed P Q))) (o ≡ None)
kept-shows new P None true kept h = absurd h
kept-shows new P (Some Q) true kept h = subst (ShowsSpe new) (sym kept.is) h
kept-shows new P o false kept h = h
