-- An atomic command of a processor, as the code does it.
use Rattle.std.proofs.Common.{◌≡◌, ℕ, ◌+◌, ◌*◌, ◌&&◌, not, Bool, true, false, List, refl, sym, ap, subst, slice_set}
use Rattle.std.specs.Prelude.{Option, Some, None, is_some, option_map, slice_get, slice_range, if◌then◌else◌, cond}
use Rattle.cell_base.specs.Bytes.{put}
use Rattle.lock_lines.specs.Versions.{Reserved, version_of}
use Rattle.mfc_command.specs.declared.command.AtomicOp.{AtomicOp}
use Rattle.mfc_command.specs.declared.command.AtomicKind.TheVariants.{GetLine, PutCond, PutLine}
use Rattle.cell_machine.specs.declared.memory.SharedMemory.{SharedMemory}
use Rattle.cell_machine.specs.Spe.{Spe, is_faulted}
use Rattle.cell_machine.specs.Memory.{MainMemory, stored}
use Rattle.cell_machine.specs.Transfers.{copied}
use Rattle.cell_machine.specs.Atomic.{holds, fate, fate_of, status_of, reserved_after, moved, answered, after_atomic, may_atomic, atomic}
use Rattle.cell_machine.specs.Shows.{ShowsMemory, LosesOthers, Makes}
use Rattle.cell_machine.proofs.MemoryShown.{set-same}

-- what the line was reserved at
abbrev now_of : MainMemory → AtomicOp → Reserved
now_of m a = record { line = a.line; version = version_of m.versions a.line }

-- the bytes of the line in a store
abbrev line_in : List ℕ → AtomicOp → List ℕ
line_in store a = slice_range store a.ls (a.ls + 128)

-- GETLLAR: the line comes to the store
pub got-store : (m : MainMemory) (P Q : Spe) (a : AtomicOp) (bytes old new : List ℕ) → a.kind ≡ GetLine → m.bytes ≡ bytes → Q.store ≡ old
    → new ≡ put old a.ls (slice_range bytes (128 * a.line) (128 * a.line + 128)) → (moved m Q a (fate m P a)).spe ≡ record Q { store = new }
unfolding copied
got-store m P Q a bytes old new kind same was is = rw kind (ap (λ s. record Q { store = s }) (rw (same, was) (sym is)))

pub got-memory : (new : SharedMemory) (m : MainMemory) (P Q : Spe) (a : AtomicOp) (reserved : List (Option Reserved)) (spe : ℕ) → a.kind ≡ GetLine
    → ShowsMemory new m (slice_set reserved spe (Some (now_of m a)))
    → ShowsMemory new (moved m Q a (fate m P a)).memory (slice_set reserved spe (reserved_after a.kind (now_of m a) P.reserved))
unfolding copied
got-memory new m P Q a reserved spe kind shows = rw kind shows

-- PUTLLUC: the line goes to the memory
pub line-store : (m : MainMemory) (P Q : Spe) (a : AtomicOp) (old : List ℕ) → a.kind ≡ PutLine → Q.store ≡ old → (moved m Q a (fate m P a)).spe ≡ record Q { store = old }
unfolding copied
line-store m P Q a old kind was = rw kind (ap (λ s. record Q { store = s }) was)

pub line-memory : (new : SharedMemory) (m : MainMemory) (P Q : Spe) (a : AtomicOp) (store : List ℕ) (reserved : List (Option Reserved)) (spe : ℕ) → a.kind ≡ PutLine → Q.store ≡ store → slice_get reserved spe ≡ Some P.reserved
    → ShowsMemory new (stored m (128 * a.line) (line_in store a)) reserved
    → ShowsMemory new (moved m Q a (fate m P a)).memory (slice_set reserved spe (reserved_after a.kind (now_of m a) P.reserved))
unfolding copied
line-memory new m P Q a store reserved spe kind was at shows = rw (kind, was, set-same reserved spe P.reserved at) shows

-- PUTLLC: the line goes to the memory or stays
pub cond-status : (b : Bool) (a : AtomicOp) → a.kind ≡ PutCond → (if b then 0 else 1) ≡ status_of a.kind b
cond-status true a kind = rw kind refl
cond-status false a kind = rw kind refl

pub cond-store : (m : MainMemory) (P Q : Spe) (a : AtomicOp) (old : List ℕ) → a.kind ≡ PutCond → Q.store ≡ old → (moved m Q a (fate m P a)).spe ≡ record Q { store = old }
unfolding copied
cond-store m P Q a old kind was = rw kind (on (holds m P a.line))
  where
    on : (b : Bool) → (moved m Q a (fate_of PutCond b)).spe ≡ record Q { store = old }
    on true = ap (λ s. record Q { store = s }) was
    on false = ap (λ s. record Q { store = s }) was

pub cond-memory : (new : SharedMemory) (m : MainMemory) (P Q : Spe) (a : AtomicOp) (store : List ℕ) (reserved : List (Option Reserved)) (spe : ℕ) → a.kind ≡ PutCond → Q.store ≡ store
    → ShowsMemory new (if holds m P a.line then stored m (128 * a.line) (line_in store a) else m) (slice_set reserved spe None)
    → ShowsMemory new (moved m Q a (fate m P a)).memory (slice_set reserved spe (reserved_after a.kind (now_of m a) P.reserved))
unfolding copied
cond-memory new m P Q a store reserved spe kind was shows =
    rw kind (subst (λ k. ShowsMemory new k (slice_set reserved spe None)) (on (holds m P a.line)) shows)
  where
    on : (b : Bool) → (if b then stored m (128 * a.line) (line_in store a) else m) ≡ (moved m Q a (fate_of PutCond b)).memory
    on true = ap (λ s. stored m (128 * a.line) (line_in s a)) (sym was)
    on false = refl

-- ---- whether it is done

pub atomic-faulted : (m : MainMemory) (P : Spe) → is_faulted P.status ≡ true → atomic m P ≡ None
unfolding atomic may_atomic
atomic-faulted m P faulted = rw faulted refl

pub atomic-free : (m : MainMemory) (P : Spe) → P.channels.slot ≡ None → atomic m P ≡ None
unfolding atomic may_atomic
atomic-free m P free = rw free (on (not (is_faulted P.status) && false))
  where
    on : (b : Bool) → cond b (option_map (after_atomic m P) None) None ≡ None
    on true = refl
    on false = refl

pub atomic-is : (m : MainMemory) (P : Spe) (a : AtomicOp) → is_faulted P.status ≡ false → P.channels.slot ≡ Some a → atomic m P ≡ Some (after_atomic m P a)
unfolding atomic may_atomic
atomic-is m P a sound at = rw (sound, at) refl

pub may-atomic_faulted : (P : Spe) → is_faulted P.status ≡ true → may_atomic P ≡ false
unfolding may_atomic
may-atomic_faulted P faulted = rw faulted refl

pub may-atomic_sound : (P : Spe) → is_faulted P.status ≡ false → may_atomic P ≡ is_some P.channels.slot
unfolding may_atomic
may-atomic_sound P sound = rw sound refl

-- what is left is shown
pub atomic-made : (memory : SharedMemory) (m : MainMemory) (P : Spe) (a : AtomicOp) (reserved : List (Option Reserved)) (spe losers : ℕ) (store : List ℕ) (R : Spe → Type 0)
    → is_faulted P.status ≡ false → P.channels.slot ≡ Some a → (moved m (answered m P a) a (fate m P a)).spe ≡ record (answered m P a) { store = store }
    → R (record (answered m P a) { store = store })
    → ShowsMemory memory (moved m (answered m P a) a (fate m P a)).memory (slice_set reserved spe (reserved_after a.kind (now_of m a) P.reserved))
    → LosesOthers spe losers m reserved (moved m (answered m P a) a (fate m P a)).memory
    → Makes (Some losers) (atomic m P) (λ w x. R x.spe × ShowsMemory memory x.memory (slice_set reserved spe x.spe.reserved) × LosesOthers spe w m reserved x.memory)
atomic-made memory m P a reserved spe losers store R sound at is shown shows loses =
    rw (atomic-is m P a sound at) (subst R (sym is) shown, subst (λ o. ShowsMemory memory (moved m (answered m P a) a (fate m P a)).memory (slice_set reserved spe o)) (ap (λ (Q : Spe). Q.reserved) (sym is)) shows, loses)
