-- Which processors lose their reservation by what the code stores.
use Rattle.std.proofs.Common.{◌≡◌, ℕ, ◌+◌, ◌*◌, ◌/◌, ◌<◌, ◌==◌, ◌&&◌, Bool, true, false, List, length, arith, refl, sym, ◌∙◌, ap, subst}
use Rattle.std.specs.Prelude.{Option, Some, None, slice_get, slice_range, not, if◌then◌else◌}
use Rattle.std.specs.Option.{option_map_or}
use Rattle.cell_base.specs.Bits.{has_bit}
use Rattle.cell_base.proofs.BitLaws.{bit-none}
use Rattle.lock_lines.specs.Versions.{Versions, Reserved, is_current, is_reserved}
use Rattle.lock_lines.specs.Stands.{StandsForVersions, line_count}
use Rattle.mfc_command.specs.declared.command.AtomicOp.{AtomicOp}
use Rattle.mfc_command.specs.declared.command.AtomicKind.TheVariants.{GetLine, PutCond, PutLine}
use Rattle.cell_machine.specs.declared.memory.SharedMemory.{SharedMemory}
use Rattle.cell_machine.specs.Spe.{Spe}
use Rattle.cell_machine.specs.Memory.{MainMemory, stored}
use Rattle.cell_machine.specs.Transfers.{copied}
use Rattle.cell_machine.specs.Atomic.{holds, fate, fate_of, moved}
use Rattle.cell_machine.specs.Shows.{ShowsMemory, Loses, LosesOthers, is_held}
use Rattle.cell_machine.proofs.MemoryShown.{versions_of, index-got}
use Rattle.cell_machine.proofs.Raising.{gone, stored-loses}

held_at : (m : MainMemory) (reserved : List (Option Reserved)) (p line : ℕ) (o : Option Reserved) → slice_get reserved p ≡ Some o → is_reserved (versions_of m reserved) p line ≡ option_map_or (is_current m.versions line) o false
unfolding is_reserved
held_at m reserved p line o at = ap (λ r. option_map_or (is_current m.versions line) r false) (index-got reserved p o None at)

-- a store ends the reservations of its line
pub store-loses : (old : SharedMemory) (m : MainMemory) (reserved : List (Option Reserved)) (at losers : ℕ) (bytes : List ℕ) → ((v : Versions) (p : ℕ) → StandsForVersions old.locks v → p < 16 → has_bit losers p ≡ is_reserved v p (at / 128))
    → at / 128 < line_count old.locks → ShowsMemory old m reserved → Loses losers m reserved (stored m at bytes)
store-loses old m reserved at losers bytes holds within shows =
    let inside : at / 128 < length m.versions = let e = shows.versions.lines in omega arith in
    record { each = λ p o low got. holds (versions_of m reserved) p shows.versions low ∙ held_at m reserved p (at / 128) o got ∙ sym (stored-loses o m at bytes inside) }

-- that of an atomic command, but the one of its own processor
pub others-lose : (old : SharedMemory) (m : MainMemory) (reserved : List (Option Reserved)) (spe line losers : ℕ) (bytes : List ℕ)
    → ((v : Versions) (p : ℕ) → StandsForVersions old.locks v → p < 16 → has_bit losers p ≡ (is_reserved v p line && not (spe == p)))
    → line < line_count old.locks → ShowsMemory old m reserved → LosesOthers spe losers m reserved (stored m (128 * line) bytes)
others-lose old m reserved spe line losers bytes holds within shows p o low got =
    let e : 128 * line / 128 ≡ line = omega arith in
    let inside : 128 * line / 128 < length m.versions = let f = shows.versions.lines in omega arith in
    holds (versions_of m reserved) p shows.versions low
    ∙ ap (λ b. b && not (spe == p)) (held_at m reserved p line o got ∙ ap (λ l. option_map_or (is_current m.versions l) o false) (sym e) ∙ sym (stored-loses o m (128 * line) bytes inside))

pub none-lose : (spe : ℕ) (m : MainMemory) (reserved : List (Option Reserved)) → LosesOthers spe 0 m reserved m
none-lose spe m reserved p o low got = bit-none p ∙ sym (ap (λ b. b && not (spe == p)) (gone (is_held m o)))

-- a PUTLLC, by whether its processor holds the line
pub stored-lose : (spe losers : ℕ) (m : MainMemory) (reserved : List (Option Reserved)) (P : Spe) (line : ℕ) (bytes : List ℕ) → holds m P line ≡ true → LosesOthers spe losers m reserved (stored m (128 * line) bytes)
    → LosesOthers spe losers m reserved (if holds m P line then stored m (128 * line) bytes else m)
stored-lose spe losers m reserved P line bytes held loses = rw held loses

pub lost-lose : (spe : ℕ) (m : MainMemory) (reserved : List (Option Reserved)) (P : Spe) (line : ℕ) (bytes : List ℕ) → holds m P line ≡ false
    → LosesOthers spe 0 m reserved (if holds m P line then stored m (128 * line) bytes else m)
lost-lose spe m reserved P line bytes held = rw held (none-lose spe m reserved)

-- each of the atomic commands
pub got-loses : (spe : ℕ) (m : MainMemory) (reserved : List (Option Reserved)) (P Q : Spe) (a : AtomicOp) → a.kind ≡ GetLine → LosesOthers spe 0 m reserved (moved m Q a (fate m P a)).memory
unfolding copied
got-loses spe m reserved P Q a kind = rw kind (none-lose spe m reserved)

pub line-loses : (spe losers : ℕ) (m : MainMemory) (reserved : List (Option Reserved)) (P Q : Spe) (a : AtomicOp) (store : List ℕ) → a.kind ≡ PutLine → Q.store ≡ store
    → LosesOthers spe losers m reserved (stored m (128 * a.line) (slice_range store a.ls (a.ls + 128))) → LosesOthers spe losers m reserved (moved m Q a (fate m P a)).memory
unfolding copied
line-loses spe losers m reserved P Q a store kind was loses = rw (kind, was) loses

pub cond-loses : (spe losers : ℕ) (m : MainMemory) (reserved : List (Option Reserved)) (P Q : Spe) (a : AtomicOp) (store : List ℕ) → a.kind ≡ PutCond → Q.store ≡ store
    → LosesOthers spe losers m reserved (if holds m P a.line then stored m (128 * a.line) (slice_range store a.ls (a.ls + 128)) else m) → LosesOthers spe losers m reserved (moved m Q a (fate m P a)).memory
unfolding copied
cond-loses spe losers m reserved P Q a store kind was loses = rw kind (subst (LosesOthers spe losers m reserved) (on (holds m P a.line)) loses)
  where
    on : (b : Bool) → (if b then stored m (128 * a.line) (slice_range store a.ls (a.ls + 128)) else m) ≡ (moved m Q a (fate_of PutCond b)).memory
    on true = ap (λ s. stored m (128 * a.line) (slice_range s a.ls (a.ls + 128))) (sym was)
    on false = refl
