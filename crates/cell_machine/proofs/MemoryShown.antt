-- What the code's memory shows after a store, a GETLLAR and a PUTLLC.
use Rattle.std.proofs.Common.{◌≡◌, ℕ, zero, suc, ◌+◌, ◌*◌, ◌/◌, ◌&&◌, Bool, true, false, List, [], ◌∷◌, arith, refl, sym, ◌∙◌, ap, subst, slice_set, slice_index_or}
use Rattle.std.specs.Prelude.{Option, Some, None, slice_get, slice_range, replicate, not, if◌then◌else◌}
use Rattle.std.specs.Option.{option_map_or}
use Rattle.cell_base.specs.Bytes.{put}
use Rattle.cell_base.proofs.BitLaws.{bit-none}
use Rattle.lock_lines.specs.declared.Lock.{Lock}
use Rattle.lock_lines.specs.declared.Lock.TheVariants.{Stored, Lost}
use Rattle.lock_lines.specs.Calls.{answer_of}
use Rattle.lock_lines.specs.Versions.{Versions, Reserved, opening_versions, version_of, is_current, is_reserved, stored_to, got, put as put_conditional, raised}
use Rattle.lock_lines.specs.Stands.{StandsForVersions}
use Rattle.cell_machine.specs.declared.memory.SharedMemory.{SharedMemory}
use Rattle.cell_machine.specs.Spe.{Spe}
use Rattle.cell_machine.specs.Memory.{MainMemory, stored}
use Rattle.mfc_command.specs.declared.range.Part.{Part}
use Rattle.cell_machine.specs.Transfers.{copied}
use Rattle.cell_machine.specs.Atomic.{holds}
use Rattle.cell_machine.specs.Shows.{ShowsMemory, is_held, Loses}

-- the versions of the memory, with these reservations
abbrev pub versions_of : MainMemory → List (Option Reserved) → Versions
versions_of m reserved = record { lines = m.versions; spes = reserved }

pub store-shows : (old new : SharedMemory) (m : MainMemory) (reserved : List (Option Reserved)) (at : ℕ) (bytes : List ℕ) → new.bytes ≡ put old.bytes at bytes
    → ((v : Versions) → StandsForVersions old.locks v → StandsForVersions new.locks (stored_to (at / 128) v))
    → ShowsMemory old m reserved → ShowsMemory new (stored m at bytes) reserved
unfolding stored
store-shows old new m reserved at bytes is does shows = record {
  bytes = ap (λ b. put b at bytes) shows.bytes ∙ sym is;
  versions = does (versions_of m reserved) shows.versions;
}

pub index-got : {X : Type 0} (xs : List X) (i : ℕ) (x d : X) → slice_get xs i ≡ Some x → slice_index_or xs i d ≡ x
index-got [] i x d h = absurd (cc)
index-got (y ∷ ys) zero x d h = cc
index-got (y ∷ ys) (suc i) x d h = index-got ys i x d h

-- whether the processor holds the line
pub held-is : (m : MainMemory) (reserved : List (Option Reserved)) (P : Spe) (spe line : ℕ) → slice_get reserved spe ≡ Some P.reserved → is_reserved (versions_of m reserved) spe line ≡ holds m P line
unfolding is_reserved
held-is m reserved P spe line at = ap (λ o. option_map_or (is_current m.versions line) o false) (index-got reserved spe P.reserved None at)

answered-held : (l : Lock) (b : Bool) → l ≡ answer_of b → (l ≡ Stored → b ≡ true) × (l ≡ Lost → b ≡ false)
answered-held l true e = (λ s. refl, λ s. absurd (let f : Stored ≡ Lost = sym e ∙ s in cc))
answered-held l false e = (λ s. absurd (let f : Lost ≡ Stored = sym e ∙ s in cc), λ s. refl)

-- by its answer the processor holds the line or doesn't
pub stored-held : (old : SharedMemory) (l : Lock) (m : MainMemory) (reserved : List (Option Reserved)) (P : Spe) (spe line : ℕ) → slice_get reserved spe ≡ Some P.reserved
    → ((v : Versions) → StandsForVersions old.locks v → l ≡ answer_of (is_reserved v spe line)) → ShowsMemory old m reserved
    → (l ≡ Stored → holds m P line ≡ true) × (l ≡ Lost → holds m P line ≡ false)
stored-held old l m reserved P spe line at answers shows =
    answered-held l (holds m P line) (answers (versions_of m reserved) shows.versions ∙ ap answer_of (held-is m reserved P spe line at))

-- the line is stored, and the reservation is given up
pub put-stored : (old new : SharedMemory) (m : MainMemory) (reserved : List (Option Reserved)) (P : Spe) (spe line : ℕ) (bytes : List ℕ) → slice_get reserved spe ≡ Some P.reserved
    → holds m P line ≡ true → new.bytes ≡ put old.bytes (128 * line) bytes
    → ((v : Versions) → StandsForVersions old.locks v → StandsForVersions new.locks (put_conditional spe line v))
    → ShowsMemory old m reserved → ShowsMemory new (if holds m P line then stored m (128 * line) bytes else m) (slice_set reserved spe None)
unfolding stored
put-stored old new m reserved P spe line bytes at held is does shows =
    let h : is_reserved (versions_of m reserved) spe line ≡ true = held-is m reserved P spe line at ∙ held in
    let e : 128 * line / 128 ≡ line = omega arith in
    let new_versions : StandsForVersions new.locks (record { lines = raised m.versions line; spes = slice_set reserved spe None }) = rw h at (does (versions_of m reserved) shows.versions) in
    rw held (record {
      bytes = ap (λ b. put b (128 * line) bytes) shows.bytes ∙ sym is;
      versions = subst (λ l. StandsForVersions new.locks (record { lines = raised m.versions l; spes = slice_set reserved spe None })) (sym e) new_versions;
    })

-- or it isn't, and the reservation is given up all the same
pub put-lost : (old new : SharedMemory) (m : MainMemory) (reserved : List (Option Reserved)) (P : Spe) (spe line : ℕ) (bytes : List ℕ) → slice_get reserved spe ≡ Some P.reserved
    → holds m P line ≡ false → new.bytes ≡ old.bytes
    → ((v : Versions) → StandsForVersions old.locks v → StandsForVersions new.locks (put_conditional spe line v))
    → ShowsMemory old m reserved → ShowsMemory new (if holds m P line then stored m (128 * line) bytes else m) (slice_set reserved spe None)
put-lost old new m reserved P spe line bytes at held is does shows =
    let h : is_reserved (versions_of m reserved) spe line ≡ false = held-is m reserved P spe line at ∙ held in
    rw held (record { bytes = shows.bytes ∙ sym is; versions = rw h at (does (versions_of m reserved) shows.versions) })

-- a line is reserved at its version
pub got-shows : (old new : SharedMemory) (m : MainMemory) (reserved : List (Option Reserved)) (spe line : ℕ) → new.bytes ≡ old.bytes
    → ((v : Versions) → StandsForVersions old.locks v → StandsForVersions new.locks (got spe line v))
    → ShowsMemory old m reserved → ShowsMemory new m (slice_set reserved spe (Some (record { line = line; version = version_of m.versions line })))
got-shows old new m reserved spe line is does shows = record { bytes = shows.bytes ∙ sym is; versions = does (versions_of m reserved) shows.versions }

-- what stands at a place may be put there again
pub set-same : {X : Type 0} (xs : List X) (i : ℕ) (x : X) → slice_get xs i ≡ Some x → slice_set xs i x ≡ xs
set-same [] i x h = absurd (cc)
set-same (y ∷ ys) zero x h = ap (λ z. z ∷ ys) (let e : y ≡ x = cc in sym e)
set-same (y ∷ ys) (suc i) x h = ap (λ zs. y ∷ zs) (set-same ys i x h)

-- a part is copied to the memory, or to the store
pub copied-put_spe : (m : MainMemory) (P : Spe) (x : Part) (store : List ℕ) → P.store ≡ store → (copied m P true x).spe ≡ record P { store = store }
unfolding copied
copied-put_spe m P x store was = ap (λ s. record P { store = s }) was

pub copied-put_memory : (new : SharedMemory) (m : MainMemory) (reserved : List (Option Reserved)) (P : Spe) (x : Part) (store : List ℕ) → P.store ≡ store
    → ShowsMemory new (stored m x.ea (slice_range store x.ls (x.ls + x.len))) reserved → ShowsMemory new (copied m P true x).memory reserved
unfolding copied
copied-put_memory new m reserved P x store was shows = rw was shows

pub copied-get_spe : (m : MainMemory) (P : Spe) (x : Part) (bytes old new : List ℕ) → m.bytes ≡ bytes → P.store ≡ old → new ≡ put old x.ls (slice_range bytes x.ea (x.ea + x.len))
    → (copied m P false x).spe ≡ record P { store = new }
unfolding copied
copied-get_spe m P x bytes old new same was is = ap (λ s. record P { store = s }) (rw (same, was) (sym is))

pub copied-get_memory : (new : SharedMemory) (m : MainMemory) (reserved : List (Option Reserved)) (P : Spe) (x : Part) → ShowsMemory new m reserved → ShowsMemory new (copied m P false x).memory reserved
unfolding copied
copied-get_memory new m reserved P x shows = shows

-- and which processors lose their reservation
pub none-loses : (m : MainMemory) (reserved : List (Option Reserved)) → Loses 0 m reserved m
none-loses m reserved = record { each = λ p o low at. bit-none p ∙ sym (gone (is_held m o)) }
  where
    gone : (b : Bool) → (b && not b) ≡ false
    gone true = refl
    gone false = refl

pub copied-put_loses : (losers : ℕ) (m : MainMemory) (reserved : List (Option Reserved)) (P : Spe) (x : Part) (store : List ℕ) → P.store ≡ store
    → Loses losers m reserved (stored m x.ea (slice_range store x.ls (x.ls + x.len))) → Loses losers m reserved (copied m P true x).memory
unfolding copied
copied-put_loses losers m reserved P x store was loses = rw was loses

pub copied-get_loses : (m : MainMemory) (reserved : List (Option Reserved)) (P : Spe) (x : Part) → Loses 0 m reserved (copied m P false x).memory
unfolding copied
copied-get_loses m reserved P x = none-loses m reserved

-- at the start no store has touched a line, and none is reserved
pub starts-shows : (c : SharedMemory) (bytes : List ℕ) (lines spes : ℕ) → bytes ≡ c.bytes → StandsForVersions c.locks (opening_versions lines spes)
    → ShowsMemory c (record { bytes = bytes; versions = replicate lines 0 }) (replicate spes None)
unfolding opening_versions
starts-shows c bytes lines spes is stands = record { bytes = is; versions = stands }
