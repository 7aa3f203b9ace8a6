-- The line that a processor of a machine holds, and the one that it reserved last.
use Rattle.std.proofs.Common.{◌≡◌, ℕ, zero, suc, ◌<◌, List, [], ◌∷◌, length, arith, refl, ap, ◌∙◌}
use Rattle.std.specs.Prelude.{Option, Some, None, IsSomeAnd, slice_get, slice_index_or}
use Rattle.std.specs.Option.{option_and_then, option_map}
use Rattle.lock_lines.specs.Versions.{Versions, Reserved, current_line, line_held, line_reserved}
use Rattle.lock_lines.specs.Stands.{StandsForVersions}
use Rattle.mfc_queue.proofs.AtLemmas.{got-map}
use Rattle.cell_host.specs.Script.{Progress}
use Rattle.cell_machine.specs.declared.processor.Processor.{Processor}
use Rattle.cell_machine.specs.declared.memory.SharedMemory.{SharedMemory}
use Rattle.cell_machine.specs.Spe.{Spe}
use Rattle.cell_machine.specs.State.{State}
use Rattle.cell_machine.specs.Shown.{line_held_by, line_reserved_by}
use Rattle.cell_machine.specs.Shows.{Shows, ShowsSpe, reservations}
use Rattle.cell_machine.proofs.AllTwo.{two_length}
use Rattle.cell_machine.proofs.MemoryShown.{versions_of, index-got}

get-there : {X : Type 0} (xs : List X) (i : ℕ) → i < length xs → (x : X) × (slice_get xs i ≡ Some x)
get-there [] i h = absurd (omega arith)
get-there (x ∷ xs) zero h = (x, refl)
get-there (x ∷ xs) (suc i) h = get-there xs i (omega arith)

-- what the locks keep of the reservation of a processor is what the written machine has
reserved-at : (processors : List Processor) (memory : SharedMemory) (host : Progress) (M : State) (p : ℕ) → Shows processors memory host M → p < length processors
    → (P : Spe) × (slice_get M.spes p ≡ Some P) × (slice_index_or (reservations M.spes) p None ≡ P.reserved)
reserved-at processors memory host M p shows within =
    let long = two_length ShowsSpe processors M.spes shows.spes in
    let two = get-there M.spes p (omega arith) in
    (two.0, two.1, index-got (reservations M.spes) p two.0.reserved None (got-map (λ (Q : Spe). Q.reserved) M.spes p two.0 two.1))

pub line_held-is : (processors : List Processor) (memory : SharedMemory) (host : Progress) (M : State) (p : ℕ) (o : Option ℕ) → Shows processors memory host M → p < length processors
    → ((v : Versions) → StandsForVersions memory.locks v → o ≡ line_held v p) → IsSomeAnd (slice_get M.spes p) (λ P. o ≡ line_held_by M.memory P)
line_held-is processors memory host M p o shows within held =
    let at = reserved-at processors memory host M p shows within in
    rw at.1 (held (versions_of M.memory (reservations M.spes)) shows.memory_is.versions ∙ ap (option_and_then (current_line M.memory.versions)) at.2)

pub line_reserved-is : (processors : List Processor) (memory : SharedMemory) (host : Progress) (M : State) (p : ℕ) (o : Option ℕ) → Shows processors memory host M → p < length processors
    → ((v : Versions) → StandsForVersions memory.locks v → o ≡ line_reserved v p) → IsSomeAnd (slice_get M.spes p) (λ P. o ≡ line_reserved_by P)
line_reserved-is processors memory host M p o shows within kept =
    let at = reserved-at processors memory host M p shows within in
    rw at.1 (kept (versions_of M.memory (reservations M.spes)) shows.memory_is.versions ∙ ap (option_map (λ (r : Reserved). r.line)) at.2)

-- what holds of the processor of the state holds of that of the run
pub spe-of_state : (p : ℕ) (Q : Spe → Type 0) (o : Option State) → IsSomeAnd o (λ M. IsSomeAnd (slice_get M.spes p) Q) → IsSomeAnd (option_and_then (λ M. slice_get M.spes p) o) Q
spe-of_state p Q None is = is
spe-of_state p Q (Some M) is = is
