-- How a machine begins.
use Rattle.std.proofs.Common.{◌≡◌, ◌≢◌, ℕ, zero, suc, ◌<◌, ◌≤◌, ◌+◌, ◌*◌, ◌==◌, true, false, List, [], ◌∷◌, ◌++◌, map, length, arith, refl, sym, subst, ◌∙◌, slice_index_or, ap, take, drop}
use Rattle.std.specs.Prelude.{All, replicate, None}
use Rattle.std.specs.List.{enumerate_from}
use Rattle.std.proofs.lemmas.Bool.Decides.{nat_tests}
use Rattle.std.proofs.lemmas.List.{length-replicate}
use Rattle.std.proofs.Math.Seq.{drop-cons}
use Rattle.std.proofs.Math.ListN.{get_or-map, length-map}
use Rattle.cell_base.specs.Bytes.{put, zeros}
use Rattle.cell_base.specs.declared.steps.Step.{Step}
use Rattle.cell_host.specs.Script.{Progress, opening as opening_host}
use Rattle.cell_machine.specs.Opening.{Opening, opening, opening_spe, opening_spes, opening_memory, filled, InMemory, Placed, placed_in, no_moves}
use Rattle.cell_machine.specs.Run.{replay}
use Rattle.cell_machine.specs.Tags.{settled}
use Rattle.cell_machine.specs.Shows.{AllTwo, ShowsSpe, ShowsMemory, HasSize, reservations, IsMachine, IsBounded, AreBounded}
use Rattle.cell_machine.proofs.Bounds.{map-got}
use Rattle.cell_machine.proofs.MovesShown.{get-within}
use Rattle.cell_machine.proofs.AllTwo.{two_length}
use Rattle.cell_machine.specs.declared.memory.SharedMemory.{SharedMemory}
use Rattle.cell_machine.specs.declared.processor.Processor.{Processor}
use Rattle.cell_machine.specs.Limits.{shown, shown_memory, IsOpening, FitsStore, FitsMemory}
use Rattle.cell_machine.specs.declared.setup.PlacedBytes.{PlacedBytes}
use Rattle.cell_machine.specs.declared.setup.MemoryBytes.{MemoryBytes}

abbrev pub shown_one : PlacedBytes → Placed
shown_one x = record { spe = x.spe; at = x.at; bytes = x.bytes.items }

abbrev pub in_memory : MemoryBytes → InMemory
in_memory x = record { at = x.at; bytes = x.bytes.items }

-- what is left to fill from piece i on begins with the piece there
pub filled-next : (memory : List ℕ) (pieces : List MemoryBytes) (i : ℕ) (x : MemoryBytes) → i < length pieces → x ≡ slice_index_or pieces i x
    → filled memory (drop i (shown_memory pieces)) ≡ filled (put memory x.at x.bytes.items) (drop (i + 1) (shown_memory pieces))
filled-next memory pieces i x h at =
    let within : i < length (shown_memory pieces) = rw length-map h in
    let e : suc i ≡ i + 1 = omega arith in
    ap (filled memory) (drop-cons (shown_memory pieces) i (in_memory x) within
    ∙ ap (λ y. y ∷ drop (suc i) (shown_memory pieces)) (get_or-map in_memory pieces i x ∙ ap in_memory (sym at))
    ∙ ap (λ k. in_memory x ∷ drop k (shown_memory pieces)) e)

-- what is left from place i on begins with the piece there
pub drop-shown : (pieces : List PlacedBytes) (i : ℕ) (x : PlacedBytes) → i < length pieces → x ≡ slice_index_or pieces i x → drop i (shown pieces) ≡ shown_one x ∷ drop (i + 1) (shown pieces)
drop-shown pieces i x h at =
    let within : i < length (shown pieces) = rw length-map h in
    let e : suc i ≡ i + 1 = omega arith in
    drop-cons (shown pieces) i (shown_one x) within
    ∙ ap (λ y. y ∷ drop (suc i) (shown pieces)) (get_or-map shown_one pieces i x ∙ ap shown_one (sym at))
    ∙ ap (λ k. shown_one x ∷ drop k (shown pieces)) e

-- a piece of this processor is written, and one of another isn't
pub placed-own : (store : List ℕ) (p : ℕ) (x : Placed) (rest : List Placed) → x.spe ≡ p → placed_in store p (x ∷ rest) ≡ placed_in (put store x.at x.bytes) p rest
placed-own store p x rest same = let e : (x.spe == p) ≡ true = grind (arith, nat_tests) in rw e refl

pub placed-other : (store : List ℕ) (p : ℕ) (x : Placed) (rest : List Placed) → x.spe ≢ p → placed_in store p (x ∷ rest) ≡ placed_in store p rest
placed-other store p x rest differs = let e : (x.spe == p) ≡ false = grind (arith, nat_tests) in rw e refl

pub length-zeros : (n : ℕ) → length (zeros n) ≡ n
unfolding zeros
length-zeros n = length-replicate n 0

-- one more processor
spes-suc : {A : Type 0} (f : ℕ × ℕ → A) (n i : ℕ) (entries : List ℕ) → i < length entries
    → map f (enumerate_from n (take (suc i) entries)) ≡ map f (enumerate_from n (take i entries)) ++ f (n + i, slice_index_or entries i 0) ∷ []
spes-suc f n i [] h = absurd (omega arith)
spes-suc f n zero (e ∷ entries) h = let same : n ≡ n + 0 = omega arith in ap (λ k. f (k, e) ∷ []) same
spes-suc f n (suc i) (e ∷ entries) h =
    let same : n + 1 + i ≡ n + suc i = omega arith in
    ap (λ xs. f (n, e) ∷ xs) (spes-suc f (n + 1) i entries (omega arith))
    ∙ ap (λ k. f (n, e) ∷ (map f (enumerate_from (n + 1) (take i entries)) ++ f (k, slice_index_or entries i 0) ∷ [])) same

pub spes-more : {A : Type 0} (f : ℕ × ℕ → A) (i : ℕ) (entries : List ℕ) → i < length entries
    → map f (enumerate_from 0 (take (i + 1) entries)) ≡ map f (enumerate_from 0 (take i entries)) ++ f (i, slice_index_or entries i 0) ∷ []
spes-more f i entries h =
    let e : i + 1 ≡ suc i = omega arith in
    let z : 0 + i ≡ i = omega arith in
    ap (λ k. map f (enumerate_from 0 (take k entries))) e ∙ spes-suc f 0 i entries h
    ∙ ap (λ k. map f (enumerate_from 0 (take i entries)) ++ f (k, slice_index_or entries i 0) ∷ []) z

-- what holds of the pieces that are shown holds of those of the code
pub fits-shown : (n : ℕ) (pieces : List PlacedBytes) → All (FitsStore n) (shown pieces) → All (λ x. x.at + length x.bytes.items ≤ 262144) pieces
fits-shown n pieces all k d h =
    let within : k < length (shown pieces) = rw length-map h in
    let fits = subst (FitsStore n) (get_or-map shown_one pieces k d) (all k (shown_one d) within) in
    fits.1

pub fits-memory : (n : ℕ) (pieces : List MemoryBytes) → All (FitsMemory n) (shown_memory pieces) → All (λ x. x.at + length x.bytes.items ≤ 128 * n) pieces
fits-memory n pieces all k d h =
    let within : k < length (shown_memory pieces) = rw length-map h in
    subst (FitsMemory n) (get_or-map in_memory pieces k d) (all k (in_memory d) within)

pub length-enumerate : {A : Type 0} (f : ℕ × ℕ → A) (n : ℕ) (xs : List ℕ) → length (map f (enumerate_from n xs)) ≡ length xs
length-enumerate f n [] = refl
length-enumerate f n (x ∷ xs) = ap suc (length-enumerate f (n + 1) xs)

-- at the start all processors are settled, and no command was issued
pub opening-settled : (S : Opening) (xs : List (ℕ × ℕ)) → map settled (map (opening_spe S) xs) ≡ map (opening_spe S) xs
opening-settled S [] = refl
opening-settled S (x ∷ xs) = ap (λ ys. opening_spe S x ∷ ys) (opening-settled S xs)

pub opening_bounded : (S : Opening) → 0 < S.lines → AreBounded S.lines 0 (opening_spes S)
opening_bounded S some p P at =
    let g = map-got (opening_spe S) (enumerate_from 0 S.entries) p P at in
    subst (IsBounded S.lines 0) g.2 (record { some = some; few = omega arith; fits = λ c d at2. absurd (let l = get-within no_moves.issued c d at2 in omega arith); elements = λ i d less. absurd (omega arith); slot = tt })

-- and nothing is reserved
opening_reserved : (S : Opening) (xs : List (ℕ × ℕ)) → reservations (map (opening_spe S) xs) ≡ replicate (length xs) None
opening_reserved S [] = refl
opening_reserved S (x ∷ xs) = ap (λ ys. None ∷ ys) (opening_reserved S xs)

length-numbered : (n : ℕ) (xs : List ℕ) → length (enumerate_from n xs) ≡ length xs
length-numbered n [] = refl
length-numbered n (x ∷ xs) = ap suc (length-numbered (n + 1) xs)

-- the memory at the start, by what the code has of the setup
pub memory-new : (S : Opening) (memory : SharedMemory) (lines spes : ℕ) (pieces : List MemoryBytes) → S.lines ≡ lines → S.memory ≡ shown_memory pieces → length S.entries ≡ spes
    → ShowsMemory memory (record { bytes = filled (zeros (128 * lines)) (shown_memory pieces); versions = replicate lines 0 }) (replicate spes None)
    → ShowsMemory memory (opening_memory S) (replicate (length S.entries) None)
memory-new S memory lines spes pieces a b e shows = rw (a, b, e) shows

-- a machine at its start
pub machine-new : (S : Opening) (processors : List Processor) (memory : SharedMemory) (host : Progress) (steps : List Step) (capacity : ℕ) → IsOpening S → 0 < length S.entries
    → AllTwo ShowsSpe processors (opening_spes S) → ShowsMemory memory (opening_memory S) (replicate (length S.entries) None) → HasSize S.lines (length S.entries) memory
    → opening_host S.actions ≡ host → steps ≡ [] → S.budget ≤ capacity → IsMachine S steps capacity processors memory host
unfolding opening
machine-new S processors memory host steps capacity is some shows fills size begins none room =
    let many : length processors ≡ length S.entries = sym (two_length ShowsSpe processors (opening_spes S) shows) ∙ length-enumerate (opening_spe S) 0 S.entries in
    let reserved : replicate (length S.entries) None ≡ reservations (opening_spes S) = sym (opening_reserved S (enumerate_from 0 S.entries) ∙ ap (λ n. replicate n None) (length-numbered 0 S.entries)) in
    record {
      setup_is = is;
      room = room;
      within = rw none (omega arith);
      small = is.limits.3;
      some = some;
      many = let h = is.spes in omega arith;
      count = many;
      state = opening S;
      replayed = ap (replay (opening S)) none;
      shown = record { spes = shows; memory_is = subst (ShowsMemory memory (opening_memory S)) reserved fills; host_is = begins };
      settled = opening-settled S (enumerate_from 0 S.entries);
      bounded = rw none (opening_bounded S is.limits.0);
      size = (size.0, size.1 ∙ sym many);
      script = ap (λ (h : Progress). h.script) (sym begins);
      actions = is.actions;
    }
