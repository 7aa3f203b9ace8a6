-- A refused fetch may have added nothing, and what a fetch answers at a file.
use Rattle.std.proofs.Common.{◌≡◌, ◌==◌, ◌≤◌, ◌<◌, ℕ, List, length, sym, ◌∙◌, append-nil, Option, Some, None, Result, Ok, Err, true, false, nat_le, arith, ap, subst, if◌then◌else◌}
use Rattle.std.specs.List.{list_any}
use Rattle.std.proofs.lemmas.Bool.Decides.{nat_tests}
use Rattle.cell_io.specs.declared.store.Fetched.{Fetched}
use Rattle.cell_io.specs.declared.store.Fetched.TheVariants.{Whole, TooLong}
use Rattle.cell_io.specs.declared.store.FetchFault.{FetchFault}
use Rattle.cell_io.specs.declared.store.FetchFault.TheVariants.{Failed}
use Rattle.cell_io.specs.Files.{file_named}
use Rattle.cell_io.specs.Memory.{Shelf, answer_of, answer_from}
use Rattle.cell_io.specs.Store.{Adds}

adds_none : (file : Option (List ℕ)) (limit : ℕ) (old new : List ℕ) (fault : FetchFault) → new ≡ old → Adds file limit old new (Err fault)
adds_none (Some bytes) limit old new fault same = (0, same ∙ sym (append-nil old))
adds_none None limit old new fault same = same

pub adds_nothing : (file : Option (List ℕ)) (limit : ℕ) (old new : List ℕ) (fault : FetchFault) (result : Result Fetched FetchFault) → result ≡ Err fault → new ≡ old → Adds file limit old new result
adds_nothing file limit old new fault result is same = subst (λ r. Adds file limit old new r) (sym is) (adds_none file limit old new fault same)

-- at a call that is not told to fail, the file alone decides
answer_of-file : (s : Shelf) (name : List ℕ) (limit : ℕ) (file : Option (List ℕ)) → list_any (λ call. call == s.calls) s.failing ≡ false → file ≡ file_named s.files name → answer_of s name limit ≡ answer_from file limit
answer_of-file s name limit file goes found =
    ap (λ b. if b then Err Failed else answer_from (file_named s.files name) limit) goes ∙ ap (λ f. answer_from f limit) (sym found)

pub answers_whole : (s : Shelf) (name : List ℕ) (limit : ℕ) (bytes : List ℕ) → list_any (λ call. call == s.calls) s.failing ≡ false → Some bytes ≡ file_named s.files name → length bytes ≤ limit → Ok Whole ≡ answer_of s name limit
answers_whole s name limit bytes goes found fits =
    let within : nat_le (length bytes) limit ≡ true = grind (arith, nat_tests) in
    sym (answer_of-file s name limit (Some bytes) goes found ∙ ap (λ b. Ok (if b then Whole else TooLong)) within)

pub answers_too_long : (s : Shelf) (name : List ℕ) (limit : ℕ) (bytes : List ℕ) → list_any (λ call. call == s.calls) s.failing ≡ false → Some bytes ≡ file_named s.files name → limit < length bytes → Ok TooLong ≡ answer_of s name limit
answers_too_long s name limit bytes goes found long =
    let beyond : nat_le (length bytes) limit ≡ false = grind (arith, nat_tests) in
    sym (answer_of-file s name limit (Some bytes) goes found ∙ ap (λ b. Ok (if b then Whole else TooLong)) beyond)
