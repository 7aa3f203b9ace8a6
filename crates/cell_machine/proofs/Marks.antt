-- Processors that are known to be blocked.
use Rattle.std.proofs.Common.{◌≡◌, ◌≢◌, ℕ, zero, suc, ◌+◌, ◌-◌, ◌*◌, ◌/◌, ◌%◌, ◌^◌, ◌<◌, ◌≤◌, ◌==◌, ◌||◌, ◌&&◌, bit_and, bit_or, w16, w32, List, [], ◌∷◌, length, arith, refl, sym, ◌∙◌, ap, subst, slice_set, slice_index_or, true, false, true≢false, Bool, ◌⊎◌, inl, inr}
use Rattle.std.specs.Prelude.{Option, Some, None, IsSomeAnd, MatchBool, is_some, not, slice_get}
use Rattle.std.specs.Bool.{OnFalse}
use Rattle.std.specs.Int.{bit_at, bit_not, trailing_ones}
use Rattle.std.proofs.lemmas.Bool.Decides.{nat_tests}
use Rattle.std.proofs.lemmas.Bool.{cases_lt}
use Rattle.std.proofs.lemmas.Nat.{shr-shr, shr_le}
use Rattle.std.proofs.lemmas.Nat.Bits.{bit_at_and, bit_at-trailing_ones}
use Rattle.cell_base.proofs.BitLaws.{or_false, and_false, bit-set, bit-clear}
use Rattle.cell_base.specs.Bits.{has_bit}
use Rattle.cell_base.specs.declared.steps.Actor.TheVariants.{Spu}
use Rattle.cell_base.specs.declared.steps.Step.TheVariants.{Exec}
use Rattle.cell_host.specs.Script.{Progress}
use Rattle.cell_machine.specs.declared.memory.SharedMemory.{SharedMemory}
use Rattle.cell_machine.specs.declared.processor.Processor.{Processor}
use Rattle.cell_machine.specs.declared.blocked.Blocked.{Blocked}
use Rattle.cell_machine.specs.Spe.{Spe}
use Rattle.cell_machine.specs.State.{State}
use Rattle.cell_machine.specs.Memory.{lines_of}
use Rattle.cell_machine.specs.Exec.{exec}
use Rattle.cell_machine.specs.Next.{act_in}
use Rattle.cell_machine.specs.Shows.{Shows, ShowsSpe, AllTwo}
use Rattle.cell_machine.specs.Blocked.{IsBlocked, AreBlocked, AreBut}
use Rattle.cell_machine.specs.Choices.{all_of_spus}
use Rattle.cell_machine.proofs.Choices.{no_next, allowed-no_spu, from_actor, from-skip, from-end}
use Rattle.cell_machine.proofs.Ending.{set_other}

-- of two lists that are alike, what stands at a place of the second one stands for what the first has there
two_get : {X Y : Type 0} (R : X → Y → Type 0) (xs : List X) (ys : List Y) (p : ℕ) (y : Y) → AllTwo R xs ys → slice_get ys p ≡ Some y → (x : X) × (slice_get xs p ≡ Some x) × R x y
two_get R [] [] p y a h = absurd (cc)
two_get R (x ∷ xs) (z ∷ ys) zero y a h = let same : z ≡ y = cc in (x, refl, subst (R x) same a.0)
two_get R (x ∷ xs) (z ∷ ys) (suc p) y a h = two_get R xs ys p y a.1 h
two_get R [] (z ∷ ys) p y a h = absurd a
two_get R (x ∷ xs) [] p y a h = absurd a

-- the instruction of a processor that is marked isn't allowed
pub marked-refuses : {memory : SharedMemory} {host : Progress} (w : Blocked) (processors : List Processor) (M : State) (p : ℕ) → Shows processors memory host M → AreBlocked w processors → has_bit w.bits p ≡ true → act_in M p (Exec p) ≡ None
marked-refuses w processors M p shows waits marked = on (slice_get M.spes p) refl
  where
    on : (o : Option Spe) → slice_get M.spes p ≡ o → act_in M p (Exec p) ≡ None
    on None e = rw e refl
    on (Some P) e =
        let found = two_get ShowsSpe processors M.spes p P shows.spes e in
        let none = waits p found.0 marked found.1 (lines_of M.memory) P found.2 in
        rw (e, none) refl

-- what is set is there
set_there : {X : Type 0} (xs : List X) (p : ℕ) (y z : X) → slice_get (slice_set xs p y) p ≡ Some z → y ≡ z
set_there [] p y z h = absurd (cc)
set_there (x ∷ xs) zero y z h = cc
set_there (x ∷ xs) (suc p) y z h = set_there xs p y z h

-- one processor is told of, and the others are as they were
pub told : (w n : Blocked) (spe : ℕ) (before processors : List Processor) → ((p : ℕ) → has_bit n.bits p ≡ true → spe ≢ p → has_bit w.bits p ≡ true) → AreBlocked w before → AreBut spe before processors
    → ((c : Processor) → has_bit n.bits spe ≡ true → slice_get processors spe ≡ Some c → IsBlocked c) → AreBlocked n processors
told w n spe before processors others were but tells p c marked at = on (spe == p) refl
  where
    on : (t : Bool) → (spe == p) ≡ t → IsBlocked c
    on true e =
        let same : spe ≡ p = grind (arith, nat_tests) in
        tells c (subst (λ k. has_bit n.bits k ≡ true) (sym same) marked) (subst (λ k. slice_get processors k ≡ Some c) (sym same) at)
    on false e =
        let apart : spe ≢ p = grind (arith, nat_tests) in
        were p c (others p marked apart) (sym (but p apart) ∙ at)

-- a mark more or less leaves the others
pub set-other : (n j p : ℕ) → j < 16 → has_bit (bit_or n (1 * 2 ^ j % 2 ^ 16)) p ≡ true → j ≢ p → has_bit n p ≡ true
set-other n j p within marked apart =
    let off : (j == p) ≡ false = grind (arith, nat_tests, apart) in
    sym (or_false (has_bit n p)) ∙ ap (λ b. has_bit n p || b) (sym off) ∙ sym (bit-set w16 n j p within) ∙ marked

pub clear-other : (n j p : ℕ) → has_bit (bit_and n (bit_not w16 (1 * 2 ^ j % 2 ^ 16))) p ≡ true → has_bit n p ≡ true
unfolding has_bit
clear-other n j p marked =
    let both : bit_at (bit_and n (bit_not w16 (1 * 2 ^ j % 2 ^ 16))) p ≡ 1 = grind (arith, nat_tests) in
    let least = bit_at_and n (bit_not w16 (1 * 2 ^ j % 2 ^ 16)) p in
    let one : bit_at n p ≡ 1 = omega (arith, both, least) in
    rw one refl

pub clear-same : (n j : ℕ) → j < 16 → has_bit (bit_and n (bit_not w16 (1 * 2 ^ j % 2 ^ 16))) j ≡ false
clear-same n j within =
    let same : (j == j) ≡ true = grind (arith, nat_tests) in
    bit-clear n j j within within ∙ ap (λ b. has_bit n j && not b) same ∙ and_false (has_bit n j)

-- a bit of the number behind a place
behind : (n from i : ℕ) → has_bit n (from + i) ≡ (bit_at (n / 2 ^ from) i == 1)
unfolding has_bit
behind n from i = ap (λ x. x % 2 == 1) (sym (shr-shr n from i))

-- from a place on, all are marked up to the first that isn't
pub marked-before : (n from p : ℕ) → n < 65536 → from ≤ p → p < from + trailing_ones w32 (n / 2 ^ from) → has_bit n p ≡ true
marked-before n from p fits low before =
    let at : from + (p - from) ≡ p = omega arith in
    let ones = bit_at-trailing_ones w32 (n / 2 ^ from) (omega (arith, shr_le n from)) in
    subst (λ k. has_bit n k ≡ true) at (behind n from (p - from) ∙ ap (λ b. b == 1) (ones.2 (p - from) (omega arith)))

pub first-other : (n from : ℕ) → n < 65536 → has_bit n (from + trailing_ones w32 (n / 2 ^ from)) ≡ false
first-other n from fits =
    let ones = bit_at-trailing_ones w32 (n / 2 ^ from) (omega (arith, shr_le n from)) in
    behind n from (trailing_ones w32 (n / 2 ^ from)) ∙ ap (λ b. b == 1) ones.1

-- a list with one processor set has the others as they were
pub set-but : (processors : List Processor) (spe : ℕ) (c : Processor) → AreBut spe processors (slice_set processors spe c)
set-but processors spe c p apart = set_other processors spe p c apart

-- and so has a list that is that one
pub same-but : (processors final : List Processor) (spe : ℕ) (c : Processor) → final ≡ slice_set processors spe c → AreBut spe processors final
same-but processors final spe c same = subst (AreBut spe processors) (sym same) (set-but processors spe c)

set_itself : {X : Type 0} (xs : List X) (i : ℕ) (d : X) → slice_set xs i (slice_index_or xs i d) ≡ xs
set_itself [] i d = refl
set_itself (x ∷ xs) zero d = refl
set_itself (x ∷ xs) (suc i) d = ap (λ zs. x ∷ zs) (set_itself xs i d)

-- a processor that is set to itself
pub kept-marks : (w : Blocked) (processors : List Processor) (spe : ℕ) (d c : Processor) → c ≡ slice_index_or processors spe d → AreBlocked w processors → AreBlocked w (slice_set processors spe c)
kept-marks w processors spe d c same were = subst (AreBlocked w) (sym (set_itself processors spe d) ∙ ap (slice_set processors spe) (sym same)) were

-- the processor that was tried is blocked where its instruction wasn't made
pub tried : (processors : List Processor) (spe : ℕ) (made : Bool) (c d : Processor) → OnFalse made (IsBlocked c) → not made ≡ true → slice_get (slice_set processors spe c) spe ≡ Some d → IsBlocked d
tried processors spe true c d blocked is at = absurd (cc)
tried processors spe false c d blocked is at = subst IsBlocked (set_there processors spe c d at) blocked

-- an instruction that is allowed is made
pub never-blocked : (made : Bool) (lines : ℕ) (c new : Processor) (R : Spe → Spe → Type 0) → OnFalse made (new ≡ c)
    → ((P : Spe) → ShowsSpe c P → MatchBool made (IsSomeAnd (exec lines P) (R P)) (exec lines P ≡ None))
    → ((P : Spe) → ShowsSpe c P → is_some (exec lines P) ≡ true)
    → OnFalse made (IsBlocked new)
never-blocked true lines c new R same does may = tt
never-blocked false lines c new R same does may = λ any P shows.
    let here = subst (λ x. ShowsSpe x P) same shows in
    absurd (true≢false (sym (may P here) ∙ ap is_some (does P here)))

-- a processor that is marked has no allowed instruction, nor has one that isn't there
skip-one : {memory : SharedMemory} {host : Progress} (w : Blocked) (processors : List Processor) (M : State) (p : ℕ) → Shows processors memory host M → AreBlocked w processors → has_bit w.bits p ≡ true
    → all_of_spus M ≡ from_actor M Spu p (length M.spes - p) → all_of_spus M ≡ from_actor M Spu (p + 1) (length M.spes - (p + 1))
skip-one w processors M p shows were marked so_far = on (cases_lt p (length M.spes))
  where
    on : (p < length M.spes) ⊎ (length M.spes ≤ p) → all_of_spus M ≡ from_actor M Spu (p + 1) (length M.spes - (p + 1))
    on (inl here) = so_far ∙ from-skip M Spu p (length M.spes) here (allowed-no_spu M p (no_next M (Exec p) (marked-refuses w processors M p shows were marked)))
    on (inr past) = so_far ∙ from-end M Spu p (length M.spes) past ∙ sym (from-end M Spu (p + 1) (length M.spes) (omega arith))

-- and so for all between two
skip-marked : {memory : SharedMemory} {host : Progress} (w : Blocked) (processors : List Processor) (M : State) (p d : ℕ) → Shows processors memory host M → AreBlocked w processors
    → ((k : ℕ) → p ≤ k → k < p + d → has_bit w.bits k ≡ true)
    → all_of_spus M ≡ from_actor M Spu p (length M.spes - p) → all_of_spus M ≡ from_actor M Spu (p + d) (length M.spes - (p + d))
skip-marked w processors M p zero shows were marked so_far = let e : p + 0 ≡ p = omega arith in rw e so_far
skip-marked w processors M p (suc d) shows were marked so_far =
    let e : p + suc d ≡ p + 1 + d = omega arith in
    subst (λ q. all_of_spus M ≡ from_actor M Spu q (length M.spes - q)) (sym e)
    (skip-marked w processors M (p + 1) d shows were (λ k low high. marked k (omega arith) (omega arith)) (skip-one w processors M p shows were (marked p (omega arith) (omega arith)) so_far))

pub skip-to : {memory : SharedMemory} {host : Progress} (w : Blocked) (processors : List Processor) (M : State) (p q : ℕ) → Shows processors memory host M → AreBlocked w processors
    → p ≤ q → ((k : ℕ) → p ≤ k → k < q → has_bit w.bits k ≡ true)
    → all_of_spus M ≡ from_actor M Spu p (length M.spes - p) → all_of_spus M ≡ from_actor M Spu q (length M.spes - q)
skip-to w processors M p q shows were low marked so_far =
    let e : p + (q - p) ≡ q = omega arith in
    subst (λ r. all_of_spus M ≡ from_actor M Spu r (length M.spes - r)) e (skip-marked w processors M p (q - p) shows were (λ k above below. marked k above (omega arith)) so_far)
