-- What a machine's chosen step says of its next.
use Rattle.std.proofs.Common.{◌≡◌, ℕ, zero, suc, ◌<◌, ◌+◌, ◌-◌, ◌%◌, Bool, List, [], ◌∷◌, length, arith, refl, sym, subst, ◌∙◌, ap, true, false, true≢false}
use Rattle.std.specs.Prelude.{Option, Some, None, is_some, IsSome, IsSomeAnd, IfSome, IfNone, MatchBool, nat_lt, slice_get, filter, cond, option_map}
use Rattle.std.specs.Option.{option_map_or}
use Rattle.std.proofs.lemmas.Bool.Decides.{nat_tests}
use Rattle.cell_base.specs.declared.steps.Actor.{Actor}
use Rattle.cell_base.specs.declared.steps.Actor.TheVariants.{Spu}
use Rattle.cell_base.specs.declared.steps.Step.{Step}
use Rattle.cell_base.specs.declared.steps.Step.TheVariants.{Exec}
use Rattle.cell_machine.specs.declared.processor.Processor.{Processor}
use Rattle.cell_host.specs.Script.{Progress}
use Rattle.cell_machine.specs.declared.memory.SharedMemory.{SharedMemory}
use Rattle.cell_machine.specs.State.{State}
use Rattle.cell_machine.specs.Next.{act, next, ended_by}
use Rattle.cell_machine.specs.Opening.{Opening}
use Rattle.cell_machine.specs.Run.{Ran, state_of, next_of, steps_of, allowed, picked, picked_of, first_allowed}
use Rattle.cell_machine.specs.Choices.{all_of_spus, allowed_of_queued, picked_queued, queued_of, steps_of_queued}
use Rattle.cell_machine.specs.Shows.{Shows, ShowsSpe, IsMachine}
use Rattle.cell_machine.proofs.AllTwo.{some_and, two_length}
use Rattle.cell_machine.proofs.Choices.{has_ended, first_allowed-allowed, no_next, allowed-spu, allowed-no_spu, pick_one, pick_none, from_actor, from-skip, from-found}

pub machine-replayed : {memory : SharedMemory} {host : Progress} (setup : Opening) (steps : List Step) (capacity : ℕ) (processors : List Processor) (m : Ran)
    → (is : IsMachine setup steps capacity processors memory host) → record { setup = setup; steps = steps } ≡ m → state_of m ≡ Some is.state
machine-replayed setup steps capacity processors m is view = subst (λ n. state_of n ≡ Some is.state) view is.replayed

pub next_of-within : (m : Ran) (M : State) (s : Step) → state_of m ≡ Some M → length m.steps < m.setup.budget → next_of m s ≡ next M s
next_of-within m M s stands within =
    let e : nat_lt (length m.steps) m.setup.budget ≡ true = grind (arith, nat_tests) in rw (e, stands) refl

pub made-allowed : (m : Ran) (M : State) (s t : Step) (Q : State → Type 0) → state_of m ≡ Some M → length m.steps < m.setup.budget → t ≡ s → IsSomeAnd (act M s) Q → IsSome (next_of m t)
made-allowed m M s t Q stands within same made =
    let here = some_and (act M s) Q made in
    ap is_some (next_of-within m M t stands within ∙ ap (next M) same ∙ ap (option_map (ended_by M s)) here.1)

pub any-allowed : (o : Option Step) (m : Ran) (M : State) → state_of m ≡ Some M → length m.steps < m.setup.budget → o ≡ first_allowed M → IfSome o (λ s. IsSome (next_of m s))
any-allowed None m M stands within first = tt
any-allowed (Some s) m M stands within first = ap is_some (next_of-within m M s stands within) ∙ first_allowed-allowed M s (sym first)

pub any-none : {memory : SharedMemory} {host : Progress} (o : Option Step) (processors : List Processor) (m : Ran) (M : State) → Shows processors memory host M → state_of m ≡ Some M → length m.steps < m.setup.budget → o ≡ first_allowed M → IfNone o ((s : Step) → next_of m s ≡ None)
any-none None processors m M shows stands within first = λ s. next_of-within m M s stands within ∙ has_ended processors M shows (sym first) s
any-none (Some s) processors m M shows stands within first = tt

-- what stands in a filtered list passes
passes-head : (t : Step → Bool) (x : Step) (xs : List Step) (k : ℕ) (s : Step) → ((i : ℕ) → slice_get (filter t xs) i ≡ Some s → t s ≡ true) → t x ≡ true → slice_get (x ∷ filter t xs) k ≡ Some s → t s ≡ true
passes-head t x xs zero s later e h = let same : x ≡ s = cc in subst (λ y. t y ≡ true) same e
passes-head t x xs (suc i) s later e h = later i h

passes-on : (t : Step → Bool) (x : Step) (xs : List Step) (k : ℕ) (s : Step) (b : Bool) → ((i : ℕ) → slice_get (filter t xs) i ≡ Some s → t s ≡ true) → t x ≡ b → slice_get (cond b (x ∷ filter t xs) (filter t xs)) k ≡ Some s → t s ≡ true
passes-on t x xs k s true later e h = passes-head t x xs k s later e h
passes-on t x xs k s false later e h = later k h

filter-passes : (t : Step → Bool) (xs : List Step) (k : ℕ) (s : Step) → slice_get (filter t xs) k ≡ Some s → t s ≡ true
filter-passes t [] k s h = absurd (cc)
filter-passes t (x ∷ xs) k s h = passes-on t x xs k s (t x) (λ i g. filter-passes t xs i s g) refl h

pub picked-is : (o : Option Step) (m : Ran) (M : State) (actor : Actor) (choice : ℕ) → state_of m ≡ Some M → length m.steps < m.setup.budget → o ≡ picked M actor choice → o ≡ picked_of m actor choice
picked-is o m M actor choice stands within is =
    let e : nat_lt (length m.steps) m.setup.budget ≡ true = grind (arith, nat_tests) in is ∙ sym (rw (e, stands) refl)

pub pick-allowed : (o : Option Step) (m : Ran) (M : State) (actor : Actor) (choice : ℕ) → state_of m ≡ Some M → length m.steps < m.setup.budget → o ≡ picked M actor choice → IfSome o (λ s. IsSome (next_of m s))
pick-allowed None m M actor choice stands within is = tt
pick-allowed (Some s) m M actor choice stands within is =
    ap is_some (next_of-within m M s stands within)
    ∙ filter-passes (λ t. is_some (next M t)) (steps_of M actor) (choice % length (allowed M actor)) s (sym is)

-- the same of a queued command
pub queued-is : (o : Option Step) (m : Ran) (M : State) (p i choice : ℕ) → state_of m ≡ Some M → length m.steps < m.setup.budget → o ≡ picked_queued M p i choice → o ≡ queued_of m p i choice
queued-is o m M p i choice stands within is =
    let e : nat_lt (length m.steps) m.setup.budget ≡ true = grind (arith, nat_tests) in is ∙ sym (rw (e, stands) refl)

pub queued-allowed : (o : Option Step) (m : Ran) (M : State) (p i choice : ℕ) → state_of m ≡ Some M → length m.steps < m.setup.budget → o ≡ picked_queued M p i choice → IfSome o (λ s. IsSome (next_of m s))
queued-allowed None m M p i choice stands within is = tt
queued-allowed (Some s) m M p i choice stands within is =
    ap is_some (next_of-within m M s stands within)
    ∙ filter-passes (λ t. is_some (next M t)) (option_map_or (steps_of_queued p i) (slice_get M.spes p) []) (choice % length (allowed_of_queued M p i)) s (sym is)

-- a step that is picked is allowed
pub picked-next : (M : State) (actor : Actor) (choice : ℕ) (s : Step) → picked M actor choice ≡ Some s → is_some (next M s) ≡ true
picked-next M actor choice s is = filter-passes (λ t. is_some (next M t)) (steps_of M actor) (choice % length (allowed M actor)) s is

-- and so is a step that was done
pub done-next : (M : State) (s : Step) (R : State → Type 0) → IsSomeAnd (act M s) R → is_some (next M s) ≡ true
done-next M s R did = let made = some_and (act M s) R did in ap (λ o. is_some (option_map (ended_by M s) o)) made.1

-- one that is allowed was done
pub done-is : (M : State) (s : Step) (R : State → Type 0) (did : Bool) → MatchBool did (IsSomeAnd (act M s) R) (act M s ≡ None) → is_some (next M s) ≡ true → did ≡ true
done-is M s R true did can = refl
done-is M s R false did can = absurd (true≢false (sym can ∙ no_next M s did))

-- an instruction that was made is the one step of its processor, and where it is refused there is none
pub made-picked : (M : State) (p choice : ℕ) (R : State → Type 0) → IsSomeAnd (act M (Exec p)) R → Some (Exec p) ≡ picked M (Spu p) choice
made-picked M p choice R did = sym (pick_one (allowed M (Spu p)) (Exec p) choice (allowed-spu M p (done-next M (Exec p) R did)))

pub refused-picked : (M : State) (p choice : ℕ) → act M (Exec p) ≡ None → None ≡ picked M (Spu p) choice
refused-picked M p choice none = sym (pick_none (allowed M (Spu p)) (choice % length (allowed M (Spu p))) (allowed-no_spu M p (no_next M (Exec p) none)))

-- none below has an allowed instruction, nor has this one, which was tried
pub tried-on : {memory : SharedMemory} {host : Progress} (processors : List Processor) (M : State) (p : ℕ) → Shows processors memory host M → p < length processors → act M (Exec p) ≡ None
    → all_of_spus M ≡ from_actor M Spu p (length M.spes - p) → all_of_spus M ≡ from_actor M Spu (p + 1) (length M.spes - (p + 1))
tried-on processors M p shows h none so_far =
    let same : length M.spes ≡ length processors = two_length ShowsSpe processors M.spes shows.spes in
    so_far ∙ from-skip M Spu p (length M.spes) (omega arith) (allowed-no_spu M p (no_next M (Exec p) none))

-- this one has
pub tried-found : {memory : SharedMemory} {host : Progress} (processors : List Processor) (M : State) (p : ℕ) (R : State → Type 0) → Shows processors memory host M → p < length processors → IsSomeAnd (act M (Exec p)) R
    → all_of_spus M ≡ from_actor M Spu p (length M.spes - p) → Some (Exec p) ≡ slice_get (all_of_spus M) 0
tried-found processors M p R shows h did so_far =
    let same : length M.spes ≡ length processors = two_length ShowsSpe processors M.spes shows.spes in
    sym (ap (λ xs. slice_get xs 0) so_far ∙ from-found M Spu p (length M.spes) (Exec p) (omega arith) (ap (λ xs. slice_get xs 0) (allowed-spu M p (done-next M (Exec p) R did))))
