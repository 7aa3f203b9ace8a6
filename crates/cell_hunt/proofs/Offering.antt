-- Each step that is offered is allowed.
use Rattle.std.proofs.Common.{◌≡◌, ℕ, zero, suc, ◌%◌, ap, refl, subst, List, [], ◌∷◌, ◌++◌, length}
use Rattle.std.specs.Prelude.{Option, Some, None, is_some, IsSome, nat_lt, Bool, true, false, filter, slice_get, if◌then◌else◌, option_to_list}
use Rattle.std.specs.Option.{option_and_then, option_map_or}
use Rattle.std.proofs.lemmas.List.Elements.{filter_passes}
use Rattle.std.proofs.lemmas.Option.{none-some, same_Some, slice_get_within, get_or_from_slice_get}
use Rattle.cell_base.specs.declared.steps.Actor.TheVariants.{Spu, Host as TheHost}
use Rattle.cell_base.specs.declared.steps.Step.{Step}
use Rattle.cell_base.specs.declared.steps.Step.TheVariants.{Exec, Atomic, Host}
use Rattle.cell_machine.specs.State.{State}
use Rattle.cell_machine.specs.Next.{next}
use Rattle.cell_machine.specs.Choices.{allowed_of_queued, picked_queued, queued_of, steps_of_queued}
use Rattle.cell_machine.specs.Run.{Ran, state_of, next_of, picked, picked_of}
use Rattle.cell_machine.proofs.Choices.{pick_none, pick_one}
use Rattle.cell_hunt.specs.Offers.{offered, offered_by, offered_by_first, offered_by_queue, offers, queue_length, IsGreatest}

abbrev AreAllowed : Ran → List Step → Type 0
AreAllowed m steps = (k : ℕ) (t : Step) → slice_get steps k ≡ Some t → is_some (next_of m t) ≡ true

none_allowed : (m : Ran) → AreAllowed m []
none_allowed m k t h = absurd (none-some t h)

both_allowed : (m : Ran) (xs ys : List Step) → AreAllowed m xs → AreAllowed m ys → AreAllowed m (xs ++ ys)
both_allowed m [] ys a b k t h = b k t h
both_allowed m (x ∷ xs) ys a b zero t h = a 0 t h
both_allowed m (x ∷ xs) ys a b (suc k) t h = both_allowed m xs ys (λ i u e. a (suc i) u e) b k t h

one_allowed : (m : Ran) (s : Step) → is_some (next_of m s) ≡ true → AreAllowed m (s ∷ [])
one_allowed m s yes_it k t h = at k h
  where
    at : (i : ℕ) → slice_get (s ∷ []) i ≡ Some t → is_some (next_of m t) ≡ true
    at zero e = subst (λ x. is_some (next_of m x) ≡ true) (same_Some s t e) yes_it
    at (suc i) e = absurd (none-some t e)

offered_allowed : (m : Ran) (s : Step) → AreAllowed m (offered m s)
offered_allowed m s = on (is_some (next_of m s)) refl
  where
    on : (o : Bool) → is_some (next_of m s) ≡ o → AreAllowed m (if o then s ∷ [] else [])
    on true e = one_allowed m s e
    on false e = none_allowed m

passes : (M : State) (p i word : ℕ) (s : Step) → picked_queued M p i word ≡ Some s → is_some (next M s) ≡ true
passes M p i word s e =
    let xs = allowed_of_queued M p i in
    let k = word % length xs in
    let inside = slice_get_within xs k s e in
    let at = get_or_from_slice_get xs k s s e in
    let passed = filter_passes (λ x. is_some (next M x)) (option_map_or (steps_of_queued p i) (slice_get M.spes p) []) k s inside in
    subst (λ x. is_some (next M x) ≡ true) at passed

passes_under : (under : Bool) (o : Option State) (p i word : ℕ) (s : Step) → (if under then option_and_then (λ M. picked_queued M p i word) o else None) ≡ Some s
    → is_some (if under then option_and_then (λ M. next M s) o else None) ≡ true
passes_under true (Some M) p i word s e = passes M p i word s e
passes_under true None p i word s e = absurd (none-some s e)
passes_under false o p i word s e = absurd (none-some s e)

picked_allowed : (m : Ran) (p i word : ℕ) → AreAllowed m (option_to_list (queued_of m p i word))
picked_allowed m p i word = on (queued_of m p i word) refl
  where
    on : (o : Option Step) → queued_of m p i word ≡ o → AreAllowed m (option_to_list o)
    on None e = none_allowed m
    on (Some s) e = one_allowed m s (passes_under (nat_lt (length m.steps) m.setup.budget) (state_of m) p i word s e)

queue_allowed : (m : Ran) (word p n : ℕ) → AreAllowed m (offered_by_queue m word p n)
unfolding offered_by_queue
queue_allowed m word p zero = none_allowed m
queue_allowed m word p (suc n) = both_allowed m (offered_by_queue m word p n) (option_to_list (queued_of m p n word)) (queue_allowed m word p n) (picked_allowed m p n word)

by_allowed : (m : Ran) (word p : ℕ) → AreAllowed m (offered_by m word p)
by_allowed m word p =
    both_allowed m (offered m (Exec p) ++ offered m (Atomic p)) (offered_by_queue m word p (queue_length m p))
    (both_allowed m (offered m (Exec p)) (offered m (Atomic p)) (offered_allowed m (Exec p)) (offered_allowed m (Atomic p))) (queue_allowed m word p (queue_length m p))

first_allowed : (m : Ran) (word n : ℕ) → AreAllowed m (offered_by_first m word n)
unfolding offered_by_first
first_allowed m word zero = none_allowed m
first_allowed m word (suc n) = both_allowed m (offered_by_first m word n) (offered_by m word n) (first_allowed m word n) (by_allowed m word n)

pub greatest-allowed : (m : Ran) (word : ℕ) (key : Step → ℕ) (s : Step) → IsGreatest key (offers m word) s → IsSome (next_of m s)
greatest-allowed m word key s best =
    both_allowed m (offered_by_first m word (length m.setup.entries)) (offered m Host) (first_allowed m word (length m.setup.entries)) (offered_allowed m Host) best.index s best.is

-- ---- what a pick says of an instruction, and of the host's action

pick_alone : (M : State) (xs : List Step) (s : Step) → xs ≡ s ∷ [] → is_some (slice_get (filter (λ t. is_some (next M t)) xs) (0 % length (filter (λ t. is_some (next M t)) xs))) ≡ is_some (next M s)
pick_alone M xs s e = on (is_some (next M s)) refl
  where
    on : (o : Bool) → is_some (next M s) ≡ o → is_some (slice_get (filter (λ t. is_some (next M t)) xs) (0 % length (filter (λ t. is_some (next M t)) xs))) ≡ o
    on true h = ap is_some (pick_one (filter (λ t. is_some (next M t)) xs) s 0 (rw e (rw h refl)))
    on false h = ap is_some (pick_none (filter (λ t. is_some (next M t)) xs) (0 % length (filter (λ t. is_some (next M t)) xs)) (rw e (rw h refl)))

pub pick-exec : (m : Ran) (p : ℕ) → is_some (picked_of m (Spu p) 0) ≡ is_some (next_of m (Exec p))
pick-exec m p = on (nat_lt (length m.steps) m.setup.budget) (state_of m)
  where
    on : (under : Bool) (o : Option State) → is_some (if under then option_and_then (λ M. picked M (Spu p) 0) o else None) ≡ is_some (if under then option_and_then (λ M. next M (Exec p)) o else None)
    on true (Some M) = pick_alone M (Exec p ∷ []) (Exec p) refl
    on true None = refl
    on false o = refl

pub pick-host : (m : Ran) → is_some (picked_of m TheHost 0) ≡ is_some (next_of m Host)
pick-host m = on (nat_lt (length m.steps) m.setup.budget) (state_of m)
  where
    on : (under : Bool) (o : Option State) → is_some (if under then option_and_then (λ M. picked M TheHost 0) o else None) ≡ is_some (if under then option_and_then (λ M. next M Host) o else None)
    on true (Some M) = pick_alone M (Host ∷ []) Host refl
    on true None = refl
    on false o = refl
