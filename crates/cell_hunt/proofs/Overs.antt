-- Where nobody has a step, none is allowed; and each step that is offered is allowed.
use Rattle.std.proofs.Common.{◌≡◌, ℕ, zero, suc, ◌+◌, ◌%◌, ◌<◌, ◌≤◌, ap, refl, sym, ◌∙◌, arith, List, [], ◌∷◌, ◌++◌, length, append_assoc, inl, inr}
use Rattle.std.specs.Prelude.{Option, Some, None, is_some, IsSomeAnd, nat_lt, Bool, true, false, map, filter, flat_map, slice_get, if◌then◌else◌, cond, option_to_list}
use Rattle.std.specs.List.{range_with_len}
use Rattle.std.specs.Option.{option_and_then, option_map_or}
use Rattle.std.proofs.lemmas.Nat.{mod_below}
use Rattle.std.proofs.lemmas.Bool.{cases_lt}
use Rattle.std.proofs.lemmas.Option.{slice_get-get_or, slice_get_within}
use Rattle.std.proofs.lemmas.Bool.Decides.{nat_tests}
use Rattle.cell_base.specs.declared.steps.Actor.{Actor}
use Rattle.cell_base.specs.declared.steps.Actor.TheVariants.{Spu, Mfc, Host as TheHost}
use Rattle.cell_base.specs.declared.steps.Step.{Step}
use Rattle.cell_base.specs.declared.steps.Step.TheVariants.{Exec, Atomic, Host}
use Rattle.cell_machine.specs.Spe.{Spe}
use Rattle.cell_machine.specs.State.{State}
use Rattle.cell_machine.specs.Moves.{outstanding}
use Rattle.cell_machine.specs.Next.{next}
use Rattle.cell_machine.specs.Choices.{allowed_of_queued, picked_queued, queued_of, steps_of_queued}
use Rattle.cell_machine.specs.Run.{Ran, state_of, next_of, spe_of, allowed, actors, first_of, first_allowed, steps_of_mfc, steps_of_number}
use Rattle.cell_hunt.specs.Ends.{IsOver}
use Rattle.cell_hunt.specs.Offers.{offered, offered_by, offered_by_first, offered_by_queue, offers, queue_length}

-- ---- lists

none≢some : (x : Step) → None ≡ Some x → ⊥
none≢some x e = cc

pub empty_of : (xs : List Step) (choice : ℕ) → slice_get xs (choice % length xs) ≡ None → xs ≡ []
empty_of [] choice e = refl
empty_of (x ∷ xs) choice e =
    absurd (none≢some _ (sym e ∙ slice_get-get_or (x ∷ xs) (choice % length (x ∷ xs)) x (mod_below choice (length (x ∷ xs)) (omega arith))))

nil_both : (xs ys : List Step) → xs ++ ys ≡ [] → (xs ≡ []) × (ys ≡ [])
nil_both [] ys e = (refl, e)
nil_both (x ∷ xs) ys e = absurd (cc)

flat_none : (F : Actor → List Step) (g : ℕ → Actor) (n a : ℕ) (rest : List Actor) → ((k : ℕ) → a ≤ k → k < a + n → F (g k) ≡ []) → flat_map F (map g (range_with_len a n) ++ rest) ≡ flat_map F rest
flat_none F g zero a rest none = refl
flat_none F g (suc n) a rest none =
    let here : F (g a) ≡ [] = none a (omega arith) (omega arith) in
    let more = flat_none F g n (a + 1) rest (λ k low high. none k (omega arith) (omega arith)) in
    ap (λ xs. xs ++ flat_map F (map g (range_with_len (a + 1) n) ++ rest)) here ∙ more

filter_both : (t : Step → Bool) (xs ys : List Step) → filter t xs ≡ [] → filter t ys ≡ [] → filter t (xs ++ ys) ≡ []
filter_both t [] ys a b = b
filter_both t (x ∷ xs) ys a b = on (t x) refl a (λ h. filter_both t xs ys h b)
  where
    on : (o : Bool) → t x ≡ o → cond o (x ∷ filter t xs) (filter t xs) ≡ [] → (filter t xs ≡ [] → filter t (xs ++ ys) ≡ []) → cond (t x) (x ∷ filter t (xs ++ ys)) (filter t (xs ++ ys)) ≡ []
    on true e h more = absurd (cc)
    on false e h more = rw e (more h)

filter_flat : (t : Step → Bool) (f : ℕ → List Step) (cs : List ℕ) → ((i c : ℕ) → slice_get cs i ≡ Some c → filter t (f c) ≡ []) → filter t (flat_map f cs) ≡ []
filter_flat t f [] none = refl
filter_flat t f (c ∷ cs) none = filter_both t (f c) (flat_map f cs) (none 0 c refl) (filter_flat t f cs (λ i d at. none (suc i) d at))

-- ---- nobody has a step

-- a state and a budget that isn't spent
pub next_in : (m : Ran) (M : State) (s : Step) → state_of m ≡ Some M → nat_lt (length m.steps) m.setup.budget ≡ true → next_of m s ≡ next M s
next_in m M s stands within = rw (within, stands) refl

offered_none : (m : Ran) (s : Step) → offered m s ≡ [] → is_some (next_of m s) ≡ false
offered_none m s e = on (is_some (next_of m s)) refl
  where
    on : (o : Bool) → is_some (next_of m s) ≡ o → o ≡ false
    on true h = absurd (let one : offered m s ≡ s ∷ [] = rw h refl in cc)
    on false h = refl

queue_none : (m : Ran) (word p n i : ℕ) → offered_by_queue m word p n ≡ [] → i < n → queued_of m p i word ≡ None
unfolding offered_by_queue
queue_none m word p zero i e inside = absurd (omega arith)
queue_none m word p (suc n) i e inside =
    let both = nil_both (offered_by_queue m word p n) (option_to_list (queued_of m p n word)) e in
    elim (cases_lt i n) [
      | inl below ↦ queue_none m word p n i both.0 below
      | inr above ↦ (let same : i ≡ n = omega arith in ap (λ k. queued_of m p k word) same ∙ empty (queued_of m p n word) both.1)
    ]
  where
    empty : (o : Option Step) → option_to_list o ≡ [] → o ≡ None
    empty None h = refl
    empty (Some s) h = absurd (cc)

first_none : (m : Ran) (word n p : ℕ) → offered_by_first m word n ≡ [] → p < n → offered_by m word p ≡ []
unfolding offered_by_first
first_none m word zero p e inside = absurd (omega arith)
first_none m word (suc n) p e inside =
    let both = nil_both (offered_by_first m word n) (offered_by m word n) e in
    elim (cases_lt p n) [
      | inl below ↦ first_none m word n p both.0 below
      | inr above ↦ (let same : p ≡ n = omega arith in ap (offered_by m word) same ∙ both.1)
    ]

-- in a state under the budget, which the machine of the run has
record Stands (m : Ran) (M : State) : Type 0 where
  is : state_of m ≡ Some M
  within : nat_lt (length m.steps) m.setup.budget ≡ true
  count : length M.spes ≡ length m.setup.entries

not_next : (m : Ran) (M : State) (s : Step) → Stands m M → offered m s ≡ [] → is_some (next M s) ≡ false
not_next m M s at none = ap is_some (sym (next_in m M s at.is at.within)) ∙ offered_none m s none

alone_none : (M : State) (s : Step) → is_some (next M s) ≡ false → filter (λ t. is_some (next M t)) (s ∷ []) ≡ []
alone_none M s h = rw h refl

-- the steps of a command by its index
command_none : (m : Ran) (M : State) (word p i c : ℕ) (P : Spe) → Stands m M → slice_get M.spes p ≡ Some P → slice_get (outstanding P) i ≡ Some c → queued_of m p i word ≡ None
    → filter (λ t. is_some (next M t)) (steps_of_number p P c) ≡ []
command_none m M word p i c P at spe there none =
    let within = at.within in
    let is = at.is in
    let picks : picked_queued M p i word ≡ None = sym (queued_is within is) ∙ none in
    let all : allowed_of_queued M p i ≡ filter (λ t. is_some (next M t)) (steps_of_number p P c) =
    ap (λ o. filter (λ s. is_some (next M s)) (option_map_or (steps_of_queued p i) o [])) spe ∙ ap (λ o. filter (λ s. is_some (next M s)) (option_map_or (steps_of_number p P) o [])) there in
    sym all ∙ empty_of (allowed_of_queued M p i) word picks
  where
    queued_is : nat_lt (length m.steps) m.setup.budget ≡ true → state_of m ≡ Some M → queued_of m p i word ≡ picked_queued M p i word
    queued_is within is = rw (within, is) refl

controller_none : (m : Ran) (M : State) (word p : ℕ) (P : Spe) → Stands m M → slice_get M.spes p ≡ Some P → offered m (Atomic p) ≡ [] → offered_by_queue m word p (queue_length m p) ≡ [] → allowed M (Mfc p) ≡ []
controller_none m M word p P at spe atomic queue =
    let is = at.is in
    let count : queue_length m p ≡ length (outstanding P) = ap (λ o. option_map_or (λ (Q : Spe). length (outstanding Q)) o 0) (spe_is is) in
    ap (λ o. filter (λ s. is_some (next M s)) (option_map_or (steps_of_mfc p) o [])) spe
    ∙ first_off (flat_map (steps_of_number p P) (outstanding P)) (not_next m M (Atomic p) at atomic) (filter_flat (λ t. is_some (next M t)) (steps_of_number p P) (outstanding P) (λ i c there.
    command_none m M word p i c P at spe there (queue_none m word p (queue_length m p) i queue (let l = slice_get_within (outstanding P) i c there in omega (arith, l, count)))))
  where
    spe_is : state_of m ≡ Some M → spe_of m p ≡ Some P
    spe_is is = ap (λ o. option_and_then (λ (N : State). slice_get N.spes p) o) is ∙ spe

    first_off : (xs : List Step) → is_some (next M (Atomic p)) ≡ false → filter (λ s. is_some (next M s)) xs ≡ [] → filter (λ s. is_some (next M s)) (Atomic p ∷ xs) ≡ []
    first_off xs off rest = rw (off, rest) refl

get_some : (spes : List Spe) (p : ℕ) → p < length spes → (P : Spe) × (slice_get spes p ≡ Some P)
get_some [] p inside = absurd (omega arith)
get_some (P ∷ spes) zero inside = (P, refl)
get_some (P ∷ spes) (suc p) inside = get_some spes p (omega arith)

all_none : (m : Ran) (M : State) (word : ℕ) → Stands m M → offers m word ≡ [] → flat_map (allowed M) (actors M) ≡ []
all_none m M word at none =
    let n = length M.spes in
    let count = at.count in
    let both = nil_both (offered_by_first m word (length m.setup.entries)) (offered m Host) none in
    let of : (p : ℕ) → p < n → offered_by m word p ≡ [] = λ p inside. first_none m word (length m.setup.entries) p both.0 (omega (arith, inside, count)) in
    let spus : (p : ℕ) → 0 ≤ p → p < 0 + n → allowed M (Spu p) ≡ [] = λ p low high.
    alone_none M (Exec p) (not_next m M (Exec p) at (single_none p (of p (omega (arith, high)))).0) in
    let mfcs : (p : ℕ) → 0 ≤ p → p < 0 + n → allowed M (Mfc p) ≡ [] = λ p low high.
    (let parts = nil_both (offered m (Exec p) ++ offered m (Atomic p)) (offered_by_queue m word p (queue_length m p)) (of p (omega (arith, high))) in
    let there = get_some M.spes p (omega (arith, high)) in
    controller_none m M word p there.0 at there.1 (single_none p (of p (omega (arith, high)))).1 parts.1) in
    let host : allowed M TheHost ≡ [] = alone_none M Host (not_next m M Host at both.1) in
    let parts = append_assoc (map Spu (range_with_len 0 n)) (map Mfc (range_with_len 0 n)) (TheHost ∷ []) in
    ap (flat_map (allowed M)) parts
    ∙ flat_none (allowed M) Spu n 0 (map Mfc (range_with_len 0 n) ++ TheHost ∷ []) spus
    ∙ flat_none (allowed M) Mfc n 0 (TheHost ∷ []) mfcs
    ∙ ap (λ xs. xs ++ []) host
  where
    single_none : (p : ℕ) → offered_by m word p ≡ [] → (offered m (Exec p) ≡ []) × (offered m (Atomic p) ≡ [])
    single_none p e = nil_both (offered m (Exec p)) (offered m (Atomic p)) (nil_both (offered m (Exec p) ++ offered m (Atomic p)) (offered_by_queue m word p (queue_length m p)) e).0

pub first-none : (m : Ran) (word : ℕ) → IsSomeAnd (state_of m) (λ M. length M.spes ≡ length m.setup.entries) → offers m word ≡ [] → first_of m ≡ None
first-none m word some none = on (nat_lt (length m.steps) m.setup.budget) (state_of m) refl refl some
  where
    on : (under : Bool) (o : Option State) → nat_lt (length m.steps) m.setup.budget ≡ under → state_of m ≡ o → IsSomeAnd o (λ M. length M.spes ≡ length m.setup.entries)
        → (if under then option_and_then first_allowed o else None) ≡ None
    on true (Some M) within is count = ap (λ xs. slice_get xs 0) (all_none m M word (record { is = is; within = within; count = count }) none)
    on true None within is count = refl
    on false o within is count = refl

pub over-spent : (m : Ran) → m.setup.budget ≤ length m.steps → IsOver m
over-spent m spent s =
    let test : nat_lt (length m.steps) m.setup.budget ≡ false = grind (arith, nat_tests) in
    rw test refl
