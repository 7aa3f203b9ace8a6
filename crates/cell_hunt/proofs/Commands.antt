-- All steps of a queued command have one key.
use Rattle.std.proofs.Common.{◌≡◌, ℕ, zero, suc, ap, refl, sym, subst, ◌∙◌, List, [], ◌∷◌, length}
use Rattle.std.specs.Prelude.{Option, Some, None, IsSomeAnd, Bool, true, false, filter, map, cond, nat_lt, slice_get, ◌%◌, if◌then◌else◌, option_to_list, ◌++◌}
use Rattle.std.specs.List.{range_with_len}
use Rattle.std.specs.Option.{option_and_then, option_map_or}
use Rattle.std.proofs.lemmas.Option.{none-some, same_Some}
use Rattle.cell_base.specs.declared.steps.Step.{Step}
use Rattle.cell_base.specs.declared.steps.Step.TheVariants.{Exec, Piece, Elem, Retire, Atomic, Host}
use Rattle.mfc_command.specs.declared.command.Command.{Command}
use Rattle.cell_machine.specs.Spe.{Spe}
use Rattle.cell_machine.specs.State.{State}
use Rattle.cell_machine.specs.Moves.{outstanding, parts_in, present}
use Rattle.cell_machine.specs.Choices.{allowed_of_queued, picked_queued, queued_of, steps_of_queued}
use Rattle.cell_machine.specs.Run.{Ran, pieces_of, spe_of, state_of, steps_of_number}
use Rattle.cell_hunt.specs.Keys.{RunKeys}
use Rattle.cell_hunt.specs.declared.offers.Keyed.{Keyed}
use Rattle.cell_hunt.specs.declared.strategy.Strategy.{Strategy}
use Rattle.cell_hunt.specs.Bests.{IsBestOf, is_beaten}
use Rattle.cell_hunt.specs.Choices.{key_of}
use Rattle.cell_hunt.proofs.Bests.{best-more, best-same, step-beaten, step-best}

-- a step of command c of processor p
abbrev IsStepOf : ℕ → ℕ → Step → Type 0
IsStepOf p c (Piece q d e k) = (q ≡ p) × (d ≡ c)
IsStepOf p c (Elem q d) = (q ≡ p) × (d ≡ c)
IsStepOf p c (Retire q d) = (q ≡ p) × (d ≡ c)
IsStepOf p c (Exec q) = ⊥
IsStepOf p c (Atomic q) = ⊥
IsStepOf p c Host = ⊥

key-same : (m : Ran) (strategy : Strategy) (keys : RunKeys) (p c : ℕ) (s : Step) → IsStepOf p c s → key_of m strategy keys s ≡ key_of m strategy keys (Retire p c)
key-same m strategy keys p c (Piece q d e k) of = ap (λ x. key_of m strategy keys (Retire x d)) of.0 ∙ ap (λ x. key_of m strategy keys (Retire p x)) of.1
key-same m strategy keys p c (Elem q d) of = ap (λ x. key_of m strategy keys (Retire x d)) of.0 ∙ ap (λ x. key_of m strategy keys (Retire p x)) of.1
key-same m strategy keys p c (Retire q d) of = ap (λ x. key_of m strategy keys (Retire x d)) of.0 ∙ ap (λ x. key_of m strategy keys (Retire p x)) of.1
key-same m strategy keys p c (Exec q) of = absurd of
key-same m strategy keys p c (Atomic q) of = absurd of
key-same m strategy keys p c Host of = absurd of

filter-more : (t : Step → Bool) (Q : Step → Type 0) (x : Step) (xs : List Step) (b : Bool) (k : ℕ) (s : Step) → Q x → ((i : ℕ) → slice_get (filter t xs) i ≡ Some s → Q s) → slice_get (cond b (x ∷ filter t xs) (filter t xs)) k ≡ Some s → Q s
filter-more t Q x xs true zero s first later h = subst Q (same_Some x s h) first
filter-more t Q x xs true (suc i) s first later h = later i h
filter-more t Q x xs false k s first later h = later k h

filter-all : (t : Step → Bool) (Q : Step → Type 0) (xs : List Step) → ((k : ℕ) (s : Step) → slice_get xs k ≡ Some s → Q s) → (k : ℕ) (s : Step) → slice_get (filter t xs) k ≡ Some s → Q s
filter-all t Q [] all k s h = absurd (none-some s h)
filter-all t Q (x ∷ xs) all k s h = filter-more t Q x xs (t x) k s (all zero x refl) (λ i g. filter-all t Q xs (λ j r at. all (suc j) r at) i s g) h

piece-of : (p c e : ℕ) (numbers : List ℕ) (k : ℕ) (s : Step) → slice_get (map (Piece p c e) numbers) k ≡ Some s → IsStepOf p c s
piece-of p c e [] k s h = absurd (none-some s h)
piece-of p c e (n ∷ numbers) zero s h = subst (IsStepOf p c) (same_Some (Piece p c e n) s h) (refl, refl)
piece-of p c e (n ∷ numbers) (suc k) s h = piece-of p c e numbers k s h

step-of : (p : ℕ) (P : Spe) (c k : ℕ) (s : Step) → slice_get (steps_of_number p P c) k ≡ Some s → IsStepOf p c s
step-of p P c k s h = on (slice_get P.moves.issued c) h
  where
    some-of : {A : Type 0} (f : A → List Step) → ((x : A) (i : ℕ) → slice_get (f x) i ≡ Some s → IsStepOf p c s) → (o : Option A) (i : ℕ) → slice_get (option_map_or f o []) i ≡ Some s → IsStepOf p c s
    some-of f all None i g = absurd (none-some s g)
    some-of f all (Some x) i g = all x i g

    in_command : (d : Command) (i : ℕ) → slice_get (Elem p c ∷ Retire p c ∷ option_map_or (pieces_of p c) (present P.moves.read c d) []) i ≡ Some s → IsStepOf p c s
    in_command d zero g = subst (IsStepOf p c) (same_Some (Elem p c) s g) (refl, refl)
    in_command d (suc zero) g = subst (IsStepOf p c) (same_Some (Retire p c) s g) (refl, refl)
    in_command d (suc (suc i)) g = some-of (pieces_of p c) (λ x j at. piece-of p c x.number (range_with_len 0 (parts_in x)) j s at) (present P.moves.read c d) i g

    on : (o : Option Command) → slice_get (option_map_or (λ d. Elem p c ∷ Retire p c ∷ option_map_or (pieces_of p c) (present P.moves.read c d) []) o []) k ≡ Some s → IsStepOf p c s
    on None g = absurd (none-some s g)
    on (Some d) g = in_command d k g

-- the command that a picked step is of
record IsOf (p : ℕ) (number : Option ℕ) (s : Step) : Type 0 where
  command : ℕ
  is : number ≡ Some command
  step : IsStepOf p command s

queued-in : (p i : ℕ) (P : Spe) (t : Step → Bool) (k : ℕ) (s : Step) → slice_get (filter t (steps_of_queued p i P)) k ≡ Some s → IsOf p (slice_get (outstanding P) i) s
queued-in p i P t k s h = on (slice_get (outstanding P) i) h
  where
    on : (o : Option ℕ) → slice_get (filter t (option_map_or (steps_of_number p P) o [])) k ≡ Some s → IsOf p o s
    on None g = absurd (none-some s g)
    on (Some c) g = record { command = c; is = refl; step = filter-all t (IsStepOf p c) (steps_of_number p P c) (λ j r at. step-of p P c j r at) k s g }

queued-of : (m : Ran) (p i word : ℕ) (number : Option ℕ) (s : Step) → IsSomeAnd (spe_of m p) (λ P. number ≡ slice_get (outstanding P) i) → queued_of m p i word ≡ Some s → IsOf p number s
queued-of m p i word number s here h = on (nat_lt (length m.steps) m.setup.budget) (state_of m) here h
  where
    of_spe : (M : State) (o : Option Spe) (t : Step → Bool) (k : ℕ) → IsSomeAnd o (λ P. number ≡ slice_get (outstanding P) i)
        → slice_get (filter t (option_map_or (steps_of_queued p i) o [])) k ≡ Some s → IsOf p number s
    of_spe M None t k is g = absurd is
    of_spe M (Some P) t k is g = subst (λ o. IsOf p o s) (sym is) (queued-in p i P t k s g)

    on : (b : Bool) (o : Option State) → IsSomeAnd (option_and_then (λ M. slice_get M.spes p) o) (λ P. number ≡ slice_get (outstanding P) i)
        → (if b then option_and_then (λ M. picked_queued M p i word) o else None) ≡ Some s → IsOf p number s
    on true None is g = absurd is
    on true (Some M) is g = of_spe M (slice_get M.spes p) _ (word % length (allowed_of_queued M p i)) is g
    on false o is g = absurd (none-some s g)

-- ---- the best with the steps of one command more

pub command-none : (m : Ran) (p i word : ℕ) (number : Option ℕ) → IsSomeAnd (spe_of m p) (λ P. number ≡ slice_get (outstanding P) i) → number ≡ None → queued_of m p i word ≡ None
command-none m p i word number here none = on (queued_of m p i word) refl
  where
    on : (o : Option Step) → queued_of m p i word ≡ o → o ≡ None
    on None e = refl
    on (Some s) e = let of = queued-of m p i word number s here e in absurd (none-some of.command (sym none ∙ of.is))

key-of : (m : Ran) (strategy : Strategy) (keys : RunKeys) (p i word c : ℕ) (number : Option ℕ) (s : Step) → IsSomeAnd (spe_of m p) (λ P. number ≡ slice_get (outstanding P) i) → number ≡ Some c → queued_of m p i word ≡ Some s
    → key_of m strategy keys (Retire p c) ≡ key_of m strategy keys s
key-of m strategy keys p i word c number s here some picked =
    let of = queued-of m p i word number s here picked in
    let same : of.command ≡ c = same_Some of.command c (sym of.is ∙ some) in
    sym (key-same m strategy keys p c s (subst (λ n. IsStepOf p n s) same of.step))

pub command-beaten : (m : Ran) (strategy : Strategy) (keys : RunKeys) (p i word c k : ℕ) (number : Option ℕ) (xs : List Step) (best : Option Keyed)
    → IsSomeAnd (spe_of m p) (λ P. number ≡ slice_get (outstanding P) i) → number ≡ Some c → k ≡ key_of m strategy keys (Retire p c) → is_beaten k best ≡ true
    → IsBestOf (key_of m strategy keys) xs best → IsBestOf (key_of m strategy keys) (xs ++ option_to_list (queued_of m p i word)) best
command-beaten m strategy keys p i word c k number xs best here some is beaten so_far = on (queued_of m p i word) refl
  where
    key : Step → ℕ
    key = key_of m strategy keys

    on : (o : Option Step) → queued_of m p i word ≡ o → IsBestOf key (xs ++ option_to_list (queued_of m p i word)) best
    on None e = best-same key xs (option_to_list (queued_of m p i word)) best (ap option_to_list e) so_far
    on (Some s) e =
        best-more key xs (option_to_list (queued_of m p i word)) s best (ap option_to_list e)
        (step-beaten key xs best s k (is ∙ key-of m strategy keys p i word c number s here some e) beaten so_far)

pub command-best : (m : Ran) (strategy : Strategy) (keys : RunKeys) (p i word c k : ℕ) (number : Option ℕ) (xs : List Step) (best : Option Keyed) (s : Step)
    → IsSomeAnd (spe_of m p) (λ P. number ≡ slice_get (outstanding P) i) → number ≡ Some c → k ≡ key_of m strategy keys (Retire p c) → is_beaten k best ≡ false → queued_of m p i word ≡ Some s
    → IsBestOf (key_of m strategy keys) xs best → IsBestOf (key_of m strategy keys) (xs ++ option_to_list (queued_of m p i word)) (Some (record { key = k; step = s }))
command-best m strategy keys p i word c k number xs best s here some is beaten picked so_far =
    let key = key_of m strategy keys in
    best-more key xs (option_to_list (queued_of m p i word)) s (Some (record { key = k; step = s })) (ap option_to_list picked)
    (step-best key xs best s k (is ∙ key-of m strategy keys p i word c number s here some picked) beaten so_far)

pub command-kept : (m : Ran) (strategy : Strategy) (keys : RunKeys) (p i word : ℕ) (xs : List Step) (best : Option Keyed) → queued_of m p i word ≡ None
    → IsBestOf (key_of m strategy keys) xs best → IsBestOf (key_of m strategy keys) (xs ++ option_to_list (queued_of m p i word)) best
command-kept m strategy keys p i word xs best none so_far = best-same (key_of m strategy keys) xs (option_to_list (queued_of m p i word)) best (ap option_to_list none) so_far
