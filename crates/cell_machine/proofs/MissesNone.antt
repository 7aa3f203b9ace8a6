-- Each step that is allowed is among the allowed ones of its actor.
use Rattle.std.proofs.Common.{◌≡◌, ℕ, zero, suc, ◌<◌, ◌+◌, not, List, [], ◌∷◌, ◌++◌, map, length, arith, refl, sym, subst, ◌∙◌, ap, true, false, Bool, true≢false}
use Rattle.std.specs.Prelude.{slice_get, Option, Some, None, is_some, filter, flat_map, cond, Contains}
use Rattle.std.specs.List.{range_with_len}
use Rattle.std.specs.Option.{option_map_or}
use Rattle.cell_base.specs.declared.steps.Step.{Step}
use Rattle.cell_base.specs.declared.steps.Step.TheVariants.{Exec, Piece, Elem, Retire, Atomic, Host}
use Rattle.mfc_command.specs.declared.command.Command.{Command}
use Rattle.mfc_command.specs.Order.{outstanding as outstanding_of}
use Rattle.cell_machine.specs.declared.processor.Processor.{Processor}
use Rattle.cell_machine.specs.declared.memory.SharedMemory.{SharedMemory}
use Rattle.cell_machine.specs.Spe.{Spe}
use Rattle.cell_host.specs.Script.{Progress}
use Rattle.cell_machine.specs.State.{State}
use Rattle.cell_machine.specs.Moves.{outstanding, is_complete, present, parts_in}
use Rattle.cell_machine.specs.Transfers.{may_piece, may_elem, may_retire, has_part, has_element, is_left}
use Rattle.cell_machine.specs.Next.{next}
use Rattle.cell_machine.specs.Run.{steps_of, steps_of_mfc, steps_of_number, steps_of_command, pieces_of}
use Rattle.cell_machine.specs.Actors.{actor_of, MissesNone}
use Rattle.cell_machine.specs.Shows.{Shows}
use Rattle.cell_machine.proofs.SpeShown.{get-either, complete-no_part, complete-no_element, complete-not_left}
use Rattle.cell_machine.proofs.Same.{get-within}
use Rattle.cell_machine.proofs.Elements.{part-is}
use Rattle.cell_machine.proofs.Bounds.{may-is}
use Rattle.cell_machine.proofs.Choices.{next-piece, next-elem, next-retire, spe_elements, open_if}

-- ---- what a list has

later : {X : Type 0} (y x : X) (xs : List X) → Contains xs x → Contains (y ∷ xs) x
later y x xs h = (suc h.0, omega (arith, h.1), h.2)

has_left : {X : Type 0} (xs ys : List X) (x : X) → Contains xs x → Contains (xs ++ ys) x
has_left [] ys x (k, low, at) = absurd (omega arith)
has_left (y ∷ xs) ys x (zero, low, at) = (0, omega arith, at)
has_left (y ∷ xs) ys x (suc k, low, at) = later y x (xs ++ ys) (has_left xs ys x (k, omega arith, at))

has_right : {X : Type 0} (xs ys : List X) (x : X) → Contains ys x → Contains (xs ++ ys) x
has_right [] ys x h = h
has_right (y ∷ xs) ys x h = later y x (xs ++ ys) (has_right xs ys x h)

has_passed : {X : Type 0} (t : X → Bool) (xs : List X) (x : X) → t x ≡ true → Contains xs x → Contains (filter t xs) x
has_passed t [] x passes (k, low, at) = absurd (omega arith)
has_passed t (y ∷ xs) x passes (zero, low, at) =
    let here : t y ≡ true = subst (λ z. t z ≡ true) (sym at) passes in
    subst (λ b. Contains (cond b (y ∷ filter t xs) (filter t xs)) x) (sym here) (0, omega arith, at)
has_passed t (y ∷ xs) x passes (suc k, low, at) = on (t y) (has_passed t xs x passes (k, omega arith, at))
  where
    on : (b : Bool) → Contains (filter t xs) x → Contains (cond b (y ∷ filter t xs) (filter t xs)) x
    on true h = later y x (filter t xs) h
    on false h = h

has_mapped : {X Y : Type 0} (f : X → Y) (xs : List X) (x : X) → Contains xs x → Contains (map f xs) (f x)
has_mapped f [] x (k, low, at) = absurd (omega arith)
has_mapped f (y ∷ xs) x (zero, low, at) = (0, omega arith, ap f at)
has_mapped f (y ∷ xs) x (suc k, low, at) = later (f y) (f x) (map f xs) (has_mapped f xs x (k, omega arith, at))

has_inner : {X Y : Type 0} (f : X → List Y) (xs : List X) (x : X) (y : Y) → Contains xs x → Contains (f x) y → Contains (flat_map f xs) y
has_inner f [] x y (k, low, at) inner = absurd (omega arith)
has_inner f (z ∷ xs) x y (zero, low, at) inner = has_left (f z) (flat_map f xs) y (subst (λ w. Contains (f w) y) (sym at) inner)
has_inner f (z ∷ xs) x y (suc k, low, at) inner = has_right (f z) (flat_map f xs) y (has_inner f xs x y (k, omega arith, at) inner)

has_number : (a n k : ℕ) → k < n → Contains (range_with_len a n) (a + k)
has_number a zero k low = absurd (omega arith)
has_number a (suc n) zero low = (0, omega arith, omega arith)
has_number a (suc n) (suc k) low =
    let e : a + 1 + k ≡ a + suc k = omega arith in
    subst (Contains (range_with_len a (suc n))) e (later a (a + 1 + k) (range_with_len (a + 1) n) (has_number (a + 1) n k (omega arith)))

has_from_zero : (n k : ℕ) → k < n → Contains (range_with_len 0 n) k
has_from_zero n k low = let e : 0 + k ≡ k = omega arith in subst (Contains (range_with_len 0 n)) e (has_number 0 n k low)

-- ---- the steps of a flow controller

-- a command that isn't complete is outstanding
is_outstanding : (P : Spe) (c : ℕ) (d : Command) → slice_get P.moves.issued c ≡ Some d → is_complete P.moves c ≡ false → Contains (outstanding P) c
unfolding outstanding_of
is_outstanding P c d at open_yet = has_passed (λ j. not (is_complete P.moves j)) (range_with_len 0 (length P.moves.issued)) c (ap not open_yet) (has_from_zero (length P.moves.issued) c (get-within P.moves.issued c d at))

-- and its steps are among those of its flow controller
of_command : (M : State) (p : ℕ) (P : Spe) (c : ℕ) (d : Command) (s : Step) → slice_get M.spes p ≡ Some P → slice_get P.moves.issued c ≡ Some d → is_complete P.moves c ≡ false
    → Contains (steps_of_command p P.moves.read c d) s → Contains (option_map_or (steps_of_mfc p) (slice_get M.spes p) []) s
of_command M p P c d s at issued open_yet among =
    subst (λ o. Contains (option_map_or (steps_of_mfc p) o []) s) (sym at)
    (later (Atomic p) s (flat_map (steps_of_number p P) (outstanding P))
    (has_inner (steps_of_number p P) (outstanding P) c s (is_outstanding P c d issued open_yet)
    (subst (λ o. Contains (option_map_or (steps_of_command p P.moves.read c) o []) s) (sym issued) among)))

-- a step of a processor that isn't there is not allowed
absent : {X : Type 0} (Q : Type 0) (o : Option X) → o ≡ None → is_some o ≡ true → Q
absent Q o none some = absurd (true≢false (sym some ∙ ap is_some none))

of_piece : (M : State) (p c e k : ℕ) (P : Spe) → slice_get M.spes p ≡ Some P → may_piece P c e k ≡ true → Contains (option_map_or (steps_of_mfc p) (slice_get M.spes p) []) (Piece p c e k)
unfolding may_piece
of_piece M p c e k P at may =
    let is = may-is P c (has_part P.moves c e k) may in
    let of = part-is P.moves c e k is.0 is.2 in
    let open_yet = open_if (is_complete P.moves c) (has_part P.moves c e k is.0) is.2 (complete-no_part P.moves c e k is.0 is.1) in
    let pieces : Contains (pieces_of p c of.element) (Piece p c of.element.number k) = has_mapped (Piece p c of.element.number) (range_with_len 0 (parts_in of.element)) k (has_from_zero (parts_in of.element) k of.within) in
    let there : Contains (option_map_or (pieces_of p c) (present P.moves.read c is.0) []) (Piece p c e k) =
    subst (λ o. Contains (option_map_or (pieces_of p c) o []) (Piece p c e k)) (sym of.there) (subst (λ j. Contains (pieces_of p c of.element) (Piece p c j k)) of.number pieces) in
    let pieces_of_it = option_map_or (pieces_of p c) (present P.moves.read c is.0) [] in
    of_command M p P c is.0 (Piece p c e k) at is.1 open_yet (later (Elem p c) (Piece p c e k) (Retire p c ∷ pieces_of_it) (later (Retire p c) (Piece p c e k) pieces_of_it there))

of_elem : (M : State) (p c : ℕ) (P : Spe) → slice_get M.spes p ≡ Some P → ((d : Command) → slice_get P.moves.issued c ≡ Some d → has_element P.moves c d ≡ true → is_complete P.moves c ≡ false) → may_elem P c ≡ true
    → Contains (option_map_or (steps_of_mfc p) (slice_get M.spes p) []) (Elem p c)
unfolding may_elem
of_elem M p c P at open_yet may =
    let is = may-is P c (has_element P.moves c) may in
    of_command M p P c is.0 (Elem p c) at is.1 (open_yet is.0 is.1 is.2) (0, omega arith, refl)

of_retire : (M : State) (p c : ℕ) (P : Spe) → slice_get M.spes p ≡ Some P → may_retire P c ≡ true → Contains (option_map_or (steps_of_mfc p) (slice_get M.spes p) []) (Retire p c)
unfolding may_retire
of_retire M p c P at may =
    let is = may-is P c (is_left P.moves c) may in
    of_command M p P c is.0 (Retire p c) at is.1 (open_if (is_complete P.moves c) (is_left P.moves c is.0) is.2 (complete-not_left P.moves c is.0 is.1)) (1, omega arith, refl)

-- ---- all steps

among : {memory : SharedMemory} {host : Progress} (processors : List Processor) (M : State) (s : Step) → Shows processors memory host M → is_some (next M s) ≡ true → Contains (steps_of M (actor_of s)) s
among processors M (Exec p) shows some = (0, omega arith, refl)
among processors M (Piece p c e k) shows some =
    get-either M.spes p _ (λ none. absent _ (next M (Piece p c e k)) (rw none refl) some) (λ P at.
    of_piece M p c e k P at (sym (next-piece M p c e k P at) ∙ some))
among processors M (Elem p c) shows some =
    get-either M.spes p _ (λ none. absent _ (next M (Elem p c)) (rw none refl) some) (λ P at.
    of_elem M p c P at (λ d issued has. open_if (is_complete P.moves c) (has_element P.moves c d) has (complete-no_element P.moves c d (spe_elements processors M p P c d shows at issued) issued))
    (sym (next-elem M p c P at) ∙ some))
among processors M (Retire p c) shows some =
    get-either M.spes p _ (λ none. absent _ (next M (Retire p c)) (rw none refl) some) (λ P at.
    of_retire M p c P at (sym (next-retire M p c P at) ∙ some))
among processors M (Atomic p) shows some =
    get-either M.spes p _ (λ none. absent _ (next M (Atomic p)) (rw none refl) some) (λ P at.
    subst (λ o. Contains (option_map_or (steps_of_mfc p) o []) (Atomic p)) (sym at) (0, omega arith, refl))
among processors M Host shows some = (0, omega arith, refl)

pub misses_none : {memory : SharedMemory} {host : Progress} (processors : List Processor) (M : State) → Shows processors memory host M → MissesNone M
misses_none processors M shows s some = has_passed (λ t. is_some (next M t)) (steps_of M (actor_of s)) s some (among processors M s shows some)
