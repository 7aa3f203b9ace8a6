-- The end word is decided by the steps that can come to be made: each state within its budget has one.
use Rattle.std.proofs.Common.{◌≡◌, ℕ, zero, suc, ◌+◌, ◌<◌, ◌≤◌, Bool, true, false, not, ◌&&◌, List, [], ◌∷◌, ◌++◌, length, map, Option, Some, None, refl, sym, ap, subst, cond, arith}
use Rattle.std.specs.Prelude.{nat_lt, is_some, is_none, IsSome, slice_get, ◌≢◌, ◌==◌}
use Rattle.std.specs.Option.{option_map_or}
use Rattle.std.specs.List.{flat_map, list_all, range_with_len}
use Rattle.std.proofs.lemmas.Bool.Decides.{nat_tests}
use Rattle.cell_base.specs.declared.steps.Step.{Step}
use Rattle.cell_base.specs.declared.steps.Step.TheVariants.{Exec, Piece, Elem, Retire, Atomic, Host}
use Rattle.cell_machine.specs.declared.status.End.{End}
use Rattle.cell_machine.specs.declared.status.End.TheVariants.{AllStopped, Stuck, Budget}
use Rattle.cell_machine.specs.Spe.{Spe}
use Rattle.cell_machine.specs.State.{State}
use Rattle.cell_machine.specs.Moves.{present}
use Rattle.cell_machine.specs.Next.{next}
use Rattle.cell_machine.specs.Transfers.{may_piece, may_elem, may_retire, has_part, has_element, is_left}
use Rattle.cell_machine.specs.Run.{IsEnd, HasEnded, CanGoOn, is_quiet, steps_of_number, steps_of_command, pieces_of}
use Rattle.cell_machine.proofs.Bounds.{may-is}
use Rattle.cell_machine.proofs.Choices.{next-piece, next-elem, next-retire}
use Rattle.cell_machine.proofs.Elements.{part-is}
use Rattle.cell_machine.proofs.Same.{get-within}
use Rattle.cell_machine.proofs.SpeShown.{get-either}
use Rattle.state_lines.specs.Ends.{steps_of_commands, steps_of_spe, steps_in, can_go_on, end_of}

and_both : (a b : Bool) → (a && b) ≡ true → (a ≡ true) × (b ≡ true)
and_both true true e = (refl, refl)
and_both true false e = absurd cc
and_both false b e = absurd cc

all_both : (t : Step → Bool) (xs ys : List Step) → list_all t (xs ++ ys) ≡ true → (list_all t xs ≡ true) × (list_all t ys ≡ true)
all_both t [] ys e = (refl, e)
all_both t (x ∷ xs) ys e =
    let h = and_both (t x) (list_all t (xs ++ ys)) e in
    let r = all_both t xs ys h.1 in
    (rw (h.0, r.0) refl, r.1)

all_first : (t : Step → Bool) (x : Step) (xs : List Step) → list_all t (x ∷ xs) ≡ true → (t x ≡ true) × (list_all t xs ≡ true)
all_first t x xs e = and_both (t x) (list_all t xs) e

all_within : (t : Step → Bool) (f : ℕ → List Step) (a n c : ℕ) → list_all t (flat_map f (range_with_len a n)) ≡ true → a ≤ c → c < a + n → list_all t (f c) ≡ true
all_within t f a zero c e low high = absurd (omega arith)
all_within t f a (suc n) c e low high =
    let rest = all_both t (f a) (flat_map f (range_with_len (a + 1) n)) e in
    on (a == c) refl rest.0 (λ differs. all_within t f (a + 1) n c rest.1 (omega (arith, differs)) (omega arith))
  where
    on : (b : Bool) → (a == c) ≡ b → list_all t (f a) ≡ true → (a ≢ c → list_all t (f c) ≡ true) → list_all t (f c) ≡ true
    on true q here later = let same : a ≡ c = grind (arith, nat_tests, q) in subst (λ j. list_all t (f j) ≡ true) same here
    on false q here later = let differs : a ≢ c = grind (arith, nat_tests, q) in later differs

all_of_map : (t : Step → Bool) (g : ℕ → Step) (a n k : ℕ) → list_all t (map g (range_with_len a n)) ≡ true → a ≤ k → k < a + n → t (g k) ≡ true
all_of_map t g a zero k e low high = absurd (omega arith)
all_of_map t g a (suc n) k e low high =
    let rest = all_first t (g a) (map g (range_with_len (a + 1) n)) e in
    on (a == k) refl rest.0 (λ differs. all_of_map t g (a + 1) n k rest.1 (omega (arith, differs)) (omega arith))
  where
    on : (b : Bool) → (a == k) ≡ b → t (g a) ≡ true → (a ≢ k → t (g k) ≡ true) → t (g k) ≡ true
    on true q here later = let same : a ≡ k = grind (arith, nat_tests, q) in subst (λ j. t (g j) ≡ true) same here
    on false q here later = let differs : a ≢ k = grind (arith, nat_tests, q) in later differs

none_of : {A : Type 0} (o : Option A) → is_none o ≡ true → o ≡ None
none_of None e = refl
none_of (Some x) e = absurd cc

off : {A : Type 0} (o : Option A) (b : Bool) → is_some o ≡ b → (b ≡ true → o ≡ None) → o ≡ None
off None b e h = refl
off (Some x) b e h = h (sym e)

module _ (M : State) (none : list_all (λ s. is_none (next M s)) (steps_in M) ≡ true) where
  t : Step → Bool
  t s = is_none (next M s)

  spe_none : (p : ℕ) (P : Spe) → slice_get M.spes p ≡ Some P → list_all (λ s. is_none (next M s)) (steps_of_spe M p) ≡ true
  spe_none p P at = all_within (λ s. is_none (next M s)) (steps_of_spe M) 0 (length M.spes) p (all_first (λ s. is_none (next M s)) Host (flat_map (steps_of_spe M) (range_with_len 0 (length M.spes))) none).1 (omega arith) (let l = get-within M.spes p P at in omega arith)

  commands_none : (p : ℕ) (P : Spe) → slice_get M.spes p ≡ Some P → list_all (λ s. is_none (next M s)) (steps_of_commands p P) ≡ true
  commands_none p P at =
      let both = (all_first (λ s. is_none (next M s)) (Atomic p) (option_map_or (steps_of_commands p) (slice_get M.spes p) []) (all_first (λ s. is_none (next M s)) (Exec p) (Atomic p ∷ option_map_or (steps_of_commands p) (slice_get M.spes p) []) (spe_none p P at)).1).1 in
      subst (λ o. list_all (λ s. is_none (next M s)) (option_map_or (steps_of_commands p) o []) ≡ true) at both

  module _ (p c : ℕ) (P : Spe) (at : slice_get M.spes p ≡ Some P) where
    number_none : c < length P.moves.issued → list_all (λ s. is_none (next M s)) (steps_of_number p P c) ≡ true
    number_none h = all_within (λ s. is_none (next M s)) (steps_of_number p P) 0 (length P.moves.issued) c (commands_none p P at) (omega arith) (omega (arith, h))

  no_elem : (p c : ℕ) (P : Spe) → slice_get M.spes p ≡ Some P → next M (Elem p c) ≡ None
  unfolding may_elem
  no_elem p c P at = off (next M (Elem p c)) (may_elem P c) (next-elem M p c P at) (λ h.
      let is = may-is P c (has_element P.moves c) h in
      let all = number_none p c P at (get-within P.moves.issued c is.0 is.1) in
      none_of (next M (Elem p c)) (all_first (λ s. is_none (next M s)) (Elem p c) (Retire p c ∷ option_map_or (pieces_of p c) (present P.moves.read c is.0) []) (subst (λ o. list_all (λ s. is_none (next M s)) (option_map_or (steps_of_command p P.moves.read c) o []) ≡ true) is.1 all)).0)

  no_retire : (p c : ℕ) (P : Spe) → slice_get M.spes p ≡ Some P → next M (Retire p c) ≡ None
  unfolding may_retire
  no_retire p c P at = off (next M (Retire p c)) (may_retire P c) (next-retire M p c P at) (λ h.
      let is = may-is P c (is_left P.moves c) h in
      let all = number_none p c P at (get-within P.moves.issued c is.0 is.1) in
      let pieces = option_map_or (pieces_of p c) (present P.moves.read c is.0) [] in
      let two = (all_first (λ s. is_none (next M s)) (Elem p c) (Retire p c ∷ pieces) (subst (λ o. list_all (λ s. is_none (next M s)) (option_map_or (steps_of_command p P.moves.read c) o []) ≡ true) is.1 all)).1 in
      none_of (next M (Retire p c)) (all_first (λ s. is_none (next M s)) (Retire p c) pieces two).0)

  no_piece : (p c e k : ℕ) (P : Spe) → slice_get M.spes p ≡ Some P → next M (Piece p c e k) ≡ None
  unfolding may_piece
  no_piece p c e k P at = off (next M (Piece p c e k)) (may_piece P c e k) (next-piece M p c e k P at) (λ h.
      let is = may-is P c (has_part P.moves c e k) h in
      let of = part-is P.moves c e k is.0 is.2 in
      let all = number_none p c P at (get-within P.moves.issued c is.0 is.1) in
      let pieces = option_map_or (pieces_of p c) (present P.moves.read c is.0) [] in
      let two = (all_first (λ s. is_none (next M s)) (Elem p c) (Retire p c ∷ pieces) (subst (λ o. list_all (λ s. is_none (next M s)) (option_map_or (steps_of_command p P.moves.read c) o []) ≡ true) is.1 all)).1 in
      let three = (all_first (λ s. is_none (next M s)) (Retire p c) pieces two).1 in
      let here : list_all (λ s. is_none (next M s)) (pieces_of p c of.element) ≡ true = subst (λ o. list_all (λ s. is_none (next M s)) (option_map_or (pieces_of p c) o []) ≡ true) of.there three in
      let within = of.within in
      let one = all_of_map (λ s. is_none (next M s)) (Piece p c of.element.number) 0 _ k here (omega arith) (omega (arith, within)) in
      subst (λ j. next M (Piece p c j k) ≡ None) of.number (none_of (next M (Piece p c of.element.number k)) one))

  ended : HasEnded M
  ended (Exec p) = get-either M.spes p (next M (Exec p) ≡ None) (λ none. rw none refl) (λ P at.
      none_of (next M (Exec p)) (all_first (λ s. is_none (next M s)) (Exec p) (Atomic p ∷ option_map_or (steps_of_commands p) (slice_get M.spes p) []) (spe_none p P at)).0)
  ended (Atomic p) = get-either M.spes p (next M (Atomic p) ≡ None) (λ none. rw none refl) (λ P at.
      let rest = option_map_or (steps_of_commands p) (slice_get M.spes p) [] in
      none_of (next M (Atomic p)) (all_first (λ s. is_none (next M s)) (Atomic p) rest (all_first (λ s. is_none (next M s)) (Exec p) (Atomic p ∷ rest) (spe_none p P at)).1).0)
  ended (Elem p c) = get-either M.spes p (next M (Elem p c) ≡ None) (λ none. rw none refl) (no_elem p c)
  ended (Retire p c) = get-either M.spes p (next M (Retire p c) ≡ None) (λ none. rw none refl) (no_retire p c)
  ended (Piece p c e k) = get-either M.spes p (next M (Piece p c e k) ≡ None) (λ none. rw none refl) (no_piece p c e k)
  ended Host = none_of (next M Host) (all_first (λ s. is_none (next M s)) Host (flat_map (steps_of_spe M) (range_with_len 0 (length M.spes))) none).0

all_none : (M : State) → HasEnded M → (xs : List Step) → list_all (λ s. is_none (next M s)) xs ≡ true
all_none M ended [] = refl
all_none M ended (x ∷ xs) = rw (ended x, all_none M ended xs) refl

stops : (M : State) → HasEnded M → can_go_on M ≡ false
stops M ended = ap not (all_none M ended (steps_in M))

not_none : {A : Type 0} (o : Option A) → IsSome o → o ≡ None → ⊥
not_none None is e = absurd cc
not_none (Some x) is e = absurd cc

goes_on : (M : State) → CanGoOn M → can_go_on M ≡ true
goes_on M go = on (list_all (λ s. is_none (next M s)) (steps_in M)) refl
  where
    on : (b : Bool) → list_all (λ s. is_none (next M s)) (steps_in M) ≡ b → not b ≡ true
    on true e = absurd (not_none (next M go.0) go.1 (ended M e go.0))
    on false e = refl

-- each end word is the decided one
pub end-is : (M : State) (budget : ℕ) (end : Option End) → IsEnd M budget end → end ≡ end_of M budget
end-is M budget (Some AllStopped) is = rw (stops M is.0, is.1) refl
end-is M budget (Some Stuck) is = rw (stops M is.0, is.1) refl
end-is M budget (Some Budget) is =
    let full : nat_lt (length M.steps) budget ≡ false = let h = is.1 in grind (arith, nat_tests, h) in
    rw (goes_on M is.0, full) refl
end-is M budget None is =
    let room : nat_lt (length M.steps) budget ≡ true = let h = is.1 in grind (arith, nat_tests, h) in
    rw (goes_on M is.0, room) refl

-- ---- and the decided one is an end word

some-passes : (M : State) (xs : List Step) → list_all (λ s. is_none (next M s)) xs ≡ false → CanGoOn M
some-passes M [] e = absurd cc
some-passes M (x ∷ xs) e = on (next M x) refl e (λ h. some-passes M xs h)
  where
    on : (o : Option State) → next M x ≡ o → (is_none o && list_all (λ s. is_none (next M s)) xs) ≡ false → (list_all (λ s. is_none (next M s)) xs ≡ false → CanGoOn M) → CanGoOn M
    on None is e later = later e
    on (Some N) is e later = (x, ap is_some is)

pub is-end : (M : State) (budget : ℕ) → length M.steps ≤ budget → IsEnd M budget (end_of M budget)
is-end M budget within = on (list_all (λ s. is_none (next M s)) (steps_in M)) refl
  where
    open-end : CanGoOn M → (b : Bool) → nat_lt (length M.steps) budget ≡ b → IsEnd M budget (cond b None (Some Budget))
    open-end go true is = (go, grind (arith, nat_tests, is))
    open-end go false is = (go, grind (arith, nat_tests, is, within))

    shut-end : HasEnded M → (b : Bool) → is_quiet M ≡ b → IsEnd M budget (cond b (Some AllStopped) (Some Stuck))
    shut-end ended true is = (ended, is)
    shut-end ended false is = (ended, is)

    on : (b : Bool) → list_all (λ s. is_none (next M s)) (steps_in M) ≡ b
        → IsEnd M budget (cond (not b) (cond (nat_lt (length M.steps) budget) None (Some Budget)) (cond (is_quiet M) (Some AllStopped) (Some Stuck)))
    on true is = shut-end (ended M is) (is_quiet M) refl
    on false is = open-end (some-passes M (steps_in M) is) (nat_lt (length M.steps) budget) refl
