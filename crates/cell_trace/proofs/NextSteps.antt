-- The steps that may come next: no actor has one twice, and the choices pick them one after the other.
use Rattle.std.proofs.Common.{◌≡◌, ◌≢◌, ℕ, zero, suc, ◌+◌, ◌-◌, ◌<◌, ◌≤◌, ◌%◌, Bool, true, false, not, nat_lt, List, [], ◌∷◌, ◌++◌, map, drop, length, arith, refl, sym, ap, subst, ◌∙◌, append_assoc, ◌⊎◌, inl, inr}
use Rattle.std.specs.Prelude.{Option, Some, None, IsSomeAnd, is_some, filter, cond, slice_get}
use Rattle.std.specs.List.{flat_map, range_with_len}
use Rattle.std.specs.Option.{option_map_or}
use Rattle.std.proofs.lemmas.List.{append-nil, nil_from_length, length-drop}
use Rattle.std.proofs.lemmas.Grind.{flat_map-append}
use Rattle.std.proofs.lemmas.Bool.Decides.{nat_tests}
use Rattle.std.proofs.Math.Nat.{mod_self, mod-eq_of_lt, zero-mod}
use Rattle.cell_base.specs.declared.steps.Actor.{Actor}
use Rattle.cell_base.specs.declared.steps.Actor.TheVariants.{Spu, Mfc, Host as TheHost}
use Rattle.cell_base.specs.declared.steps.Step.{Step}
use Rattle.cell_base.specs.declared.steps.Step.TheVariants.{Exec, Piece, Elem, Retire, Atomic, Host}
use Rattle.mfc_command.specs.declared.command.Command.{Command}
use Rattle.mfc_command.specs.Order.{outstanding as outstanding_of}
use Rattle.mfc_lists.specs.declared.Element.{Element}
use Rattle.cell_machine.specs.Spe.{Spe}
use Rattle.cell_machine.specs.State.{State}
use Rattle.cell_machine.specs.Next.{next}
use Rattle.cell_machine.specs.Moves.{outstanding, is_complete, present, parts_in}
use Rattle.cell_machine.specs.Run.{Ran, allowed, actors, picked, picked_of, pieces_of, state_of, steps_of, steps_of_command, steps_of_mfc, steps_of_number}
use Rattle.cell_machine.proofs.Replays.{run-length}
use Rattle.cell_trace.specs.Allowed.{at_line, at_lines, may_line, next_steps, allowed_of}

-- ---- lists in which nothing is twice

-- s isn't in the list
abbrev IsAbsent : Step → List Step → Type 0
IsAbsent s [] = Unit {0}
IsAbsent s (t ∷ ts) = (s ≢ t) × IsAbsent s ts

-- no step is twice in the list
abbrev AreDistinct : List Step → Type 0
AreDistinct [] = Unit {0}
AreDistinct (s ∷ ss) = IsAbsent s ss × AreDistinct ss

absent_both : (s : Step) (xs ys : List Step) → IsAbsent s xs → IsAbsent s ys → IsAbsent s (xs ++ ys)
absent_both s [] ys a b = b
absent_both s (x ∷ xs) ys a b = (a.0, absent_both s xs ys a.1 b)

absent_filter : (f : Step → Bool) (s : Step) (xs : List Step) → IsAbsent s xs → IsAbsent s (filter f xs)
absent_filter f s [] a = tt
absent_filter f s (x ∷ xs) a = on (f x) (absent_filter f s xs a.1)
  where
    on : (b : Bool) → IsAbsent s (filter f xs) → IsAbsent s (cond b (x ∷ filter f xs) (filter f xs))
    on true rest = (a.0, rest)
    on false rest = rest

distinct_filter : (f : Step → Bool) (xs : List Step) → AreDistinct xs → AreDistinct (filter f xs)
distinct_filter f [] d = tt
distinct_filter f (x ∷ xs) d = on (f x) (distinct_filter f xs d.1)
  where
    on : (b : Bool) → AreDistinct (filter f xs) → AreDistinct (cond b (x ∷ filter f xs) (filter f xs))
    on true rest = (absent_filter f x xs d.0, rest)
    on false rest = rest

-- ---- the steps of commands

-- the command of which it is a step
abbrev command_of : Step → Option ℕ
command_of (Piece p c e k) = Some c
command_of (Elem p c) = Some c
command_of (Retire p c) = Some c
command_of (Exec p) = None
command_of (Atomic p) = None
command_of Host = None

-- all are steps of command c
abbrev AreOf : ℕ → List Step → Type 0
AreOf c [] = Unit {0}
AreOf c (s ∷ ss) = (command_of s ≡ Some c) × AreOf c ss

-- the command isn't among these
abbrev IsNoneOf : Option ℕ → List ℕ → Type 0
IsNoneOf o [] = Unit {0}
IsNoneOf o (c ∷ cs) = (o ≢ Some c) × IsNoneOf o cs

pieces_are : (p c e a n : ℕ) → AreOf c (map (Piece p c e) (range_with_len a n))
pieces_are p c e a zero = tt
pieces_are p c e a (suc n) = (refl, pieces_are p c e (a + 1) n)

element_are : (p c : ℕ) (o : Option Element) → AreOf c (option_map_or (pieces_of p c) o [])
element_are p c None = tt
element_are p c (Some x) = pieces_are p c x.number 0 (parts_in x)

steps_are : (p : ℕ) (P : Spe) (c : ℕ) (o : Option Command) → AreOf c (option_map_or (steps_of_command p P.moves.read c) o [])
steps_are p P c None = tt
steps_are p P c (Some d) = (refl, (refl, element_are p c (present P.moves.read c d)))

of_other : (s : Step) (c : ℕ) (xs : List Step) → command_of s ≢ Some c → AreOf c xs → IsAbsent s xs
of_other s c [] other are = tt
of_other s c (x ∷ xs) other are = ((λ same. other (ap command_of same ∙ are.0)), of_other s c xs other are.1)

absent_commands : (p : ℕ) (P : Spe) (s : Step) (cs : List ℕ) → IsNoneOf (command_of s) cs → IsAbsent s (flat_map (steps_of_number p P) cs)
absent_commands p P s [] none = tt
absent_commands p P s (c ∷ cs) none =
    absent_both s (steps_of_number p P c) (flat_map (steps_of_number p P) cs) (of_other s c (steps_of_number p P c) none.0 (steps_are p P c (slice_get P.moves.issued c))) (absent_commands p P s cs none.1)

pieces_later : (p c e b a n : ℕ) → b < a → IsAbsent (Piece p c e b) (map (Piece p c e) (range_with_len a n))
pieces_later p c e b a zero lt = tt
pieces_later p c e b a (suc n) lt = ((λ same. let k : b ≡ a = cc in omega (arith, k, lt)), pieces_later p c e b (a + 1) n (omega (arith, lt)))

pieces_distinct : (p c e a n : ℕ) → AreDistinct (map (Piece p c e) (range_with_len a n))
pieces_distinct p c e a zero = tt
pieces_distinct p c e a (suc n) = (pieces_later p c e a (a + 1) n (omega arith), pieces_distinct p c e (a + 1) n)

no_elem : (p c e a n : ℕ) → IsAbsent (Elem p c) (map (Piece p c e) (range_with_len a n))
no_elem p c e a zero = tt
no_elem p c e a (suc n) = ((λ same. cc), no_elem p c e (a + 1) n)

no_retire : (p c e a n : ℕ) → IsAbsent (Retire p c) (map (Piece p c e) (range_with_len a n))
no_retire p c e a zero = tt
no_retire p c e a (suc n) = ((λ same. cc), no_retire p c e (a + 1) n)

element_distinct : (p c : ℕ) (o : Option Element) → AreDistinct (Elem p c ∷ Retire p c ∷ option_map_or (pieces_of p c) o [])
element_distinct p c None = (((λ same. cc), tt), (tt, tt))
element_distinct p c (Some x) = (((λ same. cc), no_elem p c x.number 0 (parts_in x)), (no_retire p c x.number 0 (parts_in x), pieces_distinct p c x.number 0 (parts_in x)))

command_distinct : (p : ℕ) (P : Spe) (c : ℕ) (o : Option Command) → AreDistinct (option_map_or (steps_of_command p P.moves.read c) o [])
command_distinct p P c None = tt
command_distinct p P c (Some d) = element_distinct p c (present P.moves.read c d)

-- steps of one command in front of those of others
distinct_both : (p : ℕ) (P : Spe) (c : ℕ) (xs : List Step) (cs : List ℕ) → AreOf c xs → IsNoneOf (Some c) cs → AreDistinct xs → AreDistinct (flat_map (steps_of_number p P) cs) → AreDistinct (xs ++ flat_map (steps_of_number p P) cs)
distinct_both p P c [] cs are none d rest = rest
distinct_both p P c (x ∷ xs) cs are none d rest =
    (absent_both x xs (flat_map (steps_of_number p P) cs) d.0 (absent_commands p P x cs (subst (λ o. IsNoneOf o cs) (sym are.0) none)), distinct_both p P c xs cs are.1 none d.1 rest)

none_later : (g : ℕ → Bool) (b a n : ℕ) → b < a → IsNoneOf (Some b) (filter g (range_with_len a n))
none_later g b a zero lt = tt
none_later g b a (suc n) lt = on (g a) (none_later g b (a + 1) n (omega (arith, lt)))
  where
    on : (d : Bool) → IsNoneOf (Some b) (filter g (range_with_len (a + 1) n)) → IsNoneOf (Some b) (cond d (a ∷ filter g (range_with_len (a + 1) n)) (filter g (range_with_len (a + 1) n)))
    on true rest = ((λ same. let k : b ≡ a = cc in omega (arith, k, lt)), rest)
    on false rest = rest

no_number : (cs : List ℕ) → IsNoneOf None cs
no_number [] = tt
no_number (c ∷ cs) = ((λ same. cc), no_number cs)

commands_distinct : (p : ℕ) (P : Spe) (g : ℕ → Bool) (a n : ℕ) → AreDistinct (flat_map (steps_of_number p P) (filter g (range_with_len a n)))
commands_distinct p P g a zero = tt
commands_distinct p P g a (suc n) = on (g a) (commands_distinct p P g (a + 1) n)
  where
    rest : List ℕ
    rest = filter g (range_with_len (a + 1) n)

    on : (b : Bool) → AreDistinct (flat_map (steps_of_number p P) rest) → AreDistinct (flat_map (steps_of_number p P) (cond b (a ∷ rest) rest))
    on true d = distinct_both p P a (steps_of_number p P a) rest (steps_are p P a (slice_get P.moves.issued a)) (none_later g a (a + 1) n (omega arith)) (command_distinct p P a (slice_get P.moves.issued a)) d
    on false d = d

mfc_distinct : (p : ℕ) (P : Spe) → AreDistinct (steps_of_mfc p P)
unfolding outstanding_of
mfc_distinct p P = (absent_commands p P (Atomic p) (outstanding P) (no_number (outstanding P)), commands_distinct p P (λ c. not (is_complete P.moves c)) 0 (length P.moves.issued))

actor_distinct : (M : State) (actor : Actor) → AreDistinct (steps_of M actor)
actor_distinct M (Spu p) = (tt, tt)
actor_distinct M (Mfc p) = on (slice_get M.spes p)
  where
    on : (o : Option Spe) → AreDistinct (option_map_or (steps_of_mfc p) o [])
    on None = tt
    on (Some P) = mfc_distinct p P
actor_distinct M TheHost = (tt, tt)

next_distinct : (M : State) (budget : ℕ) (actor : Actor) → AreDistinct (next_steps M budget actor)
next_distinct M budget actor = on (nat_lt (length M.steps) budget)
  where
    on : (b : Bool) → AreDistinct (cond b (allowed M actor) [])
    on true = distinct_filter (λ s. is_some (next M s)) (steps_of M actor) (actor_distinct M actor)
    on false = tt

-- ---- choices

absent_at : (s t : Step) (xs : List Step) (k : ℕ) → IsAbsent s xs → slice_get xs k ≡ Some t → s ≢ t
absent_at s t [] k a at same = absurd (cc)
absent_at s t (x ∷ xs) zero a at same = let k : x ≡ t = cc in a.0 (same ∙ sym k)
absent_at s t (x ∷ xs) (suc k) a at same = absent_at s t xs k a.1 at same

-- the first one isn't there again
first_once : (s : Step) (xs : List Step) (k : ℕ) → AreDistinct xs → 0 < k → slice_get xs 0 ≡ Some s → slice_get xs k ≡ Some s → ⊥
first_once s [] k d low first again = absurd (cc)
first_once s (x ∷ xs) zero d low first again = omega (arith, low)
first_once s (x ∷ xs) (suc k) d low first again = let same : x ≡ s = cc in absent_at x s xs k d.0 again same

-- what choices pick, of the steps that may come next
pub picked_next : (m : Ran) (actor : Actor) (choice : ℕ) (M : State) → state_of m ≡ Some M
    → picked_of m actor choice ≡ slice_get (next_steps M m.setup.budget actor) (choice % length (next_steps M m.setup.budget actor))
picked_next m actor choice M at =
    let long : length M.steps ≡ length m.steps = run-length m.setup m.steps M at in
    rw (at, long) (on (nat_lt (length m.steps) m.setup.budget))
  where
    on : (b : Bool) → cond b (picked M actor choice) None ≡ slice_get (cond b (allowed M actor) []) (choice % length (cond b (allowed M actor) []))
    on true = refl
    on false = refl

get_end : (xs : List Step) (n : ℕ) → n ≡ length xs → slice_get xs n ≡ None
get_end [] n e = refl
get_end (x ∷ xs) zero e = absurd (omega (arith, e))
get_end (x ∷ xs) (suc n) e = get_end xs n (omega (arith, e))

-- a place behind the first one: choices pick the step there, or begin again
place_of : (xs : List Step) (first : Step) (place : ℕ) → place ≤ length xs → slice_get xs 0 ≡ Some first
    → (slice_get xs (place % length xs) ≡ slice_get xs place) ⊎ ((slice_get xs (place % length xs) ≡ Some first) × (slice_get xs place ≡ None))
place_of xs first place le at = on (nat_lt place (length xs)) refl
  where
    on : (b : Bool) → nat_lt place (length xs) ≡ b → (slice_get xs (place % length xs) ≡ slice_get xs place) ⊎ ((slice_get xs (place % length xs) ≡ Some first) × (slice_get xs place ≡ None))
    on true e = let lt : place < length xs = grind (arith, nat_tests, e) in inl (ap (slice_get xs) (mod-eq_of_lt lt))
    on false e =
        let end : place ≡ length xs = grind (arith, nat_tests, e) in
        inr (ap (λ k. slice_get xs (k % length xs)) end ∙ ap (slice_get xs) (mod_self (length xs)) ∙ at, get_end xs place end)

-- the first step that choices pick is the first one
first_of_next : (xs : List Step) (first : Step) → Some first ≡ slice_get xs (0 % length xs) → slice_get xs 0 ≡ Some first
first_of_next xs first h = sym (h ∙ ap (slice_get xs) (zero-mod (length xs)))

pub first_next : (m : Ran) (actor : Actor) (M : State) (first : Step) → state_of m ≡ Some M → Some first ≡ picked_of m actor 0 → Some first ≡ slice_get (next_steps M m.setup.budget actor) 0
first_next m actor M first at is = sym (first_of_next (next_steps M m.setup.budget actor) first (is ∙ picked_next m actor 0 M at))

pub none_next : (m : Ran) (actor : Actor) (M : State) → state_of m ≡ Some M → None ≡ picked_of m actor 0 → None ≡ slice_get (next_steps M m.setup.budget actor) 0
none_next m actor M at is = is ∙ picked_next m actor 0 M at ∙ ap (slice_get (next_steps M m.setup.budget actor)) (zero-mod (length (next_steps M m.setup.budget actor)))

-- the step that a choice picks, unless it is the first one
abbrev pub unless_first : Step → Option Step → Option Step → Type 0
unless_first first None r = r ≡ None
unless_first first (Some s) r = ((s ≡ first) × (r ≡ None)) ⊎ ((s ≢ first) × (r ≡ Some s))

at_place : (xs : List Step) (first : Step) (place : ℕ) (o r : Option Step) → AreDistinct xs → 0 < place → place ≤ length xs → slice_get xs 0 ≡ Some first → o ≡ slice_get xs (place % length xs) → unless_first first o r → r ≡ slice_get xs place
at_place xs first place o r d low le at is h = on (place_of xs first place le at) o is h
  where
    on : (slice_get xs (place % length xs) ≡ slice_get xs place) ⊎ ((slice_get xs (place % length xs) ≡ Some first) × (slice_get xs place ≡ None)) → (o : Option Step) → o ≡ slice_get xs (place % length xs) → unless_first first o r
        → r ≡ slice_get xs place
    on (inl here) None is h = h ∙ is ∙ here
    on (inl here) (Some s) is (inl (same, none)) = absurd (first_once first xs place d low at (sym here ∙ sym is ∙ ap Some same))
    on (inl here) (Some s) is (inr (other, some)) = some ∙ is ∙ here
    on (inr (again, past)) None is h = h ∙ sym past
    on (inr (again, past)) (Some s) is (inl (same, none)) = none ∙ sym past
    on (inr (again, past)) (Some s) is (inr (other, some)) = absurd (other (let k : Some s ≡ Some first = is ∙ again in cc))

pub step_there : (m : Ran) (actor : Actor) (place : ℕ) (first : Step) (o r : Option Step) (M : State) → 0 < place → Some first ≡ picked_of m actor 0 → o ≡ picked_of m actor place → unless_first first o r → state_of m ≡ Some M
    → place ≤ length (next_steps M m.setup.budget actor) → r ≡ slice_get (next_steps M m.setup.budget actor) place
step_there m actor place first o r M low begins is h at le =
    at_place (next_steps M m.setup.budget actor) first place o r (next_distinct M m.setup.budget actor) low le (sym (first_next m actor M first at begins)) (is ∙ picked_next m actor place M at) h

-- ---- lines

drop_next : (xs : List Step) (i : ℕ) (s : Step) → Some s ≡ slice_get xs i → (drop i xs ≡ s ∷ drop (i + 1) xs) × (i + 1 ≤ length xs)
drop_next [] i s at = absurd (cc)
drop_next (x ∷ xs) zero s at = let same : x ≡ s = cc in (ap (λ y. y ∷ xs) same, omega arith)
drop_next (x ∷ xs) (suc i) s at =
    let rest = drop_next xs i s at in
    let e : suc i + 1 ≡ suc (i + 1) = omega arith in
    (rest.0 ∙ ap (λ k. s ∷ drop k (x ∷ xs)) (sym e), omega (arith, rest.1))

drop_none : (xs : List Step) (i : ℕ) → None ≡ slice_get xs i → drop i xs ≡ []
drop_none [] zero at = refl
drop_none [] (suc i) at = refl
drop_none (x ∷ xs) zero at = absurd (cc)
drop_none (x ∷ xs) (suc i) at = drop_none xs i at

-- the line of the step at a place was written, in front of those that are left
pub one_step : (out new whole : List ℕ) (xs : List Step) (i : ℕ) (s : Step) → Some s ≡ slice_get xs i → new ≡ out ++ may_line s → out ++ flat_map may_line (drop i xs) ≡ whole
    → (i + 1 ≤ length xs) × (new ++ flat_map may_line (drop (i + 1) xs) ≡ whole)
one_step out new whole xs i s at wrote so_far =
    let k = drop_next xs i s at in
    (k.1, ap (λ t. t ++ flat_map may_line (drop (i + 1) xs)) wrote ∙ append_assoc out (may_line s) (flat_map may_line (drop (i + 1) xs)) ∙ ap (λ ys. out ++ flat_map may_line ys) (sym k.0) ∙ so_far)

-- none is left
pub no_step : (out whole : List ℕ) (xs : List Step) (i : ℕ) → None ≡ slice_get xs i → out ++ flat_map may_line (drop i xs) ≡ whole → out ≡ whole
no_step out whole xs i at so_far = sym (append-nil out) ∙ ap (λ ys. out ++ flat_map may_line ys) (sym (drop_none xs i at)) ∙ so_far

pub on_state : (o : Option State) (P Q : State → Type 0) → IsSomeAnd o P → ((M : State) → o ≡ Some M → Q M) → IsSomeAnd o Q
on_state None P Q h k = absurd h
on_state (Some M) P Q h k = k M refl

-- ---- actors

-- the lines of the steps of the actors from number p on, of n
abbrev pub lines_left : (Actor → List Step) → (ℕ → Actor) → ℕ → ℕ → List ℕ
lines_left f g p n = flat_map may_line (flat_map f (map g (range_with_len p (n - p))))

pub one_actor : (out new whole : List ℕ) (f : Actor → List Step) (g : ℕ → Actor) (p n : ℕ) → p < n → new ≡ out ++ flat_map may_line (f (g p)) → out ++ lines_left f g p n ≡ whole → new ++ lines_left f g (p + 1) n ≡ whole
one_actor out new whole f g p n lt wrote so_far =
    let cut : n - p ≡ suc (n - (p + 1)) = omega (arith, lt) in
    let rest = flat_map f (map g (range_with_len (p + 1) (n - (p + 1)))) in
    let here : lines_left f g p n ≡ flat_map may_line (f (g p)) ++ flat_map may_line rest = ap (λ k. flat_map may_line (flat_map f (map g (range_with_len p k)))) cut ∙ flat_map-append may_line (f (g p)) rest in
    ap (λ t. t ++ flat_map may_line rest) wrote ∙ append_assoc out (flat_map may_line (f (g p))) (flat_map may_line rest) ∙ ap (λ t. out ++ t) (sym here) ∙ so_far

pub no_actor : (out old : List ℕ) (f : Actor → List Step) (g : ℕ → Actor) (p n : ℕ) → n ≤ p → out ++ lines_left f g p n ≡ old ++ lines_left f g 0 n → out ≡ old ++ flat_map may_line (flat_map f (map g (range_with_len 0 n)))
no_actor out old f g p n le so_far =
    let none : n - p ≡ 0 = omega (arith, le) in
    let all : n - 0 ≡ n = omega arith in
    let lines_of : ℕ → ℕ → List ℕ = λ a k. flat_map may_line (flat_map f (map g (range_with_len a k))) in
    sym (append-nil out) ∙ ap (λ k. out ++ lines_of p k) (sym none) ∙ so_far ∙ ap (λ k. old ++ lines_of 0 k) all

-- all was written: the instructions, and the steps of the processors, of their MFCs and of the host
pub all_written : (M : State) (budget : ℕ) (out a b c d : List ℕ) → a ≡ out ++ at_lines 0 M.spes → b ≡ a ++ flat_map may_line (flat_map (next_steps M budget) (map Spu (range_with_len 0 (length M.spes))))
    → c ≡ b ++ flat_map may_line (flat_map (next_steps M budget) (map Mfc (range_with_len 0 (length M.spes)))) → d ≡ c ++ flat_map may_line (next_steps M budget TheHost) → d ≡ out ++ allowed_of M budget
all_written M budget out a b c d wrote_at wrote_spus wrote_mfcs wrote_host =
    let f = next_steps M budget in
    let spus = map Spu (range_with_len 0 (length M.spes)) in
    let mfcs = map Mfc (range_with_len 0 (length M.spes)) in
    let of_spus = flat_map may_line (flat_map f spus) in
    let of_mfcs = flat_map may_line (flat_map f mfcs) in
    let of_host = flat_map may_line (f TheHost) in
    let last : flat_map may_line (flat_map f (TheHost ∷ [])) ≡ of_host = ap (flat_map may_line) (append-nil (f TheHost)) in
    let in_front : flat_map may_line (flat_map f (spus ++ mfcs)) ≡ of_spus ++ of_mfcs = ap (flat_map may_line) (flat_map-append f spus mfcs) ∙ flat_map-append may_line (flat_map f spus) (flat_map f mfcs) in
    let all : flat_map may_line (flat_map f (actors M)) ≡ of_spus ++ (of_mfcs ++ of_host) =
    ap (flat_map may_line) (flat_map-append f (spus ++ mfcs) (TheHost ∷ [])) ∙ flat_map-append may_line (flat_map f (spus ++ mfcs)) (flat_map f (TheHost ∷ [])) ∙ ap (λ t. t ++ flat_map may_line (flat_map f (TheHost ∷ []))) in_front
    ∙ ap (λ t. (of_spus ++ of_mfcs) ++ t) last ∙ append_assoc of_spus of_mfcs of_host in
    let lines = at_lines 0 M.spes in
    wrote_host ∙ ap (λ t. t ++ of_host) (wrote_mfcs ∙ ap (λ t. t ++ of_mfcs) (wrote_spus ∙ ap (λ t. t ++ of_spus) wrote_at))
    ∙ append_assoc ((out ++ lines) ++ of_spus) of_mfcs of_host ∙ append_assoc (out ++ lines) of_spus (of_mfcs ++ of_host) ∙ append_assoc out lines (of_spus ++ (of_mfcs ++ of_host))
    ∙ ap (λ t. out ++ (lines ++ t)) (sym all)

-- ---- instructions

pub ats_one : (out whole : List ℕ) (p i : ℕ) (P : Spe) (spes : List Spe) → slice_get spes i ≡ Some P → out ++ at_lines p (drop i spes) ≡ whole → (out ++ at_line p P) ++ at_lines (p + 1) (drop (i + 1) spes) ≡ whole
unfolding at_lines
ats_one out whole p i P [] there so_far = absurd (cc)
ats_one out whole p zero P (Q ∷ spes) there so_far =
    let one : suc p ≡ p + 1 = omega arith in
    let same : Q ≡ P = cc in
    rw (← one, ← same) (append_assoc out (at_line p Q) (at_lines (suc p) spes) ∙ so_far)
ats_one out whole p (suc i) P (Q ∷ spes) there so_far =
    let e : suc i + 1 ≡ suc (i + 1) = omega arith in
    rw e (ats_one out whole p i P spes there so_far)

pub ats_none : (out whole : List ℕ) (p i : ℕ) (spes : List Spe) → length spes ≤ i → out ++ at_lines p (drop i spes) ≡ whole → out ≡ whole
unfolding at_lines
ats_none out whole p i spes le so_far =
    let none : drop i spes ≡ [] = nil_from_length (drop i spes) (omega (arith, length-drop i spes)) in
    sym (append-nil out) ∙ (rw none at so_far)
