-- The outstanding commands of a processor, by their numbers.
use Rattle.std.proofs.Common.{◌≡◌, ℕ, zero, suc, ◌+◌, ◌<◌, ◌≤◌, Bool, true, false, not, nat_le, List, [], ◌∷◌, ◌++◌, length, refl, sym, ap, ◌∙◌, append_assoc, arith, subst}
use Rattle.std.proofs.lemmas.Bool.Decides.{nat_tests}
use Rattle.std.specs.Prelude.{Option, Some, None, filter, find, slice_get}
use Rattle.std.specs.Option.{option_and_then, option_map}
use Rattle.std.specs.List.{range_with_len}
use Rattle.std.proofs.lemmas.List.{append-nil}
use Rattle.cell_machine.specs.declared.outstanding.Outstanding.{Outstanding}
use Rattle.mfc_command.specs.declared.command.Command.{Command}
use Rattle.mfc_command.specs.Order.{outstanding as outstanding_of}
use Rattle.cell_machine.specs.Spe.{Spe}
use Rattle.cell_machine.specs.Moves.{outstanding, is_complete}
use Rattle.cell_machine.specs.Shown.{shown, shown_at, shown_from}
use Rattle.cell_trace.specs.Flows.{command_line, command_lines}

-- those of at least this number
abbrev pub later : ℕ → Spe → List ℕ
later n P = filter (nat_le n) (outstanding P)

-- ---- numbers that ascend

none_found : (f : ℕ → Bool) (xs : List ℕ) → find f xs ≡ None → filter f xs ≡ []
none_found f [] h = refl
none_found f (x ∷ xs) h = on (f x) refl (λ k. none_found f xs k)
  where
    on : (b : Bool) → f x ≡ b → (find f xs ≡ None → filter f xs ≡ []) → filter f (x ∷ xs) ≡ []
    on true e rest = let g : find f (x ∷ xs) ≡ Some x = rw e refl in absurd (cc)
    on false e rest = let g : find f (x ∷ xs) ≡ find f xs = rw e refl in rw e (rest (sym g ∙ h))

-- each number of the range that is left is in it
all_later : (n : ℕ) (g : ℕ → Bool) (a k : ℕ) → n ≤ a → filter (nat_le n) (filter g (range_with_len a k)) ≡ filter g (range_with_len a k)
all_later n g a zero le = refl
all_later n g a (suc k) le = on (g a) refl (all_later n g (a + 1) k (omega arith)) (grind (arith, nat_tests))
  where
    on : (b : Bool) → g a ≡ b → filter (nat_le n) (filter g (range_with_len (a + 1) k)) ≡ filter g (range_with_len (a + 1) k) → nat_le n a ≡ true
        → filter (nat_le n) (filter g (range_with_len a (suc k))) ≡ filter g (range_with_len a (suc k))
    on true e rest is = rw e (rw is (ap (λ xs. a ∷ xs) rest))
    on false e rest is = rw e rest

found_here : (n a c k : ℕ) (rest : List ℕ) (b : Bool) → nat_le n a ≡ b → (find (nat_le n) rest ≡ Some c → (a ≤ c) × (c < a + suc k)) → find (nat_le n) (a ∷ rest) ≡ Some c → (a ≤ c) × (c < a + suc k)
found_here n a c k rest true e further f =
    let first : find (nat_le n) (a ∷ rest) ≡ Some a = rw e refl in
    let same : a ≡ c = cc in
    (omega (arith, same), omega (arith, same))
found_here n a c k rest false e further f =
    let next : find (nat_le n) (a ∷ rest) ≡ find (nat_le n) rest = rw e refl in
    further (sym next ∙ f)

found_within : (n : ℕ) (g : ℕ → Bool) (a k c : ℕ) → find (nat_le n) (filter g (range_with_len a k)) ≡ Some c → (a ≤ c) × (c < a + k)
found_within n g a zero c h = absurd (cc)
found_within n g a (suc k) c h = on (g a) refl (λ f. let w = found_within n g (a + 1) k c f in let low = w.0 in let high = w.1 in (omega (arith, low), omega (arith, high)))
  where
    on : (b : Bool) → g a ≡ b → (find (nat_le n) (filter g (range_with_len (a + 1) k)) ≡ Some c → (a ≤ c) × (c < a + suc k)) → (a ≤ c) × (c < a + suc k)
    on true e further = found_here n a c k (filter g (range_with_len (a + 1) k)) (nat_le n a) refl further (rw e at h)
    on false e further = further (rw e at h)

-- the first one of at least n, in front of the ones behind it: a comes before all others
first_here : (n a c : ℕ) (rest : List ℕ) (b : Bool) → nat_le n a ≡ b → (n ≤ a → filter (nat_le n) rest ≡ rest) → filter (nat_le (a + 1)) rest ≡ rest
    → (find (nat_le n) rest ≡ Some c → (a + 1 ≤ c) × (filter (nat_le n) rest ≡ c ∷ filter (nat_le (c + 1)) rest))
    → find (nat_le n) (a ∷ rest) ≡ Some c → filter (nat_le n) (a ∷ rest) ≡ c ∷ filter (nat_le (c + 1)) (a ∷ rest)
first_here n a c rest true e all behind further f =
    let first : find (nat_le n) (a ∷ rest) ≡ Some a = rw e refl in
    let same : a ≡ c = cc in
    let low : n ≤ a = grind (arith, nat_tests, e) in
    let out : nat_le (a + 1) a ≡ false = grind (arith, nat_tests) in
    let left : filter (nat_le n) (a ∷ rest) ≡ a ∷ rest = rw e (ap (λ xs. a ∷ xs) (all low)) in
    let right : filter (nat_le (a + 1)) (a ∷ rest) ≡ rest = rw out behind in
    left ∙ ap (λ xs. a ∷ xs) (sym right) ∙ ap (λ x. x ∷ filter (nat_le (x + 1)) (a ∷ rest)) same
first_here n a c rest false e all behind further f =
    let next : find (nat_le n) (a ∷ rest) ≡ find (nat_le n) rest = rw e refl in
    let found = further (sym next ∙ f) in
    let low = found.0 in
    let out : nat_le (c + 1) a ≡ false = grind (arith, nat_tests, low) in
    let left : filter (nat_le n) (a ∷ rest) ≡ filter (nat_le n) rest = rw e refl in
    let right : filter (nat_le (c + 1)) (a ∷ rest) ≡ filter (nat_le (c + 1)) rest = rw out refl in
    left ∙ found.1 ∙ ap (λ xs. c ∷ xs) (sym right)

found_first : (n : ℕ) (g : ℕ → Bool) (a k c : ℕ) → find (nat_le n) (filter g (range_with_len a k)) ≡ Some c
    → filter (nat_le n) (filter g (range_with_len a k)) ≡ c ∷ filter (nat_le (c + 1)) (filter g (range_with_len a k))
found_first n g a zero c h = absurd (cc)
found_first n g a (suc k) c h = on (g a) refl (λ f. (found_within n g (a + 1) k c f).0) (λ f. found_first n g (a + 1) k c f)
  where
    rest : List ℕ
    rest = filter g (range_with_len (a + 1) k)

    on : (b : Bool) → g a ≡ b → (find (nat_le n) rest ≡ Some c → a + 1 ≤ c) → (find (nat_le n) rest ≡ Some c → filter (nat_le n) rest ≡ c ∷ filter (nat_le (c + 1)) rest)
        → filter (nat_le n) (filter g (range_with_len a (suc k))) ≡ c ∷ filter (nat_le (c + 1)) (filter g (range_with_len a (suc k)))
    on true e low further =
        rw e (first_here n a c rest (nat_le n a) refl (λ le. all_later n g (a + 1) k (omega arith)) (all_later (a + 1) g (a + 1) k (omega arith)) (λ f. (low f, further f)) (rw e at h))
    on false e low further = rw e (further (rw e at h))

-- ---- the commands

abbrev is_open : Spe → ℕ → Bool
is_open P c = not (is_complete P.moves c)

got_within : {X : Type 0} (xs : List X) (c : ℕ) → c < length xs → (x : X) × (slice_get xs c ≡ Some x)
got_within [] c lt = absurd (omega (arith, lt))
got_within (x ∷ xs) zero lt = (x, refl)
got_within (x ∷ xs) (suc c) lt = got_within xs c (omega (arith, lt))

shown_there : (P : Spe) (c : ℕ) → c < length P.moves.issued → (it : Outstanding) × (shown_at P.moves c ≡ Some it)
shown_there P c lt = let d = got_within P.moves.issued c lt in (shown P.moves c d.0, ap (option_map (shown P.moves c)) d.1)

number_is : (P : Spe) (c : ℕ) (it : Outstanding) → shown_at P.moves c ≡ Some it → it.number ≡ c
number_is P c it h = on (slice_get P.moves.issued c) h
  where
    on : (o : Option Command) → option_map (shown P.moves c) o ≡ Some it → it.number ≡ c
    on None e = absurd (cc)
    on (Some d) e = let same : shown P.moves c d ≡ it = cc in ap (λ (x : Outstanding). x.number) (sym same)

split_found : (P : Spe) (o : Option ℕ) (it : Outstanding) → option_and_then (shown_at P.moves) o ≡ Some it → (c : ℕ) × (o ≡ Some c) × (shown_at P.moves c ≡ Some it)
split_found P None it h = absurd (cc)
split_found P (Some c) it h = (c, refl, h)

pub none_later : (P : Spe) (n : ℕ) → shown_from P n ≡ None → later n P ≡ []
unfolding outstanding_of
none_later P n h = on (find (nat_le n) (outstanding P)) refl h
  where
    on : (o : Option ℕ) → find (nat_le n) (outstanding P) ≡ o → option_and_then (shown_at P.moves) o ≡ None → later n P ≡ []
    on None e f = none_found (nat_le n) (outstanding P) e
    on (Some c) e f =
        let within = found_within n (is_open P) 0 (length P.moves.issued) c e in
        let it = shown_there P c (omega (arith, within)) in
        absurd (let g = it.1 in cc)

-- the next command, in front of the others
pub next_later : (P : Spe) (n : ℕ) (it : Outstanding) → shown_from P n ≡ Some it
    → (later n P ≡ it.number ∷ later (it.number + 1) P) × (shown_at P.moves it.number ≡ Some it) × (it.number < length P.moves.issued)
unfolding outstanding_of
next_later P n it h =
    let c = split_found P (find (nat_le n) (outstanding P)) it h in
    let number = number_is P c.0 it c.2 in
    let first = found_first n (is_open P) 0 (length P.moves.issued) c.0 c.1 in
    let within = found_within n (is_open P) 0 (length P.moves.issued) c.0 c.1 in
    (subst (λ x. later n P ≡ x ∷ later (x + 1) P) (sym number) first, subst (λ x. shown_at P.moves x ≡ Some it) (sym number) c.2, omega (arith, within, number))

pub one_command : (out new whole : List ℕ) (p n next : ℕ) (P : Spe) (it : Outstanding) → shown_from P n ≡ Some it → next ≡ it.number + 1 → new ≡ out ++ command_line p it
    → out ++ command_lines p P (later n P) ≡ whole → new ++ command_lines p P (later next P) ≡ whole
unfolding command_lines
one_command out new whole p n next P it h is wrote so_far =
    let k = next_later P n it h in
    let here : command_lines p P (later n P) ≡ command_line p it ++ command_lines p P (later (it.number + 1) P) = rw (k.0, k.1) refl in
    rw (is, wrote) (append_assoc out (command_line p it) (command_lines p P (later (it.number + 1) P)) ∙ ap (λ t. out ++ t) (sym here) ∙ so_far)

pub fewer_left : (n next i most : ℕ) (P : Spe) (it : Outstanding) → shown_from P n ≡ Some it → next ≡ it.number + 1 → length (later n P) + i ≤ most → length (later next P) + (i + 1) ≤ most
fewer_left n next i most P it h is few =
    let k = next_later P n it h in
    let long : length (later n P) ≡ suc (length (later (it.number + 1) P)) = ap length k.0 in
    rw is (omega (arith, long, few))

pub no_command : (out whole : List ℕ) (p n : ℕ) (P : Spe) → later n P ≡ [] → out ++ command_lines p P (later n P) ≡ whole → out ≡ whole
unfolding command_lines
no_command out whole p n P none so_far = sym (append-nil out) ∙ (rw none at so_far)

filter_few : (f : ℕ → Bool) (xs : List ℕ) → length (filter f xs) ≤ length xs
filter_few f [] = omega arith
filter_few f (x ∷ xs) = on (f x) refl (filter_few f xs)
  where
    on : (b : Bool) → f x ≡ b → length (filter f xs) ≤ length xs → length (filter f (x ∷ xs)) ≤ length (x ∷ xs)
    on true e rest = rw e (omega (arith, rest))
    on false e rest = rw e (omega (arith, rest))

range_long : (a k : ℕ) → length (range_with_len a k) ≡ k
range_long a zero = refl
range_long a (suc k) = ap suc (range_long (a + 1) k)

-- at the start all are left, which are as many as were issued at most
pub all_left : (P : Spe) (most : ℕ) → length P.moves.issued ≤ most → (later 0 P ≡ outstanding P) × (length (later 0 P) + 0 ≤ most)
unfolding outstanding_of
all_left P most few =
    let all = all_later 0 (is_open P) 0 (length P.moves.issued) (omega arith) in
    let short = filter_few (is_open P) (range_with_len 0 (length P.moves.issued)) in
    let long = range_long 0 (length P.moves.issued) in
    let same = ap length all in
    (all, omega (arith, short, long, same, few))
