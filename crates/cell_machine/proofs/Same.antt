-- What is said of a command is a function of what was done of it.
use Rattle.std.proofs.Common.{◌≡◌, ◌≢◌, ℕ, zero, suc, ◌+◌, ◌<◌, ◌≤◌, ◌==◌, ◌||◌, ◌&&◌, not, Bool, true, false, List, [], ◌∷◌, ◌++◌, length, arith, refl, sym, ◌∙◌, ap, subst, true≢false}
use Rattle.std.specs.Prelude.{Option, Some, None, is_some, slice_get, nat_lt, cond, map, filter, option_and_then}
use Rattle.std.specs.List.{list_any, list_all, range_with_len, last_or}
use Rattle.std.specs.Option.{option_map_or}
use Rattle.std.proofs.lemmas.List.Folds.{list_any-append}
use Rattle.std.proofs.lemmas.Bool.Decides.{nat_tests}
use mathlib.Core.Path.{fun_ext}
use Rattle.mfc_command.specs.declared.command.Command.{Command}
use Rattle.mfc_command.specs.Order.{is_list}
use Rattle.mfc_lists.specs.declared.Element.{Element}
use Rattle.cell_machine.specs.Spe.{Moves, ElementRead, PartDone, Stall}
use Rattle.cell_machine.specs.Moves.{is_moved, read_of, whole, elements_in, elements_of, present, parts_in, is_done, is_finished, is_resumed, stall_of, was_retired, is_complete_as, is_complete}
use Rattle.cell_machine.specs.Transfers.{with_done, with_read, with_retired}
use Rattle.cell_machine.specs.Channels.{with_issued, with_resumed}
use Rattle.cell_machine.specs.MovesShown.{IsUntouched, AreElements, parts_now}
use Rattle.cell_machine.proofs.Staying.{other-read, both}

-- ---- tests

pub or_false : (b : Bool) → (b || false) ≡ b
or_false true = refl
or_false false = refl

pub or_true : (b : Bool) → (b || true) ≡ true
or_true true = refl
or_true false = refl

pub eq_same : (a : ℕ) → (a == a) ≡ true
eq_same a = grind (arith, nat_tests)

pub eq_off : (a b : ℕ) → a ≢ b → (a == b) ≡ false
eq_off a b h = grind (arith, nat_tests)

pub eq_is : (a b : ℕ) → (a == b) ≡ true → a ≡ b
eq_is a b h = grind (arith, nat_tests)

pub eq_not : (a b : ℕ) → (a == b) ≡ false → a ≢ b
eq_not a b h = grind (arith, nat_tests)

pub lt_is : (a b : ℕ) → nat_lt a b ≡ true → a < b
lt_is a b h = grind (arith, nat_tests)

-- two functions are one where they agree at c and elsewhere
pub agree : (f g : ℕ → Bool) (c : ℕ) → f c ≡ g c → ((k : ℕ) → c ≢ k → f k ≡ g k) → f ≡ g
agree f g c here else_where = fun_ext (λ k. on k (c == k) refl)
  where
    on : (k : ℕ) (b : Bool) → (c == k) ≡ b → f k ≡ g k
    on k true e = subst (λ j. f j ≡ g j) (eq_is c k e) here
    on k false e = else_where k (eq_not c k e)

-- ---- lists

pub get-within : {X : Type 0} (xs : List X) (i : ℕ) (x : X) → slice_get xs i ≡ Some x → i < length xs
get-within [] i x h = absurd (cc)
get-within (y ∷ xs) zero x h = omega arith
get-within (y ∷ xs) (suc i) x h = let r = get-within xs i x h in omega arith

pub get-past : {X : Type 0} (xs : List X) (i : ℕ) → length xs ≤ i → slice_get xs i ≡ None
get-past [] i h = refl
get-past (y ∷ xs) zero h = absurd (omega arith)
get-past (y ∷ xs) (suc i) h = get-past xs i (omega arith)

pub get-left : {X : Type 0} (xs ys : List X) (i : ℕ) → i < length xs → slice_get (xs ++ ys) i ≡ slice_get xs i
get-left [] ys i h = absurd (omega arith)
get-left (x ∷ xs) ys zero h = refl
get-left (x ∷ xs) ys (suc i) h = get-left xs ys i (omega arith)

pub get-last : {X : Type 0} (xs : List X) (x : X) → slice_get (xs ++ x ∷ []) (length xs) ≡ Some x
get-last [] x = refl
get-last (y ∷ xs) x = get-last xs x

-- an element of a list with one more is that one, or one of the list
pub get-cases : {X : Type 0} (xs : List X) (x y : X) (k : ℕ) (Q : Type 0) → slice_get (xs ++ x ∷ []) k ≡ Some y → (k ≡ length xs → y ≡ x → Q) → (slice_get xs k ≡ Some y → Q) → Q
get-cases [] x y zero Q at new old = new refl (cc)
get-cases [] x y (suc k) Q at new old = absurd (cc)
get-cases (z ∷ xs) x y zero Q at new old = old at
get-cases (z ∷ xs) x y (suc k) Q at new old = get-cases xs x y k Q at (λ e. new (ap suc e)) old

-- what is so of command c and of each other one is so of all
pub by-number : (commands : List Command) (c : ℕ) (d : Command) (P : ℕ → Command → Type 0) → slice_get commands c ≡ Some d → P c d
    → ((k : ℕ) (g : Command) → c ≢ k → slice_get commands k ≡ Some g → P k g) → (k : ℕ) (g : Command) → slice_get commands k ≡ Some g → P k g
by-number commands c d P at own others k g there = on (c == k) refl
  where
    some_same : Some d ≡ Some g → d ≡ g
    some_same e = cc

    on : (b : Bool) → (c == k) ≡ b → P k g
    on false e = others k g (eq_not c k e) there
    on true e = let n : c ≡ k = eq_is c k e in subst (λ j. P j g) n (subst (λ x. P c x) (some_same (sym at ∙ ap (slice_get commands) n ∙ there)) own)

pub any_none : {X : Type 0} (f : X → Bool) (xs ys : List X) → list_any f ys ≡ false → list_any f (xs ++ ys) ≡ list_any f xs
any_none f [] ys h = h
any_none f (x ∷ xs) ys h = ap (λ b. f x || b) (any_none f xs ys h)

pub range-fails : (f : ℕ → Bool) (from n k : ℕ) → from ≤ k → k < from + n → f k ≡ false → list_all f (range_with_len from n) ≡ false
range-fails f from zero k low high h = absurd (omega arith)
range-fails f from (suc n) k low high h = on (from == k) refl (λ above. range-fails f (from + 1) n k above (omega (arith, high)) h)
  where
    and_false : (b : Bool) → (b && false) ≡ false
    and_false true = refl
    and_false false = refl

    on : (b : Bool) → (from == k) ≡ b → (from + 1 ≤ k → list_all f (range_with_len (from + 1) n) ≡ false) → (f from && list_all f (range_with_len (from + 1) n)) ≡ false
    on true e rest = ap (λ b. b && list_all f (range_with_len (from + 1) n)) (ap f (eq_is from k e) ∙ h)
    on false e rest = let above : from + 1 ≤ k = grind (arith, nat_tests) in ap (λ b. f from && b) (rest above) ∙ and_false (f from)

snoc-of : (y : Element) (ys : List Element) (x : Element) → last_or (Some y) ys ≡ Some x → (zs : List Element) × (y ∷ ys ≡ zs ++ x ∷ [])
snoc-of y [] x e = let same : y ≡ x = cc in ([], ap (λ z. z ∷ []) same)
snoc-of y (z ∷ zs) x e = let r = snoc-of z zs x e in (y ∷ r.0, ap (λ l. y ∷ l) r.1)

-- a list that has a last element ends in it
pub snoc-of-all : (xs : List Element) (x : Element) → last_or None xs ≡ Some x → (zs : List Element) × (xs ≡ zs ++ x ∷ [])
snoc-of-all [] x e = absurd (cc)
snoc-of-all (y ∷ ys) x e = snoc-of y ys x e

pub all-snoc : (f : Element → Bool) (xs : List Element) (x : Element) → list_all f xs ≡ true → list_all f (xs ++ x ∷ []) ≡ f x
all-snoc f [] x h = on (f x)
  where
    on : (b : Bool) → (b && true) ≡ b
    on true = refl
    on false = refl
all-snoc f (y ∷ ys) x h = on (f y) h (all-snoc f ys x)
  where
    on : (b : Bool) → (b && list_all f ys) ≡ true → (list_all f ys ≡ true → list_all f (ys ++ x ∷ []) ≡ f x) → (b && list_all f (ys ++ x ∷ [])) ≡ f x
    on true e k = k e
    on false e k = absurd (true≢false (sym e))

snoc-fails : (f : Element → Bool) (xs : List Element) (x : Element) → f x ≡ false → list_all f (xs ++ x ∷ []) ≡ false
snoc-fails f [] x h = ap (λ b. b && true) h
snoc-fails f (y ∷ ys) x h = on (f y) (snoc-fails f ys x h)
  where
    on : (b : Bool) → list_all f (ys ++ x ∷ []) ≡ false → (b && list_all f (ys ++ x ∷ [])) ≡ false
    on true e = e
    on false e = refl

-- not all are, where the last isn't
pub last-fails : (f : Element → Bool) (xs : List Element) (x : Element) → last_or None xs ≡ Some x → f x ≡ false → list_all f xs ≡ false
last-fails f xs x e h = let s = snoc-of-all xs x e in ap (list_all f) s.1 ∙ snoc-fails f s.0 x h

pub all-at : (f : Element → Bool) (ys : List Element) (n : ℕ) (y : Element) → list_all f ys ≡ true → slice_get ys n ≡ Some y → f y ≡ true
all-at f [] n y h e = absurd (cc)
all-at f (z ∷ ys) zero y h e = let same : z ≡ y = cc in ap f (sym same) ∙ (both (f z) (list_all f ys) h).0
all-at f (z ∷ ys) (suc n) y h e = all-at f ys n y ((both (f z) (list_all f ys) h).1) e

pub empty : (xs : List Element) → length xs ≡ 0 → xs ≡ []
empty [] h = refl
empty (x ∷ xs) h = absurd (omega (arith, h))

pub some_same : {X : Type 0} (a b : X) → Some a ≡ Some b → a ≡ b
some_same a b e = cc

-- ---- what is said of a command is a function of what was done of it

-- of command c the same was done
pub record SameOf (m n : Moves) (c : ℕ) : Type 0 where
  pub read : read_of n.read c ≡ read_of m.read c
  pub done : is_done n.done c ≡ is_done m.done c
  pub retired : was_retired n.retired c ≡ was_retired m.retired c
  pub resumed : is_resumed n.resumed c ≡ is_resumed m.resumed c

abbrev pub a_stall : ℕ → Element → Stall
a_stall c x = record { cmd = c; elem = x.number }

-- the elements by those that were read, whether one is ended, and the stall
abbrev pub elements_by : Command → List Element → List Element
elements_by d xs = cond (is_list d.kind) xs (whole d ∷ [])

abbrev pub ended : (ℕ → ℕ → Bool) → Element → Bool
ended done x = list_all (done x.number) (range_with_len 0 (parts_in x))

abbrev pub stall_by : ℕ → (ℕ → ℕ → Bool) → (ℕ → Bool) → List Element → Option Stall
stall_by c done was xs = option_and_then (λ x. cond (x.flagged && ended done x && not (was x.number)) (Some (a_stall c x)) None) (last_or None xs)

abbrev complete_by : ℕ → Command → (ℕ → ℕ → Bool) → (ℕ → Bool) → Bool → List Element → Bool
complete_by c d done was retired xs = cond (is_moved d) (length xs == elements_in d && (list_all (ended done) xs && not (is_some (stall_by c done was xs)))) retired

pub stall-as : (m : Moves) (c : ℕ) (d : Command) → stall_of m c d ≡ stall_by c (is_done m.done c) (is_resumed m.resumed c) (elements_of m.read c d)
unfolding stall_of present is_finished
stall-as m c d = refl

complete-as : (m : Moves) (c : ℕ) (d : Command)
    → is_complete_as m c d ≡ complete_by c d (is_done m.done c) (is_resumed m.resumed c) (was_retired m.retired c) (elements_of m.read c d)
unfolding is_complete_as stall_of present is_finished
complete-as m c d = refl

pub same-present : (m n : Moves) (c : ℕ) (d : Command) → SameOf m n c → present n.read c d ≡ present m.read c d
unfolding present
same-present m n c d s = ap (λ xs. last_or None (elements_by d xs)) s.read

pub same-stall : (m n : Moves) (c : ℕ) (d : Command) → SameOf m n c → stall_of n c d ≡ stall_of m c d
same-stall m n c d s =
    stall-as n c d
    ∙ ap (λ f. stall_by c f (is_resumed n.resumed c) (elements_of n.read c d)) s.done
    ∙ ap (λ f. stall_by c (is_done m.done c) f (elements_of n.read c d)) s.resumed
    ∙ ap (λ xs. stall_by c (is_done m.done c) (is_resumed m.resumed c) (elements_by d xs)) s.read
    ∙ sym (stall-as m c d)

pub same-complete_as : (m n : Moves) (c : ℕ) (d : Command) → SameOf m n c → is_complete_as n c d ≡ is_complete_as m c d
same-complete_as m n c d s =
    complete-as n c d
    ∙ ap (λ f. complete_by c d f (is_resumed n.resumed c) (was_retired n.retired c) (elements_of n.read c d)) s.done
    ∙ ap (λ f. complete_by c d (is_done m.done c) f (was_retired n.retired c) (elements_of n.read c d)) s.resumed
    ∙ ap (λ b. complete_by c d (is_done m.done c) (is_resumed m.resumed c) b (elements_of n.read c d)) s.retired
    ∙ ap (λ xs. complete_by c d (is_done m.done c) (is_resumed m.resumed c) (was_retired m.retired c) (elements_by d xs)) s.read
    ∙ sym (complete-as m c d)

pub complete-none : (m : Moves) (c : ℕ) → slice_get m.issued c ≡ None → is_complete m c ≡ false
unfolding is_complete
complete-none m c at = rw at refl

pub complete-at : (m : Moves) (c : ℕ) (d : Command) → slice_get m.issued c ≡ Some d → is_complete m c ≡ is_complete_as m c d
unfolding is_complete
complete-at m c d at = rw at refl

pub same-complete : (m n : Moves) (c : ℕ) → n.issued ≡ m.issued → SameOf m n c → is_complete n c ≡ is_complete m c
unfolding is_complete
same-complete m n c issued s = ap (λ commands. option_map_or (is_complete_as n c) (slice_get commands c) false) issued ∙ on (slice_get m.issued c)
  where
    on : (o : Option Command) → option_map_or (is_complete_as n c) o false ≡ option_map_or (is_complete_as m c) o false
    on None = refl
    on (Some d) = same-complete_as m n c d s

pub same-parts : (m n : Moves) (c : ℕ) (d : Command) → SameOf m n c → parts_now n.read c d ≡ parts_now m.read c d
same-parts m n c d s = ap (λ o. cond (is_moved d) (option_map_or parts_in o 0) 0) (same-present m n c d s)

pub same-untouched : (m n : Moves) (c : ℕ) → SameOf m n c → IsUntouched m c → IsUntouched n c
same-untouched m n c s none = record {
  read = ap length s.read ∙ none.read;
  done = λ e k. ap (λ f. f e k) s.done ∙ none.done e k;
  retired = s.retired ∙ none.retired;
  resumed = λ e. ap (λ f. f e) s.resumed ∙ none.resumed e;
}

pub same-elements : (m n : Moves) (c : ℕ) (d : Command) → SameOf m n c → AreElements m c d → AreElements n c d
unfolding is_finished
same-elements m n c d s els =
    let elements : elements_of m.read c d ≡ elements_of n.read c d = ap (elements_by d) (sym s.read) in
    let last : present m.read c d ≡ present n.read c d = sym (same-present m n c d s) in
    record {
      few = subst (λ l. length l ≤ elements_in d) elements els.few;
      numbers = λ i x e. els.numbers i x (ap (λ l. slice_get l i) elements ∙ e);
      earlier = λ i x y e p b. ap (λ f. ended f x) s.done ∙ els.earlier i x y (ap (λ l. slice_get l i) elements ∙ e) (last ∙ p) b;
      later = λ e k b. ap (λ f. f e k) s.done ∙ els.later e k (subst (λ l. length l ≤ e) (sym elements) b);
      not_resumed = λ e b. ap (λ f. f e) s.resumed ∙ els.not_resumed e (subst (λ l. length l ≤ e) (sym elements) b);
      resumed = λ x p left. ap (λ f. f x.number) s.resumed ∙ els.resumed x (last ∙ p) (ap (λ f. ended f x) (sym s.done) ∙ left);
    }

-- ---- what is added of one command leaves the others

pub done-more : (m : Moves) (c e k c2 e2 k2 : ℕ) → is_done (with_done m c e k).done c2 e2 k2 ≡ (is_done m.done c2 e2 k2 || (c == c2 && e == e2 && k == k2))
unfolding is_done
done-more m c e k c2 e2 k2 =
    list_any-append (λ (d : PartDone). d.cmd == c2 && d.elem == e2 && d.part == k2) m.done (record { cmd = c; elem = e; part = k } ∷ [])
    ∙ ap (λ b. list_any (λ (d : PartDone). d.cmd == c2 && d.elem == e2 && d.part == k2) m.done || b) (or_false (c == c2 && e == e2 && k == k2))

pub done-elsewhere : (m : Moves) (c e k c2 : ℕ) → c ≢ c2 → SameOf m (with_done m c e k) c2
done-elsewhere m c e k c2 differs = record { read = refl; done = fun_ext (λ e2. fun_ext (λ k2. done-more m c e k c2 e2 k2 ∙ off e2 k2)); retired = refl; resumed = refl }
  where
    off : (e2 k2 : ℕ) → (is_done m.done c2 e2 k2 || (c == c2 && e == e2 && k == k2)) ≡ is_done m.done c2 e2 k2
    off e2 k2 = ap (λ b. is_done m.done c2 e2 k2 || (b && e == e2 && k == k2)) (eq_off c c2 differs) ∙ or_false (is_done m.done c2 e2 k2)

own-read : (reads : List ElementRead) (c : ℕ) (x : Element)
    → map (λ (r : ElementRead). r.element) (filter (λ r. r.cmd == c) (reads ++ record { cmd = c; element = x } ∷ [])) ≡ map (λ (r : ElementRead). r.element) (filter (λ r. r.cmd == c) reads) ++ x ∷ []
own-read [] c x = ap (λ b. map (λ (r : ElementRead). r.element) (cond b (record { cmd = c; element = x } ∷ []) [])) (eq_same c)
own-read (r ∷ reads) c x = on (filter (λ r. r.cmd == c) (reads ++ record { cmd = c; element = x } ∷ [])) (filter (λ r. r.cmd == c) reads) (r.cmd == c) (own-read reads c x)
  where
    on : (xs ys : List ElementRead) (b : Bool) → map (λ (r : ElementRead). r.element) xs ≡ map (λ (r : ElementRead). r.element) ys ++ x ∷ []
        → map (λ (r : ElementRead). r.element) (cond b (r ∷ xs) xs) ≡ map (λ (r : ElementRead). r.element) (cond b (r ∷ ys) ys) ++ x ∷ []
    on xs ys true q = ap (λ zs. r.element ∷ zs) q
    on xs ys false q = q

pub read-more : (m : Moves) (c : ℕ) (x : Element) → read_of (with_read m c x).read c ≡ read_of m.read c ++ x ∷ []
unfolding read_of
read-more m c x = own-read m.read c x

pub read-elsewhere : (m : Moves) (c : ℕ) (x : Element) (c2 : ℕ) → c ≢ c2 → SameOf m (with_read m c x) c2
unfolding read_of
read-elsewhere m c x c2 differs = record { read = other-read m.read c2 c x (eq_off c c2 differs); done = refl; retired = refl; resumed = refl }

pub retired-elsewhere : (m : Moves) (c c2 : ℕ) → c ≢ c2 → SameOf m (with_retired m c) c2
retired-elsewhere m c c2 differs = record { read = refl; done = refl; retired = any_none (λ r. r == c2) m.retired (c ∷ []) (ap (λ b. b || false) (eq_off c c2 differs)); resumed = refl }

pub resumed-elsewhere : (m : Moves) (stalls : List Stall) (c : ℕ) → ((e : ℕ) → is_resumed stalls c e ≡ false) → SameOf m (with_resumed m stalls) c
resumed-elsewhere m stalls c none = record { read = refl; done = refl; retired = refl; resumed = fun_ext (λ e. any_none (λ (s : Stall). s.cmd == c && s.elem == e) m.resumed stalls (none e)) }

pub issued-elsewhere : (m : Moves) (d : Command) (c : ℕ) → SameOf m (with_issued m d) c
issued-elsewhere m d c = record { read = refl; done = refl; retired = refl; resumed = refl }
