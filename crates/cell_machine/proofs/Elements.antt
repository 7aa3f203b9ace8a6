-- The elements of a command stay in order, whatever is added to the moves.
use Rattle.std.proofs.Common.{◌≡◌, ℕ, zero, suc, ◌==◌, ◌&&◌, ◌||◌, ◌<◌, ◌≤◌, ◌+◌, not, Bool, true, false, List, [], ◌∷◌, ◌++◌, length, refl, sym, ◌∙◌, ap, subst, true≢false, arith, length-append}
use Rattle.std.proofs.lemmas.Bool.Decides.{nat_tests}
use Rattle.std.proofs.lemmas.List.Folds.{list_any-append}
use Rattle.std.specs.Prelude.{Option, Some, None, slice_get, cond, option_and_then, nat_lt}
use Rattle.std.specs.List.{list_any, list_all, range_with_len, last_or}
use Rattle.std.specs.Option.{option_map_or}
use Rattle.mfc_command.specs.declared.command.Command.{Command}
use Rattle.mfc_command.specs.Order.{is_list}
use Rattle.mfc_lists.specs.declared.Element.{Element}
use Rattle.mfc_lists.proofs.ReadingLemmas.{last_or-snoc}
use Rattle.cell_machine.specs.Spe.{Moves, Stall, PartDone, ElementRead}
use Rattle.cell_machine.specs.Channels.{with_issued, with_resumed}
use Rattle.cell_machine.specs.Transfers.{with_done, with_read, has_part, is_part_left, has_element}
use Rattle.cell_machine.specs.Moves.{is_moved, read_of, whole, elements_in, elements_of, are_all_there, is_at_rest, present, parts_in, is_done, is_finished, is_resumed, stalls_behind, stall_of, is_stalled}
use Rattle.cell_machine.specs.MovesShown.{AreElements, IsUntouched}
use Rattle.cell_machine.proofs.Staying.{any_more, all_more, both, not_true}
use Rattle.cell_machine.proofs.Same.{some_same, snoc-of-all, get-last, all-at, any_none, empty, a_stall, read-more}

-- ---- lists

data Came (ys : List Element) (x : Element) (n : ℕ) (y : Element) : Type 0 where
  before : slice_get ys n ≡ Some y → n < length ys → Came ys x n y
  here : n ≡ length ys → y ≡ x → Came ys x n y

deeper : (z : Element) (ys : List Element) (x : Element) (n : ℕ) (y : Element) → Came ys x n y → Came (z ∷ ys) x (suc n) y
deeper z ys x n y (before e b) = before e (omega (arith, b))
deeper z ys x n y (here e same) = here (omega (arith, e)) same

came : (ys : List Element) (x : Element) (n : ℕ) (y : Element) → slice_get (ys ++ x ∷ []) n ≡ Some y → Came ys x n y
came [] x zero y e = let same : y ≡ x = cc in here refl same
came [] x (suc n) y e = absurd (cc)
came (z ∷ ys) x zero y e = before e (omega arith)
came (z ∷ ys) x (suc n) y e = deeper z ys x n y (came ys x n y e)

-- a test fails on both of two lists
pub any_neither : {X : Type 0} (f : X → Bool) (xs ys : List X) → list_any f xs ≡ false → list_any f ys ≡ false → list_any f (xs ++ ys) ≡ false
any_neither f xs ys h k = list_any-append f xs ys ∙ ap (λ b. b || list_any f ys) h ∙ k

pub not_on : (b : Bool) → (b ≡ true → ⊥) → b ≡ false
not_on true h = absurd (h refl)
not_on false h = refl

-- ---- what stands in the definitions

-- of a list the elements are those that were read
pub list-elements : (read : List ElementRead) (c : ℕ) (d : Command) → is_list d.kind ≡ true → elements_of read c d ≡ read_of read c
list-elements read c d h = rw h refl

pub present-last : (read : List ElementRead) (c : ℕ) (d : Command) → present read c d ≡ last_or None (elements_of read c d)
unfolding present
present-last read c d = refl

-- the part is one of the present element's, which has this number
pub record IsLeftOf (m : Moves) (c e k : ℕ) (d : Command) : Type 0 where
  pub element : Element
  pub moved : is_moved d ≡ true
  pub there : present m.read c d ≡ Some element
  pub number : element.number ≡ e
  pub within : k < parts_in element
  pub left : is_done m.done c e k ≡ false

pub part-is : (m : Moves) (c e k : ℕ) (d : Command) → has_part m c e k d ≡ true → IsLeftOf m c e k d
part-is m c e k d h =
    let two = both (is_moved d) (option_map_or (is_part_left m.done c e k) (present m.read c d) false) h in
    at (present m.read c d) refl two.0 two.1
  where
    at : (o : Option Element) → present m.read c d ≡ o → is_moved d ≡ true → option_map_or (is_part_left m.done c e k) o false ≡ true → IsLeftOf m c e k d
    at None p g q = absurd (true≢false (sym q))
    at (Some x) p g q =
        let rest = both (x.number == e && nat_lt k (parts_in x)) (not (is_done m.done c e k)) q in
        let one = both (x.number == e) (nat_lt k (parts_in x)) rest.0 in
        let low = one.1 in
        let same = one.0 in
        record { element = x; moved = g; there = p; number = grind (arith, nat_tests, same); within = grind (arith, nat_tests, low); left = not_true _ rest.1 }

-- the command is stalled behind its present element
pub record StandsBehind (m : Moves) (c : ℕ) (d : Command) (s : Stall) : Type 0 where
  pub element : Element
  pub is_present : present m.read c d ≡ Some element
  pub cmd : s.cmd ≡ c
  pub elem : s.elem ≡ element.number
  pub stalls : stalls_behind m c element ≡ true

pub stall-is : (m : Moves) (c : ℕ) (d : Command) (s : Stall) → stall_of m c d ≡ Some s → StandsBehind m c d s
unfolding stall_of
stall-is m c d s e = at (present m.read c d) refl e
  where
    if_so : (x : Element) → present m.read c d ≡ Some x → (b : Bool) → stalls_behind m c x ≡ b → cond b (Some (a_stall c x)) None ≡ Some s → StandsBehind m c d s
    if_so x p false q k = absurd (cc)
    if_so x p true q k =
        let same : a_stall c x ≡ s = cc in
        record { element = x; is_present = p; cmd = sym (ap (λ (z : Stall). z.cmd) same); elem = sym (ap (λ (z : Stall). z.elem) same); stalls = q }

    at : (o : Option Element) → present m.read c d ≡ o → option_and_then (λ x. cond (stalls_behind m c x) (Some (a_stall c x)) None) o ≡ Some s → StandsBehind m c d s
    at None p k = absurd (cc)
    at (Some x) p k = if_so x p (stalls_behind m c x) refl k

-- what a list has that may read an element
pub record MayRead (m : Moves) (c : ℕ) (d : Command) : Type 0 where
  pub list : is_list d.kind ≡ true
  pub left : are_all_there m.read c d ≡ false
  pub finished : list_all (is_finished m.done c) (read_of m.read c) ≡ true
  pub goes_on : is_stalled m c d ≡ false

pub element-is : (m : Moves) (c : ℕ) (d : Command) → has_element m c d ≡ true → MayRead m c d
element-is m c d h =
    let two = both (is_list d.kind && not (are_all_there m.read c d)) (is_at_rest m c d) h in
    let one = both (is_list d.kind) (not (are_all_there m.read c d)) two.0 in
    let rest = both (list_all (is_finished m.done c) (elements_of m.read c d)) (not (is_stalled m c d)) two.1 in
    record {
      list = one.0;
      left = not_true _ one.1;
      finished = ap (λ xs. list_all (is_finished m.done c) xs) (sym (list-elements m.read c d one.0)) ∙ rest.0;
      goes_on = not_true _ rest.1;
    }

-- ---- the elements stay in order

-- the present element is the last
pub last-number : (m : Moves) (c : ℕ) (d : Command) (x : Element) → AreElements m c d → present m.read c d ≡ Some x → x.number + 1 ≡ length (elements_of m.read c d)
last-number m c d x els p =
    let s = snoc-of-all (elements_of m.read c d) x (sym (present-last m.read c d) ∙ p) in
    let at : slice_get (elements_of m.read c d) (length s.0) ≡ Some x = ap (λ l. slice_get l (length s.0)) s.1 ∙ get-last s.0 x in
    let number : x.number ≡ length s.0 = els.numbers (length s.0) x at in
    let size : length (elements_of m.read c d) ≡ length s.0 + 1 = ap length s.1 ∙ grind (arith, length-append) in
    omega (arith, number, size)

-- an element was read
pub elements-read : (m : Moves) (c : ℕ) (d : Command) (x : Element) → has_element m c d ≡ true → x.number ≡ length (read_of m.read c) → AreElements m c d → AreElements (with_read m c x) c d
elements-read m c d x has number els =
    let may = element-is m c d has in
    let now : elements_of (with_read m c x).read c d ≡ read_of m.read c ++ x ∷ [] = list-elements (with_read m c x).read c d may.list ∙ read-more m c x in
    let old : elements_of m.read c d ≡ read_of m.read c = list-elements m.read c d may.list in
    let size : length (elements_of m.read c d) ≡ length (read_of m.read c) = ap length old in
    let longer : length (elements_of (with_read m c x).read c d) ≡ length (read_of m.read c) + 1 = ap length now ∙ grind (arith, length-append) in
    let last : present (with_read m c x).read c d ≡ Some x = present-last (with_read m c x).read c d ∙ ap (λ xs. last_or None xs) now ∙ last_or-snoc None (read_of m.read c) x in
    record {
      few = let most = els.few in let less : (length (elements_of m.read c d) == elements_in d) ≡ false = may.left in one_less (length (elements_of m.read c d)) (elements_in d) _ most less (omega (arith, longer, size));
      numbers = λ i y e. numbered may.list i y (came (read_of m.read c) x i y (ap (λ l. slice_get l i) (sym now) ∙ e));
      earlier = λ i y z e p b. let same : z ≡ x = some_same z x (sym p ∙ last) in ended_before may.finished i y (came (read_of m.read c) x i y (ap (λ l. slice_get l i) (sym now) ∙ e)) (subst (λ w. i < w.number) same b);
      later = λ e k b. els.later e k (omega (arith, b, longer, size));
      not_resumed = λ e b. els.not_resumed e (omega (arith, b, longer, size));
      resumed = λ y p left. let same : y ≡ x = some_same y x (sym p ∙ last) in subst (λ w. is_resumed m.resumed c w.number ≡ false) (sym same) (els.not_resumed x.number (omega (arith, number, size)));
    }
  where
    one_less : (a b n : ℕ) → a ≤ b → (a == b) ≡ false → n ≡ a + 1 → n ≤ b
    one_less a b n h e g = grind (arith, nat_tests)

    numbered : is_list d.kind ≡ true → (i : ℕ) (y : Element) → Came (read_of m.read c) x i y → y.number ≡ i
    numbered h i y (before e b) = els.numbers i y (ap (λ l. slice_get l i) (list-elements m.read c d h) ∙ e)
    numbered h i y (here e same) = ap (λ w. w.number) same ∙ number ∙ sym e

    ended_before : list_all (is_finished m.done c) (read_of m.read c) ≡ true → (i : ℕ) (y : Element) → Came (read_of m.read c) x i y → i < x.number → is_finished m.done c y ≡ true
    ended_before all i y (before e b) low = all-at (is_finished m.done c) (read_of m.read c) i y all e
    ended_before all i y (here e same) low = absurd (omega (arith, e, number, low))

-- a part was copied
pub finished-more : (m : Moves) (a e k c : ℕ) (y : Element) → is_finished m.done c y ≡ true → is_finished (with_done m a e k).done c y ≡ true
unfolding is_finished is_done
finished-more m a e k c y h = all_more (is_done m.done c y.number) (is_done (with_done m a e k).done c y.number) (range_with_len 0 (parts_in y))
    (λ j. any_more (λ (z : PartDone). z.cmd == c && z.elem == y.number && z.part == j) m.done (record { cmd = a; elem = e; part = k } ∷ [])) h

other-element : (c x e k j : ℕ) → x < e → (c == c && x == e && k == j) ≡ false
other-element c x e k j b =
    let differs : (x == e) ≡ false = grind (arith, nat_tests) in
    let same : (c == c) ≡ true = grind (arith, nat_tests) in
    ap (λ p. p && x == e && k == j) same ∙ ap (λ p. p && k == j) differs

later-done : (done : List PartDone) (c x e k j : ℕ) → x < e → is_done (done ++ record { cmd = c; elem = x; part = k } ∷ []) c e j ≡ is_done done c e j
unfolding is_done
later-done done c x e k j b = any_none (λ (z : PartDone). z.cmd == c && z.elem == e && z.part == j) done (record { cmd = c; elem = x; part = k } ∷ []) (ap (λ p. p || false) (other-element c x e k j b))

pub elements-done : (m : Moves) (c e k : ℕ) (d : Command) → has_part m c e k d ≡ true → AreElements m c d → AreElements (with_done m c e k) c d
elements-done m c e k d has els =
    let of = part-is m c e k d has in
    let last = last-number m c d of.element els of.there in
    let number = of.number in
    record {
      few = els.few;
      numbers = els.numbers;
      earlier = λ i y z g q b. finished-more m c e k c y (els.earlier i y z g q b);
      later = λ f j b. later-done m.done c e f k j (omega (arith, last, number, b)) ∙ els.later f j b;
      not_resumed = els.not_resumed;
      resumed = λ y q left. els.resumed y q (not_before (is_finished m.done c y) (is_finished (with_done m c e k).done c y) (finished-more m c e k c y) left);
    }
  where
    not_before : (a b : Bool) → (a ≡ true → b ≡ true) → b ≡ false → a ≡ false
    not_before true b g h = sym (g refl) ∙ h
    not_before false b g h = refl

-- stalls were acknowledged, of this command only that behind its present element
abbrev pub is_stall_of : ℕ → ℕ → Stall → Bool
is_stall_of c e s = s.cmd == c && s.elem == e

abbrev pub AreStallsOf : Moves → ℕ → Command → List Stall → Type 0
AreStallsOf m c d stalls = (e : ℕ) → list_any (is_stall_of c e) stalls ≡ true → (s : Stall) × (stall_of m c d ≡ Some s) × (s.elem ≡ e)

pub elements-acknowledged : (m : Moves) (c : ℕ) (d : Command) (stalls : List Stall) → AreStallsOf m c d stalls → AreElements m c d → AreElements (with_resumed m stalls) c d
elements-acknowledged m c d stalls own els = record {
  few = els.few;
  numbers = els.numbers;
  earlier = els.earlier;
  later = els.later;
  not_resumed = λ e b. any_neither (is_stall_of c e) m.resumed stalls (els.not_resumed e b) (not_on _ (λ h.
      let s = own e h in
      let w = stall-is m c d s.0 s.1 in
      let last = last-number m c d w.element els w.is_present in
      let same = w.elem in
      let is = s.2 in
      omega (arith, last, same, is, b)));
  resumed = λ y p left. any_neither (is_stall_of c y.number) m.resumed stalls (els.resumed y p left) (not_on _ (λ h.
      let s = own y.number h in
      let w = stall-is m c d s.0 s.1 in
      let same : w.element ≡ y = some_same w.element y (sym w.is_present ∙ p) in
      let two = both (w.element.flagged && is_finished m.done c w.element) (not (is_resumed m.resumed c w.element.number)) w.stalls in
      true≢false (sym (both w.element.flagged (is_finished m.done c w.element) two.0).1 ∙ ap (is_finished m.done c) same ∙ left)));
}

pub elements-resumed : (m : Moves) (c : ℕ) (d : Command) (s : Stall) → stall_of m c d ≡ Some s → AreElements m c d → AreElements (with_resumed m (s ∷ [])) c d
elements-resumed m c d s e els = elements-acknowledged m c d (s ∷ []) (λ f h. (s, e, own f h)) els
  where
    own : (f : ℕ) → (is_stall_of c f s || false) ≡ true → s.elem ≡ f
    own f h =
        let one = or_off (is_stall_of c f s) h in
        let same = (both (s.cmd == c) (s.elem == f) one).1 in
        grind (arith, nat_tests, same)
      where
        or_off : (b : Bool) → (b || false) ≡ true → b ≡ true
        or_off true g = refl
        or_off false g = absurd (true≢false (sym g))

-- ---- a new command

pub elements-issued : (m : Moves) (d : Command) → IsUntouched m (length m.issued) → AreElements (with_issued m d) (length m.issued) d
elements-issued m d fresh = on (is_list d.kind) refl
  where
    nothing : {P : Type 0} (n : ℕ) (x : Element) → slice_get [] n ≡ Some x → P
    nothing n x e = absurd (cc)

    no_one : {P : Type 0} (x : Element) → None ≡ Some x → P
    no_one x e = absurd (cc)

    at_whole : (n : ℕ) (x : Element) → slice_get (whole d ∷ []) n ≡ Some x → x.number ≡ n
    at_whole zero x e = let same : whole d ≡ x = cc in ap (λ w. w.number) (sym same)
    at_whole (suc n) x e = absurd (cc)

    last_whole : (x : Element) → Some (whole d) ≡ Some x → x.number ≡ 0
    last_whole x e = let same : whole d ≡ x = cc in ap (λ w. w.number) (sym same)

    on : (b : Bool) → is_list d.kind ≡ b → AreElements (with_issued m d) (length m.issued) d
    on true h =
        let none : elements_of m.read (length m.issued) d ≡ [] = list-elements m.read (length m.issued) d h ∙ empty (read_of m.read (length m.issued)) fresh.read in
        let absent : present m.read (length m.issued) d ≡ None = present-last m.read (length m.issued) d ∙ ap (λ xs. last_or None xs) none in
        record {
          few = let size = ap length none in omega (arith, size);
          numbers = λ n x e. nothing n x (ap (λ l. slice_get l n) (sym none) ∙ e);
          earlier = λ n x y e p b. no_one y (sym absent ∙ p);
          later = λ e k b. fresh.done e k;
          not_resumed = λ e b. fresh.resumed e;
          resumed = λ x p left. no_one x (sym absent ∙ p);
        }
    on false h =
        let one : elements_of m.read (length m.issued) d ≡ whole d ∷ [] = rw h refl in
        let there : present m.read (length m.issued) d ≡ Some (whole d) = present-last m.read (length m.issued) d ∙ ap (λ xs. last_or None xs) one in
        record {
          few = subst (λ l. length l ≤ elements_in d) (sym one) (rw h (omega arith));
          numbers = λ n x e. at_whole n x (ap (λ l. slice_get l n) (sym one) ∙ e);
          earlier = λ n x y e p b. let z = last_whole y (sym there ∙ p) in absurd (omega (arith, z, b));
          later = λ e k b. fresh.done e k;
          not_resumed = λ e b. fresh.resumed e;
          resumed = λ x p left. fresh.resumed x.number;
        }
