-- How the reading of a list goes on with what is added to the moves.
use Rattle.std.proofs.Common.{◌≡◌, ℕ, suc, ◌+◌, ◌*◌, ◌/◌, ◌<◌, ◌==◌, ◌&&◌, ◌||◌, not, Bool, true, false, List, [], ◌∷◌, ◌++◌, length, refl, sym, ◌∙◌, ap, true≢false, arith}
use Rattle.std.specs.Prelude.{Some, None, slice_get, cond, is_some, option_and_then}
use Rattle.std.specs.List.{list_any, list_all, last_or}
use Rattle.mfc_command.specs.declared.command.Command.{Command}
use Rattle.mfc_command.specs.Order.{is_list}
use Rattle.mfc_lists.specs.declared.Element.{Element}
use Rattle.mfc_lists.specs.Readings.{Reading, opening_reading, next_at as next_of_reading, current, with_element, finished, resumed}
use Rattle.mfc_lists.proofs.ReadingLemmas.{last_or-snoc}
use Rattle.cell_machine.specs.Spe.{Moves, Stall}
use Rattle.cell_machine.specs.Moves.{read_of, elements_of, present, is_done, is_finished, is_resumed, stalls_behind, stall_of, is_stalled}
use Rattle.cell_machine.specs.Transfers.{has_part, has_element, next_at, with_done, with_read, with_retired}
use Rattle.cell_machine.specs.Channels.{with_issued, with_resumed}
use Rattle.cell_machine.specs.MovesShown.{AreElements, IsUntouched, reading}
use Rattle.cell_machine.proofs.Same.{eq_not, eq_same, get-last, snoc-of-all, all-snoc, last-fails, empty, some_same, SameOf, same-stall, a_stall, ended, read-more, done-elsewhere, read-elsewhere, resumed-elsewhere, issued-elsewhere}
use Rattle.cell_machine.proofs.Elements.{list-elements, finished-more, part-is, stall-is}
use Rattle.cell_machine.proofs.MovesShown.{unfinished, present-list, not_not}

-- ---- a reading by its parts

abbrev made : Command → List Element → Bool → Bool → Reading
made d read p s = record { command = d; read = read; in_progress = p; is_stalled = s }

same-made : (d : Command) (xs ys : List Element) (p q s t : Bool) → xs ≡ ys → p ≡ q → s ≡ t → made d xs p s ≡ made d ys q t
same-made d xs ys p q s t a b c = ap (λ z. made d z p s) a ∙ ap (λ z. made d ys z s) b ∙ ap (λ z. made d ys q z) c

-- a reading is a function of what was read, done and resumed of its own command
pub same-moves : (m n : Moves) (c : ℕ) (d : Command) → SameOf m n c → reading n c d ≡ reading m c d
unfolding is_finished
same-moves m n c d s =
    same-made d _ _ _ _ _ _ s.read
    (ap (λ f. not (list_all (ended f) (read_of n.read c))) s.done ∙ ap (λ xs. not (list_all (ended (is_done m.done c)) xs)) s.read)
    (ap is_some (same-stall m n c d s))

some_if : (s : Stall) (b : Bool) → is_some (cond b (Some s) None) ≡ b
some_if s true = refl
some_if s false = refl

-- a list stalls where it stalls behind its present element
stalled-behind : (m : Moves) (c : ℕ) (d : Command) (x : Element) → present m.read c d ≡ Some x → is_stalled m c d ≡ stalls_behind m c x
unfolding stall_of
stalled-behind m c d x p = ap (λ o. is_some (option_and_then (λ y. cond (stalls_behind m c y) (Some (a_stall c y)) None) o)) p ∙ some_if (a_stall c x) (stalls_behind m c x)

all-each : (f : Element → Bool) (ys zs : List Element) → ((n : ℕ) (y : Element) → slice_get (ys ++ zs) n ≡ Some y → n < length ys → f y ≡ true) → list_all f ys ≡ true
all-each f [] zs h = refl
all-each f (y ∷ ys) zs h = ap (λ b. b && list_all f ys) (h 0 y refl (omega arith)) ∙ all-each f ys zs (λ n z e b. h (suc n) z e (omega (arith, b)))

-- all are, where the last is and each before it
all-last : (f : Element → Bool) (xs : List Element) (x : Element) → last_or None xs ≡ Some x
    → ((n : ℕ) (y : Element) → slice_get xs n ≡ Some y → y.number ≡ n)
    → ((n : ℕ) (y : Element) → slice_get xs n ≡ Some y → n < x.number → f y ≡ true)
    → list_all f xs ≡ f x
all-last f xs x e numbers earlier =
    let s = snoc-of-all xs x e in
    let at : slice_get xs (length s.0) ≡ Some x = ap (λ l. slice_get l (length s.0)) s.1 ∙ get-last s.0 x in
    let number : x.number ≡ length s.0 = numbers (length s.0) x at in
    ap (λ l. list_all f l) s.1 ∙ all-snoc f s.0 x (all-each f s.0 (x ∷ []) (λ n y g b. earlier n y (ap (λ l. slice_get l n) s.1 ∙ g) (omega (arith, number, b))))

-- all elements are finished where the present one is
all-present : (m : Moves) (c : ℕ) (d : Command) (x : Element) → is_list d.kind ≡ true → AreElements m c d → present m.read c d ≡ Some x
    → list_all (is_finished m.done c) (read_of m.read c) ≡ is_finished m.done c x
all-present m c d x h els p =
    let same : elements_of m.read c d ≡ read_of m.read c = list-elements m.read c d h in
    all-last (is_finished m.done c) (read_of m.read c) x (sym (present-list m.read c d h) ∙ p)
    (λ n y e. els.numbers n y (ap (λ l. slice_get l n) same ∙ e))
    (λ n y e b. els.earlier n y x (ap (λ l. slice_get l n) same ∙ e) p b)

-- the reading of a list whose present element is x
pub reading-present : (m : Moves) (c : ℕ) (d : Command) (x : Element) → is_list d.kind ≡ true → AreElements m c d → present m.read c d ≡ Some x
    → reading m c d ≡ made d (read_of m.read c) (not (is_finished m.done c x)) (stalls_behind m c x)
reading-present m c d x h els p = same-made d _ _ _ _ _ _ refl (ap not (all-present m c d x h els p)) (stalled-behind m c d x p)

-- ---- the element in progress

-- it is the present one, and has parts left
pub current-part : (m : Moves) (c : ℕ) (d : Command) (x : Element) → is_list d.kind ≡ true → AreElements m c d → current (reading m c d) ≡ Some x
    → (present m.read c d ≡ Some x) × (is_finished m.done c x ≡ false)
current-part m c d x h els now = on (list_all (is_finished m.done c) (read_of m.read c)) refl now
  where
    on : (b : Bool) → list_all (is_finished m.done c) (read_of m.read c) ≡ b → cond (not b) (last_or None (read_of m.read c)) None ≡ Some x
        → (present m.read c d ≡ Some x) × (is_finished m.done c x ≡ false)
    on true e k = absurd (cc)
    on false e k = let p : present m.read c d ≡ Some x = present-list m.read c d h ∙ k in (p, sym (all-present m c d x h els p) ∙ e)

-- where none is, no part is left
pub current-none : (m : Moves) (c e k : ℕ) (d : Command) → is_list d.kind ≡ true → AreElements m c d → current (reading m c d) ≡ None → has_part m c e k d ≡ false
current-none m c e k d h els now = on (has_part m c e k d) refl
  where
    no_one : (x : Element) → None ≡ Some x → ⊥
    no_one x q = absurd (cc)

    on : (b : Bool) → has_part m c e k d ≡ b → has_part m c e k d ≡ false
    on false q = q
    on true q =
        let part = part-is m c e k d q in
        let last : last_or None (read_of m.read c) ≡ Some part.element = sym (present-list m.read c d h) ∙ part.there in
        let open_yet : is_finished m.done c part.element ≡ false = unfinished m c k part.element part.within (ap (λ n. is_done m.done c n k) part.number ∙ part.left) in
        let all : list_all (is_finished m.done c) (read_of m.read c) ≡ false = last-fails (is_finished m.done c) (read_of m.read c) part.element last open_yet in
        absurd (no_one part.element (sym now ∙ ap (λ b. cond (not b) (last_or None (read_of m.read c)) None) all ∙ last))

-- ---- the next element

next_if : (at : ℕ) (b : Bool) → is_some (cond b (Some at) None) ≡ b
next_if at true = refl
next_if at false = refl

-- an element may be read where the reading has a next one
pub rest-next : (m : Moves) (c : ℕ) (d : Command) → is_list d.kind ≡ true → has_element m c d ≡ is_some (next_of_reading (reading m c d))
rest-next m c d h =
    let tests : has_element m c d ≡ (not (length (read_of m.read c) == d.size / 8) && (list_all (is_finished m.done c) (read_of m.read c) && not (is_stalled m c d))) = rw h refl in
    tests
    ∙ ap (λ b. not (length (read_of m.read c) == d.size / 8) && (b && not (is_stalled m c d))) (not_not (list_all (is_finished m.done c) (read_of m.read c)))
    ∙ sym (next_if (d.ea + 8 * length (read_of m.read c)) _)

-- and that is where it stands
pub next-is : (m : Moves) (c at : ℕ) (d : Command) → next_of_reading (reading m c d) ≡ Some at → at ≡ next_at m c d
next-is m c at d now = on (d.ea + 8 * length (read_of m.read c)) _ now
  where
    on : (here : ℕ) (b : Bool) → cond b (Some here) None ≡ Some at → at ≡ here
    on here true k = sym (some_same here at k)
    on here false k = absurd (cc)

-- ---- an element is read

pub element-read : (m : Moves) (c : ℕ) (d : Command) (x : Element) → is_list d.kind ≡ true → list_all (is_finished m.done c) (read_of m.read c) ≡ true
    → reading (with_read m c x) c d ≡ made d (read_of m.read c ++ x ∷ []) (not (is_finished m.done c x)) (stalls_behind m c x)
element-read m c d x h all =
    let more = read-more m c x in
    let last : present (with_read m c x).read c d ≡ Some x = present-list (with_read m c x).read c d h ∙ ap (λ xs. last_or None xs) more ∙ last_or-snoc None (read_of m.read c) x in
    same-made d _ _ _ _ _ _ more
    (ap (λ xs. not (list_all (is_finished m.done c) xs)) more ∙ ap not (all-snoc (is_finished m.done c) (read_of m.read c) x all))
    (stalled-behind (with_read m c x) c d x last)

not_behind : (a f r : Bool) → f ≡ false → (a && f && not r) ≡ false
not_behind true true r h = absurd (true≢false h)
not_behind true false r h = refl
not_behind false f r h = refl

behind : (a f r : Bool) → f ≡ true → r ≡ false → (a && f && not r) ≡ a
behind true true false h e = refl
behind true true true h e = absurd (true≢false e)
behind true false r h e = absurd (true≢false (sym h))
behind false f r h e = refl

-- an element with parts is in progress
pub read-moved : (m : Moves) (c : ℕ) (d : Command) (x : Element) → is_list d.kind ≡ true → list_all (is_finished m.done c) (read_of m.read c) ≡ true → is_stalled m c d ≡ false
    → is_finished m.done c x ≡ false → reading (with_read m c x) c d ≡ with_element (reading m c d) x
read-moved m c d x h all rest left = element-read m c d x h all
    ∙ same-made d _ _ _ _ _ _ refl (ap not left) (not_behind x.flagged (is_finished m.done c x) (is_resumed m.resumed c x.number) left ∙ sym rest)

-- one of size 0 is finished at once
pub read-empty : (m : Moves) (c : ℕ) (d : Command) (x : Element) → is_list d.kind ≡ true → list_all (is_finished m.done c) (read_of m.read c) ≡ true
    → is_finished m.done c x ≡ true → is_resumed m.resumed c x.number ≡ false → reading (with_read m c x) c d ≡ finished (with_element (reading m c d) x) x
read-empty m c d x h all done fresh = element-read m c d x h all
    ∙ same-made d _ _ _ _ _ _ refl (ap not done) (behind x.flagged (is_finished m.done c x) (is_resumed m.resumed c x.number) done fresh)

-- ---- a part is done

-- behind a part of its present element a list is in progress exactly where that isn't finished, and it stalls behind that
pub part-done : (m : Moves) (c : ℕ) (d : Command) (x : Element) (k : ℕ) → is_list d.kind ≡ true → AreElements m c d → present m.read c d ≡ Some x
    → reading (with_done m c x.number k) c d ≡ made d (read_of m.read c) (not (is_finished (with_done m c x.number k).done c x)) (stalls_behind (with_done m c x.number k) c x)
part-done m c d x k h els p =
    let same : elements_of m.read c d ≡ read_of m.read c = list-elements m.read c d h in
    same-made d _ _ _ _ _ _ refl
    (ap not (all-last (is_finished (with_done m c x.number k).done c) (read_of m.read c) x (sym (present-list m.read c d h) ∙ p)
    (λ n y e. els.numbers n y (ap (λ l. slice_get l n) same ∙ e))
    (λ n y e b. finished-more m c x.number k c y (els.earlier n y x (ap (λ l. slice_get l n) same ∙ e) p b))))
    (stalled-behind (with_done m c x.number k) c d x p)

-- a part that isn't the last leaves the reading
pub part-left : (m : Moves) (c : ℕ) (d : Command) (x : Element) (k : ℕ) → is_list d.kind ≡ true → AreElements m c d → present m.read c d ≡ Some x
    → is_finished m.done c x ≡ false → is_finished (with_done m c x.number k).done c x ≡ false → reading (with_done m c x.number k) c d ≡ reading m c d
part-left m c d x k h els p before after =
    let n = with_done m c x.number k in
    part-done m c d x k h els p
    ∙ same-made d _ _ _ _ _ _ refl (ap not after ∙ sym (ap not before))
    (not_behind x.flagged (is_finished n.done c x) (is_resumed n.resumed c x.number) after ∙ sym (not_behind x.flagged (is_finished m.done c x) (is_resumed m.resumed c x.number) before))
    ∙ sym (reading-present m c d x h els p)

-- the last one ends the element
pub part-last : (m : Moves) (c : ℕ) (d : Command) (x : Element) (k : ℕ) → is_list d.kind ≡ true → AreElements m c d → present m.read c d ≡ Some x
    → is_finished m.done c x ≡ false → is_finished (with_done m c x.number k).done c x ≡ true → reading (with_done m c x.number k) c d ≡ finished (reading m c d) x
part-last m c d x k h els p before after =
    let n = with_done m c x.number k in
    part-done m c d x k h els p
    ∙ same-made d _ _ _ _ _ _ refl (ap not after) (behind x.flagged (is_finished n.done c x) (is_resumed n.resumed c x.number) after (els.resumed x p before))

-- ---- a stall is acknowledged

any_last : {X : Type 0} (f : X → Bool) (xs : List X) (x : X) → f x ≡ true → list_any f (xs ++ x ∷ []) ≡ true
any_last f [] x h = ap (λ b. b || false) h
any_last f (y ∷ xs) x h = on (f y) (any_last f xs x h)
  where
    on : (b : Bool) → list_any f (xs ++ x ∷ []) ≡ true → (b || list_any f (xs ++ x ∷ [])) ≡ true
    on true e = refl
    on false e = e

not_where : (a f r : Bool) → r ≡ true → (a && f && not r) ≡ false
not_where true true true h = refl
not_where true false r h = refl
not_where false f r h = refl
not_where true true false h = absurd (true≢false (sym h))

-- the list goes on
pub acknowledged : (m : Moves) (c : ℕ) (d : Command) (s : Stall) → is_list d.kind ≡ true → stall_of m c d ≡ Some s → reading (with_resumed m (s ∷ [])) c d ≡ resumed (reading m c d)
acknowledged m c d s h stalls =
    let at = stall-is m c d s stalls in
    let x = at.element in
    let its : (s.cmd == c && s.elem == x.number) ≡ true = ap (λ n. n == c && s.elem == x.number) at.cmd ∙ ap (λ n. c == c && n == x.number) at.elem ∙ ap (λ b. b && x.number == x.number) (eq_same c) ∙ eq_same x.number in
    same-made d _ _ _ _ _ _ refl refl
    (stalled-behind (with_resumed m (s ∷ [])) c d x at.is_present
    ∙ not_where x.flagged (is_finished m.done c x) _ (any_last (λ (t : Stall). t.cmd == c && t.elem == x.number) m.resumed s its))

-- ---- what is added of another command, and a retirement, leave the reading

pub read-other : (m : Moves) (a c : ℕ) (d : Command) (x : Element) → is_list d.kind ≡ true → (a == c) ≡ false → reading (with_read m a x) c d ≡ reading m c d
read-other m a c d x h off = same-moves m (with_read m a x) c d (read-elsewhere m a x c (eq_not a c off))

pub part-other : (m : Moves) (a c : ℕ) (d : Command) (e k : ℕ) → is_list d.kind ≡ true → (a == c) ≡ false → reading (with_done m a e k) c d ≡ reading m c d
part-other m a c d e k h off = same-moves m (with_done m a e k) c d (done-elsewhere m a e k c (eq_not a c off))

pub issued-other : (m : Moves) (c : ℕ) (d new : Command) → is_list d.kind ≡ true → reading (with_issued m new) c d ≡ reading m c d
issued-other m c d new h = same-moves m (with_issued m new) c d (issued-elsewhere m new c)

none-of : (stalls : List Stall) (c e : ℕ) → list_any (λ (s : Stall). s.cmd == c) stalls ≡ false → is_resumed stalls c e ≡ false
none-of [] c e h = refl
none-of (s ∷ stalls) c e h = on (s.cmd == c) (s.elem == e) h (none-of stalls c e)
  where
    on : (a b : Bool) → (a || list_any (λ (t : Stall). t.cmd == c) stalls) ≡ false → (list_any (λ (t : Stall). t.cmd == c) stalls ≡ false → is_resumed stalls c e ≡ false)
        → (a && b || is_resumed stalls c e) ≡ false
    on true b k rest = absurd (true≢false k)
    on false b k rest = rest k

stalls-elsewhere : (m : Moves) (stalls : List Stall) (c : ℕ) → list_any (λ (s : Stall). s.cmd == c) stalls ≡ false → SameOf m (with_resumed m stalls) c
stalls-elsewhere m stalls c none = resumed-elsewhere m stalls c (λ e. none-of stalls c e none)

pub resumed-other : (m : Moves) (stalls : List Stall) (c : ℕ) (d : Command) → list_any (λ (s : Stall). s.cmd == c) stalls ≡ false → reading (with_resumed m stalls) c d ≡ reading m c d
resumed-other m stalls c d none = same-moves m (with_resumed m stalls) c d (stalls-elsewhere m stalls c none)

pub stall-other : (m : Moves) (stalls : List Stall) (c : ℕ) (d : Command) → list_any (λ (s : Stall). s.cmd == c) stalls ≡ false → stall_of (with_resumed m stalls) c d ≡ stall_of m c d
stall-other m stalls c d none = same-stall m (with_resumed m stalls) c d (stalls-elsewhere m stalls c none)

pub retired-other : (m : Moves) (a c : ℕ) (d : Command) → reading (with_retired m a) c d ≡ reading m c d
unfolding stall_of
retired-other m a c d = refl

-- ---- a new list

-- a list of which nothing was read doesn't stall
not-stalled : (m : Moves) (c : ℕ) (d : Command) → present m.read c d ≡ None → is_stalled m c d ≡ false
unfolding stall_of
not-stalled m c d p = ap (λ o. is_some (option_and_then (λ y. cond (stalls_behind m c y) (Some (a_stall c y)) None) o)) p

pub issued-own : (m : Moves) (d : Command) → is_list d.kind ≡ true → IsUntouched m (length m.issued) → reading (with_issued m d) (length m.issued) d ≡ opening_reading d
issued-own m d h none =
    let c = length m.issued in
    let nothing : read_of m.read c ≡ [] = empty (read_of m.read c) none.read in
    same-made d _ _ _ _ _ _ nothing (ap (λ xs. not (list_all (is_finished m.done c) xs)) nothing)
    (not-stalled (with_issued m d) c d (present-list m.read c d h ∙ ap (λ xs. last_or None xs) nothing))
