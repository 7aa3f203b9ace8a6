-- How far a command has come, by its present element.
use Rattle.std.proofs.Common.{◌≡◌, ◌≢◌, ℕ, zero, suc, ◌+◌, ◌<◌, ◌≤◌, ◌==◌, ◌/◌, ◌&&◌, not, Bool, true, false, List, [], ◌∷◌, ◌++◌, length, arith, refl, sym, ◌∙◌, ap, true≢false}
use Rattle.std.specs.Prelude.{Some, None, is_some, slice_get, cond, filter, option_and_then, if◌then◌else◌}
use Rattle.std.specs.List.{list_all, range_with_len, last_or}
use Rattle.std.specs.Option.{option_map_or}
use Rattle.std.proofs.lemmas.Bool.Decides.{nat_tests}
use Rattle.mfc_command.specs.declared.command.Command.{Command}
use Rattle.mfc_command.specs.declared.command.Kind.{Kind}
use Rattle.mfc_command.specs.declared.command.Kind.TheVariants.{Put, Get, PutList, GetList, Barrier, PutQueued, Signal}
use Rattle.mfc_command.specs.Order.{is_list, is_barrier}
use Rattle.mfc_lists.specs.declared.Element.{Element}
use Rattle.cell_machine.specs.Spe.{Moves, PartDone}
use Rattle.cell_machine.specs.Moves.{is_moved, read_of, whole, elements_in, elements_of, present, parts_in, is_done, is_finished, is_resumed, is_stalled, stall_of, was_retired, is_complete_as}
use Rattle.cell_machine.specs.MovesShown.{AreElements}
use Rattle.cell_machine.proofs.Same.{SameOf, a_stall, snoc-of-all, get-within, same-present, same-stall, same-complete_as}
use Rattle.cell_machine.proofs.Staying.{get_more}
use Rattle.cell_machine.proofs.Elements.{list-elements, present-last, last-number}
use Rattle.race_order.specs.declared.progress.Progress.{Progress}
use Rattle.race_order.specs.Stages.{parts_left, progress_of}

-- ---- how many numbers of a range a test leaves out

pub suc-zero : (n : ℕ) → (suc n == 0) ≡ false
suc-zero n = grind (arith, nat_tests)

abbrev pub fails : (ℕ → Bool) → ℕ → ℕ → ℕ
fails f a n = length (filter (λ k. not (f k)) (range_with_len a n))

pub none-left : (f : ℕ → Bool) (a n : ℕ) → list_all f (range_with_len a n) ≡ (fails f a n == 0)
none-left f a zero = refl
none-left f a (suc n) = on (f a) (none-left f (a + 1) n)
  where
    on : (b : Bool) → list_all f (range_with_len (a + 1) n) ≡ (fails f (a + 1) n == 0)
        → (b && list_all f (range_with_len (a + 1) n)) ≡ (length (cond (not b) (a ∷ filter (λ k. not (f k)) (range_with_len (a + 1) n)) (filter (λ k. not (f k)) (range_with_len (a + 1) n))) == 0)
    on true h = h
    on false h = sym (suc-zero (fails f (a + 1) n))

pub all-left : (f : ℕ → Bool) (a n : ℕ) → ((k : ℕ) → f k ≡ false) → fails f a n ≡ n
all-left f a zero h = refl
all-left f a (suc n) h = rw (h a) (ap suc (all-left f (a + 1) n h))

same-fails : (f g : ℕ → Bool) (a n : ℕ) → ((k : ℕ) → a ≤ k → g k ≡ f k) → fails g a n ≡ fails f a n
same-fails f g a zero h = refl
same-fails f g a (suc n) h = on (f a) (g a) (h a (omega arith)) (same-fails f g (a + 1) n (λ k low. h k (omega (arith, low))))
  where
    on : (b d : Bool) → d ≡ b → fails g (a + 1) n ≡ fails f (a + 1) n
        → length (cond (not d) (a ∷ filter (λ k. not (g k)) (range_with_len (a + 1) n)) (filter (λ k. not (g k)) (range_with_len (a + 1) n)))
        ≡ length (cond (not b) (a ∷ filter (λ k. not (f k)) (range_with_len (a + 1) n)) (filter (λ k. not (f k)) (range_with_len (a + 1) n)))
    on true true e h = h
    on false false e h = ap suc h
    on true false e h = absurd (true≢false (sym e))
    on false true e h = absurd (true≢false e)

-- one more passes
pub one-less : (f g : ℕ → Bool) (a n k : ℕ) → a ≤ k → k < a + n → f k ≡ false → g k ≡ true → ((j : ℕ) → k ≢ j → g j ≡ f j) → fails f a n ≡ fails g a n + 1
one-less f g a zero k low high off now rest = absurd (omega (arith, low, high))
one-less f g a (suc n) k low high off now rest = on (a == k) refl (λ above. one-less f g (a + 1) n k above (omega (arith, high)) off now rest)
  where
    here : a ≡ k → fails f a (suc n) ≡ fails g a (suc n) + 1
    here e =
        let x : f a ≡ false = ap f e ∙ off in
        let y : g a ≡ true = ap g e ∙ now in
        let z = same-fails f g (a + 1) n (λ j l. rest j (λ same. omega (arith, l, same, e))) in
        rw (x, y) (omega (arith, z))

    further : (b d : Bool) → d ≡ b → fails f (a + 1) n ≡ fails g (a + 1) n + 1
        → length (cond (not b) (a ∷ filter (λ k. not (f k)) (range_with_len (a + 1) n)) (filter (λ k. not (f k)) (range_with_len (a + 1) n)))
        ≡ length (cond (not d) (a ∷ filter (λ k. not (g k)) (range_with_len (a + 1) n)) (filter (λ k. not (g k)) (range_with_len (a + 1) n))) + 1
    further true true e h = h
    further false false e h = omega (arith, h)
    further true false e h = absurd (true≢false (sym e))
    further false true e h = absurd (true≢false e)

    on : (b : Bool) → (a == k) ≡ b → (a + 1 ≤ k → fails f (a + 1) n ≡ fails g (a + 1) n + 1) → fails f a (suc n) ≡ fails g a (suc n) + 1
    on true e later = here (grind (arith, nat_tests, e))
    on false e later =
        let differs : k ≢ a = grind (arith, nat_tests, e) in
        let above : a + 1 ≤ k = grind (arith, nat_tests, e, low) in
        further (f a) (g a) (rest a differs) (later above)

-- ---- an element is finished where no part is left

pub finished-left : (done : List PartDone) (c : ℕ) (x : Element) → is_finished done c x ≡ (parts_left done c x == 0)
unfolding is_finished parts_left
finished-left done c x = none-left (is_done done c x.number) 0 (parts_in x)

-- ---- the shape of a progress

abbrev pub behind : Bool → ℕ → Bool → Bool
behind flag left resumed = flag && (left == 0) && not resumed

abbrev pub complete_with : Command → ℕ → ℕ → Bool → Bool → Bool
complete_with d n left flag resumed = (n == elements_in d) && ((left == 0) && not (behind flag left resumed))

-- of a command that is moved, of which n elements are there: by what is left of the present one, its flag, and whether its stall was acknowledged
abbrev pub progress_by : Command → ℕ → ℕ → Bool → Bool → Progress
progress_by d n left flag resumed = record {
  command = d;
  read = if is_list d.kind then n else 0;
  left = left;
  flagged = flag;
  stalled = behind flag left resumed;
  done = complete_with d n left flag resumed;
}

-- and of any other, or of one of which no element is there
abbrev pub plain : Command → Bool → Progress
plain d done = record { command = d; read = 0; left = 0; flagged = false; stalled = false; done = done }

abbrev pub filled : Command → ℕ → ℕ → Bool → Bool → Bool → Progress
filled c r l f t d = record { command = c; read = r; left = l; flagged = f; stalled = t; done = d }

pub made : (c : Command) (r r2 l l2 : ℕ) (f f2 t t2 d d2 : Bool) → r ≡ r2 → l ≡ l2 → f ≡ f2 → t ≡ t2 → d ≡ d2 → filled c r l f t d ≡ filled c r2 l2 f2 t2 d2
made c r r2 l l2 f f2 t t2 d d2 a b e g h = cc

-- the last of some is finished where all are, if the earlier ones are
earlier_all : (f : Element → Bool) (xs : List Element) (x : Element) → ((n : ℕ) (y : Element) → slice_get xs n ≡ Some y → f y ≡ true) → list_all f (xs ++ x ∷ []) ≡ f x
earlier_all f [] x h = and_true (f x)
  where
    and_true : (b : Bool) → (b && true) ≡ b
    and_true true = refl
    and_true false = refl
earlier_all f (y ∷ xs) x h = ap (λ b. b && list_all f (xs ++ x ∷ [])) (h zero y refl) ∙ earlier_all f xs x (λ n. h (suc n))

pub all-finished : (m : Moves) (c : ℕ) (d : Command) (x : Element) → AreElements m c d → present m.read c d ≡ Some x → list_all (is_finished m.done c) (elements_of m.read c d) ≡ is_finished m.done c x
all-finished m c d x els there =
    let s = snoc-of-all (elements_of m.read c d) x (sym (present-last m.read c d) ∙ there) in
    let number = last-number m c d x els there in
    let long : length (elements_of m.read c d) ≡ length s.0 + 1 = ap length s.1 ∙ snoc-length s.0 in
    ap (list_all (is_finished m.done c)) s.1
    ∙ earlier_all (is_finished m.done c) s.0 x (λ n y at. let low = get-within s.0 n y at in els.earlier n y x (ap (λ l. slice_get l n) s.1 ∙ get_more s.0 (x ∷ []) n y at) there (omega (arith, low, number, long)))
  where
    snoc-length : (xs : List Element) → length (xs ++ x ∷ []) ≡ length xs + 1
    snoc-length [] = refl
    snoc-length (y ∷ xs) = let r = snoc-length xs in omega (arith, r)

stalled_at : (m : Moves) (c : ℕ) (d : Command) (x : Element) → present m.read c d ≡ Some x → is_stalled m c d ≡ behind x.flagged (parts_left m.done c x) (is_resumed m.resumed c x.number)
unfolding stall_of
stalled_at m c d x there =
    ap (λ o. is_some (option_and_then (λ y. cond (y.flagged && is_finished m.done c y && not (is_resumed m.resumed c y.number)) (Some (a_stall c y)) None) o)) there
    ∙ ap (λ b. is_some (cond (x.flagged && b && not (is_resumed m.resumed c x.number)) (Some (a_stall c x)) None)) (finished-left m.done c x)
    ∙ on (x.flagged && (parts_left m.done c x == 0) && not (is_resumed m.resumed c x.number))
  where
    on : (b : Bool) → is_some (cond b (Some (a_stall c x)) None) ≡ b
    on true = refl
    on false = refl

pub unstalled : (m : Moves) (c : ℕ) (d : Command) → present m.read c d ≡ None → is_stalled m c d ≡ false
unfolding stall_of
unstalled m c d none = ap (λ o. is_some (option_and_then (λ y. cond (y.flagged && is_finished m.done c y && not (is_resumed m.resumed c y.number)) (Some (a_stall c y)) None) o)) none

complete_moved : (m : Moves) (c : ℕ) (d : Command) → is_moved d ≡ true
    → is_complete_as m c d ≡ ((length (elements_of m.read c d) == elements_in d) && (list_all (is_finished m.done c) (elements_of m.read c d) && not (is_stalled m c d)))
unfolding is_complete_as
complete_moved m c d moved = rw moved refl

read_is : (m : Moves) (c : ℕ) (d : Command) (b : Bool) → is_list d.kind ≡ b → (if b then length (read_of m.read c) else 0) ≡ (if b then length (elements_of m.read c d) else 0)
read_is m c d true list = ap length (sym (list-elements m.read c d list))
read_is m c d false list = refl

-- a command that is moved, and an element of which is there
pub moved-shape : (m : Moves) (c : ℕ) (d : Command) (x : Element) → AreElements m c d → is_moved d ≡ true → present m.read c d ≡ Some x
    → progress_of m c d ≡ progress_by d (length (elements_of m.read c d)) (parts_left m.done c x) x.flagged (is_resumed m.resumed c x.number)
moved-shape m c d x els moved there =
    let stalled = stalled_at m c d x there in
    made d _ _ _ _ _ _ _ _ _ _
    (read_is m c d (is_list d.kind) refl)
    (rw (moved, there) refl)
    (ap (λ o. option_map_or (λ (y : Element). y.flagged) o false) there)
    stalled
    (complete_moved m c d moved
    ∙ ap (λ b. (length (elements_of m.read c d) == elements_in d) && (b && not (is_stalled m c d))) (all-finished m c d x els there ∙ finished-left m.done c x)
    ∙ ap (λ b. (length (elements_of m.read c d) == elements_in d) && ((parts_left m.done c x == 0) && not b)) stalled)

-- one of which no element is there
pub start-shape : (m : Moves) (c : ℕ) (d : Command) → is_moved d ≡ true → is_list d.kind ≡ true → present m.read c d ≡ None → length (read_of m.read c) ≡ 0 → (0 == elements_in d) ≡ false → progress_of m c d ≡ plain d false
start-shape m c d moved list none empty some =
    made d _ _ _ _ _ _ _ _ _ _
    (rw list empty)
    (rw (moved, none) refl)
    (ap (λ o. option_map_or (λ (y : Element). y.flagged) o false) none)
    (unstalled m c d none)
    (complete_moved m c d moved
    ∙ ap (λ n. (n == elements_in d) && (list_all (is_finished m.done c) (elements_of m.read c d) && not (is_stalled m c d))) (ap length (list-elements m.read c d list) ∙ empty)
    ∙ ap (λ b. b && (list_all (is_finished m.done c) (elements_of m.read c d) && not (is_stalled m c d))) some)

-- a list is no BARRIER
pub list-kind : (k : Kind) → is_list k ≡ true → not (is_barrier k) ≡ true
list-kind Put h = refl
list-kind Get h = refl
list-kind PutList h = refl
list-kind GetList h = refl
list-kind Barrier h = absurd (true≢false (sym h))
list-kind PutQueued h = refl
list-kind Signal h = refl

-- and one that isn't moved
pub retired-shape : (m : Moves) (c : ℕ) (d : Command) → AreElements m c d → is_moved d ≡ false → progress_of m c d ≡ plain d (was_retired m.retired c)
unfolding is_complete_as
retired-shape m c d els kept = on (is_list d.kind) refl
  where
    barred : (k : Kind) → not (is_barrier k) ≡ false → is_list k ≡ false
    barred Put h = absurd (true≢false h)
    barred Get h = absurd (true≢false h)
    barred PutList h = absurd (true≢false h)
    barred GetList h = absurd (true≢false h)
    barred Barrier h = refl
    barred PutQueued h = absurd (true≢false h)
    barred Signal h = absurd (true≢false h)

    size_zero : (b : Bool) (n : ℕ) → b ≡ true → (b && not (n == 0)) ≡ false → n ≡ 0
    size_zero true zero g h = refl
    size_zero true (suc n) g h = absurd (true≢false (sym (ap not (suc-zero n)) ∙ h))
    size_zero false n g h = absurd (true≢false (sym g))

    nothing : (xs : List Element) → length xs ≡ 0 → last_or None xs ≡ None
    nothing [] h = refl
    nothing (x ∷ xs) h = absurd (omega (arith, h))

    on : (b : Bool) → is_list d.kind ≡ b → progress_of m c d ≡ plain d (was_retired m.retired c)
    on true list =
        let zero_size = size_zero (not (is_barrier d.kind)) d.size (list-kind d.kind list) kept in
        let few = els.few in
        let n : elements_in d ≡ d.size / 8 = rw list refl in
        let none : length (elements_of m.read c d) ≡ 0 = omega (arith, few, n, zero_size) in
        let absent : present m.read c d ≡ None = present-last m.read c d ∙ nothing (elements_of m.read c d) none in
        made d _ _ _ _ _ _ _ _ _ _
        (rw list (ap length (sym (list-elements m.read c d list)) ∙ none))
        (rw kept refl)
        (ap (λ o. option_map_or (λ (y : Element). y.flagged) o false) absent)
        (unstalled m c d absent)
        (rw kept refl)
    on false list =
        let there : present m.read c d ≡ Some (whole d) = present-last m.read c d ∙ ap (λ b. last_or None (cond b (read_of m.read c) (whole d ∷ []))) list in
        made d _ _ _ _ _ _ _ _ _ _
        (rw list refl)
        (rw kept refl)
        (ap (λ o. option_map_or (λ (y : Element). y.flagged) o false) there)
        (stalled_at m c d (whole d) there)
        (rw kept refl)

-- where the same was done of it
pub same-shape : (m n : Moves) (c : ℕ) (d : Command) → SameOf m n c → progress_of n c d ≡ progress_of m c d
unfolding parts_left
same-shape m n c d s =
    made d _ _ _ _ _ _ _ _ _ _
    (ap (λ (xs : List Element). if is_list d.kind then length xs else 0) s.read)
    (ap (λ o. if is_moved d then option_map_or (parts_left n.done c) o 0 else 0) (same-present m n c d s)
    ∙ ap (λ f. if is_moved d then option_map_or (λ (x : Element). length (filter (λ k. not (f x.number k)) (range_with_len 0 (parts_in x)))) (present m.read c d) 0 else 0) s.done)
    (ap (λ o. option_map_or (λ (y : Element). y.flagged) o false) (same-present m n c d s))
    (ap is_some (same-stall m n c d s))
    (same-complete_as m n c d s)
