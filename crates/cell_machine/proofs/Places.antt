-- The places of a flow controller's allowed steps.
use Rattle.std.proofs.Common.{◌≡◌, ℕ, zero, suc, ◌+◌, ◌%◌, ◌<◌, ◌≤◌, ◌==◌, ◌&&◌, not, Bool, true, false, List, [], ◌∷◌, ◌++◌, length, map, drop, arith, refl, sym, ◌∙◌, ap, subst, true≢false, ◌⊎◌, inl, inr}
use Rattle.std.specs.Prelude.{Option, Some, None, slice_get, nat_lt, nat_le, filter, cond, if◌then◌else◌, find, flat_map, Result, Ok, Err}
use Rattle.std.specs.Result.{result_ok}
use Rattle.std.specs.List.{range_with_len}
use Rattle.std.specs.Option.{option_map_or}
use Rattle.std.proofs.lemmas.Bool.Decides.{nat_tests}
use Rattle.cell_base.specs.declared.steps.Step.{Step}
use Rattle.cell_base.specs.declared.steps.Step.TheVariants.{Exec, Piece, Elem, Retire, Atomic, Host}
use Rattle.mfc_command.specs.declared.command.Command.{Command}
use Rattle.mfc_command.specs.Order.{outstanding as outstanding_of}
use Rattle.mfc_lists.specs.declared.Element.{Element}
use Rattle.mfc_queue.specs.At.{IsAt}
use Rattle.mfc_queue.specs.Calls.{Call, outstanding as outstanding_calls, is_outstanding, is_retired, is_marked, issued, parts, left}
use Rattle.mfc_queue.proofs.AtLemmas.{at-here}
use Rattle.std.proofs.Math.ListN.{length-map}
use Rattle.std.proofs.lemmas.List.{nil_from_length}
use Rattle.cell_machine.specs.Shown.{parts_missing, parts_left}
use Rattle.cell_machine.proofs.Showing.{left-is}
use Rattle.cell_machine.specs.Spe.{Spe, Moves, is_faulted}
use Rattle.cell_machine.specs.Moves.{outstanding, is_complete, is_moved, is_done, parts_in, present, may_begin}
use Rattle.cell_machine.specs.Transfers.{begins, is_part_left, has_part, has_element, is_left, may_piece, may_elem, may_retire}
use Rattle.cell_machine.specs.Atomic.{may_atomic}
use Rattle.cell_machine.specs.Run.{pieces_of, steps_of_command, steps_of_number}
use Rattle.cell_machine.specs.Choices.{may, allowed_of_number, allowed_of_mfc, allowed_at}
use Rattle.cell_machine.specs.MovesShown.{ShowsMoves}
use Rattle.cell_machine.proofs.Same.{eq_same, some_same}
use Rattle.cell_machine.proofs.SpeShown.{and_off, begins-at, begins-not, outstanding-same, left-moved, left-open}

pub filter-both : {X : Type 0} (t : X → Bool) (xs ys : List X) → filter t (xs ++ ys) ≡ filter t xs ++ filter t ys
filter-both t [] ys = refl
filter-both t (x ∷ xs) ys = on (t x) (filter-both t xs ys)
  where
    on : (b : Bool) → filter t (xs ++ ys) ≡ filter t xs ++ filter t ys → cond b (x ∷ filter t (xs ++ ys)) (filter t (xs ++ ys)) ≡ cond b (x ∷ filter t xs) (filter t xs) ++ filter t ys
    on true h = ap (λ zs. x ∷ zs) h
    on false h = h

get_past : (xs : List Step) (n k : ℕ) → n ≡ length xs + k → slice_get xs n ≡ None
get_past [] n k h = refl
get_past (x ∷ xs) zero k h = absurd (omega arith)
get_past (x ∷ xs) (suc n) k h = get_past xs n k (omega arith)

pub first-at : (r : Result Step ℕ) (n : ℕ) (xs : List Step) → IsAt r n xs → result_ok r ≡ slice_get xs n
first-at (Ok s) n xs h = sym h
first-at (Err k) n xs h = sym (get_past xs n k h)

pub picked-none : (n : ℕ) (xs : List Step) → length xs ≡ 0 → None ≡ slice_get xs (n % length xs)
picked-none n [] e = refl
picked-none n (x ∷ xs) e = absurd (omega arith)

-- ---- the pieces of a command

filter_map : (t : Step → Bool) (f : ℕ → Step) (u : ℕ → Bool) (a n : ℕ) → ((k : ℕ) → k < a + n → t (f k) ≡ u k) → filter t (map f (range_with_len a n)) ≡ map f (filter u (range_with_len a n))
filter_map t f u a zero h = refl
filter_map t f u a (suc n) h = on (t (f a)) (u a) (h a (omega arith)) (filter_map t f u (a + 1) n (λ k l. h k (omega arith)))
  where
    on : (b d : Bool) → b ≡ d → filter t (map f (range_with_len (a + 1) n)) ≡ map f (filter u (range_with_len (a + 1) n))
        → cond b (f a ∷ filter t (map f (range_with_len (a + 1) n))) (filter t (map f (range_with_len (a + 1) n))) ≡ map f (cond d (a ∷ filter u (range_with_len (a + 1) n)) (filter u (range_with_len (a + 1) n)))
    on true true e h = ap (λ xs. f a ∷ xs) h
    on false false e h = h
    on true false e h = absurd (true≢false e)
    on false true e h = absurd (true≢false (sym e))

none_of : (t : Step → Bool) (f : ℕ → Step) (a n : ℕ) → ((k : ℕ) → t (f k) ≡ false) → filter t (map f (range_with_len a n)) ≡ []
none_of t f a zero h = refl
none_of t f a (suc n) h = rw (h a) (none_of t f (a + 1) n h)

piece_is : (calls : List Call) (P : Spe) (c k : ℕ) (d : Command) (x : Element) → ShowsMoves calls P.moves → slice_get P.moves.issued c ≡ Some d → present P.moves.read c d ≡ Some x
    → is_faulted P.status ≡ false → may_begin P.moves c ≡ true → is_moved d ≡ true → k < parts_in x → may_piece P c x.number k ≡ not (is_marked calls c k)
unfolding may_piece
piece_is calls P c k d x shows at p sound begun moved within =
    let l : nat_lt k (parts_in x) ≡ true = grind (arith, nat_tests) in
    let same : (x.number == x.number) ≡ true = eq_same x.number in
    let done : is_done P.moves.done c x.number k ≡ is_marked calls c k = sym (shows.done.marked c k d x at p) in
    let has : has_part P.moves c x.number k d ≡ not (is_marked calls c k) = rw (moved, p) (rw (same, l, done) refl) in
    rw sound (begins-at P.moves c d (has_part P.moves c x.number k) at ∙ rw (has, begun) (and_true (not (is_marked calls c k))))
  where
    and_true : (b : Bool) → (b && true) ≡ b
    and_true true = refl
    and_true false = refl

-- none is allowed where the controller is at fault, or the command may not begin, or isn't moved, or has no part left
pub piece-none : (P : Spe) (c e k : ℕ) → (is_faulted P.status ≡ true) ⊎ (begins P.moves c (has_part P.moves c e k) ≡ false) → may_piece P c e k ≡ false
unfolding may_piece
piece-none P c e k (inl h) = rw h refl
piece-none P c e k (inr h) = and_off (not (is_faulted P.status)) _ h

pub begins-waits : (m : Moves) (c : ℕ) (f : Command → Bool) → may_begin m c ≡ false → begins m c f ≡ false
begins-waits m c f h = and_off (option_map_or f (slice_get m.issued c) false) (may_begin m c) h

pub no-pieces : (p : ℕ) (P : Spe) (c : ℕ) (o : Option Element) → ((e k : ℕ) → may_piece P c e k ≡ false) → filter (may P) (option_map_or (pieces_of p c) o []) ≡ []
no-pieces p P c None h = refl
no-pieces p P c (Some x) h = none_of (may P) (Piece p c x.number) 0 (parts_in x) (h x.number)

-- the allowed pieces of a command that may begin are those of its element that are left
pub pieces-left : (calls : List Call) (p : ℕ) (P : Spe) (c : ℕ) (d : Command) (x : Element) → ShowsMoves calls P.moves → slice_get P.moves.issued c ≡ Some d → present P.moves.read c d ≡ Some x
    → is_faulted P.status ≡ false → may_begin P.moves c ≡ true → filter (may P) (option_map_or (pieces_of p c) (present P.moves.read c d) []) ≡ map (Piece p c x.number) (left calls c)
unfolding left
pieces-left calls p P c d x shows at p_is sound begun = by (is_moved d) refl
  where
    by : (b : Bool) → is_moved d ≡ b → filter (may P) (option_map_or (pieces_of p c) (present P.moves.read c d) []) ≡ map (Piece p c x.number) (filter (λ k. not (is_marked calls c k)) (range_with_len 0 (parts calls c)))
    by true moved =
        let n : parts calls c ≡ parts_in x = shows.done.parts c d at ∙ rw (moved, p_is) refl in
        ap (λ o. filter (may P) (option_map_or (pieces_of p c) o [])) p_is
        ∙ filter_map (may P) (Piece p c x.number) (λ k. not (is_marked calls c k)) 0 (parts_in x) (λ k l. piece_is calls P c k d x shows at p_is sound begun moved (omega arith))
        ∙ ap (λ j. map (Piece p c x.number) (filter (λ k. not (is_marked calls c k)) (range_with_len 0 j))) (sym n)
    by false kept =
        let n : parts calls c ≡ 0 = shows.done.parts c d at ∙ rw kept refl in
        no-pieces p P c (present P.moves.read c d) (λ e k. piece-none P c e k (inr (begins-not P.moves c (has_part P.moves c e k) (λ y at_y.
        let same : y ≡ d = some_same y d (sym at_y ∙ at) in
        ap (λ b. b && option_map_or (is_part_left P.moves.done c e k) (present P.moves.read c y) false) (ap is_moved same ∙ kept)))))
        ∙ sym (ap (λ j. map (Piece p c x.number) (filter (λ k. not (is_marked calls c k)) (range_with_len 0 j))) n)

-- the allowed steps of a command: its element, its retirement, and its pieces
pub number-cut : (p : ℕ) (P : Spe) (c : ℕ) (d : Command) → slice_get P.moves.issued c ≡ Some d
    → allowed_of_number p P c ≡ (if may_elem P c then Elem p c ∷ [] else []) ++ ((if may_retire P c then Retire p c ∷ [] else []) ++ filter (may P) (option_map_or (pieces_of p c) (present P.moves.read c d) []))
number-cut p P c d at = ap (λ o. filter (may P) (option_map_or (steps_of_command p P.moves.read c) o [])) at ∙ on (may_elem P c) (may_retire P c) (filter (may P) (option_map_or (pieces_of p c) (present P.moves.read c d) []))
  where
    on : (a b : Bool) (xs : List Step) → cond a (Elem p c ∷ cond b (Retire p c ∷ xs) xs) (cond b (Retire p c ∷ xs) xs) ≡ (if a then Elem p c ∷ [] else []) ++ ((if b then Retire p c ∷ [] else []) ++ xs)
    on true true xs = refl
    on true false xs = refl
    on false true xs = refl
    on false false xs = refl

-- ---- how many they are

and_on : (b : Bool) → (b && true) ≡ b
and_on true = refl
and_on false = refl

-- whether a command that may begin has an element to read, or is to be retired
pub elem-begun : (P : Spe) (c : ℕ) (d : Command) → slice_get P.moves.issued c ≡ Some d → is_faulted P.status ≡ false → may_begin P.moves c ≡ true → may_elem P c ≡ has_element P.moves c d
unfolding may_elem
elem-begun P c d at sound begun = rw sound (begins-at P.moves c d (has_element P.moves c) at ∙ rw begun (and_on (has_element P.moves c d)))

left-unmoved : (m : Moves) (c : ℕ) (d : Command) → slice_get m.issued c ≡ Some d → is_complete m c ≡ false → is_left m c d ≡ not (is_moved d)
left-unmoved m c d at open_yet = on (is_moved d) refl
  where
    on : (b : Bool) → is_moved d ≡ b → is_left m c d ≡ not b
    on true e = left-moved m c d e
    on false e = left-open m c d at e open_yet

pub retire-begun : (P : Spe) (c : ℕ) (d : Command) → slice_get P.moves.issued c ≡ Some d → is_faulted P.status ≡ false → may_begin P.moves c ≡ true → is_complete P.moves c ≡ false → may_retire P c ≡ not (is_moved d)
unfolding may_retire
retire-begun P c d at sound begun open_yet = rw sound (begins-at P.moves c d (is_left P.moves c) at ∙ rw begun (and_on (is_left P.moves c d) ∙ left-unmoved P.moves c d at open_yet))

-- a command that waits has none
elem-waits : (P : Spe) (c : ℕ) → may_begin P.moves c ≡ false → may_elem P c ≡ false
unfolding may_elem
elem-waits P c h = and_off (not (is_faulted P.status)) _ (begins-waits P.moves c (has_element P.moves c) h)

retire-waits : (P : Spe) (c : ℕ) → may_begin P.moves c ≡ false → may_retire P c ≡ false
unfolding may_retire
retire-waits P c h = and_off (not (is_faulted P.status)) _ (begins-waits P.moves c (is_left P.moves c) h)

pub waits-none : (p : ℕ) (P : Spe) (c : ℕ) (d : Command) → slice_get P.moves.issued c ≡ Some d → may_begin P.moves c ≡ false → allowed_of_number p P c ≡ []
waits-none p P c d at h =
    let pieces = no-pieces p P c (present P.moves.read c d) (λ e k. piece-none P c e k (inr (begins-waits P.moves c (has_part P.moves c e k) h))) in
    number-cut p P c d at ∙ rw (elem-waits P c h, retire-waits P c h, pieces) refl

-- the allowed pieces of one that may begin are as many as the parts that it has left
none-left : (m : Moves) (c : ℕ) (d : Command) → present m.read c d ≡ None → parts_left m c d ≡ []
unfolding parts_left
none-left m c d e = ap (λ o. cond (is_moved d) (option_map_or (parts_missing m.done c) o []) []) e ∙ both (is_moved d)
  where
    both : (b : Bool) → ◌≡◌ {A = List ℕ} (cond b [] []) []
    both true = refl
    both false = refl

pieces-count : (calls : List Call) (p : ℕ) (P : Spe) (c : ℕ) (d : Command) → ShowsMoves calls P.moves → slice_get P.moves.issued c ≡ Some d → is_faulted P.status ≡ false → may_begin P.moves c ≡ true
    → length (filter (may P) (option_map_or (pieces_of p c) (present P.moves.read c d) [])) ≡ length (left calls c)
pieces-count calls p P c d shows at sound begun = on (present P.moves.read c d) refl
  where
    on : (o : Option Element) → present P.moves.read c d ≡ o → length (filter (may P) (option_map_or (pieces_of p c) (present P.moves.read c d) [])) ≡ length (left calls c)
    on None e = ap (λ o. length (filter (may P) (option_map_or (pieces_of p c) o []))) e ∙ sym (ap length (left-is calls P.moves c d shows at ∙ none-left P.moves c d e))
    on (Some x) e = ap length (pieces-left calls p P c d x shows at e sound begun) ∙ length-map (left calls c) (Piece p c x.number)

pub count-begun : (calls : List Call) (p : ℕ) (P : Spe) (c : ℕ) (d : Command) (a b : Bool) (n : ℕ) → ShowsMoves calls P.moves → slice_get P.moves.issued c ≡ Some d → is_faulted P.status ≡ false → may_begin P.moves c ≡ true
    → may_elem P c ≡ a → may_retire P c ≡ b → n ≡ length (left calls c) → (if a then 1 else 0) + (if b then 1 else 0) + n ≡ length (allowed_of_number p P c)
count-begun calls p P c d a b n shows at sound begun is_a is_b is_n =
    ap (λ x. (if x then 1 else 0) + (if b then 1 else 0) + n) (sym is_a)
    ∙ ap (λ y. (if may_elem P c then 1 else 0) + (if y then 1 else 0) + n) (sym is_b)
    ∙ ap (λ k. (if may_elem P c then 1 else 0) + (if may_retire P c then 1 else 0) + k) (is_n ∙ sym (pieces-count calls p P c d shows at sound begun))
    ∙ three (may_elem P c) (may_retire P c) (filter (may P) (option_map_or (pieces_of p c) (present P.moves.read c d) []))
    ∙ sym (ap length (number-cut p P c d at))
  where
    three : (a b : Bool) (xs : List Step) → (if a then 1 else 0) + (if b then 1 else 0) + length xs ≡ length ((if a then Elem p c ∷ [] else []) ++ ((if b then Retire p c ∷ [] else []) ++ xs))
    three true true xs = omega arith
    three true false xs = omega arith
    three false true xs = omega arith
    three false false xs = omega arith

found-passes : {X : Type 0} (t : X → Bool) (xs : List X) (x : X) → find t xs ≡ Some x → t x ≡ true
found-passes t [] x h = absurd (cc)
found-passes t (y ∷ xs) x h = on (t y) refl h (λ g. found-passes t xs x g)
  where
    on : (b : Bool) → t y ≡ b → cond b (Some y) (find t xs) ≡ Some x → (find t xs ≡ Some x → t x ≡ true) → t x ≡ true
    on true e g k = let same : y ≡ x = cc in subst (λ z. t z ≡ true) same e
    on false e g k = k g

-- the allowed steps of the outstanding commands
abbrev pub queued_steps : ℕ → Spe → List Step
queued_steps p P = filter (may P) (flat_map (steps_of_number p P) (outstanding P))

-- that of the atomic command stands before them
pub mfc-cut : (p : ℕ) (P : Spe) → allowed_of_mfc p P ≡ (if may_atomic P then Atomic p ∷ [] else []) ++ queued_steps p P
mfc-cut p P = on (may_atomic P)
  where
    on : (b : Bool) → cond b (Atomic p ∷ queued_steps p P) (queued_steps p P) ≡ (if b then Atomic p ∷ [] else []) ++ queued_steps p P
    on true = refl
    on false = refl

-- where nothing is outstanding and no atomic command is there, there are none
pub mfc-idle : (p : ℕ) (P : Spe) → length (outstanding P) ≡ 0 → may_atomic P ≡ false → allowed_of_mfc p P ≡ []
mfc-idle p P none lacks =
    mfc-cut p P
    ∙ ap (λ b. (if b then Atomic p ∷ [] else []) ++ queued_steps p P) lacks
    ∙ ap (λ cs. filter (may P) (flat_map (steps_of_number p P) cs)) (nil_from_length (outstanding P) none)

-- and those of the commands from index i on
abbrev pub steps_at : ℕ → Spe → ℕ → List Step
steps_at p P i = filter (may P) (flat_map (steps_of_number p P) (drop i (outstanding P)))

drop-next : (xs : List ℕ) (i c : ℕ) → slice_get xs i ≡ Some c → drop i xs ≡ c ∷ drop (i + 1) xs
drop-next [] i c h = absurd (cc)
drop-next (x ∷ xs) zero c h = let same : x ≡ c = cc in ap (λ y. y ∷ xs) same
drop-next (x ∷ xs) (suc i) c h = let e : suc i + 1 ≡ suc (i + 1) = omega arith in drop-next xs i c h ∙ ap (λ k. c ∷ drop k (x ∷ xs)) (sym e)

drop-end : (xs : List ℕ) (i : ℕ) → slice_get xs i ≡ None → drop i xs ≡ []
drop-end [] zero h = refl
drop-end [] (suc i) h = refl
drop-end (x ∷ xs) zero h = absurd (cc)
drop-end (x ∷ xs) (suc i) h = drop-end xs i h

pub steps-end : (p : ℕ) (P : Spe) (i : ℕ) → slice_get (outstanding P) i ≡ None → steps_at p P i ≡ []
steps-end p P i h = ap (λ xs. filter (may P) (flat_map (steps_of_number p P) xs)) (drop-end (outstanding P) i h)

pub steps-next : (p : ℕ) (P : Spe) (i c : ℕ) → slice_get (outstanding P) i ≡ Some c → steps_at p P i ≡ allowed_of_number p P c ++ steps_at p P (i + 1)
steps-next p P i c h =
    ap (λ xs. filter (may P) (flat_map (steps_of_number p P) xs)) (drop-next (outstanding P) i c h)
    ∙ filter-both (may P) (steps_of_number p P c) (flat_map (steps_of_number p P) (drop (i + 1) (outstanding P)))

-- none is allowed where the controller is at fault
faulted-may : (P : Spe) (s : Step) → is_faulted P.status ≡ true → may P s ≡ false
unfolding may_piece may_elem may_retire may_atomic
faulted-may P (Piece p c e k) h = rw h refl
faulted-may P (Retire p c) h = rw h refl
faulted-may P (Exec p) h = refl
faulted-may P (Elem p c) h = rw h refl
faulted-may P (Atomic p) h = rw h refl
faulted-may P Host h = refl

pub faulted-none : (P : Spe) (xs : List Step) → is_faulted P.status ≡ true → filter (may P) xs ≡ []
faulted-none P [] h = refl
faulted-none P (s ∷ xs) h = rw (faulted-may P s h) (faulted-none P xs h)

pub steps-faulted : (p : ℕ) (P : Spe) → is_faulted P.status ≡ true → queued_steps p P ≡ []
steps-faulted p P h = faulted-none P (flat_map (steps_of_number p P) (outstanding P)) h

-- those of one command, by its index
pub at-none : (p : ℕ) (P : Spe) (i : ℕ) → slice_get (outstanding P) i ≡ None → allowed_at p P i ≡ []
at-none p P i h = ap (λ o. option_map_or (allowed_of_number p P) o []) h

pub at-some : (p : ℕ) (P : Spe) (i c : ℕ) → slice_get (outstanding P) i ≡ Some c → allowed_at p P i ≡ allowed_of_number p P c
at-some p P i c h = ap (λ o. option_map_or (allowed_of_number p P) o []) h

pub at-faulted : (p : ℕ) (P : Spe) (i : ℕ) → is_faulted P.status ≡ true → allowed_at p P i ≡ []
at-faulted p P i h = on (slice_get (outstanding P) i)
  where
    on : (o : Option ℕ) → ◌≡◌ {A = List Step} (option_map_or (allowed_of_number p P) o []) []
    on None = refl
    on (Some c) = faulted-none P (steps_of_number p P c) h

-- a place within the first of two lists
pub at-within : (r : Result Step ℕ) (n : ℕ) (xs ys : List Step) → n < length xs → IsAt r n xs → IsAt r n (xs ++ ys)
at-within (Ok s) n xs ys low h = at-here (Ok s) n xs ys s refl h
at-within (Err k) n xs ys low h = absurd (omega arith)

pub found-is : (calls : List Call) (P : Spe) (k : ℕ) (o : Option ℕ) → ShowsMoves calls P.moves → o ≡ find (nat_le k) (outstanding_calls calls) → find (nat_le k) (outstanding P) ≡ o
found-is calls P k o shows h = ap (find (nat_le k)) (sym (outstanding-same calls P shows)) ∙ sym h

found_on : (t u : ℕ → Bool) (a n c : ℕ) (rest : List ℕ) (b : Bool) → t a ≡ b → find u (cond b (a ∷ rest) rest) ≡ Some c → (find u rest ≡ Some c → (t c ≡ true) × (a + 1 ≤ c) × (c < a + 1 + n)) → (t c ≡ true) × (a ≤ c) × (c < a + suc n)
found_on t u a n c rest true e h later = on (u a) h
  where
    on : (b : Bool) → cond b (Some a) (find u rest) ≡ Some c → (t c ≡ true) × (a ≤ c) × (c < a + suc n)
    on true g = let same : a ≡ c = cc in (subst (λ j. t j ≡ true) same e, omega arith, omega arith)
    on false g = let r = later g in let low = r.1 in let high = r.2 in (r.0, omega arith, omega arith)
found_on t u a n c rest false e h later = let r = later h in let low = r.1 in let high = r.2 in (r.0, omega arith, omega arith)

found-in : (t u : ℕ → Bool) (a n c : ℕ) → find u (filter t (range_with_len a n)) ≡ Some c → (t c ≡ true) × (a ≤ c) × (c < a + n)
found-in t u a zero c h = absurd (cc)
found-in t u a (suc n) c h = found_on t u a n c (filter t (range_with_len (a + 1) n)) (t a) refl h (λ g. found-in t u (a + 1) n c g)

-- a number that was found is of an outstanding command, at or above k
pub found-outstanding : (calls : List Call) (k c : ℕ) (o : Option ℕ) → o ≡ find (nat_le k) (outstanding_calls calls) → o ≡ Some c → (is_outstanding calls c ≡ true) × (k ≤ c) × (c < length (issued calls))
unfolding outstanding_of
found-outstanding calls k c o h is =
    let g : find (nat_le k) (outstanding_calls calls) ≡ Some c = sym h ∙ is in
    let r = found-in (λ j. not (is_retired calls j)) (nat_le k) 0 (length (issued calls)) c g in
    let high = r.2 in
    let l : c < length (issued calls) = omega arith in
    let t : nat_lt c (length (issued calls)) ≡ true = grind (arith, nat_tests) in
    let p : nat_le k c ≡ true = found-passes (nat_le k) (outstanding_calls calls) c g in
    (rw (t, r.0) refl, grind (arith, nat_tests), l)
