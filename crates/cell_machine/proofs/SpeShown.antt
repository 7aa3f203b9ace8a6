-- What the code's processor shows of its commands.
use Rattle.std.proofs.Common.{◌≡◌, ◌≢◌, ℕ, zero, suc, ◌+◌, ◌/◌, ◌<◌, ◌≤◌, ◌==◌, ◌&&◌, not, Bool, true, false, List, [], ◌∷◌, length, arith, refl, sym, ◌∙◌, ap, subst, true≢false}
use Rattle.std.specs.Prelude.{Option, Some, None, IfSome, IfNone, slice_get, slice_index_or, nat_lt, IsSomeAnd, is_some}
use Rattle.std.specs.Bool.{OnTrue}
use Rattle.std.specs.List.{list_all, range_with_len, last_or}
use Rattle.std.specs.Option.{option_map_or}
use Rattle.std.proofs.lemmas.Bool.Decides.{nat_tests}
use Rattle.std.proofs.Math.ListN.{length-map}
use Rattle.tag_groups.specs.declared.TagStatus.{TagStatus}
use Rattle.mfc_command.specs.declared.command.Command.{Command}
use Rattle.mfc_command.specs.declared.command.Kind.{Kind}
use Rattle.mfc_command.specs.declared.command.Kind.TheVariants.{Put, Get, PutList, GetList, Barrier, PutQueued, Signal}
use Rattle.mfc_command.specs.Order.{is_list, is_barrier, may_start, busy_groups, outstanding as outstanding_of}
use Rattle.mfc_lists.specs.declared.Element.{Element}
use Rattle.mfc_lists.specs.declared.ListState.{ListState}
use Rattle.mfc_lists.specs.Readings.{StandsFor as StandsForReading}
use Rattle.mfc_queue.specs.declared.Queue.{Queue}
use Rattle.mfc_queue.specs.Calls.{Call, issued, is_retired, is_outstanding, outstanding as outstanding_calls, parts, is_marked, may_begin as may_begin_calls, busy as busy_calls}
use Rattle.mfc_queue.specs.Stands.{StandsFor, place_in}
use Rattle.cell_machine.specs.declared.progress.Progress.{Progress}
use Rattle.cell_machine.specs.Spe.{Spe, Moves}
use Rattle.cell_machine.specs.Moves.{read_of, elements_in, elements_of, are_all_there, present, parts_in, whole, is_done, is_finished, is_moved, is_at_rest, was_retired, is_complete, is_complete_as, may_begin, outstanding, busy}
use Rattle.cell_machine.specs.Transfers.{begins, is_part_left, has_part, has_element, is_left}
use Rattle.cell_machine.specs.Channels.{read_status}
use Rattle.cell_machine.specs.MovesShown.{ShowsMoves, ShowsProgress, IsProgressOf, IsListOf, AreElements, parts_now, reading}
use Rattle.cell_machine.proofs.MovesShown.{get-within, eq_is, eq_off}

pub first_of_both : (a b : Bool) → (a && b) ≡ true → a ≡ true
first_of_both true b h = refl
first_of_both false b h = h

pub second_of_both : (a b : Bool) → (a && b) ≡ true → b ≡ true
second_of_both true b h = h
second_of_both false b h = absurd (true≢false (sym h))

pub not_of : (b : Bool) → not b ≡ true → b ≡ false
not_of true h = absurd (true≢false (sym h))
not_of false h = refl

pub on_of : (b : Bool) → not b ≡ false → b ≡ true
on_of true h = refl
on_of false h = absurd (true≢false h)

pub and_off : (a b : Bool) → b ≡ false → (a && b) ≡ false
and_off true b h = h
and_off false b h = refl

pub below : (a b : ℕ) → nat_lt a b ≡ true → a < b
below a b h = grind (arith, nat_tests)

pub get-either : {X : Type 0} (xs : List X) (i : ℕ) (Q : Type 0) → (slice_get xs i ≡ None → Q) → ((x : X) → slice_get xs i ≡ Some x → Q) → Q
get-either xs i Q none some = on (slice_get xs i) refl
  where
    on : (o : Option _) → slice_get xs i ≡ o → Q
    on None e = none e
    on (Some x) e = some x e

pub complete_or : (b : Bool) (Q : Type 0) → (b ≡ true → Q) → (b ≡ false → Q) → Q
complete_or true Q yes_it no_it = yes_it refl
complete_or false Q yes_it no_it = no_it refl

pub on_true : {Q : Type 0} (b : Bool) → Q → OnTrue b Q
on_true true q = q
on_true false q = tt

-- ---- which commands are outstanding

pub open-of : (calls : List Call) (m : Moves) (c : ℕ) → ShowsMoves calls m → is_outstanding calls c ≡ true → is_complete m c ≡ false
open-of calls m c shows is = sym (ap (λ f. f c) shows.complete) ∙ not_of (is_retired calls c) (second_of_both (nat_lt c (length (issued calls))) _ is)

pub outstanding-is : (calls : List Call) (m : Moves) (c : ℕ) (d : Command) → ShowsMoves calls m → slice_get m.issued c ≡ Some d → is_complete m c ≡ false → is_outstanding calls c ≡ true
outstanding-is calls m c d shows at open_yet =
    let l : c < length m.issued = get-within m.issued c d at in
    let e : length (issued calls) ≡ length m.issued = ap length shows.done.issued in
    let t : nat_lt c (length (issued calls)) ≡ true = grind (arith, nat_tests) in
    let r : is_retired calls c ≡ false = ap (λ f. f c) shows.complete ∙ open_yet in
    rw (t, r) refl

-- an outstanding command was issued
pub issued-is : (calls : List Call) (m : Moves) (c : ℕ) → ShowsMoves calls m → is_outstanding calls c ≡ true → (d : Command) × (slice_get m.issued c ≡ Some d)
issued-is calls m c shows is =
    let l : c < length (issued calls) = below c (length (issued calls)) (first_of_both (nat_lt c (length (issued calls))) _ is) in
    let e : length (issued calls) ≡ length m.issued = ap length shows.done.issued in
    there m.issued c (omega arith)
  where
    there : {X : Type 0} (xs : List X) (i : ℕ) → i < length xs → (x : X) × (slice_get xs i ≡ Some x)
    there [] i h = absurd (omega arith)
    there (x ∷ xs) zero h = (x, refl)
    there (x ∷ xs) (suc i) h = there xs i (omega arith)

pub begin-is : (calls : List Call) (m : Moves) (c : ℕ) → ShowsMoves calls m → may_begin_calls calls c ≡ may_begin m c
begin-is calls m c shows = ap (λ f. may_start f (issued calls) c) shows.complete ∙ ap (λ cs. may_start (is_complete m) cs c) shows.done.issued

pub busy-same : (calls : List Call) (m : Moves) → ShowsMoves calls m → busy_calls calls ≡ busy m
busy-same calls m shows = ap (λ f. busy_groups f (issued calls)) shows.complete ∙ ap (busy_groups (is_complete m)) shows.done.issued

pub outstanding-same : (calls : List Call) (P : Spe) → ShowsMoves calls P.moves → outstanding_calls calls ≡ outstanding P
outstanding-same calls P shows = ap (λ f. outstanding_of f (issued calls)) shows.complete ∙ ap (outstanding_of (is_complete P.moves)) shows.done.issued

-- a command of the calls is the one that was issued
pub command-is : (calls : List Call) (m : Moves) (c : ℕ) (y d : Command) → ShowsMoves calls m → slice_get (issued calls) c ≡ Some y → slice_get m.issued c ≡ Some d → y ≡ d
command-is calls m c y d shows got at = let same : slice_get m.issued c ≡ Some y = subst (λ xs. slice_get xs c ≡ Some y) shows.done.issued got in cc

-- ---- what a command may do

pub begins-at : (m : Moves) (c : ℕ) (d : Command) (f : Command → Bool) → slice_get m.issued c ≡ Some d → begins m c f ≡ (f d && may_begin m c)
begins-at m c d f at = rw at refl

pub begins-none : (m : Moves) (c : ℕ) (f : Command → Bool) → slice_get m.issued c ≡ None → begins m c f ≡ false
begins-none m c f at = rw at refl

-- one that isn't outstanding does nothing
pub begins-closed : (calls : List Call) (m : Moves) (c : ℕ) (f : Command → Bool) → ShowsMoves calls m → is_outstanding calls c ≡ false
    → ((d : Command) → slice_get m.issued c ≡ Some d → is_complete m c ≡ true → f d ≡ false) → begins m c f ≡ false
begins-closed calls m c f shows closed ended =
    get-either m.issued c (begins m c f ≡ false) (begins-none m c f) (λ d at.
    complete_or (is_complete m c) (begins m c f ≡ false) (λ h. begins-at m c d f at ∙ ap (λ b. b && may_begin m c) (ended d at h))
    (λ h. absurd (true≢false (sym (outstanding-is calls m c d shows at h) ∙ closed))))

pub complete-at : (m : Moves) (c : ℕ) (d : Command) → slice_get m.issued c ≡ Some d → is_complete m c ≡ is_complete_as m c d
unfolding is_complete
complete-at m c d at = rw at refl

pub complete-moved : (m : Moves) (c : ℕ) (d : Command) → is_moved d ≡ true → is_complete_as m c d ≡ (are_all_there m.read c d && is_at_rest m c d)
unfolding is_complete_as
complete-moved m c d h = rw h refl

pub complete-retired : (m : Moves) (c : ℕ) (d : Command) → is_moved d ≡ false → is_complete_as m c d ≡ was_retired m.retired c
unfolding is_complete_as
complete-retired m c d h = rw h refl

all-at : (f : ℕ → Bool) (a n k : ℕ) → list_all f (range_with_len a n) ≡ true → a ≤ k → k < a + n → f k ≡ true
all-at f a zero k h low high = absurd (omega arith)
all-at f a (suc n) k h low high = on (a == k) refl (λ l. all-at f (a + 1) n k (second_of_both (f a) _ h) l (omega arith))
  where
    on : (b : Bool) → (a == k) ≡ b → (a + 1 ≤ k → f k ≡ true) → f k ≡ true
    on true e r = let same : a ≡ k = grind (arith, nat_tests) in subst (λ j. f j ≡ true) same (first_of_both (f a) _ h)
    on false e r = r (let differs : a ≢ k = grind (arith, nat_tests) in omega arith)

pub all-last : {X : Type 0} (f : X → Bool) (o : Option X) (xs : List X) (y : X) → option_map_or f o true ≡ true → list_all f xs ≡ true → last_or o xs ≡ Some y → f y ≡ true
all-last f None [] y g h e = absurd (cc)
all-last f (Some x) [] y g h e = ap (λ z. option_map_or f z true) (sym e) ∙ g
all-last f o (x ∷ xs) y g h e = all-last f (Some x) xs y (first_of_both (f x) (list_all f xs) h) (second_of_both (f x) (list_all f xs) h) e

-- what a part that is left says
pub record PartLeft (m : Moves) (c e k : ℕ) (d : Command) : Type 0 where
  pub element : Element
  pub present_is : present m.read c d ≡ Some element
  pub number : element.number ≡ e
  pub within : k < parts_in element
  pub not_done : is_done m.done c e k ≡ false
  pub moved : is_moved d ≡ true
  pub unfinished : is_finished m.done c element ≡ false

pub part-facts : (m : Moves) (c e k : ℕ) (d : Command) → has_part m c e k d ≡ true → PartLeft m c e k d
unfolding is_finished
part-facts m c e k d has = on (present m.read c d) refl (second_of_both (is_moved d) _ has)
  where
    on : (o : Option Element) → present m.read c d ≡ o → option_map_or (is_part_left m.done c e k) o false ≡ true → PartLeft m c e k d
    on None p h = absurd (true≢false (sym h))
    on (Some x) p h =
        let n : x.number ≡ e = eq_is x.number e (first_of_both (x.number == e) _ (first_of_both (x.number == e && nat_lt k (parts_in x)) _ h)) in
        let l : k < parts_in x = below k (parts_in x) (second_of_both (x.number == e) _ (first_of_both (x.number == e && nat_lt k (parts_in x)) _ h)) in
        let u : is_done m.done c e k ≡ false = not_of _ (second_of_both (x.number == e && nat_lt k (parts_in x)) _ h) in
        record {
          element = x;
          present_is = p;
          number = n;
          within = l;
          not_done = u;
          moved = first_of_both (is_moved d) _ has;
          unfinished = complete_or (is_finished m.done c x) (is_finished m.done c x ≡ false)
              (λ all. absurd (true≢false (sym (all-at (is_done m.done c x.number) 0 (parts_in x) k all (omega arith) (omega arith)) ∙ ap (λ j. is_done m.done c j k) n ∙ u))) (λ z. z);
        }

list-no_barrier : (k : Kind) → is_list k ≡ true → is_barrier k ≡ false
list-no_barrier Put h = refl
list-no_barrier Get h = refl
list-no_barrier PutList h = refl
list-no_barrier GetList h = refl
list-no_barrier Barrier h = absurd (true≢false (sym h))
list-no_barrier PutQueued h = refl
list-no_barrier Signal h = refl

-- a list of a size above 0 is moved
pub list-moved : (d : Command) → is_list d.kind ≡ true → d.size ≢ 0 → is_moved d ≡ true
list-moved d list some = let z : (d.size == 0) ≡ false = eq_off d.size 0 some in rw (list-no_barrier d.kind list, z) refl

-- a command that is complete has no part left, no element, and isn't left itself
pub complete-no_part : (m : Moves) (c e k : ℕ) (d : Command) → slice_get m.issued c ≡ Some d → is_complete m c ≡ true → has_part m c e k d ≡ false
unfolding present
complete-no_part m c e k d at complete = complete_or (has_part m c e k d) (has_part m c e k d ≡ false) (λ has.
    let f = part-facts m c e k d has in
    let rest = second_of_both (are_all_there m.read c d) (is_at_rest m c d) (sym (complete-moved m c d f.moved) ∙ sym (complete-at m c d at) ∙ complete) in
    let all = first_of_both (list_all (is_finished m.done c) (elements_of m.read c d)) _ rest in
    absurd (true≢false (sym (all-last (is_finished m.done c) None (elements_of m.read c d) f.element refl all f.present_is) ∙ f.unfinished))) (λ z. z)

pub complete-no_element : (m : Moves) (c : ℕ) (d : Command) → AreElements m c d → slice_get m.issued c ≡ Some d → is_complete m c ≡ true → has_element m c d ≡ false
complete-no_element m c d els at complete = complete_or (is_list d.kind) (has_element m c d ≡ false)
    (λ list. ap (λ b. is_list d.kind && not b && is_at_rest m c d) (there list (is_moved d) refl) ∙ ap (λ b. b && is_at_rest m c d) (and_off (is_list d.kind) false refl))
    (λ plain. ap (λ b. b && not (are_all_there m.read c d) && is_at_rest m c d) plain)
  where
    barrier_off : (b s : Bool) → (not b && not s) ≡ false → b ≡ false → s ≡ true
    barrier_off true s h e = absurd (true≢false e)
    barrier_off false true h e = refl
    barrier_off false false h e = absurd (true≢false h)

    there : is_list d.kind ≡ true → (b : Bool) → is_moved d ≡ b → are_all_there m.read c d ≡ true
    there list true moved = first_of_both (are_all_there m.read c d) (is_at_rest m c d) (sym (complete-moved m c d moved) ∙ sym (complete-at m c d at) ∙ complete)
    there list false kept =
        let z : (d.size == 0) ≡ true = barrier_off (is_barrier d.kind) (d.size == 0) kept (list-no_barrier d.kind list) in
        let zero_size : d.size ≡ 0 = eq_is d.size 0 z in
        let none : elements_in d ≡ d.size / 8 = rw list refl in
        let few = els.few in
        grind (arith, nat_tests)

pub complete-not_left : (m : Moves) (c : ℕ) (d : Command) → slice_get m.issued c ≡ Some d → is_complete m c ≡ true → is_left m c d ≡ false
complete-not_left m c d at complete = complete_or (is_moved d) (is_left m c d ≡ false)
    (λ moved. ap (λ b. not b && not (was_retired m.retired c)) moved)
    (λ kept. ap (λ b. not (is_moved d) && not b) (sym (complete-retired m c d kept) ∙ sym (complete-at m c d at) ∙ complete) ∙ and_off (not (is_moved d)) false refl)

-- ---- the states of lists

pub get-index : {X : Type 0} (xs : List X) (i : ℕ) (d x : X) → slice_get xs i ≡ Some x → slice_index_or xs i d ≡ x
get-index [] i d x h = absurd (cc)
get-index (y ∷ xs) zero d x h = cc
get-index (y ∷ xs) (suc i) d x h = get-index xs i d x h

pub progress-there : (q : Queue) (kept : List Progress) (m : Moves) (c place : ℕ) (d : Command) (new : Progress) → ShowsProgress q kept m → slice_get m.issued c ≡ Some d
    → place_in q c ≡ Some place → IsProgressOf (slice_index_or kept place new) m c d
progress-there q kept m c place d new shows at placed =
    let s = shows c place d at placed in
    subst (λ p. IsProgressOf p m c d) (sym (get-index kept place new s.progress s.there)) s.stands

-- a command with a state is a list, and one without is none
pub list-kind : (m : Moves) (c : ℕ) (d : Command) (o : Option ListState) (s : ListState) → IsListOf o m c d → o ≡ Some s → (is_list d.kind ≡ true) × StandsForReading s (reading m c d)
list-kind m c d o s is e = on (is_list d.kind) refl
  where
    on : (b : Bool) → is_list d.kind ≡ b → (is_list d.kind ≡ true) × StandsForReading s (reading m c d)
    on true h = (h, subst (λ z. IsSomeAnd z (λ t. StandsForReading t (reading m c d))) e (is.0 h))
    on false h = absurd (let n = is.1 h in cc)

pub plain-kind : (m : Moves) (c : ℕ) (d : Command) (o : Option ListState) → IsListOf o m c d → o ≡ None → is_list d.kind ≡ false
plain-kind m c d o is e = on (is_list d.kind) refl
  where
    on : (b : Bool) → is_list d.kind ≡ b → is_list d.kind ≡ false
    on true h = absurd (subst (λ z. IsSomeAnd z (λ t. StandsForReading t (reading m c d))) e (is.0 h))
    on false h = h

pub present-plain : (m : Moves) (c : ℕ) (d : Command) → is_list d.kind ≡ false → present m.read c d ≡ Some (whole d)
unfolding present
present-plain m c d h = rw h refl

pub on_some : {X : Type 0} (o : Option X) (R : X → Type 0) → ((x : X) → o ≡ Some x → R x) → IfSome o R
on_some None R k = tt
on_some (Some x) R k = k x refl

pub on_none : {X : Type 0} (o : Option X) (R : Type 0) → (o ≡ None → R) → IfNone o R
on_none None R k = k refl
on_none (Some x) R k = tt

-- an outstanding one begins, by a test that it passes, where none goes before it
pub begins-open : (calls : List Call) (m : Moves) (c : ℕ) (f : Command → Bool) → ShowsMoves calls m → is_outstanding calls c ≡ true
    → ((d : Command) → slice_get m.issued c ≡ Some d → f d ≡ true) → may_begin_calls calls c ≡ begins m c f
begins-open calls m c f shows is passes =
    let d = issued-is calls m c shows is in
    begin-is calls m c shows ∙ sym (begins-at m c d.0 f d.1 ∙ ap (λ b. b && may_begin m c) (passes d.0 d.1))

pub begins-not : (m : Moves) (c : ℕ) (f : Command → Bool) → ((d : Command) → slice_get m.issued c ≡ Some d → f d ≡ false) → begins m c f ≡ false
begins-not m c f fails = get-either m.issued c (begins m c f ≡ false) (begins-none m c f) (λ d at. begins-at m c d f at ∙ ap (λ b. b && may_begin m c) (fails d at))

pub left-open : (m : Moves) (c : ℕ) (d : Command) → slice_get m.issued c ≡ Some d → is_moved d ≡ false → is_complete m c ≡ false → is_left m c d ≡ true
left-open m c d at kept open_yet =
    let r : was_retired m.retired c ≡ false = sym (complete-retired m c d kept) ∙ sym (complete-at m c d at) ∙ open_yet in
    rw (kept, r) refl

pub left-moved : (m : Moves) (c : ℕ) (d : Command) → is_moved d ≡ true → is_left m c d ≡ false
left-moved m c d moved = ap (λ b. not b && not (was_retired m.retired c)) moved

pub plain-no_element : (m : Moves) (c : ℕ) (d : Command) → is_list d.kind ≡ false → has_element m c d ≡ false
plain-no_element m c d plain = ap (λ b. b && not (are_all_there m.read c d) && is_at_rest m c d) plain

-- the present element of an outstanding command has the parts of the queue, and those are done that are marked
pub part-is : (calls : List Call) (m : Moves) (c e k : ℕ) (d : Command) (x : Element) → ShowsMoves calls m → slice_get m.issued c ≡ Some d → present m.read c d ≡ Some x
    → x.number ≡ e → k < parts calls c → is_marked calls c k ≡ false → has_part m c e k d ≡ true
part-is calls m c e k d x shows at p number less unmarked =
    let n = shows.done.parts c d at in
    let u : is_done m.done c e k ≡ false = ap (λ j. is_done m.done c j k) (sym number) ∙ sym (shows.done.marked c k d x at p) ∙ unmarked in
    on n (is_moved d) refl u
  where
    on : parts calls c ≡ parts_now m.read c d → (b : Bool) → is_moved d ≡ b → is_done m.done c e k ≡ false → has_part m c e k d ≡ true
    on n false kept u = absurd (let z : parts calls c ≡ 0 = n ∙ (rw kept refl) in omega arith)
    on n true moved u =
        let q : parts calls c ≡ parts_in x = n ∙ (rw (moved, p) refl) in
        let l : nat_lt k (parts_in x) ≡ true = grind (arith, nat_tests) in
        let s : (x.number == e) ≡ true = grind (arith, nat_tests) in
        rw (moved, p) (rw (s, l, u) refl)

pub elements-list : (m : Moves) (c : ℕ) (d : Command) → is_list d.kind ≡ true → elements_of m.read c d ≡ read_of m.read c
elements-list m c d h = rw h refl

-- the command of the calls, as it was issued
pub issued-at : (calls : List Call) (m : Moves) (c : ℕ) (y : Command) → ShowsMoves calls m → slice_get (issued calls) c ≡ Some y → slice_get m.issued c ≡ Some y
issued-at calls m c y shows got = subst (λ xs. slice_get xs c ≡ Some y) shows.done.issued got

-- at most sixteen commands are outstanding
pub few-outstanding : (q : Queue) (calls : List Call) → StandsFor q calls → length (outstanding_calls calls) ≤ 16
few-outstanding q calls stands = let e = ap length stands.numbers ∙ length-map q.held.items _ in let l = stands.many in omega arith

pub status-off : (P : Spe) (rt : ℕ) (o : Option TagStatus) → is_some o ≡ false → read_status P rt o ≡ None
status-off P rt None h = refl
status-off P rt (Some status) h = absurd (true≢false h)
