-- The queue and what is kept at its places keep step with what is issued and done.
use Rattle.std.proofs.Common.{◌≡◌, ◌≢◌, ℕ, zero, suc, ◌+◌, ◌<◌, ◌≤◌, ◌==◌, ◌&&◌, not, Bool, true, false, List, [], ◌∷◌, ◌++◌, length, ◌/◌, ◌%◌, length-append, arith, refl, sym, ◌∙◌, ap, subst, slice_set, true≢false}
use Rattle.std.specs.Prelude.{Option, Some, None, IsSomeAnd, slice_get, is_some, nat_lt, if◌then◌else◌}
use Rattle.std.specs.List.{list_all, last_or, range_with_len}
use Rattle.std.proofs.lemmas.Bool.Decides.{nat_tests}
use Rattle.mfc_command.specs.declared.command.Command.{Command}
use Rattle.mfc_command.specs.Order.{is_list, is_barrier}
use Rattle.mfc_lists.specs.declared.Element.{Element}
use Rattle.mfc_lists.specs.declared.ListState.{ListState}
use Rattle.mfc_lists.specs.Readings.{Reading, StandsFor as StandsForReading, is_complete as is_complete_reading, current, finished, with_element, next_at as next_of_reading}
use Rattle.mfc_queue.specs.declared.Queue.{Queue}
use Rattle.mfc_queue.specs.Calls.{Call, Issue, SetParts, Mark, Retire, issued, is_retired, is_outstanding, parts, all_marked}
use Rattle.mfc_queue.specs.Stands.{StandsFor, place_in, KeepsPlaces, KeepsOtherPlaces}
use Rattle.mfc_queue.proofs.Holding.{no-place, places-own}
use Rattle.mfc_queue.proofs.CallLaws.{retired-more, issued-same, retired-same, issued-issued, retired-issued}
use Rattle.cell_machine.specs.declared.progress.Progress.{Progress}
use Rattle.cell_machine.specs.Spe.{Moves, Stall}
use Rattle.cell_machine.specs.Moves.{read_of, elements_in, elements_of, is_done, present, parts_in, whole, is_moved, is_finished, stall_of, stalls_behind, is_stalled, is_complete}
use Rattle.cell_machine.specs.Transfers.{has_part, has_element, with_done, with_read, with_retired}
use Rattle.cell_machine.specs.Channels.{with_issued}
use Rattle.cell_machine.specs.MovesShown.{ShowsMoves, ShowsProgress, ShowsOtherProgress, ShowsCommand, IsProgressOf, IsListOf, other_steps, ShowsQueue, ShowsQueueBut, AreElements, parts_now, reading}
use Rattle.cell_machine.proofs.MovesShown.{moves-issue, moves-mark, moves-mark_last, others-mark, others-read, others-closed, others-open, moves-retire, complete-reading, finished-now, unfinished, get-cases, get-last, eq_is, eq_off, eq_same, or_true}
use Rattle.cell_machine.proofs.Elements.{MayRead, element-is}
use Rattle.cell_machine.proofs.ListsGo.{rest-next, part-left, part-last, part-other, read-other, read-moved, read-empty, issued-other, retired-other}
use Rattle.cell_machine.proofs.SpeShown.{list-moved, PartLeft, part-facts, and_off, complete_or, outstanding-is, complete-no_part, complete-no_element, plain-no_element, present-plain, elements-list, all-last}

-- ---- one state is put

pub set-here : {X : Type 0} (xs : List X) (i : ℕ) (x : X) → i < length xs → slice_get (slice_set xs i x) i ≡ Some x
set-here [] i x h = absurd (omega arith)
set-here (y ∷ xs) zero x h = refl
set-here (y ∷ xs) (suc i) x h = set-here xs i x (omega arith)

pub set-other : {X : Type 0} (xs : List X) (i j : ℕ) (x : X) → i ≢ j → slice_get (slice_set xs i x) j ≡ slice_get xs j
set-other [] i j x h = refl
set-other (y ∷ xs) zero zero x h = absurd (h refl)
set-other (y ∷ xs) zero (suc j) x h = refl
set-other (y ∷ xs) (suc i) zero x h = refl
set-other (y ∷ xs) (suc i) (suc j) x h = set-other xs i j x (λ e. h (ap suc e))

pub progress-set : (q : Queue) (kept : List Progress) (m : Moves) (c place : ℕ) (d : Command) (new : Progress) → ShowsOtherProgress q kept m c → slice_get m.issued c ≡ Some d
    → IsProgressOf new m c d → place_in q c ≡ Some place → place < length kept → ShowsProgress q (slice_set kept place new) m
progress-set q kept m c place d new others at stands placed within = λ o p x at_o placed_o. by o p x at_o placed_o (o == c) refl
  where
    by : (o p : ℕ) (x : Command) → slice_get m.issued o ≡ Some x → place_in q o ≡ Some p → (b : Bool) → (o == c) ≡ b → ShowsCommand (slice_set kept place new) p m o x
    by o p x at_o placed_o true e =
        let same : o ≡ c = eq_is o c e in
        let at_c : slice_get m.issued c ≡ Some x = subst (λ k. slice_get m.issued k ≡ Some x) same at_o in
        let is : d ≡ x = cc in
        let here : place_in q c ≡ Some p = subst (λ k. place_in q k ≡ Some p) same placed_o in
        let there : place ≡ p = cc in
        let mine : ShowsCommand (slice_set kept place new) place m c d = record { progress = new; there = set-here kept place new within; stands = stands } in
        subst (λ k. ShowsCommand (slice_set kept place new) p m k x) (sym same) (subst (λ y. ShowsCommand (slice_set kept place new) p m c y) is (subst (λ k. ShowsCommand (slice_set kept place new) k m c d) there mine))
    by o p x at_o placed_o false e =
        let differs : o ≢ c = (λ (z : o ≡ c). true≢false (sym (subst (λ k. (o == k) ≡ true) z (grind (arith, nat_tests))) ∙ e)) in
        let old = others o p x differs at_o placed_o in
        let apart : place ≢ p = (λ (z : place ≡ p). differs (places-own q c o place placed (subst (λ k. place_in q o ≡ Some k) (sym z) placed_o))) in
        record { progress = old.progress; there = set-other kept place p new apart ∙ old.there; stands = old.stands }

-- ---- what is kept stays

-- what is kept of a command stands for it as before, where its reading stays, or it is no list
steps-stay : (m n : Moves) (c : ℕ) (d : Command) → (is_list d.kind ≡ true → reading n c d ≡ reading m c d) → other_steps n c d ≡ other_steps m c d
steps-stay m n c d same = on (is_list d.kind) refl
  where
    on : (b : Bool) → is_list d.kind ≡ b → other_steps n c d ≡ other_steps m c d
    on true list = ap (λ b. (if b then 1 else 0) + (if not (is_moved d) then 1 else 0)) (rest-next n c d list ∙ ap (λ r. is_some (next_of_reading r)) (same list) ∙ sym (rest-next m c d list))
    on false plain = ap (λ b. (if b then 1 else 0) + (if not (is_moved d) then 1 else 0)) (plain-no_element n c d plain ∙ sym (plain-no_element m c d plain))

command-stays : (kept : List Progress) (place : ℕ) (m n : Moves) (c : ℕ) (d : Command) → ShowsCommand kept place m c d → (is_list d.kind ≡ true → reading n c d ≡ reading m c d) → ShowsCommand kept place n c d
command-stays kept place m n c d old same = record {
  progress = old.progress;
  there = old.there;
  stands = record {
    list = (λ list. subst (λ r. IsSomeAnd old.progress.list (λ s. StandsForReading s r)) (sym (same list)) (old.stands.list.0 list), old.stands.list.1);
    others = old.stands.others ∙ sym (steps-stay m n c d same);
  };
}

-- what is kept of other commands stays, where they have their places and their readings
pub others-stay : (q r : Queue) (kept : List Progress) (m n : Moves) (c : ℕ) → ShowsProgress q kept m → ((o : ℕ) → o ≢ c → place_in r o ≡ place_in q o)
    → ((o : ℕ) (x : Command) → o ≢ c → slice_get n.issued o ≡ Some x → (slice_get m.issued o ≡ Some x) × (is_list x.kind ≡ true → reading n o x ≡ reading m o x))
    → ShowsOtherProgress r kept n c
others-stay q r kept m n c shows places readings = λ o p x differs at placed.
    let same = readings o x differs at in
    command-stays kept p m n o x (shows o p x same.0 (sym (places o differs) ∙ placed)) same.1

-- and all of it, where the one command has no place, or has its place and its reading too
pub all-stay : (q : Queue) (kept : List Progress) (m : Moves) (c : ℕ) → ShowsOtherProgress q kept m c
    → ((p : ℕ) (x : Command) → slice_get m.issued c ≡ Some x → place_in q c ≡ Some p → ShowsCommand kept p m c x) → ShowsProgress q kept m
all-stay q kept m c others own = λ o p x at placed. by o p x at placed (o == c) refl
  where
    by : (o p : ℕ) (x : Command) → slice_get m.issued o ≡ Some x → place_in q o ≡ Some p → (b : Bool) → (o == c) ≡ b → ShowsCommand kept p m o x
    by o p x at placed true e =
        let same : o ≡ c = eq_is o c e in
        subst (λ k. ShowsCommand kept p m k x) (sym same) (own p x (subst (λ k. slice_get m.issued k ≡ Some x) same at) (subst (λ k. place_in q k ≡ Some p) same placed))
    by o p x at placed false e =
        let differs : o ≢ c = (λ (z : o ≡ c). true≢false (sym (subst (λ k. (o == k) ≡ true) z (grind (arith, nat_tests))) ∙ e)) in
        others o p x differs at placed

closed-now : (calls : List Call) (c : ℕ) → is_outstanding (calls ++ Retire c ∷ []) c ≡ false
closed-now calls c =
    let gone : is_retired (calls ++ Retire c ∷ []) c ≡ true = retired-more calls (Retire c) c ∙ rw (eq_same c) (or_true (is_retired calls c)) in
    and_off (nat_lt c (length (issued (calls ++ Retire c ∷ [])))) _ (ap not gone)

-- ---- a list is kept

pub kept-progress : (m : Moves) (c : ℕ) (d : Command) (s : ListState) (new : Progress) → is_list d.kind ≡ true → d.size ≢ 0 → StandsForReading s (reading m c d) → new.list ≡ Some s
    → ((n : Moves) (k : ℕ) (x : Command) → IsListOf (Some s) n k x → true ≡ is_moved x → new.others ≡ other_steps n k x) → IsProgressOf new m c d
kept-progress m c d s new list some stands is others =
    let own : IsListOf (Some s) m c d = (λ l. stands, λ plain. absurd (true≢false (sym list ∙ plain))) in
    record { list = subst (λ o. IsListOf o m c d) (sym is) own; others = others m c d own (sym (list-moved d list some)) }

pub kept-closed : (q r : Queue) (kept : List Progress) (m : Moves) (c : ℕ) (d : Command) (s : ListState) (but : ShowsQueueBut q kept m c) (new : List Progress)
    → slice_get m.issued c ≡ Some d → is_list d.kind ≡ true → d.size ≢ 0 → StandsForReading s (reading m c d) → is_complete_reading (reading m c d) ≡ true
    → ShowsProgress q new m → StandsFor r (but.calls ++ Retire c ∷ []) → KeepsOtherPlaces q r c → ShowsQueue r new m
kept-closed q r kept m c d s but new at list some stands ended shows after places =
    let z : (d.size == 0) ≡ false = eq_off d.size 0 some in
    let complete : is_complete m c ≡ true = complete-reading m c d at list z ∙ ended in
    let moves = others-closed but.calls m c but.moves complete in
    record {
      calls = but.calls ++ Retire c ∷ [];
      stands = after;
      moves = moves;
      kept = all-stay r new m c (others-stay q r new m m c shows places (λ o x differs at_o. (at_o, λ list_o. refl)))
          (λ p x at_c placed. absurd (let none = no-place r (but.calls ++ Retire c ∷ []) c after (closed-now but.calls c) in cc));
    }

pub kept-open : (q r : Queue) (kept : List Progress) (m : Moves) (c : ℕ) (d : Command) (but : ShowsQueueBut q kept m c) (new : List Progress)
    → slice_get m.issued c ≡ Some d → is_list d.kind ≡ true → d.size ≢ 0 → is_complete_reading (reading m c d) ≡ false
    → ShowsProgress q new m → r ≡ q → ShowsQueue r new m
kept-open q r kept m c d but new at list some goes_on shows same =
    let z : (d.size == 0) ≡ false = eq_off d.size 0 some in
    let open_yet : is_complete m c ≡ false = complete-reading m c d at list z ∙ goes_on in
    subst (λ k. ShowsQueue k new m) (sym same) (record { calls = but.calls; stands = but.stands; moves = others-open but.calls m c but.moves open_yet; kept = shows })

-- ---- a part is marked

pub part-open : (calls : List Call) (m : Moves) (c e k : ℕ) (d : Command) → ShowsMoves calls m → slice_get m.issued c ≡ Some d → has_part m c e k d ≡ true → is_outstanding calls c ≡ true
part-open calls m c e k d shows at has =
    outstanding-is calls m c d shows at (complete_or (is_complete m c) (is_complete m c ≡ false) (λ h. absurd (true≢false (sym has ∙ complete-no_part m c e k d at h))) (λ h. h))

pub part-within : (calls : List Call) (m : Moves) (c e k : ℕ) (d : Command) → ShowsMoves calls m → slice_get m.issued c ≡ Some d → has_part m c e k d ≡ true → k < parts calls c
part-within calls m c e k d shows at has =
    let f = part-facts m c e k d has in
    let n : parts calls c ≡ parts_in f.element = shows.done.parts c d at ∙ rw (f.moved, f.present_is) refl in
    let l = f.within in
    omega arith

pub stalled-at : (m : Moves) (c : ℕ) (d : Command) (x : Element) → present m.read c d ≡ Some x → is_stalled m c d ≡ stalls_behind m c x
unfolding stall_of
stalled-at m c d x p = rw p (on (stalls_behind m c x))
  where
    on : (b : Bool) → is_some {T = Stall} (if b then Some (record { cmd = c; elem = x.number }) else None) ≡ b
    on true = refl
    on false = refl

unfinished-rests : (a f r : Bool) → f ≡ false → (a && f && not r) ≡ false
unfinished-rests true f r h = ap (λ b. b && not r) h
unfinished-rests false f r h = refl

unfinished-unstalled : (m : Moves) (c : ℕ) (d : Command) (x : Element) → present m.read c d ≡ Some x → is_finished m.done c x ≡ false → is_stalled m c d ≡ false
unfinished-unstalled m c d x p h = stalled-at m c d x p ∙ unfinished-rests x.flagged _ _ h

pub plain-unstalled : (m : Moves) (c : ℕ) (d : Command) → is_list d.kind ≡ false → is_stalled m c d ≡ false
plain-unstalled m c d plain = stalled-at m c d (whole d) (present-plain m c d plain)

not_same : (o c : ℕ) → o ≢ c → (c == o) ≡ false
not_same o c differs = eq_off c o (λ z. differs (sym z))

-- a part isn't the last one of its element
pub mark-left : (q r : Queue) (kept : List Progress) (m : Moves) (c e k : ℕ) (d : Command) (shows : ShowsQueue q kept m) → slice_get m.issued c ≡ Some d → has_part m c e k d ≡ true
    → all_marked (shows.calls ++ Mark c k ∷ []) c ≡ false → StandsFor r (shows.calls ++ Mark c k ∷ []) → KeepsPlaces q r
    → ShowsQueue r kept (with_done m c e k) × (false ≡ is_stalled (with_done m c e k) c d)
mark-left q r kept m c e k d shows at has all stands places =
    let f = part-facts m c e k d has in
    let after : is_finished (with_done m c e k).done c f.element ≡ false = finished-now shows.calls m c e k d f.element shows.moves at f.present_is has ∙ all in (
      record {
        calls = shows.calls ++ Mark c k ∷ [];
        stands = stands;
        moves = moves-mark shows.calls m c e k d shows.moves at has all;
        kept = all-stay r kept (with_done m c e k) c
            (others-stay q r kept m (with_done m c e k) c shows.kept (λ o differs. places o) (λ o x differs at_o. (at_o, λ list. part-other m c o x e k list (not_same o c differs))))
            (λ p x at_c placed. command-stays kept p m (with_done m c e k) c x (shows.kept c p x at_c (sym (places c) ∙ placed)) (λ list.
            let is : d ≡ x = cc in
            let els = shows.moves.done.elements c x at_c in
            let same : reading (with_done m c f.element.number k) c x ≡ reading m c x = part-left m c x f.element k list els (subst (λ y. present m.read c y ≡ Some f.element) is f.present_is) f.unfinished
            (subst (λ n. is_finished (with_done m c n k).done c f.element ≡ false) (sym f.number) after) in
            subst (λ n. reading (with_done m c n k) c x ≡ reading m c x) f.number same));
      },
      sym (unfinished-unstalled (with_done m c e k) c d f.element f.present_is after),
    )

-- the part is the last one of a PUT or GET
pub mark-plain : (q r s : Queue) (kept : List Progress) (m : Moves) (c e k : ℕ) (d : Command) (shows : ShowsQueue q kept m) → slice_get m.issued c ≡ Some d → is_list d.kind ≡ false
    → has_part m c e k d ≡ true → all_marked (shows.calls ++ Mark c k ∷ []) c ≡ true → StandsFor s ((shows.calls ++ Mark c k ∷ []) ++ Retire c ∷ []) → KeepsPlaces q r → KeepsOtherPlaces r s c
    → ShowsQueue s kept (with_done m c e k) × (false ≡ is_stalled (with_done m c e k) c d)
mark-plain q r s kept m c e k d shows at plain has all stands places places2 = (
  record {
    calls = (shows.calls ++ Mark c k ∷ []) ++ Retire c ∷ [];
    stands = stands;
    moves = moves-mark_last shows.calls m c e k d shows.moves at plain has all;
    kept = all-stay s kept (with_done m c e k) c
        (others-stay q s kept m (with_done m c e k) c shows.kept (λ o differs. places2 o differs ∙ places o) (λ o x differs at_o. (at_o, λ list. part-other m c o x e k list (not_same o c differs))))
        (λ p x at_c placed. absurd (let none = no-place s ((shows.calls ++ Mark c k ∷ []) ++ Retire c ∷ []) c stands (closed-now (shows.calls ++ Mark c k ∷ []) c) in cc));
  },
  sym (plain-unstalled (with_done m c e k) c d plain),
)

-- or of an element of a list
pub mark-list : (q r : Queue) (kept : List Progress) (m : Moves) (c e k : ℕ) (d : Command) (shows : ShowsQueue q kept m) → slice_get m.issued c ≡ Some d → is_list d.kind ≡ true
    → has_part m c e k d ≡ true → StandsFor r (shows.calls ++ Mark c k ∷ []) → KeepsPlaces q r → ShowsQueueBut r kept (with_done m c e k) c
mark-list q r kept m c e k d shows at list has stands places = record {
  calls = shows.calls ++ Mark c k ∷ [];
  stands = stands;
  moves = others-mark shows.calls m c e k d shows.moves at list has;
  kept = others-stay q r kept m (with_done m c e k) c shows.kept (λ o differs. places o) (λ o x differs at_o. (at_o, λ list_o. part-other m c o x e k list_o (not_same o c differs)));
}

-- the element of a part that is left is in progress
pub part-current : (m : Moves) (c e k : ℕ) (d : Command) → is_list d.kind ≡ true → (f : PartLeft m c e k d) → current (reading m c d) ≡ Some f.element
unfolding present
part-current m c e k d list f =
    let p : last_or None (read_of m.read c) ≡ Some f.element = ap (λ els. last_or None els) (sym (elements-list m c d list)) ∙ f.present_is in
    on (list_all (is_finished m.done c) (read_of m.read c)) refl p
  where
    on : (b : Bool) → list_all (is_finished m.done c) (read_of m.read c) ≡ b → last_or None (read_of m.read c) ≡ Some f.element → (if not b then last_or None (read_of m.read c) else None) ≡ Some f.element
    on true all p = absurd (true≢false (sym (all-last (is_finished m.done c) None (read_of m.read c) f.element refl all p) ∙ f.unfinished))
    on false all p = p

pub part-ended : (calls : List Call) (m : Moves) (c e k : ℕ) (d : Command) → ShowsMoves calls m → slice_get m.issued c ≡ Some d → is_list d.kind ≡ true → has_part m c e k d ≡ true
    → (f : PartLeft m c e k d) → all_marked (calls ++ Mark c k ∷ []) c ≡ true → reading (with_done m c e k) c d ≡ finished (reading m c d) f.element
part-ended calls m c e k d shows at list has f all =
    let after : is_finished (with_done m c e k).done c f.element ≡ true = finished-now calls m c e k d f.element shows at f.present_is has ∙ all in
    subst (λ n. reading (with_done m c n k) c d ≡ finished (reading m c d) f.element) f.number
    (part-last m c d f.element k list (shows.done.elements c d at) f.present_is f.unfinished (subst (λ n. is_finished (with_done m c n k).done c f.element ≡ true) (sym f.number) after))

pub moved-size : (d : Command) → is_moved d ≡ true → d.size ≢ 0
moved-size d moved = λ z. true≢false (sym moved ∙ ap (λ b. not (is_barrier d.kind) && not b) (eq-on d.size z) ∙ and_off (not (is_barrier d.kind)) false refl)
  where
    eq-on : (n : ℕ) → n ≡ 0 → (n == 0) ≡ true
    eq-on n z = grind (arith, nat_tests)

-- ---- an element is read

pub element-open : (calls : List Call) (m : Moves) (c : ℕ) (d : Command) → ShowsMoves calls m → slice_get m.issued c ≡ Some d → has_element m c d ≡ true → is_outstanding calls c ≡ true
element-open calls m c d shows at has =
    outstanding-is calls m c d shows at (complete_or (is_complete m c) (is_complete m c ≡ false) (λ h. absurd (true≢false (sym has ∙ complete-no_element m c d (shows.done.elements c d at) at h))) (λ h. h))

pub outstanding-set : (calls : List Call) (c n : ℕ) → is_outstanding (calls ++ SetParts c n ∷ []) c ≡ is_outstanding calls c
outstanding-set calls c n = ap (λ cs. nat_lt c (length cs) && not (is_retired (calls ++ SetParts c n ∷ []) c)) (issued-same calls c n) ∙ ap (λ f. nat_lt c (length (issued calls)) && not (f c)) (retired-same calls c n)

-- a list that has an element has a size
element-size : (m : Moves) (c : ℕ) (d : Command) → AreElements m c d → MayRead m c d → d.size ≢ 0
element-size m c d els may = λ z. absurd (true≢false (sym (eq-on (length (elements_of m.read c d)) (elements_in d) els.few (let e : elements_in d ≡ d.size / 8 = rw may.list refl in omega arith)) ∙ may.left))
  where
    eq-on : (a b : ℕ) → a ≤ b → b ≡ 0 → (a == b) ≡ true
    eq-on a b h z = grind (arith, nat_tests)

pub read-list : (q r : Queue) (kept : List Progress) (m : Moves) (c n : ℕ) (d : Command) (x : Element) (shows : ShowsQueue q kept m) → slice_get m.issued c ≡ Some d → has_element m c d ≡ true
    → x.number ≡ length (read_of m.read c) → n ≡ parts_in x → StandsFor r (shows.calls ++ SetParts c n ∷ []) → KeepsPlaces q r → ShowsQueueBut r kept (with_read m c x) c
read-list q r kept m c n d x shows at has number count stands places = record {
  calls = shows.calls ++ SetParts c (parts_in x) ∷ [];
  stands = subst (λ k. StandsFor r (shows.calls ++ SetParts c k ∷ [])) count stands;
  moves = others-read shows.calls m c d x shows.moves at has number;
  kept = others-stay q r kept m (with_read m c x) c shows.kept (λ o differs. places o) (λ o y differs at_o. (at_o, λ list_o. read-other m c o y x list_o (not_same o c differs)));
}

last-snoc : {X : Type 0} (o : Option X) (xs : List X) (x : X) → last_or o (xs ++ x ∷ []) ≡ Some x
last-snoc o [] x = refl
last-snoc o (y ∷ xs) x = last-snoc (Some y) xs x

pub element-current : (r : Reading) (x : Element) → current (with_element r x) ≡ Some x
element-current r x = last-snoc None r.read x

-- what an element that may be read says of its command, when its number is the next
pub record Reads (m : Moves) (c : ℕ) (d : Command) (x : Element) : Type 0 where
  pub list : is_list d.kind ≡ true
  pub size : d.size ≢ 0
  pub empty : parts_in x ≡ 0 → reading (with_read m c x) c d ≡ finished (with_element (reading m c d) x) x
  pub moved : parts_in x ≢ 0 → (reading (with_read m c x) c d ≡ with_element (reading m c d) x) × (false ≡ is_stalled (with_read m c x) c d)

pub element-reads : (m : Moves) (c : ℕ) (d : Command) (x : Element) → AreElements m c d → has_element m c d ≡ true → x.number ≡ length (read_of m.read c) → Reads m c d x
unfolding is_finished
element-reads m c d x els has number =
    let may = element-is m c d has in
    let past : length (elements_of m.read c d) ≤ x.number = let e = ap length (elements-list m c d may.list) in omega arith in
    record {
      list = may.list;
      size = element-size m c d els may;
      empty = λ none. read-empty m c d x may.list may.finished (ap (λ n. list_all (is_done m.done c x.number) (range_with_len 0 n)) none) (els.not_resumed x.number past);
      moved = λ some.
          let left : is_finished m.done c x ≡ false = unfinished m c 0 x (omega arith) (els.later x.number 0 past) in
          let goes = read-moved m c d x may.list may.finished may.goes_on left in
          (goes, sym (ap (λ (r : Reading). r.is_stalled) goes ∙ may.goes_on));
    }

-- ---- a command is retired

pub retire-queue : (q r : Queue) (kept : List Progress) (m : Moves) (c : ℕ) (d : Command) (shows : ShowsQueue q kept m) → slice_get m.issued c ≡ Some d → is_moved d ≡ false
    → StandsFor r (shows.calls ++ Retire c ∷ []) → KeepsOtherPlaces q r c → ShowsQueue r kept (with_retired m c)
retire-queue q r kept m c d shows at plain stands places = record {
  calls = shows.calls ++ Retire c ∷ [];
  stands = stands;
  moves = moves-retire shows.calls m c d shows.moves at plain;
  kept = all-stay r kept (with_retired m c) c
      (others-stay q r kept m (with_retired m c) c shows.kept places (λ o x differs at_o. (at_o, λ list. retired-other m c o x)))
      (λ p x at_c placed. absurd (let none = no-place r (shows.calls ++ Retire c ∷ []) c stands (closed-now shows.calls c) in cc));
}

-- ---- a command is issued

pub issue-queue : (q r : Queue) (kept : List Progress) (m : Moves) (c n : ℕ) (d : Command) (shows : ShowsQueue q kept m) → (is_list d.kind ≡ true → d.size % 8 ≡ 0)
    → c ≡ length (issued shows.calls) → n ≡ parts_now [] 0 d → StandsFor r ((shows.calls ++ Issue d ∷ []) ++ SetParts c n ∷ []) → KeepsOtherPlaces q r c
    → (slice_get (with_issued m d).issued c ≡ Some d) × ShowsOtherProgress r kept (with_issued m d) c × ((new : List Progress) → ShowsProgress r new (with_issued m d) → ShowsQueue r new (with_issued m d))
issue-queue q r kept m c n d shows whole_list number count stands places =
    let is : c ≡ length m.issued = number ∙ ap length shows.moves.done.issued in
    let here : slice_get (m.issued ++ d ∷ []) c ≡ Some d = subst (λ k. slice_get (m.issued ++ d ∷ []) k ≡ Some d) (sym is) (get-last m.issued d) in (
      here,
      others-stay q r kept m (with_issued m d) c shows.kept places (λ o x differs at_o. (get-cases m.issued d x o _ at_o (λ e. absurd (differs (e ∙ sym is))) (λ old. old), λ list_o. issued-other m o x d list_o)),
      λ new shown. record {
        calls = (shows.calls ++ Issue d ∷ []) ++ SetParts (length m.issued) (parts_now [] 0 d) ∷ [];
        stands = subst (λ k. StandsFor r ((shows.calls ++ Issue d ∷ []) ++ SetParts k (parts_now [] 0 d) ∷ [])) is (subst (λ k. StandsFor r ((shows.calls ++ Issue d ∷ []) ++ SetParts c k ∷ [])) count stands);
        moves = moves-issue shows.calls m d shows.moves whole_list;
        kept = shown;
      },
    )

-- a queue knows nothing of the next number
pub new-outstanding : (q : Queue) (calls : List Call) (d : Command) (n : ℕ) → StandsFor q calls → n ≡ length (issued calls) → is_outstanding (calls ++ Issue d ∷ []) n ≡ true
new-outstanding q calls d n stands is = by (stands.fresh (length (issued calls)) (omega arith)).retired
  where
    by : is_retired calls (length (issued calls)) ≡ false → is_outstanding (calls ++ Issue d ∷ []) n ≡ true
    by none =
        let l = ap length (issued-issued calls d) in
        let a = length-append (issued calls) (d ∷ []) in
        let t : nat_lt n (length (issued (calls ++ Issue d ∷ []))) ≡ true = (let less : n < length (issued (calls ++ Issue d ∷ [])) = omega arith in grind (arith, nat_tests)) in
        let r : is_retired (calls ++ Issue d ∷ []) n ≡ false = ap (λ f. f n) (retired-issued calls d) ∙ ap (is_retired calls) is ∙ none in
        rw (t, r) refl
