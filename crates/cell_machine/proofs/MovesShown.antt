-- The calls made on a queue and what was issued and done keep step.
use Rattle.std.proofs.Common.{◌≡◌, ◌≢◌, ℕ, ◌/◌, ◌%◌, ◌<◌, ◌≤◌, ◌==◌, ◌||◌, ◌&&◌, not, Bool, true, false, List, [], ◌∷◌, ◌++◌, length, arith, refl, sym, ◌∙◌, ap, subst, length-append, true≢false}
use Rattle.std.specs.Prelude.{Option, Some, None, is_some, slice_get, nat_lt, cond, option_and_then}
use Rattle.std.specs.List.{list_all, range_with_len, last_or}
use Rattle.std.specs.Option.{option_map_or}
use Rattle.std.proofs.lemmas.List.Folds.{list_any-append}
use Rattle.std.proofs.lemmas.Bool.Decides.{nat_tests}
use mathlib.Core.Path.{fun_ext}
use Rattle.mfc_command.specs.declared.command.Command.{Command}
use Rattle.mfc_command.specs.declared.command.Kind.{Kind}
use Rattle.mfc_command.specs.declared.command.Kind.TheVariants.{Put, Get, PutList, GetList, Barrier, PutQueued, Signal}
use Rattle.mfc_command.specs.Check.{KindFits}
use Rattle.mfc_command.specs.Order.{is_barrier, is_list}
use Rattle.mfc_command.specs.Parts.{parts_of}
use Rattle.mfc_lists.specs.declared.Element.{Element}
use Rattle.mfc_lists.specs.Readings.{is_complete as is_complete_reading}
use Rattle.mfc_lists.proofs.ReadingLemmas.{last_or-snoc}
use Rattle.mfc_queue.specs.Calls.{Call, Issue, SetParts, Mark, Retire, issued, is_retired, parts, is_marked, all_marked}
use Rattle.mfc_queue.proofs.CallLaws.{parts-more, marked-more, retired-more, issued-same, issued-marked, issued-retired, issued-issued, retired-same, retired-marked, retired-issued}
use Rattle.cell_machine.specs.Spe.{Moves, ElementRead, Stall}
use Rattle.cell_machine.specs.Moves.{is_moved, read_of, whole, elements_in, elements_of, are_all_there, present, parts_in, is_done, is_finished, stalls_behind, stall_of, is_stalled, is_at_rest, was_retired, is_complete_as, is_complete}
use Rattle.cell_machine.specs.Transfers.{has_part, has_element, with_done, with_read, with_retired}
use Rattle.cell_machine.specs.Channels.{with_issued, with_resumed}
use Rattle.cell_machine.specs.Opening.{no_moves}
use Rattle.cell_machine.specs.MovesShown.{IsUntouched, AreElements, parts_now, ShowsDone, ShowsMoves, ShowsOthers, reading}
use Rattle.cell_machine.proofs.Same.{a_stall, same-complete_as, elements_by, or_false, or_true, eq_same, eq_off, eq_is, eq_not, lt_is, agree, get-within, get-past, get-left, get-last, get-cases, by-number, range-fails, last-fails, empty, some_same, complete-at, complete-none, SameOf, same-present, same-complete, same-untouched, same-elements, same-parts, done-more, read-more, done-elsewhere, read-elsewhere, retired-elsewhere, resumed-elsewhere, issued-elsewhere}
use Rattle.cell_machine.proofs.Staying.{both, not_true}
use Rattle.cell_machine.proofs.Elements.{list-elements, present-last, IsLeftOf, part-is, stall-is, MayRead, element-is, elements-issued, elements-read, elements-done, elements-resumed}
pub use Rattle.cell_machine.proofs.Same.{or_false, or_true, eq_same, eq_off, eq_is, eq_not, agree, get-within, get-past, get-left, get-last, get-cases, complete-none}

-- ---- what is complete

and_false : (b : Bool) → (b && false) ≡ false
and_false true = refl
and_false false = refl

as-moved : (m : Moves) (c : ℕ) (d : Command) → is_moved d ≡ true → is_complete_as m c d ≡ (are_all_there m.read c d && is_at_rest m c d)
unfolding is_complete_as
as-moved m c d h = rw h refl

as-retired : (m : Moves) (c : ℕ) (d : Command) → is_moved d ≡ false → is_complete_as m c d ≡ was_retired m.retired c
unfolding is_complete_as
as-retired m c d h = rw h refl

pub complete-moved : (m : Moves) (c : ℕ) (d : Command) → slice_get m.issued c ≡ Some d → is_moved d ≡ true → is_complete m c ≡ (are_all_there m.read c d && is_at_rest m c d)
complete-moved m c d at moved = complete-at m c d at ∙ as-moved m c d moved

pub complete-retires : (m : Moves) (c : ℕ) (d : Command) → slice_get m.issued c ≡ Some d → is_moved d ≡ false → is_complete m c ≡ was_retired m.retired c
complete-retires m c d at plain = complete-at m c d at ∙ as-retired m c d plain

-- it isn't where the present element has parts left
as-unfinished : (m : Moves) (c : ℕ) (d : Command) (x : Element) → is_moved d ≡ true → present m.read c d ≡ Some x → is_finished m.done c x ≡ false → is_complete_as m c d ≡ false
unfolding present
as-unfinished m c d x moved p h =
    as-moved m c d moved
    ∙ ap (λ b. are_all_there m.read c d && (b && not (is_stalled m c d))) (last-fails (is_finished m.done c) (elements_of m.read c d) x p h)
    ∙ and_false (are_all_there m.read c d)

pub complete-unfinished : (m : Moves) (c : ℕ) (d : Command) (x : Element) → slice_get m.issued c ≡ Some d → is_moved d ≡ true → present m.read c d ≡ Some x → is_finished m.done c x ≡ false
    → is_complete m c ≡ false
complete-unfinished m c d x at moved p h = complete-at m c d at ∙ as-unfinished m c d x moved p h

pub unfinished : (m : Moves) (c k : ℕ) (x : Element) → k < parts_in x → is_done m.done c x.number k ≡ false → is_finished m.done c x ≡ false
unfolding is_finished
unfinished m c k x within left = range-fails (is_done m.done c x.number) 0 (parts_in x) k (omega arith) (omega (arith, within)) left

-- ---- a part is marked

-- so its command isn't complete
part-open : (m : Moves) (c e k : ℕ) (d : Command) → slice_get m.issued c ≡ Some d → (part : IsLeftOf m c e k d) → is_complete m c ≡ false
part-open m c e k d at part =
    complete-unfinished m c d part.element at part.moved part.there
    (unfinished m c k part.element part.within (ap (λ n. is_done m.done c n k) part.number ∙ part.left))

-- all parts are marked where the present element is finished
marked-all : (calls : List Call) (m : Moves) (c : ℕ) (d : Command) (x : Element) → ShowsDone calls m → slice_get m.issued c ≡ Some d → is_moved d ≡ true → present m.read c d ≡ Some x
    → is_finished m.done c x ≡ all_marked calls c
unfolding is_finished
marked-all calls m c d x shows at moved p =
    let count : parts calls c ≡ parts_in x = shows.parts c d at ∙ ap (λ b. cond b (option_map_or parts_in (present m.read c d) 0) 0) moved ∙ ap (λ o. option_map_or parts_in o 0) p in
    let same : is_marked calls c ≡ is_done m.done c x.number = fun_ext (λ k. shows.marked c k d x at p) in
    sym (ap (λ n. list_all (is_marked calls c) (range_with_len 0 n)) count ∙ ap (λ f. list_all f (range_with_len 0 (parts_in x))) same)

done-mark : (calls : List Call) (m : Moves) (c e k : ℕ) (d : Command) → ShowsDone calls m → slice_get m.issued c ≡ Some d → has_part m c e k d ≡ true
    → ShowsDone (calls ++ Mark c k ∷ []) (with_done m c e k)
done-mark calls m c e k d shows at has = record {
  issued = issued-marked calls c k ∙ shows.issued;
  parts = λ c2 d2 at2. parts-more calls (Mark c k) c2 ∙ shows.parts c2 d2 at2;
  marked = λ c2 j d2 x2 at2. by-number m.issued c d Marked at own other c2 d2 at2 j x2;
  elements = by-number m.issued c d (λ c2 d2. AreElements (with_done m c e k) c2 d2) at (elements-done m c e k d has (shows.elements c d at))
      (λ c2 d2 differs at2. same-elements m (with_done m c e k) c2 d2 (done-elsewhere m c e k c2 differs) (shows.elements c2 d2 at2));
  fresh = λ c2 past. same-untouched m (with_done m c e k) c2 (done-elsewhere m c e k c2 (let l = get-within m.issued c d at in omega (arith, l, past))) (shows.fresh c2 past);
}
  where
    Marked : ℕ → Command → Type 0
    Marked c2 d2 = (j : ℕ) (x2 : Element) → present m.read c2 d2 ≡ Some x2 → is_marked (calls ++ Mark c k ∷ []) c2 j ≡ is_done (with_done m c e k).done c2 x2.number j

    own : Marked c d
    own j x2 p =
        let part = part-is m c e k d has in
        let same : part.element ≡ x2 = some_same part.element x2 (sym part.there ∙ p) in
        let number : (e == x2.number) ≡ true = ap (λ n. e == n) (sym (ap (λ (y : Element). y.number) same) ∙ part.number) ∙ eq_same e in
        marked-more calls (Mark c k) c j
        ∙ ap (λ b. b || (c == c && k == j)) (shows.marked c j d x2 at p)
        ∙ sym (done-more m c e k c x2.number j ∙ on (c == c) (e == x2.number) (k == j) (is_done m.done c x2.number j) number)
      where
        on : (a b f g : Bool) → b ≡ true → (g || (a && b && f)) ≡ (g || (a && f))
        on true true f g h = refl
        on false b f g h = refl
        on true false f g h = absurd (true≢false (sym h))

    other : (c2 : ℕ) (d2 : Command) → c ≢ c2 → slice_get m.issued c2 ≡ Some d2 → Marked c2 d2
    other c2 d2 differs at2 j x2 p =
        let s = done-elsewhere m c e k c2 differs in
        marked-more calls (Mark c k) c2 j
        ∙ ap (λ b. is_marked calls c2 j || (b && k == j)) (eq_off c c2 differs)
        ∙ or_false (is_marked calls c2 j)
        ∙ shows.marked c2 j d2 x2 at2 p
        ∙ sym (ap (λ f. f x2.number j) s.done)

-- the present element is finished where all parts are marked then
pub finished-now : (calls : List Call) (m : Moves) (c e k : ℕ) (d : Command) (x : Element) → ShowsMoves calls m → slice_get m.issued c ≡ Some d → present m.read c d ≡ Some x → has_part m c e k d ≡ true
    → is_finished (with_done m c e k).done c x ≡ all_marked (calls ++ Mark c k ∷ []) c
finished-now calls m c e k d x shows at p has =
    marked-all (calls ++ Mark c k ∷ []) (with_done m c e k) c d x (done-mark calls m c e k d shows.done at has) at ((both (is_moved d) _ has).0) p

done-retire : (calls : List Call) (m : Moves) (c : ℕ) → ShowsDone calls m → ShowsDone (calls ++ Retire c ∷ []) m
done-retire calls m c shows = record {
  issued = issued-retired calls c ∙ shows.issued;
  parts = λ c2 d2 at2. parts-more calls (Retire c) c2 ∙ shows.parts c2 d2 at2;
  marked = λ c2 j d2 x2 at2 p. marked-more calls (Retire c) c2 j ∙ shows.marked c2 j d2 x2 at2 p;
  elements = shows.elements;
  fresh = shows.fresh;
}

retired-now : (calls : List Call) (m : Moves) (c : ℕ) → is_complete m c ≡ true → ((other : ℕ) → other ≢ c → is_retired calls other ≡ is_complete m other) → is_retired (calls ++ Retire c ∷ []) ≡ is_complete m
retired-now calls m c now others =
    agree (is_retired (calls ++ Retire c ∷ [])) (is_complete m) c
    (retired-more calls (Retire c) c ∙ ap (λ b. is_retired calls c || b) (eq_same c) ∙ or_true (is_retired calls c) ∙ sym now)
    (λ k differs. retired-more calls (Retire c) k ∙ ap (λ b. is_retired calls k || b) (eq_off c k differs) ∙ or_false (is_retired calls k) ∙ others k (λ e. differs (sym e)))

-- a command is complete, and is retired, or it isn't
pub others-closed : (calls : List Call) (m : Moves) (c : ℕ) → ShowsOthers calls m c → is_complete m c ≡ true → ShowsMoves (calls ++ Retire c ∷ []) m
others-closed calls m c shows now = record { done = done-retire calls m c shows.done; complete = retired-now calls m c now shows.complete }

pub others-open : (calls : List Call) (m : Moves) (c : ℕ) → ShowsOthers calls m c → is_complete m c ≡ false → ShowsMoves calls m
others-open calls m c shows open_still = record {
  done = shows.done;
  complete = agree (is_retired calls) (is_complete m) c (shows.waits ∙ sym open_still) (λ k differs. shows.complete k (λ e. differs (sym e)));
}

pub others-marked : (calls : List Call) (m : Moves) (c e k : ℕ) (d : Command) → ShowsMoves calls m → slice_get m.issued c ≡ Some d → has_part m c e k d ≡ true
    → ShowsOthers (calls ++ Mark c k ∷ []) (with_done m c e k) c
others-marked calls m c e k d shows at has = record {
  done = done-mark calls m c e k d shows.done at has;
  complete = λ other differs. ap (λ f. f other) (retired-marked calls c k ∙ shows.complete)
      ∙ sym (same-complete m (with_done m c e k) other refl (done-elsewhere m c e k other (λ q. differs (sym q))));
  waits = ap (λ f. f c) (retired-marked calls c k ∙ shows.complete) ∙ part-open m c e k d at (part-is m c e k d has);
}

-- the part isn't the last of its element
pub mark-waits : (calls : List Call) (m : Moves) (c e k : ℕ) (d : Command) → ShowsMoves calls m → slice_get m.issued c ≡ Some d → has_part m c e k d ≡ true → all_marked (calls ++ Mark c k ∷ []) c ≡ false
    → is_complete (with_done m c e k) c ≡ false
mark-waits calls m c e k d shows at has all =
    let part = part-is m c e k d has in
    complete-unfinished (with_done m c e k) c d part.element at part.moved part.there (finished-now calls m c e k d part.element shows at part.there has ∙ all)

pub moves-mark : (calls : List Call) (m : Moves) (c e k : ℕ) (d : Command) → ShowsMoves calls m → slice_get m.issued c ≡ Some d → has_part m c e k d ≡ true
    → all_marked (calls ++ Mark c k ∷ []) c ≡ false → ShowsMoves (calls ++ Mark c k ∷ []) (with_done m c e k)
moves-mark calls m c e k d shows at has all =
    others-open (calls ++ Mark c k ∷ []) (with_done m c e k) c (others-marked calls m c e k d shows at has) (mark-waits calls m c e k d shows at has all)

and_true : (b : Bool) → (b && true) ≡ b
and_true true = refl
and_true false = refl

plain-present : (read : List ElementRead) (c : ℕ) (d : Command) → is_list d.kind ≡ false → present read c d ≡ Some (whole d)
unfolding present
plain-present read c d h = rw h refl

-- a PUT or GET is complete where its element is finished
plain-complete : (m : Moves) (c : ℕ) (d : Command) → slice_get m.issued c ≡ Some d → is_list d.kind ≡ false → is_moved d ≡ true → is_complete m c ≡ is_finished m.done c (whole d)
unfolding stall_of present
plain-complete m c d at h moved = complete-moved m c d at moved ∙ rw h (and_true (is_finished m.done c (whole d) && true) ∙ and_true (is_finished m.done c (whole d)))

-- the part is the last of the command
pub mark-ends : (calls : List Call) (m : Moves) (c e k : ℕ) (d : Command) → ShowsMoves calls m → slice_get m.issued c ≡ Some d → is_list d.kind ≡ false → has_part m c e k d ≡ true → all_marked (calls ++ Mark c k ∷ []) c ≡ true
    → is_complete (with_done m c e k) c ≡ true
mark-ends calls m c e k d shows at plain has all =
    plain-complete (with_done m c e k) c d at plain ((both (is_moved d) _ has).0) ∙ finished-now calls m c e k d (whole d) shows at (plain-present m.read c d plain) has ∙ all

pub moves-mark_last : (calls : List Call) (m : Moves) (c e k : ℕ) (d : Command) → ShowsMoves calls m → slice_get m.issued c ≡ Some d → is_list d.kind ≡ false → has_part m c e k d ≡ true
    → all_marked (calls ++ Mark c k ∷ []) c ≡ true → ShowsMoves ((calls ++ Mark c k ∷ []) ++ Retire c ∷ []) (with_done m c e k)
moves-mark_last calls m c e k d shows at plain has all =
    others-closed (calls ++ Mark c k ∷ []) (with_done m c e k) c (others-marked calls m c e k d shows at has) (mark-ends calls m c e k d shows at plain has all)

-- whether a list is complete then, is told by what is kept of it
pub others-mark : (calls : List Call) (m : Moves) (c e k : ℕ) (d : Command) → ShowsMoves calls m → slice_get m.issued c ≡ Some d → is_list d.kind ≡ true → has_part m c e k d ≡ true
    → ShowsOthers (calls ++ Mark c k ∷ []) (with_done m c e k) c
others-mark calls m c e k d shows at list has = others-marked calls m c e k d shows at has

pub not_not : (b : Bool) → b ≡ not (not b)
not_not true = refl
not_not false = refl

list-moved : (d : Command) → is_list d.kind ≡ true → d.size ≢ 0 → is_moved d ≡ true
list-moved d h some = ap (λ b. not b && not (d.size == 0)) (on d.kind h) ∙ ap not (eq_off d.size 0 some)
  where
    on : (k : Kind) → is_list k ≡ true → is_barrier k ≡ false
    on PutList e = refl
    on GetList e = refl
    on Put e = absurd (true≢false (sym e))
    on Get e = absurd (true≢false (sym e))
    on Barrier e = absurd (true≢false (sym e))
    on PutQueued e = absurd (true≢false (sym e))
    on Signal e = absurd (true≢false (sym e))

pub complete-reading : (m : Moves) (c : ℕ) (d : Command) → slice_get m.issued c ≡ Some d → is_list d.kind ≡ true → (d.size == 0) ≡ false → is_complete m c ≡ is_complete_reading (reading m c d)
complete-reading m c d at h some =
    complete-moved m c d at (list-moved d h (eq_not d.size 0 some))
    ∙ (let same : (are_all_there m.read c d && is_at_rest m c d) ≡ (length (read_of m.read c) == d.size / 8 && (list_all (is_finished m.done c) (read_of m.read c) && not (is_stalled m c d))) = rw h refl in same)
    ∙ ap (λ b. length (read_of m.read c) == d.size / 8 && (b && not (is_stalled m c d))) (not_not (list_all (is_finished m.done c) (read_of m.read c)))

-- ---- a command is retired

done-retired : (calls : List Call) (m : Moves) (c : ℕ) (d : Command) → slice_get m.issued c ≡ Some d → ShowsDone calls m → ShowsDone calls (with_retired m c)
done-retired calls m c d at shows = record {
  issued = shows.issued;
  parts = shows.parts;
  marked = shows.marked;
  elements = λ c2 d2 at2. let els = shows.elements c2 d2 at2 in
      record { few = els.few; numbers = els.numbers; earlier = els.earlier; later = els.later; not_resumed = els.not_resumed; resumed = els.resumed };
  fresh = λ c2 past. same-untouched m (with_retired m c) c2 (retired-elsewhere m c c2 (let l = get-within m.issued c d at in omega (arith, l, past))) (shows.fresh c2 past);
}

pub moves-retire : (calls : List Call) (m : Moves) (c : ℕ) (d : Command) → ShowsMoves calls m → slice_get m.issued c ≡ Some d → is_moved d ≡ false → ShowsMoves (calls ++ Retire c ∷ []) (with_retired m c)
moves-retire calls m c d shows at plain = record {
  done = done-retire calls (with_retired m c) c (done-retired calls m c d at shows.done);
  complete = retired-now calls (with_retired m c) c now (λ other differs. ap (λ f. f other) shows.complete
      ∙ sym (same-complete m (with_retired m c) other refl (retired-elsewhere m c other (λ q. differs (sym q)))));
}
  where
    now : is_complete (with_retired m c) c ≡ true
    now = complete-retires (with_retired m c) c d at plain ∙ list_any-append (λ r. r == c) m.retired (c ∷ []) ∙ ap (λ b. was_retired m.retired c || (b || false)) (eq_same c) ∙ or_true (was_retired m.retired c)

-- ---- an element is read

-- a list of which fewer elements are there than it has isn't of size 0
nonempty : (d : Command) (n : ℕ) → is_list d.kind ≡ true → n < elements_in d → d.size ≢ 0
nonempty d n h b e = let size : elements_in d ≡ d.size / 8 = rw h refl in absurd (omega (arith, b, size, e))

left-moved : (m : Moves) (c : ℕ) (d : Command) → MayRead m c d → AreElements m c d → is_moved d ≡ true
left-moved m c d rest els =
    let differs : length (elements_of m.read c d) ≢ elements_in d = eq_not _ _ rest.left in
    list-moved d rest.list (nonempty d (length (elements_of m.read c d)) rest.list (let few = els.few in omega (arith, few, differs)))

pub present-list : (read : List ElementRead) (c : ℕ) (d : Command) → is_list d.kind ≡ true → present read c d ≡ last_or None (read_of read c)
present-list read c d h = present-last read c d ∙ ap (λ xs. last_or None xs) (list-elements read c d h)

present-read : (m : Moves) (c : ℕ) (d : Command) (x : Element) → is_list d.kind ≡ true → present (with_read m c x).read c d ≡ Some x
present-read m c d x h = present-list (with_read m c x).read c d h ∙ ap (λ xs. last_or None xs) (read-more m c x) ∙ last_or-snoc None (read_of m.read c) x

done-read : (calls : List Call) (m : Moves) (c : ℕ) (d : Command) (x : Element) → ShowsDone calls m → slice_get m.issued c ≡ Some d → has_element m c d ≡ true
    → x.number ≡ length (read_of m.read c) → ShowsDone (calls ++ SetParts c (parts_in x) ∷ []) (with_read m c x)
done-read calls m c d x shows at has number = record {
  issued = issued-same calls c (parts_in x) ∙ shows.issued;
  parts = by-number m.issued c d (λ c2 d2. parts (calls ++ SetParts c (parts_in x) ∷ []) c2 ≡ parts_now (with_read m c x).read c2 d2) at own_parts
      (λ c2 d2 differs at2. parts-more calls (SetParts c (parts_in x)) c2 ∙ ap (λ b. cond b (parts_in x) (parts calls c2)) (eq_off c c2 differs)
      ∙ shows.parts c2 d2 at2 ∙ sym (same-parts m (with_read m c x) c2 d2 (read-elsewhere m c x c2 differs)));
  marked = λ c2 j d2 x2 at2. by-number m.issued c d Marked at own other c2 d2 at2 j x2;
  elements = by-number m.issued c d (λ c2 d2. AreElements (with_read m c x) c2 d2) at (elements-read m c d x has number (shows.elements c d at))
      (λ c2 d2 differs at2. same-elements m (with_read m c x) c2 d2 (read-elsewhere m c x c2 differs) (shows.elements c2 d2 at2));
  fresh = λ c2 past. same-untouched m (with_read m c x) c2 (read-elsewhere m c x c2 (let l = get-within m.issued c d at in omega (arith, l, past))) (shows.fresh c2 past);
}
  where
    rest : MayRead m c d
    rest = element-is m c d has

    own_parts : parts (calls ++ SetParts c (parts_in x) ∷ []) c ≡ parts_now (with_read m c x).read c d
    own_parts =
        parts-more calls (SetParts c (parts_in x)) c ∙ ap (λ b. cond b (parts_in x) (parts calls c)) (eq_same c)
        ∙ sym (ap (λ o. cond (is_moved d) (option_map_or parts_in o 0) 0) (present-read m c d x rest.list) ∙ ap (λ b. cond b (parts_in x) 0) (left-moved m c d rest (shows.elements c d at)))

    Marked : ℕ → Command → Type 0
    Marked c2 d2 = (j : ℕ) (x2 : Element) → present (with_read m c x).read c2 d2 ≡ Some x2 → is_marked (calls ++ SetParts c (parts_in x) ∷ []) c2 j ≡ is_done m.done c2 x2.number j

    own : Marked c d
    own j x2 p =
        let same : x ≡ x2 = some_same x x2 (sym (present-read m c d x rest.list) ∙ p) in
        let past : length (elements_of m.read c d) ≤ x.number = (let size : length (elements_of m.read c d) ≡ length (read_of m.read c) = ap (λ b. length (cond b (read_of m.read c) (whole d ∷ []))) rest.list in omega (arith, size, number)) in
        marked-more calls (SetParts c (parts_in x)) c j ∙ ap (λ b. cond b false (is_marked calls c j)) (eq_same c)
        ∙ sym (ap (λ (y : Element). is_done m.done c y.number j) (sym same) ∙ (shows.elements c d at).later x.number j past)

    other : (c2 : ℕ) (d2 : Command) → c ≢ c2 → slice_get m.issued c2 ≡ Some d2 → Marked c2 d2
    other c2 d2 differs at2 j x2 p =
        marked-more calls (SetParts c (parts_in x)) c2 j ∙ ap (λ b. cond b false (is_marked calls c2 j)) (eq_off c c2 differs)
        ∙ shows.marked c2 j d2 x2 at2 (sym (same-present m (with_read m c x) c2 d2 (read-elsewhere m c x c2 differs)) ∙ p)

pub others-read : (calls : List Call) (m : Moves) (c : ℕ) (d : Command) (x : Element) → ShowsMoves calls m → slice_get m.issued c ≡ Some d → has_element m c d ≡ true → x.number ≡ length (read_of m.read c)
    → ShowsOthers (calls ++ SetParts c (parts_in x) ∷ []) (with_read m c x) c
others-read calls m c d x shows at has number =
    let rest = element-is m c d has in
    record {
      done = done-read calls m c d x shows.done at has number;
      complete = λ other differs. ap (λ f. f other) (retired-same calls c (parts_in x) ∙ shows.complete)
          ∙ sym (same-complete m (with_read m c x) other refl (read-elsewhere m c x other (λ q. differs (sym q))));
      waits = ap (λ f. f c) (retired-same calls c (parts_in x) ∙ shows.complete)
          ∙ complete-moved m c d at (left-moved m c d rest (shows.done.elements c d at)) ∙ ap (λ b. b && is_at_rest m c d) rest.left;
    }

-- ---- a stall is acknowledged

-- only a list stalls, and one of which an element was read
stall-list : (m : Moves) (c : ℕ) (d : Command) (s : Stall) → stall_of m c d ≡ Some s → is_list d.kind ≡ true
unfolding stall_of present
stall-list m c d s e = on (is_list d.kind) (read_of m.read c) e
  where
    on : (b : Bool) (xs : List Element) → option_and_then (λ x. cond (stalls_behind m c x) (Some (a_stall c x)) None) (last_or None (cond b xs (whole d ∷ []))) ≡ Some s → b ≡ true
    on true xs k = refl
    on false xs k = absurd (cc)

stall-read : (m : Moves) (c : ℕ) (d : Command) (s : Stall) → stall_of m c d ≡ Some s → 0 < length (elements_of m.read c d)
unfolding stall_of present
stall-read m c d s e = on (elements_of m.read c d) e
  where
    on : (xs : List Element) → option_and_then (λ x. cond (stalls_behind m c x) (Some (a_stall c x)) None) (last_or None xs) ≡ Some s → 0 < length xs
    on [] k = absurd (cc)
    on (x ∷ xs) k = omega arith

stall-elsewhere : (m : Moves) (c : ℕ) (d : Command) (s : Stall) → stall_of m c d ≡ Some s → (c2 : ℕ) → c ≢ c2 → SameOf m (with_resumed m (s ∷ [])) c2
stall-elsewhere m c d s stalls c2 differs =
    resumed-elsewhere m (s ∷ []) c2 (λ e. ap (λ b. b && s.elem == e || false) (ap (λ n. n == c2) ((stall-is m c d s stalls).cmd) ∙ eq_off c c2 differs))

done-resumed : (calls : List Call) (m : Moves) (c : ℕ) (d : Command) (s : Stall) → ShowsDone calls m → slice_get m.issued c ≡ Some d → stall_of m c d ≡ Some s → ShowsDone calls (with_resumed m (s ∷ []))
done-resumed calls m c d s shows at stalls = record {
  issued = shows.issued;
  parts = shows.parts;
  marked = shows.marked;
  elements = by-number m.issued c d (λ c2 d2. AreElements (with_resumed m (s ∷ [])) c2 d2) at (elements-resumed m c d s stalls (shows.elements c d at))
      (λ c2 d2 differs at2. same-elements m (with_resumed m (s ∷ [])) c2 d2 (stall-elsewhere m c d s stalls c2 differs) (shows.elements c2 d2 at2));
  fresh = λ c2 past. same-untouched m (with_resumed m (s ∷ [])) c2 (stall-elsewhere m c d s stalls c2 (let l = get-within m.issued c d at in omega (arith, l, past))) (shows.fresh c2 past);
}

pub others-resume : (calls : List Call) (m : Moves) (c : ℕ) (d : Command) (s : Stall) → ShowsMoves calls m → slice_get m.issued c ≡ Some d → stall_of m c d ≡ Some s
    → ShowsOthers calls (with_resumed m (s ∷ [])) c
others-resume calls m c d s shows at stalls = record {
  done = done-resumed calls m c d s shows.done at stalls;
  complete = λ other differs. ap (λ f. f other) shows.complete
      ∙ sym (same-complete m (with_resumed m (s ∷ [])) other refl (stall-elsewhere m c d s stalls other (λ q. differs (sym q))));
  waits = ap (λ f. f c) shows.complete ∙ complete-moved m c d at moved ∙ ap (λ o. are_all_there m.read c d && (list_all (is_finished m.done c) (elements_of m.read c d) && not (is_some o))) stalls
      ∙ off (are_all_there m.read c d) (list_all (is_finished m.done c) (elements_of m.read c d));
}
  where
    moved : is_moved d ≡ true
    moved =
        let h = stall-list m c d s stalls in
        let some = stall-read m c d s stalls in
        list-moved d h (nonempty d 0 h (let few = (shows.done.elements c d at).few in omega (arith, few, some)))

    off : (a b : Bool) → (a && (b && false)) ≡ false
    off true true = refl
    off true false = refl
    off false b = refl

-- ---- a new command

-- a list has whole elements
pub whole-elements : (lines : ℕ) (d : Command) → KindFits lines d d.kind → is_list d.kind ≡ true → d.size % 8 ≡ 0
whole-elements lines d fits h = on d.kind fits h
  where
    on : (k : Kind) → KindFits lines d k → is_list k ≡ true → d.size % 8 ≡ 0
    on PutList f e = f.whole
    on GetList f e = f.whole
    on Put f e = absurd (true≢false (sym e))
    on Get f e = absurd (true≢false (sym e))
    on Barrier f e = absurd (true≢false (sym e))
    on PutQueued f e = absurd (true≢false (sym e))
    on Signal f e = absurd (true≢false (sym e))

-- a transfer of some bytes has a part
some-parts : (ea size : ℕ) → (size == 0) ≡ false → 0 < parts_of ea size
some-parts ea size h = rw h (omega arith)

-- a command of which nothing was done isn't complete
new-open : (m : Moves) (c : ℕ) (d : Command) → IsUntouched m c → (is_list d.kind ≡ true → d.size % 8 ≡ 0) → is_complete_as m c d ≡ false
new-open m c d none size = on (is_moved d) (is_list d.kind) refl refl
  where
    some : is_moved d ≡ true → (d.size == 0) ≡ false
    some moved = not_true (d.size == 0) ((both (not (is_barrier d.kind)) _ moved).1)

    no_elements : is_list d.kind ≡ true → is_moved d ≡ true → are_all_there m.read c d ≡ false
    no_elements h moved =
        let n : length (elements_of m.read c d) ≡ 0 = ap (λ b. length (cond b (read_of m.read c) (whole d ∷ []))) h ∙ none.read in
        let count : elements_in d ≡ d.size / 8 = rw h refl in
        let there : d.size ≢ 0 = eq_not d.size 0 (some moved) in
        let divides = size h in
        eq_off (length (elements_of m.read c d)) (elements_in d) (λ e. absurd (omega (arith, n, count, there, divides, e)))

    on : (moved list : Bool) → is_moved d ≡ moved → is_list d.kind ≡ list → is_complete_as m c d ≡ false
    on false list e h = as-retired m c d e ∙ none.retired
    on true true e h = as-moved m c d e ∙ ap (λ b. b && is_at_rest m c d) (no_elements h e)
    on true false e h = as-unfinished m c d (whole d) e (plain-present m.read c d h) (unfinished m c 0 (whole d) (some-parts d.ea d.size (some e)) (none.done 0 0))

complete-issued : (m : Moves) (d : Command) (k : ℕ) → IsUntouched m (length m.issued) → (is_list d.kind ≡ true → d.size % 8 ≡ 0) → is_complete m k ≡ is_complete (with_issued m d) k
unfolding is_complete
complete-issued m d k none size = on (nat_lt k (length m.issued)) (k == length m.issued) refl refl
  where
    f : Command → Bool
    f = is_complete_as m k

    same : (o : Option Command) → option_map_or f o false ≡ option_map_or (is_complete_as (with_issued m d) k) o false
    same None = refl
    same (Some x) = sym (same-complete_as m (with_issued m d) k x (issued-elsewhere m d k))

    on : (a b : Bool) → nat_lt k (length m.issued) ≡ a → (k == length m.issued) ≡ b
        → option_map_or f (slice_get m.issued k) false ≡ option_map_or (is_complete_as (with_issued m d) k) (slice_get (m.issued ++ d ∷ []) k) false
    on true b e g = ap (λ o. option_map_or f o false) (sym (get-left m.issued (d ∷ []) k (lt_is k (length m.issued) e))) ∙ same (slice_get (m.issued ++ d ∷ []) k)
    on false true e g =
        let n : k ≡ length m.issued = eq_is k (length m.issued) g in
        let past : slice_get m.issued k ≡ None = get-past m.issued k (omega (arith, n)) in
        let last : slice_get (m.issued ++ d ∷ []) k ≡ Some d = subst (λ j. slice_get (m.issued ++ d ∷ []) j ≡ Some d) (sym n) (get-last m.issued d) in
        ap (λ o. option_map_or f o false) past ∙ sym (ap (λ o. option_map_or f o false) last ∙ new-open m k d (subst (IsUntouched m) (sym n) none) size) ∙ same (slice_get (m.issued ++ d ∷ []) k)
    on false false e g =
        let l : length m.issued < k = grind (arith, nat_tests) in
        let past : slice_get m.issued k ≡ None = get-past m.issued k (omega (arith, l)) in
        let past2 : slice_get (m.issued ++ d ∷ []) k ≡ None = get-past (m.issued ++ d ∷ []) k (let a = length-append m.issued (d ∷ []) in omega (arith, l, a)) in
        ap (λ o. option_map_or f o false) (past ∙ sym past2) ∙ same (slice_get (m.issued ++ d ∷ []) k)

-- the parts of a command of which nothing was read
new-parts : (m : Moves) (c : ℕ) (d : Command) → IsUntouched m c → parts_now [] 0 d ≡ parts_now m.read c d
unfolding present read_of
new-parts m c d none = ap (λ xs. cond (is_moved d) (option_map_or parts_in (last_or None (elements_by d xs)) 0) 0) (sym (empty (read_of m.read c) none.read))

done-issue : (calls : List Call) (m : Moves) (d : Command) → ShowsDone calls m → ShowsDone ((calls ++ Issue d ∷ []) ++ SetParts (length m.issued) (parts_now [] 0 d) ∷ []) (with_issued m d)
done-issue calls m d shows = record {
  issued = issued-same (calls ++ Issue d ∷ []) n count ∙ issued-issued calls d ∙ ap (λ cs. cs ++ d ∷ []) shows.issued;
  parts = λ c2 d2 at2. parts-more (calls ++ Issue d ∷ []) (SetParts n count) c2 ∙ on_parts c2 d2 (n == c2) refl at2;
  marked = λ c2 j d2 x2 at2 p. marked-more (calls ++ Issue d ∷ []) (SetParts n count) c2 j ∙ on_marked c2 j d2 x2 (n == c2) refl at2 p;
  elements = λ c2 d2 at2. get-cases m.issued d d2 c2 (AreElements (with_issued m d) c2 d2) at2
      (λ last same. subst (λ j. AreElements (with_issued m d) j d2) (sym last) (subst (λ x. AreElements (with_issued m d) n x) (sym same) (elements-issued m d fresh)))
      (λ old. same-elements m (with_issued m d) c2 d2 (issued-elsewhere m d c2) (shows.elements c2 d2 old));
  fresh = λ c2 past. same-untouched m (with_issued m d) c2 (issued-elsewhere m d c2) (shows.fresh c2 (let a = length-append m.issued (d ∷ []) in omega (arith, a, past)));
}
  where
    n : ℕ
    n = length m.issued

    count : ℕ
    count = parts_now [] 0 d

    fresh : IsUntouched m n
    fresh = shows.fresh n (omega arith)

    on_parts : (c2 : ℕ) (d2 : Command) (b : Bool) → (n == c2) ≡ b → slice_get (m.issued ++ d ∷ []) c2 ≡ Some d2 → cond b count (parts (calls ++ Issue d ∷ []) c2) ≡ parts_now m.read c2 d2
    on_parts c2 d2 true e at2 = get-cases m.issued d d2 c2 (count ≡ parts_now m.read c2 d2) at2
        (λ last same. new-parts m n d fresh ∙ ap (λ x. parts_now m.read n x) (sym same) ∙ ap (λ j. parts_now m.read j d2) (sym last))
        (λ old. absurd (let l = get-within m.issued c2 d2 old in let g = eq_is n c2 e in omega (arith, l, g)))
    on_parts c2 d2 false e at2 = get-cases m.issued d d2 c2 _ at2 (λ last same. absurd (eq_not n c2 e (sym last)))
        (λ old. parts-more calls (Issue d) c2 ∙ shows.parts c2 d2 old)

    on_marked : (c2 j : ℕ) (d2 : Command) (x2 : Element) (b : Bool) → (n == c2) ≡ b → slice_get (m.issued ++ d ∷ []) c2 ≡ Some d2 → present m.read c2 d2 ≡ Some x2
        → cond b false (is_marked (calls ++ Issue d ∷ []) c2 j) ≡ is_done m.done c2 x2.number j
    on_marked c2 j d2 x2 true e at2 p = sym ((shows.fresh c2 (let l = eq_is n c2 e in omega (arith, l))).done x2.number j)
    on_marked c2 j d2 x2 false e at2 p = get-cases m.issued d d2 c2 _ at2 (λ last same. absurd (eq_not n c2 e (sym last)))
        (λ old. marked-more calls (Issue d) c2 j ∙ shows.marked c2 j d2 x2 old p)

pub moves-issue : (calls : List Call) (m : Moves) (d : Command) → ShowsMoves calls m → (is_list d.kind ≡ true → d.size % 8 ≡ 0)
    → ShowsMoves ((calls ++ Issue d ∷ []) ++ SetParts (length m.issued) (parts_now [] 0 d) ∷ []) (with_issued m d)
moves-issue calls m d shows size = record {
  done = done-issue calls m d shows.done;
  complete = retired-same (calls ++ Issue d ∷ []) (length m.issued) (parts_now [] 0 d) ∙ retired-issued calls d ∙ shows.complete
      ∙ fun_ext (λ k. complete-issued m d k (shows.done.fresh (length m.issued) (omega arith)) size);
}

-- where no call was made, no command was issued
pub no_calls : ShowsMoves [] no_moves
unfolding issued is_retired is_marked is_done read_of
no_calls = record {
  done = record {
    issued = refl;
    parts = λ c d at. absurd (none_there c d at);
    marked = λ c k d x at p. absurd (none_there c d at);
    elements = λ c d at. absurd (none_there c d at);
    fresh = λ c past. record { read = refl; done = λ e k. refl; retired = refl; resumed = λ e. refl };
  };
  complete = fun_ext (λ c. sym (complete-none no_moves c refl));
}
  where
    none_there : (c : ℕ) (d : Command) → slice_get (no_moves.issued) c ≡ Some d → ⊥
    none_there c d at = let l = get-within [] c d at in omega arith
