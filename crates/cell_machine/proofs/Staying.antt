-- A command keeps its number, and one that is complete stays complete, whatever is added to the moves.
use Rattle.std.proofs.Common.{◌≡◌, ℕ, zero, suc, ◌==◌, ◌&&◌, ◌||◌, not, Bool, true, false, List, [], ◌∷◌, ◌++◌, length, refl, sym, ◌∙◌, ap, subst, true≢false, arith, append-nil, append_assoc}
use Rattle.std.proofs.lemmas.Bool.Decides.{nat_tests}
use Rattle.std.specs.Prelude.{Option, Some, None, slice_get, cond, is_some, option_and_then, map, filter}
use Rattle.std.specs.List.{list_any, list_all, range_with_len, last_or}
use Rattle.std.specs.Option.{option_map_or}
use Rattle.mfc_command.specs.declared.command.Command.{Command}
use Rattle.mfc_lists.specs.declared.Element.{Element}
use Rattle.cell_machine.specs.Spe.{Moves, Stall, PartDone, ElementRead}
use Rattle.cell_machine.specs.Channels.{with_issued, with_resumed}
use Rattle.cell_machine.specs.Transfers.{with_done, with_read, with_retired}
use Rattle.cell_machine.specs.Moves.{is_complete, is_complete_as, is_moved, is_at_rest, are_all_there, was_retired, elements_of, elements_in, read_of, present, is_done, is_finished, is_resumed, stall_of, stalls_behind, is_stalled, parts_in}

pub any_more : {X : Type 0} (f : X → Bool) (xs ys : List X) → list_any f xs ≡ true → list_any f (xs ++ ys) ≡ true
any_more f [] ys h = absurd (true≢false (sym h))
any_more f (x ∷ xs) ys h = on (f x) h (any_more f xs ys)
  where
    on : (b : Bool) → (b || list_any f xs) ≡ true → (list_any f xs ≡ true → list_any f (xs ++ ys) ≡ true) → (b || list_any f (xs ++ ys)) ≡ true
    on true g k = refl
    on false g k = k g

pub all_more : {X : Type 0} (f g : X → Bool) (xs : List X) → ((x : X) → f x ≡ true → g x ≡ true) → list_all f xs ≡ true → list_all g xs ≡ true
all_more f g [] k h = refl
all_more f g (x ∷ xs) k h = on (f x) (g x) h (k x) (all_more f g xs k)
  where
    on : (a b : Bool) → (a && list_all f xs) ≡ true → (a ≡ true → b ≡ true) → (list_all f xs ≡ true → list_all g xs ≡ true) → (b && list_all g xs) ≡ true
    on true true e p q = q e
    on true false e p q = absurd (true≢false (sym (p refl)))
    on false b e p q = absurd (true≢false (sym e))

pub all_last : (f : Element → Bool) (o : Option Element) (xs : List Element) (y : Element) → option_map_or f o true ≡ true → list_all f xs ≡ true → last_or o xs ≡ Some y → f y ≡ true
all_last f None [] y g h e = absurd (cc)
all_last f (Some x) [] y g h e = ap (λ z. option_map_or f z true) (sym e) ∙ g
all_last f o (x ∷ xs) y g h e = on (f x) refl h (λ p q. all_last f (Some x) xs y p q e)
  where
    on : (b : Bool) → f x ≡ b → (b && list_all f xs) ≡ true → (f x ≡ true → list_all f xs ≡ true → f y ≡ true) → f y ≡ true
    on true p q k = k p q
    on false p q k = absurd (true≢false (sym q))

-- of one element: finished in the first, not stalling there
not_behind : (flagged fm fn rm rn : Bool) → fm ≡ true → (rm ≡ true → rn ≡ true) → (flagged && fm && not rm) ≡ false → (flagged && fn && not rn) ≡ false
not_behind false fm fn rm rn e k h = refl
not_behind true true fn true true e k h = on fn
  where
    on : (b : Bool) → (b && false) ≡ false
    on true = refl
    on false = refl
not_behind true true fn true false e k h = absurd (true≢false (sym (k refl)))
not_behind true true fn false rn e k h = absurd (true≢false h)
not_behind true false fn rm rn e k h = absurd (true≢false (sym e))

abbrev a_stall : ℕ → Element → Stall
a_stall c x = record { cmd = c; elem = x.number }

no_stall : (c : ℕ) (s t : Element → Bool) (o : Option Element) → ((x : Element) → o ≡ Some x → s x ≡ false → t x ≡ false)
    → is_some (option_and_then (λ x. cond (s x) (Some (a_stall c x)) None) o) ≡ false
    → is_some (option_and_then (λ x. cond (t x) (Some (a_stall c x)) None) o) ≡ false
no_stall c s t None k h = refl
no_stall c s t (Some x) k h = on (s x) (t x) (k x refl) h
  where
    on : (a b : Bool) → (a ≡ false → b ≡ false) → is_some (cond a (Some (a_stall c x)) None) ≡ false → is_some (cond b (Some (a_stall c x)) None) ≡ false
    on false true g e = absurd (true≢false (g refl))
    on false false g e = refl
    on true b g e = absurd (true≢false e)

-- by the same elements, and more parts done, stalls acknowledged and commands retired
pub record IsMore (m n : Moves) (c : ℕ) : Type 0 where
  pub read : read_of n.read c ≡ read_of m.read c
  pub done : (e k : ℕ) → is_done m.done c e k ≡ true → is_done n.done c e k ≡ true
  pub resumed : (e : ℕ) → is_resumed m.resumed c e ≡ true → is_resumed n.resumed c e ≡ true
  pub retired : was_retired m.retired c ≡ true → was_retired n.retired c ≡ true

finished-more : (m n : Moves) (c : ℕ) (x : Element) → IsMore m n c → is_finished m.done c x ≡ true → is_finished n.done c x ≡ true
unfolding is_finished
finished-more m n c x more h = all_more (is_done m.done c x.number) (is_done n.done c x.number) (range_with_len 0 (parts_in x)) (more.done x.number) h

pub both : (a b : Bool) → (a && b) ≡ true → (a ≡ true) × (b ≡ true)
both true b h = (refl, h)
both false b h = absurd (true≢false (sym h))

join : (a b : Bool) → a ≡ true → b ≡ true → (a && b) ≡ true
join true b p q = q
join false b p q = absurd (true≢false (sym p))

pub not_true : (b : Bool) → not b ≡ true → b ≡ false
not_true false h = refl
not_true true h = absurd (true≢false (sym h))

is_not : (b : Bool) → b ≡ false → not b ≡ true
is_not false h = refl
is_not true h = absurd (true≢false h)

elements-same : (m n : Moves) (c : ℕ) (d : Command) → IsMore m n c → elements_of n.read c d ≡ elements_of m.read c d
elements-same m n c d more = rw more.read refl

stalled-more : (m n : Moves) (c : ℕ) (d : Command) → IsMore m n c → list_all (is_finished m.done c) (elements_of m.read c d) ≡ true → is_stalled m c d ≡ false → is_stalled n c d ≡ false
unfolding stall_of present
stalled-more m n c d more all h =
    ap (λ els. is_some (option_and_then (λ x. cond (stalls_behind n c x) (Some (a_stall c x)) None) (last_or None els))) (elements-same m n c d more)
    ∙ no_stall c (stalls_behind m c) (stalls_behind n c) (last_or None (elements_of m.read c d))
    (λ x e. not_behind x.flagged (is_finished m.done c x) (is_finished n.done c x) (is_resumed m.resumed c x.number) (is_resumed n.resumed c x.number)
    (all_last (is_finished m.done c) None (elements_of m.read c d) x refl all e) (more.resumed x.number)) h

rest-more : (m n : Moves) (c : ℕ) (d : Command) → IsMore m n c → is_at_rest m c d ≡ true → is_at_rest n c d ≡ true
rest-more m n c d more h =
    let p = both (list_all (is_finished m.done c) (elements_of m.read c d)) (not (is_stalled m c d)) h in
    join (list_all (is_finished n.done c) (elements_of n.read c d)) (not (is_stalled n c d))
    (ap (λ els. list_all (is_finished n.done c) els) (elements-same m n c d more) ∙ all_more (is_finished m.done c) (is_finished n.done c) (elements_of m.read c d) (λ x. finished-more m n c x more) p.0)
    (is_not _ (stalled-more m n c d more p.0 (not_true _ p.1)))

pub complete-more : (m n : Moves) (c : ℕ) (d : Command) → IsMore m n c → is_complete_as m c d ≡ true → is_complete_as n c d ≡ true
unfolding is_complete_as
complete-more m n c d more h = on (is_moved d) h
  where
    on : (b : Bool) → cond b (are_all_there m.read c d && is_at_rest m c d) (was_retired m.retired c) ≡ true → cond b (are_all_there n.read c d && is_at_rest n c d) (was_retired n.retired c) ≡ true
    on true e =
        let p = both (are_all_there m.read c d) (is_at_rest m c d) e in
        join (are_all_there n.read c d) (is_at_rest n c d) (ap (λ els. length els == elements_in d) (elements-same m n c d more) ∙ p.0) (rest-more m n c d more p.1)
    on false e = more.retired e

eq_is : (a b : ℕ) → (a == b) ≡ true → a ≡ b
eq_is a b h = grind (arith, nat_tests)

-- ---- what the steps add

-- each command that is complete in the first is complete in the second, whose commands are those of the first and later ones
pub record Keeps (m n : Moves) : Type 0 where
  pub complete : (c : ℕ) → is_complete m c ≡ true → is_complete n c ≡ true
  pub later : List Command
  pub issued : n.issued ≡ m.issued ++ later

pub keeps-same : (m : Moves) → Keeps m m
keeps-same m = record { complete = λ c h. h; later = []; issued = sym (append-nil m.issued) }

pub keeps-then : (m n o : Moves) → Keeps m n → Keeps n o → Keeps m o
keeps-then m n o first second = record {
  complete = λ c h. second.complete c (first.complete c h);
  later = first.later ++ second.later;
  issued = second.issued ∙ ap (λ xs. xs ++ second.later) first.issued ∙ append_assoc m.issued first.later second.later;
}

on_issued : (f g : Command → Bool) (o : Option Command) → ((d : Command) → o ≡ Some d → f d ≡ true → g d ≡ true) → option_map_or f o false ≡ true → option_map_or g o false ≡ true
on_issued f g None k h = h
on_issued f g (Some d) k h = k d refl h

done_complete : (m : Moves) (d e k : ℕ) (c : ℕ) → is_complete m c ≡ true → is_complete (with_done m d e k) c ≡ true
unfolding is_complete is_done read_of
done_complete m d e k c h = on_issued (is_complete_as m c) (is_complete_as (with_done m d e k) c) (slice_get m.issued c)
    (λ y p. complete-more m (with_done m d e k) c y (record {
      read = refl;
      done = λ f j. any_more (λ (z : PartDone). z.cmd == c && z.elem == f && z.part == j) m.done (record { cmd = d; elem = e; part = k } ∷ []);
      resumed = λ f q. q;
      retired = λ q. q;
    })) h

pub done-keeps : (m : Moves) (d e k : ℕ) → Keeps m (with_done m d e k)
done-keeps m d e k = record { complete = done_complete m d e k; later = []; issued = sym (append-nil m.issued) }

resumed_complete : (m : Moves) (stalls : List Stall) (c : ℕ) → is_complete m c ≡ true → is_complete (with_resumed m stalls) c ≡ true
unfolding is_complete is_done read_of
resumed_complete m stalls c h = on_issued (is_complete_as m c) (is_complete_as (with_resumed m stalls) c) (slice_get m.issued c)
    (λ y p. complete-more m (with_resumed m stalls) c y (record {
      read = refl;
      done = λ f j q. q;
      resumed = λ f. any_more (λ (z : Stall). z.cmd == c && z.elem == f) m.resumed stalls;
      retired = λ q. q;
    })) h

pub resumed-keeps : (m : Moves) (stalls : List Stall) → Keeps m (with_resumed m stalls)
resumed-keeps m stalls = record { complete = resumed_complete m stalls; later = []; issued = sym (append-nil m.issued) }

retired_complete : (m : Moves) (d : ℕ) (c : ℕ) → is_complete m c ≡ true → is_complete (with_retired m d) c ≡ true
unfolding is_complete is_done read_of
retired_complete m d c h = on_issued (is_complete_as m c) (is_complete_as (with_retired m d) c) (slice_get m.issued c)
    (λ y p. complete-more m (with_retired m d) c y (record {
      read = refl;
      done = λ f j q. q;
      resumed = λ f q. q;
      retired = any_more (λ r. r == c) m.retired (d ∷ []);
    })) h

pub retired-keeps : (m : Moves) (d : ℕ) → Keeps m (with_retired m d)
retired-keeps m d = record { complete = retired_complete m d; later = []; issued = sym (append-nil m.issued) }

pub other-read : (reads : List ElementRead) (c d : ℕ) (x : Element) → (d == c) ≡ false
    → map (λ (r : ElementRead). r.element) (filter (λ r. r.cmd == c) (reads ++ record { cmd = d; element = x } ∷ [])) ≡ map (λ (r : ElementRead). r.element) (filter (λ r. r.cmd == c) reads)
other-read [] c d x p = ap (λ b. map (λ (r : ElementRead). r.element) (cond b (record { cmd = d; element = x } ∷ []) [])) p
other-read (r ∷ reads) c d x p = on (filter (λ r. r.cmd == c) (reads ++ record { cmd = d; element = x } ∷ [])) (filter (λ r. r.cmd == c) reads) (r.cmd == c) (other-read reads c d x p)
  where
    on : (xs ys : List ElementRead) (b : Bool) → map (λ (r : ElementRead). r.element) xs ≡ map (λ (r : ElementRead). r.element) ys → map (λ (r : ElementRead). r.element) (cond b (r ∷ xs) xs) ≡ map (λ (r : ElementRead). r.element) (cond b (r ∷ ys) ys)
    on xs ys true q = ap (λ zs. r.element ∷ zs) q
    on xs ys false q = q

-- an element that is left is read: its own command wasn't complete
read_complete : (m : Moves) (d : ℕ) (x : Element) → ((y : Command) → slice_get m.issued d ≡ Some y → are_all_there m.read d y ≡ false) → (c : ℕ) → is_complete m c ≡ true → is_complete (with_read m d x) c ≡ true
unfolding is_complete is_complete_as is_done read_of
read_complete m d x left c h = by (d == c) refl
  where
    other : (d == c) ≡ false → is_complete (with_read m d x) c ≡ true
    other p = on_issued (is_complete_as m c) (is_complete_as (with_read m d x) c) (slice_get m.issued c)
        (λ y q. complete-more m (with_read m d x) c y (record { read = other-read m.read c d x p; done = λ f j r. r; resumed = λ f r. r; retired = λ r. r })) h

    own : (d ≡ c) → is_complete (with_read m d x) c ≡ true
    own p = on_issued (is_complete_as m c) (is_complete_as (with_read m d x) c) (slice_get m.issued c)
        (λ y q e. on (are_all_there m.read c y) (is_at_rest m c y) (was_retired m.retired c) (are_all_there (with_read m d x).read c y && is_at_rest (with_read m d x) c y) (is_moved y) (subst (λ k. are_all_there m.read k y ≡ false) p (left y (ap (λ k. slice_get m.issued k) p ∙ q))) e) h
      where
        on : (a b r z moved : Bool) → a ≡ false → cond moved (a && b) r ≡ true → cond moved z r ≡ true
        on a b r z true q e = absurd (true≢false (sym e ∙ ap (λ k. k && b) q))
        on a b r z false q e = e

    by : (b : Bool) → (d == c) ≡ b → is_complete (with_read m d x) c ≡ true
    by true p = own (eq_is d c p)
    by false p = other p

pub read-keeps : (m : Moves) (d : ℕ) (x : Element) → ((y : Command) → slice_get m.issued d ≡ Some y → are_all_there m.read d y ≡ false) → Keeps m (with_read m d x)
read-keeps m d x left = record { complete = read_complete m d x left; later = []; issued = sym (append-nil m.issued) }

pub get_more : {X : Type 0} (xs ys : List X) (c : ℕ) (x : X) → slice_get xs c ≡ Some x → slice_get (xs ++ ys) c ≡ Some x
get_more [] ys c x h = absurd (cc)
get_more (y ∷ xs) ys zero x h = h
get_more (y ∷ xs) ys (suc c) x h = get_more xs ys c x h

issued_complete : (m : Moves) (d : Command) (c : ℕ) → is_complete m c ≡ true → is_complete (with_issued m d) c ≡ true
unfolding is_complete is_done read_of
issued_complete m d c h = on (slice_get m.issued c) refl h
  where
    on : (o : Option Command) → slice_get m.issued c ≡ o → option_map_or (is_complete_as m c) o false ≡ true
        → option_map_or (is_complete_as (with_issued m d) c) (slice_get (m.issued ++ d ∷ []) c) false ≡ true
    on None e g = absurd (true≢false (sym g))
    on (Some y) e g =
        ap (λ o. option_map_or (is_complete_as (with_issued m d) c) o false) (get_more m.issued (d ∷ []) c y e)
        ∙ complete-more m (with_issued m d) c y (record { read = refl; done = λ f j q. q; resumed = λ f q. q; retired = λ q. q }) g

pub issued-keeps : (m : Moves) (d : Command) → Keeps m (with_issued m d)
issued-keeps m d = record { complete = issued_complete m d; later = d ∷ []; issued = refl }
