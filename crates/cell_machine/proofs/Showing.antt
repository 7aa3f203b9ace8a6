-- What is shown of an outstanding command.
use Rattle.std.proofs.Common.{◌≡◌, ℕ, zero, suc, ◌+◌, ◌-◌, ◌≤◌, Bool, true, false, List, [], ◌∷◌, length, arith, refl, ◌∙◌, ap}
use Rattle.std.specs.Prelude.{not, cond, Option, Some, None, filter, slice_get}
use Rattle.std.specs.List.{range_with_len}
use Rattle.std.specs.Option.{option_map_or, option_and_then}
use Rattle.mfc_command.specs.declared.command.Command.{Command}
use Rattle.mfc_command.specs.Order.{is_list}
use Rattle.mfc_lists.specs.declared.Element.{Element}
use Rattle.mfc_lists.specs.Readings.{current}
use Rattle.mfc_queue.specs.Calls.{Call, parts as parts_of_calls, is_marked, left as left_of_calls}
use Rattle.cell_machine.specs.declared.outstanding.Outstanding.{Outstanding}
use Rattle.cell_machine.specs.Spe.{Spe, Moves}
use Rattle.cell_machine.specs.Moves.{is_moved, read_of, present, parts_in, is_done, is_stalled}
use Rattle.cell_machine.specs.MovesShown.{ShowsMoves, parts_now, reading}
use Rattle.cell_machine.specs.Shown.{parts_missing, parts_left, shown, shown_at}
use Rattle.cell_machine.proofs.MovesShown.{get-within}

filter-few : (t : ℕ → Bool) (a n : ℕ) → length (filter t (range_with_len a n)) ≤ n
filter-few t a zero = omega arith
filter-few t a (suc n) = on (t a) (filter-few t (a + 1) n)
  where
    on : (b : Bool) → length (filter t (range_with_len (a + 1) n)) ≤ n → length (cond b (a ∷ filter t (range_with_len (a + 1) n)) (filter t (range_with_len (a + 1) n))) ≤ suc n
    on true h = omega arith
    on false h = omega arith

filter-same : (t u : ℕ → Bool) (xs : List ℕ) → ((k : ℕ) → t k ≡ u k) → filter t xs ≡ filter u xs
filter-same t u [] same = refl
filter-same t u (x ∷ xs) same = ap (λ b. cond b (x ∷ filter t xs) (filter t xs)) (same x) ∙ ap (λ ys. cond (u x) (x ∷ ys) ys) (filter-same t u xs same)

-- no more parts are left than there are
pub left-few : (calls : List Call) (c : ℕ) → length (left_of_calls calls c) ≤ parts_of_calls calls c
unfolding left_of_calls
left-few calls c = filter-few (λ k. not (is_marked calls c k)) 0 (parts_of_calls calls c)

pub left-none_behind : (calls : List Call) (c n k : ℕ) → n ≡ parts_of_calls calls c → slice_get (left_of_calls calls c) n ≡ Some k → ⊥
left-none_behind calls c n k is at = let few = left-few calls c in let within = get-within (left_of_calls calls c) n k at in absurd (omega arith)

-- those that are left in the queue are those that aren't done
pub left-is : (calls : List Call) (m : Moves) (c : ℕ) (d : Command) → ShowsMoves calls m → slice_get m.issued c ≡ Some d → left_of_calls calls c ≡ parts_left m c d
unfolding left_of_calls parts_left
left-is calls m c d shows at = by (is_moved d) refl
  where
    unmarked : ℕ → List ℕ
    unmarked n = filter (λ k. not (is_marked calls c k)) (range_with_len 0 n)

    of_present : (o : Option Element) → present m.read c d ≡ o → parts_of_calls calls c ≡ option_map_or parts_in o 0 → unmarked (parts_of_calls calls c) ≡ option_map_or (parts_missing m.done c) o []
    of_present None p n = ap unmarked n
    of_present (Some x) p n =
        ap unmarked n ∙ filter-same (λ k. not (is_marked calls c k)) (λ k. not (is_done m.done c x.number k)) (range_with_len 0 (parts_in x)) (λ k. ap not (shows.done.marked c k d x at p))

    by : (b : Bool) → is_moved d ≡ b → unmarked (parts_of_calls calls c) ≡ cond b (option_map_or (parts_missing m.done c) (present m.read c d) []) []
    by true moved = of_present (present m.read c d) refl (shows.done.parts c d at ∙ rw moved refl)
    by false kept = let n : parts_of_calls calls c ≡ 0 = shows.done.parts c d at ∙ rw kept refl in ap unmarked n

-- how many they are, by the place behind all
pub left-count : (calls : List Call) (m : Moves) (c n behind result : ℕ) (d : Command) → ShowsMoves calls m → slice_get m.issued c ≡ Some d
    → n ≡ length (left_of_calls calls c) + behind → result ≡ n - behind → result ≡ length (parts_left m c d)
left-count calls m c n behind result d shows at place is = let same = ap length (left-is calls m c d shows at) in omega arith

-- a list, and every other command
pub shown-list : (m : Moves) (c read parts left : ℕ) (d command : Command) (element : Option Element) (stalled : Bool) → is_list d.kind ≡ true → command ≡ d → read ≡ length (read_of m.read c)
    → element ≡ current (reading m c d) → parts ≡ parts_now m.read c d → left ≡ length (parts_left m c d) → stalled ≡ is_stalled m c d
    → record { number = c; command = command; read = read; element = element; parts = parts; left = left; stalled = stalled } ≡ shown m c d
shown-list m c read parts left d command element stalled list e1 e2 e3 e4 e5 e6 = rw list (cc)

pub shown-plain : (m : Moves) (c parts left : ℕ) (d command : Command) → is_list d.kind ≡ false → command ≡ d → parts ≡ parts_now m.read c d → left ≡ length (parts_left m c d) → is_stalled m c d ≡ false
    → record { number = c; command = command; read = 0; element = None; parts = parts; left = left; stalled = false } ≡ shown m c d
shown-plain m c parts left d command plain e1 e2 e3 e4 = rw plain (cc)

-- the command of a number that is outstanding
pub shown-there : (P : Spe) (c : ℕ) (d : Command) (x : Outstanding) (o : Option ℕ) → o ≡ Some c → slice_get P.moves.issued c ≡ Some d → x ≡ shown P.moves c d → Some x ≡ option_and_then (shown_at P.moves) o
shown-there P c d x o is at e = rw (is, at) (ap (λ y. Some y) e)
