-- What a step of a command does to how far it has come.
use Rattle.std.proofs.Common.{◌≡◌, ◌≢◌, ℕ, zero, suc, ◌+◌, ◌*◌, ◌-◌, ◌<◌, ◌≤◌, ◌==◌, ◌/◌, ◌%◌, ◌&&◌, ◌||◌, not, Bool, true, false, [], ◌∷◌, ◌++◌, length, arith, refl, sym, ◌∙◌, ap, subst, true≢false, length-append}
use Rattle.std.specs.Prelude.{Option, Some, None, is_some, slice_get, cond, option_and_then, if◌then◌else◌, filter_map}
use Rattle.std.specs.List.{list_all, list_any, range_with_len, last_or, cons_option}
use Rattle.std.specs.Option.{option_map_or}
use Rattle.std.proofs.lemmas.Bool.Decides.{nat_tests}
use Rattle.std.proofs.lemmas.List.Folds.{list_any-append}
use Rattle.mfc_command.specs.declared.command.Command.{Command}
use Rattle.mfc_command.specs.declared.command.Kind.{Kind}
use Rattle.mfc_command.specs.declared.command.Kind.TheVariants.{Put, Get, PutList, GetList, Barrier, PutQueued, Signal}
use Rattle.mfc_command.specs.Check.{KindFits}
use Rattle.mfc_command.specs.Order.{is_list, is_barrier}
use Rattle.mfc_command.specs.Parts.{parts_of}
use Rattle.mfc_lists.specs.declared.Element.{Element}
use Rattle.mfc_lists.proofs.ReadingLemmas.{last_or-snoc}
use Rattle.cell_machine.specs.declared.effect.Note.TheVariants.{Ack, Element as Reading}
use Rattle.cell_machine.specs.Spe.{Moves, Stall}
use Rattle.cell_machine.specs.Channels.{with_issued, with_resumed}
use Rattle.cell_machine.specs.Transfers.{with_done, with_read, with_retired, has_part, has_element, is_left, is_signal}
use Rattle.cell_machine.specs.Moves.{is_moved, read_of, whole, elements_in, elements_of, present, parts_in, is_done, is_finished, is_resumed, is_stalled, stall_of, stall_of_tag, stalls_of_tag, was_retired, is_complete_as}
use Rattle.cell_machine.specs.MovesShown.{AreElements, IsUntouched}
use Rattle.cell_machine.proofs.Same.{or_true, some_same, done-more, read-more, empty, eq_same, eq_off, get-within, resumed-elsewhere}
use Rattle.cell_machine.proofs.Staying.{both, not_true, all_last}
use Rattle.cell_machine.proofs.Elements.{list-elements, present-last, part-is, element-is, is_stall_of, elements-done, elements-read, not_on, stall-is}
use Rattle.cell_machine.proofs.ListSteps.{of-tag}
use Rattle.race_order.specs.declared.progress.Progress.{Progress}
use Rattle.race_order.specs.Lines.{is_queued_line}
use Rattle.race_order.specs.Premises.{IsOnePiece}
use Rattle.race_order.specs.Status.{is_transfer, is_last, finished, after_piece, with_element, after_element, after_ack, begun}
use Rattle.race_order.specs.Stages.{parts_left, progress_of}
use Rattle.race_order.proofs.Small.{and-off, and-false}
use Rattle.race_order.proofs.Shapes.{list-kind, suc-zero, one-less, all-left, finished-left, behind, complete_with, progress_by, plain, filled, made, moved-shape, start-shape, retired-shape, same-shape}

-- ---- of plain numbers

-- a list has a multiple of 8 bytes, and not too many; a PUTQLLUC and a signal are one piece
pub record IsFit (d : Command) : Type 0 where
  pub whole_list : is_list d.kind ≡ true → d.size % 8 ≡ 0
  pub small_list : is_list d.kind ≡ true → d.size ≤ 16384
  pub one_piece : IsOnePiece d
  pub one_signal : is_signal d.kind ≡ true → (is_transfer d ≡ true) × (parts_of d.ea d.size ≡ 1)

one-part : (ea size : ℕ) → size ≡ 128 → ea % 128 ≡ 0 → parts_of ea size ≡ 1
one-part ea size long begins = subst (λ x. parts_of ea x ≡ 1) (sym long) (let e : (ea + 128 - 1) / 128 - ea / 128 + 1 ≡ 1 = omega arith in e)

one-word : (ea size : ℕ) → size ≡ 4 → ea ≤ 31 → parts_of ea size ≡ 1
one-word ea size long low = subst (λ x. parts_of ea x ≡ 1) (sym long) (let e : (ea + 4 - 1) / 128 - ea / 128 + 1 ≡ 1 = omega arith in e)

pub fit-of : (lines : ℕ) (d : Command) → KindFits lines d d.kind → IsFit d
fit-of lines d fits = record { whole_list = λ list. (on d.kind fits list).0; small_list = λ list. (on d.kind fits list).1; one_piece = λ line. one d.kind refl fits line; one_signal = λ signal. word d.kind refl fits signal }
  where
    on : (k : Kind) → KindFits lines d k → is_list k ≡ true → (d.size % 8 ≡ 0) × (d.size ≤ 16384)
    on Put f h = absurd (true≢false (sym h))
    on Get f h = absurd (true≢false (sym h))
    on PutList f h = (f.whole, f.size)
    on GetList f h = (f.whole, f.size)
    on Barrier f h = absurd (true≢false (sym h))
    on PutQueued f h = absurd (true≢false (sym h))
    on Signal f h = absurd (true≢false (sym h))

    one : (k : Kind) → d.kind ≡ k → KindFits lines d k → is_queued_line k ≡ true → (is_transfer d ≡ true) × (parts_of d.ea d.size ≡ 1)
    one PutQueued is f h = (ap (λ (x : Kind). not (is_barrier x) && not (is_list x) && not (d.size == 0)) is ∙ ap (λ x. not (x == 0)) f.size, one-part d.ea d.size f.size f.aligned)
    one Put is f h = absurd (true≢false (sym h))
    one Get is f h = absurd (true≢false (sym h))
    one PutList is f h = absurd (true≢false (sym h))
    one GetList is f h = absurd (true≢false (sym h))
    one Barrier is f h = absurd (true≢false (sym h))
    one Signal is f h = absurd (true≢false (sym h))

    word : (k : Kind) → d.kind ≡ k → KindFits lines d k → is_signal k ≡ true → (is_transfer d ≡ true) × (parts_of d.ea d.size ≡ 1)
    word Signal is f h = (ap (λ (x : Kind). not (is_barrier x) && not (is_list x) && not (d.size == 0)) is ∙ ap (λ x. not (x == 0)) f.size, one-word d.ea d.size f.size f.register)
    word Put is f h = absurd (true≢false (sym h))
    word Get is f h = absurd (true≢false (sym h))
    word PutList is f h = absurd (true≢false (sym h))
    word GetList is f h = absurd (true≢false (sym h))
    word Barrier is f h = absurd (true≢false (sym h))
    word PutQueued is f h = absurd (true≢false (sym h))

pub transfers : (d : Command) → is_list d.kind ≡ false → is_moved d ≡ true → is_transfer d ≡ true
transfers d list moved = ap (λ b. not (is_barrier d.kind) && not b && not (d.size == 0)) list ∙ on (not (is_barrier d.kind)) (not (d.size == 0)) moved
  where
    on : (a b : Bool) → (a && b) ≡ true → (a && true && b) ≡ true
    on true b h = h
    on false b h = h

pub no-transfer : (d : Command) → is_list d.kind ≡ true → is_transfer d ≡ false
no-transfer d list = ap (λ b. not (is_barrier d.kind) && not b && not (d.size == 0)) list ∙ on (not (is_barrier d.kind))
  where
    on : (a : Bool) → (a && false && not (d.size == 0)) ≡ false
    on true = refl
    on false = refl

pub kept-transfer : (d : Command) → is_moved d ≡ false → is_transfer d ≡ false
kept-transfer d kept = on (not (is_barrier d.kind)) (not (is_list d.kind)) (not (d.size == 0)) kept
  where
    on : (a b e : Bool) → (a && e) ≡ false → ((a && b) && e) ≡ false
    on true true e h = h
    on true false e h = refl
    on false b e h = refl

eighths : (n size : ℕ) → size % 8 ≡ 0 → (8 * n == size) ≡ (n == size / 8)
eighths n size h = on (8 * n == size) (n == size / 8) refl refl
  where
    on : (a b : Bool) → (8 * n == size) ≡ a → (n == size / 8) ≡ b → a ≡ b
    on true true x y = refl
    on false false x y = refl
    on true false x y = absurd (let e : 8 * n ≡ size = grind (arith, nat_tests, x) in let g : n ≢ size / 8 = grind (arith, nat_tests, y) in g (omega (arith, e)))
    on false true x y = absurd (let e : n ≡ size / 8 = grind (arith, nat_tests, y) in let g : 8 * n ≢ size = grind (arith, nat_tests, x) in g (omega (arith, e, h)))

last_is : (d : Command) (n : ℕ) → IsFit d → is_list d.kind ≡ true → (8 * n == d.size) ≡ (n == elements_in d)
last_is d n fit list = eighths n d.size (fit.whole_list list) ∙ ap (λ b. n == cond b (d.size / 8) 1) (sym list)

-- when nothing of the present element is left
pub record IsWhole (d : Command) (n : ℕ) (flag : Bool) : Type 0 where
  pub single : is_list d.kind ≡ false → (n ≡ 1) × (flag ≡ false)

finish_list : (d : Command) (n read : ℕ) (left : ℕ) (flag stalled done : Bool) → IsFit d → is_list d.kind ≡ true → read ≡ n
    → finished (filled d read left flag stalled done) ≡ progress_by d n 0 flag false
finish_list d n read left flag stalled done fit list same =
    ap (λ b. cond b (filled d read 0 flag false true) (filled d read 0 flag flag (not flag && (8 * read == d.size)))) (no-transfer d list)
    ∙ made d _ _ _ _ _ _ _ _ _ _ (rw list same) refl refl (unflagged flag)
    (ap (λ k. not flag && (8 * k == d.size)) same ∙ ap (λ b. not flag && b) (last_is d n fit list) ∙ swap flag (n == elements_in d))
  where
    unflagged : (b : Bool) → b ≡ (b && true && true)
    unflagged true = refl
    unflagged false = refl

    swap : (a b : Bool) → (not a && b) ≡ (b && (true && not (a && true && true)))
    swap true true = refl
    swap true false = refl
    swap false true = refl
    swap false false = refl

finish_single : (d : Command) (n read left : ℕ) (flag stalled done : Bool) → is_list d.kind ≡ false → is_moved d ≡ true → IsWhole d n flag → read ≡ 0
    → finished (filled d read left flag stalled done) ≡ progress_by d n 0 flag false
finish_single d n read left flag stalled done list moved is same =
    let w = is.single list in
    ap (λ b. cond b (filled d read 0 flag false true) (filled d read 0 flag flag (not flag && (8 * read == d.size)))) (transfers d list moved)
    ∙ made d _ _ _ _ _ _ _ _ _ _ (rw list same) refl refl (ap (λ b. b && true && true) (sym w.1))
    (sym (ap (λ k. (k == elements_in d) && (true && not (flag && true && true))) w.0 ∙ ap (λ b. (1 == cond b (d.size / 8) 1) && (true && not (flag && true && true))) list ∙ ap (λ b. not (b && true && true)) w.1))

pub finish : (d : Command) (n read left : ℕ) (flag stalled done : Bool) → IsFit d → is_moved d ≡ true → IsWhole d n flag → read ≡ (if is_list d.kind then n else 0)
    → finished (filled d read left flag stalled done) ≡ progress_by d n 0 flag false
finish d n read left flag stalled done fit moved is same = on (is_list d.kind) refl
  where
    on : (b : Bool) → is_list d.kind ≡ b → finished (filled d read left flag stalled done) ≡ progress_by d n 0 flag false
    on true list = finish_list d n read left flag stalled done fit list (same ∙ ap (λ b. if b then n else 0) list)
    on false list = finish_single d n read left flag stalled done list moved is (same ∙ ap (λ b. if b then n else 0) list)

no_behind : (flag resumed : Bool) (l : ℕ) → behind flag (suc l) resumed ≡ false
no_behind flag r l = ap (λ b. flag && b && not r) (suc-zero l) ∙ on flag
  where
    on : (b : Bool) → (b && false && not r) ≡ false
    on true = refl
    on false = refl

no_complete : (d : Command) (n l : ℕ) (flag resumed : Bool) → complete_with d n (suc l) flag resumed ≡ false
no_complete d n l flag resumed = ap (λ b. (n == elements_in d) && (b && not (behind flag (suc l) resumed))) (suc-zero l) ∙ and-false (n == elements_in d)

-- one part less is left
piece_by : (d : Command) (n l : ℕ) (flag : Bool) → IsFit d → is_moved d ≡ true → IsWhole d n flag → after_piece (progress_by d n (suc l) flag false) ≡ progress_by d n l flag false
piece_by d n zero flag fit moved is = finish d n (if is_list d.kind then n else 0) 1 flag (behind flag 1 false) (complete_with d n 1 flag false) fit moved is refl
piece_by d n (suc l) flag fit moved is =
    let differs : (suc (suc l) == 1) ≡ false = grind (arith, nat_tests) in
    ap (λ b. cond b (finished (progress_by d n (suc (suc l)) flag false)) (record (progress_by d n (suc (suc l)) flag false) { left = suc (suc l) - 1 })) differs
    ∙ made d _ _ _ _ _ _ _ _ _ _ refl (omega arith) refl (no_behind flag false (suc l) ∙ sym (no_behind flag false l)) (no_complete d n (suc l) flag false ∙ sym (no_complete d n l flag false))

-- an element is read, of so many parts
element_by : (d : Command) (s : Progress) (n parts number : ℕ) (flag : Bool) → IsFit d → is_list d.kind ≡ true → is_moved d ≡ true → s.command ≡ d → s.read ≡ n → s.done ≡ false
    → after_element s (Reading number parts flag) ≡ progress_by d (n + 1) parts flag false
element_by d s n parts number flag fit list moved own read unfinished = on parts
  where
    long : s.read + 1 ≡ n + 1
    long = ap (λ k. k + 1) read

    as_made : (k : ℕ) → with_element s k flag ≡ filled d (s.read + 1) k flag false s.done
    as_made k = ap (λ c. filled c (s.read + 1) k flag false s.done) own

    whole_of : IsWhole d (n + 1) flag
    whole_of = record { single = λ off. absurd (true≢false (sym list ∙ off)) }

    on : (k : ℕ) → cond (k == 0) (finished (with_element s k flag)) (with_element s k flag) ≡ progress_by d (n + 1) k flag false
    on zero = ap finished (as_made zero) ∙ finish d (n + 1) (s.read + 1) 0 flag false s.done fit moved whole_of (long ∙ sym (ap (λ b. if b then n + 1 else 0) list))
    on (suc k) = ap (λ b. cond b (finished (with_element s (suc k) flag)) (with_element s (suc k) flag)) (suc-zero k) ∙ (as_made (suc k) ∙ made d _ _ _ _ _ _ _ _ _ _ (rw list long) refl refl (sym (no_behind flag false k)) (unfinished ∙ sym (no_complete d (n + 1) k flag false)))

-- a stall is acknowledged
ack_by : (d : Command) (n left tag : ℕ) (flag resumed : Bool) → IsFit d → IsWhole d n flag → (behind flag left resumed && (tag == d.tag)) ≡ true
    → after_ack (progress_by d n left flag resumed) (Ack tag) ≡ progress_by d n left flag true
ack_by d n zero tag true false fit is h = on (is_list d.kind) refl
  where
    on : (b : Bool) → is_list d.kind ≡ b → after_ack (progress_by d n 0 true false) (Ack tag) ≡ progress_by d n 0 true true
    on false list = absurd (true≢false (is.single list).1)
    on true list =
        ap (λ b. cond b (filled d (if is_list d.kind then n else 0) 0 true false (8 * (if is_list d.kind then n else 0) == d.size)) (progress_by d n 0 true false)) h
        ∙ made d _ _ _ _ _ _ _ _ _ _ refl refl refl refl (ap (λ b. 8 * (if b then n else 0) == d.size) list ∙ last_is d n fit list ∙ and_true (n == elements_in d))
      where
        and_true : (b : Bool) → b ≡ (b && (true && true))
        and_true true = refl
        and_true false = refl
ack_by d n left tag false resumed fit is h = absurd (true≢false (sym h))
ack_by d n (suc left) tag true resumed fit is h = absurd (true≢false (sym h ∙ ap (λ b. b && (tag == d.tag)) (no_behind true resumed left)))
ack_by d n zero tag true true fit is h = absurd (true≢false (sym h))

-- ---- of the machine's commands

-- a part was copied
copied_left : (m : Moves) (c k : ℕ) (x : Element) → k < parts_in x → is_done m.done c x.number k ≡ false → parts_left m.done c x ≡ parts_left (with_done m c x.number k).done c x + 1
unfolding parts_left
copied_left m c k x within left =
    one-less (is_done m.done c x.number) (is_done (with_done m c x.number k).done c x.number) 0 (parts_in x) k (omega arith) (omega (arith, within)) left
    (done-more m c x.number k c x.number k ∙ ap (λ b. is_done m.done c x.number k || (b && x.number == x.number && k == k)) (eq_same c) ∙ ap (λ b. is_done m.done c x.number k || (b && k == k)) (eq_same x.number)
    ∙ ap (λ b. is_done m.done c x.number k || b) (eq_same k) ∙ or_true (is_done m.done c x.number k))
    (λ j differs. done-more m c x.number k c x.number j ∙ ap (λ b. is_done m.done c x.number j || ((c == c && x.number == x.number) && b)) (eq_off k j differs) ∙ off (is_done m.done c x.number j) (c == c && x.number == x.number))
  where
    off : (b a : Bool) → (b || (a && false)) ≡ b
    off true a = refl
    off false true = refl
    off false false = refl

-- what is the one element of a PUT or GET
pub whole-of : (m : Moves) (c : ℕ) (d : Command) (x : Element) → present m.read c d ≡ Some x → IsWhole d (length (elements_of m.read c d)) x.flagged
whole-of m c d x there = record {
  single = λ off.
      let els : elements_of m.read c d ≡ whole d ∷ [] = ap (λ b. cond b (read_of m.read c) (whole d ∷ [])) off in
      let same : whole d ≡ x = some_same (whole d) x (sym (present-last m.read c d ∙ ap (λ xs. last_or None xs) els) ∙ there) in
      (ap length els, ap (λ (y : Element). y.flagged) (sym same));
}

-- its element isn't done: the command isn't complete, and one part less is left
pub record PartGone (m n : Moves) (c : ℕ) (d : Command) : Type 0 where
  pub unfinished : (progress_of m c d).done ≡ false
  pub left : 0 < (progress_of m c d).left
  pub stalls : (progress_of m c d).stalled ≡ false
  pub after : after_piece (progress_of m c d) ≡ progress_of n c d

pub piece-shape : (m : Moves) (c e k : ℕ) (d : Command) → IsFit d → AreElements m c d → has_part m c e k d ≡ true → PartGone m (with_done m c e k) c d
piece-shape m c e k d fit els has =
    let of = part-is m c e k d has in
    let x = of.element in
    let number = of.number in
    on x of.there of.within number (subst (λ f. is_done m.done c f k ≡ false) (sym number) of.left) of.moved
  where
    on : (x : Element) → present m.read c d ≡ Some x → k < parts_in x → x.number ≡ e → is_done m.done c x.number k ≡ false → is_moved d ≡ true → PartGone m (with_done m c e k) c d
    on x there within number left moved =
        let less = copied_left m c k x within left in
        let now : parts_left m.done c x ≡ suc (parts_left (with_done m c e k).done c x) = less ∙ ap (λ f. parts_left (with_done m c f k).done c x + 1) number ∙ omega arith in
        let unfinished : is_finished m.done c x ≡ false = finished-left m.done c x ∙ ap (λ l. l == 0) now ∙ suc-zero _ in
        let r : is_resumed m.resumed c x.number ≡ false = els.resumed x there unfinished in
        let before = moved-shape m c d x els moved there ∙ ap (λ l. progress_by d (length (elements_of m.read c d)) l x.flagged (is_resumed m.resumed c x.number)) now ∙ ap (progress_by d (length (elements_of m.read c d)) (suc (parts_left (with_done m c e k).done c x)) x.flagged) r in
        let later = moved-shape (with_done m c e k) c d x (elements-done m c e k d has els) moved there in
        record {
          unfinished = ap (λ (s : Progress). s.done) before ∙ no_complete d _ _ x.flagged false;
          left = subst (λ (s : Progress). 0 < s.left) (sym before) (omega arith);
          stalls = ap (λ (s : Progress). s.stalled) before ∙ no_behind x.flagged false _;
          after = ap after_piece before ∙ piece_by d _ _ x.flagged fit moved (whole-of m c d x there) ∙ ap (progress_by d (length (elements_of m.read c d)) (parts_left (with_done m c e k).done c x) x.flagged) (sym r) ∙ sym later;
        }

-- what is so before an element is read, whether or not that is at fault
pub record MayCount (m : Moves) (c : ℕ) (d : Command) : Type 0 where
  pub list : is_list d.kind ≡ true
  pub moved : is_moved d ≡ true
  pub unfinished : (progress_of m c d).done ≡ false
  pub left : (progress_of m c d).left ≡ 0
  pub stalls : (progress_of m c d).stalled ≡ false
  pub number : (progress_of m c d).read ≡ length (read_of m.read c)
  pub more : 8 * length (read_of m.read c) < d.size

list_moved : (d : Command) → is_list d.kind ≡ true → 0 < d.size → is_moved d ≡ true
list_moved d list some = let off : (d.size == 0) ≡ false = grind (arith, nat_tests, some) in ap (λ b. not (is_barrier d.kind) && not b) off ∙ ap (λ b. b && true) (list-kind d.kind list)

zero-is : (n : ℕ) → (n == 0) ≡ true → n ≡ 0
zero-is n h = grind (arith, nat_tests)

if_zero : (b : Bool) (n : ℕ) → n ≡ 0 → (if b then n else 0) ≡ 0
if_zero true n h = h
if_zero false n h = refl

count_left : (m : Moves) (c : ℕ) (d : Command) (o : Option Element) → present m.read c d ≡ o → list_all (is_finished m.done c) (elements_of m.read c d) ≡ true → (if is_moved d then option_map_or (parts_left m.done c) o 0 else 0) ≡ 0
count_left m c d None there all = if_zero (is_moved d) 0 refl
count_left m c d (Some x) there all =
    if_zero (is_moved d) (parts_left m.done c x)
    (zero-is _ (sym (finished-left m.done c x) ∙ all_last (is_finished m.done c) None (elements_of m.read c d) x refl all (sym (present-last m.read c d) ∙ there)))

pub count-shape : (m : Moves) (c : ℕ) (d : Command) → IsFit d → AreElements m c d → has_element m c d ≡ true → MayCount m c d
unfolding is_complete_as
count-shape m c d fit els has =
    let may = element-is m c d has in
    let all : list_all (is_finished m.done c) (elements_of m.read c d) ≡ true = ap (list_all (is_finished m.done c)) (list-elements m.read c d may.list) ∙ may.finished in
    let few = els.few in
    let left : (length (elements_of m.read c d) == elements_in d) ≡ false = may.left in
    let size : length (elements_of m.read c d) ≡ length (read_of m.read c) = ap length (list-elements m.read c d may.list) in
    let n : elements_in d ≡ d.size / 8 = ap (λ b. cond b (d.size / 8) 1) may.list in
    let below : length (read_of m.read c) < d.size / 8 = grind (arith, nat_tests, few, left, size, n) in
    let more : 8 * length (read_of m.read c) < d.size = omega (arith, below) in
    let moved = list_moved d may.list (omega (arith, more)) in
    record {
      list = may.list;
      moved = moved;
      unfinished = ap (λ b. cond b ((length (elements_of m.read c d) == elements_in d) && (list_all (is_finished m.done c) (elements_of m.read c d) && not (is_stalled m c d))) (was_retired m.retired c)) moved ∙ and-off _ _ left;
      left = count_left m c d (present m.read c d) refl all;
      stalls = may.goes_on;
      number = ap (λ b. if b then length (read_of m.read c) else 0) may.list;
      more = more;
    }

element_left : (m : Moves) (c : ℕ) (d : Command) (x : Element) → AreElements m c d → is_list d.kind ≡ true → x.number ≡ length (read_of m.read c) → parts_left (with_read m c x).done c x ≡ parts_in x
unfolding parts_left
element_left m c d x els list number =
    let size : length (elements_of m.read c d) ≡ length (read_of m.read c) = ap length (list-elements m.read c d list) in
    all-left (is_done m.done c x.number) 0 (parts_in x) (λ k. els.later x.number k (omega (arith, size, number)))

pub element-shape : (m : Moves) (c : ℕ) (d : Command) (x : Element) → IsFit d → AreElements m c d → has_element m c d ≡ true → x.number ≡ length (read_of m.read c)
    → after_element (progress_of m c d) (Reading x.number (parts_in x) x.flagged) ≡ progress_of (with_read m c x) c d
element-shape m c d x fit els has number =
    let may = count-shape m c d fit els has in
    let now : elements_of (with_read m c x).read c d ≡ read_of m.read c ++ x ∷ [] = list-elements (with_read m c x).read c d may.list ∙ read-more m c x in
    let there : present (with_read m c x).read c d ≡ Some x = present-last (with_read m c x).read c d ∙ ap (λ xs. last_or None xs) now ∙ last_or-snoc None (read_of m.read c) x in
    let long : length (elements_of (with_read m c x).read c d) ≡ length (read_of m.read c) + 1 = ap length now ∙ length-append (read_of m.read c) (x ∷ []) in
    let size : length (elements_of m.read c d) ≡ length (read_of m.read c) = ap length (list-elements m.read c d may.list) in
    let later = moved-shape (with_read m c x) c d x (elements-read m c d x has number els) may.moved there in
    element_by d (progress_of m c d) (length (read_of m.read c)) (parts_in x) x.number x.flagged fit may.list may.moved refl may.number may.unfinished
    ∙ sym (later ∙ ap (λ k. progress_by d k (parts_left (with_read m c x).done c x) x.flagged (is_resumed m.resumed c x.number)) long
    ∙ ap (λ k. progress_by d (length (read_of m.read c) + 1) k x.flagged (is_resumed m.resumed c x.number)) (element_left m c d x els may.list number)
    ∙ ap (progress_by d (length (read_of m.read c) + 1) (parts_in x) x.flagged) (els.not_resumed x.number (omega (arith, size, number))))

-- a command is retired
pub record Retires (m n : Moves) (c : ℕ) (d : Command) : Type 0 where
  pub unfinished : (progress_of m c d).done ≡ false
  pub left : (progress_of m c d).left ≡ 0
  pub read : (progress_of m c d).read ≡ 0
  pub after : record (progress_of m c d) { stalled = false; done = true } ≡ progress_of n c d

pub retire-shape : (m : Moves) (c : ℕ) (d : Command) → AreElements m c d → is_left m c d ≡ true → Retires m (with_retired m c) c d
retire-shape m c d els has = on (is_moved d) (was_retired m.retired c) refl refl has
  where
    more : AreElements (with_retired m c) c d
    more = record { few = els.few; numbers = els.numbers; earlier = els.earlier; later = els.later; not_resumed = els.not_resumed; resumed = els.resumed }

    now : was_retired (with_retired m c).retired c ≡ true
    now = list_any-append (λ r. r == c) m.retired (c ∷ []) ∙ ap (λ b. was_retired m.retired c || (b || false)) (eq_same c) ∙ or_true (was_retired m.retired c)

    on : (a b : Bool) → is_moved d ≡ a → was_retired m.retired c ≡ b → (not a && not b) ≡ true → Retires m (with_retired m c) c d
    on true b e g h = absurd (true≢false (sym h))
    on false true e g h = absurd (true≢false (sym h))
    on false false e g h =
        let before = retired-shape m c d els e ∙ ap (plain d) g in
        record {
          unfinished = ap (λ (s : Progress). s.done) before;
          left = ap (λ (s : Progress). s.left) before;
          read = ap (λ (s : Progress). s.read) before;
          after = ap (λ (s : Progress). record s { stalled = false; done = true }) before ∙ sym (retired-shape (with_retired m c) c d more e ∙ ap (plain d) now);
        }

-- a command is issued
positive : (ea size : ℕ) → (size == 0) ≡ false → (parts_of ea size == 0) ≡ false
positive ea size h = ap (λ b. cond b 0 ((ea + size - 1) / 128 - ea / 128 + 1) == 0) h ∙ some ((ea + size - 1) / 128 - ea / 128)
  where
    some : (n : ℕ) → (n + 1 == 0) ≡ false
    some n = grind (arith, nat_tests)

pub issue-shape : (m : Moves) (d : Command) → IsFit d → IsUntouched m (length m.issued) → AreElements (with_issued m d) (length m.issued) d → progress_of (with_issued m d) (length m.issued) d ≡ begun d
unfolding parts_left
issue-shape m d fit fresh els = on (is_moved d) (is_list d.kind) refl refl
  where
    n : Moves
    n = with_issued m d

    c : ℕ
    c = length m.issued

    sized : is_moved d ≡ true → (d.size == 0) ≡ false
    sized moved = not_true (d.size == 0) (both (not (is_barrier d.kind)) (not (d.size == 0)) moved).1

    on : (a b : Bool) → is_moved d ≡ a → is_list d.kind ≡ b → progress_of n c d ≡ begun d
    on false b kept list =
        retired-shape n c d els kept ∙ ap (plain d) fresh.retired ∙ ap (λ b. filled d 0 (if b then parts_of d.ea d.size else 0) false false false) (sym (kept-transfer d kept))
    on true true moved list =
        let none : elements_of n.read c d ≡ [] = list-elements n.read c d list ∙ empty (read_of m.read c) fresh.read in
        let eight = fit.whole_list list in
        let some = sized moved in
        let k : elements_in d ≡ d.size / 8 = ap (λ b. cond b (d.size / 8) 1) list in
        let more : (0 == elements_in d) ≡ false = ap (λ e. 0 == e) k ∙ grind (arith, nat_tests, eight, some) in
        start-shape n c d moved list (present-last n.read c d ∙ ap (λ xs. last_or None xs) none) fresh.read more
        ∙ ap (λ b. filled d 0 (if b then parts_of d.ea d.size else 0) false false false) (sym (no-transfer d list))
    on true false moved list =
        let one : elements_of n.read c d ≡ whole d ∷ [] = ap (λ b. cond b (read_of n.read c) (whole d ∷ [])) list in
        let there : present n.read c d ≡ Some (whole d) = present-last n.read c d ∙ ap (λ xs. last_or None xs) one in
        let parts : parts_left n.done c (whole d) ≡ parts_of d.ea d.size = all-left (is_done m.done c 0) 0 (parts_of d.ea d.size) (λ k. fresh.done 0 k) in
        let some : (parts_of d.ea d.size == 0) ≡ false = positive d.ea d.size (sized moved) in
        moved-shape n c d (whole d) els moved there
        ∙ made d _ _ _ _ _ _ _ _ _ _
        (ap (λ b. if b then length (elements_of n.read c d) else 0) list)
        (parts ∙ ap (λ b. if b then parts_of d.ea d.size else 0) (sym (transfers d list moved)))
        refl
        refl
        (ap (λ l. complete_with d (length (elements_of n.read c d)) l false (is_resumed n.resumed c 0)) parts
        ∙ ap (λ b. (length (elements_of n.read c d) == elements_in d) && (b && true)) some ∙ and-false (length (elements_of n.read c d) == elements_in d))

-- ---- an acknowledgement

any_there : (g : ℕ → Option Stall) (f : Stall → Bool) (s : Stall) (a n c : ℕ) → a ≤ c → c < a + n → g c ≡ Some s → f s ≡ true → list_any f (filter_map g (range_with_len a n)) ≡ true
any_there g f s a zero c low high at is = absurd (omega (arith, low, high))
any_there g f s a (suc n) c low high at is = on (a == c) refl (λ above. any_there g f s (a + 1) n c above (omega (arith, high)) at is)
  where
    later : (o : Option Stall) → list_any f (filter_map g (range_with_len (a + 1) n)) ≡ true → list_any f (cons_option o (filter_map g (range_with_len (a + 1) n))) ≡ true
    later None h = h
    later (Some t) h = ap (λ b. f t || b) h ∙ or_true (f t)

    on : (b : Bool) → (a == c) ≡ b → (a + 1 ≤ c → list_any f (filter_map g (range_with_len (a + 1) n)) ≡ true) → list_any f (cons_option (g a) (filter_map g (range_with_len (a + 1) n))) ≡ true
    on true e h =
        let same : a ≡ c = grind (arith, nat_tests, e) in
        ap (λ o. list_any f (cons_option o (filter_map g (range_with_len (a + 1) n)))) (ap g same ∙ at) ∙ ap (λ b. b || list_any f (filter_map g (range_with_len (a + 1) n))) is
    on false e h = later (g a) (h (grind (arith, nat_tests, e, low)))

stall-there : (m : Moves) (tag c : ℕ) (d : Command) (x : Element) → slice_get m.issued c ≡ Some d → (tag == d.tag) ≡ true → present m.read c d ≡ Some x → is_stalled m c d ≡ true
    → list_any (is_stall_of c x.number) (stalls_of_tag m tag) ≡ true
unfolding stalls_of_tag
stall-there m tag c d x at same there stalled = on (stall_of m c d) refl stalled
  where
    tagged : (d.tag == tag) ≡ true
    tagged = let e : tag ≡ d.tag = grind (arith, nat_tests, same) in ap (λ t. d.tag == t) e ∙ eq_same d.tag

    on : (o : Option Stall) → stall_of m c d ≡ o → is_some o ≡ true → list_any (is_stall_of c x.number) (filter_map (stall_of_tag m tag) (range_with_len 0 (length m.issued))) ≡ true
    on None e h = absurd (true≢false (sym h))
    on (Some s) e h =
        let w = stall-is m c d s e in
        let own : w.element ≡ x = some_same w.element x (sym w.is_present ∙ there) in
        any_there (stall_of_tag m tag) (is_stall_of c x.number) s 0 (length m.issued) c (omega arith) (let low = get-within m.issued c d at in omega (arith, low))
        (ap (λ o. option_and_then (λ y. cond (y.tag == tag) (stall_of m c y) None) o) at ∙ ap (λ b. cond b (stall_of m c d) None) tagged ∙ e)
        (ap (λ k. k == c && s.elem == x.number) w.cmd ∙ ap (λ b. b && s.elem == x.number) (eq_same c) ∙ ap (λ k. k == x.number) (w.elem ∙ ap (λ (y : Element). y.number) own) ∙ eq_same x.number)

-- none of them is of another tag, or of a command that isn't stalled
no-stall : (m : Moves) (tag c : ℕ) (d : Command) → slice_get m.issued c ≡ Some d → (is_stalled m c d && (tag == d.tag)) ≡ false → (e : ℕ) → is_resumed (stalls_of_tag m tag) c e ≡ false
no-stall m tag c d at off e = not_on _ (λ h.
    let t = of-tag m tag c e h in
    let own : t.command ≡ d = some_same t.command d (sym t.at ∙ at) in
    let stalled : is_stalled m c d ≡ true = ap (λ y. is_some (stall_of m c y)) (sym own) ∙ ap is_some t.is in
    let tagged : tag ≡ d.tag = sym t.tagged ∙ ap (λ (y : Command). y.tag) own in
    true≢false (sym (ap (λ b. b && (tag == d.tag)) stalled ∙ ap (λ k. tag == k) (sym tagged) ∙ eq_same tag) ∙ off))

pub ack-shape : (m : Moves) (tag c : ℕ) (d : Command) → IsFit d → AreElements m c d → AreElements (with_resumed m (stalls_of_tag m tag)) c d → slice_get m.issued c ≡ Some d
    → after_ack (progress_of m c d) (Ack tag) ≡ progress_of (with_resumed m (stalls_of_tag m tag)) c d
ack-shape m tag c d fit els later at = on (is_stalled m c d && (tag == d.tag)) refl
  where
    n : Moves
    n = with_resumed m (stalls_of_tag m tag)

    off : (is_stalled m c d && (tag == d.tag)) ≡ false → after_ack (progress_of m c d) (Ack tag) ≡ progress_of n c d
    off h =
        ap (λ b. cond b (record (progress_of m c d) { stalled = false; done = is_last (progress_of m c d) }) (progress_of m c d)) h
        ∙ sym (same-shape m n c d (resumed-elsewhere m (stalls_of_tag m tag) c (no-stall m tag c d at h)))

    moved : is_stalled m c d ≡ true → is_moved d ≡ true
    moved h = by (is_moved d) refl
      where
        by : (b : Bool) → is_moved d ≡ b → is_moved d ≡ true
        by true e = e
        by false e = absurd (true≢false (sym h ∙ ap (λ (s : Progress). s.stalled) (retired-shape m c d els e)))

    at_element : (o : Option Stall) → stall_of m c d ≡ o → is_some o ≡ true → (is_stalled m c d && (tag == d.tag)) ≡ true → after_ack (progress_of m c d) (Ack tag) ≡ progress_of n c d
    at_element None e h g = absurd (true≢false (sym h))
    at_element (Some s) e h g =
        let w = stall-is m c d s e in
        let x = w.element in
        let stalled : is_stalled m c d ≡ true = ap is_some e in
        let tagged : (tag == d.tag) ≡ true = (both (is_stalled m c d) (tag == d.tag) g).1 in
        let before = moved-shape m c d x els (moved stalled) w.is_present in
        let now : is_resumed n.resumed c x.number ≡ true = list_any-append (is_stall_of c x.number) m.resumed (stalls_of_tag m tag) ∙ ap (λ b. is_resumed m.resumed c x.number || b) (stall-there m tag c d x at tagged w.is_present stalled) ∙ or_true (is_resumed m.resumed c x.number) in
        let same : behind x.flagged (parts_left m.done c x) (is_resumed m.resumed c x.number) ≡ true = sym (ap (λ (s : Progress). s.stalled) before) ∙ stalled in
        ap (λ s. after_ack s (Ack tag)) before
        ∙ ack_by d (length (elements_of m.read c d)) (parts_left m.done c x) tag x.flagged (is_resumed m.resumed c x.number) fit (whole-of m c d x w.is_present) (ap (λ b. b && (tag == d.tag)) same ∙ tagged)
        ∙ sym (moved-shape n c d x later (moved stalled) w.is_present ∙ ap (progress_by d (length (elements_of m.read c d)) (parts_left m.done c x) x.flagged) now)

    on : (b : Bool) → (is_stalled m c d && (tag == d.tag)) ≡ b → after_ack (progress_of m c d) (Ack tag) ≡ progress_of n c d
    on false h = off h
    on true h = at_element (stall_of m c d) refl (both (is_stalled m c d) (tag == d.tag) h).0 h
