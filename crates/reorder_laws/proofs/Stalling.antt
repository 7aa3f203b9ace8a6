-- When commands stall, and what becomes of the stall status with a step of one command.
use Rattle.std.proofs.Common.{◌≡◌, ◌≢◌, ℕ, ◌^◌, refl, sym, ◌∙◌, ap, arith, Bool, true, false, List, [], ◌∷◌, Option, Some, None, cond}
use Rattle.std.specs.Prelude.{slice_get, ◌==◌, ◌&&◌, not, nat_lt, is_some, bit_or, option_and_then}
use Rattle.std.specs.List.{range_with_len, list_all, last_or}
use Rattle.std.specs.Option.{option_map_or}
use Rattle.std.proofs.lemmas.Bool.{false≢true}
use Rattle.mfc_command.specs.declared.command.Command.{Command}
use Rattle.mfc_command.specs.Order.{is_list}
use Rattle.mfc_lists.specs.declared.Element.{Element}
use Rattle.cell_machine.specs.Spe.{Moves, Stall}
use Rattle.cell_machine.specs.Moves.{read_of, is_done, is_finished, is_resumed, present, parts_in, elements_of, is_at_rest, is_stalled, stall_of, stalls_behind, whole}
use Rattle.cell_machine.specs.Transfers.{is_part_left}
use Rattle.cell_machine.proofs.Staying.{IsMore, all_more, all_last, both, not_true}
use Rattle.cell_machine.proofs.Same.{SameOf, same-stall, range-fails, lt_is, eq_is}
use Rattle.reorder_laws.specs.Controllers.{stalls_after}
use Rattle.reorder_laws.specs.Recorded.{stalled_groups, is_stalled_number}
use Rattle.reorder_laws.specs.Facts.{StalledMore}

a_stall : ℕ → Element → Stall
a_stall c x = record { cmd = c; elem = x.number }

is_not : (b : Bool) → b ≡ false → not b ≡ true
is_not false h = refl
is_not true h = absurd (false≢true (sym h))

join : (a b : Bool) → a ≡ true → b ≡ true → (a && b) ≡ true
join true b p q = q
join false b p q = absurd (false≢true p)

-- ---- an element at rest stays so where more is done of the command

finished-more : (m n : Moves) (c : ℕ) (x : Element) → IsMore m n c → is_finished m.done c x ≡ true → is_finished n.done c x ≡ true
unfolding is_finished
finished-more m n c x more h = all_more (is_done m.done c x.number) (is_done n.done c x.number) (range_with_len 0 (parts_in x)) (more.done x.number) h

behind_more : (flag a b s t : Bool) → a ≡ true → (s ≡ true → t ≡ true) → (flag && a && not s) ≡ false → (flag && b && not t) ≡ false
behind_more false a b s t h g e = refl
behind_more true a false s t h g e = refl
behind_more true a true s true h g e = refl
behind_more true true true true false h g e = absurd (false≢true (g refl))
behind_more true true true false false h g e = absurd (false≢true (sym e))
behind_more true false true s false h g e = absurd (false≢true h)

stalled-more : (m n : Moves) (c : ℕ) (d : Command) → IsMore m n c → list_all (is_finished m.done c) (elements_of m.read c d) ≡ true → is_stalled m c d ≡ false → is_stalled n c d ≡ false
unfolding stall_of present a_stall
stalled-more m n c d more all h =
    ap (λ xs. is_some (option_and_then (λ x. cond (stalls_behind n c x) (Some (a_stall c x)) None) (last_or None (elements_by xs)))) more.read ∙ on (last_or None (elements_by (read_of m.read c))) refl h
  where
    elements_by : List Element → List Element
    elements_by xs = cond (is_list d.kind) xs (whole d ∷ [])

    is : (b : Bool) (x : Element) → is_some (cond b (Some (a_stall c x)) None) ≡ b
    is true x = refl
    is false x = refl

    on : (o : Option Element) → last_or None (elements_by (read_of m.read c)) ≡ o → is_some (option_and_then (λ x. cond (stalls_behind m c x) (Some (a_stall c x)) None) o) ≡ false
        → is_some (option_and_then (λ x. cond (stalls_behind n c x) (Some (a_stall c x)) None) o) ≡ false
    on None e g = refl
    on (Some x) e g =
        let f = all_last (is_finished m.done c) None (elements_of m.read c d) x refl all e in
        is (stalls_behind n c x) x ∙ behind_more x.flagged (is_finished m.done c x) (is_finished n.done c x) (is_resumed m.resumed c x.number) (is_resumed n.resumed c x.number) f (more.resumed x.number) (sym (is (stalls_behind m c x) x) ∙ g)

pub rest-more : (m n : Moves) (c : ℕ) (d : Command) → IsMore m n c → is_at_rest m c d ≡ true → is_at_rest n c d ≡ true
rest-more m n c d more h =
    let p = both (list_all (is_finished m.done c) (elements_of m.read c d)) (not (is_stalled m c d)) h in
    join (list_all (is_finished n.done c) (elements_of n.read c d)) (not (is_stalled n c d))
    (ap (λ xs. list_all (is_finished n.done c) (cond (is_list d.kind) xs (whole d ∷ []))) more.read ∙ all_more (is_finished m.done c) (is_finished n.done c) (elements_of m.read c d) (λ x. finished-more m n c x more) p.0)
    (is_not _ (stalled-more m n c d more p.0 (not_true _ p.1)))

-- ---- what isn't stalled

-- a command that isn't a list
pub single_not : (m : Moves) (c : ℕ) (d : Command) → is_list d.kind ≡ false → is_stalled m c d ≡ false
unfolding stall_of present
single_not m c d h = rw h refl

-- one of whose present element a part is left
pub left_not : (m : Moves) (c e k : ℕ) (d : Command) (x : Element) → present m.read c d ≡ Some x → is_part_left m.done c e k x ≡ true → is_stalled m c d ≡ false
unfolding stall_of is_finished
left_not m c e k d x at h =
    ap (λ o. is_some (option_and_then (λ x. cond (stalls_behind m c x) (Some (a_stall_of x)) None) o)) at ∙ test (stalls_behind m c x) (off x.flagged (is_finished m.done c x) (not (is_resumed m.resumed c x.number)) unfinished)
  where
    a_stall_of : Element → Stall
    a_stall_of x = record { cmd = c; elem = x.number }

    test : (b : Bool) → b ≡ false → is_some (cond b (Some (a_stall_of x)) None) ≡ false
    test false e = refl
    test true e = absurd (false≢true (sym e))

    off : (a b c : Bool) → b ≡ false → (a && b && c) ≡ false
    off true false c e = refl
    off false b c e = refl
    off true true c e = absurd (false≢true (sym e))

    parts : (x.number == e && nat_lt k (parts_in x)) ≡ true
    parts = (both (x.number == e && nat_lt k (parts_in x)) (not (is_done m.done c e k)) h).0

    same_number : x.number ≡ e
    same_number = eq_is x.number e (both (x.number == e) (nat_lt k (parts_in x)) parts).0

    unfinished : is_finished m.done c x ≡ false
    unfinished =
        range-fails (is_done m.done c x.number) 0 (parts_in x) k (omega arith) (let l = lt_is k (parts_in x) (both (x.number == e) (nat_lt k (parts_in x)) parts).1 in omega (arith, l))
        (ap (λ n. is_done m.done c n k) same_number ∙ not_true _ (both (x.number == e && nat_lt k (parts_in x)) (not (is_done m.done c e k)) h).1)

-- ---- the stall status

-- commands other than c stall as before
pub others_stall : (m n : Moves) (c : ℕ) → n.issued ≡ m.issued → ((b : ℕ) → c ≢ b → SameOf m n b) → (b : ℕ) → b ≢ c → is_stalled_number n b ≡ is_stalled_number m b
others_stall m n c issued same b ne = ap (λ xs. option_map_or (is_stalled n b) (slice_get xs b) false) issued ∙ on (slice_get m.issued b)
  where
    on : (o : Option Command) → option_map_or (is_stalled n b) o false ≡ option_map_or (is_stalled m b) o false
    on None = refl
    on (Some d) = ap is_some (same-stall m n b d (same b (λ e. ne (sym e))))

pub stalls_are : StalledMore → (m n : Moves) (c : ℕ) (d : Command) (owed : Bool) (stalls : ℕ) → n.issued ≡ m.issued → slice_get m.issued c ≡ Some d → is_stalled m c d ≡ false → ((b : ℕ) → c ≢ b → SameOf m n b)
    → (owed ≡ true → is_list d.kind ≡ false) → stalls ≡ cond owed 0 (stalled_groups m) → stalls_after n c d stalls ≡ cond owed 0 (stalled_groups n)
stalls_are more m n c d true stalls issued at not_ same rest e =
    ap (λ b. cond b (bit_or stalls (2 ^ d.tag)) stalls) (single_not n c d (rest refl)) ∙ e
stalls_are more m n c d false stalls issued at not_ same rest e =
    ap (λ s. cond (is_stalled n c d) (bit_or s (2 ^ d.tag)) s) e ∙ sym (more m n c d issued at not_ (others_stall m n c issued same))
