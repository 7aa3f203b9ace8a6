-- The stalls of a tag are acknowledged one after the other.
use Rattle.std.proofs.Common.{◌≡◌, ◌≢◌, ℕ, zero, suc, ◌+◌, ◌<◌, ◌≤◌, ◌/◌, ◌==◌, not, Bool, true, false, List, [], ◌∷◌, ◌++◌, length, arith, refl, sym, ◌∙◌, ap, subst, append-nil, append_assoc, true≢false, ◌⊎◌, inl, inr}
use Rattle.std.specs.Prelude.{Option, Some, None, slice_get, is_some, nat_le, find, filter, filter_map, cond, nat_lt, if◌then◌else◌, option_and_then}
use Rattle.std.specs.List.{list_any, list_all, range_with_len, cons_option}
use Rattle.std.proofs.lemmas.Bool.Decides.{nat_tests}
use Rattle.std.proofs.lemmas.List.Elements.{filter_map-append}
use Rattle.mfc_command.specs.declared.command.Command.{Command}
use Rattle.mfc_command.specs.Order.{is_list, outstanding as outstanding_of}
use Rattle.mfc_queue.specs.declared.Queue.{Queue}
use Rattle.mfc_queue.specs.Calls.{is_retired, outstanding as outstanding_calls}
use Rattle.cell_machine.specs.declared.progress.Progress.{Progress}
use Rattle.cell_machine.specs.Spe.{Moves, Stall}
use Rattle.cell_machine.specs.Moves.{elements_in, elements_of, is_moved, is_finished, is_stalled, stall_of, stall_of_tag, stalls_of_tag, is_complete, is_at_rest, are_all_there}
use Rattle.cell_machine.specs.Channels.{with_resumed}
use Rattle.cell_machine.specs.MovesShown.{ShowsQueue, ShowsQueueBut, AreElements}
use Rattle.cell_machine.proofs.Same.{eq_off, eq_is, get-past}
use Rattle.cell_machine.proofs.MovesShown.{others-resume}
use Rattle.cell_machine.proofs.Elements.{stall-is, last-number}
use Rattle.cell_machine.proofs.ListsGo.{resumed-other, stall-other}
use Rattle.cell_machine.proofs.SpeShown.{second_of_both, not_of, below, get-either, complete_or, complete-at, complete-moved, list-moved}
use Rattle.cell_machine.proofs.CommandsShown.{others-stay, plain-unstalled}

-- ---- one command

pub resume-none : (q : Queue) (kept : List Progress) (m : Moves) (tag c : ℕ) → ShowsQueue q kept m → stall_of_tag m tag c ≡ None → ShowsQueue q kept (with_resumed m (filter_map (stall_of_tag m tag) (c ∷ [])))
resume-none q kept m tag c shows none =
    let same : m.resumed ≡ m.resumed ++ filter_map (stall_of_tag m tag) (c ∷ []) = sym (ap (λ o. m.resumed ++ cons_option o []) none ∙ append-nil m.resumed) in
    subst (λ xs. ShowsQueue q kept (record m { resumed = xs })) same shows

pub stall-none : (m : Moves) (tag c : ℕ) (d : Command) → slice_get m.issued c ≡ Some d → ((d.tag == tag) ≡ false) ⊎ (is_stalled m c d ≡ false) → stall_of_tag m tag c ≡ None
stall-none m tag c d at (inl off) = rw at (rw off refl)
stall-none m tag c d at (inr off) = rw at (on (d.tag == tag) (stall_of m c d) off)
  where
    on : (b : Bool) (o : Option Stall) → is_some o ≡ false → cond b o None ≡ None
    on true None h = refl
    on true (Some s) h = absurd (true≢false h)
    on false o h = refl

pub stall-some : (m : Moves) (tag c : ℕ) (d : Command) → slice_get m.issued c ≡ Some d → (d.tag == tag) ≡ true → is_stalled m c d ≡ true → (s : Stall) × (stall_of m c d ≡ Some s) × (filter_map (stall_of_tag m tag) (c ∷ []) ≡ s ∷ [])
stall-some m tag c d at same stalled = on (stall_of m c d) refl stalled
  where
    on : (o : Option Stall) → stall_of m c d ≡ o → is_some o ≡ true → (s : Stall) × (stall_of m c d ≡ Some s) × (filter_map (stall_of_tag m tag) (c ∷ []) ≡ s ∷ [])
    on None e h = absurd (true≢false (sym h))
    on (Some s) e h = (s, e, rw at (rw (same, e) refl))

pub resume-one : (q : Queue) (kept : List Progress) (m : Moves) (c : ℕ) (d : Command) (s : Stall) (shows : ShowsQueue q kept m) → slice_get m.issued c ≡ Some d → stall_of m c d ≡ Some s
    → ShowsQueueBut q kept (with_resumed m (s ∷ [])) c
resume-one q kept m c d s shows at stalls =
    let own : s.cmd ≡ c = (stall-is m c d s stalls).cmd in
    record {
      calls = shows.calls;
      stands = shows.stands;
      moves = others-resume shows.calls m c d s shows.moves at stalls;
      kept = others-stay q q kept m (with_resumed m (s ∷ [])) c shows.kept (λ o differs. refl)
          (λ o x differs at_o. (at_o, λ list. resumed-other m (s ∷ []) o x (let off : (s.cmd == o) ≡ false = eq_off s.cmd o (λ e. differs (sym e ∙ own)) in rw off refl)));
    }

-- a stalled list has a size: an element was read of it
pub stalled-size : (m : Moves) (c : ℕ) (d : Command) → AreElements m c d → is_list d.kind ≡ true → is_stalled m c d ≡ true → d.size ≢ 0
stalled-size m c d els list stalled = on (stall_of m c d) refl stalled
  where
    on : (o : Option Stall) → stall_of m c d ≡ o → is_some o ≡ true → d.size ≢ 0
    on None e h = absurd (true≢false (sym h))
    on (Some s) e h =
        let x = stall-is m c d s e in
        let few = els.few in
        let number = last-number m c d x.element els x.is_present in
        let n : elements_in d ≡ d.size / 8 = rw list refl in
        (λ z. absurd (let most : elements_in d ≡ 0 = omega arith in omega arith))

-- ---- all of them

none-of : (f : ℕ → Option Stall) (a n : ℕ) → ((c : ℕ) → a ≤ c → f c ≡ None) → filter_map f (range_with_len a n) ≡ []
none-of f a zero none = refl
none-of f a (suc n) none = rw (none a (omega arith)) (none-of f (a + 1) n (λ c low. none c (omega arith)))

-- the numbers below two bounds give the same where none at or above either does
pub same-below : (f : ℕ → Option Stall) (a n k : ℕ) → ((c : ℕ) → a + n ≤ c → f c ≡ None) → ((c : ℕ) → a + k ≤ c → f c ≡ None) → filter_map f (range_with_len a n) ≡ filter_map f (range_with_len a k)
same-below f a zero k past past2 = sym (none-of f a k (λ c low. past c (omega arith)))
same-below f a (suc n) zero past past2 = none-of f a (suc n) (λ c low. past2 c (omega arith))
same-below f a (suc n) (suc k) past past2 = ap (cons_option (f a)) (same-below f (a + 1) n k (λ c low. past c (omega arith)) (λ c low. past2 c (omega arith)))

range-snoc : (a n : ℕ) → range_with_len a (n + 1) ≡ range_with_len a n ++ (a + n) ∷ []
range-snoc a zero = ap (λ k. k ∷ []) (let e : a ≡ a + 0 = omega arith in e)
range-snoc a (suc n) =
    let s : suc n + 1 ≡ suc (n + 1) = omega arith in
    ap (range_with_len a) s ∙ ap (λ xs. a ∷ xs) (range-snoc (a + 1) n ∙ ap (λ k. range_with_len (a + 1) n ++ k ∷ []) (let e : a + 1 + n ≡ a + suc n = omega arith in e))

-- one more number
pub stalls-more : (f : ℕ → Option Stall) (k c : ℕ) → k ≤ c → ((j : ℕ) → k ≤ j → j < c → f j ≡ None) → filter_map f (range_with_len 0 (c + 1)) ≡ filter_map f (range_with_len 0 k) ++ filter_map f (c ∷ [])
stalls-more f k c low none =
    let zero_on : 0 + c ≡ c = omega arith in
    ap (filter_map f) (range-snoc 0 c ∙ ap (λ j. range_with_len 0 c ++ j ∷ []) zero_on) ∙ filter_map-append f (range_with_len 0 c) (c ∷ [])
    ∙ ap (λ xs. xs ++ filter_map f (c ∷ [])) (cut f 0 k c low (λ j l h. none j (omega arith) (omega arith)))
  where
    cut : (f : ℕ → Option Stall) (a k c : ℕ) → k ≤ c → ((j : ℕ) → a + k ≤ j → j < a + c → f j ≡ None) → filter_map f (range_with_len a c) ≡ filter_map f (range_with_len a k)
    cut f a zero zero l n = refl
    cut f a zero (suc c) l n = rw (n a (omega arith) (omega arith)) (cut f (a + 1) zero c (omega arith) (λ j low high. n j (omega arith) (omega arith)))
    cut f a (suc k) zero l n = absurd (omega arith)
    cut f a (suc k) (suc c) l n = ap (cons_option (f a)) (cut f (a + 1) k c (omega arith) (λ j low high. n j (omega arith) (omega arith)))

-- the stalls of lower numbers are of other commands
pub stalls-lower : (m : Moves) (tag n c : ℕ) → n ≤ c → list_any (λ (s : Stall). s.cmd == c) (filter_map (stall_of_tag m tag) (range_with_len 0 n)) ≡ false
stalls-lower m tag n c low = from 0 n (omega arith)
  where
    one : (b : ℕ) (o : Option Command) (rest : List Stall) → slice_get m.issued b ≡ o → b < c → list_any (λ (s : Stall). s.cmd == c) rest ≡ false
        → list_any (λ (s : Stall). s.cmd == c) (cons_option (option_and_then (λ d. if d.tag == tag then stall_of m b d else None) o) rest) ≡ false
    one b None rest at less h = h
    one b (Some d) rest at less h = on (d.tag == tag) (stall_of m b d) refl
      where
        on : (q : Bool) (o : Option Stall) → stall_of m b d ≡ o → list_any (λ (s : Stall). s.cmd == c) (cons_option (cond q o None) rest) ≡ false
        on true None e = h
        on true (Some s) e = let own : s.cmd ≡ b = (stall-is m b d s e).cmd in let off : (s.cmd == c) ≡ false = grind (arith, nat_tests) in rw off h
        on false o e = h

    from : (a k : ℕ) → a + k ≤ c → list_any (λ (s : Stall). s.cmd == c) (filter_map (stall_of_tag m tag) (range_with_len a k)) ≡ false
    from a zero l = refl
    from a (suc k) l = one a (slice_get m.issued a) (filter_map (stall_of_tag m tag) (range_with_len (a + 1) k)) refl (omega arith) (from (a + 1) k (omega arith))

-- ---- which numbers are skipped

here-or : (t : ℕ → Bool) (a j : ℕ) (b : Bool) → t a ≡ b → b ≡ false → (a ≢ j → t j ≡ false) → t j ≡ false
here-or t a j b e off later = on (a == j) refl
  where
    on : (q : Bool) → (a == j) ≡ q → t j ≡ false
    on true q = subst (λ i. t i ≡ false) (eq_is a j q) (e ∙ off)
    on false q = later (grind (arith, nat_tests))

skip-on : (t : ℕ → Bool) (k a c j : ℕ) (rest : List ℕ) (b : Bool) → t a ≡ b → a ≤ j → k ≤ j → j < c → find (nat_le k) (cond b (a ∷ rest) rest) ≡ Some c → (find (nat_le k) rest ≡ Some c → a ≢ j → t j ≡ false) → t j ≡ false
skip-on t k a c j rest false e la lk less h later = here-or t a j false e refl (later h)
skip-on t k a c j rest true e la lk less h later = by (nat_le k a) refl h
  where
    by : (b : Bool) → nat_le k a ≡ b → cond b (Some a) (find (nat_le k) rest) ≡ Some c → t j ≡ false
    by true l w = absurd (let f : a ≡ c = cc in omega arith)
    by false l w = later w (let low : a < k = grind (arith, nat_tests) in let differs : a ≢ j = omega arith in differs)

pub find-skips : (t : ℕ → Bool) (k a n c j : ℕ) → find (nat_le k) (filter t (range_with_len a n)) ≡ Some c → a ≤ j → k ≤ j → j < c → t j ≡ false
find-skips t k a zero c j h la lk less = absurd (cc)
find-skips t k a (suc n) c j h la lk less =
    skip-on t k a c j (filter t (range_with_len (a + 1) n)) (t a) refl la lk less h (λ g differs. find-skips t k (a + 1) n c j g (omega arith) lk less)

none-on : (t : ℕ → Bool) (k a j : ℕ) (rest : List ℕ) (b : Bool) → t a ≡ b → a ≤ j → k ≤ j → find (nat_le k) (cond b (a ∷ rest) rest) ≡ None → (find (nat_le k) rest ≡ None → a ≢ j → t j ≡ false) → t j ≡ false
none-on t k a j rest false e la lk h later = here-or t a j false e refl (later h)
none-on t k a j rest true e la lk h later = by (nat_le k a) refl h
  where
    by : (b : Bool) → nat_le k a ≡ b → cond b (Some a) (find (nat_le k) rest) ≡ None → t j ≡ false
    by true l w = absurd (cc)
    by false l w = later w (let low : a < k = grind (arith, nat_tests) in let differs : a ≢ j = omega arith in differs)

pub find-none : (t : ℕ → Bool) (k a n j : ℕ) → find (nat_le k) (filter t (range_with_len a n)) ≡ None → a ≤ j → j < a + n → k ≤ j → t j ≡ false
find-none t k a zero j h la high lk = absurd (omega arith)
find-none t k a (suc n) j h la high lk =
    none-on t k a j (filter t (range_with_len (a + 1) n)) (t a) refl la lk h (λ g differs. find-none t k (a + 1) n j g (omega arith) (omega arith) lk)

-- ---- the loop over the outstanding commands

-- one that is complete has no stall
complete-no_stall : (m : Moves) (tag c : ℕ) → ((d : Command) → slice_get m.issued c ≡ Some d → AreElements m c d) → is_complete m c ≡ true → stall_of_tag m tag c ≡ None
complete-no_stall m tag c els complete =
    get-either m.issued c (stall_of_tag m tag c ≡ None) (λ at. rw at refl) (λ d at. stall-none m tag c d at (inr (on d at (is_moved d) refl)))
  where
    kept_rests : (d : Command) → slice_get m.issued c ≡ Some d → is_moved d ≡ false → (b : Bool) → is_list d.kind ≡ b → is_stalled m c d ≡ false
    kept_rests d at kept true list = complete_or (is_stalled m c d) (is_stalled m c d ≡ false)
        (λ stalled. absurd (true≢false (sym (list-moved d list (stalled-size m c d (els d at) list stalled)) ∙ kept))) (λ z. z)
    kept_rests d at kept false plain = plain-unstalled m c d plain

    on : (d : Command) → slice_get m.issued c ≡ Some d → (b : Bool) → is_moved d ≡ b → is_stalled m c d ≡ false
    on d at true moved =
        let rest = second_of_both (are_all_there m.read c d) (is_at_rest m c d) (sym (complete-moved m c d moved) ∙ sym (complete-at m c d at) ∙ complete) in
        not_of (is_stalled m c d) (second_of_both (list_all (is_finished m.done c) (elements_of m.read c d)) (not (is_stalled m c d)) rest)
    on d at false kept = kept_rests d at kept (is_list d.kind) refl

-- the commands with the stalls of the numbers below k acknowledged
abbrev pub acknowledged_below : Moves → ℕ → ℕ → Moves
acknowledged_below m tag k = with_resumed m (filter_map (stall_of_tag m tag) (range_with_len 0 k))

tag-other : (m : Moves) (tag k c : ℕ) → k ≤ c → stall_of_tag (acknowledged_below m tag k) tag c ≡ stall_of_tag m tag c
tag-other m tag k c low = on (slice_get m.issued c)
  where
    on : (o : Option Command) → option_and_then (λ d. if d.tag == tag then stall_of (acknowledged_below m tag k) c d else None) o ≡ option_and_then (λ d. if d.tag == tag then stall_of m c d else None) o
    on None = refl
    on (Some d) = ap (λ s. if d.tag == tag then s else None) (stall-other m (filter_map (stall_of_tag m tag) (range_with_len 0 k)) c d (stalls-lower m tag k c low))

skipped : (m : Moves) (tag k c : ℕ) (q : Queue) (kept : List Progress) → ShowsQueue q kept (acknowledged_below m tag k) → k ≤ c → not (is_complete (acknowledged_below m tag k) c) ≡ false → stall_of_tag m tag c ≡ None
skipped m tag k c q kept shows low off =
    sym (tag-other m tag k c low)
    ∙ complete-no_stall (acknowledged_below m tag k) tag c (λ d at. shows.moves.done.elements c d at) (complete_or (is_complete (acknowledged_below m tag k) c) _ (λ h. h) (λ h. absurd (true≢false (sym (ap not h) ∙ off))))

pub ack-none : (q : Queue) (kept : List Progress) (m : Moves) (tag : ℕ) → ShowsQueue q kept m → ShowsQueue q kept (acknowledged_below m tag 0)
ack-none q kept m tag shows = subst (λ xs. ShowsQueue q kept (record m { resumed = xs })) (sym (append-nil m.resumed)) shows

-- the next outstanding command
pub ack-next : (q q2 : Queue) (kept kept2 : List Progress) (m : Moves) (tag k c : ℕ) (shows : ShowsQueue q kept (acknowledged_below m tag k)) → find (nat_le k) (outstanding_calls shows.calls) ≡ Some c → k ≤ c
    → ShowsQueue q2 kept2 (with_resumed (acknowledged_below m tag k) (filter_map (stall_of_tag (acknowledged_below m tag k) tag) (c ∷ []))) → ShowsQueue q2 kept2 (acknowledged_below m tag (c + 1))
unfolding outstanding_of
ack-next q q2 kept kept2 m tag k c shows found low after =
    let f : find (nat_le k) (outstanding_of (is_complete (acknowledged_below m tag k)) m.issued) ≡ Some c =
    ap (λ g. find (nat_le k) (outstanding_of g m.issued)) (sym shows.moves.complete) ∙ ap (λ cs. find (nat_le k) (outstanding_of (is_retired shows.calls) cs)) (sym shows.moves.done.issued) ∙ found in
    let more = stalls-more (stall_of_tag m tag) k c low (λ j l less. skipped m tag k j q kept shows l (find-skips (λ i. not (is_complete (acknowledged_below m tag k) i)) k 0 (length m.issued) c j f (omega arith) l less)) in
    let own : filter_map (stall_of_tag (acknowledged_below m tag k) tag) (c ∷ []) ≡ filter_map (stall_of_tag m tag) (c ∷ []) = ap (λ o. cons_option o []) (tag-other m tag k c low) in
    let all : (m.resumed ++ filter_map (stall_of_tag m tag) (range_with_len 0 k)) ++ filter_map (stall_of_tag (acknowledged_below m tag k) tag) (c ∷ []) ≡ m.resumed ++ filter_map (stall_of_tag m tag) (range_with_len 0 (c + 1)) =
    ap (λ xs. (m.resumed ++ filter_map (stall_of_tag m tag) (range_with_len 0 k)) ++ xs) own ∙ append_assoc m.resumed (filter_map (stall_of_tag m tag) (range_with_len 0 k)) (filter_map (stall_of_tag m tag) (c ∷ [])) ∙ ap (λ xs. m.resumed ++ xs) (sym more) in
    subst (λ xs. ShowsQueue q2 kept2 (record m { resumed = xs })) all after

-- no outstanding command is left
pub ack-end : (q : Queue) (kept : List Progress) (m : Moves) (tag k : ℕ) (shows : ShowsQueue q kept (acknowledged_below m tag k)) → find (nat_le k) (outstanding_calls shows.calls) ≡ None
    → ShowsQueue q kept (with_resumed m (stalls_of_tag m tag))
unfolding outstanding_of stalls_of_tag
ack-end q kept m tag k shows found =
    let f : find (nat_le k) (outstanding_of (is_complete (acknowledged_below m tag k)) m.issued) ≡ None =
    ap (λ g. find (nat_le k) (outstanding_of g m.issued)) (sym shows.moves.complete) ∙ ap (λ cs. find (nat_le k) (outstanding_of (is_retired shows.calls) cs)) (sym shows.moves.done.issued) ∙ found in
    subst (λ xs. ShowsQueue q kept (with_resumed m xs))
    (same-below (stall_of_tag m tag) 0 k (length m.issued)
    (λ c low. complete_or (nat_lt c (length m.issued)) (stall_of_tag m tag c ≡ None)
    (λ l. skipped m tag k c q kept shows (omega arith) (find-none (λ i. not (is_complete (acknowledged_below m tag k) i)) k 0 (length m.issued) c f (omega arith) (let less = below c (length m.issued) l in omega arith) (omega arith)))
    (λ l. past c (grind (arith, nat_tests))))
    (λ c low. past c (omega arith))) shows
  where
    past : (c : ℕ) → length m.issued ≤ c → stall_of_tag m tag c ≡ None
    past c l = rw (get-past m.issued c l) refl
