-- What a step does to the elements of the lists of a processor, and how many steps of each kind there were.
use Rattle.std.proofs.Common.{◌≡◌, ◌≢◌, ℕ, zero, suc, ◌+◌, ◌<◌, ◌≤◌, ◌==◌, ◌&&◌, ◌||◌, not, Bool, true, false, List, [], ◌∷◌, ◌++◌, length, arith, refl, sym, ◌∙◌, ap, subst, true≢false, length-append, zero-add, add-zero}
use Rattle.std.specs.Prelude.{Option, Some, None, slice_get, cond, is_some, count_by, filter_map, option_and_then}
use Rattle.std.specs.List.{list_any, list_all, range_with_len, last_or, cons_option}
use Rattle.std.proofs.lemmas.Bool.Decides.{nat_tests}
use Rattle.std.proofs.lemmas.List.Sums.{sum_by-append}
use Rattle.cell_base.specs.declared.steps.Step.{Step}
use Rattle.cell_base.specs.declared.steps.Step.TheVariants.{Exec, Piece, Elem, Retire, Atomic, Host}
use Rattle.mfc_command.specs.declared.command.Command.{Command}
use Rattle.mfc_command.specs.Order.{is_list}
use Rattle.mfc_lists.specs.declared.Element.{Element}
use Rattle.cell_machine.specs.Spe.{Spe, Moves, Stall, is_faulted}
use Rattle.cell_machine.specs.Moves.{read_of, whole, elements_of, present, is_done, is_finished, is_resumed, stalls_behind, stall_of, is_stalled, stall_of_tag, stalls_of_tag}
use Rattle.cell_machine.specs.MovesShown.{AreElements, IsUntouched}
use Rattle.cell_machine.specs.Channels.{with_issued, with_resumed}
use Rattle.cell_machine.specs.Transfers.{with_done, with_read, with_retired, has_part, has_element}
use Rattle.cell_machine.proofs.MovesShown.{eq_is, eq_not, eq_same, get-within, get-cases}
use Rattle.cell_machine.proofs.Same.{SameOf, a_stall, get-last, same-elements, same-untouched, same-present, done-more, read-more, done-elsewhere, read-elsewhere, retired-elsewhere, issued-elsewhere, all-at, snoc-of-all, some_same}
use Rattle.cell_machine.proofs.Staying.{any_more, both, get_more}
use Rattle.cell_machine.proofs.Elements.{AreStallsOf, is_stall_of, not_on, any_neither, element-is, elements-issued, elements-read, elements-done, elements-acknowledged, last-number, list-elements, part-is, present-last, stall-is}
use Rattle.mfc_lists.proofs.ReadingLemmas.{last_or-snoc}
use Rattle.cell_machine.specs.Lists.{is_reading, is_part}
use Rattle.cell_machine.proofs.Bounds.{stays, issues, resumes, Moved, executes, copies, reads, refuses, retires, locks, acts, Seen, another, goes, is_at, read-is}

pub same_got : {X : Type 0} (o : Option X) (a b : X) → o ≡ Some a → o ≡ Some b → a ≡ b
same_got o a b e g = some_same a b (sym e ∙ g)

-- ---- what holds of the commands of a processor on a run

-- each element before the present one that is flagged was acknowledged
abbrev pub AreResumed : Moves → ℕ → Command → Type 0
AreResumed m c d =
    (n : ℕ) (x y : Element) → slice_get (elements_of m.read c d) n ≡ Some x → present m.read c d ≡ Some y → n < y.number → x.flagged ≡ true
    → is_resumed m.resumed c x.number ≡ true

pub record AreInOrder (m : Moves) : Type 0 where
  pub elements : (c : ℕ) (d : Command) → slice_get m.issued c ≡ Some d → AreElements m c d
  pub resumed : (c : ℕ) (d : Command) → slice_get m.issued c ≡ Some d → AreResumed m c d
  pub fresh : (c : ℕ) → length m.issued ≤ c → IsUntouched m c

same-resumed : (m n : Moves) (c : ℕ) (d : Command) → SameOf m n c → AreResumed m c d → AreResumed n c d
same-resumed m n c d same was i x y e p b f =
    let elements : elements_of n.read c d ≡ elements_of m.read c d = ap (λ xs. cond (is_list d.kind) xs (whole d ∷ [])) same.read in
    ap (λ g. g x.number) same.resumed ∙ was i x y (ap (λ l. slice_get l i) (sym elements) ∙ e) (sym (same-present m n c d same) ∙ p) b f

-- an addition that is of one command
touched : (m n : Moves) (a : ℕ) (da : Command) → n.issued ≡ m.issued → slice_get m.issued a ≡ Some da → ((c : ℕ) → a ≢ c → SameOf m n c)
    → AreElements n a da → AreResumed n a da → AreInOrder m → AreInOrder n
touched m n a da issued at others els was order = record {
  elements = λ c d e. by c d (subst (λ xs. slice_get xs c ≡ Some d) issued e) (a == c) refl;
  resumed = λ c d e. by_resumed c d (subst (λ xs. slice_get xs c ≡ Some d) issued e) (a == c) refl;
  fresh = λ c e.
      let past : length m.issued ≤ c = subst (λ xs. length xs ≤ c) issued e in
      let within = get-within m.issued a da at in
      same-untouched m n c (others c (differs c past within)) (order.fresh c past);
}
  where
    differs : (c : ℕ) → length m.issued ≤ c → a < length m.issued → a ≢ c
    differs c past within same = omega (arith, past, within, same)

    own : (c : ℕ) (d : Command) → slice_get m.issued c ≡ Some d → a ≡ c → da ≡ d
    own c d e same = some_same da d (sym at ∙ ap (slice_get m.issued) same ∙ e)

    by : (c : ℕ) (d : Command) → slice_get m.issued c ≡ Some d → (b : Bool) → (a == c) ≡ b → AreElements n c d
    by c d e true q = let same = eq_is a c q in subst (λ k. AreElements n k d) same (subst (AreElements n a) (own c d e same) els)
    by c d e false q = same-elements m n c d (others c (eq_not a c q)) (order.elements c d e)

    by_resumed : (c : ℕ) (d : Command) → slice_get m.issued c ≡ Some d → (b : Bool) → (a == c) ≡ b → AreResumed n c d
    by_resumed c d e true q = let same = eq_is a c q in subst (λ k. AreResumed n k d) same (subst (AreResumed n a) (own c d e same) was)
    by_resumed c d e false q = same-resumed m n c d (others c (eq_not a c q)) (order.resumed c d e)

-- ---- where an element may be read, each that is flagged was acknowledged

some-last : (o : Option Element) (xs : List Element) (n : ℕ) (x : Element) → slice_get xs n ≡ Some x → (y : Element) × (last_or o xs ≡ Some y)
some-last o [] n x e = absurd (cc)
some-last o (z ∷ []) n x e = (z, refl)
some-last o (z ∷ w ∷ xs) zero x e = some-last (Some z) (w ∷ xs) zero w refl
some-last o (z ∷ w ∷ xs) (suc n) x e = some-last (Some z) (w ∷ xs) n x e

goes-on : (m : Moves) (c : ℕ) (d : Command) (y : Element) → present m.read c d ≡ Some y → is_stalled m c d ≡ false → stalls_behind m c y ≡ false
unfolding stall_of
goes-on m c d y p h = on (stalls_behind m c y) (sym (ap (λ o. is_some (option_and_then (λ x. cond (stalls_behind m c x) (Some (a_stall c x)) None) o)) p) ∙ h)
  where
    on : (b : Bool) → is_some (cond b (Some (a_stall c y)) None) ≡ false → b ≡ false
    on true k = absurd (true≢false k)
    on false k = refl

behind_it : (flagged ended was : Bool) → (flagged && ended && not was) ≡ false → flagged ≡ true → ended ≡ true → was ≡ true
behind_it true true true h f e = refl
behind_it true true false h f e = absurd (true≢false h)
behind_it true false was h f e = absurd (true≢false (sym e))
behind_it false ended was h f e = absurd (true≢false (sym f))

pub rest-resumed : (m : Moves) (c : ℕ) (d : Command) → AreElements m c d → AreResumed m c d → has_element m c d ≡ true
    → (n : ℕ) (x : Element) → slice_get (read_of m.read c) n ≡ Some x → x.flagged ≡ true → is_resumed m.resumed c x.number ≡ true
rest-resumed m c d els was has n x e f =
    let may = element-is m c d has in
    let list : elements_of m.read c d ≡ read_of m.read c = list-elements m.read c d may.list in
    let at : slice_get (elements_of m.read c d) n ≡ Some x = ap (λ l. slice_get l n) list ∙ e in
    let last = some-last None (elements_of m.read c d) n x at in
    let there : present m.read c d ≡ Some last.0 = present-last m.read c d ∙ last.1 in
    let size = last-number m c d last.0 els there in
    let within = get-within (elements_of m.read c d) n x at in
    let s = snoc-of-all (elements_of m.read c d) last.0 last.1 in
    let long : length (elements_of m.read c d) ≡ length s.0 + 1 = ap length s.1 ∙ grind (arith, length-append) in
    on last.0 there (n == last.0.number) refl (omega (arith, size, within)) at
    (λ same. some_same x last.0 (sym at ∙ ap (λ l. slice_get l n) s.1 ∙ ap (slice_get (s.0 ++ last.0 ∷ [])) (let k : n ≡ length s.0 = omega (arith, same, size, long) in k) ∙ get-last s.0 last.0))
    may.finished may.goes_on
  where
    less : (a b : ℕ) → a ≤ b → (a == b) ≡ false → a < b
    less a b h k = grind (arith, nat_tests)

    on : (y : Element) → present m.read c d ≡ Some y → (b : Bool) → (n == y.number) ≡ b → n ≤ y.number → slice_get (elements_of m.read c d) n ≡ Some x → (n ≡ y.number → x ≡ y)
        → list_all (is_finished m.done c) (read_of m.read c) ≡ true → is_stalled m c d ≡ false → is_resumed m.resumed c x.number ≡ true
    on y p true q low at is all rest =
        let same = is (eq_is n y.number q) in
        behind_it x.flagged (is_finished m.done c x) (is_resumed m.resumed c x.number) (goes-on m c d x (p ∙ ap Some (sym same)) rest) f (all-at (is_finished m.done c) (read_of m.read c) n x all e)
    on y p false q low at is all rest = was n x y at p (less n y.number low q) f

-- ---- the stalls of a tag

found-in : (g : ℕ → Option Stall) (f : Stall → Bool) (js : List ℕ) → list_any f (filter_map g js) ≡ true → (j : ℕ) × (s : Stall) × (g j ≡ Some s) × (f s ≡ true)
found-in g f [] h = absurd (true≢false (sym h))
found-in g f (j ∷ js) h = on (g j) refl h (found-in g f js)
  where
    here : (s : Stall) → g j ≡ Some s → (b : Bool) → f s ≡ b → (b || list_any f (filter_map g js)) ≡ true → (list_any f (filter_map g js) ≡ true → (k : ℕ) × (t : Stall) × (g k ≡ Some t) × (f t ≡ true))
        → (k : ℕ) × (t : Stall) × (g k ≡ Some t) × (f t ≡ true)
    here s e true q k later = (j, s, e, q)
    here s e false q k later = later k

    on : (o : Option Stall) → g j ≡ o → list_any f (cons_option o (filter_map g js)) ≡ true → (list_any f (filter_map g js) ≡ true → (k : ℕ) × (t : Stall) × (g k ≡ Some t) × (f t ≡ true))
        → (k : ℕ) × (t : Stall) × (g k ≡ Some t) × (f t ≡ true)
    on None e k later = later k
    on (Some s) e k later = here s e (f s) refl k later

-- of which command a stall of the tag is
pub record IsOfTag (m : Moves) (tag c e : ℕ) : Type 0 where
  pub command : Command
  pub at : slice_get m.issued c ≡ Some command
  pub tagged : command.tag ≡ tag
  pub stall : Stall
  pub is : stall_of m c command ≡ Some stall
  pub behind : stall.elem ≡ e

pub of-tag : (m : Moves) (tag c e : ℕ) → list_any (is_stall_of c e) (stalls_of_tag m tag) ≡ true → IsOfTag m tag c e
unfolding stalls_of_tag
of-tag m tag c e h =
    let f = found-in (stall_of_tag m tag) (is_stall_of c e) (range_with_len 0 (length m.issued)) h in
    of f.0 f.1 f.2 f.3 (slice_get m.issued f.0) refl
  where
    with_command : (j : ℕ) (s : Stall) (d : Command) → is_stall_of c e s ≡ true → slice_get m.issued j ≡ Some d → (b : Bool) → (d.tag == tag) ≡ b → cond b (stall_of m j d) None ≡ Some s → IsOfTag m tag c e
    with_command j s d k at false q g = absurd (cc)
    with_command j s d k at true q g =
        let w = stall-is m j d s g in
        let two = both (s.cmd == c) (s.elem == e) k in
        let own : j ≡ c = sym w.cmd ∙ eq_is s.cmd c two.0 in
        record {
          command = d;
          at = subst (λ i. slice_get m.issued i ≡ Some d) own at;
          tagged = eq_is d.tag tag q;
          stall = s;
          is = subst (λ i. stall_of m i d ≡ Some s) own g;
          behind = eq_is s.elem e two.1;
        }

    of : (j : ℕ) (s : Stall) → stall_of_tag m tag j ≡ Some s → is_stall_of c e s ≡ true → (o : Option Command) → slice_get m.issued j ≡ o → IsOfTag m tag c e
    of j s g k None at = absurd (no (ap (option_and_then (λ d. cond (d.tag == tag) (stall_of m j d) None)) (sym at) ∙ g))
      where
        no : None ≡ Some s → ⊥
        no q = cc
    of j s g k (Some d) at = with_command j s d k at (d.tag == tag) refl (ap (option_and_then (λ y. cond (y.tag == tag) (stall_of m j y) None)) (sym at) ∙ g)

-- ---- each step keeps the order

pub order-issued : (m : Moves) (new : Command) → AreInOrder m → AreInOrder (with_issued m new)
order-issued m new order = record {
  elements = λ c d at. get-cases m.issued new d c (AreElements (with_issued m new) c d) at
      (λ last same. subst (λ k. AreElements (with_issued m new) k d) (sym last) (subst (AreElements (with_issued m new) (length m.issued)) (sym same) (elements-issued m new (order.fresh (length m.issued) (omega arith)))))
      (λ old. same-elements m (with_issued m new) c d (issued-elsewhere m new c) (order.elements c d old));
  resumed = λ c d at. get-cases m.issued new d c (AreResumed (with_issued m new) c d) at
      (λ last same. none c d (subst (λ k. length (read_of m.read k) ≡ 0) (sym last) (order.fresh (length m.issued) (omega arith)).read) (is_list d.kind) refl)
      (λ old. same-resumed m (with_issued m new) c d (issued-elsewhere m new c) (order.resumed c d old));
  fresh = λ c past. same-untouched m (with_issued m new) c (issued-elsewhere m new c) (order.fresh c (let long = length-append m.issued (new ∷ []) in omega (arith, long, past)));
}
  where
    nothing : (xs : List Element) (n : ℕ) (x : Element) → length xs ≡ 0 → slice_get xs n ≡ Some x → ⊥
    nothing [] n x h e = cc
    nothing (y ∷ ys) n x h e = omega (arith, h)

    -- of a new command nothing was read before the present element
    none : (c : ℕ) (d : Command) → length (read_of m.read c) ≡ 0 → (b : Bool) → is_list d.kind ≡ b → AreResumed (with_issued m new) c d
    none c d empty true list n x y e p b f = absurd (nothing (read_of m.read c) n x empty (ap (λ l. slice_get l n) (sym (list-elements m.read c d list)) ∙ e))
    none c d empty false list n x y e p b f =
        let one : elements_of m.read c d ≡ whole d ∷ [] = rw list refl in
        let there : present m.read c d ≡ Some (whole d) = present-last m.read c d ∙ ap (λ xs. last_or None xs) one in
        let same : whole d ≡ y = some_same (whole d) y (sym there ∙ p) in
        let z : y.number ≡ 0 = ap (λ (w : Element). w.number) (sym same) in
        absurd (omega (arith, z, b))

pub order-resumed : (m : Moves) (tag : ℕ) → AreInOrder m → AreInOrder (with_resumed m (stalls_of_tag m tag))
order-resumed m tag order = record {
  elements = λ c d at. elements-acknowledged m c d (stalls_of_tag m tag) (own c d at) (order.elements c d at);
  resumed = λ c d at n x y e p b f. any_more (is_stall_of c x.number) m.resumed (stalls_of_tag m tag) (order.resumed c d at n x y e p b f);
  fresh = λ c past.
      let was = order.fresh c past in
      record { read = was.read; done = was.done; retired = was.retired; resumed = λ e. any_neither (is_stall_of c e) m.resumed (stalls_of_tag m tag) (was.resumed e) (not_on _ (λ h. within c past (of-tag m tag c e h))) };
}
  where
    own : (c : ℕ) (d : Command) → slice_get m.issued c ≡ Some d → AreStallsOf m c d (stalls_of_tag m tag)
    own c d at e h = let t = of-tag m tag c e h in (t.stall, subst (λ y. stall_of m c y ≡ Some t.stall) (same_got (slice_get m.issued c) t.command d t.at at) t.is, t.behind)

    within : (c : ℕ) {e : ℕ} → length m.issued ≤ c → IsOfTag m tag c e → ⊥
    within c past t = let low = get-within m.issued c t.command t.at in omega (arith, low, past)

pub order-done : (m : Moves) (c e k : ℕ) (d : Command) → slice_get m.issued c ≡ Some d → has_part m c e k d ≡ true → AreInOrder m → AreInOrder (with_done m c e k)
order-done m c e k d at has order = touched m (with_done m c e k) c d refl at (done-elsewhere m c e k) (elements-done m c e k d has (order.elements c d at)) (order.resumed c d at) order

pub order-retired : (m : Moves) (c : ℕ) (d : Command) → slice_get m.issued c ≡ Some d → AreInOrder m → AreInOrder (with_retired m c)
order-retired m c d at order =
    let els = order.elements c d at in
    touched m (with_retired m c) c d refl at (retired-elsewhere m c)
    (record { few = els.few; numbers = els.numbers; earlier = els.earlier; later = els.later; not_resumed = els.not_resumed; resumed = els.resumed }) (order.resumed c d at) order

pub order-read : (m : Moves) (c : ℕ) (d : Command) (x : Element) → slice_get m.issued c ≡ Some d → has_element m c d ≡ true → x.number ≡ length (read_of m.read c) → AreInOrder m → AreInOrder (with_read m c x)
order-read m c d x at has number order =
    let may = element-is m c d has in
    touched m (with_read m c x) c d refl at (read-elsewhere m c x) (elements-read m c d x has number (order.elements c d at)) (own may.list) order
  where
    own : is_list d.kind ≡ true → AreResumed (with_read m c x) c d
    own list n y z e p b f =
        let now : elements_of (with_read m c x).read c d ≡ read_of m.read c ++ x ∷ [] = list-elements (with_read m c x).read c d list ∙ read-more m c x in
        let last : z ≡ x = some_same z x (sym p ∙ present-last (with_read m c x).read c d ∙ ap (λ xs. last_or None xs) now ∙ last_or-snoc None (read_of m.read c) x) in
        get-cases (read_of m.read c) x y n (is_resumed m.resumed c y.number ≡ true) (ap (λ l. slice_get l n) (sym now) ∙ e)
        (λ end same. let k = ap (λ (w : Element). w.number) last in absurd (omega (arith, end, k, number, b)))
        (λ old. rest-resumed m c d (order.elements c d at) (order.resumed c d at) has n y old f)

order-moved : (lines : ℕ) (s : Step) (p : ℕ) (P Q : Spe) → Moved lines s p P Q → AreInOrder P.moves → AreInOrder Q.moves
order-moved lines s p P Q (executes of (stays same)) order = subst AreInOrder (sym same) order
order-moved lines s p P Q (executes of (issues d fit same)) order = subst AreInOrder (sym same) (order-issued P.moves d order)
order-moved lines s p P Q (executes of (resumes tag asked same)) order = subst AreInOrder (sym same) (order-resumed P.moves tag order)
order-moved lines s p P Q (copies c e k d of at has same) order = subst AreInOrder (sym same) (order-done P.moves c e k d at has order)
order-moved lines s p P Q (reads c d x of at has got same) order = subst AreInOrder (sym same) (order-read P.moves c d x at has (read-is lines P c d x got).1 order)
order-moved lines s p P Q (refuses c of fault same) order = subst AreInOrder (sym same) order
order-moved lines s p P Q (retires c d of at left same) order = subst AreInOrder (sym same) (order-retired P.moves c d at order)
order-moved lines s p P Q (locks of same) order = subst AreInOrder (sym same) order
order-moved lines s p P Q (acts of same) order = subst AreInOrder (sym same) order

-- ---- how many steps there were

abbrev pub one_if : Bool → ℕ
one_if b = cond b 1 0

pub count-both : (f : Step → Bool) (xs ys : List Step) → count_by f (xs ++ ys) ≡ count_by f xs + count_by f ys
count-both f xs ys = sum_by-append (λ x. one_if (f x)) xs ys

count-snoc : (f : Step → Bool) (xs : List Step) (x : Step) → count_by f (xs ++ x ∷ []) ≡ count_by f xs + one_if (f x)
count-snoc f xs x = count-both f xs (x ∷ []) ∙ ap (λ n. count_by f xs + n) (zero-add (one_if (f x)))

-- a reading adds an element
reads-more : (lines : ℕ) (s : Step) (p : ℕ) (P Q : Spe) → Moved lines s p P Q → is_faulted Q.status ≡ false → (c : ℕ)
    → length (read_of Q.moves.read c) ≡ length (read_of P.moves.read c) + one_if (is_reading p c s)
reads-more lines s p P Q moved whole c = on moved
  where
    as_it_was : Q.moves.read ≡ P.moves.read → is_reading p c s ≡ false → length (read_of Q.moves.read c) ≡ length (read_of P.moves.read c) + one_if (is_reading p c s)
    as_it_was same other = ap (λ r. length (read_of r c)) same ∙ sym (ap (λ b. length (read_of P.moves.read c) + one_if b) other ∙ add-zero (length (read_of P.moves.read c)))

    one_more : (a : ℕ) (x : Element) → s ≡ Elem p a → Q.moves ≡ with_read P.moves a x → (b : Bool) → (a == c) ≡ b → length (read_of Q.moves.read c) ≡ length (read_of P.moves.read c) + one_if (is_reading p c s)
    one_more a x of same true q =
        let own = eq_is a c q in
        ap (λ (n : Moves). length (read_of n.read c)) same
        ∙ ap (λ k. length (read_of (with_read P.moves k x).read c)) own ∙ ap length (read-more P.moves c x) ∙ length-append (read_of P.moves.read c) (x ∷ [])
        ∙ sym (ap (λ t. length (read_of P.moves.read c) + one_if (is_reading p c t)) of ∙ ap (λ b. length (read_of P.moves.read c) + one_if (b && a == c)) (eq_same p) ∙ ap (λ b. length (read_of P.moves.read c) + one_if b) q)
    one_more a x of same false q =
        ap (λ (n : Moves). length (read_of n.read c)) same
        ∙ ap length (read-elsewhere P.moves a x c (eq_not a c q)).read
        ∙ sym (ap (λ t. length (read_of P.moves.read c) + one_if (is_reading p c t)) of ∙ ap (λ b. length (read_of P.moves.read c) + one_if (b && a == c)) (eq_same p) ∙ ap (λ b. length (read_of P.moves.read c) + one_if b) q ∙ add-zero (length (read_of P.moves.read c)))

    on : Moved lines s p P Q → length (read_of Q.moves.read c) ≡ length (read_of P.moves.read c) + one_if (is_reading p c s)
    on (executes of (stays same)) = as_it_was (ap (λ (n : Moves). n.read) same) (ap (is_reading p c) of)
    on (executes of (issues d fit same)) = as_it_was (ap (λ (n : Moves). n.read) same) (ap (is_reading p c) of)
    on (executes of (resumes tag asked same)) = as_it_was (ap (λ (n : Moves). n.read) same) (ap (is_reading p c) of)
    on (copies a e k d of at has same) = as_it_was (ap (λ (n : Moves). n.read) same) (ap (is_reading p c) of)
    on (reads a d x of at has got same) = one_more a x of same (a == c) refl
    on (refuses a of fault same) = absurd (true≢false (sym fault ∙ whole))
    on (retires a d of at left same) = as_it_was (ap (λ (n : Moves). n.read) same) (ap (is_reading p c) of)
    on (locks of same) = as_it_was (ap (λ (n : Moves). n.read) same) (ap (is_reading p c) of)
    on (acts of same) = as_it_was (ap (λ (n : Moves). n.read) same) (ap (is_reading p c) of)

-- a piece is of a part that wasn't done
parts-more : (lines : ℕ) (s : Step) (p : ℕ) (P Q : Spe) → Moved lines s p P Q → (c n k : ℕ)
    → one_if (is_done Q.moves.done c n k) ≡ one_if (is_done P.moves.done c n k) + one_if (is_part p c n k s)
parts-more lines s p P Q moved c n k = on moved
  where
    as_it_was : Q.moves.done ≡ P.moves.done → is_part p c n k s ≡ false → one_if (is_done Q.moves.done c n k) ≡ one_if (is_done P.moves.done c n k) + one_if (is_part p c n k s)
    as_it_was same other = ap (λ r. one_if (is_done r c n k)) same ∙ sym (ap (λ b. one_if (is_done P.moves.done c n k) + one_if b) other ∙ add-zero (one_if (is_done P.moves.done c n k)))

    added : (was now : Bool) → (now ≡ true → was ≡ false) → one_if (was || now) ≡ one_if was + one_if now
    added true true h = absurd (true≢false (h refl))
    added true false h = refl
    added false true h = refl
    added false false h = refl

    one_more : (a e j : ℕ) (d : Command) → s ≡ Piece p a e j → has_part P.moves a e j d ≡ true → Q.moves ≡ with_done P.moves a e j → one_if (is_done Q.moves.done c n k) ≡ one_if (is_done P.moves.done c n k) + one_if (is_part p c n k s)
    one_more a e j d of has same =
        let left = (part-is P.moves a e j d has).left in
        ap (λ (m : Moves). one_if (is_done m.done c n k)) same ∙ ap one_if (done-more P.moves a e j c n k)
        ∙ added (is_done P.moves.done c n k) (a == c && e == n && j == k) (λ h. now_left left h)
        ∙ sym (ap (λ t. one_if (is_done P.moves.done c n k) + one_if (is_part p c n k t)) of ∙ ap (λ b. one_if (is_done P.moves.done c n k) + one_if (b && a == c && e == n && j == k)) (eq_same p))
      where
        now_left : is_done P.moves.done a e j ≡ false → (a == c && e == n && j == k) ≡ true → is_done P.moves.done c n k ≡ false
        now_left left h =
            let two = both (a == c && e == n) (j == k) h in
            let one = both (a == c) (e == n) two.0 in
            subst (λ i. is_done P.moves.done i n k ≡ false) (eq_is a c one.0) (subst (λ i. is_done P.moves.done a i k ≡ false) (eq_is e n one.1) (subst (λ i. is_done P.moves.done a e i ≡ false) (eq_is j k two.1) left))

    on : Moved lines s p P Q → one_if (is_done Q.moves.done c n k) ≡ one_if (is_done P.moves.done c n k) + one_if (is_part p c n k s)
    on (executes of (stays same)) = as_it_was (ap (λ (m : Moves). m.done) same) (ap (is_part p c n k) of)
    on (executes of (issues d fit same)) = as_it_was (ap (λ (m : Moves). m.done) same) (ap (is_part p c n k) of)
    on (executes of (resumes tag asked same)) = as_it_was (ap (λ (m : Moves). m.done) same) (ap (is_part p c n k) of)
    on (copies a e j d of at has same) = one_more a e j d of has same
    on (reads a d x of at has got same) = as_it_was (ap (λ (m : Moves). m.done) same) (ap (is_part p c n k) of)
    on (refuses a of fault same) = as_it_was (ap (λ (m : Moves). m.done) same) (ap (is_part p c n k) of)
    on (retires a d of at left same) = as_it_was (ap (λ (m : Moves). m.done) same) (ap (is_part p c n k) of)
    on (locks of same) = as_it_was (ap (λ (m : Moves). m.done) same) (ap (is_part p c n k) of)
    on (acts of same) = as_it_was (ap (λ (m : Moves). m.done) same) (ap (is_part p c n k) of)

-- another's step is none of these
away-reading : (p c : ℕ) (s : Step) → is_at p s ≡ false → is_reading p c s ≡ false
away-reading p c (Exec q) h = refl
away-reading p c (Piece q d e k) h = refl
away-reading p c (Elem q d) h = ap (λ b. b && d == c) h
away-reading p c (Retire q d) h = refl
away-reading p c (Atomic q) h = refl
away-reading p c Host h = refl

away-part : (p c n k : ℕ) (s : Step) → is_at p s ≡ false → is_part p c n k s ≡ false
away-part p c n k (Exec q) h = refl
away-part p c n k (Piece q d e j) h = ap (λ b. b && d == c && e == n && j == k) h
away-part p c n k (Elem q d) h = refl
away-part p c n k (Retire q d) h = refl
away-part p c n k (Atomic q) h = refl
away-part p c n k Host h = refl

-- ---- what holds after the steps of a run

-- processor p after these steps: an element was read for each reading, unless one was at fault, and a part is done where there was a piece
pub record Follows (p : ℕ) (steps : List Step) (P : Spe) : Type 0 where
  pub order : AreInOrder P.moves
  pub read : is_faulted P.status ≡ false → (c : ℕ) → count_by (is_reading p c) steps ≡ length (read_of P.moves.read c)
  pub done : (c n k : ℕ) → count_by (is_part p c n k) steps ≡ one_if (is_done P.moves.done c n k)

pub not_yet : (a b : Bool) → (a ≡ true → b ≡ true) → b ≡ false → a ≡ false
not_yet true b h k = absurd (true≢false (sym (h refl) ∙ k))
not_yet false b h k = refl

pub follows-next : (lines p : ℕ) (steps : List Step) (s : Step) (P Q : Spe) → Follows p steps P → Seen lines s p P Q → Follows p (steps ++ s ∷ []) Q
follows-next lines p steps s P Q was (another other same status reserved) = record {
  order = subst AreInOrder (sym same) was.order;
  read = λ h c. count-snoc (is_reading p c) steps s ∙ ap (λ b. count_by (is_reading p c) steps + one_if b) (away-reading p c s other) ∙ add-zero (count_by (is_reading p c) steps)
      ∙ was.read (ap is_faulted (sym status) ∙ h) c ∙ ap (λ (m : Moves). length (read_of m.read c)) (sym same);
  done = λ c n k. count-snoc (is_part p c n k) steps s ∙ ap (λ b. count_by (is_part p c n k) steps + one_if b) (away-part p c n k s other) ∙ add-zero (count_by (is_part p c n k) steps)
      ∙ was.done c n k ∙ ap (λ (m : Moves). one_if (is_done m.done c n k)) (sym same);
}
follows-next lines p steps s P Q was (goes g) = record {
  order = order-moved lines s p P Q g.moved was.order;
  read = λ h c. count-snoc (is_reading p c) steps s ∙ ap (λ n. n + one_if (is_reading p c s)) (was.read (not_yet (is_faulted P.status) (is_faulted Q.status) g.faulted h) c)
      ∙ sym (reads-more lines s p P Q g.moved h c);
  done = λ c n k. count-snoc (is_part p c n k) steps s ∙ ap (λ i. i + one_if (is_part p c n k s)) (was.done c n k) ∙ sym (parts-more lines s p P Q g.moved c n k);
}

-- what was issued and read is so at every later place, and a fault stays
pub record Later (P Q : Spe) : Type 0 where
  pub issued : (c : ℕ) (d : Command) → slice_get P.moves.issued c ≡ Some d → slice_get Q.moves.issued c ≡ Some d
  pub read : (c i : ℕ) (x : Element) → slice_get (read_of P.moves.read c) i ≡ Some x → slice_get (read_of Q.moves.read c) i ≡ Some x
  pub faulted : is_faulted P.status ≡ true → is_faulted Q.status ≡ true

pub later-same : (P : Spe) → Later P P
later-same P = record { issued = λ c d e. e; read = λ c i x e. e; faulted = λ e. e }

pub later-then : (P Q R : Spe) → Later P Q → Later Q R → Later P R
later-then P Q R first second = record {
  issued = λ c d e. second.issued c d (first.issued c d e);
  read = λ c i x e. second.read c i x (first.read c i x e);
  faulted = λ e. second.faulted (first.faulted e);
}

abbrev HasMore : Moves → Moves → Type 0
HasMore m n = ((c : ℕ) (d : Command) → slice_get m.issued c ≡ Some d → slice_get n.issued c ≡ Some d) × ((c i : ℕ) (x : Element) → slice_get (read_of m.read c) i ≡ Some x → slice_get (read_of n.read c) i ≡ Some x)

one-read : (m : Moves) (a : ℕ) (y : Element) → HasMore m (with_read m a y)
one-read m a y = (λ c d e. e, λ c i x e. on c i x e (a == c) refl)
  where
    on : (c i : ℕ) (x : Element) → slice_get (read_of m.read c) i ≡ Some x → (b : Bool) → (a == c) ≡ b → slice_get (read_of (with_read m a y).read c) i ≡ Some x
    on c i x e true q =
        let own = eq_is a c q in
        ap (λ k. slice_get (read_of (with_read m k y).read c) i) own ∙ ap (λ xs. slice_get xs i) (read-more m c y) ∙ get_more (read_of m.read c) (y ∷ []) i x e
    on c i x e false q = ap (λ xs. slice_get xs i) (read-elsewhere m a y c (eq_not a c q)).read ∙ e

moved-more : (lines : ℕ) (s : Step) (p : ℕ) (P Q : Spe) → Moved lines s p P Q → HasMore P.moves Q.moves
moved-more lines s p P Q (executes of (stays same)) = subst (HasMore P.moves) (sym same) (λ c d e. e, λ c i x e. e)
moved-more lines s p P Q (executes of (issues d fit same)) = subst (HasMore P.moves) (sym same) (λ c y e. get_more P.moves.issued (d ∷ []) c y e, λ c i x e. e)
moved-more lines s p P Q (executes of (resumes tag asked same)) = subst (HasMore P.moves) (sym same) (λ c d e. e, λ c i x e. e)
moved-more lines s p P Q (copies c f k d of at has same) = subst (HasMore P.moves) (sym same) (λ a y e. e, λ a i x e. e)
moved-more lines s p P Q (reads c d x of at has got same) = subst (HasMore P.moves) (sym same) (one-read P.moves c x)
moved-more lines s p P Q (refuses c of fault same) = subst (HasMore P.moves) (sym same) (λ a d e. e, λ a i x e. e)
moved-more lines s p P Q (retires c d of at left same) = subst (HasMore P.moves) (sym same) (λ a y e. e, λ a i x e. e)
moved-more lines s p P Q (locks of same) = subst (HasMore P.moves) (sym same) (λ c d e. e, λ c i x e. e)
moved-more lines s p P Q (acts of same) = subst (HasMore P.moves) (sym same) (λ c d e. e, λ c i x e. e)

pub seen-later : (lines : ℕ) (s : Step) (p : ℕ) (P Q : Spe) → Seen lines s p P Q → Later P Q
seen-later lines s p P Q (another other same status reserved) =
    let more = subst (HasMore P.moves) (sym same) (λ c d e. e, λ c i x e. e) in
    record { issued = more.0; read = more.1; faulted = λ e. ap is_faulted status ∙ e }
seen-later lines s p P Q (goes g) = let more = moved-more lines s p P Q g.moved in record { issued = more.0; read = more.1; faulted = g.faulted }
