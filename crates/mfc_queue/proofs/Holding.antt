-- What a queue holds after one more call.
use Rattle.std.proofs.Common.{◌≡◌, ◌≢◌, ℕ, zero, suc, ◌+◌, ◌*◌, ◌%◌, ◌<◌, ◌≤◌, ◌==◌, ◌||◌, ◌&&◌, not, Bool, true, false, List, [], ◌∷◌, ◌++◌, length, map, slice_index_or, slice_set, arith, refl, sym, ◌∙◌, ap, subst, length-append, append-nil, true≢false}
use Rattle.std.specs.Prelude.{bit_or, ◌^◌, find, Option, Some, None, is_some, nat_lt, fold, filter, cond, All, slice_get, IfSome, IfNone}
use Rattle.std.specs.List.{list_any, list_all, range_with_len}
use Rattle.std.specs.Option.{option_map}
use Rattle.std.proofs.lemmas.Bool.Decides.{nat_tests}
use mathlib.Core.Path.{fun_ext}
use Rattle.std.proofs.Math.Pow.{pow-lt}
use Rattle.mfc_command.specs.declared.command.Command.{Command}
use Rattle.mfc_command.specs.Order.{goes_before, outstanding as outstanding_of}
use Rattle.mfc_queue.specs.declared.Held.{Held}
use Rattle.mfc_queue.specs.declared.Queue.{Queue}
use Rattle.mfc_queue.specs.Sets.{has_part, set_of}
use Rattle.mfc_queue.specs.Calls.{Call, Issue, SetParts, Mark, Retire, issued, is_retired, is_outstanding, outstanding, parts, is_marked, left, all_marked, may_begin, is_of_tag}
use Rattle.mfc_queue.specs.Stands.{StandsFor, place_in, Holds, IsUnknown, IsOneOf, HasPart, Entry, entry, KnowsBefore}
use Rattle.std.proofs.lemmas.List.{get_or-set_same, get_or-set_other, length-set}
use Rattle.std.proofs.lemmas.List.Elements.{All-append, All-filter, filter-append}
use Rattle.std.proofs.Math.Seq.{map-set_same}
use Rattle.std.proofs.Math.ListN.{get_or-map, length-map}
use Rattle.mfc_command.specs.Order.{with_group, may_start, busy_groups, precedes}
use Rattle.mfc_queue.proofs.AtLemmas.{pass-agree}
use Rattle.mfc_queue.proofs.PlaceLemmas.{own-other}
use Rattle.mfc_queue.proofs.CallLaws.{issued-more, retired-more, parts-more, marked-more}

-- a number of a range that passes the test is among those that do
in_on : (t : ℕ → Bool) (a cmd : ℕ) (rest : List ℕ) (b : Bool) → t cmd ≡ true → (a == cmd) ≡ b → (a ≢ cmd → list_any (λ k. k == cmd) rest ≡ true) → list_any (λ k. k == cmd) (cond (t a) (a ∷ rest) rest) ≡ true
in_on t a cmd rest true p e r = let same : cmd ≡ a = grind (arith, nat_tests) in let ta : t a ≡ true = subst (λ k. t k ≡ true) same p in rw (ta, e) refl
in_on t a cmd rest false p e r = past (t a) e (r (grind (arith, nat_tests)))
  where
    past : (b : Bool) → (a == cmd) ≡ false → list_any (λ k. k == cmd) rest ≡ true → list_any (λ k. k == cmd) (cond b (a ∷ rest) rest) ≡ true
    past true e r = rw e r
    past false e r = r

pub any-in : (t : ℕ → Bool) (a n cmd : ℕ) → t cmd ≡ true → a ≤ cmd → cmd < a + n → list_any (λ k. k == cmd) (filter t (range_with_len a n)) ≡ true
any-in t a zero cmd p low high = absurd (omega arith)
any-in t a (suc n) cmd p low high = in_on t a cmd (filter t (range_with_len (a + 1) n)) (a == cmd) p refl (λ differs. any-in t (a + 1) n cmd p (omega arith) (omega arith))

-- and no other is
out_at : (t : ℕ → Bool) (a cmd : ℕ) (x b : Bool) → (t cmd ≡ true → a ≡ cmd → ⊥) → t a ≡ true → (a == cmd) ≡ b → (b || x) ≡ x
out_at t a cmd x true not_in p e = let same : a ≡ cmd = grind (arith, nat_tests) in absurd (not_in (subst (λ k. t k ≡ true) same p) same)
out_at t a cmd x false not_in p e = refl

out_on : (t : ℕ → Bool) (a cmd : ℕ) (rest : List ℕ) (b : Bool) → t a ≡ b → (t cmd ≡ true → a ≡ cmd → ⊥) → list_any (λ k. k == cmd) rest ≡ false → list_any (λ k. k == cmd) (cond b (a ∷ rest) rest) ≡ false
out_on t a cmd rest true p not_in r = out_at t a cmd (list_any (λ k. k == cmd) rest) (a == cmd) not_in p refl ∙ r
out_on t a cmd rest false p not_in r = r

pub any-out : (t : ℕ → Bool) (a n cmd : ℕ) → (a ≤ cmd → cmd < a + n → t cmd ≡ true → ⊥) → list_any (λ k. k == cmd) (filter t (range_with_len a n)) ≡ false
any-out t a zero cmd not_in = refl
any-out t a (suc n) cmd not_in =
    out_on t a cmd (filter t (range_with_len (a + 1) n)) (t a) refl (λ p e. not_in (omega arith) (omega arith) p)
    (any-out t (a + 1) n cmd (λ low high p. not_in (omega arith) (omega arith) p))

first_of_both : (a b : Bool) → (a && b) ≡ true → a ≡ true
first_of_both true b h = refl
first_of_both false b h = h

second_of_both : (a b : Bool) → (a && b) ≡ true → b ≡ true
second_of_both true b h = h
second_of_both false b h = absurd (true≢false (sym h))

pub below-issued : (calls : List Call) (cmd : ℕ) → is_outstanding calls cmd ≡ true → cmd < length (issued calls)
below-issued calls cmd h = let t : nat_lt cmd (length (issued calls)) ≡ true = first_of_both _ _ h in grind (arith, nat_tests)

-- an outstanding command is held
pub held-some : (q : Queue) (calls : List Call) (cmd : ℕ) → StandsFor q calls → is_outstanding calls cmd ≡ true → list_any (λ n. n == cmd) (map (λ h. h.cmd) q.held.items) ≡ true
unfolding outstanding_of
held-some q calls cmd stands is =
    ap (list_any (λ n. n == cmd)) (sym stands.numbers)
    ∙ any-in (λ c. not (is_retired calls c)) 0 (length (issued calls)) cmd (second_of_both _ _ is) (omega arith) (let l = below-issued calls cmd is in omega arith)

pub held-none : (q : Queue) (cmd : ℕ) → IsOneOf q cmd → list_any (λ n. n == cmd) (map (λ h. h.cmd) q.held.items) ≡ false → ⊥
held-none q cmd is none = true≢false (sym (held-some q is.calls cmd is.stands is.outstanding) ∙ none)

-- and any that is held is outstanding
pub held-not : (q : Queue) (calls : List Call) (cmd : ℕ) → StandsFor q calls → is_outstanding calls cmd ≡ false → list_any (λ n. n == cmd) (map (λ h. h.cmd) q.held.items) ≡ false
unfolding outstanding_of
held-not q calls cmd stands is =
    ap (list_any (λ n. n == cmd)) (sym stands.numbers)
    ∙ any-out (λ c. not (is_retired calls c)) 0 (length (issued calls)) cmd
    (λ low high p. let l : nat_lt cmd (length (issued calls)) ≡ true = grind (arith, nat_tests) in true≢false (sym (rw (l, p) refl) ∙ is))

-- a command that isn't outstanding has no place
pub no-place : (q : Queue) (calls : List Call) (cmd : ℕ) → StandsFor q calls → is_outstanding calls cmd ≡ false → place_in q cmd ≡ None
no-place q calls cmd stands closed = ap (option_map (λ (h : Held). h.place)) (none-found q.held.items (held-not q calls cmd stands closed))
  where
    none-found : (xs : List Held) → list_any (λ n. n == cmd) (map (λ (h : Held). h.cmd) xs) ≡ false → find (λ (h : Held). h.cmd == cmd) xs ≡ None
    none-found [] h = refl
    none-found (x ∷ xs) h = on (x.cmd == cmd) h (none-found xs)
      where
        on : (b : Bool) → (b || list_any (λ n. n == cmd) (map (λ (h : Held). h.cmd) xs)) ≡ false → (list_any (λ n. n == cmd) (map (λ (h : Held). h.cmd) xs) ≡ false → find (λ (h : Held). h.cmd == cmd) xs ≡ None)
            → cond b (Some x) (find (λ (h : Held). h.cmd == cmd) xs) ≡ None
        on true g k = absurd (true≢false g)
        on false g k = k g

-- no two commands have one place
pub places-own : (q : Queue) (cmd other place : ℕ) → place_in q cmd ≡ Some place → place_in q other ≡ Some place → other ≡ cmd
places-own q cmd other place at also = on (find (λ (h : Held). h.cmd == cmd) q.held.items) refl at
  where
    on : (o : Option Held) → find (λ (h : Held). h.cmd == cmd) q.held.items ≡ o → option_map (λ (h : Held). h.place) o ≡ Some place → other ≡ cmd
    on None e h = cc
    on (Some g) e h = own-other q.held.items q.vacant.items cmd other g q.places e (also ∙ sym h)

pub any-at : (held : List Held) (i cmd : ℕ) → i < length held → ((d : Held) → (slice_index_or held i d).cmd ≡ cmd) → list_any (λ n. n == cmd) (map (λ h. h.cmd) held) ≡ true
any-at [] i cmd within at = absurd (omega arith)
any-at (h ∷ held) zero cmd within at = let e : h.cmd ≡ cmd = at h in let t : (h.cmd == cmd) ≡ true = grind (arith, nat_tests) in rw t refl
any-at (h ∷ held) (suc i) cmd within at = or_true (h.cmd == cmd) _ (any-at held i cmd (omega arith) at)
  where
    or_true : (a b : Bool) → b ≡ true → (a || b) ≡ true
    or_true true b h = refl
    or_true false b h = h

pub held-is : (q : Queue) (calls : List Call) (cmd : ℕ) (o : Option ℕ) → StandsFor q calls
    → IfSome o (λ i. (i < length q.held.items) × ((d : Held) → (slice_index_or q.held.items i d).cmd ≡ cmd))
    → IfNone o (list_any (λ n. n == cmd) (map (λ h. h.cmd) q.held.items) ≡ false)
    → is_some o ≡ is_outstanding calls cmd
held-is q calls cmd (Some i) stands found none = on (is_outstanding calls cmd) refl
  where
    on : (b : Bool) → is_outstanding calls cmd ≡ b → true ≡ b
    on true e = refl
    on false e = sym (any-at q.held.items i cmd found.0 found.1) ∙ held-not q calls cmd stands e
held-is q calls cmd None stands found none = on (is_outstanding calls cmd) refl
  where
    on : (b : Bool) → is_outstanding calls cmd ≡ b → false ≡ b
    on true e = sym none ∙ held-some q calls cmd stands e
    on false e = refl

-- what is held at a place is outstanding
pub held-open : (q : Queue) (calls : List Call) (i : ℕ) (h : Held) → StandsFor q calls → i < length q.held.items → h ≡ slice_index_or q.held.items i h → is_outstanding calls h.cmd ≡ true
held-open q calls i h stands within at = on (is_outstanding calls h.cmd) refl
  where
    any-held : (held : List Held) (i : ℕ) (h : Held) → i < length held → h ≡ slice_index_or held i h → list_any (λ n. n == h.cmd) (map (λ x. x.cmd) held) ≡ true
    any-held [] i h within at = absurd (omega arith)
    any-held (g ∷ held) zero h within at = let e : g.cmd ≡ h.cmd = ap (λ (x : Held). x.cmd) (sym at) in let t : (g.cmd == h.cmd) ≡ true = grind (arith, nat_tests) in rw t refl
    any-held (g ∷ held) (suc i) h within at = or_on (g.cmd == h.cmd) _ (any-held held i h (omega arith) at)
      where
        or_on : (a b : Bool) → b ≡ true → (a || b) ≡ true
        or_on true b h = refl
        or_on false b h = h

    on : (b : Bool) → is_outstanding calls h.cmd ≡ b → is_outstanding calls h.cmd ≡ true
    on true e = e
    on false e = absurd (true≢false (sym (any-held q.held.items i h within at) ∙ held-not q calls h.cmd stands e))

pub one_of : (q : Queue) (cmd part : ℕ) → HasPart q cmd part → IsOneOf q cmd
one_of q cmd part has = record { calls = has.calls; stands = has.stands; outstanding = has.outstanding }

-- what is held at place i
pub held-at : (q : Queue) (calls : List Call) (i : ℕ) (h : Held) → StandsFor q calls → i < length q.held.items → h ≡ slice_index_or q.held.items i h → Holds calls h
held-at q calls i h stands within at = subst (Holds calls) (sym at) (stands.each i h within)

pub command-at : (q : Queue) (calls : List Call) (i cmd : ℕ) (h : Held) → StandsFor q calls → i < length q.held.items → h ≡ slice_index_or q.held.items i h
    → ((d : Held) → (slice_index_or q.held.items i d).cmd ≡ cmd) → slice_get (issued calls) cmd ≡ Some h.command
command-at q calls i cmd h stands within at same =
    let e : h.cmd ≡ cmd = ap (λ (x : Held). x.cmd) at ∙ same h in
    subst (λ k. slice_get (issued calls) k ≡ Some h.command) e (held-at q calls i h stands within at).command

-- the numbers of a range that pass a test rise
least : (t : ℕ → Bool) (a n i : ℕ) → i < length (filter t (range_with_len a n)) → a ≤ slice_index_or (filter t (range_with_len a n)) i 0
least t a zero i h = absurd (omega arith)
least t a (suc n) i h = on (t a) i h (λ k l. let r = least t (a + 1) n k l in omega arith)
  where
    on : (b : Bool) (i : ℕ) → i < length (cond b (a ∷ filter t (range_with_len (a + 1) n)) (filter t (range_with_len (a + 1) n)))
        → ((k : ℕ) → k < length (filter t (range_with_len (a + 1) n)) → a ≤ slice_index_or (filter t (range_with_len (a + 1) n)) k 0)
        → a ≤ slice_index_or (cond b (a ∷ filter t (range_with_len (a + 1) n)) (filter t (range_with_len (a + 1) n))) i 0
    on true zero h r = omega arith
    on true (suc i) h r = r i (omega arith)
    on false i h r = r i h

rises : (t : ℕ → Bool) (a n i j : ℕ) → i < j → j < length (filter t (range_with_len a n)) → slice_index_or (filter t (range_with_len a n)) i 0 < slice_index_or (filter t (range_with_len a n)) j 0
rises t a zero i j l h = absurd (omega arith)
rises t a (suc n) i j l h = on (t a) i j l h (λ k m. let r = least t (a + 1) n k m in omega arith) (λ k m. rises t (a + 1) n k m)
  where
    on : (b : Bool) (i j : ℕ) → i < j → j < length (cond b (a ∷ filter t (range_with_len (a + 1) n)) (filter t (range_with_len (a + 1) n)))
        → ((k : ℕ) → k < length (filter t (range_with_len (a + 1) n)) → a < slice_index_or (filter t (range_with_len (a + 1) n)) k 0)
        → ((k m : ℕ) → k < m → m < length (filter t (range_with_len (a + 1) n)) → slice_index_or (filter t (range_with_len (a + 1) n)) k 0 < slice_index_or (filter t (range_with_len (a + 1) n)) m 0)
        → slice_index_or (cond b (a ∷ filter t (range_with_len (a + 1) n)) (filter t (range_with_len (a + 1) n))) i 0 < slice_index_or (cond b (a ∷ filter t (range_with_len (a + 1) n)) (filter t (range_with_len (a + 1) n))) j 0
    on true i zero l h low r = absurd (omega arith)
    on true zero (suc j) l h low r = low j (omega arith)
    on true (suc i) (suc j) l h low r = r i j (omega arith) (omega arith)
    on false i j l h low r = r i j l h

number-at : (q : Queue) (calls : List Call) (i : ℕ) (d : Held) → StandsFor q calls → i < length q.held.items → (slice_index_or q.held.items i d).cmd ≡ slice_index_or (outstanding calls) i 0
number-at q calls i d stands within =
    let within2 : i < length (map (λ (h : Held). h.cmd) q.held.items) = rw length-map within in
    sym (ap (λ xs. slice_index_or xs i 0) stands.numbers ∙ index_any (map (λ (h : Held). h.cmd) q.held.items) i 0 (d.cmd) within2 ∙ get_or-map (λ (h : Held). h.cmd) q.held.items i d)
  where
    index_any : {X : Type 0} (xs : List X) (i : ℕ) (d e : X) → i < length xs → slice_index_or xs i d ≡ slice_index_or xs i e
    index_any [] i d e h = absurd (omega arith)
    index_any (x ∷ xs) zero d e h = refl
    index_any (x ∷ xs) (suc i) d e h = index_any xs i d e (omega arith)

map-length : {X Y : Type 0} (f : X → Y) (xs : List X) → length (map f xs) ≡ length xs
map-length f [] = refl
map-length f (x ∷ xs) = ap suc (map-length f xs)

-- no two places hold one command
pub own : (q : Queue) (calls : List Call) (i j : ℕ) (d : Held) → StandsFor q calls → i < length q.held.items → j < length q.held.items → i ≢ j
    → (slice_index_or q.held.items i d).cmd ≢ (slice_index_or q.held.items j d).cmd
unfolding outstanding_of
own q calls i j d stands wi wj differ =
    let ei = number-at q calls i d stands wi in
    let ej = number-at q calls j d stands wj in
    let long : length (outstanding calls) ≡ length q.held.items = ap length stands.numbers ∙ map-length (λ (h : Held). h.cmd) q.held.items in
    let up = rises (λ c. not (is_retired calls c)) 0 (length (issued calls)) i j in
    let down = rises (λ c. not (is_retired calls c)) 0 (length (issued calls)) j i in
    grind (arith, up, down)

or_false : (b : Bool) → (b || false) ≡ b
or_false true = refl
or_false false = refl

-- a call that issues and retires nothing
pub issued-same : (calls : List Call) (cmd n : ℕ) → issued (calls ++ SetParts cmd n ∷ []) ≡ issued calls
issued-same calls cmd n = issued-more calls (SetParts cmd n) ∙ append-nil (issued calls)

pub issued-marked : (calls : List Call) (cmd k : ℕ) → issued (calls ++ Mark cmd k ∷ []) ≡ issued calls
issued-marked calls cmd k = issued-more calls (Mark cmd k) ∙ append-nil (issued calls)

pub issued-retired : (calls : List Call) (cmd : ℕ) → issued (calls ++ Retire cmd ∷ []) ≡ issued calls
issued-retired calls cmd = issued-more calls (Retire cmd) ∙ append-nil (issued calls)

pub issued-issued : (calls : List Call) (c : Command) → issued (calls ++ Issue c ∷ []) ≡ issued calls ++ c ∷ []
issued-issued calls c = issued-more calls (Issue c)

pub retired-same : (calls : List Call) (cmd n : ℕ) → is_retired (calls ++ SetParts cmd n ∷ []) ≡ is_retired calls
retired-same calls cmd n = fun_ext (λ k. retired-more calls (SetParts cmd n) k ∙ or_false (is_retired calls k))

pub retired-marked : (calls : List Call) (cmd n : ℕ) → is_retired (calls ++ Mark cmd n ∷ []) ≡ is_retired calls
retired-marked calls cmd n = fun_ext (λ k. retired-more calls (Mark cmd n) k ∙ or_false (is_retired calls k))

pub retired-issued : (calls : List Call) (c : Command) → is_retired (calls ++ Issue c ∷ []) ≡ is_retired calls
retired-issued calls c = fun_ext (λ k. retired-more calls (Issue c) k ∙ or_false (is_retired calls k))

-- the commands held where one of them is rewritten
pub stands-set : (q new : Queue) (calls calls2 : List Call) (i : ℕ) (old h : Held) → StandsFor q calls → new.issued ≡ q.issued → new.held.items ≡ slice_set q.held.items i h → i < length q.held.items
    → ((d : Held) → (slice_index_or q.held.items i d).cmd ≡ h.cmd)
    → issued calls2 ≡ issued calls → is_retired calls2 ≡ is_retired calls
    → Holds calls2 h → ((g : Held) → g.cmd ≢ h.cmd → Holds calls g → Holds calls2 g) → ((k : ℕ) → k ≢ h.cmd → IsUnknown calls k → IsUnknown calls2 k) → h.cmd < length (issued calls)
    → entry h ≡ entry (slice_index_or q.held.items i old) → new.before ≡ q.before
    → StandsFor new calls2
stands-set q new calls calls2 i old h stands same items within at issues retires holds others unknown there alike sets = record {
  number = ap length issues ∙ stands.number ∙ sym same;
  numbers = ap (λ cs. outstanding_of (is_retired calls2) cs) issues ∙ ap (λ f. outstanding_of f (issued calls)) retires ∙ stands.numbers ∙ sym (map-set_same (λ (x : Held). x.cmd) q.held.items i h h (sym (at h))) ∙ ap (map (λ (x : Held). x.cmd)) (sym items);
  each = subst (All (Holds calls2)) (sym items) each;
  fresh = λ k past. unknown k (let l = ap length issues in omega arith) (stands.fresh k (let l = ap length issues in omega arith));
  many = let l = ap length items in let m = length-set q.held.items i h in let n = stands.many in omega arith;
  before = subst (λ xs. All (KnowsBefore xs new.before) xs) (sym (ap (map entry) items ∙ map-set_same entry q.held.items i h old alike))
      (subst (λ sets. All (KnowsBefore (map entry q.held.items) sets) (map entry q.held.items)) (sym sets) stands.before);
}
  where
    each_at : (k : ℕ) (d : Held) (b : Bool) → (k == i) ≡ b → k < length q.held.items → Holds calls2 (slice_index_or (slice_set q.held.items i h) k d)
    each_at k d true e l = let same_place : k ≡ i = grind (arith, nat_tests) in subst (λ j. Holds calls2 (slice_index_or (slice_set q.held.items i h) j d)) (sym same_place) (subst (Holds calls2) (sym (get_or-set_same q.held.items i h d within)) holds)
    each_at k d false e l =
        let apart : k ≢ i = grind (arith, nat_tests) in
        let differs = own q calls k i d stands l within apart in
        subst (Holds calls2) (sym (get_or-set_other q.held.items i k h d apart)) (others (slice_index_or q.held.items k d) (λ e2. differs (e2 ∙ sym (at d))) (stands.each k d l))

    each : All (Holds calls2) (slice_set q.held.items i h)
    each k d l = each_at k d (k == i) refl (let m = length-set q.held.items i h in omega arith)

entry-same : (g h : Held) → g.cmd ≡ h.cmd → g.place ≡ h.place → g.command ≡ h.command → entry g ≡ entry h
entry-same g h as_cmd as_place as_command = fields g.cmd h.cmd g.place h.place g.command h.command as_cmd as_place as_command
  where
    fields : (a b p r : ℕ) (c d : Command) → a ≡ b → p ≡ r → c ≡ d → ◌≡◌ {A = Entry} (record { cmd = a; place = p; command = c }) (record { cmd = b; place = r; command = d })
    fields a b p r c d e f g = cc

not_same : (a b : ℕ) → a ≢ b → (b == a) ≡ false
not_same a b h = grind (arith, nat_tests)

same_same : (a : ℕ) → (a == a) ≡ true
same_same a = grind (arith, nat_tests)

pub stands-parts : (q new : Queue) (calls : List Call) (cmd n i : ℕ) (old h : Held) → StandsFor q calls → IsOneOf q cmd → new.issued ≡ q.issued → new.held.items ≡ slice_set q.held.items i h
    → i < length q.held.items → ((d : Held) → (slice_index_or q.held.items i d).cmd ≡ cmd) → old ≡ slice_index_or q.held.items i old
    → h.cmd ≡ cmd → h.command ≡ old.command → h.parts ≡ n → ((k : ℕ) → has_part h.done.words k ≡ false) → h.place ≡ old.place → new.before ≡ q.before
    → StandsFor new (calls ++ SetParts cmd n ∷ [])
stands-parts q new calls cmd n i old h stands one same items within at old_at is_cmd is_command is_parts none as_place sets =
    stands-set q new calls (calls ++ SetParts cmd n ∷ []) i old h stands same items within (λ d. at d ∙ sym is_cmd) (issued-same calls cmd n) (retired-same calls cmd n)
    (record {
      command = subst (λ k. slice_get (issued (calls ++ SetParts cmd n ∷ [])) k ≡ Some h.command) (sym is_cmd)
          (ap (λ cs. slice_get cs cmd) (issued-same calls cmd n) ∙ command-at q calls i cmd old stands within old_at at ∙ ap Some (sym is_command));
      parts = subst (λ k. parts (calls ++ SetParts cmd n ∷ []) k ≡ h.parts) (sym is_cmd) (parts-more calls (SetParts cmd n) cmd ∙ rw (same_same cmd) (sym is_parts));
      done = λ k small. subst (λ j. is_marked (calls ++ SetParts cmd n ∷ []) j k ≡ has_part h.done.words k) (sym is_cmd)
          (marked-more calls (SetParts cmd n) cmd k ∙ rw (same_same cmd) (sym (none k)));
    })
    (λ g differs holds. let off : (cmd == g.cmd) ≡ false = not_same g.cmd cmd (λ e. differs (e ∙ sym is_cmd)) in record {
      command = ap (λ cs. slice_get cs g.cmd) (issued-same calls cmd n) ∙ holds.command;
      parts = parts-more calls (SetParts cmd n) g.cmd ∙ rw off holds.parts;
      done = λ k small. marked-more calls (SetParts cmd n) g.cmd k ∙ rw off (holds.done k small);
    })
    (λ k differs unknown. let off : (cmd == k) ≡ false = not_same k cmd (λ e. differs (e ∙ sym is_cmd)) in record {
      retired = ap (λ f. f k) (retired-same calls cmd n) ∙ unknown.retired;
      parts = parts-more calls (SetParts cmd n) k ∙ rw off unknown.parts;
      marked = λ j. marked-more calls (SetParts cmd n) k j ∙ rw off (unknown.marked j);
    })
    (rw is_cmd (one-below q calls cmd stands one))
    (entry-same h old (is_cmd ∙ sym (ap (λ (x : Held). x.cmd) old_at ∙ at old)) as_place is_command ∙ ap entry old_at) sets
  where
    one-below : (q : Queue) (calls : List Call) (cmd : ℕ) → StandsFor q calls → IsOneOf q cmd → cmd < length (issued calls)
    one-below q calls cmd stands one = let l = below-issued one.calls cmd one.outstanding in let e = one.stands.number in let f = stands.number in omega arith

pub stands-mark : (q new : Queue) (calls : List Call) (cmd part i : ℕ) (old h : Held) → StandsFor q calls → HasPart q cmd part → new.issued ≡ q.issued → new.held.items ≡ slice_set q.held.items i h
    → i < length q.held.items → ((d : Held) → (slice_index_or q.held.items i d).cmd ≡ cmd) → old ≡ slice_index_or q.held.items i old
    → h.cmd ≡ old.cmd → h.command ≡ old.command → h.parts ≡ old.parts → ((k : ℕ) → has_part h.done.words k ≡ (has_part old.done.words k || part == k)) → h.place ≡ old.place → new.before ≡ q.before
    → StandsFor new (calls ++ Mark cmd part ∷ [])
stands-mark q new calls cmd part i old h stands has same items within at old_at as_cmd is_command is_parts marks as_place sets =
    let is_cmd : h.cmd ≡ cmd = as_cmd ∙ ap (λ (x : Held). x.cmd) old_at ∙ at old in
    let was_cmd : old.cmd ≡ cmd = ap (λ (x : Held). x.cmd) old_at ∙ at old in
    let was : Holds calls old = held-at q calls i old stands within old_at in
    stands-set q new calls (calls ++ Mark cmd part ∷ []) i old h stands same items within (λ d. at d ∙ sym is_cmd) (issued-marked calls cmd part) (retired-marked calls cmd part)
    (record {
      command = subst (λ k. slice_get (issued (calls ++ Mark cmd part ∷ [])) k ≡ Some h.command) (sym is_cmd)
          (ap (λ cs. slice_get cs cmd) (issued-marked calls cmd part) ∙ command-at q calls i cmd old stands within old_at at ∙ ap Some (sym is_command));
      parts = parts-more calls (Mark cmd part) h.cmd ∙ ap (parts calls) as_cmd ∙ was.parts ∙ sym is_parts;
      done = λ k low. subst (λ j. is_marked (calls ++ Mark cmd part ∷ []) j k ≡ has_part h.done.words k) (sym is_cmd)
          (marked-more calls (Mark cmd part) cmd k ∙ rw (same_same cmd)
          (ap (λ b. b || part == k) (subst (λ j. is_marked calls j k ≡ has_part old.done.words k) was_cmd (was.done k low)) ∙ sym (marks k)));
    })
    (λ g differs holds. let off : (cmd == g.cmd) ≡ false = not_same g.cmd cmd (λ e. differs (e ∙ sym is_cmd)) in record {
      command = ap (λ cs. slice_get cs g.cmd) (issued-marked calls cmd part) ∙ holds.command;
      parts = parts-more calls (Mark cmd part) g.cmd ∙ holds.parts;
      done = λ k low. marked-more calls (Mark cmd part) g.cmd k ∙ rw off (or_false (is_marked calls g.cmd k) ∙ holds.done k low);
    })
    (λ k differs unknown. let off : (cmd == k) ≡ false = not_same k cmd (λ e. differs (e ∙ sym is_cmd)) in record {
      retired = ap (λ f. f k) (retired-marked calls cmd part) ∙ unknown.retired;
      parts = parts-more calls (Mark cmd part) k ∙ unknown.parts;
      marked = λ j. marked-more calls (Mark cmd part) k j ∙ rw off (or_false (is_marked calls k j) ∙ unknown.marked j);
    })
    (rw is_cmd (let l = below-issued has.calls cmd has.outstanding in let e = has.stands.number in let f = stands.number in omega arith))
    (entry-same h old as_cmd as_place is_command ∙ ap entry old_at) sets

all-agree : (p r : ℕ → Bool) (a n : ℕ) → ((k : ℕ) → k < a + n → p k ≡ r k) → list_all p (range_with_len a n) ≡ list_all r (range_with_len a n)
all-agree p r a zero h = refl
all-agree p r a (suc n) h = rw (h a (omega arith)) (ap (λ b. r a && b) (all-agree p r (a + 1) n (λ k l. h k (omega arith))))

-- whether all parts are done with one more
pub marked-all : (q : Queue) (calls : List Call) (cmd part i : ℕ) (old h : Held) → StandsFor q calls → i < length q.held.items → old ≡ slice_index_or q.held.items i old → ((d : Held) → (slice_index_or q.held.items i d).cmd ≡ cmd)
    → h.parts ≡ old.parts → ((k : ℕ) → has_part h.done.words k ≡ (has_part old.done.words k || part == k)) → h.parts ≤ 129
    → list_all (λ k. has_part h.done.words k) (range_with_len 0 h.parts) ≡ all_marked (calls ++ Mark cmd part ∷ []) cmd
marked-all q calls cmd part i old h stands within at same as_parts marks few =
    let e : old.cmd ≡ cmd = ap (λ (x : Held). x.cmd) at ∙ same old in
    let holds : Holds calls old = held-at q calls i old stands within at in
    all-agree (λ k. has_part h.done.words k) (is_marked (calls ++ Mark cmd part ∷ []) cmd) 0 h.parts (λ k l.
    marks k
    ∙ ap (λ b. b || part == k) (subst (λ j. has_part old.done.words k ≡ is_marked calls j k) e (sym (holds.done k (omega arith))))
    ∙ sym (marked-more calls (Mark cmd part) cmd k ∙ rw (same_same cmd) refl))
    ∙ ap (λ n. list_all (is_marked (calls ++ Mark cmd part ∷ []) cmd) (range_with_len 0 n)) (as_parts ∙ sym holds.parts ∙ ap (parts calls) e ∙ sym (parts-more calls (Mark cmd part) cmd))

pub left-is : (q : Queue) (calls : List Call) (cmd i : ℕ) (h : Held) → StandsFor q calls → i < length q.held.items → h ≡ slice_index_or q.held.items i h → ((d : Held) → (slice_index_or q.held.items i d).cmd ≡ cmd)
    → h.parts ≤ 129 → filter (λ k. not (has_part h.done.words k)) (range_with_len 0 h.parts) ≡ left calls cmd
unfolding left
left-is q calls cmd i h stands within at same few =
    let e : h.cmd ≡ cmd = ap (λ (x : Held). x.cmd) at ∙ same h in
    let holds : Holds calls h = held-at q calls i h stands within at in
    pass-agree (λ k. not (has_part h.done.words k)) (λ k. not (is_marked calls cmd k)) 0 h.parts (λ k l. ap not (subst (λ j. has_part h.done.words k ≡ is_marked calls j k) e (sym (holds.done k (omega arith)))))
    ∙ ap (λ n. filter (λ k. not (is_marked calls cmd k)) (range_with_len 0 n)) (sym holds.parts ∙ ap (parts calls) e)

-- a filter after a filter, and of what f makes of each
filter-both : (s t : ℕ → Bool) (xs : List ℕ) → filter t (filter s xs) ≡ filter (λ x. s x && t x) xs
filter-both s t [] = refl
filter-both s t (x ∷ xs) = on (s x) (filter-both s t xs)
  where
    on : (b : Bool) → filter t (filter s xs) ≡ filter (λ x. s x && t x) xs → filter t (cond b (x ∷ filter s xs) (filter s xs)) ≡ cond (b && t x) (x ∷ filter (λ x. s x && t x) xs) (filter (λ x. s x && t x) xs)
    on true r = ap (λ ys. cond (t x) (x ∷ ys) ys) r
    on false r = r

filter-numbers : (t : ℕ → Bool) (held : List Held) → map (λ h. h.cmd) (filter (λ h. t h.cmd) held) ≡ filter t (map (λ h. h.cmd) held)
filter-numbers t [] = refl
filter-numbers t (h ∷ held) = on (t h.cmd) (filter-numbers t held)
  where
    on : (b : Bool) → map (λ (h : Held). h.cmd) (filter (λ h. t h.cmd) held) ≡ filter t (map (λ h. h.cmd) held)
        → map (λ (h : Held). h.cmd) (cond b (h ∷ filter (λ h. t h.cmd) held) (filter (λ h. t h.cmd) held)) ≡ cond b (h.cmd ∷ filter t (map (λ h. h.cmd) held)) (filter t (map (λ h. h.cmd) held))
    on true r = ap (λ ys. h.cmd ∷ ys) r
    on false r = r

filter-shorter : {X : Type 0} (t : X → Bool) (xs : List X) → length (filter t xs) ≤ length xs
filter-shorter t [] = omega arith
filter-shorter t (x ∷ xs) = on (t x) (filter-shorter t xs)
  where
    on : (b : Bool) → length (filter t xs) ≤ length xs → length (cond b (x ∷ filter t xs) (filter t xs)) ≤ suc (length xs)
    on true r = omega arith
    on false r = omega arith

nor : (a b : Bool) → not (a || b) ≡ (not a && not b)
nor true b = refl
nor false b = refl

pub outstanding-retired : (calls : List Call) (cmd : ℕ) → outstanding (calls ++ Retire cmd ∷ []) ≡ filter (λ k. not (cmd == k)) (outstanding calls)
unfolding outstanding_of
outstanding-retired calls cmd =
    ap (λ cs. filter (λ c. not (is_retired (calls ++ Retire cmd ∷ []) c)) (range_with_len 0 (length cs))) (issued-retired calls cmd)
    ∙ ap (λ f. filter f (range_with_len 0 (length (issued calls)))) (fun_ext (λ k. ap not (retired-more calls (Retire cmd) k) ∙ nor (is_retired calls k) (cmd == k)))
    ∙ sym (filter-both (λ c. not (is_retired calls c)) (λ k. not (cmd == k)) (range_with_len 0 (length (issued calls))))

pub stands-retire : (q new : Queue) (calls : List Call) (cmd : ℕ) → StandsFor q calls → IsOneOf q cmd → new.issued ≡ q.issued → new.held.items ≡ filter (λ h. not (cmd == h.cmd)) q.held.items
    → All (KnowsBefore (map entry new.held.items) new.before) (map entry new.held.items) → StandsFor new (calls ++ Retire cmd ∷ [])
stands-retire q new calls cmd stands one same items before = record {
  number = ap length (issued-retired calls cmd) ∙ stands.number ∙ sym same;
  numbers = outstanding-retired calls cmd ∙ ap (filter (λ k. not (cmd == k))) stands.numbers ∙ sym (filter-numbers (λ k. not (cmd == k)) q.held.items) ∙ ap (map (λ (h : Held). h.cmd)) (sym items);
  each = subst (All (Holds (calls ++ Retire cmd ∷ []))) (sym items) (λ k d l. still (slice_index_or (filter (λ h. not (cmd == h.cmd)) q.held.items) k d) (All-filter (λ h. not (cmd == h.cmd)) (Holds calls) q.held.items stands.each k d l));
  fresh = λ k past.
      let more : length (issued calls) ≤ k = (let l = ap length (issued-retired calls cmd) in omega arith) in
      let below : cmd < length (issued calls) = (let l = below-issued one.calls cmd one.outstanding in let e = one.stands.number in let f = stands.number in omega arith) in
      let off : (cmd == k) ≡ false = grind (arith, nat_tests) in
      let unknown = stands.fresh k more in
      record {
        retired = retired-more calls (Retire cmd) k ∙ rw (off, unknown.retired) refl;
        parts = parts-more calls (Retire cmd) k ∙ unknown.parts;
        marked = λ j. marked-more calls (Retire cmd) k j ∙ unknown.marked j;
      };
  many = let l = ap length items in let m = filter-shorter (λ (h : Held). not (cmd == h.cmd)) q.held.items in let n = stands.many in omega arith;
  before = before;
}
  where
    still : (g : Held) → Holds calls g → Holds (calls ++ Retire cmd ∷ []) g
    still g holds = record {
      command = ap (λ cs. slice_get cs g.cmd) (issued-retired calls cmd) ∙ holds.command;
      parts = parts-more calls (Retire cmd) g.cmd ∙ holds.parts;
      done = λ k low. marked-more calls (Retire cmd) g.cmd k ∙ holds.done k low;
    }

pub stands-new : (q : Queue) → q.issued ≡ 0 → q.held.items ≡ [] → StandsFor q []
unfolding outstanding_of issued is_retired parts is_marked
stands-new q none empty = record {
  number = sym none;
  numbers = ap (map (λ (h : Held). h.cmd)) (sym empty);
  each = λ k d l. absurd (let e = ap length empty in omega arith);
  fresh = λ k l. record { retired = refl; parts = refl; marked = λ j. refl };
  many = let e = ap length empty in omega arith;
  before = subst (λ xs. All (KnowsBefore (map entry xs) q.before) (map entry xs)) (sym empty) (λ k d l. absurd (omega arith));
}

range-push : (a n : ℕ) → range_with_len a (n + 1) ≡ range_with_len a n ++ (a + n) ∷ []
range-push a zero = let e : a + 0 ≡ a = omega arith in ap (λ k. k ∷ []) (sym e)
range-push a (suc n) = let e : suc n + 1 ≡ suc (n + 1) = omega arith in let f : a + 1 + n ≡ a + suc n = omega arith in rw e (ap (λ xs. a ∷ xs) (range-push (a + 1) n) ∙ ap (λ k. a ∷ (range_with_len (a + 1) n ++ k ∷ [])) f)

pub outstanding-issued : (calls : List Call) (c : Command) → is_retired calls (length (issued calls)) ≡ false → outstanding (calls ++ Issue c ∷ []) ≡ outstanding calls ++ length (issued calls) ∷ []
unfolding outstanding_of
outstanding-issued calls c fresh =
    ap (λ cs. filter (λ k. not (is_retired (calls ++ Issue c ∷ []) k)) (range_with_len 0 (length cs))) (issued-issued calls c)
    ∙ ap (λ f. filter (λ k. not (f k)) (range_with_len 0 (length (issued calls ++ c ∷ [])))) (retired-issued calls c)
    ∙ ap (λ n. filter (λ k. not (is_retired calls k)) (range_with_len 0 n)) (length-append (issued calls) (c ∷ []))
    ∙ ap (filter (λ k. not (is_retired calls k))) (range-push 0 (length (issued calls)))
    ∙ filter-append (λ k. not (is_retired calls k)) (range_with_len 0 (length (issued calls))) ((0 + length (issued calls)) ∷ [])
    ∙ (let z : 0 + length (issued calls) ≡ length (issued calls) = omega arith in rw (z, fresh) refl)

get-append : {X : Type 0} (xs ys : List X) (i : ℕ) (x : X) → slice_get xs i ≡ Some x → slice_get (xs ++ ys) i ≡ Some x
get-append [] ys i x h = absurd (cc)
get-append (y ∷ xs) ys zero x h = h
get-append (y ∷ xs) ys (suc i) x h = get-append xs ys i x h

get-last : {X : Type 0} (xs : List X) (x : X) → slice_get (xs ++ x ∷ []) (length xs) ≡ Some x
get-last [] x = refl
get-last (y ∷ xs) x = get-last xs x

map-snoc : {X Y : Type 0} (f : X → Y) (xs : List X) (x : X) → map f (xs ++ x ∷ []) ≡ map f xs ++ f x ∷ []
map-snoc f [] x = refl
map-snoc f (y ∷ xs) x = ap (λ ys. f y ∷ ys) (map-snoc f xs x)

all-one : {X : Type 0} (P : X → Type 0) (x : X) → P x → All P (x ∷ [])
all-one P x p zero d l = p
all-one P x p (suc k) d l = absurd (omega arith)

pub stands-issue : (q new : Queue) (calls : List Call) (c : Command) (h : Held) → StandsFor q calls → new.issued ≡ q.issued + 1 → new.held.items ≡ q.held.items ++ h ∷ [] → length q.held.items < 16
    → h.cmd ≡ q.issued → h.command ≡ c → h.parts ≡ 0 → ((k : ℕ) → has_part h.done.words k ≡ false) → All (KnowsBefore (map entry new.held.items) new.before) (map entry new.held.items)
    → StandsFor new (calls ++ Issue c ∷ [])
stands-issue q new calls c h stands more items less is_cmd is_command is_parts none before =
    let unknown : IsUnknown calls (length (issued calls)) = stands.fresh (length (issued calls)) (omega arith) in
    let is_last : h.cmd ≡ length (issued calls) = is_cmd ∙ sym stands.number in
    record {
      number = ap length (issued-issued calls c) ∙ length-append (issued calls) (c ∷ []) ∙ ap (λ n. n + 1) stands.number ∙ sym more;
      numbers = outstanding-issued calls c unknown.retired ∙ ap (λ xs. xs ++ length (issued calls) ∷ []) stands.numbers ∙ ap (λ n. map (λ (x : Held). x.cmd) q.held.items ++ n ∷ []) (sym is_last)
          ∙ sym (map-snoc (λ (x : Held). x.cmd) q.held.items h) ∙ ap (map (λ (x : Held). x.cmd)) (sym items);
      each = subst (All (Holds (calls ++ Issue c ∷ []))) (sym items) (All-append (Holds (calls ++ Issue c ∷ [])) q.held.items (h ∷ [])
          (λ k d l. still (slice_index_or q.held.items k d) (stands.each k d l))
          (all-one (Holds (calls ++ Issue c ∷ [])) h (record {
            command = rw is_last (ap (λ cs. slice_get cs (length (issued calls))) (issued-issued calls c) ∙ get-last (issued calls) c ∙ ap Some (sym is_command));
            parts = parts-more calls (Issue c) h.cmd ∙ ap (parts calls) is_last ∙ unknown.parts ∙ sym is_parts;
            done = λ k low. marked-more calls (Issue c) h.cmd k ∙ ap (λ n. is_marked calls n k) is_last ∙ unknown.marked k ∙ sym (none k);
          })));
      fresh = λ k past.
          let old : IsUnknown calls k = stands.fresh k (let l = ap length (issued-issued calls c) in let m = length-append (issued calls) (c ∷ []) in omega arith) in
          record {
            retired = ap (λ f. f k) (retired-issued calls c) ∙ old.retired;
            parts = parts-more calls (Issue c) k ∙ old.parts;
            marked = λ j. marked-more calls (Issue c) k j ∙ old.marked j;
          };
      many = let l = ap length items in let m = length-append q.held.items (h ∷ []) in omega arith;
      before = before;
    }
  where
    still : (g : Held) → Holds calls g → Holds (calls ++ Issue c ∷ []) g
    still g holds = record {
      command = ap (λ cs. slice_get cs g.cmd) (issued-issued calls c) ∙ get-append (issued calls) (c ∷ []) g.cmd g.command holds.command;
      parts = parts-more calls (Issue c) g.cmd ∙ holds.parts;
      done = λ k low. marked-more calls (Issue c) g.cmd k ∙ holds.done k low;
    }

-- whether one that is held goes before
pub goes-held : (calls : List Call) (h : Held) (cmd : ℕ) (d : Command) → Holds calls h → slice_get (issued calls) cmd ≡ Some d → goes_before (issued calls) h.cmd cmd ≡ (nat_lt h.cmd cmd && precedes h.command d)
unfolding goes_before
goes-held calls h cmd d holds at = rw (holds.command, at) refl

pub may-start : (q : Queue) (calls : List Call) (cmd : ℕ) → StandsFor q calls → may_begin calls cmd ≡ not (list_any (λ c. goes_before (issued calls) c cmd) (map (λ h. h.cmd) q.held.items))
unfolding may_start
may-start q calls cmd stands = ap (λ xs. not (list_any (λ c. goes_before (issued calls) c cmd) xs)) stands.numbers

pub group-held : (calls : List Call) (h : Held) (bits : ℕ) → Holds calls h → with_group (issued calls) bits h.cmd ≡ bit_or bits (2 ^ h.command.tag)
group-held calls h bits holds = rw holds.command refl

pub busy-is : (q : Queue) (calls : List Call) → StandsFor q calls → busy_groups (is_retired calls) (issued calls) ≡ fold (with_group (issued calls)) 0 (map (λ h. h.cmd) q.held.items)
unfolding busy_groups
busy-is q calls stands = ap (fold (with_group (issued calls)) 0) stands.numbers

-- they are the groups of what is held
groups-from : (calls : List Call) (bits : ℕ) (held : List Held) → All (Holds calls) held
    → fold (λ b k. bit_or b (2 ^ k)) bits (map (λ h. h.command.tag) held) ≡ fold (with_group (issued calls)) bits (map (λ h. h.cmd) held)
groups-from calls bits [] all = refl
groups-from calls bits (h ∷ held) all =
    ap (λ b. fold (λ b k. bit_or b (2 ^ k)) b (map (λ (x : Held). x.command.tag) held)) (sym (group-held calls h bits (all 0 h (omega arith))))
    ∙ groups-from calls (with_group (issued calls) bits h.cmd) held (λ k d l. all (suc k) d (omega arith))

pub busy-held : (q : Queue) (calls : List Call) → StandsFor q calls → set_of (map (λ h. h.command.tag) q.held.items) ≡ busy_groups (is_retired calls) (issued calls)
busy-held q calls stands = groups-from calls 0 q.held.items stands.each ∙ sym (busy-is q calls stands)

-- and stay, where one of these is rewritten, and one more has its own
pub groups-set : (held new : List Held) (bits i : ℕ) (old h : Held) → bits ≡ set_of (map (λ h. h.command.tag) held) → new ≡ slice_set held i h → old ≡ slice_index_or held i old → h.command ≡ old.command
    → bits ≡ set_of (map (λ h. h.command.tag) new)
groups-set held new bits i old h is items at same =
    is ∙ ap set_of (sym (map-set_same (λ (x : Held). x.command.tag) held i h old (ap (λ (d : Command). d.tag) same ∙ ap (λ (x : Held). x.command.tag) at)) ∙ ap (map (λ (x : Held). x.command.tag)) (sym items))

fold-snoc : (bits k : ℕ) (ks : List ℕ) → fold (λ b k. bit_or b (2 ^ k)) bits (ks ++ k ∷ []) ≡ bit_or (fold (λ b k. bit_or b (2 ^ k)) bits ks) (2 ^ k)
fold-snoc bits k [] = refl
fold-snoc bits k (j ∷ ks) = fold-snoc (bit_or bits (2 ^ j)) k ks

-- the groups that are busy without one of them
pub busy-retired : (q : Queue) (calls : List Call) (cmd : ℕ) → StandsFor q calls
    → busy_groups (is_retired (calls ++ Retire cmd ∷ [])) (issued (calls ++ Retire cmd ∷ [])) ≡ fold (with_group (issued calls)) 0 (filter (λ k. not (cmd == k)) (map (λ h. h.cmd) q.held.items))
unfolding busy_groups
busy-retired q calls cmd stands =
    ap (λ cs. fold (with_group cs) 0 (outstanding (calls ++ Retire cmd ∷ []))) (issued-retired calls cmd)
    ∙ ap (fold (with_group (issued calls)) 0) (outstanding-retired calls cmd ∙ ap (filter (λ k. not (cmd == k))) stands.numbers)

pub outstanding-marked : (calls : List Call) (cmd part k : ℕ) → is_outstanding (calls ++ Mark cmd part ∷ []) k ≡ is_outstanding calls k
outstanding-marked calls cmd part k = ap (λ f. nat_lt k (length (issued (calls ++ Mark cmd part ∷ []))) && not (f k)) (retired-marked calls cmd part) ∙ ap (λ cs. nat_lt k (length cs) && not (is_retired calls k)) (issued-marked calls cmd part)

pub shifted : (t : ℕ) → t < 32 → (1 * 2 ^ t) % 4294967296 ≡ 2 ^ t
shifted t h = let less : 2 ^ t < 2 ^ 32 = pow-lt h in let big : 2 ^ 32 ≡ 4294967296 = refl in omega arith

-- whether one that is held has the tag
pub tag-held : (calls : List Call) (h : Held) (tag : ℕ) → Holds calls h → is_of_tag (issued calls) tag h.cmd ≡ (h.command.tag == tag)
tag-held calls h tag holds = rw holds.command refl

pub parts-at : (q : Queue) (calls : List Call) (i cmd : ℕ) (h : Held) → StandsFor q calls → i < length q.held.items → h ≡ slice_index_or q.held.items i h → ((d : Held) → (slice_index_or q.held.items i d).cmd ≡ cmd) → h.parts ≡ parts calls cmd
parts-at q calls i cmd h stands within at same =
    let e : h.cmd ≡ cmd = ap (λ (x : Held). x.cmd) at ∙ same h in
    sym (held-at q calls i h stands within at).parts ∙ ap (parts calls) e

pub groups-issued : (held new : List Held) (bits tag : ℕ) (h : Held) → bits ≡ set_of (map (λ h. h.command.tag) held) → new ≡ held ++ h ∷ [] → h.command.tag ≡ tag → tag < 32
    → bit_or bits ((1 * 2 ^ tag) % 4294967296) ≡ set_of (map (λ h. h.command.tag) new)
groups-issued held new bits tag h is items own small =
    ap (bit_or bits) (shifted tag small ∙ ap (λ k. 2 ^ k) (sym own)) ∙ ap (λ b. bit_or b (2 ^ h.command.tag)) is
    ∙ sym (ap set_of (ap (map (λ (x : Held). x.command.tag)) items ∙ map-snoc (λ (x : Held). x.command.tag) held h) ∙ fold-snoc 0 h.command.tag (map (λ (x : Held). x.command.tag) held))
