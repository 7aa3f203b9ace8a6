-- The sets of the places of the commands that go before.
use Rattle.std.proofs.Common.{◌≡◌, ◌≢◌, ℕ, zero, suc, ◌<◌, ◌≤◌, ◌==◌, ◌||◌, ◌&&◌, not, Bool, true, false, List, [], ◌∷◌, ◌++◌, length, map, slice_index_or, slice_set, arith, refl, sym, ◌∙◌, ap, subst}
use Rattle.std.specs.Prelude.{Some, nat_lt, filter, cond, All, slice_get}
use Rattle.std.specs.List.{list_any, range_with_len}
use Rattle.std.proofs.lemmas.Bool.Decides.{nat_tests}
use Rattle.std.proofs.lemmas.List.{get_or-set_same, get_or-set_other}
use Rattle.std.proofs.lemmas.List.Elements.{All-append, All-filter, All-map}
use Rattle.std.proofs.lemmas.List.Folds.{list_any-append}
use Rattle.std.proofs.Math.ListN.{get_or-map, length-map}
use Rattle.mfc_command.specs.declared.command.Command.{Command}
use Rattle.mfc_command.specs.Order.{goes_before, precedes}
use Rattle.mfc_queue.specs.declared.Held.{Held}
use Rattle.mfc_queue.specs.declared.place_set.PlaceSet.{PlaceSet}
use Rattle.cell_base.specs.Bits.{has_bit}
use Rattle.mfc_queue.specs.declared.Queue.{Queue}
use Rattle.mfc_queue.specs.Calls.{Call, issued, may_begin}
use Rattle.mfc_queue.specs.Stands.{StandsFor, Holds, Entry, entry, goes_at, KnowsBefore}
use Rattle.mfc_queue.proofs.Holding.{own, held-at, goes-held, may-start}
use Rattle.mfc_queue.proofs.PlaceLemmas.{at-any, all-small, not-taken, places-apart, at-most-once}
use Rattle.mfc_queue.proofs.SetLemmas.{any-none, any-one, any-agree}

or_false : (b : Bool) → (b || false) ≡ b
or_false true = refl
or_false false = refl

and_false : (b : Bool) → (b && false) ≡ false
and_false true = refl
and_false false = refl

-- either of two tests, of one of a range
any-or : (p r : ℕ → Bool) (xs : List ℕ) → list_any (λ k. p k || r k) xs ≡ (list_any p xs || list_any r xs)
any-or p r [] = refl
any-or p r (x ∷ xs) = ap (λ b. (p x || r x) || b) (any-or p r xs) ∙ regroup (p x) (r x) (list_any p xs) (list_any r xs)
  where
    regroup : (a b c d : Bool) → ((a || b) || (c || d)) ≡ ((a || c) || (b || d))
    regroup true b c d = refl
    regroup false true true d = refl
    regroup false true false d = refl
    regroup false false c d = refl

-- a place that is one of sixteen is found
any-place : (place : ℕ) (r : Bool) → place < 16 → list_any (λ k. place == k && r) (range_with_len 0 16) ≡ r
any-place place true small = let same : (place == place) ≡ true = grind (arith, nat_tests) in any-one (λ k. place == k && true) 0 16 place (omega arith) small (rw same refl)
any-place place false small = any-none (λ k. place == k && false) 0 16 (λ k l. and_false (place == k))

-- one of the places has one that goes before e, where one goes before e
pub any-of-places : (entries : List Entry) (e : Entry) → All (λ g. g.place < 16) entries
    → list_any (λ place. list_any (goes_at place e) entries) (range_with_len 0 16) ≡ list_any (λ g. nat_lt g.cmd e.cmd && precedes g.command e.command) entries
any-of-places [] e small = any-none (λ place. false) 0 16 (λ k l. refl)
any-of-places (g ∷ entries) e small =
    any-or (λ place. goes_at place e g) (λ place. list_any (goes_at place e) entries) (range_with_len 0 16)
    ∙ ap (λ b. b || list_any (λ place. list_any (goes_at place e) entries) (range_with_len 0 16)) (any-place g.place (nat_lt g.cmd e.cmd && precedes g.command e.command) (small 0 g (omega arith)))
    ∙ ap (λ b. (nat_lt g.cmd e.cmd && precedes g.command e.command) || b) (any-of-places entries e (λ k d l. small (suc k) d (omega arith)))

all-one : {X : Type 0} (P : X → Type 0) (x : X) → P x → All P (x ∷ [])
all-one P x p zero d l = p
all-one P x p (suc k) d l = absurd (omega arith)

any-snoc : {X : Type 0} (t : X → Bool) (xs : List X) (x : X) → list_any t (xs ++ x ∷ []) ≡ (list_any t xs || t x)
any-snoc t xs x = list_any-append t xs (x ∷ []) ∙ ap (λ b. list_any t xs || b) (or_false (t x))

-- a later one goes before none
not-later : (place : ℕ) (e g : Entry) → e.cmd ≤ g.cmd → goes_at place e g ≡ false
not-later place e g late = let off : nat_lt g.cmd e.cmd ≡ false = grind (arith, nat_tests) in rw off (and_false (g.place == place))

-- all before e were issued earlier
all-earlier : (place : ℕ) (entries : List Entry) (e : Entry) → All (λ g. g.cmd < e.cmd) entries → list_any (goes_at place e) entries ≡ list_any (λ g. g.place == place && precedes g.command e.command) entries
all-earlier place [] e early = refl
all-earlier place (g ∷ entries) e early =
    let first : g.cmd < e.cmd = early 0 g (omega arith) in
    let on : nat_lt g.cmd e.cmd ≡ true = grind (arith, nat_tests) in
    rw on (ap (λ b. (g.place == place && precedes g.command e.command) || b) (all-earlier place entries e (λ k d l. early (suc k) d (omega arith))))

-- one more command
pub before-issued : (entries : List Entry) (sets : List PlaceSet) (e : Entry) (set : PlaceSet) → All (KnowsBefore entries sets) entries → e.place < length sets
    → All (λ g. g.place ≢ e.place) entries → All (λ g. g.cmd < e.cmd) entries
    → ((place : ℕ) → has_bit set.bits place ≡ list_any (λ g. g.place == place && precedes g.command e.command) entries)
    → All (KnowsBefore (entries ++ e ∷ []) (slice_set sets e.place set)) (entries ++ e ∷ [])
before-issued entries sets e set knows within apart early has =
    All-append (KnowsBefore (entries ++ e ∷ []) (slice_set sets e.place set)) entries (e ∷ []) old (all-one (KnowsBefore (entries ++ e ∷ []) (slice_set sets e.place set)) e new)
  where
    old_one : (f : Entry) → f.place ≢ e.place → f.cmd < e.cmd → KnowsBefore entries sets f → KnowsBefore (entries ++ e ∷ []) (slice_set sets e.place set) f
    old_one f other first known place d small =
        ap (λ (s : PlaceSet). has_bit s.bits place) (get_or-set_other sets e.place f.place set d other) ∙ known place d small
        ∙ sym (any-snoc (goes_at place f) entries e ∙ ap (λ b. list_any (goes_at place f) entries || b) (not-later place f e (omega arith)) ∙ or_false (list_any (goes_at place f) entries))

    old : All (KnowsBefore (entries ++ e ∷ []) (slice_set sets e.place set)) entries
    old k d l = old_one (slice_index_or entries k d) (apart k d l) (early k d l) (knows k d l)

    new : KnowsBefore (entries ++ e ∷ []) (slice_set sets e.place set) e
    new place d small =
        ap (λ (s : PlaceSet). has_bit s.bits place) (get_or-set_same sets e.place set d within) ∙ has place ∙ sym (all-earlier place entries e early)
        ∙ sym (any-snoc (goes_at place e) entries e ∙ ap (λ b. list_any (goes_at place e) entries || b) (not-later place e e (omega arith)) ∙ or_false (list_any (goes_at place e) entries))

-- without the command at a place, those that go before, but at that place
filter-any : (entries : List Entry) (f : Entry) (cmd gone place : ℕ) → All (λ g. (cmd == g.cmd) ≡ (gone == g.place)) entries
    → (list_any (goes_at place f) entries && not (gone == place)) ≡ list_any (goes_at place f) (filter (λ g. not (cmd == g.cmd)) entries)
filter-any [] f cmd gone place agree = refl
filter-any (g ∷ entries) f cmd gone place agree = on (cmd == g.cmd) (agree 0 g (omega arith)) (filter-any entries f cmd gone place (λ k d l. agree (suc k) d (omega arith)))
  where
    -- the place of the one that is gone, and another
    drop-same : (q r s : Bool) → (((q && r) || s) && not q) ≡ (s && not q)
    drop-same true r s = and_false ((true && r) || s) ∙ sym (and_false s)
    drop-same false r s = refl

    keep-other : (q gone_there r s t : Bool) → (q && gone_there) ≡ false → (s && not gone_there) ≡ t → (((q && r) || s) && not gone_there) ≡ ((q && r) || t)
    keep-other true true r s t apart is = cc
    keep-other true false true s t apart is = refl
    keep-other true false false s t apart is = is
    keep-other false b r s t apart is = is

    on : (b : Bool) → b ≡ (gone == g.place) → (list_any (goes_at place f) entries && not (gone == place)) ≡ list_any (goes_at place f) (filter (λ g. not (cmd == g.cmd)) entries)
        → ((goes_at place f g || list_any (goes_at place f) entries) && not (gone == place))
        ≡ list_any (goes_at place f) (cond (not b) (g ∷ filter (λ g. not (cmd == g.cmd)) entries) (filter (λ g. not (cmd == g.cmd)) entries))
    on true is rest =
        let same : gone ≡ g.place = grind (arith, nat_tests) in
        let at : (gone == place) ≡ (g.place == place) = ap (λ n. n == place) same in
        ap (λ b. (goes_at place f g || list_any (goes_at place f) entries) && not b) at
        ∙ drop-same (g.place == place) (nat_lt g.cmd f.cmd && precedes g.command f.command) (list_any (goes_at place f) entries)
        ∙ ap (λ b. list_any (goes_at place f) entries && not b) (sym at) ∙ rest
    on false is rest =
        let differs : gone ≢ g.place = grind (arith, nat_tests) in
        let apart : (g.place == place && gone == place) ≡ false = grind (arith, nat_tests) in
        keep-other (g.place == place) (gone == place) (nat_lt g.cmd f.cmd && precedes g.command f.command) (list_any (goes_at place f) entries)
        (list_any (goes_at place f) (filter (λ g. not (cmd == g.cmd)) entries)) apart rest

-- one command less
pub before-retired : (entries : List Entry) (sets less : List PlaceSet) (cmd gone : ℕ) → All (KnowsBefore entries sets) entries
    → All (λ g. (cmd == g.cmd) ≡ (gone == g.place)) entries → All (λ g. g.place < 16) entries
    → ((k place : ℕ) (d : PlaceSet) → k < 16 → place < 16 → has_bit (slice_index_or less k d).bits place ≡ (has_bit (slice_index_or sets k d).bits place && not (gone == place)))
    → All (KnowsBefore (filter (λ g. not (cmd == g.cmd)) entries) less) (filter (λ g. not (cmd == g.cmd)) entries)
before-retired entries sets less cmd gone knows agree small taken =
    All-filter (λ g. not (cmd == g.cmd)) (KnowsBefore (filter (λ g. not (cmd == g.cmd)) entries) less) entries (λ k d l. one (slice_index_or entries k d) (small k d l) (knows k d l))
  where
    one : (f : Entry) → f.place < 16 → KnowsBefore entries sets f → KnowsBefore (filter (λ g. not (cmd == g.cmd)) entries) less f
    one f low known place d within =
        taken f.place place d low within ∙ ap (λ b. b && not (gone == place)) (known place d within) ∙ filter-any entries f cmd gone place agree

-- ---- of the commands that a queue holds
any-entries : (t : Entry → Bool) (held : List Held) → list_any t (map entry held) ≡ list_any (λ h. t (entry h)) held
any-entries t [] = refl
any-entries t (h ∷ held) = ap (λ b. t (entry h) || b) (any-entries t held)

map-snoc : (held : List Held) (h : Held) → map entry (held ++ h ∷ []) ≡ map entry held ++ entry h ∷ []
map-snoc [] h = refl
map-snoc (g ∷ held) h = ap (λ xs. entry g ∷ xs) (map-snoc held h)

map-filter : (held : List Held) (cmd : ℕ) → map entry (filter (λ h. not (cmd == h.cmd)) held) ≡ filter (λ g. not (cmd == g.cmd)) (map entry held)
map-filter [] cmd = refl
map-filter (h ∷ held) cmd = on (cmd == h.cmd) (map-filter held cmd)
  where
    on : (b : Bool) → map entry (filter (λ h. not (cmd == h.cmd)) held) ≡ filter (λ g. not (cmd == g.cmd)) (map entry held)
        → map entry (cond (not b) (h ∷ filter (λ h. not (cmd == h.cmd)) held) (filter (λ h. not (cmd == h.cmd)) held))
        ≡ cond (not b) (entry h ∷ filter (λ g. not (cmd == g.cmd)) (map entry held)) (filter (λ g. not (cmd == g.cmd)) (map entry held))
    on true r = r
    on false r = ap (λ xs. entry h ∷ xs) r

goes-all : (calls : List Call) (held : List Held) (cmd : ℕ) (d : Command) → All (Holds calls) held → slice_get (issued calls) cmd ≡ Some d
    → list_any (λ g. nat_lt g.cmd cmd && precedes g.command d) (map entry held) ≡ list_any (λ c. goes_before (issued calls) c cmd) (map (λ h. h.cmd) held)
goes-all calls [] cmd d holds at = refl
goes-all calls (h ∷ held) cmd d holds at =
    ap (λ b. b || list_any (λ (g : Entry). nat_lt g.cmd cmd && precedes g.command d) (map entry held)) (sym (goes-held calls h cmd d (holds 0 h (omega arith)) at))
    ∙ ap (λ b. goes_before (issued calls) h.cmd cmd || b) (goes-all calls held cmd d (λ k e l. holds (suc k) e (omega arith)) at)

-- a command may start where its set is empty
pub empty-starts : (q : Queue) (calls : List Call) (i cmd : ℕ) (h : Held) (bits : ℕ) (d : PlaceSet) → StandsFor q calls → i < length q.held.items → h ≡ slice_index_or q.held.items i h
    → ((d : Held) → (slice_index_or q.held.items i d).cmd ≡ cmd) → bits ≡ (slice_index_or q.before h.place d).bits
    → not (list_any (has_bit bits) (range_with_len 0 16)) ≡ may_begin calls cmd
empty-starts q calls i cmd h bits d stands within at same is =
    let e : h.cmd ≡ cmd = ap (λ (x : Held). x.cmd) at ∙ same h in
    let long : i < length (map entry q.held.items) = rw length-map within in
    let this : slice_index_or (map entry q.held.items) i (entry h) ≡ entry h = get_or-map entry q.held.items i h ∙ ap entry (sym at) in
    let knows : KnowsBefore (map entry q.held.items) q.before (entry h) = subst (KnowsBefore (map entry q.held.items) q.before) this (stands.before i (entry h) long) in
    ap not
    (any-agree (has_bit bits) (λ place. list_any (goes_at place (entry h)) (map entry q.held.items)) 0 16 (λ k l. ap (λ b. has_bit b k) is ∙ knows k d l)
    ∙ any-of-places (map entry q.held.items) (entry h) (All-map (λ (g : Entry). g.place < 16) entry q.held.items (all-small q.held.items q.vacant.items q.places))
    ∙ goes-all calls q.held.items h.cmd h.command stands.each (held-at q calls i h stands within at).command
    ∙ ap (λ n. list_any (λ c. goes_before (issued calls) c n) (map (λ (x : Held). x.cmd) q.held.items)) e)
    ∙ sym (may-start q calls cmd stands)

get-below : {X : Type 0} (xs : List X) (i : ℕ) (x : X) → slice_get xs i ≡ Some x → i < length xs
get-below [] i x h = absurd (cc)
get-below (y ∷ xs) zero x h = omega arith
get-below (y ∷ xs) (suc i) x h = let l = get-below xs i x h in omega arith

-- after an issue
pub issued-before : (q : Queue) (calls : List Call) (h : Held) (set : PlaceSet) (vacant : List ℕ) (items : List Held) (sets : List PlaceSet) → StandsFor q calls → items ≡ q.held.items ++ h ∷ []
    → q.vacant.items ≡ vacant ++ h.place ∷ [] → h.cmd ≡ q.issued
    → ((place : ℕ) → has_bit set.bits place ≡ list_any (λ g. g.place == place && precedes g.command h.command) q.held.items)
    → sets ≡ slice_set q.before h.place set → All (KnowsBefore (map entry items) sets) (map entry items)
issued-before q calls h set vacant items sets stands is was number has written =
    subst (λ xs. All (KnowsBefore xs sets) xs) (sym (ap (map entry) is ∙ map-snoc q.held.items h))
    (subst (λ ss. All (KnowsBefore (map entry q.held.items ++ entry h ∷ []) ss) (map entry q.held.items ++ entry h ∷ [])) (sym written)
    (before-issued (map entry q.held.items) q.before (entry h) set stands.before
    (let small = free.0 in let long = q.sets in omega arith)
    (All-map (λ (g : Entry). g.place ≢ h.place) entry q.held.items free.1)
    (All-map (λ (g : Entry). g.cmd < h.cmd) entry q.held.items (λ k d l. let below = get-below (issued calls) _ _ (stands.each k d l).command in let many = stands.number in omega arith))
    (λ place. has place ∙ sym (any-entries (λ (g : Entry). g.place == place && precedes g.command h.command) q.held.items))))
  where
    free : (h.place < 16) × All (λ (x : Held). x.place ≢ h.place) q.held.items
    free = not-taken q.held.items q.vacant.items vacant h.place q.places was

-- after an end
pub retired-before : (q : Queue) (calls : List Call) (i cmd : ℕ) (h : Held) (items : List Held) (less : List PlaceSet) → StandsFor q calls → i < length q.held.items → h ≡ slice_index_or q.held.items i h
    → ((d : Held) → (slice_index_or q.held.items i d).cmd ≡ cmd) → items ≡ filter (λ x. not (cmd == x.cmd)) q.held.items
    → ((k place : ℕ) (d : PlaceSet) → k < 16 → place < 16 → has_bit (slice_index_or less k d).bits place ≡ (has_bit (slice_index_or q.before k d).bits place && not (h.place == place)))
    → All (KnowsBefore (map entry items) less) (map entry items)
retired-before q calls i cmd h items less stands within at same is taken =
    subst (λ xs. All (KnowsBefore xs less) xs) (sym (ap (map entry) is ∙ map-filter q.held.items cmd))
    (before-retired (map entry q.held.items) q.before less cmd h.place stands.before
    (All-map (λ (g : Entry). (cmd == g.cmd) ≡ (h.place == g.place)) entry q.held.items (λ k d l. agree k d l (k == i) refl))
    (All-map (λ (g : Entry). g.place < 16) entry q.held.items (all-small q.held.items q.vacant.items q.places))
    taken)
  where
    this : (d : Held) → slice_index_or q.held.items i d ≡ h
    this d = at-any q.held.items i h d within at

    agree : (k : ℕ) (d : Held) → k < length q.held.items → (b : Bool) → (k == i) ≡ b → (cmd == (slice_index_or q.held.items k d).cmd) ≡ (h.place == (slice_index_or q.held.items k d).place)
    agree k d l true e =
        let here : k ≡ i = grind (arith, nat_tests) in
        let found : slice_index_or q.held.items k d ≡ h = ap (λ j. slice_index_or q.held.items j d) here ∙ this d in
        let its : cmd ≡ h.cmd = sym (same d) ∙ ap (λ (x : Held). x.cmd) (this d) in
        ap (λ (x : Held). cmd == x.cmd) found ∙ both cmd h.cmd h.place its ∙ sym (ap (λ (x : Held). h.place == x.place) found)
      where
        both : (a b p : ℕ) → a ≡ b → (a == b) ≡ (p == p)
        both a b p e = grind (arith, nat_tests)
    agree k d l false e =
        let apart : k ≢ i = grind (arith, nat_tests) in
        let cmds = own q calls k i d stands l within apart in
        let places = places-apart q.held.items k i d (at-most-once q.held.items q.vacant.items q.places) l within apart in
        none cmd _ h.place _ (λ e2. cmds (sym e2 ∙ sym (same d))) (λ e2. places (sym e2 ∙ sym (ap (λ (x : Held). x.place) (this d))))
      where
        none : (a b p r : ℕ) → a ≢ b → p ≢ r → (a == b) ≡ (p == r)
        none a b p r e f = grind (arith, nat_tests)
