-- The places that are taken and those that are vacant.
use Rattle.std.proofs.Common.{◌≡◌, ◌≢◌, ℕ, zero, suc, ◌+◌, ◌<◌, ◌≤◌, ◌==◌, Bool, true, false, List, [], ◌∷◌, ◌++◌, length, map, slice_index_or, slice_set, arith, refl, sym, ◌∙◌, ap, subst, length-append}
use Rattle.std.specs.Prelude.{find, Option, Some, None, nat_lt, cond, filter, not, slice_get, remove, All}
use Rattle.std.specs.List.{range_with_len}
use Rattle.std.specs.Option.{option_map}
use Rattle.std.proofs.lemmas.Bool.Decides.{nat_tests}
use Rattle.std.proofs.Math.Seq.{map-set_same}
use Rattle.mfc_queue.specs.declared.Held.{Held}
use Rattle.mfc_queue.proofs.Walks.{get-at}
use Rattle.mfc_queue.specs.Places.{one_if, times, ArePlaces}

pub times-append : (p : ℕ) (xs ys : List ℕ) → times p (xs ++ ys) ≡ times p xs + times p ys
times-append p [] ys = omega arith
times-append p (x ∷ xs) ys = let rest = times-append p xs ys in omega arith

one-on : (b : Bool) → b ≡ true → one_if b ≡ 1
one-on true h = refl
one-on false h = cc

one-off : (b : Bool) → b ≡ false → one_if b ≡ 0
one-off false h = refl
one-off true h = cc

times-below : (p a n : ℕ) → p < a → times p (range_with_len a n) ≡ 0
times-below p a zero h = refl
times-below p a (suc n) h =
    let other : (a == p) ≡ false = grind (arith, nat_tests) in
    let none = one-off (a == p) other in
    let rest = times-below p (a + 1) n (omega arith) in
    omega arith

times-above : (p a n : ℕ) → a + n ≤ p → times p (range_with_len a n) ≡ 0
times-above p a zero h = refl
times-above p a (suc n) h =
    let other : (a == p) ≡ false = grind (arith, nat_tests) in
    let none = one-off (a == p) other in
    let rest = times-above p (a + 1) n (omega arith) in
    omega arith

times-within : (p a n : ℕ) → a ≤ p → p < a + n → times p (range_with_len a n) ≡ 1
times-within p a zero low high = absurd (omega arith)
times-within p a (suc n) low high = on (a == p) refl (λ l h. times-within p (a + 1) n l h)
  where
    on : (b : Bool) → (a == p) ≡ b → (a + 1 ≤ p → p < a + 1 + n → times p (range_with_len (a + 1) n) ≡ 1) → times p (range_with_len a (suc n)) ≡ 1
    on true e rest =
        let same : a ≡ p = grind (arith, nat_tests) in
        let one = one-on (a == p) e in
        let none = times-below p (a + 1) n (omega arith) in
        omega arith
    on false e rest =
        let apart : a ≢ p = grind (arith, nat_tests) in
        let zeroth = one-off (a == p) e in
        let more = rest (grind (arith, apart)) (omega arith) in
        omega arith

-- all places are vacant at the start
all-vacant : ArePlaces [] (range_with_len 0 16)
all-vacant = record { each = λ p. on p (nat_lt p 16) refl; many = refl }
  where
    on : (p : ℕ) (b : Bool) → nat_lt p 16 ≡ b → times p [] + times p (range_with_len 0 16) ≡ one_if b
    on p true e = let low : p < 16 = grind (arith, nat_tests) in let t = times-within p 0 16 (omega arith) (omega arith) in omega arith
    on p false e = let high : 16 ≤ p = grind (arith, nat_tests) in let t = times-above p 0 16 (omega arith) in omega arith

pub places-new : (held : List Held) (vacant : List ℕ) → held ≡ [] → vacant ≡ range_with_len 0 16 → ArePlaces (map (λ x. x.place) held) vacant
places-new held vacant none all = subst (λ ps. ArePlaces (map (λ (x : Held). x.place) held) ps) (sym all) (subst (λ xs. ArePlaces (map (λ (x : Held). x.place) xs) (range_with_len 0 16)) (sym none) all-vacant)

-- a vacant place is taken
pub places-taken : (taken old new : List ℕ) (p : ℕ) → ArePlaces taken old → old ≡ new ++ p ∷ [] → ArePlaces (taken ++ p ∷ []) new
places-taken taken old new p are is = record {
  each = λ q. let e = are.each q in let f = ap (times q) is in let g = times-append q taken (p ∷ []) in let h = times-append q new (p ∷ []) in omega arith;
  many = let e = are.many in let f = ap length is in let g = length-append taken (p ∷ []) in let h = length-append new (p ∷ []) in omega arith;
}

remove-later : {X : Type 0} (x : X) (xs : List X) (i : ℕ) → remove (x ∷ xs) (suc i) ≡ x ∷ remove xs i
remove-later x xs i = refl

-- what is held without what stands at one place of the list
pub times-remove : (q : ℕ) (xs : List Held) (i : ℕ) (h : Held) → i < length xs → h ≡ slice_index_or xs i h →
    times q (map (λ x. x.place) (remove xs i)) + one_if (h.place == q) ≡ times q (map (λ x. x.place) xs)
times-remove q [] i h within at = absurd (omega arith)
times-remove q (x ∷ xs) zero h within at =
    let e : h.place ≡ x.place = ap (λ (y : Held). y.place) at in
    let f : one_if (h.place == q) ≡ one_if (x.place == q) = ap (λ (n : ℕ). one_if (n == q)) e in
    omega arith
times-remove q (x ∷ xs) (suc i) h within at =
    let rest = times-remove q xs i h (omega arith) at in
    let e = ap (λ (ys : List Held). times q (map (λ (x : Held). x.place) ys)) (remove-later x xs i) in
    omega arith

length-remove : (xs : List Held) (i : ℕ) → i < length xs → length (remove xs i) + 1 ≡ length xs
length-remove [] i within = absurd (omega arith)
length-remove (x ∷ xs) zero within = let e : suc (length xs) ≡ length xs + 1 = omega arith in sym e
length-remove (x ∷ xs) (suc i) within = let rest = length-remove xs i (omega arith) in let e = ap length (remove-later x xs i) in omega arith

places-long : (xs : List Held) → length (map (λ x. x.place) xs) ≡ length xs
places-long [] = refl
places-long (x ∷ xs) = ap suc (places-long xs)

-- a taken place becomes vacant
pub places-left : (held : List Held) (old new : List ℕ) (i : ℕ) (h : Held) → ArePlaces (map (λ x. x.place) held) old → i < length held → h ≡ slice_index_or held i h →
    new ≡ old ++ h.place ∷ [] → ArePlaces (map (λ x. x.place) (remove held i)) new
places-left held old new i h are within at is = record {
  each = λ q. let e = are.each q in let f = ap (times q) is in let g = times-append q old (h.place ∷ []) in let r = times-remove q held i h within at in omega arith;
  many = let e = are.many in let f = ap length is in let g = length-append old (h.place ∷ []) in let r = length-remove held i within in let a = places-long held in let b = places-long (remove held i) in omega arith;
}

-- the commands held where one of them is rewritten in its place
pub places-set : (held : List Held) (i : ℕ) (h : Held) → i < length held → ((d : Held) → (slice_index_or held i d).place ≡ h.place) →
    map (λ x. x.place) (slice_set held i h) ≡ map (λ x. x.place) held
places-set held i h within at = map-set_same (λ (x : Held). x.place) held i h h (sym (at h))

-- a place that is taken is one of the sixteen
pub held-times : (xs : List Held) (i : ℕ) (h : Held) → i < length xs → h ≡ slice_index_or xs i h → 1 ≤ times h.place (map (λ x. x.place) xs)
held-times xs i h within at =
    let e = times-remove h.place xs i h within at in
    let same : (h.place == h.place) ≡ true = grind (arith, nat_tests) in
    let one = one-on (h.place == h.place) same in
    omega arith

pub place-small : (held : List Held) (vacant : List ℕ) (i : ℕ) (h : Held) → ArePlaces (map (λ x. x.place) held) vacant → i < length held → h ≡ slice_index_or held i h → h.place < 16
place-small held vacant i h are within at = on (nat_lt h.place 16) refl
  where
    on : (b : Bool) → nat_lt h.place 16 ≡ b → h.place < 16
    on true e = grind (arith, nat_tests)
    on false e = let sum = are.each h.place in let none = one-off (nat_lt h.place 16) e in let one = held-times held i h within at in absurd (omega arith)

pub at-most-once : (held : List Held) (vacant : List ℕ) → ArePlaces (map (λ x. x.place) held) vacant → (p : ℕ) → times p (map (λ x. x.place) held) ≤ 1
at-most-once held vacant are p = let sum = are.each p in on (nat_lt p 16) sum
  where
    on : (b : Bool) → times p (map (λ x. x.place) held) + times p vacant ≡ one_if b → times p (map (λ x. x.place) held) ≤ 1
    on true sum = omega arith
    on false sum = omega arith

is-found : {X : Type 0} (x y : X) → Some x ≡ Some y → x ≡ y
is-found x y h = cc

-- no two commands have one place
found-times : (xs : List Held) (cmd : ℕ) (h : Held) → find (λ x. x.cmd == cmd) xs ≡ Some h → 1 ≤ times h.place (map (λ x. x.place) xs)
found-times [] cmd h is = cc
found-times (x ∷ xs) cmd h is = on (x.cmd == cmd) refl (found-times xs cmd h)
  where
    on : (b : Bool) → (x.cmd == cmd) ≡ b → (find (λ x. x.cmd == cmd) xs ≡ Some h → 1 ≤ times h.place (map (λ x. x.place) xs)) → 1 ≤ times h.place (map (λ x. x.place) (x ∷ xs))
    on true e rest =
        let f : Some x ≡ Some h = rw e at is in
        let g : x.place ≡ h.place = ap (λ (y : Held). y.place) (is-found x h f) in
        let same : (x.place == h.place) ≡ true = grind (arith, nat_tests) in
        let one = one-on (x.place == h.place) same in
        omega arith
    on false e rest = let f : find (λ x. x.cmd == cmd) xs ≡ Some h = rw e at is in let more = rest f in omega arith

pub clash : (x : Held) (xs : List Held) (y z : Held) → x ≡ y → y.place ≡ z.place → 1 ≤ times z.place (map (λ x. x.place) xs) → times z.place (map (λ x. x.place) (x ∷ xs)) ≤ 1 → ⊥
clash x xs y z is eq one most =
    let e : x.place ≡ z.place = ap (λ (v : Held). v.place) is ∙ eq in
    let same : (x.place == z.place) ≡ true = grind (arith, nat_tests) in
    let here = one-on (x.place == z.place) same in
    omega arith

pub own-place : (xs : List Held) (a b : ℕ) (h g : Held) → ((p : ℕ) → times p (map (λ x. x.place) xs) ≤ 1) → find (λ x. x.cmd == a) xs ≡ Some h → find (λ x. x.cmd == b) xs ≡ Some g → h.place ≡ g.place → a ≡ b
own-place [] a b h g once at_a at_b same = cc
own-place (x ∷ xs) a b h g once at_a at_b same = on (x.cmd == a) (x.cmd == b) refl refl (own-place xs a b h g (λ p. let most = once p in omega arith))
  where
    on : (p q : Bool) → (x.cmd == a) ≡ p → (x.cmd == b) ≡ q → (find (λ x. x.cmd == a) xs ≡ Some h → find (λ x. x.cmd == b) xs ≡ Some g → h.place ≡ g.place → a ≡ b) → a ≡ b
    on true true ea eb rest = let f : x.cmd ≡ a = grind (arith, nat_tests) in let g : x.cmd ≡ b = grind (arith, nat_tests) in sym f ∙ g
    on true false ea eb rest =
        let f : Some x ≡ Some h = rw ea at at_a in
        let k : find (λ x. x.cmd == b) xs ≡ Some g = rw eb at at_b in
        absurd (clash x xs h g (is-found x h f) same (found-times xs b g k) (once g.place))
    on false true ea eb rest =
        let f : find (λ x. x.cmd == a) xs ≡ Some h = rw ea at at_a in
        let k : Some x ≡ Some g = rw eb at at_b in
        absurd (clash x xs g h (is-found x g k) (sym same) (found-times xs a h f) (once h.place))
    on false false ea eb rest =
        let f : find (λ x. x.cmd == a) xs ≡ Some h = rw ea at at_a in
        let k : find (λ x. x.cmd == b) xs ≡ Some g = rw eb at at_b in
        rest f k same

-- the command that stands there
pub find-place : (held : List Held) (i cmd : ℕ) (h : Held) → i < length held → h ≡ slice_index_or held i h → slice_get held i ≡ find (λ x. x.cmd == cmd) held → find (λ x. x.cmd == cmd) held ≡ Some h
find-place held i cmd h within at first = sym first ∙ get-at held i h within at

pub own-other : (held : List Held) (vacant : List ℕ) (cmd other : ℕ) (h : Held) → ArePlaces (map (λ x. x.place) held) vacant → find (λ x. x.cmd == cmd) held ≡ Some h
    → option_map (λ x. x.place) (find (λ x. x.cmd == other) held) ≡ Some h.place → other ≡ cmd
own-other held vacant cmd other h are found is = on (find (λ x. x.cmd == other) held) refl is
  where
    on : (o : Option Held) → find (λ x. x.cmd == other) held ≡ o → option_map (λ x. x.place) o ≡ Some h.place → other ≡ cmd
    on None e p = cc
    on (Some g) e p = own-place held other cmd g h (at-most-once held vacant are) e found (is-found g.place h.place p)

-- where a command is found after a change
pub set-found : (xs : List Held) (i : ℕ) (h : Held) (cmd : ℕ) → i < length xs → ((d : Held) → (slice_index_or xs i d).cmd ≡ h.cmd) → ((d : Held) → (slice_index_or xs i d).place ≡ h.place)
    → option_map (λ x. x.place) (find (λ x. x.cmd == cmd) (slice_set xs i h)) ≡ option_map (λ x. x.place) (find (λ x. x.cmd == cmd) xs)
set-found [] i h cmd within as_cmd as_place = absurd (omega arith)
set-found (x ∷ xs) zero h cmd within as_cmd as_place = on (h.cmd == cmd) refl
  where
    on : (b : Bool) → (h.cmd == cmd) ≡ b → option_map (λ (x : Held). x.place) (find (λ (x : Held). x.cmd == cmd) (h ∷ xs)) ≡ option_map (λ (x : Held). x.place) (find (λ (x : Held). x.cmd == cmd) (x ∷ xs))
    on true e = let f : (x.cmd == cmd) ≡ true = ap (λ n. n == cmd) (as_cmd h) ∙ e in rw (e, f) (ap Some (sym (as_place h)))
    on false e = let f : (x.cmd == cmd) ≡ false = ap (λ n. n == cmd) (as_cmd h) ∙ e in rw (e, f) refl
set-found (x ∷ xs) (suc i) h cmd within as_cmd as_place = on (x.cmd == cmd) (set-found xs i h cmd (omega arith) as_cmd as_place)
  where
    on : (b : Bool) → option_map (λ (x : Held). x.place) (find (λ (x : Held). x.cmd == cmd) (slice_set xs i h)) ≡ option_map (λ (x : Held). x.place) (find (λ (x : Held). x.cmd == cmd) xs)
        → option_map (λ (x : Held). x.place) (cond b (Some x) (find (λ (x : Held). x.cmd == cmd) (slice_set xs i h))) ≡ option_map (λ (x : Held). x.place) (cond b (Some x) (find (λ (x : Held). x.cmd == cmd) xs))
    on true rest = refl
    on false rest = rest

apart : (a b : ℕ) → a ≢ b → (b == a) ≡ false
apart a b h = grind (arith, nat_tests)

pub append-found : (xs : List Held) (h : Held) (cmd : ℕ) → cmd ≢ h.cmd → find (λ x. x.cmd == cmd) (xs ++ h ∷ []) ≡ find (λ x. x.cmd == cmd) xs
append-found [] h cmd differs = let e : (h.cmd == cmd) ≡ false = apart cmd h.cmd differs in rw e refl
append-found (x ∷ xs) h cmd differs = ap (λ o. cond (x.cmd == cmd) (Some x) o) (append-found xs h cmd differs)

pub remove-found : (xs : List Held) (i : ℕ) (h : Held) (cmd : ℕ) → i < length xs → h ≡ slice_index_or xs i h → cmd ≢ h.cmd → find (λ x. x.cmd == cmd) (remove xs i) ≡ find (λ x. x.cmd == cmd) xs
remove-found [] i h cmd within at differs = absurd (omega arith)
remove-found (x ∷ xs) zero h cmd within at differs =
    let e : (h.cmd == cmd) ≡ false = apart cmd h.cmd differs in
    let f : (x.cmd == cmd) ≡ false = ap (λ (y : Held). y.cmd == cmd) (sym at) ∙ e in
    sym (ap (λ b. cond b (Some x) (find (λ (x : Held). x.cmd == cmd) xs)) f)
remove-found (x ∷ xs) (suc i) h cmd within at differs =
    ap (find (λ (x : Held). x.cmd == cmd)) (remove-later x xs i) ∙ ap (λ o. cond (x.cmd == cmd) (Some x) o) (remove-found xs i h cmd (omega arith) at differs)

-- without one command, no other of its number being there
filter-all : (xs : List Held) (cmd : ℕ) → ((j : ℕ) (d : Held) → j < length xs → (slice_index_or xs j d).cmd ≢ cmd) → filter (λ x. not (cmd == x.cmd)) xs ≡ xs
filter-all [] cmd differs = refl
filter-all (x ∷ xs) cmd differs =
    let e : (cmd == x.cmd) ≡ false = apart x.cmd cmd (differs 0 x (omega arith)) in
    ap (λ b. cond (not b) (x ∷ filter (λ (x : Held). not (cmd == x.cmd)) xs) (filter (λ (x : Held). not (cmd == x.cmd)) xs)) e
    ∙ ap (λ ys. x ∷ ys) (filter-all xs cmd (λ j d l. differs (suc j) d (omega arith)))

pub remove-filter : (xs : List Held) (i cmd : ℕ) → i < length xs → ((d : Held) → (slice_index_or xs i d).cmd ≡ cmd)
    → ((j : ℕ) (d : Held) → j < length xs → j ≢ i → (slice_index_or xs j d).cmd ≢ cmd) → remove xs i ≡ filter (λ x. not (cmd == x.cmd)) xs
remove-filter [] i cmd within at differs = absurd (omega arith)
remove-filter (x ∷ xs) zero cmd within at differs =
    let is : x.cmd ≡ cmd = at x in
    let e : (cmd == x.cmd) ≡ true = grind (arith, nat_tests) in
    sym (ap (λ b. cond (not b) (x ∷ filter (λ (x : Held). not (cmd == x.cmd)) xs) (filter (λ (x : Held). not (cmd == x.cmd)) xs)) e
    ∙ filter-all xs cmd (λ j d l. differs (suc j) d (omega arith) (omega arith)))
remove-filter (x ∷ xs) (suc i) cmd within at differs =
    let e : (cmd == x.cmd) ≡ false = apart x.cmd cmd (differs 0 x (omega arith) (omega arith)) in
    remove-later x xs i ∙ ap (λ ys. x ∷ ys) (remove-filter xs i cmd (omega arith) at (λ j d l n. differs (suc j) d (omega arith) (λ same. n (omega arith))))
    ∙ sym (ap (λ b. cond (not b) (x ∷ filter (λ (x : Held). not (cmd == x.cmd)) xs) (filter (λ (x : Held). not (cmd == x.cmd)) xs)) e)

-- what stands at one index, whatever is read beyond the end
pub at-any : (xs : List Held) (i : ℕ) (h d : Held) → i < length xs → h ≡ slice_index_or xs i h → slice_index_or xs i d ≡ h
at-any [] i h d within at = absurd (omega arith)
at-any (x ∷ xs) zero h d within at = sym at
at-any (x ∷ xs) (suc i) h d within at = at-any xs i h d (omega arith) at

-- a command is rewritten in its place
pub places-rewritten : (held new : List Held) (vacant : List ℕ) (i : ℕ) (old h : Held) → ArePlaces (map (λ x. x.place) held) vacant → i < length held → old ≡ slice_index_or held i old
    → h.place ≡ old.place → new ≡ slice_set held i h → ArePlaces (map (λ x. x.place) new) vacant
places-rewritten held new vacant i old h are within at same is =
    subst (λ ps. ArePlaces ps vacant)
    (sym (ap (map (λ (x : Held). x.place)) is ∙ places-set held i h within (λ d. ap (λ (x : Held). x.place) (at-any held i old d within at) ∙ sym same))) are

pub found-rewritten : (held new : List Held) (i cmd : ℕ) (old h : Held) → i < length held → old ≡ slice_index_or held i old → h.cmd ≡ old.cmd → h.place ≡ old.place → new ≡ slice_set held i h
    → option_map (λ x. x.place) (find (λ x. x.cmd == cmd) new) ≡ option_map (λ x. x.place) (find (λ x. x.cmd == cmd) held)
found-rewritten held new i cmd old h within at as_cmd as_place is =
    ap (λ (xs : List Held). option_map (λ (x : Held). x.place) (find (λ (x : Held). x.cmd == cmd) xs)) is
    ∙ set-found held i h cmd within (λ d. ap (λ (x : Held). x.cmd) (at-any held i old d within at) ∙ sym as_cmd) (λ d. ap (λ (x : Held). x.place) (at-any held i old d within at) ∙ sym as_place)

map-snoc : (xs : List Held) (x : Held) → map (λ x. x.place) (xs ++ x ∷ []) ≡ map (λ x. x.place) xs ++ x.place ∷ []
map-snoc [] x = refl
map-snoc (y ∷ xs) x = ap (λ ys. y.place ∷ ys) (map-snoc xs x)

-- a command is issued into a vacant place
pub places-issued : (held new : List Held) (old vacant : List ℕ) (h : Held) → ArePlaces (map (λ x. x.place) held) old → new ≡ held ++ h ∷ [] → old ≡ vacant ++ h.place ∷ []
    → ArePlaces (map (λ x. x.place) new) vacant
places-issued held new old vacant h are is was =
    subst (λ ps. ArePlaces ps vacant) (sym (ap (map (λ (x : Held). x.place)) is ∙ map-snoc held h)) (places-taken (map (λ x. x.place) held) old vacant h.place are was)

pub room : (held : List Held) (old vacant : List ℕ) (p : ℕ) → ArePlaces (map (λ x. x.place) held) old → old ≡ vacant ++ p ∷ [] → length held < 16
room held old vacant p are was =
    let e = are.many in let f = ap length was in let g = length-append vacant (p ∷ []) in let h = places-long held in omega arith

pub index-any : (xs : List Held) (i : ℕ) (d e : Held) → i < length xs → slice_index_or xs i d ≡ slice_index_or xs i e
index-any [] i d e h = absurd (omega arith)
index-any (x ∷ xs) zero d e h = refl
index-any (x ∷ xs) (suc i) d e h = index-any xs i d e (omega arith)

-- each place is one of the sixteen
pub all-small : (held : List Held) (vacant : List ℕ) → ArePlaces (map (λ x. x.place) held) vacant → All (λ x. x.place < 16) held
all-small held vacant are k d l = place-small held vacant k (slice_index_or held k d) are l (index-any held k d (slice_index_or held k d) l)

at-most-one : (b : Bool) → one_if b ≤ 1
at-most-one true = omega arith
at-most-one false = omega arith

-- a place that was vacant is nobody's
pub not-taken : (held : List Held) (old vacant : List ℕ) (p : ℕ) → ArePlaces (map (λ x. x.place) held) old → old ≡ vacant ++ p ∷ [] → (p < 16) × All (λ x. x.place ≢ p) held
not-taken held old vacant p are is = (small, other)
  where
    taken : times p (map (λ (x : Held). x.place) held) + times p vacant + 1 ≡ one_if (nat_lt p 16)
    taken =
        let sum = are.each p in
        let f = ap (times p) is in
        let g = times-append p vacant (p ∷ []) in
        let same : (p == p) ≡ true = grind (arith, nat_tests) in
        let one = one-on (p == p) same in
        omega arith

    small : p < 16
    small = on (nat_lt p 16) refl taken
      where
        on : (b : Bool) → nat_lt p 16 ≡ b → times p (map (λ (x : Held). x.place) held) + times p vacant + 1 ≡ one_if b → p < 16
        on true e t = grind (arith, nat_tests)
        on false e t = absurd (omega arith)

    other : All (λ (x : Held). x.place ≢ p) held
    other k d l same =
        let many = held-times held k (slice_index_or held k d) l (index-any held k d (slice_index_or held k d) l) in
        let at = ap (λ n. times n (map (λ (x : Held). x.place) held)) same in
        let sum = taken in
        let most = at-most-one (nat_lt p 16) in
        omega arith

-- two commands have two places
pub places-apart : (xs : List Held) (i j : ℕ) (d : Held) → ((p : ℕ) → times p (map (λ x. x.place) xs) ≤ 1) → i < length xs → j < length xs → i ≢ j → (slice_index_or xs i d).place ≢ (slice_index_or xs j d).place
places-apart [] i j d once wi wj differ same = absurd (omega arith)
places-apart (x ∷ xs) zero zero d once wi wj differ same = differ refl
places-apart (x ∷ xs) zero (suc j) d once wi wj differ same =
    clash x xs x (slice_index_or xs j d) refl same (held-times xs j (slice_index_or xs j d) (omega arith) (index-any xs j d (slice_index_or xs j d) (omega arith))) (once (slice_index_or xs j d).place)
places-apart (x ∷ xs) (suc i) zero d once wi wj differ same =
    clash x xs x (slice_index_or xs i d) refl (sym same) (held-times xs i (slice_index_or xs i d) (omega arith) (index-any xs i d (slice_index_or xs i d) (omega arith))) (once (slice_index_or xs i d).place)
places-apart (x ∷ xs) (suc i) (suc j) d once wi wj differ same =
    places-apart xs i j d (λ p. let most = once p in omega arith) (omega arith) (omega arith) (λ e. differ (ap suc e)) same
