-- What the end of a step does to the tags of a processor.
use Rattle.std.proofs.Common.{◌≡◌, ℕ, zero, suc, ◌+◌, ◌^◌, ◌<◌, ◌≤◌, ◌==◌, ◌||◌, not, Bool, true, false, List, ◌∷◌, length, map, arith, refl, sym, ◌∙◌, ap, subst, true≢false, min, max}
use Rattle.std.specs.Prelude.{Option, Some, None, slice_get, filter, cond, bit_and, bit_or, fold, nat_lt}
use Rattle.std.specs.List.{range_with_len}
use Rattle.std.specs.Option.{option_map_or}
use Rattle.std.specs.Int.{bit_at, bit_not, w32}
use Rattle.std.proofs.lemmas.Bool.Decides.{nat_tests}
use Rattle.std.proofs.lemmas.Nat.Bits.{bit_at_and, bit_at_not, bit_at_or, bit_at-lt, bit_at-zero, bit_at-pow_other, bit_at_above, same_from_bits}
use Rattle.std.proofs.lemmas.Option.{slice_get-map}
use Rattle.mfc_command.specs.declared.command.Command.{Command}
use Rattle.mfc_command.specs.Order.{busy_groups, with_group, outstanding}
use Rattle.tag_groups.specs.declared.Request.{Request}
use Rattle.tag_groups.specs.declared.Tags.{Tags}
use Rattle.tag_groups.specs.Settle.{idle_groups, is_met, fixed_at, settled_tags}
use Rattle.cell_machine.specs.Spe.{Spe, Moves}
use Rattle.cell_machine.specs.Moves.{is_complete, busy}
use Rattle.cell_machine.specs.State.{State}
use Rattle.cell_machine.specs.Tags.{settled}
use Rattle.cell_machine.specs.Next.{act, with_events, ended_by}
use Rattle.cell_machine.proofs.BusyGroups.{busy-on, busy-small}
use Rattle.cell_machine.proofs.Same.{eq_is, eq_not, eq_off}
use Rattle.reorder_laws.specs.Hosting.{SettledTwice, NextSettles, SettledIdle, AreQuiet, SettledLater, SettledNow}
use Rattle.reorder_laws.proofs.Hosting.{map_some}

-- ---- twice

abbrev status_tags : ℕ → ℕ → Tags → Request → Tags
status_tags b n t r = record { mask = t.mask; request = None; status = Some (record { groups = idle_groups b r.mask; issued = n }) }

-- a request that is met is gone, and one that isn't isn't met later
twice : (b n : ℕ) (t : Tags) (o : Option Request) → t.request ≡ o → settled_tags b n (fixed_at b n t o) ≡ fixed_at b n t o
twice b n t None e = ap (fixed_at b n t) e
twice b n t (Some r) e = on (is_met b r) refl
  where
    on : (c : Bool) → is_met b r ≡ c → settled_tags b n (cond c (status_tags b n t r) t) ≡ cond c (status_tags b n t r) t
    on true met = refl
    on false met = ap (fixed_at b n t) e ∙ ap (λ c. cond c (status_tags b n t r) t) met

pub settled-twice : SettledTwice
settled-twice P = ap (λ t. record P { tags = t }) (twice (busy P.moves) (length P.moves.issued) P.tags P.tags.request refl)

found : (spes : List Spe) (p : ℕ) (P : Spe) → slice_get (map settled spes) p ≡ Some P → settled P ≡ P
found spes p P at =
    let r = map_some settled (slice_get spes p) P (sym (slice_get-map settled spes p) ∙ at) in
    subst (λ K. settled K ≡ K) r.2 (settled-twice r.0)

pub next-settles : NextSettles
next-settles M N s p P is at =
    let r = map_some (ended_by M s) (act M s) N is in
    found (with_events M s r.0).spes p P (ap (λ (K : State). slice_get K.spes p) r.2 ∙ at)

-- ---- without a request

pub settled-idle : SettledIdle
settled-idle P none = ap (λ o. record P { tags = fixed_at (busy P.moves) (length P.moves.issued) P.tags o }) none

-- ---- a request for all groups

met_all : (b : ℕ) (r : Request) → 1 < r.how → is_met b r ≡ (r.mask == 0 || bit_and r.mask b == 0)
met_all b r all =
    let zero_off : (r.how == 0) ≡ false = grind (arith, nat_tests) in
    let one_off : (r.how == 1) ≡ false = grind (arith, nat_tests) in
    rw (zero_off, one_off) refl

pub settled-later : SettledLater
settled-later P r c d pending all at open_still set =
    let b = busy P.moves in
    let one = busy-on P.moves c d at open_still in
    let both_on : bit_at (bit_and r.mask b) d.tag ≡ 1 = bit_at_and r.mask b d.tag ∙ omega (arith, one, set) in
    let some_mask : (r.mask == 0) ≡ false = eq_off r.mask 0 (λ e. let z = bit_at-zero d.tag in let h = ap (λ m. bit_at m d.tag) e in omega (arith, z, h, set)) in
    let some_both : (bit_and r.mask b == 0) ≡ false = eq_off (bit_and r.mask b) 0 (λ e. let z = bit_at-zero d.tag in let h = ap (λ m. bit_at m d.tag) e in omega (arith, z, h, both_on)) in
    let unmet : is_met b r ≡ false = met_all b r all ∙ rw (some_mask, some_both) refl in
    ap (λ t. record P { tags = t })
    (ap (fixed_at b (length P.moves.issued) P.tags) pending ∙ ap (λ c. cond c (status_tags b (length P.moves.issued) P.tags r) P.tags) unmet)

-- these bits have none in common
abbrev Apart : ℕ → ℕ → Type 0
Apart mask bits = (i : ℕ) → min (bit_at mask i) (bit_at bits i) ≡ 0

apart_zero : (mask : ℕ) → Apart mask 0
apart_zero mask i = let z = bit_at-zero i in omega (arith, z)

apart_pow : (mask bits k : ℕ) → Apart mask bits → bit_at mask k ≡ 0 → Apart mask (bit_or bits (2 ^ k))
apart_pow mask bits k apart off i = on (i == k) refl
  where
    on : (e : Bool) → (i == k) ≡ e → min (bit_at mask i) (bit_at (bit_or bits (2 ^ k)) i) ≡ 0
    on true e = let h : bit_at mask i ≡ 0 = ap (bit_at mask) (eq_is i k e) ∙ off in omega (arith, h)
    on false e =
        let h = bit_at_or bits (2 ^ k) i in
        let g = bit_at-pow_other k i (eq_not i k e) in
        let f = apart i in
        ap (min (bit_at mask i)) (h ∙ ap (max (bit_at bits i)) g ∙ (let z : max (bit_at bits i) 0 ≡ bit_at bits i = omega arith in z)) ∙ f

apart_group : (issued : List Command) (mask bits c : ℕ) → Apart mask bits → ((d : Command) → slice_get issued c ≡ Some d → bit_at mask d.tag ≡ 0) → Apart mask (with_group issued bits c)
apart_group issued mask bits c apart off = on (slice_get issued c) refl
  where
    on : (o : Option Command) → slice_get issued c ≡ o → Apart mask (bit_or bits (option_map_or (λ (d : Command). 2 ^ d.tag) o 0))
    on None at i = let h = bit_at_or bits 0 i in let z = bit_at-zero i in let f = apart i in ap (min (bit_at mask i)) (h ∙ ap (max (bit_at bits i)) z ∙ (let e : max (bit_at bits i) 0 ≡ bit_at bits i = omega arith in e)) ∙ f
    on (Some d) at i = apart_pow mask bits d.tag apart (off d at) i

apart_all : (issued : List Command) (mask : ℕ) (t : ℕ → Bool) (a n bits : ℕ) → Apart mask bits → ((c : ℕ) (d : Command) → slice_get issued c ≡ Some d → t c ≡ true → bit_at mask d.tag ≡ 0)
    → Apart mask (fold (with_group issued) bits (filter t (range_with_len a n)))
apart_all issued mask t a zero bits apart off = apart
apart_all issued mask t a (suc n) bits apart off = on (t a) refl (λ x h. apart_all issued mask t (a + 1) n x h off)
  where
    on : (b : Bool) → t a ≡ b → ((x : ℕ) → Apart mask x → Apart mask (fold (with_group issued) x (filter t (range_with_len (a + 1) n))))
        → Apart mask (fold (with_group issued) bits (cond b (a ∷ filter t (range_with_len (a + 1) n)) (filter t (range_with_len (a + 1) n))))
    on true e later = later (with_group issued bits a) (apart_group issued mask bits a apart (λ d at. off a d at e))
    on false e later = later bits apart

not_is : (b : Bool) → not b ≡ true → b ≡ false
not_is true h = absurd (true≢false (sym h))
not_is false h = refl

busy_apart : (m : Moves) (mask : ℕ) → AreQuiet m mask → Apart mask (busy m)
unfolding busy_groups outstanding
busy_apart m mask quiet = apart_all m.issued mask (λ c. not (is_complete m c)) 0 (length m.issued) 0 (apart_zero mask) (λ c d at passes. quiet c d at (not_is (is_complete m c) passes))

-- no outstanding command is of a group of the mask exactly where the two have no bit in common
pub quiet-idle : (m : Moves) (mask : ℕ) → AreQuiet m mask → bit_and mask (busy m) ≡ 0
quiet-idle m mask quiet = same_from_bits (bit_and mask (busy m)) 0 (λ i. bit_at_and mask (busy m) i ∙ busy_apart m mask quiet i ∙ sym (bit_at-zero i))

-- then all of its groups are idle
all_idle : (b mask : ℕ) → b < 2 ^ 32 → mask < 2 ^ 32 → Apart mask b → idle_groups b mask ≡ mask
all_idle b mask small low apart = same_from_bits (bit_and mask (bit_not w32 b)) mask (λ i. bit_at_and mask (bit_not w32 b) i ∙ on i (nat_lt i 32) refl)
  where
    on : (i : ℕ) (c : Bool) → nat_lt i 32 ≡ c → min (bit_at mask i) (bit_at (bit_not w32 b) i) ≡ bit_at mask i
    on i true e = let within : i < 32 = grind (arith, nat_tests) in let h = bit_at_not w32 b i small within in let f = apart i in let l = bit_at-lt mask i in let k = bit_at-lt b i in omega (arith, h, f, l, k)
    on i false e = let above : 32 ≤ i = grind (arith, nat_tests) in let h = bit_at_above mask 32 i low above in omega (arith, h)

pub settled-now : SettledNow
settled-now P r pending all low tags quiet =
    let b = busy P.moves in
    let none = quiet-idle P.moves r.mask quiet in
    let met : is_met b r ≡ true = met_all b r all ∙ ap (λ x. r.mask == 0 || x == 0) none ∙ or_true (r.mask == 0) in
    let groups = all_idle b r.mask (busy-small P.moves tags) low (busy_apart P.moves r.mask quiet) in
    ap (λ t. record P { tags = t })
    (ap (fixed_at b (length P.moves.issued) P.tags) pending ∙ ap (λ c. cond c (status_tags b (length P.moves.issued) P.tags r) P.tags) met
    ∙ ap (λ g. record { mask = P.tags.mask; request = None; status = Some (record { groups = g; issued = length P.moves.issued }) }) groups)
  where
    or_true : (x : Bool) → (x || true) ≡ true
    or_true true = refl
    or_true false = refl
