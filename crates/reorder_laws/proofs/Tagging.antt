-- A request for all groups becomes a status where the last command of its groups is complete, whenever that is looked at.
use Rattle.std.proofs.Common.{min, ◌≡◌, ℕ, zero, suc, ◌<◌, ◌^◌, refl, sym, ◌∙◌, ap, ap₂, subst, arith, Bool, true, false, length, Option, Some, None, cond, inl, inr}
use Rattle.std.specs.Prelude.{slice_get, ◌⊎◌, ◌==◌, ◌||◌, not, bit_and, IsBitSet}
use Rattle.std.specs.Int.{bit_at, bit_not, w32}
use Rattle.std.proofs.lemmas.Bool.{cases_eq, cases_lt, cases_Bool, false≢true}
use Rattle.std.proofs.lemmas.Nat.Bits.{bit_at-pow_same, bit_at-lt, bit_at_and, bit_at_not, bit_at_above, bit_at-zero, same_from_bits}
use Rattle.mfc_command.specs.declared.command.Command.{Command}
use Rattle.tag_groups.specs.declared.Tags.{Tags}
use Rattle.tag_groups.specs.declared.TagStatus.{TagStatus}
use Rattle.tag_groups.specs.declared.Request.{Request}
use Rattle.tag_groups.specs.Settle.{settled_tags, is_met, idle_groups}
use Rattle.cell_machine.specs.Spe.{Spe, Moves}
use Rattle.cell_machine.specs.Moves.{busy, is_complete}
use Rattle.cell_machine.proofs.Same.{get-within, eq_off, eq_is}
use Rattle.reorder_laws.specs.Hosting.{AreQuiet}
use Rattle.cell_machine.proofs.BusyGroups.{busy-small, busy-on}
use Rattle.reorder_laws.proofs.Settling.{settled-later, quiet-idle}
use Rattle.reorder_laws.specs.Facts.{AsksForAll}

-- an outstanding command of one of the groups
pub record IsBusy (m : Moves) (mask : ℕ) : Type 0 where
  pub cmd : ℕ
  pub command : Command
  pub at : slice_get m.issued cmd ≡ Some command
  pub incomplete : is_complete m cmd ≡ false
  pub bit : bit_at mask command.tag ≡ 1

abbrev Below : Moves → ℕ → ℕ → Type 0
Below m mask n = (c : ℕ) (d : Command) → c < n → slice_get m.issued c ≡ Some d → is_complete m c ≡ false → bit_at mask d.tag ≡ 0

quiet_below : (m : Moves) (mask n : ℕ) → Below m mask n ⊎ IsBusy m mask
quiet_below m mask zero = inl (λ c d low at out. absurd (omega (arith, low)))
quiet_below m mask (suc n) = go (quiet_below m mask n)
  where
    none : Below m mask n → slice_get m.issued n ≡ None → Below m mask (suc n)
    none b e c d low at out = elim (cases_eq c n) [
      | inl same ↦ absurd (nothing (sym (ap (slice_get m.issued) same ∙ e) ∙ at))
      | inr ne ↦ b c d (omega (arith, low, ne)) at out
    ]
      where
        nothing : None ≡ Some d → ⊥
        nothing e = cc

    one : (x : Command) → Below m mask n → slice_get m.issued n ≡ Some x → (is_complete m n ≡ true) ⊎ (bit_at mask x.tag ≡ 0) → Below m mask (suc n)
    one x b e h c d low at out = elim (cases_eq c n) [
      | inl same ↦
          let is : x ≡ d = some_is x d (sym e ∙ sym (ap (slice_get m.issued) same) ∙ at) in
          elim h [
            | inl complete ↦ absurd (false≢true (sym out ∙ ap (is_complete m) same ∙ complete))
            | inr off ↦ ap (λ (x : Command). bit_at mask x.tag) (sym is) ∙ off
          ]
      | inr ne ↦ b c d (omega (arith, low, ne)) at out
    ]
      where
        some_is : (x d : Command) → Some x ≡ Some d → x ≡ d
        some_is x d e = cc

    at_n : (o : Option Command) → slice_get m.issued n ≡ o → Below m mask n → Below m mask (suc n) ⊎ IsBusy m mask
    at_n None e b = inl (none b e)
    at_n (Some x) e b =
        elim (cases_Bool (is_complete m n)) [
          | inl complete ↦ inl (one x b e (inl complete))
          | inr out ↦ elim (cases_eq (bit_at mask x.tag) 0) [
            | inl off ↦ inl (one x b e (inr off))
            | inr ne ↦ let low = bit_at-lt mask x.tag in inr (record { cmd = n; command = x; at = e; incomplete = out; bit = omega (arith, low, ne) })
          ]
        ]

    go : Below m mask n ⊎ IsBusy m mask → Below m mask (suc n) ⊎ IsBusy m mask
    go (inr busy) = inr busy
    go (inl b) = at_n (slice_get m.issued n) refl b

pub quiet_or : (m : Moves) (mask : ℕ) → AreQuiet m mask ⊎ IsBusy m mask
quiet_or m mask = elim (quiet_below m mask (length m.issued)) [
  | inl b ↦ inl (λ c d at out. b c d (get-within m.issued c d at) at out)
  | inr busy ↦ inr busy
]

abbrev with_tags : Spe → Tags → Spe
with_tags P t = record P { tags = t }

abbrev tags_after : Moves → Tags → Tags
tags_after m t = settled_tags (busy m) (length m.issued) t

abbrev open_tags : ℕ → Option Request → Tags
open_tags mask request = record { mask = mask; request = request; status = None }

-- a request for all groups is met where none of them is busy
is_met_all : (q : Request) (b : ℕ) → 1 < q.how → bit_and q.mask b ≡ 0 → is_met b q ≡ true
is_met_all q b all off =
    ap (λ x. (q.how == 0) || (q.mask == 0) || cond x (not (idle_groups b q.mask == 0)) (bit_and q.mask b == 0)) (eq_off q.how 1 (λ e. omega (arith, e, all)))
    ∙ ap (λ x. (q.how == 0) || (q.mask == 0) || (x == 0)) off ∙ or_true ((q.how == 0) || (q.mask == 0))
  where
    or_true : (x : Bool) → (x || true) ≡ true
    or_true true = refl
    or_true false = refl

-- and where it is met, none of them is busy
met_off : (q : Request) (b : ℕ) → 1 < q.how → is_met b q ≡ true → bit_and q.mask b ≡ 0
met_off q b all h = go (cases_eq q.mask 0)
  where
    by_tests : (x y z w : Bool) → x ≡ false → y ≡ false → (x || y || cond z w (bit_and q.mask b == 0)) ≡ true → z ≡ false → (bit_and q.mask b == 0) ≡ true
    by_tests false false false w a c t e = t
    by_tests false false true w a c t e = absurd (false≢true (sym e))
    by_tests true y z w a c t e = absurd (false≢true (sym a))
    by_tests false true z w a c t e = absurd (false≢true (sym c))

    go : (q.mask ≡ 0) ⊎ (q.mask ≡ 0 → ⊥) → bit_and q.mask b ≡ 0
    go (inl e) = same_from_bits _ 0 (λ i. bit_at_and q.mask b i ∙ zero_bits i)
      where
        zero_bits : (i : ℕ) → min (bit_at q.mask i) (bit_at b i) ≡ bit_at 0 i
        zero_bits i = let x = ap (λ n. bit_at n i) e in let y = bit_at-zero i in omega (arith, x, y)
    go (inr ne) = eq_is (bit_and q.mask b) 0 (by_tests (q.how == 0) (q.mask == 0) (q.how == 1) (not (idle_groups b q.mask == 0)) (eq_off q.how 0 (λ e. omega (arith, e, all))) (eq_off q.mask 0 ne) h (eq_off q.how 1 (λ e. omega (arith, e, all))))

-- and then the idle groups are the same, whatever other groups are busy
idle_same : (mask a b : ℕ) → a < 2 ^ 32 → b < 2 ^ 32 → bit_and mask a ≡ 0 → bit_and mask b ≡ 0 → idle_groups a mask ≡ idle_groups b mask
idle_same mask a b la lb ea eb = same_from_bits _ _ (λ i. bit_at_and mask (bit_not w32 a) i ∙ each i ∙ sym (bit_at_and mask (bit_not w32 b) i))
  where
    off : (x i : ℕ) → bit_and mask x ≡ 0 → min (bit_at mask i) (bit_at x i) ≡ 0
    off x i e = sym (bit_at_and mask x i) ∙ ap (λ n. bit_at n i) e ∙ bit_at-zero i

    each : (i : ℕ) → min (bit_at mask i) (bit_at (bit_not w32 a) i) ≡ min (bit_at mask i) (bit_at (bit_not w32 b) i)
    each i = elim (cases_lt i 32) [
      | inl low ↦
          let x = bit_at_not w32 a i la low in
          let y = bit_at_not w32 b i lb low in
          let p = off a i ea in
          let q = off b i eb in
          let m = bit_at-lt mask i in
          let k = bit_at-lt a i in
          let l = bit_at-lt b i in
          omega (arith, x, y, p, q, m, k, l)
      | inr high ↦
          let x : bit_at (bit_not w32 a) i ≡ 0 = bit_at_above (bit_not w32 a) 32 i (not_small a) high in
          let y : bit_at (bit_not w32 b) i ≡ 0 = bit_at_above (bit_not w32 b) 32 i (not_small b) high in
          omega (arith, x, y)
    ]
      where
        not_small : (n : ℕ) → bit_not w32 n < 2 ^ 32
        not_small n = omega arith

-- the commands of n are those of m, and what is complete in m is so in n
pub record IsLater (m n : Moves) : Type 0 where
  pub issued : n.issued ≡ m.issued
  pub complete : (c : ℕ) → is_complete m c ≡ true → is_complete n c ≡ true

quiet_later : (m n : Moves) (mask : ℕ) → IsLater m n → AreQuiet m mask → AreQuiet n mask
quiet_later m n mask later quiet c d at out = quiet c d (sym (ap (λ xs. slice_get xs c) later.issued) ∙ at) (not_true (is_complete m c) (λ h. false≢true (sym out ∙ later.complete c h)))
  where
    not_true : (b : Bool) → (b ≡ true → ⊥) → b ≡ false
    not_true true h = absurd (h refl)
    not_true false h = refl

-- what the tags came to at m, looked at again at n, is what they come to at n
pub tags_late : (P : Spe) (n : Moves) (mask : ℕ) (request : Option Request) → IsLater P.moves n → ((q : Request) → request ≡ Some q → AsksForAll q) → ((c : ℕ) (d : Command) → slice_get P.moves.issued c ≡ Some d → d.tag < 32)
    → tags_after n (tags_after P.moves (open_tags mask request)) ≡ tags_after n (open_tags mask request)
tags_late P n mask None later all tags = refl
tags_late P n mask (Some q) later all tags =
    elim (quiet_or P.moves q.mask) [
      | inl quiet ↦
          let tags_n = λ (c : ℕ) (d : Command) (at : slice_get n.issued c ≡ Some d). tags c d (sym (ap (λ xs. slice_get xs c) later.issued) ∙ at) in
          let off = quiet-idle P.moves q.mask quiet in
          let off_n = quiet-idle n q.mask (quiet_later P.moves n q.mask later quiet) in
          ap (tags_after n) (met (busy P.moves) (length P.moves.issued) off) ∙ tags_of (idle_same q.mask (busy P.moves) (busy n) (busy-small P.moves tags) (busy-small n tags_n) off off_n) (ap length (sym later.issued)) ∙ sym (met (busy n) (length n.issued) off_n)
      | inr busy ↦
          let still = settled-later P0 q busy.cmd busy.command refl (all q refl).all busy.at busy.incomplete busy.bit in
          ap (λ (R : Spe). tags_after n R.tags) still
    ]
  where
    P0 : Spe
    P0 = with_tags P (open_tags mask (Some q))

    met : (b k : ℕ) → bit_and q.mask b ≡ 0 → settled_tags b k (open_tags mask (Some q)) ≡ record { mask = mask; request = None; status = Some (record { groups = idle_groups b q.mask; issued = k }) }
    met b k e = ap (λ x. cond x (record { mask = mask; request = None; status = Some (record { groups = idle_groups b q.mask; issued = k }) }) (open_tags mask (Some q))) (is_met_all q b (all q refl).all e)

    tags_of : {g h i k : ℕ} → g ≡ h → i ≡ k → ◌≡◌ {A = Tags} (record { mask = mask; request = None; status = Some (record { groups = g; issued = i }) }) (record { mask = mask; request = None; status = Some (record { groups = h; issued = k }) })
    tags_of e f = ap₂ (λ g i. record { mask = mask; request = None; status = Some (record { groups = g; issued = i }) }) e f

set_of : (n k : ℕ) → bit_at n k ≡ 1 → IsBitSet n k
set_of n k h e =
    let x = bit_at_and n (2 ^ k) k in
    let y = bit_at-pow_same k in
    let z = bit_at-zero k in
    let w = ap (λ n. bit_at n k) e in
    omega (arith, x, y, z, w, h)

-- a status that m shows is shown by n too, where what m has complete of its groups is complete in n
pub status_late : (m n : Moves) (mask other : ℕ) (request : Option Request) (t : TagStatus) → ((q : Request) → request ≡ Some q → AsksForAll q) → n.issued ≡ m.issued
    → ((c : ℕ) (d : Command) → slice_get m.issued c ≡ Some d → d.tag < 32) → ((c : ℕ) (d : Command) → slice_get n.issued c ≡ Some d → d.tag < 32)
    → (t.issued ≡ length m.issued → (c : ℕ) (d : Command) → slice_get m.issued c ≡ Some d → IsBitSet t.groups d.tag → is_complete m c ≡ true → is_complete n c ≡ true)
    → (tags_after m (open_tags mask request)).status ≡ Some t → (tags_after n (open_tags other request)).status ≡ Some t
status_late m n mask other None t all issued small_m small_n complete there = absurd (nothing there)
  where
    nothing : None ≡ Some t → ⊥
    nothing e = cc
status_late m n mask other (Some q) t all issued small_m small_n complete there = on (cases_Bool (is_met (busy m) q))
  where
    status_of : Bool → ℕ → ℕ → Option TagStatus
    status_of b groups k = cond b (Some (record { groups = groups; issued = k })) None

    is_status : (b : Bool) (mask groups k : ℕ) → (cond b (record { mask = mask; request = None; status = Some (record { groups = groups; issued = k }) }) (open_tags mask (Some q))).status ≡ cond b (Some (record { groups = groups; issued = k })) None
    is_status true mask groups k = refl
    is_status false mask groups k = refl

    nothing : None ≡ Some t → ⊥
    nothing e = cc

    some_is : (a b : TagStatus) → Some a ≡ Some b → a ≡ b
    some_is a b e = cc

    told : cond (is_met (busy m) q) (Some (record { groups = idle_groups (busy m) q.mask; issued = length m.issued })) None ≡ Some t
    told = sym (is_status (is_met (busy m) q) mask (idle_groups (busy m) q.mask) (length m.issued)) ∙ there

    on : (is_met (busy m) q ≡ true) ⊎ (is_met (busy m) q ≡ false) → (tags_after n (open_tags other (Some q))).status ≡ Some t
    on (inr no_) = absurd (nothing (sym (ap (λ b. cond b (Some (record { groups = idle_groups (busy m) q.mask; issued = length m.issued })) None) no_) ∙ told))
    on (inl yes_) = done
      where
        is_t : record { groups = idle_groups (busy m) q.mask; issued = length m.issued } ≡ t
        is_t = some_is _ t (sym (ap (λ b. cond b (Some (record { groups = idle_groups (busy m) q.mask; issued = length m.issued })) None) yes_) ∙ told)

        off_m : bit_and q.mask (busy m) ≡ 0
        off_m = met_off q (busy m) (all q refl).all yes_

        bit_set : (d : Command) → d.tag < 32 → bit_at q.mask d.tag ≡ 1 → bit_at (idle_groups (busy m) q.mask) d.tag ≡ 1
        bit_set d low one =
            let x = bit_at_not w32 (busy m) d.tag (busy-small m small_m) low in
            let y : min (bit_at q.mask d.tag) (bit_at (busy m) d.tag) ≡ 0 = sym (bit_at_and q.mask (busy m) d.tag) ∙ ap (λ k. bit_at k d.tag) off_m ∙ bit_at-zero d.tag in
            let l = bit_at-lt (busy m) d.tag in
            bit_at_and q.mask (bit_not w32 (busy m)) d.tag ∙ omega (arith, x, y, one, l)

        quiet_n : AreQuiet n q.mask
        quiet_n c d at out = elim (cases_eq (bit_at q.mask d.tag) 0) [
          | inl e ↦ e
          | inr ne ↦
              let l = bit_at-lt q.mask d.tag in
              let one : bit_at q.mask d.tag ≡ 1 = omega (arith, l, ne) in
              let at_m : slice_get m.issued c ≡ Some d = sym (ap (λ xs. slice_get xs c) issued) ∙ at in
              let busy_off : min (bit_at q.mask d.tag) (bit_at (busy m) d.tag) ≡ 0 = sym (bit_at_and q.mask (busy m) d.tag) ∙ ap (λ k. bit_at k d.tag) off_m ∙ bit_at-zero d.tag in
              let whole : is_complete m c ≡ true = not_false (is_complete m c) (λ h. let b = busy-on m c d at_m h in omega (arith, b, one, busy_off)) in
              let set : IsBitSet t.groups d.tag = subst (λ (t : TagStatus). IsBitSet t.groups d.tag) is_t (set_of (idle_groups (busy m) q.mask) d.tag (bit_set d (small_m c d at_m) one)) in
              absurd (false≢true (sym out ∙ complete (sym (ap (λ (t : TagStatus). t.issued) is_t)) c d at_m set whole))
        ]
          where
            not_false : (b : Bool) → (b ≡ false → ⊥) → b ≡ true
            not_false true h = refl
            not_false false h = absurd (h refl)

        off_n : bit_and q.mask (busy n) ≡ 0
        off_n = quiet-idle n q.mask quiet_n

        done : (tags_after n (open_tags other (Some q))).status ≡ Some t
        done =
            is_status (is_met (busy n) q) other (idle_groups (busy n) q.mask) (length n.issued)
            ∙ ap (λ b. cond b (Some (record { groups = idle_groups (busy n) q.mask; issued = length n.issued })) None) (is_met_all q (busy n) (all q refl).all off_n)
            ∙ ap₂ (λ g k. Some (record { groups = g; issued = k })) (idle_same q.mask (busy n) (busy m) (busy-small n small_n) (busy-small m small_m) off_n off_m) (ap length issued)
            ∙ ap Some is_t
