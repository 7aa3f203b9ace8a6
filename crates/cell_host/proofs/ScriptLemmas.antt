-- One more action of a script that is done.
use Rattle.std.proofs.Common.{◌≡◌, ℕ, ◌+◌, ◌<◌, ◌≤◌, Bool, true, false, List, length, take, get_or, arith, sym, ◌∙◌, ap, subst, Option, Some}
use Rattle.std.specs.Prelude.{count_by, slice_get, cond, is_some, ◌++◌, ◌∷◌, []}
use Rattle.std.specs.Option.{option_map_or}
use Rattle.std.proofs.lemmas.List.Sums.{count_by_more_yes, count_by_more_no, sum_by-take-le}
use Rattle.std.proofs.lemmas.List.Elements.{All-nil, All-cons, All-same, All-weaker, All-append}
use Rattle.std.proofs.lemmas.Option.{slice_get-get_or}
use Rattle.cell_host.specs.declared.HostAction.{HostAction}
use Rattle.cell_host.specs.declared.HostAction.TheVariants.{Await}
use Rattle.cell_host.specs.declared.Took.{Took}
use Rattle.cell_host.specs.Script.{takes, next_takes, advanced, Progress, IsSound, ArePlaced}

count-take-le : (script : List HostAction) (n : ℕ) → count_by takes (take n script) ≤ count_by takes script
count-take-le script n = sum_by-take-le (λ a. cond (takes a) 1 0) script n

takes-at : (script : List HostAction) (done : ℕ) → done < length script →
    option_map_or takes (slice_get script done) false ≡ takes (get_or script done (Await 0))
takes-at script done h = ap (λ o. option_map_or takes o false) (slice_get-get_or script done (Await 0) h)

-- the next action takes a value: there is room for it, and it counts
pub room_left : (script : List HostAction) (done taken room : ℕ) → IsSound script done taken room → done < length script →
    option_map_or takes (slice_get script done) false ≡ true → taken < room
room_left script done taken room sound left is =
    let more = count_by_more_yes takes script done (Await 0) left (sym (takes-at script done left) ∙ is) in
    let most = count-take-le script (done + 1) in
    let each = sound.each in
    let enough = sound.enough in
    omega arith

pub sound_taken : (script : List HostAction) (done taken more room wider : ℕ) → IsSound script done taken room → done < length script →
    option_map_or takes (slice_get script done) false ≡ true → more ≡ taken + 1 → room ≤ wider → IsSound script (done + 1) more wider
sound_taken script done taken more room wider sound left is one wide = let enough = sound.enough in record {
  few = sound.few;
  within = omega arith;
  each = one ∙ ap (λ n. n + 1) sound.each ∙ sym (count_by_more_yes takes script done (Await 0) left (sym (takes-at script done left) ∙ is));
  enough = omega arith;
}

pub sound_done : (script : List HostAction) (done taken room : ℕ) → IsSound script done taken room → done < length script →
    option_map_or takes (slice_get script done) false ≡ false → IsSound script (done + 1) taken room
sound_done script done taken room sound left is = record {
  few = sound.few;
  within = omega arith;
  each = sound.each ∙ sym (count_by_more_no takes script done (Await 0) left (sym (takes-at script done left) ∙ is));
  enough = sound.enough;
}

pub placed_within : (done all : ℕ) (took : List Took) → done ≤ all → ArePlaced done took → ArePlaced all took
placed_within done all took low placed = All-weaker (λ (t : Took). t.action < done) (λ (t : Took). t.action < all) (λ t h. omega arith) took placed

pub placed_taken : (done value : ℕ) (took more : List Took) → more ≡ took ++ record { action = done; value = value } ∷ [] → ArePlaced done took → ArePlaced (done + 1) more
placed_taken done value took more is placed =
    let last : ArePlaced (done + 1) (record { action = done; value = value } ∷ []) = All-cons (λ (t : Took). t.action < done + 1) (record { action = done; value = value }) [] (omega arith) (All-nil (λ (t : Took). t.action < done + 1)) in
    All-same (λ (t : Took). t.action < done + 1) more (took ++ record { action = done; value = value } ∷ []) is (All-append (λ (t : Took). t.action < done + 1) took (record { action = done; value = value } ∷ []) (placed_within done (done + 1) took (omega arith) placed) last)

-- what the next step needs, seen from the fields
pub left_inside : (p q : Progress) → p ≡ q → q.done < length q.script → p.done < length p.script
left_inside p q e h = let P : Progress → Type 0 = λ p. p.done < length p.script in subst P (sym e) h

pub takes_inside : (p q : Progress) (o : Option ℕ) (b : Bool) → p ≡ q → is_some o ≡ next_takes q → is_some o ≡ b → next_takes p ≡ b
takes_inside p q o b e h is = ap next_takes e ∙ sym h ∙ is

pub advanced_inside : (p q : Progress) (o : Option ℕ) (value : ℕ) (took : List Took) → p ≡ q → o ≡ Some value → took ≡ p.took ++ record { action = p.done; value = value } ∷ [] →
    record { script = p.script; done = p.done + 1; took = took } ≡ advanced q o
advanced_inside p q o value took e is more =
    ap (λ (xs : List Took). let r : Progress = record { script = p.script; done = p.done + 1; took = xs } in r) more
    ∙ ap (λ (x : Progress). advanced x (Some value)) e ∙ ap (advanced q) (sym is)
