-- Two actions of which neither writes a byte that the other touches may be exchanged.
use Rattle.std.proofs.Common.{◌≡◌, ℕ, zero, suc, ◌+◌, ◌-◌, ◌≤◌, ◌<◌, Bool, true, false, ◌||◌, ◌∷◌, map, refl, sym, ap, ap₂, ◌∙◌, inl, inr, arith}
use Rattle.std.specs.Prelude.{slice_index}
use Rattle.std.specs.List.{range_with_len}
use Rattle.std.proofs.Math.Path.{fun_ext}
use Rattle.std.proofs.lemmas.Bool.{and_from, or_left, or_right, or_cases, both_ways, cond-true, cond-false, le-leb, lt-ltb, eq-eqb, false_from_ne_true}
use Rattle.cell_machine.specs.declared.effect.Place.{Place}
use Rattle.cell_machine.specs.declared.effect.Place.TheVariants.{Memory, Local}
use Rattle.cell_machine.specs.declared.effect.Span.{Span}
use Rattle.cell_machine.specs.EffectLaws.{new_of, same_place}
use Rattle.cell_machine.specs.Sound.{covers}
use Rattle.cell_machine.specs.ByteRuns.{Bytes, Action, in_span, had_by, after}
use Rattle.race_check.specs.declared.access.Access.{Access}
use Rattle.race_check.specs.Races.{access_of, Conflict, WritesInto}

-- the step fetches, reads or writes the byte
abbrev pub touches : Access → Place → ℕ → Bool
touches a place x = covers a.fetch place x || covers a.reads place x || covers a.writes place x

-- b writes no byte that a touches
pub Spares : Access → Access → Type 0
Spares b a = (p : Place) (x : ℕ) → touches a p x ≡ true → covers b.writes p x ≡ false

range_agree : (f g : ℕ → ℕ) (a n : ℕ) → ((x : ℕ) → a ≤ x → x < a + n → f x ≡ g x) → map f (range_with_len a n) ≡ map g (range_with_len a n)
range_agree f g a zero h = refl
range_agree f g a (suc n) h =
    ap₂ (λ y ys. y ∷ ys) (h a (omega arith) (omega arith)) (range_agree f g (a + 1) n (λ x low high. h x (omega arith) (omega arith)))

same_place_itself : (p : Place) → same_place p p ≡ true
same_place_itself Memory = refl
same_place_itself (Local q) = eq-eqb q q refl

covers_within : (s : Span) (x : ℕ) → s.at ≤ x → x < s.at + s.len → covers s s.place x ≡ true
covers_within s x low high = and_from _ _ (same_place_itself s.place) (and_from _ _ (le-leb _ _ low) (lt-ltb _ _ high))

bytes_kept : (bytes : Bytes) (b : Action) (s : Span) → ((p : Place) (x : ℕ) → covers s p x ≡ true → covers b.effect.writes p x ≡ false) → in_span (after bytes b) s ≡ in_span bytes s
bytes_kept bytes b s spared =
    range_agree _ _ s.at s.len (λ x low high. cond-false _ _ _ (spared s.place x (covers_within s x low high)))

-- what a has is the same before and after b
pub had_kept : (bytes : Bytes) (a b : Action) → Spares (access_of b.effect) (access_of a.effect) → had_by (after bytes b) a ≡ had_by bytes a
unfolding Spares
had_kept bytes a b spared =
    ap₂ (λ f r. record { fetched = f; read = r })
    (bytes_kept bytes b a.effect.fetch (λ p x e. spared p x (or_left _ _ (or_left _ _ e))))
    (bytes_kept bytes b a.effect.reads (λ p x e. spared p x (or_left _ _ (or_right _ _ e))))

-- the two orders leave the same bytes
pub exchange : (bytes : Bytes) (a b : Action) → Spares (access_of b.effect) (access_of a.effect) → Spares (access_of a.effect) (access_of b.effect) → after (after bytes a) b ≡ after (after bytes b) a
unfolding Spares
exchange bytes a b spares_a spares_b =
    fun_ext (λ p. fun_ext (λ x. at p x (covers a.effect.writes p x) (covers b.effect.writes p x) refl refl))
  where
    at : (p : Place) (x : ℕ) (s t : Bool) → covers a.effect.writes p x ≡ s → covers b.effect.writes p x ≡ t → after (after bytes a) b p x ≡ after (after bytes b) a p x
    at p x true true e f = absurd (both_ways _ (spares_a p x (or_right _ _ e)) f)
    at p x true false e f =
        cond-false _ _ _ f ∙ cond-true _ _ _ e ∙ sym (cond-true _ _ _ e ∙ ap (λ h. slice_index (new_of a.written h.read) (x - a.effect.writes.at)) (had_kept bytes a b spares_a))
    at p x false true e f =
        cond-true _ _ _ f ∙ ap (λ h. slice_index (new_of b.written h.read) (x - b.effect.writes.at)) (had_kept bytes b a spares_b) ∙ sym (cond-false _ _ _ e ∙ cond-true _ _ _ f)
    at p x false false e f = cond-false _ _ _ f ∙ cond-false _ _ _ e ∙ sym (cond-false _ _ _ e ∙ cond-false _ _ _ f)

-- a byte that b touches and a writes
writes_into : (a b : Access) (p : Place) (x : ℕ) → covers a.writes p x ≡ true → touches b p x ≡ true → WritesInto a b
writes_into a b p x w e =
    elim (or_cases _ _ e) [
      | inl e' ↦ elim (or_cases _ _ e') [
        | inl f ↦ inl record { place = p; at = x; in_first = w; in_second = f }
        | inr f ↦ inr (inl record { place = p; at = x; in_first = w; in_second = f })
      ]
      | inr f ↦ inr (inr record { place = p; at = x; in_first = w; in_second = f })
    ]

-- without a conflict neither writes what the other touches
pub spares_first : (a b : Access) → (Conflict a b → ⊥) → Spares a b
unfolding Spares
spares_first a b none p x e = false_from_ne_true _ (λ w. none (inl (writes_into a b p x w e)))

pub spares_second : (a b : Access) → (Conflict a b → ⊥) → Spares b a
unfolding Spares
spares_second a b none p x e = false_from_ne_true _ (λ w. none (inr (writes_into b a p x w e)))
