-- Lists that are made when a step first touches a line of theirs.
use Rattle.std.proofs.Common.{◌≡◌, ℕ, zero, suc, ◌+◌, ◌/◌, ◌<◌, ◌≤◌, Bool, List, [], ◌∷◌, ◌++◌, length, set, ◌⊎◌, inl, inr, Option, Some, refl, sym, ap, ◌∙◌, subst, arith, length-set}
use Rattle.std.specs.Prelude.{slice_get, slice_index}
use Rattle.std.proofs.lemmas.Bool.{cases_eq}
use Rattle.std.proofs.lemmas.List.{get_or-set_other, get_or-set_same}
use Rattle.std.proofs.lemmas.Option.{slice_get_within}
use Rattle.cell_machine.specs.declared.effect.Place.{Place}
use Rattle.race_check.specs.declared.access.Access.{Access}
use Rattle.race_check.specs.declared.crowd.Crowd.{Crowd}
use Rattle.race_check.specs.declared.entry.Entry.{Entry}
use Rattle.race_check.specs.declared.line.Line.{Line}
use Rattle.race_check.specs.declared.shadow.Shadow.{Shadow}
use Rattle.race_check.specs.Races.{RaceBy}
use Rattle.race_check.specs.Crowds.{Has}
use Rattle.race_check.specs.Lines.{InLine}
use Rattle.race_check.proofs.Latest.{if_then}
use Rattle.race_check.specs.Shows.{AreReal, IsAccess, IsLengthened, Kept, TakesEntry, list_of}
use Rattle.race_check.specs.Slots.{slot_of}

pub get_set_same : {X : Type 0} (xs : List X) (i : ℕ) (x : X) → i < length xs → slice_get (set xs i x) i ≡ Some x
get_set_same [] i x low = absurd (omega arith)
get_set_same (y ∷ ys) zero x low = refl
get_set_same (y ∷ ys) (suc i) x low = get_set_same ys i x (omega arith)

pub get_set_other : {X : Type 0} (xs : List X) (i j : ℕ) (x : X) → (j ≡ i → ⊥) → slice_get (set xs i x) j ≡ slice_get xs j
get_set_other [] i j x ne = refl
get_set_other (y ∷ ys) zero zero x ne = absurd (ne refl)
get_set_other (y ∷ ys) zero (suc j) x ne = refl
get_set_other (y ∷ ys) (suc i) zero x ne = refl
get_set_other (y ∷ ys) (suc i) (suc j) x ne = get_set_other ys i j x (λ e. ne (ap suc e))

get_left : {X : Type 0} (xs ys : List X) (k : ℕ) (x : X) → slice_get xs k ≡ Some x → slice_get (xs ++ ys) k ≡ Some x
get_left [] ys k x e = absurd (cc)
get_left (y ∷ xs) ys zero x e = e
get_left (y ∷ xs) ys (suc k) x e = get_left xs ys k x e

get_added : {X : Type 0} (xs : List X) (y : X) (k : ℕ) (x : X) → slice_get (xs ++ y ∷ []) k ≡ Some x → (slice_get xs k ≡ Some x) ⊎ (x ≡ y)
get_added [] y zero x e = inr (cc)
get_added [] y (suc k) x e = absurd (cc)
get_added (z ∷ xs) y zero x e = inl e
get_added (z ∷ xs) y (suc k) x e = get_added xs y k x e

-- nothing changed
pub unchanged : (shadow : Shadow) → IsLengthened shadow shadow
unchanged shadow = record { left = λ p line list got. got; rest = λ k list got. inl got }

-- an empty list came behind the others, for a slot that had none
pub lengthened : (before after : Shadow) (slot : ℕ) (list : Line) → length before.lists.items ≤ slice_index before.numbers slot → after.lists.items ≡ before.lists.items ++ list ∷ [] → after.numbers ≡ set before.numbers slot (length before.lists.items)
    → list.writes.items ≡ [] → list.reads.items ≡ [] → IsLengthened before after
lengthened before after slot list past lists numbers writes reads = record { left = left; rest = rest }
  where
    same_slot : (p : Place) (line : ℕ) → slot_of (length after.numbers) p line ≡ slot_of (length before.numbers) p line
    same_slot p line = ap (λ (ns : List ℕ). slot_of (length ns) p line) numbers ∙ ap (λ n. slot_of n p line) (length-set before.numbers slot (length before.lists.items))

    same_list : (p : Place) (line : ℕ) → (slot_of (length before.numbers) p line ≡ slot → ⊥) → list_of after p line ≡ list_of before p line
    same_list p line ne =
        ap (slice_index after.numbers) (same_slot p line)
        ∙ ap (λ ns. slice_index ns (slot_of (length before.numbers) p line)) numbers
        ∙ get_or-set_other before.numbers slot (slot_of (length before.numbers) p line) (length before.lists.items) 0 ne

    left : (p : Place) (line : ℕ) (l : Line) → slice_get before.lists.items (list_of before p line) ≡ Some l → slice_get after.lists.items (list_of after p line) ≡ Some l
    left p line l got = go (cases_eq (slot_of (length before.numbers) p line) slot)
      where
        go : (slot_of (length before.numbers) p line ≡ slot) ⊎ (slot_of (length before.numbers) p line ≡ slot → ⊥) → slice_get after.lists.items (list_of after p line) ≡ Some l
        go (inl here) =
            absurd (let inside : list_of before p line < length before.lists.items = slice_get_within before.lists.items (list_of before p line) l got in let same : list_of before p line ≡ slice_index before.numbers slot = ap (slice_index before.numbers) here in omega (arith, past))
        go (inr ne) = ap (slice_get after.lists.items) (same_list p line ne) ∙ ap (λ ls. slice_get ls (list_of before p line)) lists ∙ get_left before.lists.items (list ∷ []) (list_of before p line) l got

    rest : (k : ℕ) (l : Line) → slice_get after.lists.items k ≡ Some l → (slice_get before.lists.items k ≡ Some l) ⊎ ((l.writes.items ≡ []) × (l.reads.items ≡ []))
    rest k l got = elim (get_added before.lists.items list k l (ap (λ ls. slice_get ls k) (sym lists) ∙ got)) [
      | inl old ↦ inl old
      | inr same ↦ inr (ap (λ (x : Line). x.writes.items) same ∙ writes, ap (λ (x : Line). x.reads.items) same ∙ reads)
    ]

-- where its list stands then
pub listed : (before after : Shadow) (slot : ℕ) (p : Place) (line : ℕ) → slot ≡ slot_of (length before.numbers) p line → slot < length before.numbers → after.numbers ≡ set before.numbers slot (length before.lists.items)
    → length before.lists.items ≡ list_of after p line
listed before after slot p line is inside numbers =
    let long = ap length numbers ∙ length-set before.numbers slot (length before.lists.items) in
    let here : slot_of (length after.numbers) p line ≡ slot = ap (λ n. slot_of n p line) long ∙ sym is in
    sym (ap (slice_index after.numbers) here ∙ ap (λ ns. slice_index ns slot) numbers ∙ get_or-set_same before.numbers slot (length before.lists.items) 0 inside)

-- a list that no step touched
no_crowd : (crowds : List Crowd) (s : ℕ) (p : Place) (x : ℕ) → crowds ≡ [] → Has crowds s p x → ⊥
no_crowd crowds s p x is has = let low : has.inside.0 < 0 = subst (λ xs. has.inside.0 < length xs) is has.inside.1 in omega arith

in_none : (list : Line) (w : Bool) (s : ℕ) (p : Place) (x : ℕ) → list.writes.items ≡ [] → list.reads.items ≡ [] → InLine list w s p x → ⊥
in_none list w s p x writes reads (inl has) = no_crowd list.writes.items s p x writes has
in_none list w s p x writes reads (inr (reading, has)) = no_crowd list.reads.items s p x reads has

-- what a visit tells after that
module _ (Before : ℕ → ℕ → Type 0) (before mid after : Shadow) (e : Entry) (writes : Bool) (line : ℕ) (longer : IsLengthened before mid) where
  kept_longer : (i : ℕ) (p : Place) (x : ℕ) (w : Bool) → Kept Before before i p x w → Kept Before mid i p x w
  kept_longer i p x w k = record { line = k.line; at = longer.left p (x / 128) k.line k.at; step = k.step; inside = k.inside; safe = k.safe }

  real_longer : (steps : List Access) (j : ℕ) → AreReal steps before j → AreReal steps mid j
  real_longer steps j real =
      record {
        below = λ k l w t p x got has. elim (longer.rest k l got) [
          | inl old ↦ real.below k l w t p x old has
          | inr empty ↦ absurd (in_none l w t p x empty.0 empty.1 has)
        ];
        real = λ k l w t p x got has. elim (longer.rest k l got) [
          | inl old ↦ real.real k l w t p x old has
          | inr empty ↦ absurd (in_none l w t p x empty.0 empty.1 has)
        ];
      }

  pub takes_longer : (latest : Option ℕ) → TakesEntry Before mid after e writes line latest → TakesEntry Before before after e writes line latest
  takes_longer latest taken =
      record {
        keeps = record { keeps = λ i p x w k. taken.keeps.keeps i p x w (kept_longer i p x w k) };
        own = taken.own;
        real = λ steps access was. taken.real steps access (real_longer steps (e.step + 1) was);
        clear = λ i p x w k. taken.clear i p x w (kept_longer i p x w k);
        race = if_then latest (λ i. (steps : List Access) → IsAccess steps e writes → AreReal steps mid (e.step + 1) → RaceBy Before steps i e.step) (λ i. (steps : List Access) → IsAccess steps e writes → AreReal steps before (e.step + 1) → RaceBy Before steps i e.step)
            taken.race (λ i race steps access was. race steps access (real_longer steps (e.step + 1) was));
      }
