-- What one visit of a line keeps, adds and tells.
use Rattle.std.proofs.Common.{◌≡◌, ℕ, ◌+◌, ◌/◌, ◌<◌, ◌≤◌, Bool, true, List, length, set, ◌⊎◌, inl, inr, Option, Some, refl, sym, ap, ◌∙◌, subst, arith}
use Rattle.std.specs.Prelude.{slice_get, slice_index}
use Rattle.std.proofs.lemmas.Bool.{cases_eq}
use Rattle.std.proofs.lemmas.Option.{same_Some}
use Rattle.cell_machine.specs.declared.effect.Place.{Place}
use Rattle.race_check.specs.declared.access.Access.{Access}
use Rattle.cell_machine.specs.Sound.{covers}
use Rattle.race_check.specs.Races.{Conflict, RaceBy, WritesInto}
use Rattle.race_check.specs.declared.entry.Entry.{Entry}
use Rattle.race_check.specs.declared.line.Line.{Line}
use Rattle.race_check.specs.declared.shadow.Shadow.{Shadow}
use Rattle.race_check.specs.Entries.{Holds}
use Rattle.race_check.specs.Crowds.{IsSafe, UpTo}
use Rattle.race_check.specs.Lines.{InLine, IsVisited, LineClashes}
use Rattle.race_check.proofs.Latest.{if_then, up_from}
use Rattle.race_check.proofs.Lists.{get_set_same, get_set_other}
use Rattle.race_check.specs.Shows.{AreReal, IsAccess, IsReal, Kept, TakesEntry, Touch, Fetched, Reads, Writes, list_of}
use Rattle.race_check.specs.Slots.{slot_of}

-- what is before a step that is before another is before that one
abbrev pub IsTransitive : (ℕ → ℕ → Type 0) → Type 0
IsTransitive Before = (i m j : ℕ) → Before i m → Before m j → Before i j

safe_trans : (Before : ℕ → ℕ → Type 0) → IsTransitive Before → (i m j : ℕ) → IsSafe Before i m → IsSafe Before m j → IsSafe Before i j
safe_trans Before trans i m j (inl e) s = subst (λ k. IsSafe Before k j) (sym e) s
safe_trans Before trans i m j (inr o) (inl e) = inr (subst (Before i) e o)
safe_trans Before trans i m j (inr o) (inr q) = inr (trans i m j o q)

safe_low : (Before : ℕ → ℕ → Type 0) → ((i j : ℕ) → Before i j → i < j) → (i m : ℕ) → IsSafe Before i m → i ≤ m
safe_low Before up i m (inl e) = omega (arith, e)
safe_low Before up i m (inr o) = let low = up i m o in omega (arith, low)

-- two touches of one byte, of which one writes
touch_writes : (a : Access) (p : Place) (x : ℕ) (w : Bool) → Touch a p x w → w ≡ true → covers a.writes p x ≡ true
touch_writes a p x w (Fetched c) e = absurd (cc)
touch_writes a p x w (Reads c) e = absurd (cc)
touch_writes a p x w (Writes c) e = c

writes_into : (a b : Access) (p : Place) (x : ℕ) (w : Bool) → covers a.writes p x ≡ true → Touch b p x w → WritesInto a b
writes_into a b p x w c (Fetched d) = inl record { place = p; at = x; in_first = c; in_second = d }
writes_into a b p x w c (Reads d) = inr (inl record { place = p; at = x; in_first = c; in_second = d })
writes_into a b p x w c (Writes d) = inr (inr record { place = p; at = x; in_first = c; in_second = d })

conflict_of : (a b : Access) (p : Place) (x : ℕ) (v w : Bool) → Touch a p x v → Touch b p x w → (v ≡ true) ⊎ (w ≡ true) → Conflict a b
conflict_of a b p x v w t u (inl e) = inl (writes_into a b p x w (touch_writes a p x v t e) u)
conflict_of a b p x v w t u (inr e) = inr (writes_into b a p x v (touch_writes b p x w u e) t)

-- the list s has become `new`
module _ (Before : ℕ → ℕ → Type 0) (trans : IsTransitive Before) (up : (i j : ℕ) → Before i j → i < j) (before after : Shadow) (s : ℕ) (old new : Line) (e : Entry) (writes : Bool) (line : ℕ) (inside : s < length before.lists.items) (numbers : after.numbers ≡ before.numbers)
    (lists : after.lists.items ≡ set before.lists.items s new) (at : slice_get before.lists.items s ≡ Some old) (is : s ≡ list_of before e.place line) where
  same_list : (p : Place) (l : ℕ) → list_of after p l ≡ list_of before p l
  same_list p l = ap (λ (ns : List ℕ). slice_index ns (slot_of (length ns) p l)) numbers

  got_new : slice_get after.lists.items s ≡ Some new
  got_new = ap (λ ls. slice_get ls s) lists ∙ get_set_same before.lists.items s new inside

  got_other : (k : ℕ) → (k ≡ s → ⊥) → slice_get after.lists.items k ≡ slice_get before.lists.items k
  got_other k ne = ap (λ ls. slice_get ls k) lists ∙ get_set_other before.lists.items s k new ne

  here : (p : Place) (x : ℕ) → list_of before p (x / 128) ≡ s → slice_get after.lists.items (list_of after p (x / 128)) ≡ Some new
  here p x q = ap (slice_get after.lists.items) (same_list p (x / 128) ∙ q) ∙ got_new

  is_old : (k : ℕ) (l : Line) → k ≡ s → slice_get before.lists.items k ≡ Some l → l ≡ old
  is_old k l q got = same_Some _ _ (sym got ∙ (ap (slice_get before.lists.items) q ∙ at))

  is_new : (k : ℕ) (l : Line) → k ≡ s → slice_get after.lists.items k ≡ Some l → l ≡ new
  is_new k l q got = same_Some _ _ (sym got ∙ (ap (slice_get after.lists.items) q ∙ got_new))

  -- a byte of the entry in the line is in that list
  in_list : (p : Place) (x : ℕ) → Holds e p x → x / 128 ≡ line → list_of before p (x / 128) ≡ s
  in_list p x h l = ap (list_of before p) l ∙ (ap (λ q. list_of before q line) (sym h.place) ∙ sym is)

  module _ (latest : Option ℕ) (visited : IsVisited Before e writes old new latest) where
    own : (p : Place) (x : ℕ) → Holds e p x → x / 128 ≡ line → Kept Before after e.step p x writes
    own p x h l = record { line = new; at = here p x (in_list p x h l); step = e.step; inside = visited.own p x h; safe = inl refl }

    keeps : (i : ℕ) (p : Place) (x : ℕ) (w : Bool) → Kept Before before i p x w → Kept Before after i p x w
    keeps i p x w k = go (cases_eq (list_of before p (x / 128)) s)
      where
        go : (list_of before p (x / 128) ≡ s) ⊎ (list_of before p (x / 128) ≡ s → ⊥) → Kept Before after i p x w
        go (inr ne) =
            record {
              line = k.line;
              at = ap (slice_get after.lists.items) (same_list p (x / 128)) ∙ (got_other (list_of before p (x / 128)) ne ∙ k.at);
              step = k.step;
              inside = k.inside;
              safe = k.safe;
            }
        go (inl q) = cases (visited.left w k.step p x (subst (λ l. InLine l w k.step p x) (is_old _ k.line q k.at) k.inside))
          where
            cases : InLine new w k.step p x ⊎ (InLine new w e.step p x × IsSafe Before k.step e.step) → Kept Before after i p x w
            cases (inl has) = record { line = new; at = here p x q; step = k.step; inside = has; safe = k.safe }
            cases (inr (has, safe)) = record { line = new; at = here p x q; step = e.step; inside = has; safe = safe_trans Before trans i k.step e.step k.safe safe }

    real : (steps : List Access) → IsAccess steps e writes → AreReal steps before (e.step + 1) → AreReal steps after (e.step + 1)
    real steps access was = record { below = λ k l w t p x got has. below k l w t p x got has (cases_eq k s); real = λ k l w t p x got has. touches k l w t p x got has (cases_eq k s) }
      where
        below : (k : ℕ) (l : Line) (w : Bool) (t : ℕ) (p : Place) (x : ℕ) → slice_get after.lists.items k ≡ Some l → InLine l w t p x → (k ≡ s) ⊎ (k ≡ s → ⊥) → t < e.step + 1
        below k l w t p x got has (inr ne) = was.below k l w t p x (sym (got_other k ne) ∙ got) has
        below k l w t p x got has (inl q) = at_new (visited.rest w t p x (subst (λ l. InLine l w t p x) (is_new k l q got) has))
          where
            at_new : InLine old w t p x ⊎ ((w ≡ true → writes ≡ true) × Holds e p x × (t ≡ e.step)) → t < e.step + 1
            at_new (inl had) = was.below s old w t p x at had
            at_new (inr (flags, h, same)) = omega (arith, same)

        touches : (k : ℕ) (l : Line) (w : Bool) (t : ℕ) (p : Place) (x : ℕ) → slice_get after.lists.items k ≡ Some l → InLine l w t p x → (k ≡ s) ⊎ (k ≡ s → ⊥) → IsReal steps t p x w
        touches k l w t p x got has (inr ne) = was.real k l w t p x (sym (got_other k ne) ∙ got) has
        touches k l w t p x got has (inl q) = at_new (visited.rest w t p x (subst (λ l. InLine l w t p x) (is_new k l q got) has))
          where
            at_new : InLine old w t p x ⊎ ((w ≡ true → writes ≡ true) × Holds e p x × (t ≡ e.step)) → IsReal steps t p x w
            at_new (inl had) = was.real s old w t p x at had
            at_new (inr (flags, h, same)) = subst (λ t. IsReal steps t p x w) (sym same) (access p x w h flags)

    clear : (i : ℕ) (p : Place) (x : ℕ) (w : Bool) → Kept Before before i p x w → Holds e p x → x / 128 ≡ line → (w ≡ true) ⊎ (writes ≡ true) → IsSafe Before i e.step ⊎ UpTo latest i
    clear i p x w k h l one = by (visited.clear w k.step p x (subst (λ l. InLine l w k.step p x) (is_old _ k.line (in_list p x h l) k.at) k.inside) h one)
      where
        by : IsSafe Before k.step e.step ⊎ UpTo latest k.step → IsSafe Before i e.step ⊎ UpTo latest i
        by (inl safe) = inl (safe_trans Before trans i k.step e.step k.safe safe)
        by (inr far) = inr (up_from latest i k.step (safe_low Before up i k.step k.safe) far)

  found : (n : ℕ) → LineClashes Before e writes old n → (steps : List Access) → IsAccess steps e writes → AreReal steps before (e.step + 1) → RaceBy Before steps n e.step
  found n c steps access was =
      record {
        below = below;
        unordered = λ o. unsafe (inr o);
        conflict = record {
          first = mine.access;
          second = its.access;
          first_at = mine.at;
          second_at = its.at;
          conflict = conflict_of mine.access its.access c.place c.at c.kind writes mine.touch its.touch c.one_writes;
        };
      }
    where
      mine : IsReal steps n c.place c.at c.kind
      mine = was.real s old c.kind n c.place c.at at c.has

      its : IsReal steps e.step c.place c.at writes
      its = access c.place c.at writes c.in_new (λ t. t)

      low : n < e.step + 1
      low = was.below s old c.kind n c.place c.at at c.has

      unsafe : IsSafe Before n e.step → ⊥
      unsafe = c.unsafe (omega (arith, low))

      below : n < e.step
      below = at_step (cases_eq n e.step)
        where
          at_step : (n ≡ e.step) ⊎ (n ≡ e.step → ⊥) → n < e.step
          at_step (inl q) = absurd (unsafe (inl q))
          at_step (inr ne) = omega (arith, low)

  pub takes_entry : (latest : Option ℕ) → IsVisited Before e writes old new latest → TakesEntry Before before after e writes line latest
  takes_entry latest visited = record {
    keeps = record { keeps = keeps latest visited };
    own = own latest visited;
    real = real latest visited;
    clear = clear latest visited;
    race = if_then latest (LineClashes Before e writes old) (λ i. (steps : List Access) → IsAccess steps e writes → AreReal steps before (e.step + 1) → RaceBy Before steps i e.step) visited.clash found;
  }
