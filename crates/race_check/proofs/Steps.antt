-- What a visit of a whole step keeps and tells.
use Rattle.std.proofs.Common.{◌≡◌, ℕ, ◌+◌, ◌≤◌, ◌<◌, Bool, true, false, List, ◌⊎◌, inl, inr, Option, Some, None, refl, sym, ◌∙◌, ap, subst, arith}
use Rattle.std.specs.Prelude.{IfSome, slice_get}
use Rattle.std.proofs.lemmas.Bool.{cases_lt}
use Rattle.std.proofs.lemmas.Option.{same_Some}
use Rattle.cell_machine.specs.declared.effect.Place.{Place}
use Rattle.race_check.specs.declared.access.Access.{Access}
use Rattle.race_check.specs.declared.shadow.Shadow.{Shadow}
use Rattle.race_check.specs.Races.{Conflict, ConflictAt, RaceBy, TellsLatest}
use Rattle.race_check.specs.Crowds.{IsLater, IsSafe, UpTo}
use Rattle.race_check.specs.Lines.{InLine}
use Rattle.race_check.specs.Shows.{AreReal, IsSpanOf, Kept, Shows, TakesSpan, TakesStep, Touch, Fetched, Reads, Writes}
use Rattle.race_check.proofs.Latest.{if_then, of_both}
use Rattle.race_check.proofs.Spans.{Races}

real_next : (steps : List Access) (shadow : Shadow) (j : ℕ) → AreReal steps shadow j → AreReal steps shadow (j + 1)
real_next steps shadow j real = record { below = λ k line w s p x is has. let low = real.below k line w s p x is has in omega arith; real = real.real }

-- the spans of the step's access
module _ (steps : List Access) (a : Access) (step : ℕ) (at : slice_get steps step ≡ Some a) where
  fetch_of : IsSpanOf steps step a.fetch false
  fetch_of p x w c flags = record { access = a; at = at; touch = only w flags }
    where
      only : (w : Bool) → (w ≡ true → false ≡ true) → Touch a p x w
      only true flags = absurd (let e : false ≡ true = flags refl in cc)
      only false flags = Fetched c

  reads_of : IsSpanOf steps step a.reads false
  reads_of p x w c flags = record { access = a; at = at; touch = only w flags }
    where
      only : (w : Bool) → (w ≡ true → false ≡ true) → Touch a p x w
      only true flags = absurd (let e : false ≡ true = flags refl in cc)
      only false flags = Reads c

  writes_of : IsSpanOf steps step a.writes true
  writes_of p x w c flags = record { access = a; at = at; touch = Writes c }

-- what no race is later than is the latest one
tells : (R : ℕ → ℕ → Type 0) (j : ℕ) (latest : Option ℕ) → IfSome latest (λ i. R i j) → ((i : ℕ) → R i j → UpTo latest i) → TellsLatest R j latest
tells R j None race up = up
tells R j (Some i) race up = record { holds = race; latest = up }

module _ (Before : ℕ → ℕ → Type 0) (l0 l1 l2 l3 : Shadow) (a : Access) (step : ℕ) (of_fetch of_reads of_writes mid latest : Option ℕ) (first : IsLater of_fetch of_reads mid) (second : IsLater mid of_writes latest)
    (fetch : TakesSpan Before l0 l1 a.fetch step false of_fetch) (reads : TakesSpan Before l1 l2 a.reads step false of_reads) (writes : TakesSpan Before l2 l3 a.writes step true of_writes) where
  real1 : (steps : List Access) → slice_get steps step ≡ Some a → Shows Before steps l0 step → AreReal steps l1 (step + 1)
  real1 steps at shows = fetch.real steps (fetch_of steps a step at) (real_next steps l0 step shows.real)

  real2 : (steps : List Access) → slice_get steps step ≡ Some a → Shows Before steps l0 step → AreReal steps l2 (step + 1)
  real2 steps at shows = reads.real steps (reads_of steps a step at) (real1 steps at shows)

  module _ (steps : List Access) (at : slice_get steps step ≡ Some a) (shows : Shows Before steps l0 step) where
    weaker : (p : Place) (x : ℕ) (w : Bool) → Kept Before l3 step p x true → Kept Before l3 step p x w
    weaker p x w k = record { line = k.line; at = k.at; step = k.step; inside = either k.inside; safe = k.safe }
      where
        either : InLine k.line true k.step p x → InLine k.line w k.step p x
        either (inl h) = inl h
        either (inr (wrong, h)) = absurd (let e : true ≡ false = wrong in cc)

    own : (p : Place) (x : ℕ) (w : Bool) → Touch a p x w → Kept Before l3 step p x w
    own p x w (Fetched c) = writes.keeps.keeps step p x false (reads.keeps.keeps step p x false (fetch.own p x c))
    own p x w (Reads c) = writes.keeps.keeps step p x false (reads.own p x c)
    own p x w (Writes c) = weaker p x w (writes.own p x c)

    shows_next : Shows Before steps l3 (step + 1)
    shows_next = record { kept = λ i b p x w low is touch. go i b p x w (cases_lt i step) low is touch; real = writes.real steps (writes_of steps a step at) (real2 steps at shows) }
      where
        go : (i : ℕ) (b : Access) (p : Place) (x : ℕ) (w : Bool) → (i < step) ⊎ (step ≤ i) → i < step + 1 → slice_get steps i ≡ Some b → Touch b p x w → Kept Before l3 i p x w
        go i b p x w (inl less) low is touch = writes.keeps.keeps i p x w (reads.keeps.keeps i p x w (fetch.keeps.keeps i p x w (shows.kept i b p x w less is touch)))
        go i b p x w (inr more) low is touch =
            let e : i ≡ step = omega arith in
            let same : b ≡ a = same_Some _ _ (sym is ∙ (ap (slice_get steps) e ∙ at)) in
            subst (λ k. Kept Before l3 k p x w) (sym e) (own p x w (subst (λ c. Touch c p x w) same touch))

    up_to : (i : ℕ) → RaceBy Before steps i step → UpTo latest i
    up_to i race = find (subst (Conflict c.first) same c.conflict)
      where
        c : ConflictAt steps i step
        c = race.conflict

        same : c.second ≡ a
        same = same_Some _ _ (sym c.second_at ∙ at)

        wrong : IsSafe Before i step → ⊥
        wrong (inl e) = let low : i < step = race.below in absurd (omega arith)
        wrong (inr o) = race.unordered o

        on_fetch : IsSafe Before i step ⊎ UpTo of_fetch i → UpTo latest i
        on_fetch (inl safe) = absurd (wrong safe)
        on_fetch (inr up) = second.first i (first.first i up)

        on_reads : IsSafe Before i step ⊎ UpTo of_reads i → UpTo latest i
        on_reads (inl safe) = absurd (wrong safe)
        on_reads (inr up) = second.first i (first.second i up)

        on_writes : IsSafe Before i step ⊎ UpTo of_writes i → UpTo latest i
        on_writes (inl safe) = absurd (wrong safe)
        on_writes (inr up) = second.second i up

        kept0 : (p : Place) (x : ℕ) (w : Bool) → Touch c.first p x w → Kept Before l0 i p x w
        kept0 p x w t = shows.kept i c.first p x w race.below c.first_at t

        kept1 : (p : Place) (x : ℕ) (w : Bool) → Touch c.first p x w → Kept Before l1 i p x w
        kept1 p x w t = fetch.keeps.keeps i p x w (kept0 p x w t)

        kept2 : (p : Place) (x : ℕ) (w : Bool) → Touch c.first p x w → Kept Before l2 i p x w
        kept2 p x w t = reads.keeps.keeps i p x w (kept1 p x w t)

        find : Conflict c.first a → UpTo latest i
        find (inl (inl m)) = on_fetch (fetch.clear i m.place m.at true (kept0 m.place m.at true (Writes m.in_first)) m.in_second (inl refl))
        find (inl (inr (inl m))) = on_reads (reads.clear i m.place m.at true (kept1 m.place m.at true (Writes m.in_first)) m.in_second (inl refl))
        find (inl (inr (inr m))) = on_writes (writes.clear i m.place m.at true (kept2 m.place m.at true (Writes m.in_first)) m.in_second (inl refl))
        find (inr (inl m)) = on_writes (writes.clear i m.place m.at false (kept2 m.place m.at false (Fetched m.in_second)) m.in_first (inr refl))
        find (inr (inr (inl m))) = on_writes (writes.clear i m.place m.at false (kept2 m.place m.at false (Reads m.in_second)) m.in_first (inr refl))
        find (inr (inr (inr m))) = on_writes (writes.clear i m.place m.at false (kept2 m.place m.at false (Writes m.in_second)) m.in_first (inr refl))

    found : IfSome latest (λ i. RaceBy Before steps i step)
    found =
        of_both mid of_writes latest (λ i. RaceBy Before steps i step) second
        (of_both of_fetch of_reads mid (λ i. RaceBy Before steps i step) first
        (if_then of_fetch (Races Before l0 a.fetch step false) (λ i. RaceBy Before steps i step) fetch.race (λ i race. race steps (fetch_of steps a step at) (real_next steps l0 step shows.real)))
        (if_then of_reads (Races Before l1 a.reads step false) (λ i. RaceBy Before steps i step) reads.race (λ i race. race steps (reads_of steps a step at) (real1 steps at shows))))
        (if_then of_writes (Races Before l2 a.writes step true) (λ i. RaceBy Before steps i step) writes.race (λ i race. race steps (writes_of steps a step at) (real2 steps at shows)))

  pub takes_step : TakesStep Before l0 l3 a step latest
  takes_step = record { shows = λ steps at shows. shows_next steps at shows; told = λ steps at shows. tells (RaceBy Before steps) step latest (found steps at shows) (up_to steps at shows) }
