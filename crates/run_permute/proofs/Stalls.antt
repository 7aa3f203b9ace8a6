-- The list that is stalled where the stall status is read.
use Rattle.std.proofs.Common.{◌≡◌, ℕ, zero, suc, drop, ◌+◌, ◌<◌, ◌≤◌, ◌||◌, Bool, true, false, List, [], ◌∷◌, length, take, refl, sym, ap, ◌∙◌, subst, arith, ◌⊎◌, inl, inr, Option, Some, None}
use Rattle.std.specs.Prelude.{not, filter, is_some, if◌then◌else◌, slice_index_or}
use Rattle.std.proofs.lemmas.Bool.{cases_lt, both_ways}
use Rattle.cell_base.specs.declared.steps.Step.TheVariants.{Exec}
use Rattle.cell_machine.specs.Run.{Ran}
use Rattle.mfc_command.specs.Order.{is_list}
use Rattle.race_order.specs.Trace.{IsStep}
use Rattle.race_order.specs.Queue.{Has}
use Rattle.race_order.specs.Told.{trace_in}
use Rattle.race_order.specs.declared.progress.Progress.{Progress as Come}
use Rattle.race_order.proofs.Histories.{same_progress}
use Rattle.run_permute.specs.declared.kept.Kept.{Kept}
use Rattle.run_permute.specs.SettledLists.{Each, IsIn}
use Rattle.run_permute.specs.Online.{IsShutAt, IsStallRead, HasStalledList, IsStalledTag, IsSettledAt}
use Rattle.run_permute.specs.Watches.{IsShut, IsKept, AreKept, AreLeft, cmds_of, is_listed, stalled_from}
use Rattle.run_permute.proofs.SettledEntries.{each-on, each-passes, in-passes, apart-passes, alone, Found}
use Rattle.run_permute.proofs.Sweeps.{shut-now}

-- ---- the tag of the only list

pub record IsOnly (kept : List Kept) (tag : ℕ) : Type 0 where
  pub command : Kept
  pub only : filter is_listed kept ≡ command ∷ []
  pub stalled : command.progress.stalled ≡ true
  pub same : command.progress.command.tag ≡ tag

some-tag : (t u : ℕ) → Some t ≡ Some u → t ≡ u
some-tag t u h = cc

none-some : {A : Type 0} → (u : ℕ) → None ≡ Some u → A
none-some u h = absurd (cc)

-- behind one there is no other
behind : (t u : ℕ) (os : List Kept) → stalled_from (Some t) os ≡ Some u → (filter is_listed os ≡ []) × (t ≡ u)
behind t u [] h = (refl, some-tag t u h)
behind t u (o ∷ os) h = on (is_listed o) h (λ r. behind t u os r)
  where
    on : (b : Bool) → (if b then None else stalled_from (Some t) os) ≡ Some u → (stalled_from (Some t) os ≡ Some u → (filter is_listed os ≡ []) × (t ≡ u)) → ((if b then o ∷ filter is_listed os else filter is_listed os) ≡ []) × (t ≡ u)
    on true h rest = none-some u h
    on false h rest = rest h

none-behind : (t : ℕ) (os : List Kept) → filter is_listed os ≡ [] → stalled_from (Some t) os ≡ Some t
none-behind t [] h = refl
none-behind t (o ∷ os) h = on (is_listed o) h (λ r. none-behind t os r)
  where
    on : (b : Bool) → (if b then o ∷ filter is_listed os else filter is_listed os) ≡ [] → (filter is_listed os ≡ [] → stalled_from (Some t) os ≡ Some t) → (if b then None else stalled_from (Some t) os) ≡ Some t
    on true h rest = absurd (cc)
    on false h rest = rest h

pub only-from : (u : ℕ) (os : List Kept) → stalled_from None os ≡ Some u → IsOnly os u
only-from u [] h = none-some u h
only-from u (o ∷ os) h = on (is_listed o) refl h (λ r. only-from u os r)
  where
    first : (b : Bool) → o.progress.stalled ≡ b → (if not b then None else stalled_from (Some o.progress.command.tag) os) ≡ Some u → (is_listed o ≡ true) → IsOnly (o ∷ os) u
    first true e h listed =
        let r = behind o.progress.command.tag u os h in
        record { command = o; only = ap (λ b. if b then o ∷ filter is_listed os else filter is_listed os) listed ∙ ap (λ xs. o ∷ xs) r.0; stalled = e; same = r.1 }
    first false e h listed = none-some u h

    on : (b : Bool) → is_listed o ≡ b → (if b then (if not o.progress.stalled then None else stalled_from (Some o.progress.command.tag) os) else stalled_from None os) ≡ Some u → (stalled_from None os ≡ Some u → IsOnly os u) → IsOnly (o ∷ os) u
    on true e h rest = first o.progress.stalled refl h e
    on false e h rest =
        let r = rest h in
        record { command = r.command; only = ap (λ b. if b then o ∷ filter is_listed os else filter is_listed os) e ∙ r.only; stalled = r.stalled; same = r.same }

pub from-only : (u : ℕ) (os : List Kept) → IsOnly os u → stalled_from None os ≡ Some u
from-only u [] h = let q : [] ≡ h.command ∷ [] = h.only in absurd (cc)
from-only u (o ∷ os) h = on (is_listed o) refl (λ r. from-only u os r) h.only
  where
    head : (x : Kept) → o ∷ filter is_listed os ≡ x ∷ [] → (o ≡ x) × (filter is_listed os ≡ [])
    head x q = ((cc), (cc))

    on : (b : Bool) → is_listed o ≡ b → (IsOnly os u → stalled_from None os ≡ Some u) → (if b then o ∷ filter is_listed os else filter is_listed os) ≡ h.command ∷ []
        → (if b then (if not o.progress.stalled then None else stalled_from (Some o.progress.command.tag) os) else stalled_from None os) ≡ Some u
    on true e rest q =
        let r = head h.command q in
        let stalled : o.progress.stalled ≡ true = ap (λ (k : Kept). k.progress.stalled) r.0 ∙ h.stalled in
        let tag : o.progress.command.tag ≡ u = ap (λ (k : Kept). k.progress.command.tag) r.0 ∙ h.same in
        ap (λ b. if not b then None else stalled_from (Some o.progress.command.tag) os) stalled ∙ none-behind o.progress.command.tag os r.1 ∙ ap Some tag
    on false e rest q = rest (record { command = h.command; only = q; stalled = h.stalled; same = h.same })

-- ---- one command more

pub from-end : (os : List Kept) (i : ℕ) (t : Option ℕ) → length os ≤ i → stalled_from t (drop i os) ≡ t
from-end [] zero t h = refl
from-end [] (suc i) t h = refl
from-end (o ∷ os) zero t h = absurd (omega arith)
from-end (o ∷ os) (suc i) t h = from-end os i t (omega arith)

-- the entry at i, and what the rest makes of the tag
pub from-step : (os : List Kept) (i : ℕ) (t : Option ℕ) (o : Kept) → i < length os → o ≡ slice_index_or os i o
    → stalled_from t (drop i os) ≡ (if is_listed o then (if is_some t || not o.progress.stalled then None else stalled_from (Some o.progress.command.tag) (drop (suc i) os)) else stalled_from t (drop (suc i) os))
from-step [] i t o low e = absurd (omega arith)
from-step (x ∷ xs) zero t o low e =
    ap (λ (k : Kept). if is_listed k then (if is_some t || not k.progress.stalled then None else stalled_from (Some k.progress.command.tag) xs) else stalled_from t xs) (sym e)
from-step (x ∷ xs) (suc i) t o low e = from-step xs i t o (omega arith) e

pub from-other : (os : List Kept) (i : ℕ) (t : Option ℕ) (o : Kept) → i < length os → o ≡ slice_index_or os i o → is_listed o ≡ false → stalled_from t (drop i os) ≡ stalled_from t (drop (i + 1) os)
from-other os i t o low e h =
    let n : suc i ≡ i + 1 = omega arith in
    from-step os i t o low e ∙ ap (λ b. if b then (if is_some t || not o.progress.stalled then None else stalled_from (Some o.progress.command.tag) (drop (suc i) os)) else stalled_from t (drop (suc i) os)) h ∙ ap (λ k. stalled_from t (drop k os)) n

-- a second list, or one that isn't stalled
pub from-refused : (os : List Kept) (i : ℕ) (t : Option ℕ) (o : Kept) → i < length os → o ≡ slice_index_or os i o → is_listed o ≡ true → (is_some t || not o.progress.stalled) ≡ true → stalled_from t (drop i os) ≡ None
from-refused os i t o low e h g =
    from-step os i t o low e ∙ ap (λ b. if b then (if is_some t || not o.progress.stalled then None else stalled_from (Some o.progress.command.tag) (drop (suc i) os)) else stalled_from t (drop (suc i) os)) h
    ∙ ap (λ b. if b then None else stalled_from (Some o.progress.command.tag) (drop (suc i) os)) g

pub from-listed : (os : List Kept) (i : ℕ) (t : Option ℕ) (o : Kept) → i < length os → o ≡ slice_index_or os i o → is_listed o ≡ true → is_some t ≡ false → o.progress.stalled ≡ true → stalled_from t (drop i os) ≡ stalled_from (Some o.progress.command.tag) (drop (i + 1) os)
from-listed os i t o low e h none stalled =
    let n : suc i ≡ i + 1 = omega arith in
    from-step os i t o low e ∙ ap (λ b. if b then (if is_some t || not o.progress.stalled then None else stalled_from (Some o.progress.command.tag) (drop (suc i) os)) else stalled_from t (drop (suc i) os)) h
    ∙ ap (λ b. if b || not o.progress.stalled then None else stalled_from (Some o.progress.command.tag) (drop (suc i) os)) none
    ∙ ap (λ b. if not b then None else stalled_from (Some o.progress.command.tag) (drop (suc i) os)) stalled
    ∙ ap (λ k. stalled_from (Some o.progress.command.tag) (drop k os)) n

-- ---- the list that it is

-- the tag is that of the list that is stalled at place j
pub record IsTagAt (m : Ran) (p j tag : ℕ) : Type 0 where
  pub stalled : HasStalledList m p j
  pub same : stalled.progress.command.tag ≡ tag

module _ (m : Ran) (p j : ℕ) (here : IsStep (trace_in m) j (Exec p)) (kept : List Kept) (k : AreKept m p j (j + 1) kept) (left : AreLeft m p j kept) where
  abbrev IsOne : Kept → Type 0
  IsOne o = IsKept m p j (j + 1) o × (IsShutAt m p o.cmd j → ⊥)

  both-each : (os : List Kept) → Each (IsKept m p j (j + 1)) os → Each (λ o. IsShutAt m p o.cmd j → ⊥) os → Each IsOne os
  both-each [] h g = tt
  both-each (o ∷ os) h g = ((h.0, g.0), both-each os h.1 g.1)

  one-each : Each IsOne kept
  one-each = both-each kept k.each left

  listed-each : Each (λ o. IsOne o × (is_listed o ≡ true)) (filter is_listed kept)
  listed-each = each-passes (λ (o : Kept). o.cmd) is_listed IsOne kept one-each

  -- a list that isn't closed is among the commands that are lists
  among : (d : ℕ) (t : Come) → Has (take j (trace_in m)) p d t → is_list t.command.kind ≡ true → IsIn d (cmds_of (filter is_listed kept)) ⊎ IsShutAt m p d j
  among d t h list = on (k.all d t h)
    where
      found : Found (λ (o : Kept). o.cmd) (λ o. IsOne o × (is_listed o ≡ false)) d → ⊥
      found f =
          let same : f.entry.progress ≡ t = same_progress (take j (trace_in m)) p d f.entry.progress t (subst (λ c. Has (take j (trace_in m)) p c f.entry.progress) f.is f.holds.0.0.has) h in
          both_ways _ f.holds.1 (ap (λ (s : Come). is_list s.command.kind) same ∙ list)

      in-or : IsIn d (cmds_of (filter is_listed kept)) ⊎ Found (λ (o : Kept). o.cmd) (λ o. IsOne o × (is_listed o ≡ false)) d → IsIn d (cmds_of (filter is_listed kept)) ⊎ IsShutAt m p d j
      in-or (inl i) = inl i
      in-or (inr f) = absurd (found f)

      on : IsIn d (cmds_of kept) ⊎ IsShut m p j (j + 1) d t → IsIn d (cmds_of (filter is_listed kept)) ⊎ IsShutAt m p d j
      on (inl i) = in-or (in-passes (λ (o : Kept). o.cmd) is_listed IsOne kept d one-each i)
      on (inr shut) = inr (shut-now m p j d t here h shut)

  pub tag-at : (tag : ℕ) → IsOnly kept tag → IsTagAt m p j tag
  tag-at tag o =
      let one = (subst (Each (λ o. IsOne o × (is_listed o ≡ true))) o.only listed-each).0 in
      record {
        stalled = record {
          list = o.command.cmd;
          progress = o.command.progress;
          is = record { has = one.0.0.has; list = one.1; is_open = one.0.1; only = λ d t h list. other d (among d t h list); stalled = o.stalled };
        };
        same = o.same;
      }
    where
      other : (d : ℕ) → IsIn d (cmds_of (filter is_listed kept)) ⊎ IsShutAt m p d j → (d ≡ o.command.cmd) ⊎ IsShutAt m p d j
      other d (inl i) = inl (first (subst (λ os. IsIn d (cmds_of os)) o.only i))
        where
          first : IsIn d (o.command.cmd ∷ []) → d ≡ o.command.cmd
          first (inl e) = sym e
          first (inr h) = absurd h
      other d (inr shut) = inr shut

  pub only-at : (tag : ℕ) → IsTagAt m p j tag → IsOnly kept tag
  only-at tag t =
      let s = t.stalled in
      let each = each-on (λ o. IsOne o × (is_listed o ≡ true)) (λ o. IsOne o × (o.cmd ≡ s.list)) (filter is_listed kept) (λ o h. (h.0, same o h)) listed-each in
      let one = alone (λ (o : Kept). o.cmd) IsOne (filter is_listed kept) s.list each (apart-passes (λ (o : Kept). o.cmd) is_listed kept k.apart) (inside (among s.list s.progress s.is.has s.is.list)) in
      let come : one.0.progress ≡ s.progress = same_progress (take j (trace_in m)) p s.list one.0.progress s.progress (subst (λ c. Has (take j (trace_in m)) p c one.0.progress) one.3 one.2.0.has) s.is.has in
      record { command = one.0; only = one.1; stalled = ap (λ (x : Come). x.stalled) come ∙ s.is.stalled; same = ap (λ (x : Come). x.command.tag) come ∙ t.same }
    where
      same : (o : Kept) → IsOne o × (is_listed o ≡ true) → o.cmd ≡ t.stalled.list
      same o h = on (t.stalled.is.only o.cmd o.progress h.0.0.has h.1)
        where
          on : (o.cmd ≡ t.stalled.list) ⊎ IsShutAt m p o.cmd j → o.cmd ≡ t.stalled.list
          on (inl e) = e
          on (inr shut) = absurd (h.0.1 shut)

      inside : IsIn t.stalled.list (cmds_of (filter is_listed kept)) ⊎ IsShutAt m p t.stalled.list j → IsIn t.stalled.list (cmds_of (filter is_listed kept))
      inside (inl i) = i
      inside (inr shut) = absurd (t.stalled.is.is_open shut)

-- ---- the read that isn't acknowledged

-- two lists that are stalled at one place have one tag
pub one-tag : (m : Ran) (p j : ℕ) (a b : HasStalledList m p j) → a.progress.command.tag ≡ b.progress.command.tag
one-tag m p j a b = on (b.is.only a.list a.progress a.is.has a.is.list)
  where
    on : (a.list ≡ b.list) ⊎ IsShutAt m p a.list j → a.progress.command.tag ≡ b.progress.command.tag
    on (inl e) = ap (λ (s : Come). s.command.tag) (same_progress (take j (trace_in m)) p b.list a.progress b.progress (subst (λ c. Has (take j (trace_in m)) p c a.progress) e a.is.has) b.is.has)
    on (inr shut) = absurd (a.is.is_open shut)

-- of a run that is settled so far there is one read that isn't acknowledged, so one tag
module _ (m : Ran) (p j : ℕ) (earlier : (k : ℕ) → k < j → IsSettledAt m p k) where
  no-later : (a b : IsStallRead m p j) → a.place < b.place → ⊥
  no-later a b low =
      ((earlier b.place b.below).stalls b.begins).none
      (record { place = a.place; below = low; begins = a.begins; goes_on = λ x more less e. a.goes_on x more (let l : b.place < j = b.below in omega arith) e })

  pub stalled-once : (t u : ℕ) → IsStalledTag m p j t → IsStalledTag m p j u → t ≡ u
  stalled-once t u a b = on (cases_lt a.read.place b.read.place)
    where
      both : a.read.place ≡ b.read.place → t ≡ u
      both e = sym a.same ∙ tags a.read.place b.read.place e a.stalled b.stalled ∙ b.same
        where
          tags : (x y : ℕ) → x ≡ y → (f : HasStalledList m p x) (g : HasStalledList m p y) → f.progress.command.tag ≡ g.progress.command.tag
          tags x y e = subst (λ z. (f : HasStalledList m p x) (g : HasStalledList m p z) → f.progress.command.tag ≡ g.progress.command.tag) e (one-tag m p x)

      or : (b.read.place < a.read.place) ⊎ (a.read.place ≤ b.read.place) → b.read.place ≤ a.read.place → t ≡ u
      or (inl low) high = absurd (no-later b.read a.read low)
      or (inr le) high = both (omega arith)

      on : (a.read.place < b.read.place) ⊎ (b.read.place ≤ a.read.place) → t ≡ u
      on (inl low) = absurd (no-later a.read b.read low)
      on (inr high) = or (cases_lt b.read.place a.read.place) high
