-- What has been stays so, and the next step has not been.
use Rattle.std.proofs.Common.{◌≡◌, ℕ, ◌+◌, ◌-◌, ◌*◌, ◌<◌, ◌≤◌, Bool, true, false, [], ◌∷◌, ◌++◌, length, take, ◌⊎◌, inl, inr, refl, sym, ap, ◌∙◌, subst, arith}
use Rattle.std.specs.Prelude.{if◌then◌else◌}
use Rattle.std.proofs.lemmas.Bool.{cases_lt, cases_eq, eqb-true, eq-eqb, and_from, both_ways, false_from_ne_true}
use Rattle.std.proofs.lemmas.List.{take_all}
use Rattle.order_sets.specs.declared.facts.At.{At}
use Rattle.cell_base.specs.declared.steps.Step.{Step}
use Rattle.cell_base.specs.declared.steps.Step.TheVariants.{Exec, Piece, Elem, Retire, Atomic, Host}
use Rattle.cell_machine.specs.declared.effect.Note.{Note}
use Rattle.cell_machine.specs.declared.effect.Note.TheVariants.{Nothing, Issue, AtomicIssue, TagRead, StallRead, Ack, AtomicRead, Put, Take, Ended, Awaited, Element, Signal}
use Rattle.race_order.specs.Trace.{Event, Trace, is_of}
use Rattle.race_order.specs.declared.progress.Progress.{Progress}
use Rattle.race_order.specs.Status.{is_transfer, elements_done}
use Rattle.race_order.specs.Queue.{Has, ReadsElement}
use Rattle.race_order.specs.Stamps.{stamp, chain_of, cmd_of, elem_of, elem_noted}
use Rattle.race_order.specs.Orderly.{IsWithin}
use Rattle.race_order.proofs.Places.{longer}
use Rattle.race_order.specs.Pasts.{IsPast, Made, Over}
use Rattle.race_order.specs.Premises.{MayStep, QueueMay, IsQueued, FitsProgress, IsNumbered}
use Rattle.race_order.proofs.Statuses.{done_le}
use Rattle.race_order.proofs.Histories.{same_progress, Later, later_at, later_next, read_there}
use Rattle.race_order.proofs.Elements.{elem_fits}

pub past_grows : (n : ℕ) (trace : Trace) (e : Event) (a : At) → IsPast n trace a → IsPast n (trace ++ (e ∷ [])) a
past_grows n trace e a (Made low) = let k : length (trace ++ (e ∷ [])) ≡ length trace + 1 = longer trace e in Made (omega arith)
past_grows n trace e a (Over p s low chain has over) =
    let l : Later (trace ++ (e ∷ [])) p a.cmd s = later_next trace e p a.cmd s has in
    Over p l.progress low chain l.has (by l over)
  where
    by : (l : Later (trace ++ (e ∷ [])) p a.cmd s) → (s.done ≡ true) ⊎ (a.elem < elements_done s) → (l.progress.done ≡ true) ⊎ (a.elem < elements_done l.progress)
    by l (inl d) = inl (ap (λ (v : Progress). v.done) (l.frozen d) ∙ d)
    by l (inr d) = let g : elements_done s ≤ elements_done l.progress = l.grows.done in inr (omega arith)

pub left_some : (v : Progress) → 0 < v.left → elements_done v ≡ v.read - 1
left_some v l = at (cases_eq v.left 0)
  where
    at : (v.left ≡ 0) ⊎ (v.left ≡ 0 → ⊥) → elements_done v ≡ v.read - 1
    at (inl q) = absurd (omega arith)
    at (inr q) = ap (λ (b : Bool). if b then v.read else v.read - 1) (false_from_ne_true _ (λ t. q (eqb-true v.left 0 t)))

-- the chain of the queue's steps of a processor
pub chain_queue : (n p : ℕ) (s : Step) → IsWithin n s → p < n → chain_of n s ≡ 2 * n + p → is_of p (cmd_of s) s ≡ true
chain_queue n p (Exec q) w low e = absurd (omega arith)
chain_queue n p (Atomic q) w low e = absurd (omega arith)
chain_queue n p Host w low e = absurd (omega arith)
chain_queue n p (Piece q c x k) w low e = and_from _ _ (eq-eqb q p (let f : q ≡ p = omega arith in f)) (eq-eqb c c refl)
chain_queue n p (Elem q c) w low e = and_from _ _ (eq-eqb q p (let f : q ≡ p = omega arith in f)) (eq-eqb c c refl)
chain_queue n p (Retire q c) w low e = and_from _ _ (eq-eqb q p (let f : q ≡ p = omega arith in f)) (eq-eqb c c refl)

module _ (n : ℕ) (trace : Trace) (e : Event) (within : IsWithin n e.step) (may : QueueMay trace e) (queued : IsQueued trace) where
  -- of a transfer no element is read
  none_read : (p c : ℕ) (s : Progress) → Has trace p c s → is_transfer s.command ≡ true → s.read ≡ 0
  none_read p c s h t = by (cases_lt 0 s.read)
    where
      whole : take (length trace) trace ≡ trace
      whole = take_all (length trace) trace (omega arith)

      by : (0 < s.read) ⊎ (s.read ≤ 0) → s.read ≡ 0
      by (inr le) = omega arith
      by (inl lt) =
          let r : (k : ℕ) × (k < length trace) × ReadsElement trace k p c 0 = read_there trace p c (length trace) s 0 (omega arith) (subst (λ u. Has u p c s) (sym whole) h) lt in
          let f : is_transfer r.2.progress.command ≡ false = (elem_fits trace queued r.0 p c 0 r.2).0 in
          let l : Later trace p c r.2.progress = subst (λ u. Later u p c r.2.progress) whole (later_at trace p c r.0 (length trace) r.2.progress (let w : r.0 < length trace = r.1 in omega arith) (omega arith) r.2.has) in
          let g : s.command ≡ r.2.progress.command = ap (λ (v : Progress). v.command) (same_progress trace p c s l.progress h l.has) ∙ l.grows.command in
          absurd (both_ways _ f (ap is_transfer (sym g) ∙ t))

  not_below : (p c : ℕ) (s : Progress) (step : Step) (note : Note) → Has trace p c s → FitsProgress s step note → is_of p c step ≡ true → elem_of step note < elements_done s → ⊥
  not_below p c s (Exec q) note h f of low = absurd cc
  not_below p c s (Atomic q) note h f of low = absurd cc
  not_below p c s Host note h f of low = absurd cc
  not_below p c s (Piece q d x k) note h f of low = by f.1
    where
      by : ((is_transfer s.command ≡ true) × (x ≡ 0)) ⊎ ((is_transfer s.command ≡ false) × (x + 1 ≡ s.read)) → ⊥
      by (inl t) = let z : s.read ≡ 0 = none_read p c s h t.0 in let l : elements_done s ≤ s.read = done_le s in absurd (omega arith)
      by (inr t) = let z : x + 1 ≡ s.read = t.1 in let l : elements_done s ≡ s.read - 1 = left_some s f.0 in absurd (omega arith)
  not_below p c s (Elem q d) note h f of low = by note f.3 low
    where
      by : (note : Note) → IsNumbered s.read note → elem_noted note < elements_done s → ⊥
      by (Element number parts flag) w low = let z : number ≡ s.read = w.0 in let l : elements_done s ≤ s.read = done_le s in absurd (omega arith)
      by Nothing w low = let l : elements_done s ≤ s.read = done_le s in absurd (omega arith)
      by (Issue a b) w low = let l : elements_done s ≤ s.read = done_le s in absurd (omega arith)
      by AtomicIssue w low = let l : elements_done s ≤ s.read = done_le s in absurd (omega arith)
      by (TagRead a b) w low = let l : elements_done s ≤ s.read = done_le s in absurd (omega arith)
      by (StallRead a) w low = let l : elements_done s ≤ s.read = done_le s in absurd (omega arith)
      by (Ack a) w low = let l : elements_done s ≤ s.read = done_le s in absurd (omega arith)
      by AtomicRead w low = let l : elements_done s ≤ s.read = done_le s in absurd (omega arith)
      by (Put a b) w low = let l : elements_done s ≤ s.read = done_le s in absurd (omega arith)
      by (Take a b) w low = let l : elements_done s ≤ s.read = done_le s in absurd (omega arith)
      by (Signal a b) w low = let l : elements_done s ≤ s.read = done_le s in absurd (omega arith)
      by Ended w low = let l : elements_done s ≤ s.read = done_le s in absurd (omega arith)
      by (Awaited a) w low = let l : elements_done s ≤ s.read = done_le s in absurd (omega arith)
  not_below p c s (Retire q d) note h f of low = let z : s.read ≡ 0 = f.1 in let l : elements_done s ≤ s.read = done_le s in absurd (omega arith)

  -- the next step has not been
  pub not_past : IsPast n trace (stamp n (length trace) e) → ⊥
  not_past (Made low) = absurd (omega arith)
  not_past (Over p s low chain has over) = by over
    where
      of : is_of p (cmd_of e.step) e.step ≡ true
      of = chain_queue n p e.step within low chain

      m : MayStep trace p (cmd_of e.step) e.step e.effect.note
      m = may.step p (cmd_of e.step) of

      same : m.progress ≡ s
      same = same_progress trace p (cmd_of e.step) m.progress s m.has has

      by : (s.done ≡ true) ⊎ (elem_of e.step e.effect.note < elements_done s) → ⊥
      by (inl d) = both_ways _ m.live (ap (λ (v : Progress). v.done) same ∙ d)
      by (inr d) = not_below p (cmd_of e.step) s e.step e.effect.note has (subst (λ v. FitsProgress v e.step e.effect.note) same m.fits) of d
