-- The elements of a list come one after the other.
use Rattle.std.proofs.Common.{◌≡◌, ℕ, zero, suc, ◌+◌, ◌<◌, ◌≤◌, ◌==◌, Bool, true, false, ◌&&◌, not, length, take, Some, ◌⊎◌, inl, inr, refl, sym, ap, ◌∙◌, subst, arith}
use Rattle.std.specs.Prelude.{if◌then◌else◌}
use Rattle.std.proofs.lemmas.Bool.{cases_order, cases_lt, eq-eqb, and_from, both_ways}
use Rattle.std.proofs.lemmas.List.{take-take}
use Rattle.std.proofs.lemmas.Option.{slice_get_within}
use Rattle.cell_base.specs.declared.steps.Step.TheVariants.{Piece, Elem}
use Rattle.cell_machine.specs.declared.effect.Note.{Note}
use Rattle.cell_machine.specs.declared.effect.Note.TheVariants.{Element}
use Rattle.race_order.specs.Trace.{Trace, IsStep, IsStepOf, is_of}
use Rattle.race_order.specs.declared.progress.Progress.{Progress}
use Rattle.race_order.specs.Status.{status, next_status, stepped, finished, with_element, after_element, is_transfer, is_last}
use Rattle.race_order.specs.Queue.{Has, ReadsElement, IsStepOfElement}
use Rattle.race_order.specs.Rules.{Edge, Ordered, One}
use Rattle.race_order.specs.StatusRules.{Rule, NextElement}
use Rattle.race_order.proofs.Places.{take_step}
use Rattle.race_order.proofs.LookedAt.{step_here, same_step}
use Rattle.race_order.proofs.Holding.{ordered_trans}
use Rattle.race_order.proofs.Histories.{status_next, same_progress, Later, later_at, read_there}
use Rattle.race_order.specs.Premises.{MayStep, IsQueued, FitsProgress}

pub has_here : (T : Trace) (b i p c : ℕ) (s : Progress) → i ≤ b → Has (take i T) p c s → Has (take i (take b T)) p c s
has_here T b i p c s low h = subst (λ t. Has t p c s) (sym (take-take i b T low)) h

pub has_there : (T : Trace) (b i p c : ℕ) (s : Progress) → i ≤ b → Has (take i (take b T)) p c s → Has (take i T) p c s
has_there T b i p c s low h = subst (λ t. Has t p c s) (take-take i b T low) h

pub reads_here : (T : Trace) (b i p c m : ℕ) → i < b → ReadsElement T i p c m → ReadsElement (take b T) i p c m
reads_here T b i p c m low r = record { step = step_here T i b (Elem p c) low r.step; progress = r.progress; has = has_here T b i p c r.progress (omega arith) r.has; number = r.number }

pub of_itself : (p c : ℕ) → ((p == p) && (c == c)) ≡ true
of_itself p c = and_from _ _ (eq-eqb p p refl) (eq-eqb c c refl)

read_finished : (t : Progress) → (finished t).read ≡ t.read
read_finished t = at (is_transfer t.command)
  where
    at : (b : Bool) → (if b then record t { left = 0; stalled = false; done = true } else record t { left = 0; stalled = t.flagged; done = not t.flagged && is_last t }).read ≡ t.read
    at true = refl
    at false = refl

pub read_element : (s : Progress) (note : Note) → (after_element s note).read ≡ s.read + 1
read_element s (Element number parts flag) = at (parts == 0)
  where
    at : (b : Bool) → (if b then finished (with_element s parts flag) else with_element s parts flag).read ≡ s.read + 1
    at true = read_finished (with_element s parts flag)
    at false = refl
read_element s _ = refl

pub read_stepped : (p c : ℕ) (s : Progress) (note : Note) → (stepped p c s (Elem p c) note).read ≡ s.read + 1
read_stepped p c s note = ap (λ (b : Bool). (if b then after_element s note else s).read) (of_itself p c) ∙ read_element s note

module _ (T : Trace) (queued : IsQueued T) where
  pub may_at : (i p d : ℕ) (h : IsStepOf T i p d) → MayStep (take i T) p d h.event.step h.event.effect.note
  may_at i p d h = (queued i h.event h.at).step p d h.is

  abbrev pub step_of : (i p c : ℕ) → IsStep T i (Elem p c) → IsStepOf T i p c
  step_of i p c h = record { event = h.event; at = h.at; is = ap (is_of p c) h.is ∙ of_itself p c }

  abbrev pub piece_of : (i p c m k : ℕ) → IsStep T i (Piece p c m k) → IsStepOf T i p c
  piece_of i p c m k h = record { event = h.event; at = h.at; is = ap (is_of p c) h.is ∙ of_itself p c }

  -- what is asked where an element is read, and where a piece is made
  pub elem_fits : (i p c m : ℕ) (r : ReadsElement T i p c m) → FitsProgress r.progress (Elem p c) r.step.event.effect.note
  elem_fits i p c m r =
      let may : MayStep (take i T) p c r.step.event.step r.step.event.effect.note = may_at i p c (step_of i p c r.step) in
      let f : FitsProgress may.progress (Elem p c) r.step.event.effect.note = subst (λ s. FitsProgress may.progress s r.step.event.effect.note) r.step.is may.fits in
      subst (λ t. FitsProgress t (Elem p c) r.step.event.effect.note) (same_progress (take i T) p c may.progress r.progress may.has r.has) f

  pub record AtPiece (i p c m : ℕ) : Type 0 where
    pub progress : Progress
    pub has : Has (take i T) p c progress
    pub live : progress.done ≡ false
    pub left : 0 < progress.left
    pub which : ((is_transfer progress.command ≡ true) × (m ≡ 0)) ⊎ ((is_transfer progress.command ≡ false) × (m + 1 ≡ progress.read))

  pub at_piece : (i p c m k : ℕ) → IsStep T i (Piece p c m k) → AtPiece i p c m
  at_piece i p c m k h =
      let may : MayStep (take i T) p c h.event.step h.event.effect.note = may_at i p c (piece_of i p c m k h) in
      let f : FitsProgress may.progress (Piece p c m k) h.event.effect.note = subst (λ s. FitsProgress may.progress s h.event.effect.note) h.is may.fits in
      record { progress = may.progress; has = may.has; live = may.live; left = f.0; which = f.1 }

  -- after an element was read, one more was read
  pub after_read : (i p c m j : ℕ) (s : Progress) → ReadsElement T i p c m → i < j → j ≤ length T → Has (take j T) p c s → (m + 1 ≤ s.read) × ((t : Progress) → Has (take i T) p c t → s.command ≡ t.command)
  after_read i p c m j s r low high h =
      let may : MayStep (take i T) p c r.step.event.step r.step.event.effect.note = may_at i p c (step_of i p c r.step) in
      let same : may.progress ≡ r.progress = same_progress (take i T) p c may.progress r.progress may.has r.has in
      let live : r.progress.done ≡ false = subst (λ (t : Progress). t.done ≡ false) same may.live in
      let next : status p c (take (suc i) T) ≡ Some (stepped p c r.progress (Elem p c) r.step.event.effect.note) =
      ap (status p c) (take_step T i r.step.event r.step.at)
      ∙ (status_next p c (take i T) r.step.event
      ∙ (ap (λ o. next_status p c o r.step.event) r.has.is
      ∙ (ap (λ (b : Bool). Some (if b then r.progress else stepped p c r.progress r.step.event.step r.step.event.effect.note)) live
      ∙ ap (λ x. Some (stepped p c r.progress x r.step.event.effect.note)) r.step.is))) in
      let l : Later (take j T) p c (stepped p c r.progress (Elem p c) r.step.event.effect.note) = later_at T p c (suc i) j (stepped p c r.progress (Elem p c) r.step.event.effect.note) (omega arith) high record { is = next } in
      let k : Later (take j T) p c r.progress = later_at T p c i j r.progress (omega arith) high r.has in
      let same' : l.progress ≡ s = same_progress (take j T) p c l.progress s l.has h in
      let more : (stepped p c r.progress (Elem p c) r.step.event.effect.note).read ≤ l.progress.read = l.grows.read in
      let one : (stepped p c r.progress (Elem p c) r.step.event.effect.note).read ≡ r.progress.read + 1 = read_stepped p c r.progress r.step.event.effect.note in
      let num : r.progress.read ≡ m = r.number in
      let eq : l.progress.read ≡ s.read = ap (λ (t : Progress). t.read) same' in
      (omega arith, λ t g. ap (λ (v : Progress). v.command) (same_progress (take j T) p c s k.progress h k.has) ∙ (k.grows.command ∙ ap (λ (v : Progress). v.command) (same_progress (take i T) p c r.progress t r.has g)))

  -- the pieces of a list are of the element that was read last
  pub piece_list : (i p c m k j n : ℕ) (h : IsStep T i (Piece p c m k)) → ReadsElement T j p c n → (a : AtPiece i p c m) → (is_transfer a.progress.command ≡ false) × (m + 1 ≡ a.progress.read)
  piece_list i p c m k j n h r a = by a.which
    where
      low_i : i < length T
      low_i = slice_get_within T i h.event h.at

      low_j : j < length T
      low_j = slice_get_within T j r.step.event r.step.at

      same : (i ≤ j) ⊎ (j < i) → a.progress.command ≡ r.progress.command
      same (inl le) = let low : j < length T = low_j in let l : Later (take j T) p c a.progress = later_at T p c i j a.progress le (omega arith) a.has in sym (ap (λ (v : Progress). v.command) (same_progress (take j T) p c r.progress l.progress r.has l.has) ∙ l.grows.command)
      same (inr lt) = let low : i < length T = low_i in let l : Later (take i T) p c r.progress = later_at T p c j i r.progress (omega arith) (omega arith) r.has in ap (λ (v : Progress). v.command) (same_progress (take i T) p c a.progress l.progress a.has l.has) ∙ l.grows.command

      either : (j < i) ⊎ (i ≤ j) → a.progress.command ≡ r.progress.command
      either (inl lt) = same (inr lt)
      either (inr le) = same (inl le)

      by : ((is_transfer a.progress.command ≡ true) × (m ≡ 0)) ⊎ ((is_transfer a.progress.command ≡ false) × (m + 1 ≡ a.progress.read)) → (is_transfer a.progress.command ≡ false) × (m + 1 ≡ a.progress.read)
      by (inl x) =
          let f : is_transfer r.progress.command ≡ false = (elem_fits j p c n r).0 in
          absurd (both_ways _ f (ap is_transfer (sym (either (cases_lt j i))) ∙ x.0))
      by (inr x) = x

  -- a step of an element comes before the next element is read
  pub element_low : (p c m i k : ℕ) → IsStepOfElement T i p c m → ReadsElement T k p c (m + 1) → i < k
  element_low p c m i k (inl r) next = by (cases_order i k)
    where
      by : (i ≡ k) ⊎ ((i < k) ⊎ (k < i)) → i < k
      by (inl e) =
          let same : r.progress ≡ next.progress = same_progress (take i T) p c r.progress next.progress r.has (subst (λ x. Has (take x T) p c next.progress) (sym e) next.has) in
          let q : r.progress.read ≡ next.progress.read = ap (λ (v : Progress). v.read) same in
          let a : r.progress.read ≡ m = r.number in
          let b : next.progress.read ≡ m + 1 = next.number in
          absurd (omega arith)
      by (inr (inl low)) = low
      by (inr (inr high)) =
          let low : i < length T = slice_get_within T i r.step.event r.step.at in
          let f = after_read k p c (m + 1) i r.progress next high (omega arith) r.has in
          let g : (m + 1) + 1 ≤ r.progress.read = f.0 in
          let a : r.progress.read ≡ m = r.number in
          absurd (omega arith)
  element_low p c m i k (inr q) next = by (cases_order i k)
    where
      a : AtPiece i p c m
      a = at_piece i p c m q.0 q.1

      by : (i ≡ k) ⊎ ((i < k) ⊎ (k < i)) → i < k
      by (inl e) = let f : Piece p c m q.0 ≡ Elem p c = same_step T i (Piece p c m q.0) (Elem p c) q.1 (subst (λ x. IsStep T x (Elem p c)) (sym e) next.step) in absurd cc
      by (inr (inl low)) = low
      by (inr (inr high)) =
          let low : i < length T = slice_get_within T i q.1.event q.1.at in
          let w = piece_list i p c m q.0 k (m + 1) q.1 next a in
          let f = after_read k p c (m + 1) i a.progress next high (omega arith) a.has in
          let g : (m + 1) + 1 ≤ a.progress.read = f.0 in
          let x : m + 1 ≡ a.progress.read = w.1 in
          absurd (omega arith)

  pub element_here : (p c m i b : ℕ) → i < b → IsStepOfElement T i p c m → IsStepOfElement (take b T) i p c m
  element_here p c m i b low (inl r) = inl (reads_here T b i p c m low r)
  element_here p c m i b low (inr q) = inr (q.0, step_here T i b (Piece p c m q.0) low q.1)

  pub next_edge : (p c m i k : ℕ) → IsStepOfElement T i p c m → ReadsElement T k p c (m + 1) → Edge Rule T i k
  next_edge p c m i k s r =
      let low : i < k = element_low p c m i k s r in
      record { below = low; rule = inr (NextElement p c m (element_here p c m i (k + 1) (omega arith) s) (reads_here T (k + 1) k p c (m + 1) (omega arith) r)) }

  -- the steps of an element come before each later element
  pub element_chain : (gap : ℕ) (p c m i n k : ℕ) → n ≡ m + 1 + gap → IsStepOfElement T i p c m → ReadsElement T k p c n → Ordered Rule T i k
  element_chain zero p c m i n k e s r = One (next_edge p c m i k s (subst (ReadsElement T k p c) (let f : n ≡ m + 1 = omega arith in f) r))
  element_chain (suc gap) p c m i n k e s r =
      let low : k < length T = slice_get_within T k r.step.event r.step.at in
      let num : r.progress.read ≡ n = r.number in
      let h : (x : ℕ) × (x < k) × ReadsElement T x p c (m + 1) = read_there T p c k r.progress (m + 1) (omega arith) r.has (omega arith) in
      ordered_trans Rule T i h.0 k (One (next_edge p c m i h.0 s h.2)) (element_chain gap p c (m + 1) h.0 n k (omega arith) (inl h.2) r)
