-- The sets that a step goes into, as a list and in words.
use Rattle.std.proofs.Common.{◌≡◌, ℕ, ◌==◌, ◌&&◌, Bool, true, false, ◌++◌, ◌⊎◌, inl, inr, refl, sym, ap, ◌∙◌, subst, subst₂}
use Rattle.std.proofs.lemmas.Bool.{and_from, eq-eqb, and_parts, eqb-true}
use Rattle.cell_base.specs.declared.steps.Step.{Step}
use Rattle.cell_base.specs.declared.steps.Step.TheVariants.{Exec, Elem, Atomic, Host}
use Rattle.cell_machine.specs.declared.effect.Place.{Place}
use Rattle.cell_machine.specs.declared.effect.Place.TheVariants.{Memory, Local}
use Rattle.cell_machine.specs.declared.effect.Span.{Span}
use Rattle.cell_machine.specs.declared.effect.Note.{Note}
use Rattle.cell_machine.specs.declared.effect.Note.TheVariants.{AtomicIssue, Put, Take, Ended, Signal}
use Rattle.race_order.specs.Trace.{Event, Trace, is_put, is_take}
use Rattle.race_order.specs.Lines.{IsLine, moves_line}
use Rattle.race_order.specs.declared.roles.Role.{Role}
use Rattle.race_order.specs.declared.roles.Role.TheVariants.{OfExec, OfHost, OfSlot, OfAtomic, OfLine, OfBox, OfSignal, OfEnd}
use Rattle.race_order.specs.Roles.{Joins, write_roles, step_writes, note_writes, line_roles, line_of, line_in, slot_of, end_of, put_role, take_role}
use Rattle.race_order.proofs.Among.{Among, Every, among_left, among_right, every_both}

module _ (before : Trace) (e : Event) where
  abbrev In : Role → Type 0
  In r = Joins before e r

  of_itself : (p c : ℕ) → ((p == p) && (c == c)) ≡ true
  of_itself p c = and_from _ _ (eq-eqb p p refl) (eq-eqb c c refl)

  by_step : (s : Step) → e.step ≡ s → Every In (step_writes s)
  by_step (Exec p) q = (q, tt)
  by_step (Atomic p) q = (q, tt)
  by_step Host q = (q, tt)
  by_step _ q = tt

  by_slot : (s : Step) → e.step ≡ s → e.effect.note ≡ AtomicIssue → Every In (slot_of s)
  by_slot (Exec p) q t = ((q, t), tt)
  by_slot _ q t = tt

  by_end : (s : Step) → e.step ≡ s → e.effect.note ≡ Ended → Every In (end_of s)
  by_end (Exec p) q t = ((t, inl q), tt)
  by_end (Elem p c) q t = ((t, inr (c, q)), tt)
  by_end _ q t = tt

  by_note : (s : Step) (t : Note) → e.step ≡ s → e.effect.note ≡ t → Every In (note_writes before s t)
  by_note s AtomicIssue q t = by_slot s q t
  by_note s Ended q t = by_end s q t
  by_note s (Put x m) q t = (inl (ap (is_put x m) t ∙ of_itself x m, refl), tt)
  by_note s (Take x m) q t = (inr (ap (is_take x m) t ∙ of_itself x m, refl), tt)
  by_note s (Signal x r) q t = (t, tt)
  by_note s _ q t = tt

  on_line : (x : Place) (b : Bool) (a : ℕ) → (x ≡ Memory → b ≡ true → In (OfLine a)) → Every In (line_in x b a)
  on_line Memory true a on = (on refl refl, tt)
  on_line Memory false a on = tt
  on_line (Local p) b a on = tt

  by_lines : (b : Bool) → moves_line before e.step ≡ b → Every In (line_roles b e.effect)
  by_lines true q =
      every_both In (line_of e.effect.reads) (line_of e.effect.writes)
      (on_line e.effect.reads.place (e.effect.reads.len == 128) e.effect.reads.at (λ x b. (q, inl record { memory = x; begins = refl; long = eqb-true _ _ b })))
      (on_line e.effect.writes.place (e.effect.writes.len == 128) e.effect.writes.at (λ x b. (q, inr record { memory = x; begins = refl; long = eqb-true _ _ b })))
  by_lines false q = tt

  pub joins_sound : Every In (write_roles before e)
  joins_sound =
      every_both In (step_writes e.step) (note_writes before e.step e.effect.note ++ line_roles (moves_line before e.step) e.effect)
      (by_step e.step refl)
      (every_both In (note_writes before e.step e.effect.note) (line_roles (moves_line before e.step) e.effect) (by_note e.step e.effect.note refl refl) (by_lines (moves_line before e.step) refl))

  module _ (r : Role) where
    abbrev Is : Role → Type 0
    Is w = w ≡ r

    in_steps : (s : Step) → e.step ≡ s → Among Is (step_writes s) → Among Is (write_roles before e)
    in_steps s q h = among_left Is (step_writes e.step) (note_writes before e.step e.effect.note ++ line_roles (moves_line before e.step) e.effect) (subst (λ x. Among Is (step_writes x)) (sym q) h)

    in_notes : (s : Step) (t : Note) → e.step ≡ s → e.effect.note ≡ t → Among Is (note_writes before s t) → Among Is (write_roles before e)
    in_notes s t q u h =
        among_right Is (step_writes e.step) (note_writes before e.step e.effect.note ++ line_roles (moves_line before e.step) e.effect)
        (among_left Is (note_writes before e.step e.effect.note) (line_roles (moves_line before e.step) e.effect)
        (subst (λ x. Among Is (note_writes before x e.effect.note)) (sym q) (subst (λ y. Among Is (note_writes before s y)) (sym u) h)))

    in_lines : (b : Bool) → moves_line before e.step ≡ b → Among Is (line_roles b e.effect) → Among Is (write_roles before e)
    in_lines b q h =
        among_right Is (step_writes e.step) (note_writes before e.step e.effect.note ++ line_roles (moves_line before e.step) e.effect)
        (among_right Is (note_writes before e.step e.effect.note) (line_roles (moves_line before e.step) e.effect) (subst (λ x. Among Is (line_roles x e.effect)) (sym q) h))

    put_note : (q m : ℕ) (s : Step) (t : Note) → is_put q m t ≡ true → put_role q m before ≡ r → Among Is (note_writes before s t)
    put_note q m s (Put x y) of h = let a = and_parts _ _ of in inl (subst₂ (λ v w. Is (put_role v w before)) (sym (eqb-true x q a.0)) (sym (eqb-true y m a.1)) h)
    put_note q m s _ of h = cc

    take_note : (q m : ℕ) (s : Step) (t : Note) → is_take q m t ≡ true → take_role q m before ≡ r → Among Is (note_writes before s t)
    take_note q m s (Take x y) of h = let a = and_parts _ _ of in inl (subst₂ (λ v w. Is (take_role v w before)) (sym (eqb-true x q a.0)) (sym (eqb-true y m a.1)) h)
    take_note q m s _ of h = cc

    line_at : (span : Span) (a : ℕ) → IsLine span a → OfLine a ≡ r → Among Is (line_of span)
    line_at span a on h = at span.place (span.len == 128) span.at on.memory (eq-eqb _ _ on.long) on.begins
      where
        at : (x : Place) (b : Bool) (y : ℕ) → x ≡ Memory → b ≡ true → y ≡ a → Among Is (line_in x b y)
        at Memory true y u v w = inl (ap OfLine w ∙ h)
        at Memory false y u v w = cc
        at (Local p) b y u v w = cc

  pub joins_full : (r : Role) → Joins before e r → Among (λ w. w ≡ r) (write_roles before e)
  joins_full (OfExec p) h = in_steps (OfExec p) (Exec p) h (inl refl)
  joins_full OfHost h = in_steps OfHost Host h (inl refl)
  joins_full (OfSlot p) h = in_notes (OfSlot p) (Exec p) AtomicIssue h.0 h.1 (inl refl)
  joins_full (OfAtomic p) h = in_steps (OfAtomic p) (Atomic p) h (inl refl)
  joins_full (OfLine a) h = in_lines (OfLine a) true h.0 (at h.1)
    where
      at : IsLine e.effect.reads a ⊎ IsLine e.effect.writes a → Among (λ w. w ≡ OfLine a) (line_of e.effect.reads ++ line_of e.effect.writes)
      at (inl x) = among_left (λ w. w ≡ OfLine a) (line_of e.effect.reads) (line_of e.effect.writes) (line_at (OfLine a) e.effect.reads a x refl)
      at (inr x) = among_right (λ w. w ≡ OfLine a) (line_of e.effect.reads) (line_of e.effect.writes) (line_at (OfLine a) e.effect.writes a x refl)
  joins_full (OfBox q m x) (inl h) = in_notes (OfBox q m x) e.step e.effect.note refl refl (put_note (OfBox q m x) q m e.step e.effect.note h.0 (ap (OfBox q m) h.1))
  joins_full (OfBox q m x) (inr h) = in_notes (OfBox q m x) e.step e.effect.note refl refl (take_note (OfBox q m x) q m e.step e.effect.note h.0 (ap (OfBox q m) h.1))
  joins_full (OfSignal q x) h = in_notes (OfSignal q x) e.step (Signal q x) refl h (inl refl)
  joins_full (OfEnd p) h = at h.1
    where
      at : (e.step ≡ Exec p) ⊎ ((c : ℕ) × (e.step ≡ Elem p c)) → Among (λ w. w ≡ OfEnd p) (write_roles before e)
      at (inl x) = in_notes (OfEnd p) (Exec p) Ended x h.0 (inl refl)
      at (inr x) = in_notes (OfEnd p) (Elem p x.0) Ended x.1 h.0 (inl refl)
