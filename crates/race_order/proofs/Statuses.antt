-- How the progress of a command grows.
use Rattle.std.proofs.Common.{◌≡◌, ℕ, ◌+◌, ◌-◌, ◌<◌, ◌≤◌, ◌==◌, Bool, true, false, ◌&&◌, not, ◌⊎◌, inl, inr, refl, sym, ap, ap₂, ◌∙◌, subst, arith}
use Rattle.std.specs.Prelude.{if◌then◌else◌}
use Rattle.std.proofs.lemmas.Bool.{eqb-true, eq-eqb, and_parts, both_ways}
use Rattle.cell_base.specs.declared.steps.Step.{Step}
use Rattle.cell_base.specs.declared.steps.Step.TheVariants.{Exec, Piece, Elem, Retire, Atomic, Host}
use Rattle.cell_machine.specs.declared.effect.Note.{Note}
use Rattle.cell_machine.specs.declared.effect.Note.TheVariants.{Ack, Element}
use Rattle.race_order.specs.Trace.{is_of}
use Rattle.race_order.specs.declared.progress.Progress.{Progress}
use Rattle.race_order.specs.Status.{stepped, finished, after_piece, with_element, after_element, after_ack, is_by, is_last, is_transfer, elements_done}

pub record Grows (s t : Progress) : Type 0 where
  pub command : t.command ≡ s.command
  pub read : s.read ≤ t.read
  pub done : elements_done s ≤ elements_done t

pub grows_itself : (s : Progress) → Grows s s
grows_itself s = record { command = refl; read = omega arith; done = omega arith }

pub grows_trans : (s t u : Progress) → Grows s t → Grows t u → Grows s u
grows_trans s t u g h =
    let a : s.read ≤ t.read = g.read in
    let b : t.read ≤ u.read = h.read in
    let c : elements_done s ≤ elements_done t = g.done in
    let d : elements_done t ≤ elements_done u = h.done in
    record { command = h.command ∙ g.command; read = omega arith; done = omega arith }

-- by the number of pieces left
count_by_left : (left read : ℕ) → ℕ
count_by_left left read = if left == 0 then read else read - 1

count_none : (read : ℕ) (b : Bool) → (if b then read else read - 1) ≤ read
count_none read true = omega arith
count_none read false = omega arith

pub done_le : (s : Progress) → elements_done s ≤ s.read
done_le s = count_none s.read (s.left == 0)

pub done_all : (s : Progress) → s.left ≡ 0 → elements_done s ≡ s.read
done_all s e = ap (λ (b : Bool). if b then s.read else s.read - 1) (eq-eqb s.left 0 e)

done_low : (s : Progress) → s.read - 1 ≤ elements_done s
done_low s = at (s.left == 0)
  where
    at : (b : Bool) → s.read - 1 ≤ (if b then s.read else s.read - 1)
    at true = omega arith
    at false = omega arith

-- with the same elements read, and nothing left
grows_finished : (s t : Progress) → t.command ≡ s.command → s.read ≤ t.read → t.left ≡ 0 → Grows s t
grows_finished s t c r l =
    let a : elements_done s ≤ s.read = done_le s in
    let b : elements_done t ≡ t.read = done_all t l in
    record { command = c; read = r; done = omega arith }

grows_finish : (s t : Progress) → t.command ≡ s.command → s.read ≤ t.read → (b : Bool) → is_transfer t.command ≡ b → Grows s (finished t)
grows_finish s t c r b e = at b e
  where
    at : (b : Bool) → is_transfer t.command ≡ b → Grows s (finished t)
    at true e = subst (Grows s) (sym (ap (λ (x : Bool). if x then record t { left = 0; stalled = false; done = true } else record t { left = 0; stalled = t.flagged; done = not t.flagged && is_last t }) e)) (grows_finished s record t { left = 0; stalled = false; done = true } c r refl)
    at false e = subst (Grows s) (sym (ap (λ (x : Bool). if x then record t { left = 0; stalled = false; done = true } else record t { left = 0; stalled = t.flagged; done = not t.flagged && is_last t }) e)) (grows_finished s record t { left = 0; stalled = t.flagged; done = not t.flagged && is_last t } c r refl)

-- what holds of every progress
pub record Valid (s : Progress) : Type 0 where
  pub calm : s.done ≡ true → s.stalled ≡ false
  pub rest : s.stalled ≡ true → s.left ≡ 0
  pub some : 0 < s.left → is_transfer s.command ≡ false → 0 < s.read
  pub listed : s.stalled ≡ true → 0 < s.read

-- what a step does to the progress of a command that isn't complete
pub record Steps (p c : ℕ) (s t : Progress) (step : Step) : Type 0 where
  pub grows : Grows s t
  pub read : (t.read ≡ s.read) ⊎ ((step ≡ Elem p c) × (t.read ≡ s.read + 1))
  pub valid : Valid s → Valid t
  pub by : t.done ≡ true → (is_of p c step ≡ true) ⊎ (s.stalled ≡ true)
  pub halts : t.stalled ≡ true → (is_of p c step ≡ true) ⊎ (s.stalled ≡ true)

abbrev finish_by : Progress → Bool → Progress
finish_by t b = if b then record t { left = 0; stalled = false; done = true } else record t { left = 0; stalled = t.flagged; done = not t.flagged && is_last t }

abbrev piece_by : Progress → Bool → Progress
piece_by s b = if b then finished s else record s { left = s.left - 1 }

abbrev element_by : Progress → ℕ → Bool → Bool → Progress
element_by s parts flag b = if b then finished (with_element s parts flag) else with_element s parts flag

module _ (p c : ℕ) (s : Progress) (live : s.done ≡ false) where
  same_steps : (step : Step) → Steps p c s s step
  same_steps step = record { grows = grows_itself s; read = inl refl; valid = λ v. v; by = λ d. absurd (both_ways _ live d); halts = λ x. inr x }

  chosen : (step : Step) (t : Progress) (b : Bool) → (b ≡ true → Steps p c s t step) → Steps p c s (if b then t else s) step
  chosen step t true h = h refl
  chosen step t false h = same_steps step

  ack_steps : (q : ℕ) (note : Note) → Steps p c s (after_ack s note) (Exec q)
  ack_steps q (Ack tag) =
      chosen (Exec q) record s { stalled = false; done = is_last s } (s.stalled && (tag == s.command.tag))
      (λ e.
      let a = and_parts _ _ e in
      record {
        grows = record { command = refl; read = omega arith; done = omega arith };
        read = inl refl;
        valid = λ v. record { calm = λ d. refl; rest = λ x. absurd (never x); some = v.some; listed = λ x. absurd (never x) };
        by = λ d. inr a.0;
        halts = λ x. absurd (never x);
      })
    where
      never : false ≡ true → ⊥
      never x = cc
  ack_steps q _ = same_steps (Exec q)

  -- the step finishes what was left
  finish_steps : (step : Step) (t : Progress) → is_of p c step ≡ true → t.command ≡ s.command → ((t.read ≡ s.read) ⊎ ((step ≡ Elem p c) × (t.read ≡ s.read + 1))) → (Valid s → is_transfer t.command ≡ false → 0 < t.read) → Steps p c s (finished t) step
  finish_steps step t of same read more = at (is_transfer t.command) refl
    where
      low : s.read ≤ t.read
      low = le read
        where
          le : ((t.read ≡ s.read) ⊎ ((step ≡ Elem p c) × (t.read ≡ s.read + 1))) → s.read ≤ t.read
          le (inl e) = omega arith
          le (inr e) = let f : t.read ≡ s.read + 1 = e.1 in omega arith

      never : false ≡ true → ⊥
      never x = cc

      clash : (f : Bool) → (not f && is_last t) ≡ true → f ≡ false
      clash true d = cc
      clash false d = refl

      at : (b : Bool) → is_transfer t.command ≡ b → Steps p c s (finished t) step
      at true e =
          subst (λ u. Steps p c s u step) (sym (ap (finish_by t) e))
          record {
            grows = grows_finished s record t { left = 0; stalled = false; done = true } same low refl;
            read = read;
            valid = λ v. record { calm = λ d. refl; rest = λ x. absurd (never x); some = λ x y. absurd (omega arith); listed = λ x. absurd (never x) };
            by = λ d. inl of;
            halts = λ x. inl of;
          }
      at false e =
          subst (λ u. Steps p c s u step) (sym (ap (finish_by t) e))
          record {
            grows = grows_finished s record t { left = 0; stalled = t.flagged; done = not t.flagged && is_last t } same low refl;
            read = read;
            valid = λ v. record { calm = λ d. clash t.flagged d; rest = λ x. refl; some = λ x y. absurd (omega arith); listed = λ x. more v e };
            by = λ d. inl of;
            halts = λ x. inl of;
          }

  piece_steps : (step : Step) → is_of p c step ≡ true → Steps p c s (after_piece s) step
  piece_steps step of = at (s.left == 1) refl
    where
      at : (b : Bool) → (s.left == 1) ≡ b → Steps p c s (after_piece s) step
      at true e =
          let one : s.left ≡ 1 = eqb-true s.left 1 e in
          subst (λ u. Steps p c s u step) (sym (ap (piece_by s) e)) (finish_steps step s of refl (inl refl) (λ v f. v.some (omega arith) f))
      at false e =
          subst (λ u. Steps p c s u step) (sym (ap (piece_by s) e))
          record {
            grows = record { command = refl; read = omega arith; done = less (s.left == 0) refl };
            read = inl refl;
            valid = λ v. record { calm = v.calm; rest = λ x. let r : s.left ≡ 0 = v.rest x in omega arith; some = λ x y. v.some (omega arith) y; listed = v.listed };
            by = λ d. absurd (both_ways _ live d);
            halts = λ x. inr x;
          }
        where
          less : (b : Bool) → (s.left == 0) ≡ b → elements_done s ≤ elements_done record s { left = s.left - 1 }
          less true z =
              let l : s.left ≡ 0 = eqb-true s.left 0 z in
              let a : elements_done s ≤ s.read = done_le s in
              let d : elements_done record s { left = s.left - 1 } ≡ s.read = done_all record s { left = s.left - 1 } (omega arith) in
              omega arith
          less false z =
              let a : elements_done s ≡ s.read - 1 = ap (λ (b : Bool). if b then s.read else s.read - 1) z in
              let d : s.read - 1 ≤ elements_done record s { left = s.left - 1 } = done_low record s { left = s.left - 1 } in
              omega arith

  with_steps : (parts : ℕ) (flag : Bool) → Steps p c s (with_element s parts flag) (Elem p c)
  with_steps parts flag =
      let a : elements_done s ≤ s.read = done_le s in
      let d : (s.read + 1) - 1 ≤ elements_done (with_element s parts flag) = done_low (with_element s parts flag) in
      record {
        grows = record { command = refl; read = omega arith; done = omega arith };
        read = inr (refl, refl);
        valid = λ v. record { calm = λ x. refl; rest = λ x. absurd (never x); some = λ x y. omega arith; listed = λ x. absurd (never x) };
        by = λ x. absurd (both_ways _ live x);
        halts = λ x. absurd (never x);
      }
    where
      never : false ≡ true → ⊥
      never x = cc

  elem_steps : is_of p c (Elem p c) ≡ true → (note : Note) → Steps p c s (after_element s note) (Elem p c)
  elem_steps of (Element number parts flag) = at (parts == 0) refl
    where
      at : (b : Bool) → (parts == 0) ≡ b → Steps p c s (after_element s (Element number parts flag)) (Elem p c)
      at true e = subst (λ u. Steps p c s u (Elem p c)) (sym (ap (element_by s parts flag) e)) (finish_steps (Elem p c) (with_element s parts flag) of refl (inr (refl, refl)) (λ v f. omega arith))
      at false e = subst (λ u. Steps p c s u (Elem p c)) (sym (ap (element_by s parts flag) e)) (with_steps parts flag)
  elem_steps of _ = with_steps 1 false

  retire_steps : (step : Step) → is_of p c step ≡ true → Steps p c s record s { stalled = false; done = true } step
  retire_steps step of =
      record {
        grows = record { command = refl; read = omega arith; done = omega arith };
        read = inl refl;
        valid = λ v. record { calm = λ d. refl; rest = λ x. absurd (never x); some = v.some; listed = λ x. absurd (never x) };
        by = λ d. inl of;
        halts = λ x. inl of;
      }
    where
      never : false ≡ true → ⊥
      never x = cc

  pub stepped_steps : (step : Step) (note : Note) → Steps p c s (stepped p c s step note) step
  stepped_steps (Exec q) note = chosen (Exec q) (after_ack s note) (q == p) (λ e. ack_steps q note)
  stepped_steps (Piece q d x k) note = chosen (Piece q d x k) (after_piece s) (is_by p c q d) (λ e. piece_steps (Piece q d x k) e)
  stepped_steps (Elem q d) note =
      chosen (Elem q d) (after_element s note) (is_by p c q d)
      (λ e.
      let a = and_parts _ _ e in
      let same : Elem p c ≡ Elem q d = sym (ap₂ Elem (eqb-true q p a.0) (eqb-true d c a.1)) in
      subst (Steps p c s (after_element s note)) same (elem_steps (ap (is_of p c) same ∙ e) note))
  stepped_steps (Retire q d) note = chosen (Retire q d) record s { stalled = false; done = true } (is_by p c q d) (λ e. retire_steps (Retire q d) e)
  stepped_steps (Atomic q) note = same_steps (Atomic q)
  stepped_steps Host note = same_steps Host

-- a step reads one element at most
pub done_after : (p c : ℕ) (s : Progress) → s.done ≡ false → (step : Step) (note : Note) → elements_done (stepped p c s step note) ≤ s.read + 1
done_after p c s live step note = by (stepped_steps p c s live step note).read
  where
    le : elements_done (stepped p c s step note) ≤ (stepped p c s step note).read
    le = done_le (stepped p c s step note)

    by : ((stepped p c s step note).read ≡ s.read) ⊎ ((step ≡ Elem p c) × ((stepped p c s step note).read ≡ s.read + 1)) → elements_done (stepped p c s step note) ≤ s.read + 1
    by (inl e) = let l : elements_done (stepped p c s step note) ≤ (stepped p c s step note).read = le in omega arith
    by (inr e) = let l : elements_done (stepped p c s step note) ≤ (stepped p c s step note).read = le in let f : (stepped p c s step note).read ≡ s.read + 1 = e.1 in omega arith
