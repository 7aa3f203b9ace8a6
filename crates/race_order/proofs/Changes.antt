-- What a step makes of the progress of a command, case by case.
use Rattle.std.proofs.Common.{◌≡◌, ℕ, ◌+◌, ◌-◌, ◌==◌, Bool, true, false, ◌&&◌, not, refl, sym, ap, ap₂, ◌∙◌, arith}
use Rattle.std.specs.Prelude.{if◌then◌else◌}
use Rattle.std.proofs.lemmas.Bool.{eqb-true, eq-eqb, and_parts, both_ways}
use Rattle.cell_base.specs.declared.steps.Step.{Step}
use Rattle.cell_base.specs.declared.steps.Step.TheVariants.{Exec, Piece, Elem, Retire, Atomic, Host}
use Rattle.cell_machine.specs.declared.effect.Note.{Note}
use Rattle.cell_machine.specs.declared.effect.Note.TheVariants.{Ack, Element}
use Rattle.race_order.specs.Trace.{is_of}
use Rattle.race_order.specs.declared.progress.Progress.{Progress}
use Rattle.race_order.specs.Status.{stepped, finished, after_piece, with_element, after_element, after_ack, is_by, is_last, is_transfer}

-- the step leaves what was read as it is
pub record IsSame (s t : Progress) : Type 0 where
  pub read : t.read ≡ s.read
  pub left : t.left ≡ s.left
  pub flagged : t.flagged ≡ s.flagged

pub data Turns (p c : ℕ) (s t : Progress) (step : Step) (note : Note) : Type 0 where
  Stays : is_of p c step ≡ false → IsSame s t → t.stalled ≡ s.stalled → (step ≡ Exec p → note ≡ Ack s.command.tag → s.stalled ≡ false) → Turns p c s t step note
  Goes : step ≡ Exec p → note ≡ Ack s.command.tag → s.stalled ≡ true → IsSame s t → t.stalled ≡ false → Turns p c s t step note
  Copies : (n k : ℕ) → step ≡ Piece p c n k → t ≡ after_piece s → Turns p c s t step note
  Reads : step ≡ Elem p c → t ≡ after_element s note → Turns p c s t step note
  Ends : step ≡ Retire p c → IsSame s t → t.stalled ≡ false → Turns p c s t step note

module _ (p c : ℕ) (s : Progress) where
  same : IsSame s s
  same = record { read = refl; left = refl; flagged = refl }

  acked : (q : ℕ) → (q == p) ≡ true → (note : Note) → Turns p c s (after_ack s note) (Exec q) note
  acked q e (Ack tag) = at (s.stalled && (tag == s.command.tag)) refl
    where
      at : (b : Bool) → (s.stalled && (tag == s.command.tag)) ≡ b → Turns p c s (if b then record s { stalled = false; done = is_last s } else s) (Exec q) (Ack tag)
      at true f =
          let a = and_parts _ _ f in
          Goes (ap Exec (eqb-true q p e)) (ap Ack (eqb-true tag s.command.tag a.1)) a.0 record { read = refl; left = refl; flagged = refl } refl
      at false f = Stays refl same refl (λ x y. none y)
        where
          none : Ack tag ≡ Ack s.command.tag → s.stalled ≡ false
          none y =
              let g : tag ≡ s.command.tag = cc in
              by s.stalled (ap (λ b. s.stalled && b) (sym (eq-eqb tag s.command.tag g)) ∙ f)
            where
              by : (b : Bool) → (b && true) ≡ false → b ≡ false
              by true h = h
              by false h = refl
  acked q e _ = Stays refl same refl (λ x y. absurd (cc))

  copied : (q d n k : ℕ) (note : Note) (b : Bool) → is_by p c q d ≡ b → Turns p c s (if b then after_piece s else s) (Piece q d n k) note
  copied q d n k note true e = let a = and_parts _ _ e in Copies n k (ap₂ (λ x y. Piece x y n k) (eqb-true q p a.0) (eqb-true d c a.1)) refl
  copied q d n k note false e = Stays e same refl (λ x y. absurd (cc))

  was_read : (q d : ℕ) (note : Note) (b : Bool) → is_by p c q d ≡ b → Turns p c s (if b then after_element s note else s) (Elem q d) note
  was_read q d note true e = let a = and_parts _ _ e in Reads (ap₂ Elem (eqb-true q p a.0) (eqb-true d c a.1)) refl
  was_read q d note false e = Stays e same refl (λ x y. absurd (cc))

  retired : (q d : ℕ) (note : Note) (b : Bool) → is_by p c q d ≡ b → Turns p c s (if b then record s { stalled = false; done = true } else s) (Retire q d) note
  retired q d note true e = let a = and_parts _ _ e in Ends (ap₂ Retire (eqb-true q p a.0) (eqb-true d c a.1)) record { read = refl; left = refl; flagged = refl } refl
  retired q d note false e = Stays e same refl (λ x y. absurd (cc))

  told : (q : ℕ) (note : Note) (b : Bool) → (q == p) ≡ b → Turns p c s (if b then after_ack s note else s) (Exec q) note
  told q note true e = acked q e note
  told q note false e = Stays refl same refl (λ x y. absurd (both_ways _ e (eq-eqb q p (one x))))
    where
      one : Exec q ≡ Exec p → q ≡ p
      one x = cc

  pub turns : (step : Step) (note : Note) → Turns p c s (stepped p c s step note) step note
  turns (Exec q) note = told q note (q == p) refl
  turns (Piece q d n k) note = copied q d n k note (is_by p c q d) refl
  turns (Elem q d) note = was_read q d note (is_by p c q d) refl
  turns (Retire q d) note = retired q d note (is_by p c q d) refl
  turns (Atomic q) note = Stays refl same refl (λ x y. absurd (cc))
  turns Host note = Stays refl same refl (λ x y. absurd (cc))

-- ---- the last piece that was left

finish_left : (t : Progress) → (finished t).left ≡ 0
finish_left t = at (is_transfer t.command)
  where
    at : (b : Bool) → (if b then record t { left = 0; stalled = false; done = true } else record t { left = 0; stalled = t.flagged; done = not t.flagged && is_last t }).left ≡ 0
    at true = refl
    at false = refl

finish_flagged : (t : Progress) → (finished t).flagged ≡ t.flagged
finish_flagged t = at (is_transfer t.command)
  where
    at : (b : Bool) → (if b then record t { left = 0; stalled = false; done = true } else record t { left = 0; stalled = t.flagged; done = not t.flagged && is_last t }).flagged ≡ t.flagged
    at true = refl
    at false = refl

finish_read : (t : Progress) → (finished t).read ≡ t.read
finish_read t = at (is_transfer t.command)
  where
    at : (b : Bool) → (if b then record t { left = 0; stalled = false; done = true } else record t { left = 0; stalled = t.flagged; done = not t.flagged && is_last t }).read ≡ t.read
    at true = refl
    at false = refl

-- of a list the flag says whether it stalls
finish_stalled : (t : Progress) → is_transfer t.command ≡ false → (finished t).stalled ≡ t.flagged
finish_stalled t e = ap (λ (b : Bool). (if b then record t { left = 0; stalled = false; done = true } else record t { left = 0; stalled = t.flagged; done = not t.flagged && is_last t }).stalled) e

-- what is stalled is flagged
finish_calm : (t : Progress) → (finished t).stalled ≡ true → t.flagged ≡ true
finish_calm t = at (is_transfer t.command)
  where
    at : (b : Bool) → (if b then record t { left = 0; stalled = false; done = true } else record t { left = 0; stalled = t.flagged; done = not t.flagged && is_last t }).stalled ≡ true → t.flagged ≡ true
    at true h = absurd (cc)
    at false h = h

-- ---- a piece

module _ (s : Progress) where
  piece_by : (P : Progress → Type 0) → (s.left ≡ 1 → P (finished s)) → P record s { left = s.left - 1 } → P (after_piece s)
  piece_by P last other = at (s.left == 1) refl
    where
      at : (b : Bool) → (s.left == 1) ≡ b → P (if b then finished s else record s { left = s.left - 1 })
      at true e = last (eqb-true s.left 1 e)
      at false e = other

  pub piece_read : (after_piece s).read ≡ s.read
  piece_read = piece_by (λ t. t.read ≡ s.read) (λ e. finish_read s) refl

  pub piece_flagged : (after_piece s).flagged ≡ s.flagged
  piece_flagged = piece_by (λ t. t.flagged ≡ s.flagged) (λ e. finish_flagged s) refl

  pub piece_left : (after_piece s).left ≡ s.left - 1
  piece_left = piece_by (λ t. t.left ≡ s.left - 1) (λ e. let z : (finished s).left ≡ 0 = finish_left s in omega arith) refl

  pub piece_stalled : s.left ≡ 1 → is_transfer s.command ≡ false → (after_piece s).stalled ≡ s.flagged
  piece_stalled one list = ap (λ (b : Bool). (if b then finished s else record s { left = s.left - 1 }).stalled) (eq-eqb s.left 1 one) ∙ finish_stalled s list

  pub piece_calm : (after_piece s).stalled ≡ true → (s.stalled ≡ true → s.flagged ≡ true) → s.flagged ≡ true
  piece_calm h was = piece_by (λ t. t.stalled ≡ true → s.flagged ≡ true) (λ e x. finish_calm s x) was h

-- ---- the reading of an element

-- the note of its reading says whether the element is flagged, and how many pieces are left of it where so many were made
abbrev pub Says : Note → Bool → ℕ → ℕ → Type 0
Says (Element number parts flag) flagged left made = (flagged ≡ flag) × (left + made ≡ parts)
Says _ flagged left made = flagged ≡ false

module _ (s : Progress) (parts : ℕ) (flag : Bool) where
  element_by : (P : Progress → Type 0) → (parts ≡ 0 → P (finished (with_element s parts flag))) → ((parts ≡ 0 → ⊥) → P (with_element s parts flag)) → P (if parts == 0 then finished (with_element s parts flag) else with_element s parts flag)
  element_by P none some = at (parts == 0) refl
    where
      at : (b : Bool) → (parts == 0) ≡ b → P (if b then finished (with_element s parts flag) else with_element s parts flag)
      at true e = none (eqb-true parts 0 e)
      at false e = some (λ z. absurd (both_ways _ e (eq-eqb parts 0 z)))

pub element_says : (s : Progress) (note : Note) → Says note (after_element s note).flagged (after_element s note).left 0
element_says s (Element number parts flag) =
    element_by s parts flag (λ t. (t.flagged ≡ flag) × (t.left + 0 ≡ parts))
    (λ e. (finish_flagged (with_element s parts flag), let z : (finished (with_element s parts flag)).left ≡ 0 = finish_left (with_element s parts flag) in omega arith))
    (λ some. (refl, omega arith))
element_says s _ = refl

pub element_stalled : (s : Progress) (note : Note) → is_transfer s.command ≡ false → (after_element s note).left ≡ 0 → (after_element s note).flagged ≡ true → (after_element s note).stalled ≡ true
element_stalled s (Element number parts flag) list left flagged =
    element_by s parts flag (λ t. t.left ≡ 0 → t.flagged ≡ true → t.stalled ≡ true)
    (λ e l f. finish_stalled (with_element s parts flag) list ∙ (sym (finish_flagged (with_element s parts flag)) ∙ f))
    (λ some l f. absurd (some l))
    left flagged
element_stalled s _ list l f = absurd (cc)

pub element_calm : (s : Progress) (note : Note) → (after_element s note).stalled ≡ true → (after_element s note).flagged ≡ true
element_calm s (Element number parts flag) stalled = element_by s parts flag (λ t. t.stalled ≡ true → t.flagged ≡ true) (λ e h. finish_flagged (with_element s parts flag) ∙ finish_calm (with_element s parts flag) h) (λ some h. absurd (cc)) stalled
element_calm s _ h = absurd (cc)
