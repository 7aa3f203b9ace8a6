-- What is counted in a trace is what the progress of each command says.
use Rattle.std.proofs.Common.{◌≡◌, ℕ, zero, suc, ◌+◌, ◌-◌, ◌<◌, ◌≤◌, ◌==◌, Bool, true, false, ◌&&◌, length, take, Option, Some, None, ◌⊎◌, inl, inr, refl, sym, ap, ap₂, ◌∙◌, subst, arith}
use Rattle.std.specs.Prelude.{slice_get, if◌then◌else◌, cond}
use Rattle.std.proofs.lemmas.Bool.{cases_lt, eqb-true, eq-eqb, and_parts, and_from, both_ways}
use Rattle.std.proofs.lemmas.List.{take-take, length-take-le}
use Rattle.std.proofs.lemmas.Option.{slice_get_within}
use Rattle.cell_base.specs.declared.steps.Step.{Step}
use Rattle.cell_base.specs.declared.steps.Step.TheVariants.{Exec, Piece, Elem, Retire}
use Rattle.mfc_command.specs.declared.command.Command.{Command}
use Rattle.cell_machine.specs.declared.effect.Note.{Note}
use Rattle.cell_machine.specs.declared.effect.Note.TheVariants.{Issue, Ack, Element, Nothing}
use Rattle.race_order.specs.Trace.{Event, Trace, IsStep, Notes, is_of}
use Rattle.race_order.specs.declared.progress.Progress.{Progress}
use Rattle.race_order.specs.Status.{status, next_status, first_status, issued_as, begun, stepped, is_transfer, elements_done}
use Rattle.race_order.specs.Queue.{Has, IsStalled, ReadsElement as ReadsByStatus}
use Rattle.race_order.specs.Commands.{is_read, is_piece, reads, pieces, ReadsElement, IsFlagDone}
use Rattle.race_order.specs.Premises.{MayStep, IsQueued, FitsProgress}
use Rattle.race_order.proofs.Places.{get_there, take_step, same_get}
use Rattle.race_order.proofs.Counts.{IsNth, count_more, nth_there, nth_before, nth_one}
use Rattle.race_order.proofs.LookedAt.{step_here, step_there, notes_here, notes_there}
use Rattle.race_order.proofs.Statuses.{Grows, done_all}
use Rattle.race_order.proofs.Histories.{status_next, same_progress, Later, later_at, Came, Newly, Kept, Moved, came, valid_at}
use Rattle.race_order.proofs.Elements.{may_at, step_of, elem_fits, AtPiece, at_piece, piece_list, of_itself, read_element}
use Rattle.race_order.proofs.Changes.{IsSame, Turns, Stays, Goes, Copies, Reads, Ends, turns, piece_read, piece_flagged, piece_left, piece_stalled, piece_calm, Says, element_says, element_stalled, element_calm}

-- ---- steps that are counted

read_is : (p c : ℕ) (s : Step) → is_read p c s ≡ true → s ≡ Elem p c
read_is p c (Elem q d) e = let a = and_parts _ _ e in ap₂ Elem (eqb-true q p a.0) (eqb-true d c a.1)
read_is p c _ e = absurd (cc)

piece_is : (p c n : ℕ) (s : Step) → is_piece p c n s ≡ true → (k : ℕ) × (s ≡ Piece p c n k)
piece_is p c n (Piece q d m k) e =
    let a = and_parts _ _ e in
    let b = and_parts _ _ a.0 in
    (k, ap₂ (λ x y. Piece x y m k) (eqb-true q p b.0) (eqb-true d c b.1) ∙ ap (λ x. Piece p c x k) (eqb-true m n a.1))
piece_is p c n _ e = absurd (cc)

-- a step of no element of the command
not_read : (p c : ℕ) (s : Step) → is_of p c s ≡ false → is_read p c s ≡ false
not_read p c (Elem q d) e = e
not_read p c _ e = refl

not_piece : (p c n : ℕ) (s : Step) → is_of p c s ≡ false → is_piece p c n s ≡ false
not_piece p c n (Piece q d m k) e = ap (λ b. b && (m == n)) e
not_piece p c n _ e = refl

cond_no : (b : Bool) → b ≡ false → cond {A = ℕ} b 1 0 ≡ 0
cond_no b e = ap (λ (x : Bool). cond {A = ℕ} x 1 0) e

cond_yes : (b : Bool) → b ≡ true → cond {A = ℕ} b 1 0 ≡ 1
cond_yes b e = ap (λ (x : Bool). cond {A = ℕ} x 1 0) e

-- the elements that a progress has read
abbrev read_in : Option Progress → ℕ
read_in None = 0
read_in (Some s) = s.read

first_read : (p c : ℕ) (step : Step) (note : Note) → read_in (first_status p c step note) ≡ 0
first_read p c (Exec q) note = at (q == p) note
  where
    at : (b : Bool) (note : Note) → read_in (if b then issued_as c note else None) ≡ 0
    at true (Issue d command) = by (d == c)
      where
        by : (b : Bool) → read_in (if b then Some (begun command) else None) ≡ 0
        by true = refl
        by false = refl
    at true _ = refl
    at false note = refl
first_read p c _ note = refl

some_left : (t : Progress) → 0 < t.left → elements_done t ≡ t.read - 1
some_left t some = at (t.left == 0) refl
  where
    at : (b : Bool) → (t.left == 0) ≡ b → (if b then t.read else t.read - 1) ≡ t.read - 1
    at true e = let z : t.left ≡ 0 = eqb-true t.left 0 e in absurd (omega arith)
    at false e = refl

-- the element n was read last, is flagged, and nothing is left of it
pub record Full (n : ℕ) (s : Progress) : Type 0 where
  pub read : s.read ≡ n + 1
  pub flagged : s.flagged ≡ true
  pub left : s.left ≡ 0

module _ (T : Trace) (queued : IsQueued T) where
  -- one more step is counted where it is one
  reads_more : (p c i : ℕ) (e : Event) → slice_get T i ≡ Some e → reads p c (take (suc i) T) ≡ reads p c (take i T) + cond (is_read p c e.step) 1 0
  reads_more p c i e here = ap (reads p c) (take_step T i e here) ∙ count_more (λ x. is_read p c x.step) (take i T) e

  pieces_more : (p c n i : ℕ) (e : Event) → slice_get T i ≡ Some e → pieces p c n (take (suc i) T) ≡ pieces p c n (take i T) + cond (is_piece p c n e.step) 1 0
  pieces_more p c n i e here = ap (pieces p c n) (take_step T i e here) ∙ count_more (λ x. is_piece p c n x.step) (take i T) e

  -- a command that isn't issued, or is complete, has no step
  quiet : (p c i : ℕ) (e : Event) → slice_get T i ≡ Some e → ((s : Progress) → Has (take i T) p c s → s.done ≡ true) → is_of p c e.step ≡ false
  quiet p c i e here over = at (is_of p c e.step) refl
    where
      at : (b : Bool) → is_of p c e.step ≡ b → is_of p c e.step ≡ false
      at false f = f
      at true f = let may : MayStep (take i T) p c e.step e.effect.note = (queued i e here).step p c f in absurd (both_ways _ may.live (over may.progress may.has))

  -- as many elements were read as the progress says
  reads_turn : (p c : ℕ) (s t : Progress) (step : Step) (note : Note) → Turns p c s t step note → t.read ≡ s.read + cond (is_read p c step) 1 0
  reads_turn p c s t step note (Stays of is st calm) = let z : cond {A = ℕ} (is_read p c step) 1 0 ≡ 0 = cond_no _ (not_read p c step of) in let r : t.read ≡ s.read = is.read in omega arith
  reads_turn p c s t step note (Goes e f st is calm) = let z : cond {A = ℕ} (is_read p c step) 1 0 ≡ 0 = cond_no _ (ap (is_read p c) e) in let r : t.read ≡ s.read = is.read in omega arith
  reads_turn p c s t step note (Copies n k e f) = let z : cond {A = ℕ} (is_read p c step) 1 0 ≡ 0 = cond_no _ (ap (is_read p c) e) in let r : t.read ≡ s.read = ap (λ (x : Progress). x.read) f ∙ piece_read s in omega arith
  reads_turn p c s t step note (Reads e f) = let z : cond {A = ℕ} (is_read p c step) 1 0 ≡ 1 = cond_yes _ (ap (is_read p c) e ∙ of_itself p c) in let r : t.read ≡ s.read + 1 = ap (λ (x : Progress). x.read) f ∙ read_element s note in omega arith
  reads_turn p c s t step note (Ends e is st) = let z : cond {A = ℕ} (is_read p c step) 1 0 ≡ 0 = cond_no _ (ap (is_read p c) e) in let r : t.read ≡ s.read = is.read in omega arith

  -- one more step reads as much as is counted
  reads_step : (p c i : ℕ) (e : Event) → slice_get T i ≡ Some e → (o : Option Progress) → status p c (take i T) ≡ o → read_in (next_status p c o e) ≡ read_in o + cond (is_read p c e.step) 1 0
  reads_step p c i e here None is =
      let of = quiet p c i e here (λ s h. absurd (none s h)) in
      let z : cond {A = ℕ} (is_read p c e.step) 1 0 ≡ 0 = cond_no _ (not_read p c e.step of) in
      let f : read_in (first_status p c e.step e.effect.note) ≡ 0 = first_read p c e.step e.effect.note in
      omega arith
    where
      none : (s : Progress) → Has (take i T) p c s → ⊥
      none s h = let x : None ≡ Some s = sym is ∙ h.is in cc
  reads_step p c i e here (Some s) is = at s.done refl
    where
      at : (b : Bool) → s.done ≡ b → (if b then s else stepped p c s e.step e.effect.note).read ≡ s.read + cond (is_read p c e.step) 1 0
      at true d =
          let of = quiet p c i e here (λ t h. ap (λ (v : Progress). v.done) (same_progress (take i T) p c t s h record { is = is }) ∙ d) in
          let z : cond {A = ℕ} (is_read p c e.step) 1 0 ≡ 0 = cond_no _ (not_read p c e.step of) in
          omega arith
      at false d = reads_turn p c s _ e.step e.effect.note (turns p c s e.step e.effect.note)

  pub reads_are : (p c i : ℕ) → i ≤ length T → (o : Option Progress) → status p c (take i T) ≡ o → reads p c (take i T) ≡ read_in o
  reads_are p c zero low o is = ap read_in is
  reads_are p c (suc i) low o is =
      let g : (x : Event) × (slice_get T i ≡ Some x) = get_there T i (omega arith) in
      let was = reads_are p c i (omega arith) (status p c (take i T)) refl in
      let next : status p c (take (suc i) T) ≡ next_status p c (status p c (take i T)) g.0 = ap (status p c) (take_step T i g.0 g.1) ∙ status_next p c (take i T) g.0 in
      reads_more p c i g.0 g.1 ∙ (ap (λ n. n + cond (is_read p c g.0.step) 1 0) was ∙ (sym (reads_step p c i g.0 g.1 (status p c (take i T)) refl) ∙ (ap read_in (sym next) ∙ ap read_in is)))

  pub reads_at : (p c i : ℕ) (s : Progress) → i ≤ length T → Has (take i T) p c s → reads p c (take i T) ≡ s.read
  reads_at p c i s low h = reads_are p c i low (Some s) h.is

  -- ---- the pieces of an element

  -- between two places a command goes on
  pub grown : (p c i j : ℕ) (s t : Progress) → i ≤ j → j ≤ length T → Has (take i T) p c s → Has (take j T) p c t → Grows s t
  grown p c i j s t below low h g =
      let l : Later (take j T) p c s = later_at T p c i j s below low h in
      subst (Grows s) (same_progress (take j T) p c l.progress t l.has g) l.grows

  -- of an element that isn't read yet no piece comes
  early_piece : (p c n i k part : ℕ) (t : Progress) → k < i → i ≤ length T → Has (take i T) p c t → is_transfer t.command ≡ false → t.read ≤ n → IsStep T k (Piece p c n part) → ⊥
  early_piece p c n i k part t less low h list few step =
      let a : AtPiece T queued k p c n = at_piece T queued k p c n part step in
      at a.progress (grown p c k i a.progress t (omega arith) low a.has h) a.which
    where
      at : (s : Progress) → Grows s t → ((is_transfer s.command ≡ true) × (n ≡ 0)) ⊎ ((is_transfer s.command ≡ false) × (n + 1 ≡ s.read)) → ⊥
      at s g (inl x) = both_ways _ list (ap is_transfer g.command ∙ x.0)
      at s g (inr x) = let more : s.read ≤ t.read = g.read in let number : n + 1 ≡ s.read = x.1 in omega arith

  no_piece : (p c n i : ℕ) (t : Progress) → i ≤ length T → Has (take i T) p c t → is_transfer t.command ≡ false → t.read ≤ n → pieces p c n (take i T) ≡ 0
  no_piece p c n i t low h list few = at (cases_lt 0 (pieces p c n (take i T)))
    where
      at : (0 < pieces p c n (take i T)) ⊎ (pieces p c n (take i T) ≤ 0) → pieces p c n (take i T) ≡ 0
      at (inr none) = omega arith
      at (inl some) =
          let f : (k : ℕ) × IsNth (λ e. is_piece p c n e.step) (take i T) 0 k = nth_there (λ e. is_piece p c n e.step) (take i T) 0 some in
          let g : (f.0 < i) × IsNth (λ e. is_piece p c n e.step) T 0 f.0 = nth_before (λ e. is_piece p c n e.step) T i 0 f.0 f.1 in
          let piece = piece_is p c n g.1.element.step g.1.passes in
          absurd (early_piece p c n i f.0 piece.0 t g.0 low h list few record { event = g.1.element; at = g.1.at; is = piece.1 })

  -- the element that was read last: where, and what its note says of the progress
  pub record Last (p c n i : ℕ) (s : Progress) : Type 0 where
    pub place : ℕ
    pub before : place < i
    pub read : ReadsByStatus T place p c n
    pub says : Says read.step.event.effect.note s.flagged s.left (pieces p c n (take i T))

  said : (note : Note) (f g : Bool) (l k m n : ℕ) → Says note f l m → g ≡ f → k + n ≡ l + m → Says note g k n
  said (Element number parts flag) f g l k m n h e sum = (e ∙ h.0, let x : l + m ≡ parts = h.1 in omega arith)
  said (Nothing) f g l k m n h e sum = e ∙ h
  said _ f g l k m n h e sum = e ∙ h

  -- the step at i, after which the progress is s, and before which it was t
  module _ (p c n i : ℕ) (e : Event) (s t : Progress) (low : i < length T) (here : slice_get T i ≡ Some e) (was : Has (take i T) p c t) (number : s.read ≡ n + 1) where
    kept_last : s.read ≡ t.read → s.flagged ≡ t.flagged → s.left + cond (is_piece p c n e.step) 1 0 ≡ t.left → Last p c n i t → Last p c n (suc i) s
    kept_last read flag left l =
        let less = l.before in
        let more = pieces_more p c n i e here in
        record { place = l.place; before = omega arith; read = l.read; says = said l.read.step.event.effect.note t.flagged s.flagged t.left s.left (pieces p c n (take i T)) (pieces p c n (take (suc i) T)) l.says flag (omega arith) }

    turned_last : (t.read ≡ n + 1 → Last p c n i t) → Turns p c t s e.step e.effect.note → Last p c n (suc i) s
    turned_last before (Stays of is st calm) =
        let z : cond {A = ℕ} (is_piece p c n e.step) 1 0 ≡ 0 = cond_no _ (not_piece p c n e.step of) in
        let l : s.left ≡ t.left = is.left in
        kept_last is.read is.flagged (omega arith) (before (sym is.read ∙ number))
    turned_last before (Goes x y st is calm) =
        let z : cond {A = ℕ} (is_piece p c n e.step) 1 0 ≡ 0 = cond_no _ (ap (is_piece p c n) x) in
        let l : s.left ≡ t.left = is.left in
        kept_last is.read is.flagged (omega arith) (before (sym is.read ∙ number))
    turned_last before (Ends x is st) =
        let z : cond {A = ℕ} (is_piece p c n e.step) 1 0 ≡ 0 = cond_no _ (ap (is_piece p c n) x) in
        let l : s.left ≡ t.left = is.left in
        kept_last is.read is.flagged (omega arith) (before (sym is.read ∙ number))
    turned_last before (Copies m k x y) =
        let step : IsStep T i (Piece p c m k) = record { event = e; at = here; is = x } in
        let a : AtPiece T queued i p c m = at_piece T queued i p c m k step in
        let own : a.progress ≡ t = same_progress (take i T) p c a.progress t a.has was in
        let read : s.read ≡ t.read = ap (λ (v : Progress). v.read) y ∙ piece_read t in
        let l : Last p c n i t = before (sym read ∙ number) in
        let list = piece_list T queued i p c m k l.place n step l.read a in
        let which : m + 1 ≡ t.read = list.1 ∙ ap (λ (v : Progress). v.read) own in
        let same : m ≡ n = omega arith in
        let one : cond {A = ℕ} (is_piece p c n e.step) 1 0 ≡ 1 = cond_yes _ (ap (is_piece p c n) x ∙ and_from _ _ (of_itself p c) (eq-eqb m n same)) in
        let some : 0 < t.left = subst (λ (v : Progress). 0 < v.left) own a.left in
        let left : s.left ≡ t.left - 1 = ap (λ (v : Progress). v.left) y ∙ piece_left t in
        kept_last read (ap (λ (v : Progress). v.flagged) y ∙ piece_flagged t) (omega arith) l
    turned_last before (Reads x y) =
        let read : s.read ≡ t.read + 1 = ap (λ (v : Progress). v.read) y ∙ read_element t e.effect.note in
        let r : ReadsByStatus T i p c n = record { step = record { event = e; at = here; is = x }; progress = t; has = was; number = omega arith } in
        let fits = elem_fits T queued i p c n r in
        let none : pieces p c n (take i T) ≡ 0 = no_piece p c n i t (omega arith) was fits.0 (omega arith) in
        let z : cond {A = ℕ} (is_piece p c n e.step) 1 0 ≡ 0 = cond_no _ (ap (is_piece p c n) x) in
        let more = pieces_more p c n i e here in
        let count : 0 ≡ pieces p c n (take (suc i) T) = omega arith in
        record { place = i; before = omega arith; read = r; says = subst (λ m. Says e.effect.note s.flagged s.left m) count (subst (λ (v : Progress). Says e.effect.note v.flagged v.left 0) (sym y) (element_says t e.effect.note)) }

  pub last_read : (p c n i : ℕ) (s : Progress) → i ≤ length T → Has (take i T) p c s → s.read ≡ n + 1 → Last p c n i s
  last_read p c n zero s low h number = absurd (cc)
  last_read p c n (suc i) s low h number =
      let g : (x : Event) × (slice_get T i ≡ Some x) = get_there T i (omega arith) in
      at g.0 g.1 (came (take i T) g.0 p c s (subst (λ u. Has u p c s) (take_step T i g.0 g.1) h)) (λ t x y. last_read p c n i t (omega arith) x y)
    where
      at : (e : Event) → slice_get T i ≡ Some e → Came (take i T) e p c s → ((t : Progress) → Has (take i T) p c t → t.read ≡ n + 1 → Last p c n i t) → Last p c n (suc i) s
      at e here (Newly q x y z) rest = let r : s.read ≡ 0 = ap (λ (v : Progress). v.read) z in absurd (omega arith)
      at e here (Kept t x d same) rest =
          let of = quiet p c i e here (λ u k. ap (λ (v : Progress). v.done) (same_progress (take i T) p c u t k x) ∙ d) in
          let z : cond {A = ℕ} (is_piece p c n e.step) 1 0 ≡ 0 = cond_no _ (not_piece p c n e.step of) in
          let read : s.read ≡ t.read = ap (λ (v : Progress). v.read) same in
          let left : s.left ≡ t.left = ap (λ (v : Progress). v.left) same in
          kept_last p c n i e s t (omega arith) here x number read (ap (λ (v : Progress). v.flagged) same) (omega arith) (rest t x (sym read ∙ number))
      at e here (Moved t x d f st) rest =
          turned_last p c n i e s t (omega arith) here x number (λ r. rest t x r) (subst (λ v. Turns p c t v e.step e.effect.note) (sym f) (turns p c t e.step e.effect.note))

  -- ---- flagged elements that are done

  -- what was read n-th was read at one place
  one_read : (p c n i j : ℕ) → ReadsElement T i p c n → ReadsElement T j p c n → i ≡ j
  one_read p c n i j a b = nth_one (λ e. is_read p c e.step) T n i j (nth a) (nth b)
    where
      nth : {k : ℕ} → ReadsElement T k p c n → IsNth (λ e. is_read p c e.step) T n k
      nth r = record { element = r.step.event; at = r.step.at; passes = ap (is_read p c) r.step.is ∙ of_itself p c; number = r.number }

  pub counted : (i p c n : ℕ) → ReadsByStatus T i p c n → ReadsElement T i p c n
  counted i p c n r =
      let low : i < length T = slice_get_within T i r.step.event r.step.at in
      record { step = r.step; number = reads_at p c i r.progress (omega arith) r.has ∙ r.number }

  pub tracked : (i p c n : ℕ) → ReadsElement T i p c n → ReadsByStatus T i p c n
  tracked i p c n r =
      let low : i < length T = slice_get_within T i r.step.event r.step.at in
      let may : MayStep (take i T) p c r.step.event.step r.step.event.effect.note = may_at T queued i p c (step_of T queued i p c r.step) in
      record { step = r.step; progress = may.progress; has = may.has; number = sym (reads_at p c i may.progress (omega arith) may.has) ∙ r.number }

  -- a flagged element that was read last says what is left of it
  pub last_flag : (p c n i q number parts : ℕ) (s : Progress) → i ≤ length T → Has (take i T) p c s → s.read ≡ n + 1 → ReadsElement T q p c n → Notes T q (Elem p c) (Element number parts true) → (s.flagged ≡ true) × (s.left + pieces p c n (take i T) ≡ parts)
  last_flag p c n i q number parts s low h read r flag =
      let l : Last p c n i s = last_read p c n i s low h read in
      let own : l.place ≡ q = one_read p c n l.place q (counted l.place p c n l.read) r in
      let event : l.read.step.event ≡ flag.event = same_get (slice_get T q) l.read.step.event flag.event (subst (λ k. slice_get T k ≡ Some l.read.step.event) own l.read.step.at) flag.at in
      let note : l.read.step.event.effect.note ≡ Element number parts true = ap (λ (e : Event). e.effect.note) event ∙ flag.notes in
      subst (λ t. Says t s.flagged s.left (pieces p c n (take i T))) note l.says

  -- so is one that is done
  pub done_full : (p c n i : ℕ) (s : Progress) → i ≤ length T → Has (take i T) p c s → s.read ≡ n + 1 → IsFlagDone (take i T) p c n → Full n s
  done_full p c n i s low h read f =
      let place : f.place < length (take i T) = slice_get_within (take i T) f.place f.flag.event f.flag.at in
      let less : f.place < i = omega (arith, place, length-take-le i T low) in
      let flag : Notes T f.place (Elem p c) (Element f.number f.parts true) = notes_there T f.place i (Elem p c) (Element f.number f.parts true) less f.flag in
      let r : ReadsElement T f.place p c n = record { step = step_there T f.place i (Elem p c) less f.read.step; number = sym (ap (reads p c) (take-take f.place i T (omega arith))) ∙ f.read.number } in
      let says = last_flag p c n i f.place f.number f.parts s low h read r flag in
      let all : f.parts ≤ pieces p c n (take i T) = f.all in
      let sum = says.1 in
      record { read = read; flagged = says.0; left = omega arith }

  pub full_done : (p c n i : ℕ) (s : Progress) → i ≤ length T → Has (take i T) p c s → Full n s → IsFlagDone (take i T) p c n
  full_done p c n i s low h full =
      let l : Last p c n i s = last_read p c n i s low h full.read in
      at l l.read.step.event.effect.note refl
    where
      at : (l : Last p c n i s) (note : Note) → l.read.step.event.effect.note ≡ note → IsFlagDone (take i T) p c n
      at l (Element number parts flag) same =
          let says : (s.flagged ≡ flag) × (s.left + pieces p c n (take i T) ≡ parts) = subst (λ t. Says t s.flagged s.left (pieces p c n (take i T))) same l.says in
          let flag : flag ≡ true = sym says.0 ∙ full.flagged in
          let left = full.left in
          let sum = says.1 in
          let less = l.before in
          let there = counted l.place p c n l.read in
          record {
            place = l.place;
            read = record { step = step_here T l.place i (Elem p c) less there.step; number = ap (reads p c) (take-take l.place i T (omega arith)) ∙ there.number };
            number = number;
            parts = parts;
            flag = notes_here T l.place i (Elem p c) (Element number parts true) less record { event = l.read.step.event; at = l.read.step.at; is = l.read.step.is; notes = same ∙ ap (Element number parts) flag };
            all = omega arith;
          }
      at l Nothing same = absurd (both_ways _ (subst (λ t. Says t s.flagged s.left (pieces p c n (take i T))) same l.says) full.flagged)
      at l _ same = absurd (both_ways _ (subst (λ t. Says t s.flagged s.left (pieces p c n (take i T))) same l.says) full.flagged)

  -- a list that is stalled is flagged
  calm_turn : (p c : ℕ) (t s : Progress) (step : Step) (note : Note) → Turns p c t s step note → (t.stalled ≡ true → t.flagged ≡ true) → s.stalled ≡ true → s.flagged ≡ true
  calm_turn p c t s step note (Stays of is st calm) was h = is.flagged ∙ was (sym st ∙ h)
  calm_turn p c t s step note (Goes x y st is calm) was h = absurd (both_ways _ calm h)
  calm_turn p c t s step note (Ends x is calm) was h = absurd (both_ways _ calm h)
  calm_turn p c t s step note (Copies m k x y) was h = ap (λ (v : Progress). v.flagged) y ∙ (piece_flagged t ∙ piece_calm t (sym (ap (λ (v : Progress). v.stalled) y) ∙ h) was)
  calm_turn p c t s step note (Reads x y) was h = ap (λ (v : Progress). v.flagged) y ∙ element_calm t note (sym (ap (λ (v : Progress). v.stalled) y) ∙ h)

  pub stalled_flagged : (p c i : ℕ) (s : Progress) → i ≤ length T → Has (take i T) p c s → s.stalled ≡ true → s.flagged ≡ true
  stalled_flagged p c zero s low h st = absurd (cc)
  stalled_flagged p c (suc i) s low h st =
      let g : (x : Event) × (slice_get T i ≡ Some x) = get_there T i (omega arith) in
      at g.0 (came (take i T) g.0 p c s (subst (λ u. Has u p c s) (take_step T i g.0 g.1) h)) (λ t x y. stalled_flagged p c i t (omega arith) x y)
    where
      at : (e : Event) → Came (take i T) e p c s → ((t : Progress) → Has (take i T) p c t → t.stalled ≡ true → t.flagged ≡ true) → s.flagged ≡ true
      at e (Newly q x y z) rest = absurd (both_ways _ (ap (λ (v : Progress). v.stalled) z) st)
      at e (Kept t x d same) rest = ap (λ (v : Progress). v.flagged) same ∙ rest t x (sym (ap (λ (v : Progress). v.stalled) same) ∙ st)
      at e (Moved t x d f k) rest = calm_turn p c t s e.step e.effect.note (subst (λ v. Turns p c t v e.step e.effect.note) (sym f) (turns p c t e.step e.effect.note)) (rest t x) st

  pub stalled_full : (p c n i : ℕ) (s : Progress) → i ≤ length T → Has (take i T) p c s → s.stalled ≡ true → s.read ≡ n + 1 → Full n s
  stalled_full p c n i s low h st read = record { read = read; flagged = stalled_flagged p c i s low h st; left = (valid_at (take i T) p c s h).rest st }

  -- ---- where a list waits, and where it was resumed

  abbrev Acks : ℕ → ℕ → ℕ → Type 0
  Acks k p tag = Notes T k (Exec p) (Ack tag)

  -- it is stalled, and no acknowledgement has come since the element is done
  pub record Waits (p c n i : ℕ) (s : Progress) : Type 0 where
    pub stalled : s.stalled ≡ true
    pub none : (k : ℕ) (u : Progress) → k < i → Acks k p s.command.tag → Has (take k T) p c u → Full n u → ⊥

  -- it isn't, since one has come
  pub record Resumed (p c n i : ℕ) (s : Progress) : Type 0 where
    pub calm : s.stalled ≡ false
    pub place : ℕ
    pub before : place < i
    pub ack : Acks place p s.command.tag
    pub stall : IsStalled T place p c n

  -- it isn't done earlier than this
  none_full : (p c n i k : ℕ) (t u : Progress) → i ≤ length T → k ≤ i → Has (take i T) p c t → Has (take k T) p c u → Full n u → (t.read ≤ n) ⊎ ((t.read ≡ n + 1) × (0 < t.left)) → ⊥
  none_full p c n i k t u low below h g full early = at (grown p c k i u t below low g h) early
    where
      at : Grows u t → (t.read ≤ n) ⊎ ((t.read ≡ n + 1) × (0 < t.left)) → ⊥
      at more (inl few) = let a : u.read ≤ t.read = more.read in let b : u.read ≡ n + 1 = full.read in omega arith
      at more (inr x) =
          let a : elements_done u ≤ elements_done t = more.done in
          let b : elements_done u ≡ u.read = done_all u full.left in
          let c : elements_done t ≡ t.read - 1 = some_left t x.1 in
          let d : u.read ≡ n + 1 = full.read in
          let e = x.0 in
          omega arith

  -- the step at i, after which the progress is s, and before which it was t
  module _ (p c n i : ℕ) (e : Event) (s t : Progress) (low : i < length T) (here : slice_get T i ≡ Some e) (was : Has (take i T) p c t) (command : s.command ≡ t.command) (full : Full n s) where
    goes_on : Full n t → s.stalled ≡ t.stalled → (e.step ≡ Exec p → e.effect.note ≡ Ack t.command.tag → t.stalled ≡ false) → Waits p c n i t ⊎ Resumed p c n i t → Waits p c n (suc i) s ⊎ Resumed p c n (suc i) s
    goes_on whole st calm (inl w) = inl record { stalled = st ∙ w.stalled; none = λ k u less ack h f. at k u less (subst (λ (d : Command). Acks k p d.tag) command ack) h f (cases_lt k i) }
      where
        at : (k : ℕ) (u : Progress) → k < suc i → Acks k p t.command.tag → Has (take k T) p c u → Full n u → (k < i) ⊎ (i ≤ k) → ⊥
        at k u less ack h f (inl low) = w.none k u low ack h f
        at k u less ack h f (inr high) =
            let own : k ≡ i = omega arith in
            let event : ack.event ≡ e = same_get (slice_get T i) ack.event e (subst (λ x. slice_get T x ≡ Some ack.event) own ack.at) here in
            both_ways _ (calm (ap (λ (x : Event). x.step) (sym event) ∙ ack.is) (ap (λ (x : Event). x.effect.note) (sym event) ∙ ack.notes)) w.stalled
    goes_on whole st calm (inr r) =
        let less = r.before in
        inr record { calm = st ∙ r.calm; place = r.place; before = omega arith; ack = subst (λ (d : Command). Acks r.place p d.tag) (sym command) r.ack; stall = r.stall }

    -- the element is done by this step
    done_now : s.stalled ≡ true → (t.read ≤ n) ⊎ ((t.read ≡ n + 1) × (0 < t.left)) → Waits p c n (suc i) s
    done_now st early = record { stalled = st; none = λ k u less ack h f. none_full p c n i k t u (omega arith) (omega arith) was h f early }

    full_before : IsSame t s → Full n t
    full_before is = record { read = sym is.read ∙ full.read; flagged = sym is.flagged ∙ full.flagged; left = sym is.left ∙ full.left }

    turned : (Full n t → Waits p c n i t ⊎ Resumed p c n i t) → Turns p c t s e.step e.effect.note → Waits p c n (suc i) s ⊎ Resumed p c n (suc i) s
    turned before (Stays of is st calm) = let whole = full_before is in goes_on whole st calm (before whole)
    turned before (Goes x y st is calm) =
        let whole = full_before is in
        let read = whole.read in
        inr
        record {
          calm = calm;
          place = i;
          before = omega arith;
          ack = subst (λ (d : Command). Acks i p d.tag) (sym command) record { event = e; at = here; is = x; notes = y };
          stall = record { progress = t; has = was; stalled = st; number = read };
        }
    turned before (Copies m k x y) =
        let step : IsStep T i (Piece p c m k) = record { event = e; at = here; is = x } in
        let a : AtPiece T queued i p c m = at_piece T queued i p c m k step in
        let own : a.progress ≡ t = same_progress (take i T) p c a.progress t a.has was in
        let same : s.read ≡ t.read = ap (λ (v : Progress). v.read) y ∙ piece_read t in
        let l : Last p c n i t = last_read p c n i t (omega arith) was (sym same ∙ full.read) in
        let list = piece_list T queued i p c m k l.place n step l.read a in
        let kind : is_transfer t.command ≡ false = ap (λ (v : Progress). is_transfer v.command) (sym own) ∙ list.0 in
        let some : 0 < t.left = subst (λ (v : Progress). 0 < v.left) own a.left in
        let left : s.left ≡ t.left - 1 = ap (λ (v : Progress). v.left) y ∙ piece_left t in
        let none : s.left ≡ 0 = full.left in
        let flag : t.flagged ≡ true = sym (ap (λ (v : Progress). v.flagged) y ∙ piece_flagged t) ∙ full.flagged in
        inl (done_now (ap (λ (v : Progress). v.stalled) y ∙ (piece_stalled t (omega arith) kind ∙ flag)) (inr (sym same ∙ full.read, some)))
    turned before (Reads x y) =
        let read : s.read ≡ t.read + 1 = ap (λ (v : Progress). v.read) y ∙ read_element t e.effect.note in
        let number : s.read ≡ n + 1 = full.read in
        let r : ReadsByStatus T i p c n = record { step = record { event = e; at = here; is = x }; progress = t; has = was; number = omega arith } in
        let fits = elem_fits T queued i p c n r in
        inl
        (done_now
        (ap (λ (v : Progress). v.stalled) y ∙ element_stalled t e.effect.note fits.0 (sym (ap (λ (v : Progress). v.left) y) ∙ full.left) (sym (ap (λ (v : Progress). v.flagged) y) ∙ full.flagged))
        (inl (omega arith)))
    turned before (Ends x is calm) =
        let of : is_of p c e.step ≡ true = ap (is_of p c) x ∙ of_itself p c in
        let may : MayStep (take i T) p c e.step e.effect.note = (queued i e here).step p c of in
        let fits : FitsProgress may.progress (Retire p c) e.effect.note = subst (λ k. FitsProgress may.progress k e.effect.note) x may.fits in
        let own : may.progress ≡ t = same_progress (take i T) p c may.progress t may.has was in
        let none : t.read ≡ 0 = ap (λ (v : Progress). v.read) (sym own) ∙ fits.1 in
        let read : s.read ≡ t.read = is.read in
        let number : s.read ≡ n + 1 = full.read in
        absurd (omega arith)

  -- a list of which the last element is flagged and done waits for an acknowledgement, or was resumed
  pub waits_or : (p c n i : ℕ) (s : Progress) → i ≤ length T → Has (take i T) p c s → Full n s → Waits p c n i s ⊎ Resumed p c n i s
  waits_or p c n zero s low h full = absurd (cc)
  waits_or p c n (suc i) s low h full =
      let g : (x : Event) × (slice_get T i ≡ Some x) = get_there T i (omega arith) in
      at g.0 g.1 (came (take i T) g.0 p c s (subst (λ u. Has u p c s) (take_step T i g.0 g.1) h)) (λ t x y. waits_or p c n i t (omega arith) x y)
    where
      at : (e : Event) → slice_get T i ≡ Some e → Came (take i T) e p c s → ((t : Progress) → Has (take i T) p c t → Full n t → Waits p c n i t ⊎ Resumed p c n i t) → Waits p c n (suc i) s ⊎ Resumed p c n (suc i) s
      at e here (Newly q x y z) rest = let r : s.read ≡ 0 = ap (λ (v : Progress). v.read) z in let k : s.read ≡ n + 1 = full.read in absurd (omega arith)
      at e here (Kept t x d same) rest = over (rest t x (subst (Full n) same full))
        where
          over : Waits p c n i t ⊎ Resumed p c n i t → Waits p c n (suc i) s ⊎ Resumed p c n (suc i) s
          over (inl w) = absurd (both_ways _ ((valid_at (take i T) p c t x).calm d) w.stalled)
          over (inr r) =
              let less = r.before in
              inr record { calm = ap (λ (v : Progress). v.stalled) same ∙ r.calm; place = r.place; before = omega arith; ack = subst (λ (v : Progress). Acks r.place p v.command.tag) (sym same) r.ack; stall = r.stall }
      at e here (Moved t x d f st) rest = turned p c n i e s t (omega arith) here x st.grows.command full (λ w. rest t x w) (subst (λ v. Turns p c t v e.step e.effect.note) (sym f) (turns p c t e.step e.effect.note))
