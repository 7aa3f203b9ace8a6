-- A command of one piece has one step, its piece, which completes it; so has a PUTQLLUC. What delivers a signal completes its command.
use Rattle.std.proofs.Common.{◌≡◌, ℕ, zero, suc, ◌-◌, ◌<◌, ◌≤◌, ◌==◌, ◌&&◌, ◌⊎◌, inl, inr, not, Bool, true, false, length, take, Some, None, refl, sym, ap, ap₂, ◌∙◌, subst, subst₂, arith}
use Rattle.std.specs.Prelude.{slice_get, if◌then◌else◌}
use Rattle.std.specs.List.{list_any}
use Rattle.std.proofs.lemmas.Bool.{and_from, and_parts, or_cases, eqb-true, eq-eqb, both_ways}
use Rattle.std.proofs.lemmas.Option.{slice_get_within}
use Rattle.cell_base.specs.declared.steps.Step.{Step}
use Rattle.cell_base.specs.declared.steps.Step.TheVariants.{Exec, Piece, Elem, Retire, Atomic, Host}
use Rattle.mfc_command.specs.declared.command.Command.{Command}
use Rattle.mfc_command.specs.Parts.{parts_of}
use Rattle.cell_machine.specs.declared.effect.Note.{Note}
use Rattle.cell_machine.specs.declared.effect.Note.TheVariants.{Issue, Ack, Signal}
use Rattle.race_order.specs.Trace.{Event, Trace, IsStepOf, is_of}
use Rattle.race_order.specs.Lines.{is_queued_line, issues_line, moves_line}
use Rattle.race_order.specs.declared.progress.Progress.{Progress}
use Rattle.race_order.specs.Status.{status, next_status, stepped, begun, finished, after_piece, after_element, after_ack, is_transfer, is_last, is_by, has_one_piece}
use Rattle.race_order.specs.Queue.{Has, ReadsElement}
use Rattle.race_order.specs.Commands.{IsIssued}
use Rattle.race_order.specs.Premises.{MayStep, FitsProgress, IsDelivery, IsQueued, IsOnePiece}
use Rattle.race_order.specs.declared.lives.Live.{Live}
use Rattle.race_order.specs.Lives.{moves_own_line}
use Rattle.race_order.proofs.Places.{get_there, take_step}
use Rattle.race_order.proofs.Histories.{status_next, same_progress, issued_there, Came, Newly, Kept, Moved, came}
use Rattle.race_order.proofs.Elements.{may_at, elem_fits}
use Rattle.race_order.proofs.CountedRules.{queued_take, Found, found, issued}
use Rattle.race_order.proofs.Passed.{Picked, picked, pick}
use Rattle.race_order.proofs.Nexts.{is_delivery, looks_beyond}

-- ---- one step of it

abbrev finish_by : Progress → Bool → Progress
finish_by s b = if b then record s { left = 0; stalled = false; done = true } else record s { left = 0; stalled = s.flagged; done = not s.flagged && is_last s }

abbrev piece_by : Progress → Bool → Progress
piece_by s b = if b then finished s else record s { left = s.left - 1 }

piece_done : (s : Progress) → s.left ≡ 1 → is_transfer s.command ≡ true → (after_piece s).done ≡ true
piece_done s left transfer = ap (λ (b : Bool). (piece_by s b).done) (eq-eqb s.left 1 left) ∙ ap (λ (b : Bool). (finish_by s b).done) transfer

ack_left : (s : Progress) (note : Note) → (after_ack s note).left ≡ s.left
ack_left s (Ack tag) = at (s.stalled && (tag == s.command.tag))
  where
    at : (b : Bool) → (if b then record s { stalled = false; done = is_last s } else s).left ≡ s.left
    at true = refl
    at false = refl
ack_left s _ = refl

-- a step of a command of one piece that doesn't complete it leaves its piece
moved_left : (p c : ℕ) (s : Progress) (step : Step) (note : Note) → s.left ≡ 1 → is_transfer s.command ≡ true → (step ≡ Elem p c → ⊥) → (stepped p c s step note).done ≡ false → (stepped p c s step note).left ≡ 1
moved_left p c s (Exec q) note left transfer none live = at (q == p)
  where
    at : (b : Bool) → (if b then after_ack s note else s).left ≡ 1
    at true = ack_left s note ∙ left
    at false = left
moved_left p c s (Piece q d e k) note left transfer none live = at (is_by p c q d) live
  where
    at : (b : Bool) → (if b then after_piece s else s).done ≡ false → (if b then after_piece s else s).left ≡ 1
    at true h = absurd (both_ways _ h (piece_done s left transfer))
    at false h = left
moved_left p c s (Elem q d) note left transfer none live = at (is_by p c q d) refl
  where
    at : (b : Bool) → is_by p c q d ≡ b → (if b then after_element s note else s).left ≡ 1
    at true h = let a = and_parts (q == p) (d == c) h in absurd (none (ap₂ Elem (eqb-true q p a.0) (eqb-true d c a.1)))
    at false h = left
moved_left p c s (Retire q d) note left transfer none live = at (is_by p c q d) live
  where
    at : (b : Bool) → (if b then record s { stalled = false; done = true } else s).done ≡ false → (if b then record s { stalled = false; done = true } else s).left ≡ 1
    at true h = absurd (both_ways true h refl)
    at false h = left
moved_left p c s (Atomic q) note left transfer none live = left
moved_left p c s Host note left transfer none live = left

-- ---- which commands have one piece

one_transfers : (command : Command) → has_one_piece command ≡ true → is_transfer command ≡ true
one_transfers command one = by (is_transfer command) refl
  where
    by : (b : Bool) → is_transfer command ≡ b → is_transfer command ≡ true
    by true q = q
    by false q = let none : false ≡ true = sym (ap (λ (b : Bool). (if b then parts_of command.ea command.size else 0) == 1) q) ∙ one in absurd cc

one_has : (command : Command) → (is_transfer command ≡ true) × (parts_of command.ea command.size ≡ 1) → has_one_piece command ≡ true
one_has command h = eq-eqb (begun command).left 1 (ap (λ (b : Bool). if b then parts_of command.ea command.size else 0) h.0 ∙ h.1)

-- ---- what its issue tells

record IssuesLine (p c : ℕ) (step : Step) (note : Note) : Type 0 where
  command : Command
  is : step ≡ Exec p
  notes : note ≡ Issue c command
  line : is_queued_line command.kind ≡ true

issues_is : (p c : ℕ) (step : Step) (note : Note) → issues_line p c step note ≡ true → IssuesLine p c step note
issues_is p c (Exec q) (Issue d command) e =
    let a = and_parts (q == p && d == c) (is_queued_line command.kind) e in
    let b = and_parts (q == p) (d == c) a.0 in
    record { command = command; is = ap Exec (eqb-true q p b.0); notes = ap (λ x. Issue x command) (eqb-true d c b.1); line = a.1 }
issues_is p c _ _ e = cc

is_issue : (p c : ℕ) (command : Command) → is_queued_line command.kind ≡ true → issues_line p c (Exec p) (Issue c command) ≡ true
is_issue p c command line = and_from _ _ (and_from _ _ (eq-eqb p p refl) (eq-eqb c c refl)) line

abbrev issued_line : ℕ → ℕ → Trace → Bool
issued_line p c trace = list_any (λ x. issues_line p c x.step x.effect.note) trace

module _ (T : Trace) (queued : IsQueued T) where
  pub line_kind : (p c : ℕ) (s : Progress) → Has T p c s → issued_line p c T ≡ true → is_queued_line s.command.kind ≡ true
  line_kind p c s has e =
      let x : Picked (λ x. issues_line p c x.step x.effect.note) T = picked (λ x. issues_line p c x.step x.effect.note) T e in
      let y = issues_is p c x.one.step x.one.effect.note x.passes in
      let f : Found T queued p c y.command = found T queued p c y.command record { place = x.place; issue = record { event = x.one; at = x.at; is = y.is; notes = y.notes } } in
      subst (λ (d : Command). is_queued_line d.kind ≡ true) (sym f.same ∙ ap (λ (v : Progress). v.command) (same_progress T p c f.progress s f.has has)) y.line

  pub kind_line : (p c : ℕ) (s : Progress) → Has T p c s → is_queued_line s.command.kind ≡ true → issued_line p c T ≡ true
  kind_line p c s has line =
      let i : IsIssued T p c s.command = issued T queued p c s has in
      pick (λ x. issues_line p c x.step x.effect.note) T i.place i.issue.event i.issue.at (ap₂ (issues_line p c) i.issue.is i.issue.notes ∙ is_issue p c s.command line)

  one_piece : (p c i : ℕ) (s : Progress) → i ≤ length T → Has (take i T) p c s → IsOnePiece s.command
  one_piece p c i s low h = let k = issued_there T p c i s low h in ((queued k.0 k.2.event k.2.at).issue p c s.command k.2.is k.2.notes).2

  -- ---- its piece

  -- as long as a command of one piece isn't complete, its piece is left
  pub piece_left : (p c i : ℕ) (s : Progress) → i ≤ length T → Has (take i T) p c s → has_one_piece s.command ≡ true → s.done ≡ false → s.left ≡ 1
  piece_left p c zero s low h one live = absurd (never h.is)
    where
      never : None ≡ Some s → ⊥
      never x = cc
  piece_left p c (suc i) s low h one live =
      let g : (x : Event) × (slice_get T i ≡ Some x) = get_there T i (omega arith) in
      at g.0 g.1 (came (take i T) g.0 p c s (subst (λ u. Has u p c s) (take_step T i g.0 g.1) h)) (λ t x y z. piece_left p c i t (omega arith) x y z)
    where
      at : (e : Event) → slice_get T i ≡ Some e → Came (take i T) e p c s → ((t : Progress) → Has (take i T) p c t → has_one_piece t.command ≡ true → t.done ≡ false → t.left ≡ 1) → s.left ≡ 1
      at e here (Newly n x y z) rest = ap (λ (v : Progress). v.left) z ∙ eqb-true (begun s.command).left 1 one
      at e here (Kept t x d same) rest = absurd (both_ways _ live (ap (λ (v : Progress). v.done) same ∙ d))
      at e here (Moved t x d f st) rest =
          let same : s.command ≡ t.command = st.grows.command in
          let left : t.left ≡ 1 = rest t x (subst (λ (v : Command). has_one_piece v ≡ true) same one) d in
          let transfer : is_transfer t.command ≡ true = subst (λ v. is_transfer v ≡ true) same (one_transfers s.command one) in
          ap (λ (v : Progress). v.left) f ∙ moved_left p c t e.step e.effect.note left transfer (no_element transfer) (subst (λ (v : Progress). v.done ≡ false) f live)
        where
          no_element : is_transfer t.command ≡ true → e.step ≡ Elem p c → ⊥
          no_element transfer q =
              let r : ReadsElement T i p c t.read = record { step = record { event = e; at = here; is = q }; progress = t; has = x; number = refl } in
              both_ways _ (elem_fits T queued i p c t.read r).0 transfer

  pub line_left : (p c i : ℕ) (s : Progress) → i ≤ length T → Has (take i T) p c s → is_queued_line s.command.kind ≡ true → s.done ≡ false → s.left ≡ 1
  line_left p c i s low h line live = piece_left p c i s low h (one_has s.command (one_piece p c i s low h line)) live

-- ---- the steps that look beyond the queues

-- a command is complete after such a step
pub record IsDone (T : Trace) (p c : ℕ) : Type 0 where
  pub progress : Progress
  pub has : Has T p c progress
  pub done : progress.done ≡ true

delivers_last : (s : Progress) (note : Note) → is_delivery note ≡ true → IsDelivery s note → (is_transfer s.command ≡ true) × (s.left ≡ 1)
delivers_last s (Signal q r) h is = is
delivers_last s _ h is = cc

module _ (T : Trace) (queued : IsQueued T) (p d k : ℕ) (st : IsStepOf T k p d) where
  inside : k < length T
  inside = slice_get_within T k st.event st.at

  m : MayStep (take k T) p d st.event.step st.event.effect.note
  m = may_at T queued k p d st

  -- the one piece that is left of a transfer
  last_piece : (q c e j : ℕ) → st.event.step ≡ Piece q c e j → is_by p d q c ≡ true → m.progress.left ≡ 1 → is_transfer m.progress.command ≡ true → IsDone (take (suc k) T) p d
  last_piece q c e j f of left transfer =
      record {
        progress = stepped p d m.progress st.event.step st.event.effect.note;
        has = record {
          is =
              ap (status p d) (take_step T k st.event st.at)
              ∙ (status_next p d (take k T) st.event
              ∙ (ap (λ o. next_status p d o st.event) m.has.is ∙ ap (λ (b : Bool). Some (if b then m.progress else stepped p d m.progress st.event.step st.event.effect.note)) m.live));
        };
        done =
            ap (λ s. (stepped p d m.progress s st.event.effect.note).done) f
            ∙ (ap (λ (b : Bool). (if b then after_piece m.progress else m.progress).done) of ∙ piece_done m.progress left transfer);
      }

  -- a step of a transfer of which one piece is left
  last_done : m.progress.left ≡ 1 → is_transfer m.progress.command ≡ true → IsDone (take (suc k) T) p d
  last_done left transfer = by st.event.step refl
    where
      fits : (s : Step) → st.event.step ≡ s → FitsProgress m.progress s st.event.effect.note
      fits s f = subst (λ x. FitsProgress m.progress x st.event.effect.note) f m.fits

      by : (s : Step) → st.event.step ≡ s → IsDone (take (suc k) T) p d
      by (Piece q c e j) f = last_piece q c e j f (sym (ap (is_of p d) f) ∙ st.is) left transfer
      by (Elem q c) f = absurd (both_ways _ (fits (Elem q c) f).0 transfer)
      by (Retire q c) f = let none : m.progress.left ≡ 0 = (fits (Retire q c) f).0 in let one : m.progress.left ≡ 1 = left in absurd (omega arith)
      by (Exec q) f = let g : false ≡ true = sym (ap (is_of p d) f) ∙ st.is in absurd cc
      by (Atomic q) f = let g : false ≡ true = sym (ap (is_of p d) f) ∙ st.is in absurd cc
      by Host f = let g : false ≡ true = sym (ap (is_of p d) f) ∙ st.is in absurd cc

  -- a step of a command of one piece
  pub only_done : (s : Progress) → Has (take k T) p d s → has_one_piece s.command ≡ true → IsDone (take (suc k) T) p d
  only_done s has one =
      let low : k < length T = inside in
      let here : has_one_piece m.progress.command ≡ true = subst (λ (v : Progress). has_one_piece v.command ≡ true) (same_progress (take k T) p d s m.progress has m.has) one in
      last_done (piece_left T queued p d k m.progress (omega arith) m.has here m.live) (one_transfers m.progress.command here)

  line_done : moves_line (take k T) st.event.step ≡ true → IsDone (take (suc k) T) p d
  line_done moves = by st.event.step refl
    where
      is_done : (q c e j : ℕ) → st.event.step ≡ Piece q c e j → is_by p d q c ≡ true → IsDone (take (suc k) T) p d
      is_done q c e j f of =
          let a = and_parts (q == p) (c == d) of in
          let low : k < length T = inside in
          let called : issued_line p d (take k T) ≡ true = subst₂ (λ x y. issued_line x y (take k T) ≡ true) (eqb-true q p a.0) (eqb-true c d a.1) (sym (ap (moves_line (take k T)) f) ∙ moves) in
          let line : is_queued_line m.progress.command.kind ≡ true = line_kind (take k T) (queued_take T k (omega arith) queued) p d m.progress m.has called in
          only_done m.progress m.has (one_has m.progress.command (one_piece T queued p d k m.progress (omega arith) m.has line))

      by : (s : Step) → st.event.step ≡ s → IsDone (take (suc k) T) p d
      by (Piece q c e j) f = is_done q c e j f (sym (ap (is_of p d) f) ∙ st.is)
      by (Exec q) f = let g : false ≡ true = sym (ap (moves_line (take k T)) f) ∙ moves in absurd cc
      by (Elem q c) f = let g : false ≡ true = sym (ap (moves_line (take k T)) f) ∙ moves in absurd cc
      by (Retire q c) f = let g : false ≡ true = sym (ap (moves_line (take k T)) f) ∙ moves in absurd cc
      by (Atomic q) f = let g : false ≡ true = sym (ap (is_of p d) f) ∙ st.is in absurd cc
      by Host f = let g : false ≡ true = sym (ap (moves_line (take k T)) f) ∙ moves in absurd cc

  signal_done : is_delivery st.event.effect.note ≡ true → IsDone (take (suc k) T) p d
  signal_done delivers = let last : (is_transfer m.progress.command ≡ true) × (m.progress.left ≡ 1) = delivers_last m.progress st.event.effect.note delivers m.delivery in last_done last.1 last.0

  pub beyond_done : looks_beyond (take k T) st.event ≡ true → IsDone (take (suc k) T) p d
  beyond_done h = by (or_cases (moves_line (take k T) st.event.step) (is_delivery st.event.effect.note) h)
    where
      by : (moves_line (take k T) st.event.step ≡ true) ⊎ (is_delivery st.event.effect.note ≡ true) → IsDone (take (suc k) T) p d
      by (inl x) = line_done x
      by (inr x) = signal_done x

-- ---- the outstanding command that moves its line

pub own_line : (trace : Trace) (queued : IsQueued trace) (e : Event) (l : Live) → Has trace l.spe l.cmd l.progress → moves_own_line l e.step ≡ true → (is_of l.spe l.cmd e.step ≡ true) × (moves_line trace e.step ≡ true)
own_line trace queued e l has moves = by e.step refl
  where
    by : (s : Step) → e.step ≡ s → (is_of l.spe l.cmd e.step ≡ true) × (moves_line trace e.step ≡ true)
    by (Piece q c x k) f =
        let a = and_parts (is_by l.spe l.cmd q c) (is_queued_line l.progress.command.kind) (sym (ap (moves_own_line l) f) ∙ moves) in
        let b = and_parts (q == l.spe) (c == l.cmd) a.0 in
        let called : issued_line q c trace ≡ true = subst₂ (λ y z. issued_line y z trace ≡ true) (sym (eqb-true q l.spe b.0)) (sym (eqb-true c l.cmd b.1)) (kind_line trace queued l.spe l.cmd l.progress has a.1) in
        (ap (is_of l.spe l.cmd) f ∙ a.0, ap (moves_line trace) f ∙ called)
    by (Exec q) f = let g : false ≡ true = sym (ap (moves_own_line l) f) ∙ moves in absurd cc
    by (Elem q c) f = let g : false ≡ true = sym (ap (moves_own_line l) f) ∙ moves in absurd cc
    by (Retire q c) f = let g : false ≡ true = sym (ap (moves_own_line l) f) ∙ moves in absurd cc
    by (Atomic q) f = let g : false ≡ true = sym (ap (moves_own_line l) f) ∙ moves in absurd cc
    by Host f = let g : false ≡ true = sym (ap (moves_own_line l) f) ∙ moves in absurd cc

pub line_own : (trace : Trace) (queued : IsQueued trace) (e : Event) (p d : ℕ) (s : Progress) → Has trace p d s → is_of p d e.step ≡ true → moves_line trace e.step ≡ true → moves_own_line (record { spe = p; cmd = d; progress = s }) e.step ≡ true
line_own trace queued e p d s has of moves = by e.step refl
  where
    l : Live
    l = record { spe = p; cmd = d; progress = s }

    by : (x : Step) → e.step ≡ x → moves_own_line l e.step ≡ true
    by (Piece q c x k) f =
        let o : is_by p d q c ≡ true = sym (ap (is_of p d) f) ∙ of in
        let b = and_parts (q == p) (c == d) o in
        let called : issued_line p d trace ≡ true = subst₂ (λ y z. issued_line y z trace ≡ true) (eqb-true q p b.0) (eqb-true c d b.1) (sym (ap (moves_line trace) f) ∙ moves) in
        ap (moves_own_line l) f ∙ and_from _ _ o (line_kind trace queued p d s has called)
    by (Exec q) f = let g : false ≡ true = sym (ap (moves_line trace) f) ∙ moves in absurd cc
    by (Elem q c) f = let g : false ≡ true = sym (ap (moves_line trace) f) ∙ moves in absurd cc
    by (Retire q c) f = let g : false ≡ true = sym (ap (moves_line trace) f) ∙ moves in absurd cc
    by (Atomic q) f = let g : false ≡ true = sym (ap (is_of p d) f) ∙ of in absurd cc
    by Host f = let g : false ≡ true = sym (ap (moves_line trace) f) ∙ moves in absurd cc
