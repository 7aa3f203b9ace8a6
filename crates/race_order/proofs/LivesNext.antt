-- The list of outstanding commands after a step.
use Rattle.std.proofs.Common.{◌≡◌, ℕ, zero, suc, ◌+◌, ◌-◌, ◌<◌, ◌≤◌, ◌^◌, get_or, Bool, true, false, not, List, [], ◌∷◌, ◌++◌, map, length, take, Some, ◌⊎◌, inl, inr, refl, sym, ap, ap₂, ◌∙◌, subst, arith}
use Rattle.std.specs.Prelude.{slice_get, filter, if◌then◌else◌, cond, ◌==◌, ◌&&◌, ◌≢◌, Option, None, Vec}
use Rattle.std.specs.declared.alloc.Global.{Global}
use Rattle.std.proofs.lemmas.Bool.{cases_lt, both_ways, eqb-true, false_from_ne_true}
use Rattle.cell_base.specs.declared.steps.Step.{Step}
use Rattle.cell_base.specs.declared.steps.Step.TheVariants.{Exec, Piece, Elem, Retire, Atomic, Host}
use Rattle.cell_machine.specs.declared.effect.Effect.{Effect}
use Rattle.cell_machine.proofs.Same.{some_same}
use Rattle.mfc_command.specs.declared.command.Command.{Command}
use Rattle.cell_machine.specs.declared.effect.Note.{Note}
use Rattle.cell_machine.specs.declared.effect.Note.TheVariants.{Nothing, Issue, AtomicIssue, TagRead, StallRead, Ack, AtomicRead, Put, Take, Ended, Awaited, Element, Signal}
use Rattle.race_order.specs.declared.progress.Progress.{Progress}
use Rattle.race_order.specs.Trace.{Event, Trace}
use Rattle.race_order.specs.Status.{status, next_status, issued_as, stepped, after_ack, after_piece, after_element, begun}
use Rattle.std.proofs.lemmas.List.{take_all}
use Rattle.std.proofs.lemmas.Option.{slice_get-get_or}
use Rattle.race_order.specs.Orderly.{IsWithin}
use Rattle.race_order.proofs.Elements.{elem_fits}
use Rattle.race_order.specs.Queue.{Has, ReadsElement}
use Rattle.race_order.specs.declared.lives.Live.{Live}
use Rattle.race_order.specs.Premises.{QueueMay, IsQueued, IsNumbered}
use Rattle.race_order.proofs.Nexts.{IssuesNow}
use Rattle.race_order.specs.Lives.{ShowsLives, lives_of, near, moved, HaveRoom, AreOutstanding, AreWithin}
use Rattle.race_order.specs.declared.lists.Issued.{Issued}
use Rattle.race_order.specs.Ordering.{issued_in, spe_in}
use Rattle.race_order.specs.Standing.{with_issued}
use Rattle.race_order.specs.Stamps.{event_of}
use Rattle.race_order.proofs.Listings.{issued_is}
use Rattle.race_order.proofs.Small.{off-same, and-off}
use Rattle.race_order.proofs.Histories.{status_next, same_progress, read_there, Came, Newly, Kept, Moved, came}
use Rattle.race_order.proofs.Keeping.{issued_now}

-- an element of the list
pub record Member {X : Type 0} (xs : List X) (x : X) : Type 0 where
  pub place : ℕ
  pub at : slice_get xs place ≡ Some x

member_map : {X Y : Type 0} (f : X → Y) (xs : List X) (x : X) (i : ℕ) → slice_get xs i ≡ Some x → slice_get (map f xs) i ≡ Some (f x)
member_map f [] x i e = cc
member_map f (z ∷ zs) x zero e = let s : z ≡ x = cc in ap (λ w. Some (f w)) s
member_map f (z ∷ zs) x (suc i) e = member_map f zs x i e

pub record Image {X Y : Type 0} (f : X → Y) (xs : List X) (y : Y) : Type 0 where
  pub one : X
  pub place : ℕ
  pub at : slice_get xs place ≡ Some one
  pub is : y ≡ f one

member_of_map : {X Y : Type 0} (f : X → Y) (xs : List X) (y : Y) (i : ℕ) → slice_get (map f xs) i ≡ Some y → Image f xs y
member_of_map f [] y i e = absurd cc
member_of_map f (x ∷ xs) y zero e = record { one = x; place = zero; at = refl; is = (let s : f x ≡ y = cc in sym s) }
member_of_map f (x ∷ xs) y (suc i) e = let m : Image f xs y = member_of_map f xs y i e in record { one = m.one; place = suc m.place; at = m.at; is = m.is }

member_filter : {X : Type 0} (p : X → Bool) (xs : List X) (x : X) (i : ℕ) → slice_get xs i ≡ Some x → p x ≡ true → Member (filter p xs) x
member_filter p [] x i e t = cc
member_filter p (y ∷ ys) x zero e t =
    let s : y ≡ x = cc in
    record { place = zero; at = ap (λ (b : Bool). slice_get (if b then y ∷ filter p ys else filter p ys) zero) (ap p s ∙ t) ∙ ap Some s }
member_filter p (y ∷ ys) x (suc i) e t = by (p y) refl (member_filter p ys x i e t)
  where
    by : (b : Bool) → p y ≡ b → Member (filter p ys) x → Member (if p y then y ∷ filter p ys else filter p ys) x
    by true f m = record { place = suc m.place; at = ap (λ (b : Bool). slice_get (if b then y ∷ filter p ys else filter p ys) (suc m.place)) f ∙ m.at }
    by false f m = record { place = m.place; at = ap (λ (b : Bool). slice_get (if b then y ∷ filter p ys else filter p ys) m.place) f ∙ m.at }

-- what a filter keeps is of the list and passes
pub record Kept_ {X : Type 0} (p : X → Bool) (xs : List X) (x : X) : Type 0 where
  pub place : ℕ
  pub at : slice_get xs place ≡ Some x
  pub passes : p x ≡ true

filter_member : {X : Type 0} (p : X → Bool) (xs : List X) (x : X) (i : ℕ) → slice_get (filter p xs) i ≡ Some x → Kept_ p xs x
filter_member p [] x i e = cc
filter_member p (y ∷ ys) x i e = by (p y) refl i e (λ k h. filter_member p ys x k h)
  where
    later : Kept_ p ys x → Kept_ p (y ∷ ys) x
    later k = record { place = suc k.place; at = k.at; passes = k.passes }

    by : (b : Bool) → p y ≡ b → (i : ℕ) → slice_get (if p y then y ∷ filter p ys else filter p ys) i ≡ Some x → ((k : ℕ) → slice_get (filter p ys) k ≡ Some x → Kept_ p ys x) → Kept_ p (y ∷ ys) x
    by true f i e rest = head i (sym (ap (λ (b : Bool). slice_get (if b then y ∷ filter p ys else filter p ys) i) f) ∙ e)
      where
        head : (i : ℕ) → slice_get (y ∷ filter p ys) i ≡ Some x → Kept_ p (y ∷ ys) x
        head zero g = let s : y ≡ x = cc in record { place = zero; at = ap Some s; passes = ap p (sym s) ∙ f }
        head (suc k) g = later (rest k g)
    by false f i e rest = later (rest i (sym (ap (λ (b : Bool). slice_get (if b then y ∷ filter p ys else filter p ys) i) f) ∙ e))

member_left : {X : Type 0} (xs ys : List X) (x : X) (i : ℕ) → slice_get xs i ≡ Some x → slice_get (xs ++ ys) i ≡ Some x
member_left [] ys x i e = cc
member_left (z ∷ zs) ys x zero e = e
member_left (z ∷ zs) ys x (suc i) e = member_left zs ys x i e

member_last : {X : Type 0} (xs : List X) (y : X) → slice_get (xs ++ (y ∷ [])) (length xs) ≡ Some y
member_last [] y = refl
member_last (z ∷ zs) y = member_last zs y

member_either : {X : Type 0} (xs : List X) (y x : X) (i : ℕ) → slice_get (xs ++ (y ∷ [])) i ≡ Some x → Member xs x ⊎ (x ≡ y)
member_either [] y x zero e = inr (let s : y ≡ x = cc in sym s)
member_either [] y x (suc i) e = cc
member_either (z ∷ zs) y x zero e = inl record { place = zero; at = e }
member_either (z ∷ zs) y x (suc i) e = by (member_either zs y x i e)
  where
    by : Member zs x ⊎ (x ≡ y) → Member (z ∷ zs) x ⊎ (x ≡ y)
    by (inl m) = inl record { place = suc m.place; at = m.at }
    by (inr q) = inr q

abbrev live_of : ℕ → ℕ → Progress → Live
live_of p c s = record { spe = p; cmd = c; progress = s }

-- the list has exactly the outstanding commands of one processor, or of none
pub record ShowsNear (who : Option ℕ) (lives : List Live) (trace : Trace) : Type 0 where
  pub sound : (i : ℕ) (l : Live) → slice_get lives i ≡ Some l → (who ≡ Some l.spe) × Has trace l.spe l.cmd l.progress × (l.progress.done ≡ false)
  pub full : (p c : ℕ) (s : Progress) → who ≡ Some p → Has trace p c s → s.done ≡ false → (i : ℕ) × (slice_get lives i ≡ Some record { spe = p; cmd = c; progress = s })

pub shows_near : (who : Option ℕ) (lists : List (Vec Live Global)) (trace : Trace) → ((p : ℕ) → who ≡ Some p → ShowsLives p (lives_of lists p) trace) → ShowsNear who (near lists who) trace
shows_near None lists trace shows = record { sound = λ i l at. absurd (no_get i l at); full = λ p c s w h d. absurd (no_who p w) }
  where
    no_get : (i : ℕ) (l : Live) → slice_get [] i ≡ Some l → ⊥
    no_get i l at = cc

    no_who : (p : ℕ) → None ≡ Some p → ⊥
    no_who p w = cc
shows_near (Some p) lists trace shows =
    record {
      sound = λ i l at. let h = (shows p refl).sound i l at in (ap Some (sym h.0), h.1, h.2);
      full = λ q c s w h d.
          let same : p ≡ q = some_same p q w in
          let g = (shows p refl).full c s (subst (λ r. Has trace r c s) (sym same) h) d in
          (g.0, g.1 ∙ ap (λ r. Some (live_of r c s)) same);
    }

differs : (q p : ℕ) → Some q ≢ Some p → (q == p) ≡ false
differs q p ne = false_from_ne_true (q == p) (λ h. ne (ap Some (eqb-true q p h)))

module _ (trace : Trace) (e : Event) (may : QueueMay trace e) (lives : List Live) (shows : ShowsNear (spe_in e.step) lives trace) where
  abbrev T : Trace
  T = trace ++ (e ∷ [])

  abbrev pub kept_lives : List Live
  kept_lives = filter (λ l. not l.progress.done) (map (λ l. moved l e.step e.effect.note) lives)

  not_false : (b : Bool) → not b ≡ true → b ≡ false
  not_false true x = cc
  not_false false x = refl

  next_of : (l : Live) (i : ℕ) → slice_get lives i ≡ Some l → Has T l.spe l.cmd (moved l e.step e.effect.note).progress
  next_of l i at =
      let h = shows.sound i l at in
      record { is = status_next l.spe l.cmd trace e ∙ (ap (λ o. next_status l.spe l.cmd o e) h.1.is ∙ ap (λ (b : Bool). Some (if b then l.progress else stepped l.spe l.cmd l.progress e.step e.effect.note)) h.2) }

  -- each command after the step has come so far
  pub after_has : (l : Live) (i : ℕ) → slice_get (map (λ x. moved x e.step e.effect.note) lives) i ≡ Some l → Has T l.spe l.cmd l.progress
  after_has l i at =
      let m : Image (λ x. moved x e.step e.effect.note) lives l = member_of_map (λ x. moved x e.step e.effect.note) lives l i at in
      subst (λ (x : Live). Has T x.spe x.cmd x.progress) (sym m.is) (next_of m.one m.place m.at)

  -- and is of the step's processor
  after_who : (l : Live) (i : ℕ) → slice_get (map (λ x. moved x e.step e.effect.note) lives) i ≡ Some l → spe_in e.step ≡ Some l.spe
  after_who l i at =
      let m : Image (λ x. moved x e.step e.effect.note) lives l = member_of_map (λ x. moved x e.step e.effect.note) lives l i at in
      subst (λ (x : Live). spe_in e.step ≡ Some x.spe) (sym m.is) (shows.sound m.place m.one m.at).0

  sound_kept : (i : ℕ) (l : Live) → slice_get kept_lives i ≡ Some l → (spe_in e.step ≡ Some l.spe) × Has T l.spe l.cmd l.progress × (l.progress.done ≡ false)
  sound_kept i l at =
      let k : Kept_ (λ x. not x.progress.done) (map (λ x. moved x e.step e.effect.note) lives) l = filter_member (λ x. not x.progress.done) (map (λ x. moved x e.step e.effect.note) lives) l i at in
      (after_who l k.place k.at, after_has l k.place k.at, not_false l.progress.done k.passes)

  of_one : (p i : ℕ) (l : Live) → spe_in e.step ≡ Some p → slice_get kept_lives i ≡ Some l → (l.spe ≡ p) × Has T l.spe l.cmd l.progress × (l.progress.done ≡ false)
  of_one p i l w at = let k = sound_kept i l at in (some_same l.spe p (sym k.0 ∙ w), k.1, k.2)

  full_kept : (p c : ℕ) (s t : Progress) → spe_in e.step ≡ Some p → Has trace p c s → s.done ≡ false → Has T p c t → t.done ≡ false → Member kept_lives record { spe = p; cmd = c; progress = t }
  full_kept p c s t who h d g f =
      let w = shows.full p c s who h d in
      let same : (moved record { spe = p; cmd = c; progress = s } e.step e.effect.note).progress ≡ t = same_progress T p c (moved record { spe = p; cmd = c; progress = s } e.step e.effect.note).progress t (next_of record { spe = p; cmd = c; progress = s } w.0 w.1) g in
      let m : slice_get (map (λ x. moved x e.step e.effect.note) lives) w.0 ≡ Some (moved record { spe = p; cmd = c; progress = s } e.step e.effect.note) = member_map (λ x. moved x e.step e.effect.note) lives record { spe = p; cmd = c; progress = s } w.0 w.1 in
      member_filter (λ x. not x.progress.done) (map (λ x. moved x e.step e.effect.note) lives) record { spe = p; cmd = c; progress = t } w.0 (m ∙ ap (λ v. Some record { spe = p; cmd = c; progress = v }) same) (ap not f)

  -- where the step issues no command
  shows_same : (p : ℕ) → spe_in e.step ≡ Some p → ((c : ℕ) (command : Command) → IssuesNow e p c command → ⊥) → ShowsLives p kept_lives T
  shows_same p who none = record { sound = λ i l at. of_one p i l who at; full = λ c t g f. by c t g f (came trace e p c t g) }
    where
      by : (c : ℕ) (t : Progress) → Has T p c t → t.done ≡ false → Came trace e p c t → (i : ℕ) × (slice_get kept_lives i ≡ Some record { spe = p; cmd = c; progress = t })
      by c t g f (Newly x y z w) = absurd (none c t.command record { is = y; notes = z })
      by c t g f (Kept s h d same) = absurd (both_ways _ f (ap (λ (v : Progress). v.done) same ∙ d))
      by c t g f (Moved s h live same st) = let m : Member kept_lives record { spe = p; cmd = c; progress = t } = full_kept p c s t who h live g f in (m.place, m.at)

  -- where it issues one
  shows_issue : (p c : ℕ) (command : Command) → IssuesNow e p c command → ShowsLives p (kept_lives ++ (record { spe = p; cmd = c; progress = begun command } ∷ [])) T
  shows_issue p c command h = record { sound = λ i l at. sound i l (member_either kept_lives new l i at); full = λ d t g f. by d t g f (came trace e p d t g) }
    where
      new : Live
      new = record { spe = p; cmd = c; progress = begun command }

      who : spe_in e.step ≡ Some p
      who = ap spe_in h.is

      sound : (i : ℕ) (l : Live) → Member kept_lives l ⊎ (l ≡ record { spe = p; cmd = c; progress = begun command }) → (l.spe ≡ p) × Has T l.spe l.cmd l.progress × (l.progress.done ≡ false)
      sound i l (inl m) = of_one p m.place l who m.at
      sound i l (inr q) =
          subst (λ (x : Live). (x.spe ≡ p) × Has T x.spe x.cmd x.progress × (x.progress.done ≡ false)) (sym q)
          (refl, issued_now trace e p c command ((may.issue p c command h.is h.notes).0.above c (omega arith)) h, refl)

      one : (d : ℕ) (t : Progress) → e.effect.note ≡ Issue d t.command → t ≡ begun t.command → live_of p c (begun command) ≡ live_of p d t
      one d t y z =
          let b : Issue c command ≡ Issue d t.command = sym h.notes ∙ y in
          let cd : c ≡ d = cc in
          let k : command ≡ t.command = cc in
          let w : begun command ≡ t = ap begun k ∙ sym z in
          ap (λ v. live_of p v (begun command)) cd ∙ ap (live_of p d) w

      by : (d : ℕ) (t : Progress) → Has T p d t → t.done ≡ false → Came trace e p d t → (i : ℕ) × (slice_get (kept_lives ++ (record { spe = p; cmd = c; progress = begun command } ∷ [])) i ≡ Some record { spe = p; cmd = d; progress = t })
      by d t g f (Newly x y z w) = (length kept_lives, member_last kept_lives record { spe = p; cmd = c; progress = begun command } ∙ ap Some (one d t z w))
      by d t g f (Kept s hs dn same) = absurd (both_ways _ f (ap (λ (v : Progress). v.done) same ∙ dn))
      by d t g f (Moved s hs live same st) =
          let m : Member kept_lives record { spe = p; cmd = d; progress = t } = full_kept p d s t who hs live g f in
          (m.place, member_left kept_lives (record { spe = p; cmd = c; progress = begun command } ∷ []) record { spe = p; cmd = d; progress = t } m.place m.at)

  issue_found : (p c : ℕ) (command : Command) → IssuesNow e p c command → issued_in e.step e.effect.note ≡ Some record { spe = p; cmd = c; command = command }
  issue_found p c command h = ap₂ issued_in h.is h.notes

  -- the list after the step
  pub lives_next : (p : ℕ) → spe_in e.step ≡ Some p → ShowsLives p (with_issued (issued_in e.step e.effect.note) kept_lives) T
  lives_next p who = by (issued_in e.step e.effect.note) refl
    where
      none : (o : Option Issued) (i : Issued) → o ≡ None → o ≡ Some i → ⊥
      none o i x y = cc

      by : (o : Option Issued) → issued_in e.step e.effect.note ≡ o → ShowsLives p (with_issued o kept_lives) T
      by None q = shows_same p who (λ c command h. none (issued_in e.step e.effect.note) record { spe = p; cmd = c; command = command } q (issue_found p c command h))
      by (Some i) q =
          let h = issued_is e.step e.effect.note i q in
          subst (λ r. ShowsLives r (kept_lives ++ (record { spe = i.spe; cmd = i.cmd; progress = begun i.command } ∷ [])) T) (some_same i.spe p (sym (ap spe_in h.0) ∙ who)) (shows_issue i.spe i.cmd i.command record { is = h.0; notes = h.1 })

-- a step of another processor, or of the host, changes nothing of a command
status_else : (p c : ℕ) (o : Option Progress) (step : Step) (effect : Effect) → spe_in step ≢ Some p → next_status p c o (event_of step effect) ≡ o
status_else p c None (Exec q) effect other = off-same (q == p) (issued_as c effect.note) None (differs q p other)
status_else p c None (Piece q d x k) effect other = refl
status_else p c None (Elem q d) effect other = refl
status_else p c None (Retire q d) effect other = refl
status_else p c None (Atomic q) effect other = refl
status_else p c None Host effect other = refl
status_else p c (Some s) step effect other = ap Some (by s.done)
  where
    off : (b t : Bool) (x : Progress) → b ≡ false → cond (b && t) x s ≡ s
    off b t x e = off-same (b && t) x s (and-off b t e)

    moves : (step : Step) → spe_in step ≢ Some p → stepped p c s step effect.note ≡ s
    moves (Exec q) other = off-same (q == p) (after_ack s effect.note) s (differs q p other)
    moves (Piece q d x k) other = off (q == p) (d == c) (after_piece s) (differs q p other)
    moves (Elem q d) other = off (q == p) (d == c) (after_element s effect.note) (differs q p other)
    moves (Retire q d) other = off (q == p) (d == c) (record s { stalled = false; done = true }) (differs q p other)
    moves (Atomic q) other = refl
    moves Host other = refl

    by : (b : Bool) → (if b then s else stepped p c s step effect.note) ≡ s
    by true = refl
    by false = moves step other

-- so the list of another processor is as before
pub lives_else : (trace : Trace) (e : Event) (p : ℕ) (lives : List Live) → spe_in e.step ≢ Some p → ShowsLives p lives trace → ShowsLives p lives (trace ++ (e ∷ []))
lives_else trace e p lives other shows =
    record {
      sound = λ i l at.
          let h = shows.sound i l at in
          let own : Has trace p l.cmd l.progress = subst (λ q. Has trace q l.cmd l.progress) h.0 h.1 in
          (h.0, subst (λ q. Has (trace ++ (e ∷ [])) q l.cmd l.progress) (sym h.0) record { is = same l.cmd ∙ own.is }, h.2);
      full = λ c s h d. shows.full c s record { is = sym (same c) ∙ h.is } d;
    }
  where
    same : (c : ℕ) → status p c (trace ++ (e ∷ [])) ≡ status p c trace
    same c = status_next p c trace e ∙ status_else p c (status p c trace) e.step e.effect other

-- no more elements are read than have numbers
number_low : (read : ℕ) (note : Note) → IsNumbered read note → read < 65534
number_low read (Element number parts flag) w = w.1
number_low read Nothing w = w
number_low read (Issue a b) w = w
number_low read AtomicIssue w = w
number_low read (TagRead a b) w = w
number_low read (StallRead a) w = w
number_low read (Ack a) w = w
number_low read AtomicRead w = w
number_low read (Put a b) w = w
number_low read (Take a b) w = w
number_low read (Signal a b) w = w
number_low read Ended w = w
number_low read (Awaited a) w = w

pub read_low : (trace : Trace) (queued : IsQueued trace) (p c : ℕ) (s : Progress) → Has trace p c s → s.read + 1 < 2 ^ 16
read_low trace queued p c s h = by (cases_lt 0 s.read)
  where
    whole : take (length trace) trace ≡ trace
    whole = take_all (length trace) trace (omega arith)

    by : (0 < s.read) ⊎ (s.read ≤ 0) → s.read + 1 < 2 ^ 16
    by (inr z) = omega arith
    by (inl z) =
        let r : (k : ℕ) × (k < length trace) × ReadsElement trace k p c (s.read - 1) = read_there trace p c (length trace) s (s.read - 1) (omega arith) (subst (λ t. Has t p c s) (sym whole) h) (omega arith) in
        let w : r.2.progress.read < 65534 = number_low r.2.progress.read r.2.step.event.effect.note (elem_fits trace queued r.0 p c (s.read - 1) r.2).3 in
        let q : r.2.progress.read ≡ s.read - 1 = r.2.number in
        omega arith

-- the list has room, its commands are outstanding and of the n processors
pub have_room : (trace : Trace) (queued : IsQueued trace) (who : Option ℕ) (lives : List Live) → ShowsNear who lives trace → HaveRoom lives
have_room trace queued who lives shows = λ k d low. read_low trace queued (get_or lives k d).spe (get_or lives k d).cmd (get_or lives k d).progress (shows.sound k (get_or lives k d) (slice_get-get_or lives k d low)).1

pub are_outstanding : (trace : Trace) (who : Option ℕ) (lives : List Live) → ShowsNear who lives trace → AreOutstanding lives
are_outstanding trace who lives shows = λ k d low. (shows.sound k (get_or lives k d) (slice_get-get_or lives k d low)).2

pub are_within : (n : ℕ) (who : Option ℕ) (trace : Trace) (lives : List Live) → ((p : ℕ) → who ≡ Some p → p < n) → ShowsNear who lives trace → AreWithin n lives
are_within n who trace lives within shows = λ k d low. within (get_or lives k d).spe (shows.sound k (get_or lives k d) (slice_get-get_or lives k d low)).0

-- the step's processor is one of them
pub who_within : (n : ℕ) (step : Step) → IsWithin n step → (p : ℕ) → spe_in step ≡ Some p → p < n
who_within n (Exec q) w p h = subst (λ r. r < n) (some_same q p h) w
who_within n (Piece q c x k) w p h = subst (λ r. r < n) (some_same q p h) w
who_within n (Elem q c) w p h = subst (λ r. r < n) (some_same q p h) w
who_within n (Retire q c) w p h = subst (λ r. r < n) (some_same q p h) w
who_within n (Atomic q) w p h = subst (λ r. r < n) (some_same q p h) w
who_within n Host w p h = cc
