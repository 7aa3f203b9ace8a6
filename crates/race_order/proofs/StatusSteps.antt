-- The trace alone tells how far each command has come.
use Rattle.std.proofs.Common.{◌≡◌, ◌≢◌, ℕ, zero, suc, ◌<◌, ◌≤◌, ◌==◌, ◌&&◌, not, Bool, true, false, List, [], ◌∷◌, ◌++◌, length, arith, refl, sym, ◌∙◌, ap, subst, true≢false, ◌⊎◌, inl, inr, length-append}
use Rattle.std.specs.Prelude.{Option, Some, None, slice_get, cond, option_map}
use Rattle.std.specs.List.{fold, list_all}
use Rattle.std.proofs.lemmas.Bool.Decides.{nat_tests}
use Rattle.cell_base.specs.declared.steps.Step.{Step}
use Rattle.cell_base.specs.declared.steps.Step.TheVariants.{Exec, Piece, Elem, Retire, Atomic, Host}
use Rattle.mfc_command.specs.declared.command.Command.{Command}
use Rattle.cell_machine.specs.declared.effect.Note.{Note}
use Rattle.cell_machine.specs.declared.effect.Note.TheVariants.{Nothing, Issue, AtomicIssue, TagRead, StallRead, Ack, AtomicRead, Put, Take, Ended, Awaited, Element as Reading, Signal}
use Rattle.cell_machine.specs.Traces.{Event}
use Rattle.cell_machine.specs.Spe.{Spe, Moves, is_faulted}
use Rattle.cell_machine.specs.Moves.{read_of, is_moved, is_finished, is_stalled, elements_of, elements_in, was_retired, is_complete_as}
use Rattle.cell_machine.specs.MovesShown.{AreElements}
use Rattle.cell_machine.specs.Tags.{settled}
use Rattle.cell_machine.specs.Channels.{with_issued}
use Rattle.cell_machine.specs.Transfers.{has_part, has_element, is_left, with_done, with_read, with_retired}
use Rattle.cell_machine.proofs.Same.{SameOf, get-cases, some_same, eq_same, eq_is, eq_not, get-past, get-last, done-elsewhere, read-elsewhere, retired-elsewhere, issued-elsewhere}
use Rattle.cell_machine.proofs.Staying.{get_more, both, not_true}
use Rattle.cell_machine.proofs.ListSteps.{AreInOrder, order-issued, order-resumed, order-done, order-retired, order-read}
use Rattle.race_order.specs.declared.progress.Progress.{Progress}
use Rattle.race_order.specs.Trace.{Trace}
use Rattle.race_order.specs.Status.{status, next_status, first_status, issued_as, stepped, after_ack, after_element, with_element, finished, is_by, is_transfer, begun}
use Rattle.race_order.specs.Stages.{progress_of, KeepsStatus}
use Rattle.race_order.proofs.Small.{and-false, not-yet, off-same, on-same}
use Rattle.race_order.proofs.Shapes.{retired-shape, same-shape}
use Rattle.race_order.proofs.Moving.{IsFit, piece-shape, element-shape, count-shape, retire-shape, issue-shape, ack-shape}
use Rattle.race_order.proofs.Turns.{Works, rests, issues, acks, copies, reads, fails, retires, Turn}

-- ---- one more step

pub fold-snoc : {X Y : Type 0} (f : Y → X → Y) (y : Y) (xs : List X) (x : X) → fold f y (xs ++ x ∷ []) ≡ f (fold f y xs) x
fold-snoc f y [] x = refl
fold-snoc f y (z ∷ xs) x = fold-snoc f (f y z) xs x

pub status-snoc : (p c : ℕ) (trace : Trace) (e : Event) → status p c (trace ++ e ∷ []) ≡ next_status p c (status p c trace) e
status-snoc p c trace e = fold-snoc (next_status p c) None trace e

-- ---- a command stays what it is

same_command : (b : Bool) (x y : Progress) (d : Command) → x.command ≡ d → y.command ≡ d → (cond b x y).command ≡ d
same_command true x y d h k = h
same_command false x y d h k = k

finished_command : (s : Progress) → (finished s).command ≡ s.command
finished_command s = same_command (is_transfer s.command) _ _ s.command refl refl

element_command : (s : Progress) (note : Note) → (after_element s note).command ≡ s.command
element_command s (Reading number parts flag) = same_command (parts == 0) _ _ s.command (finished_command (with_element s parts flag)) refl
element_command s Nothing = refl
element_command s (Issue c d) = refl
element_command s AtomicIssue = refl
element_command s (TagRead g i) = refl
element_command s (StallRead g) = refl
element_command s (Ack t) = refl
element_command s AtomicRead = refl
element_command s (Put q m) = refl
element_command s (Take q m) = refl
element_command s (Signal q r) = refl
element_command s Ended = refl
element_command s (Awaited q) = refl

ack_command : (s : Progress) (note : Note) → (after_ack s note).command ≡ s.command
ack_command s (Ack tag) = same_command (s.stalled && (tag == s.command.tag)) _ _ s.command refl refl
ack_command s (Reading number parts flag) = refl
ack_command s Nothing = refl
ack_command s (Issue c d) = refl
ack_command s AtomicIssue = refl
ack_command s (TagRead g i) = refl
ack_command s (StallRead g) = refl
ack_command s AtomicRead = refl
ack_command s (Put q m) = refl
ack_command s (Take q m) = refl
ack_command s (Signal q r) = refl
ack_command s Ended = refl
ack_command s (Awaited q) = refl

pub stepped-command : (p c : ℕ) (s : Progress) (step : Step) (note : Note) → (stepped p c s step note).command ≡ s.command
stepped-command p c s (Exec q) note = same_command (q == p) _ _ s.command (ack_command s note) refl
stepped-command p c s (Piece q d e k) note = same_command (is_by p c q d) _ _ s.command (same_command (s.left == 1) _ _ s.command (finished_command s) refl) refl
stepped-command p c s (Elem q d) note = same_command (is_by p c q d) _ _ s.command (element_command s note) refl
stepped-command p c s (Retire q d) note = same_command (is_by p c q d) _ _ s.command refl refl
stepped-command p c s (Atomic q) note = refl
stepped-command p c s Host note = refl

-- ---- what is new

abbrev Fresh : ℕ → Step → Note → Moves → Moves → Type 0
Fresh p s note m n = (n.issued ≡ m.issued × ((c : ℕ) → first_status p c s note ≡ None)) ⊎ ((d : Command) × (s ≡ Exec p) × (note ≡ Issue (length m.issued) d) × (n.issued ≡ m.issued ++ d ∷ []))

ack_fresh : (p tag c : ℕ) → first_status p c (Exec p) (Ack tag) ≡ None
ack_fresh p tag c = ap (λ b. cond b None None) (eq_same p)

what_new : (p : ℕ) (s : Step) (note : Note) (m n : Moves) (gone : Bool) → Works p s note m n gone → Fresh p s note m n
what_new p s note m n gone (rests same idle) = inl (ap (λ (k : Moves). k.issued) same, idle.fresh)
what_new p s note m n gone (issues d is told same fit low) = inr (d, is, told, ap (λ (k : Moves). k.issued) same)
what_new p s note m n gone (acks tag is told same) = inl (ap (λ (k : Moves). k.issued) same, λ c. ap (λ t. first_status p c t note) is ∙ ap (first_status p c (Exec p)) told ∙ ack_fresh p tag c)
what_new p s note m n gone (copies c e k d is told at has same) = inl (ap (λ (k : Moves). k.issued) same, λ c. ap (λ t. first_status p c t note) is)
what_new p s note m n gone (reads c d x is told at has number same) = inl (ap (λ (k : Moves). k.issued) same, λ c. ap (λ t. first_status p c t note) is)
what_new p s note m n gone (fails c d is told at has same off) = inl (ap (λ (k : Moves). k.issued) same, λ c. ap (λ t. first_status p c t note) is)
what_new p s note m n gone (retires c d is told at has same) = inl (ap (λ (k : Moves). k.issued) same, λ c. ap (λ t. first_status p c t note) is)

-- of a number that wasn't issued
issued_first : (p c : ℕ) (d : Command) (issued : List Command) → slice_get issued c ≡ None → (first_status p c (Exec p) (Issue (length issued) d) ≡ None) ⊎ ((c ≡ length issued) × (first_status p c (Exec p) (Issue (length issued) d) ≡ Some (begun d)))
issued_first p c d issued none = on (length issued == c) refl
  where
    on : (b : Bool) → (length issued == c) ≡ b → (first_status p c (Exec p) (Issue (length issued) d) ≡ None) ⊎ ((c ≡ length issued) × (first_status p c (Exec p) (Issue (length issued) d) ≡ Some (begun d)))
    on true e = inr (grind (arith, nat_tests, e), ap (λ b. cond b (issued_as c (Issue (length issued) d)) None) (eq_same p) ∙ ap (λ b. cond b (Some (begun d)) None) e)
    on false e = inl (ap (λ b. cond b (issued_as c (Issue (length issued) d)) None) (eq_same p) ∙ ap (λ b. cond b (Some (begun d)) None) e)

not-issued : {X : Type 0} (xs : List X) (c : ℕ) → slice_get xs c ≡ None → length xs ≤ c
not-issued [] c h = omega arith
not-issued (x ∷ xs) zero h = absurd (cc)
not-issued (x ∷ xs) (suc c) h = let r = not-issued xs c h in omega (arith, r)

past_snoc : {X : Type 0} (xs : List X) (x : X) (c : ℕ) → slice_get xs c ≡ None → c ≢ length xs → slice_get (xs ++ x ∷ []) c ≡ None
past_snoc xs x c none differs = let low = not-issued xs c none in let long = length-append xs (x ∷ []) in get-past (xs ++ x ∷ []) c (omega (arith, low, long, differs))

commands_snoc : (p c : ℕ) (s : Step) (note : Note) (m n : Moves) (o : Option Progress) (e : Event) → e.step ≡ s → e.effect.note ≡ note → Fresh p s note m n → option_map (λ (t : Progress). t.command) o ≡ slice_get m.issued c
    → option_map (λ (t : Progress). t.command) (next_status p c o e) ≡ slice_get n.issued c
commands_snoc p c s note m n (Some t) e is told fresh was = ap Some (same_command t.done t _ t.command refl (stepped-command p c t e.step e.effect.note)) ∙ later fresh
  where
    later : Fresh p s note m n → Some t.command ≡ slice_get n.issued c
    later (inl f) = was ∙ ap (λ xs. slice_get xs c) (sym f.0)
    later (inr f) = sym (ap (λ xs. slice_get xs c) f.3 ∙ get_more m.issued (f.0 ∷ []) c t.command (sym was))
commands_snoc p c s note m n None e is told fresh was = ap (option_map (λ (t : Progress). t.command)) (ap (λ x. first_status p c x e.effect.note) is ∙ ap (first_status p c s) told) ∙ later fresh
  where
    later : Fresh p s note m n → option_map (λ (t : Progress). t.command) (first_status p c s note) ≡ slice_get n.issued c
    later (inl f) = ap (option_map (λ (t : Progress). t.command)) (f.1 c) ∙ was ∙ ap (λ xs. slice_get xs c) (sym f.0)
    later (inr f) = ap (option_map (λ (t : Progress). t.command)) (ap (λ x. first_status p c x note) f.1 ∙ ap (first_status p c (Exec p)) f.2) ∙ by (c == length m.issued) refl (issued_first p c f.0 m.issued (sym was))
        ∙ ap (λ xs. slice_get xs c) (sym f.3)
      where
        by : (b : Bool) → (c == length m.issued) ≡ b → (first_status p c (Exec p) (Issue (length m.issued) f.0) ≡ None) ⊎ ((c ≡ length m.issued) × (first_status p c (Exec p) (Issue (length m.issued) f.0) ≡ Some (begun f.0)))
            → option_map (λ (t : Progress). t.command) (first_status p c (Exec p) (Issue (length m.issued) f.0)) ≡ slice_get (m.issued ++ f.0 ∷ []) c
        by b e (inr h) = ap (option_map (λ (t : Progress). t.command)) h.1 ∙ sym (ap (slice_get (m.issued ++ f.0 ∷ [])) h.0 ∙ get-last m.issued f.0)
        by false e (inl h) = ap (option_map (λ (t : Progress). t.command)) h ∙ sym (past_snoc m.issued f.0 c (sym was) (eq_not c (length m.issued) e))
        by true e (inl h) = absurd (no (issued_now p c f.0 m.issued (eq_is c (length m.issued) e)) h)
          where
            issued_now : (p c : ℕ) (d : Command) (issued : List Command) → c ≡ length issued → first_status p c (Exec p) (Issue (length issued) d) ≡ Some (begun d)
            issued_now p c d issued same = ap (λ b. cond b (issued_as c (Issue (length issued) d)) None) (eq_same p) ∙ ap (λ b. cond b (Some (begun d)) None) (ap (λ k. length issued == k) same ∙ eq_same (length issued))

            no : {t : Progress} {o : Option Progress} → o ≡ Some t → o ≡ None → ⊥
            no a b = cc

-- ---- how far each command has come

-- each command that was issued fits
pub record AreFit (m : Moves) : Type 0 where
  pub fits : (c : ℕ) (d : Command) → slice_get m.issued c ≡ Some d → IsFit d × (d.tag < 32)

same_if : (b : Bool) (x y : Progress) → y ≡ x → cond b x y ≡ x
same_if true x y h = refl
same_if false x y h = h

open_if : (b : Bool) (x y z : Progress) → b ≡ false → y ≡ z → cond b x y ≡ z
open_if true x y z h k = absurd (true≢false h)
open_if false x y z h k = k

-- where it changes nothing of a complete one
done_if : (b : Bool) (x y z : Progress) → (b ≡ true → y ≡ x) → y ≡ z → cond b x y ≡ z
done_if true x y z h k = sym (h refl) ∙ k
done_if false x y z h k = k

-- a complete command isn't stalled
done-unstalled : (m : Moves) (c : ℕ) (d : Command) → AreElements m c d → is_complete_as m c d ≡ true → is_stalled m c d ≡ false
unfolding is_complete_as
done-unstalled m c d els h = on (is_moved d) refl h
  where
    on : (b : Bool) → is_moved d ≡ b → cond b ((length (elements_of m.read c d) == elements_in d) && (list_all (is_finished m.done c) (elements_of m.read c d) && not (is_stalled m c d))) (was_retired m.retired c) ≡ true → is_stalled m c d ≡ false
    on true e g = not_true _ (both (list_all (is_finished m.done c) (elements_of m.read c d)) (not (is_stalled m c d)) (both (length (elements_of m.read c d) == elements_in d) _ g).1).1
    on false e g = ap (λ (s : Progress). s.stalled) (retired-shape m c d els e)

-- the trace tells of an issued command what the machine keeps after the step
abbrev Told : ℕ → Step → Note → Moves → Moves → ℕ → Command → Type 0
Told p s note m n c d = cond (progress_of m c d).done (progress_of m c d) (stepped p c (progress_of m c d) s note) ≡ progress_of n c d

other_off : (p b c : ℕ) → (b == c) ≡ false → is_by p c p b ≡ false
other_off p b c h = ap (λ x. (p == p) && x) h ∙ and-false (p == p)

own_on : (p c : ℕ) → is_by p c p c ≡ true
own_on p c = ap (λ x. x && (c == c)) (eq_same p) ∙ eq_same c

-- a step of the command b, by which one more thing of it alone is done
told_else : (p : ℕ) (s : Step) (note : Note) (m n : Moves) (c : ℕ) (d : Command) → stepped p c (progress_of m c d) s note ≡ progress_of m c d → SameOf m n c → Told p s note m n c d
told_else p s note m n c d still same = same_if (progress_of m c d).done (progress_of m c d) _ still ∙ sym (same-shape m n c d same)

told_by : (p : ℕ) (s : Step) (note : Note) (m n : Moves) (gone : Bool) → AreInOrder m → AreInOrder n → AreFit m → Works p s note m n gone → gone ≡ false → (c : ℕ) (d : Command) → slice_get m.issued c ≡ Some d → Told p s note m n c d
told_by p s note m n gone order later fit (rests same idle) whole c d at =
    same_if (progress_of m c d).done (progress_of m c d) _ (idle.stays c (progress_of m c d)) ∙ ap (λ k. progress_of k c d) (sym same)
told_by p s note m n gone order later fit (issues y is told same own low) whole c d at =
    subst (λ k. Told p s note m k c d) (sym same) (told_else p s note m (with_issued m y) c d
    (ap (λ t. stepped p c (progress_of m c d) t note) is ∙ ap (stepped p c (progress_of m c d) (Exec p)) told ∙ same_if (p == p) (progress_of m c d) _ refl)
    (issued-elsewhere m y c))
told_by p s note m n gone order later fit (acks tag is told same) whole c d at =
    let x : Progress = progress_of m c d in
    let els = order.elements c d at in
    let step : stepped p c x s note ≡ after_ack x (Ack tag) = ap (λ t. stepped p c x t note) is ∙ ap (stepped p c x (Exec p)) told ∙ on-same (p == p) _ x (eq_same p) in
    done_if x.done x (stepped p c x s note) (progress_of n c d)
    (λ done. step ∙ off-same (x.stalled && (tag == d.tag)) _ x (ap (λ b. b && (tag == d.tag)) (done-unstalled m c d els done)))
    (step ∙ ack-shape m tag c d (fit.fits c d at).0 els (subst (λ (k : Moves). AreElements k c d) same (later.elements c d (ap (λ (k : Moves). slice_get k.issued c) same ∙ at))) at ∙ ap (λ k. progress_of k c d) (sym same))
told_by p s note m n gone order later fit (copies b e k y is told here has same) whole c d at = subst (λ k. Told p s note m k c d) (sym same) (on (b == c) refl)
  where
    on : (t : Bool) → (b == c) ≡ t → Told p s note m (with_done m b e k) c d
    on false q = told_else p s note m (with_done m b e k) c d (ap (λ t. stepped p c (progress_of m c d) t note) is ∙ off-same (is_by p c p b) _ _ (other_off p b c q)) (done-elsewhere m b e k c (eq_not b c q))
    on true q =
        let own : b ≡ c = eq_is b c q in
        let same_d : y ≡ d = some_same y d (sym here ∙ ap (slice_get m.issued) own ∙ at) in
        let gone = piece-shape m c e k d (fit.fits c d at).0 (order.elements c d at) (subst (λ j. has_part m j e k d ≡ true) own (subst (λ w. has_part m b e k w ≡ true) same_d has)) in
        open_if (progress_of m c d).done (progress_of m c d) _ _ gone.unfinished
        (ap (λ t. stepped p c (progress_of m c d) t note) is ∙ on-same (is_by p c p b) _ _ (ap (λ j. is_by p c p j) own ∙ own_on p c) ∙ gone.after ∙ ap (λ j. progress_of (with_done m j e k) c d) (sym own))
told_by p s note m n gone order later fit (reads b y x is told here has number same) whole c d at = subst (λ k. Told p s note m k c d) (sym same) (on (b == c) refl)
  where
    on : (t : Bool) → (b == c) ≡ t → Told p s note m (with_read m b x) c d
    on false q = told_else p s note m (with_read m b x) c d (ap (λ t. stepped p c (progress_of m c d) t note) is ∙ off-same (is_by p c p b) _ _ (other_off p b c q)) (read-elsewhere m b x c (eq_not b c q))
    on true q =
        let own : b ≡ c = eq_is b c q in
        let same_d : y ≡ d = some_same y d (sym here ∙ ap (slice_get m.issued) own ∙ at) in
        let may : has_element m c d ≡ true = subst (λ j. has_element m j d ≡ true) own (subst (λ w. has_element m b w ≡ true) same_d has) in
        let els = order.elements c d at in
        let fits = (fit.fits c d at).0 in
        open_if (progress_of m c d).done (progress_of m c d) _ _ (count-shape m c d fits els may).unfinished
        (ap (λ t. stepped p c (progress_of m c d) t note) is ∙ on-same (is_by p c p b) _ _ (ap (λ j. is_by p c p j) own ∙ own_on p c) ∙ ap (after_element (progress_of m c d)) told
        ∙ element-shape m c d x fits els may (number ∙ ap (λ j. length (read_of m.read j)) own) ∙ ap (λ j. progress_of (with_read m j x) c d) (sym own))
told_by p s note m n gone order later fit (fails b y is told here has same off) whole c d at = absurd (true≢false (sym off ∙ whole))
told_by p s note m n gone order later fit (retires b y is told here has same) whole c d at = subst (λ k. Told p s note m k c d) (sym same) (on (b == c) refl)
  where
    on : (t : Bool) → (b == c) ≡ t → Told p s note m (with_retired m b) c d
    on false q = told_else p s note m (with_retired m b) c d (ap (λ t. stepped p c (progress_of m c d) t note) is ∙ off-same (is_by p c p b) _ _ (other_off p b c q)) (retired-elsewhere m b c (eq_not b c q))
    on true q =
        let own : b ≡ c = eq_is b c q in
        let same_d : y ≡ d = some_same y d (sym here ∙ ap (slice_get m.issued) own ∙ at) in
        let gone = retire-shape m c d (order.elements c d at) (subst (λ j. is_left m j d ≡ true) own (subst (λ w. is_left m b w ≡ true) same_d has)) in
        open_if (progress_of m c d).done (progress_of m c d) _ _ gone.unfinished
        (ap (λ t. stepped p c (progress_of m c d) t note) is ∙ on-same (is_by p c p b) _ _ (ap (λ j. is_by p c p j) own ∙ own_on p c) ∙ gone.after ∙ ap (λ j. progress_of (with_retired m j) c d) (sym own))

-- and of one that is new
new_by : (p : ℕ) (s : Step) (note : Note) (m n : Moves) (gone : Bool) → AreInOrder m → AreInOrder n → Works p s note m n gone → (c : ℕ) → slice_get m.issued c ≡ None
    → first_status p c s note ≡ option_map (progress_of n c) (slice_get n.issued c)
new_by p s note m n gone order later works c none = on works
  where
    absent : (k : Moves) → k.issued ≡ m.issued → first_status p c s note ≡ None → first_status p c s note ≡ option_map (progress_of k c) (slice_get k.issued c)
    absent k same h = h ∙ sym (ap (λ xs. option_map (progress_of k c) (slice_get xs c)) same ∙ ap (option_map (progress_of k c)) none)

    issued : (d : Command) → s ≡ Exec p → note ≡ Issue (length m.issued) d → n ≡ with_issued m d → IsFit d → first_status p c s note ≡ option_map (progress_of n c) (slice_get n.issued c)
    issued d is told same fit = ap (λ x. first_status p c x note) is ∙ ap (first_status p c (Exec p)) told ∙ by (c == length m.issued) refl ∙ sym (ap (λ (k : Moves). option_map (progress_of k c) (slice_get k.issued c)) same)
      where
        by : (b : Bool) → (c == length m.issued) ≡ b → first_status p c (Exec p) (Issue (length m.issued) d) ≡ option_map (progress_of (with_issued m d) c) (slice_get (m.issued ++ d ∷ []) c)
        by true q =
            let own : c ≡ length m.issued = eq_is c (length m.issued) q in
            let els : AreElements (with_issued m d) (length m.issued) d = subst (λ (k : Moves). AreElements k (length m.issued) d) same (later.elements (length m.issued) d (ap (λ (k : Moves). slice_get k.issued (length m.issued)) same ∙ get-last m.issued d)) in
            ap (λ b. cond b (issued_as c (Issue (length m.issued) d)) None) (eq_same p) ∙ ap (λ b. cond b (Some (begun d)) None) (ap (λ k. length m.issued == k) own ∙ eq_same (length m.issued))
            ∙ ap Some (sym (issue-shape m d fit (order.fresh (length m.issued) (omega arith)) els))
            ∙ sym (ap (λ k. option_map (progress_of (with_issued m d) k) (slice_get (m.issued ++ d ∷ []) k)) own ∙ ap (option_map (progress_of (with_issued m d) (length m.issued))) (get-last m.issued d))
        by false q =
            let differs : c ≢ length m.issued = eq_not c (length m.issued) q in
            let off : (length m.issued == c) ≡ false = grind (arith, nat_tests, q) in
            ap (λ b. cond b (issued_as c (Issue (length m.issued) d)) None) (eq_same p) ∙ ap (λ b. cond b (Some (begun d)) None) off
            ∙ sym (ap (option_map (progress_of (with_issued m d) c)) (past_snoc m.issued d c none differs))

    on : Works p s note m n gone → first_status p c s note ≡ option_map (progress_of n c) (slice_get n.issued c)
    on (rests same idle) = absent n (ap (λ (k : Moves). k.issued) same) (idle.fresh c)
    on (issues d is told same fit low) = issued d is told same fit
    on (acks tag is told same) = absent n (ap (λ (k : Moves). k.issued) same) (ap (λ t. first_status p c t note) is ∙ ap (first_status p c (Exec p)) told ∙ ack_fresh p tag c)
    on (copies b e k d is told at has same) = absent n (ap (λ (k : Moves). k.issued) same) (ap (λ t. first_status p c t note) is)
    on (reads b d x is told at has number same) = absent n (ap (λ (k : Moves). k.issued) same) (ap (λ t. first_status p c t note) is)
    on (fails b d is told at has same off) = absent n (ap (λ (k : Moves). k.issued) same) (ap (λ t. first_status p c t note) is)
    on (retires b d is told at has same) = absent n (ap (λ (k : Moves). k.issued) same) (ap (λ t. first_status p c t note) is)

-- ---- one step

still_there : (p : ℕ) (s : Step) (note : Note) (m n : Moves) → Fresh p s note m n → (c : ℕ) (d : Command) → slice_get m.issued c ≡ Some d → slice_get n.issued c ≡ Some d
still_there p s note m n (inl f) c d at = ap (λ xs. slice_get xs c) f.0 ∙ at
still_there p s note m n (inr f) c d at = ap (λ xs. slice_get xs c) f.3 ∙ get_more m.issued (f.0 ∷ []) c d at

come_next : (p c : ℕ) (m n : Moves) (gone : Bool) (e : Event) → AreInOrder m → AreInOrder n → AreFit m → Works p e.step e.effect.note m n gone → gone ≡ false
    → next_status p c (option_map (progress_of m c) (slice_get m.issued c)) e ≡ option_map (progress_of n c) (slice_get n.issued c)
come_next p c m n gone e order later fit works whole = on (slice_get m.issued c) refl
  where
    on : (o : Option Command) → slice_get m.issued c ≡ o → next_status p c (option_map (progress_of m c) o) e ≡ option_map (progress_of n c) (slice_get n.issued c)
    on None at = new_by p e.step e.effect.note m n gone order later works c at
    on (Some d) at = ap Some (told_by p e.step e.effect.note m n gone order later fit works whole c d at)
        ∙ sym (ap (option_map (progress_of n c)) (still_there p e.step e.effect.note m n (what_new p e.step e.effect.note m n gone works) c d at))

-- a step keeps what is told
pub status-step : (p : ℕ) (trace : Trace) (P Q : Spe) (e : Event) → AreInOrder P.moves → AreInOrder Q.moves → AreFit P.moves → Turn p P Q e.step e.effect → KeepsStatus p trace P → KeepsStatus p (trace ++ e ∷ []) (settled Q)
status-step p trace P Q e order later fit turn was = record {
  issued = λ c. ap (option_map (λ (t : Progress). t.command)) (status-snoc p c trace e)
      ∙ commands_snoc p c e.step e.effect.note P.moves Q.moves (status p c trace) e refl refl (what_new p e.step e.effect.note P.moves Q.moves (is_faulted Q.status) turn.works) (was.issued c);
  come = λ whole c. status-snoc p c trace e
      ∙ ap (λ o. next_status p c o e) (was.come (not-yet (is_faulted P.status) (is_faulted Q.status) turn.faulted whole) c)
      ∙ come_next p c P.moves Q.moves (is_faulted Q.status) e order later fit turn.works whole;
}

pub order-step : (p : ℕ) (s : Step) (note : Note) (m n : Moves) (gone : Bool) → Works p s note m n gone → AreInOrder m → AreInOrder n
order-step p s note m n gone (rests same idle) order = subst AreInOrder (sym same) order
order-step p s note m n gone (issues d is told same fit low) order = subst AreInOrder (sym same) (order-issued m d order)
order-step p s note m n gone (acks tag is told same) order = subst AreInOrder (sym same) (order-resumed m tag order)
order-step p s note m n gone (copies c e k d is told at has same) order = subst AreInOrder (sym same) (order-done m c e k d at has order)
order-step p s note m n gone (reads c d x is told at has number same) order = subst AreInOrder (sym same) (order-read m c d x at has number order)
order-step p s note m n gone (fails c d is told at has same off) order = subst AreInOrder (sym same) order
order-step p s note m n gone (retires c d is told at has same) order = subst AreInOrder (sym same) (order-retired m c d at order)

pub fit-step : (p : ℕ) (s : Step) (note : Note) (m n : Moves) (gone : Bool) → Works p s note m n gone → AreFit m → AreFit n
fit-step p s note m n gone works fit = on works
  where
    same_fit : n.issued ≡ m.issued → AreFit n
    same_fit same = record { fits = λ c d at. fit.fits c d (ap (λ xs. slice_get xs c) (sym same) ∙ at) }

    on : Works p s note m n gone → AreFit n
    on (rests same idle) = same_fit (ap (λ (k : Moves). k.issued) same)
    on (issues d is told same own low) = record {
      fits = λ c y at. get-cases m.issued d y c (IsFit y × (y.tag < 32)) (ap (λ (k : Moves). slice_get k.issued c) (sym same) ∙ at)
          (λ last is_d. (subst IsFit (sym is_d) own, subst (λ (z : Command). z.tag < 32) (sym is_d) low))
          (λ old. fit.fits c y old);
    }
    on (acks tag is told same) = same_fit (ap (λ (k : Moves). k.issued) same)
    on (copies c e k d is told at has same) = same_fit (ap (λ (k : Moves). k.issued) same)
    on (reads c d x is told at has number same) = same_fit (ap (λ (k : Moves). k.issued) same)
    on (fails c d is told at has same off) = same_fit (ap (λ (k : Moves). k.issued) same)
    on (retires c d is told at has same) = same_fit (ap (λ (k : Moves). k.issued) same)
