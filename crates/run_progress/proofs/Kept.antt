-- What is kept of a run, as it goes on by a step.
use Rattle.std.proofs.Common.{◌≡◌, ℕ, suc, ◌+◌, ◌<◌, ◌≤◌, Bool, true, false, List, [], ◌∷◌, ◌++◌, length, drop, take, map, refl, sym, ap, ◌∙◌, subst, arith, Option, Some, None, append-nil}
use Rattle.std.specs.Prelude.{cond, filter, slice_get, slice_set, ◌==◌, ◌&&◌}
use Rattle.std.specs.List.{last_or}
use Rattle.std.specs.Option.{option_map, option_map_or}
use Rattle.std.proofs.lemmas.List.{drop-append-le, map-append}
use Rattle.std.proofs.lemmas.List.Elements.{filter-append}
use Rattle.std.proofs.Math.ListN.{drop_of_length-le}
use Rattle.std.proofs.lemmas.List.{length-append}
use Rattle.std.proofs.lemmas.Option.{slice_get_within}
use Rattle.cell_base.specs.declared.steps.Step.{Step}
use Rattle.cell_base.specs.declared.steps.Step.TheVariants.{Exec, Piece, Elem, Retire, Atomic, Host}
use Rattle.cell_machine.specs.declared.effect.Span.{Span}
use Rattle.cell_machine.proofs.Same.{eq_is, eq_not, eq_off, eq_same, some_same}
use Rattle.cell_machine.proofs.AllTwo.{whole}
use Rattle.cell_machine.proofs.CommandsShown.{set-here, set-other}
use Rattle.run_progress.specs.declared.progress.AddressRange.{AddressRange}
use Rattle.run_progress.specs.declared.progress.Poll.{Poll}
use Rattle.run_progress.specs.declared.recent.Recent.{Recent}
use Rattle.run_progress.specs.declared.writes.Write.{Write}
use Rattle.run_progress.specs.Made.{Made}
use Rattle.run_progress.specs.Changes.{changes, is_shared}
use Rattle.run_progress.specs.Progress.{after_change, executed, is_copy_of, is_exec_of, is_read_by, last_change, last_ones, last_place, overlap, poll_of, polled, range_of, spe_progress, writes_in}
use Rattle.run_progress.specs.Tracks.{AreEmpty, AreNone, AreReads, AreRecent, AreWrites, copier, last_write}
use Rattle.run_progress.proofs.Lists.{last_of-more, last_ones-more, last_place-more, last_place-within}

-- ---- the last change

pub change-more : (run : List Made) (x : Made) → last_change (run ++ x ∷ []) ≡ cond (changes x) (suc (length run)) (last_change run)
unfolding last_change
change-more run x = ap (λ o. option_map_or suc o 0) (last_place-more changes run x) ∙ on (changes x)
  where
    on : (b : Bool) → option_map_or suc (cond b (Some (length run)) (last_place changes run)) 0 ≡ cond b (suc (length run)) (option_map_or suc (last_place changes run) 0)
    on true = refl
    on false = refl

change-within : (run : List Made) → last_change run ≤ length run
unfolding last_change
change-within run = last_place-within changes run

-- the steps after it
after-changed : (run : List Made) (x : Made) → changes x ≡ true → after_change (run ++ x ∷ []) ≡ []
after-changed run x holds =
    let last : last_change (run ++ x ∷ []) ≡ suc (length run) = change-more run x ∙ ap (λ b. cond b (suc (length run)) (last_change run)) holds in
    let long : length (run ++ x ∷ []) ≡ length run + 1 = length-append run (x ∷ []) in
    drop_of_length-le (run ++ x ∷ []) (omega arith)

after-same : (run : List Made) (x : Made) → changes x ≡ false → after_change (run ++ x ∷ []) ≡ after_change run ++ x ∷ []
after-same run x fails =
    let last : last_change (run ++ x ∷ []) ≡ last_change run = change-more run x ∙ ap (λ b. cond b (suc (length run)) (last_change run)) fails in
    ap (λ n. drop n (run ++ x ∷ [])) last ∙ drop-append-le (last_change run) run (x ∷ []) (change-within run)

-- ---- the last instructions

executed-more : (p : ℕ) (run : List Made) (x : Made) → executed p (run ++ x ∷ []) ≡ executed p run ++ cond (is_exec_of p x.step) (x.effect.fetch.at ∷ []) []
unfolding executed
executed-more p run x =
    ap (map (λ (y : Made). y.effect.fetch.at)) (filter-append (λ (y : Made). is_exec_of p y.step) run (x ∷ []))
    ∙ map-append (λ (y : Made). y.effect.fetch.at) (filter (λ (y : Made). is_exec_of p y.step) run) (filter (λ (y : Made). is_exec_of p y.step) (x ∷ []))
    ∙ ap (λ ats. map (λ (y : Made). y.effect.fetch.at) (filter (λ (y : Made). is_exec_of p y.step) run) ++ ats) (on (is_exec_of p x.step))
  where
    on : (b : Bool) → map (λ (y : Made). y.effect.fetch.at) (cond b (x ∷ []) []) ≡ cond b (x.effect.fetch.at ∷ []) []
    on true = refl
    on false = refl

executed-other : (p : ℕ) (run : List Made) (x : Made) → is_exec_of p x.step ≡ false → executed p (run ++ x ∷ []) ≡ executed p run
executed-other p run x other = executed-more p run x ∙ ap (λ b. executed p run ++ cond b (x.effect.fetch.at ∷ []) []) other ∙ append-nil (executed p run)

executed-own : (p : ℕ) (run : List Made) (x : Made) → is_exec_of p x.step ≡ true → executed p (run ++ x ∷ []) ≡ executed p run ++ x.effect.fetch.at ∷ []
executed-own p run x own = executed-more p run x ∙ ap (λ b. executed p run ++ cond b (x.effect.fetch.at ∷ []) []) own

-- the instructions after a change
pub recent-changed : (run : List Made) (x : Made) (recent : List Recent) → changes x ≡ true → AreEmpty recent → AreRecent (run ++ x ∷ []) recent
unfolding executed
recent-changed run x recent holds none p r at = none p r at ∙ sym (ap (λ xs. last_ones 1000 (executed p xs)) (after-changed run x holds))

-- a step that is no instruction of a processor that is there
pub recent-same : (run : List Made) (x : Made) (recent : List Recent) → changes x ≡ false → AreRecent run recent → ((p : ℕ) → p < length recent → is_exec_of p x.step ≡ false) → AreRecent (run ++ x ∷ []) recent
recent-same run x recent fails kept other p r at =
    kept p r at
    ∙ ap (last_ones 1000) (sym (ap (executed p) (after-same run x fails) ∙ executed-other p (after_change run) x (other p (slice_get_within recent p r at))))

-- an instruction of processor q
pub recent-more : (run : List Made) (x : Made) (recent : List Recent) (q : ℕ) (old new : Recent) → changes x ≡ false → AreRecent run recent → x.step ≡ Exec q → slice_get recent q ≡ Some old
    → new.addresses.items ≡ last_ones 1000 (old.addresses.items ++ x.effect.fetch.at ∷ []) → AreRecent (run ++ x ∷ []) (slice_set recent q new)
recent-more run x recent q old new fails kept step there made p r at = on (q == p) refl
  where
    on : (b : Bool) → (q == p) ≡ b → r.addresses.items ≡ last_ones 1000 (executed p (after_change (run ++ x ∷ [])))
    on true e =
        let same : q ≡ p = eq_is q p e in
        let is : new ≡ r = some_same new r (sym (set-here recent q new (slice_get_within recent q old there)) ∙ ap (slice_get (slice_set recent q new)) same ∙ at) in
        let own : is_exec_of q x.step ≡ true = ap (is_exec_of q) step ∙ eq_same q in
        ap (λ (y : Recent). y.addresses.items) (sym is) ∙ made
        ∙ ap (λ ats. last_ones 1000 (ats ++ x.effect.fetch.at ∷ [])) (kept q old there)
        ∙ last_ones-more 1000 (executed q (after_change run)) x.effect.fetch.at
        ∙ ap (last_ones 1000) (sym (ap (executed q) (after-same run x fails) ∙ executed-own q (after_change run) x own))
        ∙ ap (λ n. last_ones 1000 (executed n (after_change (run ++ x ∷ [])))) same
    on false e =
        let other : is_exec_of p x.step ≡ false = ap (is_exec_of p) step ∙ e in
        kept p r (sym (set-other recent q p new (eq_not q p e)) ∙ at)
        ∙ ap (last_ones 1000) (sym (ap (executed p) (after-same run x fails) ∙ executed-other p (after_change run) x other))

-- an instruction of a processor that isn't there, and a step that is no instruction
pub exec-past : (x : Made) (many q : ℕ) → x.step ≡ Exec q → many ≤ q → (p : ℕ) → p < many → is_exec_of p x.step ≡ false
exec-past x many q step past p low = ap (is_exec_of p) step ∙ eq_off q p (λ e. absurd (omega (arith, past, low, e)))

pub not-exec : (s : Step) → ((q : ℕ) → s ≡ Exec q → ⊥) → (p : ℕ) → is_exec_of p s ≡ false
not-exec (Exec q) none p = absurd (none q refl)
not-exec (Piece q c e k) none p = refl
not-exec (Elem q c) none p = refl
not-exec (Retire q c) none p = refl
not-exec (Atomic q) none p = refl
not-exec Host none p = refl

-- ---- what the MFCs read

polled-changed : (p : ℕ) (run : List Made) (x : Made) → changes x ≡ true → polled p (run ++ x ∷ []) ≡ None
unfolding polled
polled-changed p run x holds = ap (λ (xs : List Made). option_map (λ (y : Made). y.effect.reads) (last_or None (filter (is_read_by p) xs))) (after-changed run x holds)

polled-more : (p : ℕ) (run : List Made) (x : Made) → changes x ≡ false → polled p (run ++ x ∷ []) ≡ cond (is_read_by p x) (Some x.effect.reads) (polled p run)
unfolding polled
polled-more p run x fails =
    ap (λ (xs : List Made). option_map (λ (y : Made). y.effect.reads) (last_or None (filter (is_read_by p) xs))) (after-same run x fails)
    ∙ ap (option_map (λ (y : Made). y.effect.reads)) (last_of-more (is_read_by p) (after_change run) x)
    ∙ on (is_read_by p x)
  where
    on : (b : Bool) → option_map (λ (y : Made). y.effect.reads) (cond b (Some x) (last_or None (filter (is_read_by p) (after_change run))))
        ≡ cond b (Some x.effect.reads) (option_map (λ (y : Made). y.effect.reads) (last_or None (filter (is_read_by p) (after_change run))))
    on true = refl
    on false = refl

pub reads-changed : (run : List Made) (x : Made) (reads : List (Option Span)) → changes x ≡ true → AreNone reads → AreReads (run ++ x ∷ []) reads
reads-changed run x reads holds none p o at = none p o at ∙ sym (polled-changed p run x holds)

pub reads-same : (run : List Made) (x : Made) (reads : List (Option Span)) → changes x ≡ false → AreReads run reads → ((p : ℕ) → p < length reads → is_read_by p x ≡ false) → AreReads (run ++ x ∷ []) reads
reads-same run x reads fails kept other p o at =
    kept p o at ∙ sym (polled-more p run x fails ∙ ap (λ b. cond b (Some x.effect.reads) (polled p run)) (other p (slice_get_within reads p o at)))

-- a step that reads no bytes of main memory
pub not-shared : (x : Made) (p : ℕ) → is_shared x.effect.reads ≡ false → is_read_by p x ≡ false
not-shared x p fails = ap (λ b. is_copy_of p x.step && b) fails ∙ on (is_copy_of p x.step)
  where
    on : (b : Bool) → (b && false) ≡ false
    on true = refl
    on false = refl

-- whose copy a step is
pub copy-of : (p : ℕ) (s : Step) → is_copy_of p s ≡ option_map_or (λ q. q == p) (copier s) false
copy-of p (Piece q c e k) = refl
copy-of p (Atomic q) = refl
copy-of p (Exec q) = refl
copy-of p (Elem q c) = refl
copy-of p (Retire q c) = refl
copy-of p Host = refl

-- a step that copies nothing, and one of a processor p isn't
pub no-copy : (x : Made) (p : ℕ) → copier x.step ≡ None → is_read_by p x ≡ false
no-copy x p none = ap (λ b. b && is_shared x.effect.reads) (copy-of p x.step ∙ ap (λ c. option_map_or (λ n. n == p) c false) none)

pub past-copy : (x : Made) (p q : ℕ) → copier x.step ≡ Some q → p < q → is_read_by p x ≡ false
past-copy x p q step low = ap (λ b. b && is_shared x.effect.reads) (copy-of p x.step ∙ ap (λ c. option_map_or (λ n. n == p) c false) step ∙ eq_off q p (λ e. absurd (omega (arith, low, e))))

pub reads-more : (run : List Made) (x : Made) (reads : List (Option Span)) (q : ℕ) → changes x ≡ false → AreReads run reads → q < length reads → copier x.step ≡ Some q → is_shared x.effect.reads ≡ true
    → AreReads (run ++ x ∷ []) (slice_set reads q (Some x.effect.reads))
reads-more run x reads q fails kept low step shared p o at = on (q == p) refl
  where
    read-by : is_read_by p x ≡ (q == p)
    read-by = ap (λ b. b && is_shared x.effect.reads) (copy-of p x.step ∙ ap (λ c. option_map_or (λ n. n == p) c false) step) ∙ ap (λ b. (q == p) && b) shared ∙ all (q == p)
      where
        all : (b : Bool) → (b && true) ≡ b
        all true = refl
        all false = refl

    on : (b : Bool) → (q == p) ≡ b → o ≡ polled p (run ++ x ∷ [])
    on true e =
        let same : q ≡ p = eq_is q p e in
        let is : Some x.effect.reads ≡ o = some_same (Some x.effect.reads) o (sym (set-here reads q (Some x.effect.reads) low) ∙ ap (slice_get (slice_set reads q (Some x.effect.reads))) same ∙ at) in
        sym is ∙ sym (polled-more p run x fails ∙ ap (λ b. cond b (Some x.effect.reads) (polled p run)) (read-by ∙ e))
    on false e =
        kept p o (sym (set-other reads q p (Some x.effect.reads) (eq_not q p e)) ∙ at)
        ∙ sym (polled-more p run x fails ∙ ap (λ b. cond b (Some x.effect.reads) (polled p run)) (read-by ∙ e))

-- ---- the writers

last_write-more : (read : Span) (writes : List Write) (w : Write) → last_write read (writes ++ w ∷ []) ≡ cond (overlap w.span read) (Some w.place) (last_write read writes)
last_write-more read writes w = ap (option_map (λ (v : Write). v.place)) (last_of-more (λ (v : Write). overlap v.span read) writes w) ∙ on (overlap w.span read)
  where
    on : (b : Bool) → option_map (λ (v : Write). v.place) (cond b (Some w) (last_or None (filter (λ (v : Write). overlap v.span read) writes)))
        ≡ cond b (Some w.place) (option_map (λ (v : Write). v.place) (last_or None (filter (λ (v : Write). overlap v.span read) writes)))
    on true = refl
    on false = refl

pub writes-same : (run : List Made) (x : Made) (writes : List Write) → AreWrites run writes → is_shared x.effect.writes ≡ false → AreWrites (run ++ x ∷ []) writes
writes-same run x writes kept fails read =
    kept read ∙ sym (last_place-more (writes_in read) run x ∙ ap (λ b. cond (b && overlap x.effect.writes read) (Some (length run)) (last_place (writes_in read) run)) fails)

pub writes-more : (run : List Made) (x : Made) (writes : List Write) (w : Write) → AreWrites run writes → is_shared x.effect.writes ≡ true → w.place ≡ length run → w.span ≡ x.effect.writes
    → AreWrites (run ++ x ∷ []) (writes ++ w ∷ [])
writes-more run x writes w kept holds place span read =
    last_write-more read writes w
    ∙ ap (λ s. cond (overlap s read) (Some w.place) (last_write read writes)) span
    ∙ ap (λ n. cond (overlap x.effect.writes read) (Some n) (last_write read writes)) place
    ∙ ap (cond (overlap x.effect.writes read) (Some (length run))) (kept read)
    ∙ sym (last_place-more (writes_in read) run x ∙ ap (λ b. cond (b && overlap x.effect.writes read) (Some (length run)) (last_place (writes_in read) run)) holds)

-- those from here on have no byte of the span
pub last_write-first : (read : Span) (writes : List Write) (w : Write) → overlap w.span read ≡ false → last_write read (writes ++ w ∷ []) ≡ last_write read writes
last_write-first read writes w fails = last_write-more read writes w ∙ ap (λ b. cond b (Some w.place) (last_write read writes)) fails

pub last_write-found : (read : Span) (writes : List Write) (w : Write) → overlap w.span read ≡ true → last_write read (writes ++ w ∷ []) ≡ Some w.place
last_write-found read writes w holds = last_write-more read writes w ∙ ap (λ b. cond b (Some w.place) (last_write read writes)) holds

-- ---- the progress of a processor

pub spe-is : (run : List Made) (p : ℕ) (range : Option AddressRange) (poll : Option Poll) → range ≡ range_of (last_ones 1000 (executed p (after_change run))) → poll ≡ option_map (poll_of run) (polled p run)
    → (record { executed = range; polled = poll }) ≡ spe_progress run p
unfolding spe_progress
spe-is run p range poll is_range is_poll = rw (is_range, is_poll) refl

-- ---- all that is kept

-- what a slice's new elements have the vector has to which they are written back
pub whole-so : {X : Type 0} (R : List X → Type 0) (n : ℕ) (new old : List X) → n ≡ length old → length new ≡ length old → R new → R (take n (new ++ drop (length new) old))
whole-so R n new old size long so = subst R (sym (whole n new old (size ∙ sym long))) so
