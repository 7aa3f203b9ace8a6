-- All watches, as a step goes on.
use Rattle.std.proofs.Common.{◌≡◌, ◌≢◌, ℕ, zero, suc, ◌+◌, ◌<◌, ◌==◌, Bool, true, false, List, [], ◌∷◌, length, get_or, refl, sym, ap, ◌∙◌, subst, arith, Some, None}
use Rattle.std.specs.Prelude.{◌↔◌, IsTrue, IfOk, Result, Ok, Err, slice_get, slice_set}
use Rattle.std.proofs.lemmas.Option.{slice_get-get_or}
use Rattle.std.proofs.lemmas.Bool.{eqb-true, eq-eqb, both_ways}
use Rattle.cell_base.specs.declared.steps.Step.{Step}
use Rattle.cell_base.specs.declared.steps.Step.TheVariants.{Exec, Piece, Elem, Retire, Atomic, Host}
use Rattle.cell_machine.specs.declared.effect.Note.{Note}
use Rattle.cell_machine.specs.declared.effect.Note.TheVariants.{Nothing, Issue, AtomicIssue, TagRead, StallRead, Ack, AtomicRead, Put, Take, Ended, Awaited, Element, Signal}
use Rattle.cell_machine.specs.Run.{Ran, IsRun}
use Rattle.race_order.specs.Trace.{Notes}
use Rattle.race_order.specs.Orderly.{IsWithin}
use Rattle.race_order.specs.Told.{trace_in}
use Rattle.race_order.proofs.Runs.{is-orderly}
use Rattle.race_check.proofs.Prefixes.{run-told}
use Rattle.run_permute.specs.declared.made.Made.{Made}
use Rattle.run_permute.specs.declared.watch.Watch.{Watch}
use Rattle.run_permute.specs.Online.{IsSettledAt}
use Rattle.run_permute.specs.Walks.{IsMade}
use Rattle.run_permute.specs.Watches.{Watches, AreWatches, may_act}
use Rattle.run_permute.proofs.Here.{queued-run, host-noted, noted-host, settled-other, idled}
use Rattle.run_permute.proofs.Takes.{IsIdle}

-- the step's processor is one of the machine's
pub step-within : (m : Ran) (j : ℕ) (step : Step) (made : Made) → IsRun m.setup m.steps → IsMade m j step made → IsWithin (length m.setup.entries) step
step-within m j step made run is = ((is-orderly m (trace_in m) (run-told m run)).0 j (record { step = step; effect = made.effect }) is.event).within

-- the step is none of processor q
abbrev pub IsElse : ℕ → Step → Type 0
IsElse q step = IsIdle q step × (step ≡ Exec q → ⊥)

exec-else : (p q : ℕ) → q ≢ p → IsElse q (Exec p)
exec-else p q h = (λ e. h (sym e), λ e. h (sym (num e)))
  where
    num : Exec p ≡ Exec q → p ≡ q
    num e = cc

set-same : (ws : List Watch) (p : ℕ) (v w : Watch) → slice_get (slice_set ws p v) p ≡ Some w → v ≡ w
set-same [] p v w e = absurd (none e)
  where
    none : None ≡ Some w → ⊥
    none q = cc
set-same (x ∷ xs) zero v w e = cc
set-same (x ∷ xs) (suc p) v w e = set-same xs p v w e

set-other : (ws : List Watch) (p q : ℕ) (v w : Watch) → q ≢ p → slice_get (slice_set ws p v) q ≡ Some w → slice_get ws q ≡ Some w
set-other [] p q v w h e = e
set-other (x ∷ xs) zero zero v w h e = absurd (h refl)
set-other (x ∷ xs) zero (suc q) v w h e = e
set-other (x ∷ xs) (suc p) zero v w h e = e
set-other (x ∷ xs) (suc p) (suc q) v w h e = set-other xs p q v w (λ s. h (ap suc s)) e

set-long : (ws : List Watch) (p : ℕ) (v : Watch) → length (slice_set ws p v) ≡ length ws
set-long [] p v = refl
set-long (x ∷ xs) zero v = refl
set-long (x ∷ xs) (suc p) v = ap suc (set-long xs p v)

module _ (m : Ran) (j : ℕ) (step : Step) (made : Made) (run : IsRun m.setup m.steps) (at : slice_get m.steps j ≡ Some step) (is : IsMade m j step made) where
  -- none of any processor
  pub all-idle : ((q : ℕ) → IsElse q step) → (ws : List Watch) → AreWatches m j ws → AreWatches m (j + 1) ws
  all-idle other ws w = record { many = w.many; each = λ q v e. idled m j step made at is q (other q).1 (queued-run m run) (other q).0 v (w.each q v e) }

  -- the host tells nothing at a step that isn't its own
  quiet : (step ≡ Host → ⊥) → (q register : ℕ) → Notes (trace_in m) j Host (Signal q register) → ⊥
  quiet no_host q register n = no_host (host-noted m j step made at is q register n).0

  pub all-settled : ((q : ℕ) → step ≡ Exec q → ⊥) → (step ≡ Host → ⊥) → IsTrue true ↔ ((q : ℕ) → IsSettledAt m q j)
  all-settled other no_host = (λ t q. settled-other m j step made at is q (other q) (quiet no_host), λ s. refl)

  -- an action of the host that tells of no signal
  pub host-settled : step ≡ Host → (b : Bool) → b ≡ may_act made.effect.note → IsTrue b ↔ ((q : ℕ) → IsSettledAt m q j)
  host-settled own b same = (
    λ t q. settled-other m j step made at is q (λ e. no-exec q (sym own ∙ e)) (λ p register n. acted b same t p register (host-noted m j step made at is p register n).1),
    λ s. subst IsTrue (sym same) (on made.effect.note refl (s 0)),
  )
    where
      no-exec : (q : ℕ) → Host ≡ Exec q → ⊥
      no-exec q e = cc

      none : (b : Bool) → IsTrue b → b ≡ false → ⊥
      none true t e = cc
      none false t e = cc

      acted : (b : Bool) → b ≡ may_act made.effect.note → IsTrue b → (p register : ℕ) → made.effect.note ≡ Signal p register → ⊥
      acted b same t p register note = none b t (same ∙ ap may_act note)

      on : (note : Note) → made.effect.note ≡ note → IsSettledAt m 0 j → IsTrue (may_act note)
      on (Signal p register) e s = absurd (s.host p register (noted-host m j step made at is p register own e))
      on Nothing e s = refl
      on (Issue a b) e s = refl
      on AtomicIssue e s = refl
      on (TagRead a b) e s = refl
      on (StallRead a) e s = refl
      on (Ack a) e s = refl
      on AtomicRead e s = refl
      on (Put a b) e s = refl
      on (Take a b) e s = refl
      on Ended e s = refl
      on (Awaited a) e s = refl
      on (Element a b c) e s = refl

  -- one of processor p alone
  module _ (p : ℕ) (other : (q : ℕ) → q ≢ p → IsElse q step) (no_host : step ≡ Host → ⊥) where
    pub one-taken : (ws : List Watch) (v : Watch) → AreWatches m j ws → Watches m p (j + 1) (j + 1) v → AreWatches m (j + 1) (slice_set ws p v)
    one-taken ws v w own = record { many = set-long ws p v ∙ w.many; each = λ q u e. on q u e (q == p) refl }
      where
        on : (q : ℕ) (u : Watch) → slice_get (slice_set ws p v) q ≡ Some u → (b : Bool) → (q == p) ≡ b → Watches m q (j + 1) (j + 1) u
        on q u e true same =
            let s : q ≡ p = eqb-true q p same in
            let here : v ≡ u = set-same ws p v u (subst (λ x. slice_get (slice_set ws p v) x ≡ Some u) s e) in
            subst (λ x. Watches m x (j + 1) (j + 1) u) (sym s) (subst (Watches m p (j + 1) (j + 1)) here own)
        on q u e false differs =
            let h : q ≢ p = λ s. both_ways _ differs (eq-eqb q p s) in
            idled m j step made at is q (other q h).1 (queued-run m run) (other q h).0 u (w.each q u (set-other ws p q v u h e))

    pub one-settled : (b : Bool) → IsTrue b ↔ IsSettledAt m p j → IsTrue b ↔ ((q : ℕ) → IsSettledAt m q j)
    one-settled b h = (λ t q. on q (q == p) refl (h.0 t), λ s. h.1 (s p))
      where
        on : (q : ℕ) (c : Bool) → (q == p) ≡ c → IsSettledAt m p j → IsSettledAt m q j
        on q true same s = subst (λ x. IsSettledAt m x j) (sym (eqb-true q p same)) s
        on q false differs s = settled-other m j step made at is q (other q (λ e. both_ways _ differs (eq-eqb q p e))).1 (quiet no_host)

-- which step is of whom
pub of-exec : (p q : ℕ) → q ≢ p → IsElse q (Exec p)
of-exec p q h = exec-else p q h

pub of-piece : (p c e k q : ℕ) → q ≢ p → IsElse q (Piece p c e k)
of-piece p c e k q h = (λ s. h (sym s), λ s. clash s)
  where
    clash : Piece p c e k ≡ Exec q → ⊥
    clash s = cc

pub of-elem : (p c q : ℕ) → q ≢ p → IsElse q (Elem p c)
of-elem p c q h = (λ s. h (sym s), λ s. clash s)
  where
    clash : Elem p c ≡ Exec q → ⊥
    clash s = cc

pub of-retire : (p c q : ℕ) → q ≢ p → IsElse q (Retire p c)
of-retire p c q h = (λ s. h (sym s), λ s. clash s)
  where
    clash : Retire p c ≡ Exec q → ⊥
    clash s = cc

pub of-atomic : (p q : ℕ) → IsElse q (Atomic p)
of-atomic p q = (tt, λ s. clash s)
  where
    clash : Atomic p ≡ Exec q → ⊥
    clash s = cc

pub of-host : (q : ℕ) → IsElse q Host
of-host q = (tt, λ s. clash s)
  where
    clash : Host ≡ Exec q → ⊥
    clash s = cc

-- ---- the step of a place

pub record Ready (m : Ran) (j : ℕ) (step : Step) (made : Made) : Type 0 where
  pub run : IsRun m.setup m.steps
  pub at : slice_get m.steps j ≡ Some step
  pub is : IsMade m j step made

pub ready : (m : Ran) (j : ℕ) (s step : Step) (made : Made) → IsRun m.setup m.steps → slice_get m.steps j ≡ Some s → IsMade m j s made → s ≡ step → Ready m j step made
ready m j s step made run at is e = record { run = run; at = at ∙ ap Some e; is = subst (λ t. IsMade m j t made) e is }

pub watch-at : (m : Ran) (j n p : ℕ) (ws : List Watch) (d : Watch) → AreWatches m j ws → n ≡ p → n < length ws → Watches m p j j (get_or ws n d)
watch-at m j n p ws d w e low = w.each p (get_or ws n d) (ap (slice_get ws) (sym e) ∙ slice_get-get_or ws n d low)

pub in-watches : (m : Ran) (j n p : ℕ) (ws : List Watch) → AreWatches m j ws → n ≡ p → p < length m.setup.entries → n < length ws
in-watches m j n p ws w e low = let many = w.many in omega arith

pub ok-all : {T E : Type 0} (r : Result T E) (P Q : T → Type 0) → ((x : T) → P x → Q x) → IfOk r P → IfOk r Q
ok-all (Ok x) P Q f h = f x h
ok-all (Err e) P Q f h = tt
