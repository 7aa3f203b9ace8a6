-- A settling, as its run goes on.
use Rattle.std.proofs.Common.{◌≡◌, ℕ, ◌+◌, ◌<◌, ◌≤◌, Bool, true, false, List, [], ◌∷◌, ◌++◌, length, refl, sym, ap, ◌∙◌, subst, arith, Some, None}
use Rattle.std.specs.Prelude.{◌↔◌, IsTrue, slice_get, IsSome}
use Rattle.std.proofs.lemmas.Bool.{cases_lt}
use Rattle.cell_base.specs.declared.steps.Step.{Step}
use Rattle.cell_machine.specs.Opening.{Opening}
use Rattle.cell_machine.specs.Run.{Ran, IsRun, spe_of}
use Rattle.cell_machine.specs.Spe.{Spe, is_faulted}
use Rattle.run_walk.specs.declared.walk.Walk.{Walk}
use Rattle.run_walk.specs.Walks.{IsLast, walked}
use Rattle.race_check.proofs.Prefixes.{first_of, first-all, run-told}
use Rattle.reorder_laws.specs.Places.{until}
use Rattle.reorder_laws.specs.Settled.{IsSettled}
use Rattle.run_permute.specs.declared.settling.Settling.{Settling}
use Rattle.run_permute.specs.declared.watch.Watch.{Watch}
use Rattle.run_permute.specs.SettledLists.{Each}
use Rattle.run_permute.specs.Online.{IsSettledAt}
use Rattle.run_permute.specs.Settlings.{Follows, IsSettledSoFar}
use Rattle.run_permute.specs.Walks.{IsAt}
use Rattle.run_permute.specs.Watches.{AreWatches, IsFresh}
use Rattle.run_permute.proofs.Alike.{Alike, alike-first, flipped, settled-on, watches-on}
use Rattle.run_permute.proofs.Begun.{begun-watches, settled-all, settled-more}
use Rattle.run_permute.proofs.Here.{queued-run}
use Rattle.run_permute.proofs.Offline.{online-settled}
use Rattle.run_permute.proofs.Onlines.{settled-online}
use Rattle.run_permute.proofs.Walking.{until-long}

-- before the first step
pub begun-follows : (setup : Opening) (s : Settling) → s.settled ≡ true → length s.watches.items ≡ length setup.entries → Each IsFresh s.watches.items → Follows (record { setup = setup; steps = [] }) s
begun-follows setup s is many fresh =
    let m : Ran = record { setup = setup; steps = [] } in
    record { settled = (λ t p k low. absurd (omega arith), λ h. is); watches = λ t. begun-watches m s.watches.items many fresh }

no-true : (b : Bool) → b ≡ false → IsTrue b → ⊥
no-true false e t = cc
no-true true e t = cc

-- what isn't settled so far stays so
pub unsettled-follows : (m n : Ran) (s : Settling) → IsRun n.setup n.steps → m ≡ first_of n (length m.steps) → length m.steps ≤ length n.steps → Follows m s → s.settled ≡ false → Follows n s
unsettled-follows m n s run first within f isnt =
    let a = alike-first m n (length m.steps) (run-told n run) first in
    record {
      settled = (λ t. absurd (no-true s.settled isnt t), λ h. f.settled.1 (λ p k low. settled-on n m (length m.steps) (flipped m n (length m.steps) a) p k low (h p k (omega arith))));
      watches = λ t. absurd (no-true s.settled isnt t);
    }

-- where that is told of the first j steps of a run
pub unsettled-told : (w m : Ran) (j : ℕ) (s : Settling) (told : Bool) → IsRun m.setup m.steps → j ≤ length m.steps → w ≡ first_of m j → Follows w s → IsTrue told ↔ IsSettledSoFar w → told ≡ false → Follows m s
unsettled-told w m j s told run within made f says isnt =
    let long : length w.steps ≡ j = ap (λ (r : Ran). length r.steps) made ∙ until-long m j within in
    unsettled-follows w m s run (made ∙ ap (first_of m) (sym long)) (omega arith) f (off s.settled (λ t. no-true told isnt (says.1 (f.settled.0 t))))
  where
    off : (b : Bool) → (IsTrue b → ⊥) → b ≡ false
    off false n = refl
    off true n = absurd (n refl)

-- ---- one step more

-- the walk has made the step at this place, which is the last one
pub record Stepped (m : Ran) (place : ℕ) (w : Walk) : Type 0 where
  pub long : length m.steps ≡ place + 1
  pub counted : length (until m place).steps ≡ place
  pub at : IsAt w m (place + 1)

pub stepped : (w : Walk) (place : ℕ) → IsRun (walked w).setup (walked w).steps → IsLast w place → Stepped (walked w) place w
stepped w place run last =
    let m = walked w in
    let behind : place + 1 ≡ length m.steps = last.last in
    record {
      long = sym behind;
      counted = until-long m place (omega arith);
      at = record { run = run; stands = last.stands; made = sym (first-all m (place + 1) (omega arith)); within = omega arith };
    }

-- what the watches have of the run before it they have of it
pub earlier : (m : Ran) (place : ℕ) (s : Settling) → IsRun m.setup m.steps → length (until m place).steps ≡ place → Follows (until m place) s → IsTrue s.settled → AreWatches m place s.watches.items × ((p k : ℕ) → k < place → IsSettledAt m p k)
earlier m place s run counted f t =
    let a = alike-first (until m place) m place (run-told m run) refl in (
      watches-on (until m place) m place a s.watches.items (subst (λ n. AreWatches (until m place) n s.watches.items) counted (f.watches t)),
      λ p k low. settled-on (until m place) m place a p k low (f.settled.0 t p k (omega arith)),
    )

pub unsettled-more : (m : Ran) (place : ℕ) (s : Settling) → IsRun m.setup m.steps → length m.steps ≡ place + 1 → length (until m place).steps ≡ place → Follows (until m place) s → s.settled ≡ false → Follows m s
unsettled-more m place s run long counted f isnt = unsettled-follows (until m place) m s run (ap (first_of m) (sym counted)) (omega arith) f isnt

pub stepped-follows : (after : Ran) (place : ℕ) (b : Bool) (s : Settling) → length after.steps ≡ place + 1 → ((p k : ℕ) → k < place → IsSettledAt after p k) → s.settled ≡ b
    → IsTrue b ↔ ((p : ℕ) → IsSettledAt after p place) → (IsTrue b → AreWatches after (place + 1) s.watches.items) → Follows after s
stepped-follows after place b s long before is here watches = record {
  settled = (
    λ t p k low. settled-more after place before (here.0 (sym is ∙ t)) p k (omega arith),
    λ h. is ∙ here.1 (λ p. h p place (omega arith)),
  );
  watches = λ t. subst (λ n. AreWatches after n s.watches.items) (sym long) (watches (sym is ∙ t));
}

-- ---- all steps

abbrev HasNone : Ran → Type 0
HasNone m = (p : ℕ) (P : Spe) → spe_of m p ≡ Some P → is_faulted P.status ≡ false

module _ (m : Ran) (s : Settling) (run : IsRun m.setup m.steps) (f : Follows m s) where
  pub settled-then : (b : Bool) → s.settled ≡ true → IsTrue b ↔ HasNone m → IsTrue b ↔ IsSettled m
  settled-then b is faults = (
    λ t. online-settled m run (queued-run m run) record { each = settled-all m run (length m.steps) (omega arith) (f.settled.0 is); faults = faults.0 t },
    λ h. faults.1 (settled-online m run (queued-run m run) h).faults,
  )

  pub settled-else : s.settled ≡ false → IsTrue s.settled ↔ IsSettled m
  settled-else isnt = (λ t. absurd (no-true s.settled isnt t), λ h. f.settled.1 (λ p k low. (settled-online m run (queued-run m run) h).each p k))
