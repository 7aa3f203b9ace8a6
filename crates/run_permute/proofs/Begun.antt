-- The watches of a run of no step, and of all its steps.
use Rattle.std.proofs.Common.{◌≡◌, ℕ, zero, suc, ◌+◌, ◌<◌, ◌≤◌, Bool, true, false, List, [], ◌∷◌, length, take, sym, ap, ◌∙◌, subst, arith, ◌⊎◌, inl, inr, Some, None}
use Rattle.std.specs.Prelude.{◌↔◌, slice_get}
use Rattle.std.proofs.lemmas.Bool.{cases_lt}
use Rattle.cell_machine.specs.Run.{Ran, IsRun}
use Rattle.race_order.specs.Told.{trace_in}
use Rattle.race_order.specs.Queue.{Has}
use Rattle.race_order.specs.declared.progress.Progress.{Progress as Come}
use Rattle.run_permute.specs.declared.watch.Watch.{Watch}
use Rattle.run_permute.specs.SettledLists.{Each}
use Rattle.run_permute.specs.Online.{Pends, IsSettledAt}
use Rattle.run_permute.specs.Watches.{AreKept, Watches, IsFresh, AreWatches}
use Rattle.run_permute.proofs.Here.{settled-beyond}

none-pends : (A B : ℕ → Type 0) → Pends A B 0 → ⊥
none-pends A B p = let low : p.place < 0 = p.below in omega arith

off : (A B : ℕ → Type 0) (b : Bool) → b ≡ false → (b ≡ true) ↔ Pends A B 0
off A B b e = (λ h. absurd (clash (sym e ∙ h)), λ p. absurd (none-pends A B p))
  where
    clash : false ≡ true → ⊥
    clash q = cc

no-kept : (m : Ran) (p : ℕ) → AreKept m p 0 0 []
no-kept m p = record { each = tt; all = λ c s h. absurd (none c s h); apart = tt }
  where
    none : (c : ℕ) (s : Come) → Has (take 0 (trace_in m)) p c s → ⊥
    none c s h = let q : None ≡ Some s = h.is in cc

fresh-watches : (m : Ran) (p : ℕ) (w : Watch) → IsFresh w → Watches m p 0 0 w
fresh-watches m p w f = record {
  requested = off _ _ w.requested f.0;
  atomic = off _ _ w.atomic f.1;
  stalled = off _ _ w.stalled f.2;
  tag = λ h. absurd (clash (sym f.2 ∙ h));
  commands = subst (AreKept m p 0 0) (sym f.3) (no-kept m p);
}
  where
    clash : false ≡ true → ⊥
    clash q = cc

each-get : {X : Type 0} (P : X → Type 0) (xs : List X) (k : ℕ) (x : X) → Each P xs → slice_get xs k ≡ Some x → P x
each-get P [] k x h e = absurd (cc)
each-get P (y ∷ ys) zero x h e = let q : y ≡ x = cc in subst P q h.0
each-get P (y ∷ ys) (suc k) x h e = each-get P ys k x h.1 e

pub begun-watches : (m : Ran) (ws : List Watch) → length ws ≡ length m.setup.entries → Each IsFresh ws → AreWatches m 0 ws
begun-watches m ws many fresh = record { many = many; each = λ p w e. fresh-watches m p w (each-get IsFresh ws p w fresh e) }

-- what holds below j and at it holds below j + 1
pub settled-more : (m : Ran) (j : ℕ) → ((p k : ℕ) → k < j → IsSettledAt m p k) → ((p : ℕ) → IsSettledAt m p j) → (p k : ℕ) → k < j + 1 → IsSettledAt m p k
settled-more m j before here p k low = on (cases_lt k j)
  where
    on : (k < j) ⊎ (j ≤ k) → IsSettledAt m p k
    on (inl less) = before p k less
    on (inr more) = let e : j ≡ k = omega arith in subst (IsSettledAt m p) e (here p)

pub settled-all : (m : Ran) → IsRun m.setup m.steps → (j : ℕ) → length m.steps ≤ j → ((p k : ℕ) → k < j → IsSettledAt m p k) → (p k : ℕ) → IsSettledAt m p k
settled-all m run j all before p k = on (cases_lt k j)
  where
    on : (k < j) ⊎ (j ≤ k) → IsSettledAt m p k
    on (inl less) = before p k less
    on (inr more) = settled-beyond m run p k (omega arith)
