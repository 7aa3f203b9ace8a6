-- What is asked at a place of a run, and how far a command has come there.
use Rattle.std.proofs.Common.{◌≡◌, ℕ, zero, suc, ◌≤◌, ◌==◌, Bool, true, false, List, [], ◌∷◌, length, take, refl, sym, ap, ◌∙◌, arith, ◌⊎◌, inl, inr, Option, Some, None}
use Rattle.std.specs.Prelude.{IsSome, slice_get, is_some}
use Rattle.std.specs.Option.{option_map}
use Rattle.std.proofs.lemmas.Bool.{eqb-true, eq-eqb, both_ways}
use Rattle.cell_base.specs.declared.steps.Step.{Step}
use Rattle.cell_base.specs.declared.steps.Step.TheVariants.{Exec, Piece, Elem, Retire, Atomic, Host}
use Rattle.cell_base.specs.declared.steps.ChannelOp.{ChannelOp}
use Rattle.cell_machine.specs.Spe.{Spe}
use Rattle.cell_machine.specs.State.{State}
use Rattle.cell_machine.specs.Exec.{asks}
use Rattle.cell_machine.specs.Run.{Ran, IsRun, state_of}
use Rattle.cell_machine.specs.Traces.{trace_of}
use Rattle.cell_machine.proofs.Same.{some_same}
use Rattle.cell_machine.proofs.StepBytes.{of_then}
use Rattle.mfc_command.specs.declared.command.Command.{Command}
use Rattle.race_order.specs.Queue.{Has}
use Rattle.race_order.specs.Status.{status}
use Rattle.race_order.specs.Stages.{progress_of}
use Rattle.race_order.specs.Told.{trace_in}
use Rattle.race_order.specs.declared.progress.Progress.{Progress as Come}
use Rattle.race_order.proofs.Runs.{keeps-status}
use Rattle.race_check.proofs.Prefixes.{run-told, trace_in-first}
use Rattle.reorder_laws.specs.Places.{until, spe_at, Asks}
use Rattle.reorder_laws.specs.Settled.{HasNoFault}
use Rattle.run_permute.specs.Online.{Does}

short : {X : Type 0} (n : ℕ) (xs : List X) → length (take n xs) ≤ length xs
short zero xs = omega arith
short (suc n) [] = omega arith
short (suc n) (x ∷ xs) = let l = short n xs in omega arith

-- the trace of the first steps
told-until : (m : Ran) (k : ℕ) → IsRun m.setup m.steps → IsSome (state_of (until m k)) → trace_of (until m k) ≡ Some (take k (trace_in m))
told-until m k run some =
    let few : length m.steps ≤ m.setup.budget = run.1 in
    let less = short k m.steps in
    run-told (until m k) (some, omega arith) ∙ ap Some (trace_in-first m k (run-told m run))

-- ---- operations

module _ (m : Ran) where
  -- what is asked at a place
  pub asked-at : (x p : ℕ) → ((op : ChannelOp) × Asks m x p op) ⊎ ((op : ChannelOp) → Asks m x p op → ⊥)
  asked-at x p = on (slice_get m.steps x) refl (spe_at m x p) refl
    where
      steps : (o : Option Step) → slice_get m.steps x ≡ o → (s : Step) → o ≡ Some s → slice_get m.steps x ≡ Some s
      steps o e s q = e ∙ q

      third : (P : Spe) → spe_at m x p ≡ Some P → slice_get m.steps x ≡ Some (Exec p) → (o : Option ChannelOp) → asks P ≡ o → ((op : ChannelOp) × Asks m x p op) ⊎ ((op : ChannelOp) → Asks m x p op → ⊥)
      third P at step None e = inr (λ op a. none op (sym e ∙ ap asks (some_same P a.spe (sym at ∙ a.at)) ∙ a.asks_is))
        where
          none : (op : ChannelOp) → None ≡ Some op → ⊥
          none op q = cc
      third P at step (Some op) e = inl (op, record { step = step; spe = P; at = at; asks_is = e })

      second : (o : Option Spe) → spe_at m x p ≡ o → slice_get m.steps x ≡ Some (Exec p) → ((op : ChannelOp) × Asks m x p op) ⊎ ((op : ChannelOp) → Asks m x p op → ⊥)
      second None e step = inr (λ op a. none a.spe (sym e ∙ a.at))
        where
          none : (P : Spe) → None ≡ Some P → ⊥
          none P q = cc
      second (Some P) e step = third P e step (asks P) refl

      other : (s : Step) → slice_get m.steps x ≡ Some s → (s ≡ Exec p → ⊥) → ((op : ChannelOp) × Asks m x p op) ⊎ ((op : ChannelOp) → Asks m x p op → ⊥)
      other s e no_exec = inr (λ op a. no_exec (some_same s (Exec p) (sym e ∙ a.step)))

      first : (s : Step) → slice_get m.steps x ≡ Some s → ((op : ChannelOp) × Asks m x p op) ⊎ ((op : ChannelOp) → Asks m x p op → ⊥)
      first (Exec q) e = by (q == p) refl
        where
          by : (b : Bool) → (q == p) ≡ b → ((op : ChannelOp) × Asks m x p op) ⊎ ((op : ChannelOp) → Asks m x p op → ⊥)
          by true same = second (spe_at m x p) refl (e ∙ ap (λ y. Some (Exec y)) (eqb-true q p same))
          by false differs = other (Exec q) e (λ h. both_ways _ differs (eq-eqb q p (num h)))
            where
              num : Exec q ≡ Exec p → q ≡ p
              num h = cc
      first (Piece q c d k) e = other (Piece q c d k) e (λ h. cc)
      first (Elem q c) e = other (Elem q c) e (λ h. cc)
      first (Retire q c) e = other (Retire q c) e (λ h. cc)
      first (Atomic q) e = other (Atomic q) e (λ h. cc)
      first Host e = other Host e (λ h. cc)

      on : (o : Option Step) → slice_get m.steps x ≡ o → (u : Option Spe) → spe_at m x p ≡ u → ((op : ChannelOp) × Asks m x p op) ⊎ ((op : ChannelOp) → Asks m x p op → ⊥)
      on None e u f = inr (λ op a. none (Exec p) (sym e ∙ a.step))
        where
          none : (s : Step) → None ≡ Some s → ⊥
          none s q = cc
      on (Some s) e u f = first s e

  -- whether an operation of a kind is
  pub does-or : (test : ChannelOp → Bool) (p x : ℕ) → Does test m p x ⊎ (Does test m p x → ⊥)
  does-or test p x = on (asked-at x p)
    where
      same : (a b : ChannelOp) → Asks m x p a → Asks m x p b → a ≡ b
      same a b u v = some_same a b (sym u.asks_is ∙ ap asks (some_same u.spe v.spe (sym u.at ∙ v.at)) ∙ v.asks_is)

      by : (op : ChannelOp) → Asks m x p op → (b : Bool) → test op ≡ b → Does test m p x ⊎ (Does test m p x → ⊥)
      by op a true e = inl (record { op = op; asked = a; passes = e })
      by op a false e = inr (λ d. both_ways _ e (ap test (same op d.op a d.asked) ∙ d.passes))

      on : ((op : ChannelOp) × Asks m x p op) ⊎ ((op : ChannelOp) → Asks m x p op → ⊥) → Does test m p x ⊎ (Does test m p x → ⊥)
      on (inl r) = by r.0 r.1 (test r.0) refl
      on (inr absent) = inr (λ d. absent d.op d.asked)

-- ---- commands

module _ (m : Ran) (run : IsRun m.setup m.steps) (sound : HasNoFault m) where
  -- the state and the trace before place k say the same of each command
  come-at : (p k : ℕ) (P : Spe) → spe_at m k p ≡ Some P → (c : ℕ) → status p c (take k (trace_in m)) ≡ option_map (progress_of P.moves c) (slice_get P.moves.issued c)
  come-at p k P at c =
      of_then (λ (M : State). slice_get M.spes p) (state_of (until m k)) P (λ P. status p c (take k (trace_in m)) ≡ option_map (progress_of P.moves c) (slice_get P.moves.issued c)) at (λ M state there.
      let told = told-until m k run (ap is_some state) in
      (keeps-status (until m k) (take k (trace_in m)) M p P told state there).come (sound k p P at) c)

  pub has-moves : (p k c : ℕ) (P : Spe) (t : Come) → spe_at m k p ≡ Some P → Has (take k (trace_in m)) p c t → (d : Command) × (slice_get P.moves.issued c ≡ Some d) × (t ≡ progress_of P.moves c d)
  has-moves p k c P t at h = on (slice_get P.moves.issued c) refl (sym (come-at p k P at c) ∙ h.is)
    where
      on : (o : Option Command) → slice_get P.moves.issued c ≡ o → option_map (progress_of P.moves c) o ≡ Some t → (d : Command) × (slice_get P.moves.issued c ≡ Some d) × (t ≡ progress_of P.moves c d)
      on None e q = absurd (cc)
      on (Some d) e q = (d, e, some_same t (progress_of P.moves c d) (sym q))

  pub moves-has : (p k c : ℕ) (P : Spe) (d : Command) → spe_at m k p ≡ Some P → slice_get P.moves.issued c ≡ Some d → Has (take k (trace_in m)) p c (progress_of P.moves c d)
  moves-has p k c P d at e = record { is = come-at p k P at c ∙ ap (option_map (progress_of P.moves c)) e }
