-- By the notes of a run: between two atomic commands of a processor the status is read.
use Rattle.std.proofs.Common.{◌≡◌, ℕ, ◌<◌, sym, ◌∙◌, ap, arith}
use Rattle.std.specs.Prelude.{slice_get}
use Rattle.std.specs.Option.{option_and_then}
use Rattle.cell_base.specs.declared.steps.Step.TheVariants.{Exec}
use Rattle.cell_machine.specs.declared.effect.Note.TheVariants.{AtomicIssue}
use Rattle.cell_machine.specs.State.{State}
use Rattle.cell_machine.specs.Memory.{lines_of}
use Rattle.cell_machine.specs.Exec.{asks}
use Rattle.cell_machine.specs.EffectLaws.{maker}
use Rattle.cell_machine.specs.Run.{Ran}
use Rattle.cell_machine.proofs.Same.{some_same}
use Rattle.race_order.specs.Trace.{Notes}
use Rattle.race_order.specs.Told.{trace_in}
use Rattle.reorder_laws.proofs.SameDeeds.{read-27_note}
use Rattle.reorder_laws.specs.Recorded.{Recorded, IsRecorded, spe_before}
use Rattle.reorder_laws.specs.Frames.{IsFaultless}
use Rattle.reorder_laws.specs.OrderedLaws.{AtomicsRead}
use Rattle.reorder_laws.proofs.Frames.{happens-at, maker-low, spe-at}
use Rattle.reorder_laws.proofs.CommandFrames.{exec-only}
use Rattle.reorder_laws.specs.Recording.{Records}
use Rattle.reorder_laws.specs.Settled.{ReadsEachAtomic}

module _ (m : Ran) (r : Recorded) (of : Records m r) (rec : IsRecorded r) (sound : IsFaultless r) where
  notes_there : (i p : ℕ) → i < r.size → r.step i ≡ Exec p → (r.effect i).note ≡ AtomicIssue → Notes (trace_in m) i (Exec p) AtomicIssue
  notes_there i p h is note = record { event = record { step = r.step i; effect = r.effect i }; at = of.event i h; is = is; notes = note }

  pub atomics_read : ReadsEachAtomic m → AtomicsRead r
  atomics_read each i j p h low a n b o =
      let x = each i j p h (notes_there i p (omega (arith, h, low)) a n) (notes_there j p low b o) in
      let below = x.below in
      let inside : x.place < r.size = omega (arith, below, low) in
      let asked = x.holds.reads in
      let st : r.step x.place ≡ Exec p = some_same (r.step x.place) (Exec p) (sym (of.step x.place inside) ∙ asked.step) in
      let low_p = maker-low r rec sound x.place p inside (ap maker st) in
      let same : asked.spe ≡ spe_before r p x.place =
      some_same asked.spe (spe_before r p x.place) (sym asked.at ∙ ap (option_and_then (λ (M : State). slice_get M.spes p)) (of.at x.place (omega (arith, inside))) ∙ spe-at r rec sound x.place p (omega (arith, inside)) low_p) in
      let d = exec-only (r.state x.place).memory (r.step x.place) (r.effect x.place).note p (spe_before r p x.place) _ (happens-at r rec sound x.place p inside low_p) st in
      let note = d.told ∙ read-27_note p (lines_of (r.state x.place).memory) x.holds.register (spe_before r p x.place) d.deed d.made (ap asks (sym same) ∙ asked.asks_is) in
      (x.place, x.above, x.below, st, note)
