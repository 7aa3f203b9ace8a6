-- An instruction, as a watch takes it.
use Rattle.std.proofs.Common.{◌≡◌, ℕ, ◌+◌, ◌<◌, ◌≤◌, ◌^◌, ◌||◌, Bool, true, false, List, length, refl, sym, ◌∙◌, subst, arith, Option, Some}
use Rattle.std.specs.Prelude.{◌↔◌, IsTrue, slice_get, Result, Ok, Err, OnOk}
use Rattle.std.proofs.lemmas.Bool.{both_ways}
use Rattle.std.proofs.lemmas.List.{take_all}
use Rattle.cell_base.specs.declared.steps.ChannelOp.{ChannelOp}
use Rattle.cell_base.specs.declared.steps.Step.{Step}
use Rattle.cell_base.specs.declared.steps.Step.TheVariants.{Exec, Piece, Elem, Retire, Atomic, Host}
use Rattle.cell_machine.specs.declared.effect.Note.{Note}
use Rattle.cell_machine.specs.Run.{Ran}
use Rattle.race_order.specs.Trace.{IsStep}
use Rattle.race_order.specs.Queue.{Has}
use Rattle.race_order.specs.Premises.{IsQueued}
use Rattle.race_order.specs.Told.{trace_in}
use Rattle.race_order.proofs.Histories.{later_at}
use Rattle.race_order.proofs.LivesNext.{read_low}
use Rattle.run_permute.specs.declared.kept.Kept.{Kept}
use Rattle.run_permute.specs.declared.made.Made.{Made}
use Rattle.run_permute.specs.declared.watch.Watch.{Watch}
use Rattle.run_permute.specs.SettledLists.{Each, IsIn}
use Rattle.run_permute.specs.Online.{IsSettledAt, is_read_of}
use Rattle.run_permute.specs.Walks.{IsMade}
use Rattle.run_permute.specs.Watches.{IsKept, AreKept, AreLeft, Watches, MayOperate, MayTell, does, is_issue, is_looked_at, may_operate, may_tell, IsTransferOf}
use Rattle.run_permute.proofs.SettledEntries.{each-on}
use Rattle.run_permute.proofs.Sweeps.{are-more}
use Rattle.run_permute.proofs.Judges.{operates, tells}
use Rattle.run_permute.proofs.Here.{made-here, settled-here}

pub watches-with : (m : Ran) (p j x : ℕ) (w v : Watch) → Watches m p j x w → v ≡ record w { kept = v.kept } → AreKept m p j x v.kept.items → Watches m p j x v
watches-with m p j x w v ws same k = subst (Watches m p j x) (sym same) (record { requested = ws.requested; atomic = ws.atomic; stalled = ws.stalled; tag = ws.tag; commands = k })

pub watches-more : (m : Ran) (p j x y : ℕ) (w : Watch) → x ≤ y → Watches m p j x w → Watches m p j y w
watches-more m p j x y w low ws = record { requested = ws.requested; atomic = ws.atomic; stalled = ws.stalled; tag = ws.tag; commands = are-more m p j x y low w.kept.items ws.commands }

pub steps-low : (m : Ran) (p j x : ℕ) (kept : List Kept) → AreKept m p j x kept → Each (λ (k : Kept). (i : ℕ) → IsIn i k.steps.items → i < j) kept
steps-low m p j x kept k = each-on (IsKept m p j x) (λ (k : Kept). (i : ℕ) → IsIn i k.steps.items → i < j) kept (λ o h i inn. (h.steps i inn).0) k.each

-- what a look leaves
pub record Looked (m : Ran) (p j : ℕ) (w : Watch) (o : Option ChannelOp) (note : Note) : Type 0 where
  pub watches : Watches m p j (j + 1) w
  pub left : is_looked_at o note ≡ true → AreLeft m p j w.kept.items

pub looked : (m : Ran) (p j k : ℕ) (w v : Watch) (o : Option ChannelOp) (note : Note) → k ≡ j → IsStep (trace_in m) j (Exec p) → Watches m p j j w
    → ((q : ℕ) → IsStep (trace_in m) k (Exec q) → Watches m q k (k + 1) w → Watches m q k (k + 1) v)
    → ((q : ℕ) → IsStep (trace_in m) k (Exec q) → Watches m q k (k + 1) w → is_looked_at o note ≡ true → AreLeft m q k v.kept.items)
    → Looked m p j v o note
looked m p j k w v o note same here ws a b =
    let more = watches-more m p j j (j + 1) w (omega arith) ws in
    record {
      watches = subst (λ k. (q : ℕ) → IsStep (trace_in m) k (Exec q) → Watches m q k (k + 1) w → Watches m q k (k + 1) v) same a p here more;
      left = λ h. subst (λ k. (q : ℕ) → IsStep (trace_in m) k (Exec q) → Watches m q k (k + 1) w → is_looked_at o note ≡ true → AreLeft m q k v.kept.items) same b p here more h;
    }

pub or-right : (a b : Bool) → b ≡ true → (a || b) ≡ true
or-right true b h = refl
or-right false b h = h

pub or-left : (a b : Bool) → a ≡ true → (a || b) ≡ true
or-left true b h = refl
or-left false b h = absurd (cc)

module _ (m : Ran) (p j : ℕ) (made : Made) (at : slice_get m.steps j ≡ Some (Exec p)) (is : IsMade m j (Exec p) made) (w : Watch) (l : Looked m p j w made.operation made.effect.note) (earlier : (k : ℕ) → k < j → IsSettledAt m p k) where
  there : IsStep (trace_in m) j (Exec p)
  there = made-here m j (Exec p) made at is p refl

  pub left-read : does (is_read_of 25) made.operation ≡ true → AreLeft m p j w.kept.items
  left-read h = l.left (or-right (is_issue made.effect.note) _ h)

  pub may-op : (may_operate w made.operation ≡ true) ↔ MayOperate m p j made.operation
  may-op = operates m p j there w l.watches earlier made.operation left-read

  pub may-note : (may_tell w made.effect.note ≡ true) ↔ MayTell m p j made.effect.note
  may-note = tells m p j there w l.watches earlier made.effect.note (λ h. l.left (or-left (is_issue made.effect.note) _ h))

  both : IsSettledAt m p j ↔ (MayOperate m p j made.operation × MayTell m p j made.effect.note)
  both = settled-here m j (Exec p) made at is p refl

  never : {A : Type 0} → IsTrue false → A
  never h = absurd (cc)

  pub refused-op : (b : Bool) → b ≡ may_operate w made.operation → b ≡ false → IsTrue false ↔ IsSettledAt m p j
  refused-op b e h = (λ f. never f, λ s. absurd (both_ways _ (sym e ∙ h) (may-op.1 (both.0 s).0)))

  pub refused-note : (b : Bool) → b ≡ may_tell w made.effect.note → b ≡ false → IsTrue false ↔ IsSettledAt m p j
  refused-note b e h = (λ f. never f, λ s. absurd (both_ways _ (sym e ∙ h) (may-note.1 (both.0 s).1)))

  pub taken-true : may_operate w made.operation ≡ true → may_tell w made.effect.note ≡ true → IsTrue true ↔ IsSettledAt m p j
  taken-true h g = (λ t. both.1 (may-op.0 h, may-note.0 g), λ s. refl)

-- no command has more elements than fit
pub reads-low : (m : Ran) (p j x : ℕ) (kept : List Kept) → IsQueued (trace_in m) → j ≤ length (trace_in m) → AreKept m p j x kept → Each (λ (k : Kept). k.progress.read + 1 < 2 ^ 32) kept
reads-low m p j x kept queued within k = each-on (IsKept m p j x) (λ (k : Kept). k.progress.read + 1 < 2 ^ 32) kept low k.each
  where
    low : (o : Kept) → IsKept m p j x o → o.progress.read + 1 < 2 ^ 32
    low o h =
        let T = trace_in m in
        let l = later_at T p o.cmd j (length T) o.progress within (omega arith) h.has in
        let r : l.progress.read + 1 < 2 ^ 16 = read_low T queued p o.cmd l.progress (subst (λ t. Has t p o.cmd l.progress) (take_all (length T) T (omega arith)) l.has) in
        let s : o.progress.read ≤ l.progress.read = l.grows.read in
        omega arith

-- a step of a command is no instruction
pub not-exec : (p q : ℕ) (step : Step) → IsTransferOf p step → step ≡ Exec q → ⊥
not-exec p q (Exec r) h e = h
not-exec p q (Piece r c x k) h e = cc
not-exec p q (Elem r c) h e = cc
not-exec p q (Retire r c) h e = cc
not-exec p q (Atomic r) h e = h
not-exec p q Host h e = h

pub ok-on : {T E : Type 0} (r : Result T E) (P Q : Type 0) → (P → Q) → OnOk r P → OnOk r Q
ok-on (Ok x) P Q f h = f h
ok-on (Err e) P Q f h = tt
