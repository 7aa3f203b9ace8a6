-- What instructions and atomic commands want of a run and its order: that they see in another order what they saw in the recorded one.
use Rattle.std.specs.Prelude.{◌≡◌, ℕ, ◌<◌, true, List, Some}
use Rattle.std.specs.List.{range_with_len}
use Rattle.cell_base.specs.declared.steps.Step.TheVariants.{Exec, Atomic}
use Rattle.mfc_command.specs.declared.command.AtomicOp.{AtomicOp}
use Rattle.lock_lines.specs.Versions.{version_of}
use Rattle.cell_machine.specs.State.{State}
use Rattle.cell_machine.specs.Spe.{Spe}
use Rattle.cell_machine.specs.Memory.{lines_of}
use Rattle.cell_machine.specs.Channels.{with_resumed}
use Rattle.reorder_laws.specs.Deeds.{Did, Ends, Goes, TakeTags, TakeAtomic, TakeValue, PutValue, PutInterrupt, TakeSignal, LeaveEvents, FillSlot, Queue, Resume, exec_deed}
use Rattle.reorder_laws.specs.SameDeeds.{GivesSame}
use Rattle.reorder_laws.specs.Cuts.{IsFront}
use Rattle.reorder_laws.specs.Recorded.{Recorded, spe_in, spe_before, is_atomic_step, stalled_groups}
use Rattle.reorder_laws.specs.Described.{Describes}
use Rattle.reorder_laws.specs.Steps.{HasSameBytes}

-- ---- an instruction, in a state that is described and has the recorded bytes

-- of what it looks at: stall bits, and the stalls that it acknowledges
abbrev pub SeesRest : Spe → Spe → Did → Type 0
SeesRest K P (Ends status x) = Unit {0}
SeesRest K P (Goes x (TakeTags t)) = Unit {0}
SeesRest K P (Goes x TakeAtomic) = Unit {0}
SeesRest K P (Goes x (FillSlot a)) = Unit {0}
SeesRest K P (Goes x TakeValue) = Unit {0}
SeesRest K P (Goes x (Queue number d)) = Unit {0}
SeesRest K P (Goes x (PutValue value)) = Unit {0}
SeesRest K P (Goes x (PutInterrupt value)) = Unit {0}
SeesRest K P (Goes x (TakeSignal r)) = Unit {0}
SeesRest K P (Goes x (LeaveEvents events)) = Unit {0}
SeesRest K P (Goes x a) = GivesSame K P a

-- it sees what it saw in the recorded order
abbrev pub InstructionsSee : (ℕ → ℕ → Type 0) → Recorded → Type 0
InstructionsSee Before r = (D : List ℕ) (j : ℕ) (M : State) (p : ℕ) (d : Did) → IsFront Before r.size D j → Describes r D M → Describes r (range_with_len 0 j) (r.state j) → HasSameBytes M (r.state j) → r.step j ≡ Exec p
    → exec_deed (lines_of (r.state j).memory) (spe_before r p j) ≡ Some d → SeesRest (spe_before r p j) (spe_in M p) d

-- of the stalls that it leaves: behind an acknowledgement nothing is stalled but what the status shows
abbrev pub StallsRest : Spe → Did → Type 0
StallsRest P (Goes x (Resume tag stalls)) = P.channels.stalls ≡ stalled_groups (with_resumed P.moves stalls)
StallsRest P d = Unit {0}

abbrev pub InstructionsLeave : (ℕ → ℕ → Type 0) → Recorded → Type 0
InstructionsLeave Before r = (D : List ℕ) (j : ℕ) (M : State) (p : ℕ) (d : Did) → IsFront Before r.size D j → Describes r D M → Describes r (range_with_len 0 j) (r.state j) → HasSameBytes M (r.state j) → r.step j ≡ Exec p
    → exec_deed (lines_of (r.state j).memory) (spe_before r p j) ≡ Some d → exec_deed (lines_of M.memory) (spe_in M p) ≡ Some d → StallsRest (spe_in M p) d

-- ---- an atomic command

-- its line has the version that it had in the recorded order
abbrev pub LinesSeen : (ℕ → ℕ → Type 0) → Recorded → Type 0
LinesSeen Before r = (D : List ℕ) (j : ℕ) (M : State) (p : ℕ) (a : AtomicOp) → IsFront Before r.size D j → Describes r D M → Describes r (range_with_len 0 j) (r.state j) → r.step j ≡ Atomic p → (spe_before r p j).channels.slot ≡ Some a
    → version_of M.memory.versions a.line ≡ version_of (r.state j).memory.versions a.line

-- the steps that change the atomic slot, the atomic status or the reservation of a processor are ordered
abbrev pub AtomicsChain : (ℕ → ℕ → Type 0) → Recorded → Type 0
AtomicsChain Before r = (i j p : ℕ) → i < j → j < r.size → is_atomic_step p (r.step i) (r.effect i).note ≡ true → is_atomic_step p (r.step j) (r.effect j).note ≡ true → Before i j
