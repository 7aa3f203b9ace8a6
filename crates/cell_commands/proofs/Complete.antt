-- What follows from the causes of the answers.
use Rattle.std.proofs.Common.{◌≡◌, ℕ, List, Result, Ok, Err, refl, subst}
use Rattle.cell_io.specs.Files.{File}
use Rattle.cell_io.specs.Store.{Ledger}
use Rattle.cell_commands.specs.declared.fault.Fault.{Fault}
use Rattle.cell_commands.specs.declared.fault.Fault.TheVariants.{ReadFault, WriteFault, NotSettled, Memory}
use Rattle.cell_commands.specs.declared.fault.Status.{Status}
use Rattle.cell_commands.specs.declared.fault.Status.TheVariants.{Done, Race, Refused}
use Rattle.cell_commands.specs.Task.{Task, Work, reordering_of}
use Rattle.cell_commands.specs.Course.{Settles}
use Rattle.cell_commands.specs.Output.{Writes, LacksOrders}
use Rattle.cell_commands.specs.Answer.{Sinks, IsDue, Answers, IsExact, IsComplete}
use Rattle.cell_commands.proofs.Settled.{settled_once}
use Rattle.cell_commands.proofs.Verdicts.{one-verdict}

module _ (files : List File) (task : Task) (old new : Ledger) (before after : Sinks) where
  not-both : (work : Work) (fault : Fault) → Settles files task (Ok work) → Settles files task (Err fault) → ⊥
  not-both work fault a b = let same : ◌≡◌ {A = Result Work Fault} (Ok work) (Err fault) = settled_once files task (Ok work) (Err fault) a b in cc

  -- no text goes out where a run that isn't settled is to be reordered
  writes-none : (work : Work) (status : Status) (text : List ℕ) → LacksOrders work → Writes work status text → ⊥
  writes-none (reordering_of m n) Done text lacks w = lacks.not_settled w.settled
  writes-none (reordering_of m n) (Race i j) text lacks w = one-verdict m i j lacks.no_race w.least
  writes-none (reordering_of m n) (Refused fault) text lacks w = w
  writes-none work status text lacks w = lacks

  not-due : (fault : Fault) → IsDue files task fault → (work : Work) → Settles files task (Ok work) → (status : Status) (text : List ℕ) → Writes work status text → ⊥
  not-due NotSettled is work s status text w =
      let same : ◌≡◌ {A = Result Work Fault} (Ok is.0) (Ok work) = settled_once files task (Ok is.0) (Ok work) is.1 s in
      let one : is.0 ≡ work = cc in
      writes-none work status text (subst LacksOrders one is.2) w
  not-due fault is work s status text w = not-both work fault s is

  same-refusal : (fault told : Fault) → Settles files task (Err fault) → Settles files task (Err told) → Refused told ≡ Refused fault
  same-refusal fault told a b = let same : ◌≡◌ {A = Result Work Fault} (Err told) (Err fault) = settled_once files task (Err told) (Err fault) b a in cc

  -- the files have one cause of a refusal
  one-due : (fault told : Fault) → IsDue files task fault → IsDue files task told → Refused told ≡ Refused fault
  one-due NotSettled NotSettled a b = refl
  one-due NotSettled told a b = absurd (not-both a.0 told a.1 b)
  one-due fault NotSettled a b = absurd (not-both b.0 fault b.1 a)
  one-due fault told a b = same-refusal fault told a b

  pub exact : (status : Status) → Answers files task old new before after status → IsExact files task old new status
  exact Done a fault is none = absurd (not-due fault is a.0 a.1 Done a.2.0 a.2.1)
  exact (Race i j) a fault is none = absurd (not-due fault is a.0 a.1 (Race i j) a.2.0 a.2.1)
  exact (Refused WriteFault) a fault is none = absurd (not-due fault is a.0 a.1 a.2.1.0 a.2.1.1 a.2.1.2)
  exact (Refused Memory) a fault is none = tt
  exact (Refused (ReadFault file)) a fault is none = absurd (none file a.0 a.1 a.2)
  exact (Refused told) a fault is none = one-due fault told is a

  pub complete : (status : Status) → Answers files task old new before after status → IsComplete files task old new before after status
  complete Done a work is quiet none = tt
  complete (Race i j) a work is quiet none = tt
  complete (Refused Memory) a work is quiet none = tt
  complete (Refused NotSettled) a work is quiet none = tt
  complete (Refused WriteFault) a work is quiet none = quiet a.2.0
  complete (Refused (ReadFault file)) a work is quiet none = none file a.0 a.1 a.2
  complete (Refused told) a work is quiet none = not-both work told is a
