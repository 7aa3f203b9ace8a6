-- What is read of a machine file.
use Rattle.std.proofs.Common.{◌≡◌, ◌∙◌, ℕ, suc, ◌+◌, List, [], ◌∷◌, ◌++◌, Vec, Result, Ok, Err, refl, sym, subst, arith, append_assoc}
use Rattle.std.specs.Prelude.{IsErrAnd}
use Rattle.std.specs.declared.alloc.Global.{Global}
use Rattle.std.proofs.lemmas.List.{append-nil}
use Rattle.cell_base.specs.Words.{words_of}
use Rattle.cell_io.specs.Files.{File}
use Rattle.cell_io.specs.Store.{Ledger}
use Rattle.cell_load.specs.Entries.{Entry}
use Rattle.cell_load.specs.Order.{machine_at}
use Rattle.cell_commands.specs.declared.fault.Fault.{Fault as InputFault}
use Rattle.cell_commands.specs.declared.fault.Fault.TheVariants as input
use Rattle.cell_commands.specs.declared.fault.FileId.TheVariants.{Machine}
use Rattle.cell_commands.specs.Task.{Task, text_of, ready, read}
use Rattle.cell_commands.specs.Course.{Given, nothing, too_long, whole, given, WithGiven, Settles}
use Rattle.cell_commands.specs.Forms.{plan_task, text_limit, with_plan}
use Rattle.cell_commands.specs.Answer.{Leads, RefusesIn}
use Rattle.trace_commands.specs.declared.fault.Fault.{Fault}
use Rattle.trace_commands.specs.declared.fault.Fault.TheVariants.{Input, ReadFault, Memory}
use Rattle.trace_commands.specs.Words.{Word, planned}
use Rattle.trace_commands.specs.Code.{told_as}
use Rattle.trace_commands.specs.Answers.{Comes}
use Rattle.trace_commands.specs.Files.{PlanRefuses, FailsAtFile}
use Rattle.trace_commands.specs.Plans.{PlansText, spes_behind, planned_line, plan_from}

-- what is done with the text of a machine file, where this is done with what its lines say
abbrev pub to_plan : (List Entry → Task) → List ℕ → Task
to_plan next text = with_plan (machine_at text) next

-- what is done with it, where it is all that is looked for
abbrev pub to_machine : List ℕ → Task
to_machine text = ready (text_of text)

pub plan_refuses : (files : List File) (machine : Word) (old new : Ledger) (fault : InputFault) → ((next : List Entry → Task) → RefusesIn files (plan_task machine next) old new fault) → PlanRefuses files machine old new (told_as fault)
plan_refuses files machine old new input.Memory r = tt
plan_refuses files machine old new fault r = r

whole_of : (g : Given) (bytes : List ℕ) → WithGiven Machine g (Ok (text_of bytes)) (λ b. Settles [] (to_machine b) (Ok (text_of bytes))) → g ≡ whole bytes
whole_of nothing bytes h = absurd (cc)
whole_of too_long bytes h = absurd (cc)
whole_of (whole b) bytes h = cc

pub machine_read : (files : List File) (machine : Word) (bytes : List ℕ) → Leads files (read Machine machine text_limit to_machine) (to_machine bytes) → given files machine text_limit ≡ whole bytes
machine_read files machine bytes leads = whole_of (given files machine text_limit) bytes (leads.settles (Ok (text_of bytes)) refl)

-- a first line that has no place
stops_at : {F : Type 0} (files : List File) (entries : Result (List Entry) (ℕ × F)) (next : List Entry → Task) (line : ℕ) → IsErrAnd entries (λ fault. fault.0 ≡ line) → Settles files (with_plan entries next) (Err (input.Machine line))
stops_at files (Ok entries) next line h = absurd h
stops_at files (Err fault) next line h = rw h refl

pub plan_comes : (files : List File) (machine : Word) (old new : Ledger) (text : List ℕ) (result : Result (Vec ℕ Global) Fault) → given files machine text_limit ≡ whole text → ((next : List Entry → Task) → Leads files (plan_task machine next) (to_plan next text))
    → PlansText text result → Comes files (planned machine) old new result
plan_comes files machine old new text (Ok out) is leads h = (text, is, h.0, h.1)
plan_comes files machine old new text (Err (Input (input.Machine line))) is leads h = λ next. (leads next).settles (Err (input.Machine line)) (stops_at files (machine_at text) next line h)
plan_comes files machine old new text (Err Memory) is leads h = tt
plan_comes files machine old new text (Err other) is leads h = absurd h

pub plan_reads_on : (machine : Word) (old new : Ledger) (text : List ℕ) (result : Result (Vec ℕ Global) Fault) → PlansText text result → (fault : Fault) → result ≡ Err fault → FailsAtFile Machine machine old new fault
plan_reads_on machine old new text result h (Input (input.ReadFault file)) is = absurd (subst (PlansText text) is h)
plan_reads_on machine old new text result h ReadFault is = absurd (subst (PlansText text) is h)
plan_reads_on machine old new text result h fault is = tt

-- ---- its text

-- a line more was written
pub one_line : (out new all : List ℕ) (number spes behind : ℕ) (lines : List (List ℕ)) (line : List ℕ) (more : List (List ℕ)) → lines ≡ line ∷ more → behind ≡ spes_behind spes (words_of line)
    → new ≡ out ++ planned_line number (spes_behind spes (words_of line)) (words_of line) → out ++ plan_from number spes lines ≡ all → new ++ plan_from (number + 1) behind more ≡ all
unfolding plan_from
one_line out new all number spes behind lines line more cut came wrote so_far =
    let one : suc number ≡ number + 1 = omega arith in
    let after = spes_behind spes (words_of line) in
    let written = planned_line number after (words_of line) in
    let here : out ++ plan_from number spes lines ≡ out ++ (written ++ plan_from (suc number) after more) = rw cut refl in
    rw (wrote, came, ← one) (append_assoc out written (plan_from (suc number) after more) ∙ sym here ∙ so_far)

-- all lines were written
pub all_lines : (out all : List ℕ) (number spes : ℕ) (lines : List (List ℕ)) → lines ≡ [] → out ++ plan_from number spes lines ≡ all → out ≡ all
unfolding plan_from
all_lines out all number spes lines none so_far =
    let here : out ++ plan_from number spes lines ≡ out ++ [] = rw none refl in
    sym (append-nil out) ∙ sym here ∙ so_far
