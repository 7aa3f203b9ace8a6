-- What reading a machine file answers.
use Rattle.std.specs.Prelude.{◌≡◌, ℕ, List, [], ◌∷◌, Result, Ok, Err}
use Rattle.cell_base.specs.Words.{words_of}
use Rattle.cell_load.specs.declared.line.Refusal.{Refusal}
use Rattle.cell_load.specs.declared.line.Refusal.TheVariants as refusal
use Rattle.cell_load.specs.declared.plan.PlanError.{PlanError}
use Rattle.cell_load.specs.declared.plan.PlanError.TheVariants.{BadLine, Limit, Memory}

abbrev pub fault_of : ℕ → Refusal → PlanError
fault_of line refusal.Form = BadLine line
fault_of line refusal.Limit = Limit line
fault_of line refusal.Memory = Memory

-- What a function returned, seen by view, is what reading gives, unless memory ran out.
abbrev pub PlanGives : {X Y : Type 0} → (X → Y) → Result X PlanError → Result Y (ℕ × Refusal) → Type 0
PlanGives view (Ok x) read = read ≡ Ok (view x)
PlanGives view (Err (BadLine line)) read = read ≡ Err (line, refusal.Form)
PlanGives view (Err (Limit line)) read = read ≡ Err (line, refusal.Limit)
PlanGives view (Err Memory) read = Unit {0}

-- none of the lines has words
abbrev pub IsBare : List (List ℕ) → Type 0
IsBare [] = Unit {0}
IsBare (line ∷ lines) = (words_of line ≡ []) × IsBare lines

-- a line is named as outside the form
abbrev pub NamesBadLine : {X : Type 0} → Result X PlanError → Type 0
NamesBadLine (Err (BadLine line)) = Unit {0}
NamesBadLine other = ⊥
