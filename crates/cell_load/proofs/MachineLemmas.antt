-- Reading the lines of a machine file, as a loop does.
use Rattle.std.proofs.Common.{◌≡◌, ℕ, List, ◌∷◌, Option, Some, None, Result, Ok, Err, ap, ◌∙◌}
use Rattle.std.specs.Prelude.{IsErrOf}
use Rattle.cell_base.specs.Words.{lines_of}
use Rattle.cell_base.specs.Walk.{walk, state_after, IsFirstFault}
use Rattle.cell_base.proofs.WalkLaws.{with_front, walk_fault, walk_is_first}
use Rattle.cell_load.specs.declared.line.Line.{Line}
use Rattle.cell_load.specs.declared.line.Refusal.{Refusal}
use Rattle.cell_load.specs.declared.line.Refusal.TheVariants as refusal
use Rattle.cell_load.specs.declared.line.Stage.{Stage}
use Rattle.cell_load.specs.declared.line.Stage.TheVariants.{Start}
use Rattle.cell_load.specs.declared.plan.PlanError.{PlanError}
use Rattle.cell_load.specs.declared.plan.PlanError.TheVariants.{BadLine, Limit, Memory}
use Rattle.cell_load.specs.Entries.{Entry, seen}
use Rattle.cell_load.specs.Form.{Gives}
use Rattle.cell_load.specs.Order.{line_step, lacks, machine_at}
use Rattle.cell_load.specs.Plans.{PlanGives, fault_of}

pub stops : {X Y : Type 0} (view : X → Option (Entry × Stage)) (whole : Y → List Entry) (front : List Entry) (k : ℕ) (s : Stage) (lines : List (List ℕ)) (line : List ℕ) (more : List (List ℕ)) (e : Refusal) (total : Result (List Entry) (ℕ × Refusal))
    → lines ≡ line ∷ more → Gives view (Err e) (line_step s line) → with_front front (walk line_step lacks k s lines) ≡ total → PlanGives whole (Err (fault_of k e)) total
stops view whole front k s lines line more refusal.Form total cut is so_far = walk_fault line_step lacks front k s lines line more refusal.Form total cut is so_far
stops view whole front k s lines line more refusal.Limit total cut is so_far = walk_fault line_step lacks front k s lines line more refusal.Limit total cut is so_far
stops view whole front k s lines line more refusal.Memory total cut is so_far = tt

pub first_bad : {X Y : Type 0} (whole : Y → List Entry) (text : List ℕ) (e : PlanError) (line : ℕ) → PlanGives whole (Err e) (machine_at text) → IsErrOf {T = X} (Err e) (BadLine line) → IsFirstFault line_step lacks Start (lines_of text) line refusal.Form
first_bad whole text (BadLine l) line gives is =
    let same : l ≡ line = cc in
    walk_is_first line_step lacks Start (lines_of text) line refusal.Form (gives ∙ ap (λ (k : ℕ). Err (k, refusal.Form)) same)
first_bad whole text (Limit l) line gives is = absurd cc
first_bad whole text Memory line gives is = absurd cc

pub first_limit : {X Y : Type 0} (whole : Y → List Entry) (text : List ℕ) (e : PlanError) (line : ℕ) → PlanGives whole (Err e) (machine_at text) → IsErrOf {T = X} (Err e) (Limit line) → IsFirstFault line_step lacks Start (lines_of text) line refusal.Limit
first_limit whole text (Limit l) line gives is =
    let same : l ≡ line = cc in
    walk_is_first line_step lacks Start (lines_of text) line refusal.Limit (gives ∙ ap (λ (k : ℕ). Err (k, refusal.Limit)) same)
first_limit whole text (BadLine l) line gives is = absurd cc
first_limit whole text Memory line gives is = absurd cc

-- a line that was skipped leaves the stage
pub skipped : (stage next : Stage) (done : Option (Line × Stage)) → next ≡ state_after stage (seen done) → ◌≡◌ {A = Result (Option (Line × Stage)) Refusal} (Ok done) (Ok None) → next ≡ stage
skipped stage next None after is = after
skipped stage next (Some x) after is = absurd cc
