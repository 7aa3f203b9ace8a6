-- What a record is as text, and where a text stops being one.
use Rattle.std.specs.Prelude.{◌≡◌, ◌≢◌, ℕ, ◌+◌, ◌⊎◌, List, [], ◌∷◌, ◌++◌, length, drop, Result, Err}
use Rattle.std.specs.List.{flat_map}
use Rattle.cell_base.specs.declared.format.Format.{Format}
use Rattle.cell_base.specs.declared.steps.Step.{Step}
use Rattle.cell_base.specs.Records.{Line, line_text, lines, head_line, count_line, spelling, AreSteps}
use Rattle.run_record.specs.declared.error.RecordError.{RecordError}
use Rattle.run_record.specs.declared.error.RecordError.TheVariants.{Memory}

-- what was read: the steps of a record, and the byte after it
pub record Reading : Type 0 where
  pub steps : List Step
  pub end : ℕ

-- The text begins with the record of these steps, of this format, which ends here.
abbrev pub BeginsIn : Format → List ℕ → Reading → Type 0
BeginsIn format text r = (r.end ≡ length (spelling format r.steps)) × (text ≡ spelling format r.steps ++ drop r.end text)

-- The text begins with the record of these steps, of either format.
abbrev pub BeginsWith : List ℕ → Reading → Type 0
BeginsWith text r = AreSteps r.steps × ((format : Format) × BeginsIn format text r)

-- A line that may come after the lines of these steps: one with which they are the lines of more steps, or the number of the steps.
abbrev pub MayFollow : Format → List Step → List ℕ → Type 0
MayFollow format steps text = ((more : List Step) × (line : Line) × AreSteps more × (lines format more ≡ lines format steps ++ line ∷ []) × (text ≡ line_text format line)) ⊎ (text ≡ count_line (length steps))

-- The lines before are a record's first ones, and what stands at this line begins with none that may come next. The head is line 1.
pub record IsFirstFault (text : List ℕ) (line : ℕ) : Type 0 where
  pub format : Format
  pub before : List Step
  pub rest : List ℕ
  pub are_steps : AreSteps before
  pub number : line ≡ length (lines format before) + 2
  pub parts : text ≡ head_line format ++ flat_map (line_text format) (lines format before) ++ rest
  pub none : (next more : List ℕ) → MayFollow format before next → rest ≢ next ++ more

-- The text doesn't begin with a record, and this is its first line outside the form.
abbrev pub IsFault : List ℕ → ℕ → Type 0
IsFault text line = ((line ≡ 1) × ((format : Format) (more : List ℕ) → text ≢ head_line format ++ more)) ⊎ IsFirstFault text line

-- At the front of a text stands one record at most.
abbrev pub HasOneRecord : List ℕ → Type 0
HasOneRecord text = (f g : Format) (ours theirs : List Step) (ours_behind theirs_behind : List ℕ) → AreSteps ours → AreSteps theirs → text ≡ spelling f ours ++ ours_behind → text ≡ spelling g theirs ++ theirs_behind
    → (f ≡ g) × (ours ≡ theirs) × (ours_behind ≡ theirs_behind)

-- this answer, or memory ran out
abbrev pub IsOrMemory : {X : Type 0} → Result X RecordError → Result X RecordError → Type 0
IsOrMemory result wanted = (result ≡ wanted) ⊎ (result ≡ Err Memory)
