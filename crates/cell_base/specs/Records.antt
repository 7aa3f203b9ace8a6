-- A record of steps as text: its two formats, and the one spelling that the steps have in each.
use Rattle.std.specs.Prelude.{ℕ, suc, ◌==◌, ◌≤◌, Bool, false, if◌then◌else◌, List, [], ◌∷◌, ◌++◌, map, length, codes}
use Rattle.std.specs.List.{flat_map, AllByRecursion}
use Rattle.std.specs.Fmt.{decimal}
use Rattle.cell_base.specs.declared.format.Format.{Format}
use Rattle.cell_base.specs.declared.format.Format.TheVariants.{One, Two}
use Rattle.cell_base.specs.declared.steps.Step.{Step}
use Rattle.cell_base.specs.declared.steps.Step.TheVariants.{Exec, Piece, Elem, Retire, Atomic, Host}

abbrev pub line_feed : List ℕ
line_feed = 10 ∷ []

-- a space and a number
abbrev pub field : ℕ → List ℕ
field n = 32 ∷ decimal n

-- the words' first letters: x, p, e, r, a, h
abbrev pub letter_x : ℕ
letter_x = 120

abbrev pub letter_p : ℕ
letter_p = 112

abbrev pub letter_e : ℕ
letter_e = 101

abbrev pub letter_r : ℕ
letter_r = 114

abbrev pub letter_a : ℕ
letter_a = 97

abbrev pub letter_h : ℕ
letter_h = 104

-- the line of a step
abbrev pub step_line : Step → List ℕ
step_line (Exec p) = letter_x ∷ field p ++ line_feed
step_line (Piece p c e k) = letter_p ∷ field p ++ field c ++ field e ++ field k ++ line_feed
step_line (Elem p c) = letter_e ∷ field p ++ field c ++ line_feed
step_line (Retire p c) = letter_r ∷ field p ++ field c ++ line_feed
step_line (Atomic p) = letter_a ∷ field p ++ line_feed
step_line Host = letter_h ∷ line_feed

-- A line stands for a step, so many times in a row.
abbrev pub Line : Type 0
Line = Step × ℕ

-- instructions of one processor
abbrev pub are_of_one : Step → Step → Bool
are_of_one (Exec p) (Exec q) = p == q
are_of_one s t = false

-- a step in front of lines: it belongs to the stretch of instructions that they begin with, or has a line of its own
abbrev pub in_front : Step → List Line → List Line
in_front s [] = (s, 1) ∷ []
in_front s ((t, n) ∷ lines) = if are_of_one s t then (t, suc n) ∷ lines else (s, 1) ∷ (t, n) ∷ lines

-- the steps, with each longest stretch of one processor's instructions as one line
unfoldable pub stretches : List Step → List Line
stretches [] = []
stretches (s ∷ steps) = in_front s (stretches steps)

-- the line of a stretch
abbrev pub stretch_line : Step → ℕ → List ℕ
stretch_line (Exec p) n = letter_x ∷ field p ++ field n ++ line_feed
stretch_line s n = step_line s

-- format 1 has a line for each step
abbrev pub lines : Format → List Step → List Line
lines One steps = map (λ s. (s, 1)) steps
lines Two steps = stretches steps

abbrev pub line_text : Format → Line → List ℕ
line_text One (s, n) = step_line s
line_text Two (s, n) = stretch_line s n

abbrev pub head_line : Format → List ℕ
head_line One = codes "cell-record 1" ++ line_feed
head_line Two = codes "cell-record 2" ++ line_feed

abbrev pub count_line : ℕ → List ℕ
count_line n = codes "steps" ++ field n ++ line_feed

-- the one spelling of the steps in a format
abbrev pub spelling : Format → List Step → List ℕ
spelling format steps = head_line format ++ flat_map (line_text format) (lines format steps) ++ count_line (length steps)

-- the bounds of the numbers in a step's line
abbrev pub InBounds : Step → Type 0
InBounds (Exec p) = p ≤ 15
InBounds (Piece p c e k) = (p ≤ 15) × (c ≤ 999999) × (e ≤ 2047) × (k ≤ 128)
InBounds (Elem p c) = (p ≤ 15) × (c ≤ 999999)
InBounds (Retire p c) = (p ≤ 15) × (c ≤ 999999)
InBounds (Atomic p) = p ≤ 15
InBounds Host = Unit {0}

-- the steps that a record can have
abbrev pub AreSteps : List Step → Type 0
AreSteps steps = (length steps ≤ 1000000) × AllByRecursion InBounds steps
