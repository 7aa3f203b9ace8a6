-- Reading from left to right, with the first line that is outside the form.
use Rattle.std.specs.Prelude.{◌≡◌, ℕ, zero, suc, ◌+◌, ◌-◌, ◌==◌, ◌&&◌, Bool, false, not, nat_lt, List, [], ◌∷◌, ◌++◌, codes, replicate, Option, Some, None, Result, Ok, Err, if◌then◌else◌}
use Rattle.cell_base.specs.Numbers.{◌>>=◌, number_at}
use Rattle.cell_base.specs.declared.format.Format.{Format}
use Rattle.cell_base.specs.declared.format.Format.TheVariants.{One, Two}
use Rattle.cell_base.specs.declared.steps.Step.{Step}
use Rattle.cell_base.specs.declared.steps.Step.TheVariants.{Exec, Piece, Elem, Retire, Atomic, Host}
use Rattle.run_record.specs.declared.error.RecordError.{RecordError}
use Rattle.run_record.specs.declared.error.RecordError.TheVariants as errors
use Rattle.cell_base.specs.Records.{letter_x, letter_p, letter_e, letter_r, letter_a, letter_h, Line, are_of_one, head_line}

-- the bytes behind this text
unfoldable pub after : List ℕ → List ℕ → Option (List ℕ)
after [] bytes = Some bytes
after (p ∷ ps) [] = None
after (p ∷ ps) (b ∷ bs) = if b == p then after ps bs else None

unfoldable pub field_at : ℕ → List ℕ → Option (ℕ × List ℕ)
field_at limit [] = None
field_at limit (b ∷ bs) = if b == 32 then number_at limit bs else None

-- the line's end
unfoldable pub end_at : List ℕ → Option (List ℕ)
end_at [] = None
end_at (b ∷ bs) = if b == 10 then Some bs else None

unfoldable pub exec_at : List ℕ → Option (Step × List ℕ)
exec_at bytes = do
  p ← field_at 15 bytes
  rest ← end_at p.1
  Some (Exec p.0, rest)

unfoldable pub atomic_at : List ℕ → Option (Step × List ℕ)
atomic_at bytes = do
  p ← field_at 15 bytes
  rest ← end_at p.1
  Some (Atomic p.0, rest)

unfoldable pub elem_at : List ℕ → Option (Step × List ℕ)
elem_at bytes = do
  p ← field_at 15 bytes
  c ← field_at 999999 p.1
  rest ← end_at c.1
  Some (Elem p.0 c.0, rest)

unfoldable pub retire_at : List ℕ → Option (Step × List ℕ)
retire_at bytes = do
  p ← field_at 15 bytes
  c ← field_at 999999 p.1
  rest ← end_at c.1
  Some (Retire p.0 c.0, rest)

unfoldable pub piece_at : List ℕ → Option (Step × List ℕ)
piece_at bytes = do
  p ← field_at 15 bytes
  c ← field_at 999999 p.1
  e ← field_at 2047 c.1
  k ← field_at 128 e.1
  rest ← end_at k.1
  Some (Piece p.0 c.0 e.0 k.0, rest)

unfoldable pub host_at : List ℕ → Option (Step × List ℕ)
host_at bytes = do
  rest ← end_at bytes
  Some (Host, rest)

-- a step's line, and the bytes after it
unfoldable pub step_at : List ℕ → Option (Step × List ℕ)
step_at [] = None
step_at (b ∷ bs) =
    if b == letter_x then exec_at bs
    else if b == letter_p then piece_at bs
    else if b == letter_e then elem_at bs
    else if b == letter_r then retire_at bs
    else if b == letter_a then atomic_at bs
    else if b == letter_h then host_at bs
    else None

-- the step before it is an instruction of the same processor
abbrev pub goes_on : Option Step → Step → Bool
goes_on None s = false
goes_on (Some t) s = are_of_one t s

-- a stretch of at least one instruction and no more than there is room for, behind no other of its processor
abbrev pub stretch_of : Option Step → ℕ → ℕ → List ℕ → Option (Line × List ℕ)
stretch_of last p n rest = if nat_lt 0 n && not (goes_on last (Exec p)) then Some ((Exec p, n), rest) else None

unfoldable pub stretch_at : ℕ → Option Step → List ℕ → Option (Line × List ℕ)
stretch_at room last bytes = do
  p ← field_at 15 bytes
  n ← field_at room p.1
  rest ← end_at n.1
  stretch_of last p.0 n.0 rest

-- a line that stands for one step, and the bytes after it
abbrev pub alone : ℕ → Option (Step × List ℕ) → Option (Line × List ℕ)
alone room None = None
alone room (Some x) = if nat_lt 0 room then Some ((x.0, 1), x.1) else None

-- the next line of a record, where there is room for so many steps more and this is the last of those before, and the bytes after it
unfoldable pub line_at : Format → ℕ → Option Step → List ℕ → Option (Line × List ℕ)
line_at One room last bytes = alone room (step_at bytes)
line_at Two room last [] = None
line_at Two room last (b ∷ bs) = if b == letter_x then stretch_at room last bs else alone room (step_at (b ∷ bs))

-- the line with the number of steps
unfoldable pub count_at : ℕ → List ℕ → Option (List ℕ)
count_at n bytes = do
  rest ← after (codes "steps") bytes
  count ← field_at 1000000 rest
  if count.0 == n then end_at count.1 else None

-- the record ends here, behind so many lines, or this line is faulty
abbrev pub ending : ℕ → Option (List ℕ) → Result (List Step × List ℕ) ℕ
ending k None = Err (k + 2)
ending k (Some rest) = Ok ([], rest)

abbrev pub with_line : Line → Result (List Step × List ℕ) ℕ → Result (List Step × List ℕ) ℕ
with_line (s, n) (Ok x) = Ok (replicate n s ++ x.0, x.1)
with_line l (Err line) = Err line

abbrev pub either : Option (Line × List ℕ) → (Line → List ℕ → Result (List Step × List ℕ) ℕ) → Result (List Step × List ℕ) ℕ → Result (List Step × List ℕ) ℕ
either None f d = d
either (Some x) f d = f x.0 x.1

-- The steps that follow n steps, the last of which is this, in k lines, and the bytes after the record. More lines than steps don't come.
unfoldable pub lines_at : Format → ℕ → ℕ → ℕ → Option Step → List ℕ → Result (List Step × List ℕ) ℕ
lines_at format zero k n last bytes = ending k (count_at n bytes)
lines_at format (suc most) k n last bytes =
    either (line_at format (1000000 - n) last bytes) (λ l rest. with_line l (lines_at format most (suc k) (n + l.1) (Some l.0) rest)) (ending k (count_at n bytes))

abbrev pub behind_head : Format → Option (List ℕ) → Result (List Step × List ℕ) ℕ → Result (List Step × List ℕ) ℕ
behind_head format None other = other
behind_head format (Some rest) other = lines_at format 1000000 0 0 None rest

-- the record at the front, and the bytes after it
unfoldable pub record_at : List ℕ → Result (List Step × List ℕ) ℕ
record_at text = behind_head One (after (head_line One) text) (behind_head Two (after (head_line Two) text) (Err 1))

-- What a function returned, seen by view, is what reading gives, unless memory ran out.
abbrev pub Fails : {Y : Type 0} → RecordError → Result Y ℕ → Type 0
Fails errors.Memory read = Unit {0}
Fails (errors.BadLine line) read = read ≡ Err line

abbrev pub Gives : {X Y : Type 0} → (X → Y) → Result X RecordError → Result Y ℕ → Type 0
Gives view (Ok x) read = read ≡ Ok (view x)
Gives view (Err e) read = Fails e read
