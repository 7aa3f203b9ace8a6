-- The lines of a text and the labels that they define.
use Rattle.std.specs.Prelude.{ℕ, ◌+◌, ◌^◌, ◌<◌, Bool, ◌&&◌, List, [], ◌∷◌, ◌++◌, length, drop, Option, is_some, map, not, Result, Ok, Err, if◌then◌else◌}
use Rattle.std.specs.Map.{lookup}
use Rattle.std.specs.List.{onto_first, prefix_len}
use Rattle.std.specs.Borrow.{Bor}
use Rattle.std.specs.Str.{bytes_eq}
use Rattle.spu_lex.specs.declared.Token.{Token}
use Rattle.spu_asm.specs.declared.error.AsmError.{AsmError}
use Rattle.spu_asm.specs.declared.error.AsmKind.{AsmKind}
use Rattle.spu_asm.specs.declared.error.AsmKind.TheVariants.{Twice}
use Rattle.spu_asm.specs.declared.syntax.Line.{Line}
use Rattle.spu_asm.specs.declared.syntax.Section.{Section}
use Rattle.spu_asm.specs.declared.syntax.Section.TheVariants as sections
use Rattle.spu_asm.specs.declared.syntax.Statement.{Statement}
use Rattle.spu_asm.specs.declared.syntax.Statement.TheVariants.{Choose, Nothing}
use Rattle.spu_asm.specs.declared.syntax.Unread.{Unread}
use Rattle.spu_asm.specs.Outcomes.{◌>>=◌, on_line}
use Rattle.spu_asm.specs.Reading.{word, is_name, is_the_mark, is_line_end, Within}
use Rattle.spu_asm.specs.Statements.{statement_of}

-- each line end ends a line; the last line may lack it
unfoldable pub lines_of : List Token → List (List Token)
lines_of [] = []
lines_of (t ∷ ts) = if is_line_end t.kind then [] ∷ lines_of ts else onto_first t (lines_of ts)

-- a name and a colon (58)
abbrev pub is_label : List ℕ → Token → Token → Bool
is_label text t u = is_name t.kind && is_the_mark text 58 u

-- the labels at the front of a line, and what stands after them
unfoldable pub labels_of : List ℕ → List Token → List (List ℕ)
labels_of text (t ∷ u ∷ ts) = if is_label text t u then word text t ∷ labels_of text ts else []
labels_of text _ = []

unfoldable pub after_labels : List ℕ → List Token → List Token
after_labels text (t ∷ u ∷ ts) = if is_label text t u then after_labels text ts else t ∷ u ∷ ts
after_labels text ts = ts

-- labels with the numbers of their lines
abbrev pub Labels : Type 0
Labels = List (List ℕ × ℕ)

-- the number of the line that defines a label
abbrev pub line_of : Labels → List ℕ → Option ℕ
line_of labels name = lookup (bytes_eq name) labels

-- the labels with one more, which was not defined before
unfoldable pub with_label : Labels → ℕ → List ℕ → Result Labels AsmKind
with_label labels number name = if is_some (line_of labels name) then Err Twice else Ok (labels ++ (name, number) ∷ [])

-- the labels with those of a line
unfoldable pub with_labels : Labels → ℕ → List (List ℕ) → Result Labels AsmKind
with_labels labels number [] = Ok labels
with_labels labels number (name ∷ names) = with_label labels number name >>= λ more. with_labels more number names

-- a line: its number from 1, its section, and its statement with the tokens after the statement's name
pub record SourceLine : Type 0 where
  pub number : ℕ
  pub section : Section
  pub statement : Statement
  pub arguments : List Token

pub record Source : Type 0 where
  pub lines : List SourceLine
  pub labels : Labels

-- the section after a statement
abbrev pub section_after : Section → Statement → Section
section_after section (Choose other) = other
section_after section _ = section

-- the lines from a number on, in a section, behind those that define labels
unfoldable pub source_from : List ℕ → ℕ → Section → Labels → List (List Token) → Result Source AsmError
source_from text number section labels [] = Ok (record { lines = []; labels = labels })
source_from text number section labels (line ∷ lines) = do
  statement ← on_line number (statement_of text section (after_labels text line))
  more ← on_line number (with_labels labels number (labels_of text line))
  rest ← source_from text (number + 1) (section_after section statement) more lines
  Ok (record {
    lines = record { number = number; section = section; statement = statement; arguments = drop 1 (after_labels text line) } ∷ rest.lines;
    labels = rest.labels;
  })

-- a text begins in the text section
abbrev pub source_of : List ℕ → List Token → Result Source AsmError
source_of text tokens = source_from text 1 sections.Text [] (lines_of tokens)

-- a statement, or none where it has a fault
abbrev pub or_nothing : Result Statement AsmKind → Statement
or_nothing (Ok statement) = statement
or_nothing (Err kind) = Nothing

-- the statement of a line without a fault
abbrev pub stated : List ℕ → Section → List Token → Statement
stated text section line = or_nothing (statement_of text section (after_labels text line))

-- the lines from a number on, in a section, where none has a fault
unfoldable pub lines_from : List ℕ → ℕ → Section → List (List Token) → List SourceLine
lines_from text number section [] = []
lines_from text number section (line ∷ lines) =
    record { number = number; section = section; statement = stated text section line; arguments = drop 1 (after_labels text line) }
    ∷ lines_from text (number + 1) (section_after section (stated text section line)) lines

abbrev pub lines_in : List ℕ → List Token → List SourceLine
lines_in text tokens = lines_from text 1 sections.Text (lines_of tokens)

-- the lines that are not read yet
abbrev pub lines_left : List ℕ → Unread → List SourceLine
lines_left text unread = lines_from text unread.number unread.section (lines_of unread.tokens.now)

-- their tokens lie in the text, and their numbers have 32 bits
abbrev pub IsLeft : List ℕ → Unread → Type 0
IsLeft text unread = Within text unread.tokens.now × (unread.number + length unread.tokens.now < 2 ^ 32)

-- labels without where their names lie in memory
abbrev pub labels_view : List (Bor (List ℕ) × ℕ) → Labels
labels_view entries = map (λ e. (e.0.now, e.1)) entries

-- a line without where its arguments lie in memory
abbrev pub line_view : Line → SourceLine
line_view l = record { number = l.number; section = l.section; statement = l.statement; arguments = l.arguments.now }

-- the lines of tokens, with labels
abbrev pub source_view : List ℕ → List Token → List (Bor (List ℕ) × ℕ) → Source
source_view text tokens entries = record { lines = lines_in text tokens; labels = labels_view entries }

-- how many tokens stand before the first line end
abbrev pub line_len : List Token → ℕ
line_len tokens = prefix_len (λ t. not (is_line_end t.kind)) tokens
