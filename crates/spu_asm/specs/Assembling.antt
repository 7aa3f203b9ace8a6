-- What a text stands for: its image, or its first faulty line in the first phase that has one.
use Rattle.std.specs.Prelude.{◌≡◌, ℕ, ◌+◌, ◌%◌, ◌==◌, List, [], ◌∷◌, ◌++◌, length, take, Option, None, Some, Result, Ok, Err, count_by, slice_index, codes, bit_and}
use Rattle.spu_lex.specs.declared.LexError.{LexError}
use Rattle.spu_lex.specs.declared.LexError.TheVariants as faults
use Rattle.spu_lex.specs.declared.Token.{Token}
use Rattle.spu_lex.specs.Tokens.{tokens_of}
use Rattle.spu_asm.specs.declared.error.AsmError.{AsmError}
use Rattle.spu_asm.specs.declared.error.AsmError.TheVariants.{At, Memory}
use Rattle.spu_asm.specs.declared.error.AsmKind.TheVariants.{BadChar, BadNumber}
use Rattle.spu_asm.specs.declared.syntax.Section.{Section}
use Rattle.spu_asm.specs.declared.syntax.Section.TheVariants.{Text, Data}
use Rattle.spu_asm.specs.declared.syntax.Sections.{Sections as Made}
use Rattle.spu_asm.specs.Outcomes.{◌>>=◌, on_line}
use Rattle.spu_asm.specs.Source.{Labels, SourceLine, Source, source_of}
use Rattle.spu_asm.specs.Layout.{addresses, data_start, placed, places, section_end}
use Rattle.spu_asm.specs.Values.{value_of_label}
use Rattle.spu_asm.specs.Encoding.{bytes_of}
use Rattle.spu_asm.specs.Images.{Image}

-- the number of the line of a byte
abbrev pub line_at : List ℕ → ℕ → ℕ
line_at text at = count_by (λ b. b == 10) (take at text) + 1

-- the tokens, or the fault by its line
abbrev pub lexed : List ℕ → Result (List Token) LexError → Result (List Token) AsmError
lexed text (Ok tokens) = Ok tokens
lexed text (Err (faults.BadChar at)) = Err (At (line_at text at) BadChar)
lexed text (Err (faults.BadNumber at)) = Err (At (line_at text at) BadNumber)
lexed text (Err faults.Memory) = Err Memory

-- the lines and labels of a text
abbrev pub source_in : List ℕ → Result Source AsmError
source_in text = lexed text (tokens_of text) >>= source_of text

-- the bytes of text and of data
pub record Sections : Type 0 where
  pub text : List ℕ
  pub data_bytes : List ℕ

-- bytes in front of those of a section
abbrev pub onto : Section → List ℕ → Sections → Sections
onto Text bytes s = record { text = bytes ++ s.text; data_bytes = s.data_bytes }
onto Data bytes s = record { text = s.text; data_bytes = bytes ++ s.data_bytes }

-- the bytes of all lines, each at its place
unfoldable pub sections_of : List ℕ → Labels → List ℕ → List SourceLine → List ℕ → Result Sections AsmError
sections_of text labels all_places [] rest = Ok (record { text = []; data_bytes = [] })
sections_of text labels all_places (line ∷ lines) [] = Ok (record { text = []; data_bytes = [] })
sections_of text labels all_places (line ∷ lines) (at ∷ rest) = do
  bytes ← on_line line.number (bytes_of text labels all_places at line)
  others ← sections_of text labels all_places lines rest
  Ok (onto line.section bytes others)

-- the value of `_start`, a multiple of 4 below 262144, or 0 where it isn't defined
abbrev pub entry_of : Option ℕ → ℕ
entry_of None = 0
entry_of (Some at) = bit_and at 0x3FFFC

-- addresses and values
unfoldable pub laid_out : List ℕ → Source → Result Image AsmError
laid_out text source = do
  text_at ← addresses Text 0 source.lines
  let start = data_start (slice_index text_at (length source.lines))
  data_at ← addresses Data start source.lines
  let at = places source.lines text_at data_at
  made ← sections_of text source.labels at source.lines at
  Ok (record {
    text = made.text;
    bytes = made.data_bytes;
    bytes_at = start;
    entry = entry_of (value_of_label source.labels at (codes "_start"));
  })

-- The image of a text, or its refusal. Tokens come first, then statements and labels, then addresses, then values.
unfoldable pub assembled : List ℕ → Result Image AsmError
assembled text = source_in text >>= laid_out text

-- an image's sections end where the addresses of its lines do
abbrev pub EndsWith : List SourceLine → Image → Type 0
EndsWith lines image = (section_end Text 0 lines ≡ Ok (length image.text)) × (section_end Data image.bytes_at lines ≡ Ok (image.bytes_at + length image.bytes))

-- wherever a line is placed, at a multiple of 4 in text, it has as many bytes as its address and the next say
abbrev pub IsAsLong : List ℕ → SourceLine → Type 0
IsAsLong text line =
    (labels : Labels) (all_places : List ℕ) (at next : ℕ) (bytes : List ℕ) → (line.section ≡ Text → at % 4 ≡ 0)
    → placed line.section at line.statement ≡ Ok next → bytes_of text labels all_places at line ≡ Ok bytes → at + length bytes ≡ next

abbrev pub AreAsLong : List ℕ → List SourceLine → Type 0
AreAsLong text [] = Unit {0}
AreAsLong text (line ∷ lines) = IsAsLong text line × AreAsLong text lines

-- each line is as long as its addresses say, and the image's sections end where the last line does
abbrev pub FitsLines : List ℕ → List SourceLine → Image → Type 0
FitsLines text lines image = AreAsLong text lines × EndsWith lines image

-- so it is with the lines of a text
abbrev pub IsAsLongAsItsLines : List ℕ → Image → Type 0
IsAsLongAsItsLines text image = (source : Source) → source_in text ≡ Ok source → FitsLines text source.lines image

abbrev pub sections_view : Made → Sections
sections_view s = record { text = s.text.items; data_bytes = s.data_bytes.items }

-- bytes at the end of those of a section
abbrev pub joined : Section → Sections → List ℕ → Sections
joined Text s bytes = record { text = s.text ++ bytes; data_bytes = s.data_bytes }
joined Data s bytes = record { text = s.text; data_bytes = s.data_bytes ++ bytes }

-- the sections with the bytes of one more line
abbrev pub added_to : Section → Sections → Result (List ℕ) AsmError → Result Sections AsmError
added_to section s given = given >>= λ bytes. Ok (joined section s bytes)
