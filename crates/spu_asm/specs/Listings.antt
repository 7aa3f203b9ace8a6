-- Where the lines of a text stand, and the labels that they define.
use Rattle.std.specs.Prelude.{ℕ, List, [], ◌∷◌, map, Result, Ok}
use Rattle.spu_asm.specs.declared.error.AsmError.{AsmError}
use Rattle.spu_asm.specs.declared.syntax.Label.{Label}
use Rattle.spu_asm.specs.declared.syntax.ListedLine.{ListedLine}
use Rattle.spu_asm.specs.Assembling.{source_in, laid_out}
use Rattle.spu_asm.specs.Images.{Image}
use Rattle.spu_asm.specs.Layout.{both_stepped, present}
use Rattle.spu_asm.specs.Outcomes.{◌>>=◌}
use Rattle.spu_asm.specs.Source.{Labels, SourceLine}

-- a line between two pairs of present addresses, those of text and of data: it stands between those of its section
abbrev pub listed_line : SourceLine → ℕ → ℕ → ℕ × ℕ → ListedLine
listed_line line text_at data_at next = record {
  number = line.number;
  section = line.section;
  at = present line.section text_at data_at;
  next = present line.section next.0 next.1;
}

-- all lines, from present addresses on
unfoldable pub listed_from : ℕ → ℕ → List SourceLine → Result (List ListedLine) AsmError
listed_from text_at data_at [] = Ok []
listed_from text_at data_at (line ∷ lines) = do
  next ← both_stepped text_at data_at line
  rest ← listed_from next.0 next.1 lines
  Ok (listed_line line text_at data_at next ∷ rest)

-- an image, the lines that it is made of, and the labels in the order of their lines
pub record Listing : Type 0 where
  pub image : Image
  pub lines : List ListedLine
  pub labels : Labels

-- a text's listing, or the refusal of its image
unfoldable pub listed : List ℕ → Result Listing AsmError
listed text = do
  source ← source_in text
  image ← laid_out text source
  lines ← listed_from 0 image.bytes_at source.lines
  Ok (record { image = image; lines = lines; labels = source.labels })

-- labels without where their names lie in memory
abbrev pub named_lines : List Label → Labels
named_lines labels = map (λ l. (l.name.now, l.line)) labels
