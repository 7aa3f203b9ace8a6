-- What is read of the bytes of a question, part by part.
use Rattle.std.specs.Prelude.{◌≡◌, ◌⊎◌, ℕ, List, [], ◌∷◌, ◌++◌, map, Vec, String, string_bytes, Some, None, Result, Ok, Err}
use Rattle.std.specs.Str.{IsUtf8}
use Rattle.std.specs.declared.alloc.Global.{Global}
use Rattle.cell_base.specs.Words.{lines_of}
use Rattle.cell_io.specs.Files.{File, HasDifferentNames}
use Rattle.cell_library.specs.declared.bundle.BundleError.{BundleError}
use Rattle.cell_library.specs.declared.bundle.BundleError.TheVariants.{Form, Memory}
use Rattle.cell_library.specs.Question.{AreTexts, Bundles, HasTwins, IsQuestion, IsNoQuestion}

-- the bytes are this text, or they are none
abbrev pub IsText : List ℕ → Result (String Global) BundleError → Type 0
IsText bytes (Ok text) = (string_bytes text ≡ bytes) × IsUtf8 bytes
IsText bytes (Err Form) = ¬ (IsUtf8 bytes)
IsText bytes (Err Memory) = Unit {0}

-- the words are the lines, each a text; or one isn't
abbrev pub ReadsWords : List ℕ → Result (Vec (String Global) Global) BundleError → Type 0
ReadsWords bytes (Ok words) = (map string_bytes words.items ≡ lines_of bytes) × AreTexts (lines_of bytes)
ReadsWords bytes (Err Form) = ¬ (AreTexts (lines_of bytes))
ReadsWords bytes (Err Memory) = Unit {0}

-- a file was added, or its name is no text
abbrev pub KeepsFile : {T : Type 0} → File → List File → List File → Result T BundleError → Type 0
KeepsFile file old new (Ok done) = (new ≡ old ++ file ∷ []) × IsUtf8 file.name
KeepsFile file old new (Err Form) = ¬ (IsUtf8 file.name)
KeepsFile file old new (Err Memory) = Unit {0}

-- the files that the bytes are, or they aren't
abbrev pub ReadsAll : List ℕ → Result (Vec File Global) BundleError → Type 0
ReadsAll bytes (Ok files) = Bundles bytes (Some files.items)
ReadsAll bytes (Err Form) = Bundles bytes None
ReadsAll bytes (Err Memory) = Unit {0}

-- the same, and no two have one name
abbrev pub ReadsFiles : List ℕ → Result (Vec File Global) BundleError → Type 0
ReadsFiles bytes (Ok files) = Bundles bytes (Some files.items) × HasDifferentNames files.items
ReadsFiles bytes (Err Form) = Bundles bytes None ⊎ HasTwins bytes
ReadsFiles bytes (Err Memory) = Unit {0}

-- words and files, or they are no question
abbrev pub ReadsBoth : List ℕ → List ℕ → Result (Vec (String Global) Global × Vec File Global) BundleError → Type 0
ReadsBoth words files (Ok both) = (map string_bytes both.0.items ≡ lines_of words) × IsQuestion words files both.1.items
ReadsBoth words files (Err Form) = IsNoQuestion words files
ReadsBoth words files (Err Memory) = Unit {0}
