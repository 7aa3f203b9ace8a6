-- What is told of a source: where its lines stand, and its labels.
use Rattle.std.specs.Prelude.{◌≡◌, ℕ, List, ◌++◌, Vec, Result, Ok, Err, codes}
use Rattle.std.specs.List.{flat_map}
use Rattle.std.specs.Fmt.{decimal}
use Rattle.std.specs.declared.alloc.Global.{Global}
use Rattle.cell_base.specs.Records.{field, line_feed}
use Rattle.cell_io.specs.Files.{File}
use Rattle.spu_asm.specs.Assembling.{assembled}
use Rattle.spu_asm.specs.declared.error.AsmError.TheVariants.{At}
use Rattle.spu_asm.specs.declared.syntax.ListedLine.{ListedLine}
use Rattle.spu_asm.specs.declared.syntax.Section.{Section}
use Rattle.spu_asm.specs.declared.syntax.Section.TheVariants.{Text, Data}
use Rattle.spu_asm.specs.Listings.{Listing, listed}
use Rattle.cell_commands.specs.declared.fault.Fault.TheVariants.{Source as BadSource}
use Rattle.cell_commands.specs.declared.fault.FileId.TheVariants.{Source}
use Rattle.cell_commands.specs.Course.{whole, given}
use Rattle.cell_commands.specs.Forms.{text_limit}
use Rattle.trace_commands.specs.declared.fault.Fault.{Fault}
use Rattle.trace_commands.specs.declared.fault.Fault.TheVariants.{Input, Memory}
use Rattle.trace_commands.specs.Words.{Word}

abbrev pub section_name : Section → List ℕ
section_name Text = codes " text"
section_name Data = codes " data"

-- the number of a line, its section, its address, and the address behind it
abbrev pub listed_text : ListedLine → List ℕ
listed_text l = decimal l.number ++ section_name l.section ++ field l.at ++ field l.next ++ line_feed

-- the number of a label's line, and its name
abbrev pub label_text : List ℕ × ℕ → List ℕ
label_text label = codes "label" ++ field label.1 ++ codes " " ++ label.0 ++ line_feed

-- all lines, and then all labels
abbrev pub listing_text : Listing → List ℕ
listing_text l = flat_map listed_text l.lines ++ flat_map label_text l.labels

-- the source was read whole, and this is its listing
abbrev pub HasListing : List File → Word → Listing → Type 0
HasListing files source listing = (text : List ℕ) × (given files source text_limit ≡ whole text) × (listed text ≡ Ok listing)

-- of the text of a source its listing, or why the assembler refuses it
abbrev pub ListsText : List ℕ → Result (Vec ℕ Global) Fault → Type 0
ListsText text (Ok out) = (l : Listing) × (listed text ≡ Ok l) × (out.items ≡ listing_text l)
ListsText text (Err (Input (BadSource file line kind))) = (file ≡ Source 0) × (assembled text ≡ Err (At line kind))
ListsText text (Err Memory) = Unit {0}
ListsText text (Err other) = ⊥
