-- What is read of a machine file and its sources.
use Rattle.std.proofs.Common.{◌≡◌, ◌∙◌, ℕ, ◌+◌, ◌<◌, List, [], ◌∷◌, ◌++◌, length, map, take, drop, drop-cons, get_or, Option, Some, Result, Ok, Err, refl, sym, ap, add-one}
use Rattle.std.specs.Option.{option_map}
use Rattle.std.proofs.lemmas.List.{map_push, take_more}
use Rattle.std.proofs.Math.ListN.{get_or-map, length-map}
use Rattle.cell_io.specs.Files.{File}
use Rattle.spu_asm.specs.Assembling.{assembled}
use Rattle.spu_asm.specs.Images.{Image}
use Rattle.spu_asm.specs.declared.error.AsmError.{AsmError}
use Rattle.spu_asm.specs.declared.error.AsmError.TheVariants.{At, Memory as AsmMemory}
use Rattle.spu_asm.specs.declared.syntax.ListedLine.{ListedLine}
use Rattle.spu_asm.specs.Listings.{listed}
use Rattle.spu_asm.specs.Outcomes.{Gives, Shows}
use Rattle.cell_load.specs.declared.source.SourceName.{SourceName}
use Rattle.cell_load.specs.Sources.{named}
use Rattle.cell_commands.specs.declared.fault.FileId.{FileId}
use Rattle.cell_commands.specs.Task.{Task, text_of, ready, read}
use Rattle.cell_commands.specs.Course.{Given, nothing, too_long, whole, given, WithGiven, Settles}
use Rattle.cell_commands.specs.Forms.{text_limit}
use Rattle.cell_commands.specs.Answer.{Leads}
use Rattle.hunt_reports.specs.declared.origins.Source.{Source}
use Rattle.hunt_command.specs.Heard.{Word}
use Rattle.std.specs.Prelude.{IfOk, option_and_then}
use Rattle.hunt_command.specs.Statements.{statements_in}
use Rattle.cell_load.specs.Entries.{Entry}
use Rattle.cell_machine.specs.Opening.{Opening}
use Rattle.cell_commands.specs.declared.fault.Fault.{Fault}
use Rattle.hunt_reports.specs.declared.origins.Places.{Places}
use Rattle.hunt_command.specs.Sources.{Seen, seen, lines_listed, source_lines, source_statements, source_named, AreSources, IsMachineText, ArePlaces, HasPlaces}

-- what is done with the text of a file that is all that is looked for
abbrev pub to_text : List ℕ → Task
to_text text = ready (text_of text)

whole_of : (file : FileId) (g : Given) (bytes : List ℕ) → WithGiven file g (Ok (text_of bytes)) (λ b. Settles [] (to_text b) (Ok (text_of bytes))) → g ≡ whole bytes
whole_of file nothing bytes h = absurd (cc)
whole_of file too_long bytes h = absurd (cc)
whole_of file (whole b) bytes h = cc

pub text_read : (files : List File) (file : FileId) (name : Word) (bytes : List ℕ) → Leads files (read file name text_limit to_text) (to_text bytes) → given files name text_limit ≡ whole bytes
text_read files file name bytes leads = whole_of file (given files name text_limit) bytes (leads.settles (Ok (text_of bytes)) refl)

-- a refusal of a text says nothing of a value
pub refuses_text : {A : Type 0} (view : A → Image) (error : AsmError) (text : List ℕ) → Shows {A = A} view (Err error) (assembled text) → Gives {A = Image} (Err error) (assembled text)
refuses_text view AsmMemory text h = tt
refuses_text view (At line kind) text h = h

-- the lines of the text of a source are those of the source
pub lines_read : (files : List File) (name : Word) (text : List ℕ) (lines : List ListedLine) → given files name text_limit ≡ whole text → lines_listed (listed text) ≡ Some lines → source_lines files name ≡ Some lines
lines_read files name text lines is listed_are = rw is listed_are

-- and so are their statements
pub statements_read : (files : List File) (name : Word) (text : List ℕ) (statements : List (List ℕ)) → given files name text_limit ≡ whole text → statements ≡ statements_in text → source_statements files name ≡ Some statements
statements_read files name text statements is said = rw is (ap Some (sym said))

-- what is left from a place on begins with the source there
pub first_left : (sources : List SourceName) (at : ℕ) (s : SourceName) → at < length sources → s ≡ get_or sources at s → drop at (map named sources) ≡ named s ∷ drop (at + 1) (map named sources)
first_left sources at s h is =
    let within : at < length (map named sources) = rw length-map h in
    let here : get_or (map named sources) at (named s) ≡ named s = get_or-map named sources at s ∙ ap named (sym is) in
    let first : drop at (map named sources) ≡ get_or (map named sources) at (named s) ∷ drop (at + 1) (map named sources) = rw add-one (drop-cons (map named sources) at (named s) within) in
    first ∙ ap (λ x. x ∷ drop (at + 1) (map named sources)) here

some_all : (sources : List Source) → map (λ s. Some (seen s)) sources ≡ map (λ (x : Seen). Some x) (map seen sources)
some_all [] = refl
some_all (s ∷ sources) = ap (λ l. Some (seen s) ∷ l) (some_all sources)

-- one source more
pub sources_more : (files : List File) (names : List SourceName) (at : ℕ) (s : SourceName) (name : Word) (lines : List ListedLine) (statements : List (List ℕ)) (old new : List Source) → at < length names → s ≡ get_or names at s → name ≡ (named s).name
    → source_lines files name ≡ Some lines → source_statements files name ≡ Some statements → map seen new ≡ map seen old ++ record { name = name; lines = lines; statements = statements } ∷ []
    → AreSources files (take at (map named names)) old → AreSources files (take (at + 1) (map named names)) new
sources_more files names at s name lines statements old new inside is same found stated more so_far =
    let within : at < length (map named names) = rw length-map inside in
    let here : get_or (map named names) at (named s) ≡ named s = get_or-map named names at s ∙ ap named (sym is) in
    let these : List (Option Seen) = map (source_named files) (take at (map named names)) in
    let last : source_named files (named s) ≡ Some (record { name = name; lines = lines; statements = statements }) =
    rw (← same)
    (ap (λ (o : Option (List ListedLine)). option_and_then (λ ls. option_map (λ sts. record { name = name; lines = ls; statements = sts }) (source_statements files name)) o) found
    ∙ ap (λ (o : Option (List (List ℕ))). option_map (λ sts. record { name = name; lines = lines; statements = sts }) o) stated) in
    let all : map (source_named files) (take (at + 1) (map named names)) ≡ these ++ source_named files (get_or (map named names) at (named s)) ∷ [] =
    ap (map (source_named files)) (take_more (map named names) at (named s) within) ∙ map_push (source_named files) (take at (map named names)) (get_or (map named names) at (named s)) in
    let one : Seen = record { name = name; lines = lines; statements = statements } in
    some_all new ∙ ap (map (λ (x : Seen). Some x)) more ∙ map_push (λ (x : Seen). Some x) (map seen old) one ∙ ap (λ l. l ++ Some one ∷ []) (sym (some_all old) ∙ so_far) ∙ ap (λ o. these ++ o ∷ []) (sym last)
    ∙ ap (λ n. these ++ source_named files n ∷ []) (sym here) ∙ sym all

-- what the lines of the machine file place
pub has_places : (files : List File) (machine : Word) (text : List ℕ) (entries : List Entry) (result : Result (Opening × Places) Fault) → IsMachineText files machine text entries → IfOk result (λ m. ArePlaces files text entries m.1)
    → IfOk result (λ m. HasPlaces files machine m.1)
has_places files machine text entries (Ok m) is placed = record { text = text; entries = entries; is = is; placed = placed }
has_places files machine text entries (Err fault) is placed = tt
