-- What is read of a source.
use Rattle.std.proofs.Common.{◌≡◌, ◌∙◌, ◌++◌, ℕ, List, [], Vec, Result, Ok, Err, refl, sym, ap, subst}
use Rattle.std.specs.List.{flat_map}
use Rattle.std.specs.declared.alloc.Global.{Global}
use Rattle.std.proofs.lemmas.List.Folds.{flat_map-map}
use Rattle.cell_io.specs.Files.{File}
use Rattle.cell_io.specs.Store.{Ledger}
use Rattle.spu_asm.specs.Assembling.{assembled}
use Rattle.spu_asm.specs.declared.syntax.Label.{Label}
use Rattle.spu_asm.specs.declared.syntax.ListedLine.{ListedLine}
use Rattle.spu_asm.specs.Listings.{Listing, named_lines}
use Rattle.cell_report.specs.Images.{image_lines}
use Rattle.cell_commands.specs.declared.fault.Fault.{Fault as InputFault}
use Rattle.cell_commands.specs.declared.fault.Fault.TheVariants as input
use Rattle.cell_commands.specs.declared.fault.FileId.{FileId}
use Rattle.cell_commands.specs.declared.fault.FileId.TheVariants.{Source}
use Rattle.cell_commands.specs.Task.{Task, text_of, ready, read}
use Rattle.cell_commands.specs.Course.{Given, nothing, too_long, whole, given, WithGiven, Settles}
use Rattle.cell_commands.specs.Forms.{asm_task, text_limit, with_image}
use Rattle.cell_commands.specs.Answer.{Leads, RefusesIn, AtFile, FailsBy as InputFailsBy}
use Rattle.trace_commands.specs.declared.fault.Fault.{Fault}
use Rattle.trace_commands.specs.declared.fault.Fault.TheVariants.{Input, ReadFault, Memory}
use Rattle.trace_commands.specs.Words.{Word, lined}
use Rattle.trace_commands.specs.Code.{told_as}
use Rattle.trace_commands.specs.Answers.{Comes}
use Rattle.trace_commands.specs.Files.{SourceRefuses, FailsAtFile}
use Rattle.trace_commands.specs.Listings.{ListsText, label_text, listed_text, listing_text}

-- what `cell asm` does with the text of a source
abbrev pub to_image : List ℕ → Task
to_image text = with_image (Source 0) (assembled text) (λ image. ready (text_of (image_lines image)))

-- what is done with the text of a source, where it is all that is looked for
abbrev pub to_source : List ℕ → Task
to_source text = ready (text_of text)

pub source_refuses : (files : List File) (source : Word) (old new : Ledger) (fault : InputFault) → RefusesIn files (asm_task source) old new fault → SourceRefuses files source old new (told_as fault)
source_refuses files source old new input.Memory r = tt
source_refuses files source old new fault r = r

pub file_cause : (file : FileId) (name : Word) (old new : Ledger) (fault : InputFault) → InputFailsBy {V = List ℕ} (AtFile file name) old new (Err fault) → FailsAtFile file name old new (told_as fault)
file_cause file name old new input.Memory c = tt
file_cause file name old new (input.ReadFault failed) c = c
file_cause file name old new fault c = tt

whole_of : (g : Given) (bytes : List ℕ) → WithGiven (Source 0) g (Ok (text_of bytes)) (λ b. Settles [] (to_source b) (Ok (text_of bytes))) → g ≡ whole bytes
whole_of nothing bytes h = absurd (cc)
whole_of too_long bytes h = absurd (cc)
whole_of (whole b) bytes h = cc

pub source_read : (files : List File) (source : Word) (bytes : List ℕ) → Leads files (read (Source 0) source text_limit to_source) (to_source bytes) → given files source text_limit ≡ whole bytes
source_read files source bytes leads = whole_of (given files source text_limit) bytes (leads.settles (Ok (text_of bytes)) refl)

pub listing_comes : (files : List File) (source : Word) (old new : Ledger) (text : List ℕ) (result : Result (Vec ℕ Global) Fault) → given files source text_limit ≡ whole text → Leads files (asm_task source) (to_image text) → ListsText text result
    → Comes files (lined source) old new result
listing_comes files source old new text (Ok out) is leads h = (h.0, (text, is, h.1), h.2)
listing_comes files source old new text (Err (Input (input.Source file line kind))) is leads h =
    leads.settles (Err (input.Source file line kind)) (rw (h.0, h.1) refl)
listing_comes files source old new text (Err Memory) is leads h = tt
listing_comes files source old new text (Err other) is leads h = absurd h

pub listing_reads_on : (source : Word) (old new : Ledger) (text : List ℕ) (result : Result (Vec ℕ Global) Fault) → ListsText text result → (fault : Fault) → result ≡ Err fault → FailsAtFile (Source 0) source old new fault
listing_reads_on source old new text result h (Input (input.ReadFault file)) is = absurd (subst (ListsText text) is h)
listing_reads_on source old new text result h ReadFault is = absurd (subst (ListsText text) is h)
listing_reads_on source old new text result h fault is = tt

-- ---- its text

pub all_text : (l : Listing) (lines : List ListedLine) (labels : List Label) (first mid last : List ℕ) → lines ≡ l.lines → named_lines labels ≡ l.labels → first ≡ []
    → mid ≡ first ++ flat_map listed_text lines → last ≡ mid ++ flat_map (λ (e : Label). label_text (e.name.now, e.line)) labels → last ≡ listing_text l
all_text l lines labels first mid last same_lines same_labels none one two =
    two ∙ ap (λ (t : List ℕ). t ++ flat_map (λ (e : Label). label_text (e.name.now, e.line)) labels) (one ∙ ap (λ (t : List ℕ). t ++ flat_map listed_text lines) none ∙ ap (λ (ls : List ListedLine). flat_map listed_text ls) same_lines)
    ∙ ap (λ (t : List ℕ). flat_map listed_text l.lines ++ t) (sym (flat_map-map label_text (λ (e : Label). (e.name.now, e.line)) labels) ∙ ap (λ (ls : List (List ℕ × ℕ)). flat_map label_text ls) same_labels)
