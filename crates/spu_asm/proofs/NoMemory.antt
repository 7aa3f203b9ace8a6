-- Want of memory is nothing that a text stands for.
use Rattle.std.proofs.Common.{ℕ, ◌+◌, Bool, true, false, cond, List, [], ◌∷◌, Result, Ok, Err, refl}
use Rattle.std.specs.Prelude.{◌≢◌}
use Rattle.spu_lex.specs.declared.LexError.{LexError}
use Rattle.spu_lex.specs.declared.LexError.TheVariants as faults
use Rattle.spu_lex.specs.declared.Token.{Token}
use Rattle.spu_lex.specs.Tokens.{tokens_of}
use Rattle.spu_lex.proofs.NoMemory.{tokens_no_memory}
use Rattle.spu_asm.specs.declared.error.AsmError.{AsmError}
use Rattle.spu_asm.specs.declared.error.AsmError.TheVariants.{At, Memory}
use Rattle.spu_asm.specs.declared.error.AsmKind.{AsmKind}
use Rattle.spu_asm.specs.declared.syntax.Section.{Section}
use Rattle.spu_asm.specs.declared.syntax.Section.TheVariants.{Text, Data}
use Rattle.spu_asm.specs.Images.{Image}
use Rattle.spu_asm.specs.Outcomes.{◌>>=◌, on_line}
use Rattle.spu_asm.specs.Source.{Labels, SourceLine, Source, after_labels, labels_of, section_after, source_from, with_labels}
use Rattle.spu_asm.specs.Statements.{statement_of}
use Rattle.spu_asm.specs.Layout.{stepped, addresses, placed, same_section}
use Rattle.spu_asm.specs.Assembling.{lexed, sections_of, laid_out, assembled}

-- what is given, or a fault of a line
abbrev IsTold : {A : Type 0} → Result A AsmError → Type 0
IsTold (Ok x) = Unit {0}
IsTold (Err Memory) = ⊥
IsTold (Err fault) = Unit {0}

lexed-told : (text : List ℕ) (r : Result (List Token) LexError) → r ≢ Err faults.Memory → IsTold (lexed text r)
lexed-told text (Ok tokens) h = tt
lexed-told text (Err (faults.BadChar at)) h = tt
lexed-told text (Err (faults.BadNumber at)) h = tt
lexed-told text (Err faults.Memory) h = h refl

then-told : {A B : Type 0} (r : Result A AsmError) (go_on : A → Result B AsmError) → IsTold r → ((x : A) → IsTold (go_on x)) → IsTold (r >>= go_on)
then-told (Ok x) go_on h g = g x
then-told (Err (At line kind)) go_on h g = tt
then-told (Err Memory) go_on h g = h

line-told : {A : Type 0} (number : ℕ) (r : Result A AsmKind) → IsTold (on_line number r)
line-told number (Ok x) = tt
line-told number (Err kind) = tt

source-told : (lines : List (List Token)) (text : List ℕ) (number : ℕ) (section : Section) (labels : Labels) → IsTold (source_from text number section labels lines)
unfolding source_from
source-told [] text number section labels = tt
source-told (line ∷ lines) text number section labels =
    then-told _ _ (line-told number (statement_of text section (after_labels text line))) (λ statement.
    then-told _ _ (line-told number (with_labels labels number (labels_of text line))) (λ more.
    then-told _ _ (source-told lines text (number + 1) (section_after section statement) more) (λ rest. tt)))

-- ---- addresses and values

stepped-told : (section : Section) (at : ℕ) (line : SourceLine) → IsTold (stepped section at line)
stepped-told section at line = on (same_section section line.section)
  where
    on : (b : Bool) → IsTold (cond b (on_line line.number (placed section at line.statement)) (Ok at))
    on true = line-told line.number (placed section at line.statement)
    on false = tt

addresses-told : (lines : List SourceLine) (section : Section) (at : ℕ) → IsTold (addresses section at lines)
unfolding addresses
addresses-told [] section at = tt
addresses-told (line ∷ lines) section at =
    then-told _ _ (stepped-told section at line) (λ next. then-told _ _ (addresses-told lines section next) (λ rest. tt))

sections-told : (lines : List SourceLine) (text : List ℕ) (labels : Labels) (all_places rest : List ℕ) → IsTold (sections_of text labels all_places lines rest)
unfolding sections_of
sections-told [] text labels all_places rest = tt
sections-told (line ∷ lines) text labels all_places [] = tt
sections-told (line ∷ lines) text labels all_places (at ∷ rest) =
    then-told _ _ (line-told line.number _) (λ bytes. then-told _ _ (sections-told lines text labels all_places rest) (λ others. tt))

laid-told : (text : List ℕ) (source : Source) → IsTold (laid_out text source)
unfolding laid_out
laid-told text source =
    then-told _ _ (addresses-told source.lines Text 0) (λ text_at.
    then-told _ _ (addresses-told source.lines Data _) (λ data_at. then-told _ _ (sections-told source.lines text source.labels _ _) (λ made. tt)))

assembled-told : (text : List ℕ) → IsTold (assembled text)
unfolding assembled
assembled-told text =
    then-told _ _ (then-told _ _ (lexed-told text (tokens_of text) (tokens_no_memory text)) (λ tokens. source-told _ text 1 Text [])) (λ source. laid-told text source)

told-is : (r : Result Image AsmError) → IsTold r → r ≢ Err Memory
told-is (Ok image) h e = cc
told-is (Err (At line kind)) h e = cc
told-is (Err Memory) h e = h

pub assembled_no_memory : (text : List ℕ) → assembled text ≢ Err Memory
assembled_no_memory text = told-is (assembled text) (assembled-told text)
