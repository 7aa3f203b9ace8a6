-- What names stand for that begin a statement, or name a section.
use Rattle.std.specs.Prelude.{ℕ, Bool, true, false, ◌||◌, List, [], ◌∷◌, take, length, Option, None, Some, if◌then◌else◌, codes}
use Rattle.std.specs.List.{list_any}
use Rattle.std.specs.Str.{bytes_eq}
use Rattle.spu_decode.specs.Names.{row_named}
use Rattle.spu_asm.specs.declared.syntax.Directive.{Directive}
use Rattle.spu_asm.specs.declared.syntax.Directive.TheVariants as directives
use Rattle.spu_asm.specs.declared.syntax.Mnemonic.{Mnemonic}
use Rattle.spu_asm.specs.declared.syntax.Mnemonic.TheVariants as mnemonics
use Rattle.spu_asm.specs.declared.syntax.Section.{Section}
use Rattle.spu_asm.specs.declared.syntax.Section.TheVariants as sections
use Rattle.spu_asm.specs.declared.syntax.Size.TheVariants as sizes
use Rattle.spu_asm.specs.Reading.{◌>>=◌}

abbrev pub is_one_of : List ℕ → List (List ℕ) → Bool
is_one_of name names = list_any (bytes_eq name) names

abbrev pub begins_with : List ℕ → List ℕ → Bool
begins_with start name = bytes_eq start (take (length start) name)

abbrev pub is_remark : List ℕ → Bool
is_remark name = is_one_of name (codes ".file" ∷ codes ".global" ∷ codes ".globl" ∷ codes ".type" ∷ codes ".size" ∷ codes ".ident" ∷ codes ".local" ∷ codes ".extern" ∷ codes ".weak" ∷ codes ".loc" ∷ [])

-- names whose lines are skipped
abbrev pub is_skipped : List ℕ → Bool
is_skipped name = is_remark name || begins_with (codes ".cfi_") name

-- the directive of a name
unfoldable pub directive_named : List ℕ → Option Directive
directive_named name =
    if bytes_eq name (codes ".text") then Some (directives.Choose sections.Text)
    else (if is_one_of name (codes ".data" ∷ codes ".bss" ∷ codes ".rodata" ∷ []) then Some (directives.Choose sections.Data)
    else (if bytes_eq name (codes ".section") then Some directives.ChooseNamed
    else (if is_one_of name (codes ".align" ∷ codes ".p2align" ∷ []) then Some directives.Align
    else (if bytes_eq name (codes ".org") then Some directives.Org
    else (if is_one_of name (codes ".skip" ∷ codes ".space" ∷ []) then Some directives.Skip
    else (if is_one_of name (codes ".long" ∷ codes ".word" ∷ codes ".int" ∷ codes ".4byte" ∷ []) then Some (directives.Values sizes.Word)
    else (if is_one_of name (codes ".quad" ∷ codes ".8byte" ∷ []) then Some (directives.Values sizes.Double)
    else (if bytes_eq name (codes ".byte") then Some (directives.Values sizes.Byte)
    else (if is_one_of name (codes ".short" ∷ codes ".hword" ∷ codes ".2byte" ∷ []) then Some (directives.Values sizes.Half)
    else (if bytes_eq name (codes ".ascii") then Some (directives.Text false)
    else (if is_one_of name (codes ".asciz" ∷ codes ".string" ∷ []) then Some (directives.Text true)
    else (if is_skipped name then Some directives.Skipped
    else None))))))))))))

-- a section's name: `.text`, or one that begins with `.text.`, is the text section, any other the data section
abbrev pub section_named : List ℕ → Section
section_named name = if bytes_eq name (codes ".text") || begins_with (codes ".text.") name then sections.Text else sections.Data

-- a name as an operation of the processor: the short form `lr`, or a row of the instruction table
unfoldable pub mnemonic_named : List ℕ → Option Mnemonic
mnemonic_named name =
    if bytes_eq name (codes "lr") then Some mnemonics.LoadRegister
    else (row_named name >>= λ row. Some (mnemonics.Row row))
