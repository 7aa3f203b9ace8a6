-- What is known of lines that were read.
use Rattle.std.specs.Prelude.{◌≡◌, ◌≤◌, ℕ, true, List, [], ◌∷◌, length}
use Rattle.spu_lex.specs.declared.Token.{Token}
use Rattle.spu_asm.specs.declared.syntax.Directive.TheVariants as directives
use Rattle.spu_asm.specs.declared.syntax.Line.{Line}
use Rattle.spu_asm.specs.declared.syntax.Section.{Section}
use Rattle.spu_asm.specs.declared.syntax.Statement.{Statement}
use Rattle.spu_asm.specs.declared.syntax.Statement.TheVariants.{Align, Values, Bytes, Instruction}
use Rattle.spu_asm.specs.Operands.{GivenFits}
use Rattle.spu_asm.specs.Reading.{Within}
use Rattle.spu_asm.specs.Source.{SourceLine}
use Rattle.spu_asm.specs.Statements.{expressions_among, string_among, is_allowed_in}

-- a statement of a section says how long its arguments are, and its operands fit
abbrev pub IsRead : List ℕ → Section → Statement → List Token → Type 0
IsRead text section (Align n) ts = n ≤ 12
IsRead text section (Values size count) ts = (count ≡ length (expressions_among text ts)) × (is_allowed_in section (directives.Values size) ≡ true)
IsRead text section (Bytes n zero_byte) ts = (n ≡ length (string_among text ts)) × (is_allowed_in section (directives.Text zero_byte) ≡ true)
IsRead text section (Instruction row g) ts = GivenFits text g
IsRead text section _ ts = Unit {0}

abbrev pub IsReadLine : List ℕ → Line → Type 0
IsReadLine text l = IsRead text l.section l.statement l.arguments.now × Within text l.arguments.now

-- what is known of each line
abbrev pub AllRead : List ℕ → List SourceLine → Type 0
AllRead text [] = Unit {0}
AllRead text (l ∷ ls) = IsRead text l.section l.statement l.arguments × AllRead text ls

-- alignment is to 2^12 at most
abbrev pub IsSmall : Statement → Type 0
IsSmall (Align n) = n ≤ 12
IsSmall _ = Unit {0}
