-- A statement is a directive with its arguments, or a mnemonic with its operands.
use Rattle.std.specs.Prelude.{ℕ, zero, suc, pos, Bool, true, false, List, [], ◌∷◌, length, Option, None, Some, Result, Ok, Err, if◌then◌else◌, nat_le, ◌==◌}
use Rattle.spu_lex.specs.declared.Token.{Token}
use Rattle.spu_decode.specs.declared.row.Row.TheVariants.{Ori}
use Rattle.spu_decode.specs.declared.shape.Operands.TheVariants.{RtRa}
use Rattle.spu_decode.specs.Spelling.{shape_of}
use Rattle.spu_asm.specs.declared.error.AsmKind.{AsmKind}
use Rattle.spu_asm.specs.declared.error.AsmKind.TheVariants.{UnknownName, BadDirective, BadOperand}
use Rattle.spu_asm.specs.declared.syntax.Directive.{Directive}
use Rattle.spu_asm.specs.declared.syntax.Directive.TheVariants as directives
use Rattle.spu_asm.specs.declared.syntax.Expression.{Expression}
use Rattle.spu_asm.specs.declared.syntax.Mnemonic.{Mnemonic}
use Rattle.spu_asm.specs.declared.syntax.Mnemonic.TheVariants as mnemonics
use Rattle.spu_asm.specs.declared.syntax.Section.{Section}
use Rattle.spu_asm.specs.declared.syntax.Section.TheVariants as sections
use Rattle.spu_asm.specs.declared.syntax.Size.TheVariants as sizes
use Rattle.spu_asm.specs.declared.syntax.Statement.{Statement}
use Rattle.spu_asm.specs.declared.syntax.Statement.TheVariants as statements
use Rattle.spu_asm.specs.Expressions.{expression_at, number_only}
use Rattle.spu_asm.specs.Names.{directive_named, mnemonic_named, section_named}
use Rattle.spu_asm.specs.Operands.{operands_of}
use Rattle.spu_asm.specs.Outcomes.{or_else}
use Rattle.spu_asm.specs.Reading.{◌>>=◌, word, is_name, is_text, mark_at, number_at, ended}
use Rattle.spu_asm.specs.Strings.{string_value}

-- one or more expressions with commas (44) between; there are at most as many as tokens
unfoldable pub expressions_in : ℕ → List ℕ → List Token → Option (List Expression)
expressions_in zero text ts = None
expressions_in (suc n) text ts = do
  e ← expression_at text ts
  others ← (if length e.1 == 0 then Some [] else (mark_at text 44 e.1 >>= λ after. expressions_in n text after))
  Some (e.0 ∷ others)

abbrev pub expressions_of : List ℕ → List Token → Option (List Expression)
expressions_of text ts = expressions_in (length ts) text ts

-- a number and nothing more
abbrev pub lone_number : List ℕ → List Token → Option ℕ
lone_number text ts = number_at text ts >>= λ n. ended n.0 n.1

-- bytes, halfwords and strings may stand in data alone
abbrev pub is_allowed_in : Section → Directive → Bool
is_allowed_in sections.Text (directives.Values sizes.Byte) = false
is_allowed_in sections.Text (directives.Values sizes.Half) = false
is_allowed_in sections.Text (directives.Text zero_byte) = false
is_allowed_in _ _ = true

-- a directive with its arguments, where they are of its form
unfoldable pub argued : List ℕ → Directive → List Token → Option Statement
argued text directives.Skipped ts = Some statements.Nothing
argued text (directives.Choose section) ts = ended (statements.Choose section) ts
argued text directives.ChooseNamed [] = None
argued text directives.ChooseNamed (t ∷ ts) = if is_name t.kind then Some (statements.Choose (section_named (word text t))) else None
argued text directives.Align ts = lone_number text ts >>= λ n. if nat_le n 12 then Some (statements.Align n) else None
argued text directives.Org ts = lone_number text ts >>= λ n. Some (statements.Org n)
argued text directives.Skip ts = lone_number text ts >>= λ n. Some (statements.Skip n)
argued text (directives.Values size) ts = expressions_of text ts >>= λ es. Some (statements.Values size (length es))
argued text (directives.Text zero_byte) [] = None
argued text (directives.Text zero_byte) (t ∷ ts) =
    if is_text t.kind
    then ended (statements.Bytes (length (string_value (word text t))) zero_byte) ts
    else None

-- a directive in a section
abbrev pub directed : List ℕ → Section → Directive → List Token → Option Statement
directed text section directive ts = if is_allowed_in section directive then argued text directive ts else None

-- a row with its operands; `lr rt,ra` is `ori rt,ra,0`
unfoldable pub operated : List ℕ → Mnemonic → List Token → Option Statement
operated text (mnemonics.Row row) ts = operands_of text (shape_of row).operands ts >>= λ g. Some (statements.Instruction row g)
operated text mnemonics.LoadRegister ts = operands_of text RtRa ts >>= λ g. Some (statements.Instruction Ori (record g { value = Some (number_only (pos 0)) }))

-- the statement that a name begins, by what the name is
abbrev pub by_name : List ℕ → Section → List Token → Option Directive → Option Mnemonic → Result Statement AsmKind
by_name text section ts (Some d) m = or_else BadDirective (directed text section d ts)
by_name text section ts None (Some m) = or_else BadOperand (operated text m ts)
by_name text section ts None None = Err UnknownName

-- the statement that a name begins
unfoldable pub named : List ℕ → Section → List ℕ → List Token → Result Statement AsmKind
named text section name ts = by_name text section ts (directive_named name) (mnemonic_named name)

-- the statement of the tokens after the labels
unfoldable pub statement_of : List ℕ → Section → List Token → Result Statement AsmKind
statement_of text section [] = Ok statements.Nothing
statement_of text section (t ∷ ts) = if is_name t.kind then named text section (word text t) ts else Err UnknownName

abbrev pub expressions_or_none : Option (List Expression) → List Expression
expressions_or_none (Some es) = es
expressions_or_none None = []

-- the expressions that arguments are
abbrev pub expressions_among : List ℕ → List Token → List Expression
expressions_among text ts = expressions_or_none (expressions_of text ts)

-- the bytes of the string that arguments are
abbrev pub string_among : List ℕ → List Token → List ℕ
string_among text [] = []
string_among text (t ∷ ts) = string_value (word text t)
