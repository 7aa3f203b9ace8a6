-- The values of labels and expressions.
use Rattle.std.specs.Prelude.{ℕ, ◌-◌, ◌/◌, ◌%◌, ℤ, pos, negsuc, ◌+ℤ◌, List, Option, None, Some, slice_get}
use Rattle.spu_lex.specs.declared.Token.{Token}
use Rattle.spu_asm.specs.declared.syntax.Part.{Part}
use Rattle.spu_asm.specs.declared.syntax.Part.TheVariants.{Whole, High, Low}
use Rattle.spu_asm.specs.declared.syntax.Expression.{Expression}
use Rattle.spu_asm.specs.Reading.{◌>>=◌, word}
use Rattle.spu_asm.specs.Source.{Labels, line_of}

-- a label's value is the address of its line
abbrev pub value_of_label : Labels → List ℕ → List ℕ → Option ℕ
value_of_label labels places name = line_of labels name >>= λ number. slice_get places (number - 1)

-- whole numbers divided and left over, downwards
abbrev pub quotient : ℤ → ℕ → ℤ
quotient (pos a) n = pos (a / n)
quotient (negsuc a) n = negsuc (a / n)

abbrev pub modulo : ℤ → ℕ → ℕ
modulo (pos a) n = a % n
modulo (negsuc a) n = n - 1 - a % n

-- `@h` is the value shifted right by 16, `@l` its low 16 bits
abbrev pub part_of : Part → ℤ → ℤ
part_of Whole v = v
part_of High v = quotient v 65536
part_of Low v = pos (modulo v 65536)

-- the value of an expression, where its label is defined
abbrev pub value_with : List ℕ → Labels → List ℕ → Expression → Option Token → Option ℤ
value_with text labels places e None = Some e.offset
value_with text labels places e (Some t) = value_of_label labels places (word text t) >>= λ at. Some (part_of e.part (pos at +ℤ e.offset))

unfoldable pub value_of : List ℕ → Labels → List ℕ → Expression → Option ℤ
value_of text labels places e = value_with text labels places e e.label
