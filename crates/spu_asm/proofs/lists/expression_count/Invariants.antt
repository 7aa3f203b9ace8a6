use Rattle.std.proofs.Common.{◌≡◌, ◌+◌, ◌-◌, length}
use Rattle.std.specs.Option.{option_map}
use Rattle.spu_asm.specs.Reading.{Within}
use Rattle.spu_asm.specs.Statements.{expressions_in, expressions_of}
use Rattle.spu_asm.proofs.lists.expression_count.Given as goal

abbrev pub invariant-loop : goal.invariant-loop
invariant-loop l = (option_map (λ es. l.count + length es) (expressions_in (length l.tokens - l.counter) l.text l.rest) ≡ option_map (λ es. length es) (expressions_of l.text l.tokens)) × (l.count ≡ l.counter) × Within l.text l.rest
