use Rattle.std.proofs.Common.{◌-◌, All, length}
use Rattle.spu_asm.specs.Expressions.{IsOf}
use Rattle.spu_asm.specs.Reading.{Within}
use Rattle.spu_asm.specs.Statements.{expressions_of}
use Rattle.spu_asm.proofs.Counting.{Lists}
use Rattle.spu_asm.proofs.lists.expressions.Given as goal

abbrev pub invariant-loop : goal.invariant-loop
invariant-loop l = record {
  lists : Lists l.text l.found.items (length l.tokens - l.counter) l.rest (expressions_of l.text l.tokens);
  of : All (IsOf l.text) l.found.items;
  within : Within l.text l.rest;
}
