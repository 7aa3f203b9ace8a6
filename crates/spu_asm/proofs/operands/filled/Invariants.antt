use Rattle.std.proofs.Common.{◌≡◌, drop}
use Rattle.spu_asm.specs.Reading.{Within}
use Rattle.spu_asm.specs.Operands.{filled, GivenFits}
use Rattle.spu_asm.proofs.operands.filled.Given as goal

abbrev pub invariant-loop-slot : goal.invariant-loop-slot
invariant-loop-slot l = GivenFits l.text l.all × Within l.text l.rest × (filled l.text (drop l.slot-index l.slots) l.all l.rest ≡ filled l.text l.slots l.fn.given l.tokens)
