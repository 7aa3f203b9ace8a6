use Rattle.std.proofs.Common.{length, arith}
use Rattle.spu_lex.proofs.Laws.{lie_in, count_le}
use Rattle.spu_asm.proofs.tokens_in.Goals as goal

pub returns-in-Ok-clause-within : goal.returns-in-Ok-clause-within
returns-in-Ok-clause-within c = lie_in 0 (length c.args.text.now) c.in-Ok.tokens c.in-Ok.ensures.ordered

pub returns-in-Ok-clause-count : goal.returns-in-Ok-clause-count
returns-in-Ok-clause-count c = omega (arith, count_le 0 (length c.args.text.now) c.in-Ok.tokens c.in-Ok.ensures.ordered)
