use Rattle.std.proofs.Common.{◌≡◌, ◌+◌, ◌≤◌, length}
use Rattle.spu_lex.specs.Order.{InOrder}
use Rattle.spu_lex.specs.Tokens.{tokens_of}
use Rattle.spu_lex.proofs.Steps.{SoFar}
use Rattle.spu_lex.proofs.lex.Given as goal

-- each line before this one has a byte
abbrev pub invariant-loop-rest : goal.invariant-loop-rest
invariant-loop-rest l = record {
  so_far : SoFar l.items.items l.at l.line l.rest (tokens_of l.text);
  place : l.at + length l.rest ≡ length l.text;
  ordered : InOrder 0 l.at l.items.items;
  lines : l.line ≤ l.at + 1;
}

abbrev pub decreases-loop-rest : goal.decreases-loop-rest
decreases-loop-rest l = length l.rest
