use Rattle.std.specs.Str.Iter.{split_whitespace_rest}
use Rattle.trace_commands.proofs.NumbersLaws.{GoesOn}
use Rattle.trace_commands.proofs.choices.numbers_of.Given as goal

-- the numbers so far stand in front of those of what is left
abbrev pub invariant-loop-word : goal.invariant-loop-word
invariant-loop-word l = GoesOn l.text (split_whitespace_rest l.word-iterator) l.numbers.items
