use Rattle.std.proofs.Common.{◌≡◌, drop, map, string_bytes}
use Rattle.hunt_command.specs.Words.{asks_help}
use Rattle.hunt_command.proofs.words.asks_help.Given as goal

-- the words so far don't ask for help
abbrev pub invariant-loop-word : goal.invariant-loop-word
invariant-loop-word l = asks_help (drop l.word-index (map string_bytes l.words)) ≡ asks_help (map string_bytes l.words)
