use Rattle.std.proofs.Common.{◌≡◌, ◌+◌, ◌∙◌, sym, true, false, map, string_bytes, drop, arith}
use Rattle.std.specs.Prelude.{codes}
use Rattle.hunt_command.specs.Heard.{is_word}
use Rattle.hunt_command.specs.Words.{asks_help}
use Rattle.hunt_command.proofs.WordsLaws.{first_left, helps, no_help}
use Rattle.hunt_command.proofs.words.asks_help.Goals as goal

pub returns-then-eq : goal.returns-then-eq
returns-then-eq c =
    let words = map string_bytes c.args.words.now in
    let place = c.loop-word.word-index in
    let asks : is_word (string_bytes c.word-item.result) (codes "--help") ≡ true = rw (← c.as_str.ensures.value) (sym c.eq.ensures ∙ c.if-eq.true) in
    sym (helps (string_bytes c.word-item.result) (drop (place + 1) words) (drop place words) (asks_help words) (first_left string_bytes c.args.words.now place c.word-item.result (omega arith) c.word-item.is) asks c.loop-word.invariant)

pub loop-word-preserved : goal.loop-word-preserved
loop-word-preserved c =
    let words = map string_bytes c.args.words.now in
    let place = c.loop-word.word-index in
    let other : is_word (string_bytes c.word-item.result) (codes "--help") ≡ false = rw (← c.as_str.ensures.value) (sym c.eq.ensures ∙ c.if-eq.false) in
    no_help (string_bytes c.word-item.result) (drop (place + 1) words) (drop place words) (asks_help words) (first_left string_bytes c.args.words.now place c.word-item.result (omega arith) c.word-item.is) other c.loop-word.invariant
