use Rattle.std.proofs.Common.{ap, ◌∙◌, inr}
use Rattle.std.specs.Str.Iter.{split_whitespace_rest}
use Rattle.trace_commands.proofs.NumbersLaws.{no_numbers, word_of, one_number, no_number, all_numbers}
use Rattle.trace_commands.proofs.choices.numbers_of.Goals as goal

pub loop-word-init : goal.loop-word-init
loop-word-init c =
    let rest_is_text = ap split_whitespace_rest c.into_iter-word-iterator.ensures.into_iter_gives ∙ c.split_whitespace-word-items.ensures.rest in
    no_numbers c.args.text.now _ _ rest_is_text c.new-numbers.ensures.items

pub returns-in_default : goal.returns-in_default
returns-in_default c =
    let at = word_of _ c.in-Some.word.now _ c.in-Some.ensures.steps in
    let lacks = rw c.in-Some.word-is at c.in_default.ensures in
    inr (no_number c.args.text.now _ c.in-Some.word.now _ c.loop-word.numbers.items at lacks c.loop-word.invariant)

pub loop-word-preserved : goal.loop-word-preserved
loop-word-preserved c =
    let at = word_of _ c.in-Some.word.now _ c.in-Some.ensures.steps in
    let is = rw c.in-Some.word-is at c.in-Some-number_of.ensures in
    one_number c.args.text.now _ c.in-Some.word.now _ c.loop-word.numbers.items _ c.in-Some-number_of.number at is.0 is.1 c.in_ok-add_number.ensures c.loop-word.invariant

pub returns : goal.returns
returns c = all_numbers c.args.text.now _ c.loop-word.numbers.items c.in-None.ensures.steps.1 c.loop-word.invariant
