use Rattle.std.proofs.Common.{◌≡◌, ◌++◌, List, [], ℕ, length, map, sym, subst, ◌∙◌, arith}
use Rattle.std.proofs.lemmas.List.{append-nil}
use Rattle.cell_base.proofs.WordLaws.{no_lines}
use Rattle.hunt_command.specs.Expected.{expected_of, expected_in}
use Rattle.hunt_command.proofs.expected.read_expected.Goals as goal

pub returns : goal.returns
returns c =
    let empty : length c.loop-rest.rest.now ≡ 0 = grind arith in
    let read : List (List ℕ) = map (λ v. v.items) c.loop-rest.expected.items in
    let all : read ++ expected_of [] ≡ expected_in c.args.text.now = subst (λ lines. read ++ expected_of lines ≡ expected_in c.args.text.now) (no_lines c.loop-rest.rest.now empty) c.loop-rest.invariant in
    sym (append-nil read) ∙ all
