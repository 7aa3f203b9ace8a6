use Rattle.std.proofs.Common.{rules, ◌≡◌, ◌+◌, ◌<◌, ◌^◌, length, sym, ap, ◌∙◌, subst, true≢false}
use Rattle.std.specs.Prelude.{is_some, not}
use Rattle.std.proofs.lemmas.List.{length_push}
use Rattle.cell_machine.specs.Run.{Ran}
use Rattle.race_check.specs.declared.check.Verdict.TheVariants.{Race as Racing}
use Rattle.race_check.specs.Races.{IsFirst, IsVerdict}
use Rattle.race_check.specs.Searches.{run_of}
use Rattle.race_check.specs.Walks.{RaceIn}
use Rattle.race_check.proofs.Accepted.{counted, counted-few, has-race, raced-more}
use Rattle.race_check.proofs.search.Search.advance.Goals as goal

pub overflow_cast-last : goal.overflow_cast-last
overflow_cast-last c =
    let many : c.len-last.result ≡ length c.args.self.now.accesses.items = search rules in
    let few : c.len-last.result < 2 ^ 32 = subst (λ n. n < 2 ^ 32) (sym many) (counted-few c.args.self.now c.args.step c.args.effect.now c.requires.clear.keeps c.requires.effect) in
    search rules

pub first_race-requires-clause-last : goal.first_race-requires-clause-last
first_race-requires-clause-last c =
    let many : c.len-last.result ≡ length c.args.self.now.accesses.items = search rules in
    let place : c.len-last.result ≡ length (run_of c.args.self.now).steps = many ∙ counted c.args.self.now c.requires.clear.keeps in
    ap (λ n. n + 1) place ∙ sym (ap (λ (r : Ran). length r.steps) c.in_ok-go_on.ensures.run ∙ length_push (run_of c.args.self.now).steps c.args.step)

pub first_race-requires-clause-some : goal.first_race-requires-clause-some
first_race-requires-clause-some c =
    let many : c.len-last.result ≡ length c.args.self.now.accesses.items = search rules in
    let place : c.len-last.result ≡ length (run_of c.args.self.now).steps = many ∙ counted c.args.self.now c.requires.clear.keeps in
    let found = has-race (RaceIn (run_of c.go_on.new.self)) (length (run_of c.args.self.now).steps) c.in_ok-go_on.field-0 (λ none. true≢false (sym (ap not c.if-is_none.false) ∙ sym c.is_none.ensures ∙ ap is_some none)) c.in_ok-go_on.ensures.latest in
    (found.0, subst (RaceIn (run_of c.go_on.new.self) found.0) (sym place) found.1)

pub returns-clause-verdict : goal.returns-clause-verdict
returns-clause-verdict c =
    let m = run_of c.go_on.new.self in
    let many : c.len-last.result ≡ length c.args.self.now.accesses.items = search rules in
    let place : c.len-last.result ≡ length (run_of c.args.self.now).steps = many ∙ counted c.args.self.now c.requires.clear.keeps in
    let first = subst (IsFirst (RaceIn m) c.first_race.result) place c.first_race.ensures in
    subst (λ n. IsVerdict m (Racing c.first_race.result n)) (sym place) (raced-more c.args.self.now c.go_on.new.self c.args.step c.requires.clear c.in_ok-go_on.ensures.keeps c.in_ok-go_on.ensures.run c.first_race.result first)
