use Rattle.std.proofs.Common.{rules, ◌≡◌, ◌<◌, ◌^◌, [], ◌∷◌, ◌++◌, length, get_or, ap, sym, ◌∙◌, subst}
use Rattle.std.proofs.lemmas.List.{get_or_push}
use Rattle.race_check.specs.declared.search.Search.{Search}
use Rattle.race_check.specs.Races.{TellsLatest}
use Rattle.race_check.specs.Searches.{run_of}
use Rattle.race_check.specs.Shows.{TakesStep}
use Rattle.race_check.specs.Walks.{IsOrdered, RaceIn, accesses_in}
use Rattle.race_check.proofs.Accepted.{Advanced, clear-more, counted, counted-few, keeps-more, latest-more, search-told, step-at}
use Rattle.race_check.proofs.Prefixes.{accesses-next}
use Rattle.race_check.proofs.search.Search.go_on.Goals as goal
use Rattle.race_check.proofs.search.Search.go_on.Goals.{In_ok-latest}

-- the search after the step
abbrev after : In_ok-latest → Search
after c = record { walk = c.advance.new.self; shadow = c.visit.new.self; accesses = c.push.new.self }

more : (c : In_ok-latest) → accesses_in (run_of (after c)) ≡ accesses_in (run_of c.args.self.now) ++ c.access_of-access.result ∷ []
more c =
    ap accesses_in c.in_ok-advance.ensures.run ∙ accesses-next (run_of c.args.self.now) c.args.step c.args.effect.now (search-told c.args.self.now c.requires.keeps) c.requires.effect ∙ ap (λ a. accesses_in (run_of c.args.self.now) ++ a ∷ []) (sym c.access_of-access.ensures)

advanced : (c : In_ok-latest) → Advanced c.args.self.now (after c) c.args.step c.access_of-access.result
advanced c = record { keeps = c.requires.keeps; made = c.in_ok-advance.ensures.run; stands = c.in_ok-advance.ensures.stands; more = more c; put = c.in_ok-push.ensures.items }

-- its place in the record
place : (c : In_ok-latest) → c.len-last.result ≡ length (run_of c.args.self.now).steps
place c =
    let many : c.len-last.result ≡ length c.args.self.now.accesses.items = search rules in
    many ∙ counted c.args.self.now c.requires.keeps

-- what was kept of it last
seen : (c : In_ok-latest) → c.index-kept.result.now ≡ c.access_of-access.result
seen c =
    let many : c.len-last.result ≡ length c.args.self.now.accesses.items = search rules in
    let here : c.index-kept.result.now ≡ get_or c.push.new.self.items c.len-last.result c.index-kept.result.now = search rules in
    here
    ∙ ap (λ xs. get_or xs c.len-last.result c.index-kept.result.now) c.in_ok-push.ensures.items
    ∙ get_or_push c.args.self.now.accesses.items c.access_of-access.result c.index-kept.result.now c.len-last.result (sym many)

takes : (c : In_ok-latest) → TakesStep (IsOrdered (run_of (after c))) c.args.self.now.shadow c.visit.new.self c.access_of-access.result (length (run_of c.args.self.now).steps) c.in_ok-latest.latest
takes c =
    subst (λ n. TakesStep (IsOrdered (run_of (after c))) c.args.self.now.shadow c.visit.new.self c.access_of-access.result n c.in_ok-latest.latest) (place c)
    (subst (λ a. TakesStep (IsOrdered (run_of (after c))) c.args.self.now.shadow c.visit.new.self a c.len-last.result c.in_ok-latest.latest) (seen c) c.in_ok-latest.ensures)

pub overflow_cast-last : goal.overflow_cast-last
overflow_cast-last c =
    let many : c.len-last.result ≡ length c.args.self.now.accesses.items = search rules in
    let few : c.len-last.result < 2 ^ 32 = subst (λ n. n < 2 ^ 32) (sym many) (counted-few c.args.self.now c.args.step c.args.effect.now c.requires.keeps c.requires.effect) in
    search rules

pub visit-requires : goal.visit-requires
visit-requires c =
    let many : c.len-last.result ≡ length c.args.self.now.accesses.items = search rules in
    step-at c.args.self.now c.advance.new.self c.args.step c.len-last.result (many ∙ counted c.args.self.now c.requires.keeps) c.in_ok-advance.ensures.run c.in_ok-advance.ensures.stands

pub returns-clause-latest : goal.returns-clause-latest
returns-clause-latest c = latest-more c.args.self.now (after c) c.args.step c.access_of-access.result (advanced c) c.in_ok-latest.latest (takes c)

pub returns-clause-keeps : goal.returns-clause-keeps
returns-clause-keeps c = keeps-more c.args.self.now (after c) c.args.step c.access_of-access.result (advanced c) c.in_ok-latest.latest (takes c)

pub returns-clause-clear : goal.returns-clause-clear
returns-clause-clear c = λ clear none.
    clear-more c.args.self.now (after c) c.args.step clear (keeps-more c.args.self.now (after c) c.args.step c.access_of-access.result (advanced c) c.in_ok-latest.latest (takes c)) c.in_ok-advance.ensures.run
    (subst (TellsLatest (RaceIn (run_of (after c))) (length (run_of c.args.self.now).steps)) none (latest-more c.args.self.now (after c) c.args.step c.access_of-access.result (advanced c) c.in_ok-latest.latest (takes c)))
