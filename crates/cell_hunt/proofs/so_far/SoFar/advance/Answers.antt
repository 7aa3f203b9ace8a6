use Rattle.std.proofs.Common.{◌≡◌, ◌+◌, length, None, sym, ap, ◌∙◌, subst, [], ◌∷◌, ◌++◌, length-append}
use Rattle.cell_machine.specs.Run.{Ran}
use Rattle.lost_values.specs.Keeping.{Knows as KnowsLosses}
use Rattle.unwritten_reads.specs.Keeping.{Knows as KnowsUnwritten}
use Rattle.race_check.specs.Races.{TellsLatest}
use Rattle.race_check.specs.Searches.{run_of}
use Rattle.race_check.specs.Walks.{RaceIn}
use Rattle.race_check.proofs.Accepted.{search-told}
use Rattle.cell_hunt.specs.declared.so_far.SoFar.{SoFar}
use Rattle.cell_hunt.specs.Endings.{HasNote}
use Rattle.cell_hunt.specs.Origins.{Knows}
use Rattle.cell_hunt.specs.Executed.{executed_by, executed_in}
use Rattle.cell_hunt.specs.Kinds.{touchable, touches_in}
use Rattle.cell_hunt.specs.Runs.{with_step}
use Rattle.cell_hunt.specs.SoFar.{AreEndingsTo, AreRacesTo, IsLeastTo, IsSearchedTo, made_by}
use Rattle.cell_hunt.specs.Touched.{AreDigests, HasTouched}
use Rattle.cell_hunt.proofs.AllEndings.{endings-on, last-note}
use Rattle.cell_hunt.proofs.AllRaces.{least-none, least-on, races-none, races-on}
use Rattle.cell_hunt.proofs.Touching.{executed_more, touches_more}
use Rattle.cell_hunt.proofs.so_far.SoFar.advance.Goals as goal
use Rattle.cell_hunt.proofs.so_far.SoFar.advance.Goals.{In_ok-add_ending}

pub add_ending-requires-clause-note : goal.add_ending-requires-clause-note
add_ending-requires-clause-note c =
    let m = made_by c.args.self.now in
    let n = run_of c.go_on.new.self in
    subst (λ k. HasNote n k c.args.effect.now.note) c.requires.place (last-note m n c.args.step c.args.effect.now c.in_ok-latest.ensures.run c.requires.effect)

pub add_ending-requires-clause-endings : goal.add_ending-requires-clause-endings
add_ending-requires-clause-endings c =
    let m = made_by c.args.self.now in
    let n = run_of c.go_on.new.self in
    let endings = c.args.self.now.endings.items in
    subst (λ k. AreEndingsTo k n endings) c.requires.place (endings-on m n c.args.step c.in_ok-latest.ensures.run endings c.requires.searched.endings)

-- after the step, whatever endings are kept: before its races are taken in
abbrev after : In_ok-add_ending → SoFar
after c = record c.args.self.now { search = c.go_on.new.self; origins = c.add.new.self; touched = c.add-2.new.self; endings = c.add_ending.new.self.endings; losses = c.add-3.new.self; unwritten_reads = c.add-4.new.self }

touched : (c : In_ok-add_ending) → HasTouched (run_of c.go_on.new.self) c.add-2.new.self
touched c =
    let m = made_by c.args.self.now in
    let made : run_of c.go_on.new.self ≡ with_step m c.args.step = c.in_ok-latest.ensures.run in
    let was = search-told c.args.self.now.search c.requires.searched.keeps in
    let effect = c.requires.effect in
    let has = c.requires.searched.touched in
    record {
      long = c.in_ok-add-2.ensures.long ∙ has.long ∙ ap (λ (r : Ran). touchable r.setup.lines) (sym made);
      are = subst (λ all. AreDigests all c.add-2.new.self.digests) (sym (ap touches_in made ∙ touches_more m c.args.step c.args.effect.now was effect)) (c.in_ok-add-2.ensures.more (touches_in m) has.are);
      executed = c.in_ok-add-2.ensures.executed ∙ ap (λ xs. xs ++ executed_by c.args.step c.args.effect.now) has.executed ∙ sym (ap executed_in made ∙ executed_more m c.args.step c.args.effect.now was effect);
    }

-- how many steps there are then
count : (c : In_ok-add_ending) → length (run_of c.go_on.new.self).steps ≡ c.args.place + 1
count c =
    ap (λ (r : Ran). length r.steps) c.in_ok-latest.ensures.run ∙ length-append (made_by c.args.self.now).steps (c.args.step ∷ []) ∙ ap (λ k. k + 1) c.requires.place

searched : (c : In_ok-add_ending) → IsSearchedTo c.args.place c.add_ending.new.self
searched c =
    let old = c.args.self.now in
    let m = made_by old in
    let n = run_of c.go_on.new.self in
    let was = search-told old.search c.requires.searched.keeps in
    let is = search-told c.go_on.new.self c.in_ok-latest.ensures.keeps in
    let made : n ≡ with_step m c.args.step = c.in_ok-latest.ensures.run in
    let so_far : IsSearchedTo c.args.place (after c) = record {
      keeps = c.in_ok-latest.ensures.keeps;
      knows = subst (λ r. Knows r c.add.new.self) (ap (λ (r : Ran). with_step r c.args.step) c.machine.ensures ∙ sym made) c.in_ok-add.ensures;
      least = subst (λ k. IsLeastTo k n old.least) c.requires.place (least-on m n c.args.step made was is old.least (subst (λ k. IsLeastTo k m old.least) (sym c.requires.place) c.requires.searched.least));
      all = subst (λ k. AreRacesTo k n old.races.items) c.requires.place (races-on m n c.args.step made was is old.races.items (subst (λ k. AreRacesTo k m old.races.items) (sym c.requires.place) c.requires.searched.all));
      touched = touched c;
      endings = subst (λ k. AreEndingsTo k n c.add_ending.new.self.endings.items) (sym (count c)) c.in_ok-add_ending.ensures.endings;
      losses = subst (λ r. KnowsLosses r c.add-3.new.self) (ap (λ (r : Ran). with_step r c.args.step) c.machine-2.ensures ∙ sym made) c.in_ok-add-3.ensures;
      unwritten = subst (λ r. KnowsUnwritten r c.add-4.new.self) (ap (λ (r : Ran). with_step r c.args.step) c.machine-3.ensures ∙ sym made) c.in_ok-add-4.ensures;
    } in
    subst (IsSearchedTo c.args.place) (sym c.in_ok-add_ending.ensures.rest) so_far

pub returns-in_default-clause-searched : goal.returns-in_default-clause-searched
returns-in_default-clause-searched c =
    let so_far = searched (goal.at.returns-in_default-clause-searched c).In_ok-add_ending in
    let final = c.add_ending.new.self in
    let none = subst (λ k. TellsLatest (RaceIn (run_of c.go_on.new.self)) k None) c.requires.place (subst (TellsLatest (RaceIn (run_of c.go_on.new.self)) (length (made_by c.args.self.now).steps)) c.in_default.is c.in_ok-latest.ensures.latest) in
    let none-final = subst (λ (s : SoFar). TellsLatest (RaceIn (made_by s)) c.args.place None) (sym c.in_ok-add_ending.ensures.rest) none in
    record {
      keeps = so_far.keeps;
      knows = so_far.knows;
      least = least-none (made_by final) c.args.place none-final final.least so_far.least;
      all = races-none (made_by final) c.args.place none-final final.races.items so_far.all;
      touched = so_far.touched;
      endings = so_far.endings;
      losses = so_far.losses;
      unwritten = so_far.unwritten;
    }

pub add_race-requires-clause-searched : goal.add_race-requires-clause-searched
add_race-requires-clause-searched c = searched (goal.at.add_race-requires-clause-searched c).In_ok-add_ending
