use Rattle.std.proofs.Common.{length, refl, sym, subst}
use Rattle.lost_values.specs.Keeping.{Knows as KnowsLosses}
use Rattle.unwritten_reads.specs.Keeping.{Knows as KnowsUnwritten}
use Rattle.race_check.specs.Races.{IsLatest}
use Rattle.race_check.specs.Searches.{Keeps}
use Rattle.race_check.specs.Walks.{RaceIn}
use Rattle.cell_hunt.specs.declared.racing.Racing.{Racing}
use Rattle.cell_hunt.specs.declared.so_far.SoFar.{SoFar}
use Rattle.cell_hunt.specs.Origins.{Knows}
use Rattle.cell_hunt.specs.Sites.{AreSites}
use Rattle.cell_hunt.specs.SoFar.{AreEndingsTo, AreRacesTo, made_by}
use Rattle.cell_hunt.specs.Touched.{HasTouched}
use Rattle.cell_hunt.proofs.AllRaces.{races-more}
use Rattle.cell_hunt.proofs.so_far.SoFar.add_race.Goals as goal

pub returns-clause-searched : goal.returns-clause-searched
returns-clause-searched c =
    let old = c.add_least.new.self in
    let m = made_by old in
    let same = sym c.add_least.ensures.rest in
    let r : Racing = record { first = c.args.latest; second = c.args.second; sites = c.sites-sites.result } in
    let sites = subst (λ n. AreSites n c.args.latest c.args.second c.sites-sites.result) c.machine.ensures c.sites-sites.ensures in
    let latest = subst (λ (s : SoFar). IsLatest (RaceIn (made_by s)) c.args.latest c.args.second) same c.requires.latest in
    let races = subst (λ (s : SoFar). AreRacesTo c.args.second (made_by s) s.races.items) same c.requires.searched.all in
    record {
      keeps = subst (λ (s : SoFar). Keeps s.search) same c.requires.searched.keeps;
      knows = subst (λ (s : SoFar). Knows (made_by s) s.origins) same c.requires.searched.knows;
      least = c.add_least.ensures.least;
      all = subst (AreRacesTo _ m) (sym c.in_ok-push.ensures.items) (races-more m c.args.second old.races.items r refl record { latest = latest; sites = sites } races);
      touched = subst (λ (s : SoFar). HasTouched (made_by s) s.touched) same c.requires.searched.touched;
      endings = subst (λ (s : SoFar). AreEndingsTo (length (made_by s).steps) (made_by s) s.endings.items) same c.requires.searched.endings;
      losses = subst (λ (s : SoFar). KnowsLosses (made_by s) s.losses) same c.requires.searched.losses;
      unwritten = subst (λ (s : SoFar). KnowsUnwritten (made_by s) s.unwritten_reads) same c.requires.searched.unwritten;
    }
