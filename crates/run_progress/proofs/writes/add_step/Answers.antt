use Rattle.std.proofs.Common.{rules, ◌≡◌, [], ◌∷◌, ◌++◌, true, false, ◌∙◌, ap, sym, subst}
use Rattle.run_progress.specs.declared.writes.Write.{Write}
use Rattle.run_progress.specs.Changes.{is_shared}
use Rattle.run_progress.specs.Tracks.{AreWrites}
use Rattle.run_progress.proofs.Kept.{writes-more, writes-same}
use Rattle.run_progress.proofs.writes.add_step.Goals as goal

pub returns-in_ok-push : goal.returns-in_ok-push
returns-in_ok-push c = λ run made of place writes.
    let w : Write = record { place = c.args.place; span = c.args.repeated.now.effect.writes } in
    let shared : is_shared made.effect.writes ≡ true = ap (λ e. is_shared e.writes) of.effect ∙ sym c.is_shared.ensures ∙ c.if-is_shared.true in
    let more : c.push.new.self.items ≡ c.args.writes.now.items ++ w ∷ [] = search rules in
    subst (AreWrites (run ++ made ∷ [])) (sym more) (writes-more run made c.args.writes.now.items w writes shared place (ap (λ e. e.writes) (sym of.effect)))

pub returns-else-is_shared : goal.returns-else-is_shared
returns-else-is_shared c = λ run made of place writes.
    let shared : is_shared made.effect.writes ≡ false = ap (λ e. is_shared e.writes) of.effect ∙ sym c.is_shared.ensures ∙ c.if-is_shared.false in
    writes-same run made c.args.writes.now.items writes shared
