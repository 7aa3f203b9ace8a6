use Rattle.std.proofs.Common.{rules, ◌≡◌, ◌+◌, ◌*◌, ◌<◌, ◌||◌, ◌∙◌, ◌++◌, ◌∷◌, [], map, length, sym, subst, ap, ap₂, Bool}
use Rattle.std.specs.List.{list_any}
use Rattle.order_sets.specs.declared.facts.At.{At}
use Rattle.order_sets.specs.Facts.{covers}
use Rattle.order_sets.specs.Stands.{has_at}
use Rattle.race_order.specs.Bringing.{AreKept}
use Rattle.race_order.specs.declared.roles.QueueRole.TheVariants.{Base}
use Rattle.race_order.specs.Lines.{moves_line}
use Rattle.race_order.specs.Lives.{is_only_step, near}
use Rattle.race_order.specs.Orderly.{MayCome, IsOrderly}
use Rattle.race_order.specs.Ordering.{issued_in, self_roles, own_waits, seen_in, spe_in}
use Rattle.race_order.specs.Premises.{QueueMay, IsQueued}
use Rattle.race_order.specs.Roles.{fact_in}
use Rattle.race_order.specs.Stamps.{event_of, stamp}
use Rattle.race_order.specs.Standing.{AreNamed, StandsFor}
use Rattle.race_order.specs.Tables.{FitsChains, sets_have}
use Rattle.race_order.proofs.Listings.{into_list, looked_list}
use Rattle.race_order.proofs.LivesNext.{ShowsNear, have_room, are_outstanding, are_within, who_within}
use Rattle.race_order.proofs.Naming.{Names, fact_names}
use Rattle.race_order.proofs.Standings.{moves_same, keep_next, own_next, last_next, queued_next, near_stands, lives_stand}
use Rattle.race_order.proofs.Stands.{fact_fits, counts_fit, counts_next, names_next, orderly_next, read_same, write_same}
use Rattle.race_order.proofs.orderer.Orderer.take_any.Goals as goal

pub fill-requires-clause-fits : goal.fill-requires-clause-fits
fill-requires-clause-fits g c = counts_fit c.args.self.now.spes g.trace c.args.self.now.boxes c.requires.0.counts c.args.effect.note c.requires.1.0.noted c.requires.1.1.1

pub is_only_step-requires : goal.is_only_step-requires
is_only_step-requires g c = λ p w. subst (λ n. p < n) (sym c.requires.0.lives_long) (who_within c.args.self.now.spes c.args.step c.requires.1.0.within p w)

pub moves_line-whole-requires : goal.moves_line-whole-requires
moves_line-whole-requires g c = λ p w. subst (λ n. p < n) (sym c.requires.0.lives_long) (who_within c.args.self.now.spes c.args.step c.requires.1.0.within p w)

pub take_in-requires-clause-fits : goal.take_in-requires-clause-fits
take_in-requires-clause-fits g c = counts_fit c.args.self.now.spes g.trace c.args.self.now.boxes c.requires.0.counts c.args.effect.note c.requires.1.0.noted c.requires.1.1.1

pub note-requires : goal.note-requires
note-requires g c = counts_fit c.args.self.now.spes g.trace c.args.self.now.boxes c.requires.0.counts c.args.effect.note c.requires.1.0.noted c.requires.1.1.1

pub take_in-requires-clause-spe : goal.take_in-requires-clause-spe
take_in-requires-clause-spe g c = λ p w. subst (λ n. p < n) (sym c.requires.0.lives_long) (who_within c.args.self.now.spes c.args.step c.requires.1.0.within p w)

pub take_in-requires-clause-room : goal.take_in-requires-clause-room
take_in-requires-clause-room g c =
    have_room g.trace c.requires.0.queued (spe_in c.args.step) (near c.args.self.now.lives.items (spe_in c.args.step)) (near_stands c.args.self.now g.trace c.args.step c.requires.0 c.requires.1.0.within)

pub take_in-requires-clause-live : goal.take_in-requires-clause-live
take_in-requires-clause-live g c =
    are_outstanding g.trace (spe_in c.args.step) (near c.args.self.now.lives.items (spe_in c.args.step)) (near_stands c.args.self.now g.trace c.args.step c.requires.0 c.requires.1.0.within)

pub take_in-requires-clause-within : goal.take_in-requires-clause-within
take_in-requires-clause-within g c =
    are_within c.args.self.now.spes (spe_in c.args.step) g.trace (near c.args.self.now.lives.items (spe_in c.args.step)) (who_within c.args.self.now.spes c.args.step c.requires.1.0.within)
    (near_stands c.args.self.now g.trace c.args.step c.requires.0 c.requires.1.0.within)

pub take_in-requires-clause-brought : goal.take_in-requires-clause-brought
take_in-requires-clause-brought g c =
    let st : StandsFor c.args.self.now g.trace = c.requires.0 in
    record {
      some = st.some;
      spes = st.spes;
      known = c.in_ok-fill.ensures.chains ∙ st.last_chains;
      fact =
          subst (FitsChains (3 * c.args.self.now.spes + 1)) (sym c.fact.ensures)
          (fact_fits c.args.self.now.spes c.is_only_step.result c.name-at.result c.args.step c.requires.1.0.within);
    }

pub returns-clause-stands : goal.returns-clause-stands
returns-clause-stands g c =
    let n = c.args.self.now.spes in
    let sets = sets_have c.args.self.now.sets in
    let lives = near c.args.self.now.lives.items (spe_in c.args.step) in
    let known = has_at c.fill.new.known in
    let e = event_of c.args.step c.args.effect in
    let st : StandsFor c.args.self.now g.trace = c.requires.0 in
    let may : MayCome c.args.self.now.spes g.trace (event_of c.args.step c.args.effect) = c.requires.1.0 in
    let queue : QueueMay g.trace (event_of c.args.step c.args.effect) = c.requires.1.1.0 in
    let orderly : IsOrderly c.args.self.now.spes (g.trace ++ (event_of c.args.step c.args.effect ∷ [])) = orderly_next n g.trace e st.orderly may in
    let queued : IsQueued (g.trace ++ (event_of c.args.step c.args.effect ∷ [])) = queued_next g.trace e st.queued queue in
    let shows : ShowsNear (spe_in c.args.step) (near c.args.self.now.lives.items (spe_in c.args.step)) g.trace = near_stands c.args.self.now g.trace c.args.step st may.within in
    let whole : c.moves_line-whole.result ≡ moves_line g.trace c.args.step = c.moves_line-whole.ensures ∙ moves_same g.trace e st.queued queue lives shows in
    let place : c.len-place.result ≡ length g.trace = c.len-place.ensures ∙ search rules in
    let named : c.name-at.result ≡ stamp c.args.self.now.spes (length g.trace) (event_of c.args.step c.args.effect) = c.name-at.ensures ∙ ap (λ k. stamp c.args.self.now.spes k (event_of c.args.step c.args.effect)) place in
    let fact_is : c.fact.result ≡ fact_in c.args.self.now.spes (is_only_step lives c.args.step) (stamp c.args.self.now.spes (length g.trace) (event_of c.args.step c.args.effect)) c.args.step =
    c.fact.ensures ∙ ap₂ (λ (only : Bool) (a : At). fact_in c.args.self.now.spes only a c.args.step) c.is_only_step.ensures named in
    let names : Names c.args.self.now.spes g.trace (event_of c.args.step c.args.effect) c.fact.result = subst (Names c.args.self.now.spes g.trace (event_of c.args.step c.args.effect)) (sym fact_is) (fact_names n g.trace e lives shows) in
    let known_is : (a : At) → has_at c.fill.new.known a ≡ list_any (λ r. sets_have c.args.self.now.sets r a) (looked_list g.trace (event_of c.args.step c.args.effect)) =
    λ a. c.in_ok-fill.ensures.has a ∙ ap (λ l. list_any (λ r. sets_have c.args.self.now.sets r a) (map Base l ++ (own_waits c.args.step ++ seen_in c.args.step c.args.effect.note))) (read_same n g.trace c.args.self.now.boxes st.counts e c.moves_line-whole.result whole may.noted) in
    let passed : AreKept c.args.self.now.spes c.args.step c.args.effect (λ (a : At). has_at c.fill.new.known a || covers c.fact.result a) (near c.args.self.now.lives.items (spe_in c.args.step)) (into_list g.trace (event_of c.args.step c.args.effect)) (sets_have c.args.self.now.sets) (sets_have c.take_in.new.sets) =
    subst (λ l. AreKept c.args.self.now.spes c.args.step c.args.effect (λ (a : At). has_at c.fill.new.known a || covers c.fact.result a) (near c.args.self.now.lives.items (spe_in c.args.step)) l (sets_have c.args.self.now.sets) (sets_have c.take_in.new.sets))
    (ap (λ l. map Base l ++ self_roles (issued_in c.args.step c.args.effect.note)) (write_same n g.trace c.args.self.now.boxes st.counts e c.moves_line-whole.result whole may.noted)) c.in_ok-take_in.ensures.stepped in
    record {
      some = st.some;
      spes = st.spes;
      orderly = orderly;
      queued = queued;
      chains = c.in_ok-take_in.ensures.chains;
      own_spe = search rules;
      last_chains = c.in_ok-fill.ensures.chains ∙ st.last_chains;
      spare_chains = c.in_ok-take_in.ensures.spare ∙ st.spare_chains;
      counts = counts_next n g.trace c.args.self.now.boxes st.counts e c.note.new.self may.noted c.note.ensures.puts c.note.ensures.takes;
      names = subst (AreNamed c.args.self.now.spes (g.trace ++ (event_of c.args.step c.args.effect ∷ []))) (sym (c.in_ok-push.ensures.items ∙ ap (λ a. c.args.self.now.names.items ++ (a ∷ [])) named)) (names_next n g.trace e c.args.self.now.names.items st.names);
      lives_long = c.in_ok-take_in.ensures.long ∙ st.lives_long;
      lives = lives_stand c.args.self.now g.trace e st may.within queue c.take_in.new.lives.items c.in_ok-take_in.ensures.own c.in_ok-take_in.ensures.others;
      own = own_next n g.trace e orderly queued known lives shows sets st.own st.kept known_is queue c.fact.result names (sets_have c.take_in.new.sets) passed;
      kept = keep_next n g.trace e orderly queued known lives shows sets st.own st.kept known_is queue c.fact.result names (sets_have c.take_in.new.sets) passed;
      last = last_next n g.trace e orderly queued known lives shows sets st.own st.kept known_is;
    }
