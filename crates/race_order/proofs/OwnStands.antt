-- An orderer stands for the longer run after an instruction that tells nothing.
use Rattle.std.proofs.Common.{◌≡◌, ℕ, ◌+◌, ◌*◌, ◌<◌, Bool, List, [], ◌∷◌, ◌++◌, length, Some, ◌||◌, ◌&&◌, refl, sym, ap, ◌∙◌, subst}
use Rattle.std.specs.Prelude.{Vec}
use Rattle.std.specs.declared.alloc.Global.{Global}
use Rattle.std.specs.List.{list_any}
use Rattle.cell_base.specs.declared.steps.Step.{Step}
use Rattle.cell_machine.specs.declared.effect.Effect.{Effect}
use Rattle.order_sets.specs.declared.facts.At.{At}
use Rattle.order_sets.specs.declared.facts.Fact.TheVariants.{Upto}
use Rattle.order_sets.specs.Facts.{covers}
use Rattle.race_order.specs.Trace.{Event, Trace}
use Rattle.race_order.specs.Stamps.{event_of, stamp}
use Rattle.race_order.specs.Counted.{counts_after_put, counts_after_take}
use Rattle.race_order.specs.Orderly.{MayCome, IsOrderly, IsWithin}
use Rattle.race_order.specs.Premises.{QueueMay, IsQueued}
use Rattle.race_order.specs.Ordering.{spe_in}
use Rattle.race_order.specs.Bringing.{AreKept, IsPlain}
use Rattle.race_order.specs.Passes.{View}
use Rattle.race_order.specs.Lives.{AreOutstanding, lives_of, near}
use Rattle.race_order.specs.Standing.{AreNamed, IsLast, StandsFor, known_in}
use Rattle.race_order.specs.Tables.{same_role, sets_have, AreOf}
use Rattle.race_order.specs.declared.lives.Live.{Live}
use Rattle.race_order.specs.declared.orderer.Orderer.{Orderer}
use Rattle.race_order.specs.declared.roles.QueueRole.{QueueRole}
use Rattle.race_order.specs.declared.roles.QueueRole.TheVariants.{Base}
use Rattle.race_order.specs.declared.roles.Role.TheVariants.{OfExec}
use Rattle.race_order.specs.declared.sets.Sets.{Sets}
use Rattle.race_order.proofs.Listings.{into_list, looked_list}
use Rattle.race_order.proofs.LivesNext.{ShowsNear, are_outstanding}
use Rattle.race_order.proofs.Naming.{Names, ByStep}
use Rattle.race_order.proofs.OwnSteps.{fact_own, lives_own, own_known, own_kept}
use Rattle.race_order.proofs.SameRoles.{same_role_itself}
use Rattle.race_order.proofs.Standings.{keep_next, named_next, own_next, queued_next, near_stands, lives_stand}
use Rattle.race_order.proofs.Stands.{counts_next, names_next, orderly_next}

module _ (o : Orderer) (trace : Trace) (step : Step) (effect : Effect) (p : ℕ) (plain : IsPlain step effect p) (st : StandsFor o trace) (may : MayCome o.spes trace (event_of step effect)) (queue : QueueMay trace (event_of step effect)) where
  abbrev e : Event
  e = event_of step effect

  abbrev T : Trace
  T = trace ++ (e ∷ [])

  abbrev old : View
  old = sets_have o.sets

  abbrev known : At → Bool
  known a = old (Base (OfExec p)) a

  abbrev named : At → Bool
  named a = covers (Upto p (length trace)) a

  abbrev lives : List Live
  lives = near o.lives.items (spe_in step)

  orderly : IsOrderly o.spes T
  orderly = orderly_next o.spes trace e st.orderly may

  queued : IsQueued T
  queued = queued_next trace e st.queued queue

  shows : ShowsNear (spe_in step) lives trace
  shows = near_stands o trace step st may.within

  live : AreOutstanding lives
  live = are_outstanding trace (spe_in step) lives shows

  known_is : (a : At) → known a ≡ list_any (λ r. old r a) (looked_list trace e)
  known_is a = own_known trace step effect p old a plain

  names_it : Names o.spes trace e (Upto p (length trace))
  names_it = ByStep (sym (fact_own o.spes (length trace) step effect p plain))

  pub own_low : p < o.spes
  own_low = subst (IsWithin o.spes) plain.is may.within

  -- where what names it went into the set of its processor's instructions, and its name is kept
  module _ (sets : Sets) (names : Vec At Global) (chains : AreOf (3 * o.spes + 1) sets) (has : (r : QueueRole) (a : At) → sets_have sets r a ≡ (sets_have o.sets r a || (same_role (Base (OfExec p)) r && covers (Upto p (length trace)) a))) (kept : names.items ≡ o.names.items ++ (stamp o.spes (length trace) (event_of step effect) ∷ [])) where
    passed : AreKept o.spes step effect (λ a. known a || named a) lives (into_list trace e) old (sets_have sets)
    passed = own_kept o.spes trace step effect p named lives old (sets_have sets) plain live has

    own_has : (a : At) → sets_have sets (Base (OfExec p)) a ≡ (known a || named a)
    own_has a = has (Base (OfExec p)) a ∙ ap (λ b. known a || (b && named a)) (same_role_itself (Base (OfExec p)))

    last : IsLast o.spes T (known_in (Some p) sets o.last)
    last =
        let is = named_next o.spes trace e orderly queued known lives shows old st.own st.kept known_is queue (Upto p (length trace)) names_it (sets_have sets) passed in
        record { says = λ i a s low. (λ t. (is.says i a s low).0 (sym (own_has a) ∙ t), λ h. own_has a ∙ (is.says i a s low).1 h) }

    pub own_stands : StandsFor (record o { sets = sets; names = names; own = Some p }) T
    own_stands =
        record {
          some = st.some;
          spes = st.spes;
          orderly = orderly;
          queued = queued;
          chains = chains;
          own_spe = own_low;
          last_chains = st.last_chains;
          spare_chains = st.spare_chains;
          counts = counts_next o.spes trace o.boxes st.counts e o.boxes may.noted (ap (counts_after_put o.boxes.puts.items) (sym plain.note)) (ap (counts_after_take o.boxes.takes.items) (sym plain.note));
          names = subst (AreNamed o.spes T) (sym kept) (names_next o.spes trace e o.names.items st.names);
          lives_long = st.lives_long;
          lives = lives_stand o trace e st may.within queue o.lives.items (λ q w. lives_own step effect p (lives_of o.lives.items q) plain (subst (λ x. AreOutstanding (near o.lives.items x)) w live)) (λ q ne. refl);
          own = own_next o.spes trace e orderly queued known lives shows old st.own st.kept known_is queue (Upto p (length trace)) names_it (sets_have sets) passed;
          kept = keep_next o.spes trace e orderly queued known lives shows old st.own st.kept known_is queue (Upto p (length trace)) names_it (sets_have sets) passed;
          last = last;
        }
