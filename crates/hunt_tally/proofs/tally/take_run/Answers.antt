use Rattle.std.proofs.Common.{◌≡◌, List, [], ◌∷◌, ◌++◌, length, take, sym, ap, ◌∙◌, subst, arith, append_assoc}
use Rattle.std.specs.Prelude.{slice_get, Some, Result, Ok, Err, OnErr}
use Rattle.std.proofs.lemmas.List.{length_push}
use Rattle.hunt_tally.specs.Tallies.{Tells, entries_of}
use Rattle.hunt_tally.specs.Views.{entries_in}
use Rattle.hunt_tally.proofs.Taking.{took_more, took_none, few, take_front}
use Rattle.hunt_tally.specs.Takes.{took}
use Rattle.hunt_tally.proofs.tally.take_run.Goals as goal

pub take_in-requires : goal.take_in-requires
take_in-requires c = λ i e at.
    let known = c.requires.runs in
    let is = c.loop-telling.invariant.taken known.0 known.1 known.2 in
    let least = few (known.0 ++ c.loop-telling.yielded ∷ []) i e (subst (λ es. slice_get es i ≡ Some e) is at) in
    let long = length_push known.0 c.loop-telling.yielded in
    omega (arith, least, long, known.1, c.requires.room)

pub loop-telling-init : goal.loop-telling-init
loop-telling-init c = record {
  can = tt;
  finite = tt;
  whole = c.into_iter-telling-iterator.ensures.into_iter_gives.0;
  taken = λ runs long is. is ∙ sym (took_none runs);
}

pub loop-telling-preserved : goal.loop-telling-preserved
loop-telling-preserved c = record {
  can = tt;
  finite = tt;
  whole = append_assoc c.loop-telling.yielded (c.in-Some.telling ∷ []) c.next.new.self.rest.items ∙ ap (λ xs. c.loop-telling.yielded ++ xs) (sym c.in-Some.ensures.steps.0) ∙ c.loop-telling.invariant.whole;
  taken = λ runs long is.
      c.in_ok-take_in.ensures.taken ∙ ap (λ es. took c.args.run es c.in-Some.telling) (c.loop-telling.invariant.taken runs long is)
      ∙ sym (took_more runs c.loop-telling.yielded c.in-Some.telling ∙ ap (λ n. took n (entries_of (runs ++ c.loop-telling.yielded ∷ [])) c.in-Some.telling) long);
}

on_err : {A E : Type 0} (P : Type 0) (r : Result A E) → P → OnErr r P
on_err P (Ok a) p = tt
on_err P (Err e) p = p

pub returns-in_err-take_in-clause-part : goal.returns-in_err-take_in-clause-part
returns-in_err-take_in-clause-part c =
    let front : take (length c.loop-telling.yielded) c.args.tellings.items ≡ c.loop-telling.yielded
    = ap (take (length c.loop-telling.yielded)) (sym c.loop-telling.invariant.whole) ∙ take_front c.loop-telling.yielded c.loop-telling.telling-iterator.rest.items in
    let part : (runs : List (List Tells)) → length runs ≡ c.args.run → entries_in c.args.entries.now.entries ≡ entries_of runs
    → entries_in c.take_in.new.entries.entries ≡ entries_of (runs ++ take (length c.loop-telling.yielded) c.args.tellings.items ∷ [])
    = λ runs long is. c.in_err-take_in.ensures.kept ∙ c.loop-telling.invariant.taken runs long is ∙ ap (λ ts. entries_of (runs ++ ts ∷ [])) (sym front) in
    on_err _ c.from_residual.result (length c.loop-telling.yielded, part)
