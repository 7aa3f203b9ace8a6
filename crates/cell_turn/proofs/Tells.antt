-- From what the table's steps tell to what a pass tells.
use Rattle.std.proofs.Common.{◌≡◌, ◌⊎◌, inl, inr, ℕ, ◌+◌, ◌*◌, ◌^◌, ◌<◌, true, List, [], ◌∷◌, ◌++◌, length, take, Some, None, refl, sym, ap, ◌∙◌, subst, arith, length-append}
use mathlib.Core.List.{IsPrefix}
use Rattle.atomic_table.specs.Table.{Me}
use Rattle.cell_base.specs.declared.steps.Actor.{Actor}
use Rattle.cell_base.specs.declared.steps.Step.{Step}
use Rattle.cell_machine.specs.Run.{Ran, EndsAs}
use Rattle.cell_turn.specs.Choice.{ran, chosen}
use Rattle.cell_turn.specs.declared.view.View.{View}
use Rattle.cell_turn.specs.Known.{Known, Rests}
use Rattle.cell_turn.specs.Turn.{asking, with_step}
use Rattle.cell_turn.specs.Seats.{Begun, Played}
use Rattle.cell_turn.specs.Told.{Makes}
use Rattle.cell_turn.proofs.Fronts.{prefix_trans, prefix_length}

-- a pass that is yet as at the start, or of which it is known that it had not the turn
pub had_rested : (p q : Known) → (q ≡ p) ⊎ Rests p → Rests q → Rests p
had_rested p q (inl same) now = subst Rests same now
had_rested p q (inr rested) now = rested

-- the view that has the turn of this record
abbrev pub turn_view : View → List Step → View
turn_view v log = record (asking v (2 * length log)) { holds = true; seen = log }

-- the seat after a turn in which a step was made
pub after_step : (m m1 m2 m3 : Me Ran View) (st : Step) → (b : Begun m m1) → m2 ≡ (m1.0, (0, ran m1.0.setup (m1.0.seen ++ st ∷ [])) ∷ [])
    → ((s : Step) → m2.1 ≡ (0, ran m2.0.setup (m2.0.seen ++ s ∷ [])) ∷ [] → m3 ≡ (with_step m2.0 s, [])) → m3 ≡ (with_step (turn_view m.0 b.log) st, [])
after_step m m1 m2 m3 st b is told =
    let view : m2.0 ≡ m1.0 = ap (λ (x : Me Ran View). x.0) is in
    let slot = ap (λ (x : Me Ran View). x.1) is ∙ (λ i. (0, ran (sym view i).setup ((sym view i).seen ++ st ∷ [])) ∷ []) in
    told st slot ∙ ap (λ (x : View). (with_step x st, [])) (view ∙ ap (λ (x : Me Ran View). x.0) b.seat)

pub makes : (p q : Known) (machine : Ran) (actor : Actor) (choice at : ℕ) (st : Step) → machine.setup ≡ p.setup → IsPrefix p.seen machine.steps → at ≡ length machine.steps → at + 1 < 2 ^ 32
    → q.seen ≡ machine.steps ++ st ∷ [] → q.told ≡ p.told ++ (length machine.steps, st) ∷ [] → q.found ≡ 2 * length machine.steps → chosen machine actor choice ≡ Some st → EndsAs machine None → Makes p q actor choice at st
makes p q machine actor choice at st setup begins place short seen told found chose was_open =
    let front : take at q.seen ≡ machine.steps = (λ i. take (place i) (seen i)) ∙ take_front machine.steps (st ∷ []) in record {
      not_below = let l = prefix_length p.seen machine.steps begins in omega arith;
      begins = prefix_trans p.seen machine.steps q.seen begins (st ∷ [], sym seen);
      place = let a = ap length seen in let b = length-append machine.steps (st ∷ []) in omega arith;
      short = short;
      last = seen ∙ ap (λ l. l ++ st ∷ []) (sym front);
      told = told ∙ ap (λ (k : ℕ). p.told ++ (k, st) ∷ []) (sym place);
      found = found ∙ ap (λ (k : ℕ). 2 * k) (sym place);
      choice_made = (λ i. chosen (ran (sym setup i) (front i)) actor choice) ∙ chose;
      was_open = subst (λ (n : Ran). EndsAs n None) (λ i. ran (setup i) (sym front i)) was_open;
    }
  where
    take_front : (xs ys : List Step) → take (length xs) (xs ++ ys) ≡ xs
    take_front [] ys = refl
    take_front (x ∷ xs) ys = ap (λ l. x ∷ l) (take_front xs ys)

-- the same, from what the steps of a turn tell a seat
pub tells_made : (p q : Known) (m m1 m2 m3 : Me Ran View) (actor : Actor) (choice at : ℕ) (st : Step) → m.0.setup ≡ p.setup → m.0.seen ≡ p.seen → m.0.told ≡ p.told
    → Begun m m1 → Played m1 actor choice at st m2 → ((s : Step) → m2.1 ≡ (0, ran m2.0.setup (m2.0.seen ++ s ∷ [])) ∷ [] → m3 ≡ (with_step m2.0 s, []))
    → q.seen ≡ m3.0.seen → q.told ≡ m3.0.told → q.found ≡ m3.0.found → Makes p q actor choice at st
tells_made p q m m1 m2 m3 actor choice at st setup seen told b played published seen' told' found' =
    let e = after_step m m1 m2 m3 st b played.seat published in
    let turn : m1.0 ≡ turn_view m.0 b.log = ap (λ (x : Me Ran View). x.0) b.seat in
    let few = played.few in
    makes p q (ran m.0.setup b.log) actor choice at st setup (subst (λ l. IsPrefix l b.log) seen b.begins) (played.place ∙ ap (λ (x : View). length x.seen) turn) (omega arith)
    (seen' ∙ ap (λ (x : Me Ran View). x.0.seen) e)
    (told' ∙ ap (λ (x : Me Ran View). x.0.told) e ∙ ap (λ l. l ++ (length b.log, st) ∷ []) told)
    (found' ∙ ap (λ (x : Me Ran View). x.0.found) e)
    (subst (λ (x : View). chosen (ran x.setup x.seen) actor choice ≡ Some st) turn played.chose)
    (subst (λ (x : View). EndsAs (ran x.setup x.seen) None) turn played.was_open)
