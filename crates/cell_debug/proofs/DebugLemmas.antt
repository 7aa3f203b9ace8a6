-- Lines of a script, one after the other.
use Rattle.std.proofs.Common.{◌≡◌, ℕ, zero, suc, ◌+◌, ◌*◌, ◌%◌, ◌<◌, ◌≤◌, Bool, true, false, cond, List, [], ◌∷◌, ◌++◌, length, get_or, drop, drop-cons, Option, Some, None, refl, sym, ap, subst, ◌∙◌, append_assoc, arith}
use Rattle.std.proofs.lemmas.List.{append-nil, nil_from_length, length-drop}
use Rattle.std.specs.Prelude.{IsSomeAnd, Result, Ok, Err, OnErr, OnOk}
use Rattle.std.specs.Option.{option_map, option_map_or}
use mathlib.Core.List.{IsPrefix}
use Rattle.cell_base.specs.declared.steps.Actor.{Actor}
use Rattle.cell_base.specs.declared.steps.Step.{Step as OneStep}
use Rattle.cell_machine.specs.declared.status.End.{End as Word}
use Rattle.cell_machine.specs.State.{State}
use Rattle.cell_machine.specs.Run.{Ran, IsEnd}
use Rattle.state_lines.specs.Ends.{end_of}
use Rattle.state_lines.specs.Lines.{end_line}
use Rattle.state_lines.proofs.EndLemmas.{end-is}
use Rattle.cell_debug.specs.declared.line.Line.{Line}
use Rattle.cell_debug.specs.declared.line.Line.TheVariants.{Step, Until, Register, Show, Words, Spe, End}
use Rattle.cell_debug.specs.Turns.{chosen, made, turn, turns, actor_of, round_turn, runs_at, turn_until, turns_until}
use Rattle.cell_debug.specs.Debug.{after, after_all, printed, said, told, IsOnTheWay}

-- ---- what turns leave

-- the setup is the same, and the steps are those that were there, and more
abbrev pub Follows : Ran → Ran → Type 0
Follows m n = (n.setup ≡ m.setup) × IsPrefix m.steps n.steps

stays : (m : Ran) → Follows m m
stays m = (refl, ([], append-nil m.steps))

pub follows_on : (m n o : Ran) → Follows m n → Follows n o → Follows m o
follows_on m n o one two =
    (two.0 ∙ one.0, (one.1.0 ++ two.1.0, sym (append_assoc m.steps one.1.0 two.1.0) ∙ ap (λ (s : List OneStep). s ++ two.1.0) one.1.1 ∙ two.1.1))

turn-follows : (m next : Ran) (actor : Actor) (choice : ℕ) → turn m actor choice ≡ Some next → Follows m next
turn-follows m next actor choice is = of (chosen m actor choice) is
  where
    of : (o : Option OneStep) → option_map (made m) o ≡ Some next → Follows m next
    of None e = absurd cc
    of (Some s) e = let same : made m s ≡ next = cc in subst (Follows m) same (refl, (s ∷ [], refl))

turns-follows : (n : ℕ) (actor : Actor) (choice : ℕ) (m : Ran) → Follows m (turns n actor choice m)
unfolding turns
turns-follows zero actor choice m = stays m
turns-follows (suc n) actor choice m = of (turn m actor choice) refl (λ next. turns-follows n actor choice next)
  where
    of : (o : Option Ran) → turn m actor choice ≡ o → ((next : Ran) → Follows next (turns n actor choice next)) → Follows m (option_map_or (turns n actor choice) o m)
    of None is later = stays m
    of (Some next) is later = follows_on m next (turns n actor choice next) (turn-follows m next actor choice is) (later next)

turn_until-follows : (t p at : ℕ) (m next : Ran) → turn_until t p at m ≡ Some next → Follows m next
turn_until-follows t p at m next is = of (runs_at p at m) is
  where
    of : (b : Bool) → cond b None (round_turn t m) ≡ Some next → Follows m next
    of true e = absurd cc
    of false e = turn-follows m next (actor_of (length m.setup.entries) (t % (2 * length m.setup.entries + 1))) t e

until-follows : (n t p at : ℕ) (m : Ran) → Follows m (turns_until n t p at m)
unfolding turns_until
until-follows zero t p at m = stays m
until-follows (suc n) t p at m = of (turn_until t p at m) refl (λ next. until-follows n (t + 1) p at next)
  where
    of : (o : Option Ran) → turn_until t p at m ≡ o → ((next : Ran) → Follows next (turns_until n (t + 1) p at next)) → Follows m (option_map_or (turns_until n (t + 1) p at) o m)
    of None is later = stays m
    of (Some next) is later = follows_on m next (turns_until n (t + 1) p at next) (turn_until-follows t p at m next is) (later next)

pub after-follows : (m : Ran) (line : Line) → Follows m (after m line)
after-follows m (Step actor choice n) = turns-follows n actor choice m
after-follows m (Until p at n) = until-follows n 0 p at m
after-follows m (Register p r) = stays m
after-follows m (Show show) = stays m
after-follows m (Words p at n) = stays m
after-follows m (Spe p) = stays m
after-follows m End = stays m

after_all-follows : (lines : List Line) (m : Ran) → Follows m (after_all m lines)
unfolding after_all
after_all-follows [] m = stays m
after_all-follows (line ∷ lines) m = follows_on m (after m line) (after_all (after m line) lines) (after-follows m line) (after_all-follows lines (after m line))

-- ---- the loop over the lines

cut : (own lines : List Line) (i : ℕ) (d : Line) → i < length own → own ≡ lines → drop i lines ≡ get_or own i d ∷ drop (i + 1) lines
cut own lines i d within same =
    let one : suc i ≡ i + 1 = omega arith in
    ap (drop i) (sym same) ∙ drop-cons own i d within ∙ ap (λ (k : ℕ). get_or own i d ∷ drop k own) one ∙ ap (λ (ls : List Line). get_or own i d ∷ drop (i + 1) ls) same

pub after_on : (m next start : Ran) (own lines : List Line) (i : ℕ) (d : Line) → i < length own → own ≡ lines → next ≡ after m (get_or own i d)
    → after_all m (drop i lines) ≡ after_all start lines → after_all next (drop (i + 1) lines) ≡ after_all start lines
unfolding after_all
after_on m next start own lines i d within same is so_far =
    ap (λ (n : Ran). after_all n (drop (i + 1) lines)) is ∙ sym (ap (after_all m) (cut own lines i d within same)) ∙ so_far

pub after_done : (m start : Ran) (lines : List Line) (i : ℕ) → length lines ≤ i → after_all m (drop i lines) ≡ after_all start lines → m ≡ after_all start lines
unfolding after_all
after_done m start lines i past so_far =
    let none : drop i lines ≡ [] = nil_from_length (drop i lines) (omega (arith, length-drop i lines)) in
    sym (ap (after_all m) none) ∙ so_far

-- what was printed, in front of what the lines that are left print, is what all of them print
pub prints_on : (m next start : Ran) (own lines : List Line) (i : ℕ) (d : Line) (whole out new : List ℕ) → i < length own → own ≡ lines → next ≡ after m (get_or own i d)
    → new ≡ out ++ said m (get_or own i d) → out ++ printed m (drop i lines) ≡ whole → new ++ printed next (drop (i + 1) lines) ≡ whole
unfolding printed
prints_on m next start own lines i d whole out new within same is wrote so_far =
    let line = get_or own i d in
    ap (λ (t : List ℕ). t ++ printed next (drop (i + 1) lines)) wrote
    ∙ append_assoc out (said m line) (printed next (drop (i + 1) lines))
    ∙ ap (λ (n : Ran). out ++ (said m line ++ printed n (drop (i + 1) lines))) is
    ∙ sym (ap (λ (ls : List Line). out ++ printed m ls) (cut own lines i d within same)) ∙ so_far

pub prints_done : (m : Ran) (lines : List Line) (i : ℕ) (whole out : List ℕ) → length lines ≤ i → out ++ printed m (drop i lines) ≡ whole → out ≡ whole
unfolding printed
prints_done m lines i whole out past so_far =
    let none : drop i lines ≡ [] = nil_from_length (drop i lines) (omega (arith, length-drop i lines)) in
    sym (append-nil out) ∙ sym (ap (λ (ls : List Line). out ++ printed m ls) none) ∙ so_far

pub on_the_way : (start m : Ran) (lines : List Line) (i : ℕ) → Follows start m → after_all m (drop i lines) ≡ after_all start lines → IsOnTheWay start m lines
on_the_way start m lines i behind so_far = record {
  setup = behind.0;
  begins = behind.1;
  within = subst (λ (n : Ran). IsPrefix m.steps n.steps) so_far (after_all-follows (drop i lines) m).1;
}

pub followed : (start m next : Ran) (line : Line) → Follows start m → next ≡ after m line → Follows start next
followed start m next line behind is = subst (Follows start) (sym is) (follows_on start m (after m line) behind (after-follows m line))

pub on_err : {T E : Type 0} (r : Result T E) (P : Type 0) → P → OnErr r P
on_err (Ok x) P h = tt
on_err (Err e) P h = h

-- what is written of what is there
pub told_of : {X : Type 0} (o : Option X) (f : X → List ℕ) (out new : List ℕ) → IsSomeAnd o (λ x. new ≡ out ++ f x) → new ≡ out ++ told f o
told_of None f out new wrote = absurd wrote
told_of (Some x) f out new wrote = wrote

-- the end word is the decided one
pub end_told : {T E : Type 0} (r : Result T E) (o : Option State) (budget : ℕ) (end : Option Word) (out new : List ℕ) → IsSomeAnd o (λ M. IsEnd M budget end)
    → OnOk r (new ≡ out ++ end_line end) → OnOk r (IsSomeAnd o (λ M. new ≡ out ++ end_line (end_of M budget)))
end_told (Ok x) None budget end out new is wrote = absurd is
end_told (Ok x) (Some M) budget end out new is wrote = wrote ∙ ap (λ e. out ++ end_line e) (end-is M budget end is)
end_told (Err e) o budget end out new is wrote = wrote
