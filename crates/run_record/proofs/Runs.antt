-- A part of a run is a run, and the first step that ends one.
use Rattle.std.proofs.Common.{◌≡◌, ℕ, ◌+◌, ◌<◌, ◌≤◌, Bool, true, false, cond, ltb, List, [], ◌∷◌, ◌++◌, length, take, drop, get_or, Option, Some, None, Result, Ok, Err, refl, sym, ap, ap₂, subst, ◌∙◌, append_assoc, arith, length-append}
use Rattle.std.specs.Prelude.{IfOk, IsOk, IsSome, OnErr, option_and_then}
use Rattle.std.specs.Result.{is_err}
use Rattle.std.proofs.lemmas.Bool.{ltb-true, lt-ltb}
use Rattle.std.proofs.lemmas.List.{take-append-drop, take_more, take-append-le}
use Rattle.std.proofs.Math.Seq.{take-append_seam, take-length}
use Rattle.cell_base.specs.declared.steps.Step.{Step}
use Rattle.cell_machine.specs.State.{State}
use Rattle.cell_machine.specs.Next.{next}
use Rattle.cell_machine.specs.Opening.{Opening, opening}
use Rattle.cell_machine.specs.Run.{Ran, IsRun, replay, next_of}
use Rattle.cell_machine.proofs.Replays.{replay-snoc}
use Rattle.run_record.specs.Replayed.{IsRefusedAt}

through : (o : Option State) (xs ys : List Step) → ((N : State) → replay N (xs ++ ys) ≡ option_and_then (λ K. replay K ys) (replay N xs))
    → option_and_then (λ N. replay N (xs ++ ys)) o ≡ option_and_then (λ K. replay K ys) (option_and_then (λ N. replay N xs) o)
through None xs ys h = refl
through (Some N) xs ys h = h N

replay-append : (M : State) (xs ys : List Step) → replay M (xs ++ ys) ≡ option_and_then (λ K. replay K ys) (replay M xs)
replay-append M [] ys = refl
replay-append M (s ∷ xs) ys = through (next M s) xs ys (λ N. replay-append N xs ys)

first_is : {A B : Type 0} (o : Option A) (f : A → Option B) → IsSome (option_and_then f o) → IsSome o
first_is None f is = is
first_is (Some x) f is = refl

-- the first steps of a run are a run
pub part_runs : (setup : Opening) (before after : List Step) → IsRun setup (before ++ after) → IsRun setup before
part_runs setup before after run =
    let len = length-append before after in
    let part : IsSome (replay (opening setup) before) = first_is (replay (opening setup) before) (λ K. replay K after) (subst (λ (o : Option State). IsSome o) (replay-append (opening setup) before after) run.0) in
    (part, omega (arith, len, run.1))

-- a run goes on by the steps that a machine makes
pub run_goes_on : (setup : Opening) (steps : List Step) (s : Step) → IsSome (next_of (record { setup = setup; steps = steps }) s) → IsRun setup (steps ++ s ∷ [])
run_goes_on setup steps s is = of (ltb (length steps) setup.budget) refl is
  where
    of : (t : Bool) → ltb (length steps) setup.budget ≡ t → IsSome (cond t (option_and_then (λ M. next M s) (replay (opening setup) steps)) None) → IsRun setup (steps ++ s ∷ [])
    of true e is =
        let lt = ltb-true (length steps) setup.budget e in
        let len = length-append steps (s ∷ []) in
        (subst (λ (o : Option State). IsSome o) (sym (replay-snoc (opening setup) steps s)) is, omega (arith, len, lt))
    of false e is = absurd (cc)

-- and by no others
pub run_went_on : (setup : Opening) (steps : List Step) (s : Step) → IsRun setup (steps ++ s ∷ []) → IsSome (next_of (record { setup = setup; steps = steps }) s)
run_went_on setup steps s run =
    let len = length-append steps (s ∷ []) in
    let lt : length steps < setup.budget = omega (arith, len, run.1) in
    let made : IsSome (option_and_then (λ M. next M s) (replay (opening setup) steps)) = subst (λ (o : Option State). IsSome o) (replay-snoc (opening setup) steps s) run.0 in
    rw (lt-ltb (length steps) setup.budget lt) made

-- no run has a refused step
pub refused_is_no_run : (setup : Opening) (steps : List Step) (at : ℕ) → IsRefusedAt setup steps at → IsRun setup steps → ⊥
refused_is_no_run setup steps at r run =
    let cut : steps ≡ (r.before ++ r.step ∷ []) ++ r.after = r.parts ∙ sym (append_assoc r.before (r.step ∷ []) r.after) in
    r.no_run (part_runs setup (r.before ++ r.step ∷ []) r.after (subst (IsRun setup) cut run))

-- of two refused steps neither is the later one
not_later : (setup : Opening) (steps : List Step) (a b : ℕ) → IsRefusedAt setup steps a → IsRefusedAt setup steps b → a < b → ⊥
not_later setup steps a b r s lt =
    let upto = r.before ++ r.step ∷ [] in
    let long : length upto ≡ length r.before + 1 = length-append r.before (r.step ∷ []) in
    let within : length upto ≤ length s.before = omega (arith, long, r.counted, s.counted, lt) in
    let cut : steps ≡ upto ++ r.after = r.parts ∙ sym (append_assoc r.before (r.step ∷ []) r.after) in
    let first : take (length upto) steps ≡ upto = ap (take (length upto)) cut ∙ take-append_seam upto r.after in
    let second : take (length upto) steps ≡ take (length upto) s.before = ap (take (length upto)) s.parts ∙ take-append-le (length upto) s.before (s.step ∷ s.after) within in
    let whole : upto ++ drop (length upto) s.before ≡ s.before = ap (λ (t : List Step). t ++ drop (length upto) s.before) (sym first ∙ second) ∙ take-append-drop (length upto) s.before in
    r.no_run (part_runs setup upto (drop (length upto) s.before) (subst (IsRun setup) (sym whole) s.run))

pub one_refused : (setup : Opening) (steps : List Step) (a b : ℕ) → IsRefusedAt setup steps a → IsRefusedAt setup steps b → a ≡ b
one_refused setup steps a b r s = omega (arith, not_later setup steps a b r s, not_later setup steps b a s r)

is_no_ok : {A E : Type 0} (r : Result A E) → is_err r ≡ true → IsOk r → ⊥
is_no_ok (Ok x) e ok = absurd (cc)
is_no_ok (Err x) e ok = absurd (cc)

-- where a machine that made the first i steps refuses the next
pub refused_at : {A E : Type 0} (setup : Opening) (steps : List Step) (i : ℕ) (m : Ran) (d : Step) (at : ℕ) (r : Result A E) → m ≡ record { setup = setup; steps = take i steps } → IsRun setup (take i steps) → i < length steps
    → (IsSome (next_of m (get_or steps i d)) → IsOk r) → is_err r ≡ true → at ≡ length m.steps → IsRefusedAt setup steps at
refused_at setup steps i m d at r stands run lt made refused counted =
    let s = get_or steps i d in
    let more : take (i + 1) steps ≡ take i steps ++ s ∷ [] = take_more steps i d lt in
    let cut : steps ≡ (take i steps ++ s ∷ []) ++ drop (i + 1) steps = sym (take-append-drop (i + 1) steps) ∙ ap (λ (t : List Step). t ++ drop (i + 1) steps) more in
    record {
      before = take i steps;
      step = s;
      after = drop (i + 1) steps;
      parts = cut ∙ append_assoc (take i steps) (s ∷ []) (drop (i + 1) steps);
      counted = counted ∙ ap (λ (n : Ran). length n.steps) stands;
      run = run;
      no_run = λ on. is_no_ok r refused (made (subst (λ (n : Ran). IsSome (next_of n s)) (sym stands) (run_went_on setup (take i steps) s on)));
    }

-- all steps were made
pub whole_run : (setup : Opening) (steps : List Step) (i : ℕ) → i ≡ length steps → IsRun setup (take i steps) → IsRun setup steps
whole_run setup steps i all run = subst (IsRun setup) (ap (λ (k : ℕ). take k steps) all ∙ take-length steps) run

-- ---- behind steps that were made before

cut_at : (steps : List Step) (i : ℕ) (d : Step) → i < length steps → steps ≡ take i steps ++ get_or steps i d ∷ drop (i + 1) steps
cut_at steps i d lt =
    sym (take-append-drop (i + 1) steps) ∙ ap (λ (t : List Step). t ++ drop (i + 1) steps) (take_more steps i d lt) ∙ append_assoc (take i steps) (get_or steps i d ∷ []) (drop (i + 1) steps)

-- where a machine that made the first i of them refuses the next
pub refused_behind : {A E : Type 0} (setup : Opening) (front steps : List Step) (i : ℕ) (m : Ran) (d : Step) (at : ℕ) (r : Result A E) → m ≡ record { setup = setup; steps = front ++ take i steps } → IsRun setup (front ++ take i steps) → i < length steps
    → (IsSome (next_of m (get_or steps i d)) → IsOk r) → is_err r ≡ true → at ≡ length m.steps → IsRefusedAt setup (front ++ steps) at
refused_behind setup front steps i m d at r stands run lt made refused counted =
    record {
      before = front ++ take i steps;
      step = get_or steps i d;
      after = drop (i + 1) steps;
      parts = ap (λ (t : List Step). front ++ t) (cut_at steps i d lt) ∙ sym (append_assoc front (take i steps) (get_or steps i d ∷ drop (i + 1) steps));
      counted = counted ∙ ap (λ (n : Ran). length n.steps) stands;
      run = run;
      no_run = λ on. is_no_ok r refused (made (subst (λ (n : Ran). IsSome (next_of n (get_or steps i d))) (sym stands) (run_went_on setup (front ++ take i steps) (get_or steps i d) on)));
    }

pub more_behind : (front steps : List Step) (i : ℕ) (d : Step) → i < length steps → (front ++ take i steps) ++ get_or steps i d ∷ [] ≡ front ++ take (i + 1) steps
more_behind front steps i d lt = append_assoc front (take i steps) (get_or steps i d ∷ []) ∙ ap (λ (t : List Step). front ++ t) (sym (take_more steps i d lt))

-- a machine that made the first i of them has those before the next one's place
pub kept_before : (setup : Opening) (front steps : List Step) (i : ℕ) (m : Ran) (d : Step) {made : List Step} → m ≡ record { setup = setup; steps = front ++ take i steps } → i < length steps → made ≡ m.steps
    → m ≡ record { setup = setup; steps = take (length made) (front ++ steps) }
kept_before setup front steps i m d {made} stands lt same =
    let so_far : made ≡ front ++ take i steps = same ∙ ap (λ (n : Ran). n.steps) stands in
    let parts : front ++ steps ≡ (front ++ take i steps) ++ get_or steps i d ∷ drop (i + 1) steps = ap (λ (t : List Step). front ++ t) (cut_at steps i d lt) ∙ sym (append_assoc front (take i steps) (get_or steps i d ∷ drop (i + 1) steps)) in
    let first : take (length made) (front ++ steps) ≡ front ++ take i steps = ap₂ (λ (ms all : List Step). take (length ms) all) so_far parts ∙ take-append_seam (front ++ take i steps) (get_or steps i d ∷ drop (i + 1) steps) in
    stands ∙ ap (λ (xs : List Step). let n : Ran = record { setup = setup; steps = xs } in n) (sym first)

-- what was answered where it was no refusal
pub ok_there : {A E : Type 0} (P : A → Type 0) (r : Result A E) → is_err r ≡ false → IfOk r P → (x : A) × P x × IsOk r
ok_there P (Ok x) e p = (x, p, refl)
ok_there P (Err x) e p = absurd (cc)

-- what is so where it was one
pub err_there : {A E : Type 0} (P : Type 0) (r : Result A E) → is_err r ≡ true → OnErr r P → P
err_there P (Ok x) e p = absurd (cc)
err_there P (Err x) e p = p
