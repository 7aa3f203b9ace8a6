-- What is told of runs.
use Rattle.std.proofs.Common.{◌≡◌, ◌∙◌, ℕ, suc, ◌+◌, List, [], ◌∷◌, ◌++◌, length, ◌-◌, true, false, Option, Some, None, Vec, Result, Ok, Err, refl, sym, ap, subst, arith, append_assoc, length-append, inr}
use Rattle.std.specs.Prelude.{IsSome, IsSomeAnd, OnOk, is_some}
use Rattle.std.specs.declared.alloc.Global.{Global}
use Rattle.std.specs.Fmt.{decimal}
use Rattle.cell_io.specs.Files.{File}
use Rattle.cell_io.specs.Store.{Ledger}
use Rattle.cell_base.specs.Records.{line_feed}
use Rattle.std.proofs.lemmas.List.{append-nil}
use Rattle.cell_base.specs.declared.steps.Step.{Step}
use Rattle.cell_machine.specs.Opening.{Opening}
use Rattle.cell_machine.specs.State.{State}
use Rattle.cell_machine.specs.Run.{Ran, IsRun, state_of, next_of}
use Rattle.cell_trace.specs.Effects.{Between, StopsAt, Makes, grown, line_in, lines_by, lines_in, refused_in}
use Rattle.cell_trace.specs.Allowed.{allowed_of}
use Rattle.cell_trace.specs.Flows.{flows_of}
use Rattle.cell_commands.specs.declared.fault.Fault.TheVariants.{NotARun}
use Rattle.cell_commands.specs.Checks.{TellsEnd}
use Rattle.trace_commands.specs.declared.fault.Fault.{Fault}
use Rattle.trace_commands.specs.declared.fault.Fault.TheVariants.{Input}
use Rattle.trace_commands.specs.declared.words.Ask.{Ask}
use Rattle.trace_commands.specs.declared.ranges.Layout.TheVariants.{Bars}
use Rattle.trace_commands.specs.Words.{Word, asked, go}
use Rattle.trace_commands.specs.Answers.{Comes}
use Rattle.trace_commands.specs.Choices.{start, with_choices}
use Rattle.trace_commands.specs.Files.{StepsRefuse, StandsFor, HasRecord, HasChoices}
use Rattle.trace_commands.specs.Told.{Adds, AddsChosen, Came, Goes, RefusesRest, Tells, TellsStanding, TellsBefore, TellsLine, TellsLines, Told, first_run}
use Rattle.trace_commands.proofs.StepsLaws.{refuses_rest, refuses_all, none_some}

pub on_ok : {A E : Type 0} (r : Result A E) (P Q : Type 0) → (P → Q) → OnOk r P → OnOk r Q
on_ok (Ok x) P Q k h = k h
on_ok (Err e) P Q k h = h

-- a text that is all that was added
pub only_added : (P : List ℕ → Type 0) (first new : List ℕ) → first ≡ [] → Adds P first new → P new
only_added P first new none a = subst P (sym (a.2 ∙ ap (λ t. t ++ a.0) none)) a.1

-- ---- from a machine's start

pub made_all : (m n : Ran) (steps : List Step) → m ≡ start m.setup → n ≡ record m { steps = m.steps ++ steps } → n ≡ record { setup = m.setup; steps = steps }
made_all m n steps at made = made ∙ ap (λ (x : Ran). record x { steps = x.steps ++ steps }) at

pub behind_refused : (m n : Ran) (steps : List Step) (s : Step) (fault : Fault) → m ≡ start m.setup → StopsAt m steps n s → IsRun n.setup n.steps → fault ≡ Input (NotARun (length n.steps)) → RefusesRest (start m.setup) steps fault
behind_refused m n steps s fault at h run is = subst (λ (x : Ran). RefusesRest x steps fault) at (refuses_rest m n steps s fault h run is)

pub all_refused : (m n : Ran) (steps : List Step) (s : Step) (fault : Fault) → m ≡ start m.setup → StopsAt m steps n s → IsRun n.setup n.steps → fault ≡ Input (NotARun (length n.steps)) → StepsRefuse m.setup steps None fault
all_refused m n steps s fault at h run is = refuses_all m.setup steps fault (behind_refused m n steps s fault at h run is)

pub lines_told : (f : Between) (m : Ran) (steps : List Step) (first text : List ℕ) → m ≡ start m.setup → first ≡ [] → text ≡ first ++ lines_by f m steps → None ≡ refused_in m steps
    → (refused_in (start m.setup) steps ≡ None) × (text ≡ lines_by f (start m.setup) steps)
lines_told f m steps first text at none wrote all =
    (sym (all ∙ ap (λ (x : Ran). refused_in x steps) at), wrote ∙ ap (λ t. t ++ lines_by f m steps) none ∙ ap (λ (x : Ran). lines_by f x steps) at)

-- ---- states and flow controllers

pub standing : (m : Ran) (old mid new : List ℕ) → Adds (TellsEnd m) old mid → IsSomeAnd (state_of m) (λ M. new ≡ mid ++ flows_of M) → Adds (TellsStanding m) old new
standing m old mid new a h =
    let states = a.0 in
    let M = a.1.last in
    let wrote : new ≡ mid ++ flows_of M = subst (λ (o : Option State). IsSomeAnd o (λ N. new ≡ mid ++ flows_of N)) a.1.there h in
    let told : IsSomeAnd (Some M) (λ N. states ++ flows_of M ≡ states ++ flows_of N) = refl in (
      states ++ flows_of M,
      record {
        states = states;
        tells = a.1;
        told = subst (λ (o : Option State). IsSomeAnd o (λ N. states ++ flows_of M ≡ states ++ flows_of N)) (sym a.1.there) told;
      },
      wrote ∙ ap (λ t. t ++ flows_of M) a.2 ∙ append_assoc old states (flows_of M),
    )

-- ---- steps that are chosen

no_step : (s t : Step) (before after : List Step) → s ∷ [] ≡ before ++ t ∷ after → (before ≡ []) × (t ≡ s)
no_step s t [] after e = (refl, cc)
no_step s t (b ∷ before) after e =
    let long : 1 ≡ suc (length (before ++ t ∷ after)) = ap length e in
    let more = length-append before (t ∷ after) in
    absurd (omega (arith, long, more))

-- none stops at a step that is allowed
stops_not : (m n : Ran) (s t : Step) → IsSome (next_of m s) → StopsAt m (s ∷ []) n t → ⊥
stops_not m n s t some h =
    let k = no_step s t h.before h.after h.parts in
    let kept : n ≡ m = h.made ∙ ap (λ (xs : List Step). record m { steps = m.steps ++ xs }) k.0 ∙ ap (λ (xs : List Step). record m { steps = xs }) (append-nil m.steps) in
    let none : next_of m s ≡ None = sym (ap (λ (x : Ran). next_of x t) kept ∙ ap (next_of m) k.1) ∙ h.refused in
    none_some (next_of m s) none some

-- a step that is allowed was made
pub one_made : (m n : Ran) (s : Step) (r : Option Step) → IsSome (next_of m s) → Makes m (s ∷ []) n r → n ≡ grown m s
one_made m n s None some h = h
one_made m n s (Some t) some h = absurd (stops_not m n s t some h)

none_stops : (m n : Ran) (s : Step) (r : Option Step) → IsSome (next_of m s) → Makes m (s ∷ []) n r → r ≡ None
none_stops m n s None some h = refl
none_stops m n s (Some t) some h = absurd (stops_not m n s t some h)

pub none_chosen : (m : Ran) (out : List ℕ) → AddsChosen m m out out
unfolding lines_by refused_in
none_chosen m out = ([], ap (λ (xs : List Step). record m { steps = xs }) (sym (append-nil m.steps)), refl, sym (append-nil out))

pub one_chosen : (m n : Ran) (s : Step) (r : Option Step) (out new : List ℕ) → IsSome (next_of m s) → Makes m (s ∷ []) n r → r ≡ refused_in m (s ∷ []) → new ≡ out ++ lines_in m (s ∷ []) → AddsChosen m n out new
one_chosen m n s r out new some h told wrote = (s ∷ [], one_made m n s r some h, sym told ∙ none_stops m n s r some h, wrote)

-- the lines of steps and of those behind them, where all of the first are allowed
pub lines_more : (m : Ran) (xs ys : List Step) → refused_in m xs ≡ None → lines_in m (xs ++ ys) ≡ lines_in m xs ++ lines_in (record m { steps = m.steps ++ xs }) ys
unfolding lines_by refused_in
lines_more m [] ys none = ap (λ (t : List Step). lines_in (record m { steps = t }) ys) (sym (append-nil m.steps))
lines_more m (s ∷ xs) ys none = on (line_in m s) refl (lines_more (grown m s) xs ys)
  where
    later : Ran
    later = record m { steps = m.steps ++ s ∷ xs }

    same : record (grown m s) { steps = (grown m s).steps ++ xs } ≡ later
    same = ap (λ (t : List Step). record m { steps = t }) (append_assoc m.steps (s ∷ []) xs)

    on : (o : Option (List ℕ)) → line_in m s ≡ o → (refused_in (grown m s) xs ≡ None → lines_in (grown m s) (xs ++ ys) ≡ lines_in (grown m s) xs ++ lines_in (record (grown m s) { steps = (grown m s).steps ++ xs }) ys)
        → lines_in m ((s ∷ xs) ++ ys) ≡ lines_in m (s ∷ xs) ++ lines_in later ys
    on None e later_on = absurd (let k : Some s ≡ None = rw e at none in cc)
    on (Some line) e later_on =
        let rest : refused_in (grown m s) xs ≡ None = rw e at none in
        let here = later_on rest in
        rw e (ap (λ t. line ++ t) (here ∙ ap (λ (n : Ran). lines_in (grown m s) xs ++ lines_in n ys) same) ∙ sym (append_assoc line (lines_in (grown m s) xs) (lines_in later ys)))

pub refused_more : (m : Ran) (xs ys : List Step) → refused_in m xs ≡ None → refused_in m (xs ++ ys) ≡ refused_in (record m { steps = m.steps ++ xs }) ys
unfolding refused_in
refused_more m [] ys none = ap (λ (t : List Step). refused_in (record m { steps = t }) ys) (sym (append-nil m.steps))
refused_more m (s ∷ xs) ys none = on (line_in m s) refl (refused_more (grown m s) xs ys)
  where
    later : Ran
    later = record m { steps = m.steps ++ s ∷ xs }

    same : record (grown m s) { steps = (grown m s).steps ++ xs } ≡ later
    same = ap (λ (t : List Step). record m { steps = t }) (append_assoc m.steps (s ∷ []) xs)

    on : (o : Option (List ℕ)) → line_in m s ≡ o → (refused_in (grown m s) xs ≡ None → refused_in (grown m s) (xs ++ ys) ≡ refused_in (record (grown m s) { steps = (grown m s).steps ++ xs }) ys)
        → refused_in m ((s ∷ xs) ++ ys) ≡ refused_in later ys
    on None e later_on = absurd (let k : Some s ≡ None = rw e at none in cc)
    on (Some line) e later_on =
        let rest : refused_in (grown m s) xs ≡ None = rw e at none in
        rw e (later_on rest ∙ ap (λ (n : Ran). refused_in n ys) same)

pub more_chosen : (m l n : Ran) (out mid new : List ℕ) → AddsChosen m l out mid → AddsChosen l n mid new → AddsChosen m n out new
more_chosen m l n out mid new a b =
    let xs = a.0 in
    let ys = b.0 in
    let at : l ≡ record m { steps = m.steps ++ xs } = a.1 in (
      xs ++ ys,
      b.1 ∙ ap (λ (x : Ran). record x { steps = x.steps ++ ys }) at ∙ ap (λ (t : List Step). record m { steps = t }) (append_assoc m.steps xs ys),
      refused_more m xs ys a.2 ∙ ap (λ (x : Ran). refused_in x ys) (sym at) ∙ b.2,
      b.3 ∙ ap (λ t. t ++ lines_in l ys) a.3 ∙ append_assoc out (lines_in m xs) (lines_in l ys) ∙ ap (λ (x : Ran). out ++ (lines_in m xs ++ lines_in x ys)) at ∙ ap (λ t. out ++ t) (sym (lines_more m xs ys a.2)),
    )

-- a text of all that a state gives
same_text : (o : Option State) (f : State → List ℕ) (out text new : List ℕ) → out ≡ text → IsSomeAnd o (λ M. new ≡ out ++ f M) → IsSomeAnd o (λ M. new ≡ text ++ f M)
same_text o f out text new is h = subst (λ t. IsSomeAnd o (λ M. new ≡ t ++ f M)) is h

pub goes : (numbers : List ℕ) (m n : Ran) (first mid out new : List ℕ) → first ≡ [] → AddsChosen m n first mid → n ≡ with_choices m numbers → Adds (TellsStanding n) mid out
    → IsSomeAnd (state_of n) (λ M. new ≡ out ++ allowed_of M n.setup.budget) → Goes numbers m new
goes numbers m n first mid out new none a chosen b last =
    let so_far : out ≡ lines_in m a.0 ++ b.0 = b.2 ∙ ap (λ t. t ++ b.0) (a.3 ∙ ap (λ t. t ++ lines_in m a.0) none) in
    record {
      steps = a.0;
      chosen = sym chosen ∙ a.1;
      standing = b.0;
      tells = subst (λ (x : Ran). TellsStanding x b.0) a.1 b.1;
      told = subst (λ (x : Ran). IsSomeAnd (state_of x) (λ M. new ≡ (lines_in m a.0 ++ b.0) ++ allowed_of M x.setup.budget)) a.1
          (same_text (state_of n) (λ M. allowed_of M n.setup.budget) out (lines_in m a.0 ++ b.0) new so_far last);
    }

-- ---- lines of the order

pub stops_of : (m n : Ran) (steps : List Step) (r : Option Step) → Makes m steps n r → is_some r ≡ true → (s : Step) × StopsAt m steps n s
stops_of m n steps None h some = absurd (cc)
stops_of m n steps (Some s) h some = (s, h)

pub made_of : (m n : Ran) (steps : List Step) (r : Option Step) → Makes m steps n r → r ≡ None → n ≡ record m { steps = m.steps ++ steps }
made_of m n steps r h none = subst (Makes m steps n) none h

pub none_is : {X : Type 0} (r : Option X) → is_some r ≡ false → r ≡ None
none_is None e = refl
none_is (Some x) e = absurd (cc)

pub line_added : (m n : Ran) (s : Step) (count : ℕ) (out a b c : List ℕ) → n ≡ grown m s → count ≡ length m.steps → a ≡ out ++ decimal count → Adds (TellsBefore Bars n) a b → c ≡ b ++ line_feed → Adds (TellsLine (grown m s)) out c
line_added m n s count out a b c made counted first t last =
    let text = t.0 in
    let long = length-append m.steps (s ∷ []) in
    let place : count ≡ length (m.steps ++ s ∷ []) - 1 = omega (arith, counted, long) in (
      decimal count ++ text ++ line_feed,
      (text, subst (λ (x : Ran). TellsBefore Bars x text) made t.1, ap (λ (k : ℕ). decimal k ++ text ++ line_feed) place),
      last ∙ ap (λ (x : List ℕ). x ++ line_feed) (t.2 ∙ ap (λ (x : List ℕ). x ++ text) first ∙ append_assoc out (decimal count) text) ∙ append_assoc out (decimal count ++ text) line_feed,
    )

pub no_lines : (S : Opening) (steps : List Step) (out : List ℕ) → Adds (TellsLines S steps 0) out out
unfolding TellsLines
no_lines S steps out = ([], refl, sym (append-nil out))

pub one_more_line : (S : Opening) (steps : List Step) (i : ℕ) (n : Ran) (out mid new : List ℕ) → n ≡ first_run S steps (i + 1) → Adds (TellsLines S steps i) out mid → Adds (TellsLine n) mid new → Adds (TellsLines S steps (i + 1)) out new
unfolding TellsLines
one_more_line S steps i n out mid new is a b =
    let one : i + 1 ≡ suc i = omega arith in
    let line : TellsLine (first_run S steps (suc i)) b.0 = subst (λ (k : ℕ). TellsLine (first_run S steps k) b.0) one (subst (λ (x : Ran). TellsLine x b.0) is b.1) in
    let more : TellsLines S steps (suc i) (a.0 ++ b.0) = (a.0, b.0, a.1, line, refl) in
    (a.0 ++ b.0, subst (λ (k : ℕ). TellsLines S steps k (a.0 ++ b.0)) (sym one) more, b.2 ∙ ap (λ (t : List ℕ). t ++ b.0) a.2 ∙ append_assoc out a.0 b.0)

-- ---- answers

pub tells_comes : (files : List File) (machine record_file : Word) (ask : Ask) (old new : Ledger) (setup : Opening) (steps : List Step) (result : Result (Vec ℕ Global) Fault) → StandsFor files machine setup → HasRecord files record_file steps
    → Told setup steps ask result → Comes files (asked machine record_file ask) old new result
tells_comes files machine record_file ask old new setup steps (Ok text) stood has t = (setup, steps, stood, has, t)
tells_comes files machine record_file ask old new setup steps (Err fault) stood has t = inr (inr (setup, steps, stood, has, t))

pub goes_comes : (files : List File) (machine record_file choices : Word) (count : ℕ) (old new : Ledger) (setup : Opening) (steps : List Step) (numbers : List ℕ) (result : Result (Vec ℕ Global) Fault) → StandsFor files machine setup
    → HasRecord files record_file steps → HasChoices files choices numbers → Came (Goes numbers) setup steps count result → Comes files (go machine record_file count choices) old new result
goes_comes files machine record_file choices count old new setup steps numbers (Ok text) stood has chosen t = (setup, steps, numbers, stood, has, chosen, t.0, t.1)
goes_comes files machine record_file choices count old new setup steps numbers (Err fault) stood has chosen t = inr (inr (inr (setup, steps, stood, has, (numbers, chosen, t))))
