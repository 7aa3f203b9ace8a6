-- On a run, what its actions do to bytes is what the machine does.
use Rattle.std.proofs.Common.{◌≡◌, ℕ, zero, suc, ◌+◌, ◌-◌, ◌<◌, ◌≤◌, refl, sym, ◌∙◌, ap, subst, arith, List, [], ◌∷◌, ◌++◌, length, map, take, drop}
use Rattle.std.specs.Prelude.{Option, Some, None, option_map, option_and_then, slice_index, cond}
use Rattle.std.specs.List.{range_with_len}
use Rattle.std.proofs.Math.Seq.{drop-cons}
use mathlib.Core.Path.{fun_ext}
use Rattle.cell_base.specs.declared.steps.Step.{Step}
use Rattle.cell_host.specs.Script.{Progress}
use Rattle.cell_machine.specs.declared.memory.SharedMemory.{SharedMemory}
use Rattle.cell_machine.specs.declared.processor.Processor.{Processor}
use Rattle.cell_machine.specs.State.{State}
use Rattle.cell_machine.specs.Next.{next}
use Rattle.cell_machine.specs.Opening.{Opening, opening}
use Rattle.cell_machine.specs.Limits.{IsOpening}
use Rattle.cell_machine.specs.Run.{Ran, replay}
use Rattle.cell_machine.specs.declared.effect.Span.{Span}
use Rattle.cell_machine.specs.declared.effect.Effect.{Effect}
use Rattle.cell_machine.specs.Effects.{effect_of}
use Rattle.cell_machine.specs.Written.{written_by}
use Rattle.cell_machine.specs.EffectLaws.{bytes_of, bytes_in, new_of}
use Rattle.cell_machine.specs.Shows.{IsMachine}
use Rattle.cell_machine.specs.Sound.{IsSound, covers, byte_of}
use Rattle.cell_machine.specs.ByteRuns.{Action, in_span, had_by, after, byte_run, action_of, actions, haves, RunsOnBytes}
use Rattle.cell_machine.proofs.EffectsFitted.{fits_spans, each-byte}
use Rattle.cell_machine.proofs.Replays.{replay-snoc}
use Rattle.cell_machine.proofs.Same.{some_same}
use Rattle.cell_machine.proofs.Sounds.{runs-are-sound}

-- the elements of a range, one by one
one_by_one : (xs : List ℕ) (n a : ℕ) → a + n ≤ length xs → map (λ i. slice_index xs i) (range_with_len a n) ≡ take n (drop a xs)
one_by_one xs zero a h = refl
one_by_one xs (suc n) a h =
    let e : suc a ≡ a + 1 = omega arith in
    ap (λ ys. slice_index xs a ∷ ys) (one_by_one xs n (a + 1) (omega arith) ∙ ap (λ k. take n (drop k xs)) (sym e))
    ∙ sym (ap (take (suc n)) (drop-cons xs a 0 (let l : a < length xs = omega arith in l)))

in_span_is : (M : State) (x : Span) → x.at + x.len ≤ length (bytes_of M x.place) → in_span (byte_of M) x ≡ bytes_in M x
in_span_is M x h =
    let e : x.len ≡ x.at + x.len - x.at = omega arith in
    one_by_one (bytes_of M x.place) x.len x.at h ∙ ap (λ k. take k (drop x.at (bytes_of M x.place))) e

-- one step
after_is : (lines n : ℕ) (M N : State) (s : Step) (e : Effect) → IsSound lines n M → next M s ≡ Some N → effect_of M s ≡ Some e → after (byte_of M) (action_of M s e) ≡ byte_of N
after_is lines n M N s e sound is effect =
    let same : in_span (byte_of M) e.reads ≡ bytes_in M e.reads = in_span_is M e.reads (fits_spans lines n M s e sound effect).reads in
    fun_ext (λ place. fun_ext (λ x.
    ap (λ r. cond (covers e.writes place x) (slice_index (new_of (written_by M s) r) (x - e.writes.at)) (byte_of M place x)) same
    ∙ sym (each-byte lines n M N s e sound is effect place x)))

-- what the actions of these steps have is what the steps have, and they leave the machine's bytes
abbrev Agrees : State → List Step → State → List Action → Type 0
Agrees M steps N made = (Some (byte_run (byte_of M) made).had ≡ haves M steps) × ((byte_run (byte_of M) made).bytes ≡ byte_of N)

cons_of : (a : Action) (o : Option (List Action)) (made : List Action) → option_map (λ rest. a ∷ rest) o ≡ Some made → (rest : List Action) × (o ≡ Some rest) × (a ∷ rest ≡ made)
cons_of a None made h = absurd (cc)
cons_of a (Some rest) made h = (rest, refl, (cc))

run_on : (S : Opening) → ((before : List Step) (K : State) → replay (opening S) before ≡ Some K → IsSound S.lines (length before) K)
    → (before steps : List Step) (M N : State) (made : List Action) → replay (opening S) before ≡ Some M → replay M steps ≡ Some N → actions M steps ≡ Some made → Agrees M steps N made
run_on S sound before [] M N made start run acts =
    let a : [] ≡ made = some_same [] made acts in
    (ap (λ xs. Some (byte_run (byte_of M) xs).had) (sym a), ap (λ xs. (byte_run (byte_of M) xs).bytes) (sym a) ∙ ap byte_of (some_same M N run))
run_on S sound before (s ∷ steps) M N made start run acts =
    on (effect_of M s) (next M s) refl refl run acts
    (λ K rest is r a. run_on S sound (before ++ s ∷ []) steps K N rest (replay-snoc (opening S) before s ∙ ap (option_and_then (λ L. next L s)) start ∙ is) r a)
  where
    on : (y : Option Effect) (o : Option State) → effect_of M s ≡ y → next M s ≡ o
        → option_and_then (λ K. replay K steps) o ≡ Some N
        → option_and_then (λ e. option_and_then (λ K. option_map (λ rest. action_of M s e ∷ rest) (actions K steps)) o) y ≡ Some made
        → ((K : State) (rest : List Action) → next M s ≡ Some K → replay K steps ≡ Some N → actions K steps ≡ Some rest → Agrees K steps N rest)
        → (Some (byte_run (byte_of M) made).had ≡ option_and_then (λ e. option_and_then (λ K. option_map (λ hs. had_by (byte_of M) (action_of M s e) ∷ hs) (haves K steps)) o) y) × ((byte_run (byte_of M) made).bytes ≡ byte_of N)
    on None o f g run acts later = absurd (cc)
    on (Some e) None f g run acts later = absurd (cc)
    on (Some e) (Some K) f g run acts later =
        let a = action_of M s e in
        let c = cons_of a (actions K steps) made acts in
        let rest = c.0 in
        let step : after (byte_of M) a ≡ byte_of K = after_is S.lines (length before) M K s e (sound before M start) g f in
        let more = later K rest g run c.1 in (
          ap (λ xs. Some (byte_run (byte_of M) xs).had) (sym c.2) ∙ ap (λ b. Some (had_by (byte_of M) a ∷ (byte_run b rest).had)) step ∙ ap (option_map (λ hs. had_by (byte_of M) a ∷ hs)) more.0,
          ap (λ xs. (byte_run (byte_of M) xs).bytes) (sym c.2) ∙ ap (λ b. (byte_run b rest).bytes) step ∙ more.1,
        )

pub runs-on-bytes : (m : Ran) → IsOpening m.setup → RunsOnBytes m
runs-on-bytes m is M made run acts = run_on m.setup (λ before K. runs-are-sound m.setup before K is) [] m.steps (opening m.setup) M made refl run acts

-- so it is on the run of a machine
pub machine-bytes : (setup : Opening) (steps : List Step) (capacity : ℕ) (processors : List Processor) (memory : SharedMemory) (host : Progress) (m : Ran)
    → IsMachine setup steps capacity processors memory host → record { setup = setup; steps = steps } ≡ m → RunsOnBytes m
machine-bytes setup steps capacity processors memory host m is view = subst RunsOnBytes view (runs-on-bytes (record { setup = setup; steps = steps }) is.setup_is)
