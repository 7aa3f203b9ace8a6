-- A run goes on by one step.
use Rattle.std.proofs.Common.{◌≡◌, slice_index_or, ℕ, ◌+◌, ◌<◌, ◌≤◌, List, [], ◌∷◌, ◌++◌, ◌*◌, length, arith, refl, sym, subst, ◌∙◌, ap, length-append, suc, add-zero, zero-add}
use Rattle.std.specs.Prelude.{Option, Some, None, IsSomeAnd, option_map, option_and_then, All}
use Rattle.cell_base.specs.declared.steps.Step.{Step}
use Rattle.cell_machine.specs.declared.processor.Processor.{Processor}
use Rattle.cell_machine.specs.declared.memory.SharedMemory.{SharedMemory}
use Rattle.cell_machine.specs.Spe.{Spe}
use Rattle.cell_host.specs.Script.{Progress}
use Rattle.cell_machine.specs.State.{State}
use Rattle.cell_machine.specs.Memory.{lines_of}
use Rattle.cell_machine.specs.Next.{act, next, ended_by, closed_in}
use Rattle.cell_machine.specs.Opening.{Opening, opening}
use Rattle.cell_machine.specs.Run.{Ran, replay, spe_of, state_of}
use Rattle.mfc_queue.specs.Calls.{issued}
use Rattle.cell_machine.specs.Kept.{IsKept}
use Rattle.cell_machine.specs.Shows.{Shows, ShowsSpe, HasSize, IsMachine, IsFit, CanGo, CanStep, AreBounded}
use Rattle.lock_lines.specs.Stands.{HasSameSize}
use Rattle.cell_machine.proofs.AllTwo.{two_at, some_and}
use Rattle.cell_machine.proofs.Steps.{lines-is}
use Rattle.cell_machine.proofs.Bounds.{act-settled, act-bounded}

none_last : (o : Option State) → option_and_then (λ N. Some N) o ≡ o
none_last None = refl
none_last (Some N) = refl

through : (o : Option State) (steps : List Step) (s : Step) → ((N : State) → replay N (steps ++ s ∷ []) ≡ option_and_then (λ K. next K s) (replay N steps))
    → option_and_then (λ N. replay N (steps ++ s ∷ [])) o ≡ option_and_then (λ N. next N s) (option_and_then (λ N. replay N steps) o)
through None steps s h = refl
through (Some N) steps s h = h N

pub replay-snoc : (M : State) (steps : List Step) (s : Step) → replay M (steps ++ s ∷ []) ≡ option_and_then (λ N. next N s) (replay M steps)
replay-snoc M [] s = none_last (next M s)
replay-snoc M (t ∷ steps) s = through (next M t) steps s (λ N. replay-snoc N steps s)

-- the record has the steps that were made
ended-steps : (M : State) (s : Step) (o : Option State) (N : State) → option_map (ended_by M s) o ≡ Some N → N.steps ≡ M.steps ++ s ∷ []
ended-steps M s None N h = absurd (cc)
ended-steps M s (Some K) N h = let e : ended_by M s K ≡ N = cc in ap (λ (L : State). L.steps) (sym e)

pub replay-length : (M : State) (steps : List Step) (N : State) → replay M steps ≡ Some N → length N.steps ≡ length M.steps + length steps
replay-length M [] N h = let e : M ≡ N = cc in ap (λ (L : State). length L.steps) (sym e) ∙ sym (add-zero (length M.steps))
replay-length M (s ∷ steps) N h = on (next M s) refl h (λ K. replay-length K steps N)
  where
    on : (o : Option State) → next M s ≡ o → option_and_then (λ K. replay K steps) o ≡ Some N
        → ((K : State) → replay K steps ≡ Some N → length N.steps ≡ length K.steps + length steps) → length N.steps ≡ length M.steps + suc (length steps)
    on None e g k = absurd (cc)
    on (Some K) e g k =
        let grown : length K.steps ≡ length (M.steps ++ s ∷ []) = ap length (ended-steps M s (act M s) K e) in
        let one : length K.steps ≡ length M.steps + 1 = grown ∙ length-append M.steps (s ∷ []) in
        let rest : length N.steps ≡ length K.steps + length steps = k K g in
        omega arith

-- how long the memory of so many lines is
pub long-of : (memory : SharedMemory) (lines spes : ℕ) → HasSize lines spes memory → length memory.bytes ≡ 128 * lines
long-of memory lines spes size = memory.even ∙ ap (λ n. 128 * n) size.0

-- an allowed step takes a machine to a machine
pub machine-step : (setup : Opening) (steps : List Step) (capacity : ℕ) (processors new : List Processor) (memory memory2 : SharedMemory) (host host2 : Progress) (s : Step) (room : ℕ)
    → (old : IsMachine setup steps capacity processors memory host)
    → IsSomeAnd (act old.state s) (λ N. Shows new memory2 host2 (closed_in old.state s N)) → length new ≡ length processors → HasSameSize memory.locks memory2.locks → host2.script ≡ host.script
    → length steps < setup.budget → capacity ≤ room
    → IsMachine setup (steps ++ s ∷ []) room new memory2 host2
machine-step setup steps capacity processors new memory memory2 host host2 s room old did same long script within grown =
    let made = some_and (act old.state s) (λ N. Shows new memory2 host2 (closed_in old.state s N)) did in
    let lines : lines_of old.state.memory ≡ setup.lines = lines-is old.state.memory memory.bytes setup.lines old.shown.memory_is.bytes (sym (long-of memory setup.lines (length processors) old.size)) in
    let longer : length steps + 1 ≡ length (steps ++ s ∷ []) = sym (length-append steps (s ∷ [])) in
    record {
      setup_is = old.setup_is;
      room = omega arith;
      within = simp length-append (omega arith);
      small = old.small;
      some = old.some;
      many = omega arith;
      count = same ∙ old.count;
      state = ended_by old.state s made.0;
      replayed = replay-snoc (opening setup) steps s ∙ ap (option_and_then (λ N. next N s)) old.replayed ∙ ap (option_map (ended_by old.state s)) made.1;
      shown = record { spes = made.2.spes; memory_is = made.2.memory_is; host_is = made.2.host_is };
      settled = act-settled old.state s made.0;
      bounded = subst (λ n. AreBounded setup.lines n (closed_in old.state s made.0).spes) longer (act-bounded old.state s made.0 setup.lines (length steps) lines made.1 old.bounded);
      size = (long.lines ∙ old.size.0, long.spes ∙ old.size.1 ∙ sym same);
      script = script ∙ old.script;
      actions = old.actions;
    }

-- each processor of a machine that isn't at the end of its budget can make a step
pub machine-can : (setup : Opening) (steps : List Step) (capacity : ℕ) (processors : List Processor) (memory : SharedMemory) (host : Progress)
    → IsMachine setup steps capacity processors memory host → length steps < setup.budget → CanGo processors memory
machine-can setup steps capacity processors memory host is within = record { lines = setup.lines; size = is.size; each = each }
  where
    each : All (CanStep setup.lines) processors
    each k d h =
        let two = two_at ShowsSpe processors is.state.spes k d is.shown.spes h in
        let bound = is.bounded k two.0 two.1 in
        let few = bound.few in
        let small = is.small in
        record { spe = two.0; shows = two.2; bounded = record { some = bound.some; few = omega arith; fits = bound.fits; elements = bound.elements; slot = bound.slot } }

-- what each processor of a machine knows of its queue
pub machine-kept : {setup : Opening} {steps : List Step} {capacity : ℕ} {processors : List Processor} {memory : SharedMemory} {host : Progress}
    → IsMachine setup steps capacity processors memory host → All (λ c. IsKept c.commands.queue) processors
machine-kept is k d h =
    let two = two_at ShowsSpe _ is.state.spes k d is.shown.spes h in
    let q = two.2.queue in
    let few = (is.bounded k two.0 two.1).few in
    let within = is.within in
    let small = is.small in
    let e : length (issued q.calls) ≡ length two.0.moves.issued = ap length q.moves.done.issued in
    record { calls = q.calls; stands = q.stands; numbered = omega arith }

-- each action of a machine's script fits it
pub machine-fit : (setup : Opening) (steps : List Step) (capacity : ℕ) (processors : List Processor) (memory : SharedMemory) (host : Progress)
    → IsMachine setup steps capacity processors memory host → IsFit (length processors) memory host
machine-fit setup steps capacity processors memory host is = record { lines = setup.lines; size = is.size; actions = rw (is.script, is.count) is.actions }

-- the processor at p is that of the state that the machine stands for
pub machine-spe : {memory : SharedMemory} {host : Progress} (setup : Opening) (steps : List Step) (capacity : ℕ) (processors : List Processor) (m : Ran) (p : ℕ) (x : Processor) (Q : Spe → Type 0)
    → IsMachine setup steps capacity processors memory host → record { setup = setup; steps = steps } ≡ m → p < length m.setup.entries → x ≡ slice_index_or processors p x
    → ((P : Spe) → ShowsSpe x P → Q P)
    → IsSomeAnd (spe_of m p) Q
machine-spe setup steps capacity processors m p x Q is view h at k =
    let two = two_at ShowsSpe processors is.state.spes p x is.shown.spes (let e : length setup.entries ≡ length m.setup.entries = ap (λ (n : Ran). length n.setup.entries) view in omega arith) in
    subst (λ n. IsSomeAnd (spe_of n p) Q) view (rw (is.replayed, two.1) (k two.0 (subst (λ y. ShowsSpe y two.0) (sym at) two.2)))

-- at the start no step was made
pub opening-steps : (S : Opening) → (opening S).steps ≡ []
unfolding opening
opening-steps S = refl

-- the record of a run's state has its steps
pub run-length : (S : Opening) (steps : List Step) (M : State) → replay (opening S) steps ≡ Some M → length M.steps ≡ length steps
run-length S steps M h = replay-length (opening S) steps M h ∙ ap (λ xs. length xs + length steps) (opening-steps S) ∙ zero-add (length steps)

-- what holds of each state that the processors show, with so many steps, holds of the state that the machine stands for
pub machine-state : {memory : SharedMemory} {host : Progress} (setup : Opening) (steps : List Step) (capacity : ℕ) (processors : List Processor) (m : Ran) (Q : State → Type 0)
    → IsMachine setup steps capacity processors memory host → record { setup = setup; steps = steps } ≡ m
    → ((M : State) → Shows processors memory host M → length M.steps ≡ length steps → Q M)
    → IsSomeAnd (state_of m) Q
machine-state setup steps capacity processors m Q is view k =
    let long : length is.state.steps ≡ length steps = run-length setup steps is.state is.replayed in
    subst (λ n. IsSomeAnd (state_of n) Q) view (rw is.replayed (k is.state is.shown long))

-- and what is computed of each is computed of it
pub machine-computes : {memory : SharedMemory} {host : Progress} {A : Type 0} (setup : Opening) (steps : List Step) (capacity : ℕ) (processors : List Processor) (m : Ran) (f : State → Option A) (r : Option A)
    → IsMachine setup steps capacity processors memory host → record { setup = setup; steps = steps } ≡ m
    → ((M : State) → Shows processors memory host M → r ≡ f M)
    → r ≡ option_and_then f (state_of m)
machine-computes setup steps capacity processors m f r is view k =
    subst (λ n. r ≡ option_and_then f (state_of n)) view (rw is.replayed (k is.state is.shown))
