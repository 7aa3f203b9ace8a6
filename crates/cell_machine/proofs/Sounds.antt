-- Every state of a run from a setup that can be is sound.
use Rattle.std.proofs.Common.{◌≡◌, ℕ, zero, suc, ◌+◌, ◌*◌, ◌==◌, Bool, true, false, List, [], ◌∷◌, length, arith, sym, ◌∙◌, ap, subst}
use Rattle.std.specs.Prelude.{Some, All, IsSomeAnd, slice_get, replicate, cond, filter, fold}
use Rattle.std.specs.List.{enumerate_from}
use Rattle.std.proofs.lemmas.List.{length-replicate}
use Rattle.cell_base.specs.Bytes.{put, zeros}
use Rattle.cell_base.specs.declared.steps.Step.{Step}
use Rattle.cell_host.specs.Script.{Progress}
use Rattle.spu_exec.specs.Places.{IsPlace}
use Rattle.spu_regs.specs.Registers.{zero_registers}
use Rattle.cell_machine.specs.declared.memory.SharedMemory.{SharedMemory}
use Rattle.cell_machine.specs.declared.processor.Processor.{Processor}
use Rattle.cell_machine.specs.State.{State}
use Rattle.cell_machine.specs.Memory.{lines_of}
use Rattle.cell_machine.specs.Next.{act, next, ended_by}
use Rattle.cell_machine.specs.Opening.{Opening, Placed, opening, opening_spe, opening_spes, placed_in}
use Rattle.cell_machine.specs.Limits.{IsOpening, FitsAction, FitsStore}
use Rattle.cell_machine.specs.Locks.{stored_by}
use Rattle.cell_machine.specs.Run.{Ran, replay, state_of}
use Rattle.cell_machine.specs.Shows.{AreBounded, AreSettled, IsMachine}
use Rattle.cell_machine.specs.Sound.{IsSound, RunsAreSound}
use Rattle.cell_machine.proofs.Bounds.{if_is, map-got, act-settled, act-bounded, act-length}
use Rattle.cell_machine.proofs.Completion.{some-of}
use Rattle.cell_machine.proofs.ListOrder.{run-follows}
use Rattle.cell_machine.proofs.LocksRun.{Acts, act-acts, touched-long, fill-length, map-is, put-length}
use Rattle.cell_machine.proofs.Openings.{length-zeros, length-enumerate, opening-settled, opening_bounded}
use Rattle.cell_machine.proofs.Same.{some_same}
use Rattle.cell_machine.proofs.Sizes.{IsSized, AllSized, act-sized}

-- what each step keeps, where each processor issued at most n commands
record Carries (S : Opening) (n : ℕ) (M : State) : Type 0 where
  long : length M.memory.bytes ≡ 128 * S.lines
  many : length M.spes ≡ length S.entries
  sized : AllSized M.spes
  bounded : AreBounded S.lines n M.spes
  are_settled : AreSettled M.spes
  fits : All (FitsAction S.lines (length S.entries)) M.host.script

next_carries : (S : Opening) (n : ℕ) (M : State) (s : Step) (N : State) → Carries S n M → next M s ≡ Some N → Carries S (n + 1) N
next_carries S n M s N has e =
    let K = map-is (ended_by M s) (act M s) N e in
    let does = if_is (act M s) K.0 (Acts S.lines s M) K.1 (act-acts S.lines n (length S.entries) M s has.bounded has.fits) in
    let lines : lines_of M.memory ≡ S.lines = let long = has.long in omega arith in
    subst (Carries S (n + 1)) K.2 (record {
      long = touched-long S.lines M.memory K.0.memory (stored_by M s) does.touches has.long;
      many = act-length M s K.0 K.1 ∙ has.many;
      sized = act-sized S.lines n M s K.0 has.bounded has.sized K.1;
      bounded = act-bounded M s K.0 S.lines n lines K.1 has.bounded;
      are_settled = act-settled M s K.0;
      fits = subst (All (FitsAction S.lines (length S.entries))) (sym does.script) has.fits;
    })

-- ---- the start

placed_long : (n p : ℕ) (store : List ℕ) (pieces : List Placed) → length store ≡ 262144 → All (FitsStore n) pieces → length (placed_in store p pieces) ≡ 262144
placed_long n p store [] long fits = long
placed_long n p store (x ∷ pieces) long fits = on (x.spe == p) (λ s e. placed_long n p s pieces e (λ i d less. fits (suc i) d (omega arith)))
  where
    on : (b : Bool) → ((s : List ℕ) → length s ≡ 262144 → length (placed_in s p pieces) ≡ 262144)
        → length (fold (λ bytes (y : Placed). put bytes y.at y.bytes) store (cond b (x ∷ filter (λ (y : Placed). y.spe == p) pieces) (filter (λ (y : Placed). y.spe == p) pieces))) ≡ 262144
    on true rest = rest (put store x.at x.bytes) (let f = fits 0 x (omega arith) in let within = f.1 in put-length store x.bytes x.at (omega arith) ∙ long)
    on false rest = rest store long

replicate_at : {X : Type 0} (n : ℕ) (a x : X) (r : ℕ) → slice_get (replicate n a) r ≡ Some x → a ≡ x
replicate_at zero a x r h = absurd (cc)
replicate_at (suc n) a x zero h = cc
replicate_at (suc n) a x (suc r) h = replicate_at n a x r h

zero_quads : (r : ℕ) (q : List ℕ) → slice_get zero_registers r ≡ Some q → length q ≡ 16
unfolding zero_registers
zero_quads r q at = ap length (sym (replicate_at 128 (zeros 16) q r at)) ∙ length-zeros 16

zero_count : length zero_registers ≡ 128
unfolding zero_registers
zero_count = length-replicate 128 (zeros 16)

entry_place : (n : ℕ) (entries : List ℕ) (p : ℕ) (x : ℕ × ℕ) → slice_get (enumerate_from n entries) p ≡ Some x → All IsPlace entries → IsPlace x.1
entry_place n [] p x at each = absurd (cc)
entry_place n (entry ∷ entries) zero x at each = let same : (n, entry) ≡ x = cc in subst (λ y. IsPlace y.1) same (each 0 entry (omega arith))
entry_place n (entry ∷ entries) (suc p) x at each = entry_place (n + 1) entries p x at (λ i d less. each (suc i) d (omega arith))

opening_sized : (S : Opening) → IsOpening S → AllSized (opening_spes S)
opening_sized S is p P at =
    let g = map-got (opening_spe S) (enumerate_from 0 S.entries) p P at in
    subst IsSized g.2 (record {
      place = entry_place 0 S.entries p g.0 g.1 is.entries;
      many = zero_count;
      quads = zero_quads;
      store = placed_long (length S.entries) g.0.0 (zeros 262144) S.placed (length-zeros 262144) is.placed;
    })

opening_carries : (S : Opening) → IsOpening S → Carries S 0 (opening S)
unfolding opening
opening_carries S is = record {
  long = fill-length S.lines (zeros (128 * S.lines)) S.memory (length-zeros (128 * S.lines)) is.memory;
  many = length-enumerate (opening_spe S) 0 S.entries;
  sized = opening_sized S is;
  bounded = opening_bounded S is.limits.0;
  are_settled = opening-settled S (enumerate_from 0 S.entries);
  fits = is.actions;
}

-- ---- a run

run_carries : (S : Opening) (n : ℕ) (M : State) (steps : List Step) (N : State) → Carries S n M → replay M steps ≡ Some N → Carries S (n + length steps) N
run_carries S n M [] N has run =
    let e : n ≡ n + 0 = omega arith in
    subst (λ k. Carries S k N) e (subst (Carries S n) (some_same M N run) has)
run_carries S n M (s ∷ steps) N has run =
    let first = some-of (λ K. replay K steps) (next M s) N run in
    let e : n + 1 + length steps ≡ n + suc (length steps) = omega arith in
    subst (λ k. Carries S k N) e (run_carries S (n + 1) first.0 steps N (next_carries S n M s first.0 has first.1) first.2)

pub runs-are-sound : RunsAreSound
runs-are-sound S steps M is run =
    let has = run_carries S 0 (opening S) steps M (opening_carries S is) run in
    let count : 0 + length steps ≡ length steps = omega arith in
    record {
      long = has.long;
      whole = λ p P at.
          let size = has.sized p P at in
          record {
            place = size.place;
            store = size.store;
            many = size.many;
            quads = size.quads;
            few = λ c d there. ((run-follows S steps M p P run at).order.elements c d there).few;
          };
      bounded = subst (λ n. AreBounded S.lines n M.spes) count has.bounded;
      settled = has.are_settled;
      actions = subst (λ n. All (FitsAction S.lines n) M.host.script) (sym has.many) has.fits;
    }

-- so is that of a machine
pub machine-sound : (setup : Opening) (steps : List Step) (capacity : ℕ) (processors : List Processor) (memory : SharedMemory) (host : Progress) (m : Ran)
    → IsMachine setup steps capacity processors memory host → record { setup = setup; steps = steps } ≡ m → IsSomeAnd (state_of m) (IsSound m.setup.lines (length m.steps))
machine-sound setup steps capacity processors memory host m is view =
    subst (λ (n : Ran). IsSomeAnd (state_of n) (IsSound n.setup.lines (length n.steps))) view (rw is.replayed (runs-are-sound setup steps is.state is.setup_is is.replayed))
